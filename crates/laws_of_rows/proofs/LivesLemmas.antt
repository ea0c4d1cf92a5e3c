-- The arrays of which a row speaks have their copies at home when it begins.
use Rattle.std.proofs.Common.{ℕ, ◌<◌, List, take, ap, sym, ◌∙◌}
use Rattle.std.specs.Prelude.{Contains}
use Rattle.std.proofs.lemmas.List.Elements.{All-contains}
use Rattle.dd_blocks.specs.declared.plan.Plan.{Plan}
use Rattle.dd_blocks.specs.declared.what.What.TheVariants.{Moved}
use Rattle.dd_blocks.specs.Lives.{IsLive, arrays_used}
use Rattle.dd_blocks.specs.Numbered.{IsNumberIn}
use Rattle.dd_blocks.specs.WellFormed.{IsWellFormed}
use Rattle.dd_machine.specs.declared.entry.Entry.{Entry}
use Rattle.dd_machine.specs.Made.{is_live}
use Rattle.dd_machine.specs.Owed.{blocks_of}
use Rattle.dd_machine.specs.SoundLives.{SoundLives}
use Rattle.dd_machine.specs.States.{State}
use Rattle.dd_machine.specs.Tests.{Has, is_any, is_idle}
use Rattle.dd_machine.specs.Words.{rows}
use Rattle.laws_of_lives.proofs.OrderlyLemmas.{live_upto}
use Rattle.laws_of_rows.specs.Rows.{IsAtRow, next_what}
use Rattle.laws_of_rows.proofs.RowsLemmas.{made_at_row}

-- the blocks of a live array have copies at home
pub copy_at_row : (plan : Plan) (i : ℕ) (st : State) → IsWellFormed plan → SoundLives plan st → IsAtRow plan i st
    → (a b : ℕ) → IsNumberIn plan.arrays a → Contains (blocks_of plan a) b → IsLive (take i plan.statements) a → Has st (st.homes b) b is_any
copy_at_row plan i st well lives at a b within here live =
    sym (lives.home_live b) ∙ ap (λ (es : List Entry). is_live es b) (made_at_row plan i st lives at) ∙ live_upto plan well a b within here i at.within live

-- an array of which the next row speaks is live
pub live_used : (plan : Plan) (i a : ℕ) → IsWellFormed plan → i < rows plan → Contains (arrays_used plan (next_what plan i)) a → IsLive (take i plan.statements) a
live_used plan i a well lt used =
    All-contains (IsLive (take i plan.statements)) (arrays_used plan (next_what plan i)) a ((well.lives.stand i (record { line = 0; what = Moved }) lt).live) used

-- so its blocks have copies at home, which are Here or Out
pub copy_used : (plan : Plan) (i : ℕ) (st : State) → IsWellFormed plan → SoundLives plan st → IsAtRow plan i st → i < rows plan
    → (a b : ℕ) → IsNumberIn plan.arrays a → Contains (blocks_of plan a) b → Contains (arrays_used plan (next_what plan i)) a → Has st (st.homes b) b is_any
copy_used plan i st well lives at lt a b within here used = copy_at_row plan i st well lives at a b within here (live_used plan i a well lt used)

pub idle_used : (plan : Plan) (i : ℕ) (st : State) → IsWellFormed plan → SoundLives plan st → IsAtRow plan i st → i < rows plan
    → (a b : ℕ) → IsNumberIn plan.arrays a → Contains (blocks_of plan a) b → Contains (arrays_used plan (next_what plan i)) a → Has st (st.homes b) b is_idle
idle_used plan i st well lives at lt a b within here used = lives.home_idle at.region at.pin (st.homes b) b (copy_used plan i st well lives at lt a b within here used)
