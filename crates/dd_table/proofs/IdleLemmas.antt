-- Where nothing is under way with a copy: what the entries of one call leave of that.
use Rattle.std.proofs.Common.{◌≡◌, ℕ, Bool, true, List, Option, Some, None, refl, sym, ◌∙◌, subst, ⊎_elim}
use Rattle.dd_blocks.specs.declared.plan.Plan.{Plan}
use Rattle.dd_machine.specs.declared.copy_state.CopyState.{CopyState}
use Rattle.dd_machine.specs.declared.copy_state.CopyState.TheVariants.{Here, Leaving, Out, Coming, Lent}
use Rattle.dd_machine.specs.declared.event.Event.TheVariants.{Call, Come, Gone, Make, Pick}
use Rattle.dd_machine.specs.Effects.{after, after_copy, copy_where, fresh, given_back, in_state}
use Rattle.dd_machine.specs.Needed.{is_needed, own_space}
use Rattle.dd_machine.specs.States as states
use Rattle.dd_machine.specs.States.{State, at_copy, blank}
use Rattle.dd_machine.specs.Tests.{is_any, is_idle, is_in_state}
use Rattle.dd_machine.specs.Words.{element, place}
use Rattle.dd_machine.proofs.ChangesLemmas.{at_copy_other, at_copy_tells, each_at_copy}
use Rattle.dd_machine.proofs.TestsLemmas.{any_where, state_where}

-- of one copy; of all
abbrev pub IsIdleCopy : Option states.Copy → Type 0
IsIdleCopy copy = is_in_state is_any copy ≡ true → is_in_state is_idle copy ≡ true

abbrev pub AreIdle : (ℕ → ℕ → Option states.Copy) → Type 0
AreIdle copies = (s b : ℕ) → IsIdleCopy (copies s b)

-- a copy in an idle state is idle; so is one that is given back, and one with new versions, where it was
pub idle_in : (new : CopyState) (c : Option states.Copy) → is_idle new ≡ true → IsIdleCopy (in_state new c)
idle_in new None is there = there
idle_in new (Some c) is there = is

idle_given : (c : Option states.Copy) → IsIdleCopy c → IsIdleCopy (given_back c)
idle_given None idle there = there
idle_given (Some c) idle there = of_state c.state c.versions (idle refl)
  where
    of_state : (s : CopyState) (versions : List ℕ) → is_idle s ≡ true → is_in_state is_idle (given_back (Some (record { state = s; versions = versions }))) ≡ true
    of_state Here versions is = refl
    of_state Leaving versions is = is
    of_state Out versions is = refl
    of_state Coming versions is = is
    of_state (Lent t) versions is = refl

pub idle_lent : (t : ℕ) (c : Option states.Copy) → IsIdleCopy (given_back (in_state (Lent t) c))
idle_lent t None there = there
idle_lent t (Some c) there = refl

pub idle_where : (changed : ℕ → Bool) (new : ℕ → ℕ) (c : Option states.Copy) → IsIdleCopy c → IsIdleCopy (copy_where changed new c)
idle_where changed new c idle there = state_where changed new is_idle c ∙ idle (sym (any_where changed new c) ∙ there)

-- one copy is changed, and left idle; and so in two steps
pub idle_at : (copies : ℕ → ℕ → Option states.Copy) (space block : ℕ) (copy : Option states.Copy) → AreIdle copies → IsIdleCopy copy → AreIdle (at_copy copies space block copy)
idle_at copies space block copy idle new = each_at_copy (λ s b c. IsIdleCopy c) copies space block copy idle new

pub idle_twice : (copies : ℕ → ℕ → Option states.Copy) (space block : ℕ) (first second : Option states.Copy) → AreIdle copies → IsIdleCopy second
    → AreIdle (at_copy (at_copy copies space block first) space block second)
idle_twice copies space block first second idle new s b =
    let inner = at_copy copies space block first in ⊎_elim
    (λ (e : (s ≡ space) × (b ≡ block) × (at_copy inner space block second s b ≡ second)). subst IsIdleCopy (sym e.2) new)
    (λ (e : (s ≡ space → b ≡ block → ⊥) × (at_copy inner space block second s b ≡ inner s b)). subst IsIdleCopy (sym (e.1 ∙ at_copy_other copies space block first s b e.0)) (idle s b))
    (at_copy_tells inner space block second s b)

-- a spill; a copy that is called back; one that is made; one that takes elements from another, and from one that is lent for it
pub idle_spilled : (plan : Plan) (st : State) (space block : ℕ) → AreIdle st.copies → AreIdle (after plan (after plan st (Pick space block)) (Gone space block)).copies
idle_spilled plan st space block idle = idle_twice st.copies space block (in_state Leaving (st.copies space block)) _ idle (idle_in Out _ refl)

pub idle_called : (plan : Plan) (st : State) (space block : ℕ) → AreIdle st.copies → AreIdle (after plan (after plan st (Call space block)) (Come space block)).copies
idle_called plan st space block idle = idle_twice st.copies space block (in_state Coming (st.copies space block)) _ idle (idle_in Here _ refl)

pub idle_made : (plan : Plan) (st : State) (task block : ℕ) → AreIdle st.copies → AreIdle (after plan st (Make task block)).copies
idle_made plan st task block idle = idle_at st.copies (place plan task) block (fresh plan block blank) idle (λ there. refl)

pub idle_copied : (plan : Plan) (st : State) (task block source count : ℕ) → AreIdle st.copies → AreIdle (after_copy plan st task block source count).copies
idle_copied plan st task block source count idle =
    let own = own_space plan st task block in
    idle_at (at_copy st.copies source block (given_back (st.copies source block))) own block _
    (idle_at st.copies source block (given_back (st.copies source block)) idle (idle_given (st.copies source block) (idle source block)))
    (idle_where (is_needed plan st task block source) (λ i. st.current (element plan block i)) (st.copies own block) (idle own block))
