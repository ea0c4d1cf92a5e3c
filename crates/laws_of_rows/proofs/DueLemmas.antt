-- What a row asks for is due, by the homes that the state has.
use Rattle.std.proofs.Common.{◌≡◌, ℕ, suc, ◌-◌, ◌<◌, Bool, cond, eqb, List, [], ◌∷◌, ◌++◌, length, take, refl, ap, sym, ◌∙◌, subst, arith}
use Rattle.std.specs.Prelude.{Contains, not}
use Rattle.std.specs.List.{filter, flat_map}
use Rattle.std.proofs.Math.Seq.{take-append_seam}
use Rattle.std.proofs.lemmas.List.Elements.{All-get_or}
use Rattle.dd_blocks.specs.declared.plan.Plan.{Plan}
use Rattle.dd_blocks.specs.declared.statement_row.StatementRow.{StatementRow}
use Rattle.dd_blocks.specs.declared.what.What.{What}
use Rattle.dd_blocks.specs.declared.what.What.TheVariants.{Put as Array, Print, Sum, Moved, Same, Drop, MoveTo, Region}
use Rattle.dd_blocks.specs.Homes.{home_before}
use Rattle.dd_blocks.specs.Numbered.{IsNumberIn}
use Rattle.dd_blocks.specs.WellFormed.{IsWellFormed, StatementNamesRows}
use Rattle.dd_machine.specs.declared.entry.Entry.{Entry}
use Rattle.dd_machine.specs.declared.event.Event.{Event}
use Rattle.dd_machine.specs.declared.event.Event.TheVariants.{Ask, Rest, Put, Free}
use Rattle.dd_machine.specs.Owed.{blocks_by_rows, blocks_of, brought, entries_from, entries_of, events_of, freed, left, put_there, shifted_to}
use Rattle.dd_machine.specs.SoundLives.{SoundLives}
use Rattle.dd_machine.specs.States.{State}
use Rattle.dd_machine.specs.Words.{rows, statement}
use Rattle.dd_machine.proofs.ProgressLemmas.{length_map}
use Rattle.laws_of_rows.specs.Rows.{IsAtRow, entries_now, events_now, next_what}
use Rattle.laws_of_rows.proofs.HomesLemmas.{block_known, block_listed, home_at_row}
use Rattle.laws_of_rows.proofs.RowsLemmas.{left_at_row}

-- ---- lists

flat_same : (f g : ℕ → List Event) (xs : List ℕ) → ((x : ℕ) → Contains xs x → f x ≡ g x) → flat_map f xs ≡ flat_map g xs
flat_same f g [] same = refl
flat_same f g (x ∷ xs) same =
    ap (λ (es : List Event). es ++ flat_map f xs) (same x (0, omega arith, refl))
    ∙ ap (λ (es : List Event). g x ++ es) (flat_same f g xs (λ y has. same y (suc has.0, omega (arith, has.1), has.2)))

filter_same : (p q : ℕ → Bool) (xs : List ℕ) → ((x : ℕ) → Contains xs x → p x ≡ q x) → filter p xs ≡ filter q xs
filter_same p q [] same = refl
filter_same p q (x ∷ xs) same =
    let rest : filter p xs ≡ filter q xs = filter_same p q xs (λ y has. same y (suc has.0, omega (arith, has.1), has.2)) in
    ap (λ (t : Bool). cond t (x ∷ filter p xs) (filter p xs)) (same x (0, omega arith, refl)) ∙ ap (λ (ys : List ℕ). cond (q x) (x ∷ ys) ys) rest

-- ---- rows

-- a row's statement names rows of the Plan
pub names_rows : (plan : Plan) (i : ℕ) → IsWellFormed plan → i < rows plan → StatementNamesRows plan (next_what plan i)
names_rows plan i well lt = All-get_or (λ (r : StatementRow). StatementNamesRows plan r.what) plan.statements i (record { line = 0; what = Moved }) lt well.names.statements

-- the events of a statement, where the homes are those before its row
events_by : (plan : Plan) (row : ℕ) (st : State) (what : What) → IsWellFormed plan → StatementNamesRows plan what
    → ((b : ℕ) → IsNumberIn plan.blocks b → st.homes b ≡ home_before plan row b) → events_of plan row what ≡ events_now plan st what
events_by plan row st (Array a) well names homes =
    flat_same (put_there plan row) (λ b. Ask (st.homes b) b ∷ Put b ∷ Rest ∷ []) (blocks_of plan a) (λ b has. ap (λ (s : ℕ). Ask s b ∷ Put b ∷ Rest ∷ []) (sym (homes b (block_known plan well a b names has))))
events_by plan row st (Print a) well names homes =
    flat_same (brought plan row) (λ b. Ask (st.homes b) b ∷ Rest ∷ []) (blocks_by_rows plan a) (λ b has. ap (λ (s : ℕ). Ask s b ∷ Rest ∷ []) (sym (homes b (block_known plan well a b names (block_listed plan a b has)))))
events_by plan row st (Sum a name) well names homes =
    flat_same (brought plan row) (λ b. Ask (st.homes b) b ∷ Rest ∷ []) (blocks_of plan a) (λ b has. ap (λ (s : ℕ). Ask s b ∷ Rest ∷ []) (sym (homes b (block_known plan well a b names has))))
events_by plan row st Moved well names homes = refl
events_by plan row st (Same a) well names homes = refl
events_by plan row st (Drop a last) well names homes =
    ap (λ (es : List Event). cond last es []) (flat_same (freed plan row) (λ b. Free (st.homes b) b ∷ []) (blocks_of plan a) (λ b has. ap (λ (s : ℕ). Free s b ∷ []) (sym (homes b (block_known plan well a b names has)))))
events_by plan row st (MoveTo a space) well names homes =
    ap (flat_map (shifted_to space))
    (filter_same (λ b. not (eqb (home_before plan row b) space)) (λ b. not (eqb (st.homes b) space)) (blocks_of plan a) (λ b has. ap (λ (s : ℕ). not (eqb s space)) (sym (homes b (block_known plan well a b names.0 has)))))
events_by plan row st (Region r) well names homes = refl

pub events_at_row : (plan : Plan) (i : ℕ) (st : State) → IsWellFormed plan → SoundLives plan st → IsAtRow plan i st → i < rows plan
    → events_of plan (suc i) (next_what plan i) ≡ events_now plan st (next_what plan i)
events_at_row plan i st well lives at lt = events_by plan (suc i) st (next_what plan i) well (names_rows plan i well lt) (home_at_row plan i st well lives at)

-- the entries of the next row
pub entries_at_row : (plan : Plan) (i : ℕ) (st : State) → IsWellFormed plan → SoundLives plan st → IsAtRow plan i st → i < rows plan
    → entries_of plan (suc i) ≡ entries_now plan i (events_now plan st (next_what plan i))
unfolding entries_of
entries_at_row plan i st well lives at lt = ap (entries_now plan i) (events_at_row plan i st well lives at lt)

-- they are due, and the rest is that of the rows below
pub due_at_row : (plan : Plan) (i : ℕ) (st : State) → IsWellFormed plan → SoundLives plan st → IsAtRow plan i st → i < rows plan
    → take (length (events_now plan st (next_what plan i))) (left plan st.progress) ≡ entries_now plan i (events_now plan st (next_what plan i))
due_at_row plan i st well lives at lt =
    let events = events_now plan st (next_what plan i) in
    let rest = entries_from plan (suc (suc i)) (rows plan - suc i) in
    let is = entries_at_row plan i st well lives at lt in
    ap (take (length events)) (left_at_row plan i st lt at ∙ ap (λ (es : List Entry). es ++ rest) is)
    ∙ ap (λ (n : ℕ). take n (entries_now plan i events ++ rest)) (sym (length_map (statement plan (suc i)).line events))
    ∙ take-append_seam (entries_now plan i events) rest

-- of a row whose statement is known
pub due_of : (plan : Plan) (i : ℕ) (st : State) (what : What) → IsWellFormed plan → SoundLives plan st → IsAtRow plan i st → i < rows plan → next_what plan i ≡ what
    → take (length (events_now plan st what)) (left plan st.progress) ≡ entries_now plan i (events_now plan st what)
due_of plan i st what well lives at lt is =
    subst (λ (w : What). take (length (events_now plan st w)) (left plan st.progress) ≡ entries_now plan i (events_now plan st w)) is (due_at_row plan i st well lives at lt)
