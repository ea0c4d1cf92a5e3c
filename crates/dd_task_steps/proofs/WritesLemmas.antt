-- What a task leaves in the copies of its space, block by block.
use Rattle.std.proofs.Common.{◌≡◌, ℕ, ◌+◌, ◌<◌, Bool, true, false, ◌&&◌, ◌||◌, cond, eqb, List, [], ◌∷◌, get_or, length, take, Option, Some, None, refl, ap, sym, ◌∙◌, ⊎_elim, arith}
use Rattle.std.proofs.Math.Path.{fun_ext}
use Rattle.std.proofs.lemmas.Bool.{cases_eq, eq-eqb, false_from_ne_true, ne_eqb}
use Rattle.dd_blocks.specs.declared.plan.Plan.{Plan}
use Rattle.dd_blocks.specs.Elements.{Element}
use Rattle.dd_blocks.specs.Numbered.{task_row}
use Rattle.dd_blocks.specs.WellFormed.{IsWellFormed}
use Rattle.dd_blocks.proofs.ElementsLemmas.{use_of_write}
use Rattle.dd_machine.specs.declared.task_state.TaskState.TheVariants.{Done}
use Rattle.dd_machine.specs.Effects.{after_finish, copy_where, finish_copy, versions_where}
use Rattle.dd_machine.specs.States.{Copy, State, at_copy, at_one}
use Rattle.dd_machine.specs.Words.{IsOneOf, element, has_number, place, size, tasks, touches, writes}
use Rattle.dd_machine.proofs.ChangesLemmas.{at_copy_tells}
use Rattle.dd_tables.proofs.ListsLemmas.{any_take_more}
use Rattle.dd_tables.proofs.VersionsLemmas.{length_where, where_same}
use Rattle.laws_of_lives.proofs.ElementsLemmas.{touches_used}
use Rattle.dd_task_steps.specs.Written.{HasPlaces, HavePlaces, written_in}
use Rattle.dd_task_steps.proofs.OrdersLemmas.{used}

-- ---- one copy

-- a copy of which a task wrote its elements
abbrev one_written : Plan → ℕ → ℕ → Option Copy → Option Copy
one_written plan task b copy = copy_where (λ i. writes plan task (element plan b i)) (λ i. task) copy

where_twice : (changed : ℕ → Bool) (new : ℕ → ℕ) (k : ℕ) (vs : List ℕ) → versions_where changed new k (versions_where changed new k vs) ≡ versions_where changed new k vs
where_twice changed new k [] = refl
where_twice changed new k (v ∷ vs) =
    ap (λ (x : ℕ). x ∷ versions_where changed new (k + 1) (versions_where changed new (k + 1) vs)) (by (changed k))
    ∙ ap (λ (xs : List ℕ). cond (changed k) (new k) v ∷ xs) (where_twice changed new (k + 1) vs)
  where
    by : (t : Bool) → cond t (new k) (cond t (new k) v) ≡ cond t (new k) v
    by true = refl
    by false = refl

copy_twice : (changed : ℕ → Bool) (new : ℕ → ℕ) (copy : Option Copy) → copy_where changed new (copy_where changed new copy) ≡ copy_where changed new copy
copy_twice changed new None = refl
copy_twice changed new (Some c) = ap (λ (vs : List ℕ). Some (record { state = c.state; versions = vs })) (where_twice changed new 0 c.versions)

where_none : (new : ℕ → ℕ) (k : ℕ) (vs : List ℕ) → versions_where (λ i. false) new k vs ≡ vs
where_none new k [] = refl
where_none new k (v ∷ vs) = ap (λ (xs : List ℕ). v ∷ xs) (where_none new (k + 1) vs)

copy_none : (plan : Plan) (b : ℕ) (changed : ℕ → Bool) (new : ℕ → ℕ) (copy : Option Copy) → HasPlaces plan b copy → ((i : ℕ) → i < size plan b → changed i ≡ false) → copy_where changed new copy ≡ copy
copy_none plan b changed new None places none = refl
copy_none plan b changed new (Some c) places none =
    let long = places refl in
    ap (λ (vs : List ℕ). Some (record { state = c.state; versions = vs }))
    (where_same changed (λ i. false) new 0 c.versions (λ i lt. let e : 0 + i ≡ i = omega arith in ap changed e ∙ none i (omega (arith, lt, long))) ∙ where_none new 0 c.versions)

pub where_places : (plan : Plan) (b : ℕ) (changed : ℕ → Bool) (new : ℕ → ℕ) (copy : Option Copy) → HasPlaces plan b copy → HasPlaces plan b (copy_where changed new copy)
where_places plan b changed new None places = places
where_places plan b changed new (Some c) places = λ any. length_where changed new 0 c.versions ∙ places any

-- ---- block by block

pub written_places : (plan : Plan) (st : State) (task space : ℕ) (found : List ℕ) (s b : ℕ) → HavePlaces plan st → HasPlaces plan b (written_in plan st task space found s b)
written_places plan st task space found s b places = by (eqb s space && has_number found b)
  where
    by : (t : Bool) → HasPlaces plan b (cond t (one_written plan task b (st.copies s b)) (st.copies s b))
    by true = where_places plan b (λ i. writes plan task (element plan b i)) (λ i. task) (st.copies s b) (places s b)
    by false = places s b

pub written_none : (plan : Plan) (st : State) (task space : ℕ) → st ≡ record st { copies = written_in plan st task space [] }
written_none plan st task space = ap (λ (copies : ℕ → ℕ → Option Copy). record st { copies = copies }) (sym (fun_ext (λ s. fun_ext (λ b. by s b (eqb s space)))))
  where
    by : (s b : ℕ) (t : Bool) → cond (t && false) (one_written plan task b (st.copies s b)) (st.copies s b) ≡ st.copies s b
    by s b true = refl
    by s b false = refl

pub written_more : (plan : Plan) (st a b : State) (task space i block : ℕ) (found : List ℕ) → i < length found → block ≡ get_or found i 0
    → a ≡ record st { copies = written_in plan st task space (take i found) }
    → b ≡ record a { copies = at_copy a.copies space block (copy_where (λ i. writes plan task (element plan block i)) (λ i. task) (a.copies space block)) }
    → b ≡ record st { copies = written_in plan st task space (take (i + 1) found) }
written_more plan st a b task space i block found lt block_is a_is b_is =
    b_is ∙ ap (λ (s : State). record s { copies = at_copy s.copies space block (one_written plan task block (s.copies space block)) }) a_is
    ∙ ap (λ (copies : ℕ → ℕ → Option Copy). record st { copies = copies }) (fun_ext (λ s. fun_ext (λ b. point s b)))
  where
    more : (b : ℕ) → has_number (take (i + 1) found) b ≡ (has_number (take i found) b || eqb block b)
    more b = any_take_more (λ x. eqb x b) found i 0 lt ∙ ap (λ (k : ℕ). has_number (take i found) b || eqb k b) (sym block_is)

    here : (t u : Bool) → u ≡ true → one_written plan task block (cond (u && t) (one_written plan task block (st.copies space block)) (st.copies space block))
        ≡ cond (u && (t || true)) (one_written plan task block (st.copies space block)) (st.copies space block)
    here true true e = copy_twice (λ i. writes plan task (element plan block i)) (λ i. task) (st.copies space block)
    here false true e = refl
    here t false e = cc

    or_off : (t : Bool) → (t || false) ≡ t
    or_off true = refl
    or_off false = refl

    point : (s b : ℕ) → at_copy (written_in plan st task space (take i found)) space block (one_written plan task block (written_in plan st task space (take i found) space block)) s b
        ≡ written_in plan st task space (take (i + 1) found) s b
    point s b = ⊎_elim
        (λ (e : (s ≡ space) × (b ≡ block) × (at_copy (written_in plan st task space (take i found)) space block (one_written plan task block (written_in plan st task space (take i found) space block)) s b ≡ one_written plan task block (written_in plan st task space (take i found) space block))).
        e.2 ∙ here (has_number (take i found) block) (eqb space space) (eq-eqb space space refl)
        ∙ sym (rw (e.0, e.1) (ap (λ (t : Bool). cond (eqb space space && t) (one_written plan task block (st.copies space block)) (st.copies space block)) (more block ∙ ap (λ (t : Bool). has_number (take i found) block || t) (eq-eqb block block refl)))))
        (λ (e : (s ≡ space → b ≡ block → ⊥) × (at_copy (written_in plan st task space (take i found)) space block (one_written plan task block (written_in plan st task space (take i found) space block)) s b ≡ written_in plan st task space (take i found) s b)).
        e.1 ∙ ⊎_elim
        (λ (same : s ≡ space).
        let off : has_number (take (i + 1) found) b ≡ has_number (take i found) b =
        more b ∙ ap (λ (t : Bool). has_number (take i found) b || t) (ne_eqb block b (λ f. e.0 same (sym f))) ∙ or_off (has_number (take i found) b) in
        ap (λ (t : Bool). cond (eqb s space && t) (one_written plan task b (st.copies s b)) (st.copies s b)) (sym off))
        (λ (ne : s ≡ space → ⊥).
        ap (λ (t : Bool). cond (t && has_number (take i found) b) (one_written plan task b (st.copies s b)) (st.copies s b)) (ne_eqb s space ne)
        ∙ sym (ap (λ (t : Bool). cond (t && has_number (take (i + 1) found) b) (one_written plan task b (st.copies s b)) (st.copies s b)) (ne_eqb s space ne)))
        (cases_eq s space))
        (at_copy_tells (written_in plan st task space (take i found)) space block (one_written plan task block (written_in plan st task space (take i found) space block)) s b)

-- ---- all blocks

untouched : (plan : Plan) (task b i : ℕ) → IsWellFormed plan → IsOneOf (tasks plan) task → touches plan task b ≡ false → i < size plan b → writes plan task (element plan b i) ≡ false
unfolding writes
untouched plan task b i well is off lt = false_from_ne_true (writes plan task (element plan b i))
    (λ wrote. let on = touches_used plan well task b i is lt (use_of_write (task_row plan task) (element plan b i) wrote) in let f : true ≡ false = sym on ∙ off in cc)

-- the blocks that a task touches are all that it writes
pub written_all : (plan : Plan) (st : State) (task : ℕ) → IsWellFormed plan → IsOneOf (tasks plan) task → HavePlaces plan st
    → written_in plan st task (place plan task) (task_row plan task).blocks ≡ (λ s b. finish_copy plan st task s b)
written_all plan st task well is places = fun_ext (λ s. fun_ext (λ b. by s b (eqb s (place plan task)) (has_number (task_row plan task).blocks b) refl))
  where
    by : (s b : ℕ) (t u : Bool) → has_number (task_row plan task).blocks b ≡ u
        → cond (t && u) (one_written plan task b (st.copies s b)) (st.copies s b) ≡ cond t (one_written plan task b (st.copies s b)) (st.copies s b)
    by s b true true e = refl
    by s b true false e = sym (copy_none plan b (λ i. writes plan task (element plan b i)) (λ i. task) (st.copies s b) (places s b) (λ i lt. untouched plan task b i well is e lt))
    by s b false u e = refl

-- the state after them, in a space and with some blocks
abbrev ended : Plan → State → ℕ → ℕ → List ℕ → State
ended plan st task space touched = record st {
  copies = written_in plan st task space touched;
  orders = at_one st.orders space (used (st.orders space) touched);
  tasks = at_one st.tasks task Done;
  current = λ (e : Element). cond (writes plan task e) task (st.current e);
}

-- the changes of a Finish, one after the other
pub finished : (plan : Plan) (st a b c d : State) (task space : ℕ) (touched : List ℕ) → IsWellFormed plan → IsOneOf (tasks plan) task → HavePlaces plan st
    → space ≡ place plan task → touched ≡ (task_row plan task).blocks
    → a ≡ record st { copies = written_in plan st task space touched }
    → b ≡ record a { orders = at_one a.orders space (used (a.orders space) touched) }
    → c ≡ record b { current = λ (e : Element). cond (writes plan task e) task (b.current e) }
    → d ≡ record c { tasks = at_one c.tasks task Done }
    → d ≡ after_finish plan st task
finished plan st a b c d task space touched well is places space_is touched_is a_is b_is c_is d_is =
    d_is
    ∙ ap (λ (s : State). record s { tasks = at_one s.tasks task Done })
    (c_is ∙ ap (λ (s : State). record s { current = λ (e : Element). cond (writes plan task e) task (s.current e) })
    (b_is ∙ ap (λ (s : State). record s { orders = at_one s.orders space (used (s.orders space) touched) }) a_is))
    ∙ ap (λ (k : ℕ). ended plan st task k touched) space_is
    ∙ ap (ended plan st task (place plan task)) touched_is
    ∙ ap (λ (copies : ℕ → ℕ → Option Copy). record (ended plan st task (place plan task) (task_row plan task).blocks) { copies = copies }) (written_all plan st task well is places)
