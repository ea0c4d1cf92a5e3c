-- Which tasks are done when a row begins: those of the regions above it, which are the first ones.
use Rattle.std.proofs.Common.{◌≡◌, ℕ, zero, suc, ◌<◌, ◌≤◌, Bool, true, false, leb, List, refl, ap, sym, ◌∙◌, ⊎_elim, arith}
use Rattle.std.proofs.lemmas.Bool.{cases_lt, false_from_ne_true}
use Rattle.std.proofs.lemmas.Bool.Decides.{nat_tests}
use Rattle.std.proofs.lemmas.List.Sums.{count_by-le-length}
use Rattle.dd_blocks.specs.declared.plan.Plan.{Plan}
use Rattle.dd_blocks.specs.declared.task_row.TaskRow.{TaskRow}
use Rattle.dd_blocks.specs.Numbered.{task_row}
use Rattle.dd_blocks.specs.WellFormed.{IsWellFormed}
use Rattle.dd_blocks.proofs.NumberedLemmas.{task_names_rows}
use Rattle.dd_meaning.specs.Text.{regions_above}
use Rattle.dd_machine.specs.declared.entry.Entry.{Entry}
use Rattle.dd_machine.specs.declared.task_state.TaskState.{TaskState}
use Rattle.dd_machine.specs.declared.task_state.TaskState.TheVariants.{Waiting, Held, Running, Done}
use Rattle.dd_machine.specs.Bytes.{when}
use Rattle.dd_machine.specs.Made.{was_begun, was_closed}
use Rattle.dd_machine.specs.SoundLives.{SoundLives}
use Rattle.dd_machine.specs.States.{State}
use Rattle.dd_machine.specs.Tests.{is_done, is_waiting}
use Rattle.dd_machine.specs.Words.{IsOneOf, tasks, total}
use Rattle.dd_machine.proofs.TotalsLemmas.{total_same}
use Rattle.laws_of_lives.proofs.RegionsLemmas.{task_through, through_task}
use Rattle.laws_of_rows.specs.Rows.{IsAtRow, tasks_above}
use Rattle.laws_of_rows.proofs.RegionsLemmas.{begun_above, closed_above}
use Rattle.laws_of_rows.proofs.RowsLemmas.{made_at_row}

-- ---- sums of the first terms

-- of more numbers those up to n count
pub total_upto : (m n : ℕ) (f : ℕ → ℕ) → n ≤ m → total m (λ k. when (leb k n) (f k)) ≡ total n f
total_upto zero n f le = let none : n ≡ 0 = omega (arith, le) in ap (λ (k : ℕ). total k f) (sym none)
total_upto (suc m) n f le = ⊎_elim
    (λ (past : n < suc m).
    let no : leb (suc m) n ≡ false = grind (arith, nat_tests) in
    let last : when (leb (suc m) n) (f (suc m)) ≡ 0 = ap (λ (t : Bool). when t (f (suc m))) no in
    let rest = total_upto m n f (omega (arith, past)) in
    omega (arith, last, rest))
    (λ (all : suc m ≤ n).
    let same : suc m ≡ n = omega (arith, le, all) in
    total_same (suc m) (λ k. when (leb k n) (f k)) f
    (λ k is. let yes : leb k n ≡ true = grind (arith, nat_tests, is.1) in ap (λ (t : Bool). when t (f k)) yes)
    ∙ ap (λ (k : ℕ). total k f) same)
    (cases_lt n (suc m))

ones : (n : ℕ) → total n (λ k. 1) ≡ n
ones zero = refl
ones (suc n) = let rest = ones n in omega (arith, rest)

-- ---- tasks

not_waiting : (x : TaskState) → is_done x ≡ true → is_waiting x ≡ false
not_waiting Done e = refl
not_waiting Waiting e = absurd cc
not_waiting Held e = refl
not_waiting (Running w) e = refl

-- the first tasks are done, and no other
pub done_at_row : (plan : Plan) (i : ℕ) (st : State) → IsWellFormed plan → SoundLives plan st → IsAtRow plan i st → (t : ℕ) → IsOneOf (tasks plan) t
    → is_done (st.tasks t) ≡ leb t (tasks_above plan i)
done_at_row plan i st well lives at t is =
    let q = (task_row plan t).region in
    let made_is = made_at_row plan i st lives at in
    ⊎_elim
    (λ (past : regions_above plan i < q).
    let no : leb t (tasks_above plan i) ≡ false = false_from_ne_true (leb t (tasks_above plan i)) (λ yes.
    let le : t ≤ tasks_above plan i = grind (arith, nat_tests, yes) in
    let h = through_task plan well (regions_above plan i) t is le in omega (arith, h, past)) in
    false_from_ne_true (is_done (st.tasks t)) (λ done.
    let h = begun_above plan i q well at.within (ap (λ (es : List Entry). was_begun es q) (sym made_is) ∙ lives.begun t (not_waiting (st.tasks t) done)) in omega (arith, h, past))
    ∙ sym no)
    (λ (within : q ≤ regions_above plan i).
    let le = task_through plan well (regions_above plan i) t is within in
    let yes : leb t (tasks_above plan i) ≡ true = grind (arith, nat_tests) in
    let test : leb q (regions_above plan i) ≡ true = grind (arith, nat_tests) in
    let names = task_names_rows plan well t is in
    ap is_done (lives.closed_done t is (ap (λ (es : List Entry). was_closed es q) made_is ∙ closed_above plan i q well at.within names.region ∙ test))
    ∙ sym yes)
    (cases_lt (regions_above plan i) q)

-- so many are done
pub count_at_row : (plan : Plan) (i : ℕ) (st : State) → IsWellFormed plan → SoundLives plan st → IsAtRow plan i st
    → total (tasks plan) (λ t. when (is_done (st.tasks t)) 1) ≡ tasks_above plan i
count_at_row plan i st well lives at =
    let few : tasks_above plan i ≤ tasks plan = count_by-le-length (λ (t : TaskRow). leb t.region (regions_above plan i)) plan.tasks in
    total_same (tasks plan) (λ t. when (is_done (st.tasks t)) 1) (λ t. when (leb t (tasks_above plan i)) 1)
    (λ t is. ap (λ (b : Bool). when b 1) (done_at_row plan i st well lives at t is))
    ∙ total_upto (tasks plan) (tasks_above plan i) (λ t. 1) few ∙ ones (tasks_above plan i)
