-- What the rows of a script say, in the words of a run.
use Rattle.std.proofs.Common.{◌≡◌, ℕ, zero, suc, ◌+◌, ◌-◌, ◌<◌, ◌≤◌, Bool, true, false, eqb, leb, List, ◌++◌, length, refl, ap, sym, ◌∙◌, subst, arith}
use Rattle.std.proofs.lemmas.Bool.{eq-eqb, ne_eqb, leb-true, le-leb}
use Rattle.std.specs.Prelude.{count_by}
use Rattle.std.proofs.lemmas.List.Sums.{count_by-le-length}
use Rattle.std.proofs.lemmas.List.{get_or_default, length-append}
use Rattle.dd_blocks.specs.declared.plan.Plan.{Plan}
use Rattle.dd_blocks.specs.declared.statement_row.StatementRow.{StatementRow}
use Rattle.dd_blocks.specs.declared.task_row.TaskRow.{TaskRow}
use Rattle.dd_blocks.specs.declared.what.What.TheVariants.{Drop, Moved, Put}
use Rattle.dd_blocks.specs.Numbered.{IsNumberIn}
use Rattle.dd_blocks.specs.WellFormed.{IsWellFormed}
use Rattle.dd_meaning.specs.Text.{moved_above, printed_by, regions_above, row_text, world_at}
use Rattle.dd_meaning.specs.Worlds.{values_of}
use Rattle.dd_machine.specs.Sound.{IsSound}
use Rattle.dd_machine.specs.States.{State}
use Rattle.dd_machine.specs.Words.{rows, tasks}
use Rattle.dd_print.specs.Held.{AreDone, values_now}
use Rattle.dd_print.proofs.DoneLemmas.{done_values}
use Rattle.laws_of_rows.specs.Rows.{IsAtRow, names_at, next_what, tasks_above}
use Rattle.laws_of_rows.specs.Texts.{text_before}
use Rattle.laws_of_rows.proofs.NamesLemmas.{names_last}
use Rattle.laws_of_rows.proofs.TasksLemmas.{done_at_row}
use Rattle.laws_of_rows.proofs.TextLemmas.{text_next}

-- no more of some tasks than all of them
count_le_length : (p : TaskRow → Bool) (xs : List TaskRow) → count_by p xs ≤ length xs
count_le_length p xs = count_by-le-length p xs

-- whether a name that is dropped is the last one
pub last_name : (plan : Plan) (i a : ℕ) (last : Bool) → IsWellFormed plan → i < rows plan → next_what plan i ≡ Drop a last → eqb (names_at plan i a) 1 ≡ last
last_name plan i a last well lt is = by last (names_last plan i a last well lt is)
  where
    by : (b : Bool) → ((b ≡ true → names_at plan i a ≡ 1) × (names_at plan i a ≡ 1 → b ≡ true)) → eqb (names_at plan i a) 1 ≡ b
    by true both = eq-eqb (names_at plan i a) 1 (both.0 refl)
    by false both = ne_eqb (names_at plan i a) 1 (λ one. let e : false ≡ true = both.1 one in absurd (cc))

-- what a row prints, by its statement
pub row_prints : (plan : Plan) (i : ℕ) → i < rows plan → row_text plan i ≡ printed_by plan (world_at plan i) (moved_above plan i) (next_what plan i)
row_prints plan i lt =
    ap (λ (r : StatementRow). printed_by plan (world_at plan i) (moved_above plan i) r.what)
    (get_or_default plan.statements i (record { line = 0; what = Put 0 }) (record { line = 0; what = Moved }) lt)

-- the values that the state stands for are those of the row's world
pub values_at_row : (plan : Plan) (i : ℕ) (st : State) → IsWellFormed plan → IsSound plan st → IsAtRow plan i st → (a : ℕ) → IsNumberIn plan.arrays a → values_now plan st a ≡ values_of (world_at plan i) a
values_at_row plan i st well sound at a is = sym (done_values plan st (tasks_above plan i) a well sound few done is)
  where
    few : tasks_above plan i ≤ tasks plan
    few = count_le_length (λ (r : TaskRow). leb r.region (regions_above plan i)) plan.tasks

    done : AreDone plan st (tasks_above plan i)
    done = record {
      first = λ t t_is on. leb-true t (tasks_above plan i) (sym (done_at_row plan i st well sound.lives at t t_is) ∙ on);
      all = λ t t_is le. done_at_row plan i st well sound.lives at t t_is ∙ le-leb t (tasks_above plan i) le;
    }

-- the text of more rows is longer
text_more : (plan : Plan) (after : ℕ → List ℕ) (i n : ℕ) → length (text_before plan after i) ≤ length (text_before plan after (i + n))
text_more plan after i zero = let e : i + 0 ≡ i = omega arith in let same : length (text_before plan after (i + 0)) ≡ length (text_before plan after i) = ap (λ (k : ℕ). length (text_before plan after k)) e in omega (arith, same)
text_more plan after i (suc n) =
    let e : i + suc n ≡ suc (i + n) = omega arith in
    let same : length (text_before plan after (i + suc n)) ≡ length (text_before plan after (i + n) ++ (row_text plan (i + n) ++ after (i + n))) =
    ap (λ (k : ℕ). length (text_before plan after k)) e ∙ ap (λ (l : List ℕ). length l) (text_next plan after (i + n)) in
    let both = length-append (text_before plan after (i + n)) (row_text plan (i + n) ++ after (i + n)) in
    let more = text_more plan after i n in
    omega (arith, same, both, more)

pub text_up : (plan : Plan) (after : ℕ → List ℕ) (i j : ℕ) → i ≤ j → length (text_before plan after i) ≤ length (text_before plan after j)
text_up plan after i j le =
    let e : i + (j - i) ≡ j = omega (arith, le) in
    let more = text_more plan after i (j - i) in
    subst (λ (k : ℕ). length (text_before plan after i) ≤ length (text_before plan after k)) e more
