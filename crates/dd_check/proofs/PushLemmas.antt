-- One more statement: what holds of the machine, the lines, the touches and the rows that are named.
use Rattle.std.proofs.Common.{◌≡◌, ℕ, suc, ◌+◌, ◌<◌, ◌≤◌, true, List, [], ◌∷◌, ◌++◌, length, get_or, map, refl, ap, sym, subst, ◌∙◌, arith}
use Rattle.std.specs.List.{All, sum_by}
use Rattle.std.proofs.lemmas.List.{length-append, map-append}
use Rattle.std.proofs.lemmas.List.Elements.{All-map, All-push, All-weaker, filter_map-append}
use Rattle.std.proofs.lemmas.List.Sums.{sum_by_push}
use Rattle.dd_lists.proofs.RisingLemmas.{rising_push}
use Rattle.dd_blocks.specs.declared.plan.Plan.{Plan}
use Rattle.dd_blocks.specs.declared.statement_row.StatementRow.{StatementRow}
use Rattle.dd_blocks.specs.declared.task_row.TaskRow.{TaskRow}
use Rattle.dd_blocks.specs.declared.what.What.{What}
use Rattle.dd_blocks.specs.Charges.{access_elements}
use Rattle.dd_blocks.specs.Limits.{touches_limit}
use Rattle.dd_blocks.specs.Lives.{regions_run}
use Rattle.dd_blocks.specs.Touches.{touches_in, touches_of}
use Rattle.dd_blocks.specs.WellFormed.{StatementNamesRows}
use Rattle.dd_check.specs.Above.{Above, open_tasks}
use Rattle.dd_check.specs.Sound.{IsInLineTo, IsOpenTask, IsSoundMachine, IsSoundRegion}
use Rattle.dd_check.proofs.RowsLemmas.{All_none, rises_append, rises_one}
use Rattle.dd_lists.proofs.SumsLemmas.{sum_by_same}
use Rattle.dd_check.proofs.ExtendsLemmas.{Extends, statement_names_kept, touches_kept}

abbrev pub row_on : ℕ → What → StatementRow
row_on n what = record { line = n; what = what }

-- a machine that is complete
pub record IsReady (s : Above) : Type 0 where
  pub settled : s.settled ≡ true
  pub spaces : 1 ≤ length s.plan.spaces
  pub procs : 1 ≤ length s.plan.procs

pub ready_machine : (s : Above) → IsReady s → IsSoundMachine s
ready_machine s ready = record {
  space_of_proc = λ some. ready.spaces;
  space = λ settled. ready.spaces;
  proc = λ some. ready.procs;
  opened = λ some. ready.procs;
  arrays = λ unsettled. absurd (cc ready.settled);
  statements = λ unsettled. absurd (cc ready.settled);
  region = λ unsettled. absurd (cc ready.settled);
}

-- no region is open, or one without tasks
pub no_tasks_region : (s : Above) → open_tasks s ≡ [] → touches_in s.plan ≤ touches_limit → IsSoundRegion s
no_tasks_region s none few =
    let no_elements : sum_by access_elements (open_tasks s) ≡ 0 = ap (sum_by access_elements) none in
    let no_blocks : sum_by (λ (t : TaskRow). length t.blocks) (open_tasks s) ≡ 0 = ap (sum_by (λ (t : TaskRow). length t.blocks)) none in
    let no_rows : length (open_tasks s) ≡ 0 = ap (λ (tasks : List TaskRow). length tasks) none in
    record {
      tasks = All_none (IsOpenTask s) (open_tasks s) none;
      few = omega (arith, no_rows);
      elements = omega (arith, no_elements);
      touches = omega (arith, no_blocks, few);
    }

abbrev line_of : StatementRow → ℕ
line_of row = row.line

pub line_push : (n : ℕ) (s after : Above) (what : What) → IsInLineTo n s → after.plan.statements ≡ s.plan.statements ++ record { line = suc n; what = what } ∷ [] → length after.plan.tasks + length (open_tasks after) ≤ suc n → IsInLineTo (suc n) after
line_push n s after what line is tasks = record {
  few = rw is (rw length-append (omega (arith, line.few)));
  lines = rw is (rises_append (λ (row : StatementRow). row.line) n s.plan.statements (row_on (suc n) what ∷ []) line.lines (rises_one (λ (r : StatementRow). r.line) (row_on (suc n) what)) line.above (All-push (λ (r : StatementRow). n ≤ r.line) [] (row_on (suc n) what) (All_none (λ (r : StatementRow). n ≤ r.line) [] refl) (omega arith)));
  rise = rw (is, map-append) (rising_push (map line_of s.plan.statements) (suc n) line.rise (All-map (λ k. k < suc n) line_of s.plan.statements (All-weaker (λ (r : StatementRow). r.line ≤ n) (λ (r : StatementRow). r.line < suc n) (λ r le. omega arith) s.plan.statements line.above)));
  above = rw is (All-push (λ (r : StatementRow). r.line ≤ suc n) s.plan.statements (row_on (suc n) what) (All-weaker (λ (r : StatementRow). r.line ≤ n) (λ (r : StatementRow). r.line ≤ suc n) (λ r le. omega arith) s.plan.statements line.above) (omega arith));
  tasks = tasks;
}

pub line_kept : (n : ℕ) (s after : Above) → IsInLineTo n s → after.plan.statements ≡ s.plan.statements → length after.plan.tasks + length (open_tasks after) ≤ suc n → IsInLineTo (suc n) after
line_kept n s after line is tasks = record {
  few = rw is (omega (arith, line.few));
  lines = rw is line.lines;
  rise = rw is line.rise;
  above = rw is (All-weaker (λ (r : StatementRow). r.line ≤ n) (λ (r : StatementRow). r.line ≤ suc n) (λ r le. omega arith) s.plan.statements line.above);
  tasks = tasks;
}

module _ (p q : Plan) (row : StatementRow) (e : Extends p q) (is : q.statements ≡ p.statements ++ row ∷ []) (names : All (λ (r : StatementRow). StatementNamesRows p r.what) p.statements) where
  pub touches_push : sum_by (λ (r : StatementRow). touches_of q r.what) q.statements ≡ sum_by (λ (r : StatementRow). touches_of p r.what) p.statements + touches_of q row.what
  touches_push =
      let old : sum_by (λ (r : StatementRow). touches_of q r.what) p.statements ≡ sum_by (λ (r : StatementRow). touches_of p r.what) p.statements = sum_by_same (λ (r : StatementRow). touches_of q r.what) (λ (r : StatementRow). touches_of p r.what) p.statements (λ k d lt. touches_kept p q e (get_or p.statements k d).what (names k d lt)) in
      ap (sum_by (λ (r : StatementRow). touches_of q r.what)) is ∙ sum_by_push (λ (r : StatementRow). touches_of q r.what) p.statements row ∙ ap (λ (n : ℕ). n + touches_of q row.what) old

  pub rows_named : StatementNamesRows q row.what → All (λ (r : StatementRow). StatementNamesRows q r.what) q.statements
  rows_named new = subst (λ (rows : List StatementRow). All (λ (r : StatementRow). StatementNamesRows q r.what) rows) (sym is)
      (All-push (λ (r : StatementRow). StatementNamesRows q r.what) p.statements row (λ k d lt. statement_names_kept p q e (get_or p.statements k d).what (names k d lt)) new)

pub more_regions : (rows : List StatementRow) (row : StatementRow) → length (regions_run rows) ≤ length (regions_run (rows ++ row ∷ []))
more_regions rows row =
    let long : length (regions_run (rows ++ row ∷ [])) ≡ length (regions_run rows) + length (regions_run (row ∷ [])) = rw filter_map-append (length-append (regions_run rows) (regions_run (row ∷ []))) in
    omega (arith, long)
