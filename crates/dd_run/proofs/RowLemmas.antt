-- A row that prints nothing, as one of all rows.
use Rattle.std.proofs.Common.{◌≡◌, ℕ, ◌<◌, List, [], Option, Some, Result, Ok, Err, IsErrAnd, refl, sym, ◌∙◌, subst, arith}
use Rattle.dd_blocks.specs.declared.plan.Plan.{Plan}
use Rattle.dd_blocks.specs.declared.what.What.{What}
use Rattle.dd_causes.proofs.AppendedLemmas.{appends_nothing, front_untouched}
use Rattle.dd_meaning.specs.Text.{moved_above, printed_by, row_text, world_at}
use Rattle.dd_machine.specs.Words.{rows}
use Rattle.dd_print.specs.Causes.{of_run}
use Rattle.dd_print.specs.declared.fault.PrintFault.{PrintFault}
use Rattle.dd_print.specs.declared.fault.PrintFault.TheVariants as print
use Rattle.dd_print.specs.Writes.{WritesWhere}
use Rattle.dd_run.specs.Gives.{RowGives, RunGives}
use Rattle.dd_run.proofs.PrintsLemmas.{row_prints_as}
use Rattle.dd_run.proofs.WritesLemmas.{print_err}
use Rattle.dd_store.specs.declared.store.Slot.{Ghosts as SlotGhosts}
use Rattle.dd_store.specs.declared.store.Store.{Ghosts}
use Rattle.dd_table.specs.declared.fault.RunFault.{RunFault}
use Rattle.dd_table.specs.declared.fault.RunFault.TheVariants as run
use Rattle.dd_table.specs.declared.table.Table.{Table}
use Rattle.laws_of_rows.specs.Rows.{next_what}

not_write : (fault : RunFault) → of_run fault ≡ print.WriteFault → ⊥
not_write run.DiskFault is = cc
not_write run.Memory is = cc

same_fault : (a b : PrintFault) (r : Result (Unit {0}) PrintFault) → r ≡ Err a → r ≡ Err b → a ≡ b
same_fault a b r p q = let e : Err a ≡ Err b = sym p ∙ q in cc

-- nothing was written
pub silent_ok : {T : Type 0} (plan : Plan) (i : ℕ) (what : What) (taken : Option (List ℕ)) (faults : ℕ) → i < rows plan → next_what plan i ≡ what → printed_by plan (world_at plan i) (moved_above plan i) what ≡ []
    → WritesWhere T (row_text plan i) (Ok tt) taken taken faults faults
silent_ok {T} plan i what taken faults lt is none = subst (λ (text : List ℕ). WritesWhere T text (Ok tt) taken taken faults faults) (sym (row_prints_as plan i what lt is ∙ none)) (record {
  all = λ told. appends_nothing taken;
  front = λ told. tt;
  cause = λ failed. absurd (cc);
  kept = λ other. refl;
  later = omega arith;
})

pub silent_err : {T : Type 0} (plan : Plan) (i : ℕ) (result : Result (Unit {0}) PrintFault) (fault : RunFault) (taken : Option (List ℕ)) (faults : ℕ) → IsErrAnd result (λ f. f ≡ of_run fault)
    → WritesWhere T (row_text plan i) result taken taken faults faults
silent_err {T} plan i result fault taken faults is = print_err (λ (r : Result (Unit {0}) PrintFault). WritesWhere T (row_text plan i) r taken taken faults faults) result (of_run fault) is (record {
  all = λ told. tt;
  front = λ told. front_untouched taken (row_text plan i);
  cause = λ failed. absurd (not_write fault (same_fault (of_run fault) print.WriteFault (Err (of_run fault)) refl failed));
  kept = λ other. refl;
  later = omega arith;
})

module _ {D S : Type 0} {g : Ghosts D S} {h : SlotGhosts S} where
  pub gives_ok : (plan : Plan) (i : ℕ) (t u : Table D S g h) → RunGives plan i t u (Ok tt) → RowGives plan i t u (Ok tt)
  gives_ok plan i t u p = record { enters = p.enters; ends = p.stands }

  ends_with : (u : Table D S g h) (fault : RunFault) → (fault ≡ run.DiskFault → u.cause ≡ Some run.DiskFault) → of_run fault ≡ print.DiskFault → u.cause ≡ Some run.DiskFault
  ends_with u run.DiskFault stands is = stands refl
  ends_with u run.Memory stands is = absurd (cc)

  pub gives_err : (plan : Plan) (i : ℕ) (t u : Table D S g h) (result : Result (Unit {0}) PrintFault) (fault : RunFault) → IsErrAnd result (λ f. f ≡ of_run fault) → RunGives plan i t u (Err fault) → RowGives plan i t u result
  gives_err plan i t u result fault is p =
      print_err (RowGives plan i t u) result (of_run fault) is (record { enters = p.enters; ends = ends_with u fault p.stands })
