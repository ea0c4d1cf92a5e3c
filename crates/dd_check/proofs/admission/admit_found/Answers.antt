use Rattle.std.proofs.Common.{◌∙◌, ◌++◌, List, OnOk, IfErr, ap, refl, subst, sym}
use Rattle.dd_script.specs.declared.piece.Piece.{Piece}
use Rattle.dd_script.specs.declared.statement.Statement.{Statement}
use Rattle.dd_script.specs.declared.statement.Statement.TheVariants.{Task}
use Rattle.dd_check.specs.Chain.{IsFoundOr, argument_kinds, name_kinds, place_kinds, size_kinds, view_kinds}
use Rattle.dd_check.specs.Drafts.{above_of}
use Rattle.dd_check.specs.Effects.{Enters}
use Rattle.dd_check.specs.Faults.{AreClear, kinds}
use Rattle.dd_check.proofs.ChainLemmas.{found_before}
use Rattle.dd_check.proofs.admission.admit_found.Goals as goal

pub returns-in-Some-clause-fault : goal.returns-in-Some-clause-fault
returns-in-Some-clause-fault c =
    rw c.plain.ensures
    (record {
      line = refl;
      first = found_before c.args.line (above_of c.args.draft.now) c.args.x (record { line = c.args.line; kind = c.in-Some.kind; a = 0; b = 0 }) name_kinds (argument_kinds ++ view_kinds ++ place_kinds ++ size_kinds) (c.in-Some.ensures c.args.line);
    })

pub admit_task-requires-clause-named : goal.admit_task-requires-clause-named
admit_task-requires-clause-named c =
    subst (λ (y : Statement). AreClear c.args.line (above_of c.args.draft.now) y name_kinds)
    (c.in-Task.is ∙ ap (λ (ps : List Piece). Task c.in-Task.kernel c.in-Task.scalar ps) (sym c.as_slice.ensures)) (c.in_default.ensures c.args.line)

pub returns-in-Task-clause-clear : goal.returns-in-Task-clause-clear
returns-in-Task-clause-clear c =
    subst (λ (y : Statement). OnOk c.admit_task.result (AreClear c.args.line (above_of c.args.draft.now) y kinds))
    (ap (λ (ps : List Piece). Task c.in-Task.kernel c.in-Task.scalar ps) c.as_slice.ensures ∙ sym c.in-Task.is) c.admit_task.ensures.clear

pub returns-in-Task-clause-enters : goal.returns-in-Task-clause-enters
returns-in-Task-clause-enters c =
    subst (λ (y : Statement). OnOk c.admit_task.result (Enters c.args.line (above_of c.args.draft.now) y (above_of c.admit_task.new.draft)))
    (ap (λ (ps : List Piece). Task c.in-Task.kernel c.in-Task.scalar ps) c.as_slice.ensures ∙ sym c.in-Task.is) c.admit_task.ensures.enters

pub returns-in-Task-clause-fault : goal.returns-in-Task-clause-fault
returns-in-Task-clause-fault c =
    subst (λ (y : Statement). IfErr c.admit_task.result (λ e. IsFoundOr e c.args.line (above_of c.args.draft.now) y kinds))
    (ap (λ (ps : List Piece). Task c.in-Task.kernel c.in-Task.scalar ps) c.as_slice.ensures ∙ sym c.in-Task.is) c.admit_task.ensures.fault
