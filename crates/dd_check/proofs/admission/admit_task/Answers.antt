use Rattle.std.proofs.Common.{◌≡◌, refl, sym, subst, inl, arith, rules}
use Rattle.std.proofs.lemmas.Int.{to_z-of_z}
use Rattle.std.proofs.lemmas.Result.{IfErr-weaker, on_ok_weaker}
use Rattle.dd_script.specs.declared.statement.Statement.TheVariants.{Task}
use Rattle.dd_check.specs.declared.fault.AcceptFault.TheVariants.{Script}
use Rattle.dd_check.specs.Chain.{IsFoundOr, view_kinds}
use Rattle.dd_check.specs.Drafts.{above_of}
use Rattle.dd_check.specs.Faults.{kinds}
use Rattle.dd_check.proofs.ChainLemmas.{all_clear, argument_answer, place_answer, size_answer, view_answer}
use Rattle.dd_check.proofs.OneAccessLemmas.{few_accesses}
use Rattle.dd_check.proofs.OneTaskLemmas.{one_task}
use Rattle.dd_check.proofs.AdmissionLemmas.{misplaced_task, placed_task, sizes_clear, too_much}
use Rattle.dd_check.proofs.admission.admit_task.Goals as goal

pub returns-in_err-k-clause-fault : goal.returns-in_err-k-clause-fault
returns-in_err-k-clause-fault c =
    IfErr-weaker c.from_residual.result (λ e. e ≡ Script c.in_err-k.field-0.0) (λ e. IsFoundOr e c.args.line (above_of c.args.draft.now) (Task c.args.kernel.now c.args.scalar c.args.pieces.now) kinds)
    (λ e is. subst (λ e. IsFoundOr e c.args.line (above_of c.args.draft.now) (Task c.args.kernel.now c.args.scalar c.args.pieces.now) kinds) (sym is)
    (argument_answer c.args.line (above_of c.args.draft.now) (Task c.args.kernel.now c.args.scalar c.args.pieces.now) _ c.requires.named (c.in_err-k.ensures (above_of c.args.draft.now)))) (search rules)

pub returns-in_err-accesses-clause-fault : goal.returns-in_err-accesses-clause-fault
returns-in_err-accesses-clause-fault c =
    let task = c.in_ok-k.ensures (above_of c.args.draft.now) in
    IfErr-weaker c.from_residual-in_err-accesses.result (λ e. IsFoundOr e c.args.line (above_of c.args.draft.now) (Task c.args.kernel.now c.args.scalar c.args.pieces.now) view_kinds) (λ e. IsFoundOr e c.args.line (above_of c.args.draft.now) (Task c.args.kernel.now c.args.scalar c.args.pieces.now) kinds)
    (λ e found. view_answer e c.args.line (above_of c.args.draft.now) (Task c.args.kernel.now c.args.scalar c.args.pieces.now) c.requires.named task.clear found)
    (let found = c.in_err-accesses.ensures.kinds c.args.kernel.now c.args.scalar task.kernel in search (rules, found))

pub returns-in_default-clause-fault : goal.returns-in_default-clause-fault
returns-in_default-clause-fault c =
    let task = c.in_ok-k.ensures (above_of c.args.draft.now) in
    rw c.plain.ensures
    (place_answer c.args.line (above_of c.args.draft.now) (Task c.args.kernel.now c.args.scalar c.args.pieces.now) _ c.requires.named task.clear
    (c.in_ok-accesses.ensures.kinds c.args.kernel.now c.args.scalar task.kernel)
    (record { line = refl; first = inl (refl, (misplaced_task c.args.draft.now c.args.kernel.now c.args.scalar c.args.pieces.now c.in_default.is, refl, refl)) }))

pub task_row-requires-clause-few : goal.task_row-requires-clause-few
task_row-requires-clause-few c =
    let task = c.in_ok-k.ensures (above_of c.args.draft.now) in
    few_accesses (above_of c.args.draft.now) c.args.pieces.now _ _ task.count c.in_ok-accesses.ensures.accesses

pub admit_row-requires-clause-few : goal.admit_row-requires-clause-few
admit_row-requires-clause-few c =
    let task = c.in_ok-k.ensures (above_of c.args.draft.now) in
    rw c.in_ok-row.ensures.accesses
    (few_accesses (above_of c.args.draft.now) c.args.pieces.now _ _ task.count c.in_ok-accesses.ensures.accesses)

pub returns-clause-clear : goal.returns-clause-clear
returns-clause-clear c =
    let task = c.in_ok-k.ensures (above_of c.args.draft.now) in
    let row = c.in_ok-row.ensures.task c.args.kernel.now c.args.scalar c.args.pieces.now task.kernel (grind (arith, to_z-of_z, c.unwrap_or.ensures)) c.in_ok-accesses.ensures.accesses in
    on_ok_weaker c.admit_row.result (λ fits. all_clear c.args.line (above_of c.args.draft.now) (Task c.args.kernel.now c.args.scalar c.args.pieces.now) c.requires.named task.clear
    (c.in_ok-accesses.ensures.kinds c.args.kernel.now c.args.scalar task.kernel)
    (placed_task c.args.draft.now c.in-Some.region c.args.line c.args.kernel.now c.args.scalar c.args.pieces.now c.in-Some.is)
    (sizes_clear c.args.line (above_of c.args.draft.now) c.args.kernel.now c.args.scalar c.args.pieces.now c.in_ok-row.row (λ other h. one_task c.args.line (above_of c.args.draft.now) c.args.kernel.now c.args.scalar c.args.pieces.now other c.in_ok-row.row h row) fits)) c.admit_row.ensures.clear

pub returns-clause-enters : goal.returns-clause-enters
returns-clause-enters c =
    let task = c.in_ok-k.ensures (above_of c.args.draft.now) in
    let row = c.in_ok-row.ensures.task c.args.kernel.now c.args.scalar c.args.pieces.now task.kernel (grind (arith, to_z-of_z, c.unwrap_or.ensures)) c.in_ok-accesses.ensures.accesses in
    on_ok_weaker c.admit_row.result (λ entered. (c.in_ok-row.row, row, entered)) c.admit_row.ensures.entered

pub returns-clause-fault : goal.returns-clause-fault
returns-clause-fault c =
    let task = c.in_ok-k.ensures (above_of c.args.draft.now) in
    let row = c.in_ok-row.ensures.task c.args.kernel.now c.args.scalar c.args.pieces.now task.kernel (grind (arith, to_z-of_z, c.unwrap_or.ensures)) c.in_ok-accesses.ensures.accesses in
    IfErr-weaker c.admit_row.result _ _ (λ e much. size_answer e c.args.line (above_of c.args.draft.now) (Task c.args.kernel.now c.args.scalar c.args.pieces.now) c.requires.named task.clear
    (c.in_ok-accesses.ensures.kinds c.args.kernel.now c.args.scalar task.kernel)
    (placed_task c.args.draft.now c.in-Some.region c.args.line c.args.kernel.now c.args.scalar c.args.pieces.now c.in-Some.is)
    (too_much e c.args.line (above_of c.args.draft.now) c.args.kernel.now c.args.scalar c.args.pieces.now c.in_ok-row.row row (λ other h. one_task c.args.line (above_of c.args.draft.now) c.args.kernel.now c.args.scalar c.args.pieces.now other c.in_ok-row.row h row) much)) c.admit_row.ensures.fault
