use Rattle.std.proofs.Common.{ap, ◌∙◌, arith, ℕ}
use Rattle.dd_machine.specs.Bytes.{beside_bytes}
use Rattle.dd_tables.specs.Tables.{state_of}
use Rattle.dd_tables.proofs.HeldLemmas.{pinned_with, reserved_held}
use Rattle.dd_tables.proofs.tables.Tables.reserved_with.Goals as goal

pub returns : goal.returns
returns c =
    let st = state_of c.args.plan.now c.args.self.now in
    let plan = c.args.plan.now in
    let at = c.place-space.ensures.value in
    let pinned = c.pinned_bytes_with.ensures.value ∙ ap (λ (s : ℕ). pinned_with plan st s c.args.task) at in
    let beside = c.beside_bytes.ensures.value ∙ ap (beside_bytes plan st) at in
    let arguments = c.argument_bytes.ensures.value in
    let scratch = c.scratch.ensures.value in
    let held = reserved_held plan st c.args.task c.requires.task c.requires.waiting in
    omega (arith, pinned, beside, arguments, scratch, held)
