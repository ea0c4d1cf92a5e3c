use Rattle.std.proofs.Common.{◌%◌, refl, ap, sym, ◌∙◌, arith}
use Rattle.dd_machine.specs.Owed.{blocks_by_rows, brought}
use Rattle.dd_owed.proofs.PiecesLemmas.{get_piece, in_piece}
use Rattle.dd_owed.proofs.events.print_event.Goals as goal

pub returns-in-Some-clause-value : goal.returns-in-Some-clause-value
returns-in-Some-clause-value c =
    let f = brought c.args.plan.now c.args.row in
    c.brought_at.ensures ∙ sym (get_piece f (blocks_by_rows c.args.plan.now c.args.array) 2 c.args.i (omega arith) (λ x. refl) ∙ ap (in_piece f (c.args.i % 2)) (sym c.block_by_rows_at.ensures.value ∙ c.in-Some.is))

pub returns-in-None-clause-value : goal.returns-in-None-clause-value
returns-in-None-clause-value c =
    let f = brought c.args.plan.now c.args.row in
    sym (get_piece f (blocks_by_rows c.args.plan.now c.args.array) 2 c.args.i (omega arith) (λ x. refl) ∙ ap (in_piece f (c.args.i % 2)) (sym c.block_by_rows_at.ensures.value ∙ c.in-None.is))
