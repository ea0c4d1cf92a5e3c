use Rattle.std.proofs.Common.{None, ap, ◌∙◌, ℕ, Option, sym}
use Rattle.dd_copies.specs.CopyTables.{copies_of, seen}
use Rattle.dd_machine.specs.declared.copy_state.CopyState.TheVariants.{Here}
use Rattle.dd_machine.specs.Effects.{in_state}
use Rattle.dd_machine.specs.States.{Copy, at_copy}
use Rattle.dd_copies.proofs.CellsLemmas.{cell_stays, rows_stay}
use Rattle.dd_copies.proofs.copies.Copies.move_to.Goals as goal

pub put-requires-clause-space : goal.put-requires-clause-space
put-requires-clause-space c = rw c.take.ensures.rest (rows_stay c.args.self.now c.args.from c.args.block c.args.to None c.requires.to)

pub put-requires-clause-block : goal.put-requires-clause-block
put-requires-clause-block c = rw c.take.ensures.rest (cell_stays c.args.self.now c.args.from c.args.to c.args.block None c.requires.from c.requires.block c.requires.there)

pub returns-clause-value : goal.returns-clause-value
returns-clause-value c =
    c.put.ensures.value
    ∙ ap (λ (f : ℕ → ℕ → Option Copy). at_copy f c.args.to c.args.block (seen c.in_state-cell.result)) c.take.ensures.left
    ∙ ap (at_copy (at_copy (copies_of c.args.self.now) c.args.from c.args.block None) c.args.to c.args.block) (c.in_state-cell.ensures ∙ ap (in_state Here) c.take.ensures.seen)

pub returns-clause-table : goal.returns-clause-table
returns-clause-table c = λ n m is. c.put.ensures.table n m (c.take.ensures.table n m is)
