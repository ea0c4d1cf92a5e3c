use Rattle.std.proofs.Common.{None, ap, ◌∙◌, List, Option}
use Rattle.dd_copies.specs.CopyTables.{copies_of, seen, with_cell}
use Rattle.dd_copies.specs.declared.block_copy.BlockCopy.{BlockCopy}
use Rattle.dd_machine.specs.Effects.{given_back}
use Rattle.dd_machine.specs.States.{at_copy}
use Rattle.dd_copies.proofs.CellsLemmas.{block_stays, cell_twice, space_stays, table_set}
use Rattle.dd_copies.proofs.copies.Copies.give_back.Goals as goal

pub put-requires-clause-space : goal.put-requires-clause-space
put-requires-clause-space c = rw c.take.ensures.rest (space_stays c.args.self.now c.args.space c.args.block None c.requires.space)

pub put-requires-clause-block : goal.put-requires-clause-block
put-requires-clause-block c = rw c.take.ensures.rest (block_stays c.args.self.now c.args.space c.args.block None c.requires.space c.requires.block)

pub returns-clause-value : goal.returns-clause-value
unfolding copies_of
returns-clause-value c =
    let s = c.args.space in
    let b = c.args.block in
    let old = c.args.self.now in
    let cell = c.given_back-cell.result in
    let cells = c.put.ensures.cells ∙ ap (λ (t : List (List (Option BlockCopy))). with_cell t s b cell) c.take.ensures.rest ∙ cell_twice old s b None cell c.requires.space in
    let put = ap copies_of cells ∙ table_set old s b cell c.requires.space c.requires.block in
    let is = c.given_back-cell.ensures ∙ ap (λ (x : Option BlockCopy). given_back (seen x)) c.take.ensures.value in
    put ∙ ap (at_copy (copies_of old) s b) is

pub returns-clause-table : goal.returns-clause-table
returns-clause-table c = λ n m is. c.put.ensures.table n m (c.take.ensures.table n m is)
