use Rattle.std.proofs.Common.{List, sym, subst}
use Rattle.std.specs.List.{All}
use Rattle.dd_blocks.specs.declared.access_row.AccessRow.{AccessRow}
use Rattle.dd_touch.specs.Small.{IsSmallAccess}
use Rattle.dd_check.proofs.TaskLemmas.{small_accesses}
use Rattle.dd_check.proofs.region_task.push_task.Goals as goal

pub access_elements-requires-clause-small : goal.access_elements-requires-clause-small
access_elements-requires-clause-small c =
    subst (λ (accesses : List AccessRow). All IsSmallAccess accesses) (sym c.as_slice.ensures) (small_accesses c.args.draft.now.plan c.args.row.accesses c.requires.sound.above.limits.elements c.requires.seen)
