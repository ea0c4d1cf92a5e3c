use Rattle.std.proofs.Common.{◌≡◌, false, ◌∙◌, rules}
use Rattle.dd_plain.specs.Lending.{is_lent}
use Rattle.dd_plain.proofs.TaskLemmas.{long_view, run_filled}
use Rattle.dd_plain.proofs.computing.place_of.Goals as goal

pub returns-then-is_lent-clause-filled : goal.returns-then-is_lent-clause-filled
returns-then-is_lent-clause-filled c =
    run_filled c.args.access.now.view c.run_of.result.first c.run_of.result.count (c.requires.shape, c.requires.view) c.run_of.ensures.positions

pub returns-else-is_lent-clause-filled : goal.returns-else-is_lent-clause-filled
returns-else-is_lent-clause-filled c =
    let kept : is_lent c.args.task.now.accesses c.args.access.now ≡ false = search rules in
    c.requires.part kept ∙ long_view c.args.access.now.view (c.requires.shape, c.requires.view)
