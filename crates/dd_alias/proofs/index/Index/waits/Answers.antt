use Rattle.dd_alias.proofs.WaitLemmas.{of_all, of_more}
use Rattle.dd_alias.proofs.index.Index.waits.Goals as goal

pub loop-extent-preserved : goal.loop-extent-preserved
loop-extent-preserved c =
    of_more c.args.self.now c.args.own.now c.args.number c.loop-extent.extent-index c.loop-extent.found.items c.add_waits.new.found.items c.extent-item.result c.loop-extent-test.true c.extent-item.is c.loop-extent.invariant (rw c.in-Some.is at c.in_ok-rest.ensures)

pub returns : goal.returns
returns c =
    of_all c.args.self.now c.args.own.now c.args.number c.loop-extent.extent-index c.loop-extent.found.items c.loop-extent-test.false c.loop-extent.invariant
