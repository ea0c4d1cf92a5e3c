use Rattle.dd_plain.specs.Lending.{is_lent}
use Rattle.dd_plain.proofs.HeldLemmas.{two_wrote}
use Rattle.dd_plain.proofs.computing.lend_two.Goals as goal

pub returns : goal.returns
returns c =
    two_wrote (is_lent c.args.task.now.accesses) c.args.task.now.accesses c.args.x.now c.args.y.now c.args.held.now _ _ c.index-first-0.result c.index-rest-0.result _ _ c.compute_two.new.a c.compute_two.new.b c.requires.accesses c.requires.held c.split_at_mut-first.ensures.front c.split_at_mut-first.ensures.back c.deref_mut.ensures.value c.deref_mut-2.ensures.value c.compute_two.auto.a c.compute_two.auto.b c.compute_two.ensures
