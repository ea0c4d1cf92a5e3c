use Rattle.std.proofs.Common.{ap, ◌∙◌}
use Rattle.dd_plain.specs.Lending.{is_lent}
use Rattle.dd_plain.proofs.HeldLemmas.{three_held, three_wrote}
use Rattle.dd_plain.proofs.computing.lend_three.Goals as goal

pub compute_three-requires-clause-y_held : goal.compute_three-requires-clause-y_held
compute_three-requires-clause-y_held c =
    let all = three_held (is_lent c.args.task.now.accesses) c.args.task.now.accesses c.args.x.now c.args.y.now c.args.z.now c.args.held.now c.split_at_mut-first.result.1.now c.index-rest-0.result c.index-rest-1.result c.requires.accesses c.requires.held c.split_at_mut-first.ensures.back in
    rw (c.deref.ensures.value ∙ ap (λ v. v.items) c.index-rest-0.is) all.0

pub compute_three-requires-clause-z_held : goal.compute_three-requires-clause-z_held
compute_three-requires-clause-z_held c =
    let all = three_held (is_lent c.args.task.now.accesses) c.args.task.now.accesses c.args.x.now c.args.y.now c.args.z.now c.args.held.now c.split_at_mut-first.result.1.now c.index-rest-0.result c.index-rest-1.result c.requires.accesses c.requires.held c.split_at_mut-first.ensures.back in
    rw (c.deref-2.ensures.value ∙ ap (λ v. v.items) c.index-rest-1.is) all.1

pub returns : goal.returns
returns c =
    three_wrote (is_lent c.args.task.now.accesses) c.args.task.now.accesses c.args.x.now c.args.y.now c.args.z.now c.args.held.now _ _ c.index-first-0.result c.index-rest-0.result c.index-rest-1.result _ _ _ c.compute_three.new.a c.requires.accesses c.requires.held c.split_at_mut-first.ensures.front c.split_at_mut-first.ensures.back c.deref_mut.ensures.value (c.deref.ensures.value ∙ ap (λ v. v.items) c.index-rest-0.is) (c.deref-2.ensures.value ∙ ap (λ v. v.items) c.index-rest-1.is) c.compute_three.auto.a c.compute_three.ensures
