use Rattle.std.proofs.Common.{◌++◌, map, sym, ap, ◌∙◌}
use Rattle.std.proofs.lemmas.List.{append-nil, drop_all, drop_more, length-map, map-append}
use Rattle.dd_plain.specs.Lending.{held, is_lent, without_all}
use Rattle.dd_plain.specs.Lists.{lists_of}
use Rattle.dd_plain.proofs.AccessLemmas.{taken, takes, taking_in_array, taking_size}
use Rattle.dd_plain.proofs.TaskLemmas.{lent_apart}
use Rattle.dd_plain.proofs.SizesLemmas.{as_many}
use Rattle.dd_plain.proofs.task.take_all.Goals as goal

pub loop-access-init : goal.loop-access-init
loop-access-init c =
    rw c.new-bufs.ensures.items (takes c.args.arrays.now (is_lent c.args.accesses.now) (lists_of c.args.world.now) c.args.accesses.now (lent_apart c.args.accesses.now) c.requires.in_arrays)

pub loop-access-preserved : goal.loop-access-preserved
loop-access-preserved c =
    let next = drop_more c.args.accesses.now c.loop-access.access-index _ c.loop-access-test.true in
    let count = c.loop-access.invariant.count ∙ as_many c.args.arrays.now (lists_of c.args.world.now) c.requires.sizes in
    let lists = ap lists_of c.in_ok-push.ensures.items ∙ map-append (λ v. v.items) c.loop-access.bufs.items _ in
    rw lists (taken c.loop-access.invariant _ _ _ _ next count c.in_ok-take.ensures.world c.in_ok-take.ensures.values)

pub take-requires : goal.take-requires
take-requires c =
    let next = drop_more c.args.accesses.now c.loop-access.access-index _ c.loop-access-test.true in
    let count = c.loop-access.invariant.count ∙ as_many c.args.arrays.now (lists_of c.args.world.now) c.requires.sizes in
    record {
      in_array = taking_in_array c.loop-access.invariant _ _ next;
      paired = sym (length-map c.loop-access.world (λ v. v.items)) ∙ count;
      size = taking_size c.loop-access.invariant _ _ next c.requires.sizes;
    }

pub returns : goal.returns
returns c =
    let none = drop_all c.loop-access.access-index c.args.accesses.now c.loop-access-test.false in
    record {
      lists = sym (ap (λ l. lists_of c.loop-access.bufs.items ++ map (held (is_lent c.args.accesses.now) (lists_of c.args.world.now)) l) none ∙ append-nil (lists_of c.loop-access.bufs.items)) ∙ c.loop-access.invariant.listed;
      world = sym (ap (without_all (is_lent c.args.accesses.now) (lists_of c.loop-access.world)) none) ∙ c.loop-access.invariant.world;
    }
