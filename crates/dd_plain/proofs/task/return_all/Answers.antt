use Rattle.std.proofs.Common.{drop, get_or, refl, sym, ap, ◌∙◌}
use Rattle.std.proofs.lemmas.List.{drop_all, drop_more, length-map}
use Rattle.dd_plain.specs.Lending.{all_back_in, is_lent}
use Rattle.dd_plain.specs.Lists.{lists_of}
use Rattle.dd_plain.proofs.AccessLemmas.{back_in_array, back_long, back_there, next_list, returned, some_left}
use Rattle.dd_plain.proofs.TaskLemmas.{lent_apart}
use Rattle.dd_plain.proofs.task.return_all.Goals as goal

pub bounds-bufs-i : goal.bounds-bufs-i
bounds-bufs-i c = some_left (is_lent c.args.accesses.now) c.args.accesses.now c.loop-i.bufs c.loop-i.i c.loop-i-test.true c.loop-i.invariant.are_held

pub loop-i-init : goal.loop-i-init
loop-i-init c = record {
  world = refl;
  there = c.requires.there;
  count = length-map c.args.world.now (λ v. v.items) ∙ c.requires.paired;
  are_held = c.requires.held;
  apart = lent_apart c.args.accesses.now;
  in_arrays = c.requires.in_arrays;
}

pub loop-i-preserved : goal.loop-i-preserved
loop-i-preserved c =
    let within = some_left (is_lent c.args.accesses.now) c.args.accesses.now c.loop-i.bufs c.loop-i.i c.loop-i-test.true c.loop-i.invariant.are_held in
    let next = drop_more c.args.accesses.now c.loop-i.i _ c.loop-i-test.true in
    let buf = c.replace-buf.ensures.value ∙ sym c.index-bufs-i.is in
    let held = buf ∙ c.index-bufs-i.is ∙ ap (get_or c.loop-i.bufs c.loop-i.i) (sym buf) in
    let list = next_list c.loop-i.bufs c.loop-i.i c.replace-buf.result c.replace-buf.new.dest within held in
    returned c.loop-i.invariant _ _ _ _ _ next list c.return_to.ensures

pub return_to-requires : goal.return_to-requires
return_to-requires c =
    let within = some_left (is_lent c.args.accesses.now) c.args.accesses.now c.loop-i.bufs c.loop-i.i c.loop-i-test.true c.loop-i.invariant.are_held in
    let next = drop_more c.args.accesses.now c.loop-i.i _ c.loop-i-test.true in
    let buf = c.replace-buf.ensures.value ∙ sym c.index-bufs-i.is in
    let held = buf ∙ c.index-bufs-i.is ∙ ap (get_or c.loop-i.bufs c.loop-i.i) (sym buf) in
    let list = next_list c.loop-i.bufs c.loop-i.i c.replace-buf.result c.replace-buf.new.dest within held in
    record {
      in_array = back_in_array c.loop-i.invariant _ _ next;
      paired = sym (length-map c.loop-i.world (λ v. v.items)) ∙ c.loop-i.invariant.count;
      there = back_there c.loop-i.invariant _ _ next;
      long = back_long c.loop-i.invariant _ _ _ _ next list;
    }

pub returns : goal.returns
returns c =
    let none = drop_all c.loop-i.i c.args.accesses.now c.loop-i-test.false in
    sym (ap (λ l. all_back_in (is_lent c.args.accesses.now) (lists_of c.loop-i.world) l (drop c.loop-i.i (lists_of c.loop-i.bufs))) none) ∙ c.loop-i.invariant.world
