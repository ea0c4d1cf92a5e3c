use Rattle.std.proofs.Common.{◌-◌, ◌++◌, map, length, set, ap, sym, ◌∙◌, arith}
use Rattle.std.proofs.lemmas.List.{map-set}
use Rattle.dd_kernels.specs.Lists.{element}
use Rattle.dd_views.specs.IndexList.{index_list}
use Rattle.dd_blocks.specs.Tasks.{shape_in}
use Rattle.dd_blocks.specs.Numbered.{numbered, no_array}
use Rattle.dd_plain.specs.Lists.{lists_of}
use Rattle.dd_plain.proofs.TaskLemmas.{holds_values}
use Rattle.dd_plain.proofs.task.take.Goals as goal

pub returns-then-is_lent-clause-values : goal.returns-then-is_lent-clause-values
returns-then-is_lent-clause-values c =
    let lent = sym c.is_lent.ensures ∙ c.if-is_lent.true in
    let here = holds_values c.args.world.now c.args.access.now.view.array c.index-world-place.result c.requires.in_array.named.0 (omega (arith, c.requires.in_array.named.1, c.requires.paired)) in
    rw lent (ap (λ v. v.items) c.replace.ensures.value ∙ here)

pub returns-then-is_lent-clause-world : goal.returns-then-is_lent-clause-world
returns-then-is_lent-clause-world c =
    let lent = sym c.is_lent.ensures ∙ c.if-is_lent.true in
    rw lent (map-set (λ v. v.items) c.args.world.now (c.args.access.now.view.array - 1) c.replace.new.dest
    ∙ ap (set (lists_of c.args.world.now) (c.args.access.now.view.array - 1)) (ap (λ v. v.items) c.replace.ensures.after ∙ c.new.ensures.items))

pub gather-requires : goal.gather-requires
gather-requires c =
    let here = holds_values c.args.world.now c.args.access.now.view.array c.index-world-place-2.result c.requires.in_array.named.0 (omega (arith, c.requires.in_array.named.1, c.requires.paired)) in
    record {
      shape = shape_in (numbered no_array c.args.arrays.now c.args.access.now.view.array);
      view = c.requires.in_array.view;
      same = ap length (c.deref.ensures.value ∙ here) ∙ c.requires.size;
    }

pub returns-clause-values : goal.returns-clause-values
returns-clause-values c =
    let kept = sym c.is_lent.ensures ∙ c.if-is_lent.false in
    let here = holds_values c.args.world.now c.args.access.now.view.array c.index-world-place-2.result c.requires.in_array.named.0 (omega (arith, c.requires.in_array.named.1, c.requires.paired)) in
    rw kept (c.in_ok-gather.ensures
    ∙ ap (λ l. l ++ map (element c.deref.result.now) (index_list c.args.access.now.view)) c.in_ok-buf.ensures.items
    ∙ ap (λ values. map (element values) (index_list c.args.access.now.view)) (c.deref.ensures.value ∙ here))
