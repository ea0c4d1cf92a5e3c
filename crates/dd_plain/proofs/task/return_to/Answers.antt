use Rattle.std.proofs.Common.{◌-◌, length, get_or, set, ap, sym, ◌∙◌, arith}
use Rattle.std.specs.Vec.{with_items}
use Rattle.std.proofs.lemmas.List.{map-set}
use Rattle.dd_kernels.proofs.ListsLemmas.{ap2}
use Rattle.dd_views.specs.IndexList.{index_list}
use Rattle.dd_blocks.specs.Tasks.{shape_in}
use Rattle.dd_blocks.specs.Numbered.{numbered, no_array}
use Rattle.dd_meaning.specs.Steps.{put_at}
use Rattle.dd_plain.specs.Lists.{lists_of}
use Rattle.dd_lists.proofs.VectorsLemmas.{items_written}
use Rattle.dd_plain.proofs.TaskLemmas.{holds_values}
use Rattle.dd_plain.proofs.task.return_to.Goals as goal

pub returns-then-is_lent : goal.returns-then-is_lent
returns-then-is_lent c =
    let lent = sym c.is_lent.ensures ∙ c.if-is_lent.true in
    rw lent (map-set (λ v. v.items) c.args.world.now (c.args.access.now.view.array - 1) c.args.buf)

pub store-requires-clause-over : goal.store-requires-clause-over
store-requires-clause-over c =
    let here = holds_values c.args.world.now c.args.access.now.view.array c.index-world-place-then-writes.result c.requires.in_array.named.0 (omega (arith, c.requires.in_array.named.1, c.requires.paired)) in
    record {
      shape = shape_in (numbered no_array c.args.arrays.now c.args.access.now.view.array);
      view = c.requires.in_array.view;
      same = ap length (c.deref_mut.ensures.value ∙ here) ∙ c.requires.there (sym c.is_lent.ensures ∙ c.if-is_lent.false);
    }

pub returns-then-writes : goal.returns-then-writes
returns-then-writes c =
    let kept = sym c.is_lent.ensures ∙ c.if-is_lent.false in
    let written = sym c.writes.ensures ∙ c.if-writes.true in
    let here = holds_values c.args.world.now c.args.access.now.view.array c.index-world-place-then-writes.result c.requires.in_array.named.0 (omega (arith, c.requires.in_array.named.1, c.requires.paired)) in
    let place = c.args.access.now.view.array - 1 in
    let stored = c.store.ensures ∙ ap2 (put_at (index_list c.args.access.now.view)) c.deref.ensures.value (c.deref_mut.ensures.value ∙ here) in
    rw (kept, written) (map-set (λ v. v.items) c.args.world.now place (with_items (get_or c.args.world.now place c.index-world-place-then-writes.result) c.store.new.values) ∙ ap (set (lists_of c.args.world.now) place) (items_written (get_or c.args.world.now place c.index-world-place-then-writes.result) c.store.new.values (c.store.auto.values ∙ ap length c.deref_mut.ensures.value) ∙ stored))
