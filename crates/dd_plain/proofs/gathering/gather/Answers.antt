use Rattle.std.proofs.Common.{◌++◌, ◌+◌, map, ap, sym, ◌∙◌, arith}
use Rattle.std.proofs.lemmas.List.{append-nil, append_assoc, map-append}
use Rattle.dd_kernels.specs.Lists.{element}
use Rattle.dd_views.specs.IndexList.{columns_before, column_list}
use Rattle.dd_views.specs.Positions.{positions_in}
use Rattle.dd_views.proofs.WalkLemmas.{all_done, column_done}
use Rattle.dd_plain.proofs.gathering.gather.Goals as goal

pub gather_column-requires : goal.gather_column-requires
gather_column-requires c = record {
  whole = c.column.ensures.whole;
  inside = λ i lt. omega (arith, c.requires.same, c.column.ensures.inside c.requires.shape c.requires.view i lt);
  none = c.column.ensures.none;
  small = omega (arith, c.requires.same, c.requires.view.small);
}

pub loop-j-preserved : goal.loop-j-preserved
loop-j-preserved c =
    let view = c.args.view.now in
    let done = column_done view c.loop-j.j c.loop-j-test.true in
    let split = ap (map (element c.args.values.now)) done ∙ map-append (element c.args.values.now) (columns_before view c.loop-j.j) (column_list view (c.loop-j.j + 1)) in
    let here = ap (map (element c.args.values.now)) c.column.ensures.value in
    c.in_ok-gather_column.ensures
    ∙ ap (λ l. l ++ map (element c.args.values.now) (positions_in c.column.result)) c.loop-j.invariant
    ∙ append_assoc c.args.buf.now.items _ _
    ∙ ap (λ l. c.args.buf.now.items ++ (map (element c.args.values.now) (columns_before view c.loop-j.j) ++ l)) here
    ∙ ap (λ l. c.args.buf.now.items ++ l) (sym split)

pub loop-j-init : goal.loop-j-init
loop-j-init c = sym (append-nil c.args.buf.now.items)

pub returns : goal.returns
returns c = c.loop-j.invariant ∙ ap (λ l. c.args.buf.now.items ++ map (element c.args.values.now) l) (all_done c.args.view.now c.loop-j.j c.loop-j-test.false)
