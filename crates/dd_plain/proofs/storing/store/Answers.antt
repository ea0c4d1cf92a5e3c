use Rattle.std.proofs.Common.{length, ap, sym, ◌∙◌, arith}
use Rattle.dd_views.proofs.WalkLemmas.{index_list_cut, none_left}
use Rattle.dd_meaning.specs.Steps.{put_at}
use Rattle.dd_plain.proofs.WalkLemmas.{column_ahead, column_stored}
use Rattle.dd_plain.proofs.storing.store.Goals as goal

pub split_at-requires : goal.split_at-requires
split_at-requires c = omega (arith, c.loop-j.invariant.long, column_ahead c.args.view.now c.loop-j.j c.column-column.result c.loop-j-test.true c.column-column.ensures.value)

pub store_column-requires : goal.store_column-requires
store_column-requires c = record {
  within = record {
    whole = c.column-column.ensures.whole;
    inside = λ i lt. omega (arith, c.loop-j.auto.values, c.requires.over.same, c.column-column.ensures.inside c.requires.over.shape c.requires.over.view i lt);
    none = c.column-column.ensures.none;
    small = omega (arith, c.loop-j.auto.values, c.requires.over.same, c.requires.over.view.small);
  };
  long = c.split_at.ensures.front_len;
}

pub loop-j-preserved : goal.loop-j-preserved
loop-j-preserved c =
    let view = c.args.view.now in
    let column = c.column-column.result in
    let lt = c.loop-j-test.true in
    let value = c.column-column.ensures.value in
    let stored = column_stored view c.loop-j.j column c.loop-j.rest.now c.loop-j.values lt value c.loop-j.invariant.long in
    record {
      left = rw (c.store_column.ensures, c.split_at.ensures.front, c.split_at.ensures.back) (stored ∙ c.loop-j.invariant.left);
      long = omega (arith, c.split_at.ensures.back_len, c.loop-j.invariant.long, column_ahead view c.loop-j.j column lt value);
    }

pub loop-j-init : goal.loop-j-init
loop-j-init c = record {
  left = ap (λ ps. put_at ps c.args.from.now c.args.values.now) (sym (index_list_cut c.args.view.now 0));
  long = c.requires.long ∙ ap length (index_list_cut c.args.view.now 0);
}

pub returns : goal.returns
returns c =
    let none = none_left c.args.view.now c.loop-j.j c.loop-j-test.false in
    sym (ap (λ ps. put_at ps c.loop-j.rest.now c.loop-j.values) none) ∙ c.loop-j.invariant.left
