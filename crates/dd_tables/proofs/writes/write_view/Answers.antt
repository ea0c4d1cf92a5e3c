use Rattle.std.proofs.Common.{◌<◌, ◌+◌, ◌^◌, ℕ, List, get_or, length, set, ap, ◌∙◌, arith, rules}
use Rattle.dd_copies.proofs.CellsLemmas.{length_same}
use Rattle.dd_spans.specs.PlaceMap.{PlaceMap}
use Rattle.dd_views.specs.IndexList.{index_list}
use Rattle.dd_tables.proofs.CurrentsLemmas.{view_more}
use Rattle.dd_tables.proofs.writes.write_view.Goals as goal

pub overflow_add-first : goal.overflow_add-first
overflow_add-first c =
    let lt : c.loop-i.i < length (index_list c.args.view.now) = (let end = c.loop-i-test.true in let len = c.len-i-end.ensures.value in omega (arith, end, len)) in
    let within = c.requires.within c.loop-i.i lt in
    let at = c.at.ensures.value in
    let small = c.requires.small in
    let h : c.args.first + c.at.result < 2 ^ 32 = omega (arith, within, at, small) in
    search (rules, h)

pub set-requires : goal.set-requires
set-requires c =
    let lt : c.loop-i.i < length (index_list c.args.view.now) = (let end = c.loop-i-test.true in let len = c.len-i-end.ensures.value in omega (arith, end, len)) in
    let within = c.requires.within c.loop-i.i lt in
    let at = c.at.ensures.value in
    let len = c.loop-i.invariant.len in
    omega (arith, within, at, len)

pub loop-i-preserved : goal.loop-i-preserved
loop-i-preserved c =
    let lt : c.loop-i.i < length (index_list c.args.view.now) = (let end = c.loop-i-test.true in let len = c.len-i-end.ensures.value in omega (arith, end, len)) in
    let within = c.requires.within c.loop-i.i lt in
    let at = c.at.ensures.value in
    let len = c.loop-i.invariant.len in
    let there : c.args.first + get_or (index_list c.args.view.now) c.loop-i.i 0 < length c.loop-i.current.list = omega (arith, within, len) in
    let place = ap (λ (pos : ℕ). set c.loop-i.current.list (c.args.first + pos) c.args.version) at in
    record {
      len = ap (λ (m : PlaceMap). length m.list) c.set.ensures ∙ length_same c.loop-i.current.list (c.args.first + c.at.result) c.args.version ∙ len;
      values = λ n.
          ap (λ (m : PlaceMap). get_or m.list n 0) c.set.ensures ∙ ap (λ (xs : List ℕ). get_or xs n 0) place
          ∙ view_more c.args.first c.args.version n c.loop-i.i (index_list c.args.view.now) c.loop-i.current.list c.args.current.now.list lt there (c.loop-i.invariant.values n);
    }
