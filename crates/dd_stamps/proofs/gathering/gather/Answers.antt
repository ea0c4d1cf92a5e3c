use Rattle.std.proofs.Common.{◌≡◌, ℕ, ◌+◌, ◌<◌, length, eq-eqb, refl, sym, ap, ◌∙◌, arith}
use Rattle.std.specs.Prelude.{slice_index}
use Rattle.dd_kernels.specs.Lists.{element}
use Rattle.dd_views.specs.IndexList.{index_list}
use Rattle.dd_views.specs.Positions.{position_in}
use Rattle.dd_views.proofs.WalkLemmas.{all_done}
use Rattle.dd_blocks.specs.Grids.{block_of, place_in_block}
use Rattle.dd_stamps.proofs.ColumnsLemmas.{column_apart, column_at, column_ends, column_in, column_room}
use Rattle.dd_stamps.proofs.GatheredLemmas.{column_gathered, gathering_none, same_numbers}
use Rattle.dd_stamps.proofs.PieceLemmas.{has_places}
use Rattle.dd_stamps.proofs.gathering.gather.Goals as goal

pub piece_of-piece-requires-clause-column : goal.piece_of-piece-requires-clause-column
piece_of-piece-requires-clause-column c = column_in c.args.grid.now c.args.view.now c.loop-j.j c.column-column.result c.requires.grid c.requires.view c.loop-j-test.true c.column-column.ensures.value c.column-column.ensures.step c.column-column.ensures.none c.column-column.ensures.whole (c.column-column.ensures.inside _ c.requires.view)

pub gather_column-requires-clause-places : goal.gather_column-requires-clause-places
gather_column-requires-clause-places c =
    has_places c.args.grid.now c.args.block c.column-column.result c.piece_of-piece.result (length c.args.values.now) c.requires.grid
    (column_in c.args.grid.now c.args.view.now c.loop-j.j c.column-column.result c.requires.grid c.requires.view c.loop-j-test.true c.column-column.ensures.value c.column-column.ensures.step c.column-column.ensures.none c.column-column.ensures.whole (c.column-column.ensures.inside _ c.requires.view))
    c.piece_of-piece.ensures c.requires.full
    (λ i k less few. column_apart c.args.view.now c.loop-j.j c.column-column.result i k (_, c.requires.view) c.loop-j-test.true c.column-column.ensures.value less few)

pub gather_column-requires-clause-room : goal.gather_column-requires-clause-room
gather_column-requires-clause-room c = omega (arith, column_room c.args.view.now c.loop-j.j c.column-column.result c.loop-j-test.true c.column-column.ensures.value, c.loop-j.invariant.place, c.loop-j.auto.into, c.requires.long)

pub overflow_add-at : goal.overflow_add-at
overflow_add-at c = omega (arith, column_room c.args.view.now c.loop-j.j c.column-column.result c.loop-j-test.true c.column-column.ensures.value, c.loop-j.invariant.place, c.loop-j.auto.into, c.requires.long)

pub loop-j-init : goal.loop-j-init
loop-j-init c = record { place = refl; done = gathering_none _ _ c.args.into.now }

pub loop-j-preserved : goal.loop-j-preserved
loop-j-preserved c =
    let view = c.args.view.now in
    let column = c.column-column.result in
    let piece = c.piece_of-piece.ensures in
    let at : (i : ℕ) → i < c.column-column.result.count → slice_index (index_list c.args.view.now) (c.loop-j.at + i) ≡ position_in c.column-column.result i = λ i lt.
    ap (λ (n : ℕ). slice_index (index_list c.args.view.now) (n + i)) c.loop-j.invariant.place ∙ column_at view c.loop-j.j i column c.loop-j-test.true c.column-column.ensures.value lt in
    record {
      place = ap (λ (n : ℕ). n + c.column-column.result.count) c.loop-j.invariant.place ∙ column_ends view c.loop-j.j column c.loop-j-test.true c.column-column.ensures.value;
      done = column_gathered _ _ c.loop-j.at c.column-column.result.count c.piece_of-piece.result.from c.piece_of-piece.result.end _ _ _ _ c.loop-j.invariant.done c.gather_column.ensures piece.few
          (λ i lt is. piece.others i lt (ap (block_of c.args.grid.now) (sym (at i lt)) ∙ same_numbers _ _ is))
          (λ i from lt.
          let less : i < c.column-column.result.count = omega (arith, lt, piece.few) in (
            eq-eqb _ _ (ap (block_of c.args.grid.now) (at i less) ∙ piece.here i from lt),
            ap (element c.args.values.now) (sym (piece.place_is i from lt) ∙ ap (place_in_block c.args.grid.now) (sym (at i less))),
          ));
    }

pub returns : goal.returns
returns c =
    let all : c.loop-j.at ≡ length (index_list c.args.view.now) = c.loop-j.invariant.place ∙ ap length (all_done c.args.view.now c.loop-j.j c.loop-j-test.false) in
    record {
      count = c.loop-j.auto.into;
      each = λ i lt. c.loop-j.invariant.done.done i (omega (arith, all, lt, c.requires.long));
    }
