use Rattle.std.proofs.Common.{ℕ, ◌+◌, ◌≤◌, ℤ, cond, List, take, drop, length, sym, ap, ◌∙◌, arith}
use Rattle.std.specs.Prelude.{slice_index}
use Rattle.dd_kernels.specs.Lists.{element}
use Rattle.dd_views.specs.IndexList.{columns_from}
use Rattle.dd_views.proofs.WalkLemmas.{none_left}
use Rattle.dd_blocks.specs.Grids.{pos_of}
use Rattle.dd_meaning.specs.Written.{put_value}
use Rattle.dd_spans.specs.Numbers.{is_among}
use Rattle.dd_stamps.proofs.ColumnsLemmas.{column_apart, column_ends, column_in, column_room}
use Rattle.dd_stamps.proofs.PieceLemmas.{has_places}
use Rattle.dd_stamps.proofs.PutLemmas.{column_put, column_stamped, piece_written, placed_behind, placed_long, put_left, stamp_left}
use Rattle.dd_stamps.proofs.StampsLemmas.{may_still, spends_more}
use Rattle.dd_stamps.proofs.storing.store.Goals as goal

pub piece_of-piece-requires-clause-column : goal.piece_of-piece-requires-clause-column
piece_of-piece-requires-clause-column g c =
    column_in c.args.grid.now c.args.view.now c.loop-j.j c.column-column.result c.requires.0 c.requires.1.0 c.loop-j-test.true c.column-column.ensures.value c.column-column.ensures.step c.column-column.ensures.none c.column-column.ensures.whole (c.column-column.ensures.inside _ c.requires.1.0)

pub store_column-requires : goal.store_column-requires
store_column-requires g c =
    let grid = c.requires.0 in
    let view = c.requires.1.0 in
    let long = c.requires.1.1.1.0 in
    let full = c.requires.1.1.1.1.0 in
    let stamps = c.requires.1.1.1.1.1.0 in
    let written = c.requires.1.1.1.1.1.1.0 in
    let may = c.requires.1.1.1.1.1.1.1 in
    let lt = c.loop-j-test.true in
    let value = c.column-column.ensures.value in
    let column = column_in c.args.grid.now c.args.view.now c.loop-j.j c.column-column.result grid view lt value c.column-column.ensures.step c.column-column.ensures.none c.column-column.ensures.whole (c.column-column.ensures.inside _ view) in (
      has_places c.args.grid.now c.args.block c.column-column.result c.piece_of-piece.result (length c.loop-j.values) grid column c.piece_of-piece.ensures (c.loop-j.invariant.full ∙ full)
          (λ i k less few. column_apart c.args.view.now c.loop-j.j c.column-column.result i k (_, view) lt value less few),
      (
        c.loop-j.invariant.stamps ∙ stamps ∙ sym (c.loop-j.invariant.full ∙ full),
        (
          omega (arith, column_room c.args.view.now c.loop-j.j c.column-column.result lt value, c.loop-j.invariant.place, long),
          (
            λ i from less. piece_written c.args.grid.now c.args.block c.args.view.now c.loop-j.j c.column-column.result c.piece_of-piece.result g.written i grid lt value column c.piece_of-piece.ensures written from less,
            may_still g.written c.args.task c.args.versions.now c.loop-j.versions may c.loop-j.invariant.spare,
          ),
        ),
      ),
    )

pub overflow_add-at : goal.overflow_add-at
overflow_add-at g c =
    omega (arith, column_room c.args.view.now c.loop-j.j c.column-column.result c.loop-j-test.true c.column-column.ensures.value, c.loop-j.invariant.place, c.requires.1.1.1.0)

pub loop-j-preserved : goal.loop-j-preserved
loop-j-preserved g c =
    let grid = c.requires.0 in
    let view = c.requires.1.0 in
    let block = c.requires.1.1.0 in
    let long = c.requires.1.1.1.0 in
    let lt = c.loop-j-test.true in
    let value = c.column-column.ensures.value in
    let column = column_in c.args.grid.now c.args.view.now c.loop-j.j c.column-column.result grid view lt value c.column-column.ensures.step c.column-column.ensures.none c.column-column.ensures.whole (c.column-column.ensures.inside _ view) in
    let room : c.loop-j.at + c.column-column.result.count ≤ length c.args.from.now = omega (arith, column_room c.args.view.now c.loop-j.j c.column-column.result lt value, c.loop-j.invariant.place, long) in
    let vs : List ℤ = take c.column-column.result.count (drop c.loop-j.at c.args.from.now) in
    record {
      place = ap (λ (n : ℕ). n + c.column-column.result.count) c.loop-j.invariant.place ∙ column_ends c.args.view.now c.loop-j.j c.column-column.result lt value;
      full = c.store_column.ensures.values.count ∙ c.loop-j.invariant.full;
      stamps = c.store_column.ensures.versions.count ∙ c.loop-j.invariant.stamps;
      values = λ q less.
          let here = column_put c.args.grid.now c.args.block c.args.view.now c.loop-j.j c.column-column.result c.piece_of-piece.result vs c.loop-j.values c.store_column.new.values q grid block column c.piece_of-piece.ensures
          (λ i k less few. column_apart c.args.view.now c.loop-j.j c.column-column.result i k (_, view) lt value less few)
          (placed_long c.loop-j.at c.column-column.result.count c.args.from.now room) less
          (placed_behind c.column-column.result c.piece_of-piece.result c.loop-j.at c.args.from.now c.loop-j.values c.store_column.new.values room c.piece_of-piece.ensures.few c.store_column.ensures.values) in
          ap (put_value (columns_from c.args.view.now (c.loop-j.j + 1)) (drop (c.loop-j.at + c.column-column.result.count) c.args.from.now) (pos_of c.args.grid.now c.args.block q)) here
          ∙ put_left c.args.view.now c.loop-j.j c.column-column.result c.loop-j.at c.args.from.now (pos_of c.args.grid.now c.args.block q) (element c.loop-j.values q) lt value room
          ∙ c.loop-j.invariant.values q less;
      versions = λ q less.
          ap (cond (is_among (columns_from c.args.view.now (c.loop-j.j + 1)) (pos_of c.args.grid.now c.args.block q)) c.args.task) (column_stamped c.args.grid.now c.args.block c.column-column.result c.piece_of-piece.result c.args.task c.loop-j.versions.list c.store_column.new.versions.list q grid block column c.piece_of-piece.ensures less c.store_column.ensures.versions)
          ∙ stamp_left c.args.view.now c.loop-j.j c.column-column.result c.args.task (pos_of c.args.grid.now c.args.block q) (slice_index c.loop-j.versions.list q) lt value
          ∙ c.loop-j.invariant.versions q less;
      spare = spends_more g.written c.args.task c.args.versions.now c.loop-j.versions c.store_column.new.versions c.loop-j.invariant.spare c.store_column.ensures.spare;
    }

pub returns-clause-values : goal.returns-clause-values
returns-clause-values g c =
    let none = none_left c.args.view.now c.loop-j.j c.loop-j-test.false in
    record {
      count = c.loop-j.invariant.full;
      each = λ q lt. sym (ap (λ (ps : List ℕ). put_value ps (drop c.loop-j.at c.args.from.now) (pos_of c.args.grid.now c.args.block q) (element c.loop-j.values q)) none) ∙ c.loop-j.invariant.values q lt;
    }

pub returns-clause-versions : goal.returns-clause-versions
returns-clause-versions g c =
    let none = none_left c.args.view.now c.loop-j.j c.loop-j-test.false in
    record {
      count = c.loop-j.invariant.stamps;
      each = λ q lt. sym (ap (λ (ps : List ℕ). cond (is_among ps (pos_of c.args.grid.now c.args.block q)) c.args.task (slice_index c.loop-j.versions.list q)) none) ∙ c.loop-j.invariant.versions q lt;
    }
