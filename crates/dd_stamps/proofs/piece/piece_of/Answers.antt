use Rattle.std.proofs.Common.{◌≡◌, ℕ, ◌+◌, ◌*◌, ◌/◌, ◌%◌, ◌-◌, ◌<◌, ◌≤◌, ◌⊎◌, inl, inr, refl, ap, ◌∙◌, arith}
use Rattle.dd_kernels.proofs.ListsLemmas.{ap2}
use Rattle.dd_blocks.specs.Grids.{col_of, col_of_block}
use Rattle.dd_stamps.proofs.PieceLemmas.{block_top, col_elsewhere, col_here, col_start, piece_beside, piece_within_column}
use Rattle.dd_stamps.proofs.piece.piece_of.Goals as goal
use Rattle.dd_stamps.proofs.piece.piece_of.Goals.{then-col-window-via-then-col-window, then-col-window-via-else-col-window+then-window-col}

pub returns-then-col-window : goal.returns-then-col-window
returns-then-col-window c =
    let g = c.args.grid.now in
    let same : c.col_of-col.result ≡ c.args.column.first / g.rows = c.col_of-col.ensures ∙ ap (λ (n : ℕ). c.args.column.first / n) c.from-rows.ensures in
    let apart : (col_of g c.args.column.first < col_of_block g c.args._block * g.bcols) ⊎ (col_of_block g c.args._block * g.bcols + g.bcols ≤ col_of g c.args.column.first) = elim c.then-col-window.branch [
      | then-col-window-via-then-col-window w ↦ inl (omega (arith, w.if-col-window.true, c.requires.window.left, same))
      | then-col-window-via-else-col-window+then-window-col w ↦ inr (omega (arith, w.if-window-col.true, c.requires.window.right, same))
    ] in
    piece_beside g c.args._block (col_of g c.args.column.first) c.args.column _ c.requires.grid c.requires.column refl (col_elsewhere g c.args._block (col_of g c.args.column.first) c.requires.grid apart) refl refl

pub overflow_add-low : goal.overflow_add-low
overflow_add-low c =
    let start : c.col_of-col.result * c.from-rows.result ≤ c.args.column.first = rw (c.col_of-col.ensures) (col_start c.args.column.first c.from-rows.result) in
    omega (arith, start, block_top c.args.grid.now c.args._block c.requires.grid c.requires.block, c.requires.window.top, c.from-rows.ensures, c.requires.column.small)

pub overflow_add-low-2 : goal.overflow_add-low-2
overflow_add-low-2 c =
    let start : c.col_of-col.result * c.from-rows.result ≤ c.args.column.first = rw (c.col_of-col.ensures) (col_start c.args.column.first c.from-rows.result) in
    omega (arith, start, block_top c.args.grid.now c.args._block c.requires.grid c.requires.block, c.requires.window.top, c.requires.window.height, c.from-rows.ensures, c.requires.column.small)

pub between-from-requires-clause-fits : goal.between-from-requires-clause-fits
between-from-requires-clause-fits c =
    let start : c.col_of-col.result * c.from-rows.result ≤ c.args.column.first = rw (c.col_of-col.ensures) (col_start c.args.column.first c.from-rows.result) in
    omega (arith, start, block_top c.args.grid.now c.args._block c.requires.grid c.requires.block, c.requires.window.top, c.requires.window.height, c.from-rows.ensures, c.requires.column.small)

pub returns : goal.returns
returns c =
    let g = c.args.grid.now in
    let col : ℕ = col_of g c.args.column.first in
    let low : ℕ = c.col_of-col.result * c.from-rows.result + c.args.window.top in
    let same : c.col_of-col.result ≡ c.args.column.first / g.rows = c.col_of-col.ensures ∙ ap (λ (n : ℕ). c.args.column.first / n) c.from-rows.ensures in
    let here = col_here g c.args._block col (omega (arith, c.if-col-window.false, c.requires.window.left, same)) (omega (arith, c.if-window-col.false, c.requires.window.right, same)) in
    let shift : c.col_of-col.result - c.args.window.left ≡ col % g.bcols = omega (arith, c.requires.window.left, same, here.1) in
    piece_within_column g c.args._block col low (low + c.args.window.height) c.args.column _ c.requires.grid c.requires.block c.requires.column refl here.0
    (ap2 (λ (m n : ℕ). m * n + c.args.window.top) same c.from-rows.ensures ∙ ap (λ (n : ℕ). col * g.rows + n) c.requires.window.top)
    (ap (λ (n : ℕ). low + n) c.requires.window.height)
    refl
    (ap2 (λ (m n : ℕ). m * n) shift c.requires.window.height)
    c.between-from.ensures.order c.between-from.ensures.few c.between-from.ensures.inside c.between-from.ensures.others
