use Rattle.std.proofs.Common.{◌≡◌, ℕ, ◌-◌, ◌%◌, min, ap, ◌∙◌, arith}
use Rattle.dd_blocks.specs.Grids.{row_of}
use Rattle.dd_transfers.proofs.ColumnsLemmas.{same_block}
use Rattle.dd_transfers.proofs.homes.rows_left.Goals as goal

pub returns-clause-same : goal.returns-clause-same
returns-clause-same c = λ k lt.
    let row : c.args.pos % c.from.result ≡ row_of c.args.grid c.args.pos = ap (λ (rows : ℕ). c.args.pos % rows) c.from.ensures in
    let least = c.min.ensures ∙ ap (λ (r : ℕ). min (c.args.grid.brows - r % c.args.grid.brows) (c.args.grid.rows - r)) row in
    same_block c.args.grid c.args.pos k (omega (arith, lt, least)) (omega (arith, lt, least))
