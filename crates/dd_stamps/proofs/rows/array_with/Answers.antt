use Rattle.std.proofs.Common.{refl}
use Rattle.dd_blocks.proofs.LayoutLemmas.{block_stands}
use Rattle.dd_stamps.proofs.rows.array_with.Goals as goal

pub array_row-requires : goal.array_row-requires
array_row-requires c = rw c.block_row.ensures (block_stands c.args.plan.now c.requires.well.layout c.args.block c.requires.known).array

pub returns : goal.returns
returns c =
    let stands = block_stands c.args.plan.now c.requires.well.layout c.args.block c.requires.known in
    rw (c.array_row.ensures, c.block_row.ensures) (record { row = refl; low = stands.low; grid = stands.grid; high = stands.high; size = stands.size })
