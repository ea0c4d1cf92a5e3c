use Rattle.dd_blocks.specs.Grids.{pos_of}
use Rattle.dd_stamps.specs.Stored.{some_writes}
use Rattle.dd_stamps.proofs.stamped.Stamped.store_outputs.Given as goal

abbrev pub ghost-store_all : goal.ghost-store_all
ghost-store_all a = λ q. some_writes a.accesses.now (record { array = a.array; pos = pos_of a.grid.now a.block q })
