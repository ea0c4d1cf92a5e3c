-- The values of all arrays.
use Rattle.std.specs.Prelude.{ℕ, ◌+◌, ◌/◌, ◌^◌, ℤ, pos, ◌+ℤ◌, ◌*ℤ◌, List, [], map}
use Rattle.std.specs.Int.{int_rem_euclid}
use Rattle.std.specs.Int.RustNames.{unsigned_abs}
use Rattle.std.specs.List.{range_with_len}
use Rattle.dd_blocks.specs.declared.array_row.ArrayRow.{ArrayRow}
use Rattle.dd_blocks.specs.declared.fill.Fill.{Fill}
use Rattle.dd_blocks.specs.declared.fill.Fill.TheVariants.{Zeros, Const, Iota, Lcg}
use Rattle.dd_blocks.specs.declared.plan.Plan.{Plan}
use Rattle.dd_blocks.specs.Grids.{element_count}
use Rattle.dd_blocks.specs.Numbered.{numbered}

-- for each array, in the order of their numbers, its values, column by column
abbrev pub World : Type 0
World = List (List ℤ)

-- the values of an array, by its number
abbrev pub values_of : World → ℕ → List ℤ
values_of world array = numbered [] world array

-- a number of 31 bits: a linear congruence modulo 2^64, without its last 33 bits
abbrev pub lcg : ℤ → ℕ → ℕ
lcg seed p = unsigned_abs (int_rem_euclid ((seed +ℤ pos (p + 1)) *ℤ pos 6364136223846793005 +ℤ pos 1442695040888963407) (pos (2 ^ 64))) / 2 ^ 33

-- what a fill puts at a position, from 0
abbrev pub filled_at : Fill → ℕ → ℤ
filled_at Zeros p = pos 0
filled_at (Const k) p = k
filled_at Iota p = pos (p + 1)
filled_at (Lcg seed) p = pos (lcg seed p)

-- an array as it is filled at first
abbrev pub filled : ArrayRow → List ℤ
filled array = map (filled_at array.fill) (range_with_len 0 (element_count array.grid))

-- all arrays so
abbrev pub filled_world : Plan → World
filled_world plan = map filled plan.arrays
