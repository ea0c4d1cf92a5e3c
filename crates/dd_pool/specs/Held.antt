-- What the cells of copies hold.
use Rattle.std.specs.Prelude.{◌≡◌, ℕ, ◌-◌, ◌*◌, List, length, Option, None, Some, sum_by, slice_index}
use Rattle.std.specs.List.{range_with_len}
use Rattle.std.specs.Borrow.{Bor}
use Rattle.std.specs.Coded.{Coded-set, Π_prop, →_prop, ×_prop, coded_ℕ}
use denote.Bor.{shr_coded}
use Rattle.dd_blocks.specs.declared.plan.Plan.{Plan}
use Rattle.dd_blocks.specs.contracts.plan.Plan.{the_row as plan_row}
use Rattle.dd_blocks.specs.Numbered.{IsNumberIn}
use Rattle.dd_stamps.specs.declared.stamped.Stamped.{Stamped}
use Rattle.dd_stamps.specs.Cells.{size_of}
use Rattle.dd_pool.specs.declared.cells.Cells.{Cells}
use Rattle.dd_pool.specs.Cells.{cell}
use Rattle.dd_pool.specs.Places.{IsPlace, place_of}

-- the bytes of a block of so many elements, if there is a copy of it
abbrev pub bytes_if : {T : Type 0} → ℕ → Option T → ℕ
bytes_if size None = 0
bytes_if size (Some copy) = 8 * size

-- the bytes of the copies of a space
abbrev pub bytes_in : Plan → Cells Stamped → ℕ → ℕ
bytes_in plan cells space = sum_by (λ block. bytes_if (size_of plan block) (cell cells (place_of plan space block))) (range_with_len 1 (length plan.blocks))

-- the number at each space's place is that of its bytes
abbrev pub AreCounted : Plan → Cells Stamped → List ℕ → Type 0
AreCounted plan cells sizes = (space : ℕ) → IsNumberIn plan.spaces space → slice_index sizes (space - 1) ≡ bytes_in plan cells space

-- each copy is of this Plan, and of the block of its cell
abbrev pub AreOurs : Bor Plan → Cells Stamped → Type 0
AreOurs plan cells = (space block : ℕ) (copy : Stamped) → IsPlace plan.now space block → cell cells (place_of plan.now space block) ≡ Some copy
    → (copy.plan ≡ plan) × (copy.block ≡ block)

pub AreOurs-prop : (plan : Bor Plan) (cells : Cells Stamped) → IsProp (AreOurs plan cells)
AreOurs-prop plan cells =
    Π_prop (λ space. Π_prop (λ block. Π_prop (λ copy. →_prop (→_prop (×_prop (Coded-set (shr_coded plan_row.coded) copy.plan plan) (Coded-set coded_ℕ copy.block block))))))
