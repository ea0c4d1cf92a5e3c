-- What the cells of slots hold.
use Rattle.std.specs.Prelude.{◌≡◌, ℕ, Some}
use Rattle.std.specs.Borrow.{Bor}
use Rattle.std.specs.Coded.{Coded-set, Π_prop, →_prop, ×_prop, coded_ℕ}
use denote.Bor.{shr_coded}
use Rattle.dd_blocks.specs.declared.plan.Plan.{Plan}
use Rattle.dd_blocks.specs.contracts.plan.Plan.{the_row as plan_row}
use Rattle.dd_store.specs.declared.store.Slot.{Ghosts}
use Rattle.dd_pool.specs.declared.spilled.Spilled.{Spilled}
use Rattle.dd_pool.specs.declared.cells.Cells.{Cells}
use Rattle.dd_pool.specs.Cells.{cell}
use Rattle.dd_pool.specs.Places.{IsPlace, place_of}

module _ {S : Type 0} {h : Ghosts S} where
  -- each slot is of this Plan, and of the block of its cell
  abbrev pub AreSlotsOf : Bor Plan → Cells (Spilled S h) → Type 0
  AreSlotsOf plan outs = (space block : ℕ) (out : Spilled S h) → IsPlace plan.now space block → cell outs (place_of plan.now space block) ≡ Some out
      → (out.plan ≡ plan) × (out.block ≡ block)

  pub AreSlotsOf-prop : (plan : Bor Plan) (outs : Cells (Spilled S h)) → IsProp (AreSlotsOf plan outs)
  AreSlotsOf-prop plan outs =
      Π_prop (λ space. Π_prop (λ block. Π_prop (λ out. →_prop (→_prop (×_prop (Coded-set (shr_coded plan_row.coded) out.plan plan) (Coded-set coded_ℕ out.block block))))))
