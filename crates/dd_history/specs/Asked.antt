-- What is assumed where places of a block are asked for: cited by private contracts alone.
use Rattle.std.specs.Prelude.{◌≡◌, ℕ, List, length}
use Rattle.dd_blocks.specs.declared.plan.Plan.{Plan}
use Rattle.dd_blocks.specs.Homes.{home_in_region}
use Rattle.dd_blocks.specs.Numbered.{IsNumberIn, block_row}
use Rattle.dd_blocks.specs.WellFormed.{IsWellFormed}
use Rattle.dd_history.specs.Currents.{AreVersions}

pub record IsAsked (plan : Plan) (region number space : ℕ) (current copy : List ℕ) : Type 0 where
  pub well : IsWellFormed plan
  pub versions : AreVersions plan current
  pub block : IsNumberIn plan.blocks number
  pub home : space ≡ home_in_region plan region number
  pub held : length copy ≡ (block_row plan number).size
