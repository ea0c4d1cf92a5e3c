-- What the end of a region asks of each copy.
use Rattle.std.specs.Prelude.{◌≡◌, ℕ, true}
use Rattle.dd_blocks.specs.declared.plan.Plan.{Plan}
use Rattle.dd_machine.specs.Needed.{is_current}
use Rattle.dd_machine.specs.States.{State}
use Rattle.dd_machine.specs.Tests.{Has, is_any, is_idle}

-- the copy of a block in a space, where there is one, is Here or Out, at its home, and all its versions are current
pub record IsAtHome (plan : Plan) (st : State) (space block : ℕ) : Type 0 where
  pub idle : Has st space block is_any → Has st space block is_idle
  pub at_home : Has st space block is_any → st.homes block ≡ space
  pub current : Has st space block is_any → is_current plan st space block ≡ true
