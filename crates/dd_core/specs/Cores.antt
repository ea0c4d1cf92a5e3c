-- A core, and the state that it stands for. It is seen as its tables.
use Rattle.dd_blocks.specs.declared.plan.Plan.{Plan}
use Rattle.dd_machine.specs.Sound.{IsSound}
use Rattle.dd_machine.specs.States.{State}
use Rattle.dd_tables.specs.declared.tables.Tables.{Tables}
use Rattle.dd_tables.specs.Sized.{IsSized}
use Rattle.dd_tables.specs.Tables.{state_of}

-- the state of the machine that a core of the Plan stands for
abbrev pub core_state : Plan → Tables → State
core_state plan core = state_of plan core

-- the core is one of the Plan: its tables are, and its state is sound
pub record IsCoreOf (plan : Plan) (core : Tables) : Type 0 where
  pub sized : IsSized plan core
  pub sound : IsSound plan (core_state plan core)
