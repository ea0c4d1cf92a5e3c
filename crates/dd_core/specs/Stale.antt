-- Home copies that lack something.
use Rattle.std.specs.Prelude.{ℕ, ◌&&◌, not, Bool}
use Rattle.dd_blocks.specs.declared.plan.Plan.{Plan}
use Rattle.dd_machine.specs.Needed.{is_current}
use Rattle.dd_machine.specs.States.{State}
use Rattle.dd_machine.specs.Tests.{is_any, is_in_state}

-- the block has a home copy, and that lacks the current version of an element
abbrev pub is_stale : Plan → State → ℕ → Bool
is_stale plan st block = is_in_state is_any (st.copies (st.homes block) block) && not (is_current plan st (st.homes block) block)
