-- What the conditions of events say of blocks and tasks.
use Rattle.std.proofs.Common.{◌≡◌, ℕ, true, false, Option, Some, None, refl, sym, ◌∙◌, subst}
use Rattle.std.specs.Prelude.{IfSome}
use Rattle.std.specs.List.{Contains}
use Rattle.std.proofs.lemmas.Bool.{false_from_ne_true}
use Rattle.dd_blocks.specs.declared.plan.Plan.{Plan}
use Rattle.dd_copies.proofs.CellsLemmas.{there_in}
use Rattle.dd_lists.proofs.ListsLemmas.{has_number as in_number}
use Rattle.dd_machine.specs.declared.copy_state.CopyState.{CopyState}
use Rattle.dd_machine.specs.declared.copy_state.CopyState.TheVariants.{Here, Leaving, Out, Coming, Lent}
use Rattle.dd_machine.specs.declared.task_state.TaskState.{TaskState}
use Rattle.dd_machine.specs.declared.task_state.TaskState.TheVariants.{Waiting, Held, Running, Done}
use Rattle.dd_machine.specs.Bytes.{is_pinned, order_policy, victim}
use Rattle.dd_machine.specs.Sound.{IsSound}
use Rattle.dd_machine.specs.States.{Copy, State}
use Rattle.dd_machine.specs.Tests.{is_active, is_coming, is_here, is_in_state, is_running}
use Rattle.dd_machine.specs.Words.{IsOneOf, blocks, has_number, tasks}
use Rattle.dd_recency.proofs.VictimLemmas.{victim-among}
use Rattle.dd_tables.specs.declared.tables.Tables.{Tables}
use Rattle.dd_tables.specs.Sized.{IsSized}
use Rattle.dd_tables.specs.Tables.{state_of}

-- the victim of a space is in its order, and so a block of the Plan
picked_is : (plan : Plan) (st : State) (space block : ℕ) → victim plan st space ≡ Some block → has_number (st.orders space) block ≡ true
picked_is plan st space block is =
    in_number (st.orders space) block
    (subst (λ (o : Option ℕ). IfSome o (Contains (st.orders space))) is (victim-among (order_policy plan.policy) (is_pinned plan st space) (st.orders space)))

pub picked_block : (plan : Plan) (tables : Tables) (space block : ℕ) → IsSized plan tables → IsSound plan (state_of plan tables) → victim plan (state_of plan tables) space ≡ Some block → IsOneOf (blocks plan) block
picked_block plan tables space block sized sound is =
    (there_in plan tables.copies is_here space block sized.copies (sound.limits.order_here space block (picked_is plan (state_of plan tables) space block is))).1

-- a block that isn't in memory isn't in the order
pub not_listed : (plan : Plan) (st : State) (space block : ℕ) → IsSound plan st → is_in_state is_here (st.copies space block) ≡ false → has_number (st.orders space) block ≡ false
not_listed plan st space block sound away =
    false_from_ne_true (has_number (st.orders space) block) (λ on. let f : true ≡ false = sym (sound.limits.order_here space block on) ∙ away in cc)

pub coming_away : (copy : Option Copy) → is_in_state is_coming copy ≡ true → is_in_state is_here copy ≡ false
coming_away None e = refl
coming_away (Some c) e = by c.state e
  where
    by : (s : CopyState) → is_coming s ≡ true → is_here s ≡ false
    by Here h = cc
    by Leaving h = refl
    by Out h = refl
    by Coming h = refl
    by (Lent t) h = refl

-- a task that runs is at work, so one of the Plan
pub running_active : (s : TaskState) → is_running s ≡ true → is_active s ≡ true
running_active Waiting e = cc
running_active Held e = cc
running_active (Running w) e = refl
running_active Done e = cc

pub active_known : (plan : Plan) (tables : Tables) (task : ℕ) → IsSized plan tables → is_active ((state_of plan tables).tasks task) ≡ true → IsOneOf (tasks plan) task
active_known plan tables task sized on = (sized.at_work.active task on).0
