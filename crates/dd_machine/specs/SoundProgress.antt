-- The sound state: what keeps it from being stuck.
use Rattle.std.specs.Prelude.{◌≡◌, ℕ, suc, ◌*◌, ◌≤◌, ◌<◌, nat_eq, true, false, List, [], ◌∷◌, Some}
use Rattle.dd_blocks.specs.declared.plan.Plan.{Plan}
use Rattle.dd_machine.specs.declared.task_state.TaskState.TheVariants.{Held}
use Rattle.dd_machine.specs.Bytes.{reserved}
use Rattle.dd_machine.specs.Needed.{is_needed, own_space}
use Rattle.dd_machine.specs.States.{State}
use Rattle.dd_machine.specs.Tests.{Has, is_any, is_here, is_lent}
use Rattle.dd_machine.specs.Words.{IsOneOf, blocks, bytes, has_number, limit, size, spaces, touches}

-- a copy that is lent to a task is still needed by it
abbrev pub IsLentTo : Plan → State → ℕ → ℕ → ℕ → Type 0
IsLentTo plan st task block source = (st.tasks task ≡ Held) × ((i : ℕ) × (i < size plan block) × (is_needed plan st task block source i ≡ true))

-- the space is one of the Plan, and the block fits twice into it
abbrev pub FitsTwice : Plan → ℕ → ℕ → Type 0
FitsTwice plan space block = IsOneOf (spaces plan) space × (2 * bytes plan block ≤ limit plan space)

-- no number stands twice in the list
abbrev pub IsOnce : List ℕ → Type 0
IsOnce [] = Unit {0}
IsOnce (x ∷ xs) = (has_number xs x ≡ false) × IsOnce xs

pub record SoundProgress (plan : Plan) (st : State) : Type 0 where
  -- what is pinned fits
  pub reserved_within : (s : ℕ) → IsOneOf (spaces plan) s → reserved plan st s ≤ limit plan s
  -- a block fits twice into its home
  pub home_fits : (b : ℕ) → IsOneOf (blocks plan) b → FitsTwice plan (st.homes b) b
  -- the copies are of the Plan; in an open region each has one at the home beside it, and the pinned copy is there
  pub copy_known : (s b : ℕ) → Has st s b is_any → IsOneOf (spaces plan) s × IsOneOf (blocks plan) b
  pub copy_home : (r s b : ℕ) → st.region ≡ Some r → Has st s b is_any → Has st (st.homes b) b is_any
  pub pin_there : (r s b : ℕ) → st.region ≡ Some r → st.pin ≡ Some (s, b) → Has st s b is_any
  -- a copy that is lent to a task: the task is Held and still needs some of it, touches the block, has it Here, and no other lend
  pub lends_held : (s b t : ℕ) → Has st s b (is_lent (λ u. nat_eq u (suc t))) → IsLentTo plan st (suc t) b s
  pub lends_touched : (s b t : ℕ) → Has st s b (is_lent (λ u. nat_eq u (suc t))) → touches plan (suc t) b ≡ true
  pub lends_here : (s b t : ℕ) → Has st s b (is_lent (λ u. nat_eq u t)) → Has st (own_space plan st t b) b is_here
  pub lends_once : (s b x c t : ℕ) → Has st s b (is_lent (λ u. nat_eq u t)) → Has st x c (is_lent (λ u. nat_eq u t)) → (s ≡ x) × (b ≡ c)
  -- an order lists no block twice
  pub order_once : (s : ℕ) → IsOnce (st.orders s)
