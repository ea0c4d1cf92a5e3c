-- The limits hold after each event.
use Rattle.std.proofs.Common.{◌≡◌, ℕ, arith, refl}
use Rattle.dd_machine.specs.Bytes.{copy_bytes, lent_bytes, resident, running_bytes}
use Rattle.dd_machine.specs.Words.{blocks, spaces, tasks, total}
use Rattle.dd_machine.proofs.TotalsLemmas.{total_zero}
use Rattle.dd_blocks.specs.declared.plan.Plan.{Plan}
use Rattle.dd_machine.specs.declared.event.Event.{Event}
use Rattle.dd_machine.specs.Effects.{after}
use Rattle.dd_machine.specs.Legal.{May}
use Rattle.dd_machine.specs.Runs.{start}
use Rattle.dd_machine.specs.Sound.{IsSound}
use Rattle.dd_machine.specs.States.{State}
use Rattle.dd_machine.specs.SoundLimits.{SoundLimits}
use Rattle.laws_of_limits.proofs.LendsKept.{keeps_lends_open, keeps_lends_pinned}
use Rattle.laws_of_limits.proofs.OrdersKept.{keeps_order_here, keeps_running_here}
use Rattle.laws_of_limits.proofs.OrdersWhole.{keeps_one_worker, keeps_order_has}
use Rattle.laws_of_limits.proofs.PinsKept.{keeps_active_open, keeps_one_each, keeps_pin_calm, keeps_pin_home, keeps_pin_known}
use Rattle.laws_of_limits.proofs.WithinKept.{keeps_within}

pub keeps_limits : (plan : Plan) (st : State) (event : Event) → IsSound plan st → May plan st event → SoundLimits plan (after plan st event)
keeps_limits plan st event sound may = record {
  within = keeps_within plan st event sound may;
  order_here = keeps_order_here plan st event sound may;
  order_has = keeps_order_has plan st event sound may;
  running_here = keeps_running_here plan st event sound may;
  lends_open = keeps_lends_open plan st event sound may;
  lends_pinned = keeps_lends_pinned plan st event sound may;
  active_open = keeps_active_open plan st event sound may;
  one_each = keeps_one_each plan st event sound may;
  one_worker = keeps_one_worker plan st event sound may;
  pin_calm = keeps_pin_calm plan st event sound may;
  pin_home = keeps_pin_home plan st event sound may;
  pin_known = keeps_pin_known plan st event sound may;
}

start_empty : (plan : Plan) (s : ℕ) → resident plan (start plan) s ≡ 0
start_empty plan s =
    let c : copy_bytes plan (start plan) s ≡ 0 = total_zero (blocks plan) (λ b. 0) (λ k is. refl) in
    let l : lent_bytes plan (start plan) s ≡ 0 = total_zero (spaces plan) (λ x. total (blocks plan) (λ b. 0)) (λ k is. total_zero (blocks plan) (λ b. 0) (λ j j_is. refl)) in
    let r : running_bytes plan (start plan) s ≡ 0 = total_zero (tasks plan) (λ t. 0) (λ k is. refl) in
    omega (arith, c, l, r)

pub start_limits : (plan : Plan) → SoundLimits plan (start plan)
start_limits plan = record {
  within = λ s is. omega (arith, start_empty plan s);
  order_here = λ s b h. absurd cc;
  order_has = λ s b h. absurd cc;
  running_here = λ t b h. absurd cc;
  lends_open = λ s b h. absurd cc;
  lends_pinned = λ s b h. absurd cc;
  active_open = λ t h. absurd cc;
  one_each = λ t u h. absurd cc;
  one_worker = λ t u w h. absurd cc;
  pin_calm = λ r h. absurd cc;
  pin_home = λ r s b h. absurd cc;
  pin_known = λ s b h. absurd cc;
}
