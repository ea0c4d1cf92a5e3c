-- What keeps a state from being stuck holds after each event.
use Rattle.dd_blocks.specs.declared.plan.Plan.{Plan}
use Rattle.dd_blocks.specs.WellFormed.{IsWellFormed}
use Rattle.dd_machine.specs.declared.event.Event.{Event}
use Rattle.dd_machine.specs.Effects.{after}
use Rattle.dd_machine.specs.Legal.{May}
use Rattle.dd_machine.specs.Orderly.{IsOrderly}
use Rattle.dd_machine.specs.Runs.{start}
use Rattle.dd_machine.specs.Sound.{IsSound}
use Rattle.dd_machine.specs.States.{State}
use Rattle.dd_machine.specs.SoundProgress.{SoundProgress}
use Rattle.laws_of_progress.proofs.CopiesKept.{keeps_copy_home, keeps_copy_known, keeps_pin_there}
use Rattle.laws_of_progress.proofs.HomesKept.{first_fits, keeps_home_fits}
use Rattle.laws_of_progress.proofs.LendsWhole.{keeps_lends_held, keeps_lends_here}
use Rattle.laws_of_progress.proofs.LendsOnce.{keeps_lends_once}
use Rattle.laws_of_progress.proofs.OrdersOnce.{keeps_order_once}
use Rattle.laws_of_progress.proofs.ReservedKept.{keeps_reserved_within, start_reserved}
use Rattle.std.proofs.Common.{ap, arith, eqb, suc, true, ℕ, ◌≡◌}
use Rattle.dd_machine.specs.Tests.{Has, is_active, is_lent}
use Rattle.dd_machine.specs.Words.{element, touches}
use Rattle.laws_of_limits.proofs.PinsKept.{keeps_active_open}
use Rattle.laws_of_lives.proofs.ElementsLemmas.{touches_used}
use Rattle.laws_of_versions.proofs.ConflictLemmas.{reads_needed, use_of_read}

-- a lent block is one that its task touches
keeps_lends_touched : (plan : Plan) (st : State) (event : Event) → IsWellFormed plan → IsOrderly plan → IsSound plan st → May plan st event
    → (s b t : ℕ) → Has (after plan st event) s b (is_lent (λ u. eqb u (suc t))) → touches plan (suc t) b ≡ true
keeps_lends_touched plan st event well order sound may s b t lent =
    let still = keeps_lends_held plan st event well order sound sound.progress may s b t lent in
    let of = keeps_active_open plan st event sound may (suc t) (ap is_active still.0) in
    let i = still.1.0 in
    touches_used plan well (suc t) b i of.2.0 still.1.1 (use_of_read plan (suc t) (element plan b i) (reads_needed plan (after plan st event) (suc t) b s i (omega arith) still.1.2))

pub keeps_progress : (plan : Plan) (st : State) (event : Event) → IsWellFormed plan → IsOrderly plan → IsSound plan st → May plan st event → SoundProgress plan (after plan st event)
keeps_progress plan st event well order sound may = record {
  reserved_within = keeps_reserved_within plan st event well sound sound.progress may;
  home_fits = keeps_home_fits plan st event well sound.progress may;
  copy_known = keeps_copy_known plan st event well sound sound.progress may;
  copy_home = keeps_copy_home plan st event sound sound.progress may;
  pin_there = keeps_pin_there plan st event sound.progress may;
  lends_held = keeps_lends_held plan st event well order sound sound.progress may;
  lends_touched = keeps_lends_touched plan st event well order sound may;
  lends_here = keeps_lends_here plan st event well sound sound.progress may;
  lends_once = keeps_lends_once plan st event sound.progress may;
  order_once = keeps_order_once plan st event sound.progress may;
}

pub start_progress : (plan : Plan) → IsWellFormed plan → SoundProgress plan (start plan)
start_progress plan well = record {
  reserved_within = start_reserved plan;
  home_fits = first_fits plan well;
  copy_known = λ s b any. absurd cc;
  copy_home = λ r s b open_is. absurd cc;
  pin_there = λ r s b open_is. absurd cc;
  lends_held = λ s b t lent. absurd cc;
  lends_touched = λ s b t lent. absurd cc;
  lends_here = λ s b t lent. absurd cc;
  lends_once = λ s b x c t lent. absurd cc;
  order_once = λ s. tt;
}
