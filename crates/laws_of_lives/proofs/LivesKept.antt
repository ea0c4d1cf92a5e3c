-- What the statements made is so after each event.
use Rattle.std.proofs.Common.{arith, refl}
use Rattle.dd_machine.specs.Made.{home_made, is_live, pin_made, was_begun, was_closed}
use Rattle.dd_machine.specs.Orderly.{IsOrderly}
use Rattle.dd_blocks.specs.declared.plan.Plan.{Plan}
use Rattle.dd_machine.specs.declared.event.Event.{Event}
use Rattle.dd_machine.specs.Effects.{after}
use Rattle.dd_machine.specs.Legal.{May}
use Rattle.dd_machine.specs.Runs.{start}
use Rattle.dd_machine.specs.Sound.{IsSound}
use Rattle.dd_machine.specs.States.{State}
use Rattle.dd_machine.specs.SoundLives.{SoundLives}
use Rattle.laws_of_lives.proofs.LiveKept.{keeps_home_is, keeps_home_live}
use Rattle.laws_of_lives.proofs.PlaceKept.{keeps_open_begun, keeps_open_next, keeps_pin_is, keeps_touched_live}
use Rattle.laws_of_lives.proofs.OutsideKept.{keeps_at_home, keeps_home_current, keeps_home_idle}
use Rattle.laws_of_lives.proofs.PositionKept.{earlier, keeps_position}
use Rattle.laws_of_lives.proofs.TasksKept.{keeps_begun, keeps_closed_done, keeps_coming_pinned, keeps_current_done}

pub keeps_lives : (plan : Plan) (st : State) (event : Event) → IsOrderly plan → IsSound plan st → May plan st event → SoundLives plan (after plan st event)
keeps_lives plan st event order sound may = record {
  home_live = keeps_home_live plan st event sound may;
  home_is = keeps_home_is plan st event sound may;
  pin_is = keeps_pin_is plan st event sound may;
  open_next = keeps_open_next plan st event order sound may;
  open_begun = keeps_open_begun plan st event sound may;
  touched_live = keeps_touched_live plan st event order sound may;
  at_home = keeps_at_home plan st event sound may;
  home_current = keeps_home_current plan st event order sound may;
  home_idle = keeps_home_idle plan st event sound may;
  position = keeps_position plan st event sound may;
  begun = keeps_begun plan st event sound may;
  closed_done = keeps_closed_done plan st event sound may;
  earlier_done = earlier plan (after plan st event) order (keeps_open_next plan st event order sound may) (keeps_closed_done plan st event sound may);
  current_done = keeps_current_done plan st event sound may;
  coming_pinned = keeps_coming_pinned plan st event sound may;
}

pub start_lives : (plan : Plan) → SoundLives plan (start plan)
unfolding home_made is_live pin_made was_begun was_closed
start_lives plan = record {
  home_live = λ b. refl;
  home_is = λ b. refl;
  pin_is = λ h. refl;
  open_next = λ r h. absurd cc;
  open_begun = λ r h. absurd cc;
  touched_live = λ r t b h. absurd cc;
  at_home = λ out s b h. absurd cc;
  home_current = λ out s b h. absurd cc;
  home_idle = λ out pin s b h. absurd cc;
  position = record { row_within = omega arith; made_within = omega arith };
  begun = λ t h. absurd cc;
  closed_done = λ t is h. absurd cc;
  earlier_done = λ r t h. absurd cc;
  current_done = λ e some. absurd (some refl);
  coming_pinned = λ s b h. absurd cc;
}
