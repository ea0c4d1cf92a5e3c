-- Every state of a legal run is sound.
use Rattle.std.proofs.Common.{List, [], ◌∷◌}
use Rattle.dd_blocks.specs.declared.plan.Plan.{Plan}
use Rattle.dd_blocks.specs.WellFormed.{IsWellFormed}
use Rattle.dd_machine.specs.declared.entry.Entry.{Entry}
use Rattle.dd_machine.specs.declared.event.Event.{Event}
use Rattle.dd_machine.specs.Effects.{after}
use Rattle.dd_machine.specs.Legal.{May}
use Rattle.dd_machine.specs.Orderly.{IsOrderly}
use Rattle.dd_machine.specs.Runs.{IsLegalRun, IsRun, start, state_after, state_of_run}
use Rattle.dd_machine.specs.Sound.{IsSound}
use Rattle.dd_machine.specs.States.{State}
use Rattle.laws_of_limits.proofs.LimitsKept.{keeps_limits, start_limits}
use Rattle.laws_of_lives.proofs.LivesKept.{keeps_lives, start_lives}
use Rattle.laws_of_lives.proofs.OrderlyLemmas.{orderly}
use Rattle.laws_of_moved.proofs.MovedLemmas.{keeps_moved, start_moved}
use Rattle.laws_of_progress.proofs.ProgressKept.{keeps_progress, start_progress}
use Rattle.laws_of_versions.proofs.VersionsWhole.{keeps_versions, start_versions}

-- the start is sound, and each event that is legal in a sound state leaves one
pub start_sound : (plan : Plan) → IsWellFormed plan → IsSound plan (start plan)
start_sound plan well = record {
  lives = start_lives plan;
  limits = start_limits plan;
  versions = start_versions plan;
  progress = start_progress plan well;
  moved = start_moved plan;
}

pub keeps_sound : (plan : Plan) (st : State) (event : Event) → IsWellFormed plan → IsOrderly plan → IsSound plan st → May plan st event → IsSound plan (after plan st event)
keeps_sound plan st event well order sound may =
    let lives = keeps_lives plan st event order sound may in
    let versions = keeps_versions plan st event well order sound may in
    record {
      lives = lives;
      limits = keeps_limits plan st event sound may;
      versions = versions;
      progress = keeps_progress plan st event well order sound may;
      moved = keeps_moved plan st event well order sound may lives versions;
    }

pub sound_after : (plan : Plan) (st : State) (entries : List Entry) → IsWellFormed plan → IsOrderly plan → IsSound plan st → IsRun plan st entries → IsSound plan (state_after plan st entries)
unfolding IsRun state_after
sound_after plan st [] well order sound run = sound
sound_after plan st (entry ∷ entries) well order sound run = sound_after plan (after plan st entry.event) entries well order (keeps_sound plan st entry.event well order sound run.0.1) run.1

pub sound_run : (plan : Plan) (entries : List Entry) → IsWellFormed plan → IsLegalRun plan entries → IsSound plan (state_of_run plan entries)
sound_run plan entries well run = sound_after plan (start plan) entries well (orderly plan well) (start_sound plan well) run
