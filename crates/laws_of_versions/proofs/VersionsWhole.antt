-- The versions are sound after each event.
use Rattle.dd_blocks.specs.WellFormed.{IsWellFormed}
use Rattle.dd_machine.specs.Orderly.{IsOrderly}
use Rattle.dd_blocks.specs.declared.plan.Plan.{Plan}
use Rattle.dd_machine.specs.declared.event.Event.{Event}
use Rattle.dd_machine.specs.Effects.{after}
use Rattle.dd_machine.specs.Legal.{May}
use Rattle.dd_machine.specs.Runs.{start}
use Rattle.dd_machine.specs.Sound.{IsSound}
use Rattle.dd_machine.specs.States.{State}
use Rattle.dd_machine.specs.SoundVersions.{SoundVersions}
use Rattle.laws_of_versions.proofs.DoneKept.{keeps_current_last, keeps_deps_done}
use Rattle.laws_of_versions.proofs.ReadsKept.{keeps_reads_kept}
use Rattle.laws_of_versions.proofs.SourceKept.{keeps_source_holds}
use Rattle.laws_of_versions.proofs.VersionsKept.{keeps_sized, keeps_version_known}
use Rattle.laws_of_versions.proofs.ClosedLemmas.{current_among}
use Rattle.laws_of_lives.proofs.TasksKept.{keeps_current_done}
use Rattle.std.proofs.Common.{refl}

pub keeps_versions : (plan : Plan) (st : State) (event : Event) → IsWellFormed plan → IsOrderly plan → IsSound plan st → May plan st event → SoundVersions plan (after plan st event)
keeps_versions plan st event well order sound may = record {
  current_is = λ e. current_among plan (after plan st event) e (keeps_current_done plan st event sound may e) (keeps_current_last plan st event well order sound may e);
  deps_done = keeps_deps_done plan st event sound may;
  current_last = keeps_current_last plan st event well order sound may;
  sized = keeps_sized plan st event sound may;
  version_known = keeps_version_known plan st event well order sound may;
  source_holds = keeps_source_holds plan st event well order sound may;
  reads_kept = keeps_reads_kept plan st event well order sound may;
}

pub start_versions : (plan : Plan) → SoundVersions plan (start plan)
start_versions plan = record {
  current_is = λ e. current_among plan (start plan) e (λ some. absurd (some refl)) (λ u done. absurd cc);
  deps_done = λ t d h. absurd cc;
  current_last = λ e u h. absurd cc;
  sized = λ s b h. absurd cc;
  version_known = λ s b i h. absurd cc;
  source_holds = λ r b i h. absurd cc;
  reads_kept = λ r t b i h. absurd cc;
}
