-- After a region is closed every copy is at its home, with the last versions.
use Rattle.std.proofs.Common.{ℕ, List, [], ◌∷◌, ◌++◌, sym, ◌∙◌, subst}
use Rattle.dd_blocks.specs.declared.plan.Plan.{Plan}
use Rattle.dd_blocks.specs.WellFormed.{IsWellFormed}
use Rattle.dd_machine.specs.declared.entry.Entry.{Entry}
use Rattle.dd_machine.specs.declared.event.Event.TheVariants.{Close}
use Rattle.dd_machine.specs.Closed.{IsAtHome}
use Rattle.dd_machine.specs.Effects.{after}
use Rattle.dd_machine.specs.Legal.{MayClose}
use Rattle.dd_machine.specs.Runs.{IsLegalRun, start, state_after, state_of_run}
use Rattle.dd_machine.specs.Sound.{IsSound}
use Rattle.dd_machine.specs.States.{State}
use Rattle.dd_machine.specs.Words.{element}
use Rattle.dd_machine.proofs.TestsLemmas.{current_version}
use Rattle.laws_of_lives.proofs.OrderlyLemmas.{orderly}
use Rattle.laws_of_versions.proofs.ClosedLemmas.{current_is_last}
use Rattle.laws_of_machine.proofs.SoundLemmas.{sound_run}
use Rattle.dd_machine.proofs.RunsLemmas.{run_first, run_parts, state_parts}

at_home : (plan : Plan) (st : State) (r : ℕ) → IsWellFormed plan → IsSound plan st → MayClose plan st r → IsAtHome plan r (after plan st (Close r))
at_home plan st r well sound may = record {
  home = may.at_home;
  last = λ s b i there lt. current_version plan st s b i (may.current s b there) lt ∙ current_is_last plan st r (element plan b i) well (orderly plan well) sound may.open_is may.all_done;
}

pub every_closed_home : (plan : Plan) (entries : List Entry) (line region : ℕ) → IsWellFormed plan → IsLegalRun plan (entries ++ record { line = line; event = Close region } ∷ [])
    → IsAtHome plan region (state_of_run plan (entries ++ record { line = line; event = Close region } ∷ []))
unfolding state_after
every_closed_home plan entries line region well run =
    let parts = run_parts plan (start plan) entries (record { line = line; event = Close region } ∷ []) run in
    subst (IsAtHome plan region) (sym (state_parts plan (start plan) entries (record { line = line; event = Close region } ∷ [])))
    (at_home plan (state_of_run plan entries) region well (sound_run plan entries well parts.0) (run_first plan (state_of_run plan entries) (record { line = line; event = Close region }) [] parts.1).0.1)
