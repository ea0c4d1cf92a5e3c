-- Where every space is roomy, nothing is spilled; and a block is spilled only where the load is above the limit.
use Rattle.std.proofs.Common.{List, Some, [], arith, false, refl, ℕ, ◌++◌, ◌<◌, ◌∷◌, ◌≡◌}
use Rattle.dd_blocks.specs.declared.plan.Plan.{Plan}
use Rattle.dd_blocks.specs.WellFormed.{IsWellFormed}
use Rattle.dd_machine.specs.declared.entry.Entry.{Entry}
use Rattle.dd_machine.specs.declared.event.Event.{Event}
use Rattle.dd_machine.specs.declared.event.Event.TheVariants.{Pick}
use Rattle.dd_machine.specs.Bytes.{load, victim}
use Rattle.dd_machine.specs.Effects.{after}
use Rattle.dd_machine.specs.Legal.{May}
use Rattle.dd_machine.specs.Orderly.{IsOrderly}
use Rattle.dd_machine.specs.Roomy.{AllRoomy}
use Rattle.dd_machine.specs.Runs.{IsLegalRun, IsRun, has_pick, is_pick, start, state_of_run}
use Rattle.dd_machine.specs.Sound.{IsSound}
use Rattle.dd_machine.specs.States.{State}
use Rattle.dd_machine.specs.Words.{limit}
use Rattle.laws_of_limits.proofs.SpillsLemmas.{HasProcs, never_over}
use Rattle.laws_of_lives.proofs.OrderlyLemmas.{orderly}
use Rattle.laws_of_machine.proofs.SoundLemmas.{keeps_sound, start_sound}
use Rattle.dd_machine.proofs.RunsLemmas.{run_first, run_parts}
use Rattle.std.proofs.lemmas.Bool.{or_from}
use Rattle.dd_blocks.proofs.NumberedLemmas.{task_names_rows}

has_procs : (plan : Plan) → IsWellFormed plan → HasProcs plan
has_procs plan well t is =
    let names = task_names_rows plan well t is in
    names.proc

no_pick : (plan : Plan) (st : State) (event : Event) → HasProcs plan → AllRoomy plan → IsSound plan st → May plan st event → is_pick event ≡ false
no_pick plan st (Pick space block) has roomy sound may = let low = never_over plan st space has sound (roomy space may.space_is) in let high = may.over in absurd (omega (arith, low, high))
no_pick plan st _ has roomy sound may = refl

none_from : (plan : Plan) (st : State) (entries : List Entry) → IsWellFormed plan → IsOrderly plan → AllRoomy plan → IsSound plan st → IsRun plan st entries → has_pick entries ≡ false
unfolding IsRun has_pick
none_from plan st [] well order roomy sound run = refl
none_from plan st (entry ∷ entries) well order roomy sound run =
    or_from (is_pick entry.event) (has_pick entries) (no_pick plan st entry.event (has_procs plan well) roomy sound run.0.1)
    (none_from plan (after plan st entry.event) entries well order roomy (keeps_sound plan st entry.event well order sound run.0.1) run.1)

pub spills_none : (plan : Plan) (entries : List Entry) → IsWellFormed plan → AllRoomy plan → IsLegalRun plan entries → has_pick entries ≡ false
spills_none plan entries well roomy run = none_from plan (start plan) entries well (orderly plan well) roomy (start_sound plan well) run

pub picks_over : (plan : Plan) (entries : List Entry) (line space block : ℕ) → IsLegalRun plan (entries ++ record { line = line; event = Pick space block } ∷ [])
    → (limit plan space < load plan (state_of_run plan entries) space) × (victim plan (state_of_run plan entries) space ≡ Some block)
picks_over plan entries line space block run =
    let parts = run_parts plan (start plan) entries (record { line = line; event = Pick space block } ∷ []) run in
    let may = (run_first plan (state_of_run plan entries) (record { line = line; event = Pick space block }) [] parts.1).0.1 in
    (may.over, may.is_victim)
