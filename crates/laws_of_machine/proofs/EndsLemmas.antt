-- A region ends: it has no more entries than its bound.
use Rattle.std.proofs.Common.{◌≡◌, ℕ, suc, ◌+◌, ◌≤◌, List, [], ◌∷◌, ◌++◌, length, Some, refl, arith}
use Rattle.dd_blocks.specs.declared.plan.Plan.{Plan}
use Rattle.dd_blocks.specs.WellFormed.{IsWellFormed}
use Rattle.dd_machine.specs.declared.entry.Entry.{Entry}
use Rattle.dd_machine.specs.declared.event.Event.TheVariants.{Begin}
use Rattle.dd_machine.specs.Effects.{after}
use Rattle.dd_machine.specs.GoesOn.{GoOn, GoesOn, HasNoClose, LeadsTasksOn, most_entries}
use Rattle.dd_machine.specs.Orderly.{IsOrderly}
use Rattle.dd_machine.specs.Runs.{IsLegalRun, IsRun, start, state_after, state_of_run}
use Rattle.dd_machine.specs.Sound.{IsSound}
use Rattle.dd_machine.specs.States.{State}
use Rattle.laws_of_lives.proofs.OrderlyLemmas.{orderly}
use Rattle.laws_of_bound.specs.Cost.{region_cost}
use Rattle.laws_of_bound.proofs.BeginLemmas.{begin_most}
use Rattle.laws_of_bound.proofs.Falls.{falls, stays_open}
use Rattle.laws_of_machine.proofs.SoundLemmas.{keeps_sound, sound_after, start_sound}
use Rattle.dd_machine.proofs.RunsLemmas.{run_first, run_parts}

-- each entry of an open region costs one
pub within_region : (plan : Plan) (st : State) (r : ℕ) (entries : List Entry) → IsWellFormed plan → IsOrderly plan → IsSound plan st → st.region ≡ Some r → IsRun plan st entries → HasNoClose entries
    → length entries + region_cost plan (state_after plan st entries) r ≤ region_cost plan st r
unfolding IsRun state_after
within_region plan st r [] well order sound open_in run none = omega arith
within_region plan st r (entry ∷ entries) well order sound open_in run none =
    let may = run.0.1 in
    let next = after plan st entry.event in
    let less = falls plan st r entry.event well order sound open_in may none.0 in
    let rest = within_region plan next r entries well order (keeps_sound plan st entry.event well order sound may) (stays_open plan st r entry.event open_in may none.0) run.1 none.1 in
    omega (arith, less, rest)

pub every_end : (plan : Plan) (before within : List Entry) (line region : ℕ) → IsWellFormed plan → IsLegalRun plan (before ++ (record { line = line; event = Begin region } ∷ within)) → HasNoClose within
    → suc (suc (length within)) ≤ most_entries plan region
every_end plan before within line region well run none =
    let order = orderly plan well in
    let st = state_after plan (start plan) before in
    let parts = run_parts plan (start plan) before (record { line = line; event = Begin region } ∷ within) run in
    let begin = run_first plan st (record { line = line; event = Begin region }) within parts.1 in
    let may = begin.0.1 in
    let sound = sound_after plan (start plan) before well order (start_sound plan well) parts.0 in
    let most = begin_most plan st region well sound may in
    let all = within_region plan (after plan st (Begin region)) region within well order (keeps_sound plan st (Begin region) well order sound may) refl begin.1 none in
    omega (arith, most, all)

-- with the other two parts, the law that a legal run goes on
pub goes_on_with : (plan : Plan) → IsWellFormed plan → ((entries : List Entry) → IsLegalRun plan entries → GoesOn plan (state_of_run plan entries))
    → ((entries : List Entry) → IsLegalRun plan entries → LeadsTasksOn plan (state_of_run plan entries)) → GoOn plan
goes_on_with plan well always quiet = record { always = always; quiet = quiet; ends = λ before within line region. every_end plan before within line region well }
