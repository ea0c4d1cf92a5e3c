-- A change by a legal event keeps the state sound.
use Rattle.std.proofs.Common.{◌≡◌, sym, subst}
use Rattle.std.specs.Prelude.{Result, Ok, Err, OnErr, OnOk}
use Rattle.dd_blocks.specs.declared.plan.Plan.{Plan}
use Rattle.dd_blocks.specs.WellFormed.{IsWellFormed}
use Rattle.dd_machine.specs.declared.event.Event.{Event}
use Rattle.dd_machine.specs.Effects.{after}
use Rattle.dd_machine.specs.Legal.{May}
use Rattle.dd_machine.specs.Runs.{start}
use Rattle.dd_machine.specs.Sound.{IsSound}
use Rattle.dd_machine.specs.States.{State}
use Rattle.laws_of_lives.proofs.OrderlyLemmas.{orderly}
use Rattle.laws_of_machine.proofs.SoundLemmas.{keeps_sound, start_sound}

pub starts_sound : (plan : Plan) (new : State) → IsWellFormed plan → new ≡ start plan → IsSound plan new
starts_sound plan new well is = subst (IsSound plan) (sym is) (start_sound plan well)

pub stays_sound : (plan : Plan) (old new : State) (event : Event) → IsWellFormed plan → IsSound plan old → May plan old event → new ≡ after plan old event → IsSound plan new
stays_sound plan old new event well sound may is = subst (IsSound plan) (sym is) (keeps_sound plan old event well (orderly plan well) sound may)

-- where the change may be refused, and then changes nothing
pub stays_sound_either : {T E : Type 0} (plan : Plan) (old new : State) (event : Event) (result : Result T E) → IsWellFormed plan → IsSound plan old → May plan old event
    → OnOk result (new ≡ after plan old event) → OnErr result (new ≡ old) → IsSound plan new
stays_sound_either plan old new event (Ok x) well sound may value kept = stays_sound plan old new event well sound may value
stays_sound_either plan old new event (Err e) well sound may value kept = subst (IsSound plan) (sym kept) sound
