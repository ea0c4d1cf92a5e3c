-- Within a region each entry costs one.
use Rattle.std.proofs.Common.{◌≡◌, ℕ, ◌+◌, ◌≤◌, Some, refl, ap, ◌∙◌}
use Rattle.dd_blocks.specs.declared.plan.Plan.{Plan}
use Rattle.dd_blocks.specs.WellFormed.{IsWellFormed}
use Rattle.dd_machine.specs.declared.event.Event.{Event}
use Rattle.dd_machine.specs.declared.event.Event.TheVariants.{Ask, Rest, Put, Shift, Free, Begin, Hold, Pick, Gone, Make, Call, Come, Lend, Copy, Claim, Finish, Back, Close}
use Rattle.dd_machine.specs.Effects.{after}
use Rattle.dd_machine.specs.Legal.{May}
use Rattle.dd_machine.specs.Orderly.{IsOrderly}
use Rattle.dd_machine.specs.Sound.{IsSound}
use Rattle.dd_machine.specs.States.{State}
use Rattle.dd_machine.proofs.TestsLemmas.{rested_at, running_by}
use Rattle.laws_of_limits.proofs.PinsKept.{out_or_in}
use Rattle.laws_of_bound.specs.Cost.{region_cost}
use Rattle.laws_of_bound.proofs.CopySteps.{falls_copy}
use Rattle.laws_of_bound.proofs.MakeSteps.{falls_free, falls_make}
use Rattle.laws_of_bound.proofs.PinSteps.{falls_ask, falls_rest}
use Rattle.laws_of_bound.proofs.StateSteps.{falls_call, falls_come, falls_gone, falls_lend, falls_pick}
use Rattle.laws_of_bound.proofs.TaskSteps.{falls_claim, falls_finish, falls_hold}

-- the event closes no region
abbrev pub IsNoClose : Event → Type 0
IsNoClose event = (region : ℕ) → event ≡ Close region → ⊥

pub falls : (plan : Plan) (st : State) (r : ℕ) (event : Event) → IsWellFormed plan → IsOrderly plan → IsSound plan st → st.region ≡ Some r → May plan st event → IsNoClose event
    → region_cost plan (after plan st event) r + 1 ≤ region_cost plan st r
falls plan st r (Ask space block) well order sound open_in may other = falls_ask plan st r space block open_in may
falls plan st r Rest well order sound open_in may other = falls_rest plan st r sound open_in may
falls plan st r (Put block) well order sound open_in may other = out_or_in may.outside open_in
falls plan st r (Shift block space) well order sound open_in may other = out_or_in may.outside open_in
falls plan st r (Free space block) well order sound open_in may other = falls_free plan st r space block open_in may
falls plan st r (Begin region) well order sound open_in may other = out_or_in may.outside open_in
falls plan st r (Hold task) well order sound open_in may other = falls_hold plan st r task well open_in may
falls plan st r (Pick space block) well order sound open_in may other = falls_pick plan st r space block sound may
falls plan st r (Gone space block) well order sound open_in may other = falls_gone plan st r space block may
falls plan st r (Make task block) well order sound open_in may other = falls_make plan st r task block well sound open_in may
falls plan st r (Call space block) well order sound open_in may other = falls_call plan st r space block sound open_in may
falls plan st r (Come space block) well order sound open_in may other = falls_come plan st r space block may
falls plan st r (Lend task block source) well order sound open_in may other = falls_lend plan st r task block source well sound open_in may
falls plan st r (Copy task block source count) well order sound open_in may other = falls_copy plan st r task block source count well sound open_in may.1
falls plan st r (Claim task worker) well order sound open_in may other = falls_claim plan st r task worker sound open_in may
falls plan st r (Finish task) well order sound open_in may other = falls_finish plan st r task (running_by (st.tasks task) may).0 well order sound open_in (running_by (st.tasks task) may).1
falls plan st r (Back block source count) well order sound open_in may other = falls_copy plan st r 0 block source count well sound open_in may
falls plan st r (Close region) well order sound open_in may other = absurd (other region refl)

-- the region stays open
pub stays_open : (plan : Plan) (st : State) (r : ℕ) (event : Event) → st.region ≡ Some r → May plan st event → IsNoClose event → (after plan st event).region ≡ Some r
stays_open plan st r (Ask space block) open_in may other = open_in
stays_open plan st r Rest open_in may other = ap (λ (s : State). s.region) (rested_at plan st may) ∙ open_in
stays_open plan st r (Put block) open_in may other = open_in
stays_open plan st r (Shift block space) open_in may other = open_in
stays_open plan st r (Free space block) open_in may other = open_in
stays_open plan st r (Begin region) open_in may other = out_or_in may.outside open_in
stays_open plan st r (Hold task) open_in may other = open_in
stays_open plan st r (Pick space block) open_in may other = open_in
stays_open plan st r (Gone space block) open_in may other = open_in
stays_open plan st r (Make task block) open_in may other = open_in
stays_open plan st r (Call space block) open_in may other = open_in
stays_open plan st r (Come space block) open_in may other = open_in
stays_open plan st r (Lend task block source) open_in may other = open_in
stays_open plan st r (Copy task block source count) open_in may other = open_in
stays_open plan st r (Claim task worker) open_in may other = open_in
stays_open plan st r (Finish task) open_in may other = open_in
stays_open plan st r (Back block source count) open_in may other = open_in
stays_open plan st r (Close region) open_in may other = absurd (other region refl)
