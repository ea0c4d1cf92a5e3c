-- The spills that make room in a space: there is a victim while the load is above the limit, each spill leaves less of the load, and what
-- is pinned stays.
use Rattle.std.proofs.Common.{◌≡◌, ℕ, ◌-◌, ◌<◌, ◌≤◌, Bool, true, false, ◌&&◌, ◌||◌, List, [], ◌∷◌, Option, Some, None, refl, ap, sym, ◌∙◌, subst, inl, inr, ⊎_elim, arith}
use Rattle.std.proofs.lemmas.Bool.{cases_Bool, or_cases}
use Rattle.std.specs.Prelude.{nat_eq}
use Rattle.std.specs.List.{list_any, range_with_len}
use Rattle.dd_blocks.specs.declared.plan.Plan.{Plan}
use Rattle.dd_blocks.specs.Numbered.{array_row, block_row}
use Rattle.dd_blocks.specs.WellFormed.{IsWellFormed}
use Rattle.dd_blocks.proofs.GridLemmas.{size_some}
use Rattle.dd_blocks.proofs.LayoutLemmas.{block_stands}
use Rattle.dd_machine.specs.declared.copy_state.CopyState.{CopyState}
use Rattle.dd_machine.specs.declared.copy_state.CopyState.TheVariants.{Here, Leaving, Out, Coming, Lent}
use Rattle.dd_machine.specs.declared.event.Event.{Event}
use Rattle.dd_machine.specs.declared.event.Event.TheVariants.{Gone, Pick}
use Rattle.dd_machine.specs.Bytes.{is_pinned, load, order_policy, reserved, victim, when}
use Rattle.dd_machine.specs.Effects.{after, in_state}
use Rattle.dd_machine.specs.Legal.{May, MayPick}
use Rattle.dd_machine.specs.Runs.{IsRun, state_after}
use Rattle.dd_machine.specs.Sound.{IsSound}
use Rattle.dd_machine.specs.States as states
use Rattle.dd_machine.specs.States.{Progress, State, at_copy}
use Rattle.dd_machine.specs.declared.task_state.TaskState.{TaskState}
use Rattle.dd_machine.specs.Tests.{Has, is_active, is_any, is_here, is_here_or_coming, is_idle, is_in_state, is_pin}
use Rattle.dd_machine.specs.Words.{IsOneOf, blocks, bytes, limit, place, spaces, tasks, touches}
use Rattle.dd_machine.proofs.TestsLemmas.{any_in_state, none_in_state, passes_any, same_at}
use Rattle.dd_machine.proofs.TotalsLemmas.{total_le, total_less_one, when_le, when_true}
use Rattle.laws_of_limits.proofs.OrdersKept.{victim_there}
use Rattle.laws_of_progress.proofs.SearchLemmas.{chosen_some, search}
use Rattle.dd_core.specs.Lines.{with_line}
use Rattle.dd_table.specs.Spills.{BeginRoom, MakeRoom}
use Rattle.dd_table.proofs.CalmLemmas.{twice_tells}
use Rattle.dd_table.proofs.IdleLemmas.{AreIdle}

-- a copy that is Here or Coming where nothing is under way is Here
idle_wanted : (c : Option states.Copy) → is_in_state is_idle c ≡ true → is_in_state is_here_or_coming c ≡ true → is_in_state is_here c ≡ true
idle_wanted None idle wanted = wanted
idle_wanted (Some c) idle wanted = of_state c.state idle wanted
  where
    of_state : (s : CopyState) → is_idle s ≡ true → is_here_or_coming s ≡ true → is_here s ≡ true
    of_state Here idle wanted = refl
    of_state Leaving idle wanted = idle
    of_state Out idle wanted = wanted
    of_state Coming idle wanted = idle
    of_state (Lent t) idle wanted = idle

-- the blocks that count in the load of a space
abbrev counts : Plan → State → ℕ → ℕ → Bool
counts plan st s b = is_in_state is_here_or_coming (st.copies s b) || is_pinned plan st s b

-- while the load is above the limit there is a victim
pub victim_over : (plan : Plan) (st : State) (s : ℕ) → IsSound plan st → AreIdle st.copies → IsOneOf (spaces plan) s → limit plan s < load plan st s → (block : ℕ) × (victim plan st s ≡ Some block)
victim_over plan st s sound idle s_is over = ⊎_elim
    (λ (found : (block : ℕ) × (victim plan st s ≡ Some block)). found)
    (λ (all : (b : ℕ) → IsOneOf (blocks plan) b → is_in_state is_here (st.copies s b) ≡ true → is_pinned plan st s b ≡ true). absurd (
    let few = total_le (blocks plan) (λ b. when (counts plan st s b) (bytes plan b)) (λ b. when (is_pinned plan st s b) (bytes plan b))
    (λ b is. when_le (counts plan st s b) (is_pinned plan st s b) (bytes plan b) (λ w. ⊎_elim
    (λ (h : is_in_state is_here_or_coming (st.copies s b) ≡ true). all b is (idle_wanted (st.copies s b) (idle s b (passes_any is_here_or_coming (st.copies s b) h)) h))
    (λ (p : is_pinned plan st s b ≡ true). p)
    (or_cases (is_in_state is_here_or_coming (st.copies s b)) (is_pinned plan st s b) w))) in
    let low : reserved plan st s ≤ limit plan s = sound.progress.reserved_within s s_is in
    omega (arith, few, low, over)))
    (search (blocks plan) (λ b. is_in_state is_here (st.copies s b) ≡ true → is_pinned plan st s b ≡ true) (λ b is. ⊎_elim
    (λ (pinned : is_pinned plan st s b ≡ true). inr (λ here. pinned))
    (λ (off : is_pinned plan st s b ≡ false). ⊎_elim
    (λ (here : is_in_state is_here (st.copies s b) ≡ true). inl (chosen_some (order_policy plan.policy) (is_pinned plan st s) (st.orders s) b (sound.limits.order_has s b here) off))
    (λ (away : is_in_state is_here (st.copies s b) ≡ false). inr (λ here. let h : true ≡ false = sym here ∙ away in absurd cc))
    (cases_Bool (is_in_state is_here (st.copies s b))))
    (cases_Bool (is_pinned plan st s b))))

-- a block has bytes
pub some_bytes : (plan : Plan) (b : ℕ) → IsWellFormed plan → IsOneOf (blocks plan) b → 1 ≤ bytes plan b
some_bytes plan b well is =
    let i = block_stands plan well.layout b is in
    let some = size_some (array_row plan (block_row plan b).array).grid (b - (array_row plan (block_row plan b).array).first_block) i.grid i.high in
    let same = i.size in
    omega (arith, some, same)

-- the copies after a spill, and the state
abbrev spilled : State → ℕ → ℕ → ℕ → ℕ → Option states.Copy
spilled st space block = at_copy (at_copy st.copies space block (in_state Leaving (st.copies space block))) space block
    (in_state Out (at_copy st.copies space block (in_state Leaving (st.copies space block)) space block))

abbrev pub after_spill : Plan → State → ℕ → ℕ → State
after_spill plan st space block = after plan (after plan st (Pick space block)) (Gone space block)

-- a spill leaves less of the load
pub load_falls : (plan : Plan) (st : State) (s b : ℕ) → IsWellFormed plan → IsOneOf (blocks plan) b → Has st s b is_here → is_pinned plan st s b ≡ false → load plan (after_spill plan st s b) s < load plan st s
load_falls plan st s b well is here off =
    let new = after_spill plan st s b in
    let leaving = in_state Leaving (st.copies s b) in
    let out = in_state Out (at_copy st.copies s b leaving s b) in
    let gone : when (counts plan new s b) (bytes plan b) ≡ 0 = ⊎_elim
    (λ (e : (s ≡ s) × (b ≡ b) × (spilled st s b s b ≡ out)).
    ap (λ (t : Bool). when (t || is_pinned plan st s b) (bytes plan b)) (ap (is_in_state is_here_or_coming) e.2 ∙ none_in_state is_here_or_coming Out (at_copy st.copies s b leaving s b) refl)
    ∙ ap (λ (t : Bool). when t (bytes plan b)) off)
    (λ (e : (s ≡ s → b ≡ b → ⊥) × (spilled st s b s b ≡ st.copies s b)). absurd (e.0 refl refl))
    (twice_tells st.copies s b leaving out s b) in
    let was : when (counts plan st s b) (bytes plan b) ≡ bytes plan b = when_true (counts plan st s b) (bytes plan b) (ap (λ (t : Bool). t || is_pinned plan st s b) (wanted_here (st.copies s b) here)) in
    let less = total_less_one (blocks plan) (λ k. when (counts plan new s k) (bytes plan k)) (λ k. when (counts plan st s k) (bytes plan k)) b (bytes plan b) is
    (λ k k_is ne. ⊎_elim
    (λ (e : (s ≡ s) × (k ≡ b) × (spilled st s b s k ≡ out)). absurd (ne e.1))
    (λ (e : (s ≡ s → k ≡ b → ⊥) × (spilled st s b s k ≡ st.copies s k)).
    let same : when (counts plan new s k) (bytes plan k) ≡ when (counts plan st s k) (bytes plan k) = ap (λ (c : Option states.Copy). when (is_in_state is_here_or_coming c || is_pinned plan st s k) (bytes plan k)) e.1 in
    omega (arith, same))
    (twice_tells st.copies s b leaving out s k))
    (omega (arith, gone, was)) in
    let some = some_bytes plan b well is in
    omega (arith, less, some)
  where
    wanted_here : (c : Option states.Copy) → is_in_state is_here c ≡ true → is_in_state is_here_or_coming c ≡ true
    wanted_here None is = is
    wanted_here (Some c) is = of_state c.state is
      where
        of_state : (x : CopyState) → is_here x ≡ true → is_here_or_coming x ≡ true
        of_state Here is = refl
        of_state Leaving is = is
        of_state Out is = is
        of_state Coming is = refl
        of_state (Lent t) is = is

-- spills that make room are some of those that do
pub room_begins : (plan : Plan) (st : State) (space : ℕ) (events : List Event) → MakeRoom plan st space events → BeginRoom plan st space events
unfolding MakeRoom BeginRoom
room_begins plan st space [] room = tt
room_begins plan st space (first ∷ []) room = absurd room
room_begins plan st space (first ∷ (second ∷ more)) room = (room.0, room_begins plan (after plan (after plan st first) second) space more room.1)

-- one spill more in front
pub room_more : (plan : Plan) (st : State) (space block : ℕ) (more : List Event) → limit plan space < load plan st space → MakeRoom plan (after_spill plan st space block) space more
    → MakeRoom plan st space (Pick space block ∷ (Gone space block ∷ more))
unfolding MakeRoom
room_more plan st space block more over room = ((over, (block, refl, refl)), room)

pub begins_more : (plan : Plan) (st : State) (space block : ℕ) (more : List Event) → limit plan space < load plan st space → BeginRoom plan (after_spill plan st space block) space more
    → BeginRoom plan st space (Pick space block ∷ (Gone space block ∷ more))
unfolding BeginRoom
begins_more plan st space block more over room = ((over, (block, refl, refl)), room)

-- none more
pub room_done : (plan : Plan) (st : State) (space : ℕ) → load plan st space ≤ limit plan space → MakeRoom plan st space []
unfolding MakeRoom
room_done plan st space low = low

pub begins_done : (plan : Plan) (st : State) (space : ℕ) → BeginRoom plan st space []
unfolding BeginRoom
begins_done plan st space = tt

-- what spills leave as it was
pub record Spares (plan : Plan) (st new : State) : Type 0 where
  pub tasks : new.tasks ≡ st.tasks
  pub region : new.region ≡ st.region
  pub pin : new.pin ≡ st.pin
  pub homes : new.homes ≡ st.homes
  pub progress : new.progress ≡ st.progress
  pub any : (s b : ℕ) → is_in_state is_any (new.copies s b) ≡ is_in_state is_any (st.copies s b)
  pub pinned : (s b : ℕ) → is_pinned plan st s b ≡ true → new.copies s b ≡ st.copies s b

spares_same : (plan : Plan) (st : State) → Spares plan st st
spares_same plan st = record { tasks = refl; region = refl; pin = refl; homes = refl; progress = refl; any = λ s b. refl; pinned = λ s b is. refl }

-- by the pin and the tasks alone a block is pinned
abbrev pinned_by : Plan → Option (ℕ × ℕ) → (ℕ → TaskState) → ℕ → ℕ → Bool
pinned_by plan pin states space block =
    is_pin pin space block || list_any (λ task. is_active (states task) && (nat_eq (place plan task) space && touches plan task block)) (range_with_len 1 (tasks plan))

pub pinned_same : (plan : Plan) (st new : State) (s b : ℕ) → new.pin ≡ st.pin → new.tasks ≡ st.tasks → is_pinned plan new s b ≡ is_pinned plan st s b
pinned_same plan st new s b pin states = ap (λ (p : Option (ℕ × ℕ)). pinned_by plan p new.tasks s b) pin ∙ ap (λ (t : ℕ → TaskState). pinned_by plan st.pin t s b) states

spares_then : (plan : Plan) (st mid new : State) → Spares plan st mid → Spares plan mid new → Spares plan st new
spares_then plan st mid new p q = record {
  tasks = q.tasks ∙ p.tasks;
  region = q.region ∙ p.region;
  pin = q.pin ∙ p.pin;
  homes = q.homes ∙ p.homes;
  progress = q.progress ∙ p.progress;
  any = λ s b. q.any s b ∙ p.any s b;
  pinned = λ s b is. q.pinned s b (pinned_same plan st mid s b p.pin p.tasks ∙ is) ∙ p.pinned s b is;
}

-- what is pinned isn't the victim
apart : (plan : Plan) (st : State) (space block : ℕ) → is_pinned plan st space block ≡ false → (s b : ℕ) → is_pinned plan st s b ≡ true → s ≡ space → b ≡ block → ⊥
apart plan st space block off s b is same other =
    let h : true ≡ false = sym is ∙ ap (λ (x : ℕ). is_pinned plan st x b) same ∙ ap (λ (y : ℕ). is_pinned plan st space y) other ∙ off in
    absurd cc

spares_spill : (plan : Plan) (st : State) (space block : ℕ) → is_pinned plan st space block ≡ false → Spares plan st (after_spill plan st space block)
spares_spill plan st space block off =
    let mid = after plan st (Pick space block) in
    record {
      tasks = refl;
      region = refl;
      pin = refl;
      homes = refl;
      progress = refl;
      any = λ s b. same_at (is_in_state is_any) mid.copies space block (in_state Out (mid.copies space block)) (any_in_state Out (mid.copies space block)) s b
          ∙ same_at (is_in_state is_any) st.copies space block (in_state Leaving (st.copies space block)) (any_in_state Leaving (st.copies space block)) s b;
      pinned = λ s b is. ⊎_elim
          (λ (e : (s ≡ space) × (b ≡ block) × (spilled st space block s b ≡ in_state Out (mid.copies space block))). absurd (apart plan st space block off s b is e.0 e.1))
          (λ (e : (s ≡ space → b ≡ block → ⊥) × (spilled st space block s b ≡ st.copies s b)). e.1)
          (twice_tells st.copies space block (in_state Leaving (st.copies space block)) (in_state Out (mid.copies space block)) s b);
    }

-- after all spills of a run
pub room_spares : (plan : Plan) (st : State) (line space : ℕ) (events : List Event) → IsRun plan st (with_line line events) → MakeRoom plan st space events → Spares plan st (state_after plan st (with_line line events))
unfolding IsRun MakeRoom state_after
room_spares plan st line space [] run room = spares_same plan st
room_spares plan st line space (first ∷ []) run room = absurd room
room_spares plan st line space (first ∷ (second ∷ more)) run room =
    let block = room.0.1.0 in
    let picks : MayPick plan st space block = subst (May plan st) room.0.1.1 run.0.1 in
    let off = (victim_there plan st space block picks.is_victim).1 in
    let new = after plan (after plan st first) second in
    let one : Spares plan st new =
    subst (λ (e : Event). Spares plan st (after plan (after plan st e) second)) (sym room.0.1.1)
    (subst (λ (e : Event). Spares plan st (after plan (after plan st (Pick space block)) e)) (sym room.0.1.2) (spares_spill plan st space block off)) in
    spares_then plan st new (state_after plan new (with_line line more)) one (room_spares plan new line space more run.1.1 room.1)

-- and the load is within the limit then
pub room_low : (plan : Plan) (st : State) (line space : ℕ) (events : List Event) → MakeRoom plan st space events → load plan (state_after plan st (with_line line events)) space ≤ limit plan space
unfolding MakeRoom state_after
room_low plan st line space [] room = room
room_low plan st line space (first ∷ []) room = absurd room
room_low plan st line space (first ∷ (second ∷ more)) room = room_low plan (after plan (after plan st first) second) line space more room.1
