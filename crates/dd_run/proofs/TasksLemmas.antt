-- The tasks of a region, one after another by one worker: each turn makes one more of them done, and nothing is out after it.
use Rattle.std.proofs.Common.{◌≡◌, ◌≢◌, ℕ, ◌+◌, ◌<◌, ◌≤◌, Bool, true, false, not, List, [], ◌∷◌, refl, ap, sym, ◌∙◌, ⊎_elim, arith}
use Rattle.std.specs.List.{All}
use Rattle.std.proofs.lemmas.List.Elements.{All-head, All-tail}
use Rattle.dd_blocks.specs.declared.plan.Plan.{Plan}
use Rattle.dd_core.specs.Lines.{with_line}
use Rattle.dd_machine.specs.declared.entry.Entry.{Entry}
use Rattle.dd_machine.specs.declared.event.Event.{Event}
use Rattle.dd_machine.specs.declared.event.Event.TheVariants.{Hold, Pick, Gone, Make, Call, Come, Lend, Copy, Claim, Finish}
use Rattle.dd_machine.specs.declared.task_state.TaskState.{TaskState}
use Rattle.dd_machine.specs.declared.task_state.TaskState.TheVariants.{Waiting, Held, Running, Done}
use Rattle.dd_machine.specs.Bytes.{when}
use Rattle.dd_machine.specs.Effects.{after}
use Rattle.dd_machine.specs.Legal.{May}
use Rattle.dd_machine.specs.Runs.{IsRun, state_after}
use Rattle.dd_machine.specs.States.{State, at_one}
use Rattle.dd_machine.specs.Tests.{is_done, is_running}
use Rattle.dd_machine.specs.Words.{IsOneOf, tasks, total}
use Rattle.dd_machine.proofs.ChangesLemmas.{at_one_tells}
use Rattle.dd_machine.proofs.RunsLemmas.{run_first}
use Rattle.dd_machine.proofs.TotalsLemmas.{total_le, total_less_one, when_le}
use Rattle.dd_table.specs.Outs.{HasNothingOut}
use Rattle.dd_table.specs.Still.{IsPreparing}

-- ---- states

-- what leads tasks on, claims them or ends them: it changes neither the region, the statements nor the pin, and what is done stays so
pub record GoesOn (st new : State) : Type 0 where
  pub region : new.region ≡ st.region
  pub progress : new.progress ≡ st.progress
  pub pin : new.pin ≡ st.pin
  pub done : (t : ℕ) → is_done (st.tasks t) ≡ true → is_done (new.tasks t) ≡ true

goes_same : (st new : State) → new.region ≡ st.region → new.progress ≡ st.progress → new.pin ≡ st.pin → new.tasks ≡ st.tasks → GoesOn st new
goes_same st new region progress pin tasks = record { region = region; progress = progress; pin = pin; done = λ t is. ap (λ (f : ℕ → TaskState). is_done (f t)) tasks ∙ is }

pub goes_then : (st mid new : State) → GoesOn st mid → GoesOn mid new → GoesOn st new
goes_then st mid new p q = record { region = q.region ∙ p.region; progress = q.progress ∙ p.progress; pin = q.pin ∙ p.pin; done = λ t is. q.done t (p.done t is) }

not_done : (s : TaskState) → is_done s ≡ false → is_done s ≡ true → ⊥
not_done s off on = let e : false ≡ true = sym off ∙ on in cc

-- a task that isn't done gets another state
done_at : (f : ℕ → TaskState) (task : ℕ) (s : TaskState) → is_done (f task) ≡ false → (t : ℕ) → is_done (f t) ≡ true → is_done (at_one f task s t) ≡ true
done_at f task s off t is = ⊎_elim
    (λ (e : (t ≡ task) × (at_one f task s t ≡ s)). absurd (not_done (f task) off (ap (λ (x : ℕ). is_done (f x)) (sym e.0) ∙ is)))
    (λ (e : (t ≢ task) × (at_one f task s t ≡ f t)). ap is_done e.1 ∙ is)
    (at_one_tells f task s t)

running_undone : (s : TaskState) → is_running s ≡ true → is_done s ≡ false
running_undone (Running w) is = refl
running_undone Waiting is = absurd (let e : false ≡ true = is in cc)
running_undone Held is = absurd (let e : false ≡ true = is in cc)
running_undone Done is = absurd (let e : false ≡ true = is in cc)

goes_prepared : (plan : Plan) (st : State) (event : Event) → IsPreparing event → May plan st event → GoesOn st (after plan st event)
goes_prepared plan st (Hold task) prepares may = record { region = refl; progress = refl; pin = refl; done = done_at st.tasks task Held (ap is_done may.waiting) }
goes_prepared plan st (Pick space block) prepares may = goes_same st (after plan st (Pick space block)) refl refl refl refl
goes_prepared plan st (Gone space block) prepares may = goes_same st (after plan st (Gone space block)) refl refl refl refl
goes_prepared plan st (Make task block) prepares may = goes_same st (after plan st (Make task block)) refl refl refl refl
goes_prepared plan st (Call space block) prepares may = goes_same st (after plan st (Call space block)) refl refl refl refl
goes_prepared plan st (Come space block) prepares may = goes_same st (after plan st (Come space block)) refl refl refl refl
goes_prepared plan st (Lend task block source) prepares may = goes_same st (after plan st (Lend task block source)) refl refl refl refl
goes_prepared plan st (Copy task block source count) prepares may = goes_same st (after plan st (Copy task block source count)) refl refl refl refl
goes_prepared plan st _ prepares may = absurd prepares

-- nothing that leads tasks on starts one
out_prepared : (plan : Plan) (st : State) (event : Event) → IsPreparing event → (t : ℕ) → is_running ((after plan st event).tasks t) ≡ true → is_running (st.tasks t) ≡ true
out_prepared plan st (Hold task) prepares t is = ⊎_elim
    (λ (e : (t ≡ task) × (at_one st.tasks task Held t ≡ Held)). absurd (let x : false ≡ true = sym (ap is_running e.1) ∙ is in cc))
    (λ (e : (t ≢ task) × (at_one st.tasks task Held t ≡ st.tasks t)). ap is_running (sym e.1) ∙ is)
    (at_one_tells st.tasks task Held t)
out_prepared plan st (Pick space block) prepares t is = is
out_prepared plan st (Gone space block) prepares t is = is
out_prepared plan st (Make task block) prepares t is = is
out_prepared plan st (Call space block) prepares t is = is
out_prepared plan st (Come space block) prepares t is = is
out_prepared plan st (Lend task block source) prepares t is = is
out_prepared plan st (Copy task block source count) prepares t is = is
out_prepared plan st _ prepares t is = absurd prepares

-- so events that lead tasks on
pub record Prepared (st new : State) : Type 0 where
  pub goes : GoesOn st new
  pub out : (t : ℕ) → is_running (new.tasks t) ≡ true → is_running (st.tasks t) ≡ true

pub prepared_all : (plan : Plan) (st : State) (line : ℕ) (events : List Event) → All IsPreparing events → IsRun plan st (with_line line events) → Prepared st (state_after plan st (with_line line events))
unfolding state_after
prepared_all plan st line [] prepare run = record { goes = goes_same st st refl refl refl refl; out = λ t is. is }
prepared_all plan st line (event ∷ events) prepare run =
    let entry : Entry = record { line = line; event = event } in
    let first = run_first plan st entry (with_line line events) run in
    let mid = after plan st event in
    let new = state_after plan mid (with_line line events) in
    let head = All-head IsPreparing event events prepare in
    let more = prepared_all plan mid line events (All-tail IsPreparing event events prepare) first.1 in
    record {
      goes = goes_then st mid new (goes_prepared plan st event head first.0.1) more.goes;
      out = λ t is. out_prepared plan st event head t (more.out t is);
    }

pub none_prepared : (st new : State) → Prepared st new → HasNothingOut st → HasNothingOut new
none_prepared st new p none t = by (is_running (new.tasks t)) refl
  where
    by : (b : Bool) → is_running (new.tasks t) ≡ b → is_running (new.tasks t) ≡ false
    by false is = is
    by true is = absurd (let e : false ≡ true = sym (none t) ∙ p.out t is in cc)

-- how many tasks aren't done
abbrev pub undone : Plan → State → ℕ
undone plan st = total (tasks plan) (λ t. when (not (is_done (st.tasks t))) 1)

not_le : (a b : Bool) → (a ≡ true → b ≡ true) → not b ≡ true → not a ≡ true
not_le false b h e = refl
not_le true b h e = absurd (let x : false ≡ true = sym (ap not (h refl)) ∙ e in cc)

pub fewer_going : (plan : Plan) (st new : State) → GoesOn st new → undone plan new ≤ undone plan st
fewer_going plan st new goes =
    total_le (tasks plan) (λ t. when (not (is_done (new.tasks t))) 1) (λ t. when (not (is_done (st.tasks t))) 1)
    (λ t is. when_le (not (is_done (new.tasks t))) (not (is_done (st.tasks t))) 1 (not_le (is_done (st.tasks t)) (is_done (new.tasks t)) (goes.done t)))

-- a task was claimed and has ended: it is done now, and nothing is out
pub record Ended (plan : Plan) (st new : State) : Type 0 where
  pub goes : GoesOn st new
  pub none : HasNothingOut new
  pub fewer : undone plan new < undone plan st

pub ended_one : (plan : Plan) (st : State) (task worker : ℕ) → HasNothingOut st → st.tasks task ≡ Held → IsOneOf (tasks plan) task → Ended plan st (after plan (after plan st (Claim task worker)) (Finish task))
ended_one plan st task worker none held is = record {
  goes = record { region = refl; progress = refl; pin = refl; done = λ t on. by_done t on };
  none = λ t. by_none t;
  fewer = (let less = total_less_one (tasks plan) (λ t. when (not (is_done (at_one mid task Done t))) 1) (λ t. when (not (is_done (st.tasks t))) 1) task 1 is
      (λ t t_is other. when_le (not (is_done (at_one mid task Done t))) (not (is_done (st.tasks t))) 1 (λ e. e_other t other e)) here in omega (arith, less));
}
  where
    mid : ℕ → TaskState
    mid = at_one st.tasks task (Running worker)

    at_task : at_one mid task Done task ≡ Done
    at_task = ⊎_elim
        (λ (e : (task ≡ task) × (at_one mid task Done task ≡ Done)). e.1)
        (λ (e : (task ≢ task) × (at_one mid task Done task ≡ mid task)). absurd (e.0 refl))
        (at_one_tells mid task Done task)

    elsewhere : (t : ℕ) → t ≢ task → at_one mid task Done t ≡ st.tasks t
    elsewhere t other = ⊎_elim
        (λ (e : (t ≡ task) × (at_one mid task Done t ≡ Done)). absurd (other e.0))
        (λ (e : (t ≢ task) × (at_one mid task Done t ≡ mid t)). e.1 ∙ ⊎_elim
        (λ (d : (t ≡ task) × (mid t ≡ Running worker)). absurd (other d.0))
        (λ (d : (t ≢ task) × (mid t ≡ st.tasks t)). d.1)
        (at_one_tells st.tasks task (Running worker) t))
        (at_one_tells mid task Done t)

    by_done : (t : ℕ) → is_done (st.tasks t) ≡ true → is_done (at_one mid task Done t) ≡ true
    by_done t on = ⊎_elim
        (λ (e : (t ≡ task) × (at_one mid task Done t ≡ Done)). ap is_done e.1)
        (λ (e : (t ≢ task) × (at_one mid task Done t ≡ mid t)). ap is_done (elsewhere t e.0) ∙ on)
        (at_one_tells mid task Done t)

    by_none : (t : ℕ) → is_running (at_one mid task Done t) ≡ false
    by_none t = ⊎_elim
        (λ (e : (t ≡ task) × (at_one mid task Done t ≡ Done)). ap is_running e.1)
        (λ (e : (t ≢ task) × (at_one mid task Done t ≡ mid t)). ap is_running (elsewhere t e.0) ∙ none t)
        (at_one_tells mid task Done t)

    e_other : (t : ℕ) → t ≢ task → not (is_done (at_one mid task Done t)) ≡ true → not (is_done (st.tasks t)) ≡ true
    e_other t other e = ap (λ (s : TaskState). not (is_done s)) (sym (elsewhere t other)) ∙ e

    here : when (not (is_done (at_one mid task Done task))) 1 + 1 ≤ when (not (is_done (st.tasks task))) 1
    here =
        let now : when (not (is_done (at_one mid task Done task))) 1 ≡ 0 = ap (λ (s : TaskState). when (not (is_done s)) 1) at_task in
        let was : when (not (is_done (st.tasks task))) 1 ≡ 1 = ap (λ (s : TaskState). when (not (is_done s)) 1) held in
        omega (arith, now, was)
