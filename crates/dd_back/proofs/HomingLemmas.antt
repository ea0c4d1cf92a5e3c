-- What the events that bring blocks home leave as it was.
use Rattle.std.proofs.Common.{◌≡◌, ℕ, ◌+◌, Bool, true, false, ◌&&◌, eqb as nat_eq, List, [], ◌∷◌, ◌++◌, Option, Some, None, refl, ap, sym, ◌∙◌, ⊎_elim, arith}
use Rattle.std.specs.Prelude.{not, slice_index}
use Rattle.std.specs.List.{list_all}
use Rattle.std.proofs.lemmas.Bool.{and_from, and_parts, eq-eqb}
use Rattle.dd_back.specs.Backs.{AreHoming, is_homing}
use Rattle.dd_blocks.specs.declared.plan.Plan.{Plan}
use Rattle.dd_blocks.specs.Elements.{Element}
use Rattle.dd_core.specs.Lines.{with_line}
use Rattle.dd_core.specs.Stale.{is_stale}
use Rattle.dd_machine.specs.declared.copy_state.CopyState.{CopyState}
use Rattle.dd_machine.specs.declared.copy_state.CopyState.TheVariants as state
use Rattle.dd_machine.specs.declared.event.Event.{Event}
use Rattle.dd_machine.specs.declared.event.Event.TheVariants.{Ask, Rest, Put, Shift, Free, Begin, Hold, Pick, Gone, Make, Call, Come, Lend, Copy, Claim, Finish, Back, Close}
use Rattle.dd_machine.specs.Effects.{after, after_copy, after_rest, in_state, on_in}
use Rattle.dd_machine.specs.Needed.{is_current, is_current_at, version}
use Rattle.dd_machine.specs.Runs.{state_after}
use Rattle.dd_machine.specs.States as states
use Rattle.dd_machine.specs.States.{Progress, State, at_copy}
use Rattle.dd_machine.specs.Tests.{is_any, is_in_state, versions_of}
use Rattle.dd_machine.specs.Words.{element, size}
use Rattle.dd_machine.proofs.RangesLemmas.{all_at, all_below}
use Rattle.dd_machine.proofs.TestsLemmas.{any_copied, any_in_state, same_at, versions_in_state}
use Rattle.laws_of_versions.proofs.WhereLemmas.{copied_version}

-- two lists of them
pub homing_both : (xs ys : List Event) → AreHoming xs → AreHoming ys → AreHoming (xs ++ ys)
homing_both [] ys a b = b
homing_both (x ∷ xs) ys a b =
    let p = and_parts (is_homing x) (list_all is_homing xs) a in
    and_from (is_homing x) (list_all is_homing (xs ++ ys)) p.0 (homing_both xs ys p.1 b)

-- all but the pin, the orders and what moved: the same copies stand, and what was current is so
pub record Keeps (plan : Plan) (st new : State) : Type 0 where
  pub region : new.region ≡ st.region
  pub tasks : new.tasks ≡ st.tasks
  pub homes : new.homes ≡ st.homes
  pub current : new.current ≡ st.current
  pub progress : new.progress ≡ st.progress
  pub any : (s b : ℕ) → is_in_state is_any (new.copies s b) ≡ is_in_state is_any (st.copies s b)
  pub at : (s b i : ℕ) → is_current_at plan st s b i ≡ true → is_current_at plan new s b i ≡ true

pub keeps_all : (plan : Plan) (st : State) → Keeps plan st st
keeps_all plan st = record {
  region = refl;
  tasks = refl;
  homes = refl;
  current = refl;
  progress = refl;
  any = λ s b. refl;
  at = λ s b i is. is;
}

pub keeps_then : (plan : Plan) (st mid new : State) → Keeps plan st mid → Keeps plan mid new → Keeps plan st new
keeps_then plan st mid new p q = record {
  region = q.region ∙ p.region;
  tasks = q.tasks ∙ p.tasks;
  homes = q.homes ∙ p.homes;
  current = q.current ∙ p.current;
  progress = q.progress ∙ p.progress;
  any = λ s b. q.any s b ∙ p.any s b;
  at = λ s b i is. q.at s b i (p.at s b i is);
}

-- outside of regions an event may be of the statements
on_open : (plan : Plan) (st : State) (r : ℕ) → st.region ≡ Some r → on_in plan st.progress st.region ≡ st.progress
on_open plan st r is = ap (on_in plan st.progress) is

-- a copy gets another state
moved : (plan : Plan) (st new : State) (space block : ℕ) (x : CopyState) → new.copies ≡ at_copy st.copies space block (in_state x (st.copies space block)) → new.region ≡ st.region
    → new.tasks ≡ st.tasks → new.homes ≡ st.homes → new.current ≡ st.current → new.progress ≡ st.progress → Keeps plan st new
moved plan st new space block x copies region tasks homes current progress = record {
  region = region;
  tasks = tasks;
  homes = homes;
  current = current;
  progress = progress;
  any = λ s b. ap (λ (f : ℕ → ℕ → Option states.Copy). is_in_state is_any (f s b)) copies
      ∙ same_at (is_in_state is_any) st.copies space block (in_state x (st.copies space block)) (any_in_state x (st.copies space block)) s b;
  at = λ s b i is.
      ap (λ (f : ℕ → ℕ → Option states.Copy). nat_eq (slice_index (versions_of (f s b)) i) (new.current (element plan b i))) copies
      ∙ ap (λ (vs : List ℕ). nat_eq (slice_index vs i) (new.current (element plan b i))) (same_at versions_of st.copies space block (in_state x (st.copies space block)) (versions_in_state x (st.copies space block)) s b)
      ∙ ap (λ (f : Element → ℕ). nat_eq (slice_index (versions_of (st.copies s b)) i) (f (element plan b i))) current ∙ is;
}

copied : (plan : Plan) (st : State) (block source count : ℕ) → Keeps plan st (after_copy plan st 0 block source count)
copied plan st block source count = record {
  region = refl;
  tasks = refl;
  homes = refl;
  current = refl;
  progress = refl;
  any = λ s b. any_copied plan st 0 block source count s b;
  at = λ s b i is. ⊎_elim
      (λ (same : version (after_copy plan st 0 block source count) s b i ≡ version st s b i). ap (λ (v : ℕ). nat_eq v (st.current (element plan b i))) same ∙ is)
      (λ (hit : (s ≡ _) × (b ≡ block) × (_ ≡ true) × (version (after_copy plan st 0 block source count) s b i ≡ st.current (element plan b i))).
      eq-eqb (version (after_copy plan st 0 block source count) s b i) (st.current (element plan b i)) hit.3)
      (copied_version plan st 0 block source count s b i);
}

-- one of them in an open region
pub event_keeps : (plan : Plan) (st : State) (r : ℕ) (event : Event) → st.region ≡ Some r → is_homing event ≡ true → Keeps plan st (after plan st event)
event_keeps plan st r (Ask space block) open_is is = record {
  region = refl;
  tasks = refl;
  homes = refl;
  current = refl;
  progress = on_open plan st r open_is;
  any = λ s b. refl;
  at = λ s b i now. now;
}
event_keeps plan st r Rest open_is is = by st.pin
  where
    by : (p : Option (ℕ × ℕ)) → Keeps plan st (after_rest plan st p)
    by None = keeps_all plan st
    by (Some (space, block)) = record {
      region = refl;
      tasks = refl;
      homes = refl;
      current = refl;
      progress = on_open plan st r open_is;
      any = λ s b. refl;
      at = λ s b i now. now;
    }
event_keeps plan st r (Put block) open_is is = absurd (let e : false ≡ true = is in cc)
event_keeps plan st r (Shift block space) open_is is = absurd (let e : false ≡ true = is in cc)
event_keeps plan st r (Free space block) open_is is = absurd (let e : false ≡ true = is in cc)
event_keeps plan st r (Begin region) open_is is = absurd (let e : false ≡ true = is in cc)
event_keeps plan st r (Hold task) open_is is = absurd (let e : false ≡ true = is in cc)
event_keeps plan st r (Pick space block) open_is is = moved plan st (after plan st (Pick space block)) space block state.Leaving refl refl refl refl refl refl
event_keeps plan st r (Gone space block) open_is is = moved plan st (after plan st (Gone space block)) space block state.Out refl refl refl refl refl refl
event_keeps plan st r (Make task block) open_is is = absurd (let e : false ≡ true = is in cc)
event_keeps plan st r (Call space block) open_is is = moved plan st (after plan st (Call space block)) space block state.Coming refl refl refl refl refl refl
event_keeps plan st r (Come space block) open_is is = moved plan st (after plan st (Come space block)) space block state.Here refl refl refl refl refl refl
event_keeps plan st r (Lend task block source) open_is is = moved plan st (after plan st (Lend task block source)) source block (state.Lent task) refl refl refl refl refl refl
event_keeps plan st r (Copy task block source count) open_is is = absurd (let e : false ≡ true = is in cc)
event_keeps plan st r (Claim task worker) open_is is = absurd (let e : false ≡ true = is in cc)
event_keeps plan st r (Finish task) open_is is = absurd (let e : false ≡ true = is in cc)
event_keeps plan st r (Back block source count) open_is is = copied plan st block source count
event_keeps plan st r (Close region) open_is is = absurd (let e : false ≡ true = is in cc)

-- all of them
pub events_keep : (plan : Plan) (st : State) (r line : ℕ) (events : List Event) → st.region ≡ Some r → AreHoming events → Keeps plan st (state_after plan st (with_line line events))
unfolding state_after
events_keep plan st r line [] open_is are = keeps_all plan st
events_keep plan st r line (event ∷ events) open_is are =
    let p = and_parts (is_homing event) (list_all is_homing events) are in
    let first = event_keeps plan st r event open_is p.0 in
    keeps_then plan st (after plan st event) (state_after plan (after plan st event) (with_line line events)) first
    (events_keep plan (after plan st event) r line events (first.region ∙ open_is) p.1)

-- so a copy that was current is, and a home copy that wasn't stale isn't
pub current_kept : (plan : Plan) (st new : State) (s b : ℕ) → Keeps plan st new → is_current plan st s b ≡ true → is_current plan new s b ≡ true
current_kept plan st new s b k is = all_below (is_current_at plan new s b) (size plan b) (λ i lt.
    let e : 0 + i ≡ i = omega arith in
    k.at s b i (ap (is_current_at plan st s b) (sym e) ∙ all_at (is_current_at plan st s b) 0 (size plan b) i is lt))

pub fresh_kept : (plan : Plan) (st new : State) (b : ℕ) → Keeps plan st new → is_stale plan st b ≡ false → is_stale plan new b ≡ false
fresh_kept plan st new b k fresh =
    ap (λ (f : ℕ → ℕ). is_in_state is_any (new.copies (f b) b) && not (is_current plan new (f b) b)) k.homes
    ∙ ap (λ (t : Bool). t && not (is_current plan new (st.homes b) b)) (k.any (st.homes b) b)
    ∙ by (is_in_state is_any (st.copies (st.homes b) b)) (is_current plan st (st.homes b) b) fresh (λ now. current_kept plan st new (st.homes b) b k now)
  where
    by : (any now : Bool) → (any && not now) ≡ false → (now ≡ true → is_current plan new (st.homes b) b ≡ true) → (any && not (is_current plan new (st.homes b) b)) ≡ false
    by false now fresh kept = refl
    by true true fresh kept = ap not (kept refl)
    by true false fresh kept = absurd (let e : true ≡ false = fresh in cc)
