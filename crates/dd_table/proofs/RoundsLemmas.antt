-- Rounds through the tasks of a region, and what they come to.
use Rattle.std.proofs.Common.{◌≡◌, ◌⊎◌, ℕ, ◌+◌, ◌<◌, ◌≤◌, Bool, true, false, List, [], ◌∷◌, ◌++◌, length, Option, Some, None, Bor, Result, Ok, Err, refl, sym, ap, ◌∙◌, subst, inl, inr, ⊎_elim, arith, append-nil}
use Rattle.std.specs.Prelude.{IsErrAnd, IsSome, is_some}
use Rattle.std.proofs.lemmas.Bool.{cases_eq}
use Rattle.std.proofs.lemmas.List.Elements.{All-cons, All-nil}
use Rattle.dd_blocks.specs.declared.plan.Plan.{Plan}
use Rattle.dd_blocks.specs.WellFormed.{IsWellFormed}
use Rattle.dd_holding.proofs.HereLemmas.{sound_now}
use Rattle.dd_ledger.specs.declared.ledger.Ledger.{Ledger}
use Rattle.dd_ledger.specs.Ledgers as ledgers
use Rattle.dd_ledger.proofs.GrowsLemmas.{state_next, state_stays}
use Rattle.dd_machine.specs.declared.event.Event.{Event}
use Rattle.dd_machine.specs.declared.event.Event.TheVariants.{Hold}
use Rattle.dd_machine.specs.declared.task_state.TaskState.TheVariants.{Held, Done}
use Rattle.dd_machine.specs.GoesOn.{LeadsTasksOn}
use Rattle.dd_machine.specs.Legal.{AllDone}
use Rattle.dd_machine.specs.States.{State}
use Rattle.dd_machine.specs.Tests.{is_active}
use Rattle.dd_machine.specs.Words.{IsOf}
use Rattle.dd_machine.proofs.ChangesLemmas.{at_one_same}
use Rattle.dd_stamps.specs.declared.work.Work.{Work}
use Rattle.dd_store.specs.declared.store.Slot.{Ghosts as SlotGhosts}
use Rattle.dd_store.specs.declared.store.Store.{Ghosts}
use Rattle.laws_of_machine.proofs.NeverStuckLemmas.{every_leads_on}
use Rattle.dd_table.specs.declared.fault.RunFault.{RunFault}
use Rattle.dd_table.specs.declared.fault.RunFault.TheVariants.{DiskFault, Memory}
use Rattle.dd_table.specs.declared.table.Table.{Table}
use Rattle.dd_table.specs.declared.took.Took.{Took}
use Rattle.dd_table.specs.declared.took.Took.TheVariants as took
use Rattle.dd_table.specs.declared.turns.Step.{Step}
use Rattle.dd_table.specs.declared.turns.Step.TheVariants as step
use Rattle.dd_table.specs.Causes.{took_of}
use Rattle.dd_table.specs.Leading.{AllStand, Fails, HasServed, MayLead, Moves, Serves, Stands, Stays, StepGives, StillGives, served}
use Rattle.dd_table.specs.Outs.{HasNone, running_count}
use Rattle.dd_table.specs.Still.{IsPreparing}
use Rattle.dd_table.specs.Tables.{Ends, GrowsBy, IsCaused, Stops, line_now, state_now}
use Rattle.dd_table.specs.Turns.{HandsOut, NextGives, Prepares}
use Rattle.dd_table.proofs.ClaimedLemmas.{none_runs}
use Rattle.dd_table.proofs.PreparesLemmas.{fails_of, fails_then, grows_same, later, may_lead_then, prepares_none, prepares_then}
use Rattle.dd_table.proofs.ServesLemmas.{region_stands, served_prepare, served_some}
use Rattle.dd_table.proofs.StillLemmas.{still_done}

-- in a state of a legal run tasks can be led on where all is quiet
pub leads_now : (l : Ledger) → IsWellFormed l.plan.now → LeadsTasksOn l.plan.now (ledgers.state_now l)
leads_now l well = subst (λ (st : State). LeadsTasksOn l.plan.now st) (sym l.facts.state) (every_leads_on l.plan.now l.journal.items well l.facts.legal)

-- no cause is kept where it isn't some
pub none_kept : (cause : Option RunFault) → is_some cause ≡ false → cause ≡ None
none_kept None is = refl
none_kept (Some fault) is = absurd (let e : true ≡ false = is in cc)

-- what holds of a fault holds of what is answered with it
pub failed : {A : Type 0} (P : Result A RunFault → Type 0) (answer : Result A RunFault) (fault : RunFault) → IsErrAnd answer (λ e. e ≡ fault) → P (Err fault) → P answer
failed P (Ok done) fault is at = absurd is
failed P (Err e) fault is at = subst (λ (f : RunFault). P (Err f)) (sym is) at

-- a list with so many more
more_some : (xs ys : List Event) → 1 ≤ length ys → 1 ≤ length (xs ++ ys)
more_some [] ys some = some
more_some (x ∷ xs) ys some = omega arith

module _ {D S : Type 0} {g : Ghosts D S} {h : SlotGhosts S} where
  -- entries were made that lead tasks on, and a task is Held; or none was made
  pub record IsAhead (t u : Table D S g h) : Type 0 where
    pub prior : List Event
    pub prepares : Prepares t u prior
    pub cause : u.cause ≡ None
    pub held : (prior ≡ []) ⊎ ((task : ℕ) × ((state_now u).tasks task ≡ Held))

  -- of the tasks behind a number, up to another, some were led on and one is Held; or none was, and each stands
  pub record IsRound (t u : Table D S g h) (before last : ℕ) (moved : Bool) : Type 0 where
    pub prior : List Event
    pub prepares : Prepares t u prior
    pub cause : u.cause ≡ None
    pub some : moved ≡ true → (1 ≤ length prior) × ((task : ℕ) × ((state_now u).tasks task ≡ Held))
    pub none : moved ≡ false → (prior ≡ []) × ((task : ℕ) → before < task → task ≤ last → Stands task u.holding.ledger.plan.now (state_now u))

  stays_state : (t u : Table D S g h) → Stays t u → state_now u ≡ state_now t
  stays_state t u stays = state_stays t.holding.ledger u.holding.ledger stays.grows.holds.grows

  stays_prepares : (t u : Table D S g h) → Stays t u → Prepares t u []
  stays_prepares t u stays = prepares_none t u stays.grows

  -- ---- a task that is served

  pub served_first : (t : Table D S g h) (task : ℕ) → t.cause ≡ None → (state_now t).tasks task ≡ Held → HasServed t t task false
  served_first t task running held = record {
    prior = [];
    prepares = prepares_none t t (grows_same t);
    cause = running;
    held = held;
    one = λ e. absurd (let x : false ≡ true = e in cc);
    none = λ _. refl;
  }

  pub served_next : (t m u : Table D S g h) (task : ℕ) (some : Bool) (event : Event) → HasServed t m task some → Serves m.holding.ledger.plan.now (state_now m) event
      → Ends m u (served m.holding.ledger.plan.now (state_now m) event) → HasServed t u task true
  served_next t m u task some event so_far serves ends =
      let plan = m.holding.ledger.plan.now in
      let events = served plan (state_now m) event in
      let more : Prepares m u events = record { grows = ends.enters.grows; prepares = served_prepare plan (state_now m) event serves } in
      record {
        prior = so_far.prior ++ events;
        prepares = prepares_then t m u so_far.prior events so_far.prepares more;
        cause = ends.enters.cause ∙ ends.none;
        held = (later m u events more).held task so_far.held;
        one = λ _. more_some so_far.prior events (served_some plan (state_now m) event);
        none = λ e. absurd (let x : true ≡ false = e in cc);
      }

  pub lead_served : (t u : Table D S g h) (task : ℕ) (some : Bool) → MayLead t → HasServed t u task some → MayLead u
  lead_served t u task some lead so_far = may_lead_then t u so_far.prior so_far.prepares lead so_far.cause

  pub served_less : (m u : Table D S g h) (event : Event) → Serves m.holding.ledger.plan.now (state_now m) event → Ends m u (served m.holding.ledger.plan.now (state_now m) event)
      → Prepares m u (served m.holding.ledger.plan.now (state_now m) event)
  served_less m u event serves ends = record { grows = ends.enters.grows; prepares = served_prepare m.holding.ledger.plan.now (state_now m) event serves }

  pub served_fails : (t m u : Table D S g h) (task : ℕ) (some : Bool) (event : Event) (fault : RunFault) → HasServed t m task some → Serves m.holding.ledger.plan.now (state_now m) event
      → Stops m u (served m.holding.ledger.plan.now (state_now m) event) fault → Fails t u fault
  served_fails t m u task some event fault so_far serves stops =
      let plan = m.holding.ledger.plan.now in
      let events = served plan (state_now m) event in
      fails_then t m u so_far.prior fault so_far.prepares so_far.cause (fails_of m u events fault (served_prepare plan (state_now m) event serves) stops)

  -- ---- a task that is led on

  pub moved_by : (t u : Table D S g h) (task : ℕ) → HasServed t u task true → Moves t u
  moved_by t u task so_far = record { prior = so_far.prior; prepares = so_far.prepares; some = so_far.one refl; cause = so_far.cause; task = task; held = so_far.held }

  pub stood_by : (t u : Table D S g h) (task : ℕ) → HasServed t u task false → Stays t u
  stood_by t u task so_far = record { grows = (subst (λ (l : List Event). Prepares t u l) (so_far.none refl) so_far.prepares).grows; cause = so_far.cause }

  -- behind entries that lead tasks on, what a step gives
  pub moves_then : (t m u : Table D S g h) (xs : List Event) → Prepares t m xs → Moves m u → Moves t u
  moves_then t m u xs p moves = record {
    prior = xs ++ moves.prior;
    prepares = prepares_then t m u xs moves.prior p moves.prepares;
    some = more_some xs moves.prior moves.some;
    cause = moves.cause;
    task = moves.task;
    held = moves.held;
  }

  -- and where it gave nothing, but some entries stand before
  pub moves_still : (t m u : Table D S g h) (xs : List Event) (task : ℕ) → Prepares t m xs → 1 ≤ length xs → (state_now m).tasks task ≡ Held → Stays m u → Moves t u
  moves_still t m u xs task p some held stays = record {
    prior = xs ++ [];
    prepares = prepares_then t m u xs [] p (stays_prepares m u stays);
    some = (let same = append-nil xs in let count : length (xs ++ []) ≡ length xs = ap (λ (l : List Event). length l) same in omega (arith, count, some));
    cause = stays.cause;
    task = task;
    held = ap (λ (st : State). st.tasks task) (stays_state m u stays) ∙ held;
  }

  -- ---- a round

  pub round_first : (t : Table D S g h) (before : ℕ) → t.cause ≡ None → IsRound t t before before false
  round_first t before running = record {
    prior = [];
    prepares = prepares_none t t (grows_same t);
    cause = running;
    some = λ e. absurd (let x : false ≡ true = e in cc);
    none = λ _. (refl, λ task low high. absurd (omega (arith, low, high)));
  }

  pub round_moved : (t m u : Table D S g h) (before i : ℕ) (moved : Bool) → IsRound t m before i moved → Moves m u → IsRound t u before (i + 1) true
  round_moved t m u before i moved round moves = record {
    prior = round.prior ++ moves.prior;
    prepares = prepares_then t m u round.prior moves.prior round.prepares moves.prepares;
    cause = moves.cause;
    some = λ _. (more_some round.prior moves.prior moves.some, (moves.task, moves.held));
    none = λ e. absurd (let x : true ≡ false = e in cc);
  }

  pub round_stood : (t m u : Table D S g h) (before i : ℕ) (moved : Bool) → IsRound t m before i moved → Stays m u → Stands (i + 1) u.holding.ledger.plan.now (state_now u) → IsRound t u before (i + 1) moved
  round_stood t m u before i moved round stays stand = record {
    prior = round.prior;
    prepares = subst (λ (l : List Event). Prepares t u l) (append-nil round.prior) (prepares_then t m u round.prior [] round.prepares (stays_prepares m u stays));
    cause = stays.cause;
    some = λ e. let was = round.some e in (was.0, (was.1.0, ap (λ (st : State). st.tasks was.1.0) (stays_state m u stays) ∙ was.1.1));
    none = λ e. let was = round.none e in (
      was.0,
      λ task low high. ⊎_elim
          (λ (last : task ≡ i + 1). subst (λ (x : ℕ). Stands x u.holding.ledger.plan.now (state_now u)) (sym last) stand)
          (λ (apart : task ≡ i + 1 → ⊥). still_stands task (was.1 task low (omega (arith, high, apart))))
          (cases_eq task (i + 1)),
    );
  }
    where
      still_stands : (task : ℕ) → Stands task m.holding.ledger.plan.now (state_now m) → Stands task u.holding.ledger.plan.now (state_now u)
      still_stands task stands =
          subst (λ (p : Bor Plan). Stands task p.now (state_now u)) (sym stays.grows.holds.grows.plan)
          (subst (λ (st : State). Stands task m.holding.ledger.plan.now st) (sym (stays_state m u stays)) stands)

  pub round_moves : (t u : Table D S g h) (before last : ℕ) → IsRound t u before last true → Moves t u
  round_moves t u before last round =
      let some = round.some refl in
      record { prior = round.prior; prepares = round.prepares; some = some.0; cause = round.cause; task = some.1.0; held = some.1.1 }

  pub round_stays : (t u : Table D S g h) (before last : ℕ) → IsRound t u before last false → Stays t u
  round_stays t u before last round = record { grows = (subst (λ (l : List Event). Prepares t u l) (round.none refl).0 round.prepares).grows; cause = round.cause }

  -- ---- rounds

  pub ahead_first : (t : Table D S g h) → t.cause ≡ None → IsAhead t t
  ahead_first t running = record { prior = []; prepares = prepares_none t t (grows_same t); cause = running; held = inl refl }

  pub ahead_next : (t m u : Table D S g h) → IsAhead t m → Moves m u → IsAhead t u
  ahead_next t m u ahead moves = record {
    prior = ahead.prior ++ moves.prior;
    prepares = prepares_then t m u ahead.prior moves.prior ahead.prepares moves.prepares;
    cause = moves.cause;
    held = inr (moves.task, moves.held);
  }

  pub may_lead : (t : Table D S g h) → IsWellFormed t.holding.ledger.plan.now → IsSome (state_now t).region → t.cause ≡ None → MayLead t
  may_lead t well open_is running = record { well = well; running = running; open_is = open_is }

  pub lead_ahead : (t u : Table D S g h) → MayLead t → IsAhead t u → MayLead u
  lead_ahead t u lead ahead = may_lead_then t u ahead.prior ahead.prepares lead ahead.cause

  pub free_ahead : (t u : Table D S g h) (worker : ℕ) → HasNone (state_now t) worker → IsAhead t u → HasNone (state_now u) worker
  free_ahead t u worker free ahead = (later t u ahead.prior ahead.prepares).free worker free

  -- where nobody can be led on and none runs, all are done
  pub all_done : (t : Table D S g h) (region : ℕ) → MayLead t → (state_now t).region ≡ Some region → AllStand t.holding.ledger.plan.now (state_now t)
      → running_count t.holding.ledger.plan.now (state_now t) ≡ 0 → AllDone t.holding.ledger.plan.now (state_now t) region
  all_done t region lead open_in stand none =
      let l = t.holding.ledger in
      still_done l.plan.now (state_now t) region open_in (leads_now l lead.well) (stand region open_in) (none_runs l.plan.now (state_now t) (sound_now l lead.well) none) (t.settled.idle lead.running)

  -- and then no task is Held, so no entry was made
  pub done_none : (t u : Table D S g h) → IsAhead t u → MayLead u → ((region : ℕ) → (state_now u).region ≡ Some region → AllDone u.holding.ledger.plan.now (state_now u) region) → GrowsBy t u []
  done_none t u ahead lead done = ⊎_elim
      (λ (none : ahead.prior ≡ []). (subst (λ (l : List Event). Prepares t u l) none ahead.prepares).grows)
      (λ (some : (task : ℕ) × ((state_now u).tasks task ≡ Held)).
      let known = (sound_now u.holding.ledger lead.well).limits.active_open some.0 (ap is_active some.1) in
      let is : Held ≡ Done = sym some.1 ∙ done known.0 known.1 some.0 known.2 in absurd cc)
      ahead.held

  pub ahead_stays : (t m u : Table D S g h) → IsAhead t m → Stays m u → IsAhead t u
  ahead_stays t m u ahead stays = record {
    prior = ahead.prior;
    prepares = subst (λ (l : List Event). Prepares t u l) (append-nil ahead.prior) (prepares_then t m u ahead.prior [] ahead.prepares (stays_prepares m u stays));
    cause = stays.cause;
    held = ⊎_elim
        (λ (none : ahead.prior ≡ []). inl none)
        (λ (some : (task : ℕ) × ((state_now m).tasks task ≡ Held)). inr (some.0, ap (λ (st : State). st.tasks some.0) (stays_state m u stays) ∙ some.1))
        ahead.held;
  }

  -- ---- what `next` answers

  pub next_still : (t u : Table D S g h) (worker : ℕ) (answer : Took) → t.cause ≡ None → IsAhead t u → MayLead u → AllStand u.holding.ledger.plan.now (state_now u) → StillGives u answer → NextGives t u worker answer
  next_still t u worker (took.Idle running out) before ahead lead stand gives = record {
    prior = ahead.prior;
    prepares = ahead.prepares;
    running_is = gives.0;
    out_is = gives.1;
    some = (let some = gives.2 in omega (arith, some));
    still = stand;
    before = before;
    cause = ahead.cause;
  }
  next_still t u worker took.AllDone before ahead lead stand gives = record { grows = done_none t u ahead lead gives; done = gives; before = before; cause = ahead.cause }
  next_still t u worker _ before ahead lead stand gives = absurd gives

  pub next_fails : (t m u : Table D S g h) (fault : RunFault) → t.cause ≡ None → IsAhead t m → Fails m u fault
      → ((prior : List Event) × Prepares t u prior) × (t.cause ≡ None) × (u.cause ≡ Some fault) × IsCaused t u fault
  next_fails t m u fault before ahead fails =
      let all = fails_then t m u ahead.prior fault ahead.prepares ahead.cause fails in
      ((all.prior, all.prepares), before, all.cause, all.disk)

  pub next_failed : (t m u : Table D S g h) (worker : ℕ) (answer : Took) (fault : RunFault) → answer ≡ took_of fault → t.cause ≡ None → IsAhead t m → Fails m u fault → NextGives t u worker answer
  next_failed t m u worker answer DiskFault is before ahead fails = subst (λ (a : Took). NextGives t u worker a) (sym is) (next_fails t m u DiskFault before ahead fails)
  next_failed t m u worker answer Memory is before ahead fails =
      let all = next_fails t m u Memory before ahead fails in
      subst (λ (a : Took). NextGives t u worker a) (sym is) (all.0, all.1, all.2)

  -- what a step gave, by its kind
  pub gives_hands : (t u : Table D S g h) (worker : ℕ) (stand : Plan → State → Type 0) (s : Step) (w : Work) → s ≡ step.Claimed w → StepGives t u worker stand (Ok s) → HandsOut t u worker w
  gives_hands t u worker stand s w is gives = subst (λ (x : Step). StepGives t u worker stand (Ok x)) is gives

  pub gives_moves : (t u : Table D S g h) (worker : ℕ) (stand : Plan → State → Type 0) (s : Step) → s ≡ step.Moved → StepGives t u worker stand (Ok s) → Moves t u
  gives_moves t u worker stand s is gives = subst (λ (x : Step). StepGives t u worker stand (Ok x)) is gives

  pub gives_stays : (t u : Table D S g h) (worker : ℕ) (stand : Plan → State → Type 0) (s : Step) → s ≡ step.Stood → StepGives t u worker stand (Ok s) → Stays t u × stand u.holding.ledger.plan.now (state_now u)
  gives_stays t u worker stand s is gives = subst (λ (x : Step). StepGives t u worker stand (Ok x)) is gives

  -- of a task that was held before, whatever it gave but a Claim
  pub moves_behind : (t m u : Table D S g h) (xs : List Event) (task worker : ℕ) (stand : Plan → State → Type 0) (s : Step) → Prepares t m xs → 1 ≤ length xs → (state_now m).tasks task ≡ Held
      → ((w : Work) → s ≡ step.Claimed w → ⊥) → StepGives m u worker stand (Ok s) → Moves t u
  moves_behind t m u xs task worker stand (step.Claimed w) p some held not_claimed gives = absurd (not_claimed w refl)
  moves_behind t m u xs task worker stand step.Moved p some held not_claimed gives = moves_then t m u xs p gives
  moves_behind t m u xs task worker stand step.Stood p some held not_claimed gives = moves_still t m u xs task p some held gives.0

  -- ---- a task that is held

  pub hold_prepares : (t m : Table D S g h) (task : ℕ) → Ends t m (Hold task ∷ []) → Prepares t m (Hold task ∷ [])
  hold_prepares t m task ends = record { grows = ends.enters.grows; prepares = All-cons IsPreparing (Hold task) [] tt (All-nil IsPreparing) }

  pub held_by : (t m : Table D S g h) (task : ℕ) → Ends t m (Hold task ∷ []) → (state_now m).tasks task ≡ Held
  held_by t m task ends =
      ap (λ (st : State). st.tasks task) (state_next t.holding.ledger m.holding.ledger (record { line = line_now t; event = Hold task }) ends.enters.grows.holds.grows) ∙ at_one_same (state_now t).tasks task Held

  pub hold_fails : (t u : Table D S g h) (task : ℕ) (fault : RunFault) → Stops t u (Hold task ∷ []) fault → Fails t u fault
  hold_fails t u task fault stops = fails_of t u (Hold task ∷ []) fault (All-cons IsPreparing (Hold task) [] tt (All-nil IsPreparing)) stops

  pub stays_same : (t : Table D S g h) → t.cause ≡ None → Stays t t
  stays_same t running = record { grows = grows_same t; cause = running }

  -- where each task of the region was asked, the region stands
  pub round_stands : (t u : Table D S g h) (region before last i : ℕ) → IsRound t u before i false → (state_now t).region ≡ Some region
      → ((task : ℕ) → IsOf t.holding.ledger.plan.now region task → (before < task) × (task ≤ last)) → last ≤ i → AllStand u.holding.ledger.plan.now (state_now u)
  round_stands t u region before last i round open_in within all =
      let none = round.none refl in
      region_stands u.holding.ledger.plan.now (state_now u) region ((later t u round.prior round.prepares).region ∙ open_in)
      (λ task of_region.
      let is = within task (subst (λ (p : Bor Plan). IsOf p.now region task) round.prepares.grows.holds.grows.plan of_region) in
      none.1 task is.0 (let high = is.1 in omega (arith, high, all)))
