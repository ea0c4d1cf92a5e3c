-- Turns of the one worker: it gets a task, runs it, and gives it back.
use Rattle.std.proofs.Common.{◌≡◌, ℕ, ◌<◌, Bool, true, false, not, ◌||◌, List, [], ◌∷◌, ◌++◌, take, Bor, Some, None, Ok, Err, refl, ap, sym, ◌∙◌, subst, arith}
use Rattle.std.specs.Prelude.{IsSome, is_some}
use Rattle.std.specs.List.{All}
use Rattle.std.proofs.lemmas.List.Elements.{All-append, All-cons, All-head, All-nil, All-tail}
use Rattle.dd_blocks.specs.declared.plan.Plan.{Plan}
use Rattle.dd_blocks.specs.WellFormed.{IsWellFormed}
use Rattle.dd_core.specs.Lines.{with_line}
use Rattle.dd_holding.specs.Holdings.{Holds}
use Rattle.dd_holding.proofs.HereLemmas.{sound_now}
use Rattle.dd_ledger.proofs.GrowsLemmas.{state_grows, state_stays}
use Rattle.dd_machine.specs.declared.entry.Entry.{Entry}
use Rattle.dd_machine.specs.declared.event.Event.{Event}
use Rattle.dd_machine.specs.declared.event.Event.TheVariants.{Claim, Finish}
use Rattle.dd_machine.specs.declared.task_state.TaskState.{TaskState}
use Rattle.dd_machine.specs.declared.task_state.TaskState.TheVariants.{Running}
use Rattle.dd_machine.specs.Bytes.{when}
use Rattle.dd_machine.specs.Effects.{after}
use Rattle.dd_machine.specs.Legal.{MayClaim}
use Rattle.dd_machine.specs.Owed.{left, next_line}
use Rattle.dd_machine.specs.Runs.{IsRun, has_pick, state_after}
use Rattle.dd_machine.specs.States.{Progress, State}
use Rattle.dd_machine.specs.Tests.{is_active, is_running}
use Rattle.dd_machine.specs.Words.{IsOneOf, tasks}
use Rattle.dd_machine.proofs.RunsLemmas.{run_first, run_parts, state_parts}
use Rattle.dd_machine.proofs.TotalsLemmas.{total_zero, when_false}
use Rattle.dd_run.specs.Gives.{AreBy, RunsTasks}
use Rattle.dd_run.proofs.AtLemmas.{plan_of}
use Rattle.dd_run.proofs.TasksLemmas.{Ended, GoesOn, Prepared, ended_one, fewer_going, goes_then, none_prepared, prepared_all, undone}
use Rattle.dd_stamps.specs.declared.work.Stage.TheVariants.{Ran}
use Rattle.dd_stamps.specs.declared.work.Work.{Work}
use Rattle.dd_stamps.specs.Works.{IsSameWork}
use Rattle.dd_statements.proofs.OrdersLemmas.{lines_both}
use Rattle.dd_statements.proofs.AddsLemmas.{grows_none}
use Rattle.dd_store.specs.declared.store.Slot.{Ghosts as SlotGhosts}
use Rattle.dd_store.specs.declared.store.Store.{Ghosts}
use Rattle.dd_table.specs.declared.fault.RunFault.{RunFault}
use Rattle.dd_table.specs.declared.table.Table.{Table}
use Rattle.dd_table.specs.Outs.{HasNone, HasNothingOut, event_at, running_count}
use Rattle.dd_table.specs.Still.{IsPreparing}
use Rattle.dd_table.specs.Tables.{Enters, GrowsBy, line_now, or_zero, state_now}
use Rattle.dd_table.specs.Turns.{HandsOut, IsDone, IsIdle, MayFinish, Prepares}
use Rattle.dd_table.proofs.AskedLemmas.{state_one}
use Rattle.dd_table.proofs.FactsLemmas.{holds_then}
use Rattle.dd_table.proofs.RoomLemmas.{run_grown}

-- ---- events

abbrev IsBy : Event → Type 0
IsBy e = (task worker : ℕ) → e ≡ Claim task worker → worker ≡ 1

-- what leads tasks on claims none
prepared_by : (x : Event) → IsPreparing x → IsBy x
prepared_by x prepares task worker is = absurd (subst IsPreparing is prepares)

prepared_claims : (events : List Event) → All IsPreparing events → AreBy 1 events
prepared_claims [] prepare = All-nil IsBy
prepared_claims (x ∷ xs) prepare = All-cons IsBy x xs (prepared_by x (All-head IsPreparing x xs prepare)) (prepared_claims xs (All-tail IsPreparing x xs prepare))

claim_by : (task : ℕ) → IsBy (Claim task 1)
claim_by task other worker is = let e : worker ≡ 1 = cc in e

finish_by : (task : ℕ) → IsBy (Finish task)
finish_by task other worker is = absurd (cc)

turn_claims : (prior : List Event) (task : ℕ) → All IsPreparing prior → AreBy 1 ((prior ++ Claim task 1 ∷ []) ++ Finish task ∷ [])
turn_claims prior task prepare =
    All-append IsBy (prior ++ Claim task 1 ∷ []) (Finish task ∷ [])
    (All-append IsBy prior (Claim task 1 ∷ []) (prepared_claims prior prepare) (All-cons IsBy (Claim task 1) [] (claim_by task) (All-nil IsBy)))
    (All-cons IsBy (Finish task) [] (finish_by task) (All-nil IsBy))

-- a running task is at work
running_active : (s : TaskState) (w : ℕ) → s ≡ Running w → is_active s ≡ true
running_active s w is = ap is_active is

pub none_has : (st : State) (worker : ℕ) → HasNothingOut st → HasNone st worker
none_has st worker none task is = let e : false ≡ true = sym (none task) ∙ ap is_running is in absurd (cc)

module _ {D S : Type 0} {g : Ghosts D S} {h : SlotGhosts S} where
  -- ---- tables

  -- tasks were run so far, and nothing is out
  pub record HasRun (t m : Table D S g h) : Type 0 where
    pub added : List Event
    pub grows : GrowsBy t m (with_line (line_now t) added)
    pub claims : AreBy 1 added
    pub goes : GoesOn (state_now t) (state_now m)
    pub none_out : HasNothingOut (state_now m)
    pub cause : m.cause ≡ None

  pub run_none : (t : Table D S g h) → t.cause ≡ None → HasNothingOut (state_now t) → HasRun t t
  run_none t running none = record {
    added = [];
    grows = grows_none t;
    claims = All-nil IsBy;
    goes = record { region = refl; progress = refl; pin = refl; done = λ x is. is };
    none_out = none;
    cause = running;
  }

  pub plan_grown : (t u : Table D S g h) (entries : List Entry) → GrowsBy t u entries → plan_of u ≡ plan_of t
  plan_grown t u entries grows = ap (λ (p : Bor Plan). p.now) grows.holds.grows.plan

  -- the line stays where the statements do
  pub line_goes : (t u : Table D S g h) (entries : List Entry) → GrowsBy t u entries → (state_now u).progress ≡ (state_now t).progress → line_now u ≡ line_now t
  line_goes t u entries grows same =
      ap (λ (p : Plan). or_zero (next_line (left p (state_now u).progress))) (plan_grown t u entries grows)
      ∙ ap (λ (p : Progress). or_zero (next_line (left (plan_of t) p))) same

  pub grows_both : (t m u : Table D S g h) (xs ys : List Event) → GrowsBy t m (with_line (line_now t) xs) → line_now m ≡ line_now t → GrowsBy m u (with_line (line_now m) ys) → GrowsBy t u (with_line (line_now t) (xs ++ ys))
  grows_both t m u xs ys p same q =
      let more : GrowsBy m u (with_line (line_now t) ys) = subst (λ (l : ℕ). GrowsBy m u (with_line l ys)) same q in
      record {
        holds = subst (Holds t.holding u.holding) (sym (lines_both (line_now t) xs ys)) (holds_then t.holding m.holding u.holding (with_line (line_now t) xs) (with_line (line_now t) ys) p.holds more.holds);
        opening = more.opening ∙ p.opening;
        faults = (let first = p.faults in let second = more.faults in omega (arith, first, second));
      }

  -- where nothing was out, nothing is behind what leads tasks on
  pub prepares_goes : (m u : Table D S g h) (prior : List Event) → Prepares m u prior → Prepared (state_now m) (state_now u)
  prepares_goes m u prior p =
      let entries = with_line (line_now m) prior in
      subst (Prepared (state_now m)) (sym (state_grows m.holding.ledger u.holding.ledger entries p.grows.holds.grows))
      (prepared_all (plan_of m) (state_now m) (line_now m) prior p.prepares (run_grown m.holding.ledger u.holding.ledger entries p.grows.holds.grows))

  -- ---- one turn

  -- the task that was handed out was Held, and it runs now
  record Claimed (m u : Table D S g h) (task : ℕ) : Type 0 where
    mid : State
    prepared : Prepared (state_now m) mid
    may : MayClaim (plan_of m) mid task 1
    now : state_now u ≡ after (plan_of m) mid (Claim task 1)

  claimed : (m u : Table D S g h) (w : Work) → HandsOut m u 1 w → Claimed m u w.task
  unfolding state_after
  claimed m u w hands =
      let line = line_now m in
      let plan = plan_of m in
      let st = state_now m in
      let entries = with_line line (hands.prior ++ Claim w.task 1 ∷ []) in
      let split = lines_both line hands.prior (Claim w.task 1 ∷ []) in
      let front = with_line line hands.prior in
      let last : List Entry = record { line = line; event = Claim w.task 1 } ∷ [] in
      let run = run_parts plan st front last (subst (IsRun plan st) split (run_grown m.holding.ledger u.holding.ledger entries hands.grows.holds.grows)) in
      record {
        mid = state_after plan st front;
        prepared = prepared_all plan st line hands.prior hands.prepares run.0;
        may = (run_first plan (state_after plan st front) (record { line = line; event = Claim w.task 1 }) [] run.1).0.1;
        now = state_grows m.holding.ledger u.holding.ledger entries hands.grows.holds.grows ∙ ap (state_after plan st) split ∙ state_parts plan st front last;
      }

  -- after it ended
  pub turn_ends : (m u v : Table D S g h) (w : Work) → IsWellFormed (plan_of m) → HasNothingOut (state_now m) → HandsOut m u 1 w → Enters u v (Finish w.task ∷ []) → Ended (plan_of m) (state_now m) (state_now v)
  turn_ends m u v w well none hands ends =
      let c = claimed m u w hands in
      let plan = plan_of m in
      let same = plan_grown m u (with_line (line_now m) (hands.prior ++ Claim w.task 1 ∷ [])) hands.grows in
      let sound = sound_now u.holding.ledger (subst IsWellFormed (sym same) well) in
      let known : IsOneOf (tasks plan) w.task = subst (λ (p : Plan). IsOneOf (tasks p) w.task) same (sound.limits.active_open w.task (running_active ((state_now u).tasks w.task) w.worker hands.out.running)).2.0 in
      let one = ended_one plan c.mid w.task 1 (none_prepared (state_now m) c.mid c.prepared none) c.may.held known in
      let now : state_now v ≡ after plan (after plan c.mid (Claim w.task 1)) (Finish w.task) =
      state_one u v (Finish w.task) ends ∙ ap (λ (p : Plan). after p (state_now u) (Finish w.task)) same ∙ ap (λ (s : State). after plan s (Finish w.task)) c.now in
      subst (Ended plan (state_now m)) (sym now) (record {
        goes = goes_then (state_now m) c.mid (after plan (after plan c.mid (Claim w.task 1)) (Finish w.task)) c.prepared.goes one.goes;
        none = one.none;
        fewer = (let less = one.fewer in let before = fewer_going plan (state_now m) c.mid c.prepared.goes in omega (arith, less, before));
      })

  progress_claimed : (m u : Table D S g h) (task : ℕ) → Claimed m u task → (state_now u).progress ≡ (state_now m).progress
  progress_claimed m u task c = ap (λ (s : State). s.progress) c.now ∙ c.prepared.goes.progress

  pub run_turn : (t m u v : Table D S g h) (w : Work) → IsWellFormed (plan_of t) → HasRun t m → HandsOut m u 1 w → Enters u v (Finish w.task ∷ []) → HasRun t v
  run_turn t m u v w well p hands ends =
      let claim = hands.prior ++ Claim w.task 1 ∷ [] in
      let same = plan_grown t m (with_line (line_now t) p.added) p.grows in
      let ended = turn_ends m u v w (subst IsWellFormed (sym same) well) p.none_out hands ends in
      let line_m = line_goes t m (with_line (line_now t) p.added) p.grows p.goes.progress in
      let line_u = line_goes m u (with_line (line_now m) claim) hands.grows (progress_claimed m u w.task (claimed m u w hands)) in
      record {
        added = p.added ++ (claim ++ Finish w.task ∷ []);
        grows = grows_both t m v p.added (claim ++ Finish w.task ∷ []) p.grows line_m (grows_both m u v claim (Finish w.task ∷ []) hands.grows line_u ends.grows);
        claims = All-append IsBy p.added (claim ++ Finish w.task ∷ []) p.claims (turn_claims hands.prior w.task hands.prepares);
        goes = goes_then (state_now t) (state_now m) (state_now v) p.goes ended.goes;
        none_out = ended.none;
        cause = ends.cause ∙ hands.cause;
      }

  -- and fewer tasks are left
  pub turn_fewer : (t m u v : Table D S g h) (w : Work) → IsWellFormed (plan_of t) → HasRun t m → HandsOut m u 1 w → Enters u v (Finish w.task ∷ []) → undone (plan_of v) (state_now v) < undone (plan_of m) (state_now m)
  turn_fewer t m u v w well p hands ends =
      let same = plan_grown t m (with_line (line_now t) p.added) p.grows in
      let plan_v : plan_of v ≡ plan_of m = plan_grown u v (with_line (line_now u) (Finish w.task ∷ [])) ends.grows ∙ plan_grown m u (with_line (line_now m) (hands.prior ++ Claim w.task 1 ∷ [])) hands.grows in
      let less = (turn_ends m u v w (subst IsWellFormed (sym same) well) p.none_out hands ends).fewer in
      subst (λ (q : Plan). undone q (state_now v) < undone (plan_of m) (state_now m)) (sym plan_v) less

  -- a work that was run may be taken back
  pub may_finish : (m u : Table D S g h) (w x : Work) → HandsOut m u 1 w → IsSameWork w x → x.stage ≡ Ran → x.told.mark ≡ w.told.mark → MayFinish u x
  may_finish m u w x hands same ran told = record {
    out = record {
      plan = same.plan ∙ hands.out.plan;
      claimed = ap (event_at u.holding.ledger.journal.items) same.number ∙ hands.out.claimed ∙ ap (λ (k : ℕ). Some (Claim k w.worker)) (sym same.task) ∙ ap (λ (k : ℕ). Some (Claim x.task k)) (sym same.worker);
      running = ap (state_now u).tasks same.task ∙ hands.out.running ∙ ap (λ (k : ℕ). Running k) (sym same.worker);
      picked = same.picked ∙ hands.out.picked ∙ ap (λ (k : ℕ). has_pick (take k u.holding.ledger.journal.items)) (sym same.number);
    };
    ran = ran;
    told = λ tells. told ∙ hands.told (ap (λ (b : Bool). SlotGhosts.tells h || not b) (sym same.picked) ∙ tells);
  }

  -- ---- the end

  pub tasks_done : (t m u : Table D S g h) → HasRun t m → IsDone m u → RunsTasks t u (Ok tt)
  tasks_done t m u p done =
      let now = state_stays m.holding.ledger u.holding.ledger done.grows.holds.grows in
      record {
        added = p.added ++ [];
        grows = grows_both t m u p.added [] p.grows (line_goes t m (with_line (line_now t) p.added) p.grows p.goes.progress) done.grows;
        claims = All-append IsBy p.added [] p.claims (All-nil IsBy);
        progress = ap (λ (s : State). s.progress) now ∙ p.goes.progress;
        region = ap (λ (s : State). s.region) now ∙ p.goes.region;
        pin = ap (λ (s : State). s.pin) now ∙ p.goes.pin;
        done = done.done;
        running = done.cause;
        stopped = λ fault is. absurd (cc);
      }

  pub tasks_stop : (t m u : Table D S g h) (prior : List Event) (fault : RunFault) → HasRun t m → Prepares m u prior → u.cause ≡ Some fault → RunsTasks t u (Err fault)
  tasks_stop t m u prior fault p prepares cause =
      let goes = (prepares_goes m u prior prepares).goes in
      record {
        added = p.added ++ prior;
        grows = grows_both t m u p.added prior p.grows (line_goes t m (with_line (line_now t) p.added) p.grows p.goes.progress) prepares.grows;
        claims = All-append IsBy p.added prior p.claims (prepared_claims prior prepares.prepares);
        progress = goes.progress ∙ p.goes.progress;
        region = goes.region ∙ p.goes.region;
        pin = goes.pin ∙ p.goes.pin;
        done = tt;
        running = tt;
        stopped = λ f is. (let same : fault ≡ f = cc in cause ∙ ap (λ (x : RunFault). Some x) same);
      }

  -- ---- what can't be

  pub not_stopped : {A : Type 0} (t m : Table D S g h) → HasRun t m → IsSome m.cause → A
  not_stopped t m p kept = let e : false ≡ true = sym (ap is_some p.cause) ∙ kept in absurd (cc)

  pub not_idle : {A : Type 0} (t m u : Table D S g h) (running out : ℕ) → HasRun t m → IsIdle m u running out → A
  not_idle t m u running out p idle =
      let none = none_prepared (state_now m) (state_now u) (prepares_goes m u idle.prior idle.prepares) p.none_out in
      let zero : running_count (plan_of u) (state_now u) ≡ 0 = total_zero (tasks (plan_of u)) (λ k. when (is_running ((state_now u).tasks k)) 1) (λ k is. when_false (is_running ((state_now u).tasks k)) 1 (none k)) in
      let some = idle.some in
      let count = idle.running_is in
      let jobs = idle.out_is in
      absurd (omega (arith, zero, some, count, jobs))

  -- the same work by another name
  pub ends_same : (u v : Table D S g h) (w x : Work) → IsSameWork w x → Enters u v (Finish x.task ∷ []) → Enters u v (Finish w.task ∷ [])
  ends_same u v w x same ends = subst (λ (k : ℕ). Enters u v (Finish k ∷ [])) same.task ends
