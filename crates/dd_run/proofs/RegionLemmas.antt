-- A region: it begins, its tasks are run, and it is written back and closed.
use Rattle.std.proofs.Common.{◌≡◌, ℕ, suc, ◌<◌, Bool, true, false, List, [], ◌∷◌, ◌++◌, length, map, drop, Some, None, Result, Ok, Err, refl, ap, sym, ◌∙◌, subst}
use Rattle.std.specs.Prelude.{IsSome, OnOk, is_some}
use Rattle.std.specs.List.{filter, flat_map, list_all, range_with_len}
use Rattle.std.proofs.lemmas.Bool.{and_parts}
use Rattle.std.proofs.lemmas.List.Elements.{All-append, All-cons, All-nil}
use Rattle.dd_back.specs.Backs.{AreHoming, StopsHoming, WriteBackGives, WritesBack, freed_elsewhere, freed_of_block, is_elsewhere, is_homing}
use Rattle.dd_back.specs.Steps.{IsAtEnd}
use Rattle.dd_blocks.specs.declared.plan.Plan.{Plan}
use Rattle.dd_blocks.specs.declared.what.What.{What}
use Rattle.dd_blocks.specs.declared.what.What.TheVariants.{Region}
use Rattle.dd_blocks.specs.WellFormed.{IsWellFormed}
use Rattle.dd_core.specs.Due.{AreDue}
use Rattle.dd_core.specs.Lines.{with_line}
use Rattle.dd_ledger.specs.Ledgers as ledgers
use Rattle.dd_machine.specs.declared.entry.Entry.{Entry}
use Rattle.dd_machine.specs.declared.event.Event.{Event}
use Rattle.dd_machine.specs.declared.event.Event.TheVariants.{Begin, Claim, Close, Free}
use Rattle.dd_machine.specs.Effects.{after}
use Rattle.dd_machine.specs.Legal.{MayBegin}
use Rattle.dd_machine.specs.Orderly.{ComesNext}
use Rattle.dd_machine.specs.Owed.{entries_of, left, next_line, one_more}
use Rattle.dd_machine.specs.Runs.{state_after}
use Rattle.dd_machine.specs.States.{Progress, State}
use Rattle.dd_machine.specs.Tests.{is_running}
use Rattle.dd_machine.specs.Words.{blocks, rows, spaces}
use Rattle.dd_machine.proofs.CalmLemmas.{nobody_at_work}
use Rattle.dd_machine.proofs.ProgressLemmas.{Makes, makes_next}
use Rattle.dd_run.specs.Gives.{AreBy, EntersRow, RunGives, RunsTasks}
use Rattle.dd_run.specs.Rows.{IsAtRow}
use Rattle.dd_run.proofs.AtLemmas.{due_at, plan_of, sound_at}
use Rattle.dd_run.proofs.NamesLemmas.{names_kept}
use Rattle.dd_run.proofs.NextLemmas.{lines_due, names_stay, row_line}
use Rattle.dd_run.proofs.TurnsLemmas.{grows_both, line_goes, plan_grown}
use Rattle.dd_store.specs.declared.store.Slot.{Ghosts as SlotGhosts}
use Rattle.dd_store.specs.declared.store.Store.{Ghosts}
use Rattle.dd_table.specs.declared.fault.RunFault.{RunFault}
use Rattle.dd_table.specs.declared.table.Table.{Table}
use Rattle.dd_table.specs.Outs.{HasNothingOut}
use Rattle.dd_table.specs.Tables.{Ends, GrowsBy, Stops, line_now, or_zero, state_now}
use Rattle.dd_table.proofs.AskedLemmas.{state_one}
use Rattle.dd_table.proofs.DueLemmas.{due_first, line_more}
use Rattle.dd_table.proofs.PreparesLemmas.{all_front, running_active}
use Rattle.laws_of_rows.specs.Rows.{entries_now, events_now, next_what}
use Rattle.laws_of_rows.proofs.DueLemmas.{entries_at_row}
use Rattle.laws_of_rows.proofs.RowsLemmas.{at_next_drop}

-- ---- events

abbrev IsBy : Event → Type 0
IsBy e = (task worker : ℕ) → e ≡ Claim task worker → worker ≡ 1

by_homing : (x : Event) → is_homing x ≡ true → IsBy x
by_homing x homing task worker is = absurd (let e : false ≡ true = sym (ap is_homing is) ∙ homing in cc)

pub homing_claims : (events : List Event) → AreHoming events → AreBy 1 events
homing_claims [] homing = All-nil IsBy
homing_claims (x ∷ xs) homing = let parts = and_parts (is_homing x) (list_all is_homing xs) homing in All-cons IsBy x xs (by_homing x parts.0) (homing_claims xs parts.1)

by_free : (space block : ℕ) → IsBy (Free space block)
by_free space block task worker is = absurd (cc)

frees_claims : (block : ℕ) (ss : List ℕ) → AreBy 1 (map (λ space. Free space block) ss)
frees_claims block [] = All-nil IsBy
frees_claims block (s ∷ ss) = All-cons IsBy (Free s block) (map (λ space. Free space block) ss) (by_free s block) (frees_claims block ss)

freed_claims : (plan : Plan) (st : State) (bs : List ℕ) → AreBy 1 (flat_map (freed_of_block plan st) bs)
freed_claims plan st [] = All-nil IsBy
freed_claims plan st (b ∷ bs) =
    All-append IsBy (freed_of_block plan st b) (flat_map (freed_of_block plan st) bs) (frees_claims b (filter (is_elsewhere st b) (range_with_len 1 (spaces plan)))) (freed_claims plan st bs)

by_begin : (region : ℕ) → IsBy (Begin region)
by_begin region task worker is = absurd (cc)

by_close : (region : ℕ) → IsBy (Close region)
by_close region task worker is = absurd (cc)

pub begin_claims : (region : ℕ) → AreBy 1 (Begin region ∷ [])
begin_claims region = All-cons IsBy (Begin region) [] (by_begin region) (All-nil IsBy)

back_claims : (plan : Plan) (st : State) (home : List Event) (region : ℕ) → AreHoming home → AreBy 1 (home ++ (freed_elsewhere plan st ++ Close region ∷ []))
back_claims plan st home region homing =
    All-append IsBy home (freed_elsewhere plan st ++ Close region ∷ []) (homing_claims home homing)
    (All-append IsBy (freed_elsewhere plan st) (Close region ∷ []) (freed_claims plan st (range_with_len 1 (blocks plan))) (All-cons IsBy (Close region) [] (by_close region) (All-nil IsBy)))

ran_claims : (region : ℕ) (xs : List Event) → AreBy 1 xs → AreBy 1 (Begin region ∷ xs)
ran_claims region xs claims = All-cons IsBy (Begin region) xs (by_begin region) claims

module _ {D S : Type 0} {g : Ghosts D S} {h : SlotGhosts S} where
  -- ---- the begin

  pub begin_due : (t : Table D S g h) (i region : ℕ) → IsWellFormed (plan_of t) → i < rows (plan_of t) → IsAtRow (plan_of t) i t → next_what (plan_of t) i ≡ Region region
      → AreDue (plan_of t) (state_now t) (Begin region ∷ Close region ∷ [])
  begin_due t i region well lt at is = due_at t i (Region region) well lt at is

  pub begin_may : (t : Table D S g h) (i region : ℕ) → IsWellFormed (plan_of t) → i < rows (plan_of t) → IsAtRow (plan_of t) i t → next_what (plan_of t) i ≡ Region region
      → MayBegin (plan_of t) (state_now t) region
  begin_may t i region well lt at is = record {
    no_pin = at.at.pin;
    outside = at.at.region;
    due = due_first (plan_of t) (state_now t) (Begin region) (Close region ∷ []) (begin_due t i region well lt at is);
  }

  -- the region is open, and nothing else changed
  pub record Opens (t m : Table D S g h) (i region : ℕ) : Type 0 where
    pub grows : GrowsBy t m (with_line (line_now t) (Begin region ∷ []))
    pub now : state_now m ≡ after (plan_of t) (state_now t) (Begin region)
    pub line_t : line_now t ≡ row_line t i
    pub line_m : line_now m ≡ line_now t
    pub cause : m.cause ≡ None
    pub plan : plan_of m ≡ plan_of t

  pub row_line_is : (t : Table D S g h) (i region : ℕ) → IsWellFormed (plan_of t) → i < rows (plan_of t) → IsAtRow (plan_of t) i t → next_what (plan_of t) i ≡ Region region → line_now t ≡ row_line t i
  row_line_is t i region well lt at is = ap (λ (es : List Entry). or_zero (next_line es)) (lines_due t i (Region region) well lt at is)

  pub opens : (t m : Table D S g h) (i region : ℕ) → IsWellFormed (plan_of t) → i < rows (plan_of t) → IsAtRow (plan_of t) i t → next_what (plan_of t) i ≡ Region region
      → Ends t m (Begin region ∷ []) → Opens t m i region
  opens t m i region well lt at is ends =
      let now = state_one t m (Begin region) ends.enters in
      let same = plan_grown t m (with_line (line_now t) (Begin region ∷ [])) ends.enters.grows in
      record {
        grows = ends.enters.grows;
        now = now;
        line_t = row_line_is t i region well lt at is;
        line_m = ap (λ (p : Plan). or_zero (next_line (left p (state_now m).progress))) same
            ∙ ap or_zero (line_more (plan_of t) (state_now t) (state_now m) (Begin region) (Close region) [] (begin_due t i region well lt at is) (ap (λ (s : State). s.progress) now));
        cause = ends.enters.cause ∙ ends.none;
        plan = same;
      }

  pub open_is : (t m : Table D S g h) (i region : ℕ) → Opens t m i region → (state_now m).region ≡ Some region
  open_is t m i region o = ap (λ (s : State). s.region) o.now

  pub open_pin : (t m : Table D S g h) (i region : ℕ) → IsAtRow (plan_of t) i t → Opens t m i region → (state_now m).pin ≡ None
  open_pin t m i region at o = ap (λ (s : State). s.pin) o.now ∙ at.at.pin

  pub open_some : (t m : Table D S g h) (i region : ℕ) → Opens t m i region → IsSome (state_now m).region
  open_some t m i region o = ap is_some (open_is t m i region o)

  pub open_none : (t m : Table D S g h) (i region : ℕ) → IsWellFormed (plan_of t) → IsAtRow (plan_of t) i t → Opens t m i region → HasNothingOut (state_now m)
  open_none t m i region well at o task = by (is_running ((state_now m).tasks task)) refl
    where
      by : (b : Bool) → is_running ((state_now m).tasks task) ≡ b → is_running ((state_now m).tasks task) ≡ false
      by false is = is
      by true is =
          let was : is_running ((state_now t).tasks task) ≡ true = sym (ap (λ (s : State). is_running (s.tasks task)) o.now) ∙ is in
          absurd (let e : true ≡ false = sym (running_active ((state_now t).tasks task) was) ∙ nobody_at_work (plan_of t) (state_now t) (sound_at t well) at.at.region task in cc)

  -- ---- its entries

  pub region_enters : (t u : Table D S g h) (i : ℕ) (added : List Event) → line_now t ≡ row_line t i → GrowsBy t u (with_line (line_now t) added) → AreBy 1 added → EntersRow (plan_of t) i t u
  region_enters t u i added line grows claims = record {
    added = added;
    grows = subst (λ (l : ℕ). ledgers.GrowsBy t.holding.ledger u.holding.ledger (with_line l added)) line grows.holds.grows;
    claims = claims;
    opening = grows.opening;
  }

  -- it didn't begin
  pub begin_stops : (t m : Table D S g h) (i region : ℕ) (fault : RunFault) → IsWellFormed (plan_of t) → i < rows (plan_of t) → IsAtRow (plan_of t) i t → next_what (plan_of t) i ≡ Region region
      → Stops t m (Begin region ∷ []) fault → RunGives (plan_of t) i t m (Err fault)
  begin_stops t m i region fault well lt at is stops = record {
    enters = region_enters t m i stops.done (row_line_is t i region well lt at is) stops.grows (all_front IsBy stops.done stops.rest (subst (AreBy 1) stops.all (begin_claims region)));
    stands = λ disk. stops.cause ∙ ap (λ (f : RunFault). Some f) disk;
  }

  -- its tasks were run, all of them or some
  pub ran_grows : (t m n : Table D S g h) (i region : ℕ) (result : Result (Unit {0}) RunFault) → Opens t m i region → (p : RunsTasks m n result) → GrowsBy t n (with_line (line_now t) (Begin region ∷ p.added))
  ran_grows t m n i region result o p = grows_both t m n (Begin region ∷ []) p.added o.grows o.line_m p.grows

  pub tasks_stopped : (t m n : Table D S g h) (i region : ℕ) (fault : RunFault) → Opens t m i region → RunsTasks m n (Err fault) → RunGives (plan_of t) i t n (Err fault)
  tasks_stopped t m n i region fault o p = record {
    enters = region_enters t n i (Begin region ∷ p.added) o.line_t (ran_grows t m n i region (Err fault) o p) (ran_claims region p.added p.claims);
    stands = λ disk. p.stopped fault refl ∙ ap (λ (f : RunFault). Some f) disk;
  }

  pub ran_region : (t m n : Table D S g h) (i region : ℕ) (result : Result (Unit {0}) RunFault) → Opens t m i region → RunsTasks m n result → (state_now n).region ≡ Some region
  ran_region t m n i region result o p = p.region ∙ open_is t m i region o

  pub ran_line : (t m n : Table D S g h) (i region : ℕ) (result : Result (Unit {0}) RunFault) → Opens t m i region → RunsTasks m n result → line_now n ≡ line_now t
  ran_line t m n i region result o p = line_goes m n (with_line (line_now m) p.added) p.grows p.progress ∙ o.line_m

  pub ran_plan : (t m n : Table D S g h) (i region : ℕ) (result : Result (Unit {0}) RunFault) → Opens t m i region → RunsTasks m n result → plan_of n ≡ plan_of t
  ran_plan t m n i region result o p = plan_grown m n (with_line (line_now m) p.added) p.grows ∙ o.plan

  pub ran_end : (t m n : Table D S g h) (i region : ℕ) → Opens t m i region → RunsTasks m n (Ok tt) → IsAtEnd (plan_of n) (state_now n)
  ran_end t m n i region o p = record {
    region = region;
    open_is = ran_region t m n i region (Ok tt) o p;
    done = p.done region (ran_region t m n i region (Ok tt) o p);
  }

  -- the write-back stopped
  pub back_stops : (t m n u : Table D S g h) (i region : ℕ) (fault : RunFault) → Opens t m i region → RunsTasks m n (Ok tt) → StopsHoming n u fault → RunGives (plan_of t) i t u (Err fault)
  back_stops t m n u i region fault o p q = record {
    enters = region_enters t u i ((Begin region ∷ p.added) ++ q.events) o.line_t
        (grows_both t n u (Begin region ∷ p.added) q.events (ran_grows t m n i region (Ok tt) o p) (ran_line t m n i region (Ok tt) o p) q.grows)
        (All-append IsBy (Begin region ∷ p.added) q.events (ran_claims region p.added p.claims) (homing_claims q.events q.homing));
    stands = λ disk. q.cause ∙ ap (λ (f : RunFault). Some f) disk;
  }

  -- ---- the next row

  pub back_ends : (t m n u : Table D S g h) (i region : ℕ) → IsWellFormed (plan_of t) → i < rows (plan_of t) → IsAtRow (plan_of t) i t → next_what (plan_of t) i ≡ Region region
      → Opens t m i region → RunsTasks m n (Ok tt) → WritesBack n u region → (state_now u).region ≡ None → (state_now u).pin ≡ None → (state_now u).progress ≡ one_more (plan_of n) (state_now n).progress
      → RunGives (plan_of t) i t u (Ok tt)
  back_ends t m n u i region well lt at is o p q closed unpinned on = record {
    enters = region_enters t u i all o.line_t grows
        (All-append IsBy (Begin region ∷ p.added) events (ran_claims region p.added p.claims) (back_claims (plan_of n) (state_after (plan_of n) (state_now n) (with_line (line_now n) q.home)) q.home region q.homing));
    stands = record {
      plan_is = plan_grown t u (with_line (line_now t) all) grows;
      cause = q.ends.enters.cause ∙ q.ends.none;
      at = at_next_drop plan i st (state_now u) lt at.at closed unpinned next;
      names = λ a within. names_stay t u (with_line (line_now t) all) a grows ∙ at.names a within ∙ sym (names_kept plan i (Region region) well lt is (λ b. refl) (λ b. refl) a);
    };
  }
    where
      plan : Plan
      plan = plan_of t

      st : State
      st = state_now t

      events : List Event
      events = q.home ++ (freed_elsewhere (plan_of n) (state_after (plan_of n) (state_now n) (with_line (line_now n) q.home)) ++ Close region ∷ [])

      all : List Event
      all = (Begin region ∷ p.added) ++ events

      grows : GrowsBy t u (with_line (line_now t) all)
      grows = grows_both t n u (Begin region ∷ p.added) events (ran_grows t m n i region (Ok tt) o p) (ran_line t m n i region (Ok tt) o p) q.ends.enters.grows

      progress : (state_now u).progress ≡ one_more plan (one_more plan st.progress)
      progress = on ∙ ap (λ (x : Plan). one_more x (state_now n).progress) (ran_plan t m n i region (Ok tt) o p) ∙ ap (one_more plan) (p.progress ∙ ap (λ (s : State). s.progress) o.now)

      -- the Begin is next, and then the Close
      once : Progress
      once = one_more plan st.progress

      begins : Makes plan st.progress once (Begin region)
      begins = makes_next plan st.progress (Begin region) (begin_may t i region well lt at is).due

      closes : Makes plan once (one_more plan once) (Close region)
      closes = makes_next plan once (Close region)
          (subst (λ (x : Progress). ComesNext plan x (Close region)) (ap (λ (s : State). s.progress) o.now)
          (subst (λ (x : Plan). ComesNext x (state_now m).progress (Close region)) o.plan ((sound_at m (subst IsWellFormed (sym o.plan) well)).lives.open_next region (open_is t m i region o))))

      two : length (entries_of plan (suc i)) ≡ 2
      two = ap (λ (l : List Entry). length l)
          (subst (λ (w : What). entries_of plan (suc i) ≡ entries_now plan i (events_now plan st w)) is (entries_at_row plan i st well (sound_at t well).lives at.at lt))

      next : left plan (state_now u).progress ≡ drop (length (entries_of plan (suc i))) (left plan st.progress)
      next = ap (left plan) progress
          ∙ sym (ap (λ (k : ℕ). drop k (left plan st.progress)) two ∙ ap (λ (l : List Entry). drop 2 l) (begins.was_left ∙ ap (λ (l : List Entry). begins.entry ∷ l) closes.was_left))

  pub back_gives : (t m n u : Table D S g h) (i region : ℕ) (result : Result (Unit {0}) RunFault) → IsWellFormed (plan_of t) → i < rows (plan_of t) → IsAtRow (plan_of t) i t → next_what (plan_of t) i ≡ Region region
      → Opens t m i region → RunsTasks m n (Ok tt) → WriteBackGives n u result → OnOk result ((state_now u).region ≡ None) → OnOk result ((state_now u).pin ≡ None)
      → OnOk result ((state_now u).progress ≡ one_more (plan_of n) (state_now n).progress) → RunGives (plan_of t) i t u result
  back_gives t m n u i region (Ok done) well lt at is o p gives closed unpinned on = back_ends t m n u i region well lt at is o p (gives region (ran_region t m n i region (Ok tt) o p)) closed unpinned on
  back_gives t m n u i region (Err fault) well lt at is o p gives closed unpinned on = back_stops t m n u i region fault o p gives
