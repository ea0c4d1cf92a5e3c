-- A work that was handed out; one that is taken back; and tasks that run.
use Rattle.std.proofs.Common.{◌≡◌, ℕ, zero, suc, Bool, true, false, ◌||◌, List, [], ◌∷◌, ◌++◌, length, take, Option, Some, None, refl, sym, ap, ◌∙◌, subst, ⊎_elim, arith}
use Rattle.std.specs.Prelude.{not, option_map, slice_get}
use Rattle.std.specs.List.{list_any}
use Rattle.std.proofs.lemmas.Bool.{cases_Bool}
use Rattle.std.proofs.lemmas.List.{append_assoc}
use Rattle.std.proofs.lemmas.List.Elements.{All-append, All-nil}
use Rattle.dd_blocks.specs.declared.plan.Plan.{Plan}
use Rattle.dd_holding.specs.Facts.{IsTelling}
use Rattle.dd_holding.specs.Works.{IsHandedOut}
use Rattle.dd_ledger.proofs.FactsLemmas.{picks_one}
use Rattle.dd_ledger.proofs.GrowsLemmas.{state_next}
use Rattle.dd_legal.specs.Starts.{MayStart}
use Rattle.dd_machine.specs.declared.entry.Entry.{Entry}
use Rattle.dd_machine.specs.declared.event.Event.{Event}
use Rattle.dd_machine.specs.declared.event.Event.TheVariants.{Claim}
use Rattle.dd_machine.specs.declared.task_state.TaskState.TheVariants.{Running}
use Rattle.dd_machine.specs.Bytes.{when}
use Rattle.dd_machine.specs.Legal.{MayClaim, workers}
use Rattle.dd_machine.specs.Runs.{has_pick, is_pick}
use Rattle.dd_machine.specs.Sound.{IsSound}
use Rattle.dd_machine.specs.States.{State, at_one}
use Rattle.dd_machine.specs.Tests.{is_running}
use Rattle.dd_machine.specs.Words.{IsOneOf, tasks}
use Rattle.dd_machine.proofs.ChangesLemmas.{at_one_same}
use Rattle.dd_stamps.specs.declared.work.Work.{Work}
use Rattle.dd_store.specs.declared.store.Slot.{Ghosts as SlotGhosts}
use Rattle.dd_store.specs.declared.store.Store.{Ghosts}
use Rattle.laws_of_progress.proofs.SearchLemmas.{total_has_one}
use Rattle.dd_table.specs.declared.table.Table.{Table}
use Rattle.dd_core.specs.Lines.{with_line}
use Rattle.dd_table.specs.Outs.{HasNone, event_at, running_count}
use Rattle.dd_table.specs.Still.{IsPreparing}
use Rattle.dd_table.specs.Tables.{GrowsBy, line_now, state_now}
use Rattle.dd_table.specs.Turns.{HandsOut, Prepares}
use Rattle.dd_table.proofs.PreparesLemmas.{grows_then, running_active}

-- a task that may start may be claimed by a worker who has none
pub may_claim : (plan : Plan) (st : State) (task worker : ℕ) → MayStart plan st task → IsOneOf workers worker → HasNone st worker → MayClaim plan st task worker
may_claim plan st task worker start is free = record {
  held = start.held;
  all_here = start.all_here;
  all_current = start.all_current;
  no_lend = start.no_lend;
  worker_is = is;
  worker_free = λ t known. free t;
  fits = start.fits;
}

pub may_start_of : (plan : Plan) (st : State) (task worker : ℕ) → MayClaim plan st task worker → MayStart plan st task
may_start_of plan st task worker may = record { held = may.held; all_here = may.all_here; all_current = may.all_current; no_lend = may.no_lend; fits = may.fits }

-- where none of the Plan's tasks runs, none does
pub none_runs : (plan : Plan) (st : State) → IsSound plan st → running_count plan st ≡ 0 → (task : ℕ) → is_running (st.tasks task) ≡ false
none_runs plan st sound none task = ⊎_elim
    (λ (runs : is_running (st.tasks task) ≡ true).
    let known = (sound.limits.active_open task (running_active (st.tasks task) runs)).2.0 in
    let one : when (is_running (st.tasks task)) 1 ≡ 1 = ap (λ (b : Bool). when b 1) runs in
    let most = total_has_one (tasks plan) task 1 (λ t. when (is_running (st.tasks t)) 1) known (omega (arith, one)) in
    absurd (omega (arith, most, none)))
    (λ (not_so : is_running (st.tasks task) ≡ false). not_so)
    (cases_Bool (is_running (st.tasks task)))

-- the last of some entries, and all of them
last_at : (entries : List Entry) (entry : Entry) → slice_get (entries ++ entry ∷ []) (length entries) ≡ Some entry
last_at [] entry = refl
last_at (e ∷ entries) entry = last_at entries entry

take_whole : (entries : List Entry) (entry : Entry) → take (suc (length entries)) (entries ++ entry ∷ []) ≡ entries ++ entry ∷ []
take_whole [] entry = refl
take_whole (e ∷ entries) entry = ap (λ (l : List Entry). e ∷ l) (take_whole entries entry)

or_none : (b : Bool) → (b || false) ≡ b
or_none true = refl
or_none false = refl

count_last : (entries : List Entry) (entry : Entry) → length (entries ++ entry ∷ []) ≡ suc (length entries)
count_last [] entry = refl
count_last (e ∷ entries) entry = ap (λ (n : ℕ). suc n) (count_last entries entry)

-- the first of some entries have a Pick only where all have
pub picks_front : (n : ℕ) (entries : List Entry) → has_pick entries ≡ false → has_pick (take n entries) ≡ false
unfolding has_pick
picks_front zero entries none = refl
picks_front (suc n) [] none = refl
picks_front (suc n) (e ∷ entries) none = by (is_pick e.event) none (λ rest. picks_front n entries rest)
  where
    by : (b : Bool) → (b || list_any (λ (x : Entry). is_pick x.event) entries) ≡ false
        → (list_any (λ (x : Entry). is_pick x.event) entries ≡ false → list_any (λ (x : Entry). is_pick x.event) (take n entries) ≡ false)
        → (b || list_any (λ (x : Entry). is_pick x.event) (take n entries)) ≡ false
    by true is rest = is
    by false is rest = rest is

-- a mark that is true where no Pick stood so far is true where none stands at all
pub told_front : (tells : Bool) (picked : Bool) (n : ℕ) (entries : List Entry) → picked ≡ has_pick (take n entries) → (tells || not (has_pick entries)) ≡ true → (tells || not picked) ≡ true
told_front true picked n entries is telling = refl
told_front false picked n entries is telling =
    let none : has_pick entries ≡ false = not_true (has_pick entries) telling in
    ap not (is ∙ picks_front n entries none)
  where
    not_true : (b : Bool) → not b ≡ true → b ≡ false
    not_true true e = absurd (let h : false ≡ true = e in cc)
    not_true false e = refl

module _ {D S : Type 0} {g : Ghosts D S} {h : SlotGhosts S} where
  -- a Claim was entered, and the work says so
  pub claimed : (t u : Table D S g h) (task worker line : ℕ) (w : Work) → IsHandedOut t.holding.ledger w task worker → (IsTelling (SlotGhosts.tells h) t.holding.ledger → w.told.mark ≡ true)
      → line ≡ line_now t → GrowsBy t u (with_line line (Claim task worker ∷ [])) → t.cause ≡ None → u.cause ≡ None → HandsOut t u worker w
  claimed t u task worker line w handed told same grows before cause =
      let l = t.holding.ledger in
      let v = u.holding.ledger in
      let entry : Entry = record { line = line; event = Claim task worker } in
      let journal : v.journal.items ≡ l.journal.items ++ entry ∷ [] = grows.holds.grows.journal in
      let number : w.number ≡ suc (length l.journal.items) = (let is = handed.number in omega (arith, is)) in
      record {
        prior = [];
        grows = subst (λ (n : ℕ). GrowsBy t u (with_line n (Claim w.task worker ∷ []))) same (subst (λ (x : ℕ). GrowsBy t u (with_line line (Claim x worker ∷ []))) (sym handed.task) grows);
        prepares = All-nil IsPreparing;
        by = handed.worker;
        number = number ∙ sym (ap (λ (xs : List Entry). length xs) journal ∙ count_last l.journal.items entry);
        out = record {
          plan = handed.plan ∙ sym grows.holds.grows.plan;
          claimed = ap (event_at v.journal.items) number ∙ ap (λ (xs : List Entry). option_map (λ (e : Entry). e.event) (slice_get xs (length l.journal.items))) journal
              ∙ ap (λ (o : Option Entry). option_map (λ (e : Entry). e.event) o) (last_at l.journal.items entry)
              ∙ ap (λ (x : ℕ). Some (Claim x worker)) (sym handed.task) ∙ ap (λ (x : ℕ). Some (Claim w.task x)) (sym handed.worker);
          running = ap (λ (st : State). st.tasks w.task) (state_next l v entry grows.holds.grows)
              ∙ subst (λ (x : ℕ). at_claim t task worker x) (sym handed.task) (at_one_same (state_now t).tasks task (Running worker))
              ∙ ap (λ (x : ℕ). Running x) (sym handed.worker);
          picked = handed.picked
              ∙ sym (ap (λ (n : ℕ). has_pick (take n v.journal.items)) number ∙ ap (λ (xs : List Entry). has_pick (take (suc (length l.journal.items)) xs)) journal
              ∙ ap has_pick (take_whole l.journal.items entry) ∙ picks_one l.journal.items entry ∙ or_none (has_pick l.journal.items));
        };
        stage = handed.stage;
        collected = handed.collected;
        told = λ telling. told (subst (λ (b : Bool). (SlotGhosts.tells h || not b) ≡ true) handed.picked telling);
        before = before;
        cause = cause;
      }
    where
      at_claim : Table D S g h → ℕ → ℕ → ℕ → Type 0
      at_claim t task worker x = at_one (state_now t).tasks task (Running worker) x ≡ Running worker

  pub hands_then : (t m u : Table D S g h) (xs : List Event) (worker : ℕ) (w : Work) → Prepares t m xs → t.cause ≡ None → HandsOut m u worker w → HandsOut t u worker w
  hands_then t m u xs worker w p before hands = record {
    prior = xs ++ hands.prior;
    grows = subst (λ (l : List Event). GrowsBy t u (with_line (line_now t) l)) (sym (append_assoc xs hands.prior (Claim w.task worker ∷ []))) (grows_then t m u xs (hands.prior ++ Claim w.task worker ∷ []) p hands.grows);
    prepares = All-append IsPreparing xs hands.prior p.prepares hands.prepares;
    by = hands.by;
    number = hands.number;
    out = hands.out;
    stage = hands.stage;
    collected = hands.collected;
    told = hands.told;
    before = before;
    cause = hands.cause;
  }
