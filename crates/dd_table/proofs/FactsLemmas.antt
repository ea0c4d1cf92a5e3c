-- A table's facts, and the calls that keep them.
use Rattle.std.proofs.Common.{◌≡◌, ℕ, suc, ◌+◌, ◌≤◌, ◌^◌, Bool, true, false, cond, List, [], ◌∷◌, ◌++◌, length, Option, Some, None, Bor, refl, sym, ap, ◌∙◌, subst, arith, append-nil, Result, Ok, Err}
use Rattle.std.specs.Prelude.{OnOk, OnErr, is_some}
use Rattle.std.specs.List.{filter}
use Rattle.std.proofs.lemmas.List.{append_assoc}
use Rattle.dd_blocks.specs.declared.plan.Plan.{Plan}
use Rattle.dd_causes.specs.Counts.{Rose}
use Rattle.dd_holding.specs.declared.holding.Holding.{Holding}
use Rattle.dd_holding.specs.Holdings.{Holds, KeepsSlots, StandSlots, state_now}
use Rattle.dd_holding.proofs.HereLemmas.{place_there}
use Rattle.dd_blocks.specs.WellFormed.{IsWellFormed}
use Rattle.dd_core.specs.Cores.{IsCoreOf}
use Rattle.dd_ledger.specs.declared.ledger.Ledger.{Ledger}
use Rattle.dd_ledger.proofs.FactsLemmas.{is_core}
use Rattle.dd_tables.specs.declared.tables.Tables.{Tables}
use Rattle.dd_ledger.proofs.GrowsLemmas.{state_next, state_stays}
use Rattle.dd_machine.specs.declared.entry.Entry.{Entry}
use Rattle.dd_machine.specs.Effects.{after}
use Rattle.dd_machine.specs.Runs.{is_pick, start, state_after, state_of_run}
use Rattle.dd_machine.specs.States.{State}
use Rattle.dd_machine.specs.Tests.{Has, is_any, is_in_state, is_out}
use Rattle.dd_pool.specs.declared.spilled.Spilled.{Spilled}
use Rattle.dd_pool.specs.Places.{IsPlace}
use Rattle.dd_pool.specs.Pools.{out_at}
use Rattle.dd_store.specs.declared.store.Slot.{Ghosts as SlotGhosts}
use Rattle.dd_store.specs.declared.store.Store.{Ghosts}
use Rattle.dd_table.specs.declared.fault.RunFault.{RunFault}
use Rattle.dd_table.specs.declared.fault.RunFault.TheVariants.{DiskFault}
use Rattle.dd_table.specs.declared.table.Table.{Table}
use Rattle.dd_table.specs.Counts.{IsCounted, pick_count}
use Rattle.dd_table.specs.Facts.{IsSettled}
use Rattle.dd_table.proofs.CalmLemmas.{Calms}
use Rattle.dd_table.proofs.IdleLemmas.{AreIdle}

none_more : (n : ℕ) → n ≡ 0 + n
none_more n = omega arith

one_more_of : (a b c : ℕ) → a ≡ b + c → suc a ≡ suc b + c
one_more_of a b c is = omega (arith, is)

-- from what both answers of a call say
pub ok_then : {A E X Y : Type 0} (r : Result A E) → OnOk r X → (X → Y) → OnOk r Y
ok_then (Ok done) x f = f x
ok_then (Err fault) x f = tt

pub err_then : {A E X Y : Type 0} (r : Result A E) → OnErr r X → (X → Y) → OnErr r Y
err_then (Ok done) x f = tt
err_then (Err fault) x f = f x

-- a count that rose since a later moment rose since an earlier one
pub rose_before : (a b c : ℕ) → a ≤ b → Rose b c → Rose a c
rose_before a b c le rose = omega (arith, le, rose)

pub rose_after : (a b c : ℕ) → Rose a b → b ≤ c → Rose a c
rose_after a b c rose le = omega (arith, rose, le)

-- how many Picks two lists have; one entry more that is none, or one
pub picks_both : (xs ys : List Entry) → pick_count (xs ++ ys) ≡ pick_count xs + pick_count ys
unfolding pick_count
picks_both [] ys = none_more (length (filter (λ (x : Entry). is_pick x.event) ys))
picks_both (e ∷ xs) ys = by (is_pick e.event) (picks_both xs ys)
  where
    by : (b : Bool) → length (filter (λ (x : Entry). is_pick x.event) (xs ++ ys)) ≡ length (filter (λ (x : Entry). is_pick x.event) xs) + length (filter (λ (x : Entry). is_pick x.event) ys)
        → length (cond b (e ∷ filter (λ (x : Entry). is_pick x.event) (xs ++ ys)) (filter (λ (x : Entry). is_pick x.event) (xs ++ ys)))
        ≡ length (cond b (e ∷ filter (λ (x : Entry). is_pick x.event) xs) (filter (λ (x : Entry). is_pick x.event) xs)) + length (filter (λ (x : Entry). is_pick x.event) ys)
    by true more = one_more_of (length (filter (λ (x : Entry). is_pick x.event) (xs ++ ys))) (length (filter (λ (x : Entry). is_pick x.event) xs)) (length (filter (λ (x : Entry). is_pick x.event) ys)) more
    by false more = more

pub picks_of_one : (entry : Entry) (b : Bool) → is_pick entry.event ≡ b → pick_count (entry ∷ []) ≡ cond b 1 0
unfolding pick_count
picks_of_one entry true is = ap (λ (b : Bool). length (cond b (entry ∷ []) [])) is
picks_of_one entry false is = ap (λ (b : Bool). length (cond b (entry ∷ []) [])) is

pub picks_next : (journal : List Entry) (entry : Entry) → is_pick entry.event ≡ false → pick_count (journal ++ entry ∷ []) ≡ pick_count journal
picks_next journal entry is = let both = picks_both journal (entry ∷ []) in let one : pick_count (entry ∷ []) ≡ 0 = picks_of_one entry false is in omega (arith, both, one)

-- where a list has none, none of its prefixes has any
pub picks_prefix : (journal xs ys : List Entry) → pick_count (xs ++ ys) ≡ 0 → pick_count (journal ++ xs) ≡ pick_count journal
picks_prefix journal xs ys none = let parts = picks_both xs ys in let both = picks_both journal xs in omega (arith, parts, both, none)

-- what is counted at first; with no entry more, with one that is no Pick, and with a Pick and its slot
pub counted_start : (first_faults first_made faults made : ℕ) (journal : List Entry) → first_faults ≡ faults → first_made ≡ made → made ≤ 2 ^ 62 → journal ≡ [] → IsCounted first_faults first_made faults made None journal
unfolding pick_count
counted_start first_faults first_made faults made journal same_faults same_made few empty = record {
  few = subst (λ (n : ℕ). n ≤ 2 ^ 62) (sym same_made) few;
  made_is = (let none : pick_count journal ≡ 0 = ap pick_count empty in omega (arith, same_made, none));
  later = omega (arith, same_faults);
  risen = λ is. absurd (cc);
}

pub counted_as : (first_faults first_made faults made now now_made : ℕ) (cause : Option RunFault) (journal after : List Entry) → now_made ≡ first_made + pick_count after → faults ≤ now
    → IsCounted first_faults first_made faults made cause journal → IsCounted first_faults first_made now now_made cause after
counted_as first_faults first_made faults made now now_made cause journal after is le counted = record {
  few = counted.few;
  made_is = is;
  later = (let first = counted.later in omega (arith, first, le));
  risen = λ disk. rose_after first_faults faults now (counted.risen disk) le;
}

-- a cause is kept now
pub counted_stopped : (first_faults first_made faults made : ℕ) (cause : Option RunFault) (fault : RunFault) (journal : List Entry) → (fault ≡ DiskFault → Rose first_faults faults)
    → IsCounted first_faults first_made faults made cause journal → IsCounted first_faults first_made faults made (Some fault) journal
counted_stopped first_faults first_made faults made cause fault journal disk counted = record {
  few = counted.few;
  made_is = counted.made_is;
  later = counted.later;
  risen = λ is. disk (cc);
}

-- the core of a ledger, by whatever names it goes
pub core_of : (l : Ledger) (plan : Bor Plan) (core : Tables) → IsWellFormed l.plan.now → plan ≡ l.plan → core ≡ l.core → IsCoreOf plan.now core
core_of l plan core well same is =
    let at : IsCoreOf l.plan.now core = subst (λ (k : Tables). IsCoreOf l.plan.now k) (sym is) (is_core _ _ _ _ _ well l.facts) in
    subst (λ (p : Bor Plan). IsCoreOf p.now core) (sym same) at

-- no copies
no_copies : (st : State) (s b : ℕ) (plan : Plan) → st ≡ start plan → Has st s b is_any → ⊥
no_copies st s b plan is there = let e : false ≡ true = subst (λ (x : State). is_in_state is_any (x.copies s b) ≡ true) is there in absurd cc

no_outs : (st : State) (s b : ℕ) (plan : Plan) → st ≡ start plan → Has st s b is_out → ⊥
no_outs st s b plan is there = let e : false ≡ true = subst (λ (x : State). is_in_state is_out (x.copies s b) ≡ true) is there in absurd cc

module _ {D S : Type 0} {g : Ghosts D S} {h : SlotGhosts S} where
  -- some entries, and then others
  pub holds_then : (x y z : Holding D S g h) (xs ys : List Entry) → Holds x y xs → Holds y z ys → Holds x z (xs ++ ys)
  holds_then x y z xs ys p q = record {
    grows = record {
      plan = q.grows.plan ∙ p.grows.plan;
      journal = q.grows.journal ∙ ap (λ (l : List Entry). l ++ ys) p.grows.journal ∙ append_assoc x.ledger.journal.items xs ys;
    };
    names = q.names ∙ p.names;
  }

  pub holds_same : (x : Holding D S g h) → Holds x x []
  holds_same x = record { grows = record { plan = refl; journal = sym (append-nil x.ledger.journal.items) }; names = refl }

  -- where a cause is kept, all is said; before the first entry too
  pub settled_stopped : (x : Holding D S g h) (fault : RunFault) → IsSettled x (Some fault)
  settled_stopped x fault = record { idle = λ none. absurd (cc); slots = λ none. absurd (cc) }

  pub settled_start : (x : Holding D S g h) (cause : Option RunFault) → x.ledger.journal.items ≡ [] → IsSettled x cause
  unfolding state_after
  settled_start x cause empty =
      let is : state_now x ≡ start x.ledger.plan.now = x.ledger.facts.state ∙ ap (state_of_run x.ledger.plan.now) empty in
      record {
        idle = λ _ s b there. absurd (no_copies (state_now x) s b x.ledger.plan.now is there);
        slots = λ _ s b there. absurd (no_outs (state_now x) s b x.ledger.plan.now is there);
      }

  -- from the state that the ledger is in
  pub settled_by : (y : Holding D S g h) (cause : Option RunFault) (st : State) → state_now y ≡ st → AreIdle st.copies
      → ((s b : ℕ) → IsPlace y.ledger.plan.now s b → is_in_state is_out (st.copies s b) ≡ true → is_some (out_at y.pool s b) ≡ true) → IsSettled y cause
  settled_by y cause st is idle slots = record {
    idle = λ _. subst (λ (x : State). AreIdle x.copies) (sym is) idle;
    slots = λ _ s b out. slots s b (place_there y.ledger is_out s b out) (subst (λ (x : State). is_in_state is_out (x.copies s b) ≡ true) is out);
  }

  same_plan : (x y : Holding D S g h) (xs : List Entry) (s b : ℕ) → Holds x y xs → IsPlace y.ledger.plan.now s b → IsPlace x.ledger.plan.now s b
  same_plan x y xs s b holds place = subst (λ (p : Bor Plan). IsPlace p.now s b) holds.grows.plan place

  pub settled_kept : (x y : Holding D S g h) (cause : Option RunFault) → Holds x y [] → StandSlots x y → IsSettled x cause → IsSettled y cause
  settled_kept x y cause holds slots settled =
      let is = state_stays x.ledger y.ledger holds.grows in
      record {
        idle = λ none. subst (λ (st : State). AreIdle st.copies) (sym is) (settled.idle none);
        slots = λ none s b out. slots s b (same_plan x y [] s b holds (place_there y.ledger is_out s b out))
            ∙ settled.slots none s b (subst (λ (st : State). is_in_state is_out (st.copies s b) ≡ true) is out);
      }

  pub stand : (x y : Holding D S g h) → KeepsSlots x y → StandSlots x y
  stand x y keeps s b place = ap (λ (o : Option (Spilled S h)). is_some o) (keeps s b place)

  -- with one entry more that leaves all calm
  pub settled_next : (x y : Holding D S g h) (entry : Entry) (cause : Option RunFault) → Holds x y (entry ∷ []) → KeepsSlots x y → Calms x.ledger.plan.now (state_now x) entry.event
      → IsSettled x cause → IsSettled y cause
  settled_next x y entry cause holds slots calms settled =
      let is = state_next x.ledger y.ledger entry holds.grows in
      record {
        idle = λ none. subst (λ (st : State). AreIdle st.copies) (sym is) (calms.idle (settled.idle none));
        slots = λ none s b out. stand x y slots s b (same_plan x y (entry ∷ []) s b holds (place_there y.ledger is_out s b out))
            ∙ settled.slots none s b (calms.outs (settled.idle none) s b (subst (λ (st : State). is_in_state is_out (st.copies s b) ≡ true) is out));
      }

  -- what a table is to keep, once its holding is another
  pub record Keeps (t : Table D S g h) (y : Holding D S g h) : Type 0 where
    pub settled : IsSettled y t.cause
    pub counted : IsCounted (Ghosts.faults g t.opening.value) (Ghosts.made g t.opening.value) (Ghosts.faults g t.store) (Ghosts.made g t.store) t.cause y.ledger.journal.items

  -- no entry more, or one that is no Pick
  pub count_kept : (t : Table D S g h) (y : Holding D S g h) → Holds t.holding y []
      → IsCounted (Ghosts.faults g t.opening.value) (Ghosts.made g t.opening.value) (Ghosts.faults g t.store) (Ghosts.made g t.store) t.cause y.ledger.journal.items
  count_kept t y holds = subst (λ (l : List Entry). IsCounted (Ghosts.faults g t.opening.value) (Ghosts.made g t.opening.value) (Ghosts.faults g t.store) (Ghosts.made g t.store) t.cause l)
      (sym (holds.grows.journal ∙ append-nil t.holding.ledger.journal.items)) t.counted

  pub count_next : (t : Table D S g h) (y : Holding D S g h) (entry : Entry) → Holds t.holding y (entry ∷ []) → is_pick entry.event ≡ false
      → IsCounted (Ghosts.faults g t.opening.value) (Ghosts.made g t.opening.value) (Ghosts.faults g t.store) (Ghosts.made g t.store) t.cause y.ledger.journal.items
  count_next t y entry holds unpicked =
      let more = ap pick_count holds.grows.journal ∙ picks_next t.holding.ledger.journal.items entry unpicked in
      counted_as (Ghosts.faults g t.opening.value) (Ghosts.made g t.opening.value) (Ghosts.faults g t.store) (Ghosts.made g t.store) (Ghosts.faults g t.store) (Ghosts.made g t.store) t.cause
      t.holding.ledger.journal.items y.ledger.journal.items (t.counted.made_is ∙ ap (λ (n : ℕ). Ghosts.made g t.opening.value + n) (sym more)) (omega arith) t.counted

  pub keeps_same : (t : Table D S g h) (y : Holding D S g h) → Holds t.holding y [] → StandSlots t.holding y → Keeps t y
  keeps_same t y holds slots = record { settled = settled_kept t.holding y t.cause holds slots t.settled; counted = count_kept t y holds }

  pub keeps_next : (t : Table D S g h) (y : Holding D S g h) (entry : Entry) → Holds t.holding y (entry ∷ []) → KeepsSlots t.holding y → Calms t.holding.ledger.plan.now (state_now t.holding) entry.event
      → is_pick entry.event ≡ false → Keeps t y
  keeps_next t y entry holds slots calms unpicked = record { settled = settled_next t.holding y entry t.cause holds slots calms t.settled; counted = count_next t y entry holds unpicked }

  -- after a call that made an entry or was refused
  pub keeps_either : {A E : Type 0} (t : Table D S g h) (y : Holding D S g h) (entry : Entry) (result : Result A E) → OnOk result (Holds t.holding y (entry ∷ [])) → OnErr result (Holds t.holding y [])
      → KeepsSlots t.holding y → Calms t.holding.ledger.plan.now (state_now t.holding) entry.event → is_pick entry.event ≡ false → Keeps t y
  keeps_either t y entry (Ok done) ok err slots calms unpicked = keeps_next t y entry ok slots calms unpicked
  keeps_either t y entry (Err fault) ok err slots calms unpicked = keeps_same t y err (stand t.holding y slots)

  -- after a call that made entries of which none is a Pick, and may have ended a slot
  pub count_after : (t : Table D S g h) (y : Holding D S g h) (store : D) (cause : Option RunFault) (xs ys : List Entry) → Holds t.holding y xs → pick_count (xs ++ ys) ≡ 0 → Ghosts.made g store ≡ Ghosts.made g t.store
      → Ghosts.faults g t.store ≤ Ghosts.faults g store → (cause ≡ Some DiskFault → Rose (Ghosts.faults g t.opening.value) (Ghosts.faults g store))
      → IsCounted (Ghosts.faults g t.opening.value) (Ghosts.made g t.opening.value) (Ghosts.faults g store) (Ghosts.made g store) cause y.ledger.journal.items
  count_after t y store cause xs ys holds none same le disk = record {
    few = t.counted.few;
    made_is = (let was = t.counted.made_is in let more : pick_count y.ledger.journal.items ≡ pick_count t.holding.ledger.journal.items = ap pick_count holds.grows.journal ∙ picks_prefix t.holding.ledger.journal.items xs ys none in omega (arith, was, more, same));
    later = (let first = t.counted.later in omega (arith, first, le));
    risen = disk;
  }
