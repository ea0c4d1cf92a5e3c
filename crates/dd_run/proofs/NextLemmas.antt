-- What a row's entries leave: the next row is next.
use Rattle.std.proofs.Common.{◌≡◌, ℕ, suc, ◌-◌, ◌<◌, true, false, ◌||◌, List, [], ◌∷◌, ◌++◌, length, take, Bor, Option, Some, None, Result, Ok, Err, refl, ap, sym, ◌∙◌, subst, append-nil}
use Rattle.std.specs.Prelude.{slice_index}
use Rattle.std.specs.List.{filter, flat_map, fold, list_all}
use Rattle.std.proofs.lemmas.List.Sums.{fold-append}
use Rattle.std.proofs.lemmas.Bool.{and_parts}
use Rattle.std.proofs.lemmas.List.Elements.{All-cons, All-nil}
use Rattle.dd_blocks.specs.declared.plan.Plan.{Plan}
use Rattle.dd_blocks.specs.declared.what.What.{What}
use Rattle.dd_blocks.specs.WellFormed.{IsWellFormed}
use Rattle.dd_core.specs.Lines.{with_line}
use Rattle.dd_ledger.specs.Ledgers as ledgers
use Rattle.dd_ledger.proofs.GrowsLemmas.{state_grows}
use Rattle.dd_machine.specs.declared.entry.Entry.{Entry}
use Rattle.dd_machine.specs.declared.event.Event.{Event}
use Rattle.dd_machine.specs.declared.event.Event.TheVariants.{Claim}
use Rattle.dd_machine.specs.Made.{pin_after}
use Rattle.dd_machine.specs.Owed.{entries_of, left}
use Rattle.dd_machine.specs.Runs.{state_after}
use Rattle.dd_machine.specs.States.{State}
use Rattle.dd_machine.specs.Words.{rows, statement}
use Rattle.dd_pool.specs.Pools.{names_of}
use Rattle.dd_print.specs.declared.fault.PrintFault.{PrintFault}
use Rattle.dd_print.specs.Gives.{PrintGives}
use Rattle.dd_run.specs.Gives.{AreBy, EntersRow, RowGives, RunGives}
use Rattle.dd_run.specs.Rows.{IsAtRow}
use Rattle.dd_run.proofs.AtLemmas.{calm_at, plan_of, sound_at}
use Rattle.dd_run.proofs.SwapsLemmas.{swaps_none}
use Rattle.dd_statements.specs.Follows.{Adds, AreOrdered, Asks, Follows, StopsIn, is_owed, is_swap}
use Rattle.dd_statements.proofs.AddsLemmas.{due_now}
use Rattle.dd_statements.proofs.StateLemmas.{Changes, changes_all, left_all}
use Rattle.dd_store.specs.declared.store.Slot.{Ghosts as SlotGhosts}
use Rattle.dd_store.specs.declared.store.Store.{Ghosts}
use Rattle.dd_table.specs.declared.fault.RunFault.{RunFault}
use Rattle.dd_table.specs.declared.table.Table.{Table}
use Rattle.dd_table.specs.Tables.{GrowsBy, line_now, state_now}
use Rattle.dd_table.proofs.RoomLemmas.{run_grown}
use Rattle.laws_of_rows.specs.Rows as rows_at
use Rattle.laws_of_rows.specs.Rows.{entries_now, events_now, names_at, next_what}
use Rattle.laws_of_rows.proofs.DueLemmas.{due_of, entries_at_row}
use Rattle.laws_of_rows.proofs.RowsLemmas.{at_next}

-- ---- lists

-- pins that are given up one after another
pub pins_flat : (f : ℕ → List Event) (bs : List ℕ) → ((b : ℕ) → fold pin_after None (f b) ≡ None) → fold pin_after None (flat_map f bs) ≡ None
pins_flat f [] each = refl
pins_flat f (b ∷ bs) each =
    fold-append pin_after None (f b) (flat_map f bs) ∙ ap (λ (o : Option (ℕ × ℕ)). fold pin_after o (flat_map f bs)) (each b) ∙ pins_flat f bs each

none_of_both : (xs ys : List Event) → xs ++ ys ≡ [] → xs ≡ []
none_of_both [] ys e = refl
none_of_both (x ∷ xs) ys e = absurd (cc)

-- what statements that run no tasks enter claims nothing
pub by_one : (x : Event) → (is_owed x || is_swap x) ≡ true → (task worker : ℕ) → x ≡ Claim task worker → worker ≡ 1
by_one x ordered task worker is = absurd (let e : false ≡ true = sym (ap (λ (y : Event). is_owed y || is_swap y) is) ∙ ordered in cc)

pub ordered_claims : (events : List Event) → AreOrdered events → AreBy 1 events
ordered_claims [] ordered = All-nil (λ (e : Event). (task worker : ℕ) → e ≡ Claim task worker → worker ≡ 1)
ordered_claims (x ∷ xs) ordered =
    let parts = and_parts (is_owed x || is_swap x) (list_all (λ e. is_owed e || is_swap e) xs) ordered in
    All-cons (λ (e : Event). (task worker : ℕ) → e ≡ Claim task worker → worker ≡ 1) x xs (by_one x parts.0) (ordered_claims xs parts.1)

module _ {D S : Type 0} {g : Ghosts D S} {h : SlotGhosts S} where
  -- ---- the next row

  abbrev pub row_line : Table D S g h → ℕ → ℕ
  row_line t i = (statement (plan_of t) (suc i)).line

  pub next_state : (t u : Table D S g h) (i : ℕ) (what : What) (added : List Event) → IsWellFormed (plan_of t) → i < rows (plan_of t) → IsAtRow (plan_of t) i t → next_what (plan_of t) i ≡ what
      → ledgers.GrowsBy t.holding.ledger u.holding.ledger (with_line (row_line t i) added) → AreOrdered added → filter is_owed added ≡ events_now (plan_of t) (state_now t) what
      → fold pin_after None (events_now (plan_of t) (state_now t) what) ≡ None → rows_at.IsAtRow (plan_of t) (suc i) (state_now u)
  next_state t u i what added well lt at is grows ordered owed rests = subst (rows_at.IsAtRow plan (suc i)) (sym now)
      (at_next plan i st new lt at.at (c.region ∙ at.at.region) (c.pin ∙ ap (λ (o : Option (ℕ × ℕ)). fold pin_after o (filter is_owed added)) at.at.pin ∙ ap (fold pin_after None) owed ∙ rests) was)
    where
      plan : Plan
      plan = plan_of t

      st : State
      st = state_now t

      entries : List Entry
      entries = with_line (row_line t i) added

      new : State
      new = state_after plan st entries

      now : state_now u ≡ new
      now = state_grows t.holding.ledger u.holding.ledger entries grows

      c : Changes st new (filter is_owed added)
      c = changes_all plan st (row_line t i) added ordered

      of_row : entries_of plan (suc i) ≡ entries_now plan i (events_now plan st what)
      of_row = subst (λ (w : What). entries_of plan (suc i) ≡ entries_now plan i (events_now plan st w)) is (entries_at_row plan i st well (sound_at t well).lives at.at lt)

      was : left plan st.progress ≡ entries_of plan (suc i) ++ left plan new.progress
      was = left_all plan st (row_line t i) added at.at.region ordered (run_grown t.holding.ledger u.holding.ledger entries grows)
          ∙ ap (λ (l : List Event). with_line (row_line t i) l ++ left plan new.progress) owed
          ∙ ap (λ (l : List Entry). l ++ left plan new.progress) (sym of_row)

  -- ---- the entries of the row

  -- they have its line
  pub same_lines : (t u : Table D S g h) (i : ℕ) (what : What) (done rest : List Event) → IsWellFormed (plan_of t) → i < rows (plan_of t) → IsAtRow (plan_of t) i t → next_what (plan_of t) i ≡ what
      → (p : Adds t u (line_now t) done) → events_now (plan_of t) (state_now t) what ≡ done ++ rest → with_line (line_now t) p.added ≡ with_line (row_line t i) p.added
  same_lines t u i what done rest well lt at is p all = by (events_now (plan_of t) (state_now t) what) refl
    where
      plan : Plan
      plan = plan_of t

      due : take (length (events_now plan (state_now t) what)) (left plan (state_now t).progress) ≡ with_line (row_line t i) (events_now plan (state_now t) what)
      due = due_of plan i (state_now t) what well (sound_at t well).lives at.at lt is

      by : (events : List Event) → events_now plan (state_now t) what ≡ events → with_line (line_now t) p.added ≡ with_line (row_line t i) p.added
      by [] same =
          let none : p.added ≡ [] = swaps_none plan (state_now t) (line_now t) p.added (calm_at t i well at) p.ordered (run_grown t.holding.ledger u.holding.ledger (with_line (line_now t) p.added) p.grows.holds.grows)
          (p.owed ∙ none_of_both done rest (sym all ∙ same)) in
          ap (with_line (line_now t)) none ∙ sym (ap (with_line (row_line t i)) none)
      by (x ∷ xs) same = ap (λ (l : ℕ). with_line l p.added)
          (due_now t x xs (record { line = row_line t i; are = subst (λ (es : List Event). take (length es) (left plan (state_now t).progress) ≡ with_line (row_line t i) es) same due }))

  -- so have the events of the row
  pub lines_due : (t : Table D S g h) (i : ℕ) (what : What) → IsWellFormed (plan_of t) → i < rows (plan_of t) → IsAtRow (plan_of t) i t → next_what (plan_of t) i ≡ what
      → with_line (line_now t) (events_now (plan_of t) (state_now t) what) ≡ with_line (row_line t i) (events_now (plan_of t) (state_now t) what)
  lines_due t i what well lt at is = by (events_now (plan_of t) (state_now t) what) (due_of (plan_of t) i (state_now t) what well (sound_at t well).lives at.at lt is)
    where
      by : (events : List Event) → take (length events) (left (plan_of t) (state_now t).progress) ≡ with_line (row_line t i) events → with_line (line_now t) events ≡ with_line (row_line t i) events
      by [] due = refl
      by (x ∷ xs) due = ap (λ (l : ℕ). with_line l (x ∷ xs)) (due_now t x xs (record { line = row_line t i; are = due }))

  pub adds_grow : (t u : Table D S g h) (i : ℕ) (what : What) (done rest : List Event) → IsWellFormed (plan_of t) → i < rows (plan_of t) → IsAtRow (plan_of t) i t → next_what (plan_of t) i ≡ what
      → (p : Adds t u (line_now t) done) → events_now (plan_of t) (state_now t) what ≡ done ++ rest → ledgers.GrowsBy t.holding.ledger u.holding.ledger (with_line (row_line t i) p.added)
  adds_grow t u i what done rest well lt at is p all =
      subst (ledgers.GrowsBy t.holding.ledger u.holding.ledger) (same_lines t u i what done rest well lt at is p all) p.grows.holds.grows

  pub adds_enter : (t u : Table D S g h) (i : ℕ) (what : What) (done rest : List Event) → IsWellFormed (plan_of t) → i < rows (plan_of t) → IsAtRow (plan_of t) i t → next_what (plan_of t) i ≡ what
      → Adds t u (line_now t) done → events_now (plan_of t) (state_now t) what ≡ done ++ rest → EntersRow (plan_of t) i t u
  adds_enter t u i what done rest well lt at is p all = record {
    added = p.added;
    grows = adds_grow t u i what done rest well lt at is p all;
    claims = ordered_claims p.added p.ordered;
    opening = p.grows.opening;
  }

  -- where all were made the state stands at the next row
  pub adds_state : (t u : Table D S g h) (i : ℕ) (what : What) → IsWellFormed (plan_of t) → i < rows (plan_of t) → IsAtRow (plan_of t) i t → next_what (plan_of t) i ≡ what
      → fold pin_after None (events_now (plan_of t) (state_now t) what) ≡ None → Adds t u (line_now t) (events_now (plan_of t) (state_now t) what) → rows_at.IsAtRow (plan_of t) (suc i) (state_now u)
  adds_state t u i what well lt at is rests p =
      let events = events_now (plan_of t) (state_now t) what in
      next_state t u i what p.added well lt at is (adds_grow t u i what events [] well lt at is p (sym (append-nil events))) p.ordered p.owed rests

  pub plan_stays : (t u : Table D S g h) (entries : List Entry) → ledgers.GrowsBy t.holding.ledger u.holding.ledger entries → plan_of u ≡ plan_of t
  plan_stays t u entries grows = ap (λ (p : Bor Plan). p.now) grows.plan

  pub names_stay : (t u : Table D S g h) (entries : List Entry) (a : ℕ) → GrowsBy t u entries → names_of u.holding.pool a ≡ names_of t.holding.pool a
  names_stay t u entries a grows = ap (λ ns. slice_index ns.items (a - 1)) grows.holds.names

  -- where the run stops in them
  pub stops_row : (t u : Table D S g h) (i : ℕ) (what : What) (fault : RunFault) → IsWellFormed (plan_of t) → i < rows (plan_of t) → IsAtRow (plan_of t) i t → next_what (plan_of t) i ≡ what
      → StopsIn t u (line_now t) (events_now (plan_of t) (state_now t) what) fault → RunGives (plan_of t) i t u (Err fault)
  stops_row t u i what fault well lt at is p = record {
    enters = adds_enter t u i what p.done p.rest well lt at is p.adds p.all;
    stands = λ disk. p.cause ∙ ap (λ (f : RunFault). Some f) disk;
  }

  -- where all were entered
  pub follows_enter : (t u : Table D S g h) (i : ℕ) (what : What) → IsWellFormed (plan_of t) → i < rows (plan_of t) → IsAtRow (plan_of t) i t → next_what (plan_of t) i ≡ what
      → Follows t u (line_now t) (events_now (plan_of t) (state_now t) what) → EntersRow (plan_of t) i t u
  follows_enter t u i what well lt at is p =
      adds_enter t u i what (events_now (plan_of t) (state_now t) what) [] well lt at is p.adds (sym (append-nil (events_now (plan_of t) (state_now t) what)))

  pub follows_next : (t u : Table D S g h) (i : ℕ) (what : What) → IsWellFormed (plan_of t) → i < rows (plan_of t) → IsAtRow (plan_of t) i t → next_what (plan_of t) i ≡ what
      → ((b : ℕ) → names_at (plan_of t) (suc i) b ≡ names_at (plan_of t) i b) → fold pin_after None (events_now (plan_of t) (state_now t) what) ≡ None
      → Follows t u (line_now t) (events_now (plan_of t) (state_now t) what) → IsAtRow (plan_of t) (suc i) u
  follows_next t u i what well lt at is names rests p = record {
    plan_is = plan_stays t u (with_line (line_now t) p.adds.added) p.adds.grows.holds.grows;
    cause = p.cause;
    at = adds_state t u i what well lt at is rests p.adds;
    names = λ a within. names_stay t u (with_line (line_now t) p.adds.added) a p.adds.grows ∙ at.names a within ∙ sym (names a);
  }

  -- what a statement gives that changes no names
  pub asks_row : (t u : Table D S g h) (i : ℕ) (what : What) (result : Result (Unit {0}) RunFault) → IsWellFormed (plan_of t) → i < rows (plan_of t) → IsAtRow (plan_of t) i t → next_what (plan_of t) i ≡ what
      → ((b : ℕ) → names_at (plan_of t) (suc i) b ≡ names_at (plan_of t) i b) → fold pin_after None (events_now (plan_of t) (state_now t) what) ≡ None
      → Asks t u (line_now t) (events_now (plan_of t) (state_now t) what) result → RunGives (plan_of t) i t u result
  asks_row t u i what (Ok done) well lt at is names rests p = record { enters = follows_enter t u i what well lt at is p; stands = follows_next t u i what well lt at is names rests p }
  asks_row t u i what (Err fault) well lt at is names rests p = stops_row t u i what fault well lt at is p

  -- and one that prints
  pub prints_row : (t u : Table D S g h) (i : ℕ) (what : What) (result : Result (Unit {0}) PrintFault) → IsWellFormed (plan_of t) → i < rows (plan_of t) → IsAtRow (plan_of t) i t → next_what (plan_of t) i ≡ what
      → ((b : ℕ) → names_at (plan_of t) (suc i) b ≡ names_at (plan_of t) i b) → fold pin_after None (events_now (plan_of t) (state_now t) what) ≡ None
      → PrintGives t u (line_now t) (events_now (plan_of t) (state_now t) what) result → RowGives (plan_of t) i t u result
  prints_row t u i what (Ok done) well lt at is names rests p = record { enters = follows_enter t u i what well lt at is p; ends = follows_next t u i what well lt at is names rests p }
  prints_row t u i what (Err fault) well lt at is names rests p = record { enters = adds_enter t u i what p.done p.rest well lt at is p.adds p.all; ends = p.counted }
