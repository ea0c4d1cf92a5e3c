-- The statements so far: where the run stands, what it has entered, and what it has written.
use Rattle.std.proofs.Common.{◌≡◌, ℕ, zero, suc, ◌+◌, ◌-◌, ◌<◌, ◌≤◌, Bool, true, not, ◌||◌, cond, List, [], ◌∷◌, ◌++◌, Bor, Option, Result, Ok, Err, IsErrAnd, refl, ap, sym, ◌∙◌, subst, append_assoc, arith}
use Rattle.std.specs.Io.KnownBytes.{Appends}
use Rattle.std.proofs.lemmas.List.Elements.{All-append, All-cons, All-head, All-nil, All-tail}
use Rattle.dd_blocks.specs.declared.plan.Plan.{Plan}
use Rattle.dd_blocks.specs.Lines.{LinesRise}
use Rattle.dd_blocks.specs.WellFormed.{IsWellFormed}
use Rattle.dd_causes.proofs.AppendedLemmas.{appends_nothing, appends_then}
use Rattle.dd_core.specs.Lines.{with_line}
use Rattle.dd_machine.specs.declared.entry.Entry.{Entry}
use Rattle.dd_machine.specs.declared.event.Event.{Event}
use Rattle.dd_machine.specs.declared.event.Event.TheVariants.{Claim}
use Rattle.dd_machine.specs.Effects.{after}
use Rattle.dd_machine.specs.Owed.{entries_from, entries_of, made}
use Rattle.dd_machine.specs.Runs.{IsLegalRun, has_pick, start, state_after, state_of_run}
use Rattle.dd_machine.specs.Sound.{IsSound}
use Rattle.dd_machine.specs.States.{State}
use Rattle.dd_machine.specs.Words.{IsOneOf, rows, statement}
use Rattle.dd_print.specs.declared.fault.PrintFault.{PrintFault}
use Rattle.dd_print.specs.declared.fault.PrintFault.TheVariants as print
use Rattle.dd_print.specs.Held.{IsTelling}
use Rattle.dd_print.specs.Writes.{WritesWhere}
use Rattle.dd_run.specs.Gives.{AreBy, RowGives, RowsGive}
use Rattle.dd_run.specs.Journals.{ClaimsBy}
use Rattle.dd_run.specs.Rows.{IsAtRow}
use Rattle.dd_run.specs.Texts.{HasEntriesOf, first_parts, row_part}
use Rattle.dd_run.proofs.AtLemmas.{plan_of, sound_at}
use Rattle.dd_run.proofs.WritesLemmas.{print_err}
use Rattle.dd_run.proofs.TextsLemmas.{parts_all, parts_next, parts_stay, prefix_at, told_before}
use Rattle.dd_store.specs.declared.store.Slot.{Ghosts as SlotGhosts}
use Rattle.dd_store.specs.declared.store.Store.{Ghosts}
use Rattle.dd_table.specs.declared.table.Table.{Table}
use Rattle.dd_table.specs.Tables.{state_now}
use Rattle.laws_of_machine.specs.Asked.{asked, is_asked}
use Rattle.laws_of_machine.proofs.AskedLemmas.{made_asked}
use Rattle.laws_of_rows.specs.Rows.{entries_now}
use Rattle.laws_of_rows.specs.Texts.{HasNoneFrom}
use Rattle.laws_of_rows.proofs.JournalLemmas.{none_at_start, none_next}
use Rattle.laws_of_rows.proofs.RowsLemmas.{made_at_row}

-- ---- entries that are asked for

asked_parts : (plan : Plan) (st : State) (xs ys : List Entry) → asked plan st (xs ++ ys) ≡ asked plan st xs ++ asked plan (state_after plan st xs) ys
unfolding asked state_after
asked_parts plan st [] ys = refl
asked_parts plan st (x ∷ xs) ys =
    let one = cond (is_asked st.region x.event) (x ∷ []) [] in
    ap (λ (l : List Entry). one ++ l) (asked_parts plan (after plan st x.event) xs ys)
    ∙ sym (append_assoc one (asked plan (after plan st x.event) xs) (asked plan (state_after plan (after plan st x.event) xs) ys))

entries_more : (plan : Plan) (xs ys : List Entry) (j : ℕ) → HasEntriesOf plan xs j → HasEntriesOf plan (xs ++ ys) j
entries_more plan xs ys j has =
    let more = asked plan (state_after plan (start plan) xs) ys in
    (has.0 ++ more, asked_parts plan (start plan) xs ys ∙ ap (λ (l : List Entry). l ++ more) has.1 ∙ append_assoc (entries_from plan 1 j) has.0 more)

from_split : (plan : Plan) (a n m : ℕ) → entries_from plan a (n + m) ≡ entries_from plan a n ++ entries_from plan (a + n) m
from_split plan a zero m =
    let e : 0 + m ≡ m = omega arith in
    let f : a ≡ a + 0 = omega arith in
    ap (entries_from plan a) e ∙ ap (λ (k : ℕ). entries_from plan k m) f
from_split plan a (suc n) m =
    let e : suc n + m ≡ suc (n + m) = omega arith in
    let f : suc a + n ≡ a + suc n = omega arith in
    ap (entries_from plan a) e
    ∙ ap (λ (es : List Entry). entries_of plan a ++ es) (from_split plan (suc a) n m ∙ ap (λ (k : ℕ). entries_from plan (suc a) n ++ entries_from plan k m) f)
    ∙ sym (append_assoc (entries_of plan a) (entries_from plan (suc a) n) (entries_from plan (a + suc n) m))

-- ---- claims

one_worker : (worker : ℕ) → worker ≡ 1 → IsOneOf 1 worker
one_worker worker is = (omega (arith, is), omega (arith, is))

claims_lines : (line : ℕ) (events : List Event) → AreBy 1 events → ClaimsBy 1 (with_line line events)
claims_lines line [] by = All-nil (λ (e : Entry). (task worker : ℕ) → e.event ≡ Claim task worker → IsOneOf 1 worker)
claims_lines line (x ∷ xs) by =
    All-cons (λ (e : Entry). (task worker : ℕ) → e.event ≡ Claim task worker → IsOneOf 1 worker) (record { line = line; event = x }) (with_line line xs)
    (λ task worker is. one_worker worker (All-head (λ (e : Event). (t w : ℕ) → e ≡ Claim t w → w ≡ 1) x xs by task worker is))
    (claims_lines line xs (All-tail (λ (e : Event). (t w : ℕ) → e ≡ Claim t w → w ≡ 1) x xs by))

module _ {D S : Type 0} {g : Ghosts D S} {h : SlotGhosts S} where
  abbrev journal_of : Table D S g h → List Entry
  journal_of t = t.holding.ledger.journal.items

  -- the first i rows were run
  pub record IsSoFar (logged : Bool) (t m : Table D S g h) (i : ℕ) (first now : Option (List ℕ)) : Type 0 where
    pub at : IsAtRow (plan_of t) i m
    pub claims : ClaimsBy 1 m.holding.ledger.journal.items
    pub none : logged ≡ true → HasNoneFrom (plan_of t) i m.holding.ledger.journal.items
    pub plan_is : m.holding.ledger.plan ≡ t.holding.ledger.plan
    pub opening : m.opening.value ≡ t.opening.value
    pub written : IsTelling m → Appends first now (first_parts (plan_of t) logged m.holding.ledger.journal.items i)

  -- the entries of the rows above were made
  pub entries_so_far : (t m : Table D S g h) (i j : ℕ) → IsWellFormed (plan_of t) → plan_of m ≡ plan_of t → IsAtRow (plan_of t) i m → j ≤ i → HasEntriesOf (plan_of t) (journal_of m) j
  entries_so_far t m i j well same at le =
      let plan = plan_of t in
      let e : j + (i - j) ≡ i = omega (arith, le) in
      let legal = subst (λ (p : Plan). IsLegalRun p (journal_of m)) same m.holding.ledger.facts.legal in
      let state : state_now m ≡ state_of_run plan (journal_of m) = m.holding.ledger.facts.state ∙ ap (λ (p : Plan). state_of_run p (journal_of m)) same in
      let sound = subst (λ (p : Plan). IsSound p (state_now m)) same (sound_at m (subst IsWellFormed (sym same) well)) in
      let all : asked plan (start plan) (journal_of m) ≡ entries_from plan 1 i =
      sym (made_asked plan (journal_of m) well legal) ∙ ap (λ (s : State). made plan s.progress) (sym state) ∙ made_at_row plan i (state_now m) sound.lives at.at in
      (entries_from plan (1 + j) (i - j), all ∙ ap (entries_from plan 1) (sym e) ∙ from_split plan 1 j (i - j))

  pub so_far_first : (logged : Bool) (t : Table D S g h) (first : Option (List ℕ)) → IsAtRow (plan_of t) 0 t → journal_of t ≡ [] → IsSoFar logged t t 0 first first
  so_far_first logged t first at empty = record {
    at = at;
    claims = subst (ClaimsBy 1) (sym empty) (All-nil (λ (e : Entry). (task worker : ℕ) → e.event ≡ Claim task worker → IsOneOf 1 worker));
    none = λ on. subst (HasNoneFrom (plan_of t) 0) (sym empty) (none_at_start (plan_of t));
    plan_is = refl;
    opening = refl;
    written = λ tells. appends_nothing first;
  }

  pub so_far_well : (logged : Bool) (t m : Table D S g h) (i : ℕ) (first now : Option (List ℕ)) → IsSoFar logged t m i first now → plan_of m ≡ plan_of t
  so_far_well logged t m i first now p = ap (λ (q : Bor Plan). q.now) p.plan_is

  -- one row more
  pub so_far_next : (logged : Bool) (t m u : Table D S g h) (i : ℕ) (first now then : Option (List ℕ)) (faults faults' : ℕ) → (logged ≡ true → LinesRise (plan_of t)) → i < rows (plan_of t)
      → IsSoFar logged t m i first now → RowGives (plan_of t) i m u (Ok tt) → WritesWhere (IsTelling u) (row_part (plan_of t) logged (journal_of u) i) (Ok tt) now then faults faults'
      → IsSoFar logged t u (suc i) first then
  so_far_next logged t m u i first now then faults faults' rise lt p gives writes = record {
    at = gives.ends;
    claims = subst (ClaimsBy 1) (sym journal)
        (All-append (λ (e : Entry). (task worker : ℕ) → e.event ≡ Claim task worker → IsOneOf 1 worker) (journal_of m) added p.claims (claims_lines (statement plan (suc i)).line gives.enters.added gives.enters.claims));
    none = λ on. subst (HasNoneFrom plan (suc i)) (sym journal) (none_next plan i (journal_of m) gives.enters.added (rise on) lt (p.none on));
    plan_is = gives.enters.grows.plan ∙ p.plan_is;
    opening = gives.enters.opening ∙ p.opening;
    written = λ tells.
        let before = told_before (SlotGhosts.tells h) (journal_of m) added (subst (λ (es : List Entry). (SlotGhosts.tells h || not (has_pick es)) ≡ true) journal tells) in
        let part = subst (λ (es : List Entry). Appends now then (row_part plan logged es i)) journal (writes.all tells) in
        subst (λ (es : List Entry). Appends first then (first_parts plan logged es (suc i))) (sym journal)
        (subst (Appends first then) (sym (parts_next plan logged i (journal_of m) gives.enters.added rise lt))
        (appends_then first now then (first_parts plan logged (journal_of m) i) (row_part plan logged (journal_of m ++ added) i) (p.written before) part));
  }
    where
      plan : Plan
      plan = plan_of t

      added : List Entry
      added = entries_now plan i gives.enters.added

      journal : journal_of u ≡ journal_of m ++ added
      journal = gives.enters.grows.journal

  -- a row ended early
  pub so_far_ends : (logged : Bool) (t m u : Table D S g h) (i : ℕ) (first now then : Option (List ℕ)) (faults faults' : ℕ) (fault : PrintFault) → IsWellFormed (plan_of t) → (logged ≡ true → LinesRise (plan_of t))
      → i < rows (plan_of t) → IsSoFar logged t m i first now → RowGives (plan_of t) i m u (Err fault) → WritesWhere (IsTelling u) (row_part (plan_of t) logged (journal_of u) i) (Err fault) now then faults faults'
      → RowsGive (plan_of t) logged t u (Err fault) first then
  so_far_ends logged t m u i first now then faults faults' fault well rise lt p gives writes = record {
    ended = tt;
    claims = subst (ClaimsBy 1) (sym journal)
        (All-append (λ (e : Entry). (task worker : ℕ) → e.event ≡ Claim task worker → IsOneOf 1 worker) (journal_of m) added p.claims (claims_lines (statement plan (suc i)).line gives.enters.added gives.enters.claims));
    plan_is = gives.enters.grows.plan ∙ p.plan_is;
    opening = gives.enters.opening ∙ p.opening;
    disk = λ is. gives.ends (let e : fault ≡ print.DiskFault = cc in e);
    all = λ tells. tt;
    prefix = λ tells.
        let before = told_before (SlotGhosts.tells h) (journal_of m) added (subst (λ (es : List Entry). (SlotGhosts.tells h || not (has_pick es)) ≡ true) journal tells) in
        let above = subst (Appends first now) (sym (ap (λ (es : List Entry). first_parts plan logged es i) journal ∙ parts_stay plan logged i (journal_of m) gives.enters.added rise lt)) (p.written before) in
        prefix_at plan logged i (journal_of u) first now then lt
        (λ j le. subst (λ (es : List Entry). HasEntriesOf plan es j) (sym journal) (entries_more plan (journal_of m) added j (entries_so_far t m i j well (so_far_well logged t m i first now p) p.at le)))
        above (writes.front tells);
  }
    where
      plan : Plan
      plan = plan_of t

      added : List Entry
      added = entries_now plan i gives.enters.added

      journal : journal_of u ≡ journal_of m ++ added
      journal = gives.enters.grows.journal

  -- all rows were run
  pub so_far_all : (logged : Bool) (t m : Table D S g h) (i : ℕ) (first now : Option (List ℕ)) → i ≡ rows (plan_of t) → IsSoFar logged t m i first now → RowsGive (plan_of t) logged t m (Ok tt) first now
  so_far_all logged t m i first now is p = record {
    ended = subst (λ (k : ℕ). IsAtRow (plan_of t) k m) is p.at;
    claims = p.claims;
    plan_is = p.plan_is;
    opening = p.opening;
    disk = λ failed. absurd (cc);
    all = λ tells. subst (Appends first now) (ap (first_parts (plan_of t) logged (journal_of m)) is ∙ parts_all (plan_of t) logged (journal_of m)) (p.written tells);
    prefix = λ tells. tt;
  }

  -- the same, as a call of the row says it
  pub so_far_next_as : (logged : Bool) (t m u : Table D S g h) (i : ℕ) (first now then : Option (List ℕ)) (faults faults' : ℕ) → (logged ≡ true → LinesRise (plan_of t)) → i < rows (plan_of t)
      → IsSoFar logged t m i first now → RowGives (plan_of m) i m u (Ok tt) → WritesWhere (IsTelling u) (row_part (plan_of m) logged (journal_of u) i) (Ok tt) now then faults faults'
      → IsSoFar logged t u (i + 1) first then
  so_far_next_as logged t m u i first now then faults faults' rise lt p gives writes =
      let same = so_far_well logged t m i first now p in
      let e : suc i ≡ i + 1 = omega arith in
      subst (λ (k : ℕ). IsSoFar logged t u k first then) e
      (so_far_next logged t m u i first now then faults faults' rise lt p (subst (λ (q : Plan). RowGives q i m u (Ok tt)) same gives)
      (subst (λ (q : Plan). WritesWhere (IsTelling u) (row_part q logged (journal_of u) i) (Ok tt) now then faults faults') same writes))

  pub so_far_ends_as : (logged : Bool) (t m u : Table D S g h) (i : ℕ) (first now then : Option (List ℕ)) (faults faults' : ℕ) (fault : PrintFault) (result : Result (Unit {0}) PrintFault) → IsErrAnd result (λ f. f ≡ fault)
      → IsWellFormed (plan_of t) → (logged ≡ true → LinesRise (plan_of t)) → i < rows (plan_of t) → IsSoFar logged t m i first now → RowGives (plan_of m) i m u (Err fault)
      → WritesWhere (IsTelling u) (row_part (plan_of m) logged (journal_of u) i) (Err fault) now then faults faults' → RowsGive (plan_of t) logged t u result first then
  so_far_ends_as logged t m u i first now then faults faults' fault result is well rise lt p gives writes =
      let same = so_far_well logged t m i first now p in
      print_err (λ (r : Result (Unit {0}) PrintFault). RowsGive (plan_of t) logged t u r first then) result fault is
      (so_far_ends logged t m u i first now then faults faults' fault well rise lt p (subst (λ (q : Plan). RowGives q i m u (Err fault)) same gives)
      (subst (λ (q : Plan). WritesWhere (IsTelling u) (row_part q logged (journal_of u) i) (Err fault) now then faults faults') same writes))
