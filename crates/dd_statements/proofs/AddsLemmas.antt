-- What calls of a table add, one after another.
use Rattle.std.proofs.Common.{◌≡◌, ℕ, Bool, true, false, cond, List, [], ◌∷◌, ◌++◌, Some, None, inl, inr, refl, ap, sym, ◌∙◌, subst, ⊎_elim, Result, Ok, Err, arith}
use Rattle.std.specs.List.{filter}
use Rattle.std.proofs.lemmas.List.{append_assoc}
use Rattle.std.proofs.lemmas.List.Elements.{filter-append}
use Rattle.dd_causes.specs.Counts.{Rose}
use Rattle.dd_core.specs.Due.{AreDue}
use Rattle.dd_core.specs.Lines.{with_line}
use Rattle.dd_holding.specs.Holdings.{Holds}
use Rattle.dd_machine.specs.declared.event.Event.{Event}
use Rattle.dd_machine.specs.declared.event.Event.TheVariants.{Ask, Rest, Put, Shift, Call, Come}
use Rattle.dd_machine.specs.Effects.{after}
use Rattle.dd_machine.specs.States.{State}
use Rattle.dd_machine.specs.Tests.{is_in_state, is_out}
use Rattle.dd_statements.specs.Follows.{Adds, AreOrdered, Asks, Follows, StopsIn, is_owed}
use Rattle.dd_statements.proofs.OrdersLemmas.{given_swaps, lines_both, ordered_both, ordered_parts, ordered_with, owed_with}
use Rattle.dd_store.specs.declared.store.Slot.{Ghosts as SlotGhosts}
use Rattle.dd_store.specs.declared.store.Store.{Ghosts}
use Rattle.dd_table.specs.declared.fault.RunFault.{RunFault}
use Rattle.dd_table.specs.declared.fault.RunFault.TheVariants.{DiskFault}
use Rattle.dd_table.specs.declared.table.Table.{Table}
use Rattle.dd_table.specs.Spills.{RoomGives}
use Rattle.dd_table.specs.Tables.{Enters, Gives, GrowsBy, Stops, line_now, or_zero, state_now}
use Rattle.dd_table.proofs.DueLemmas.{due_line}
use Rattle.dd_table.proofs.FactsLemmas.{holds_same, holds_then, rose_before}
use Rattle.dd_table.proofs.GivesLemmas.{not_none}

module _ {D S : Type 0} {g : Ghosts D S} {h : SlotGhosts S} where
  -- the line of the next entry, where some are due
  pub due_now : (t : Table D S g h) (event : Event) (events : List Event) (due : AreDue t.holding.ledger.plan.now (state_now t) (event ∷ events)) → line_now t ≡ due.line
  due_now t event events due = ap or_zero (due_line t.holding.ledger.plan.now (state_now t) event events due)

  pub grows_none : (t : Table D S g h) → GrowsBy t t []
  grows_none t = record { holds = holds_same t.holding; opening = refl; faults = omega arith }

  pub adds_none : (t : Table D S g h) (line : ℕ) → Adds t t line []
  adds_none t line = record { added = []; ordered = refl; owed = refl; grows = grows_none t }

  pub grows_then : (t m u : Table D S g h) (line : ℕ) (xs ys : List Event) → GrowsBy t m (with_line line xs) → GrowsBy m u (with_line line ys) → GrowsBy t u (with_line line (xs ++ ys))
  grows_then t m u line xs ys p q = record {
    holds = subst (Holds t.holding u.holding) (sym (lines_both line xs ys)) (holds_then t.holding m.holding u.holding (with_line line xs) (with_line line ys) p.holds q.holds);
    opening = q.opening ∙ p.opening;
    faults = (let first = p.faults in let second = q.faults in omega (arith, first, second));
  }

  pub adds_then : (t m u : Table D S g h) (line : ℕ) (xs ys : List Event) → Adds t m line xs → Adds m u line ys → Adds t u line (xs ++ ys)
  adds_then t m u line xs ys p q = record {
    added = p.added ++ q.added;
    ordered = ordered_both p.added q.added p.ordered q.ordered;
    owed = filter-append is_owed p.added q.added ∙ ap (λ (l : List Event). l ++ filter is_owed q.added) p.owed ∙ ap (λ (l : List Event). xs ++ l) q.owed;
    grows = grows_then t m u line p.added q.added p.grows q.grows;
  }

  pub follows_none : (t : Table D S g h) (line : ℕ) → t.cause ≡ None → Follows t t line []
  follows_none t line none = record { adds = adds_none t line; none = none; cause = none }

  pub follows_then : (t m u : Table D S g h) (line : ℕ) (xs ys : List Event) → Follows t m line xs → Follows m u line ys → Follows t u line (xs ++ ys)
  follows_then t m u line xs ys p q = record { adds = adds_then t m u line xs ys p.adds q.adds; none = p.none; cause = q.cause }

  -- after some events the run stops in others
  pub stops_after : (t m u : Table D S g h) (line : ℕ) (xs ys : List Event) (fault : RunFault) → Follows t m line xs → StopsIn m u line ys fault → StopsIn t u line (xs ++ ys) fault
  stops_after t m u line xs ys fault p q = record {
    done = xs ++ q.done;
    rest = q.rest;
    all = ap (λ (l : List Event). xs ++ l) q.all ∙ sym (append_assoc xs q.done q.rest);
    adds = adds_then t m u line xs q.done p.adds q.adds;
    cause = q.cause;
    disk = λ is. ⊎_elim
        (λ (kept : m.cause ≡ Some DiskFault). not_none m.cause DiskFault p.cause kept)
        (λ (rose : Rose (Ghosts.faults g m.store) (Ghosts.faults g u.store)). inr (rose_before (Ghosts.faults g t.store) (Ghosts.faults g m.store) (Ghosts.faults g u.store) p.adds.grows.faults rose))
        (q.disk is);
    kept = λ f some. not_none t.cause f p.none some;
  }

  -- it stops in more events too
  pub stops_within : (t u : Table D S g h) (line : ℕ) (xs ys : List Event) (fault : RunFault) → StopsIn t u line xs fault → StopsIn t u line (xs ++ ys) fault
  stops_within t u line xs ys fault p = record {
    done = p.done;
    rest = p.rest ++ ys;
    all = ap (λ (l : List Event). l ++ ys) p.all ∙ append_assoc p.done p.rest ys;
    adds = p.adds;
    cause = p.cause;
    disk = p.disk;
    kept = p.kept;
  }

  pub asks_after : (t m u : Table D S g h) (line : ℕ) (xs ys : List Event) (result : Result (Unit {0}) RunFault) → Follows t m line xs → Asks m u line ys result → Asks t u line (xs ++ ys) result
  asks_after t m u line xs ys (Ok done) p q = follows_then t m u line xs ys p q
  asks_after t m u line xs ys (Err fault) p q = stops_after t m u line xs ys fault p q

  -- a cause was kept before
  pub stopped_in : (t : Table D S g h) (line : ℕ) (events : List Event) (fault : RunFault) → t.cause ≡ Some fault → StopsIn t t line events fault
  stopped_in t line events fault kept = record {
    done = [];
    rest = events;
    all = refl;
    adds = record { added = []; ordered = refl; owed = refl; grows = grows_none t };
    cause = kept;
    disk = λ is. inl (kept ∙ ap (λ (f : RunFault). Some f) is);
    kept = λ f some. (some_same fault f (sym kept ∙ some), refl);
  }
    where
      some_same : (a b : RunFault) → Some a ≡ Some b → a ≡ b
      some_same a b e = cc

  -- what a call of the table gives, where its line is known
  pub enters_adds : (t u : Table D S g h) (line : ℕ) (events : List Event) → line_now t ≡ line → AreOrdered events → Enters t u events → Adds t u line (filter is_owed events)
  enters_adds t u line events same ordered p = record { added = events; ordered = ordered; owed = refl; grows = subst (λ (l : ℕ). GrowsBy t u (with_line l events)) same p.grows }

  pub enters_follows : (t u : Table D S g h) (line : ℕ) (events : List Event) → t.cause ≡ None → line_now t ≡ line → AreOrdered events → Enters t u events → Follows t u line (filter is_owed events)
  enters_follows t u line events none same ordered p = record { adds = enters_adds t u line events same ordered p; none = none; cause = p.cause ∙ none }

  stops_stop : (t u : Table D S g h) (line : ℕ) (events : List Event) (fault : RunFault) → line_now t ≡ line → AreOrdered events → Stops t u events fault → StopsIn t u line (filter is_owed events) fault
  stops_stop t u line events fault same ordered p = record {
    done = filter is_owed p.done;
    rest = filter is_owed p.rest;
    all = ap (filter is_owed) p.all ∙ filter-append is_owed p.done p.rest;
    adds = record {
      added = p.done;
      ordered = (ordered_parts p.done p.rest (subst AreOrdered p.all ordered)).0;
      owed = refl;
      grows = subst (λ (l : ℕ). GrowsBy t u (with_line l p.done)) same p.grows;
    };
    cause = p.cause;
    disk = p.disk;
    kept = p.kept;
  }

  pub gives_asks : (t u : Table D S g h) (line : ℕ) (events : List Event) (result : Result (Unit {0}) RunFault) → line_now t ≡ line → AreOrdered events → Gives t u events result → Asks t u line (filter is_owed events) result
  gives_asks t u line events (Ok done) same ordered p = enters_follows t u line events p.none same ordered p.enters
  gives_asks t u line events (Err fault) same ordered p = stops_stop t u line events fault same ordered p

  -- a call that makes room behind its first event
  roomy_asks : (t u : Table D S g h) (line : ℕ) (st : State) (space : ℕ) (first : Event) (spills more : List Event) (result : Result (Unit {0}) RunFault) → line_now t ≡ line
      → is_owed first ≡ true → AreOrdered more → RoomGives t.holding.ledger.plan.now st space spills result → Gives t u (first ∷ (spills ++ more)) result → Asks t u line (first ∷ filter is_owed more) result
  roomy_asks t u line st space first spills more result same is ordered room p =
      let swaps = given_swaps t.holding.ledger.plan.now st space spills result room in
      subst (λ (l : List Event). Asks t u line l result) (owed_with first spills more is swaps)
      (gives_asks t u line (first ∷ (spills ++ more)) result same (ordered_with first spills more is swaps ordered) p)

  -- `put_block`, `shift`, `bring`, `rest` and `free`
  pub put_asks : (t u : Table D S g h) (line block : ℕ) (result : Result (Unit {0}) RunFault) → line_now t ≡ line
      → (spills : List Event) × Gives t u (Ask ((state_now t).homes block) block ∷ (spills ++ (Put block ∷ (Rest ∷ [])))) result
      × RoomGives t.holding.ledger.plan.now (after t.holding.ledger.plan.now (state_now t) (Ask ((state_now t).homes block) block)) ((state_now t).homes block) spills result
      → Asks t u line (Ask ((state_now t).homes block) block ∷ (Put block ∷ (Rest ∷ []))) result
  put_asks t u line block result same p =
      roomy_asks t u line (after t.holding.ledger.plan.now (state_now t) (Ask ((state_now t).homes block) block)) ((state_now t).homes block) (Ask ((state_now t).homes block) block) p.0 (Put block ∷ (Rest ∷ [])) result same refl refl p.2 p.1

  pub shift_asks : (t u : Table D S g h) (line block space : ℕ) (result : Result (Unit {0}) RunFault) → line_now t ≡ line
      → (spills : List Event) × Gives t u (Ask space block ∷ (spills ++ (Shift block space ∷ (Rest ∷ [])))) result
      × RoomGives t.holding.ledger.plan.now (after t.holding.ledger.plan.now (state_now t) (Ask space block)) space spills result
      → Asks t u line (Ask space block ∷ (Shift block space ∷ (Rest ∷ []))) result
  shift_asks t u line block space result same p =
      roomy_asks t u line (after t.holding.ledger.plan.now (state_now t) (Ask space block)) space (Ask space block) p.0 (Shift block space ∷ (Rest ∷ [])) result same refl refl p.2 p.1

  pub bring_asks : (t u : Table D S g h) (line space block : ℕ) (result : Result (Unit {0}) RunFault) → line_now t ≡ line
      → (spills : List Event) × Gives t u (Ask space block ∷ (spills ++ cond (is_in_state is_out ((state_now t).copies space block)) (Call space block ∷ (Come space block ∷ [])) [])) result
      × RoomGives t.holding.ledger.plan.now (after t.holding.ledger.plan.now (state_now t) (Ask space block)) space spills result
      → Asks t u line (Ask space block ∷ []) result
  bring_asks t u line space block result same p = by (is_in_state is_out ((state_now t).copies space block)) p.1
    where
      by : (out : Bool) → Gives t u (Ask space block ∷ (p.0 ++ cond out (Call space block ∷ (Come space block ∷ [])) [])) result → Asks t u line (Ask space block ∷ []) result
      by true q = roomy_asks t u line (after t.holding.ledger.plan.now (state_now t) (Ask space block)) space (Ask space block) p.0 (Call space block ∷ (Come space block ∷ [])) result same refl refl p.2 q
      by false q = roomy_asks t u line (after t.holding.ledger.plan.now (state_now t) (Ask space block)) space (Ask space block) p.0 [] result same refl refl p.2 q
