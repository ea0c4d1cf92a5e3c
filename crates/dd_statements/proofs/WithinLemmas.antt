-- A statement in the middle: some of the events that it asks for were entered, and the others are due.
use Rattle.std.proofs.Common.{◌≡◌, ℕ, List, [], ◌∷◌, ◌++◌, length, take, drop, Bor, Option, None, refl, ap, sym, ◌∙◌, subst}
use Rattle.std.specs.List.{filter, fold}
use Rattle.std.proofs.lemmas.List.{append_assoc, append_cancel_left, take-append-drop}
use Rattle.dd_blocks.specs.declared.plan.Plan.{Plan}
use Rattle.dd_core.specs.Due.{AreDue}
use Rattle.dd_core.specs.Lines.{with_line}
use Rattle.dd_ledger.proofs.GrowsLemmas.{state_grows}
use Rattle.dd_machine.specs.declared.entry.Entry.{Entry}
use Rattle.dd_machine.specs.declared.event.Event.{Event}
use Rattle.dd_machine.specs.Made.{pin_after}
use Rattle.dd_machine.specs.Owed.{left, next_line}
use Rattle.dd_machine.specs.Runs.{state_after}
use Rattle.dd_machine.specs.States.{State}
use Rattle.dd_statements.specs.Follows.{Adds, Follows, IsBetween, StopsIn, is_owed}
use Rattle.dd_statements.proofs.AddsLemmas.{due_now, follows_none, follows_then, stops_after, stops_within}
use Rattle.dd_statements.proofs.OrdersLemmas.{lines_both}
use Rattle.dd_statements.proofs.StateLemmas.{Changes, changes_all, homes_after, left_all}
use Rattle.dd_store.specs.declared.store.Slot.{Ghosts as SlotGhosts}
use Rattle.dd_store.specs.declared.store.Store.{Ghosts}
use Rattle.dd_table.specs.declared.fault.RunFault.{RunFault}
use Rattle.dd_table.specs.declared.table.Table.{Table}
use Rattle.dd_table.specs.Tables.{line_now, or_zero, state_now}
use Rattle.dd_table.proofs.RoomLemmas.{run_grown}

-- the first of some entries
take_front : (line : ℕ) (xs : List Event) (zs : List Entry) → take (length xs) (with_line line xs ++ zs) ≡ with_line line xs
take_front line [] zs = refl
take_front line (x ∷ xs) zs = ap (λ l. record { line = line; event = x } ∷ l) (take_front line xs zs)

module _ {D S : Type 0} {g : Ghosts D S} {h : SlotGhosts S} where
  pub plan_kept : (t u : Table D S g h) (line : ℕ) (events : List Event) → Adds t u line events → u.holding.ledger.plan.now ≡ t.holding.ledger.plan.now
  plan_kept t u line events p = ap (λ (q : Bor Plan). q.now) p.grows.holds.grows.plan

  -- what the entries changed in the state
  pub changed : (t u : Table D S g h) (line : ℕ) (events : List Event) → Adds t u line events → Changes (state_now t) (state_now u) events
  changed t u line events p =
      let plan = t.holding.ledger.plan.now in
      let is = state_grows t.holding.ledger u.holding.ledger (with_line line p.added) p.grows.holds.grows in
      subst (Changes (state_now t) (state_now u)) p.owed (subst (λ (st : State). Changes (state_now t) st (filter is_owed p.added)) (sym is) (changes_all plan (state_now t) line p.added p.ordered))

  -- what was left are these events, and what is left now
  pub left_kept : (t u : Table D S g h) (line : ℕ) (events : List Event) → (state_now t).region ≡ None → Adds t u line events
      → left t.holding.ledger.plan.now (state_now t).progress ≡ with_line line events ++ left t.holding.ledger.plan.now (state_now u).progress
  left_kept t u line events none p =
      let plan = t.holding.ledger.plan.now in
      let is = state_grows t.holding.ledger u.holding.ledger (with_line line p.added) p.grows.holds.grows in
      left_all plan (state_now t) line p.added none p.ordered (run_grown t.holding.ledger u.holding.ledger (with_line line p.added) p.grows.holds.grows)
      ∙ ap (λ (l : List Event). with_line line l ++ left plan (state_after plan (state_now t) (with_line line p.added)).progress) p.owed
      ∙ ap (λ (st : State). with_line line events ++ left plan st.progress) (sym is)

  -- a run that was between two statements is again, where the last pin was given up
  pub between_kept : (t u : Table D S g h) (line : ℕ) (events : List Event) → IsBetween t → Follows t u line events → fold pin_after None events ≡ None → IsBetween u
  between_kept t u line events b p rests =
      let c = changed t u line events p.adds in
      record {
        cause = p.cause;
        region = c.region ∙ b.region;
        pin = c.pin ∙ ap (λ (o : Option (ℕ × ℕ)). fold pin_after o events) b.pin ∙ rests;
      }

  pub record IsWithin (t u : Table D S g h) (line : ℕ) (done rest : List Event) : Type 0 where
    pub follows : Follows t u line done
    pub between : IsBetween u
    pub later : List Entry
    pub due : left t.holding.ledger.plan.now (state_now u).progress ≡ with_line line rest ++ later

  -- before the first
  pub within_none : (t : Table D S g h) (rest : List Event) → IsBetween t → AreDue t.holding.ledger.plan.now (state_now t) rest → IsWithin t t (line_now t) [] rest
  within_none t rest b due = record {
    follows = follows_none t (line_now t) b.cause;
    between = b;
    later = drop (length rest) now;
    due = sym (take-append-drop (length rest) now) ∙ ap (λ (l : List Entry). l ++ drop (length rest) now) (by rest due);
  }
    where
      now : List Entry
      now = left t.holding.ledger.plan.now (state_now t).progress

      by : (events : List Event) → AreDue t.holding.ledger.plan.now (state_now t) events → take (length events) now ≡ with_line (line_now t) events
      by [] is = refl
      by (event ∷ events) is = is.are ∙ ap (λ (l : ℕ). with_line l (event ∷ events)) (sym (due_now t event events is))

  -- what is due next, and its line
  pub within_due : (t u : Table D S g h) (line : ℕ) (done xs ys : List Event) → IsWithin t u line done (xs ++ ys) → AreDue t.holding.ledger.plan.now (state_now u) xs
  within_due t u line done xs ys w = record {
    line = line;
    are =
        ap (take (length xs)) (w.due ∙ ap (λ (l : List Entry). l ++ w.later) (lines_both line xs ys) ∙ append_assoc (with_line line xs) (with_line line ys) w.later)
        ∙ take_front line xs (with_line line ys ++ w.later);
  }

  pub within_line : (t u : Table D S g h) (line : ℕ) (done : List Event) (event : Event) (rest : List Event) → IsWithin t u line done (event ∷ rest) → line_now u ≡ line
  within_line t u line done event rest w = ap or_zero (ap next_line
      (ap (λ (p : Plan). left p (state_now u).progress) (plan_kept t u line done w.follows.adds) ∙ w.due))

  -- some more were entered; or the run stopped in them
  pub within_more : (t m u : Table D S g h) (line : ℕ) (done xs ys : List Event) → IsWithin t m line done (xs ++ ys) → Follows m u line xs → fold pin_after None xs ≡ None → IsWithin t u line (done ++ xs) ys
  within_more t m u line done xs ys w p rests = record {
    follows = follows_then t m u line done xs w.follows p;
    between = between_kept m u line xs w.between p rests;
    later = w.later;
    due = append_cancel_left (with_line line xs) (left plan (state_now u).progress) (with_line line ys ++ w.later)
        (sym was ∙ w.due ∙ ap (λ (l : List Entry). l ++ w.later) (lines_both line xs ys) ∙ append_assoc (with_line line xs) (with_line line ys) w.later);
  }
    where
      plan : Plan
      plan = t.holding.ledger.plan.now

      was : left plan (state_now m).progress ≡ with_line line xs ++ left plan (state_now u).progress
      was = subst (λ (q : Plan). left q (state_now m).progress ≡ with_line line xs ++ left q (state_now u).progress) (plan_kept t m line done w.follows.adds) (left_kept m u line xs w.between.region p.adds)

  pub within_stops : (t m u : Table D S g h) (line : ℕ) (done xs ys : List Event) (fault : RunFault) → IsWithin t m line done (xs ++ ys) → StopsIn m u line xs fault → StopsIn t u line (done ++ (xs ++ ys)) fault
  within_stops t m u line done xs ys fault w p = stops_after t m u line done (xs ++ ys) fault w.follows (stops_within m u line xs ys fault p)

  -- the homes of blocks
  pub within_homes : (t u : Table D S g h) (line : ℕ) (done rest : List Event) → IsWithin t u line done rest → (state_now u).homes ≡ fold homes_after (state_now t).homes done
  within_homes t u line done rest w = (changed t u line done w.follows.adds).homes
