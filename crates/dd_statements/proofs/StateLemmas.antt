-- What the events of statements change in the state, and what of the statements is left behind them.
use Rattle.std.proofs.Common.{◌≡◌, ℕ, Bool, true, false, ◌||◌, List, [], ◌∷◌, ◌++◌, Option, Some, None, refl, ap, sym, ◌∙◌, subst}
use Rattle.std.specs.Prelude.{is_some}
use Rattle.std.specs.List.{filter, fold, list_all}
use Rattle.std.proofs.lemmas.Bool.{and_parts}
use Rattle.std.proofs.lemmas.List.{append_assoc}
use Rattle.std.proofs.lemmas.List.Elements.{filter-append}
use Rattle.std.proofs.lemmas.List.Sums.{fold-append}
use Rattle.dd_blocks.specs.declared.plan.Plan.{Plan}
use Rattle.dd_core.specs.Lines.{with_line}
use Rattle.dd_machine.specs.declared.entry.Entry.{Entry}
use Rattle.dd_machine.specs.declared.event.Event.{Event}
use Rattle.dd_machine.specs.declared.event.Event.TheVariants.{Ask, Rest, Put, Shift, Free, Begin, Hold, Pick, Gone, Make, Call, Come, Lend, Copy, Claim, Finish, Back, Close}
use Rattle.dd_machine.specs.Effects.{after, after_rest, on_in}
use Rattle.dd_machine.specs.Legal.{Legal}
use Rattle.dd_machine.specs.Made.{pin_after}
use Rattle.dd_machine.specs.Orderly.{ComesNext}
use Rattle.dd_machine.specs.Owed.{left, next_line, one_more}
use Rattle.dd_machine.specs.Runs.{IsRun, state_after}
use Rattle.dd_machine.specs.States.{Progress, State, at_one}
use Rattle.dd_machine.proofs.ProgressLemmas.{makes_next}
use Rattle.dd_statements.specs.Follows.{AreOrdered, is_owed, is_swap}
use Rattle.dd_statements.proofs.OrdersLemmas.{lines_both}

abbrev either : Event → Bool
either e = is_owed e || is_swap e

-- the homes of blocks after an event
abbrev pub homes_after : (ℕ → ℕ) → Event → ℕ → ℕ
homes_after homes (Shift block space) = at_one homes block space
homes_after homes _ = homes

-- what changes: the pin and the homes, beside copies, orders and how far the statements are
pub record Changes (st new : State) (events : List Event) : Type 0 where
  pub region : new.region ≡ st.region
  pub tasks : new.tasks ≡ st.tasks
  pub current : new.current ≡ st.current
  pub moved : new.moved ≡ st.moved
  pub pin : new.pin ≡ fold pin_after st.pin events
  pub homes : new.homes ≡ fold homes_after st.homes events

changes_none : (st : State) → Changes st st []
changes_none st = record { region = refl; tasks = refl; current = refl; moved = refl; pin = refl; homes = refl }

pub changes_then : (st mid new : State) (xs ys : List Event) → Changes st mid xs → Changes mid new ys → Changes st new (xs ++ ys)
changes_then st mid new xs ys p q = record {
  region = q.region ∙ p.region;
  tasks = q.tasks ∙ p.tasks;
  current = q.current ∙ p.current;
  moved = q.moved ∙ p.moved;
  pin = q.pin ∙ ap (λ (o : Option (ℕ × ℕ)). fold pin_after o ys) p.pin ∙ sym (fold-append pin_after st.pin xs ys);
  homes = q.homes ∙ ap (λ (f : ℕ → ℕ). fold homes_after f ys) p.homes ∙ sym (fold-append homes_after st.homes xs ys);
}

no_order : {A : Type 0} → false ≡ true → A
no_order e = absurd (cc)

changes_one : (plan : Plan) (st : State) (event : Event) → either event ≡ true → Changes st (after plan st event) (filter is_owed (event ∷ []))
changes_one plan st (Ask space block) is = record { region = refl; tasks = refl; current = refl; moved = refl; pin = refl; homes = refl }
changes_one plan st Rest is = by st.pin refl
  where
    by : (p : Option (ℕ × ℕ)) → st.pin ≡ p → Changes st (after_rest plan st p) (Rest ∷ [])
    by None none = record { region = refl; tasks = refl; current = refl; moved = refl; pin = none; homes = refl }
    by (Some (space, block)) some = record { region = refl; tasks = refl; current = refl; moved = refl; pin = refl; homes = refl }
changes_one plan st (Put block) is = record { region = refl; tasks = refl; current = refl; moved = refl; pin = refl; homes = refl }
changes_one plan st (Shift block space) is = record { region = refl; tasks = refl; current = refl; moved = refl; pin = refl; homes = refl }
changes_one plan st (Free space block) is = record { region = refl; tasks = refl; current = refl; moved = refl; pin = refl; homes = refl }
changes_one plan st (Pick space block) is = record { region = refl; tasks = refl; current = refl; moved = refl; pin = refl; homes = refl }
changes_one plan st (Gone space block) is = record { region = refl; tasks = refl; current = refl; moved = refl; pin = refl; homes = refl }
changes_one plan st (Call space block) is = record { region = refl; tasks = refl; current = refl; moved = refl; pin = refl; homes = refl }
changes_one plan st (Come space block) is = record { region = refl; tasks = refl; current = refl; moved = refl; pin = refl; homes = refl }
changes_one plan st (Begin region) is = no_order is
changes_one plan st (Hold task) is = no_order is
changes_one plan st (Make task block) is = no_order is
changes_one plan st (Lend task block source) is = no_order is
changes_one plan st (Copy task block source count) is = no_order is
changes_one plan st (Claim task worker) is = no_order is
changes_one plan st (Finish task) is = no_order is
changes_one plan st (Back block source count) is = no_order is
changes_one plan st (Close region) is = no_order is

pub changes_all : (plan : Plan) (st : State) (line : ℕ) (events : List Event) → AreOrdered events → Changes st (state_after plan st (with_line line events)) (filter is_owed events)
unfolding state_after
changes_all plan st line [] are = changes_none st
changes_all plan st line (event ∷ events) are =
    let parts = and_parts (either event) (list_all either events) are in
    let mid = after plan st event in
    let new = state_after plan mid (with_line line events) in
    subst (Changes st new) (sym (filter-append is_owed (event ∷ []) events))
    (changes_then st mid new (filter is_owed (event ∷ [])) (filter is_owed events) (changes_one plan st event parts.0) (changes_all plan mid line events parts.1))

-- the entry that is made is the next one
next_made : (plan : Plan) (p q : Progress) (line : ℕ) (event : Event) → next_line (left plan p) ≡ Some line → ComesNext plan p event → q ≡ one_more plan p
    → left plan p ≡ with_line line (event ∷ []) ++ left plan q
next_made plan p q line event line_is next on =
    let makes = makes_next plan p event next in
    let same : Some makes.entry.line ≡ Some line = ap next_line (sym makes.was_left) ∙ line_is in
    makes.was_left
    ∙ ap (λ (e : Entry). e ∷ left plan (one_more plan p)) (entry_is makes.entry line event makes.is (some_same makes.entry.line line same))
    ∙ ap (λ (r : Progress). with_line line (event ∷ []) ++ left plan r) (sym on)
  where
    some_same : (a b : ℕ) → Some a ≡ Some b → a ≡ b
    some_same a b e = cc

    entry_is : (e : Entry) (l : ℕ) (x : Event) → e.event ≡ x → e.line ≡ l → e ≡ record { line = l; event = x }
    entry_is e l x is same = ap (λ (y : Event). let z : Entry = record { line = e.line; event = y } in z) is ∙ ap (λ (k : ℕ). let z : Entry = record { line = k; event = x } in z) same

outside : (plan : Plan) (st : State) → st.region ≡ None → on_in plan st.progress st.region ≡ one_more plan st.progress
outside plan st none = ap (on_in plan st.progress) none

left_one : (plan : Plan) (st : State) (line : ℕ) (event : Event) → st.region ≡ None → either event ≡ true → Legal plan st (record { line = line; event = event })
    → left plan st.progress ≡ with_line line (filter is_owed (event ∷ [])) ++ left plan (after plan st event).progress
left_one plan st line (Ask space block) none is legal = next_made plan st.progress (after plan st (Ask space block)).progress line (Ask space block) legal.0 (legal.1.due none) (outside plan st none)
left_one plan st line Rest none is legal = by st.pin refl
  where
    by : (p : Option (ℕ × ℕ)) → st.pin ≡ p → left plan st.progress ≡ with_line line (Rest ∷ []) ++ left plan (after_rest plan st p).progress
    by None off = absurd (let e : false ≡ true = sym (ap is_some off) ∙ legal.1.pinned in cc)
    by (Some (space, block)) some = next_made plan st.progress (on_in plan st.progress st.region) line Rest legal.0 (legal.1.due none) (outside plan st none)
left_one plan st line (Put block) none is legal = next_made plan st.progress (one_more plan st.progress) line (Put block) legal.0 legal.1.due refl
left_one plan st line (Shift block space) none is legal = next_made plan st.progress (one_more plan st.progress) line (Shift block space) legal.0 legal.1.due refl
left_one plan st line (Free space block) none is legal = next_made plan st.progress (after plan st (Free space block)).progress line (Free space block) legal.0 (legal.1.due none) (outside plan st none)
left_one plan st line (Pick space block) none is legal = refl
left_one plan st line (Gone space block) none is legal = refl
left_one plan st line (Call space block) none is legal = refl
left_one plan st line (Come space block) none is legal = refl
left_one plan st line (Begin region) none is legal = no_order is
left_one plan st line (Hold task) none is legal = no_order is
left_one plan st line (Make task block) none is legal = no_order is
left_one plan st line (Lend task block source) none is legal = no_order is
left_one plan st line (Copy task block source count) none is legal = no_order is
left_one plan st line (Claim task worker) none is legal = no_order is
left_one plan st line (Finish task) none is legal = no_order is
left_one plan st line (Back block source count) none is legal = no_order is
left_one plan st line (Close region) none is legal = no_order is

-- what was left are the events that were asked for, and what is left
pub left_all : (plan : Plan) (st : State) (line : ℕ) (events : List Event) → st.region ≡ None → AreOrdered events → IsRun plan st (with_line line events)
    → left plan st.progress ≡ with_line line (filter is_owed events) ++ left plan (state_after plan st (with_line line events)).progress
unfolding state_after IsRun
left_all plan st line [] none are run = refl
left_all plan st line (event ∷ events) none are run =
    let parts = and_parts (either event) (list_all either events) are in
    let mid = after plan st event in
    let new = state_after plan mid (with_line line events) in
    let one = filter is_owed (event ∷ []) in
    let more = filter is_owed events in
    left_one plan st line event none parts.0 run.0
    ∙ ap (λ (l : List Entry). with_line line one ++ l) (left_all plan mid line events ((changes_one plan st event parts.0).region ∙ none) parts.1 run.1)
    ∙ sym (append_assoc (with_line line one) (with_line line more) (left plan new.progress))
    ∙ ap (λ (l : List Entry). l ++ left plan new.progress) (sym (lines_both line one more))
    ∙ ap (λ (l : List Event). with_line line l ++ left plan new.progress) (sym (filter-append is_owed (event ∷ []) events))
