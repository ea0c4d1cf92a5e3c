-- Where the statements stand: an Ask is followed by an entry of its row, and what is due stands on one line.
use Rattle.std.proofs.Common.{◌≡◌, ◌≢◌, ℕ, zero, suc, ◌-◌, ◌<◌, ◌≤◌, Bool, true, false, cond, List, [], ◌∷◌, ◌++◌, map, length, get_or, take, drop, Option, Some, None, refl, ap, sym, ◌∙◌, arith, drop-cons}
use Rattle.std.specs.Prelude.{is_some}
use Rattle.std.specs.List.{flat_map}
use Rattle.std.proofs.lemmas.List.{append_cancel_left}
use Rattle.dd_blocks.specs.declared.plan.Plan.{Plan}
use Rattle.dd_blocks.specs.declared.what.What.{What}
use Rattle.dd_blocks.specs.declared.what.What.TheVariants.{Put as Array, Print, Sum, Moved, Same, Drop, MoveTo, Region}
use Rattle.dd_machine.specs.declared.entry.Entry.{Entry}
use Rattle.dd_machine.specs.declared.event.Event.{Event}
use Rattle.dd_machine.specs.declared.event.Event.TheVariants.{Ask, Rest, Close}
use Rattle.dd_machine.specs.Effects.{on_in}
use Rattle.dd_machine.specs.Legal.{IsNext}
use Rattle.dd_machine.specs.Orderly.{ComesNext}
use Rattle.dd_machine.specs.Owed.{blocks_by_rows, blocks_elsewhere, blocks_of, brought, entries_from, entries_of, events_of, freed, left, made, next_event, next_line, one_more, put_there, shifted_to}
use Rattle.dd_machine.specs.Sound.{IsSound}
use Rattle.dd_machine.specs.States.{Progress, State}
use Rattle.dd_machine.specs.Words.{rows, statement}
use Rattle.dd_machine.proofs.ProgressLemmas.{event_map, length_map, made_and_left, makes_next, next_at, no_entry}
use Rattle.laws_of_lives.proofs.RowsLemmas.{row_is}
use Rattle.dd_core.specs.Due.{AreDue}
use Rattle.dd_core.specs.Lines.{with_line}

-- the event that comes next stands in a row
pub record StandsAt (plan : Plan) (p : Progress) (event : Event) : Type 0 where
  pub row : ℕ
  pub at : ℕ
  pub within : at < length (entries_of plan row)
  pub is : (get_or (entries_of plan row) at no_entry).event ≡ event
  pub row_within : row ≤ rows plan
  pub made_is : made plan p ≡ entries_from plan 1 (row - 1) ++ take at (entries_of plan row)
  pub was : left plan p ≡ drop at (entries_of plan row) ++ entries_from plan (suc row) (rows plan - row)
  pub now : left plan (one_more plan p) ≡ drop (suc at) (entries_of plan row) ++ entries_from plan (suc row) (rows plan - row)

no_entries : (plan : Plan) (row : ℕ) → (statement plan row).what ≡ Moved → entries_of plan row ≡ []
unfolding entries_of
no_entries plan row is = ap (λ (w : What). map (λ event. let e : Entry = record { line = (statement plan row).line; event = event } in e) (events_of plan row w)) is

pub stands_at : (plan : Plan) (p : Progress) (event : Event) → p.row ≤ rows plan → ComesNext plan p event → StandsAt plan p event
stands_at plan p event low next =
    let n = next_at plan p event next in
    let k = row_is plan n.row (λ moved. let none = ap (λ (es : List Entry). length es) (no_entries plan n.row moved) in let lt = n.within in absurd (omega (arith, none, lt))) in
    let here : Progress = record { row = n.row; made = n.at } in
    let within : n.row ≤ rows plan = omega (arith, k.1, k.2) in
    record {
      row = n.row;
      at = n.at;
      within = n.within;
      is = n.is;
      row_within = within;
      made_is = n.made_is;
      was = append_cancel_left (made plan p) (left plan p) (left plan here)
          (made_and_left plan p low ∙ sym (made_and_left plan here within) ∙ ap (λ (es : List Entry). es ++ left plan here) (sym n.made_is));
      now = n.then_is;
    }

-- all entries of a row have its line
line_map : (line i : ℕ) (es : List Event) (d : Entry) → i < length (map (λ x. let y : Entry = record { line = line; event = x } in y) es)
    → (get_or (map (λ x. let y : Entry = record { line = line; event = x } in y) es) i d).line ≡ line
line_map line i [] d lt = absurd (omega (arith, lt))
line_map line zero (x ∷ es) d lt = refl
line_map line (suc i) (x ∷ es) d lt = line_map line i es d (omega (arith, lt))

line_in : (plan : Plan) (row i : ℕ) (rest : List Entry) → i < length (entries_of plan row) → next_line (drop i (entries_of plan row) ++ rest) ≡ Some (statement plan row).line
unfolding entries_of
line_in plan row i rest lt =
    ap (λ (es : List Entry). next_line (es ++ rest)) (drop-cons (entries_of plan row) i no_entry lt)
    ∙ ap (λ (n : ℕ). Some n) (line_map (statement plan row).line i (events_of plan row (statement plan row).what) no_entry lt)

-- the last event isn't an Ask
abbrev is_ask : Event → Bool
is_ask (Ask space block) = true
is_ask _ = false

abbrev EndsElse : List Event → Type 0
EndsElse [] = Unit {0}
EndsElse (e ∷ []) = is_ask e ≡ false
EndsElse (e ∷ (f ∷ es)) = EndsElse (f ∷ es)

ends_both : (es fs : List Event) → EndsElse es → EndsElse fs → EndsElse (es ++ fs)
ends_both [] fs h k = k
ends_both (e ∷ []) [] h k = h
ends_both (e ∷ []) (f ∷ fs) h k = k
ends_both (e ∷ (x ∷ es)) fs h k = ends_both (x ∷ es) fs h k

ends_flat : (f : ℕ → List Event) (xs : List ℕ) → ((x : ℕ) → EndsElse (f x)) → EndsElse (flat_map f xs)
ends_flat f [] h = tt
ends_flat f (x ∷ xs) h = ends_both (f x) (flat_map f xs) (h x) (ends_flat f xs h)

ends_else : (plan : Plan) (row : ℕ) (what : What) → EndsElse (events_of plan row what)
ends_else plan row (Array a) = ends_flat (put_there plan row) (blocks_of plan a) (λ x. refl)
ends_else plan row (Print a) = ends_flat (brought plan row) (blocks_by_rows plan a) (λ x. refl)
ends_else plan row (Sum a name) = ends_flat (brought plan row) (blocks_of plan a) (λ x. refl)
ends_else plan row Moved = tt
ends_else plan row (Same a) = tt
ends_else plan row (Drop a last) = by last
  where
    by : (l : Bool) → EndsElse (cond l (flat_map (freed plan row) (blocks_of plan a)) [])
    by true = ends_flat (freed plan row) (blocks_of plan a) (λ x. refl)
    by false = tt
ends_else plan row (MoveTo a s) = ends_flat (shifted_to s) (blocks_elsewhere plan row a s) (λ x. refl)
ends_else plan row (Region r) = refl

followed : (es : List Event) (i : ℕ) (d : Event) → EndsElse es → i < length es → is_ask (get_or es i d) ≡ true → suc i < length es
followed [] i d ends lt is = absurd (omega (arith, lt))
followed (e ∷ []) zero d ends lt is = absurd (let h : true ≡ false = sym is ∙ ends in cc)
followed (e ∷ []) (suc i) d ends lt is = absurd (omega (arith, lt))
followed (e ∷ (f ∷ es)) zero d ends lt is = omega arith
followed (e ∷ (f ∷ es)) (suc i) d ends lt is = let more = followed (f ∷ es) i d ends (omega (arith, lt)) is in omega (arith, more)

ask_followed : (plan : Plan) (row i space block : ℕ) → i < length (entries_of plan row) → (get_or (entries_of plan row) i no_entry).event ≡ Ask space block → suc i < length (entries_of plan row)
unfolding entries_of
ask_followed plan row i space block lt is =
    let line = (statement plan row).line in
    let es = events_of plan row (statement plan row).what in
    let many = length_map line es in
    let within : i < length es = omega (arith, lt, many) in
    let more = followed es i Rest (ends_else plan row (statement plan row).what) within (ap is_ask (sym (event_map line i es no_entry Rest lt) ∙ is)) in
    omega (arith, more, many)

-- behind an Ask the next entry has the same line
pub ask_line : (plan : Plan) (p : Progress) (space block : ℕ) → p.row ≤ rows plan → ComesNext plan p (Ask space block) → next_line (left plan (one_more plan p)) ≡ next_line (left plan p)
ask_line plan p space block low next =
    let s = stands_at plan p (Ask space block) low next in
    let rest = entries_from plan (suc s.row) (rows plan - s.row) in
    ap next_line s.now ∙ line_in plan s.row (suc s.at) rest (ask_followed plan s.row s.at space block s.within s.is) ∙ sym (line_in plan s.row s.at rest s.within) ∙ ap next_line (sym s.was)

-- so an Ask leaves the line as it is, in a region too
pub asked_line : (plan : Plan) (st : State) (space block : ℕ) → IsSound plan st → (st.region ≡ None → IsNext plan st (Ask space block))
    → next_line (left plan (on_in plan st.progress st.region)) ≡ next_line (left plan st.progress)
asked_line plan st space block sound due = by st.region refl
  where
    by : (r : Option ℕ) → st.region ≡ r → next_line (left plan (on_in plan st.progress r)) ≡ next_line (left plan st.progress)
    by None is = ask_line plan st.progress space block sound.lives.position.row_within (due is)
    by (Some r) is = refl

-- some entry is left where one is due, or a region is open
line_of_event : (entries : List Entry) (event : Event) → next_event entries ≡ Some event → is_some (next_line entries) ≡ true
line_of_event [] event is = absurd (cc)
line_of_event (entry ∷ entries) event is = refl

pub left_due : (plan : Plan) (st : State) (event : Event) → IsSound plan st → (st.region ≡ None → IsNext plan st event) → is_some (next_line (left plan st.progress)) ≡ true
left_due plan st event sound due = by st.region refl
  where
    by : (r : Option ℕ) → st.region ≡ r → is_some (next_line (left plan st.progress)) ≡ true
    by None is = line_of_event (left plan st.progress) event (due is)
    by (Some r) is = line_of_event (left plan st.progress) (Close r) (sound.lives.open_next r is)

-- what is due
take_parts : (entries : List Entry) (n : ℕ) (x : Entry) (xs : List Entry) → take (suc n) entries ≡ x ∷ xs → (more : List Entry) × (entries ≡ x ∷ more) × (take n more ≡ xs)
take_parts [] n x xs is = absurd (cc)
take_parts (y ∷ ys) n x xs is = (ys, (cc), (cc))

-- the first event that is due is the next; with it the others are due, on the same line
pub due_first : (plan : Plan) (st : State) (event : Event) (events : List Event) → AreDue plan st (event ∷ events) → IsNext plan st event
due_first plan st event events due =
    let parts = take_parts (left plan st.progress) (length events) (record { line = due.line; event = event }) (with_line due.line events) due.are in
    ap next_event parts.1

pub due_line : (plan : Plan) (st : State) (event : Event) (events : List Event) (due : AreDue plan st (event ∷ events)) → next_line (left plan st.progress) ≡ Some due.line
due_line plan st event events due =
    let parts = take_parts (left plan st.progress) (length events) (record { line = due.line; event = event }) (with_line due.line events) due.are in
    ap next_line parts.1

pub due_more : (plan : Plan) (st new : State) (event : Event) (events : List Event) (due : AreDue plan st (event ∷ events)) → new.progress ≡ one_more plan st.progress
    → take (length events) (left plan new.progress) ≡ with_line due.line events
due_more plan st new event events due on =
    let first : Entry = record { line = due.line; event = event } in
    let parts = take_parts (left plan st.progress) (length events) first (with_line due.line events) due.are in
    let makes = makes_next plan st.progress event (ap next_event parts.1) in
    let both : makes.entry ∷ left plan (one_more plan st.progress) ≡ first ∷ parts.0 = sym makes.was_left ∙ parts.1 in
    let same : left plan (one_more plan st.progress) ≡ parts.0 = tails makes.entry first (left plan (one_more plan st.progress)) parts.0 both in
    ap (λ (p : Progress). take (length events) (left plan p)) on ∙ ap (λ (es : List Entry). take (length events) es) same ∙ parts.2
  where
    tails : (x y : Entry) (xs ys : List Entry) → x ∷ xs ≡ y ∷ ys → xs ≡ ys
    tails x y xs ys is = cc

-- an event that is asked for opens no region
pub due_outside : (plan : Plan) (st : State) (event : Event) → IsSound plan st → IsNext plan st event → ((r : ℕ) → event ≢ Close r) → st.region ≡ None
due_outside plan st event sound next other = by st.region refl
  where
    same_event : (e f : Event) → Some e ≡ Some f → e ≡ f
    same_event e f is = cc

    by : (r : Option ℕ) → st.region ≡ r → st.region ≡ None
    by None is = is
    by (Some r) is = absurd (other r (same_event event (Close r) (sym next ∙ sound.lives.open_next r is)))

-- and so the line stays
pub line_more : (plan : Plan) (st new : State) (event then : Event) (events : List Event) → AreDue plan st (event ∷ (then ∷ events)) → new.progress ≡ one_more plan st.progress
    → next_line (left plan new.progress) ≡ next_line (left plan st.progress)
line_more plan st new event then events due on =
    let more : AreDue plan new (then ∷ events) = record { line = due.line; are = due_more plan st new event (then ∷ events) due on } in
    due_line plan new then events more ∙ sym (due_line plan st event (then ∷ events) due)
