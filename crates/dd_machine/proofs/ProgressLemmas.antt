-- One more entry of the statements: it leaves the list of those that are left, and joins those that were made.
use Rattle.std.proofs.Common.{map, ◌≡◌, ℕ, zero, suc, ◌+◌, ◌-◌, ◌<◌, ◌≤◌, Bool, true, false, ltb, List, [], ◌∷◌, ◌++◌, length, get_or, take, drop, Some, refl, ap, sym, ◌∙◌, subst, ⊎_elim, arith, append_assoc, append-nil, drop_of_length-le, take_all, drop-cons, take-suc}
use Rattle.std.proofs.lemmas.Bool.{cases_Bool, ltb-true, ltb-false}
use Rattle.std.proofs.lemmas.List.{take-append-drop}
use Rattle.dd_blocks.specs.declared.plan.Plan.{Plan}
use Rattle.dd_machine.specs.declared.entry.Entry.{Entry}
use Rattle.dd_machine.specs.declared.event.Event.{Event}
use Rattle.dd_machine.specs.declared.event.Event.TheVariants.{Rest}
use Rattle.dd_machine.specs.Owed.{IsPosition, all_entries, entries_from, entries_of, first_with, left, made, next_event, next_row, one_more, one_more_of}
use Rattle.dd_machine.specs.Orderly.{ComesNext}
use Rattle.dd_machine.specs.States.{Progress}
use Rattle.dd_machine.specs.Words.{rows}

-- an entry of the event is made: it joins those that were made, and leaves those that are left
pub record Makes (plan : Plan) (p q : Progress) (event : Event) : Type 0 where
  pub entry : Entry
  pub is : entry.event ≡ event
  pub now_made : made plan q ≡ made plan p ++ entry ∷ []
  pub was_left : left plan p ≡ entry ∷ left plan q

pub no_entry : Entry
no_entry = record { line = 0; event = Rest }

-- row 0 has no entries
none_before : (plan : Plan) → entries_of plan 0 ≡ []
unfolding entries_of
none_before plan = refl

-- one row more
pub row_more : (plan : Plan) (a n : ℕ) → entries_from plan a n ++ entries_of plan (a + n) ≡ entries_from plan a (suc n)
row_more plan a zero =
    let e : a + 0 ≡ a = omega arith in
    ap (entries_of plan) e ∙ sym (append-nil (entries_of plan a))
row_more plan a (suc n) =
    let e : a + suc n ≡ suc a + n = omega arith in
    append_assoc (entries_of plan a) (entries_from plan (suc a) n) (entries_of plan (a + suc n))
    ∙ ap (λ (es : List Entry). entries_of plan a ++ es) (ap (λ (k : ℕ). entries_from plan (suc a) n ++ entries_of plan k) e ∙ row_more plan (suc a) n)

-- a row with those above it
pub row_done : (plan : Plan) (row : ℕ) → entries_from plan 1 (row - 1) ++ entries_of plan row ≡ entries_from plan 1 row
row_done plan zero = none_before plan
row_done plan (suc n) =
    let e : suc n - 1 ≡ n = omega arith in
    let f : suc n ≡ 1 + n = omega arith in
    ap (λ (k : ℕ). entries_from plan 1 k ++ entries_of plan (suc n)) e ∙ ap (λ (k : ℕ). entries_from plan 1 n ++ entries_of plan k) f ∙ row_more plan 1 n

-- of some rows the first with entries is row q
record Skips (plan : Plan) (row n q : ℕ) : Type 0 where
  more : ℕ
  some : 0 < n
  long : row + n ≡ suc (q + more)
  full : 0 < length (entries_of plan q)
  rest : entries_from plan row n ≡ entries_of plan q ++ entries_from plan (suc q) more
  above : entries_from plan 1 (q - 1) ≡ entries_from plan 1 (row - 1)

skips_by : (plan : Plan) (row n : ℕ) (event : Event) → (next_event (entries_from plan (suc row) n) ≡ Some event → Skips plan (suc row) n (next_row plan (suc row) n))
    → next_event (entries_from plan row (suc n)) ≡ Some event → (es : List Entry) → entries_of plan row ≡ es → Skips plan row (suc n) (first_with (entries_of plan row) row (next_row plan (suc row) n))
skips_by plan row n event later next [] same =
    let from : entries_from plan row (suc n) ≡ entries_from plan (suc row) n = ap (λ (es : List Entry). es ++ entries_from plan (suc row) n) same in
    let s : Skips plan (suc row) n (next_row plan (suc row) n) = later (subst (λ (es : List Entry). next_event es ≡ Some event) from next) in
    let e : suc row - 1 ≡ row = omega arith in
    let long : row + suc n ≡ suc (next_row plan (suc row) n + s.more) = omega (arith, s.long) in
    rw same (record {
      more = s.more;
      some = omega arith;
      long = long;
      full = s.full;
      rest = from ∙ s.rest;
      above = s.above ∙ ap (entries_from plan 1) e ∙ sym (row_done plan row) ∙ ap (λ (es : List Entry). entries_from plan 1 (row - 1) ++ es) same ∙ append-nil (entries_from plan 1 (row - 1));
    })
skips_by plan row n event later next (e ∷ es) same =
    rw same (record {
      more = n;
      some = omega arith;
      long = omega arith;
      full = rw same (omega arith);
      rest = refl;
      above = refl;
    })

skips : (plan : Plan) (row n : ℕ) (event : Event) → next_event (entries_from plan row n) ≡ Some event → Skips plan row n (next_row plan row n)
skips plan row zero event next = cc
skips plan row (suc n) event next = skips_by plan row n event (skips plan (suc row) n event) next (entries_of plan row) refl

next_is : (entry : Entry) (es fs : List Entry) (event : Event) → next_event es ≡ Some event → es ≡ entry ∷ fs → entry.event ≡ event
next_is entry es fs event next same = let e : Some entry.event ≡ Some event = sym (ap next_event same) ∙ next in cc

makes_in_row : (plan : Plan) (p : Progress) (event : Event) → ComesNext plan p event → p.made < length (entries_of plan p.row) → Makes plan p (record { row = p.row; made = suc p.made }) event
makes_in_row plan p event next lt =
    let es = entries_of plan p.row in
    let first = get_or es p.made no_entry in
    let rest = entries_from plan (suc p.row) (rows plan - p.row) in
    let was : left plan p ≡ first ∷ (drop (suc p.made) es ++ rest) = ap (λ (xs : List Entry). xs ++ rest) (drop-cons es p.made no_entry lt) in
    record {
      entry = first;
      is = next_is first (left plan p) (drop (suc p.made) es ++ rest) event next was;
      now_made = ap (λ (xs : List Entry). entries_from plan 1 (p.row - 1) ++ xs) (take-suc es p.made no_entry lt)
          ∙ sym (append_assoc (entries_from plan 1 (p.row - 1)) (take p.made es) (first ∷ []));
      was_left = was;
    }

makes_in_next : (plan : Plan) (p : Progress) (event : Event) → ComesNext plan p event → length (entries_of plan p.row) ≤ p.made
    → Makes plan p (record { row = next_row plan (suc p.row) (rows plan - p.row); made = 1 }) event
makes_in_next plan p event next le =
    let q = next_row plan (suc p.row) (rows plan - p.row) in
    let es = entries_of plan q in
    let first = get_or es 0 no_entry in
    let none : left plan p ≡ entries_from plan (suc p.row) (rows plan - p.row) = ap (λ (xs : List Entry). xs ++ entries_from plan (suc p.row) (rows plan - p.row)) (drop_of_length-le (entries_of plan p.row) le) in
    let s : Skips plan (suc p.row) (rows plan - p.row) q = skips plan (suc p.row) (rows plan - p.row) event (subst (λ (xs : List Entry). next_event xs ≡ Some event) none next) in
    let m : s.more ≡ rows plan - q = omega (arith, s.long, s.some) in
    let e : suc p.row - 1 ≡ p.row = omega arith in
    let was : left plan p ≡ first ∷ (drop 1 es ++ entries_from plan (suc q) (rows plan - q)) =
    none ∙ s.rest ∙ ap (λ (n : ℕ). es ++ entries_from plan (suc q) n) m ∙ ap (λ (xs : List Entry). xs ++ entries_from plan (suc q) (rows plan - q)) (drop-cons es 0 no_entry s.full) in
    record {
      entry = first;
      is = next_is first (left plan p) (drop 1 es ++ entries_from plan (suc q) (rows plan - q)) event next was;
      now_made = ap (λ (xs : List Entry). entries_from plan 1 (q - 1) ++ xs) (take-suc es 0 no_entry s.full)
          ∙ ap (λ (xs : List Entry). xs ++ first ∷ []) (s.above ∙ ap (entries_from plan 1) e ∙ sym (row_done plan p.row) ∙ ap (λ (xs : List Entry). entries_from plan 1 (p.row - 1) ++ xs) (sym (take_all p.made (entries_of plan p.row) le)));
      was_left = was;
    }

pub makes_next : (plan : Plan) (p : Progress) (event : Event) → ComesNext plan p event → Makes plan p (one_more plan p) event
unfolding one_more
makes_next plan p event next = ⊎_elim
    (λ (lt : ltb p.made (length (entries_of plan p.row)) ≡ true). rw lt (makes_in_row plan p event next (ltb-true p.made (length (entries_of plan p.row)) lt)))
    (λ (ge : ltb p.made (length (entries_of plan p.row)) ≡ false). rw ge (makes_in_next plan p event next (ltb-false p.made (length (entries_of plan p.row)) ge)))
    (cases_Bool (ltb p.made (length (entries_of plan p.row))))

-- the next entry leads to a position again
pub position_next : (plan : Plan) (p : Progress) (event : Event) → ComesNext plan p event → IsPosition plan p → IsPosition plan (one_more plan p)
unfolding one_more
position_next plan p event next at = ⊎_elim
    (λ (lt : ltb p.made (length (entries_of plan p.row)) ≡ true). rw lt (
    let h = ltb-true p.made (length (entries_of plan p.row)) lt in
    record { row_within = at.row_within; made_within = omega (arith, h) }))
    (λ (ge : ltb p.made (length (entries_of plan p.row)) ≡ false). rw ge (
    let le = ltb-false p.made (length (entries_of plan p.row)) ge in
    let none : left plan p ≡ entries_from plan (suc p.row) (rows plan - p.row) = ap (λ (xs : List Entry). xs ++ entries_from plan (suc p.row) (rows plan - p.row)) (drop_of_length-le (entries_of plan p.row) le) in
    let s : Skips plan (suc p.row) (rows plan - p.row) (next_row plan (suc p.row) (rows plan - p.row)) = skips plan (suc p.row) (rows plan - p.row) event (subst (λ (xs : List Entry). next_event xs ≡ Some event) none next) in
    let long = s.long in
    let full = s.full in
    let low = at.row_within in
    record { row_within = omega (arith, long, low); made_within = omega (arith, full) }))
    (cases_Bool (ltb p.made (length (entries_of plan p.row))))

-- ---- all entries

rows_split : (plan : Plan) (a n m : ℕ) → entries_from plan a (n + m) ≡ entries_from plan a n ++ entries_from plan (a + n) m
rows_split plan a zero m =
    let e : 0 + m ≡ m = omega arith in
    let f : a ≡ a + 0 = omega arith in
    ap (entries_from plan a) e ∙ ap (λ (k : ℕ). entries_from plan k m) f
rows_split plan a (suc n) m =
    let e : suc n + m ≡ suc (n + m) = omega arith in
    let f : suc a + n ≡ a + suc n = omega arith in
    ap (entries_from plan a) e
    ∙ ap (λ (es : List Entry). entries_of plan a ++ es) (rows_split plan (suc a) n m ∙ ap (λ (k : ℕ). entries_from plan (suc a) n ++ entries_from plan k m) f)
    ∙ sym (append_assoc (entries_of plan a) (entries_from plan (suc a) n) (entries_from plan (a + suc n) m))

-- the entries that were made and those that are left are all of them
pub made_and_left : (plan : Plan) (p : Progress) → p.row ≤ rows plan → made plan p ++ left plan p ≡ all_entries plan
made_and_left plan p low =
    let above = entries_from plan 1 (p.row - 1) in
    let es = entries_of plan p.row in
    let below = entries_from plan (suc p.row) (rows plan - p.row) in
    let e : p.row + (rows plan - p.row) ≡ rows plan = omega (arith, low) in
    let f : 1 + p.row ≡ suc p.row = omega arith in
    append_assoc above (take p.made es) (drop p.made es ++ below)
    ∙ ap (λ (xs : List Entry). above ++ xs) (sym (append_assoc (take p.made es) (drop p.made es) below) ∙ ap (λ (xs : List Entry). xs ++ below) (take-append-drop p.made es))
    ∙ sym (append_assoc above es below)
    ∙ ap (λ (xs : List Entry). xs ++ below) (row_done plan p.row)
    ∙ ap (λ (k : ℕ). entries_from plan 1 p.row ++ entries_from plan k (rows plan - p.row)) (sym f)
    ∙ sym (rows_split plan 1 p.row (rows plan - p.row))
    ∙ ap (entries_from plan 1) e

-- the next entry stands in a row
pub record NextAt (plan : Plan) (p : Progress) (event : Event) : Type 0 where
  pub row : ℕ
  pub at : ℕ
  pub within : at < length (entries_of plan row)
  pub is : (get_or (entries_of plan row) at no_entry).event ≡ event
  pub made_is : made plan p ≡ entries_from plan 1 (row - 1) ++ take at (entries_of plan row)
  pub then_is : left plan (one_more plan p) ≡ drop (suc at) (entries_of plan row) ++ entries_from plan (suc row) (rows plan - row)

next_in_row : (plan : Plan) (p : Progress) (event : Event) → ComesNext plan p event → ltb p.made (length (entries_of plan p.row)) ≡ true → NextAt plan p event
unfolding one_more makes_in_row
next_in_row plan p event next lt =
    let m = makes_in_row plan p event next (ltb-true p.made (length (entries_of plan p.row)) lt) in
    record {
      row = p.row;
      at = p.made;
      within = ltb-true p.made (length (entries_of plan p.row)) lt;
      is = m.is;
      made_is = refl;
      then_is = ap (λ (t : Bool). left plan (one_more_of plan p t)) lt;
    }

next_in_next : (plan : Plan) (p : Progress) (event : Event) → ComesNext plan p event → ltb p.made (length (entries_of plan p.row)) ≡ false → NextAt plan p event
unfolding one_more makes_in_next
next_in_next plan p event next ge =
    let le = ltb-false p.made (length (entries_of plan p.row)) ge in
    let q = next_row plan (suc p.row) (rows plan - p.row) in
    let none : left plan p ≡ entries_from plan (suc p.row) (rows plan - p.row) = ap (λ (xs : List Entry). xs ++ entries_from plan (suc p.row) (rows plan - p.row)) (drop_of_length-le (entries_of plan p.row) le) in
    let s : Skips plan (suc p.row) (rows plan - p.row) q = skips plan (suc p.row) (rows plan - p.row) event (subst (λ (xs : List Entry). next_event xs ≡ Some event) none next) in
    let m = makes_in_next plan p event next le in
    let e : suc p.row - 1 ≡ p.row = omega arith in
    record {
      row = q;
      at = 0;
      within = s.full;
      is = m.is;
      made_is = sym (append-nil (entries_from plan 1 (q - 1)) ∙ s.above ∙ ap (entries_from plan 1) e ∙ sym (row_done plan p.row) ∙ ap (λ (xs : List Entry). entries_from plan 1 (p.row - 1) ++ xs) (sym (take_all p.made (entries_of plan p.row) le)));
      then_is = ap (λ (t : Bool). left plan (one_more_of plan p t)) ge;
    }

pub next_at : (plan : Plan) (p : Progress) (event : Event) → ComesNext plan p event → NextAt plan p event
next_at plan p event next = ⊎_elim (next_in_row plan p event next) (next_in_next plan p event next) (cases_Bool (ltb p.made (length (entries_of plan p.row))))

-- what an entry of a row says is an event of its statement
pub event_map : (l i : ℕ) (es : List Event) (d : Entry) (e : Event) → i < length (map (λ x. let y : Entry = record { line = l; event = x } in y) es) → (get_or (map (λ x. let y : Entry = record { line = l; event = x } in y) es) i d).event ≡ get_or es i e
event_map l i [] d e lt = absurd (omega (arith, lt))
event_map l zero (x ∷ es) d e lt = refl
event_map l (suc i) (x ∷ es) d e lt = event_map l i es d e (omega (arith, lt))

pub length_map : (l : ℕ) (es : List Event) → length (map (λ x. let y : Entry = record { line = l; event = x } in y) es) ≡ length es
length_map l [] = refl
length_map l (x ∷ es) = ap suc (length_map l es)
