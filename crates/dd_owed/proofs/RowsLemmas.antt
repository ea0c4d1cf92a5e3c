-- The entries of rows, from one position on.
use Rattle.std.proofs.Common.{◌≡◌, ℕ, zero, suc, ◌+◌, ◌-◌, ◌<◌, true, false, List, [], ◌∷◌, ◌++◌, drop, Option, Some, None, is_some, refl, ap, ◌∙◌, arith}
use Rattle.std.specs.List.{slice_get}
use Rattle.std.proofs.lemmas.List.Elements.{All-get_or}
use Rattle.dd_blocks.specs.declared.plan.Plan.{Plan}
use Rattle.dd_blocks.specs.declared.statement_row.StatementRow.{StatementRow}
use Rattle.dd_blocks.specs.Numbered.{IsNumberIn}
use Rattle.dd_blocks.specs.WellFormed.{IsWellFormed, StatementNamesRows}
use Rattle.dd_machine.specs.declared.entry.Entry.{Entry}
use Rattle.dd_machine.specs.Owed.{entries_from, entries_of, first_with, left, next_entry, next_row}
use Rattle.dd_machine.specs.Words.{rows, statement}

-- the statement of a number names rows of the Plan
pub names_rows : (plan : Plan) (row : ℕ) → IsWellFormed plan → IsNumberIn plan.statements row → StatementNamesRows plan (statement plan row).what
names_rows plan zero well is = absurd (omega (arith, is.0))
names_rows plan (suc n) well is = All-get_or (λ (row : StatementRow). StatementNamesRows plan row.what) plan.statements n _ (omega (arith, is.1)) well.names.statements

-- a choice of the first that is there
abbrev pub or_else : Option Entry → Option Entry → Option Entry
or_else None other = other
or_else (Some entry) other = Some entry

pub next_of_left : (xs ys : List Entry) (i : ℕ) → next_entry (drop i xs ++ ys) ≡ or_else (slice_get xs i) (next_entry ys)
next_of_left [] ys zero = refl
next_of_left [] ys (suc i) = refl
next_of_left (x ∷ xs) ys zero = refl
next_of_left (x ∷ xs) ys (suc i) = next_of_left xs ys i

-- the rows from one on: the first entry of that row, or of those behind it
pub next_of_rows : (plan : Plan) (row n : ℕ) → next_entry (entries_from plan row (suc n)) ≡ or_else (slice_get (entries_of plan row) 0) (next_entry (entries_from plan (suc row) n))
next_of_rows plan row n = next_of_left (entries_of plan row) (entries_from plan (suc row) n) 0

-- one row of those left is passed
pub row_passed : (plan : Plan) (at count : ℕ) → at < count → slice_get (entries_of plan (at + 1)) 0 ≡ None
    → next_entry (entries_from plan (at + 1) (count - at)) ≡ next_entry (entries_from plan (at + 1 + 1) (count - (at + 1)))
row_passed plan at count lt none =
    let k : count - at ≡ suc (count - (at + 1)) = omega (arith, lt) in
    let next : suc (at + 1) ≡ at + 1 + 1 = omega arith in
    ap (λ (n : ℕ). next_entry (entries_from plan (at + 1) n)) k ∙ next_of_rows plan (at + 1) (count - (at + 1))
    ∙ ap (λ (o : Option Entry). or_else o (next_entry (entries_from plan (suc (at + 1)) (count - (at + 1))))) none
    ∙ ap (λ (r : ℕ). next_entry (entries_from plan r (count - (at + 1)))) next

pub row_found : (plan : Plan) (at count : ℕ) (entry : Entry) → at < count → slice_get (entries_of plan (at + 1)) 0 ≡ Some entry
    → next_entry (entries_from plan (at + 1) (count - at)) ≡ Some entry
row_found plan at count entry lt some =
    let k : count - at ≡ suc (count - (at + 1)) = omega (arith, lt) in
    ap (λ (n : ℕ). next_entry (entries_from plan (at + 1) n)) k ∙ next_of_rows plan (at + 1) (count - (at + 1))
    ∙ ap (λ (o : Option Entry). or_else o (next_entry (entries_from plan (suc (at + 1)) (count - (at + 1))))) some

-- the same for the row's number
with_first : (xs : List Entry) (row later : ℕ) → slice_get xs 0 ≡ None → first_with xs row later ≡ later
with_first [] row later none = refl
with_first (x ∷ xs) row later none = cc

with_some : (xs : List Entry) (row later : ℕ) → is_some (slice_get xs 0) ≡ true → first_with xs row later ≡ row
with_some [] row later some = cc
with_some (x ∷ xs) row later some = refl

pub is_none : (o : Option Entry) → is_some o ≡ false → o ≡ None
is_none None none = refl
is_none (Some entry) none = cc

pub number_passed : (plan : Plan) (at count : ℕ) → at < count → is_some (slice_get (entries_of plan (at + 1)) 0) ≡ false
    → next_row plan (at + 1) (count - at) ≡ next_row plan (at + 1 + 1) (count - (at + 1))
number_passed plan at count lt none =
    let k : count - at ≡ suc (count - (at + 1)) = omega (arith, lt) in
    let next : suc (at + 1) ≡ at + 1 + 1 = omega arith in
    ap (next_row plan (at + 1)) k
    ∙ with_first (entries_of plan (at + 1)) (at + 1) (next_row plan (suc (at + 1)) (count - (at + 1))) (is_none (slice_get (entries_of plan (at + 1)) 0) none)
    ∙ ap (λ (r : ℕ). next_row plan r (count - (at + 1))) next

pub number_found : (plan : Plan) (at count : ℕ) → at < count → is_some (slice_get (entries_of plan (at + 1)) 0) ≡ true
    → next_row plan (at + 1) (count - at) ≡ at + 1
number_found plan at count lt some =
    let k : count - at ≡ suc (count - (at + 1)) = omega (arith, lt) in
    ap (next_row plan (at + 1)) k ∙ with_some (entries_of plan (at + 1)) (at + 1) (next_row plan (suc (at + 1)) (count - (at + 1))) some

-- where a row has no entry at a place, what is left from there on is what the rows below it have
pub left_below : (plan : Plan) (row i : ℕ) → slice_get (entries_of plan row) i ≡ None
    → next_entry (left plan (record { row = row; made = i })) ≡ next_entry (entries_from plan (row + 1) (rows plan - row))
left_below plan row i none =
    let below = entries_from plan (suc row) (rows plan - row) in
    let next : suc row ≡ row + 1 = omega arith in
    next_of_left (entries_of plan row) below i ∙ ap (λ (o : Option Entry). or_else o (next_entry below)) none
    ∙ ap (λ (r : ℕ). next_entry (entries_from plan r (rows plan - row))) next
