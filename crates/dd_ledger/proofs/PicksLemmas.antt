-- The first Pick of a journal, and whether there is one.
use Rattle.std.proofs.Common.{◌≡◌, ℕ, zero, suc, Bool, true, false, ◌||◌, cond, List, [], ◌∷◌, ◌++◌, length, take, option_map, Option, None, Some, refl, sym, ap, ◌∙◌, arith}
use Rattle.std.specs.Prelude.{is_some}
use Rattle.dd_ledger.specs.Picks.{first_pick, is_before, or_first}
use Rattle.dd_machine.specs.declared.entry.Entry.{Entry}
use Rattle.dd_machine.specs.Runs.{has_pick, is_pick}

-- a place moves on by one where one more entry stands before it
moved_on : (first : Option ℕ) (before : ℕ) (picks : Bool) → option_map suc (or_first first before picks) ≡ or_first (option_map suc first) (suc before) picks
moved_on None before false = refl
moved_on None before true = refl
moved_on (Some first) before picks = refl

head_first : (head : Bool) (first : Option ℕ) (before : ℕ) (picks : Bool)
    → cond head (Some 0) (option_map suc (or_first first before picks)) ≡ or_first (cond head (Some 0) (option_map suc first)) (suc before) picks
head_first true first before picks = refl
head_first false first before picks = moved_on first before picks

-- the first Pick after one entry more
pub first_one : (old : List Entry) (entry : Entry) → first_pick (old ++ entry ∷ []) ≡ or_first (first_pick old) (length old) (is_pick entry.event)
unfolding first_pick
first_one [] entry = refl
first_one (e ∷ old) entry =
    ap (λ (f : Option ℕ). cond (is_pick e.event) (Some 0) (option_map suc f)) (first_one old entry) ∙ head_first (is_pick e.event) (first_pick old) (length old) (is_pick entry.event)

-- an entry that is no Pick leaves it
pub first_kept : (first : Option ℕ) (before : ℕ) (picks : Bool) → picks ≡ false → first ≡ or_first first before picks
first_kept None before picks not = sym (ap (λ (p : Bool). cond p (Some before) None) not)
first_kept (Some first) before picks not = refl

-- it is there exactly where some entry is a Pick
head_any : (head : Bool) (first : Option ℕ) → is_some (cond head (Some 0) (option_map suc first)) ≡ (head || is_some first)
head_any true first = refl
head_any false None = refl
head_any false (Some first) = refl

pub has_any : (entries : List Entry) → is_some (first_pick entries) ≡ has_pick entries
unfolding first_pick has_pick
has_any [] = refl
has_any (e ∷ entries) = head_any (is_pick e.event) (first_pick entries) ∙ ap (λ (b : Bool). is_pick e.event || b) (has_any entries)

-- and so among so many
head_before : (head : Bool) (first : Option ℕ) (number : ℕ) → is_before (cond head (Some 0) (option_map suc first)) (suc number) ≡ (head || is_before first number)
head_before true first number = grind arith
head_before false None number = refl
head_before false (Some first) number = grind arith

none_before : (first : Option ℕ) → is_before first 0 ≡ false
none_before None = refl
none_before (Some first) = grind arith

pub has_before : (entries : List Entry) (number : ℕ) → is_before (first_pick entries) number ≡ has_pick (take number entries)
unfolding first_pick has_pick
has_before [] zero = refl
has_before [] (suc number) = refl
has_before (e ∷ entries) zero = none_before (cond (is_pick e.event) (Some 0) (option_map suc (first_pick entries)))
has_before (e ∷ entries) (suc number) = head_before (is_pick e.event) (first_pick entries) number ∙ ap (λ (b : Bool). is_pick e.event || b) (has_before entries number)
