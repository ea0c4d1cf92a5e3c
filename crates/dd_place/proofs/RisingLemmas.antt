-- Rows that run the regions one after the other.
use Rattle.std.proofs.Common.{◌≡◌, ℕ, zero, suc, ◌+◌, ◌<◌, ◌≤◌, List, [], ◌∷◌, length, get_or, Option, None, Some, refl, arith}
use Rattle.std.specs.List.{All, AllPairs, cons_option, range_with_len}
use Rattle.std.proofs.lemmas.List.Elements.{All-cons, All-nil, All-weaker}
use Rattle.dd_blocks.specs.declared.statement_row.StatementRow.{StatementRow}
use Rattle.dd_blocks.specs.Lives.{region_run, regions_run}
use Rattle.dd_place.specs.Premises.{IsBelow}

-- a region that the row runs has at least the number
abbrev pub AtLeast : ℕ → StatementRow → Type 0
AtLeast a row = (b : ℕ) → region_run row.what ≡ Some b → a ≤ b

-- the rows run regions from a number on, each with a higher one than those above it
pub record Rise (a : ℕ) (rows : List StatementRow) : Type 0 where
  pub least : All (AtLeast a) rows
  pub pairs : AllPairs IsBelow rows

pairs_cons : (row : StatementRow) (rows : List StatementRow) → All (IsBelow row) rows → AllPairs IsBelow rows → AllPairs IsBelow (row ∷ rows)
pairs_cons row rows first rest = go
  where
    go : (i j : ℕ) (d : StatementRow) → i < j → j < suc (length rows) → IsBelow (get_or (row ∷ rows) i d) (get_or (row ∷ rows) j d)
    go zero zero d lt within = absurd (omega arith)
    go zero (suc j) d lt within = first j d (omega arith)
    go (suc i) zero d lt within = absurd (omega arith)
    go (suc i) (suc j) d lt within = rest i j d (omega arith) (omega arith)

none_first : (a : ℕ) (row : StatementRow) (rows : List StatementRow) → region_run row.what ≡ None → Rise a rows → Rise a (row ∷ rows)
none_first a row rows none rest = record {
  least = All-cons (AtLeast a) row rows (λ b is. absurd (cc)) rest.least;
  pairs = pairs_cons row rows (λ k d lt p q is_p is_q. absurd (cc)) rest.pairs;
}

some_first : (a : ℕ) (row : StatementRow) (rows : List StatementRow) → region_run row.what ≡ Some a → Rise (a + 1) rows → Rise a (row ∷ rows)
some_first a row rows some rest = record {
  least = All-cons (AtLeast a) row rows (λ b is. let e : a ≡ b = cc in omega arith) (All-weaker (AtLeast (a + 1)) (AtLeast a) (λ r ge b is. omega (arith, ge b is)) rows rest.least);
  pairs = pairs_cons row rows (All-weaker (AtLeast (a + 1)) (IsBelow row) (λ r ge p q is_p is_q. let e : a ≡ p = cc in omega (arith, ge q is_q)) rows rest.least) rest.pairs;
}

rise_first : (a n : ℕ) (row : StatementRow) (rows : List StatementRow) (run : Option ℕ) → ((b m : ℕ) → regions_run rows ≡ range_with_len b m → Rise b rows) → region_run row.what ≡ run → cons_option run (regions_run rows) ≡ range_with_len a n → Rise a (row ∷ rows)
rise_first a n row rows None rest is same = none_first a row rows is (rest a n same)
rise_first a zero row rows (Some r) rest is same = absurd (cc)
rise_first a (suc n) row rows (Some r) rest is same =
    let e : r ≡ a = cc in
    some_first a row rows (cc) (rest (a + 1) n (cc))

pub rise : (rows : List StatementRow) (a n : ℕ) → regions_run rows ≡ range_with_len a n → Rise a rows
rise [] a n same = record { least = All-nil (AtLeast a); pairs = λ i j d lt within. absurd (omega arith) }
rise (row ∷ rows) a n same = rise_first a n row rows (region_run row.what) (rise rows) refl same
