-- Rows that run regions one after the other, from the front on: the regions so far go up to a number.
use Rattle.std.proofs.Common.{◌≡◌, ℕ, ◌+◌, ◌<◌, ◌≤◌, List, length, get_or, take, None, Some, sym, arith}
use Rattle.std.specs.List.{All, AllPairs}
use Rattle.std.proofs.lemmas.List.Elements.{All-push, All-weaker}
use Rattle.std.proofs.lemmas.List.{take_more}
use Rattle.std.proofs.lemmas.List.Quantifiers.{all_pairs_push}
use Rattle.dd_blocks.specs.declared.statement_row.StatementRow.{StatementRow}
use Rattle.dd_blocks.specs.Lives.{region_run}
use Rattle.dd_place.specs.Premises.{IsBelow}

abbrev pub AtMost : ℕ → StatementRow → Type 0
AtMost a row = (b : ℕ) → region_run row.what ≡ Some b → b ≤ a

pub record RiseTo (a : ℕ) (rows : List StatementRow) : Type 0 where
  pub most : All (AtMost a) rows
  pub pairs : AllPairs IsBelow rows

pub none_more : (a : ℕ) (rows : List StatementRow) (i : ℕ) (row : StatementRow) → i < length rows → row ≡ get_or rows i row → region_run row.what ≡ None → RiseTo a (take i rows) → RiseTo a (take (i + 1) rows)
none_more a rows i row lt here none so_far = rw (take_more rows i row lt, sym here) (record {
  most = All-push (AtMost a) (take i rows) row so_far.most (λ b is. absurd (cc));
  pairs = all_pairs_push IsBelow (take i rows) row so_far.pairs (λ k d within p q is_p is_q. absurd (cc));
})

pub some_more : (a run : ℕ) (rows : List StatementRow) (i : ℕ) (row : StatementRow) → i < length rows → row ≡ get_or rows i row → region_run row.what ≡ Some run → a < run → RiseTo a (take i rows) → RiseTo run (take (i + 1) rows)
some_more a run rows i row lt here some higher so_far = rw (take_more rows i row lt, sym here) (record {
  most = All-push (AtMost run) (take i rows) row (All-weaker (AtMost a) (AtMost run) (λ r le b is. omega (arith, le b is)) (take i rows) so_far.most) (λ b is. let e : b ≡ run = cc in omega arith);
  pairs = all_pairs_push IsBelow (take i rows) row so_far.pairs (λ k d within p q is_p is_q. let e : q ≡ run = cc in omega (arith, so_far.most k d within p is_p));
})
