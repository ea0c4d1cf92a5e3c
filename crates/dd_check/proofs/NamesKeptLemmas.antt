-- The names of arrays, where a statement is appended.
use Rattle.std.proofs.Common.{◌≡◌, ◌≢◌, ℕ, ◌+◌, true, false, cond, List, [], ◌∷◌, ◌++◌, Some, refl, arith}
use Rattle.std.proofs.lemmas.List.Sums.{sum_by_push}
use Rattle.dd_blocks.specs.declared.statement_row.StatementRow.{StatementRow}
use Rattle.dd_blocks.specs.declared.what.What.{What}
use Rattle.dd_blocks.specs.declared.what.What.TheVariants.{Drop}
use Rattle.dd_blocks.specs.Lives.{ends_name, gives_name, names_ended, names_given}
use Rattle.dd_check.specs.Above.{Above}
use Rattle.dd_check.specs.Sound.{AreSoundNames, HasNames}
use Rattle.dd_check.proofs.LivesLemmas.{live_push}
use Rattle.dd_check.proofs.PlainLemmas.{below}
use Rattle.dd_check.proofs.PushLemmas.{row_on}

-- what one more statement adds to the names that are given and ended
pub given_push : (array : ℕ) (rows : List StatementRow) (row : StatementRow) → names_given array (rows ++ row ∷ []) ≡ names_given array rows + cond (gives_name array row.what) 1 0
given_push array rows row = sum_by_push (λ (r : StatementRow). cond (gives_name array r.what) 1 0) rows row

pub ended_push : (array : ℕ) (rows : List StatementRow) (row : StatementRow) → names_ended array (rows ++ row ∷ []) ≡ names_ended array rows + cond (ends_name array row.what) 1 0
ended_push array rows row = sum_by_push (λ (r : StatementRow). cond (ends_name array r.what) 1 0) rows row

-- an array whose names stay
pub names_same : (s after : Above) (row : StatementRow) (array : ℕ) → after.plan.statements ≡ s.plan.statements ++ row ∷ [] → gives_name array row.what ≡ false → ends_name array row.what ≡ false → ((name : List ℕ) → (after.live name ≡ Some array → s.live name ≡ Some array) × (s.live name ≡ Some array → after.live name ≡ Some array)) → HasNames s array → HasNames after array
names_same s after row array is gives ends same has = record {
  names = has.names;
  apart = has.apart;
  exact = λ name. ((λ live. (has.exact name).0 ((same name).0 live)), (λ contains. (same name).1 ((has.exact name).1 contains)));
  count =
      let given : names_given array (s.plan.statements ++ row ∷ []) ≡ names_given array s.plan.statements + 0 = rw gives at (given_push array s.plan.statements row) in
      let ended : names_ended array (s.plan.statements ++ row ∷ []) ≡ names_ended array s.plan.statements + 0 = rw ends at (ended_push array s.plan.statements row) in
      rw is (omega (arith, given, ended, has.count));
}

-- no name changes
pub names_plain : (n : ℕ) (s : Above) (what : What) → ((array : ℕ) → gives_name array what ≡ false) → ((array : ℕ) → ends_name array what ≡ false) → ((array : ℕ) → what ≢ Drop array true) → AreSoundNames s → AreSoundNames (below n what s.live s)
names_plain n s what gives ends other sound = record {
  live = λ name array is. ((sound.live name array is).0, live_push s.plan.statements (row_on n what) array (sound.live name array is).1 (other array));
  names = λ array number. names_same s (below n what s.live s) (row_on n what) array refl (gives array) (ends array) (λ name. ((λ live. live), (λ live. live))) (sound.names array number);
}
