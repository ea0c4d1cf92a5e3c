-- A name is given to an array, or ends.
use Rattle.std.proofs.Common.{◌≡◌, ◌≢◌, ℕ, ◌+◌, true, false, not, cond, List, [], ◌∷◌, ◌++◌, length, Option, None, Some, refl, ap, sym, ◌∙◌, ◌⊎◌, inl, inr, ⊎_elim, arith}
use Rattle.std.specs.List.{Contains, filter}
use Rattle.std.specs.Str.{bytes_eq}
use Rattle.std.proofs.lemmas.Bool.{cases_Bool, false≢true, not-true, not-false}
use Rattle.std.proofs.lemmas.List.Kept.{AllPairs-cons, AllPairs-filter}
use Rattle.std.proofs.lemmas.Slice.Eq.{bytes_eq-Decides}
use Rattle.dd_blocks.specs.declared.statement_row.StatementRow.{StatementRow}
use Rattle.dd_blocks.specs.Lives.{ends_name, gives_name, names_ended, names_given}
use Rattle.dd_check.specs.Above.{Above}
use Rattle.dd_check.specs.Sound.{HasNames}
use Rattle.dd_check.proofs.ElementsLemmas.{contained, contains_cases, contains_filter, contains_head, contains_tail, filter_contains, one_dropped}
use Rattle.dd_check.proofs.NamesKeptLemmas.{ended_push, given_push, names_same}

-- the names with one that stands for something else now
abbrev pub renamed : List ℕ → Option ℕ → (List ℕ → Option ℕ) → List ℕ → Option ℕ
renamed name array live other = cond (bytes_eq other name) array (live other)

pub renamed_here : (name : List ℕ) (array : Option ℕ) (live : List ℕ → Option ℕ) (other : List ℕ) → other ≡ name → renamed name array live other ≡ array
renamed_here name array live other same =
    let yes : bytes_eq other name ≡ true = (bytes_eq-Decides other name).1 same in rw yes refl

pub renamed_other : (name : List ℕ) (array : Option ℕ) (live : List ℕ → Option ℕ) (other : List ℕ) → other ≢ name → renamed name array live other ≡ live other
renamed_other name array live other differs = ⊎_elim
    (λ (yes : bytes_eq other name ≡ true). absurd (differs ((bytes_eq-Decides other name).0 yes)))
    (λ (no : bytes_eq other name ≡ false). rw no refl)
    (cases_Bool (bytes_eq other name))

pub same_name : (x y : List ℕ) → (x ≡ y) ⊎ (x ≢ y)
same_name x y = ⊎_elim
    (λ (yes : bytes_eq x y ≡ true). inl ((bytes_eq-Decides x y).0 yes))
    (λ (no : bytes_eq x y ≡ false). inr (λ same. false≢true (sym no ∙ (bytes_eq-Decides x y).1 same)))
    (cases_Bool (bytes_eq x y))

module _ (s after : Above) (row : StatementRow) (name : List ℕ) (is : after.plan.statements ≡ s.plan.statements ++ row ∷ []) where
  -- the array that gets the name
  pub names_added : (array : ℕ) → ((other : List ℕ) → after.live other ≡ renamed name (Some array) s.live other) → s.live name ≡ None → gives_name array row.what ≡ true → ends_name array row.what ≡ false → HasNames s array → HasNames after array
  names_added array live free gives ends has = record {
    names = name ∷ has.names;
    apart = AllPairs-cons (λ (x y : List ℕ). x ≢ y) name has.names
        (contained (λ (y : List ℕ). name ≢ y) has.names (λ y there same. let here : s.live y ≡ Some array = (has.exact y).1 there in let none : s.live y ≡ None = ap s.live (sym same) ∙ free in absurd (cc)))
        has.apart;
    exact = λ other. (
      (λ now. ⊎_elim
          (λ (same : other ≡ name). contains_head name other has.names (sym same))
          (λ (differs : other ≢ name). contains_tail name other has.names ((has.exact other).0 (sym (renamed_other name (Some array) s.live other differs) ∙ sym (live other) ∙ now)))
          (same_name other name)),
      (λ there. ⊎_elim
          (λ (same : other ≡ name). live other ∙ renamed_here name (Some array) s.live other same)
          (λ (differs : other ≢ name). ⊎_elim
          (λ (here : name ≡ other). absurd (differs (sym here)))
          (λ (rest : Contains has.names other). live other ∙ renamed_other name (Some array) s.live other differs ∙ (has.exact other).1 rest)
          (contains_cases name other has.names there))
          (same_name other name)),
    );
    count =
        let given : names_given array (s.plan.statements ++ row ∷ []) ≡ names_given array s.plan.statements + 1 = rw gives at (given_push array s.plan.statements row) in
        let ended : names_ended array (s.plan.statements ++ row ∷ []) ≡ names_ended array s.plan.statements + 0 = rw ends at (ended_push array s.plan.statements row) in
        rw is (omega (arith, given, ended, has.count));
  }

  -- the array that loses it
  pub names_dropped : (array : ℕ) → ((other : List ℕ) → after.live other ≡ renamed name None s.live other) → s.live name ≡ Some array → gives_name array row.what ≡ false → ends_name array row.what ≡ true → HasNames s array → HasNames after array
  names_dropped array live here gives ends has = record {
    names = filter (λ (y : List ℕ). not (bytes_eq y name)) has.names;
    apart = AllPairs-filter (λ (x y : List ℕ). x ≢ y) (λ (y : List ℕ). not (bytes_eq y name)) has.names has.apart;
    exact = λ other. (
      (λ now. ⊎_elim
          (λ (same : other ≡ name). let none : after.live other ≡ None = live other ∙ renamed_here name None s.live other same in absurd (cc))
          (λ (differs : other ≢ name). contains_filter (λ (y : List ℕ). not (bytes_eq y name)) has.names other ((has.exact other).0 (sym (renamed_other name None s.live other differs) ∙ sym (live other) ∙ now)) (kept other differs))
          (same_name other name)),
      (λ there.
          let rest : Contains has.names other × (not (bytes_eq other name) ≡ true) = filter_contains (λ (y : List ℕ). not (bytes_eq y name)) has.names other there in
          let differs : other ≢ name = λ same. false≢true (sym (not-true (bytes_eq other name) rest.1) ∙ (bytes_eq-Decides other name).1 same) in
          live other ∙ renamed_other name None s.live other differs ∙ (has.exact other).1 rest.0),
    );
    count =
        let given : names_given array (s.plan.statements ++ row ∷ []) ≡ names_given array s.plan.statements + 0 = rw gives at (given_push array s.plan.statements row) in
        let ended : names_ended array (s.plan.statements ++ row ∷ []) ≡ names_ended array s.plan.statements + 1 = rw ends at (ended_push array s.plan.statements row) in
        let less : length (filter (λ (y : List ℕ). not (bytes_eq y name)) has.names) + 1 ≡ length has.names = one_dropped (λ (y : List ℕ). not (bytes_eq y name)) name has.names
        (λ x no. (bytes_eq-Decides x name).0 (not-false (bytes_eq x name) no))
        (λ x same. let yes : bytes_eq x name ≡ true = (bytes_eq-Decides x name).1 same in rw yes refl)
        has.apart ((has.exact name).0 here) in
        rw is (omega (arith, given, ended, less, has.count));
  }
    where
      kept : (other : List ℕ) → other ≢ name → not (bytes_eq other name) ≡ true
      kept other differs = ⊎_elim
          (λ (yes : bytes_eq other name ≡ true). absurd (differs ((bytes_eq-Decides other name).0 yes)))
          (λ (no : bytes_eq other name ≡ false). rw no refl)
          (cases_Bool (bytes_eq other name))

  -- any other array
  pub names_apart : (array : ℕ) (to : Option ℕ) → ((other : List ℕ) → after.live other ≡ renamed name to s.live other) → s.live name ≢ Some array → to ≢ Some array → gives_name array row.what ≡ false → ends_name array row.what ≡ false → HasNames s array → HasNames after array
  names_apart array to live before now gives ends has = names_same s after row array is gives ends
      (λ other. (
        (λ is_now. ⊎_elim
            (λ (same : other ≡ name). absurd (now (sym (live other ∙ renamed_here name to s.live other same) ∙ is_now)))
            (λ (differs : other ≢ name). sym (live other ∙ renamed_other name to s.live other differs) ∙ is_now)
            (same_name other name)),
        (λ was. ⊎_elim
            (λ (same : other ≡ name). absurd (before (ap s.live (sym same) ∙ was)))
            (λ (differs : other ≢ name). live other ∙ renamed_other name to s.live other differs ∙ was)
            (same_name other name)),
      ))
      has
