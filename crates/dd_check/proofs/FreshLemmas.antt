-- An array that is new: no statement above speaks of it.
use Rattle.std.proofs.Common.{◌≡◌, ◌≢◌, ℕ, suc, ◌+◌, ◌<◌, ◌≤◌, Bool, true, false, nat_eq, cond, List, [], ◌∷◌, ◌++◌, length, get_or, take, Option, None, refl, ap, sym, subst, ◌∙◌, ⊎_elim, arith}
use Rattle.std.specs.List.{All, Any, count_by, filter_map, flat_map, range_with_len}
use Rattle.std.proofs.lemmas.Bool.{cases_lt, ne_eqb}
use Rattle.std.proofs.lemmas.List.{append-nil, get_or_push, length-append, take-append-le, take_at}
use Rattle.std.proofs.lemmas.List.Concat.{flat_map-append}
use Rattle.std.proofs.lemmas.List.Elements.{Contains-append_right, filter_map-append}
use Rattle.std.proofs.lemmas.List.FromFn.{get_or-range_with_len, length-range_with_len}
use Rattle.std.proofs.lemmas.List.Sums.{sum_by-cons}
use Rattle.dd_views.proofs.ListsLemmas.{range_with_len_more}
use Rattle.dd_place.proofs.NumberedLemmas.{numbered_next}
use Rattle.dd_blocks.specs.declared.array_row.ArrayRow.{ArrayRow}
use Rattle.dd_blocks.specs.declared.block_row.BlockRow.{BlockRow}
use Rattle.dd_blocks.specs.declared.plan.Plan.{Plan}
use Rattle.dd_blocks.specs.declared.statement_row.StatementRow.{StatementRow}
use Rattle.dd_blocks.specs.declared.what.What.{What}
use Rattle.dd_blocks.specs.declared.what.What.TheVariants.{Put, Print, Sum, Moved, Same, Drop, MoveTo, Region}
use Rattle.dd_blocks.specs.Homes.{space_moved_to, spaces_of}
use Rattle.dd_blocks.specs.Layout.{StandsBehind, blocks_of_array, blocks_of_arrays}
use Rattle.dd_blocks.specs.Lives.{IsLive, arrays_put, ends_name, gives_name, names_ended, names_given}
use Rattle.dd_blocks.specs.Numbered.{IsNumberIn, no_array, numbered}
use Rattle.dd_blocks.specs.WellFormed.{StatementNamesRows}
use Rattle.dd_check.specs.Above.{Above}
use Rattle.dd_check.specs.Sound.{AreSoundNames, HasNames}
use Rattle.dd_check.proofs.ElementsLemmas.{contains_none}
use Rattle.dd_check.proofs.RowsLemmas.{All_any, Any_push_cases, numbered_kept}

count_none : {X : Type 0} (p : X → Bool) (xs : List X) → All (λ x. p x ≡ false) xs → count_by p xs ≡ 0
count_none p [] all = refl
count_none p (x ∷ xs) all =
    let first : p x ≡ false = all 0 x (omega arith) in
    let here : ◌≡◌ {A = ℕ} (cond (p x) 1 0) 0 = rw first refl in
    let rest : count_by p xs ≡ 0 = count_none p xs (λ k d lt. all (suc k) d (omega arith)) in
    omega (arith, sum_by-cons (λ y. cond (p y) 1 0) x xs, here, rest)

filter_map_none : {X Y : Type 0} (h : X → Option Y) (xs : List X) → All (λ x. h x ≡ None) xs → filter_map h xs ≡ []
filter_map_none h [] all = refl
filter_map_none h (x ∷ xs) all =
    let first : h x ≡ None = all 0 x (omega arith) in
    rw first (filter_map_none h xs (λ k d lt. all (suc k) d (omega arith)))

pub flat_map_agree : {X Y : Type 0} (f g : X → List Y) (xs : List X) → All (λ x. f x ≡ g x) xs → flat_map f xs ≡ flat_map g xs
flat_map_agree f g [] all = refl
flat_map_agree f g (x ∷ xs) all =
    let first : f x ≡ g x = all 0 x (omega arith) in
    let rest : flat_map f xs ≡ flat_map g xs = flat_map_agree f g xs (λ k d lt. all (suc k) d (omega arith)) in
    cc

module _ (plan : Plan) where
  abbrev pub fresh : ℕ
  fresh = suc (length plan.arrays)

  not_fresh : (array : ℕ) → IsNumberIn plan.arrays array → array ≢ fresh
  not_fresh array number same = absurd (omega arith)

  never_given : (what : What) → StatementNamesRows plan what → gives_name fresh what ≡ false
  never_given (Put array) names = ne_eqb array fresh (not_fresh array names)
  never_given (Print array) names = refl
  never_given (Sum array name) names = refl
  never_given Moved names = refl
  never_given (Same array) names = ne_eqb array fresh (not_fresh array names)
  never_given (Drop array last) names = refl
  never_given (MoveTo array space) names = refl
  never_given (Region region) names = refl

  never_ended : (what : What) → StatementNamesRows plan what → ends_name fresh what ≡ false
  never_ended (Put array) names = refl
  never_ended (Print array) names = refl
  never_ended (Sum array name) names = refl
  never_ended Moved names = refl
  never_ended (Same array) names = refl
  never_ended (Drop array last) names = ne_eqb array fresh (not_fresh array names)
  never_ended (MoveTo array space) names = refl
  never_ended (Region region) names = refl

  never_moved : (what : What) → StatementNamesRows plan what → space_moved_to fresh what ≡ None
  never_moved (Put array) names = refl
  never_moved (Print array) names = refl
  never_moved (Sum array name) names = refl
  never_moved Moved names = refl
  never_moved (Same array) names = refl
  never_moved (Drop array last) names = refl
  never_moved (MoveTo array space) names = let other : nat_eq array fresh ≡ false = ne_eqb array fresh (not_fresh array names.0) in rw other refl
  never_moved (Region region) names = refl

  module _ (names : All (λ (r : StatementRow). StatementNamesRows plan r.what) plan.statements) where
    no_moves : spaces_of fresh plan.statements ≡ []
    no_moves = filter_map_none (λ (r : StatementRow). space_moved_to fresh r.what) plan.statements (λ k d lt. never_moved (get_or plan.statements k d).what (names k d lt))

    none_given : names_given fresh plan.statements ≡ 0
    none_given = count_none (λ (r : StatementRow). gives_name fresh r.what) plan.statements (λ k d lt. never_given (get_or plan.statements k d).what (names k d lt))

    none_ended : names_ended fresh plan.statements ≡ 0
    none_ended = count_none (λ (r : StatementRow). ends_name fresh r.what) plan.statements (λ k d lt. never_ended (get_or plan.statements k d).what (names k d lt))

    not_dropped : ¬ Any (λ (r : StatementRow). r.what ≡ Drop fresh true) plan.statements
    not_dropped any =
        let number : StatementNamesRows plan (any.1).what = All_any (λ (r : StatementRow). StatementNamesRows plan r.what) (λ (r : StatementRow). r.what ≡ Drop fresh true) plan.statements names any in
        let same : StatementNamesRows plan (Drop fresh true) = subst (StatementNamesRows plan) any.4 number in
        not_fresh fresh same refl

    -- the statement that makes it
    pub live_new : (line : ℕ) → IsLive (plan.statements ++ record { line = line; what = Put fresh } ∷ []) fresh
    live_new line = record {
      made = rw filter_map-append (Contains-append_right (arrays_put plan.statements) (fresh ∷ []) fresh (0, omega arith, refl));
      kept = λ any. ⊎_elim not_dropped (λ (same : Put fresh ≡ Drop fresh true). absurd (cc)) (Any_push_cases (λ (r : StatementRow). r.what ≡ Drop fresh true) plan.statements (record { line = line; what = Put fresh }) any);
    }

    pub moves_new : (line : ℕ) → spaces_of fresh (plan.statements ++ record { line = line; what = Put fresh } ∷ []) ≡ []
    moves_new line = rw filter_map-append (rw no_moves refl)

  -- it has no name so far
  pub no_names : (s : Above) → s.plan ≡ plan → AreSoundNames s → All (λ (r : StatementRow). StatementNamesRows plan r.what) plan.statements → HasNames s fresh
  no_names s is sound names = record {
    names = [];
    apart = λ i j d lt within. absurd (omega arith);
    exact = λ name. (
      (λ live. let number : IsNumberIn plan.arrays fresh = subst (λ (p : Plan). IsNumberIn p.arrays fresh) is (sound.live name fresh live).0 in absurd (omega (arith, number.1))),
      (λ there. absurd (contains_none name there)),
    );
    count = subst (λ (p : Plan). names_ended fresh p.statements + 0 ≡ names_given fresh p.statements) (sym is) (omega (arith, none_given names, none_ended names));
  }

-- arrays with one more, which stands behind them
module _ (arrays : List ArrayRow) (row : ArrayRow) where
  last_number : numbered no_array (arrays ++ row ∷ []) (suc (length arrays)) ≡ row
  last_number = get_or_push arrays row no_array (length arrays) refl

  pub stands_more : ((i : ℕ) → i < length arrays → StandsBehind (take i arrays) (numbered no_array arrays (i + 1))) → StandsBehind arrays row → (i : ℕ) → i < length (arrays ++ row ∷ []) → StandsBehind (take i (arrays ++ row ∷ [])) (numbered no_array (arrays ++ row ∷ []) (i + 1))
  stands_more old new i lt =
      let long : length (arrays ++ row ∷ []) ≡ length arrays + 1 = length-append arrays (row ∷ []) in
      ⊎_elim
      (λ (within : i < length arrays).
      let rows : take i (arrays ++ row ∷ []) ≡ take i arrays = take-append-le i arrays (row ∷ []) (omega arith) in
      let here : numbered no_array (arrays ++ row ∷ []) (i + 1) ≡ numbered no_array arrays (i + 1) = numbered_kept no_array arrays (row ∷ []) (i + 1) (omega arith, omega arith) in
      rw rows (rw here (old i within)))
      (λ (beyond : length arrays ≤ i).
      let last : length arrays ≡ i = omega arith in
      let rows : take i (arrays ++ row ∷ []) ≡ arrays = take_at arrays (row ∷ []) i last in
      let here : numbered no_array (arrays ++ row ∷ []) (i + 1) ≡ row = numbered_next no_array (arrays ++ row ∷ []) i ∙ get_or_push arrays row no_array i last in
      rw rows (rw here new))
      (cases_lt i (length arrays))

  pub range_more : range_with_len 1 (length (arrays ++ row ∷ [])) ≡ range_with_len 1 (length arrays) ++ suc (length arrays) ∷ []
  range_more =
      let long : length (arrays ++ row ∷ []) ≡ suc (length arrays) = length-append arrays (row ∷ []) ∙ (let e : length arrays + 1 ≡ suc (length arrays) = omega arith in e) in
      ap (range_with_len 1) long ∙ range_with_len_more 1 (length arrays) ∙ ap (λ (x : ℕ). range_with_len 1 (length arrays) ++ x ∷ []) (omega arith)

  pub blocks_more : (spaces : ℕ) → blocks_of_arrays spaces arrays ++ blocks_of_array spaces (suc (length arrays)) row ≡ blocks_of_arrays spaces (arrays ++ row ∷ [])
  blocks_more spaces =
      let each : All (λ m. blocks_of_array spaces m (numbered no_array (arrays ++ row ∷ []) m) ≡ blocks_of_array spaces m (numbered no_array arrays m)) (range_with_len 1 (length arrays)) = λ k d lt.
      let within : k < length arrays = omega (arith, length-range_with_len 1 (length arrays)) in
      let is : get_or (range_with_len 1 (length arrays)) k d ≡ 1 + k = get_or-range_with_len 1 (length arrays) k d within in
      ap (blocks_of_array spaces (get_or (range_with_len 1 (length arrays)) k d)) (numbered_kept no_array arrays (row ∷ []) (get_or (range_with_len 1 (length arrays)) k d) (omega (arith, is), omega (arith, is))) in
      let old : flat_map (λ m. blocks_of_array spaces m (numbered no_array (arrays ++ row ∷ []) m)) (range_with_len 1 (length arrays)) ≡ blocks_of_arrays spaces arrays = flat_map_agree (λ m. blocks_of_array spaces m (numbered no_array (arrays ++ row ∷ []) m)) (λ m. blocks_of_array spaces m (numbered no_array arrays m)) (range_with_len 1 (length arrays)) each in
      let new : flat_map (λ m. blocks_of_array spaces m (numbered no_array (arrays ++ row ∷ []) m)) (suc (length arrays) ∷ []) ≡ blocks_of_array spaces (suc (length arrays)) row = append-nil _ ∙ ap (blocks_of_array spaces (suc (length arrays))) last_number in
      sym (ap (flat_map (λ m. blocks_of_array spaces m (numbered no_array (arrays ++ row ∷ []) m))) range_more
      ∙ flat_map-append (λ m. blocks_of_array spaces m (numbered no_array (arrays ++ row ∷ []) m)) (range_with_len 1 (length arrays)) (suc (length arrays) ∷ [])
      ∙ ap (λ (bs : List BlockRow). bs ++ flat_map (λ m. blocks_of_array spaces m (numbered no_array (arrays ++ row ∷ []) m)) (suc (length arrays) ∷ [])) old
      ∙ ap (λ (bs : List BlockRow). blocks_of_arrays spaces arrays ++ bs) new)
