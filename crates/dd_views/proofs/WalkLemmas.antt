-- A view walked column after column: those that are done, the one at hand, and those that are left.
use Rattle.std.proofs.Common.{◌≡◌, ℕ, suc, ◌+◌, ◌<◌, ◌≤◌, [], ◌∷◌, ◌++◌, length, take, drop, get_or, refl, sym, ap, ◌∙◌, arith}
use Rattle.std.specs.List.{flat_map, sum_by}
use Rattle.std.proofs.Math.ListN.{drop_of_length-le}
use Rattle.std.proofs.Math.Seq.{drop-cons, take-suc}
use Rattle.std.proofs.lemmas.List.{append-nil, take-append-drop}
use Rattle.std.proofs.lemmas.List.Concat.{flat_map-append, length-flat_map}
use Rattle.std.proofs.lemmas.List.FromFn.{get_or-range_with_len, length-range_with_len}
use Rattle.dd_views.specs.declared.view.View.{View}
use Rattle.dd_views.specs.IndexList.{column_list, columns_before, columns_from, index_list, places}

place_at : (n j : ℕ) → j < n → get_or (places n) j 0 ≡ j + 1
place_at n j lt = get_or-range_with_len 1 n j 0 lt ∙ omega arith

next : (j : ℕ) → j + 1 ≡ suc j
next j = omega arith

long : (v : View) (j : ℕ) → j < v.cols.count → j < length (places v.cols.count)
long v j lt = omega (arith, length-range_with_len 1 v.cols.count)

-- done and left, wherever the walk is
pub index_list_cut : (v : View) (j : ℕ) → index_list v ≡ columns_before v j ++ columns_from v j
index_list_cut v j = ap (flat_map (column_list v)) (sym (take-append-drop j (places v.cols.count))) ∙ flat_map-append (column_list v) (take j (places v.cols.count)) (drop j (places v.cols.count))

-- one more column is done
pub column_done : (v : View) (j : ℕ) → j < v.cols.count → columns_before v (j + 1) ≡ columns_before v j ++ column_list v (j + 1)
column_done v j lt =
    let cut = take-suc (places v.cols.count) j 0 (long v j lt) ∙ ap (λ (k : ℕ). take j (places v.cols.count) ++ k ∷ []) (place_at v.cols.count j lt) in
    ap (columns_before v) (next j)
    ∙ ap (flat_map (column_list v)) cut
    ∙ flat_map-append (column_list v) (take j (places v.cols.count)) ((j + 1) ∷ [])
    ∙ ap (λ xs. columns_before v j ++ xs) (append-nil (column_list v (j + 1)))

-- one less is left
pub column_left : (v : View) (j : ℕ) → j < v.cols.count → columns_from v j ≡ column_list v (j + 1) ++ columns_from v (j + 1)
column_left v j lt =
    let cut = drop-cons (places v.cols.count) j 0 (long v j lt) ∙ ap (λ (k : ℕ). k ∷ drop (suc j) (places v.cols.count)) (place_at v.cols.count j lt) in
    ap (flat_map (column_list v)) cut ∙ ap (λ (k : ℕ). column_list v (j + 1) ++ columns_from v k) (sym (next j))

pub index_list_at : (v : View) (j : ℕ) → j < v.cols.count → index_list v ≡ columns_before v j ++ column_list v (j + 1) ++ columns_from v (j + 1)
index_list_at v j lt = index_list_cut v (j + 1) ∙ ap (λ xs. xs ++ columns_from v (j + 1)) (column_done v j lt)

pub none_done : (v : View) → columns_before v 0 ≡ []
none_done v = refl

pub none_left : (v : View) (j : ℕ) → v.cols.count ≤ j → columns_from v j ≡ []
none_left v j le = ap (flat_map (column_list v)) (drop_of_length-le (places v.cols.count) (omega (arith, le, length-range_with_len 1 v.cols.count)))

pub all_done : (v : View) (j : ℕ) → v.cols.count ≤ j → columns_before v j ≡ index_list v
all_done v j le = sym (index_list_cut v j ∙ ap (λ xs. columns_before v j ++ xs) (none_left v j le) ∙ append-nil (columns_before v j))

-- a view has as many elements as its columns together
pub columns_sum : (v : View) → length (index_list v) ≡ sum_by (λ j. length (column_list v j)) (places v.cols.count)
columns_sum v = length-flat_map (column_list v) (places v.cols.count)
