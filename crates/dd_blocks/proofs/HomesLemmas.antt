-- The home of a block, row by row.
use Rattle.std.proofs.Common.{◌≡◌, ℕ, ◌+◌, ◌<◌, List, [], ◌∷◌, ◌++◌, length, get_or, take, Option, None, Some, refl, ap, ◌∙◌}
use Rattle.std.specs.List.{cons_option, last_or}
use Rattle.std.specs.Option.{unwrap_or}
use Rattle.std.proofs.lemmas.List.{append-nil, take_more}
use Rattle.std.proofs.lemmas.List.Elements.{filter_map-append}
use Rattle.dd_blocks.specs.declared.statement_row.StatementRow.{StatementRow}
use Rattle.dd_blocks.specs.Homes.{home_after, space_moved_to, spaces_of}

last_push : (o : Option ℕ) (xs : List ℕ) (y : ℕ) → last_or o (xs ++ y ∷ []) ≡ Some y
last_push o [] y = refl
last_push o (x ∷ xs) y = last_push (Some x) xs y

-- the last of some spaces and maybe one more
last_maybe : (before : ℕ) (xs : List ℕ) (o : Option ℕ) → unwrap_or (last_or None (xs ++ cons_option o [])) before ≡ unwrap_or o (unwrap_or (last_or None xs) before)
last_maybe before xs None = ap (λ (ys : List ℕ). unwrap_or (last_or None ys) before) (append-nil xs)
last_maybe before xs (Some y) = ap (λ (o : Option ℕ). unwrap_or o before) (last_push None xs y)

-- the home after one row more
pub home_push : (moved before : ℕ) (rows : List StatementRow) (row : StatementRow) → home_after moved before (rows ++ row ∷ []) ≡ unwrap_or (space_moved_to moved row.what) (home_after moved before rows)
home_push moved before rows row =
    ap (λ (xs : List ℕ). unwrap_or (last_or None xs) before) (filter_map-append (λ (r : StatementRow). space_moved_to moved r.what) rows (row ∷ []))
    ∙ last_maybe before (spaces_of moved rows) (space_moved_to moved row.what)

pub home_more : (moved before : ℕ) (rows : List StatementRow) (i : ℕ) (d : StatementRow) → i < length rows → home_after moved before (take (i + 1) rows) ≡ unwrap_or (space_moved_to moved (get_or rows i d).what) (home_after moved before (take i rows))
home_more moved before rows i d lt = ap (home_after moved before) (take_more rows i d lt) ∙ home_push moved before (take i rows) (get_or rows i d)
