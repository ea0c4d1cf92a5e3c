-- The home of a block, by the last space to which its array was moved.
use Rattle.std.proofs.Common.{◌≡◌, ℕ, ◌+◌, ◌-◌, ◌<◌, List, [], ◌∷◌, ◌++◌, length, get_or, take, Option, None, Some, refl, ap, sym, ◌∙◌}
use Rattle.std.specs.List.{cons_option, last_or}
use Rattle.std.specs.Option.{option_or, unwrap_or}
use Rattle.std.proofs.lemmas.List.{append-nil, take_more}
use Rattle.std.proofs.lemmas.List.Elements.{filter_map-append}
use Rattle.dd_blocks.specs.declared.plan.Plan.{Plan}
use Rattle.dd_blocks.specs.declared.statement_row.StatementRow.{StatementRow}
use Rattle.dd_blocks.specs.Grids.{block_count}
use Rattle.dd_blocks.specs.Homes.{home_after, home_before, space_moved_to, spaces_of}
use Rattle.dd_blocks.specs.Numbered.{IsNumberIn, array_row, block_row}
use Rattle.dd_blocks.specs.WellFormed.{IsWellFormed}
use Rattle.dd_blocks.proofs.LayoutLemmas.{has_block}

last_push : (o : Option ℕ) (xs : List ℕ) (y : ℕ) → last_or o (xs ++ y ∷ []) ≡ Some y
last_push o [] y = refl
last_push o (x ∷ xs) y = last_push (Some x) xs y

last_maybe : (xs : List ℕ) (o : Option ℕ) → last_or None (xs ++ cons_option o []) ≡ option_or o (last_or None xs)
last_maybe xs None = ap (λ (ys : List ℕ). last_or None ys) (append-nil xs)
last_maybe xs (Some y) = last_push None xs y

-- one row more
pub last_more : (moved : ℕ) (rows : List StatementRow) (i : ℕ) (d : StatementRow) → i < length rows
    → last_or None (spaces_of moved (take (i + 1) rows)) ≡ option_or (space_moved_to moved (get_or rows i d).what) (last_or None (spaces_of moved (take i rows)))
last_more moved rows i d lt =
    ap (λ (rs : List StatementRow). last_or None (spaces_of moved rs)) (take_more rows i d lt)
    ∙ ap (λ (xs : List ℕ). last_or None xs) (filter_map-append (λ (r : StatementRow). space_moved_to moved r.what) (take i rows) (get_or rows i d ∷ []))
    ∙ last_maybe (spaces_of moved (take i rows)) (space_moved_to moved (get_or rows i d).what)

pub home_is : (plan : Plan) (row array j : ℕ) → IsWellFormed plan → IsNumberIn plan.arrays array → j < block_count (array_row plan array).grid
    → let block = (array_row plan array).first_block + j in unwrap_or (last_or None (spaces_of array (take (row - 1) plan.statements))) (block_row plan block).home ≡ home_before plan row block
home_is plan row array j well is lt =
    let block = (array_row plan array).first_block + j in
    ap (λ (n : ℕ). home_after n (block_row plan block).home (take (row - 1) plan.statements)) (sym (has_block plan well.layout array j is lt).array)
