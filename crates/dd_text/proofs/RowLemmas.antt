-- One more number on a line.
use Rattle.std.proofs.Common.{◌≡◌, ℕ, suc, ◌+◌, ◌*◌, cond, eqb, ℤ, pos, List, [], ◌∷◌, ◌++◌, length, map, refl, sym, ap, ◌∙◌, arith}
use Rattle.std.proofs.lemmas.Bool.{ne_eqb}
use Rattle.std.specs.List.{join_with_byte, range_with_len}
use Rattle.std.specs.Prelude.{Option, slice_index_or}
use Rattle.std.specs.Fmt.{signed_decimal}
use Rattle.std.proofs.lemmas.List.{append_assoc}
use Rattle.std.proofs.lemmas.List.FromFn.{map-range_with_len_more, length-map-range_with_len}
use Rattle.dd_blocks.specs.declared.grid.Grid.{Grid}
use Rattle.dd_causes.specs.Appended.{AppendsAllBut}
use Rattle.dd_causes.proofs.AppendedLemmas.{all_but_more}

-- what stands before one more piece
between : ℕ → List (List ℕ) → List ℕ
between c [] = []
between c (x ∷ xs) = c ∷ []

between_is : (c : ℕ) (xs : List (List ℕ)) → between c xs ≡ cond (eqb (length xs) 0) [] (c ∷ [])
unfolding between
between_is c [] = refl
between_is c (x ∷ xs) = sym (ap (λ t. cond t [] (c ∷ [])) (ne_eqb (suc (length xs)) 0 (λ e. absurd (omega arith))))

join_push : (c : ℕ) (xs : List (List ℕ)) (x : List ℕ) → join_with_byte c (xs ++ x ∷ []) ≡ join_with_byte c xs ++ (between c xs ++ x)
unfolding between
join_push c [] x = refl
join_push c (y ∷ []) x = refl
join_push c (y ∷ z ∷ zs) x = ap (λ l. y ++ (c ∷ l)) (join_push c (z ∷ zs) x) ∙ sym (append_assoc y (c ∷ join_with_byte c (z ∷ zs)) (c ∷ x))

join_more : (c : ℕ) (xs : List (List ℕ)) (x : List ℕ) → join_with_byte c (xs ++ x ∷ []) ≡ join_with_byte c xs ++ (cond (eqb (length xs) 0) [] (c ∷ []) ++ x)
join_more c xs x = join_push c xs x ∙ ap (λ s. join_with_byte c xs ++ (s ++ x)) (between_is c xs)

-- the numbers of row i, up to column n
abbrev pub numbers_to : Grid → List ℤ → ℕ → ℕ → List (List ℕ)
numbers_to grid values i n = map (λ j. signed_decimal (slice_index_or values (j * grid.rows + i) (pos 0))) (range_with_len 0 n)

pub numbers_more : (grid : Grid) (values : List ℤ) (i n : ℕ) (front line : List ℕ) → line ≡ front ++ join_with_byte 32 (numbers_to grid values i n) → line ++ (cond (eqb n 0) [] (32 ∷ []) ++ signed_decimal (slice_index_or values (n * grid.rows + i) (pos 0))) ≡ front ++ join_with_byte 32 (numbers_to grid values i (n + 1))
numbers_more grid values i n front line e =
    let number : ℕ → List ℕ = λ j. signed_decimal (slice_index_or values (j * grid.rows + i) (pos 0)) in
    let more = ap (join_with_byte 32) (map-range_with_len_more number 0 n n (omega arith)) ∙ join_more 32 (map number (range_with_len 0 n)) (number n) in
    let first = ap (λ k. cond (eqb k 0) [] (32 ∷ []) ++ number n) (length-map-range_with_len number 0 n) in
    ap (λ l. l ++ (cond (eqb n 0) [] (32 ∷ []) ++ number n)) e ∙ append_assoc front _ _
    ∙ ap (λ l. front ++ l) (sym (more ∙ ap (λ l. join_with_byte 32 (map number (range_with_len 0 n)) ++ l) first))

-- a row more was added to the rows that wait, and some of these were written
pub waiting_more : {old mid new : Option (List ℕ)} {waiting whole : List ℕ} (rows row rest : List ℕ) → AppendsAllBut old mid (rows ++ (row ++ rest)) whole → AppendsAllBut mid new waiting (rows ++ row) → AppendsAllBut old new (waiting ++ rest) whole
waiting_more {old} {mid} {new} {waiting} rows row rest f g = all_but_more f g.done (waiting ++ rest) (sym (append_assoc rows row rest) ∙ ap (λ l. l ++ rest) g.split ∙ append_assoc g.done waiting rest) g.grown
