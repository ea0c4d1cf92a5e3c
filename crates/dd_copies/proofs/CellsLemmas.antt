-- What a changed cell makes of a table.
use Rattle.std.proofs.Common.{◌⊎◌, ◌+◌, inl, inr, replicate, All, ◌≡◌, ◌≢◌, ℕ, zero, suc, ◌-◌, ◌<◌, ◌≤◌, Bool, true, false, ◌&&◌, cond, eqb, not, List, [], ◌∷◌, get_or, length, set, Option, Some, None, Result, Ok, Err, OnOk, refl, ap, sym, ◌∙◌, subst, ⊎_elim, arith}
use Rattle.std.specs.List.{Contains, slice_get}
use Rattle.std.proofs.lemmas.Option.{slice_get-get_or, slice_get_past}
use Rattle.std.proofs.Math.Path.{fun_ext}
use Rattle.std.proofs.lemmas.Bool.{and_left, and_right, cases_eq, cases_lt, eq-eqb, false_from_ne_true, ne_eqb}
use Rattle.dd_copies.specs.declared.block_copy.BlockCopy.{BlockCopy}
use Rattle.dd_copies.specs.CopyTables.{IsTable, cell_of, copies_of, seen, with_cell}
use Rattle.dd_copies.specs.Numbers.{at_number, or_else}
use Rattle.dd_machine.specs.declared.copy_state.CopyState.{CopyState}
use Rattle.dd_machine.specs.Tests.{is_in_state}
use Rattle.dd_machine.specs.States.{Copy, at_copy, at_one}
use Rattle.std.proofs.lemmas.List.{length-replicate}
use Rattle.std.proofs.lemmas.List.Elements.{All-get_or, All-replicate, All-set}
use Rattle.dd_blocks.specs.declared.plan.Plan.{Plan}
use Rattle.dd_machine.specs.Words.{IsOneOf, blocks, spaces}

get_same : {A : Type 0} (xs : List A) (i : ℕ) (x : A) → i < length xs → slice_get (set xs i x) i ≡ Some x
get_same [] i x lt = absurd (omega (arith, lt))
get_same (y ∷ ys) zero x lt = refl
get_same (y ∷ ys) (suc i) x lt = get_same ys i x (omega (arith, lt))

get_other : {A : Type 0} (xs : List A) (i j : ℕ) (x : A) → j ≢ i → slice_get (set xs i x) j ≡ slice_get xs j
get_other [] i j x ne = refl
get_other (y ∷ ys) zero zero x ne = absurd (ne refl)
get_other (y ∷ ys) zero (suc j) x ne = refl
get_other (y ∷ ys) (suc i) zero x ne = refl
get_other (y ∷ ys) (suc i) (suc j) x ne = get_other ys i j x (λ e. ne (ap suc e))

pub at_same : {A : Type 0} (xs : List A) (n : ℕ) (x : A) → IsOneOf (length xs) n → at_number (set xs (n - 1) x) n ≡ Some x
at_same xs zero x is = absurd (let l = is.0 in omega (arith, l))
at_same xs (suc m) x is = let e : suc m - 1 ≡ m = omega arith in rw e (get_same xs m x (let h = is.1 in omega (arith, h)))

pub at_other : {A : Type 0} (xs : List A) (n k : ℕ) (x : A) → IsOneOf (length xs) n → k ≢ n → at_number (set xs (n - 1) x) k ≡ at_number xs k
at_other xs n zero x is ne = refl
at_other xs zero (suc j) x is ne = absurd (let l = is.0 in omega (arith, l))
at_other xs (suc m) (suc j) x is ne = let e : suc m - 1 ≡ m = omega arith in rw e (get_other xs m j x (λ same. ne (ap suc same)))

pub table_set : (table : List (List (Option BlockCopy))) (space block : ℕ) (cell : Option BlockCopy)
    → IsOneOf (length table) space → IsOneOf (length (or_else [] (at_number table space))) block
    → copies_of (with_cell table space block cell) ≡ at_copy (copies_of table) space block (seen cell)
unfolding copies_of at_copy
table_set table space block cell space_is block_is = fun_ext (λ s. fun_ext (λ b. point s b))
  where
    point : (s b : ℕ) → seen (cell_of (with_cell table space block cell) s b) ≡ cond (eqb s space && eqb b block) (seen cell) (seen (cell_of table s b))
    point s b = ⊎_elim
        (λ (e : s ≡ space). ⊎_elim
        (λ (f : b ≡ block).
        rw (e, f) (ap (λ (r : Option (List (Option BlockCopy))). seen (or_else None (at_number (or_else [] r) block))) (at_same table space (set (or_else [] (at_number table space)) (block - 1) cell) space_is)
        ∙ ap (λ (c : Option (Option BlockCopy)). seen (or_else None c)) (at_same (or_else [] (at_number table space)) block cell block_is)
        ∙ sym (ap (λ (t : Bool). cond (t && eqb block block) (seen cell) (seen (cell_of table space block))) (eq-eqb space space refl) ∙ ap (λ (t : Bool). cond t (seen cell) (seen (cell_of table space block))) (eq-eqb block block refl))))
        (λ (f : b ≡ block → ⊥).
        rw e (ap (λ (r : Option (List (Option BlockCopy))). seen (or_else None (at_number (or_else [] r) b))) (at_same table space (set (or_else [] (at_number table space)) (block - 1) cell) space_is)
        ∙ ap (λ (c : Option (Option BlockCopy)). seen (or_else None c)) (at_other (or_else [] (at_number table space)) block b cell block_is f)
        ∙ sym (ap (λ (t : Bool). cond t (seen cell) (seen (cell_of table space b))) (and_right (eqb space space) (eqb b block) (ne_eqb b block f)))))
        (cases_eq b block))
        (λ (e : s ≡ space → ⊥).
        ap (λ (r : Option (List (Option BlockCopy))). seen (or_else None (at_number (or_else [] r) b))) (at_other table space s (set (or_else [] (at_number table space)) (block - 1) cell) space_is e)
        ∙ sym (ap (λ (t : Bool). cond t (seen cell) (seen (cell_of table s b))) (and_left (eqb s space) (eqb b block) (ne_eqb s space e))))
        (cases_eq s space)

-- a cell that is changed twice
pub set_twice : {A : Type 0} (xs : List A) (i : ℕ) (x y : A) → set (set xs i x) i y ≡ set xs i y
set_twice [] i x y = refl
set_twice (z ∷ zs) zero x y = refl
set_twice (z ∷ zs) (suc i) x y = ap (λ ys. z ∷ ys) (set_twice zs i x y)

pub length_same : {A : Type 0} (xs : List A) (i : ℕ) (x : A) → length (set xs i x) ≡ length xs
length_same [] i x = refl
length_same (z ∷ zs) zero x = refl
length_same (z ∷ zs) (suc i) x = ap suc (length_same zs i x)

pub cell_twice : (table : List (List (Option BlockCopy))) (space block : ℕ) (x y : Option BlockCopy) → IsOneOf (length table) space
    → with_cell (with_cell table space block x) space block y ≡ with_cell table space block y
cell_twice table space block x y is =
    let row = or_else [] (at_number table space) in
    let same : or_else [] (at_number (with_cell table space block x) space) ≡ set row (block - 1) x = ap (or_else []) (at_same table space (set row (block - 1) x) is) in
    ap (λ (r : List (Option BlockCopy)). set (with_cell table space block x) (space - 1) (set r (block - 1) y)) same
    ∙ ap (λ (r : List (Option BlockCopy)). set (with_cell table space block x) (space - 1) r) (set_twice row (block - 1) x y)
    ∙ set_twice table (space - 1) (set row (block - 1) x) (set row (block - 1) y)

pub space_stays : (table : List (List (Option BlockCopy))) (space block : ℕ) (x : Option BlockCopy) → IsOneOf (length table) space → IsOneOf (length (with_cell table space block x)) space
space_stays table space block x is = rw (length_same table (space - 1) (set (or_else [] (at_number table space)) (block - 1) x)) is

pub block_stays : (table : List (List (Option BlockCopy))) (space block : ℕ) (x : Option BlockCopy) → IsOneOf (length table) space → IsOneOf (length (or_else [] (at_number table space))) block
    → IsOneOf (length (or_else [] (at_number (with_cell table space block x) space))) block
block_stays table space block x is block_is =
    rw (ap (or_else []) (at_same table space (set (or_else [] (at_number table space)) (block - 1) x) is), length_same (or_else [] (at_number table space)) (block - 1) x) block_is

-- a table of one index with one value changed, as it is read
pub one_set : {A B : Type 0} (f : A → B) (none : A) (xs : List A) (n : ℕ) (x : A) → IsOneOf (length xs) n
    → (k : ℕ) → f (or_else none (at_number (set xs (n - 1) x) k)) ≡ cond (eqb k n) (f x) (f (or_else none (at_number xs k)))
one_set {A = A} f none xs n x is k = ⊎_elim
    (λ (e : k ≡ n). rw e (ap (λ (o : Option A). f (or_else none o)) (at_same xs n x is) ∙ sym (ap (λ (t : Bool). cond t (f x) (f (or_else none (at_number xs n)))) (eq-eqb n n refl))))
    (λ (e : k ≡ n → ⊥). ap (λ (o : Option A). f (or_else none o)) (at_other xs n k x is e) ∙ sym (ap (λ (t : Bool). cond t (f x) (f (or_else none (at_number xs k)))) (ne_eqb k n e)))
    (cases_eq k n)

pub cell_known : (plan : Plan) (table : List (List (Option BlockCopy))) (space block : ℕ) → IsTable (spaces plan) (blocks plan) table
    → IsOneOf (spaces plan) space → IsOneOf (blocks plan) block → IsOneOf (length (or_else [] (at_number table space))) block
cell_known plan table zero block is space_is block_is = absurd (let l = space_is.0 in omega (arith, l))
cell_known plan table (suc n) block is space_is block_is =
    let rows = is.rows in
    let lt : n < length table = (let h = space_is.1 in omega (arith, h, rows)) in
    let row = slice_get-get_or table n [] lt in
    let long = All-get_or (λ (row : List (Option BlockCopy)). length row ≡ blocks plan) table n [] lt is.cells in
    rw (ap (or_else []) row) (block_is.0, (let h = block_is.1 in omega (arith, h, long)))

-- a copy that is there has a cell
pub there_in : (plan : Plan) (table : List (List (Option BlockCopy))) (test : CopyState → Bool) (s b : ℕ) → IsTable (spaces plan) (blocks plan) table
    → is_in_state test (copies_of table s b) ≡ true → IsOneOf (spaces plan) s × IsOneOf (blocks plan) b
unfolding copies_of
there_in plan table test s b is there = by_space s there
  where
    in_row : (row : List (Option BlockCopy)) (n : ℕ) → is_in_state test (seen (or_else None (at_number row n))) ≡ true → IsOneOf (length row) n
    in_row row zero e = absurd cc
    in_row row (suc n) e = ⊎_elim
        (λ (lt : n < length row). (omega arith, omega (arith, lt)))
        (λ (le : length row ≤ n).
        let none : is_in_state test (seen (or_else None (slice_get row n))) ≡ false = ap (λ (o : Option (Option BlockCopy)). is_in_state test (seen (or_else None o))) (slice_get_past row n le) in
        absurd (let f : true ≡ false = sym e ∙ none in cc))
        (cases_lt n (length row))

    by_space : (n : ℕ) → is_in_state test (seen (cell_of table n b)) ≡ true → IsOneOf (spaces plan) n × IsOneOf (blocks plan) b
    by_space zero e = absurd (let none = in_row [] b e in let l = none.0 in let h = none.1 in omega (arith, l, h))
    by_space (suc n) e = ⊎_elim
        (λ (lt : n < length table).
        let row = slice_get-get_or table n [] lt in
        let long = All-get_or (λ (row : List (Option BlockCopy)). length row ≡ blocks plan) table n [] lt is.cells in
        let at = in_row (or_else [] (slice_get table n)) b e in
        let same : length (or_else [] (slice_get table n)) ≡ blocks plan = ap (λ (o : Option (List (Option BlockCopy))). length (or_else [] o)) row ∙ long in
        let rows = is.rows in
        let h = at.1 in
        ((omega arith, omega (arith, lt, rows)), (at.0, omega (arith, h, same))))
        (λ (le : length table ≤ n).
        let gone : is_in_state test (seen (or_else None (at_number (or_else [] (slice_get table n)) b))) ≡ is_in_state test (seen (or_else None (at_number [] b))) =
        ap (λ (o : Option (List (Option BlockCopy))). is_in_state test (seen (or_else None (at_number (or_else [] o) b)))) (slice_get_past table n le) in
        let none = in_row [] b (sym gone ∙ e) in
        absurd (let l = none.0 in let h = none.1 in omega (arith, l, h)))
        (cases_lt n (length table))

-- what no cell of the Plan has, none has
pub none_has : (plan : Plan) (table : List (List (Option BlockCopy))) (test : CopyState → Bool) → IsTable (spaces plan) (blocks plan) table
    → ((s b : ℕ) → IsOneOf (spaces plan) s → IsOneOf (blocks plan) b → is_in_state test (copies_of table s b) ≡ false)
    → (s b : ℕ) → is_in_state test (copies_of table s b) ≡ false
none_has plan table test is none s b = false_from_ne_true (is_in_state test (copies_of table s b))
    (λ e. let at = there_in plan table test s b is e in let f : true ≡ false = sym e ∙ none s b at.0 at.1 in cc)

-- a table whose cell is changed has its rows and cells
pub table_kept : (n m : ℕ) (table : List (List (Option BlockCopy))) (space block : ℕ) (cell : Option BlockCopy) → IsOneOf (length table) space → IsTable n m table → IsTable n m (with_cell table space block cell)
table_kept n m table zero block cell space_is is = absurd (let l = space_is.0 in omega (arith, l))
table_kept n m table (suc k) block cell space_is is =
    let row = or_else [] (slice_get table k) in
    let lt : k < length table = (let h = space_is.1 in omega (arith, h)) in
    let there : row ≡ get_or table k [] = ap (or_else []) (slice_get-get_or table k [] lt) in
    let long : length (get_or table k []) ≡ m = All-get_or (λ (r : List (Option BlockCopy)). length r ≡ m) table k [] lt is.cells in
    let new = set row (block - 1) cell in
    let new_long : length new ≡ m = length_same row (block - 1) cell ∙ ap (λ (r : List (Option BlockCopy)). length r) there ∙ long in
    record {
      rows = length_same table (suc k - 1) new ∙ is.rows;
      cells = All-set (λ (r : List (Option BlockCopy)). length r ≡ m) table (suc k - 1) new new_long is.cells;
    }

-- a table of empty cells
get_replicate : {A : Type 0} (n i : ℕ) (x : A) → (slice_get (replicate n x) i ≡ Some x) ⊎ (slice_get (replicate n x) i ≡ None)
get_replicate zero i x = inr refl
get_replicate (suc n) zero x = inl refl
get_replicate (suc n) (suc i) x = get_replicate n i x

row_empty : (m b : ℕ) → or_else None (at_number {A = Option BlockCopy} (replicate m None) b) ≡ None
row_empty m zero = refl
row_empty m (suc i) = ⊎_elim
    (λ (e : slice_get (replicate m None) i ≡ Some None). ap (λ (o : Option (Option BlockCopy)). or_else None o) e)
    (λ (e : slice_get (replicate m None) i ≡ None). ap (λ (o : Option (Option BlockCopy)). or_else None o) e)
    (get_replicate {A = Option BlockCopy} m i None)

pub cells_empty : (n m s b : ℕ) → copies_of (replicate n (replicate m None)) s b ≡ None
unfolding copies_of
cells_empty n m zero b = ap seen (row_empty 0 b)
cells_empty n m (suc i) b = ⊎_elim
    (λ (e : slice_get (replicate n (replicate m None)) i ≡ Some (replicate m None)).
    ap (λ (o : Option (List (Option BlockCopy))). seen (or_else None (at_number (or_else [] o) b))) e ∙ ap seen (row_empty m b))
    (λ (e : slice_get (replicate n (replicate m None)) i ≡ None).
    ap (λ (o : Option (List (Option BlockCopy))). seen (or_else None (at_number (or_else [] o) b))) e ∙ ap seen (row_empty 0 b))
    (get_replicate {A = List (Option BlockCopy)} n i (replicate m None))

pub table_empty : (n m : ℕ) → IsTable n m (replicate n (replicate m None))
table_empty n m = record {
  rows = length-replicate n (replicate m None);
  cells = All-replicate (λ (r : List (Option BlockCopy)). length r ≡ m) n (replicate m None) (length-replicate m None);
}

-- the rows and cells that there are stay there
pub rows_stay : (table : List (List (Option BlockCopy))) (space block k : ℕ) (x : Option BlockCopy) → IsOneOf (length table) k → IsOneOf (length (with_cell table space block x)) k
rows_stay table space block k x is = rw (length_same table (space - 1) (set (or_else [] (at_number table space)) (block - 1) x)) is

pub cell_stays : (table : List (List (Option BlockCopy))) (space other block : ℕ) (x : Option BlockCopy) → IsOneOf (length table) space → IsOneOf (length (or_else [] (at_number table space))) block
    → IsOneOf (length (or_else [] (at_number table other))) block → IsOneOf (length (or_else [] (at_number (with_cell table space block x) other))) block
cell_stays table space other block x is block_is there = ⊎_elim
    (λ (e : other ≡ space). rw e (block_stays table space block x is block_is))
    (λ (ne : other ≡ space → ⊥).
    rw (ap (or_else []) (at_other table space other (set (or_else [] (at_number table space)) (block - 1) x) is ne)) there)
    (cases_eq other space)
