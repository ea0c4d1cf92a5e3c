-- Arrays of a world, by their numbers.
use Rattle.std.proofs.Common.{◌≡◌, ◌≢◌, ℕ, zero, suc, ◌+◌, ◌-◌, ◌≤◌, ℤ, true, false, take, drop, List, [], ◌∷◌, ◌++◌, length, map, set, get_or, refl, sym, ap, ◌∙◌, arith, ⊎_elim}
use Rattle.std.specs.List.{range_with_len}
use Rattle.std.proofs.lemmas.List.{length-set, get_or-set_same, get_or-set_other, set-get_or, append_assoc, append-nil, take-append-drop, take_more_set, drop-set-lt, drop_all}
use Rattle.std.proofs.lemmas.Bool.{cases_Bool}
use Rattle.dd_blocks.specs.Numbered.{numbered}
use Rattle.dd_blocks.specs.declared.access_row.AccessRow.{AccessRow}
use Rattle.dd_blocks.specs.Elements.{writes}
use Rattle.dd_kernels.proofs.ListsLemmas.{ap2}
use Rattle.dd_views.specs.IndexList.{index_list}
use Rattle.dd_meaning.specs.Steps.{put_at, stored_one}
use Rattle.dd_meaning.specs.Worlds.{World, values_of}

-- two places that are not the same are written in any order
pub set_apart : {A : Type 0} (xs : List A) (i j : ℕ) (x y : A) → i ≢ j → set (set xs i x) j y ≡ set (set xs j y) i x
set_apart [] i j x y apart = refl
set_apart (a ∷ xs) zero zero x y apart = absurd (apart refl)
set_apart (a ∷ xs) zero (suc j) x y apart = refl
set_apart (a ∷ xs) (suc i) zero x y apart = refl
set_apart (a ∷ xs) (suc i) (suc j) x y apart = ap (λ l. a ∷ l) (set_apart xs i j x y (λ e. apart (ap suc e)))

-- the array that was written, and the others
pub values_written : (world : World) (n : ℕ) (v : List ℤ) → 1 ≤ n → n ≤ length world → values_of (set world (n - 1) v) n ≡ v
values_written world zero v low high = absurd (omega arith)
values_written world (suc n) v low high =
    let same : suc n - 1 ≡ n = omega arith in
    rw same (get_or-set_same world n v [] (omega arith))

pub values_beside : (world : World) (n m : ℕ) (v : List ℤ) → 1 ≤ n → n ≢ m → values_of (set world (n - 1) v) m ≡ values_of world m
values_beside world n zero v low apart = refl
values_beside world n (suc m) v low apart = get_or-set_other world (n - 1) m v [] (λ e. apart (omega (arith, e)))

set_same : (world : World) (i : ℕ) → set world i (get_or world i []) ≡ world
set_same world i = set-get_or world i []

-- an array is written with what it holds
pub same_written : (world : World) (n : ℕ) (v : List ℤ) → 1 ≤ n → v ≡ values_of world n → set world (n - 1) v ≡ world
same_written world zero v low e = absurd (omega arith)
same_written world (suc n) v low e =
    let same : suc n - 1 ≡ n = omega arith in
    rw (same, e) (set_same world n)

-- how many values an array has
length_at : (world : World) (i : ℕ) → length (get_or world i []) ≡ get_or (map length world) i 0
length_at [] i = refl
length_at (x ∷ world) zero = refl
length_at (x ∷ world) (suc i) = length_at world i

pub length_numbered : (world : World) (n : ℕ) → length (numbered [] world n) ≡ numbered 0 (map length world) n
length_numbered world zero = refl
length_numbered world (suc n) = length_at world n

pub put_run : (values array : List ℤ) (a : ℕ) → a + length values ≤ length array → put_at (range_with_len a (length values)) values array ≡ take a array ++ values ++ drop (a + length values) array
put_run [] array a within = let none : a + 0 ≡ a = omega arith in rw none (sym (take-append-drop a array) ∙ ap (λ l. l ++ drop a array) (sym (append-nil (take a array))))
put_run (v ∷ values) array a within =
    let more = put_run values (set array a v) (a + 1) (rw length-set (omega (arith, within))) in
    let next : a + 1 + length values ≡ a + suc (length values) = omega arith in
    let front = take_more_set array a v (omega (arith, within)) in
    let back = drop-set-lt (a + suc (length values)) array a v (omega arith) in
    more
    ∙ ap (λ (n : ℕ). take (a + 1) (set array a v) ++ values ++ drop n (set array a v)) next
    ∙ ap2 (λ l r. l ++ values ++ r) front back
    ∙ ap (λ l. l ++ drop (a + suc (length values)) array) (append_assoc (take a array) (v ∷ []) values)

pub put_whole : (array values : List ℤ) → length values ≡ length array → put_at (range_with_len 0 (length array)) values array ≡ values
put_whole array values same =
    let none : drop (0 + length values) array ≡ [] = drop_all (0 + length values) array (omega (arith, same)) in
    ap (λ (n : ℕ). put_at (range_with_len 0 n) values array) (sym same)
    ∙ put_run values array 0 (omega (arith, same))
    ∙ ap (λ l. values ++ l) none ∙ append-nil values

-- a list of positions and values after another
pub put_append : (ps qs : List ℕ) (vs ws array : List ℤ) → length ps ≡ length vs → put_at (ps ++ qs) (vs ++ ws) array ≡ put_at qs ws (put_at ps vs array)
put_append [] qs [] ws array same = refl
put_append [] qs (v ∷ vs) ws array same = absurd (omega (arith, same))
put_append (p ∷ ps) qs [] ws array same = absurd (omega (arith, same))
put_append (p ∷ ps) qs (v ∷ vs) ws array same = put_append ps qs vs ws (set array p v) (omega (arith, same))

pub length_put : (ps : List ℕ) (vs array : List ℤ) → length (put_at ps vs array) ≡ length array
length_put [] vs array = refl
length_put (p ∷ ps) [] array = refl
length_put (p ∷ ps) (v ∷ vs) array = length_put ps vs (set array p v) ∙ length-set array p v

-- sizes stay where a task stores
set_length : (world : World) (i : ℕ) (v : List ℤ) → length v ≡ length (get_or world i []) → map length (set world i v) ≡ map length world
set_length [] i v same = refl
set_length (x ∷ world) zero v same = ap (λ (n : ℕ). n ∷ map length world) same
set_length (x ∷ world) (suc i) v same = ap (λ l. length x ∷ l) (set_length world i v same)

numbered_at : (world : World) (n : ℕ) → 1 ≤ n → numbered [] world n ≡ get_or world (n - 1) []
numbered_at world zero low = absurd (omega arith)
numbered_at world (suc n) low = let same : suc n - 1 ≡ n = omega arith in rw same refl

pub stored_sizes : (world : World) (a : AccessRow) (values : List ℤ) → 1 ≤ a.view.array → map length (stored_one world a values) ≡ map length world
stored_sizes world a values low = ⊎_elim
    (λ (w : writes a.mode ≡ true). rw w (set_length world (a.view.array - 1) _ (length_put (index_list a.view) values (values_of world a.view.array) ∙ ap length (numbered_at world a.view.array low))))
    (λ (r : writes a.mode ≡ false). rw r refl)
    (cases_Bool (writes a.mode))

pub stored_length : (world : World) (a : AccessRow) (values : List ℤ) (n : ℕ) → 1 ≤ a.view.array → length (values_of (stored_one world a values) n) ≡ length (values_of world n)
stored_length world a values n low = length_numbered (stored_one world a values) n ∙ ap (λ (l : List ℕ). numbered 0 l n) (stored_sizes world a values low) ∙ sym (length_numbered world n)
