-- The bytes of a list of values, value by value.
use Rattle.std.proofs.Common.{◌≡◌, ℕ, zero, suc, ◌+◌, ◌*◌, ◌-◌, ◌<◌, ℤ, pos, List, [], ◌∷◌, ◌++◌, length, take, drop, get_or, refl, sym, ap, ◌∙◌, ◌⊎◌, inl, inr, arith, length-append, append_assoc, add-one, drop-cons}
use Rattle.std.proofs.Math.Seq.{drop-append-add, take-add, take-append-add, take-append_seam}
use Rattle.std.proofs.lemmas.Grind.{flat_map-append}
use Rattle.std.proofs.lemmas.List.{drop_all, take_all}
use Rattle.std.proofs.lemmas.Bool.Decides.{leb_tells}
use Rattle.dd_store.specs.Encoded.{bytes_of, encoded}

eight : (x : ℤ) → length (bytes_of x) ≡ 8
eight x = refl

pub length_encoded : (xs : List ℤ) → length (encoded xs) ≡ 8 * length xs
length_encoded [] = refl
length_encoded (x ∷ xs) = length-append (bytes_of x) (encoded xs) ∙ omega (arith, length_encoded xs, eight x)

-- the bytes of the value at a place
pub encoded_at : (xs : List ℤ) (i : ℕ) → i < length xs → take 8 (drop (8 * i) (encoded xs)) ≡ bytes_of (get_or xs i (pos 0))
encoded_at [] i lt = absurd (omega arith)
encoded_at (x ∷ xs) zero lt = take-append_seam (bytes_of x) (encoded xs)
encoded_at (x ∷ xs) (suc i) lt =
    let e : 8 * suc i ≡ length (bytes_of x) + 8 * i = omega (arith, eight x) in
    rw e (ap (take 8) (drop-append-add (bytes_of x) (encoded xs) (8 * i)) ∙ encoded_at xs i (omega arith))

-- lists that have the same values at the same places
pub same_at_each : (xs ys : List ℤ) → length xs ≡ length ys → ((k : ℕ) → k < length xs → get_or xs k (pos 0) ≡ get_or ys k (pos 0)) → xs ≡ ys
same_at_each [] [] same each = refl
same_at_each [] (y ∷ ys) same each = absurd (omega (arith, same))
same_at_each (x ∷ xs) [] same each = absurd (omega (arith, same))
same_at_each (x ∷ xs) (y ∷ ys) same each =
    let rest = same_at_each xs ys (omega (arith, same)) (λ k lt. each (suc k) (omega arith)) in
    ap (λ (z : ℤ). z ∷ xs) (each zero (omega arith)) ∙ ap (λ l. y ∷ l) rest

-- the bytes of a value behind those before it
pub encoded_more : (bytes : List ℕ) (xs : List ℤ) (i : ℕ) → i < length xs
    → (bytes ++ bytes_of (get_or xs i (pos 0))) ++ encoded (drop (i + 1) xs) ≡ bytes ++ encoded (drop i xs)
encoded_more bytes xs i lt = rw (add-one, drop-cons xs i (pos 0) lt) (append_assoc bytes (bytes_of (get_or xs i (pos 0))) (encoded (drop (suc i) xs)))

pub piece_is : (bytes : List ℕ) (xs : List ℤ) (i : ℕ) → bytes ≡ encoded xs → i < length xs → take (8 * i + 8 - 8 * i) (drop (8 * i) bytes) ≡ bytes_of (get_or xs i (pos 0))
piece_is bytes xs i is lt =
    let e : 8 * i + 8 - 8 * i ≡ 8 = omega arith in
    ap (λ (n : ℕ). take n (drop (8 * i) bytes)) e ∙ ap (λ (l : List ℕ). take 8 (drop (8 * i) l)) is ∙ encoded_at xs i lt

pub below_or_at : (k i : ℕ) → k < i + 1 → (k < i) ⊎ (k ≡ i)
below_or_at k i h = elim (leb_tells i k) [ inl e ↦ inr (omega arith) | inr e ↦ inl e.1 ]

-- the bytes behind those of the first values
pub drop-encoded : (xs : List ℤ) (i : ℕ) → drop (8 * i) (encoded xs) ≡ encoded (drop i xs)
drop-encoded xs zero = refl
drop-encoded [] (suc i) = drop_all (8 * suc i) [] (omega arith)
drop-encoded (x ∷ xs) (suc i) =
    let e : 8 * suc i ≡ length (bytes_of x) + 8 * i = omega (arith, eight x) in
    rw e (drop-append-add (bytes_of x) (encoded xs) (8 * i) ∙ drop-encoded xs i)

-- the bytes of the first values
pub take-encoded : (xs : List ℤ) (n : ℕ) → take (8 * n) (encoded xs) ≡ encoded (take n xs)
take-encoded xs zero = refl
take-encoded [] (suc n) = take_all (8 * suc n) [] (omega arith)
take-encoded (x ∷ xs) (suc n) =
    let e : 8 * suc n ≡ length (bytes_of x) + 8 * n = omega (arith, eight x) in
    rw e (take-append-add (bytes_of x) (encoded xs) (8 * n) ∙ ap (λ l. bytes_of x ++ l) (take-encoded xs n))

-- the bytes of some values from a place on
pub piece-encoded : (xs : List ℤ) (i n : ℕ) → take (8 * n) (drop (8 * i) (encoded xs)) ≡ encoded (take n (drop i xs))
piece-encoded xs i n = ap (λ (l : List ℕ). take (8 * n) l) (drop-encoded xs i) ∙ take-encoded (drop i xs) n

-- a content of which a piece was read, as values
pub piece_of : (content buf : List ℕ) (xs : List ℤ) (place i n count : ℕ) → content ≡ encoded xs → place ≡ 8 * i → count ≡ 8 * n
    → buf ≡ take count (drop place content) → buf ≡ encoded (take n (drop i xs))
piece_of content buf xs place i n count is at many read =
    read ∙ ap (λ (m : ℕ). take m (drop place content)) many ∙ ap (λ (p : ℕ). take (8 * n) (drop p content)) at
    ∙ ap (λ (l : List ℕ). take (8 * n) (drop (8 * i) l)) is ∙ piece-encoded xs i n

-- the first values, and those behind them
pub joined_pieces : (xs front more whole : List ℤ) (i n many : ℕ) → front ≡ take i xs → more ≡ take n (drop i xs) → whole ≡ front ++ more → many ≡ i + n → whole ≡ take many xs
joined_pieces xs front more whole i n many first then is sum =
    is ∙ ap (λ (l : List ℤ). l ++ more) first ∙ ap (λ (l : List ℤ). take i xs ++ l) then ∙ sym (take-add i n xs) ∙ ap (λ (m : ℕ). take m xs) (sym sum)

-- a content to which a piece was added, beside the bytes of what is left
pub appended_more : (content next whole : List ℕ) (left piece rest : List ℤ) → left ≡ piece ++ rest → next ≡ content ++ encoded piece
    → content ++ encoded left ≡ whole → next ++ encoded rest ≡ whole
appended_more content next whole left piece rest parts is so_far =
    ap (λ (l : List ℕ). l ++ encoded rest) is ∙ append_assoc content (encoded piece) (encoded rest)
    ∙ ap (λ (l : List ℕ). content ++ l) (sym (flat_map-append bytes_of piece rest)) ∙ ap (λ (l : List ℤ). content ++ encoded l) (sym parts) ∙ so_far
