-- A length that is cut into pieces of one size.
use Rattle.std.proofs.Common.{◌≡◌, ℕ, ◌+◌, ◌*◌, ◌/◌, ◌%◌, ◌<◌, ◌≤◌, arith, ⊎_elim}
use Rattle.std.specs.Int.{div_ceil}
use Rattle.std.proofs.lemmas.Bool.{cases_lt}
use Rattle.std.proofs.lemmas.Grind.{div_ceil_times}
use Rattle.std.proofs.lemmas.Nat.{mul-le, div-add-mod', div-mul-add, mod-mul-add, mod_below}
use Rattle.dd_blocks.specs.Grids.{piece_len}

-- a number below n is in one of the pieces
pub piece_within : (n s i : ℕ) → 1 ≤ s → i < n → i / s < div_ceil n s
piece_within n s i some lt =
    let times = div_ceil_times n s some in
    let split = div-add-mod' i s in
    ⊎_elim (λ (l : i / s < div_ceil n s). l) (λ (g : div_ceil n s ≤ i / s). absurd (omega (arith, times.0, split, mul-le (div_ceil n s) s (i / s) s g (omega arith)))) (cases_lt (i / s) (div_ceil n s))

-- and below the length of that piece
pub place_within : (n s i : ℕ) → 1 ≤ s → i < n → i % s < piece_len n s (i / s)
place_within n s i some lt = omega (arith, div-add-mod' i s, mod_below i s some)

-- each piece begins below n
pub begins_within : (n s k : ℕ) → 1 ≤ s → k < div_ceil n s → k * s < n
begins_within n s k some lt =
    let times = div_ceil_times n s some in
    omega (arith, times.1, mul-le (k + 1) s (div_ceil n s) s (omega arith) (omega arith))

pub piece_some : (n s k : ℕ) → 1 ≤ s → k < div_ceil n s → 1 ≤ piece_len n s k
piece_some n s k some lt = omega (arith, begins_within n s k some lt)

-- a place of a piece, as a number
pub number_within : (n s k i : ℕ) → i < piece_len n s k → k * s + i < n
number_within n s k i lt = omega arith

pub number_piece : (n s k i : ℕ) → i < piece_len n s k → (k * s + i) / s ≡ k
number_piece n s k i lt = div-mul-add k s i (omega arith)

pub number_place : (n s k i : ℕ) → i < piece_len n s k → (k * s + i) % s ≡ i
number_place n s k i lt = mod-mul-add k s i (omega arith)

-- there are at most as many pieces as numbers
pub pieces_few : (n s : ℕ) → 1 ≤ s → div_ceil n s ≤ n
pieces_few n s some =
    let times = div_ceil_times n s some in
    ⊎_elim (λ (l : n < div_ceil n s). absurd (omega (arith, begins_within n s n some l, mul-le n 1 n s (omega arith) some))) (λ (g : div_ceil n s ≤ n). g) (cases_lt n (div_ceil n s))

pub piece_len_le : (n s k : ℕ) → piece_len n s k ≤ n
piece_len_le n s k = omega arith
