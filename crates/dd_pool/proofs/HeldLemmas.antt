-- What holds of the cells of copies after one of them was filled or emptied.
use Rattle.std.proofs.Common.{◌≡◌, ◌≢◌, ℕ, zero, suc, ◌+◌, ◌-◌, ◌*◌, ◌<◌, ◌≤◌, inl, inr, List, length, set, get_or, Bor, Option, Some, None, refl, sym, ap, ◌∙◌, subst, arith, get_or-set_other, get_or-set_same}
use Rattle.std.specs.Prelude.{IsSome}
use Rattle.std.specs.List.{range_with_len, sum_by}
use Rattle.std.proofs.lemmas.List.Sums.{sum_by-cons}
use Rattle.dd_blocks.specs.declared.plan.Plan.{Plan}
use Rattle.dd_blocks.specs.Numbered.{IsNumberIn}
use Rattle.dd_stamps.specs.declared.stamped.Stamped.{Stamped}
use Rattle.dd_stamps.specs.Cells.{size_of}
use Rattle.dd_pool.specs.declared.cells.Cells.{Cells}
use Rattle.dd_pool.specs.Cells.{HasNew, cell}
use Rattle.dd_pool.specs.Held.{AreCounted, AreOurs, bytes_if, bytes_in}
use Rattle.dd_pool.specs.Places.{IsPlace, bytes_of_blocks, place_of}
use Rattle.dd_pool.proofs.CellsLemmas.{same_or_not}
use Rattle.dd_pool.proofs.PlacesLemmas.{same_place}

-- sums over a range of functions that are equal there
sum_same : (f g : ℕ → ℕ) (start n : ℕ) → ((k : ℕ) → start ≤ k → k < start + n → f k ≡ g k) → sum_by f (range_with_len start n) ≡ sum_by g (range_with_len start n)
sum_same f g start zero same = refl
sum_same f g start (suc n) same =
    let step_f = sum_by-cons f start (range_with_len (start + 1) n) in
    let step_g = sum_by-cons g start (range_with_len (start + 1) n) in
    let here = same start (omega arith) (omega arith) in
    let rest = sum_same f g (start + 1) n (λ k low high. same k (omega arith) (omega arith)) in
    omega (arith, here, rest, step_f, step_g)

-- sums over a range of functions that differ at one number
sum_one : (f g : ℕ → ℕ) (b start n : ℕ) → start ≤ b → b < start + n → ((k : ℕ) → start ≤ k → k < start + n → k ≢ b → f k ≡ g k)
    → sum_by f (range_with_len start n) + g b ≡ sum_by g (range_with_len start n) + f b
sum_one f g b start zero low high same = absurd (omega arith)
sum_one f g b start (suc n) low high same =
    let step_f = sum_by-cons f start (range_with_len (start + 1) n) in
    let step_g = sum_by-cons g start (range_with_len (start + 1) n) in
    elim (same_or_not start b) [
      | inl e ↦
          let rest = sum_same f g (start + 1) n (λ k lo hi. same k (omega arith) (omega arith) (λ is. absurd (omega (arith, e, is)))) in
          omega (arith, rest, ap f e, ap g e, step_f, step_g)
      | inr ne ↦
          let rest = sum_one f g b (start + 1) n (omega (arith, ne)) (omega arith) (λ k lo hi apart. same k (omega arith) (omega arith) apart) in
          omega (arith, rest, same start (omega arith) (omega arith) ne, step_f, step_g)
    ]

-- a sum of no more at each number is no more
pub sum_le : (f g : ℕ → ℕ) (start n : ℕ) → ((k : ℕ) → start ≤ k → k < start + n → f k ≤ g k) → sum_by f (range_with_len start n) ≤ sum_by g (range_with_len start n)
sum_le f g start zero le = omega arith
sum_le f g start (suc n) le =
    let step_f = sum_by-cons f start (range_with_len (start + 1) n) in
    let step_g = sum_by-cons g start (range_with_len (start + 1) n) in
    let here = le start (omega arith) (omega arith) in
    let rest = sum_le f g (start + 1) n (λ k low high. le k (omega arith) (omega arith)) in
    omega (arith, here, rest, step_f, step_g)

sum_none : (f : ℕ → ℕ) (start n : ℕ) → ((k : ℕ) → f k ≡ 0) → sum_by f (range_with_len start n) ≡ 0
sum_none f start zero none = refl
sum_none f start (suc n) none =
    let step_f = sum_by-cons f start (range_with_len (start + 1) n) in
    omega (arith, none start, sum_none f (start + 1) n none, step_f)

bytes_if_le : {T : Type 0} (size : ℕ) (o : Option T) → bytes_if size o ≤ 8 * size
bytes_if_le size None = omega arith
bytes_if_le size (Some x) = omega arith

-- a space has no more bytes than all blocks
pub bytes_within : (plan : Plan) (cells : Cells Stamped) (space : ℕ) → bytes_in plan cells space ≤ bytes_of_blocks plan
bytes_within plan cells space =
    sum_le (λ block. bytes_if (size_of plan block) (cell cells (place_of plan space block))) (λ block. 8 * size_of plan block) 1 (length plan.blocks)
    (λ k low high. bytes_if_le (size_of plan k) (cell cells (place_of plan space k)))

-- without copies each space has no bytes
pub nothing_in : (plan : Plan) (cells : Cells Stamped) (space : ℕ) → ((i : ℕ) → cell cells i ≡ None) → bytes_in plan cells space ≡ 0
nothing_in plan cells space none =
    sum_none (λ block. bytes_if (size_of plan block) (cell cells (place_of plan space block))) 1 (length plan.blocks)
    (λ k. ap (bytes_if (size_of plan k)) (none (place_of plan space k)))

-- in other cells is what was there
pub elsewhere_of : {T : Type 0} (plan : Plan) (old new : Cells T) (s b : ℕ) (item : Option T) → IsPlace plan s b → HasNew old new (place_of plan s b) item
    → (t k : ℕ) → IsPlace plan t k → (t ≡ s → k ≡ b → ⊥) → cell new (place_of plan t k) ≡ cell old (place_of plan t k)
elsewhere_of plan old new s b item is has t k there apart =
    has.others (place_of plan t k) (λ e. let same = same_place plan t k s b there is e in apart same.0 same.1)

module _ (plan : Plan) (old new : Cells Stamped) (s b : ℕ) (item : Option Stamped) where
  pub elsewhere : IsPlace plan s b → HasNew old new (place_of plan s b) item → (t k : ℕ) → IsPlace plan t k → (t ≡ s → k ≡ b → ⊥)
      → cell new (place_of plan t k) ≡ cell old (place_of plan t k)
  elsewhere is has t k there apart = elsewhere_of plan old new s b item is has t k there apart

  -- the bytes of the space before and after
  pub bytes_here : IsPlace plan s b → HasNew old new (place_of plan s b) item
      → bytes_in plan new s + bytes_if (size_of plan b) (cell old (place_of plan s b)) ≡ bytes_in plan old s + bytes_if (size_of plan b) item
  bytes_here is has =
      sum_one (λ k. bytes_if (size_of plan k) (cell new (place_of plan s k))) (λ k. bytes_if (size_of plan k) (cell old (place_of plan s k))) b 1 (length plan.blocks)
      (omega (arith, is.a_block)) (omega (arith, is.a_block))
      (λ k low high apart. ap (bytes_if (size_of plan k)) (elsewhere is has s k (record { a_space = is.a_space; a_block = (low, omega arith) }) (λ _ e. apart e)))
      ∙ ap (λ (o : Option Stamped). bytes_in plan old s + bytes_if (size_of plan b) o) has.here

  -- and those of another
  bytes_there : IsPlace plan s b → HasNew old new (place_of plan s b) item → (t : ℕ) → IsNumberIn plan.spaces t → t ≢ s → bytes_in plan new t ≡ bytes_in plan old t
  bytes_there is has t there ne =
      sum_same (λ k. bytes_if (size_of plan k) (cell new (place_of plan t k))) (λ k. bytes_if (size_of plan k) (cell old (place_of plan t k))) 1 (length plan.blocks)
      (λ k low high. ap (bytes_if (size_of plan k)) (elsewhere is has t k (record { a_space = there; a_block = (low, omega arith) }) (λ e _. ne e)))

  -- a number that was changed as the bytes of its space were
  pub recounted : (sizes : List ℕ) (count : ℕ) → IsPlace plan s b → HasNew old new (place_of plan s b) item → AreCounted plan old sizes → length sizes ≡ length plan.spaces
      → count ≡ bytes_in plan new s → AreCounted plan new (set sizes (s - 1) count)
  recounted sizes count is has before long now = λ t there. elim (same_or_not t s) [
    | inl e ↦
        let at : t - 1 ≡ s - 1 = ap (λ (n : ℕ). n - 1) e in
        ap (λ (n : ℕ). get_or (set sizes (s - 1) count) n 0) at
        ∙ get_or-set_same sizes (s - 1) count 0 (omega (arith, long, is.a_space)) ∙ now ∙ ap (bytes_in plan new) (sym e)
    | inr ne ↦
        get_or-set_other sizes (s - 1) (t - 1) count 0 (omega (arith, ne, there, is.a_space)) ∙ before t there ∙ sym (bytes_there is has t there ne)
  ]

  -- a copy that was put beside what was there
  pub still_ours : (p : Bor Plan) → p.now ≡ plan → IsPlace plan s b → HasNew old new (place_of plan s b) item → AreOurs p old
      → ((copy : Stamped) → item ≡ Some copy → (copy.plan ≡ p) × (copy.block ≡ b)) → AreOurs p new
  still_ours p same is has before ours = λ t k copy there held.
      let there' = subst (λ (q : Plan). IsPlace q t k) same there in
      let held' : cell new (place_of plan t k) ≡ Some copy = ap (λ (q : Plan). cell new (place_of q t k)) (sym same) ∙ held in
      elim (same_or_not t s) [
        | inr ne ↦ before t k copy there (ap (λ (q : Plan). cell old (place_of q t k)) same ∙ sym (elsewhere is has t k there' (λ e _. ne e)) ∙ held')
        | inl et ↦ elim (same_or_not k b) [
          | inr ne ↦ before t k copy there (ap (λ (q : Plan). cell old (place_of q t k)) same ∙ sym (elsewhere is has t k there' (λ _ e. ne e)) ∙ held')
          | inl ek ↦
              let at : place_of plan t k ≡ place_of plan s b = ap (λ (n : ℕ). place_of plan n k) et ∙ ap (λ (n : ℕ). place_of plan s n) ek in
              let mine = ours copy (sym has.here ∙ ap (cell new) (sym at) ∙ held') in
              (mine.0, mine.1 ∙ sym ek)
        ]
      ]

-- a copy of the Plan and the block was put
pub put_ours : (p : Bor Plan) (old new : Cells Stamped) (s b : ℕ) (x : Stamped) → IsPlace p.now s b → HasNew old new (place_of p.now s b) (Some x) → AreOurs p old
    → x.plan ≡ p → x.block ≡ b → AreOurs p new
put_ours p old new s b x is has before plan block =
    still_ours p.now old new s b (Some x) p refl is has before
    (λ y e. let same : x ≡ y = (cc) in (sym (ap (λ (z : Stamped). z.plan) same) ∙ plan, sym (ap (λ (z : Stamped). z.block) same) ∙ block))

-- a copy was taken out
pub take_ours : (p : Bor Plan) (old new : Cells Stamped) (s b : ℕ) → IsPlace p.now s b → HasNew old new (place_of p.now s b) None → AreOurs p old → AreOurs p new
take_ours p old new s b is has before = still_ours p.now old new s b None p refl is has before (λ y e. absurd (cc))

-- the bytes of a space where a copy was put, by the number that was kept and the bytes of the block
pub more_bytes : (plan : Plan) (old new : Cells Stamped) (s b : ℕ) (x : Stamped) (kept bytes : ℕ) → IsPlace plan s b → HasNew old new (place_of plan s b) (Some x)
    → cell old (place_of plan s b) ≡ None → kept ≡ bytes_in plan old s → bytes ≡ 8 * size_of plan b → kept + bytes ≡ bytes_in plan new s
more_bytes plan old new s b x kept bytes is has none was many =
    omega (arith, bytes_here plan old new s b (Some x) is has, ap (bytes_if (size_of plan b)) none, was, many)

-- and where one was taken
pub fewer_bytes : (plan : Plan) (old new : Cells Stamped) (s b : ℕ) (x : Stamped) (kept bytes : ℕ) → IsPlace plan s b → HasNew old new (place_of plan s b) None
    → cell old (place_of plan s b) ≡ Some x → kept ≡ bytes_in plan old s → bytes ≡ 8 * size_of plan b → kept ≡ bytes_in plan new s + bytes
fewer_bytes plan old new s b x kept bytes is has there was many =
    omega (arith, bytes_here plan old new s b None is has, ap (bytes_if (size_of plan b)) there, was, many)

-- nothing was taken out of an empty cell
pub still_empty : {T : Type 0} (old new : Cells T) (at : ℕ) → HasNew old new at None → None ≡ cell old at → (i : ℕ) → cell new i ≡ cell old i
still_empty old new at has none = λ i. elim (same_or_not i at) [
  | inl e ↦ ap (cell new) e ∙ has.here ∙ none ∙ ap (cell old) (sym e)
  | inr ne ↦ has.others i ne
]

-- a cell that was emptied and filled again
pub refilled : {T : Type 0} (old mid new : Cells T) (at : ℕ) (item : Option T) → HasNew old mid at None → HasNew mid new at item → HasNew old new at item
refilled old mid new at item out back = record { here = back.here; others = λ i ne. back.others i ne ∙ out.others i ne }

-- the numbers hold on where a copy is changed in its place
pub kept_counted : (plan : Plan) (old new : Cells Stamped) (s b : ℕ) (before after : Stamped) (sizes : List ℕ) → IsPlace plan s b
    → cell old (place_of plan s b) ≡ Some before → HasNew old new (place_of plan s b) (Some after) → AreCounted plan old sizes → AreCounted plan new sizes
kept_counted plan old new s b before after sizes is was has counted = λ t there. elim (same_or_not t s) [
  | inl e ↦
      let same = bytes_here plan old new s b (Some after) is has in
      let held = ap (bytes_if (size_of plan b)) was in
      counted t there ∙ ap (bytes_in plan old) e ∙ (let h : bytes_in plan old s ≡ bytes_in plan new s = omega (arith, same, held) in h) ∙ ap (bytes_in plan new) (sym e)
  | inr ne ↦ counted t there ∙ sym (bytes_there plan old new s b (Some after) is has t there ne)
]

-- what holds of cells holds of cells that have the same
pub same_ours : (p : Bor Plan) (old new : Cells Stamped) → AreOurs p old → ((i : ℕ) → cell new i ≡ cell old i) → AreOurs p new
same_ours p old new ours same = λ s b copy is held. ours s b copy is (sym (same (place_of p.now s b)) ∙ held)

pub same_counted : (plan : Plan) (old new : Cells Stamped) (sizes : List ℕ) → AreCounted plan old sizes → ((i : ℕ) → cell new i ≡ cell old i) → AreCounted plan new sizes
same_counted plan old new sizes counted same = λ s is.
    counted s is ∙ sym (sum_same (λ k. bytes_if (size_of plan k) (cell new (place_of plan s k))) (λ k. bytes_if (size_of plan k) (cell old (place_of plan s k))) 1 (length plan.blocks)
    (λ k low high. ap (bytes_if (size_of plan k)) (same (place_of plan s k))))

-- a change of a cell, by the space and the block of its place
pub at_place : {T : Type 0} (plan : Plan) (old new : Cells T) (s b c at : ℕ) (item : Option T) → c ≡ b → at ≡ place_of plan s c → HasNew old new at item → HasNew old new (place_of plan s b) item
at_place plan old new s b c at item block is has = subst (λ (n : ℕ). HasNew old new n item) (is ∙ ap (place_of plan s) block) has

pub value_at_place : {T : Type 0} (cells : Cells T) (x : T) (at place : ℕ) → at ≡ place → Some x ≡ cell cells at → cell cells place ≡ Some x
value_at_place cells x at place is value = ap (cell cells) (sym is) ∙ sym value

pub size_by : (plan : Plan) (b c bytes : ℕ) → c ≡ b → bytes ≡ 8 * size_of plan c → bytes ≡ 8 * size_of plan b
size_by plan b c bytes block is = is ∙ ap (λ (n : ℕ). 8 * size_of plan n) block

pub left_of : (kept less bytes : ℕ) → kept ≡ less + bytes → kept - bytes ≡ less
left_of kept less bytes is = omega (arith, is)

pub not_gone : {A : Type 0} (o : Option A) → IsSome o → o ≡ None → ⊥
not_gone None some e = absurd (cc)
not_gone (Some x) some e = absurd (cc)
