-- The numbers that a range lists, by how far they are from its first.
use Rattle.std.proofs.Common.{◌≡◌, ℕ, ◌+◌, ◌*◌, ◌/◌, ◌<◌, ◌≤◌, ℤ, pos, ◌+ℤ◌, ◌-ℤ◌, ◌*ℤ◌, ◌<ℤ◌, ◌≤ℤ◌, inl, inr, refl, arith, unsigned_abs, ⊎_elim, subst}
use Rattle.std.proofs.lemmas.Int.{ints}
use Rattle.std.proofs.lemmas.Nat.{mul-le, div-add-mod'}
use Rattle.std.proofs.lemmas.Bool.{cases_lt}
use Rattle.dd_views.specs.declared.bounds.Bounds.{Bounds}
use Rattle.dd_views.specs.Progression.{HasPassed, IsBadRange, IsWithin, ListsCount, number_at}
use Rattle.dd_views.specs.Room.{IsOpen, IsRoom}
use Rattle.dd_views.proofs.SignedLemmas.{step_cases, le_from, not_both, times_none, times_up, times_down, size_up, size_down}

-- a quotient by what it is
pub quotient : (d s : ℕ) → 0 < s → (d / s * s ≤ d) × (d < (d / s + 1) * s)
quotient d s h = (omega (arith, div-add-mod' d s), omega (arith, div-add-mod' d s))

passed_up : (f s l : ℤ) (i : ℕ) → pos 0 <ℤ s → f ≤ℤ l → (l <ℤ (f +ℤ pos i *ℤ s) → unsigned_abs (l -ℤ f) < i * unsigned_abs s) × (unsigned_abs (l -ℤ f) < i * unsigned_abs s → l <ℤ (f +ℤ pos i *ℤ s))
passed_up f s l i up le =
    let far = size_up (l -ℤ f) (omega (arith, ints)) in
    let gone = times_up i s up in
    ((λ p. omega (arith, ints)), (λ p. omega (arith, ints)))

passed_down : (f s l : ℤ) (i : ℕ) → s <ℤ pos 0 → l ≤ℤ f → ((f +ℤ pos i *ℤ s) <ℤ l → unsigned_abs (l -ℤ f) < i * unsigned_abs s) × (unsigned_abs (l -ℤ f) < i * unsigned_abs s → (f +ℤ pos i *ℤ s) <ℤ l)
passed_down f s l i down le =
    let far = size_down (l -ℤ f) (omega (arith, ints)) in
    let gone = times_down i s down in
    ((λ p. omega (arith, ints)), (λ p. omega (arith, ints)))

within_up : (f s : ℤ) (n room i : ℕ) → pos 0 <ℤ s → IsWithin n f → pos room ≡ pos n -ℤ f → (IsWithin n (f +ℤ pos i *ℤ s) → i * unsigned_abs s ≤ room) × (i * unsigned_abs s ≤ room → IsWithin n (f +ℤ pos i *ℤ s))
within_up f s n room i up inside far =
    let gone = times_up i s up in
    ((λ p. omega (arith, ints)), (λ p. (omega (arith, ints), omega (arith, ints))))

within_down : (f s : ℤ) (n room i : ℕ) → s <ℤ pos 0 → IsWithin n f → pos room ≡ f -ℤ pos 1 → (IsWithin n (f +ℤ pos i *ℤ s) → i * unsigned_abs s ≤ room) × (i * unsigned_abs s ≤ room → IsWithin n (f +ℤ pos i *ℤ s))
within_down f s n room i down inside far =
    let gone = times_down i s down in
    ((λ p. omega (arith, ints)), (λ p. (omega (arith, ints), omega (arith, ints))))

-- a number of such a range is passed just where it is further than the last one
pub record Reaches (b : Bounds) (length room i : ℕ) : Type 0 where
  pub passed : HasPassed b (number_at b i) → unsigned_abs (b.last -ℤ b.first) < i * unsigned_abs b.step
  pub far : unsigned_abs (b.last -ℤ b.first) < i * unsigned_abs b.step → HasPassed b (number_at b i)
  pub inside : IsWithin length (number_at b i) → i * unsigned_abs b.step ≤ room
  pub near : i * unsigned_abs b.step ≤ room → IsWithin length (number_at b i)

pub reaches : (b : Bounds) (length room i : ℕ) → IsOpen b length → IsRoom b length room → Reaches b length room i
reaches b length room i is_open has_room =
    ⊎_elim
    (λ up.
    let le : b.first ≤ℤ b.last = le_from (b.first) (b.last) (λ p. is_open.begins (inl (up, p))) in
    let passes = passed_up b.first b.step b.last i up le in
    let stays = within_up b.first b.step length room i up is_open.within (has_room.up up) in
    record {
      passed = λ p. ⊎_elim (λ q. passes.0 q.1) (λ q. absurd (not_both b.step up q.0)) p;
      far = λ p. inl (up, passes.1 p);
      inside = stays.0;
      near = stays.1;
    })
    (λ down.
    let le : b.last ≤ℤ b.first = le_from (b.last) (b.first) (λ p. is_open.begins (inr (down, p))) in
    let passes = passed_down b.first b.step b.last i down le in
    let stays = within_down b.first b.step length room i down is_open.within (has_room.down down) in
    record {
      passed = λ p. ⊎_elim (λ q. absurd (not_both b.step q.0 down)) (λ q. passes.0 q.1) p;
      far = λ p. inr (down, passes.1 p);
      inside = stays.0;
      near = stays.1;
    })
    (step_cases b.step is_open.nonzero)

-- where the last jump stays within, so does the range
pub counts : (b : Bounds) (length room jumps : ℕ) → IsOpen b length → IsRoom b length room → jumps * unsigned_abs b.step ≤ unsigned_abs (b.last -ℤ b.first) → unsigned_abs (b.last -ℤ b.first) < (jumps + 1) * unsigned_abs b.step → ListsCount b (jumps + 1)
counts b length room jumps is_open has_room before behind = record {
  listed = λ i lt p. absurd (omega (arith, (reaches b length room i is_open has_room).passed p, mul-le i (unsigned_abs b.step) jumps (unsigned_abs b.step) (omega arith) (omega arith)));
  ended = (reaches b length room (jumps + 1) is_open has_room).far behind;
}

-- how many jumps a number may be from the first
jumps_at_most : (d s i jumps : ℕ) → i * s ≤ d → d < (jumps + 1) * s → i ≤ jumps
jumps_at_most d s i jumps le lt = ⊎_elim (λ (l : i < jumps + 1). omega arith) (λ (g : jumps + 1 ≤ i). absurd (omega (arith, mul-le (jumps + 1) s i s g (omega arith)))) (cases_lt i (jumps + 1))

pub stays_within : (b : Bounds) (length room jumps : ℕ) → IsOpen b length → IsRoom b length room → unsigned_abs (b.last -ℤ b.first) < (jumps + 1) * unsigned_abs b.step → jumps * unsigned_abs b.step ≤ room → ¬ IsBadRange b length
stays_within b length room jumps is_open has_room behind near bad =
    ⊎_elim (λ zero_step. is_open.nonzero zero_step)
    (λ outside.
    let i = outside.1.0 in
    let reach = reaches b length room i is_open has_room in
    ⊎_elim
    (λ (gone : unsigned_abs (b.last -ℤ b.first) < i * unsigned_abs b.step). outside.1.2 (subst (λ (x : ℤ). HasPassed b x) outside.1.1 (reach.far gone)))
    (λ (here : i * unsigned_abs b.step ≤ unsigned_abs (b.last -ℤ b.first)).
    let few = jumps_at_most _ (unsigned_abs b.step) i jumps here behind in
    outside.2 (subst (λ (x : ℤ). IsWithin length x) outside.1.1 (reach.near (omega (arith, mul-le i (unsigned_abs b.step) jumps (unsigned_abs b.step) few (omega arith))))))
    (cases_lt (unsigned_abs (b.last -ℤ b.first)) (i * unsigned_abs b.step)))
    bad

pub leaves : (b : Bounds) (length room jumps : ℕ) → IsOpen b length → IsRoom b length room → jumps * unsigned_abs b.step ≤ unsigned_abs (b.last -ℤ b.first) → room < jumps * unsigned_abs b.step → IsBadRange b length
leaves b length room jumps is_open has_room before beyond =
    let reach = reaches b length room jumps is_open has_room in
    inr (number_at b jumps, (jumps, refl, λ p. absurd (omega (arith, reach.passed p))), λ p. absurd (omega (arith, reach.inside p)))

-- a range that isn't empty lists its first number
pub begins_outside : (b : Bounds) (length : ℕ) → ¬ HasPassed b b.first → ¬ IsWithin length b.first → IsBadRange b length
begins_outside b length begins outside = inr (b.first, (0, omega (arith, ints, times_none b.step), begins), outside)
