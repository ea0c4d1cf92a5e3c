-- Multiples, and numbers that make multiples of others.
use Rattle.std.proofs.Common.{◌≡◌, ◌≢◌, ℕ, ◌+◌, ◌*◌, ◌-◌, ◌/◌, ◌%◌, ◌<◌, ◌≤◌, ◌^◌, ◌↔◌, ⊎_elim, ap, sym, refl, subst, arith}
use Rattle.std.specs.Prelude.{Option, None, Some, MatchOption, SomeIff}
use Rattle.std.proofs.Math.Nat.{le_of_mul-le-mul_right, mul-le-mul_left, mul-le-mul_right, mod-le}
use Rattle.std.proofs.lemmas.Bool.{cases_eq}
use Rattle.std.proofs.lemmas.Nat.{div-add-mod', mod_below}
use Rattle.dd_views.proofs.WayLemmas.{exact}
use Rattle.dd_alias.specs.Congruence.{HasNoCommon, IsFar, IsLeast, IsLeastCommon, IsMultiple, IsOnWay}

pub more : (s a b : ℕ) → IsMultiple s a → IsMultiple s b → IsMultiple s (a + b)
more s a b first second = (first.0 + second.0, omega (arith, first.1, second.1))

pub less : (s a b : ℕ) → 0 < s → IsMultiple s (a + b) → IsMultiple s a → IsMultiple s b
less s a b above all first =
    let le : first.0 ≤ all.0 = le_of_mul-le-mul_right {m = first.0} {n = all.0} {k = s} (omega (arith, all.1, first.1)) above in
    let same : all.0 ≡ first.0 + (all.0 - first.0) = omega arith in
    let parts : all.0 * s ≡ (first.0 + (all.0 - first.0)) * s = ap (λ (n : ℕ). n * s) same in
    (all.0 - first.0, omega (arith, parts, all.1, first.1))

pub completes_multiple : (number step x : ℕ) → 0 < step → number % step ≡ 0 → IsMultiple step (number + x) ↔ IsOnWay 0 step x
completes_multiple number step x above whole =
    let here : IsMultiple step number = (number / step, omega (arith, div-add-mod' number step)) in (
      (λ all. let rest = less step number x above all here in (rest.0, omega (arith, rest.1))),
      (λ way. more step number x here (way.0, omega (arith, way.1))),
    )

pub completes_rest : (number step x : ℕ) → 0 < step → number % step ≢ 0 → IsMultiple step (number + x) ↔ IsOnWay (step - number % step) step x
completes_rest number step x above some =
    let split = div-add-mod' number step in
    let below = mod_below number step above in (
      (λ all.
          let rest : IsMultiple step (number % step + x) = less step (number / step * step) (number % step + x) above (all.0, omega (arith, all.1, split)) (number / step, refl) in
          let one : rest.0 ≢ 0 = λ none. some (let zero : rest.0 * step ≡ 0 * step = ap (λ (n : ℕ). n * step) none in omega (arith, zero, rest.1)) in
          let same : rest.0 ≡ 1 + (rest.0 - 1) = omega arith in
          let parts : rest.0 * step ≡ (1 + (rest.0 - 1)) * step = ap (λ (n : ℕ). n * step) same in
          (rest.0 - 1, omega (arith, parts, rest.1))),
      (λ way. (number / step + 1 + way.0, omega (arith, way.1, split))),
    )

-- some times q is a multiple of s beyond c, where so many times the rest of q is
pub reduced : (s c q n : ℕ) → 0 < s → IsMultiple s (c + n * q) ↔ IsMultiple s (c + n * (q % s))
reduced s c q n above =
    let split : n * q ≡ n * (q / s * s + q % s) = ap (λ (k : ℕ). n * k) (sym (div-add-mod' q s)) in
    let whole : IsMultiple s (n * (q / s) * s) = (n * (q / s), refl) in (
      (λ all. less s (n * (q / s) * s) (c + n * (q % s)) above (all.0, omega (arith, all.1, split)) whole),
      (λ rest. let all = more s (n * (q / s) * s) (c + n * (q % s)) whole rest in (all.0, omega (arith, all.1, split))),
    )

-- what makes a multiple of s of a number
abbrev pub Completes : ℕ → ℕ → ℕ → Type 0
Completes s number back = (x : ℕ) → IsMultiple s (number + x) ↔ IsOnWay back s x

-- the smaller question behind one, and back
pub inner : (s start step back k : ℕ) → 0 < s → Completes s start back → (way : IsOnWay start step (k * s)) → IsOnWay back s (way.0 * (step % s))
inner s start step back k above completes way =
    (completes (way.0 * (step % s))).0 ((reduced s start step way.0 above).0 (k, sym way.1))

pub outer : (s start step back n : ℕ) → 0 < s → Completes s start back → IsOnWay back s (n * (step % s)) → IsMultiple s (start + n * step)
outer s start step back n above completes way =
    (reduced s start step n above).1 ((completes (n * (step % s))).1 way)

pub far_inside : (s start step back : ℕ) → 0 < s → Completes s start back → IsFar (step % s) back s → IsFar s start step
far_inside s start step back above completes far = λ k way.
    let there = far way.0 (inner s start step back k above completes way) in
    let le : way.0 * (step % s) ≤ way.0 * step = mul-le-mul_left way.0 (mod-le step s) in
    omega (arith, there, le, way.1)

-- the way to the least is no longer than the way to any
pub least_way : (s start step back n k : ℕ) → 0 < s → Completes s start back → IsLeast (step % s) back s n → IsOnWay start step (k * s) → n * step + start ≤ k * s
least_way s start step back n k above completes least way =
    let few = least.least way.0 (inner s start step back k above completes way) in
    omega (arith, mul-le-mul_right {m = n} {n = way.0} step few, way.1)

pub least_outside : (s start step back n : ℕ) → 0 < s → Completes s start back → IsLeast (step % s) back s n → n * step + start < 2 ^ 64 → IsLeast s start step ((n * step + start) / s)
least_outside s start step back n above completes least fits =
    let whole = outer s start step back n above completes least.there in
    let turns : (n * step + start) / s ≡ whole.0 = exact whole.0 s (n * step + start) above (omega (arith, whole.1)) in
    rw turns (record {
      there = (n, omega (arith, whole.1));
      fits = omega (arith, whole.1);
      least = λ k way. le_of_mul-le-mul_right {m = whole.0} {n = k} {k = s} (omega (arith, whole.1, least_way s start step back n k above completes least way)) above;
    })

-- one time a less than a common multiple
pub one_less : (a b back n : ℕ) → Completes b a back → IsMultiple b (n * a) → n ≢ 0 → IsOnWay back b ((n - 1) * a)
one_less a b back n completes all some =
    let same : n ≡ 1 + (n - 1) = omega arith in
    let parts : n * a ≡ (1 + (n - 1)) * a = ap (λ (k : ℕ). k * a) same in
    (completes ((n - 1) * a)).0 (all.0, omega (arith, parts, all.1))

none_at : (a b back n : ℕ) → Completes b a back → IsFar a back b → IsMultiple b (n * a) → n * a < 2 ^ 64 → n * a ≡ 0
none_at a b back n completes far all fits = ⊎_elim
    (λ (none : n ≡ 0). let zero : n * a ≡ 0 * a = ap (λ (k : ℕ). k * a) none in omega (arith, zero))
    (λ (some : n ≢ 0).
    let there = far (n - 1) (one_less a b back n completes all some) in
    let le : (n - 1) * a ≤ n * a = mul-le-mul_right {m = n - 1} {n = n} a (omega arith) in
    absurd (omega arith))
    (cases_eq n 0)

pub far_common : (a b back : ℕ) → Completes b a back → IsFar a back b → HasNoCommon a b
far_common a b back completes far = λ x of_a of_b fits.
    let none = none_at a b back of_a.0 completes far (of_b.0, omega (arith, of_a.1, of_b.1)) (omega (arith, of_a.1)) in
    omega (arith, none, of_a.1)

-- a common multiple above 0 is at least one stride beyond the least turns
pub beyond_least : (a b back turns n : ℕ) → Completes b a back → IsLeast a back b turns → IsMultiple b (n * a) → n ≢ 0 → turns + 1 ≤ n
beyond_least a b back turns n completes least all some =
    omega (arith, least.least (n - 1) (one_less a b back n completes all some))

large_at : (a b back turns n : ℕ) → Completes b a back → IsLeast a back b turns → ¬ (turns * a + a < 2 ^ 64) → IsMultiple b (n * a) → n * a < 2 ^ 64 → n * a ≡ 0
large_at a b back turns n completes least large all fits = ⊎_elim
    (λ (none : n ≡ 0). let zero : n * a ≡ 0 * a = ap (λ (k : ℕ). k * a) none in omega (arith, zero))
    (λ (some : n ≢ 0).
    let le : (turns + 1) * a ≤ n * a = mul-le-mul_right {m = turns + 1} {n = n} a (beyond_least a b back turns n completes least all some) in
    absurd (large (omega arith)))
    (cases_eq n 0)

pub large_common : (a b back turns : ℕ) → Completes b a back → IsLeast a back b turns → ¬ (turns * a + a < 2 ^ 64) → HasNoCommon a b
large_common a b back turns completes least large = λ x of_a of_b fits.
    let none = large_at a b back turns of_a.0 completes least large (of_b.0, omega (arith, of_a.1, of_b.1)) (omega (arith, of_a.1)) in
    omega (arith, none, of_a.1)

-- the turns behind the last common multiple lead nowhere
no_rest : (a b back turns n : ℕ) → Completes b a back → IsLeast a back b turns → IsMultiple b (n * a) → n < turns + 1 → n ≡ 0
no_rest a b back turns n completes least all few = ⊎_elim
    (λ (none : n ≡ 0). none)
    (λ (some : n ≢ 0). absurd (omega (arith, beyond_least a b back turns n completes least all some)))
    (cases_eq n 0)

pub least_common_of : (a b back turns : ℕ) → 0 < a → 0 < b → Completes b a back → IsLeast a back b turns → IsLeastCommon a b (turns * a + a)
least_common_of a b back turns above_a above_b completes least =
    let of_b : IsMultiple b (a + turns * a) = (completes (turns * a)).1 least.there in
    record {
      above = omega arith;
      of_a = (turns + 1, omega arith);
      of_b = (of_b.0, omega (arith, of_b.1));
      least = λ x is_a is_b.
          let d = is_a.0 / (turns + 1) in
          let r = is_a.0 % (turns + 1) in
          let split : d * (turns + 1) + r ≡ is_a.0 = div-add-mod' is_a.0 (turns + 1) in
          let parts : (d * (turns + 1) + r) * a ≡ is_a.0 * a = ap (λ (k : ℕ). k * a) split in
          let rest : IsMultiple b (r * a) = less b (d * (turns * a + a)) (r * a) above_b (is_b.0, omega (arith, parts, is_a.1, is_b.1)) (d * of_b.0, omega (arith, ap (λ (k : ℕ). d * k) of_b.1)) in
          let none : r ≡ 0 = no_rest a b back turns r completes least rest (mod_below is_a.0 (turns + 1) (omega arith)) in
          let zero : r * a ≡ 0 * a = ap (λ (k : ℕ). k * a) none in
          (d, omega (arith, parts, is_a.1, zero));
    }

pub common_of : (a b back turns : ℕ) (found : Option ℕ) → 0 < a → 0 < b → Completes b a back → IsLeast a back b turns → SomeIff found (turns * a + a < 2 ^ 64) (turns * a + a) → MatchOption found (HasNoCommon a b) (IsLeastCommon a b)
common_of a b back turns None above_a above_b completes least some = large_common a b back turns completes least some
common_of a b back turns (Some common) above_a above_b completes least some =
    subst (λ (l : ℕ). IsLeastCommon a b l) (sym some.1) (least_common_of a b back turns above_a above_b completes least)
