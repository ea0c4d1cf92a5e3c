-- What two runs of numbers have in common.
use Rattle.std.proofs.Common.{◌≡◌, ℕ, ◌+◌, ◌*◌, ◌-◌, ◌<◌, ◌≤◌, ◌^◌, ap, refl, sym, subst, arith}
use Rattle.std.specs.Prelude.{Option, None, Some, MatchOption, SomeIff}
use Rattle.std.proofs.Math.Nat.{mul-le-mul_right}
use Rattle.dd_alias.specs.declared.run.Run.{Run}
use Rattle.dd_alias.specs.Congruence.{HasNoCommon, IsFar, IsLeast, IsLeastCommon, IsMultiple, IsOnWay}
use Rattle.dd_alias.specs.Runs.{IsAhead, IsFirstCommon}
use Rattle.dd_alias.proofs.CongruenceLemmas.{Completes, less}

-- a common number completes the distance of both firsts
pub completing : (a b : Run) (start x : ℕ) → b.first ≤ a.first → Completes b.stride (a.first - b.first) start → (of_a : IsAhead a x) → IsAhead b x → IsOnWay start b.stride (of_a.0 * a.stride)
completing a b start x behind completes of_a of_b =
    (completes (of_a.0 * a.stride)).0 (of_b.0, omega (arith, of_a.1, of_b.1))

pub far_first : (a b : Run) (start : ℕ) → b.first ≤ a.first → Completes b.stride (a.first - b.first) start → IsFar a.stride start b.stride → (x : ℕ) → IsAhead a x → IsAhead b x → 2 ^ 64 ≤ x
far_first a b start behind completes far x of_a of_b =
    omega (arith, far of_a.0 (completing a b start x behind completes of_a of_b), of_a.1)

least_first : (a b : Run) (start turns : ℕ) → b.first ≤ a.first → Completes b.stride (a.first - b.first) start → IsLeast a.stride start b.stride turns → (x : ℕ) → IsAhead a x → IsAhead b x → a.first + turns * a.stride ≤ x
least_first a b start turns behind completes least x of_a of_b =
    let few = least.least of_a.0 (completing a b start x behind completes of_a of_b) in
    omega (arith, mul-le-mul_right {m = turns} {n = of_a.0} a.stride few, of_a.1)

first_at : (a b : Run) (start turns : ℕ) → b.first ≤ a.first → Completes b.stride (a.first - b.first) start → IsLeast a.stride start b.stride turns → IsFirstCommon a b (a.first + turns * a.stride)
first_at a b start turns behind completes least =
    let whole = (completes (turns * a.stride)).1 least.there in
    record {
      of_a = (turns, refl);
      of_b = (whole.0, omega (arith, whole.1));
      least = least_first a b start turns behind completes least;
    }

pub first_of : (a b : Run) (start turns : ℕ) (found : Option ℕ) → b.first ≤ a.first → Completes b.stride (a.first - b.first) start → IsLeast a.stride start b.stride turns → SomeIff found (a.first + turns * a.stride < 2 ^ 64) (a.first + turns * a.stride) → MatchOption found ((x : ℕ) → IsAhead a x → IsAhead b x → 2 ^ 64 ≤ x) (IsFirstCommon a b)
first_of a b start turns None behind completes least some = λ x of_a of_b.
    omega (arith, least_first a b start turns behind completes least x of_a of_b, some)
first_of a b start turns (Some x) behind completes least some =
    subst (λ (y : ℕ). IsFirstCommon a b y) (sym some.1) (first_at a b start turns behind completes least)

-- how far a number that a run comes to is beyond another one
distance : (a : Run) (x y : ℕ) → 0 < a.stride → IsAhead a x → IsAhead a y → x ≤ y → IsMultiple a.stride (y - x)
distance a x y above at_x at_y le =
    less a.stride (at_x.0 * a.stride) (y - x) above (at_y.0, omega (arith, at_x.1, at_y.1)) (at_x.0, refl)

further : (a : Run) (x common n : ℕ) → IsAhead a x → IsMultiple a.stride common → IsAhead a (x + n * common)
further a x common n at_x whole =
    let times : n * common ≡ n * (whole.0 * a.stride) = ap (λ (k : ℕ). n * k) whole.1 in
    (at_x.0 + n * whole.0, omega (arith, at_x.1, times))

-- the common numbers stand in steps of the least common multiple
pub common_on : (a b : Run) (first common x : ℕ) → IsFirstCommon a b first → IsLeastCommon a.stride b.stride common → IsOnWay first common x → IsAhead a x × IsAhead b x
common_on a b first common x is_first least way =
    rw way.1 (further a first common way.0 is_first.of_a least.of_a, further b first common way.0 is_first.of_b least.of_b)

pub on_common : (a b : Run) (first common x : ℕ) → 0 < a.stride → 0 < b.stride → IsFirstCommon a b first → IsLeastCommon a.stride b.stride common → IsAhead a x → IsAhead b x → IsOnWay first common x
on_common a b first common x above_a above_b is_first least of_a of_b =
    let le = is_first.least x of_a of_b in
    let whole = least.least (x - first) (distance a first x above_a is_first.of_a of_a le) (distance b first x above_b is_first.of_b of_b le) in
    (whole.0, omega (arith, whole.1))

pub only_first : (a b : Run) (first x : ℕ) → 0 < a.stride → 0 < b.stride → IsFirstCommon a b first → HasNoCommon a.stride b.stride → IsAhead a x → IsAhead b x → x < 2 ^ 64 → x ≡ first
only_first a b first x above_a above_b is_first none of_a of_b fits =
    let le = is_first.least x of_a of_b in
    omega (arith, none (x - first) (distance a first x above_a is_first.of_a of_a le) (distance b first x above_b is_first.of_b of_b le) (omega arith))
