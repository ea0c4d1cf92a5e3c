-- What a definition by steps tells of each step, where it gives a value.
use Rattle.std.proofs.Common.{◌≡◌, Bool, true, false, cond, Option, None, Some, refl, ◌⊎◌, inl, inr}
use Rattle.dd_causes.specs.Steps.{◌>>=◌, either_way}

-- a step gave its value, and the next step the result
pub bind_some : {A B : Type 0} (step : Option A) (next : A → Option B) (y : B) → (step >>= next) ≡ Some y → (x : A) × (step ≡ Some x) × (next x ≡ Some y)
bind_some None next y e = absurd (cc)
bind_some (Some x) next y e = (x, refl, e)

-- a test that had to hold
pub guard_some : {A : Type 0} (test : Bool) (rest : Option A) (y : A) → cond test rest None ≡ Some y → (test ≡ true) × (rest ≡ Some y)
guard_some true rest y e = (refl, e)
guard_some false rest y e = absurd (cc)

-- which way a test went
pub chosen : {A : Type 0} (test : Bool) (x y z : A) → cond test x y ≡ z → ((test ≡ true) × (x ≡ z)) ⊎ ((test ≡ false) × (y ≡ z))
chosen true x y z e = inl (refl, e)
chosen false x y z e = inr (refl, e)

-- which way a step went
pub which_way : {A B : Type 0} (step : Option A) (next : A → Option B) (other : Option B) (y : B) → either_way step next other ≡ Some y → ((x : A) × (step ≡ Some x) × (next x ≡ Some y)) ⊎ ((step ≡ None) × (other ≡ Some y))
which_way None next other y e = inr (refl, e)
which_way (Some x) next other y e = inl (x, refl, e)
