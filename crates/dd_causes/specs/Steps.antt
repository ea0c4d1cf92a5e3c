-- Steps that may stop: the notation `x ← step` of a definition that gives `None` as soon as one of its steps does.
use Rattle.std.specs.Prelude.{Option, None, Some, option_and_then}

infixl 10 ◌>>=◌
abbrev pub ◌>>=◌ : {A B : Type 0} → Option A → (A → Option B) → Option B
step >>= next = option_and_then next step

-- what follows a step that gave a value, or what stands for it where it gave none
abbrev pub either_way : {A B : Type 0} → Option A → (A → Option B) → Option B → Option B
either_way (Some x) next other = next x
either_way None next other = other
