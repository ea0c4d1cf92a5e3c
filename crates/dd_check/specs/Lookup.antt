-- For which arrays the names of a script stand.
use Rattle.std.specs.Prelude.{◌≡◌, ℕ, List, Option, None, cond}
use Rattle.std.specs.Str.{bytes_eq}
use Rattle.std.specs.HashMap.{get_by}
use Rattle.dd_check.specs.declared.names.Names.{Names}

-- the array of a name, if it has one
abbrev pub array_by : Names → List ℕ → Option ℕ
array_by names name = get_by (λ key. bytes_eq name key.items) names.numbers

abbrev pub NamesNothing : Names → Type 0
NamesNothing names = (name : List ℕ) → array_by names name ≡ None

-- the name stands for this now, and every other for what it did
abbrev pub Renames : Names → Names → List ℕ → Option ℕ → Type 0
Renames old new name array = (other : List ℕ) → array_by new other ≡ cond (bytes_eq other name) array (array_by old other)
