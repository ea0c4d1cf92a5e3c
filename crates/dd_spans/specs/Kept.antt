-- Which numbers are kept: cited by a private contract alone.
use Rattle.std.specs.Prelude.{ℕ, Bool, true, false, not, List}
use Rattle.dd_spans.specs.Numbers.{is_among}

-- whether n is in the list, or whether it isn't
abbrev pub is_kept : Bool → List ℕ → ℕ → Bool
is_kept true ns n = is_among ns n
is_kept false ns n = not (is_among ns n)
