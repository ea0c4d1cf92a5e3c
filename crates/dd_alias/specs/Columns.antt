-- Between which rows a part keeps all of some, by the row on the diagonal.
use Rattle.std.specs.Prelude.{ℕ, ◌+◌, ◌-◌, if◌then◌else◌, ◌==◌}
use Rattle.dd_views.specs.declared.part.Part.{Part}
use Rattle.dd_views.specs.declared.part.Part.TheVariants.{All, Lower, Upper, UnitLower, UnitUpper, Diag}

-- the bounds for the row d on the diagonal, where the next rows are so far up and so far down
abbrev pub low_of : Part → ℕ → ℕ → ℕ → ℕ
low_of All d up first = first
low_of Lower d up first = d + up
low_of Upper d up first = first
low_of UnitLower d up first = d + up
low_of UnitUpper d up first = first
low_of Diag d up first = d + up

abbrev pub high_of : Part → ℕ → ℕ → ℕ → ℕ
high_of All d down last = last
high_of Lower d down last = last
high_of Upper d down last = d - down
high_of UnitLower d down last = last
high_of UnitUpper d down last = d - down
high_of Diag d down last = d - down

-- the way to the next row, but for the diagonal itself where the part doesn't keep it
abbrev pub beyond_of : Part → ℕ → ℕ → ℕ
beyond_of All way gap = way
beyond_of Lower way gap = way
beyond_of Upper way gap = way
beyond_of UnitLower way gap = if way == 0 then gap else way
beyond_of UnitUpper way gap = if way == 0 then gap else way
beyond_of Diag way gap = way
