-- The columns of a part: each keeps some rows that stand one after the other.
use Rattle.std.specs.Prelude.{ℕ, zero, suc, ◌+◌, ◌*◌, ◌-◌}
use Rattle.dd_views.specs.declared.part.Part.{Part}
use Rattle.dd_views.specs.declared.part.Part.TheVariants.{All, Lower, Upper, UnitLower, UnitUpper, Diag}
use Rattle.dd_views.specs.Triangle.{triangle}

-- the first row that the column at the place j keeps
abbrev pub first_row : Part → ℕ → ℕ
first_row All j = 1
first_row Lower j = j
first_row Upper j = 1
first_row UnitLower j = j + 1
first_row UnitUpper j = 1
first_row Diag j = j

-- how many of m rows the column at the place j keeps
abbrev pub row_count : Part → ℕ → ℕ → ℕ
row_count All m j = m
row_count Lower m j = m + 1 - j
row_count Upper m j = j
row_count UnitLower m j = m - j
row_count UnitUpper m j = j - 1
row_count Diag m j = 1

-- how many elements the first c columns keep
abbrev pub elements : Part → ℕ → ℕ → ℕ
elements p m zero = 0
elements p m (suc c) = elements p m c + row_count p m (suc c)

-- how many elements of m rows and n columns the part keeps, where a part has m ≡ n
abbrev pub size_by : Part → ℕ → ℕ → ℕ
size_by All m n = m * n
size_by Lower m n = triangle n
size_by Upper m n = triangle n
size_by UnitLower m n = triangle (n - 1)
size_by UnitUpper m n = triangle (n - 1)
size_by Diag m n = n
