-- Worked examples of the definitions: each computes.
use Rattle.std.proofs.Common.{◌≡◌, ℕ, ℤ, pos, negsuc, List, [], ◌∷◌, refl}
use Rattle.dd_views.specs.declared.part.Part.{Part}
use Rattle.dd_views.specs.declared.part.Part.TheVariants.{All, Lower, Upper, UnitLower, UnitUpper, Diag}
use Rattle.dd_views.specs.declared.range.Range.TheVariants.{Steps}
use Rattle.dd_views.specs.declared.span3.Span3.{Span3}
use Rattle.dd_views.specs.declared.view.View.{View}
use Rattle.dd_views.specs.Progression.{bounds_of, number_at}
use Rattle.dd_views.specs.IndexList.{column_list, index_list}
use Rattle.dd_views.specs.Positions.{positions_in}

abbrev spanned : ℕ → ℤ → ℕ → Span3
spanned first step count = record { first = first; step = step; count = count }

-- a view of an array of three rows
abbrev view : Span3 → Span3 → Part → View
view rows cols part = record { array = 1; height = 3; rows = rows; cols = cols; part = part }

abbrev whole : Part → View
whole part = view (spanned 1 (pos 1) 3) (spanned 1 (pos 1) 3) part

-- 4 : -1 : 1 ends at 1, and 0 is beyond
down : number_at (bounds_of (Steps (pos 4) (negsuc 0) (pos 1)) 4) 3 ≡ pos 1
down = refl

all : index_list (whole All) ≡ 0 ∷ 1 ∷ 2 ∷ 3 ∷ 4 ∷ 5 ∷ 6 ∷ 7 ∷ 8 ∷ []
all = refl

lower : index_list (whole Lower) ≡ 0 ∷ 1 ∷ 2 ∷ 4 ∷ 5 ∷ 8 ∷ []
lower = refl

upper : index_list (whole Upper) ≡ 0 ∷ 3 ∷ 4 ∷ 6 ∷ 7 ∷ 8 ∷ []
upper = refl

below : index_list (whole UnitLower) ≡ 1 ∷ 2 ∷ 5 ∷ []
below = refl

above : index_list (whole UnitUpper) ≡ 3 ∷ 6 ∷ 7 ∷ []
above = refl

diagonal : index_list (whole Diag) ≡ 0 ∷ 4 ∷ 8 ∷ []
diagonal = refl

-- a part goes by places in the view, here of rows 2 to 3 and columns 2 to 3
upper_corner : index_list (view (spanned 2 (pos 1) 2) (spanned 2 (pos 1) 2) Upper) ≡ 4 ∷ 7 ∷ 8 ∷ []
upper_corner = refl

-- rows 3 and 1 of columns 2 and 1
turned : index_list (view (spanned 3 (negsuc 1) 2) (spanned 2 (negsuc 0) 2) Lower) ≡ 5 ∷ 3 ∷ 0 ∷ []
turned = refl

-- its first column has both rows, and its second only row 1
abbrev turned_column : ℕ → List ℕ
turned_column j = column_list (view (spanned 3 (negsuc 1) 2) (spanned 2 (negsuc 0) 2) Lower) j

turned_first : turned_column 1 ≡ 5 ∷ 3 ∷ []
turned_first = refl

turned_second : turned_column 2 ≡ 0 ∷ []
turned_second = refl

-- two steps of -2 from 5
stepped_down : positions_in (record { first = 5; step = negsuc 1; count = 3 }) ≡ 5 ∷ 3 ∷ 1 ∷ []
stepped_down = refl
