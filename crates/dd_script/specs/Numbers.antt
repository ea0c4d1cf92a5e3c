-- The numbers that a line may have.
use Rattle.std.specs.Prelude.{ℤ, pos, negsuc, Bool, true, false, ◌&&◌, nat_le, Option, None, Some}
use Rattle.std.specs.List.{list_all}
use Rattle.dd_blocks.specs.Limits.{space_limit}
use Rattle.dd_script.specs.declared.index.Index.{Index}
use Rattle.dd_script.specs.declared.index.Index.TheVariants.{All, One, Run, Steps}
use Rattle.dd_script.specs.declared.viewed.Viewed.{Viewed}
use Rattle.dd_script.specs.declared.viewed.Viewed.TheVariants.{Whole, Indexed}
use Rattle.dd_script.specs.declared.argument.Argument.{Argument}
use Rattle.dd_script.specs.declared.argument.Argument.TheVariants.{Bare, OneWord, TwoWords, WithPairs}
use Rattle.dd_script.specs.declared.filling.Filling.{Filling}
use Rattle.dd_script.specs.declared.filling.Filling.TheVariants.{Zeros, Const, Iota, Lcg}
use Rattle.dd_script.specs.declared.written.Written.{Written}
use Rattle.dd_script.specs.declared.written.Written.TheVariants.{Space, Proc, PolicyIs, PlaceIs, Array, Same, Drop, MoveTo, Region, Task, End, Print, Sum, Moved}
use Rattle.dd_script.specs.Int64.{fits_int64}

-- the bytes of a space
abbrev pub is_limit : ℤ → Bool
is_limit (pos n) = nat_le 1 n && nat_le n space_limit
is_limit (negsuc n) = false

abbrev pub index_fits : Index → Bool
index_fits All = true
index_fits (One i) = fits_int64 i
index_fits (Run a b) = fits_int64 a && fits_int64 b
index_fits (Steps a s b) = fits_int64 a && fits_int64 s && fits_int64 b

abbrev pub view_fits : Viewed → Bool
view_fits (Whole name) = true
view_fits (Indexed name rows cols) = index_fits rows && index_fits cols

abbrev pub argument_fits : Argument → Bool
argument_fits (Bare v) = view_fits v
argument_fits (OneWord w v) = view_fits v
argument_fits (TwoWords w u v) = view_fits v
argument_fits (WithPairs w v p ps) = view_fits v

abbrev pub filling_fits : Filling → Bool
filling_fits Zeros = true
filling_fits (Const k) = fits_int64 k
filling_fits Iota = true
filling_fits (Lcg k) = fits_int64 k

abbrev pub scalar_fits : Option ℤ → Bool
scalar_fits None = true
scalar_fits (Some k) = fits_int64 k

-- each number is an Int64, and the limit of a space is one
abbrev pub numbers_fit : Written → Bool
numbers_fit (Space name limit) = is_limit limit
numbers_fit (Array name rows cols brows bcols f) =
    fits_int64 rows && fits_int64 cols && fits_int64 brows && fits_int64 bcols && filling_fits f
numbers_fit (Task kernel scalar arguments) = scalar_fits scalar && list_all argument_fits arguments
numbers_fit (Proc name on) = true
numbers_fit (PolicyIs p) = true
numbers_fit (PlaceIs r) = true
numbers_fit (Same name old) = true
numbers_fit (Drop name) = true
numbers_fit (MoveTo name to) = true
numbers_fit Region = true
numbers_fit End = true
numbers_fit (Print name) = true
numbers_fit (Sum name) = true
numbers_fit Moved = true
