-- The accesses that the arguments of a task stand for.
use Rattle.std.specs.Prelude.{ℕ, List, [], ◌∷◌, ◌++◌, Option, None, Some, codes, if◌then◌else◌}
use Rattle.std.specs.Str.{bytes_eq}
use Rattle.dd_causes.specs.Steps.{◌>>=◌, either_way}
use Rattle.dd_kernels.specs.declared.signature.Mode.{Mode}
use Rattle.dd_kernels.specs.declared.signature.Mode.TheVariants.{Read, Write, Both}
use Rattle.dd_views.specs.declared.range.Range.{Range}
use Rattle.dd_views.specs.declared.range.Range.TheVariants as range
use Rattle.dd_views.specs.declared.part.Part.{Part}
use Rattle.dd_views.specs.declared.part.Part.TheVariants.{All, Lower, Upper, UnitLower, UnitUpper, Diag}
use Rattle.dd_script.specs.declared.index.Index.{Index}
use Rattle.dd_script.specs.declared.index.Index.TheVariants as index
use Rattle.dd_script.specs.declared.viewed.Viewed.{Viewed}
use Rattle.dd_script.specs.declared.viewed.Viewed.TheVariants.{Whole, Indexed}
use Rattle.dd_script.specs.declared.pair.Pair.{Pair}
use Rattle.dd_script.specs.declared.argument.Argument.{Argument}
use Rattle.dd_script.specs.declared.argument.Argument.TheVariants.{Bare, OneWord, TwoWords, WithPairs}
use Rattle.dd_script.specs.declared.piece.Piece.{Piece}

-- the access words
unfoldable pub mode_named : List ℕ → Option Mode
mode_named w =
    if bytes_eq w (codes "In") then Some Read else
    (if bytes_eq w (codes "Out") then Some Write else
    (if bytes_eq w (codes "InOut") then Some Both else None))

-- the words for the parts
unfoldable pub part_named : List ℕ → Option Part
part_named w =
    if bytes_eq w (codes "all") then Some All else
    (if bytes_eq w (codes "lower") then Some Lower else
    (if bytes_eq w (codes "upper") then Some Upper else
    (if bytes_eq w (codes "unitlower") then Some UnitLower else
    (if bytes_eq w (codes "unitupper") then Some UnitUpper else
    (if bytes_eq w (codes "diag") then Some Diag else None)))))

abbrev pub range_of : Index → Range
range_of index.All = range.All
range_of (index.One i) = range.One i
range_of (index.Run a b) = range.Run a b
range_of (index.Steps a s b) = range.Steps a s b

-- a part of a view; a name alone stands for all rows and all columns
abbrev pub piece : Mode → Viewed → Part → Piece
piece mode (Whole name) part = record { mode = mode; name = name; rows = range.All; cols = range.All; part = part }
piece mode (Indexed name rows cols) part = record { mode = mode; name = name; rows = range_of rows; cols = range_of cols; part = part }

-- an access word and a part
unfoldable pub pair_piece : Viewed → List ℕ → List ℕ → Option Piece
pair_piece v access part = do
  mode ← mode_named access
  p ← part_named part
  Some (piece mode v p)

-- one word is an access word, or a part, which then is read
unfoldable pub word_piece : List ℕ → Viewed → Option Piece
word_piece w v =
    either_way (mode_named w) (λ mode. Some (piece mode v All)) (part_named w >>= λ part. Some (piece Read v part))

-- what each item gives, in order, where each gives something
unfoldable pub gathered : {A B : Type 0} → (A → Option (List B)) → List A → Option (List B)
gathered f [] = Some []
gathered f (x ∷ xs) = do
  first ← f x
  more ← gathered f xs
  Some (first ++ more)

abbrev pub only : {A : Type 0} → Option A → Option (List A)
only step = step >>= λ x. Some (x ∷ [])

-- each pair of words behind `Deps`
unfoldable pub deps_pieces : List ℕ → Viewed → List Pair → Option (List Piece)
deps_pieces w v ps =
    if bytes_eq w (codes "Deps") then gathered (λ (q : Pair). only (pair_piece v q.access q.part)) ps else None

-- the accesses of an argument, or `None` where a word is unknown
unfoldable pub pieces_of : Argument → Option (List Piece)
pieces_of (Bare v) = Some (piece Read v All ∷ [])
pieces_of (OneWord w v) = only (word_piece w v)
pieces_of (TwoWords w u v) = only (pair_piece v w u)
pieces_of (WithPairs w v p ps) = deps_pieces w v (p ∷ ps)
