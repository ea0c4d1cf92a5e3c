-- How many values the arrays of a world have.
use Rattle.std.proofs.Common.{◌≡◌, ℕ, zero, suc, List, [], ◌∷◌, length, get_or, refl, sym, ap, ◌∙◌}
use Rattle.std.proofs.lemmas.List.{length-map}
use Rattle.dd_blocks.specs.declared.array_row.ArrayRow.{ArrayRow}
use Rattle.dd_blocks.specs.Grids.{element_count}
use Rattle.dd_blocks.specs.Numbered.{numbered, no_array}
use Rattle.dd_meaning.specs.Worlds.{World, values_of}
use Rattle.dd_meaning.proofs.WorldLemmas.{length_numbered}
use Rattle.dd_plain.specs.Sizes.{HasSizes, sizes_in}

size_at : (arrays : List ArrayRow) (i : ℕ) → element_count (get_or arrays i no_array).grid ≡ get_or (sizes_in arrays) i 0
size_at [] i = refl
size_at (x ∷ arrays) zero = refl
size_at (x ∷ arrays) (suc i) = size_at arrays i

size_numbered : (arrays : List ArrayRow) (n : ℕ) → element_count (numbered no_array arrays n).grid ≡ numbered 0 (sizes_in arrays) n
size_numbered arrays zero = refl
size_numbered arrays (suc n) = size_at arrays n

pub has_size : (arrays : List ArrayRow) (world : World) (n : ℕ) → HasSizes arrays world → length (values_of world n) ≡ element_count (numbered no_array arrays n).grid
has_size arrays world n sizes = length_numbered world n ∙ ap (λ (l : List ℕ). numbered 0 l n) sizes ∙ sym (size_numbered arrays n)

pub as_many : (arrays : List ArrayRow) (world : World) → HasSizes arrays world → length world ≡ length arrays
as_many arrays world sizes = sym (length-map world length) ∙ ap length sizes ∙ length-map arrays (λ (a : ArrayRow). element_count a.grid)
