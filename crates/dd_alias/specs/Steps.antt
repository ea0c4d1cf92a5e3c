-- Pieces of extents one after another, of which some may be passed over at once.
use Rattle.std.specs.Prelude.{◌≡◌, ℕ, ◌<◌, ◌≤◌, List, length, slice_index_or}
use Rattle.std.specs.List.{flat_map}
use Rattle.dd_alias.specs.declared.extent.Extent.{Extent}
use Rattle.dd_alias.specs.declared.step.Step.{Step}
use Rattle.dd_alias.specs.Frames.{AreInside}

abbrev pub extents_in : List (List Extent) → List Extent
extents_in pieces = flat_map (λ (p : List Extent). p) pieces

-- there is a step for each piece: it leads on, one frame of it is around its own piece, and one around all pieces from that
-- on, before the one that it leads to
pub record AreSteps (pieces : List (List Extent)) (steps : List Step) : Type 0 where
  pub count : length steps ≡ length pieces
  pub leads : (k : ℕ) (d : Step) → k < length steps → k < (slice_index_or steps k d).next
  pub inside : (k j : ℕ) (d : Step) (p : List Extent) → k < length steps → k ≤ j → j < (slice_index_or steps k d).next → j < length pieces
      → AreInside (slice_index_or steps k d).frame (slice_index_or pieces j p)
  pub own : (k : ℕ) (d : Step) (p : List Extent) → k < length steps → AreInside (slice_index_or steps k d).own (slice_index_or pieces k p)
