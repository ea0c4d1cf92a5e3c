-- What stands inside a frame.
use Rattle.std.proofs.Common.{◌≡◌, ◌<◌, ◌≤◌, ◌+◌, ℕ, List, length, get_or, take, subst, arith}
use Rattle.std.specs.List.{All}
use Rattle.std.proofs.lemmas.List.Elements.{All-more, All-weaker}
use Rattle.dd_alias.specs.declared.extent.Extent.{Extent}
use Rattle.dd_alias.specs.declared.frame.Frame.{Frame}
use Rattle.dd_alias.specs.declared.interval.Interval.{Interval}
use Rattle.dd_alias.specs.Extents.{Face}
use Rattle.dd_alias.specs.Frames.{AreInside, IsInside}
use Rattle.dd_alias.specs.Intervals.{IsAround, Meet}

-- an interval around another one meets what that one meets
pub wider_meets : (wide narrow other : Interval) → IsAround wide narrow → Meet narrow other → Meet wide other
wider_meets wide narrow other around meets = (omega (arith, around.0, meets.0), omega (arith, around.1, meets.1))

wider_still : (wide narrow other : Interval) → IsAround wide narrow → IsAround narrow other → IsAround wide other
wider_still wide narrow other around inner = (omega (arith, around.0, inner.0), omega (arith, around.1, inner.1))

-- a frame that is as wide or wider is around what the other one is around
pub wider_inside : (wide narrow : Frame) (e : Extent) → wide.first_array ≤ narrow.first_array → narrow.last_array ≤ wide.last_array → IsAround wide.rows narrow.rows → IsAround wide.cols narrow.cols
    → IsInside narrow e → IsInside wide e
wider_inside wide narrow e first last rows cols inside = record {
  first = omega (arith, first, inside.first);
  last = omega (arith, last, inside.last);
  rows = wider_still wide.rows narrow.rows e.rows rows inside.rows;
  cols = wider_still wide.cols narrow.cols e.cols cols inside.cols;
}

-- the array of what an extent inside faces is one of those of the frame
pub array_inside : (f : Frame) (e o : Extent) → IsInside f e → Face e o → (f.first_array ≤ o.array) × (o.array ≤ f.last_array)
array_inside f e o inside face = (omega (arith, face.array, inside.first), omega (arith, face.array, inside.last))

pub around_more : (old new : Frame) (extents : List Extent) (i : ℕ) (o : Extent) → o ≡ get_or extents i o → i < length extents
    → AreInside old (take i extents) → ((e : Extent) → IsInside old e → IsInside new e) → IsInside new o → AreInside new (take (i + 1) extents)
around_more old new extents i o is within before wider here =
    All-more (λ (e : Extent). IsInside new e) extents i o within (All-weaker (λ (e : Extent). IsInside old e) (λ (e : Extent). IsInside new e) wider (take i extents) before) (subst (λ (e : Extent). IsInside new e) is here)

pub pieces_more : (old new : Frame) (pieces : List (List Extent)) (i : ℕ) (p : List Extent) → p ≡ get_or pieces i p → i < length pieces
    → All (λ (q : List Extent). AreInside old q) (take i pieces) → ((e : Extent) → IsInside old e → IsInside new e) → AreInside new p → All (λ (q : List Extent). AreInside new q) (take (i + 1) pieces)
pieces_more old new pieces i p is within before wider here =
    let inner = λ (q : List Extent). All-weaker (λ (e : Extent). IsInside old e) (λ (e : Extent). IsInside new e) wider q in
    All-more (λ (q : List Extent). AreInside new q) pieces i p within (All-weaker (λ (q : List Extent). AreInside old q) (λ (q : List Extent). AreInside new q) inner (take i pieces) before) (subst (λ (q : List Extent). AreInside new q) is here)
