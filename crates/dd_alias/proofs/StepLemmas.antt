-- The steps of an index, one after another, and what they pass over.
use Rattle.std.proofs.Common.{◌≡◌, ◌≢◌, ◌≤◌, ◌<◌, ◌+◌, ◌-◌, ℕ, List, [], ◌∷◌, ◌++◌, length, get_or, take, drop, ⊎_elim, ap, sym, ◌∙◌, subst, arith}
use Rattle.std.specs.List.{All, Any}
use Rattle.std.proofs.lemmas.Bool.{cases_eq}
use Rattle.std.proofs.lemmas.List.{get_or-drop, get_or-take, get_or_append_left, length-append, length-drop, length-take}
use Rattle.std.proofs.Math.Seq.{get_or-append_seam}
use Rattle.dd_views.specs.declared.shape.Shape.{Shape}
use Rattle.dd_alias.specs.declared.extent.Extent.{Extent}
use Rattle.dd_alias.specs.declared.frame.Frame.{Frame}
use Rattle.dd_alias.specs.declared.step.Step.{Step}
use Rattle.dd_alias.specs.Extents.{AreShown, Face, IsShown}
use Rattle.dd_alias.specs.Frames.{AreInside, IsInside}
use Rattle.dd_alias.specs.Steps.{AreSteps, extents_in}
use Rattle.dd_alias.specs.Waits.{IsBeforeOne}
use Rattle.dd_alias.proofs.ExtentLemmas.{clash_faces}
use Rattle.dd_alias.proofs.PieceLemmas.{all_in_piece}

-- what is around some pieces that stand side by side is around each of them
pub inside_slice : (f : Frame) (pieces : List (List Extent)) (place next j : ℕ) (p : List Extent) → All (λ (q : List Extent). AreInside f q) (take (next - place) (drop place pieces)) → next ≤ length pieces → place ≤ j → j < next → AreInside f (get_or pieces j p)
inside_slice f pieces place next j p around within low high =
    let at : get_or (take (next - place) (drop place pieces)) (j - place) p ≡ get_or pieces j p =
    get_or-take (next - place) (drop place pieces) (j - place) p (omega arith)
    ∙ get_or-drop place pieces (j - place) p
    ∙ ap (λ (n : ℕ). get_or pieces n p) (omega arith) in
    let size : length (take (next - place) (drop place pieces)) ≡ next - place = omega (arith, length-take (next - place) (drop place pieces), length-drop place pieces) in
    subst (λ (q : List Extent). AreInside f q) at (around (j - place) p (omega (arith, size)))

-- the steps of the first so many pieces
pub record AreStepsSoFar (pieces : List (List Extent)) (place : ℕ) (steps : List Step) : Type 0 where
  pub count : length steps ≡ place
  pub leads : (k : ℕ) (d : Step) → k < length steps → k < (get_or steps k d).next
  pub inside : (k j : ℕ) (d : Step) (p : List Extent) → k < length steps → k ≤ j → j < (get_or steps k d).next → j < length pieces → AreInside (get_or steps k d).frame (get_or pieces j p)
  pub own : (k : ℕ) (d : Step) (p : List Extent) → k < length steps → AreInside (get_or steps k d).own (get_or pieces k p)

pub steps_more : (pieces : List (List Extent)) (place : ℕ) (steps : List Step) (s : Step) → place < length pieces → AreStepsSoFar pieces place steps
    → place < s.next → ((j : ℕ) (p : List Extent) → place ≤ j → j < s.next → j < length pieces → AreInside s.frame (get_or pieces j p)) → ((p : List Extent) → AreInside s.own (get_or pieces place p))
    → AreStepsSoFar pieces (place + 1) (steps ++ s ∷ [])
steps_more pieces place steps s within so_far leads inside own =
    let size = length-append steps (s ∷ []) in
    let last : (k : ℕ) (d : Step) → k ≡ place → get_or (steps ++ s ∷ []) k d ≡ s = λ k d at. ap (λ (n : ℕ). get_or (steps ++ s ∷ []) n d) (at ∙ sym so_far.count) ∙ get_or-append_seam steps s [] d in
    let before : (k : ℕ) (d : Step) → k < length steps → get_or (steps ++ s ∷ []) k d ≡ get_or steps k d = λ k d below. get_or_append_left steps (s ∷ []) d k below in
    record {
      count = omega (arith, size, so_far.count);
      leads = λ k d below.
          ⊎_elim
          (λ (at : k ≡ place). rw (last k d at) (omega arith))
          (λ (other : k ≢ place).
          let b : k < length steps = omega (arith, size, so_far.count) in
          rw (before k d b) (so_far.leads k d b))
          (cases_eq k place);
      inside = λ k j d p below low high there.
          ⊎_elim
          (λ (at : k ≡ place). rw (last k d at) (inside j p (omega arith) (rw (last k d at) at high) there))
          (λ (other : k ≢ place).
          let b : k < length steps = omega (arith, size, so_far.count) in
          rw (before k d b) (so_far.inside k j d p b low (rw (before k d b) at high) there))
          (cases_eq k place);
      own = λ k d p below.
          ⊎_elim
          (λ (at : k ≡ place). rw (last k d at) (subst (λ (n : ℕ). AreInside s.own (get_or pieces n p)) (sym at) (own p)))
          (λ (other : k ≢ place).
          let b : k < length steps = omega (arith, size, so_far.count) in
          rw (before k d b) (so_far.own k d p b))
          (cases_eq k place);
    }

pub steps_all : (pieces : List (List Extent)) (place : ℕ) (steps : List Step) → place ≡ length pieces → AreStepsSoFar pieces place steps → AreSteps pieces steps
steps_all pieces place steps all so_far = record { count = so_far.count ∙ all; leads = so_far.leads; inside = so_far.inside; own = so_far.own }

-- where what is inside a frame doesn't face an extent, no extent inside clashes with it
misses : (shape_at : ℕ → Shape) (f : Frame) (own : Extent) (number : ℕ) (p : List Extent) → AreInside f p → AreShown shape_at p → IsShown shape_at own → ((e : Extent) → IsInside f e → ¬ Face e own)
    → (u : ℕ) → ¬ Any (λ (e : Extent). IsBeforeOne own number u e) p
misses shape_at f own number p inside shown shown_own none u any =
    let e = any.1 in
    let inside_e : IsInside f e = subst (λ (x : Extent). IsInside f x) any.3 (inside any.0 e any.2) in
    let shown_e : IsShown shape_at e = subst (λ (x : Extent). IsShown shape_at x) any.3 (shown any.0 e any.2) in
    none e inside_e (clash_faces shape_at e own shown_e shown_own any.4.2)

shown_in : (shape_at : ℕ → Shape) (pieces : List (List Extent)) (k : ℕ) (p : List Extent) → AreShown shape_at (extents_in pieces) → k < length pieces → get_or pieces k p ≡ p → AreShown shape_at p
shown_in shape_at pieces k p shown there at = all_in_piece (λ (x : Extent). IsShown shape_at x) pieces k p shown there at

-- the pieces from the step's own on, before the one that it leads to
pub passes : (shape_at : ℕ → Shape) (pieces : List (List Extent)) (steps : List Step) (own : Extent) (number place : ℕ) (s : Step) → AreSteps pieces steps → AreShown shape_at (extents_in pieces) → IsShown shape_at own
    → place < length steps → ((d : Step) → get_or steps place d ≡ s) → ((e : Extent) → IsInside s.frame e → ¬ Face e own)
    → (k : ℕ) (p : List Extent) → place ≤ k → k < s.next → k < length pieces → get_or pieces k p ≡ p → (u : ℕ) → ¬ Any (λ (e : Extent). IsBeforeOne own number u e) p
passes shape_at pieces steps own number place s are shown shown_own within is none k p low high there at =
    let around = are.inside place k s p within low (subst (λ (x : Step). k < x.next) (sym (is s)) high) there in
    let inside : AreInside s.frame p = subst (λ (q : List Extent). AreInside s.frame q) at (subst (λ (x : Step). AreInside x.frame (get_or pieces k p)) (is s) around) in
    misses shape_at s.frame own number p inside (shown_in shape_at pieces k p shown there at) shown_own none

-- the step's own piece
pub passes_one : (shape_at : ℕ → Shape) (pieces : List (List Extent)) (steps : List Step) (own : Extent) (number place : ℕ) (s : Step) → AreSteps pieces steps → AreShown shape_at (extents_in pieces) → IsShown shape_at own
    → place < length steps → ((d : Step) → get_or steps place d ≡ s) → ((e : Extent) → IsInside s.own e → ¬ Face e own)
    → (k : ℕ) (p : List Extent) → place ≤ k → k < place + 1 → k < length pieces → get_or pieces k p ≡ p → (u : ℕ) → ¬ Any (λ (e : Extent). IsBeforeOne own number u e) p
passes_one shape_at pieces steps own number place s are shown shown_own within is none k p low high there at =
    let same : place ≡ k = omega arith in
    let around : AreInside s.own (get_or pieces place p) = subst (λ (x : Step). AreInside x.own (get_or pieces place p)) (is s) (are.own place s p within) in
    let inside : AreInside s.own p = subst (λ (q : List Extent). AreInside s.own q) at (subst (λ (n : ℕ). AreInside s.own (get_or pieces n p)) same around) in
    misses shape_at s.own own number p inside (shown_in shape_at pieces k p shown there at) shown_own none
