use Rattle.std.proofs.Common.{◌≡◌, ◌+◌, ◌<◌, ◌≤◌, ◌⊎◌, ◌↔◌, ◌∙◌, ℕ, List, length, get_or, refl, sym, subst, arith}
use Rattle.std.specs.List.{Any, Contains}
use Rattle.std.proofs.lemmas.List.{get_or_default}
use Rattle.dd_alias.specs.declared.extent.Extent.{Extent}
use Rattle.dd_alias.specs.declared.step.Step.{Step}
use Rattle.dd_alias.specs.Extents.{AreShown, IsShown}
use Rattle.dd_alias.specs.Waits.{IsBeforeOne}
use Rattle.dd_alias.proofs.PieceLemmas.{all_in_piece}
use Rattle.dd_alias.proofs.StepLemmas.{passes, passes_one}
use Rattle.dd_alias.proofs.WaitLemmas.{found_in_pieces, found_more, found_pass}
use Rattle.dd_alias.proofs.index.Index.add_waits.Goals as goal

pub add_waits_in-requires : goal.add_waits_in-requires
add_waits_in-requires c =
    let pieces : List (List Extent) = c.self.inside.pieces.items in
    let p : List Extent = c.index.result.now in
    let within : c.loop-place.place < length pieces = omega (arith, c.len.ensures, c.self.invariant.count) in
    let shown = all_in_piece (λ (e : Extent). IsShown c.requires.0 e) pieces c.loop-place.place p (rw c.self.view_is c.requires.1) within (sym c.index.ensures) in
    (c.requires.0, subst (λ (q : List Extent). AreShown c.requires.0 q) (sym c.as_slice.ensures) shown, c.requires.2)

pub loop-place-preserved-then-not-faces : goal.loop-place-preserved-then-not-faces
loop-place-preserved-then-not-faces c =
    let pieces : List (List Extent) = c.self.inside.pieces.items in
    let steps = c.self.inside.steps.items in
    let s = c.index-step.result.now in
    let within : c.loop-place.place < length steps = omega (arith, c.len.ensures) in
    let at : (d : Step) → get_or steps c.loop-place.place d ≡ s = λ d. get_or_default steps c.loop-place.place d s within ∙ sym c.index-step.ensures in
    let leads : c.loop-place.place ≤ s.next = omega (arith, subst (λ (x : Step). c.loop-place.place < x.next) (at s) (c.self.invariant.leads c.loop-place.place s within)) in
    let P = λ (u : ℕ) (q : List Extent). Any (λ (e : Extent). IsBeforeOne c.args.own.now c.args.number u e) q in
    found_pass P pieces c.loop-place.place s.next c.args.found.now.items c.loop-place.found.items leads
    (passes c.requires.0 pieces steps c.args.own.now c.args.number c.loop-place.place s c.self.invariant (rw c.self.view_is c.requires.1) c.requires.2 within at (c.if-not-faces.ensures refl)) c.loop-place.invariant

pub loop-place-preserved-then-not-faces-2 : goal.loop-place-preserved-then-not-faces-2
loop-place-preserved-then-not-faces-2 c =
    let pieces : List (List Extent) = c.self.inside.pieces.items in
    let steps = c.self.inside.steps.items in
    let s = c.index-step.result.now in
    let within : c.loop-place.place < length steps = omega (arith, c.len.ensures) in
    let at : (d : Step) → get_or steps c.loop-place.place d ≡ s = λ d. get_or_default steps c.loop-place.place d s within ∙ sym c.index-step.ensures in
    let P = λ (u : ℕ) (q : List Extent). Any (λ (e : Extent). IsBeforeOne c.args.own.now c.args.number u e) q in
    found_pass P pieces c.loop-place.place (c.loop-place.place + 1) c.args.found.now.items c.loop-place.found.items (omega arith)
    (passes_one c.requires.0 pieces steps c.args.own.now c.args.number c.loop-place.place s c.self.invariant (rw c.self.view_is c.requires.1) c.requires.2 within at (c.if-not-faces-2.ensures refl)) c.loop-place.invariant

pub loop-place-preserved : goal.loop-place-preserved
loop-place-preserved c =
    let pieces : List (List Extent) = c.self.inside.pieces.items in
    let p : List Extent = c.index.result.now in
    let within : c.loop-place.place < length pieces = omega (arith, c.len.ensures, c.self.invariant.count) in
    let P = λ (u : ℕ) (q : List Extent). Any (λ (e : Extent). IsBeforeOne c.args.own.now c.args.number u e) q in
    let found = c.loop-place.found.items in
    let new = c.add_waits_in.new.found.items in
    let adds = subst (λ (q : List Extent). (u : ℕ) → Contains new u ↔ (Contains found u ⊎ P u q)) c.as_slice.ensures c.in_ok-add_waits_in.ensures in
    found_more P pieces c.loop-place.place c.args.found.now.items found new p within c.index.ensures c.loop-place.invariant adds

pub returns : goal.returns
returns c =
    let pieces : List (List Extent) = c.self.inside.pieces.items in
    let all : length pieces ≤ c.loop-place.place = omega (arith, c.len.ensures, c.loop-place-test.false, c.self.invariant.count) in
    subst (λ (extents : List Extent). (u : ℕ) → Contains c.loop-place.found.items u ↔ (Contains c.args.found.now.items u ⊎ Any (λ (e : Extent). IsBeforeOne c.args.own.now c.args.number u e) extents)) c.self.view_is
    (found_in_pieces (IsBeforeOne c.args.own.now c.args.number) pieces c.loop-place.place c.args.found.now.items c.loop-place.found.items all c.loop-place.invariant)
