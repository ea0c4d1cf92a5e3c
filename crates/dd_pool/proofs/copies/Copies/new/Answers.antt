-- There are no copies, so there are no bytes.
use Rattle.std.proofs.Common.{◌≡◌, ℕ, ◌-◌, List, Some, None, get_or, length, sym, ap, ◌∙◌, arith}
use Rattle.std.proofs.lemmas.List.{get_or-replicate}
use Rattle.dd_pool.specs.Places.{place_of}
use Rattle.dd_pool.proofs.HeldLemmas.{nothing_in}
use Rattle.dd_pool.proofs.copies.Copies.new.Goals as goal

pub invariant_of-result-clause-ours : goal.invariant_of-result-clause-ours
invariant_of-result-clause-ours c = λ s b copy is held.
    let e : None ≡ Some copy = sym (c.in_ok-new.ensures.none (place_of c.args.plan.now s b)) ∙ held in
    absurd (cc)

pub invariant_of-result-clause-counted : goal.invariant_of-result-clause-counted
invariant_of-result-clause-counted c = λ s is.
    let many : length c.as_slice.result.now ≡ length c.args.plan.now.spaces = ap length c.as_slice.ensures in
    let zeros = c.in_ok-vec.ensures.items_if_clones_equal (λ y e. e) in
    ap (λ (l : List ℕ). get_or l (s - 1) 0) zeros ∙ get_or-replicate _ (s - 1) 0 0 (omega (arith, many, is))
    ∙ sym (nothing_in c.args.plan.now c.in_ok-new.field-0 s c.in_ok-new.ensures.none)
