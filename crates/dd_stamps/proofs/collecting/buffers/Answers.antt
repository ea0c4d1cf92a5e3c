use Rattle.std.proofs.Common.{ℕ, ℤ, List, [], ◌∷◌, ◌++◌, length, map, sym, ap, ◌∙◌}
use Rattle.std.specs.Global.{Vec}
use Rattle.dd_kernels.specs.declared.shape.Shape.{Shape}
use Rattle.dd_kernels.proofs.ListsLemmas.{ap2}
use Rattle.dd_blocks.proofs.ShapesLemmas.{long_view}
use Rattle.dd_meaning.specs.Lists.{lists_of}
use Rattle.dd_stamps.proofs.FoundLemmas.{more_lengths, more_shapes, more_sizes}
use Rattle.dd_stamps.proofs.collecting.buffers.Goals as goal

pub loop-access-preserved : goal.loop-access-preserved
loop-access-preserved c =
    let lt = c.loop-access-test.true in
    record {
      shapes = c.in_ok-push.ensures.items ∙ ap2 (λ (ss : List Shape) (s : Shape). ss ++ s ∷ []) c.loop-access.invariant.shapes c.shape_of.ensures
          ∙ sym (more_shapes c.args.accesses.now c.loop-access.access-index _ lt);
      filled = ap (λ (bs : List (Vec ℤ)). map length (lists_of bs)) c.in_ok-push-2.ensures.items
          ∙ more_lengths c.loop-access.bufs.items c.in_ok-vec.field-0
          ∙ ap2 (λ (ns : List ℕ) (n : ℕ). ns ++ n ∷ []) c.loop-access.invariant.filled (sym c.in_ok-vec.field-0.ok.0 ∙ c.in_ok-vec.ensures.len ∙ c.len.ensures.value ∙ long_view _ (c.requires c.loop-access.access-index _ lt).view)
          ∙ sym (more_sizes c.args.accesses.now c.loop-access.access-index _ lt);
    }
