use Rattle.std.proofs.Common.{◌≡◌, ap, sym, ◌∙◌, ◌+◌, ℕ}
use Rattle.dd_blocks.specs.Limits.{touches_limit}
use Rattle.dd_blocks.specs.Touches.{blocks_of}
use Rattle.dd_check.specs.Drafts.{above_of}
use Rattle.dd_check.specs.Kinds.{array_of_name}
use Rattle.dd_check.proofs.AmountLemmas.{alone}
use Rattle.dd_check.proofs.RegionLemmas.{closed_touches}
use Rattle.dd_check.proofs.limits.passed_by_touch.Goals as goal

pub returns : goal.returns
returns c =
    let d = c.args.draft.now in
    let blocks : c.blocks-2.result ≡ blocks_of d.plan (array_of_name (above_of d) c.args.name.now) = rw (← c.array_of.ensures.value, ← c.grid_at-grid.ensures.value) c.blocks-2.ensures.value in
    alone _ _ _ touches_limit c.over.ensures
    (ap (λ (n : ℕ). d.touches + n) blocks ∙ sym (closed_touches d (blocks_of d.plan (array_of_name (above_of d) c.args.name.now)) c.requires.sound c.requires.closed))
