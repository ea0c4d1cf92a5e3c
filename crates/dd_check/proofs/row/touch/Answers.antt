use Rattle.std.proofs.Common.{◌≡◌, ◌+◌, ap, sym, subst, ◌∙◌}
use Rattle.dd_blocks.specs.declared.grid.Grid.{Grid}
use Rattle.dd_blocks.specs.Grids.{block_count}
use Rattle.dd_blocks.specs.Touches.{blocks_of}
use Rattle.dd_check.specs.Ahead.{CountsAhead}
use Rattle.dd_check.proofs.AheadLemmas.{asks_ahead}
use Rattle.dd_check.proofs.row.touch.Goals as goal

pub add_row-requires : goal.add_row-requires
add_row-requires c =
    let d = c.args.draft.now in
    let blocks : blocks_of d.plan c.args.array ≡ c.blocks-2.result = sym (c.blocks-2.ensures.value ∙ ap (λ (g : Grid). block_count g) c.grid_at.ensures.value) in
    subst (λ k. CountsAhead (record d { touches = d.touches + k }) c.args.what) blocks (asks_ahead d c.args.what c.args.array c.requires.sound.counts c.requires.within c.requires.asks)
