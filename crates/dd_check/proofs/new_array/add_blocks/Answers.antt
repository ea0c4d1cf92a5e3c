use Rattle.std.proofs.Common.{List, [], ◌∷◌, ◌++◌, map, sym, ap, ◌∙◌, append_assoc, arith}
use Rattle.std.specs.List.{range_with_len}
use Rattle.std.proofs.lemmas.List.FromFn.{map-range_with_len_more}
use Rattle.dd_blocks.specs.declared.block_row.BlockRow.{BlockRow}
use Rattle.dd_check.specs.NewArray.{block_at}
use Rattle.dd_check.proofs.new_array.add_blocks.Goals as goal

pub loop-block-preserved : goal.loop-block-preserved
loop-block-preserved c =
    let f = block_at c.args.row.now c.args.array c.args.spaces in
    let n = c.loop-block.block in
    let more = map-range_with_len_more f 0 n n (omega arith) in
    c.in_ok-push.ensures.ok
    ∙ ap (λ (b : BlockRow). c.loop-block.blocks ++ b ∷ []) c.block_at.ensures
    ∙ ap (λ (bs : List BlockRow). bs ++ f n ∷ []) c.loop-block.invariant
    ∙ append_assoc c.args.blocks.now (map f (range_with_len 0 n)) (f n ∷ [])
    ∙ ap (λ (bs : List BlockRow). c.args.blocks.now ++ bs) (sym more)
