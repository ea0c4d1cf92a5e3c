use Rattle.std.proofs.Common.{◌+◌, ◌-◌, ◌++◌, sym, ap, ◌∙◌, arith}
use Rattle.std.specs.List.{flat_map, range_with_len}
use Rattle.std.proofs.lemmas.List.{append_assoc}
use Rattle.dd_text.specs.Bands.{column_part}
use Rattle.dd_lists.proofs.ListsLemmas.{next_left}
use Rattle.dd_text.proofs.band.gather_band.Goals as goal

pub loop-j-preserved : goal.loop-j-preserved
loop-j-preserved c =
    let parts = column_part c.args.grid c.args.values.now c.args.first c.args.height in
    let next = next_left parts c.loop-j.j c.args.grid.cols (omega arith) in
    let rest = flat_map parts (range_with_len (c.loop-j.j + 1) (c.args.grid.cols - (c.loop-j.j + 1))) in
    ap (λ l. l ++ rest) c.in_ok-push_part.ensures ∙ append_assoc c.loop-j.band.items (parts c.loop-j.j) rest
    ∙ ap (λ l. c.loop-j.band.items ++ l) (sym next) ∙ c.loop-j.invariant
