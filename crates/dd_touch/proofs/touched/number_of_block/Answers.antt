use Rattle.std.proofs.Common.{arith}
use Rattle.dd_touch.proofs.TouchedLemmas.{number_fits}
use Rattle.dd_touch.proofs.touched.number_of_block.Goals as goal

pub overflow_mul-result : goal.overflow_mul-result
overflow_mul-result c =
    let fits = number_fits c.args.array.now c.args.i c.args.j c.requires.array c.requires.row c.requires.col in
    rw c.div_ceil-block_rows.ensures (omega (arith, fits, c.requires.array.small))

pub overflow_add-result : goal.overflow_add-result
overflow_add-result c =
    let fits = number_fits c.args.array.now c.args.i c.args.j c.requires.array c.requires.row c.requires.col in
    rw c.div_ceil-block_rows.ensures (omega (arith, fits, c.requires.array.small))

pub overflow_add-result-2 : goal.overflow_add-result-2
overflow_add-result-2 c =
    let fits = number_fits c.args.array.now c.args.i c.args.j c.requires.array c.requires.row c.requires.col in
    rw c.div_ceil-block_rows.ensures (omega (arith, fits, c.requires.array.small))
