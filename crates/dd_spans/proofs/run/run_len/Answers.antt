use Rattle.std.proofs.Common.{◌-◌, ◌≤◌, length, get_or, arith}
use Rattle.dd_spans.proofs.CutLemmas.{rises_weakly}
use Rattle.dd_spans.proofs.RunLemmas.{run_of_all}
use Rattle.dd_spans.proofs.run.run_len.Goals as goal

pub overflow_sub-number : goal.overflow_sub-number
overflow_sub-number c = rises_weakly c.args.numbers.now c.requires.rises 0 c.loop-count.count 0 (omega arith) (omega arith)

pub overflow_sub-numbers-2 : goal.overflow_sub-numbers-2
overflow_sub-numbers-2 c = rises_weakly c.args.numbers.now c.requires.rises 0 (length c.args.numbers.now - 1) 0 (omega arith) (omega (arith, c.requires.some))

pub returns-then-numbers-first-clause-run : goal.returns-then-numbers-first-clause-run
returns-then-numbers-first-clause-run c =
    let ns = c.args.numbers.now in
    let order : get_or ns 0 0 ≤ get_or ns (length ns - 1) 0 = rises_weakly ns c.requires.rises 0 (length ns - 1) 0 (omega arith) (omega (arith, c.requires.some)) in
    run_of_all ns c.requires.rises c.requires.some (omega (arith, c.if-numbers-first.true, order, c.requires.some))
