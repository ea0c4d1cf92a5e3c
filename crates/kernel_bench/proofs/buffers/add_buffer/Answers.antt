use Rattle.std.proofs.Common.{rules, arith}
use Rattle.kernel_bench.proofs.BuffersLemmas.{have_more}
use Rattle.kernel_bench.proofs.buffers.add_buffer.Goals as goal

pub returns-clause-lists : goal.returns-clause-lists
returns-clause-lists c = search (rules, arith, have_more)
