use Rattle.std.proofs.Common.{rules, arith}
use Rattle.dd_kernels.proofs.NamesLemmas.{names_it, names_none}
use Rattle.dd_kernels.proofs.name.kernel_named.Goals as goal

pub returns-then-eq : goal.returns-then-eq
returns-then-eq c = λ k. names_it _ k _ (search rules)

pub returns : goal.returns
returns c = names_none _ _ (omega arith) c.loop-k.invariant
