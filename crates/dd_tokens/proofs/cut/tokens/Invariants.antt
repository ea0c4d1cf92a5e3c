use Rattle.std.proofs.Common.{◌≡◌, ◌-◌, [], length, vec_capacity}
use Rattle.dd_tokens.proofs.TokensLemmas.{IsCutTo}
use Rattle.dd_tokens.proofs.cut.tokens.Given as goal

abbrev pub invariant-loop-done : goal.invariant-loop-done
invariant-loop-done l = record {
  cut : IsCutTo l.code l.done.items l.at;
  room : l.done.items ≡ [] → vec_capacity l.done ≡ 0;
}

abbrev pub decreases-loop-done : goal.decreases-loop-done
decreases-loop-done l = length l.code - l.at
