use Rattle.std.proofs.Common.{◌≡◌, ◌++◌, drop, ℕ, ◌+◌, ◌-◌, ◌*◌, ◌<◌, ◌≤◌, ℤ, get_or, length, vec_len, vec_capacity}
use Rattle.std.specs.Int.{w64}
use Rattle.std.specs.Int.RustNames.{FitsSigned}
use Rattle.dd_store.specs.Encoded.{encoded}
use Rattle.dd_store.proofs.codec.put_all.Given as goal

abbrev pub invariant-loop-value : goal.invariant-loop-value
invariant-loop-value l = record {
  added : l.bytes.items ++ encoded (drop l.value-index l.values) ≡ l.initial.bytes.items ++ encoded l.values;
  fit : (k : ℕ) (d : ℤ) → k < l.value-index → FitsSigned w64 (get_or l.values k d);
  room : vec_len l.bytes + 8 * (length l.values - l.value-index) ≤ vec_capacity l.bytes;
}
