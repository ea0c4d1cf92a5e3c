use Rattle.std.proofs.Common.{length, ap, arith}
use Rattle.dd_store.proofs.EncodedLemmas.{length_encoded}
use Rattle.dd_pool.proofs.spilled.Spilled.recall.Goals as goal

pub read_values-requires : goal.read_values-requires
read_values-requires g c = record {
  there = λ tells. omega (arith, ap length (c.args.self.now.kept tells), length_encoded c.args.self.now.values.value.items, c.args.self.now.full, c.args.self.now.stamps, c.len-count.ensures);
}
