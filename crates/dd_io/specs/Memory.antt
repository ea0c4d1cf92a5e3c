-- What a source and a sink in memory hold, as their callers see them.
use Rattle.std.specs.Prelude.{ℕ, List}

-- A source: the bytes that are left, how many a call gives at most, the numbers of the calls that fail, from 1,
-- how many calls there were and how many of them failed. Both counts stop at the last number of 64 bits.
pub record Supply : Type 0 where
  pub left : List ℕ
  pub most : ℕ
  pub failing : List ℕ
  pub calls : ℕ
  pub faults : ℕ

-- A sink: the bytes that it holds, how many it can hold, how many a call takes at most, and the rest as for a source.
pub record Shelf : Type 0 where
  pub held : List ℕ
  pub room : ℕ
  pub most : ℕ
  pub failing : List ℕ
  pub calls : ℕ
  pub faults : ℕ
