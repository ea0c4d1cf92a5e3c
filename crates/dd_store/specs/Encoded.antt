-- Values as bytes: 8 for each, the highest first.
use Rattle.std.specs.Prelude.{ℕ, ℤ, List}
use Rattle.std.specs.Int.{w64, cast_unsigned, to_be_bytes}
use Rattle.std.specs.List.{flat_map}

-- the 8 bytes of a value, which stand for a negative one as for its sum with 2^64
abbrev pub bytes_of : ℤ → List ℕ
bytes_of value = to_be_bytes w64 (cast_unsigned w64 value)

-- the bytes of all values, one after the other
abbrev pub encoded : List ℤ → List ℕ
encoded values = flat_map bytes_of values
