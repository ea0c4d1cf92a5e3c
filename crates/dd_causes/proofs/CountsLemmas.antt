-- Lemmas on the cause of an answer.
use Rattle.std.specs.Prelude.{Result, Ok, Err, OnErr}

-- what holds anyway holds at an error
pub anyway_on_err : {T E P : Type 0} (r : Result T E) → P → OnErr r P
anyway_on_err (Ok x) p = tt
anyway_on_err (Err e) p = p
