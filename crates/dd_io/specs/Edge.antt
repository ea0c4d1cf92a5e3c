-- What an object at the edge to the system holds, as its callers see it: a reader or a writer, and how many of its calls failed.
use Rattle.std.specs.Prelude.{ℕ}

pub record Edge (X : Type 0) : Type 0 where
  pub inner : X
  pub faults : ℕ
