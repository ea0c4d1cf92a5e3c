use Rattle.std.proofs.Common.{ℕ, ◌+◌, ◌*◌, ◌≤◌, length, pos}
use Rattle.std.specs.Prelude.{Contains}
use Rattle.dd_stamps.specs.Taken.{IsTaking}
use Rattle.dd_stamps.proofs.places.take_places.Given as goal

abbrev pub invariant-loop-first : goal.invariant-loop-first
invariant-loop-first l = record {
  versions : IsTaking 0 l.places.list l.left.list l.initial.versions.list l.other_versions.list l.versions.list;
  values : IsTaking (pos 0) l.places.list l.left.list l.initial.values l.other_values l.values;
  among : (p : ℕ) → Contains l.left.list p → Contains l.places.list p;
  spare : l.initial.versions.spare + 2 * length l.left.list ≤ l.versions.spare + 2 * length l.places.list;
}

abbrev pub decreases-loop-first : goal.decreases-loop-first
decreases-loop-first l = length l.left.list
