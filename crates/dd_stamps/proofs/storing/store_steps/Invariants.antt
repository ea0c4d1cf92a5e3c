use Rattle.std.proofs.Common.{◌+◌, pos}
use Rattle.dd_kernels.specs.Lists.{element}
use Rattle.dd_stamps.specs.Columns.{place_at}
use Rattle.dd_stamps.specs.Placed.{HasPlaced}
use Rattle.dd_stamps.specs.Stamps.{Spends}
use Rattle.dd_stamps.proofs.storing.store_steps.Given as goal

abbrev pub invariant-loop-i : goal.invariant-loop-i
invariant-loop-i g l = record {
  values : HasPlaced (pos 0) l.piece.from l.i (place_at l.column l.piece) (λ k. element l.from (l.at + k)) l.initial.values l.values;
  versions : HasPlaced 0 l.piece.from l.i (place_at l.column l.piece) (λ _. l.task) l.initial.versions.list l.versions.list;
  spare : Spends g.written l.task l.initial.versions l.versions;
}

abbrev pub ghost-stamp : goal.ghost-stamp
ghost-stamp g a = g.written
