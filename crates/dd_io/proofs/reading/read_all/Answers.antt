-- The last piece stands behind those before it.
use Rattle.std.proofs.Common.{ℕ, arith, length-take}
use Rattle.std.proofs.lemmas.Result.{err_from_is_err_and}
use Rattle.dd_io.proofs.TakenLemmas.{exactly_after, at_most_after}
use Rattle.dd_io.proofs.reading.read_all.Goals as goal

pub returns-then-count-room-clause-early : goal.returns-then-count-room-clause-early
returns-then-count-room-clause-early g c =
    exactly_after _ _ _ _ _ _ c.loop-bytes.invariant.taken c.in_ok-count.ensures.taken.0 (omega (arith, length-take {A = ℕ}, c.in_ok-count.ensures.within))

pub returns-in_err-extend_from_slice-clause-early :
    goal.returns-in_err-extend_from_slice-clause-early
returns-in_err-extend_from_slice-clause-early g c =
    let exit = c.from_residual-in_err-extend_from_slice in
    let end = err_from_is_err_and exit.result exit.ensures.1 in
    rw (end.1, end.2) (at_most_after _ _ _ _ _ _ c.loop-bytes.invariant.taken c.in_ok-count.ensures.taken.0 (omega (arith, length-take {A = ℕ})))
