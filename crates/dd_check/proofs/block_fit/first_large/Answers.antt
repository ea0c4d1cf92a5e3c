use mir.Syntax.{w64}
use mir.Val.{of_z, to_z}
use Rattle.std.proofs.Common.{◌≡◌, refl, inl, inr, rules}
use Rattle.dd_check.specs.Drafts.{above_of}
use Rattle.dd_check.proofs.ClearKindsLemmas.{edges_right, names_known}
use Rattle.dd_check.proofs.block_fit.first_large.Goals as goal

pub grid_of-requires-clause-rows : goal.grid_of-requires-clause-rows
grid_of-requires-clause-rows c =
    let read : to_z w64 (of_z w64 c.in-Array.rows) ≡ c.in-Array.rows = search rules in
    rw read (edges_right c.args.line (above_of c.args.draft.now) c.args.x.now _ _ _ _ _ _ c.requires.clear c.in-Array.is).rows_right

pub grid_of-requires-clause-cols : goal.grid_of-requires-clause-cols
grid_of-requires-clause-cols c =
    let read : to_z w64 (of_z w64 c.in-Array.cols) ≡ c.in-Array.cols = search rules in
    rw read (edges_right c.args.line (above_of c.args.draft.now) c.args.x.now _ _ _ _ _ _ c.requires.clear c.in-Array.is).cols_right

pub grid_of-requires-clause-brows : goal.grid_of-requires-clause-brows
grid_of-requires-clause-brows c =
    let read : to_z w64 (of_z w64 c.in-Array.brows) ≡ c.in-Array.brows = search rules in
    rw read (edges_right c.args.line (above_of c.args.draft.now) c.args.x.now _ _ _ _ _ _ c.requires.clear c.in-Array.is).brows_right

pub grid_of-requires-clause-bcols : goal.grid_of-requires-clause-bcols
grid_of-requires-clause-bcols c =
    let read : to_z w64 (of_z w64 c.in-Array.bcols) ≡ c.in-Array.bcols = search rules in
    rw read (edges_right c.args.line (above_of c.args.draft.now) c.args.x.now _ _ _ _ _ _ c.requires.clear c.in-Array.is).bcols_right

pub large_at_first-requires-clause-spaces : goal.large_at_first-requires-clause-spaces
large_at_first-requires-clause-spaces c = c.requires.sound.above.machine.space (c.requires.settled (rw c.in-Array.is refl))

pub large_at_target-requires-clause-array : goal.large_at_target-requires-clause-array
large_at_target-requires-clause-array c = λ h. (rw c.in-MoveTo.is at (names_known c.args.line (above_of c.args.draft.now) c.args.x.now c.requires.clear)) (inl h)

pub large_at_target-requires-clause-space : goal.large_at_target-requires-clause-space
large_at_target-requires-clause-space c = λ h. (rw c.in-MoveTo.is at (names_known c.args.line (above_of c.args.draft.now) c.args.x.now c.requires.clear)) (inr h)

pub returns-in-Array : goal.returns-in-Array
returns-in-Array c =
    let rows : to_z w64 (of_z w64 c.in-Array.rows) ≡ c.in-Array.rows = search rules in
    let cols : to_z w64 (of_z w64 c.in-Array.cols) ≡ c.in-Array.cols = search rules in
    let brows : to_z w64 (of_z w64 c.in-Array.brows) ≡ c.in-Array.brows = search rules in
    let bcols : to_z w64 (of_z w64 c.in-Array.bcols) ≡ c.in-Array.bcols = search rules in
    let grid = rw (rows, cols, brows, bcols) at c.grid_of.ensures.value in
    rw c.in-Array.is (rw grid at (c.large_at_first.ensures c.in-Array.fill))

pub returns-in-MoveTo : goal.returns-in-MoveTo
returns-in-MoveTo c = rw c.in-MoveTo.is c.large_at_target.ensures
