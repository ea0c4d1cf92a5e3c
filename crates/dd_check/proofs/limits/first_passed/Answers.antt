use mir.Syntax.{w64}
use mir.Val.{of_z, to_z}
use Rattle.std.proofs.Common.{◌≡◌, rules}
use Rattle.dd_check.specs.Drafts.{above_of}
use Rattle.dd_check.proofs.AmountLemmas.{no_limit}
use Rattle.dd_check.proofs.ClearKindsLemmas.{edges_right, name_known}
use Rattle.dd_check.proofs.limits.first_passed.Goals as goal

pub grid_of-requires-clause-rows : goal.grid_of-requires-clause-rows
grid_of-requires-clause-rows c =
    let read : to_z w64 (of_z w64 c.in-Array.rows) ≡ c.in-Array.rows = search rules in
    rw read (edges_right 0 (above_of c.args.draft.now) c.args.x.now _ _ _ _ _ _ (c.requires.clear 0) c.in-Array.is).rows_right

pub grid_of-requires-clause-cols : goal.grid_of-requires-clause-cols
grid_of-requires-clause-cols c =
    let read : to_z w64 (of_z w64 c.in-Array.cols) ≡ c.in-Array.cols = search rules in
    rw read (edges_right 0 (above_of c.args.draft.now) c.args.x.now _ _ _ _ _ _ (c.requires.clear 0) c.in-Array.is).cols_right

pub grid_of-requires-clause-brows : goal.grid_of-requires-clause-brows
grid_of-requires-clause-brows c =
    let read : to_z w64 (of_z w64 c.in-Array.brows) ≡ c.in-Array.brows = search rules in
    rw read (edges_right 0 (above_of c.args.draft.now) c.args.x.now _ _ _ _ _ _ (c.requires.clear 0) c.in-Array.is).brows_right

pub grid_of-requires-clause-bcols : goal.grid_of-requires-clause-bcols
grid_of-requires-clause-bcols c =
    let read : to_z w64 (of_z w64 c.in-Array.bcols) ≡ c.in-Array.bcols = search rules in
    rw read (edges_right 0 (above_of c.args.draft.now) c.args.x.now _ _ _ _ _ _ (c.requires.clear 0) c.in-Array.is).bcols_right

pub passed_by_touch-requires-clause-known : goal.passed_by_touch-requires-clause-known
passed_by_touch-requires-clause-known c = name_known 0 (above_of c.args.draft.now) c.args.x.now c.in-MoveTo.name (c.requires.clear 0) c.in-MoveTo.is

pub returns-in_default : goal.returns-in_default
returns-in_default c = λ n amounts.
    no_limit n (above_of c.args.draft.now) c.args.x.now amounts c.requires.other c.in_default.not-Space c.in_default.not-Proc c.in_default.not-Array c.in_default.not-MoveTo c.in_default.not-Print c.in_default.not-Sum
