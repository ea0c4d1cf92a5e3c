use mir.Syntax.{w64}
use mir.Val.{of_z, to_z}
use Rattle.std.proofs.Common.{◌≡◌, rules}
use Rattle.dd_check.specs.Drafts.{above_of}
use Rattle.dd_check.specs.Kinds.{is_edge}
use Rattle.dd_check.proofs.ArrayLemmas.{four_parts, next_for}
use Rattle.dd_check.proofs.ClearLemmas.{clear_of}
use Rattle.dd_check.proofs.effects.enter_script.Goals as goal

pub make-requires-clause-rows : goal.make-requires-clause-rows
make-requires-clause-rows c =
    let read : to_z w64 (of_z w64 c.in-Array.rows) ≡ c.in-Array.rows = search rules in
    let clear = clear_of c.args.line (above_of c.args.draft.now) _ (rw c.in-Array.is at c.requires.clear) in
    rw read (four_parts (is_edge c.in-Array.rows) (is_edge c.in-Array.cols) (is_edge c.in-Array.brows) (is_edge c.in-Array.bcols) clear.shape).0

pub make-requires-clause-cols : goal.make-requires-clause-cols
make-requires-clause-cols c =
    let read : to_z w64 (of_z w64 c.in-Array.cols) ≡ c.in-Array.cols = search rules in
    let clear = clear_of c.args.line (above_of c.args.draft.now) _ (rw c.in-Array.is at c.requires.clear) in
    rw read (four_parts (is_edge c.in-Array.rows) (is_edge c.in-Array.cols) (is_edge c.in-Array.brows) (is_edge c.in-Array.bcols) clear.shape).1

pub make-requires-clause-brows : goal.make-requires-clause-brows
make-requires-clause-brows c =
    let read : to_z w64 (of_z w64 c.in-Array.brows) ≡ c.in-Array.brows = search rules in
    let clear = clear_of c.args.line (above_of c.args.draft.now) _ (rw c.in-Array.is at c.requires.clear) in
    rw read (four_parts (is_edge c.in-Array.rows) (is_edge c.in-Array.cols) (is_edge c.in-Array.brows) (is_edge c.in-Array.bcols) clear.shape).2

pub make-requires-clause-bcols : goal.make-requires-clause-bcols
make-requires-clause-bcols c =
    let read : to_z w64 (of_z w64 c.in-Array.bcols) ≡ c.in-Array.bcols = search rules in
    let clear = clear_of c.args.line (above_of c.args.draft.now) _ (rw c.in-Array.is at c.requires.clear) in
    rw read (four_parts (is_edge c.in-Array.rows) (is_edge c.in-Array.cols) (is_edge c.in-Array.brows) (is_edge c.in-Array.bcols) clear.shape).3

pub make-requires-clause-fits : goal.make-requires-clause-fits
make-requires-clause-fits c =
    let rows : to_z w64 (of_z w64 c.in-Array.rows) ≡ c.in-Array.rows = search rules in
    let cols : to_z w64 (of_z w64 c.in-Array.cols) ≡ c.in-Array.cols = search rules in
    let brows : to_z w64 (of_z w64 c.in-Array.brows) ≡ c.in-Array.brows = search rules in
    let bcols : to_z w64 (of_z w64 c.in-Array.bcols) ≡ c.in-Array.bcols = search rules in
    let clear = clear_of c.args.line (above_of c.args.draft.now) _ (rw c.in-Array.is at c.requires.clear) in
    let next = next_for c.args.line (above_of c.args.draft.now) _ _ _ _ _ _ clear in
    rw (rows, cols, brows, bcols) (record { grid_is = next.behind.grid; arrays = next.arrays; elements = next.elements; blocks = next.blocks })
