use Rattle.std.proofs.Common.{◌≡◌, arith}
use Rattle.std.proofs.lemmas.Bool.Decides.{nat_tests}
use Rattle.dd_views.proofs.ElementsLemmas.{no_rows}
use Rattle.dd_alias.proofs.ExtentLemmas.{none_of_cols, none_of_rows}
use Rattle.dd_alias.proofs.extent.has_rows_and_cols.Goals as goal

pub returns-then-view-eq0-clause-none : goal.returns-then-view-eq0-clause-none
returns-then-view-eq0-clause-none c = λ no x there. no_rows c.args.view.now x c.requires c.if-view-eq0.true there

pub returns-then-view-eq0-2-clause-none : goal.returns-then-view-eq0-2-clause-none
returns-then-view-eq0-2-clause-none c = λ no x there. none_of_rows c.args.view.now x c.requires c.if-view-eq0-2.true there

pub returns-clause-none : goal.returns-clause-none
returns-clause-none c = λ no x there.
    let none : c.args.view.now.cols.count ≡ 0 = grind (arith, nat_tests) in
    none_of_cols c.args.view.now x c.requires none there
