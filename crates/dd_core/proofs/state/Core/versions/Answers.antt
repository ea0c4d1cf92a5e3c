use Rattle.std.proofs.Common.{◌≡◌, true, false, Option, Some, None, ap, ◌∙◌}
use Rattle.dd_copies.specs.declared.block_copy.BlockCopy.{BlockCopy}
use Rattle.dd_copies.specs.CopyTables.{cell_of, copies_of, seen}
use Rattle.dd_machine.specs.Tests.{is_any, is_in_state, versions_of}
use Rattle.dd_tables.specs.declared.tables.Tables.{Tables}
use Rattle.dd_core.proofs.state.Core.versions.Goals as goal

pub unreachable-requires : goal.unreachable-requires
unfolding copies_of
unreachable-requires c =
    let none : None ≡ cell_of c.self.inside.tables.copies c.args.space c.args.block = c.in-None.ensures in
    absurd (let no_way : false ≡ true = ap (λ (cell : Option BlockCopy). is_in_state is_any (seen cell)) none ∙ ap (λ (t : Tables). is_in_state is_any (copies_of t.copies c.args.space c.args.block)) c.self.view_is ∙ c.requires in cc)

pub returns : goal.returns
unfolding copies_of
returns c = λ plan.
    let some : Some c.in-Some.copy.now ≡ cell_of c.self.inside.tables.copies c.args.space c.args.block = c.in-Some.ensures in
    ap (λ (cell : Option BlockCopy). versions_of (seen cell)) some ∙ ap (λ (t : Tables). versions_of (copies_of t.copies c.args.space c.args.block)) c.self.view_is
