use Rattle.dd_alias.proofs.ConflictLemmas.{conflict_is_clash, shapes_of_two}
use Rattle.dd_alias.proofs.conflicts.conflict.Goals as goal

pub some_clash-requires : goal.some_clash-requires
some_clash-requires c =
    rw (c.as_slice.ensures, c.as_slice-2.ensures) (shapes_of_two c.args.u.now c.args.t.now c.requires)

pub returns : goal.returns
returns c =
    let same = conflict_is_clash c.args.u.now c.args.t.now in
    let clash = rw (c.as_slice.ensures, c.as_slice-2.ensures) at c.some_clash.ensures in
    ((λ yes. same.0 (clash.0 yes)), (λ found. clash.1 (same.1 found)))
