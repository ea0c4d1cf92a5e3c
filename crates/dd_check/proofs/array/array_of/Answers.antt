use Rattle.std.proofs.Common.{◌≡◌, Some, sym, ◌∙◌}
use Rattle.dd_check.specs.Lookup.{array_by}
use Rattle.dd_check.proofs.array.array_of.Goals as goal

pub returns-clause-within : goal.returns-clause-within
returns-clause-within c =
    let is : array_by c.args.draft.now.names c.args.name.now ≡ Some c.in-Some.array = rw c.as_bytes.ensures at (sym c.array.ensures ∙ c.in-Some.is) in
    (c.requires.sound.above.names.live c.args.name.now c.in-Some.array is).0
