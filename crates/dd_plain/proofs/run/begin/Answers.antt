use Rattle.std.proofs.Common.{map, refl, ap, ◌∙◌, arith}
use Rattle.dd_meaning.specs.Worlds.{filled}
use Rattle.dd_plain.specs.Lists.{lists_of}
use Rattle.dd_plain.proofs.RegionLemmas.{first_world, small_arrays}
use Rattle.dd_plain.proofs.run.begin.Goals as goal

pub filled_world-requires : goal.filled_world-requires
filled_world-requires c = rw c.as_slice.ensures (small_arrays c.args.plan.now c.requires)

pub returns : goal.returns
returns c =
    let first = first_world c.args.plan.now (lists_of c.in_ok-filled_world.field-0.items) c.requires (c.in_ok-filled_world.ensures ∙ ap (map filled) c.as_slice.ensures) in
    record {
      world = first.0;
      sizes = first.1;
      moved = λ asked. refl;
      few = omega arith;
      rest = c.in_ok-new.ensures;
    }
