use Rattle.std.proofs.Common.{get_or}
use Rattle.dd_blocks.specs.Numbered.{numbered, no_array}
use Rattle.dd_blocks.specs.Tasks.{shape_in}
use Rattle.dd_plain.specs.Lists.{lists_of}
use Rattle.dd_plain.proofs.StepLemmas.{step_sizes}
use Rattle.dd_plain.proofs.task.run_task.Goals as goal

pub beside-requires : goal.beside-requires
beside-requires c = rw c.as_slice.ensures (λ k d lt. (shape_in (numbered no_array c.args.arrays.now (get_or c.args.task.now.accesses k d).view.array), (c.requires.can.accesses k d lt).view))

pub returns-in-Some-clause-sizes : goal.returns-in-Some-clause-sizes
returns-in-Some-clause-sizes c = rw c.run_in_place.ensures (step_sizes c.args.arrays.now (lists_of c.args.world.now) c.args.task.now c.requires.can c.requires.sizes)
