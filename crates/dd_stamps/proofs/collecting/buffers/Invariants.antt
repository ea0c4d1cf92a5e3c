use Rattle.std.proofs.Common.{◌≡◌, length, map, take}
use Rattle.dd_kernels.specs.Shapes.{size_of}
use Rattle.dd_blocks.specs.Tasks.{shapes_in}
use Rattle.dd_meaning.specs.Lists.{lists_of}
use Rattle.dd_stamps.proofs.collecting.buffers.Given as goal

abbrev pub invariant-loop-access : goal.invariant-loop-access
invariant-loop-access l = record {
  shapes : l.shapes.items ≡ shapes_in (take l.access-index l.accesses);
  filled : map length (lists_of l.bufs.items) ≡ map size_of (shapes_in (take l.access-index l.accesses));
}
