use Rattle.dd_blocks.specs.Numbered.{numbered, no_array}
use Rattle.dd_blocks.specs.Tasks.{shape_in}
use Rattle.dd_plain.proofs.AccessLemmas.{few_elements}
use Rattle.dd_plain.proofs.StepLemmas.{beside_in_array, beside_within, beside_written}
use Rattle.dd_plain.proofs.TaskLemmas.{run_filled}
use Rattle.dd_plain.proofs.task.run_in_place.Goals as goal

pub kernel_shape-requires-clause-view : goal.kernel_shape-requires-clause-view
kernel_shape-requires-clause-view c =
    let both = beside_in_array c.args.arrays.now c.args.task.now c.args.at.0 c.args.at.1 c.requires.can c.requires.beside in
    rw (c.as_slice.ensures, c.requires.beside.two) (shape_in (numbered no_array c.args.arrays.now c.requires.beside.first.view.array), both.0.view)

pub kernel_shape-requires-clause-few : goal.kernel_shape-requires-clause-few
kernel_shape-requires-clause-few c =
    let both = beside_in_array c.args.arrays.now c.args.task.now c.args.at.0 c.args.at.1 c.requires.can c.requires.beside in
    rw (c.as_slice.ensures, c.requires.beside.two) (few_elements c.args.arrays.now c.requires.beside.first both.0)

pub kernel_shape-requires-2-clause-view : goal.kernel_shape-requires-2-clause-view
kernel_shape-requires-2-clause-view c =
    let both = beside_in_array c.args.arrays.now c.args.task.now c.args.at.0 c.args.at.1 c.requires.can c.requires.beside in
    rw (c.as_slice.ensures, c.requires.beside.two) (shape_in (numbered no_array c.args.arrays.now c.requires.beside.second.view.array), both.1.view)

pub kernel_shape-requires-2-clause-few : goal.kernel_shape-requires-2-clause-few
kernel_shape-requires-2-clause-few c =
    let both = beside_in_array c.args.arrays.now c.args.task.now c.args.at.0 c.args.at.1 c.requires.can c.requires.beside in
    rw (c.as_slice.ensures, c.requires.beside.two) (few_elements c.args.arrays.now c.requires.beside.second both.1)

pub run_beside-requires-clause-x_within : goal.run_beside-requires-clause-x_within
run_beside-requires-clause-x_within c =
    (beside_within c.args.arrays.now c.args.world.now c.args.task.now c.as_slice.result.now c.args.at.0 c.args.at.1 _ c.index-world-place.result c.deref_mut.result.now c.requires.can c.requires.sizes c.as_slice.ensures c.requires.beside c.deref_mut.ensures.value).0

pub run_beside-requires-clause-y_within : goal.run_beside-requires-clause-y_within
run_beside-requires-clause-y_within c =
    (beside_within c.args.arrays.now c.args.world.now c.args.task.now c.as_slice.result.now c.args.at.0 c.args.at.1 _ c.index-world-place.result c.deref_mut.result.now c.requires.can c.requires.sizes c.as_slice.ensures c.requires.beside c.deref_mut.ensures.value).1

pub run_beside-requires-clause-x_filled : goal.run_beside-requires-clause-x_filled
run_beside-requires-clause-x_filled c =
    let both = beside_in_array c.args.arrays.now c.args.task.now c.args.at.0 c.args.at.1 c.requires.can c.requires.beside in
    rw (c.kernel_shape.ensures, c.as_slice.ensures, c.requires.beside.two) (run_filled c.requires.beside.first.view c.args.at.0.first c.args.at.0.count (shape_in (numbered no_array c.args.arrays.now c.requires.beside.first.view.array), both.0.view) c.requires.beside.x_is)

pub run_beside-requires-clause-y_filled : goal.run_beside-requires-clause-y_filled
run_beside-requires-clause-y_filled c =
    let both = beside_in_array c.args.arrays.now c.args.task.now c.args.at.0 c.args.at.1 c.requires.can c.requires.beside in
    rw (c.kernel_shape-2.ensures, c.as_slice.ensures, c.requires.beside.two) (run_filled c.requires.beside.second.view c.args.at.1.first c.args.at.1.count (shape_in (numbered no_array c.args.arrays.now c.requires.beside.second.view.array), both.1.view) c.requires.beside.y_is)

pub returns : goal.returns
returns c =
    beside_written c.args.arrays.now c.args.world.now c.args.task.now c.as_slice.result.now c.args.at.0 c.args.at.1 _ c.index-world-place.result c.deref_mut.result.now c.run_beside.new.values c.kernel_shape.result c.kernel_shape-2.result c.requires.can c.requires.sizes c.as_slice.ensures c.requires.beside c.deref_mut.ensures.value c.run_beside.auto.values c.kernel_shape.ensures c.kernel_shape-2.ensures c.run_beside.ensures
