use Rattle.dd_plain.proofs.TaskLemmas.{few_held}
use Rattle.dd_plain.proofs.computing.compute_two.Goals as goal

pub kernel_shape-requires-clause-few : goal.kernel_shape-requires-clause-few
kernel_shape-requires-clause-few c = few_held c.requires.x_held

pub kernel_shape-requires-2-clause-few : goal.kernel_shape-requires-2-clause-few
kernel_shape-requires-2-clause-few c = few_held c.requires.y_held
