use Rattle.dd_kernels.proofs.OrderLemmas.{order_is}
use Rattle.dd_kernels.proofs.laws.order_of_length.Goals as goal

pub returns : goal.returns
returns c n s some triangle = order_is n s.rows some triangle.0
