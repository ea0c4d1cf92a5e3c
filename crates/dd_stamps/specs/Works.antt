-- Works, as callers see them.
use Rattle.std.specs.Prelude.{◌≡◌}
use Rattle.dd_stamps.specs.declared.work.Work.{Work}

-- what names a work stays
pub record IsSameWork (old new : Work) : Type 0 where
  pub plan : new.plan ≡ old.plan
  pub task : new.task ≡ old.task
  pub worker : new.worker ≡ old.worker
  pub number : new.number ≡ old.number
  pub picked : new.picked ≡ old.picked
