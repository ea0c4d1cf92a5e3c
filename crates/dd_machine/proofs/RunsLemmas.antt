-- Runs of several parts.
use Rattle.std.proofs.Common.{◌≡◌, List, [], ◌∷◌, ◌++◌, refl}
use Rattle.dd_blocks.specs.declared.plan.Plan.{Plan}
use Rattle.dd_machine.specs.declared.entry.Entry.{Entry}
use Rattle.dd_machine.specs.Effects.{after}
use Rattle.dd_machine.specs.Legal.{Legal}
use Rattle.dd_machine.specs.Runs.{IsRun, state_after}
use Rattle.dd_machine.specs.States.{State}

-- a run of two parts, and the state after it
pub run_parts : (plan : Plan) (st : State) (xs ys : List Entry) → IsRun plan st (xs ++ ys) → IsRun plan st xs × IsRun plan (state_after plan st xs) ys
unfolding IsRun state_after
run_parts plan st [] ys run = (tt, run)
run_parts plan st (x ∷ xs) ys run = let more = run_parts plan (after plan st x.event) xs ys run.1 in ((run.0, more.0), more.1)

pub state_parts : (plan : Plan) (st : State) (xs ys : List Entry) → state_after plan st (xs ++ ys) ≡ state_after plan (state_after plan st xs) ys
unfolding state_after
state_parts plan st [] ys = refl
state_parts plan st (x ∷ xs) ys = state_parts plan (after plan st x.event) xs ys

pub run_more : (plan : Plan) (st : State) (xs ys : List Entry) → IsRun plan st xs → IsRun plan (state_after plan st xs) ys → IsRun plan st (xs ++ ys)
unfolding IsRun state_after
run_more plan st [] ys run rest = rest
run_more plan st (x ∷ xs) ys run rest = (run.0, run_more plan (after plan st x.event) xs ys run.1 rest)

-- a run's first entry is legal, and the rest is a run from there
pub run_first : (plan : Plan) (st : State) (entry : Entry) (entries : List Entry) → IsRun plan st (entry ∷ entries) → Legal plan st entry × IsRun plan (after plan st entry.event) entries
unfolding IsRun
run_first plan st entry entries run = run

pub state_first : (plan : Plan) (st : State) (entry : Entry) (entries : List Entry) → state_after plan st (entry ∷ entries) ≡ state_after plan (after plan st entry.event) entries
unfolding state_after
state_first plan st entry entries = refl
