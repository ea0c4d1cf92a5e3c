-- No state of a legal run is stuck in an open region.
use Rattle.std.proofs.Common.{List}
use Rattle.dd_blocks.specs.declared.plan.Plan.{Plan}
use Rattle.dd_blocks.specs.WellFormed.{IsWellFormed}
use Rattle.dd_machine.specs.declared.entry.Entry.{Entry}
use Rattle.dd_machine.specs.GoesOn.{GoesOn, LeadsTasksOn}
use Rattle.dd_machine.specs.Runs.{IsLegalRun, state_of_run}
use Rattle.laws_of_progress.proofs.AlwaysLemmas.{goes_on}
use Rattle.laws_of_progress.proofs.QuietLemmas.{leads_tasks_on}
use Rattle.laws_of_machine.proofs.SoundLemmas.{sound_run}

pub every_goes_on : (plan : Plan) (entries : List Entry) → IsWellFormed plan → IsLegalRun plan entries → GoesOn plan (state_of_run plan entries)
every_goes_on plan entries well run = let sound = sound_run plan entries well run in goes_on plan (state_of_run plan entries) well sound sound.progress

pub every_leads_on : (plan : Plan) (entries : List Entry) → IsWellFormed plan → IsLegalRun plan entries → LeadsTasksOn plan (state_of_run plan entries)
every_leads_on plan entries well run = let sound = sound_run plan entries well run in leads_tasks_on plan (state_of_run plan entries) well sound sound.progress
