use Rattle.std.proofs.Common.{sym, subst}
use Rattle.dd_machine.specs.Legal.{May}
use Rattle.dd_machine.specs.Sound.{IsSound}
use Rattle.dd_tables.specs.declared.tables.Tables.{Tables}
use Rattle.dd_core.specs.Cores.{core_state}
use Rattle.dd_core.proofs.SoundLemmas.{stays_sound}
use Rattle.dd_core.proofs.state.Core.finish.Goals as goal

pub returns-clause-core : goal.returns-clause-core
returns-clause-core c =
    let plan = c.args.plan.now in record {
      sized = c.end.ensures.sized;
      sound = stays_sound plan (core_state plan c.self.inside.tables) (core_state plan c.end.new.tables) c.args.entry.event c.requires.well
          (subst (λ (t : Tables). IsSound plan (core_state plan t)) (sym c.self.view_is) c.requires.core.sound)
          (subst (λ (t : Tables). May plan (core_state plan t) c.args.entry.event) (sym c.self.view_is) c.requires.legal.1)
          c.end.ensures.value;
    }
