use Rattle.std.proofs.Common.{sym, subst}
use Rattle.dd_check.specs.Above.{Above}
use Rattle.dd_check.specs.Sound.{IsSound}
use Rattle.dd_check.proofs.MachineLemmas.{settle_sound}
use Rattle.dd_check.proofs.admission.prepare.Goals as goal

pub returns-clause-sound : goal.returns-clause-sound
returns-clause-sound c = record {
  lines = c.requires.sound.lines;
  few = c.requires.sound.few;
  above = subst (λ (a : Above). IsSound c.requires.sound.lines a) (sym c.in_ok-settle.ensures.above) (settle_sound c.requires.sound.lines _ c.requires.sound.above);
  counts = c.in_ok-settle.ensures.counts;
}
