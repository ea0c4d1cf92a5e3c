use Rattle.std.proofs.Common.{[], None, false, refl, sym, ap, subst, ◌∙◌, arith, length}
use Rattle.dd_blocks.specs.declared.policy.Policy.TheVariants.{Lru}
use Rattle.dd_blocks.specs.declared.rule.Rule.TheVariants.{Rr}
use Rattle.dd_blocks.proofs.ArrayHomesLemmas.{moved_none}
use Rattle.dd_check.specs.Sound.{IsSound}
use Rattle.dd_check.proofs.SoundLemmas.{sound_nothing}
use Rattle.dd_check.proofs.draft.Draft.new.Goals as goal

pub returns-clause-above : goal.returns-clause-above
returns-clause-above c = λ i. record {
  plan = record {
    spaces = (c.of.ensures ∙ c.new.ensures.items) i;
    procs = (c.of-2.ensures ∙ c.new-2.ensures.items) i;
    policy = Lru;
    rule = Rr;
    arrays = (c.of-3.ensures ∙ c.new-3.ensures.items) i;
    blocks = (c.of-4.ensures ∙ c.new-4.ensures.items) i;
    tasks = (c.of-5.ensures ∙ c.new-5.ensures.items) i;
    statements = (c.of-6.ensures ∙ c.new-6.ensures.items) i;
  };
  live = λ name. c.new-7.ensures name i;
  opened = None;
  settled = false;
}

pub returns-clause-sound : goal.returns-clause-sound
returns-clause-sound c = record {
  lines = 0;
  few = omega arith;
  above = subst (IsSound 0) (sym (returns-clause-above c)) sound_nothing;
  counts = record {
    each = rw (c.new-8.ensures.items, c.of-3.ensures, c.new-3.ensures.items) refl;
    names = λ array within. absurd (omega (arith, within, ap length (c.of-3.ensures ∙ c.new-3.ensures.items)));
    elements = rw (c.of-3.ensures, c.new-3.ensures.items) refl;
    regions = rw (c.of-6.ensures, c.new-6.ensures.items) refl;
    touches = rw (c.of-5.ensures, c.new-5.ensures.items, c.of-6.ensures, c.new-6.ensures.items) refl;
    opened = tt;
    homes = rw (c.of-3.ensures, c.new-3.ensures.items, c.of-6.ensures, c.new-6.ensures.items, c.new-9.ensures.items) (moved_none 0 []);
  };
}
