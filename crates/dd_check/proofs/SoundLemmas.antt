-- What holds above the first line.
use Rattle.std.proofs.Common.{ℕ, ◌<◌, [], refl, arith}
use Rattle.std.proofs.lemmas.Bool.{false≢true}
use Rattle.std.specs.Prelude.{All}
use Rattle.dd_blocks.specs.Layout.{IsLaidOut}
use Rattle.dd_blocks.specs.Lives.{AreLives}
use Rattle.dd_blocks.specs.WellFormed.{AreRegions, KeepsLimits, NamesRows}
use Rattle.dd_check.specs.Above.{no_rows, nothing_above}
use Rattle.dd_check.specs.Sound.{AreSoundNames, IsInLineTo, IsSound, IsSoundMachine, IsSoundRegion}

none_below : {A : Type 0} (k : ℕ) → k < 0 → A
none_below k low = absurd (omega (arith, low))

all_of_none : {X : Type 0} (P : X → Type 0) → All P []
all_of_none P k d low = none_below k low

names_rows : NamesRows no_rows
names_rows = record { procs = λ k d low. none_below k low; blocks = λ k d low. none_below k low; tasks = λ k d low. none_below k low; statements = λ k d low. none_below k low }

layout : IsLaidOut no_rows
layout = record { arrays = λ i low. none_below i low; blocks = refl }

limits : KeepsLimits no_rows
limits = record {
  each_space = λ k d low. none_below k low;
  each_proc = λ k d low. none_below k low;
  each_array = λ k d low. none_below k low;
  each_statement = λ k d low. none_below k low;
  spaces = omega arith;
  procs = omega arith;
  arrays = omega arith;
  elements = omega arith;
  blocks = omega arith;
  each_region = λ region. record { tasks = omega arith; elements = omega arith };
  touches = omega arith;
}

regions : AreRegions no_rows
regions = record { tasks = λ i j d order low. none_below j low; rows = refl }

lives : AreLives no_rows
lives = record { puts = refl; stand = λ i d low. none_below i low }

machine : IsSoundMachine nothing_above
machine = record {
  space_of_proc = λ some. absurd (some refl);
  space = λ settled. absurd (false≢true settled);
  proc = λ some. absurd (some refl);
  opened = λ some. absurd (some refl);
  arrays = λ fresh. refl;
  statements = λ fresh. refl;
  region = λ fresh. refl;
}

names : AreSoundNames nothing_above
names = record { live = λ name array found. absurd (cc); names = λ array within. absurd (omega (arith, within.0, within.1)) }

region : IsSoundRegion nothing_above
region = record { tasks = λ k d low. none_below k low; few = omega arith; elements = omega arith; touches = omega arith }

line : IsInLineTo 0 nothing_above
line = record { few = omega arith; lines = λ i j d order low. none_below j low; rise = λ k low. none_below _ low; above = λ k d low. none_below k low; tasks = omega arith }

pub sound_nothing : IsSound 0 nothing_above
sound_nothing = record {
  machine = machine;
  names_rows = names_rows;
  layout = layout;
  tasks = λ t within. absurd (omega (arith, within.0, within.1));
  homes = λ k d low. none_below k low;
  limits = limits;
  regions = regions;
  lives = lives;
  names = names;
  region = region;
  line = line;
}
