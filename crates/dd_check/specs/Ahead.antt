-- What a draft counts when the next row of its statements is counted already, and does not stand there yet.
use Rattle.std.specs.Prelude.{◌≡◌, ℕ, ◌+◌, ◌<◌, Bool, cond, length, slice_index_or, option_to_list}
use Rattle.dd_blocks.specs.declared.what.What.{What}
use Rattle.dd_blocks.specs.declared.what.What.TheVariants.{Print, Sum, MoveTo}
use Rattle.dd_blocks.specs.ArrayHomes.{AreMovedTo, HasArray}
use Rattle.dd_blocks.specs.Layout.{elements_in}
use Rattle.dd_blocks.specs.Lives.{ends_name, gives_name, names_ended, names_given, region_run, regions_run}
use Rattle.dd_blocks.specs.Touches.{touches_in, touches_of}
use Rattle.dd_check.specs.declared.draft.Draft.{Draft}
use Rattle.dd_check.specs.Drafts.{SumsOpen}

abbrev pub one_if : Bool → ℕ
one_if b = cond b 1 0

pub record CountsAhead (d : Draft) (what : What) : Type 0 where
  pub each : length d.counts.items ≡ length d.plan.arrays
  pub names : (array : ℕ) → array < length d.plan.arrays
      → names_ended (array + 1) d.plan.statements + one_if (ends_name (array + 1) what) + slice_index_or d.counts.items array 0
      ≡ names_given (array + 1) d.plan.statements + one_if (gives_name (array + 1) what)
  pub elements : d.elements ≡ elements_in d.plan.arrays
  pub regions : d.regions ≡ length (regions_run d.plan.statements) + length (option_to_list (region_run what))
  pub touches : d.touches ≡ touches_in d.plan + touches_of d.plan what
  pub opened : SumsOpen d.opened
  pub homes : AreMovedTo (length d.plan.arrays) d.plan.statements d.homes.items
  pub array : HasArray (length d.plan.arrays) what

-- the statement goes through all blocks of the array
abbrev pub AsksAll : What → ℕ → Type 0
AsksAll (Print asked) array = asked ≡ array
AsksAll (Sum asked name) array = asked ≡ array
AsksAll (MoveTo asked space) array = asked ≡ array
AsksAll _ array = ⊥
