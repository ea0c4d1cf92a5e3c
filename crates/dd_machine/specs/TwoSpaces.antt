-- A worked script: two spaces with a processor each, an array A of four elements and an array B of two. The first task fills A
-- in space 1, the second reads two of its elements in space 2. Its Plan, a journal of it, and five changes of that journal.
use Rattle.std.specs.Prelude.{◌≡◌, ℕ, pos, List, [], ◌∷◌, take}
use Rattle.dd_kernels.specs.declared.kernel.Kernel.TheVariants.{Copy, Fill}
use Rattle.dd_kernels.specs.declared.signature.Mode.{Mode}
use Rattle.dd_kernels.specs.declared.signature.Mode.TheVariants.{Read, Write}
use Rattle.dd_views.specs.declared.part.Part.TheVariants.{All}
use Rattle.dd_blocks.specs.declared.access_row.AccessRow.{AccessRow}
use Rattle.dd_blocks.specs.declared.array_row.ArrayRow.{ArrayRow}
use Rattle.dd_blocks.specs.declared.fill.Fill.TheVariants.{Zeros}
use Rattle.dd_blocks.specs.declared.plan.Plan.{Plan}
use Rattle.dd_blocks.specs.declared.policy.Policy.TheVariants.{Lru}
use Rattle.dd_blocks.specs.declared.rule.Rule.TheVariants.{Rr}
use Rattle.dd_blocks.specs.declared.what.What.TheVariants.{Put, Print, Moved, Region}
use Rattle.dd_machine.specs.declared.entry.Entry.{Entry}
use Rattle.dd_machine.specs.declared.event.Event.{Event}
use Rattle.dd_machine.specs.declared.event.Event.TheVariants as event
use Rattle.dd_machine.specs.Runs.{IsRefused, IsWholeRun, state_of_run}

-- an array of one column and one block, of zeros: its rows, its block, and how many elements stand before it
abbrev pub column : ℕ → ℕ → ℕ → ArrayRow
column rows block before =
    record { grid = record { rows = rows; cols = 1; brows = rows; bcols = 1 }; fill = Zeros; first_block = block; first_element = before }

-- an access to so many first rows of an array of one column that has so many rows
abbrev pub first_rows : Mode → ℕ → ℕ → ℕ → AccessRow
first_rows mode count array rows = record {
  view = record {
    array = array;
    height = rows;
    rows = record { first = 1; step = pos 1; count = count };
    cols = record { first = 1; step = pos 1; count = 1 };
    part = All;
  };
  mode = mode;
}

abbrev pub two_spaces : Plan
two_spaces = record {
  spaces = record { name = 109 ∷ []; limit = 4096 } ∷ record { name = 110 ∷ []; limit = 4096 } ∷ [];
  procs = record { name = 112 ∷ []; space = 1 } ∷ record { name = 113 ∷ []; space = 2 } ∷ [];
  policy = Lru;
  rule = Rr;
  arrays = column 4 1 0 ∷ column 2 2 4 ∷ [];
  blocks = record { array = 1; home = 1; size = 4 } ∷ record { array = 2; home = 2; size = 2 } ∷ [];
  tasks = record { line = 8; region = 1; kernel = Fill; scalar = pos 7; accesses = first_rows Write 4 1 4 ∷ []; proc = 1; deps = []; blocks = 1 ∷ []; charge = 96 }
      ∷ record { line = 9; region = 1; kernel = Copy; scalar = pos 0; accesses = first_rows Write 2 2 2 ∷ first_rows Read 2 1 4 ∷ []; proc = 2; deps = 1 ∷ []; blocks = 1 ∷ 2 ∷ []; charge = 112 } ∷ [];
  statements = record { line = 5; what = Put 1 } ∷ record { line = 6; what = Put 2 } ∷ record { line = 10; what = Region 1 } ∷ record { line = 11; what = Moved } ∷ record { line = 12; what = Print 2 } ∷ [];
}

abbrev pub at_line : ℕ → Event → Entry
at_line line what = record { line = line; event = what }

-- its journal: both arrays are made, the region runs, and B is printed
abbrev pub journal : List Entry
journal = at_line 5 (event.Ask 1 1) ∷ at_line 5 (event.Put 1) ∷ at_line 5 event.Rest ∷ at_line 6 (event.Ask 2 2) ∷ at_line 6 (event.Put 2) ∷ at_line 6 event.Rest
    ∷ at_line 10 (event.Begin 1) ∷ at_line 10 (event.Hold 1) ∷ at_line 10 (event.Claim 1 1) ∷ at_line 10 (event.Finish 1) ∷ at_line 10 (event.Hold 2)
    ∷ at_line 10 (event.Make 2 1) ∷ at_line 10 (event.Copy 2 1 1 2) ∷ at_line 10 (event.Claim 2 1) ∷ at_line 10 (event.Finish 2) ∷ at_line 10 (event.Free 2 1)
    ∷ at_line 10 (event.Close 1) ∷ at_line 12 (event.Ask 2 2) ∷ at_line 12 event.Rest ∷ []

-- the law: the journal is a whole legal run, which moves two elements
pub record IsWorked : Type 0 where
  pub whole : IsWholeRun two_spaces journal
  pub moved : (state_of_run two_spaces journal).moved ≡ 2

-- the law: in each of five changes of the journal the changed entry is the first that isn't legal
pub record AreRefused : Type 0 where
  -- the Copy counts the whole block, of which two elements are needed
  pub whole_block : IsRefused two_spaces (take 12 journal) (event.Copy 2 1 1 4)
  -- the second task is held when the region begins: it depends on the first
  pub held_early : IsRefused two_spaces (take 7 journal) (event.Hold 2)
  -- the second task starts without the Copy
  pub not_copied : IsRefused two_spaces (take 12 journal) (event.Claim 2 1)
  -- the region is closed with a copy away from home
  pub not_freed : IsRefused two_spaces (take 15 journal) (event.Close 1)
  -- a block is picked where the load is 32 bytes of 4096
  pub not_over : IsRefused two_spaces (take 3 journal) (event.Pick 1 1)
