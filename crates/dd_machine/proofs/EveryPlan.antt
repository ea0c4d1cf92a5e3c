-- A second worked script, in whose journal each of the eighteen events stands: three rows of two elements, in spaces of 64 bytes. The
-- second is moved, the first is spilled, lent to a task of the other space, called back and written back.
use Rattle.std.proofs.Common.{List, [], pos, ◌∷◌}
use Rattle.dd_kernels.specs.declared.kernel.Kernel.TheVariants.{Addk, Fill}
use Rattle.dd_kernels.specs.declared.signature.Mode.TheVariants.{Both, Write}
use Rattle.dd_blocks.specs.declared.fill.Fill.TheVariants.{Iota, Zeros}
use Rattle.dd_blocks.specs.declared.plan.Plan.{Plan}
use Rattle.dd_blocks.specs.declared.policy.Policy.TheVariants.{Lru}
use Rattle.dd_blocks.specs.declared.rule.Rule.TheVariants.{Rr}
use Rattle.dd_blocks.specs.declared.what.What.TheVariants.{Put, Print, Moved, MoveTo, Region}
use Rattle.dd_meaning.proofs.SmallPlans.{access, array_of, row_view, span_of}
use Rattle.dd_machine.specs.declared.entry.Entry.{Entry}
use Rattle.dd_machine.specs.declared.event.Event.TheVariants as event
use Rattle.dd_machine.specs.TwoSpaces.{at_line}

abbrev pub three_rows : Plan
three_rows = record {
  spaces = record { name = 109 ∷ []; limit = 64 } ∷ record { name = 110 ∷ []; limit = 64 } ∷ [];
  procs = record { name = 112 ∷ []; space = 1 } ∷ record { name = 113 ∷ []; space = 2 } ∷ [];
  policy = Lru;
  rule = Rr;
  arrays = array_of 1 2 Iota 1 0 ∷ array_of 1 2 Zeros 2 2 ∷ array_of 1 2 Zeros 3 4 ∷ [];
  blocks = record { array = 1; home = 1; size = 2 } ∷ record { array = 2; home = 2; size = 2 } ∷ record { array = 3; home = 1; size = 2 } ∷ [];
  tasks = record { line = 10; region = 1; kernel = Fill; scalar = pos 7; accesses = access Write (row_view 3 (span_of 1 (pos 1) 2)) ∷ []; proc = 1; deps = []; blocks = 3 ∷ []; charge = 48 }
      ∷ record { line = 11; region = 1; kernel = Addk; scalar = pos 5; accesses = access Both (row_view 1 (span_of 1 (pos 1) 2)) ∷ []; proc = 2; deps = []; blocks = 1 ∷ []; charge = 48 } ∷ [];
  statements = record { line = 5; what = Put 1 } ∷ record { line = 6; what = Put 2 } ∷ record { line = 7; what = Put 3 } ∷ record { line = 8; what = MoveTo 2 1 } ∷ record { line = 12; what = Region 1 }
      ∷ record { line = 13; what = Print 1 } ∷ record { line = 14; what = Moved } ∷ [];
}

abbrev pub every_event : List Entry
every_event = at_line 5 (event.Ask 1 1) ∷ at_line 5 (event.Put 1) ∷ at_line 5 event.Rest ∷ at_line 6 (event.Ask 2 2) ∷ at_line 6 (event.Put 2) ∷ at_line 6 event.Rest
    ∷ at_line 7 (event.Ask 1 3) ∷ at_line 7 (event.Put 3) ∷ at_line 7 event.Rest ∷ at_line 8 (event.Ask 1 2) ∷ at_line 8 (event.Shift 2 1) ∷ at_line 8 event.Rest
    ∷ at_line 12 (event.Begin 1) ∷ at_line 12 (event.Hold 1) ∷ at_line 12 (event.Pick 1 1) ∷ at_line 12 (event.Gone 1 1) ∷ at_line 12 (event.Claim 1 1)
    ∷ at_line 12 (event.Hold 2) ∷ at_line 12 (event.Make 2 1) ∷ at_line 12 (event.Lend 2 1 1) ∷ at_line 12 (event.Copy 2 1 1 2) ∷ at_line 12 (event.Claim 2 2)
    ∷ at_line 12 (event.Finish 1) ∷ at_line 12 (event.Finish 2) ∷ at_line 12 (event.Ask 1 1) ∷ at_line 12 (event.Call 1 1) ∷ at_line 12 (event.Come 1 1)
    ∷ at_line 12 (event.Back 1 2 2) ∷ at_line 12 event.Rest ∷ at_line 12 (event.Free 2 1) ∷ at_line 12 (event.Close 1) ∷ at_line 13 (event.Ask 1 1) ∷ at_line 13 event.Rest ∷ []
