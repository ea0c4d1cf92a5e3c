use Rattle.std.proofs.Common.{◌≡◌, ◌-◌, length}
use Rattle.std.specs.List.{flat_map, range_with_len}
use Rattle.dd_causes.specs.Appended.{AppendsAllBut}
use Rattle.dd_meaning.specs.Text.{row_text, text_of}
use Rattle.dd_plain.specs.Rows.{HasRun}
use Rattle.dd_plain.proofs.run.run_rows.Given as goal

abbrev pub invariant-loop-i : goal.invariant-loop-i
invariant-loop-i g l = record {
  written : AppendsAllBut (g.O.Sink.taken l.initial.out) (g.O.Sink.taken l.out) (flat_map (row_text l.plan) (range_with_len l.i (length l.plan.statements - l.i))) (text_of l.plan);
  ran : HasRun l.plan l.i l.run;
  kept : g.O.Sink.faults l.out ≡ g.O.Sink.faults l.initial.out;
}
