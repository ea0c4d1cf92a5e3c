-- One call more took the front of what was left.
use Rattle.std.proofs.Common.{◌++◌, ◌-◌, length, take, drop, sym, ap, ◌∙◌, arith, take-append-drop}
use Rattle.std.proofs.lemmas.List.{take_rest}
use Rattle.dd_causes.proofs.AppendedLemmas.{all_but_more}
use Rattle.dd_io.proofs.writing.write_all.Goals as goal

pub loop-rest-preserved : goal.loop-rest-preserved
loop-rest-preserved g c =
    let rest = c.loop-rest.rest.now in
    let n = c.in_ok-taken.taken in
    let split = sym (take-append-drop n rest) ∙ ap (λ l. take n rest ++ l) (sym (take_rest rest n)) in
    record {
      appended = all_but_more c.loop-rest.invariant.appended (take n rest) (take (length rest - n) (drop n rest)) split c.in_ok-taken.ensures.grown;
      kept = omega (arith, c.in_ok-taken.ensures.kept, c.loop-rest.invariant.kept);
    }
