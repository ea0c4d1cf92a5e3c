use Rattle.std.proofs.Common.{rules}
use Rattle.dd_causes.proofs.AppendedLemmas.{front_untouched}
use Rattle.dd_causes.proofs.CountsLemmas.{anyway_on_err}
use Rattle.dd_plain.proofs.run.run_plain.Goals as goal

pub returns-in_err-run : goal.returns-in_err-run
returns-in_err-run g c = record {
  all = search rules;
  front = anyway_on_err _ (front_untouched _ _);
  cause = search rules;
  kept = search rules;
  later = search rules;
}
