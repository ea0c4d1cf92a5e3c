use Rattle.std.proofs.Common.{rules}
use Rattle.dd_causes.proofs.AppendedLemmas.{front_untouched}
use Rattle.dd_causes.proofs.CountsLemmas.{anyway_on_err}
use Rattle.dd_text.proofs.printing.print_moved.Goals as goal

pub returns-in_err-put_moved : goal.returns-in_err-put_moved
returns-in_err-put_moved g c = record {
  all = search rules;
  front = anyway_on_err _ (front_untouched _ _);
  cause = search rules;
  kept = search rules;
  later = search rules;
}
