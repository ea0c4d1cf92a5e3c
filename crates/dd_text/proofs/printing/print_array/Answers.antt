use Rattle.std.proofs.Common.{◌++◌, ◌∙◌, [], sym, subst, rules}
use Rattle.std.specs.Io.KnownBytes.{Appends}
use Rattle.std.proofs.lemmas.List.{append-nil}
use Rattle.std.proofs.lemmas.Result.{on_err_weaker, on_ok_weaker}
use Rattle.dd_causes.specs.Appended.{AppendsFront}
use Rattle.dd_causes.proofs.AppendedLemmas.{all_but_more, front_in_piece}
use Rattle.dd_meaning.specs.Text.{printed}
use Rattle.dd_text.proofs.printing.print_array.Goals as goal

pub returns : goal.returns
returns g c =
    let written = c.write_rows.ensures.written in
    record {
      all = on_ok_weaker c.write_rows.result (λ q.
          let more = all_but_more c.in_ok-print_bands.ensures.all _ [] (sym (append-nil _)) q in
          subst (λ l. Appends (g.O.Sink.taken c.args.out.now) (g.O.Sink.taken c.write_rows.new.out) (l ++ printed c.args.grid c.args.values.now)) c.clear.ensures.items (subst (Appends (g.O.Sink.taken c.args.out.now) (g.O.Sink.taken c.write_rows.new.out)) (sym (more.split ∙ append-nil more.done)) more.grown)) written.all;
      front = on_err_weaker c.write_rows.result (λ f. subst (λ l. AppendsFront (g.O.Sink.taken c.args.out.now) (g.O.Sink.taken c.write_rows.new.out) (l ++ printed c.args.grid c.args.values.now)) c.clear.ensures.items (front_in_piece c.in_ok-print_bands.ensures.all _ _ (sym (append-nil _)) f)) written.front;
      cause = search (rules, written.cause);
      kept = search (rules, written.kept);
      later = search (rules, written.later);
    }
