use Rattle.std.proofs.Common.{◌≡◌, ◌-◌, ◌<◌, length, refl, sym, ap, subst, ◌∙◌, arith, rules}
use Rattle.std.specs.List.{flat_map, range_with_len}
use Rattle.std.specs.Io.KnownBytes.{Appends}
use Rattle.std.proofs.lemmas.List.{append-nil}
use Rattle.dd_causes.specs.Appended.{AppendsAllBut}
use Rattle.dd_causes.proofs.AppendedLemmas.{all_but_more, all_but_start, front_in_piece}
use Rattle.dd_causes.proofs.CountsLemmas.{anyway_on_err}
use Rattle.dd_meaning.specs.Text.{row_text, text_of}
use Rattle.dd_meaning.proofs.TextLemmas.{text_of_rows}
use Rattle.dd_lists.proofs.ListsLemmas.{next_left}
use Rattle.dd_plain.proofs.run.run_rows.Goals as goal

pub loop-i-init : goal.loop-i-init
loop-i-init g c = record {
  written =
      let none : length c.args.plan.now.statements - 0 ≡ length c.args.plan.now.statements = omega arith in
      let start = subst (λ n. AppendsAllBut (g.O.Sink.taken c.args.out.now) (g.O.Sink.taken c.args.out.now) (flat_map (row_text c.args.plan.now) (range_with_len 0 n)) (flat_map (row_text c.args.plan.now) (range_with_len 0 (length c.args.plan.now.statements)))) (sym none) (all_but_start _ _) in
      subst (λ text. AppendsAllBut (g.O.Sink.taken c.args.out.now) (g.O.Sink.taken c.args.out.now) (flat_map (row_text c.args.plan.now) (range_with_len 0 (length c.args.plan.now.statements - 0))) text) (sym (text_of_rows c.args.plan.now)) start;
  ran = c.requires.begun;
  kept = refl;
}

pub loop-i-preserved : goal.loop-i-preserved
loop-i-preserved g c =
    let within : c.loop-i.i < length c.args.plan.now.statements = omega (arith, c.loop-i-test.true, ap length c.as_slice-rows.ensures) in
    let next = next_left (row_text c.args.plan.now) c.loop-i.i (length c.args.plan.now.statements) within in
    record {
      written = all_but_more c.loop-i.invariant.written _ _ next c.in_ok-run_row.ensures.written.all;
      ran = c.in_ok-run_row.ensures.ran;
      kept = c.in_ok-run_row.ensures.written.kept (λ h. absurd (cc)) ∙ c.loop-i.invariant.kept;
    }

pub returns-in_err-run_row : goal.returns-in_err-run_row
returns-in_err-run_row g c =
    let within : c.loop-i.i < length c.args.plan.now.statements = omega (arith, c.loop-i-test.true, ap length c.as_slice-rows.ensures) in
    let next = next_left (row_text c.args.plan.now) c.loop-i.i (length c.args.plan.now.statements) within in
    let written = c.in_err-run_row.ensures.written in
    record {
      all = search rules;
      front = anyway_on_err _ (front_in_piece c.loop-i.invariant.written _ _ next written.front);
      cause = search (rules, written.cause);
      kept = search (rules, written.kept);
      later = search (rules, written.later);
    }

pub returns : goal.returns
returns g c =
    let none : length c.args.plan.now.statements - c.loop-i.i ≡ 0 = omega (arith, c.loop-i-test.false, ap length c.as_slice-rows.ensures) in
    let written = subst (λ n. AppendsAllBut (g.O.Sink.taken c.args.out.now) (g.O.Sink.taken c.loop-i.out) (flat_map (row_text c.args.plan.now) (range_with_len c.loop-i.i n)) (text_of c.args.plan.now)) none c.loop-i.invariant.written in
    record {
      all = subst (Appends (g.O.Sink.taken c.args.out.now) (g.O.Sink.taken c.loop-i.out)) (sym (written.split ∙ append-nil written.done)) written.grown;
      front = search rules;
      cause = search rules;
      kept = search rules;
      later = search rules;
    }
