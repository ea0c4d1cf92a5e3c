use Rattle.std.proofs.Common.{◌≡◌, refl, ◌-◌, ◌++◌, arith, rules, ap, sym, subst, ◌∙◌}
use Rattle.std.specs.List.{flat_map, range_with_len}
use Rattle.std.proofs.lemmas.List.{append-nil, append_assoc}
use Rattle.dd_causes.specs.Appended.{AppendsAllBut}
use Rattle.dd_meaning.specs.Text.{printed_row, printed}
use Rattle.dd_causes.proofs.AppendedLemmas.{all_but_start, front_in_piece}
use Rattle.dd_causes.proofs.CountsLemmas.{anyway_on_err}
use Rattle.dd_text.proofs.RowLemmas.{waiting_more}
use Rattle.dd_lists.proofs.ListsLemmas.{next_left}
use Rattle.dd_text.proofs.row.print_rows.Goals as goal

pub loop-i-init : goal.loop-i-init
loop-i-init g c =
    let all : c.args.grid.rows - 0 ≡ c.args.grid.rows = omega arith in
    (rw all (all_but_start _ _), refl)

pub returns-in_err-print_row : goal.returns-in_err-print_row
returns-in_err-print_row g c =
    let row = printed_row c.args.grid c.args.values.now c.loop-i.i in
    let next = next_left (printed_row c.args.grid c.args.values.now) c.loop-i.i c.args.grid.rows (omega arith) in
    record {
      all = search rules;
      front = anyway_on_err _ (front_in_piece c.loop-i.invariant.0 (c.loop-i.rows.items ++ row) _ (ap (λ l. c.loop-i.rows.items ++ l) next ∙ sym (append_assoc c.loop-i.rows.items row _)) c.in_err-print_row.ensures.front);
      cause = search rules;
      kept = search rules;
      later = search rules;
    }

pub loop-i-preserved : goal.loop-i-preserved
loop-i-preserved g c =
    let next = next_left (printed_row c.args.grid c.args.values.now) c.loop-i.i c.args.grid.rows (omega arith) in
    let left = subst (λ l. AppendsAllBut (g.O.Sink.taken c.args.out.now) (g.O.Sink.taken c.loop-i.out) (c.loop-i.rows.items ++ l) (c.args.rows.now.items ++ printed c.args.grid c.args.values.now)) next c.loop-i.invariant.0 in
    (waiting_more c.loop-i.rows.items _ _ left c.in_ok-print_row.ensures.all, c.in_ok-print_row.ensures.kept (λ h. absurd (cc)) ∙ c.loop-i.invariant.1)

pub returns : goal.returns
returns g c =
    let none : c.args.grid.rows - c.loop-i.i ≡ 0 = omega arith in
    let left = subst (λ n. AppendsAllBut (g.O.Sink.taken c.args.out.now) (g.O.Sink.taken c.loop-i.out) (c.loop-i.rows.items ++ flat_map (printed_row c.args.grid c.args.values.now) (range_with_len c.loop-i.i n)) (c.args.rows.now.items ++ printed c.args.grid c.args.values.now)) none c.loop-i.invariant.0 in
    record {
      all = subst (λ l. AppendsAllBut (g.O.Sink.taken c.args.out.now) (g.O.Sink.taken c.loop-i.out) l (c.args.rows.now.items ++ printed c.args.grid c.args.values.now)) (append-nil c.loop-i.rows.items) left;
      front = search rules;
      cause = search rules;
      kept = search rules;
      later = search rules;
    }
