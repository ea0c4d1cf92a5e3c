use Rattle.std.proofs.Common.{ℕ, ◌≤◌, subst}
use Rattle.dd_alias.specs.Lines.{run_at}
use Rattle.dd_alias.specs.Patterns.{MeetsIn}
use Rattle.dd_alias.proofs.PatternLemmas.{both_meet, first_band_at, second_band_at, within_of}
use Rattle.dd_alias.proofs.meeting.meet_in_some.Goals as goal

pub of-requires-clause-cols : goal.of-requires-clause-cols
of-requires-clause-cols c = λ x has. ((c.requires.cols x).0 has).0

pub of-requires-2-clause-cols : goal.of-requires-2-clause-cols
of-requires-2-clause-cols c = λ x has. ((c.requires.cols x).0 has).1

pub meet_along-requires-clause-a : goal.meet_along-requires-clause-a
meet_along-requires-clause-a c = λ t turn.
    within_of c.args.a.now c.args.cols.now c.args.rows.now c.of.result t (first_band_at c.args.a.now c.args.b.now c.args.cols.now c.of.result t c.requires.a c.of.ensures.band c.requires.cols turn) c.of.ensures.ways

pub meet_along-requires-clause-b : goal.meet_along-requires-clause-b
meet_along-requires-clause-b c = λ t turn.
    within_of c.args.b.now c.args.cols.now c.args.rows.now c.of-2.result t (second_band_at c.args.a.now c.args.b.now c.args.cols.now c.of-2.result t c.requires.b c.of-2.ensures.band c.requires.cols turn) c.of-2.ensures.ways

pub returns : goal.returns
returns c =
    let a = c.args.a.now in
    let b = c.args.b.now in
    let cols = c.args.cols.now in (
      (λ yes.
          let found = c.meet_along.ensures.0 yes in
          let at_a = first_band_at a b cols c.of.result found.0 c.requires.a c.of.ensures.band c.requires.cols found.1 in
          let at_b = second_band_at a b cols c.of-2.result found.0 c.requires.b c.of-2.ensures.band c.requires.cols found.1 in
          (run_at cols found.0, (both_meet a b cols c.args.rows.now c.of.result c.of-2.result found.0 at_a at_b c.requires.rows).0 found.2)),
      (λ meets.
          let here = meets.1 in
          let column = (c.requires.cols meets.0).1 ((here.1.1, here.1.2.col), (here.2.1, here.2.2.col)) in
          let t = column.0.0 in
          let is = column.0.1 in
          let turn = subst (λ (x : ℕ). x ≤ cols.limit) is column.1 in
          let at_a = first_band_at a b cols c.of.result t c.requires.a c.of.ensures.band c.requires.cols turn in
          let at_b = second_band_at a b cols c.of-2.result t c.requires.b c.of-2.ensures.band c.requires.cols turn in
          c.meet_along.ensures.1 (t, turn, (both_meet a b cols c.args.rows.now c.of.result c.of-2.result t at_a at_b c.requires.rows).1 (subst (λ (x : ℕ). MeetsIn a b x) is here))),
    )
