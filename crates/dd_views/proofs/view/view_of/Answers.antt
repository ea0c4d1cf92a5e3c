use Rattle.std.proofs.Common.{refl, rules, ⊎_elim}
use Rattle.dd_views.specs.declared.view.View.{View}
use Rattle.dd_views.specs.Views.{IsViewOf}
use Rattle.dd_views.proofs.OnceLemmas.{once_view}
use Rattle.dd_views.proofs.view.view_of.Goals as goal

pub returns-then-rows-cols-clause-bad_range : goal.returns-then-rows-cols-clause-bad_range
returns-then-rows-cols-clause-bad_range c = (
  (λ e. absurd (cc)),
  (λ bad. ⊎_elim (λ rows. let e = c.in_ok-rows.ensures.refused.1 rows in absurd (cc)) (λ cols. let e = c.in_ok-cols.ensures.refused.1 cols in absurd (cc)) bad),
)

pub returns-then-rows-cols-clause-not_square : goal.returns-then-rows-cols-clause-not_square
returns-then-rows-cols-clause-not_square c = (
  (λ _. (
    (λ bad. ⊎_elim (λ rows. let e = c.in_ok-rows.ensures.refused.1 rows in absurd (cc)) (λ cols. let e = c.in_ok-cols.ensures.refused.1 cols in absurd (cc)) bad),
    (
      λ all. c.if-wants_square.ensures.0 refl all,
      (c.in_ok-rows.rows.count, c.in_ok-cols.cols.count, c.in_ok-rows.ensures.ok.counted, c.in_ok-cols.ensures.ok.counted, c.if-rows-cols.true),
    ),
  )),
  (λ _. refl),
)

pub returns-clause-bad_range : goal.returns-clause-bad_range
returns-clause-bad_range c = (
  (λ e. absurd (cc)),
  (λ bad. ⊎_elim (λ rows. let e = c.in_ok-rows.ensures.refused.1 rows in absurd (cc)) (λ cols. let e = c.in_ok-cols.ensures.refused.1 cols in absurd (cc)) bad),
)

pub returns-clause-once : goal.returns-clause-once
returns-clause-once c =
    let v : View = record { array = c.args.array; height = c.args.shape.rows; rows = c.in_ok-rows.rows; cols = c.in_ok-cols.cols; part = c.args.part } in
    let view : IsViewOf c.args.shape v = search rules in
    once_view v (c.args.shape, view)
