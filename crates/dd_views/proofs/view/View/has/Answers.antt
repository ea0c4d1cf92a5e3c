use Rattle.std.proofs.Common.{◌∙◌, sym, arith}
use Rattle.dd_views.proofs.ElementsLemmas.{no_rows, no_row, no_col, has_kept, kept_has}
use Rattle.dd_views.proofs.ViewLemmas.{small_cols}
use Rattle.dd_views.proofs.view.View.has.Goals as goal

pub place_of-requires-2 : goal.place_of-requires-2
place_of-requires-2 c = small_cols _ c.requires (omega (arith, c.if-self-eq0.false))

pub returns-then-self-eq0 : goal.returns-then-self-eq0
returns-then-self-eq0 c = ((λ e. absurd (cc)), (λ there. absurd (no_rows _ _ c.requires c.if-self-eq0.true there)))

pub returns-in_default : goal.returns-in_default
returns-in_default c = ((λ e. absurd (cc)), (λ there. absurd (no_row _ _ _ c.from-height.ensures c.requires c.in_default.ensures there)))

pub returns-in_default-place_of : goal.returns-in_default-place_of
returns-in_default-place_of c = ((λ e. absurd (cc)), (λ there. absurd (no_col _ _ _ c.from-height.ensures c.requires c.in_default-place_of.ensures there)))

pub returns : goal.returns
returns c = (
  (λ kept. has_kept c.args.self.now c.args.pos _ _ _ c.from-height.ensures c.in-Some.ensures c.in-Some-place_of.ensures (sym c.keeps.ensures ∙ kept)),
  (λ there. c.keeps.ensures ∙ kept_has c.args.self.now c.args.pos _ _ _ c.from-height.ensures c.requires c.in-Some.ensures c.in-Some-place_of.ensures there),
)
