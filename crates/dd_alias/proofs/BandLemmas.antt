-- What a part keeps by places, and by the numbers of rows.
use Rattle.std.proofs.Common.{◌≡◌, ◌↔◌, ℕ, ◌≤◌, true, pos, ◌<ℤ◌, arith}
use Rattle.std.proofs.lemmas.Bool.Decides.{nat_tests}
use Rattle.dd_views.specs.declared.part.Part.{Part}
use Rattle.dd_views.specs.declared.part.Part.TheVariants.{All, Lower, Upper, UnitLower, UnitUpper, Diag}
use Rattle.dd_views.specs.declared.span3.Span3.{Span3}
use Rattle.dd_views.specs.IndexList.{keeps}
use Rattle.dd_views.specs.Span.{IsSmallSpan}
use Rattle.dd_alias.specs.Places.{IsAt}
use Rattle.dd_alias.proofs.PlaceLemmas.{down_order, order_down, order_up, up_order}

-- a part keeps the same of numbers that stand in the same order
pub keeps_by_order : (part : Part) (i j x y : ℕ) → (i ≤ j ↔ x ≤ y) → (j ≤ i ↔ y ≤ x) → (keeps part i j ≡ true) ↔ (keeps part x y ≡ true)
keeps_by_order All i j x y one other = ((λ e. e), (λ e. e))
keeps_by_order Lower i j x y one other = ((λ e. grind (arith, nat_tests)), (λ e. grind (arith, nat_tests)))
keeps_by_order Upper i j x y one other = ((λ e. grind (arith, nat_tests)), (λ e. grind (arith, nat_tests)))
keeps_by_order UnitLower i j x y one other = ((λ e. grind (arith, nat_tests)), (λ e. grind (arith, nat_tests)))
keeps_by_order UnitUpper i j x y one other = ((λ e. grind (arith, nat_tests)), (λ e. grind (arith, nat_tests)))
keeps_by_order Diag i j x y one other = ((λ e. grind (arith, nat_tests)), (λ e. grind (arith, nat_tests)))

pub rising_order : (s : Span3) (x y i j : ℕ) → pos 0 <ℤ s.step → IsSmallSpan s → IsAt s x i → IsAt s y j → i ≤ j ↔ x ≤ y
rising_order s x y i j up small at_x at_y = (
  (λ le. omega (arith, up_order s i j up small at_x.low le at_y.high, at_x.number, at_y.number)),
  (λ le. order_up s i j up small at_x.low at_x.high at_y.low at_y.high (omega (arith, le, at_x.number, at_y.number))),
)

pub falling_order : (s : Span3) (x y i j : ℕ) → s.step <ℤ pos 0 → IsSmallSpan s → IsAt s x i → IsAt s y j → i ≤ j ↔ y ≤ x
falling_order s x y i j down small at_x at_y = (
  (λ le. omega (arith, down_order s i j down small at_x.low le at_y.high, at_x.number, at_y.number)),
  (λ le. order_down s i j down small at_x.low at_x.high at_y.low at_y.high (omega (arith, le, at_x.number, at_y.number))),
)
