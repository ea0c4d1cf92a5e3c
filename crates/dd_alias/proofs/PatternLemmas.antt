-- What a pattern has, by its band.
use Rattle.std.proofs.Common.{◌≡◌, ◌≢◌, ◌⊎◌, ℕ, ◌≤◌, ◌↔◌, ◌<◌, ◌^◌, true, inl, inr, ⊎_elim, refl, sym, subst, arith}
use Rattle.dd_views.specs.declared.part.Part.{Part}
use Rattle.dd_views.specs.declared.part.Part.TheVariants.{All, Lower, Upper, UnitLower, UnitUpper, Diag}
use Rattle.dd_views.specs.IndexList.{keeps}
use Rattle.dd_alias.specs.declared.band.Band.{Band}
use Rattle.dd_alias.specs.declared.pattern.Pattern.{Pattern}
use Rattle.dd_alias.specs.declared.run.Run.{Run}
use Rattle.dd_alias.specs.Lines.{AreWays, IsBand, IsTurn, IsWithin, KeepBoth, KeepsAt, line_at, run_at}
use Rattle.dd_alias.specs.Patterns.{AreCommon, HasElement, IsPattern, MeetsIn}
use Rattle.dd_alias.specs.Places.{IsIn}
use Rattle.dd_alias.proofs.GapLemmas.{kept_within, up_small}
use Rattle.dd_alias.proofs.LineLemmas.{number_above, number_small}

part_cases : (q : Part) → (q ≡ All) ⊎ (q ≢ All)
part_cases All = inl refl
part_cases Lower = inr (λ e. absurd (cc))
part_cases Upper = inr (λ e. absurd (cc))
part_cases UnitLower = inr (λ e. absurd (cc))
part_cases UnitUpper = inr (λ e. absurd (cc))
part_cases Diag = inr (λ e. absurd (cc))

keeps_whole : (q : Part) (i j : ℕ) → q ≡ All → keeps q i j ≡ true
keeps_whole q i j all = subst (λ (q : Part). keeps q i j ≡ true) (sym all) refl

-- the band of a pattern at a turn, which is a column of the pattern
pub record IsBandAt (p : Pattern) (cols : Run) (b : Band) (t : ℕ) : Type 0 where
  pub pattern : IsPattern p
  pub band : IsBand p cols b
  pub turn : IsTurn cols t
  pub col : IsIn p.cols (run_at cols t)

row_small : (p : Pattern) (x : ℕ) → IsPattern p → IsIn p.rows x → x < 2 ^ 63
row_small p x pattern there = omega (arith, number_small p.rows there.0 pattern.rows there.1.low there.1.high, there.1.number)

row_above : (p : Pattern) (x : ℕ) → IsPattern p → IsIn p.rows x → 1 ≤ x
row_above p x pattern there = omega (arith, number_above p.rows there.0 pattern.rows there.1.low there.1.high, there.1.number)

-- where the part isn't the whole, the diagonal is at a row
diagonal_at : (p : Pattern) (cols : Run) (b : Band) (t : ℕ) → IsBandAt p cols b t → b.part ≢ All → IsIn p.rows (line_at b.diagonal t)
diagonal_at p cols b t at part = (at.col.0, at.band.diagonal.at t at.col.0 (λ all. part (at.band.whole.0 all)) at.turn at.col.1)

pub within_of : (p : Pattern) (cols rows : Run) (b : Band) (t : ℕ) → IsBandAt p cols b t → AreWays b.part b.diagonal rows b.ways → IsWithin b rows t
within_of p cols rows b t at ways =
    let reaches = at.band.diagonal.reaches t at.turn in
    record {
      reaches = reaches;
      small = λ part. row_small p (line_at b.diagonal t) at.pattern (diagonal_at p cols b t at part);
      up = up_small b.part b.diagonal rows b.ways ways;
      kept = λ r has.
          kept_within b.part b.diagonal rows b.ways t r ways reaches (λ part. row_above p (line_at b.diagonal t) at.pattern (diagonal_at p cols b t at part)) has;
    }

element_kept : (p : Pattern) (cols : Run) (b : Band) (t r : ℕ) → IsBandAt p cols b t → HasElement p r (run_at cols t) → KeepsAt b t r
element_kept p cols b t r at e = ⊎_elim
    (λ (all : p.part ≡ All). keeps_whole b.part r (line_at b.diagonal t) (at.band.whole.0 all))
    (λ (part : p.part ≢ All). (at.band.facing r (line_at b.diagonal t) e.0 e.1 e.2.row (at.band.diagonal.at t e.1 part at.turn e.2.col)).0 e.2.kept)
    (part_cases p.part)

kept_element : (p : Pattern) (cols : Run) (b : Band) (t r : ℕ) → IsBandAt p cols b t → IsIn p.rows r → KeepsAt b t r → HasElement p r (run_at cols t)
kept_element p cols b t r at row kept = (
  row.0,
  at.col.0,
  record {
    row = row.1;
    col = at.col.1;
    kept =
        ⊎_elim
        (λ (all : p.part ≡ All). keeps_whole p.part row.0 at.col.0 all)
        (λ (part : p.part ≢ All). (at.band.facing r (line_at b.diagonal t) row.0 at.col.0 row.1 (at.band.diagonal.at t at.col.0 part at.turn at.col.1)).1 kept)
        (part_cases p.part);
  },
)

pub first_band_at : (a b : Pattern) (cols : Run) (of_a : Band) (t : ℕ) → IsPattern a → IsBand a cols of_a → AreCommon a.cols b.cols cols → IsTurn cols t → IsBandAt a cols of_a t
first_band_at a b cols of_a t pattern band common turn = record { pattern = pattern; band = band; turn = turn; col = ((common (run_at cols t)).0 ((t, refl), turn)).0 }

pub second_band_at : (a b : Pattern) (cols : Run) (of_b : Band) (t : ℕ) → IsPattern b → IsBand b cols of_b → AreCommon a.cols b.cols cols → IsTurn cols t → IsBandAt b cols of_b t
second_band_at a b cols of_b t pattern band common turn = record { pattern = pattern; band = band; turn = turn; col = ((common (run_at cols t)).0 ((t, refl), turn)).1 }

pub both_meet : (a b : Pattern) (cols rows : Run) (of_a of_b : Band) (t : ℕ) → IsBandAt a cols of_a t → IsBandAt b cols of_b t → AreCommon a.rows b.rows rows → KeepBoth of_a of_b rows t ↔ MeetsIn a b (run_at cols t)
both_meet a b cols rows of_a of_b t at_a at_b common = (
  (λ both.
      let row = (common both.0).0 both.1 in
      (both.0, kept_element a cols of_a t both.0 at_a row.0 both.2, kept_element b cols of_b t both.0 at_b row.1 both.3)),
  (λ meets.
      let e_a = meets.1 in
      let e_b = meets.2 in
      (meets.0, (common meets.0).1 ((e_a.0, e_a.2.row), (e_b.0, e_b.2.row)), element_kept a cols of_a t meets.0 at_a e_a, element_kept b cols of_b t meets.0 at_b e_b)),
)
