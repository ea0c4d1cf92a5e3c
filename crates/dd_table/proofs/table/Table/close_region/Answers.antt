-- The region that is open ends, and no copy changes.
use Rattle.std.proofs.Common.{◌≡◌, ◌∷◌, [], ℕ, true, false, Option, Some, None, refl, sym, ap, ◌∙◌, subst, arith}
use Rattle.std.specs.Prelude.{IsSome}
use Rattle.dd_holding.specs.Holdings.{Holds}
use Rattle.dd_machine.specs.declared.event.Event.TheVariants.{Close}
use Rattle.dd_tables.specs.declared.tables.Tables.{Tables}
use Rattle.dd_core.specs.Lines.{with_line}
use Rattle.dd_table.specs.Tables.{line_now, state_now}
use Rattle.dd_table.proofs.AskedLemmas.{left_at}
use Rattle.dd_table.proofs.CalmLemmas.{calm_close}
use Rattle.dd_table.proofs.FactsLemmas.{keeps_next}
use Rattle.dd_table.proofs.table.Table.close_region.Goals as goal

not_some : {A : Type 0} (o : Option ℕ) (n : ℕ) → o ≡ None → o ≡ Some n → A
not_some o n none some = absurd (let e : None ≡ Some n = sym none ∙ some in cc)

same_some : (a b : ℕ) → Some a ≡ Some b → a ≡ b
same_some a b is = cc

pub unreachable-requires : goal.unreachable-requires
unreachable-requires g c =
    let t = c.args.self.now in
    let none : (state_now t).region ≡ None = sym (c.region.ensures t.holding.ledger.plan.now ∙ ap (λ (k : Tables). k.region) c.core.ensures) ∙ c.in_default.is in
    absurd (let e : false ≡ true = subst (λ (o : Option ℕ). IsSome o) none c.requires.open in cc)

pub line-line-requires-clause-left : goal.line-line-requires-clause-left
line-line-requires-clause-left g c = λ _ _.
    let t = c.args.self.now in
    let open_is : (state_now t).region ≡ Some c.in-Some.region = sym (c.region.ensures t.holding.ledger.plan.now ∙ ap (λ (k : Tables). k.region) c.core.ensures) ∙ c.in-Some.is in
    left_at t (Close c.in-Some.region) c.requires.well (λ outside. not_some (state_now t).region c.in-Some.region outside open_is)

pub conclude-requires-clause-legal : goal.conclude-requires-clause-legal
conclude-requires-clause-legal g c = λ _ _.
    let t = c.args.self.now in
    let open_is : (state_now t).region ≡ Some c.in-Some.region = sym (c.region.ensures t.holding.ledger.plan.now ∙ ap (λ (k : Tables). k.region) c.core.ensures) ∙ c.in-Some.is in
    (c.line-line.ensures.next, c.requires.legal c.in-Some.region open_is)

pub invariant_of-self : goal.invariant_of-self
invariant_of-self g c =
    let t = c.args.self.now in
    let f = keeps_next t c.conclude.new.self (record { line = c.line-line.result; event = Close c.in-Some.region }) c.conclude.ensures.grows c.conclude.ensures.slots
    (calm_close t.holding.ledger.plan.now (state_now t) c.in-Some.region) refl in
    record { settled = f.settled; counted = f.counted }

pub returns : goal.returns
returns g c = λ region is.
    let t = c.args.self.now in
    let open_is : (state_now t).region ≡ Some c.in-Some.region = sym (c.region.ensures t.holding.ledger.plan.now ∙ ap (λ (k : Tables). k.region) c.core.ensures) ∙ c.in-Some.is in
    let same : c.in-Some.region ≡ region = same_some c.in-Some.region region (sym open_is ∙ is) in
    record {
      grows = record {
        holds = subst (λ (r : ℕ). Holds t.holding c.conclude.new.self (with_line (line_now t) (Close r ∷ []))) same
            (subst (λ (l : ℕ). Holds t.holding c.conclude.new.self (with_line l (Close c.in-Some.region ∷ []))) c.line-line.ensures.line c.conclude.ensures.grows);
        opening = refl;
        faults = omega arith;
      };
      cause = refl;
    }
