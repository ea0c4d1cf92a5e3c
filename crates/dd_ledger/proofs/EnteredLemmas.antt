-- What entries of each kind do to a ledger's facts.
use Rattle.std.proofs.Common.{◌≡◌, ℕ, ◌+◌, ◌≤◌, true, false, inl, inr, List, [], ◌∷◌, ◌++◌, length, Option, None, refl, sym, ap, ◌∙◌, subst, arith}
use Rattle.std.proofs.lemmas.Bool.{cases_Bool}
use Rattle.dd_blocks.specs.declared.plan.Plan.{Plan}
use Rattle.dd_blocks.specs.WellFormed.{IsWellFormed}
use Rattle.dd_core.specs.Cores.{core_state}
use Rattle.dd_core.specs.Finals.{is_final}
use Rattle.dd_ledger.specs.Endings.{endings, ends, opens}
use Rattle.dd_ledger.specs.Facts.{IsLedger}
use Rattle.dd_ledger.specs.Picks.{first_pick, or_first}
use Rattle.dd_ledger.proofs.EndingsLemmas.{endings_after, nothing_ends}
use Rattle.dd_ledger.proofs.FactsLemmas.{is_core, run_one, state_one}
use Rattle.dd_ledger.proofs.PicksLemmas.{first_one}
use Rattle.dd_machine.specs.declared.entry.Entry.{Entry}
use Rattle.dd_machine.specs.declared.event.Event.{Event}
use Rattle.dd_machine.specs.declared.event.Event.TheVariants.{Ask, Rest, Put, Free, Begin, Pick, Make, Claim, Finish, Close}
use Rattle.dd_machine.specs.Effects.{after}
use Rattle.dd_machine.specs.Legal.{Legal}
use Rattle.dd_machine.specs.Runs.{IsLegalRun, IsRun, is_pick, start, state_after, state_of_run}
use Rattle.dd_tables.specs.declared.tables.Tables.{Tables}
use Rattle.dd_tables.specs.Sized.{IsSized}

no_way : {A : Type 0} → true ≡ false → A
no_way e = absurd (cc)

no_one : {A : Type 0} → ◌≡◌ {A = ℕ} 0 1 → A
no_one e = absurd (omega (arith, e))

-- what takes memory is no Pick, and ends nothing
pub pickless : (event : Event) → is_final event ≡ false → is_pick event ≡ false
pickless (Pick space block) step = no_way step
pickless event step = refl

pub step_ends : (event : Event) → is_final event ≡ false → ends event ≡ 0
step_ends Rest step = no_way step
step_ends (Free space block) step = no_way step
step_ends (Finish task) step = no_way step
step_ends (Close region) step = no_way step
step_ends event step = refl

-- so what ends something takes none; it is no Pick
pub end_final : (event : Event) → ends event ≡ 1 → is_final event ≡ true
end_final event one = elim (cases_Bool (is_final event)) [
  | inl final ↦ final
  | inr step ↦ no_one (sym (step_ends event step) ∙ one)
]

pub end_pickless : (event : Event) → ends event ≡ 1 → is_pick event ≡ false
end_pickless (Pick space block) one = no_one one
end_pickless event one = refl

-- what takes no memory begins nothing
pub final_opens : (event : Event) → is_final event ≡ true → opens event ≡ 0
final_opens (Ask space block) final = no_way (sym final)
final_opens (Put block) final = no_way (sym final)
final_opens (Begin region) final = no_way (sym final)
final_opens (Make task block) final = no_way (sym final)
final_opens (Claim task worker) final = no_way (sym final)
final_opens event final = refl

-- one entry more keeps the facts
pub entered : (plan : Plan) (core new : Tables) (old now : List Entry) (entry : Entry) (first told : Option ℕ) (owed kept : ℕ) → IsWellFormed plan → IsLedger plan core old first owed
    → Legal plan (core_state plan core) entry → core_state plan new ≡ after plan (core_state plan core) entry.event → IsSized plan new → now ≡ old ++ entry ∷ []
    → told ≡ or_first first (length old) (is_pick entry.event) → kept + ends entry.event ≡ owed + opens entry.event → IsLedger plan new now told kept
entered plan core new old now entry first told owed kept well facts legal step sized grown tells counts =
    let sound = (is_core plan core old first owed well facts).sound in
    let within = endings_after plan (core_state plan core) entry.event sound legal.1 in
    let before = facts.endings in
    let same : endings plan (core_state plan new) ≡ endings plan (after plan (core_state plan core) entry.event) = ap (endings plan) step in
    record {
      sized = sized;
      state = state_one plan (core_state plan core) (core_state plan new) old now entry facts.state step grown;
      legal = run_one plan (core_state plan core) old now entry facts.state legal grown facts.legal;
      picks = tells ∙ ap (λ (f : Option ℕ). or_first f (length old) (is_pick entry.event)) facts.picks ∙ sym (first_one old entry) ∙ sym (ap first_pick grown);
      endings = omega (arith, within, before, same, counts);
    }

-- so does a core that stays
pub stayed : (plan : Plan) (core new : Tables) (old now : List Entry) (first : Option ℕ) (owed : ℕ) → IsLedger plan core old first owed → core_state plan new ≡ core_state plan core → IsSized plan new
    → now ≡ old → IsLedger plan new now first owed
stayed plan core new old now first owed facts same sized is =
    let before = facts.endings in
    let count : endings plan (core_state plan new) ≡ endings plan (core_state plan core) = ap (endings plan) same in
    record {
      sized = sized;
      state = same ∙ facts.state ∙ sym (ap (state_of_run plan) is);
      legal = subst (IsLegalRun plan) (sym is) facts.legal;
      picks = facts.picks ∙ sym (ap first_pick is);
      endings = omega (arith, before, count);
    }

-- room is kept for an entry that ends something
pub owes_one : (plan : Plan) (core : Tables) (journal : List Entry) (first : Option ℕ) (owed : ℕ) (entry : Entry) → IsWellFormed plan → IsLedger plan core journal first owed
    → Legal plan (core_state plan core) entry → ends entry.event ≡ 1 → 1 ≤ owed
owes_one plan core journal first owed entry well facts legal one =
    let sound = (is_core plan core journal first owed well facts).sound in
    let within = endings_after plan (core_state plan core) entry.event sound legal.1 in
    let before = facts.endings in
    let none = final_opens entry.event (end_final entry.event one) in
    omega (arith, within, before, one, none)

-- the facts of a ledger without entries
pub begun : (plan : Plan) (core : Tables) → IsSized plan core → core_state plan core ≡ start plan → IsLedger plan core [] None 0
unfolding IsRun state_after first_pick
begun plan core sized is =
    let none : endings plan (core_state plan core) ≡ 0 = ap (endings plan) is ∙ nothing_ends plan in
    record { sized = sized; state = is; legal = tt; picks = refl; endings = omega (arith, none) }
