-- Calls of two entries: the second is legal behind the first, and both together leave nothing under way.
use Rattle.std.proofs.Common.{◌≡◌, ℕ, zero, suc, ◌<◌, true, false, ◌&&◌, ◌||◌, eq-eqb, List, [], ◌∷◌, length, Option, Some, None, Bor, refl, sym, ap, ◌∙◌, subst, ⊎_elim, arith}
use Rattle.std.specs.Prelude.{filter, is_some, nat_eq, not, slice_index}
use Rattle.std.specs.List.{range_with_len}
use Rattle.dd_blocks.specs.declared.plan.Plan.{Plan}
use Rattle.dd_blocks.specs.WellFormed.{IsWellFormed}
use Rattle.dd_holding.specs.Carried.{carries}
use Rattle.dd_holding.specs.declared.holding.Holding.{Holding}
use Rattle.dd_holding.specs.Holdings.{HasSlot, Holds, KeepsSlots, StandSlots, state_now}
use Rattle.dd_holding.proofs.HereLemmas.{sound_now}
use Rattle.dd_ledger.specs.declared.ledger.Ledger.{Ledger}
use Rattle.dd_ledger.specs.Ledgers as ledgers
use Rattle.dd_ledger.specs.Ledgers.{GrowsBy}
use Rattle.dd_ledger.proofs.GrowsLemmas.{state_grows, state_next, state_stays}
use Rattle.dd_machine.specs.declared.copy_state.CopyState.TheVariants.{Here, Leaving, Coming, Lent}
use Rattle.dd_machine.specs.declared.entry.Entry.{Entry}
use Rattle.dd_machine.specs.declared.event.Event.TheVariants.{Call, Come, Gone, Lend, Pick}
use Rattle.dd_machine.specs.Effects.{after, after_copy, copy_where, given_back, in_state}
use Rattle.dd_machine.specs.Legal.{Legal, May, MayCall, MayCopy, MayFetch, MayLend, MayPick}
use Rattle.dd_machine.specs.Needed.{is_needed, needed, own_space, source}
use Rattle.dd_machine.specs.Runs.{state_after}
use Rattle.dd_machine.specs.States as states
use Rattle.dd_machine.specs.States.{State, at_copy}
use Rattle.dd_machine.specs.Tests.{Has, is_coming, is_here, is_here_or_lent, is_in_state, is_leaving, is_out, versions_of}
use Rattle.dd_machine.specs.Words.{element, reads, size}
use Rattle.dd_machine.proofs.ChangesLemmas.{at_copy_other, at_copy_same, at_copy_tells}
use Rattle.dd_machine.proofs.TestsLemmas.{in_state_there, none_in_state, not_two, out_here, passes_any, state_where, versions_in_state}
use Rattle.dd_pool.specs.declared.spilled.Spilled.{Spilled}
use Rattle.dd_pool.specs.Places.{IsPlace}
use Rattle.dd_pool.specs.Pools.{out_at}
use Rattle.dd_store.specs.declared.store.Slot.{Ghosts as SlotGhosts}
use Rattle.dd_store.specs.declared.store.Store.{Ghosts}
use Rattle.laws_of_limits.proofs.OrdersKept.{victim_there}
use Rattle.dd_table.specs.Facts.{IsSettled}
use Rattle.dd_core.specs.Lines.{with_line}
use Rattle.dd_table.proofs.CalmLemmas.{carried_is, twice_tells}
use Rattle.dd_table.proofs.FactsLemmas.{holds_then, settled_by}
use Rattle.dd_table.proofs.IdleLemmas.{AreIdle, IsIdleCopy, idle_at, idle_called, idle_lent, idle_spilled, idle_twice, idle_where}

-- the copies; with one in another state
abbrev Copies : Type 0
Copies = ℕ → ℕ → Option states.Copy

-- an entry that is legal behind another one
pub legal_next : (l u : Ledger) (first second : Entry) → GrowsBy l u (first ∷ []) → Legal l.plan.now (after l.plan.now (ledgers.state_now l) first.event) second → Legal u.plan.now (ledgers.state_now u) second
legal_next l u first second grows legal =
    let at : Legal l.plan.now (ledgers.state_now u) second = subst (λ (st : State). Legal l.plan.now st second) (sym (state_next l u first grows)) legal in
    subst (λ (p : Bor Plan). Legal p.now (ledgers.state_now u) second) (sym grows.plan) at

pub legal_still : (l u : Ledger) (entry : Entry) → GrowsBy l u [] → Legal l.plan.now (ledgers.state_now l) entry → Legal u.plan.now (ledgers.state_now u) entry
legal_still l u entry grows legal =
    let at : Legal l.plan.now (ledgers.state_now u) entry = subst (λ (st : State). Legal l.plan.now st entry) (sym (state_stays l u grows)) legal in
    subst (λ (p : Bor Plan). Legal p.now (ledgers.state_now u) entry) (sym grows.plan) at

-- the block that is picked is Here
pub picked_here : (l : Ledger) (space block : ℕ) → IsWellFormed l.plan.now → MayPick l.plan.now (ledgers.state_now l) space block → Has (ledgers.state_now l) space block is_here
picked_here l space block well may = (sound_now l well).limits.order_here space block (victim_there l.plan.now (ledgers.state_now l) space block may.is_victim).0

-- a Gone behind its Pick, a Come behind its Call
pub gone_may : (plan : Plan) (st : State) (space block : ℕ) → IsPlace plan space block → Has st space block is_here → May plan (after plan st (Pick space block)) (Gone space block)
gone_may plan st space block place here = record {
  space_is = place.a_space;
  block_is = place.a_block;
  leaving = ap (is_in_state is_leaving) (at_copy_same st.copies space block (in_state Leaving (st.copies space block)))
      ∙ in_state_there is_leaving Leaving (st.copies space block) refl (passes_any is_here (st.copies space block) here);
}

pub come_may : (plan : Plan) (st : State) (space block : ℕ) → MayCall plan st space block → May plan (after plan st (Call space block)) (Come space block)
come_may plan st space block may = record {
  space_is = may.space_is;
  block_is = may.block_is;
  coming = ap (is_in_state is_coming) (at_copy_same st.copies space block (in_state Coming (st.copies space block)))
      ∙ in_state_there is_coming Coming (st.copies space block) refl (passes_any is_out (st.copies space block) may.out);
}

-- the versions stay with a copy that is picked
pub picked_versions : (plan : Plan) (st : State) (space block : ℕ) → versions_of ((after plan st (Pick space block)).copies space block) ≡ versions_of (st.copies space block)
picked_versions plan st space block = ap versions_of (at_copy_same st.copies space block (in_state Leaving (st.copies space block))) ∙ versions_in_state Leaving (st.copies space block)

-- who asks for a lend isn't who lends
not_own : (plan : Plan) (st : State) (task block from : ℕ) → MayLend plan st task block from → own_space plan st task block ≡ from → ⊥
not_own plan st task block from may same =
    not_two is_out is_here out_here (st.copies from block) may.out (subst (λ (s : ℕ). Has st s block is_here) same may.here)

abbrev lent_copies : State → ℕ → ℕ → ℕ → Copies
lent_copies st task block from = at_copy st.copies from block (in_state (Lent task) (st.copies from block))

own_stays : (plan : Plan) (st : State) (task block from : ℕ) → MayLend plan st task block from
    → lent_copies st task block from (own_space plan st task block) block ≡ st.copies (own_space plan st task block) block
own_stays plan st task block from may =
    at_copy_other st.copies from block (in_state (Lent task) (st.copies from block)) (own_space plan st task block) block (λ same _. not_own plan st task block from may same)

-- a lend changes nothing of what is needed
pub needed_lent : (plan : Plan) (st : State) (task block from : ℕ) → MayLend plan st task block from → needed plan (after plan st (Lend task block from)) task block from ≡ needed plan st task block from
needed_lent plan st task block from may =
    ap (λ (c : Option states.Copy).
    filter (λ i. (nat_eq task 0 || reads plan task (element plan block i))
    && (not (nat_eq (slice_index (versions_of c) i) (st.current (element plan block i))) && nat_eq (source plan st block i) from)) (range_with_len 0 (size plan block)))
    (own_stays plan st task block from may)

-- the same of the ledger that has the Lend
pub needed_next : (l u : Ledger) (line task block from : ℕ) → GrowsBy l u (with_line line (Lend task block from ∷ [])) → MayLend l.plan.now (ledgers.state_now l) task block from
    → needed u.plan.now (ledgers.state_now u) task block from ≡ needed l.plan.now (ledgers.state_now l) task block from
needed_next l u line task block from grows may =
    ap (λ (p : Bor Plan). needed p.now (ledgers.state_now u) task block from) grows.plan
    ∙ ap (λ (st : State). needed l.plan.now st task block from) (state_next l u (record { line = line; event = Lend task block from }) grows)
    ∙ needed_lent l.plan.now (ledgers.state_now l) task block from may

lent_copy : (plan : Plan) (st : State) (task block from count : ℕ) → MayLend plan st task block from → MayFetch (after plan st (Lend task block from)) task block
    → count ≡ length (needed plan st task block from) → MayCopy plan (after plan st (Lend task block from)) task block from count
lent_copy plan st task block from count may asked exact = record {
  source_is = may.source_is;
  block_is = may.block_is;
  asked = asked;
  here = ap (is_in_state is_here) (own_stays plan st task block from may) ∙ may.here;
  gives = ap (is_in_state (is_here_or_lent task)) (at_copy_same st.copies from block (in_state (Lent task) (st.copies from block)))
      ∙ in_state_there (is_here_or_lent task) (Lent task) (st.copies from block) (eq-eqb task task refl) (passes_any is_out (st.copies from block) may.out);
  exact = exact ∙ sym (ap (λ (xs : List ℕ). length xs) (needed_lent plan st task block from may));
  some_needed = subst (λ (n : ℕ). 0 < n) (sym exact) may.some_needed;
}

pub lent_may : (plan : Plan) (st : State) (task block from count : ℕ) → MayLend plan st task block from → count ≡ length (needed plan st task block from)
    → May plan (after plan st (Lend task block from)) (carries task block from count)
lent_may plan st zero block from count may exact = lent_copy plan st zero block from count may may.asked exact
lent_may plan st (suc t) block from count may exact = (omega arith, lent_copy plan st (suc t) block from count may may.asked exact)

-- after a lend and what is carried from it nothing is under way, and what is Out was
abbrev lender : State → ℕ → ℕ → ℕ → Copies
lender st task block from = at_copy (lent_copies st task block from) from block (given_back (lent_copies st task block from from block))

idle_lender : (st : State) (task block from : ℕ) → AreIdle st.copies → AreIdle (lender st task block from)
idle_lender st task block from idle = idle_twice st.copies from block (in_state (Lent task) (st.copies from block)) (given_back (lent_copies st task block from from block)) idle
    (subst (λ (c : Option states.Copy). IsIdleCopy (given_back c)) (sym (at_copy_same st.copies from block (in_state (Lent task) (st.copies from block)))) (idle_lent task (st.copies from block)))

pub idle_carried : (plan : Plan) (st : State) (task block from count : ℕ) → MayLend plan st task block from → AreIdle st.copies
    → AreIdle (after_copy plan (after plan st (Lend task block from)) task block from count).copies
idle_carried plan st task block from count may idle =
    let own = own_space plan st task block in
    let now = after plan st (Lend task block from) in
    idle_at (lender st task block from) own block (copy_where (is_needed plan now task block from) (λ i. now.current (element plan block i)) (now.copies own block)) (idle_lender st task block from idle)
    (idle_where (is_needed plan now task block from) (λ i. now.current (element plan block i)) (now.copies own block)
    (subst (λ (c : Option states.Copy). IsIdleCopy c) (sym (own_stays plan st task block from may)) (idle own block)))

pub outs_carried : (plan : Plan) (st : State) (task block from count : ℕ) → MayLend plan st task block from → (s b : ℕ)
    → Has (after_copy plan (after plan st (Lend task block from)) task block from count) s b is_out → Has st s b is_out
outs_carried plan st task block from count may s b out =
    let own = own_space plan st task block in
    let now = after plan st (Lend task block from) in
    let new = copy_where (is_needed plan now task block from) (λ i. now.current (element plan block i)) (now.copies own block) in
    ⊎_elim
    (λ (e : (s ≡ own) × (b ≡ block) × (at_copy (lender st task block from) own block new s b ≡ new)).
    let was : is_in_state is_out (st.copies own block) ≡ true = sym (ap (is_in_state is_out) (own_stays plan st task block from may))
    ∙ sym (state_where (is_needed plan now task block from) (λ i. now.current (element plan block i)) is_out (now.copies own block)) ∙ sym (ap (is_in_state is_out) e.2) ∙ out in
    absurd (not_two is_out is_here out_here (st.copies own block) was may.here))
    (λ (e : (s ≡ own → b ≡ block → ⊥) × (at_copy (lender st task block from) own block new s b ≡ lender st task block from s b)). ⊎_elim
    (λ (f : (s ≡ from) × (b ≡ block) × (lender st task block from s b ≡ given_back (lent_copies st task block from from block))).
    ap (λ (x : ℕ). is_in_state is_out (st.copies x b)) f.0 ∙ ap (λ (y : ℕ). is_in_state is_out (st.copies from y)) f.1 ∙ may.out)
    (λ (f : (s ≡ from → b ≡ block → ⊥) × (lender st task block from s b ≡ st.copies s b)). sym (ap (is_in_state is_out) f.1) ∙ sym (ap (is_in_state is_out) e.1) ∙ out)
    (twice_tells st.copies from block (in_state (Lent task) (st.copies from block)) (given_back (lent_copies st task block from from block)) s b))
    (at_copy_tells (lender st task block from) own block new s b)

module _ {D S : Type 0} {g : Ghosts D S} {h : SlotGhosts S} where
  -- the state after two entries
  state_two : (x y z : Holding D S g h) (first second : Entry) → Holds x y (first ∷ []) → Holds y z (second ∷ [])
      → state_now z ≡ after x.ledger.plan.now (after x.ledger.plan.now (state_now x) first.event) second.event
  unfolding state_after
  state_two x y z first second p q = state_grows x.ledger z.ledger (first ∷ (second ∷ [])) (holds_then x y z (first ∷ []) (second ∷ []) p q).grows

  place_two : (x y : Holding D S g h) (xs : List Entry) (s b : ℕ) → Holds x y xs → IsPlace y.ledger.plan.now s b → IsPlace x.ledger.plan.now s b
  place_two x y xs s b holds place = subst (λ (p : Bor Plan). IsPlace p.now s b) holds.grows.plan place

  -- of the other places: the slots of two steps
  others_two : (x y z : Holding D S g h) (first second : Entry) (space block : ℕ) (out : Option (Spilled S h)) → Holds x y (first ∷ []) → Holds y z (second ∷ []) → KeepsSlots x y → HasSlot y z space block out
      → (s b : ℕ) → IsPlace z.ledger.plan.now s b → (s ≡ space → b ≡ block → ⊥) → is_some (out_at z.pool s b) ≡ is_some (out_at x.pool s b)
  others_two x y z first second space block out p q keeps slot s b place apart =
      let at_y = place_two y z (second ∷ []) s b q place in
      ap (λ (o : Option (Spilled S h)). is_some o) (slot.others s b at_y apart ∙ keeps s b (place_two x y (first ∷ []) s b p at_y))

  pub settled_spilled : (x y z : Holding D S g h) (line space block : ℕ) (out : Spilled S h) → Holds x y (with_line line (Pick space block ∷ [])) → Holds y z (with_line line (Gone space block ∷ []))
      → KeepsSlots x y → HasSlot y z space block (Some out) → IsSettled x None → IsSettled z None
  settled_spilled x y z line space block out p q keeps slot settled =
      let plan = x.ledger.plan.now in
      let st = state_now x in
      let first : Entry = record { line = line; event = Pick space block } in
      let second : Entry = record { line = line; event = Gone space block } in
      settled_by z None (after plan (after plan st (Pick space block)) (Gone space block)) (state_two x y z first second p q) (idle_spilled plan st space block (settled.idle refl))
      (λ s b place is. ⊎_elim
      (λ (e : (s ≡ space) × (b ≡ block) × _). ap (λ (n : ℕ). is_some (out_at z.pool n b)) e.0 ∙ ap (λ (n : ℕ). is_some (out_at z.pool space n)) e.1 ∙ ap (λ (o : Option (Spilled S h)). is_some o) slot.here)
      (λ (e : (s ≡ space → b ≡ block → ⊥) × _). others_two x y z first second space block (Some out) p q keeps slot s b place e.0 ∙ settled.slots refl s b (sym (ap (is_in_state is_out) e.1) ∙ is))
      (twice_tells st.copies space block (in_state Leaving (st.copies space block)) _ s b))

  pub settled_called : (x y z : Holding D S g h) (line space block : ℕ) → Holds x y (with_line line (Call space block ∷ [])) → Holds y z (with_line line (Come space block ∷ []))
      → KeepsSlots x y → HasSlot y z space block None → IsSettled x None → IsSettled z None
  settled_called x y z line space block p q keeps slot settled =
      let plan = x.ledger.plan.now in
      let st = state_now x in
      let first : Entry = record { line = line; event = Call space block } in
      let second : Entry = record { line = line; event = Come space block } in
      let mid = after plan st (Call space block) in
      settled_by z None (after plan mid (Come space block)) (state_two x y z first second p q) (idle_called plan st space block (settled.idle refl))
      (λ s b place is. ⊎_elim
      (λ (e : (s ≡ space) × (b ≡ block) × _). absurd (let both : false ≡ true = sym (none_in_state is_out Here (mid.copies space block) refl) ∙ sym (ap (is_in_state is_out) e.2) ∙ is in cc))
      (λ (e : (s ≡ space → b ≡ block → ⊥) × _). others_two x y z first second space block None p q keeps slot s b place e.0 ∙ settled.slots refl s b (sym (ap (is_in_state is_out) e.1) ∙ is))
      (twice_tells st.copies space block (in_state Coming (st.copies space block)) (in_state Here (mid.copies space block)) s b))

  pub settled_lent : (x y z : Holding D S g h) (line task block from count : ℕ) → MayLend x.ledger.plan.now (state_now x) task block from → Holds x y (with_line line (Lend task block from ∷ []))
      → Holds y z (with_line line (carries task block from count ∷ [])) → KeepsSlots x y → StandSlots y z → IsSettled x None → IsSettled z None
  settled_lent x y z line task block from count may p q keeps stands settled =
      let plan = x.ledger.plan.now in
      let st = state_now x in
      let first : Entry = record { line = line; event = Lend task block from } in
      let second : Entry = record { line = line; event = carries task block from count } in
      let mid = after plan st (Lend task block from) in
      settled_by z None (after plan mid (carries task block from count)) (state_two x y z first second p q)
      (subst AreIdle (sym (carried_is plan mid task block from count)) (idle_carried plan st task block from count may (settled.idle refl)))
      (λ s b place is.
      let at_y = place_two y z (second ∷ []) s b q place in
      stands s b at_y ∙ ap (λ (o : Option (Spilled S h)). is_some o) (keeps s b (place_two x y (first ∷ []) s b p at_y))
      ∙ settled.slots refl s b (outs_carried plan st task block from count may s b (subst (λ (copies : Copies). is_in_state is_out (copies s b) ≡ true) (carried_is plan mid task block from count) is)))
