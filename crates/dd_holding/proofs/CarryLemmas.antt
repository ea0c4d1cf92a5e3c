-- A Copy or Back that is made: what its calls need, and what it leaves of a holding's facts.
use Rattle.std.proofs.Common.{◌≡◌, ℕ, ◌+◌, ◌*◌, ◌<◌, ◌≤◌, Bool, true, List, [], ◌∷◌, length, All, Bor, Option, Some, None, refl, sym, ap, ◌∙◌, subst, arith}
use Rattle.std.specs.Prelude.{IsSomeAnd, not}
use Rattle.std.specs.List.{filter, range_with_len}
use Rattle.std.proofs.lemmas.List.Filters.{length-filter_both}
use Rattle.std.proofs.lemmas.List.FromFn.{length-range_with_len}
use Rattle.dd_blocks.specs.declared.plan.Plan.{Plan}
use Rattle.dd_blocks.specs.WellFormed.{IsWellFormed}
use Rattle.dd_holding.specs.Carried.{carries}
use Rattle.dd_holding.specs.Facts.{IsHolding, IsTelling}
use Rattle.dd_holding.specs.Users.{HasSpare, wanted}
use Rattle.dd_holding.proofs.CarriedLemmas.{carried, carried_spare}
use Rattle.dd_holding.proofs.HereLemmas.{place_there, sound_now}
use Rattle.dd_holding.proofs.JoinedLemmas.{apart, carries_may}
use Rattle.dd_ledger.specs.declared.ledger.Ledger.{Ledger}
use Rattle.dd_ledger.specs.Ledgers.{GrowsBy, state_now}
use Rattle.dd_machine.specs.declared.entry.Entry.{Entry}
use Rattle.dd_machine.specs.Legal.{Legal, May, MayCopy}
use Rattle.dd_machine.specs.Needed.{is_needed, needed, own_space}
use Rattle.dd_machine.specs.Tests.{Has, is_here, versions_of}
use Rattle.dd_machine.specs.Words.{size}
use Rattle.dd_pool.specs.declared.pool.Pool.{Pool}
use Rattle.dd_pool.specs.Places.{IsPlace}
use Rattle.dd_pool.specs.Pools.{HasCopy, copy_at}
use Rattle.dd_pool.specs.Copies.{HasRoomFor}
use Rattle.dd_spans.proofs.MembersLemmas.{all_from_contains, contains_from_filter}
use Rattle.dd_spans.proofs.RunLemmas.{contains_range}
use Rattle.dd_stamps.specs.Cells.{size_of}
use Rattle.dd_stamps.specs.Copies.{MayTake, TakesFrom}
use Rattle.dd_stamps.specs.declared.stamped.Stamped.{Stamped}
use Rattle.dd_store.specs.declared.store.Slot.{Ghosts as SlotGhosts}
use Rattle.dd_store.specs.declared.store.Store.{Ghosts}

-- the entry carries the places that a task needs of a block, from a space to its own
pub record IsCarry (l : Ledger) (entry : Entry) (task block from own : ℕ) (places : List ℕ) : Type 0 where
  pub well : IsWellFormed l.plan.now
  pub legal : Legal l.plan.now (state_now l) entry
  pub event : entry.event ≡ carries task block from (length places)
  pub places_are : places ≡ needed l.plan.now (state_now l) task block from
  pub own_is : own ≡ own_space l.plan.now (state_now l) task block

pub carry_may : (l : Ledger) (entry : Entry) (task block from own : ℕ) (places : List ℕ) → IsCarry l entry task block from own places → MayCopy l.plan.now (state_now l) task block from (length places)
carry_may l entry task block from own places carry =
    carries_may l.plan.now (state_now l) task block from (length places) (subst (May l.plan.now (state_now l)) carry.event carry.legal.1)

pub carry_here : (l : Ledger) (entry : Entry) (task block from own : ℕ) (places : List ℕ) → IsCarry l entry task block from own places → Has (state_now l) own block is_here
carry_here l entry task block from own places carry =
    subst (λ (s : ℕ). Has (state_now l) s block is_here) (sym carry.own_is) (carry_may l entry task block from own places carry).here

pub carry_place : (l : Ledger) (entry : Entry) (task block from own : ℕ) (places : List ℕ) → IsCarry l entry task block from own places → IsPlace l.plan.now own block
carry_place l entry task block from own places carry = place_there l is_here own block (carry_here l entry task block from own places carry)

pub carry_apart : (l : Ledger) (entry : Entry) (task block from own : ℕ) (places : List ℕ) → IsCarry l entry task block from own places → from ≡ own → ⊥
carry_apart l entry task block from own places carry same =
    apart l.plan.now (state_now l) task block from (length places) carry.well (sound_now l carry.well) (carry_may l entry task block from own places carry) (same ∙ carry.own_is)

-- the places are of the block, and no more than it has
needed_few : (p : ℕ → Bool) (a n : ℕ) → length (filter p (range_with_len a n)) ≤ n
needed_few p a n =
    let both = length-filter_both p (λ x. not (p x)) (λ x. refl) (range_with_len a n) in
    let count = length-range_with_len a n in
    omega (arith, both, count)

needed_within : (p : ℕ → Bool) (n : ℕ) → All (λ x. x < n) (filter p (range_with_len 0 n))
needed_within p n = all_from_contains (λ x. x < n) (filter p (range_with_len 0 n)) (λ x has.
    let high = (contains_range 0 n x (contains_from_filter p (range_with_len 0 n) x has).0).1 in
    omega (arith, high))

pub carry_few : (l : Ledger) (entry : Entry) (task block from own : ℕ) (places : List ℕ) → IsCarry l entry task block from own places → length places ≤ size l.plan.now block
carry_few l entry task block from own places carry =
    subst (λ (ps : List ℕ). length ps ≤ size l.plan.now block) (sym carry.places_are) (needed_few (is_needed l.plan.now (state_now l) task block from) 0 (size l.plan.now block))

-- what a copy that is there is known for
pub known_of : (P : Stamped → Type 0) (o : Option Stamped) (copy : Stamped) → o ≡ Some copy → IsSomeAnd o P → P copy
known_of P o copy there known = subst (λ (x : Option Stamped). IsSomeAnd x P) there known

pub some_of : (P : Stamped → Type 0) (o : Option Stamped) (copy : Stamped) → o ≡ Some copy → P copy → IsSomeAnd o P
some_of P o copy there known = subst (λ (x : Option Stamped). IsSomeAnd x P) (sym there) known

pub room_some : (o : Option Stamped) (n : ℕ) → IsSomeAnd o (λ (c : Stamped). n ≤ c.versions.spare) → (copy : Stamped) × (o ≡ Some copy) × (n ≤ copy.versions.spare)
room_some None n known = absurd known
room_some (Some copy) n known = (copy, refl, known)

-- a room by another ledger that is the same
pub room_in : (l u : Ledger) (own block n : ℕ) (o : Option Stamped) → u ≡ l → IsSomeAnd o (λ (c : Stamped). wanted l.plan.now (state_now l) own block + n ≤ c.versions.spare)
    → IsSomeAnd o (λ (c : Stamped). wanted u.plan.now (state_now u) own block + n ≤ c.versions.spare)
room_in l u own block n o same room = subst (λ (k : Ledger). IsSomeAnd o (λ (c : Stamped). wanted k.plan.now (state_now k) own block + n ≤ c.versions.spare)) (sym same) room

module _ {D S : Type 0} {g : Ghosts D S} {h : SlotGhosts S} where
  -- the copies of a pool are of its Plan, and of their blocks
  pub copy_ours : (l : Ledger) (pool : Pool D S g h) (space block : ℕ) (copy : Stamped) → IsHolding l pool → IsPlace l.plan.now space block → copy_at pool space block ≡ Some copy
      → (copy.plan ≡ l.plan) × (copy.block ≡ block)
  copy_ours l pool space block copy facts place there =
      let whole = pool.planned ∙ facts.planned in
      let ours = pool.copies.ours space block copy (subst (λ (p : Bor Plan). IsPlace p.now space block) (sym whole) place) there in
      (ours.0 ∙ whole, ours.1)

  -- the own copy has the room
  pub carry_room : (l : Ledger) (pool : Pool D S g h) (entry : Entry) (task block from own : ℕ) (places : List ℕ) → IsCarry l entry task block from own places → IsHolding l pool
      → IsSomeAnd (copy_at pool own block) (λ (c : Stamped). wanted l.plan.now (state_now l) own block + 2 * length places ≤ c.versions.spare)
      → (copy : Stamped) × (copy_at pool own block ≡ Some copy) × (copy.plan ≡ l.plan) × (copy.block ≡ block) × HasRoomFor copy places
  carry_room l pool entry task block from own places carry facts room =
      let there = room_some (copy_at pool own block) (wanted l.plan.now (state_now l) own block + 2 * length places) room in
      let enough = there.2 in
      let ours = copy_ours l pool own block there.0 facts (carry_place l entry task block from own places carry) there.1 in
      let within : All (λ p. p < size l.plan.now block) places =
      subst (All (λ p. p < size l.plan.now block)) (sym carry.places_are) (needed_within (is_needed l.plan.now (state_now l) task block from) (size l.plan.now block)) in (
        there.0,
        there.1,
        ours.0,
        ours.1,
        record {
          within = subst (λ (b : ℕ). All (λ p. p < size_of there.0.plan.now b) places) (sym ours.1) (subst (λ (p : Bor Plan). All (λ x. x < size_of p.now block) places) (sym ours.0) within);
          spare = omega (arith, enough);
        },
      )

  pub carry_takes : (l : Ledger) (pool : Pool D S g h) (entry : Entry) (task block from own : ℕ) (places : List ℕ) (other : Stamped) → IsCarry l entry task block from own places → IsHolding l pool
      → IsSomeAnd (copy_at pool own block) (λ (c : Stamped). wanted l.plan.now (state_now l) own block + 2 * length places ≤ c.versions.spare) → other.plan ≡ l.plan → other.block ≡ block
      → IsSomeAnd (copy_at pool own block) (λ (c : Stamped). MayTake c other places)
  carry_takes l pool entry task block from own places other carry facts room planned of_block =
      let r = carry_room l pool entry task block from own places carry facts room in
      some_of (λ (c : Stamped). MayTake c other places) (copy_at pool own block) r.0 r.1
      (record { plan = planned ∙ sym r.2; block = of_block ∙ sym r.3; within = r.4.within; spare = r.4.spare })

  pub carry_moves : (l : Ledger) (pool : Pool D S g h) (entry : Entry) (task block from own : ℕ) (places : List ℕ) → IsCarry l entry task block from own places → IsHolding l pool
      → IsSomeAnd (copy_at pool own block) (λ (c : Stamped). wanted l.plan.now (state_now l) own block + 2 * length places ≤ c.versions.spare)
      → IsSomeAnd (copy_at pool own block) (λ (c : Stamped). HasRoomFor c places)
  carry_moves l pool entry task block from own places carry facts room =
      let r = carry_room l pool entry task block from own places carry facts room in
      some_of (λ (c : Stamped). HasRoomFor c places) (copy_at pool own block) r.0 r.1 r.4

  -- what is left
  pub carry_done : (l u : Ledger) (pool now : Pool D S g h) (entry : Entry) (task block from own : ℕ) (places : List ℕ) (copy other new : Stamped) → IsCarry l entry task block from own places
      → IsHolding l pool → HasSpare l.plan.now (state_now l) pool → GrowsBy l u (entry ∷ [])
      → IsSomeAnd (copy_at pool own block) (λ (c : Stamped). wanted l.plan.now (state_now l) own block + 2 * length places ≤ c.versions.spare)
      → copy_at pool own block ≡ Some copy → other.versions.list ≡ versions_of ((state_now l).copies from block) → (IsTelling (SlotGhosts.tells h) l → other.told.mark ≡ true)
      → TakesFrom copy other new places → HasCopy pool now own block (Some new)
      → IsHolding u now × HasSpare u.plan.now (state_now u) now
  carry_done l u pool now entry task block from own places copy other new carry facts spare grows room there is_other told takes has =
      let may = carry.legal.1 in
      let at = carry.own_is in
      let place = subst (λ (s : ℕ). IsPlace l.plan.now s block) at (carry_place l entry task block from own places carry) in
      let enough = known_of (λ (c : Stamped). wanted l.plan.now (state_now l) own block + 2 * length places ≤ c.versions.spare) (copy_at pool own block) copy there room in
      let own_has = subst (λ (s : ℕ). HasCopy pool now s block (Some new)) at has in (
        carried l u pool now entry task block from (length places) copy other new grows carry.event carry.well may place (subst (λ (s : ℕ). copy_at pool s block ≡ Some copy) at there) is_other
            (subst (TakesFrom copy other new) carry.places_are takes) own_has told facts,
        carried_spare l u pool now entry task block from (length places) copy other new places grows carry.event may (ap (λ (p : Bor Plan). p.now) facts.planned) takes own_has
            (subst (λ (s : ℕ). wanted l.plan.now (state_now l) s block + 2 * length places ≤ copy.versions.spare) at enough) spare,
      )
