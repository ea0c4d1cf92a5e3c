-- The copies in memory have no more bytes than are in use by the state.
use Rattle.std.proofs.Common.{◌≡◌, ℕ, ◌*◌, ◌≤◌, List, length, Option, Some, None, Bor, option_map, ap, ◌∙◌, subst, arith}
use Rattle.std.specs.List.{range_with_len, sum_by}
use Rattle.dd_blocks.specs.declared.plan.Plan.{Plan}
use Rattle.dd_holding.specs.declared.holding.Holding.{Holding}
use Rattle.dd_holding.specs.Facts.{HasHere, stamps}
use Rattle.dd_holding.specs.Holdings.{state_now}
use Rattle.dd_holding.specs.Views.{here_versions}
use Rattle.dd_machine.specs.declared.copy_state.CopyState.{CopyState}
use Rattle.dd_machine.specs.declared.copy_state.CopyState.TheVariants.{Here, Leaving, Out, Coming, Lent}
use Rattle.dd_machine.specs.Bytes.{copy_bytes, resident, when}
use Rattle.dd_machine.specs.States as states
use Rattle.dd_machine.specs.Tests.{is_held, is_in_state}
use Rattle.dd_machine.specs.Words.{IsOneOf, blocks, bytes, spaces, total}
use Rattle.dd_pool.specs.Held.{bytes_if}
use Rattle.dd_pool.specs.Pools.{bytes_at, copy_at}
use Rattle.dd_pool.proofs.HeldLemmas.{sum_le}
use Rattle.dd_stamps.specs.declared.stamped.Stamped.{Stamped}
use Rattle.dd_stamps.specs.Cells.{size_of}
use Rattle.dd_store.specs.declared.store.Slot.{Ghosts as SlotGhosts}
use Rattle.dd_store.specs.declared.store.Store.{Ghosts}
use Rattle.laws_of_moved.proofs.BelowLemmas.{sum_total}

-- a copy in memory is one that takes bytes of its space
one_held : (size : ℕ) (o : Option Stamped) (c : Option states.Copy) → option_map stamps o ≡ here_versions c → bytes_if size o ≤ when (is_in_state is_held c) (8 * size)
one_held size None c same = omega arith
one_held size (Some copy) None same = absurd (let e : Some copy.versions.list ≡ None = same in cc)
one_held size (Some copy) (Some c) same = of_state c.state c.versions same
  where
    of_state : (s : CopyState) (versions : List ℕ) → Some copy.versions.list ≡ here_versions (Some (record { state = s; versions = versions })) → 8 * size ≤ when (is_held s) (8 * size)
    of_state Here versions same = omega arith
    of_state Leaving versions same = omega arith
    of_state Out versions same = absurd (let e : Some copy.versions.list ≡ None = same in cc)
    of_state Coming versions same = omega arith
    of_state (Lent t) versions same = absurd (let e : Some copy.versions.list ≡ None = same in cc)

module _ {D S : Type 0} {g : Ghosts D S} {h : SlotGhosts S} where
  pub bytes_resident : (x : Holding D S g h) (space : ℕ) → IsOneOf (spaces x.ledger.plan.now) space → bytes_at x.pool space ≤ resident x.ledger.plan.now (state_now x) space
  unfolding HasHere
  bytes_resident x space is =
      let plan = x.ledger.plan.now in
      let st = state_now x in
      let mine = x.pool.copies.plan.now in
      let same : mine ≡ plan = ap (λ (p : Bor Plan). p.now) (x.pool.planned ∙ x.facts.planned) in
      let count : length mine.blocks ≡ blocks plan = ap (λ (p : Plan). length p.blocks) same in
      let held = λ (b : ℕ). when (is_in_state is_held (st.copies space b)) (bytes plan b) in
      let sum = sum_le (λ (b : ℕ). bytes_if (size_of mine b) (copy_at x.pool space b)) held 1 (length mine.blocks)
      (λ k low high. subst (λ (n : ℕ). bytes_if (size_of mine k) (copy_at x.pool space k) ≤ when (is_in_state is_held (st.copies space k)) (8 * n)) (ap (λ (p : Plan). size_of p k) same)
      (one_held (size_of mine k) (copy_at x.pool space k) (st.copies space k) (x.facts.here space k (record { a_space = is; a_block = (low, omega (arith, high, count)) })))) in
      let all : sum_by held (range_with_len 1 (length mine.blocks)) ≡ copy_bytes plan st space = sum_total held (length mine.blocks) ∙ ap (λ (n : ℕ). total n held) count in
      let copies : bytes_at x.pool space ≤ copy_bytes plan st space = omega (arith, sum, all) in
      omega (arith, copies)
