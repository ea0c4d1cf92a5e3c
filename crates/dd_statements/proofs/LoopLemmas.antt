-- Loops over the blocks of an array: what was entered for those so far, and what is due for those that are left.
use Rattle.std.proofs.Common.{◌≡◌, ℕ, ◌+◌, ◌-◌, ◌<◌, ◌≤◌, List, [], ◌++◌, None, ap, sym, ◌∙◌, subst, append-nil, arith}
use Rattle.std.specs.List.{flat_map, fold, range_with_len}
use Rattle.std.proofs.lemmas.Grind.{flat_map-append}
use Rattle.dd_core.specs.Due.{AreDue}
use Rattle.dd_lists.proofs.ListsLemmas.{next_left}
use Rattle.dd_lists.proofs.SumsLemmas.{range-add}
use Rattle.dd_machine.specs.declared.event.Event.{Event}
use Rattle.dd_machine.specs.Made.{pin_after}
use Rattle.dd_statements.specs.Follows.{Follows, IsBetween, StopsIn}
use Rattle.dd_statements.proofs.WithinLemmas.{IsWithin, within_more, within_none, within_stops}
use Rattle.dd_store.specs.declared.store.Slot.{Ghosts as SlotGhosts}
use Rattle.dd_store.specs.declared.store.Store.{Ghosts}
use Rattle.dd_table.specs.declared.fault.RunFault.{RunFault}
use Rattle.dd_table.specs.declared.table.Table.{Table}
use Rattle.dd_table.specs.Tables.{line_now, state_now}

-- what the blocks from one to another ask for, this one apart
abbrev pub between : (ℕ → List Event) → ℕ → ℕ → List Event
between f first end = flat_map f (range_with_len first (end - first))

pub between_none : (f : ℕ → List Event) (b : ℕ) → between f b b ≡ []
between_none f b = ap (λ (n : ℕ). flat_map f (range_with_len b n)) (let e : b - b ≡ 0 = omega arith in e)

pub between_next : (f : ℕ → List Event) (b end : ℕ) → b < end → between f b end ≡ f b ++ between f (b + 1) end
between_next f b end lt = next_left f b end lt

pub between_more : (f : ℕ → List Event) (first b : ℕ) → first ≤ b → between f first (b + 1) ≡ between f first b ++ f b
between_more f first b le =
    ap (λ (n : ℕ). flat_map f (range_with_len first n)) (let e : b + 1 - first ≡ (b - first) + 1 = omega (arith, le) in e)
    ∙ ap (flat_map f) (range-add first (b - first) 1)
    ∙ flat_map-append f (range_with_len first (b - first)) (range_with_len (first + (b - first)) 1)
    ∙ ap (λ (n : ℕ). between f first b ++ flat_map f (range_with_len n 1)) (let e : first + (b - first) ≡ b = omega (arith, le) in e)
    ∙ ap (λ (l : List Event). between f first b ++ l) (append-nil (f b))

-- all of it
whole : (f : ℕ → List Event) (first end b : ℕ) → first ≤ b → b < end → between f first b ++ (f b ++ between f (b + 1) end) ≡ between f first end
whole f first end b le lt =
    ap (λ (l : List Event). between f first b ++ l) (sym (between_next f b end lt))
    ∙ sym (flat_map-append f (range_with_len first (b - first)) (range_with_len b (end - b)))
    ∙ ap (λ (n : ℕ). flat_map f (range_with_len first (b - first) ++ range_with_len n (end - b))) (let e : b ≡ first + (b - first) = omega (arith, le) in e)
    ∙ ap (flat_map f) (sym (range-add first (b - first) (end - b)))
    ∙ ap (λ (n : ℕ). flat_map f (range_with_len first n)) (let e : b - first + (end - b) ≡ end - first = omega (arith, le, lt) in e)

module _ {D S : Type 0} {g : Ghosts D S} {h : SlotGhosts S} where
  -- the blocks below this one were seen to
  pub record IsAtBlock (t m : Table D S g h) (f : ℕ → List Event) (first end b : ℕ) : Type 0 where
    pub within : IsWithin t m (line_now t) (between f first b) (between f b end)
    pub from : first ≤ b

  pub block_first : (t : Table D S g h) (f : ℕ → List Event) (first end : ℕ) → IsBetween t → AreDue t.holding.ledger.plan.now (state_now t) (between f first end) → IsAtBlock t t f first end first
  block_first t f first end b due = record {
    within = subst (λ (l : List Event). IsWithin t t (line_now t) l (between f first end)) (sym (between_none f first)) (within_none t (between f first end) b due);
    from = omega arith;
  }

  -- this one is next
  pub block_next : (t m : Table D S g h) (f : ℕ → List Event) (first end b : ℕ) → b < end → IsAtBlock t m f first end b → IsWithin t m (line_now t) (between f first b) (f b ++ between f (b + 1) end)
  block_next t m f first end b lt at = subst (IsWithin t m (line_now t) (between f first b)) (between_next f b end lt) at.within

  pub block_more : (t m u : Table D S g h) (f : ℕ → List Event) (first end b : ℕ) → b < end → IsAtBlock t m f first end b → Follows m u (line_now t) (f b) → fold pin_after None (f b) ≡ None → IsAtBlock t u f first end (b + 1)
  block_more t m u f first end b lt at p rests = record {
    within = subst (λ (l : List Event). IsWithin t u (line_now t) l (between f (b + 1) end)) (sym (between_more f first b at.from))
        (within_more t m u (line_now t) (between f first b) (f b) (between f (b + 1) end) (block_next t m f first end b lt at) p rests);
    from = (let le = at.from in omega (arith, le));
  }

  -- it was skipped, since it asks for nothing
  pub block_skip : (t m : Table D S g h) (f : ℕ → List Event) (first end b : ℕ) → b < end → IsAtBlock t m f first end b → f b ≡ [] → IsAtBlock t m f first end (b + 1)
  block_skip t m f first end b lt at none = record {
    within = subst (λ (l : List Event). IsWithin t m (line_now t) l (between f (b + 1) end)) (sym (between_more f first b at.from ∙ ap (λ (l : List Event). between f first b ++ l) none ∙ append-nil (between f first b)))
        (subst (λ (l : List Event). IsWithin t m (line_now t) (between f first b) (l ++ between f (b + 1) end)) none (block_next t m f first end b lt at));
    from = (let le = at.from in omega (arith, le));
  }

  pub block_stops : (t m u : Table D S g h) (f : ℕ → List Event) (first end b : ℕ) (fault : RunFault) → b < end → IsAtBlock t m f first end b → StopsIn m u (line_now t) (f b) fault → StopsIn t u (line_now t) (between f first end) fault
  block_stops t m u f first end b fault lt at p =
      subst (λ (l : List Event). StopsIn t u (line_now t) l fault) (whole f first end b at.from lt)
      (within_stops t m u (line_now t) (between f first b) (f b) (between f (b + 1) end) fault (block_next t m f first end b lt at) p)

  pub block_last : (t m : Table D S g h) (f : ℕ → List Event) (first end b : ℕ) → b ≡ end → IsAtBlock t m f first end b → Follows t m (line_now t) (between f first end)
  block_last t m f first end b is at = subst (λ (n : ℕ). Follows t m (line_now t) (between f first n)) is at.within.follows
