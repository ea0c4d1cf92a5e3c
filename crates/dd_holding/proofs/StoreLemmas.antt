-- What a work made is stored into one copy after the other.
use Rattle.std.proofs.Common.{◌≡◌, ◌⊎◌, ℕ, zero, suc, ◌+◌, ◌<◌, inl, inr, List, [], ◌∷◌, get_or, length, take, drop, All, Bor, Option, Some, refl, sym, ◌∙◌, subst, ⊎_elim, arith}
use Rattle.std.specs.Prelude.{Contains, IsSomeAnd}
use Rattle.std.specs.List.Sorted.{IsStrictlyIncreasing}
use Rattle.std.proofs.lemmas.List.{get_or-take, get_or_default, length-take-le, take-append-drop, take_more}
use Rattle.std.proofs.lemmas.List.Elements.{All-contains, All-from_get_or, All-get_or, Contains-append_cases, Contains-append_left, Contains-append_right}
use Rattle.std.proofs.lemmas.List.Kept.{AllPairs-from_increasing}
use Rattle.dd_blocks.specs.declared.plan.Plan.{Plan}
use Rattle.dd_blocks.specs.Numbered.{IsNumberIn}
use Rattle.dd_holding.specs.Works.{StoresAll}
use Rattle.dd_holding.proofs.MoreLemmas.{both_are}
use Rattle.dd_pool.specs.declared.pool.Pool.{Pool}
use Rattle.dd_pool.specs.Keys.{AreBoth}
use Rattle.dd_pool.specs.Places.{IsPlace}
use Rattle.dd_pool.specs.Pools.{HasCopy, copy_at}
use Rattle.dd_stamps.specs.Copies.{MayStore, Stores}
use Rattle.dd_stamps.specs.declared.stamped.Stamped.{Stamped}
use Rattle.dd_stamps.specs.declared.work.Work.{Work}
use Rattle.dd_store.specs.declared.store.Slot.{Ghosts as SlotGhosts}
use Rattle.dd_store.specs.declared.store.Store.{Ghosts}

-- a number of a rising list isn't before its place
pub not_before : (xs : List ℕ) (i : ℕ) → IsStrictlyIncreasing xs → i < length xs → Contains (take i xs) (get_or xs i 0) → ⊥
not_before xs i rising lt (k, within, is) =
    let few = length-take-le i xs (omega (arith, lt)) in
    let before : k < i = omega (arith, within, few) in
    let up : get_or xs k 0 < get_or xs i 0 = AllPairs-from_increasing xs rising k i 0 before lt in
    let same : get_or xs k 0 ≡ get_or xs i 0 = get_or_default xs k 0 (get_or xs i 0) (omega (arith, before, lt)) ∙ sym (get_or-take i xs k (get_or xs i 0) before) ∙ is in
    omega (arith, up, same)

-- what is among one more is that, or among those before
among_more : (xs : List ℕ) (i b : ℕ) → i < length xs → Contains (take (i + 1) xs) b → Contains (take i xs) b ⊎ (b ≡ get_or xs i 0)
among_more xs i b lt has = ⊎_elim
    (λ (before : Contains (take i xs) b). inl before)
    (λ (last : Contains (get_or xs i 0 ∷ []) b). inr (only b (get_or xs i 0) last))
    (Contains-append_cases (take i xs) (get_or xs i 0 ∷ []) b (subst (λ (ys : List ℕ). Contains ys b) (take_more xs i 0 lt) has))
  where
    only : (b x : ℕ) → Contains (x ∷ []) b → b ≡ x
    only b x (zero, within, is) = sym is
    only b x (suc k, within, is) = absurd (omega (arith, within))

among_old : (xs : List ℕ) (i b : ℕ) → i < length xs → Contains (take i xs) b → Contains (take (i + 1) xs) b
among_old xs i b lt has = subst (λ (ys : List ℕ). Contains ys b) (sym (take_more xs i 0 lt)) (Contains-append_left (take i xs) (get_or xs i 0 ∷ []) b has)

pub among_all : (xs : List ℕ) (i b : ℕ) → Contains (take i xs) b → Contains xs b
among_all xs i b has = subst (λ (ys : List ℕ). Contains ys b) (take-append-drop i xs) (Contains-append_left (take i xs) (drop i xs) b has)

among_last : (xs : List ℕ) (i : ℕ) → i < length xs → Contains (take (i + 1) xs) (get_or xs i 0)
among_last xs i lt = subst (λ (ys : List ℕ). Contains ys (get_or xs i 0)) (sym (take_more xs i 0 lt)) (Contains-append_right (take i xs) (get_or xs i 0 ∷ []) (get_or xs i 0) (zero, omega arith, refl))

-- blocks of the Plan are places of a space
pub places_of : (plan : Plan) (space : ℕ) (blocks : List ℕ) → IsNumberIn plan.spaces space → All (λ b. IsNumberIn plan.blocks b) blocks → All (IsPlace plan space) blocks
places_of plan space blocks is known =
    All-from_get_or (IsPlace plan space) blocks 0 (λ i lt. record { a_space = is; a_block = All-get_or (λ b. IsNumberIn plan.blocks b) blocks i 0 lt known })

module _ {D S : Type 0} {g : Ghosts D S} {h : SlotGhosts S} where
  -- nothing was stored
  pub none_stored : (pool : Pool D S g h) (work : Work) (space : ℕ) → StoresAll pool pool work space []
  none_stored pool work space = record {
    stored = λ b has. absurd (let within = has.1 in omega (arith, within));
    others = λ s b _ _. refl;
    rest = record { plan = refl; outs = λ s b. refl; names = refl };
  }

  -- the copy of the next block is as it was
  pub next_stays : (pool mid : Pool D S g h) (work : Work) (space i : ℕ) (blocks : List ℕ) → IsStrictlyIncreasing blocks → i < length blocks → IsPlace pool.plan.now space (get_or blocks i 0)
      → StoresAll pool mid work space (take i blocks) → copy_at mid space (get_or blocks i 0) ≡ copy_at pool space (get_or blocks i 0)
  next_stays pool mid work space i blocks rising lt place so_far = so_far.others space (get_or blocks i 0) place (λ _ has. not_before blocks i rising lt has)

  pub next_may : (pool mid : Pool D S g h) (work : Work) (space i : ℕ) (blocks : List ℕ) → IsStrictlyIncreasing blocks → i < length blocks → IsPlace pool.plan.now space (get_or blocks i 0)
      → All (λ b. IsSomeAnd (copy_at pool space b) (λ (c : Stamped). MayStore c work)) blocks → StoresAll pool mid work space (take i blocks)
      → IsSomeAnd (copy_at mid space (get_or blocks i 0)) (λ (c : Stamped). MayStore c work)
  next_may pool mid work space i blocks rising lt place may so_far =
      subst (λ (o : Option Stamped). IsSomeAnd o (λ (c : Stamped). MayStore c work)) (sym (next_stays pool mid work space i blocks rising lt place so_far))
      (All-get_or (λ b. IsSomeAnd (copy_at pool space b) (λ (c : Stamped). MayStore c work)) blocks i 0 lt may)

  -- one more was stored
  pub stored_more : (pool mid now : Pool D S g h) (work : Work) (space i : ℕ) (blocks : List ℕ) → IsStrictlyIncreasing blocks → i < length blocks → All (IsPlace pool.plan.now space) blocks
      → StoresAll pool mid work space (take i blocks)
      → AreBoth (λ c d. Stores c work d × HasCopy mid now space (get_or blocks i 0) (Some d)) (copy_at mid space (get_or blocks i 0)) (copy_at now space (get_or blocks i 0))
      → StoresAll pool now work space (take (i + 1) blocks)
  stored_more pool mid now work space i blocks rising lt places so_far both =
      let block = get_or blocks i 0 in
      let place = All-get_or (IsPlace pool.plan.now space) blocks i 0 lt places in
      let one = both_are (λ c d. Stores c work d × HasCopy mid now space block (Some d)) (copy_at mid space block) (copy_at now space block) both in
      let has = one.4.1 in
      let other = λ (s b : ℕ) (at : IsPlace pool.plan.now s b) (off : s ≡ space → b ≡ block → ⊥). has.copies.others s b (mid_place s b at) off in
      record {
        stored = λ b among. ⊎_elim
            (λ (before : Contains (take i blocks) b).
            let off = λ (same : b ≡ block). not_before blocks i rising lt (subst (Contains (take i blocks)) same before) in
            let at = place_in b (among_all blocks i b before) in
            subst (λ (o : Option Stamped). AreBoth (λ c d. Stores c work d) (copy_at pool space b) o) (sym (other space b at (λ _ same. off same))) (so_far.stored b before))
            (λ (last : b ≡ block). subst (λ (n : ℕ). AreBoth (λ c d. Stores c work d) (copy_at pool space n) (copy_at now space n)) (sym last)
            (both_from (copy_at pool space block) (copy_at now space block) one.0 one.1 (sym (next_stays pool mid work space i blocks rising lt place so_far) ∙ one.2) one.3 one.4.0))
            (among_more blocks i b lt among);
        others = λ s b at off.
            other s b at (λ same_s same_b. off same_s (subst (Contains (take (i + 1) blocks)) (sym same_b) (among_last blocks i lt)))
            ∙ so_far.others s b at (λ same_s before. off same_s (among_old blocks i b lt before));
        rest = record {
          plan = has.rest.plan ∙ so_far.rest.plan;
          outs = λ s b. has.rest.outs s b ∙ so_far.rest.outs s b;
          names = has.rest.names ∙ so_far.rest.names;
        };
      }
    where
      mid_place : (s b : ℕ) → IsPlace pool.plan.now s b → IsPlace mid.copies.plan.now s b
      mid_place s b at = subst (λ (p : Bor Plan). IsPlace p.now s b) (sym (mid.planned ∙ so_far.rest.plan)) at

      place_in : (b : ℕ) → Contains blocks b → IsPlace pool.plan.now space b
      place_in b has = All-contains (IsPlace pool.plan.now space) blocks b places has

      both_from : (o p : Option Stamped) (c d : Stamped) → o ≡ Some c → p ≡ Some d → Stores c work d → AreBoth (λ c d. Stores c work d) o p
      both_from o p c d is are stored = subst (λ (x : Option Stamped). AreBoth (λ c d. Stores c work d) x p) (sym is) (subst (λ (x : Option Stamped). AreBoth (λ c d. Stores c work d) (Some c) x) (sym are) stored)
