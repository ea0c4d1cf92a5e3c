-- What the words of a cache say of the list of its keys, and what holds of an order that is kept in one.
use Rattle.std.proofs.Common.{◌≡◌, ℕ, ◌-◌, ◌<◌, ◌≤◌, Bool, true, false, ◌||◌, not, cond, nat_eq, List, ◌∷◌, [], length, take, Option, Some, None, Decides, Contains, is_some, refl, sym, ap, subst, ◌∙◌, arith}
use Rattle.std.specs.Cmp.{unsigned_Decides}
use Rattle.std.specs.List.{IsDistinct, list_any}
use Rattle.std.specs.Map.{keys_of, lookup, lookup_entry, remove_entry}
use Rattle.std.specs.Option.{option_map_or}
use Rattle.std.proofs.lemmas.Bool.{eqb-true}
use Rattle.std.proofs.lemmas.List.{take_all}
use Rattle.std.proofs.lemmas.Map.Entries.{length-keys_of}
use Rattle.std.proofs.lemmas.Map.Keys.{IsDistinct-head, IsDistinct-tail, IsDistinct-cons}
use Rattle.std.proofs.lemmas.Map.Made.{is_member-Decides, is_some-lookup}
use Rattle.lru.specs.LruCache.{LruCache, lru_cache, promoted, put_entries}
use Rattle.lru.proofs.CallerLemmas.{Contains-lookup_entry}
use Rattle.dd_recency.specs.Recency.{to_front, without}
use Rattle.dd_recency.proofs.RecencyLemmas.{IsAbsent, IsAbsent-unfound, IsDistinct-to_front, IsDistinct-without, length-le-to_front, length-le-without, without-absent}

module _ {V : Type 0} where
  is_some-lookup_entry : (test : ℕ → Bool) (es : List (ℕ × V)) → is_some (lookup_entry test es) ≡ list_any test (keys_of es)
  is_some-lookup_entry test [] = refl
  is_some-lookup_entry test (e ∷ es) =
      elim (test e.0) as (λ y. is_some (cond y (Some e) (lookup_entry test es)) ≡ (y || list_any test (keys_of es))) [ true ↦ refl | false ↦ is_some-lookup_entry test es ]

  pub keys_of-remove_entry : (block : ℕ) (es : List (ℕ × V)) → IsDistinct nat_eq (keys_of es) → keys_of (remove_entry (nat_eq block) es) ≡ without block (keys_of es)
  keys_of-remove_entry block [] d = refl
  keys_of-remove_entry block (e ∷ es) d =
      (elim (nat_eq block e.0) as (λ y. nat_eq block e.0 ≡ y → keys_of (cond y es (e ∷ remove_entry (nat_eq block) es)) ≡ cond (not y) (e.0 ∷ without block (keys_of es)) (without block (keys_of es))) [
        | true ↦ λ t. let alone = subst (λ b. IsAbsent b (keys_of es)) (sym (eqb-true block e.0 t)) (IsDistinct-head nat_eq e.0 (keys_of es) d) in sym (without-absent block (keys_of es) alone)
        | false ↦ λ t. ap (λ rest. e.0 ∷ rest) (keys_of-remove_entry block es (IsDistinct-tail nat_eq e.0 (keys_of es) d))
      ]) refl

  keys_at_front : (block : ℕ) (es : List (ℕ × V)) (o : Option (ℕ × V)) → lookup_entry (nat_eq block) es ≡ o → is_some o ≡ true → IsDistinct nat_eq (keys_of es) → keys_of (option_map_or (λ e. e ∷ remove_entry (nat_eq block) es) o es) ≡ to_front block (keys_of es)
  keys_at_front block es None found h d = cc
  keys_at_front block es (Some e) found h d =
      let same : block ≡ e.0 = eqb-true block e.0 (Contains-lookup_entry (nat_eq block) es e found).1 in
      ap (λ b. b ∷ keys_of (remove_entry (nat_eq block) es)) (sym same) ∙ ap (λ rest. block ∷ rest) (keys_of-remove_entry block es d)

  keys_of-promoted : (block : ℕ) (es : List (ℕ × V)) → list_any (nat_eq block) (keys_of es) ≡ true → IsDistinct nat_eq (keys_of es) → keys_of (promoted (nat_eq block) es) ≡ to_front block (keys_of es)
  keys_of-promoted block es h = keys_at_front block es (lookup_entry (nat_eq block) es) refl (is_some-lookup_entry (nat_eq block) es ∙ h)

  keys_after_put : (c : LruCache ℕ V) (block : ℕ) (v : V) (o : Option (ℕ × V)) → is_some o ≡ false → length (keys_of c.entries) < c.cap → keys_of (option_map_or (λ e. (e.0, v) ∷ remove_entry (nat_eq block) c.entries) o ((block, v) ∷ take (c.cap - 1) c.entries)) ≡ block ∷ keys_of c.entries
  keys_after_put c block v None h room =
      let few : length c.entries ≤ c.cap - 1 = omega (arith, length-keys_of c.entries) in
      ap (λ es. block ∷ keys_of es) (take_all (c.cap - 1) c.entries few)
  keys_after_put c block v (Some e) h room = cc

  keys_of-put_entries : (c : LruCache ℕ V) (block : ℕ) (v : V) → list_any (nat_eq block) (keys_of c.entries) ≡ false → length (keys_of c.entries) < c.cap → keys_of (put_entries nat_eq c block v) ≡ block ∷ keys_of c.entries
  keys_of-put_entries c block v h = keys_after_put c block v (lookup_entry (nat_eq block) c.entries) (is_some-lookup_entry (nat_eq block) c.entries ∙ h)

  -- ---- an order in a cache: what it finds, and what holds of it after each change
  abbrev pub IsOrder : LruCache ℕ V → Type 0
  IsOrder c = IsDistinct nat_eq (keys_of c.entries) × (length (keys_of c.entries) ≤ c.cap)

  pub found_decides : (block : ℕ) (es : List (ℕ × V)) → Decides (is_some (lookup (nat_eq block) es)) (Contains (keys_of es) block)
  found_decides block es =
      subst (λ r. Decides r (Contains (keys_of es) block)) (sym (is_some-lookup (nat_eq block) es)) (is_member-Decides unsigned_Decides (keys_of es) block)

  found : (block : ℕ) (es : List (ℕ × V)) → Contains (keys_of es) block → list_any (nat_eq block) (keys_of es) ≡ true
  found block es = (is_member-Decides unsigned_Decides (keys_of es) block).1

  unfound : (block : ℕ) (es : List (ℕ × V)) → ¬ Contains (keys_of es) block → list_any (nat_eq block) (keys_of es) ≡ false
  unfound block es gone =
      (elim (list_any (nat_eq block) (keys_of es)) as (λ y. list_any (nat_eq block) (keys_of es) ≡ y → y ≡ false) [
        | true ↦ λ t. absurd (gone ((is_member-Decides unsigned_Decides (keys_of es) block).0 t))
        | false ↦ λ _. refl
      ]) refl

  pub touched : (c : LruCache ℕ V) (block : ℕ) → Contains (keys_of c.entries) block → IsOrder c → keys_of (promoted (nat_eq block) c.entries) ≡ to_front block (keys_of c.entries)
  touched c block there order = keys_of-promoted block c.entries (found block c.entries there) order.0

  pub order_touched : (c : LruCache ℕ V) (block : ℕ) → Contains (keys_of c.entries) block → IsOrder c → IsOrder (lru_cache (promoted (nat_eq block) c.entries) c.cap)
  order_touched c block there order =
      let few : length (to_front block (keys_of c.entries)) ≤ length (keys_of c.entries) = length-le-to_front block (keys_of c.entries) (found block c.entries there) in
      subst (λ bs. IsDistinct nat_eq bs × (length bs ≤ c.cap)) (sym (touched c block there order)) (IsDistinct-to_front block (keys_of c.entries) order.0, omega arith)

  pub order_taken : (c : LruCache ℕ V) (block : ℕ) → IsOrder c → IsOrder (lru_cache (remove_entry (nat_eq block) c.entries) c.cap)
  order_taken c block order =
      let few : length (without block (keys_of c.entries)) ≤ length (keys_of c.entries) = length-le-without block (keys_of c.entries) in
      subst (λ bs. IsDistinct nat_eq bs × (length bs ≤ c.cap)) (sym (keys_of-remove_entry block c.entries order.0)) (IsDistinct-without block (keys_of c.entries) order.0, omega arith)

  pub unchanged : (block : ℕ) (es : List (ℕ × V)) → is_some (lookup (nat_eq block) es) ≡ false → without block (keys_of es) ≡ keys_of es
  unchanged block es none = without-absent block (keys_of es) (IsAbsent-unfound block (keys_of es) (sym (is_some-lookup (nat_eq block) es) ∙ none))

  pub added : (c : LruCache ℕ V) (block : ℕ) (v : V) → ¬ Contains (keys_of c.entries) block → length (keys_of c.entries) < c.cap → keys_of (put_entries nat_eq c block v) ≡ block ∷ keys_of c.entries
  added c block v gone = keys_of-put_entries c block v (unfound block c.entries gone)

  pub order_added : (c : LruCache ℕ V) (block : ℕ) (v : V) → ¬ Contains (keys_of c.entries) block → length (keys_of c.entries) < c.cap → IsOrder c → IsOrder (lru_cache (put_entries nat_eq c block v) c.cap)
  order_added c block v gone room order =
      let alone = IsAbsent-unfound block (keys_of c.entries) (unfound block c.entries gone) in
      subst (λ bs. IsDistinct nat_eq bs × (length bs ≤ c.cap)) (sym (added c block v gone room)) (IsDistinct-cons nat_eq block (keys_of c.entries) alone order.0, omega arith)
