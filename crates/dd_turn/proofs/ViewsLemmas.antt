-- One view takes the place of another, or one more comes, and what holds of all of them still does.
use Rattle.std.proofs.Common.{◌≡◌, ◌≢◌, ℕ, zero, suc, ◌≤◌, Bool, true, false, List, [], ◌∷◌, ◌++◌, ⊎_elim, set, refl, sym, ap, ◌∙◌, subst, arith, Option, Some}
use Rattle.std.proofs.lemmas.Bool.{false≢true}
use mathlib.Core.Option as maybe
use mathlib.Core.Option.{some, none, some-injective, some-ne-none}
use lib.ListN.{get_elem?}
use Rattle.atomic_table.proofs.Lists.{at_longer, at_set, at_snoc, set_else}
use Rattle.dd_turn.specs.declared.baton.View.{View}
use Rattle.dd_turn.specs.Turn.{idle, view, Turns}

module _ {A : Type 0} where
  set_there : (l : List A) (i : ℕ) (a b : A) → get_elem? l i ≡ some a → get_elem? (set l i b) i ≡ some b
  set_there [] i a b e = absurd (some-ne-none a (sym e))
  set_there (x ∷ xs) zero a b e = refl
  set_there (x ∷ xs) (suc i) a b e = set_there xs i a b e

  only : (a b : A) (i : ℕ) → get_elem? (a ∷ []) i ≡ some b → a ≡ b
  only a b zero e = some-injective a b e
  only a b (suc i) e = absurd (some-ne-none b (sym e))

  -- what holds of the new one, and of all others, holds of each
  each : (P : ℕ → A → Type 0) (l : List A) (i : ℕ) (a : A) → P i a → ((j : ℕ) (b : A) → j ≢ i → get_elem? l j ≡ some b → P j b)
      → (j : ℕ) (b : A) → get_elem? (set l i a) j ≡ some b → P j b
  each P l i a here others j b e =
      ⊎_elim (λ t. subst (λ (z : ℕ × A). P z.0 z.1) (λ k. (sym t.0 k, t.1 k)) here) (λ t. others j b t.0 t.1) (at_set l i j a b e)

module _ {K : Type 0} where
  -- one view can't both hold the turn and not
  apart : (v w : View K) → v.holds ≡ true → w.holds ≡ false → v ≢ w
  apart v w has lacks same = false≢true (sym lacks ∙ sym (ap (λ (x : View K). x.holds) same) ∙ has)

  apart_at : (views : List (View K)) (i j : ℕ) (v w : View K) → get_elem? views i ≡ some v → get_elem? views j ≡ some w → v.holds ≡ true → w.holds ≡ false → i ≢ j
  apart_at views i j v w at_i at_j has lacks same =
      apart v w has lacks (some-injective v w (sym at_i ∙ ap (λ (n : ℕ). get_elem? views n) same ∙ at_j))

  -- who holds the turn beside a view that doesn't held it before
  held_before : (views : List (View K)) (id : ℕ) (w : View K) → w.holds ≡ false → (j : ℕ) (b : View K) → get_elem? (set views id w) j ≡ some b → b.holds ≡ true → get_elem? views j ≡ some b
  held_before views id w lacks j b e has =
      ⊎_elim (λ t. absurd (apart b w has lacks (sym t.1))) (λ t. t.1) (at_set views id j w b e)

module _ {K T : Type 0} (Fits Over : K → T → Type 0) where
  -- a seat that doesn't hold the turn takes a look
  pub looks : (k : K) (turn : ℕ) (home : maybe.Option (Option T)) (views : List (View K)) (id : ℕ) (v : View K) (ended : Bool)
      → Turns Fits Over k turn home views → get_elem? views id ≡ some v → v.holds ≡ false → (ended ≡ true → turn ≡ 2)
      → Turns Fits Over k turn home (set views id (view k false ended))
  looks k turn home views id v ended t at free saw =
      let w : View K = view k false ended in
      record {
        below = t.below;
        one_key = each (λ (j : ℕ) (b : View K). b.about ≡ k) views id w refl (λ j b n e. t.one_key j b e);
        held = each (λ (j : ℕ) (b : View K). b.holds ≡ true → (turn ≡ 1) × (home ≡ none)) views id w (λ q. absurd (false≢true q)) (λ j b n e. t.held j b e);
        holder = λ q. let h = t.holder q in (h.0, h.1, set_else views id h.0 w (apart_at views h.0 id h.1 v h.2 at h.3 free) ∙ h.2, h.3);
        one_holder = λ i j a b p q has also. t.one_holder i j a b (held_before views id w refl i a p has) (held_before views id w refl j b q also) has also;
        home_is = t.home_is;
        seen = each (λ (j : ℕ) (b : View K). b.ended ≡ true → turn ≡ 2) views id w saw (λ j b n e. t.seen j b e);
      }

  -- a seat takes the turn, and the slot goes out
  pub takes_turn : (k : K) (turn : ℕ) (home : maybe.Option (Option T)) (views : List (View K)) (id : ℕ) (v : View K)
      → Turns Fits Over k turn home views → get_elem? views id ≡ some v → turn ≡ 0 → Turns Fits Over k 1 none (set views id (view k true false))
  takes_turn k turn home views id v t at free =
      let w : View K = view k true false in
      let alone : (j : ℕ) (b : View K) → get_elem? (set views id w) j ≡ some b → b.holds ≡ true → j ≡ id =
      each (λ (j : ℕ) (b : View K). b.holds ≡ true → j ≡ id) views id w (λ _. refl) (λ j b n e q. absurd (omega (arith, free, (t.held j b e q).0))) in
      record {
        below = omega arith;
        one_key = each (λ (j : ℕ) (b : View K). b.about ≡ k) views id w refl (λ j b n e. t.one_key j b e);
        held = λ j b e q. (refl, refl);
        holder = λ _. (id, w, set_there views id v w at, refl);
        one_holder = λ i j a b p q has also. alone i a p has ∙ sym (alone j b q also);
        home_is = λ n. absurd (n refl);
        seen = each (λ (j : ℕ) (b : View K). b.ended ≡ true → 1 ≡ 2) views id w (λ q. absurd (false≢true q)) (λ j b n e q. absurd (omega (arith, free, t.seen j b e q)));
      }

  -- the seat that holds the turn gives it or ends it, and the slot comes home
  pub puts_back : (k : K) (turn : ℕ) (home : maybe.Option (Option T)) (views : List (View K)) (id : ℕ) (v : View K) (now : ℕ) (ended : Bool) (value : T)
      → Turns Fits Over k turn home views → get_elem? views id ≡ some v → v.holds ≡ true → now ≤ 2 → now ≢ 1 → Fits k value → (now ≡ 2 → Over k value) → (ended ≡ true → now ≡ 2)
      → Turns Fits Over k now (some (Some value)) (set views id (view k false ended))
  puts_back k turn home views id v now ended value t at mine below other fits over saw =
      let w : View K = view k false ended in
      record {
        below = below;
        one_key = each (λ (j : ℕ) (b : View K). b.about ≡ k) views id w refl (λ j b n e. t.one_key j b e);
        held = each (λ (j : ℕ) (b : View K). b.holds ≡ true → (now ≡ 1) × (some (Some value) ≡ none)) views id w (λ q. absurd (false≢true q)) (λ j b n e q. absurd (n (t.one_holder j id b v e at q mine)));
        holder = λ q. absurd (other q);
        one_holder = λ i j a b p q has also. t.one_holder i j a b (held_before views id w refl i a p has) (held_before views id w refl j b q also) has also;
        home_is = λ _. (value, refl, fits, over);
        seen = each (λ (j : ℕ) (b : View K). b.ended ≡ true → now ≡ 2) views id w saw (λ j b n e q. absurd (omega (arith, (t.held id v at mine).0, t.seen j b e q)));
      }

  -- a seat comes that knows what another knows, which doesn't hold the turn
  pub comes : (k : K) (turn : ℕ) (home : maybe.Option (Option T)) (views : List (View K)) (id : ℕ) (v : View K)
      → Turns Fits Over k turn home views → get_elem? views id ≡ some v → v.holds ≡ false → Turns Fits Over k turn home (views ++ v ∷ [])
  comes k turn home views id v t at free =
      let there : (j : ℕ) (b : View K) → get_elem? (views ++ v ∷ []) j ≡ some b → b.holds ≡ true → get_elem? views j ≡ some b =
      λ j b e has. ⊎_elim (λ p. p) (λ q. absurd (apart b v has free (sym q))) (at_snoc views v b j e) in
      record {
        below = t.below;
        one_key = λ j b e. ⊎_elim (λ p. t.one_key j b p) (λ q. ap (λ (x : View K). x.about) (sym q) ∙ t.one_key id v at) (at_snoc views v b j e);
        held = λ j b e has. t.held j b (there j b e has) has;
        holder = λ q. let h = t.holder q in (h.0, h.1, at_longer views (v ∷ []) h.0 h.1 h.2, h.3);
        one_holder = λ i j a b p q has also. t.one_holder i j a b (there i a p has) (there j b q also) has also;
        home_is = t.home_is;
        seen = λ j b e has. ⊎_elim (λ p. t.seen j b p has) (λ q. t.seen id v at (ap (λ (x : View K). x.ended) q ∙ has)) (at_snoc views v b j e);
      }

  -- the first seat alone, with the value at home
  pub begins : (k : K) (value : T) → Fits k value → Turns Fits Over k 0 (some (Some value)) (idle k ∷ [])
  begins k value fits =
      let is : (j : ℕ) (b : View K) → get_elem? (idle k ∷ []) j ≡ some b → idle k ≡ b = λ j b e. only (idle k) b j e in
      let quiet : (j : ℕ) (b : View K) → get_elem? (idle k ∷ []) j ≡ some b → b.holds ≢ true =
      λ j b e has. false≢true (ap (λ (x : View K). x.holds) (is j b e) ∙ has) in
      record {
        below = omega arith;
        one_key = λ j b e. ap (λ (x : View K). x.about) (sym (is j b e));
        held = λ j b e has. absurd (quiet j b e has);
        holder = λ q. absurd (omega (arith, q));
        one_holder = λ i j a b p q has also. absurd (quiet i a p has);
        home_is = λ _. (value, refl, fits, λ q. absurd (omega (arith, q)));
        seen = λ j b e has. absurd (false≢true (ap (λ (x : View K). x.ended) (is j b e) ∙ has));
      }
