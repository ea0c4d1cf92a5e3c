-- A look-up by bytes, after a change to a map whose keys are bytes.
use Rattle.std.proofs.Common.{◌≡◌, ℕ, true, false, cond, List, Option, sym, ap, ◌∙◌, ⊎_elim}
use Rattle.std.proofs.lemmas.Bool.{cases_Bool, false≢true, false_from_ne_true}
use Rattle.std.proofs.lemmas.Slice.Eq.{bytes_eq-Decides}
use Rattle.std.specs.Map.{lookup, KeepsOthers}
use Rattle.std.specs.Str.{bytes_eq}

apart : (bs cs ks : List ℕ) → bytes_eq bs cs ≡ false → bytes_eq bs ks ≡ true → bytes_eq cs ks ≡ false
apart bs cs ks differ same = false_from_ne_true _ (λ e. false≢true (sym differ ∙ (bytes_eq-Decides bs cs).1 ((bytes_eq-Decides bs ks).0 same ∙ sym ((bytes_eq-Decides cs ks).0 e))))

module _ {K X : Type 0} (bytes : K → List ℕ) (bs : List ℕ) (old new : List (K × X)) where
  abbrev at : List ℕ → List (K × X) → Option X
  at cs es = lookup (λ k. bytes_eq cs (bytes k)) es

  others : KeepsOthers (λ x y. bytes_eq (bytes x) (bytes y)) (λ k. bytes_eq bs (bytes k)) old new → (cs : List ℕ) → bytes_eq bs cs ≡ false → at cs new ≡ at cs old
  unfolding KeepsOthers
  others h cs e =
      h (λ k. bytes_eq cs (bytes k)) (λ x y same. ap (λ l. bytes_eq l (bytes y)) ((bytes_eq-Decides cs (bytes x)).0 same)) (λ k. apart bs cs (bytes k) e)

  -- the change is at the bytes bs
  pub changed_at : (w : Option X) → at bs new ≡ w → KeepsOthers (λ x y. bytes_eq (bytes x) (bytes y)) (λ k. bytes_eq bs (bytes k)) old new
      → (cs : List ℕ) → at cs new ≡ cond (bytes_eq cs bs) w (at cs old)
  changed_at w here h cs = ⊎_elim equal apart_there (cases_Bool (bytes_eq cs bs))
    where
      equal : bytes_eq cs bs ≡ true → at cs new ≡ cond (bytes_eq cs bs) w (at cs old)
      equal e = ap (λ l. at l new) ((bytes_eq-Decides cs bs).0 e) ∙ here ∙ sym (ap (λ b. cond b w (at cs old)) e)

      apart_there : bytes_eq cs bs ≡ false → at cs new ≡ cond (bytes_eq cs bs) w (at cs old)
      apart_there e =
          others h cs (false_from_ne_true _ (λ same. false≢true (sym e ∙ (bytes_eq-Decides cs bs).1 (sym ((bytes_eq-Decides bs cs).0 same))))) ∙ sym (ap (λ b. cond b w (at cs old)) e)
