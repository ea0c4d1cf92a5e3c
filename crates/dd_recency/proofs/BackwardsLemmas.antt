-- What the iterator of a map or a set gives from its end, as a list.
use Rattle.std.proofs.Common.{◌≡◌, List, [], ◌∷◌, ◌++◌, map, reverse, length, Some, None, refl, sym, ap, subst, ◌∙◌}
use Rattle.std.specs.declared.iter.Rev.{Rev}
use Rattle.std.specs.Iterator.Adapters.{rev_source, rev_steps}
use Rattle.std.specs.Map.Iter.{TakesLast}
use Rattle.std.proofs.lemmas.List.{map_push, reverse-append}
use Rattle.std.proofs.lemmas.Iterator.{YieldsList}
use Rattle.std.proofs.lemmas.Iterator.Consumers.{YieldsList-from_shown}

pub map-reverse : {X Y : Type 0} (f : X → Y) (xs : List X) → map f (reverse xs) ≡ reverse (map f xs)
map-reverse f [] = refl
map-reverse f (x ∷ xs) =
    ap (λ l. map f l) (reverse-append (x ∷ []) xs)
    ∙ map_push f (reverse xs) x
    ∙ ap (λ l. l ++ f x ∷ []) (map-reverse f xs)
    ∙ sym (reverse-append (f x ∷ []) (map f xs))

module _ {A X : Type 0} (shows : A → X) where
  abbrev left : Rev (List X) → List X
  left s = reverse (rev_source s)

  at_end : (s t : Rev (List X)) → rev_steps (TakesLast shows) s None t → length (left s) ≡ 0
  at_end s t h = ap (λ l. length (reverse l)) h.0

  one_more : (s : Rev (List X)) (x : A) (t : Rev (List X)) → rev_steps (TakesLast shows) s (Some x) t → left s ≡ shows x ∷ left t
  one_more s x t h = ap reverse h ∙ reverse-append (rev_source t) (shows x ∷ [])

  pub YieldsList-from_rev_rest : (s : Rev (List X)) (xs : List X) → rev_source s ≡ xs → YieldsList (rev_steps (TakesLast shows)) shows s (reverse xs)
  YieldsList-from_rev_rest s xs e =
      subst (λ l. YieldsList (rev_steps (TakesLast shows)) shows s (reverse l)) e (YieldsList-from_shown (rev_steps (TakesLast shows)) shows left at_end one_more s)
