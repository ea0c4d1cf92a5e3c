-- Reading item after item: what it finds, and that it finds what was written.
use Rattle.std.proofs.Common.{◌≡◌, ℕ, zero, suc, ◌+◌, ◌<◌, Bool, true, false, cond, List, [], ◌∷◌, ◌++◌, length, Option, Some, None, refl, sym, ap, subst, ◌∙◌, arith, inl, inr}
use Rattle.std.specs.List.{flat_map}
use Rattle.std.proofs.lemmas.List.{append_assoc, append-nil, length-append}
use Rattle.std.proofs.lemmas.Option.{same_Some}
use Rattle.dd_causes.specs.Steps.{◌>>=◌}
use Rattle.dd_causes.proofs.StepsLemmas.{bind_some, chosen}
use Rattle.dd_tokens.specs.Lexeme.{Lexeme}
use Rattle.dd_script.specs.Many.{many_by, many_at}

-- each item takes a token at least
abbrev pub Shrinks : {A : Type 0} → (List Lexeme → Option (A × List Lexeme)) → Type 0
Shrinks {A} item = (ls : List Lexeme) (y : A × List Lexeme) → item ls ≡ Some y → length y.1 < length ls

-- what follows an item is the same, where it is the same behind each item that may be found
same_after : {A B : Type 0} (found : Option (A × List Lexeme)) (f g : A × List Lexeme → Option B) → ((y : A × List Lexeme) → found ≡ Some y → f y ≡ g y) → (found >>= f) ≡ (found >>= g)
same_after None f g same = refl
same_after (Some y) f g same = same y refl

-- how many steps are allowed makes no difference, where they are enough
enough : {A : Type 0} (ended : List Lexeme → Bool) (item : List Lexeme → Option (A × List Lexeme)) → Shrinks item → (n m : ℕ) (ls : List Lexeme) → length ls < n → length ls < m → many_by ended item n ls ≡ many_by ended item m ls
unfolding many_by
enough ended item shrinks zero m ls l k = absurd (omega arith)
enough ended item shrinks (suc n) zero ls l k = absurd (omega arith)
enough ended item shrinks (suc n) (suc m) ls l k =
    ap (λ found. cond (ended ls) (Some ([], ls)) found) (
    same_after (item ls) _ _ (λ y e.
    let shorter = shrinks ls y e in
    ap (λ tail. tail >>= λ more. Some (y.0 ∷ more.0, more.1)) (enough ended item shrinks n m y.1 (omega arith) (omega arith)))
    )

-- an item that takes what it was spelled as takes a token, where no spelling is empty
pub shrinks : {A : Type 0} (spell : A → List Lexeme) (item : List Lexeme → Option (A × List Lexeme)) → ((ls : List Lexeme) (y : A × List Lexeme) → item ls ≡ Some y → ls ≡ spell y.0 ++ y.1) → ((a : A) → 0 < length (spell a)) → Shrinks item
shrinks spell item takes long ls y e =
    let whole : length ls ≡ length (spell y.0) + length y.1 = rw (takes ls y e) (length-append (spell y.0) y.1) in
    let some = long y.0 in
    omega arith

abbrev Found : Type 0 → Type 0
Found A = Option (List A × List Lexeme)

-- behind the items that were found already
abbrev pub behind : {A : Type 0} → List A → Found A → Found A
behind done found = found >>= λ x. Some (done ++ x.0, x.1)

pub behind_none : {A : Type 0} (found : Found A) → found ≡ behind [] found
behind_none None = refl
behind_none (Some x) = refl

behind_both : {A : Type 0} (done : List A) (a : A) (found : Found A) → behind done (found >>= λ more. Some (a ∷ more.0, more.1)) ≡ behind (done ++ a ∷ []) found
behind_both done a None = refl
behind_both done a (Some x) = ap (λ l. Some (l, x.1)) (sym (append_assoc done (a ∷ []) x.0))

-- one step, where an item is left
unrolled : {A : Type 0} (ended : List Lexeme → Bool) (item : List Lexeme → Option (A × List Lexeme)) → Shrinks item → (ls : List Lexeme) (y : A × List Lexeme) → ended ls ≡ false → item ls ≡ Some y → many_at ended item ls ≡ (many_at ended item y.1 >>= λ more. Some (y.0 ∷ more.0, more.1))
unfolding many_at many_by
unrolled ended item s ls y e f =
    let shorter = s ls y f in
    rw (e, f) (ap (λ tail. tail >>= λ more. Some (y.0 ∷ more.0, more.1)) (enough ended item s (length ls) (suc (length y.1)) y.1 (omega arith) (omega arith)))

pub many_more : {A : Type 0} (ended : List Lexeme → Bool) (item : List Lexeme → Option (A × List Lexeme)) → Shrinks item → (all : Found A) (done : List A) (ls : List Lexeme) (y : A × List Lexeme) → ended ls ≡ false → item ls ≡ Some y → all ≡ behind done (many_at ended item ls) → all ≡ behind (done ++ y.0 ∷ []) (many_at ended item y.1)
many_more ended item s all done ls y e f so =
    so ∙ ap (behind done) (unrolled ended item s ls y e f) ∙ behind_both done y.0 (many_at ended item y.1)

pub many_stuck : {A : Type 0} (ended : List Lexeme → Bool) (item : List Lexeme → Option (A × List Lexeme)) (all : Found A) (done : List A) (ls : List Lexeme) → ended ls ≡ false → item ls ≡ None → all ≡ behind done (many_at ended item ls) → all ≡ None
unfolding many_at many_by
many_stuck ended item all done ls e f so = rw (e, f) at so

pub many_end : {A : Type 0} (ended : List Lexeme → Bool) (item : List Lexeme → Option (A × List Lexeme)) (all : Found A) (done : List A) (ls : List Lexeme) → ended ls ≡ true → all ≡ behind done (many_at ended item ls) → all ≡ Some (done, ls)
unfolding many_at many_by
many_end ended item all done ls e so = (rw e at so) ∙ ap (λ l. Some (l, ls)) (append-nil done)

-- what is found was written so
many_takes : {A : Type 0} (spell : A → List Lexeme) (ended : List Lexeme → Bool) (item : List Lexeme → Option (A × List Lexeme)) → ((ls : List Lexeme) (y : A × List Lexeme) → item ls ≡ Some y → ls ≡ spell y.0 ++ y.1) → (n : ℕ) (ls : List Lexeme) (y : List A × List Lexeme) → many_by ended item n ls ≡ Some y → (ls ≡ flat_map spell y.0 ++ y.1) × (ended y.1 ≡ true)
unfolding many_by
many_takes spell ended item takes zero ls y e = absurd cc
many_takes spell ended item takes (suc n) ls y e =
    elim (chosen (ended ls) _ _ _ e) [
      | inl last ↦ subst (λ (p : List _ × List Lexeme). (ls ≡ flat_map spell p.0 ++ p.1) × (ended p.1 ≡ true)) (same_Some _ _ last.1) (refl, last.0)
      | inr on ↦
          let first = bind_some (item ls) _ y on.1 in
          let more = bind_some (many_by ended item n first.0.1) _ y first.2 in
          let rest = many_takes spell ended item takes n first.0.1 more.0 more.1 in
          let whole : ls ≡ (spell first.0.0 ++ flat_map spell more.0.0) ++ more.0.1 =
          takes ls first.0 first.1 ∙ ap (λ l. spell first.0.0 ++ l) rest.0 ∙ sym (append_assoc (spell first.0.0) (flat_map spell more.0.0) more.0.1) in
          subst (λ (p : List _ × List Lexeme). (ls ≡ flat_map spell p.0 ++ p.1) × (ended p.1 ≡ true)) (same_Some _ _ more.2) (whole, rest.1)
    ]

pub many_at_takes : {A : Type 0} (spell : A → List Lexeme) (ended : List Lexeme → Bool) (item : List Lexeme → Option (A × List Lexeme)) → ((ls : List Lexeme) (y : A × List Lexeme) → item ls ≡ Some y → ls ≡ spell y.0 ++ y.1) → (ls : List Lexeme) (y : List A × List Lexeme) → many_at ended item ls ≡ Some y → (ls ≡ flat_map spell y.0 ++ y.1) × (ended y.1 ≡ true)
unfolding many_at
many_at_takes spell ended item takes ls y e = many_takes spell ended item takes (suc (length ls)) ls y e

-- what is written is found: item by item, each in front of others or of the end
pub record Rereads {A : Type 0} (spell : A → List Lexeme) (ended : List Lexeme → Bool) (item : List Lexeme → Option (A × List Lexeme)) (last : List Lexeme) : Type 0 where
  pub ends : ended last ≡ true
  pub goes_on : (a : A) (rest : List Lexeme) → ended (spell a ++ rest) ≡ false
  pub again : (a : A) (more : List A) → item (spell a ++ (flat_map spell more ++ last)) ≡ Some (a, flat_map spell more ++ last)

pub many_again : {A : Type 0} (spell : A → List Lexeme) (ended : List Lexeme → Bool) (item : List Lexeme → Option (A × List Lexeme)) (last : List Lexeme) → Rereads spell ended item last → Shrinks item → (xs : List A) → many_at ended item (flat_map spell xs ++ last) ≡ Some (xs, last)
unfolding many_at many_by
many_again spell ended item last r s [] = rw r.ends refl
many_again spell ended item last r s (x ∷ xs) =
    rw (append_assoc (spell x) (flat_map spell xs) last) (
    unrolled ended item s (spell x ++ (flat_map spell xs ++ last)) (x, flat_map spell xs ++ last) (r.goes_on x _) (r.again x xs)
    ∙ ap (λ tail. tail >>= λ more. Some (x ∷ more.0, more.1)) (many_again spell ended item last r s xs)
    )
