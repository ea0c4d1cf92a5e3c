-- What is read as a view was spelled so, and what is spelled is read again.
use Rattle.std.proofs.Common.{◌≡◌, ℕ, ℤ, List, [], ◌∷◌, ◌++◌, Option, Some, None, refl, sym, ap, subst, ◌∙◌, inl, inr}
use Rattle.std.proofs.lemmas.Option.{same_Some}
use Rattle.std.proofs.lemmas.List.{append_assoc}
use Rattle.dd_causes.specs.Steps.{◌>>=◌}
use Rattle.dd_causes.proofs.StepsLemmas.{bind_some, which_way}
use Rattle.dd_tokens.specs.Lexeme.{Lexeme, word, number, mark}
use Rattle.dd_script.specs.declared.index.Index.{Index}
use Rattle.dd_script.specs.declared.index.Index.TheVariants.{All, One, Run, Steps}
use Rattle.dd_script.specs.declared.viewed.Viewed.{Viewed}
use Rattle.dd_script.specs.declared.viewed.Viewed.TheVariants.{Whole, Indexed}
use Rattle.dd_script.specs.Front.{word_at, numeral_at, mark_at}
use Rattle.dd_script.specs.ViewSteps.{run_at, numbers_at, index_at, indexed_at, viewed_at, view_at}
use Rattle.dd_script.specs.Spelling.{index_spelling, view_spelling}
use Rattle.dd_script.proofs.FrontLemmas.{by_word, by_numeral, mark_takes, by_mark}

-- what was found is spelled by the tokens in front of the rest
pub taken : {A : Type 0} (spell : A → List Lexeme) (ls : List Lexeme) (a : A) (rest : List Lexeme) (y : A × List Lexeme) → Some (a, rest) ≡ Some y → ls ≡ spell a ++ rest → ls ≡ spell y.0 ++ y.1
taken {A} spell ls a rest y e h = subst (λ (p : A × List Lexeme). ls ≡ spell p.0 ++ p.1) (same_Some _ _ e) h

run_takes : (first : ℤ) (ls : List Lexeme) (y : Index × List Lexeme) → run_at first ls ≡ Some y → number first ∷ mark 58 ∷ ls ≡ index_spelling y.0 ++ y.1
unfolding run_at
run_takes first ls y e =
    let second = by_numeral ls _ y e in
    elim (which_way (mark_at 58 second.0.1) _ _ y second.2) [
      | inl on ↦
          let colon = mark_takes 58 second.0.1 on.0 on.1 in
          let last = by_numeral on.0 _ y on.2 in
          taken index_spelling _ (Steps first second.0.0 last.0.0) last.0.1 y last.2
          (ap (λ l. number first ∷ mark 58 ∷ l) (second.1 ∙ ap (λ l. number second.0.0 ∷ l) (colon ∙ ap (λ l. mark 58 ∷ l) last.1)))
      | inr off ↦ taken index_spelling _ (Run first second.0.0) second.0.1 y off.1 (ap (λ l. number first ∷ mark 58 ∷ l) second.1)
    ]

index_takes : (ls : List Lexeme) (y : Index × List Lexeme) → index_at ls ≡ Some y → ls ≡ index_spelling y.0 ++ y.1
unfolding index_at numbers_at
index_takes ls y e =
    elim (which_way (mark_at 58 ls) _ _ y e) [
      | inl all ↦ taken index_spelling ls All all.0 y all.2 (mark_takes 58 ls all.0 all.1)
      | inr some ↦
          let first = by_numeral ls _ y some.1 in
          elim (which_way (mark_at 58 first.0.1) _ _ y first.2) [
            | inl on ↦ first.1 ∙ ap (λ l. number first.0.0 ∷ l) (mark_takes 58 first.0.1 on.0 on.1) ∙ run_takes first.0.0 on.0 y on.2
            | inr off ↦ taken index_spelling ls (One first.0.0) first.0.1 y off.1 first.1
          ]
    ]

by_index : {B : Type 0} (ls : List Lexeme) (f : Index × List Lexeme → Option B) (y : B) → (index_at ls >>= f) ≡ Some y → (x : Index × List Lexeme) × (ls ≡ index_spelling x.0 ++ x.1) × (f x ≡ Some y)
by_index ls f y e = let p = bind_some (index_at ls) f y e in (p.0, index_takes ls p.0 p.1, p.2)

indexed_takes : (name : List ℕ) (ls : List Lexeme) (y : Viewed × List Lexeme) → indexed_at name ls ≡ Some y → word name ∷ mark 91 ∷ ls ≡ view_spelling y.0 ++ y.1
unfolding indexed_at
indexed_takes name ls y e =
    let rows = by_index ls _ y e in
    let comma = by_mark 44 rows.0.1 _ y rows.2 in
    let cols = by_index comma.0 _ y comma.2 in
    let closed = by_mark 93 cols.0.1 _ y cols.2 in
    let tail : cols.0.1 ≡ (mark 93 ∷ []) ++ closed.0 = closed.1 in
    let columns : comma.0 ≡ (index_spelling cols.0.0 ++ mark 93 ∷ []) ++ closed.0 =
    cols.1 ∙ ap (λ l. index_spelling cols.0.0 ++ l) tail ∙ sym (append_assoc (index_spelling cols.0.0) (mark 93 ∷ []) closed.0) in
    let both : ls ≡ (index_spelling rows.0.0 ++ mark 44 ∷ (index_spelling cols.0.0 ++ mark 93 ∷ [])) ++ closed.0 =
    rows.1 ∙ ap (λ l. index_spelling rows.0.0 ++ l) (comma.1 ∙ ap (λ l. mark 44 ∷ l) columns)
    ∙ sym (append_assoc (index_spelling rows.0.0) (mark 44 ∷ (index_spelling cols.0.0 ++ mark 93 ∷ [])) closed.0) in
    taken view_spelling _ (Indexed name rows.0.0 cols.0.0) closed.0 y closed.2 (ap (λ l. word name ∷ mark 91 ∷ l) both)

pub viewed_takes : (name : List ℕ) (ls : List Lexeme) (y : Viewed × List Lexeme) → viewed_at name ls ≡ Some y → word name ∷ ls ≡ view_spelling y.0 ++ y.1
unfolding viewed_at
viewed_takes name ls y e =
    elim (which_way (mark_at 91 ls) _ _ y e) [
      | inl inside ↦ ap (λ l. word name ∷ l) (mark_takes 91 ls inside.0 inside.1) ∙ indexed_takes name inside.0 y inside.2
      | inr alone ↦ taken view_spelling (word name ∷ ls) (Whole name) ls y alone.1 refl
    ]

pub view_takes : (ls : List Lexeme) (y : Viewed × List Lexeme) → view_at ls ≡ Some y → ls ≡ view_spelling y.0 ++ y.1
unfolding view_at
view_takes ls y e =
    let name = by_word ls _ y e in
    name.1 ∙ viewed_takes name.0.0 name.0.1 y name.2

-- ---- what is spelled is read again, in front of what does not go on with it

index_again : (i : Index) (rest : List Lexeme) → mark_at 58 rest ≡ None → index_at (index_spelling i ++ rest) ≡ Some (i, rest)
unfolding index_at numbers_at run_at numeral_at mark_at
index_again All rest n = refl
index_again (One i) rest n = rw n refl
index_again (Run a b) rest n = rw n refl
index_again (Steps a s b) rest n = refl

unfoldable pub name_of : Viewed → List ℕ
name_of (Whole name) = name
name_of (Indexed name rows cols) = name

unfoldable pub behind_name : Viewed → List Lexeme
behind_name (Whole name) = []
behind_name (Indexed name rows cols) = mark 91 ∷ (index_spelling rows ++ mark 44 ∷ (index_spelling cols ++ mark 93 ∷ []))

pub viewed_again : (v : Viewed) (rest : List Lexeme) → mark_at 91 rest ≡ None → viewed_at (name_of v) (behind_name v ++ rest) ≡ Some (v, rest)
unfolding viewed_at indexed_at mark_at name_of behind_name
viewed_again (Whole name) rest n = rw n refl
viewed_again (Indexed name rows cols) rest n =
    rw (append_assoc (index_spelling rows) (mark 44 ∷ (index_spelling cols ++ mark 93 ∷ [])) rest)
    (rw (index_again rows (mark 44 ∷ ((index_spelling cols ++ mark 93 ∷ []) ++ rest)) refl)
    (rw (append_assoc (index_spelling cols) (mark 93 ∷ []) rest) (rw (index_again cols (mark 93 ∷ rest) refl) refl)))

pub begins_with_name : (v : Viewed) → view_spelling v ≡ word (name_of v) ∷ behind_name v
unfolding name_of behind_name
begins_with_name (Whole name) = refl
begins_with_name (Indexed name rows cols) = refl

pub view_again : (v : Viewed) (rest : List Lexeme) → mark_at 91 rest ≡ None → view_at (view_spelling v ++ rest) ≡ Some (v, rest)
unfolding view_at word_at
view_again v rest n = rw (begins_with_name v) (viewed_again v rest n)
