-- What was taken from the front stood there.
use Rattle.std.proofs.Common.{◌≡◌, ℕ, ℤ, eqb, List, [], ◌∷◌, Option, Some, ap, ◌∙◌}
use Rattle.std.proofs.lemmas.Option.{same_Some}
use Rattle.std.proofs.lemmas.Bool.{eqb-true}
use Rattle.dd_causes.specs.Steps.{◌>>=◌}
use Rattle.dd_causes.proofs.StepsLemmas.{bind_some, guard_some}
use Rattle.dd_tokens.specs.Lexeme.{Lexeme, word, number, mark}
use Rattle.dd_script.specs.Front.{word_at, numeral_at, mark_at}

pub word_takes : (ls : List Lexeme) (y : List ℕ × List Lexeme) → word_at ls ≡ Some y → ls ≡ word y.0 ∷ y.1
unfolding word_at
word_takes [] y e = absurd cc
word_takes (word bs ∷ rest) y e = ap (λ (p : List ℕ × List Lexeme). word p.0 ∷ p.1) (same_Some _ _ e)
word_takes (number z ∷ rest) y e = absurd cc
word_takes (mark b ∷ rest) y e = absurd cc

pub by_word : {B : Type 0} (ls : List Lexeme) (f : List ℕ × List Lexeme → Option B) (y : B) → (word_at ls >>= f) ≡ Some y → (x : List ℕ × List Lexeme) × (ls ≡ word x.0 ∷ x.1) × (f x ≡ Some y)
by_word ls f y e = let p = bind_some (word_at ls) f y e in (p.0, word_takes ls p.0 p.1, p.2)

numeral_takes : (ls : List Lexeme) (y : ℤ × List Lexeme) → numeral_at ls ≡ Some y → ls ≡ number y.0 ∷ y.1
unfolding numeral_at
numeral_takes [] y e = absurd cc
numeral_takes (word bs ∷ rest) y e = absurd cc
numeral_takes (number z ∷ rest) y e = ap (λ (p : ℤ × List Lexeme). number p.0 ∷ p.1) (same_Some _ _ e)
numeral_takes (mark b ∷ rest) y e = absurd cc

pub by_numeral : {B : Type 0} (ls : List Lexeme) (f : ℤ × List Lexeme → Option B) (y : B) → (numeral_at ls >>= f) ≡ Some y → (x : ℤ × List Lexeme) × (ls ≡ number x.0 ∷ x.1) × (f x ≡ Some y)
by_numeral ls f y e = let p = bind_some (numeral_at ls) f y e in (p.0, numeral_takes ls p.0 p.1, p.2)

pub mark_takes : (b : ℕ) (ls rest : List Lexeme) → mark_at b ls ≡ Some rest → ls ≡ mark b ∷ rest
unfolding mark_at
mark_takes b [] rest e = absurd cc
mark_takes b (word bs ∷ ls) rest e = absurd cc
mark_takes b (number z ∷ ls) rest e = absurd cc
mark_takes b (mark c ∷ ls) rest e =
    let g = guard_some (eqb c b) (Some ls) rest e in
    let same : ls ≡ rest = same_Some _ _ g.1 in
    ap (λ l. mark l ∷ ls) (eqb-true c b g.0) ∙ ap (λ l. mark b ∷ l) same

pub by_mark : {B : Type 0} (b : ℕ) (ls : List Lexeme) (f : List Lexeme → Option B) (y : B) → (mark_at b ls >>= f) ≡ Some y → (rest : List Lexeme) × (ls ≡ mark b ∷ rest) × (f rest ≡ Some y)
by_mark b ls f y e = let p = bind_some (mark_at b ls) f y e in (p.0, mark_takes b ls p.0 p.1, p.2)
