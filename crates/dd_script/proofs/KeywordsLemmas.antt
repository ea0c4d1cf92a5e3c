-- Each word is at most one keyword, and the table has each keyword at its place.
use Rattle.std.proofs.Common.{◌≡◌, ◌↔◌, ℕ, ◌<◌, ◌≤◌, cond, nat_eq, List, [], ◌∷◌, Option, Some, None, refl, ap, sym, ◌∙◌, get_or, arith}
use Rattle.std.specs.Cmp.Lexicographic.{pointwise}
use Rattle.dd_script.specs.declared.keyword.Keyword.{Keyword}
use Rattle.dd_script.specs.declared.keyword.Keyword.TheVariants.{Space, Proc, Policy, Place, Array, Same, Drop, Move, Region, Task, End, Print, Sum, Moved}
use Rattle.dd_script.specs.Keywords.{keyword_word}

-- the first of some keywords that is the word
found : List Keyword → List ℕ → Option Keyword
found [] word = None
found (k ∷ ks) word = cond (pointwise nat_eq word (keyword_word k)) (Some k) (found ks word)

abbrev pub table : List Keyword
table = Space ∷ Proc ∷ Policy ∷ Place ∷ Array ∷ Same ∷ Drop ∷ Move ∷ Region ∷ Task ∷ End ∷ Print ∷ Sum ∷ Moved ∷ []

found_itself : (k : Keyword) → found table (keyword_word k) ≡ Some k
unfolding found
found_itself Space = refl
found_itself Proc = refl
found_itself Policy = refl
found_itself Place = refl
found_itself Array = refl
found_itself Same = refl
found_itself Drop = refl
found_itself Move = refl
found_itself Region = refl
found_itself Task = refl
found_itself End = refl
found_itself Print = refl
found_itself Sum = refl
found_itself Moved = refl

pub one_keyword : (j k : Keyword) → keyword_word j ≡ keyword_word k → Some j ≡ Some k
one_keyword j k same = sym (found_itself j) ∙ (ap (found table) same ∙ found_itself k)

-- the answer is this keyword exactly where the word is it
pub is_it : (j k : Keyword) (word : List ℕ) → keyword_word j ≡ word → (Some j ≡ Some k) ↔ (word ≡ keyword_word k)
is_it j k word is = (λ same. cc, λ named_k. one_keyword j k (is ∙ named_k))

-- each keyword has a place in the table
placed : (k : Keyword) → (i : ℕ) × (i < 14) × (get_or table i Space ≡ k)
placed Space = (0, omega arith, refl)
placed Proc = (1, omega arith, refl)
placed Policy = (2, omega arith, refl)
placed Place = (3, omega arith, refl)
placed Array = (4, omega arith, refl)
placed Same = (5, omega arith, refl)
placed Drop = (6, omega arith, refl)
placed Move = (7, omega arith, refl)
placed Region = (8, omega arith, refl)
placed Task = (9, omega arith, refl)
placed End = (10, omega arith, refl)
placed Print = (11, omega arith, refl)
placed Sum = (12, omega arith, refl)
placed Moved = (13, omega arith, refl)

-- a word that is no keyword of the table is none
pub is_none : (word : List ℕ) (n : ℕ) → 14 ≤ n → ((i : ℕ) → i < n → word ≡ keyword_word (get_or table i Space) → ⊥) → (k : Keyword) → (None ≡ Some k) ↔ (word ≡ keyword_word k)
is_none word n all differ k =
    let at = placed k in
    (λ same. cc, λ named_k. absurd (differ at.0 (omega (arith, at.1)) (named_k ∙ sym (ap (λ (j : Keyword). keyword_word j) at.2))))
