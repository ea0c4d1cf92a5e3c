-- The first line of a text, cut at its first line feed.
use Rattle.std.proofs.Common.{◌≡◌, ℕ, zero, suc, ◌+◌, ◌-◌, ◌<◌, cond, List, [], ◌∷◌, length, get_or, take, drop, refl, sym, ap, ◌∙◌, arith, add-one}
use Rattle.std.proofs.lemmas.Bool.{ne_eqb, eq-eqb, eqb-true}
use Rattle.std.proofs.lemmas.List.{take_rest, drop_all}
use Rattle.memchr.specs.Find.{Nowhere, Passes, NoneBefore, is_byte}
use Rattle.dd_check.specs.Lines.{lines_of, lengthen_first}

-- no line feed stands before place k
abbrev NoFeed : List ℕ → ℕ → Type 0
NoFeed xs k = (j : ℕ) → j < k → get_or xs j 0 ≡ 10 → ⊥

feed_step : (b : ℕ) (bs : List ℕ) → (b ≡ 10 → ⊥) → lines_of (b ∷ bs) ≡ lengthen_first b (lines_of bs)
feed_step b bs n = ap (λ t. cond t ([] ∷ lines_of bs) (lengthen_first b (lines_of bs))) (ne_eqb b 10 n)

lines_cut : (xs : List ℕ) (k : ℕ) → k < length xs → NoFeed xs k → get_or xs k 0 ≡ 10 → lines_of xs ≡ take k xs ∷ lines_of (drop (suc k) xs)
lines_cut [] k l n e = absurd (omega arith)
lines_cut (b ∷ bs) zero l n e = ap (λ t. cond t ([] ∷ lines_of bs) (lengthen_first b (lines_of bs))) (eq-eqb b 10 e)
lines_cut (b ∷ bs) (suc k) l n e =
    feed_step b bs (n 0 (omega arith)) ∙ ap (lengthen_first b) (lines_cut bs k (omega arith) (λ j h. n (suc j) (omega arith)) e)

lines_whole : (b : ℕ) (bs : List ℕ) → NoFeed (b ∷ bs) (suc (length bs)) → lines_of (b ∷ bs) ≡ (b ∷ bs) ∷ []
lines_whole b [] n = feed_step b [] (n 0 (omega arith))
lines_whole b (c ∷ cs) n =
    feed_step b (c ∷ cs) (n 0 (omega arith)) ∙ ap (lengthen_first b) (lines_whole c cs (λ j h. n (suc j) (omega arith)))

pub cut_at_feed : (xs : List ℕ) (k : ℕ) → NoneBefore (Passes (is_byte 10) xs) 0 (length xs) k → Passes (is_byte 10) xs k → lines_of xs ≡ take k xs ∷ lines_of (take (length xs - (k + 1)) (drop (k + 1) xs))
cut_at_feed xs k h p =
    lines_cut xs k h.high (λ j l e. h.before j (omega arith) l (eq-eqb _ 10 e)) (eqb-true _ 10 p)
    ∙ rw (take_rest, add-one) refl

pub cut_at_end : (xs : List ℕ) → 0 < length xs → Nowhere (Passes (is_byte 10) xs) 0 (length xs) → lines_of xs ≡ xs ∷ lines_of (take (length xs - length xs) (drop (length xs) xs))
cut_at_end [] l h = absurd (omega arith)
cut_at_end (b ∷ bs) l h =
    lines_whole b bs (λ j k e. h j (omega arith) k (eq-eqb _ 10 e))
    ∙ ap (λ ys. (b ∷ bs) ∷ lines_of ys) (sym (take_rest (b ∷ bs) (length (b ∷ bs)) ∙ drop_all (length (b ∷ bs)) (b ∷ bs) (omega arith)))
