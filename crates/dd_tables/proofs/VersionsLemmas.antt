-- Versions that are changed place by place.
use Rattle.std.proofs.Common.{◌≡◌, ℕ, zero, suc, ◌+◌, ◌<◌, ◌≤◌, Bool, cond, List, [], ◌∷◌, ◌++◌, length, get_or, set, take, drop, refl, ap, sym, ◌∙◌, arith, append-nil, take_all, drop_of_length-le}
use Rattle.dd_machine.specs.Effects.{versions_where}

-- the first so many places are changed
abbrev pub so_far : (ℕ → Bool) → (ℕ → ℕ) → ℕ → List ℕ → List ℕ
so_far changed new i vs = versions_where changed new 0 (take i vs) ++ drop i vs

more_from : (changed : ℕ → Bool) (new : ℕ → ℕ) (k i v : ℕ) (vs : List ℕ) → i < length vs → v ≡ cond (changed (k + i)) (new (k + i)) (get_or vs i 0)
    → set (versions_where changed new k (take i vs) ++ drop i vs) i v ≡ versions_where changed new k (take (suc i) vs) ++ drop (suc i) vs
more_from changed new k i v [] lt is = absurd (omega (arith, lt))
more_from changed new k zero v (x ∷ xs) lt is =
    let e : k + 0 ≡ k = omega arith in
    ap (λ (y : ℕ). y ∷ xs) (is ∙ ap (λ (j : ℕ). cond (changed j) (new j) x) e)
more_from changed new k (suc i) v (x ∷ xs) lt is =
    let e : k + suc i ≡ (k + 1) + i = omega arith in
    ap (λ (ys : List ℕ). cond (changed k) (new k) x ∷ ys)
    (more_from changed new (k + 1) i v xs (omega (arith, lt)) (is ∙ ap (λ (j : ℕ). cond (changed j) (new j) (get_or xs i 0)) e))

-- one place more
pub so_far_more : (changed : ℕ → Bool) (new : ℕ → ℕ) (i v : ℕ) (vs : List ℕ) → i < length vs → v ≡ cond (changed i) (new i) (get_or vs i 0)
    → set (so_far changed new i vs) i v ≡ so_far changed new (i + 1) vs
so_far_more changed new i v vs lt is =
    let e : i ≡ 0 + i = omega arith in
    let f : suc i ≡ i + 1 = omega arith in
    more_from changed new 0 i v vs lt (is ∙ ap (λ (j : ℕ). cond (changed j) (new j) (get_or vs i 0)) e)
    ∙ ap (λ (j : ℕ). so_far changed new j vs) f

at_from : (changed : ℕ → Bool) (new : ℕ → ℕ) (k i : ℕ) (vs : List ℕ) → get_or (versions_where changed new k (take i vs) ++ drop i vs) i 0 ≡ get_or vs i 0
at_from changed new k zero vs = refl
at_from changed new k (suc i) [] = refl
at_from changed new k (suc i) (x ∷ xs) = at_from changed new (k + 1) i xs

-- the place that comes next has its old version
pub so_far_at : (changed : ℕ → Bool) (new : ℕ → ℕ) (i : ℕ) (vs : List ℕ) → get_or (so_far changed new i vs) i 0 ≡ get_or vs i 0
so_far_at changed new i vs = at_from changed new 0 i vs

length_from : (changed : ℕ → Bool) (new : ℕ → ℕ) (k i : ℕ) (vs : List ℕ) → length (versions_where changed new k (take i vs) ++ drop i vs) ≡ length vs
length_from changed new k zero vs = refl
length_from changed new k (suc i) [] = refl
length_from changed new k (suc i) (x ∷ xs) = ap suc (length_from changed new (k + 1) i xs)

pub so_far_length : (changed : ℕ → Bool) (new : ℕ → ℕ) (i : ℕ) (vs : List ℕ) → length (so_far changed new i vs) ≡ length vs
so_far_length changed new i vs = length_from changed new 0 i vs

-- all places
pub so_far_all : (changed : ℕ → Bool) (new : ℕ → ℕ) (i : ℕ) (vs : List ℕ) → length vs ≤ i → so_far changed new i vs ≡ versions_where changed new 0 vs
so_far_all changed new i vs le =
    ap (λ (xs : List ℕ). versions_where changed new 0 xs ++ drop i vs) (take_all i vs le)
    ∙ ap (λ (xs : List ℕ). versions_where changed new 0 vs ++ xs) (drop_of_length-le vs le)
    ∙ append-nil (versions_where changed new 0 vs)

-- how many places there are stays
pub length_where : (changed : ℕ → Bool) (new : ℕ → ℕ) (k : ℕ) (vs : List ℕ) → length (versions_where changed new k vs) ≡ length vs
length_where changed new k [] = refl
length_where changed new k (v ∷ vs) = ap suc (length_where changed new (k + 1) vs)

-- what is changed counts at the places that are there alone
pub where_same : (p q : ℕ → Bool) (new : ℕ → ℕ) (k : ℕ) (vs : List ℕ) → ((i : ℕ) → i < length vs → p (k + i) ≡ q (k + i)) → versions_where p new k vs ≡ versions_where q new k vs
where_same p q new k [] same = refl
where_same p q new k (v ∷ vs) same =
    let e : k + 0 ≡ k = omega arith in
    let here : p k ≡ q k = ap p (sym e) ∙ same 0 (omega arith) ∙ ap q e in
    ap (λ (t : Bool). cond t (new k) v ∷ versions_where p new (k + 1) vs) here
    ∙ ap (λ (ys : List ℕ). cond (q k) (new k) v ∷ ys)
    (where_same p q new (k + 1) vs (λ i lt. let f : (k + 1) + i ≡ k + suc i = omega arith in ap p f ∙ same (suc i) (omega (arith, lt)) ∙ ap q (sym f)))
