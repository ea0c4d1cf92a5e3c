-- The tokens of some bytes are their one cutting.
use Rattle.std.proofs.Common.{◌≡◌, ℕ, suc, ◌+◌, ◌-◌, ◌≤◌, ◌<◌, true, false, Bool, List, [], ◌∷◌, length, take, drop, get_or, refl, sym, ◌∙◌, ap, arith, ⊎_elim}
use Rattle.std.specs.List.{All, AllPairs, prefix_len}
use Rattle.std.proofs.lemmas.Bool.{cases_lt}
use Rattle.std.proofs.lemmas.List.{drop-drop, get_or_default, get_or-drop, length-drop}
use Rattle.std.proofs.lemmas.List.Elements.{All-cons, All-nil}
use Rattle.std.proofs.lemmas.List.Kept.{AllPairs-cons}
use Rattle.std.proofs.lemmas.List.Sums.{AllPass-from_list_all, list_all-from_AllPass, prefix_len_is, prefix_len_passes}
use Rattle.dd_tokens.specs.declared.token.Token.{Token}
use Rattle.dd_tokens.specs.Bytes.{is_blank}
use Rattle.dd_tokens.specs.Tokens.{front_token, AreTokens}
use Rattle.dd_tokens.specs.Lexeme.{token_bytes}
use Rattle.dd_tokens.specs.TokenIn.{AreBytesOf, IsTokenIn}
use Rattle.dd_tokens.specs.Cutting.{Covers, EndsBefore, IsCutting}
use Rattle.dd_tokens.specs.NextToken.{IsNextToken}
use Rattle.dd_tokens.proofs.FrontLemmas.{BeginsWith, token_front}
use Rattle.dd_tokens.proofs.AtFrontLemmas.{at_front, first_shown}
use Rattle.dd_tokens.proofs.TokensLemmas.{left_behind, next_in}

abbrev Behind : Token → Token → Type 0
Behind t u = t.first + t.count ≤ u.first

abbrev Longest : List ℕ → Token → Type 0
Longest bs t = EndsBefore t.kind (drop (t.first + t.count) bs)

-- so from a place on, in front of which nothing is asked
record IsCutFrom (bs : List ℕ) (at : ℕ) (ts : List Token) : Type 0 where
  from : All (λ t. at ≤ t.first) ts
  rising : AllPairs Behind ts
  of_kind : All (IsTokenIn bs) ts
  longest : All (Longest bs) ts
  blank : (place : ℕ) → at ≤ place → place < length bs → All (λ t. ¬ Covers t place) ts → is_blank (get_or bs place 0) ≡ true

tail : {X : Type 0} (P : X → Type 0) (x : X) (xs : List X) → All P (x ∷ xs) → All P xs
tail P x xs all = λ k d lt. all (suc k) d (omega arith)

head : {X : Type 0} (P : X → Type 0) (x : X) (xs : List X) → All P (x ∷ xs) → P x
head P x xs all = all 0 x (omega arith)

weaker : (a b : ℕ) → a ≤ b → (ts : List Token) → All (λ t. b ≤ t.first) ts → All (λ t. a ≤ t.first) ts
weaker a b le ts all = λ k d lt. omega (arith, all k d lt)

-- ---- the tokens are a cutting

nothing_cut : (bs : List ℕ) (at : ℕ) → AreTokens at (drop at bs) [] → IsCutFrom bs at []
nothing_cut bs at are = record {
  from = All-nil (λ t. at ≤ t.first);
  rising = λ i j d l m. absurd (omega arith);
  of_kind = All-nil (IsTokenIn bs);
  longest = All-nil (Longest bs);
  blank = λ place low high none.
      let here : get_or (drop at bs) (place - at) 0 ≡ get_or bs (at + (place - at)) 0 = get_or-drop at bs (place - at) 0 in
      let same : at + (place - at) ≡ place = omega arith in
      rw (here, same) at (AllPass-from_list_all is_blank (drop at bs) are (place - at) 0 (omega (arith, length-drop at bs)));
}

one_more_cut : (bs : List ℕ) (at : ℕ) (t : Token) (ts : List Token) → IsNextToken at (drop at bs) t → IsCutFrom bs (t.first + t.count) ts → IsCutFrom bs at (t ∷ ts)
one_more_cut bs at t ts next cut =
    let blanks = prefix_len is_blank (drop at bs) in
    let front = token_front (drop blanks (drop at bs)) t.kind t.count next.front in
    let behind : drop t.count (drop blanks (drop at bs)) ≡ drop (t.first + t.count) bs = drop-drop t.count blanks (drop at bs) ∙ left_behind bs at t next in
    record {
      from = All-cons (λ u. at ≤ u.first) t ts (omega (arith, next.place)) (weaker at (t.first + t.count) (omega (arith, next.place)) ts cut.from);
      rising = AllPairs-cons Behind t ts cut.from cut.rising;
      of_kind = All-cons (IsTokenIn bs) t ts (next_in bs at t next) cut.of_kind;
      longest = All-cons (Longest bs) t ts (rw behind at front.ended) cut.longest;
      blank = λ place low high none. ⊎_elim
          (λ (before : place < t.first).
          let here : get_or (drop at bs) (place - at) 0 ≡ get_or bs (at + (place - at)) 0 = get_or-drop at bs (place - at) 0 in
          let same : at + (place - at) ≡ place = omega arith in
          rw (here, same) at (prefix_len_passes is_blank (drop at bs) (place - at) 0 (omega (arith, next.place))))
          (λ (from_here : t.first ≤ place). ⊎_elim
          (λ (inside : place < t.first + t.count). absurd (head (λ (u : Token). ¬ Covers u place) t ts none (from_here, inside)))
          (λ (after : t.first + t.count ≤ place). cut.blank place after high (tail (λ (u : Token). ¬ Covers u place) t ts none))
          (cases_lt place (t.first + t.count)))
          (cases_lt place t.first);
    }

cut_from : (bs : List ℕ) (at : ℕ) (ts : List Token) → AreTokens at (drop at bs) ts → IsCutFrom bs at ts
cut_from bs at [] are = nothing_cut bs at are
cut_from bs at (t ∷ ts) are =
    let next : IsNextToken at (drop at bs) t = record { place = are.0; front = are.1 } in
    one_more_cut bs at t ts next (cut_from bs (t.first + t.count) ts (rw (left_behind bs at t next) at are.2))

pub are_cutting : (bs : List ℕ) (ts : List Token) → AreTokens 0 bs ts → IsCutting bs ts
are_cutting bs ts are =
    let cut = cut_from bs 0 ts are in
    record { rising = cut.rising; of_kind = cut.of_kind; longest = cut.longest; blank = λ place high none. cut.blank place (omega arith) high none }

-- ---- a cutting is the tokens

-- the bytes of a token are the first ones from its place on
token_is : (bs : List ℕ) (t : Token) → token_bytes bs t ≡ take t.count (drop t.first bs)
token_is bs t = ap (λ n. take n (drop t.first bs)) (omega arith)

-- a place in front of the first token lies in none
uncovered : (place : ℕ) (t : Token) (ts : List Token) → place < t.first → AllPairs Behind (t ∷ ts) → All (λ u. ¬ Covers u place) (t ∷ ts)
uncovered place t ts before rising = All-cons (λ (u : Token). ¬ Covers u place) t ts (λ covers. omega (arith, covers))
    (λ k d lt covers. omega (arith, covers, rising 0 (suc k) d (omega arith) (omega arith)))

-- in front of the first token are blanks, and it is no blank
first_place : (bs : List ℕ) (at : ℕ) (t : Token) (ts : List Token) → IsCutFrom bs at (t ∷ ts) → prefix_len is_blank (drop at bs) ≡ t.first - at
first_place bs at t ts cut =
    let inside = head (IsTokenIn bs) t ts cut.of_kind in
    let low : at ≤ t.first = head (λ (u : Token). at ≤ u.first) t ts cut.from in
    prefix_len_is is_blank (drop at bs) (t.first - at) 0 (omega (arith, length-drop at bs, inside.within))
    (λ k lt.
    rw (get_or-drop at bs k 0) (cut.blank (at + k) (omega arith) (omega (arith, inside.within, inside.long)) (uncovered (at + k) t ts (omega arith) cut.rising)))
    (λ lt.
    let place : at + (t.first - at) ≡ t.first + 0 = omega arith in
    let first : get_or (drop at bs) (t.first - at) 0 ≡ get_or (drop t.first bs) 0 0 = get_or-drop at bs (t.first - at) 0 ∙ ap (λ i. get_or bs i 0) place ∙ sym (get_or-drop t.first bs 0 0) in
    rw first (first_shown t.kind t.count (drop t.first bs) inside.long (rw (token_is bs t) at inside.by_kind)))

cut_front : (bs : List ℕ) (at : ℕ) (t : Token) (ts : List Token) → IsCutFrom bs at (t ∷ ts) → IsNextToken at (drop at bs) t
cut_front bs at t ts cut =
    let inside = head (IsTokenIn bs) t ts cut.of_kind in
    let low : at ≤ t.first = head (λ (u : Token). at ≤ u.first) t ts cut.from in
    let blanks = first_place bs at t ts cut in
    let place : t.first ≡ at + prefix_len is_blank (drop at bs) = omega (arith, blanks) in
    let rest : drop (prefix_len is_blank (drop at bs)) (drop at bs) ≡ drop t.first bs = drop-drop _ at bs ∙ ap (λ n. drop n bs) (sym place) in
    let begins : BeginsWith t.kind t.count (drop t.first bs) = record {
      long = inside.long;
      within = omega (arith, length-drop t.first bs, inside.within);
      by_kind = rw (token_is bs t) at inside.by_kind;
      ended = rw drop-drop (head (Longest bs) t ts cut.longest);
    } in
    record { place = place; front = rw rest (at_front t.kind t.count (drop t.first bs) begins) }

are_from : (bs : List ℕ) (at : ℕ) (ts : List Token) → IsCutFrom bs at ts → AreTokens at (drop at bs) ts
are_from bs at [] cut = list_all-from_AllPass is_blank (drop at bs) (λ k d lt.
    let here : get_or (drop at bs) k d ≡ get_or bs (at + k) 0 = get_or_default (drop at bs) k d 0 lt ∙ get_or-drop at bs k 0 in
    rw here (cut.blank (at + k) (omega arith) (omega (arith, length-drop at bs)) (All-nil (λ (u : Token). ¬ Covers u (at + k)))))
are_from bs at (t ∷ ts) cut =
    let next = cut_front bs at t ts cut in (
      next.place,
      next.front,
      rw (left_behind bs at t next) (are_from bs (t.first + t.count) ts (record {
        from = λ k d lt. cut.rising 0 (suc k) d (omega arith) (omega arith);
        rising = λ i j d l m. cut.rising (suc i) (suc j) d (omega arith) (omega arith);
        of_kind = tail (IsTokenIn bs) t ts cut.of_kind;
        longest = tail (Longest bs) t ts cut.longest;
        blank = λ place low high none. cut.blank place (omega (arith, head (λ (u : Token). at ≤ u.first) t ts cut.from)) high
            (All-cons (λ (u : Token). ¬ Covers u place) t ts (λ covers. omega (arith, covers)) none);
      })),
    )

pub cutting_are : (bs : List ℕ) (ts : List Token) → IsCutting bs ts → AreTokens 0 bs ts
cutting_are bs ts cut = are_from bs 0 ts (record {
  from = λ k d lt. omega arith;
  rising = cut.rising;
  of_kind = cut.of_kind;
  longest = cut.longest;
  blank = λ place low high none. cut.blank place high none;
})
