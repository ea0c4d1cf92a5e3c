-- Lemmas on the tokens of a list of bytes.
use Rattle.std.proofs.Common.{◌≡◌, ℕ, ◌+◌, ◌≤◌, ◌<◌, List, [], ◌∷◌, ◌++◌, None, length, take, drop, refl, sym, ◌∙◌, ap, subst, arith, append_assoc}
use Rattle.std.specs.List.{All, prefix_len}
use Rattle.std.proofs.lemmas.List.{append-nil, drop-drop, length-drop, length-take, take-take}
use Rattle.std.proofs.lemmas.List.Elements.{All-nil, All-cons}
use Rattle.std.proofs.lemmas.Slice.{between_is}
use Rattle.dd_tokens.specs.declared.token.Token.{Token}
use Rattle.dd_tokens.specs.declared.token.TokenKind.{TokenKind}
use Rattle.dd_tokens.specs.Bytes.{is_blank, before_comment}
use Rattle.dd_tokens.specs.Tokens.{front_token, AreTokens, AreTokensOf}
use Rattle.dd_tokens.specs.Lexeme.{token_bytes}
use Rattle.dd_tokens.specs.TokenIn.{IsTokenIn}
use Rattle.dd_tokens.specs.NextToken.{IsNextToken}
use Rattle.dd_tokens.proofs.BytesLemmas.{nothing_left}
use Rattle.dd_tokens.proofs.FrontLemmas.{token_front, same_parts}

-- only one token stands first
one_next : (at : ℕ) (bs : List ℕ) (t u : Token) → IsNextToken at bs t → IsNextToken at bs u → t ≡ u
one_next at bs t u p q =
    let parts = same_parts {A = TokenKind} {B = ℕ} (t.kind, t.count) (u.kind, u.count) (sym p.front ∙ q.front) in
    let place : t.first ≡ u.first = p.place ∙ sym q.place in
    λ i. record { kind = parts.0 i; first = place i; count = parts.1 i }

-- where a token stands first, each list of tokens begins with it
pub begin_with_next : (at : ℕ) (bs : List ℕ) (t : Token) → IsNextToken at bs t → (ts : List Token) → AreTokens at bs ts → (us : List Token) × (ts ≡ t ∷ us) × AreTokens (t.first + t.count) (drop (prefix_len is_blank bs + t.count) bs) us
begin_with_next at bs t next [] blank = absurd (cc (nothing_left is_blank bs blank, next.front))
begin_with_next at bs t next (u ∷ us) are =
    let same : u ≡ t = one_next at bs u t (record { place = are.0; front = are.1 }) next in
    (us, ap (λ x. x ∷ us) same, subst (λ (x : Token). AreTokens (x.first + x.count) (drop (prefix_len is_blank bs + x.count) bs) us) same are.2)

-- where no token stands behind the blanks, but something does, there are no tokens
pub no_tokens : (at : ℕ) (bs : List ℕ) → front_token (drop (prefix_len is_blank bs) bs) ≡ None → prefix_len is_blank bs < length bs → (ts : List Token) → AreTokens at bs ts → ⊥
no_tokens at bs none some [] blank = omega (arith, length-drop (prefix_len is_blank bs) bs, ap length (nothing_left is_blank bs blank))
no_tokens at bs none some (t ∷ ts) are = absurd (cc (none, are.1))

-- two lists of tokens of the same bytes are equal
pub one_cutting : (at : ℕ) (bs : List ℕ) (ts us : List Token) → AreTokens at bs ts → AreTokens at bs us → ts ≡ us
one_cutting at bs [] [] p q = refl
one_cutting at bs [] (u ∷ us) p q = absurd (cc (nothing_left is_blank bs p, q.1))
one_cutting at bs (t ∷ ts) us p q =
    let rest = begin_with_next at bs t (record { place = p.0; front = p.1 }) us q in
    ap (λ l. t ∷ l) (one_cutting (t.first + t.count) _ ts rest.0 p.2 rest.2) ∙ sym rest.1

-- the tokens `done` were cut off the front of the code, and from the place `at` on it means the same
pub record IsCutTo (code : List ℕ) (done : List Token) (at : ℕ) : Type 0 where
  pub within : at ≤ length code
  pub to_whole : (ts : List Token) → AreTokens at (drop at code) ts → AreTokens 0 code (done ++ ts)
  pub from_whole : (ts : List Token) → AreTokens 0 code ts → (us : List Token) × (ts ≡ done ++ us) × AreTokens at (drop at code) us

pub cut_none : (code : List ℕ) → IsCutTo code [] 0
cut_none code = record {
  within = omega arith;
  to_whole = λ ts are. are;
  from_whole = λ ts are. (ts, refl, are);
}

-- what is left behind the token that stands first
pub left_behind : (code : List ℕ) (at : ℕ) (t : Token) → IsNextToken at (drop at code) t → drop (prefix_len is_blank (drop at code) + t.count) (drop at code) ≡ drop (t.first + t.count) code
left_behind code at t next = drop-drop _ at code ∙ ap (λ n. drop n code) (omega arith)

pub cut_more : (code : List ℕ) (done : List Token) (at : ℕ) (t : Token) → IsCutTo code done at → IsNextToken at (drop at code) t → t.first + t.count ≤ length code → IsCutTo code (done ++ t ∷ []) (t.first + t.count)
cut_more code done at t cut next within =
    let left = left_behind code at t next in
    record {
      within = within;
      to_whole = λ ts are. rw append_assoc (cut.to_whole (t ∷ ts) (next.place, next.front, rw left are));
      from_whole = λ ts are.
          let part = cut.from_whole ts are in
          let begun = begin_with_next at (drop at code) t next part.0 part.2 in
          (begun.0, part.1 ∙ ap (λ l. done ++ l) begun.1 ∙ sym (append_assoc done (t ∷ []) begun.0), rw left at begun.2);
    }

-- all is cut where nothing but blanks is left
pub cut_all : (code : List ℕ) (done : List Token) (at : ℕ) → IsCutTo code done at → AreTokens at (drop at code) [] → AreTokens 0 code done
cut_all code done at cut blank = rw append-nil at (cut.to_whole [] blank)

-- the token that stands first lies in its line
pub next_in : (code : List ℕ) (at : ℕ) (t : Token) → IsNextToken at (drop at code) t → IsTokenIn code t
next_in code at t next =
    let blanks = prefix_len is_blank (drop at code) in
    let front = token_front (drop blanks (drop at code)) t.kind t.count next.front in
    let within : t.first + t.count ≤ length code = omega (arith, front.within, front.long, length-drop blanks (drop at code), length-drop at code) in
    let bytes : token_bytes code t ≡ take t.count (drop blanks (drop at code)) = ap (λ n. take n (drop t.first code)) (omega arith) ∙ ap (take t.count) (ap (λ n. drop n code) next.place ∙ sym (drop-drop blanks at code)) in
    record { within = within; long = front.long; by_kind = rw bytes front.by_kind }

pub tokens_in : (code : List ℕ) (at : ℕ) (ts : List Token) → AreTokens at (drop at code) ts → All (IsTokenIn code) ts
tokens_in code at [] are = All-nil (IsTokenIn code)
tokens_in code at (t ∷ ts) are =
    let next : IsNextToken at (drop at code) t = record { place = are.0; front = are.1 } in
    All-cons (IsTokenIn code) t ts (next_in code at t next) (tokens_in code (t.first + t.count) ts (rw (left_behind code at t next) at are.2))

-- a token in the front of a line lies in the line
in_front : (n : ℕ) (line : List ℕ) (t : Token) → IsTokenIn (take n line) t → IsTokenIn line t
in_front n line t inside =
    let within : t.first + t.count ≤ n = omega (arith, inside.within, length-take n line) in
    let bytes : token_bytes (take n line) t ≡ token_bytes line t = between_is (take n line) t.first (t.first + t.count) ∙ ap (drop t.first) (take-take (t.first + t.count) n line within) ∙ sym (between_is line t.first (t.first + t.count)) in
    record { within = omega (arith, inside.within, length-take n line); long = inside.long; by_kind = rw bytes at inside.by_kind }

pub tokens_of_line_in : (line : List ℕ) (ts : List Token) → AreTokensOf line ts → All (IsTokenIn line) ts
tokens_of_line_in line ts are = λ k d lt. in_front _ line _ (tokens_in (before_comment line) 0 ts are k d lt)
