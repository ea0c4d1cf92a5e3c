-- What is read as an argument was spelled so, and what is spelled is read again.
use Rattle.std.proofs.Common.{◌≡◌, ℕ, ◌<◌, List, [], ◌∷◌, ◌++◌, length, true, false, Option, Some, None, refl, sym, ap, ◌∙◌, inl, inr, arith}
use Rattle.std.specs.List.{flat_map}
use Rattle.std.proofs.lemmas.Option.{same_Some}
use Rattle.std.proofs.lemmas.List.{append_assoc, append-nil, length-map}
use Rattle.dd_causes.specs.Steps.{◌>>=◌}
use Rattle.dd_causes.proofs.StepsLemmas.{bind_some, which_way}
use Rattle.dd_tokens.specs.declared.token.Token.{Token}
use Rattle.dd_tokens.specs.Lexeme.{Lexeme, word, mark, lexemes_of}
use Rattle.dd_script.specs.declared.viewed.Viewed.{Viewed}
use Rattle.dd_script.specs.declared.viewed.Viewed.TheVariants.{Whole, Indexed}
use Rattle.dd_script.specs.declared.pair.Pair.{Pair}
use Rattle.dd_script.specs.declared.argument.Argument.{Argument}
use Rattle.dd_script.specs.declared.argument.Argument.TheVariants.{Bare, OneWord, TwoWords, WithPairs}
use Rattle.dd_script.specs.Front.{word_at, numeral_at, mark_at}
use Rattle.dd_script.specs.ViewSteps.{viewed_at, view_at}
use Rattle.dd_script.specs.ArgumentSteps.{no_token, pair_at, no_pair, pairs_at, with_pairs_at, two_words_at, one_word_at, called_at, bare_at, argument_at, arguments_at}
use Rattle.dd_script.specs.Many.{many_at}
use Rattle.dd_script.specs.Spelling.{view_spelling, pair_spelling, argument_spelling}
use Rattle.dd_script.proofs.FrontLemmas.{by_word, mark_takes, by_mark}
use Rattle.dd_script.proofs.ManyLemmas.{Shrinks, shrinks, many_at_takes, many_again, behind, many_more, many_stuck, many_end}
use Rattle.dd_script.proofs.ViewStepsLemmas.{taken, viewed_takes, view_takes, name_of, behind_name, begins_with_name, viewed_again, view_again}

pair_takes : (ls : List Lexeme) (y : Pair × List Lexeme) → pair_at ls ≡ Some y → ls ≡ pair_spelling y.0 ++ y.1
unfolding pair_at
pair_takes ls y e =
    let comma = by_mark 44 ls _ y e in
    let access = by_word comma.0 _ y comma.2 in
    let opened = by_mark 40 access.0.1 _ y access.2 in
    let part = by_word opened.0 _ y opened.2 in
    let closed = by_mark 41 part.0.1 _ y part.2 in
    taken pair_spelling ls (record { access = access.0.0; part = part.0.0 }) closed.0 y closed.2
    (comma.1 ∙ ap (λ l. mark 44 ∷ l) (access.1 ∙ ap (λ l. word access.0.0 ∷ l) (opened.1 ∙ ap (λ l. mark 40 ∷ l) (part.1 ∙ ap (λ l. word part.0.0 ∷ l) closed.1))))

pub pair_shrinks : Shrinks pair_at
pair_shrinks = shrinks pair_spelling pair_at pair_takes (λ p. omega arith)

with_pairs_takes : (w : List ℕ) (v : Viewed) (ls : List Lexeme) (y : Argument × List Lexeme) → with_pairs_at w v ls ≡ Some y → word w ∷ mark 40 ∷ (view_spelling v ++ ls) ≡ argument_spelling y.0 ++ y.1
unfolding with_pairs_at pairs_at
with_pairs_takes w v ls y e =
    let first = bind_some (pair_at ls) _ y e in
    let others = bind_some (many_at no_pair pair_at first.0.1) _ y first.2 in
    let closed = by_mark 41 others.0.1 _ y others.2 in
    let ps = flat_map pair_spelling others.0.0 in
    let end : ps ++ others.0.1 ≡ (ps ++ mark 41 ∷ []) ++ closed.0 = ap (λ l. ps ++ l) closed.1 ∙ sym (append_assoc ps (mark 41 ∷ []) closed.0) in
    let pairs : ls ≡ (pair_spelling first.0.0 ++ (ps ++ mark 41 ∷ [])) ++ closed.0 =
    pair_takes ls first.0 first.1
    ∙ ap (λ l. pair_spelling first.0.0 ++ l) ((many_at_takes pair_spelling no_pair pair_at pair_takes first.0.1 others.0 others.1).0 ∙ end)
    ∙ sym (append_assoc (pair_spelling first.0.0) (ps ++ mark 41 ∷ []) closed.0) in
    taken argument_spelling _ (WithPairs w v first.0.0 others.0.0) closed.0 y closed.2
    (ap (λ l. word w ∷ mark 40 ∷ l) (ap (λ l. view_spelling v ++ l) pairs ∙ sym (append_assoc (view_spelling v) (pair_spelling first.0.0 ++ (ps ++ mark 41 ∷ [])) closed.0)))

two_words_takes : (outer inner : List ℕ) (ls : List Lexeme) (y : Argument × List Lexeme) → two_words_at outer inner ls ≡ Some y → word outer ∷ mark 40 ∷ word inner ∷ mark 40 ∷ ls ≡ argument_spelling y.0 ++ y.1
unfolding two_words_at
two_words_takes outer inner ls y e =
    let v = bind_some (view_at ls) _ y e in
    let closed = by_mark 41 v.0.1 _ y v.2 in
    let rest = by_mark 41 closed.0 _ y closed.2 in
    let marks : v.0.1 ≡ (mark 41 ∷ mark 41 ∷ []) ++ rest.0 = closed.1 ∙ ap (λ l. mark 41 ∷ l) rest.1 in
    let inside : ls ≡ (view_spelling v.0.0 ++ mark 41 ∷ mark 41 ∷ []) ++ rest.0 =
    view_takes ls v.0 v.1 ∙ ap (λ l. view_spelling v.0.0 ++ l) marks ∙ sym (append_assoc (view_spelling v.0.0) (mark 41 ∷ mark 41 ∷ []) rest.0) in
    taken argument_spelling _ (TwoWords outer inner v.0.0) rest.0 y rest.2 (ap (λ l. word outer ∷ mark 40 ∷ word inner ∷ mark 40 ∷ l) inside)

one_word_takes : (w name : List ℕ) (ls : List Lexeme) (y : Argument × List Lexeme) → one_word_at w name ls ≡ Some y → word w ∷ mark 40 ∷ word name ∷ ls ≡ argument_spelling y.0 ++ y.1
unfolding one_word_at
one_word_takes w name ls y e =
    let v = bind_some (viewed_at name ls) _ y e in
    let view : word w ∷ mark 40 ∷ word name ∷ ls ≡ word w ∷ mark 40 ∷ (view_spelling v.0.0 ++ v.0.1) = ap (λ l. word w ∷ mark 40 ∷ l) (viewed_takes name ls v.0 v.1) in
    elim (which_way (mark_at 41 v.0.1) _ _ y v.2) [
      | inl closed ↦
          let inside : view_spelling v.0.0 ++ v.0.1 ≡ (view_spelling v.0.0 ++ mark 41 ∷ []) ++ closed.0 =
          ap (λ l. view_spelling v.0.0 ++ l) (mark_takes 41 v.0.1 closed.0 closed.1) ∙ sym (append_assoc (view_spelling v.0.0) (mark 41 ∷ []) closed.0) in
          taken argument_spelling _ (OneWord w v.0.0) closed.0 y closed.2 (view ∙ ap (λ l. word w ∷ mark 40 ∷ l) inside)
      | inr more ↦ view ∙ with_pairs_takes w v.0.0 v.0.1 y more.1
    ]

called_takes : (w : List ℕ) (ls : List Lexeme) (y : Argument × List Lexeme) → called_at w ls ≡ Some y → word w ∷ mark 40 ∷ ls ≡ argument_spelling y.0 ++ y.1
unfolding called_at
called_takes w ls y e =
    let inner = by_word ls _ y e in
    let front : word w ∷ mark 40 ∷ ls ≡ word w ∷ mark 40 ∷ word inner.0.0 ∷ inner.0.1 = ap (λ l. word w ∷ mark 40 ∷ l) inner.1 in
    elim (which_way (mark_at 40 inner.0.1) _ _ y inner.2) [
      | inl two ↦ front ∙ ap (λ l. word w ∷ mark 40 ∷ word inner.0.0 ∷ l) (mark_takes 40 inner.0.1 two.0 two.1) ∙ two_words_takes w inner.0.0 two.0 y two.2
      | inr one ↦ front ∙ one_word_takes w inner.0.0 inner.0.1 y one.1
    ]

bare_takes : (name : List ℕ) (ls : List Lexeme) (y : Argument × List Lexeme) → bare_at name ls ≡ Some y → word name ∷ ls ≡ argument_spelling y.0 ++ y.1
unfolding bare_at
bare_takes name ls y e =
    let v = bind_some (viewed_at name ls) _ y e in
    taken argument_spelling _ (Bare v.0.0) v.0.1 y v.2 (viewed_takes name ls v.0 v.1)

argument_takes : (ls : List Lexeme) (y : Argument × List Lexeme) → argument_at ls ≡ Some y → ls ≡ argument_spelling y.0 ++ y.1
unfolding argument_at
argument_takes ls y e =
    let first = by_word ls _ y e in
    elim (which_way (mark_at 40 first.0.1) _ _ y first.2) [
      | inl called ↦ first.1 ∙ ap (λ l. word first.0.0 ∷ l) (mark_takes 40 first.0.1 called.0 called.1) ∙ called_takes first.0.0 called.0 y called.2
      | inr bare ↦ first.1 ∙ bare_takes first.0.0 first.0.1 y bare.1
    ]

spelled_long : (a : Argument) → 0 < length (argument_spelling a)
spelled_long (Bare (Whole name)) = omega arith
spelled_long (Bare (Indexed name rows cols)) = omega arith
spelled_long (OneWord w v) = omega arith
spelled_long (TwoWords w u v) = omega arith
spelled_long (WithPairs w v p ps) = omega arith

pub argument_shrinks : Shrinks argument_at
argument_shrinks = shrinks argument_spelling argument_at argument_takes spelled_long

pub arguments_takes : (ls : List Lexeme) (args : List Argument) → arguments_at ls ≡ Some args → ls ≡ flat_map argument_spelling args
unfolding arguments_at
arguments_takes ls args e =
    let found = bind_some (many_at no_token argument_at ls) _ args e in
    let t = many_at_takes argument_spelling no_token argument_at argument_takes ls found.0 found.1 in
    t.0 ∙ ap (λ l. flat_map argument_spelling found.0.0 ++ l) (none_left found.0.1 t.1) ∙ append-nil (flat_map argument_spelling found.0.0)
    ∙ ap (flat_map argument_spelling) (same_Some _ _ found.2)
  where
    none_left : (rest : List Lexeme) → no_token rest ≡ true → rest ≡ []
    none_left [] e = refl
    none_left (l ∷ rest) e = absurd cc

-- ---- the loops

pub pairs_more : (all : Option (List Pair × List Lexeme)) (done : List Pair) (ls : List Lexeme) (p : Pair) (rest : List Lexeme) → no_pair ls ≡ false → Some (p, rest) ≡ pair_at ls → all ≡ behind done (pairs_at ls) → all ≡ behind (done ++ p ∷ []) (pairs_at rest)
unfolding pairs_at
pairs_more all done ls p rest e f so = many_more no_pair pair_at pair_shrinks all done ls (p, rest) e (sym f) so

pub pairs_stuck : (all : Option (List Pair × List Lexeme)) (done : List Pair) (ls : List Lexeme) → no_pair ls ≡ false → None ≡ pair_at ls → all ≡ behind done (pairs_at ls) → None ≡ all
unfolding pairs_at
pairs_stuck all done ls e f so = sym (many_stuck no_pair pair_at all done ls e (sym f) so)

pub pairs_end : (all : Option (List Pair × List Lexeme)) (done : List Pair) (ls : List Lexeme) → no_pair ls ≡ true → all ≡ behind done (pairs_at ls) → Some (done, ls) ≡ all
unfolding pairs_at
pairs_end all done ls e so = sym (many_end no_pair pair_at all done ls e so)

-- fewer lexemes are fewer tokens
pub fewer_tokens : (line : List ℕ) (ts us : List Token) → length (lexemes_of line ts) < length (lexemes_of line us) → length ts < length us
fewer_tokens line ts us l = rw (length-map, length-map) at l

pub arguments_more : (all : Option (List Argument × List Lexeme)) (done : List Argument) (ls : List Lexeme) (a : Argument) (rest : List Lexeme) → no_token ls ≡ false → Some (a, rest) ≡ argument_at ls → all ≡ behind done (many_at no_token argument_at ls) → all ≡ behind (done ++ a ∷ []) (many_at no_token argument_at rest)
arguments_more all done ls a rest e f so = many_more no_token argument_at argument_shrinks all done ls (a, rest) e (sym f) so

pub arguments_stuck : (whole : List Lexeme) (done : List Argument) (ls : List Lexeme) → no_token ls ≡ false → None ≡ argument_at ls → many_at no_token argument_at whole ≡ behind done (many_at no_token argument_at ls) → None ≡ arguments_at whole
unfolding arguments_at
arguments_stuck whole done ls e f so = sym (ap (λ found. found >>= λ x. Some x.0) (many_stuck no_token argument_at _ done ls e (sym f) so))

pub arguments_end : (whole : List Lexeme) (done : List Argument) (ls : List Lexeme) → no_token ls ≡ true → many_at no_token argument_at whole ≡ behind done (many_at no_token argument_at ls) → Some done ≡ arguments_at whole
unfolding arguments_at
arguments_end whole done ls e so = sym (ap (λ found. found >>= λ x. Some x.0) (many_end no_token argument_at _ done ls e so))

-- ---- what is spelled is read again

pairs_again : (ps : List Pair) (rest : List Lexeme) → pairs_at (flat_map pair_spelling ps ++ mark 41 ∷ rest) ≡ Some (ps, mark 41 ∷ rest)
unfolding pairs_at pair_at no_pair mark_at word_at
pairs_again ps rest =
    many_again pair_spelling no_pair pair_at (mark 41 ∷ rest) (record { ends = refl; goes_on = λ a more. refl; again = λ a more. refl }) pair_shrinks ps

-- arguments are followed by nothing or by a word
Follows : List Lexeme → Type 0
Follows rest = (b : ℕ) → mark_at b rest ≡ None

-- behind a name that is not called stands no `(`
uncalled : (v : Viewed) (rest : List Lexeme) → mark_at 40 rest ≡ None → mark_at 40 (behind_name v ++ rest) ≡ None
unfolding mark_at behind_name
uncalled (Whole name) rest m = m
uncalled (Indexed name rows cols) rest m = refl

bare_again : (v : Viewed) (rest : List Lexeme) → Follows rest → argument_at (view_spelling v ++ rest) ≡ Some (Bare v, rest)
unfolding argument_at bare_at word_at Follows
bare_again v rest f = rw (begins_with_name v, uncalled v rest (f 40), viewed_again v rest (f 91)) refl

-- behind `In(` stands a view, and not a second word
inside_again : (w : List ℕ) (v : Viewed) (rest : List Lexeme) → mark_at 40 rest ≡ None → called_at w (view_spelling v ++ rest) ≡ one_word_at w (name_of v) (behind_name v ++ rest)
unfolding called_at word_at
inside_again w v rest m = rw (begins_with_name v, uncalled v rest m) refl

one_again : (w : List ℕ) (v : Viewed) (rest : List Lexeme) → argument_at (word w ∷ mark 40 ∷ (view_spelling v ++ mark 41 ∷ rest)) ≡ Some (OneWord w v, rest)
unfolding argument_at one_word_at word_at mark_at
one_again w v rest = inside_again w v (mark 41 ∷ rest) refl ∙ rw (viewed_again v (mark 41 ∷ rest) refl) refl

two_again : (outer inner : List ℕ) (v : Viewed) (rest : List Lexeme) → argument_at (word outer ∷ mark 40 ∷ word inner ∷ mark 40 ∷ (view_spelling v ++ mark 41 ∷ mark 41 ∷ rest)) ≡ Some (TwoWords outer inner v, rest)
unfolding argument_at called_at two_words_at word_at mark_at
two_again outer inner v rest = rw (view_again v (mark 41 ∷ mark 41 ∷ rest) refl) refl

with_pairs_again : (w : List ℕ) (v : Viewed) (p : Pair) (ps : List Pair) (rest : List Lexeme) → argument_at (word w ∷ mark 40 ∷ (view_spelling v ++ (pair_spelling p ++ (flat_map pair_spelling ps ++ mark 41 ∷ rest)))) ≡ Some (WithPairs w v p ps, rest)
unfolding argument_at one_word_at with_pairs_at pair_at word_at mark_at
with_pairs_again w v p ps rest =
    let after = pair_spelling p ++ (flat_map pair_spelling ps ++ mark 41 ∷ rest) in
    inside_again w v after refl ∙ rw (viewed_again v after refl, pairs_again ps rest) refl

argument_again : (a : Argument) (rest : List Lexeme) → Follows rest → argument_at (argument_spelling a ++ rest) ≡ Some (a, rest)
argument_again (Bare v) rest f = bare_again v rest f
argument_again (OneWord w v) rest f = rw (append_assoc (view_spelling v) (mark 41 ∷ []) rest) (one_again w v rest)
argument_again (TwoWords w u v) rest f = rw (append_assoc (view_spelling v) (mark 41 ∷ mark 41 ∷ []) rest) (two_again w u v rest)
argument_again (WithPairs w v p ps) rest f =
    let end = flat_map pair_spelling ps ++ mark 41 ∷ [] in
    rw (append_assoc (view_spelling v) (pair_spelling p ++ end) rest, append_assoc (pair_spelling p) end rest, append_assoc (flat_map pair_spelling ps) (mark 41 ∷ []) rest)
    (with_pairs_again w v p ps rest)

-- an argument begins with a word
record BeginsWithWord (ls : List Lexeme) : Type 0 where
  first : List ℕ
  rest : List Lexeme
  is : ls ≡ word first ∷ rest

first_word : (a : Argument) → BeginsWithWord (argument_spelling a)
first_word (Bare v) = record { first = name_of v; rest = behind_name v; is = begins_with_name v }
first_word (OneWord w v) = record { first = w; rest = _; is = refl }
first_word (TwoWords w u v) = record { first = w; rest = _; is = refl }
first_word (WithPairs w v p ps) = record { first = w; rest = _; is = refl }

follows : (args : List Argument) → Follows (flat_map argument_spelling args ++ [])
unfolding Follows mark_at
follows [] b = refl
follows (a ∷ args) b = rw (first_word a).is refl

-- no argument begins with a number
pub no_scalar : (args : List Argument) → numeral_at (flat_map argument_spelling args) ≡ None
unfolding numeral_at
no_scalar [] = refl
no_scalar (a ∷ args) = rw (first_word a).is refl

goes_on : (a : Argument) (rest : List Lexeme) → no_token (argument_spelling a ++ rest) ≡ false
goes_on a rest = rw (first_word a).is refl

pub arguments_again : (args : List Argument) → arguments_at (flat_map argument_spelling args) ≡ Some args
unfolding arguments_at
arguments_again args =
    let all = many_again argument_spelling no_token argument_at [] (record { ends = refl; goes_on = goes_on; again = λ a more. argument_again a _ (follows more) }) argument_shrinks args in
    ap (λ found. found >>= λ x. Some x.0) (rw (append-nil (flat_map argument_spelling args)) at all)
