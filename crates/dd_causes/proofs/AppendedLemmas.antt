-- Lemmas on appended text: one call after another, and a fault in the middle.
use Rattle.std.proofs.Common.{◌≡◌, ℕ, List, [], ◌++◌, Option, None, Some, refl, sym, ◌∙◌, ap}
use Rattle.std.proofs.lemmas.List.{append-nil, append_assoc}
use Rattle.std.specs.Io.KnownBytes.{Appends}
use Rattle.dd_causes.specs.Appended.{AppendsAllBut, AppendsFront}

-- nothing was appended
pub appends_nothing : (old : Option (List ℕ)) → Appends old old []
appends_nothing None = tt
appends_nothing (Some xs) = sym (append-nil xs)

-- one piece after another
pub appends_then : (old mid new : Option (List ℕ)) (a b : List ℕ) → Appends old mid a → Appends mid new b → Appends old new (a ++ b)
appends_then None mid new a b p q = tt
appends_then (Some xs) None new a b p q = absurd p
appends_then (Some xs) (Some ys) None a b p q = q
appends_then (Some xs) (Some ys) (Some zs) a b p q = q ∙ ap (λ l. l ++ b) p ∙ append_assoc xs a b

-- at the start all is left
pub all_but_start : (old : Option (List ℕ)) (whole : List ℕ) → AppendsAllBut old old whole whole
all_but_start old whole = record { done = []; split = refl; grown = appends_nothing old }

-- one piece more of what is left
pub all_but_more : {old mid new : Option (List ℕ)} {left whole : List ℕ} → AppendsAllBut old mid left whole → (piece rest : List ℕ) → left ≡ piece ++ rest → Appends mid new piece → AppendsAllBut old new rest whole
all_but_more {old} {mid} {new} f piece rest e q = record {
  done = f.done ++ piece;
  split = f.split ∙ ap (λ l. f.done ++ l) e ∙ sym (append_assoc f.done piece rest);
  grown = appends_then old mid new f.done piece f.grown q;
}

-- a fault in the middle of a piece of what is left
pub front_in_piece : {old mid new : Option (List ℕ)} {left whole : List ℕ} → AppendsAllBut old mid left whole → (piece rest : List ℕ) → left ≡ piece ++ rest → AppendsFront mid new piece → AppendsFront old new whole
front_in_piece f piece rest e g = record {
  left = g.left ++ rest;
  front = all_but_more f g.front.done (g.left ++ rest) (e ∙ ap (λ l. l ++ rest) g.front.split ∙ append_assoc g.front.done g.left rest) g.front.grown;
}

-- nothing is a front
pub front_from_none : (old new : Option (List ℕ)) (whole : List ℕ) → Appends old new [] → AppendsFront old new whole
front_from_none old new whole k = record { left = whole; front = record { done = []; split = refl; grown = k } }

-- nothing was appended where the text is as it was
pub front_untouched : (old : Option (List ℕ)) (whole : List ℕ) → AppendsFront old old whole
front_untouched old whole = front_from_none old old whole (appends_nothing old)
