-- Lemmas on what was taken of a source: one piece after another.
use Rattle.std.proofs.Common.{◌≡◌, ℕ, ◌+◌, ◌<◌, ◌≤◌, min, List, [], ◌++◌, length, take, drop, Option, sym, ap, ◌∙◌, arith, length-append, length-take, length-take-le, length-drop, take-append-drop}
use Rattle.std.proofs.lemmas.List.{take_at, drop_all}
use Rattle.std.proofs.KnownBytes.{Consumes-trans}
use Rattle.std.specs.Io.KnownBytes.{Consumes}
use Rattle.dd_io.specs.Taken.{TakesExactly, TakesAtMost}

-- two pieces that make so many bytes together
pub exactly_after : (old mid new : Option (List ℕ)) (a b : List ℕ) (count : ℕ) → Consumes old mid a → Consumes mid new b → length a + length b ≡ count → TakesExactly old new count
exactly_after old mid new a b count p q e = record { bytes = a ++ b; taken = Consumes-trans old mid new a b p q; counted = length-append a b ∙ e }

-- two pieces that make no more bytes than that together
pub at_most_after : (old mid new : Option (List ℕ)) (a b : List ℕ) (most : ℕ) → Consumes old mid a → Consumes mid new b → length a + length b ≤ most → TakesAtMost old new most
at_most_after old mid new a b most p q h = record { bytes = a ++ b; taken = Consumes-trans old mid new a b p q; counted = rw length-append h }

-- a read that gave as many bytes as the buffer, the limit of a call and the source allow
pub gives_front : (old new room filled : List ℕ) (most n : ℕ) → 1 ≤ most → n ≡ min (length room) (min most (length old)) → filled ≡ take n old ++ drop n room → new ≡ drop n old → (old ≡ take n filled ++ new) × (n ≡ 0 → 0 < length filled → new ≡ [])
gives_front old new room filled most n some e f g =
    let within : n ≤ length old = omega arith in
    let front : take n filled ≡ take n old = ap (take n) f ∙ take_at (take n old) (drop n room) n (length-take-le n old within) in
    let size : length filled ≡ length room = ap length f ∙ simp (length-append, length-take, length-drop) (omega arith) in
    (sym (take-append-drop n old) ∙ ap (λ l. l ++ drop n old) (sym front) ∙ ap (λ l. take n filled ++ l) (sym g), λ none full. g ∙ drop_all n old (omega arith))
