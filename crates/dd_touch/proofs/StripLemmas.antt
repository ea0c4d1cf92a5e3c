-- The numbers of a span that lie in one strip of an edge, and the rows of a diagonal.
use Rattle.std.proofs.Common.{◌≡◌, ◌≢◌, ℕ, ◌+◌, ◌*◌, ◌-◌, ◌/◌, ◌%◌, ◌<◌, ◌≤◌, min, pos, ◌<ℤ◌, ap, sym, ◌∙◌, ⊎_elim, arith, unsigned_abs}
use Rattle.std.specs.Int.{div_ceil}
use Rattle.std.proofs.Math.Nat.{div-mul-le_self}
use Rattle.std.proofs.lemmas.Bool.Decides.{nat_tests}
use Rattle.std.proofs.lemmas.Nat.{div-add-mod', div-mul-add, mod_below, mul-le}
use Rattle.dd_views.specs.declared.part.Part.TheVariants.{Diag}
use Rattle.dd_views.specs.declared.span3.Span3.{Span3}
use Rattle.dd_views.specs.IndexList.{number_at_place}
use Rattle.dd_views.specs.Span.{IsSmallSpan, IsSpanIn}
use Rattle.dd_views.proofs.ElementsLemmas.{number_low}
use Rattle.dd_views.proofs.SignedLemmas.{size_pos, step_cases}
use Rattle.dd_views.proofs.NumberAtLemmas.{down_at, steps_sum, up_at}
use Rattle.dd_blocks.proofs.PiecesLemmas.{piece_within}
use Rattle.dd_touch.specs.Strips.{AreKept, IsShortSpan, IsSlice}

-- the strip of a number so far beyond another, where there is room for the way in the strip, and where there is not
stays_up : (index way size : ℕ) → 1 ≤ size → way + index % size < size → (index + way) / size ≡ index / size
stays_up index way size some fits =
    let is : index + way ≡ index / size * size + (index % size + way) = omega (arith, div-add-mod' index size) in
    ap (λ (n : ℕ). n / size) is ∙ div-mul-add (index / size) size (index % size + way) (omega arith)

leaves_up : (index way size : ℕ) → 1 ≤ size → size ≤ way + index % size → (index + way) / size ≢ index / size
leaves_up index way size some far same =
    let times : (index + way) / size * size ≡ index / size * size = ap (λ (q : ℕ). q * size) same in
    omega (arith, times, div-add-mod' index size, div-add-mod' (index + way) size, mod_below (index + way) size some, far)

stays_down : (index way size : ℕ) → 1 ≤ size → way ≤ index % size → (index - way) / size ≡ index / size
stays_down index way size some fits =
    let is : index - way ≡ index / size * size + (index % size - way) = omega (arith, div-add-mod' index size, fits) in
    ap (λ (n : ℕ). n / size) is ∙ div-mul-add (index / size) size (index % size - way) (omega (arith, mod_below index size some))

leaves_down : (index way size : ℕ) → 1 ≤ size → way ≤ index → index % size < way → (index - way) / size ≢ index / size
leaves_down index way size some within far same =
    let times : (index - way) / size * size ≡ index / size * size = ap (λ (q : ℕ). q * size) same in
    omega (arith, times, div-add-mod' index size, div-add-mod' (index - way) size, within, far)

-- the numbers behind one of a span, by its way from this one
behind_up : (s : Span3) (index place i : ℕ) → pos 0 <ℤ s.step → IsSmallSpan s → 1 ≤ place → place ≤ i → i ≤ s.count → index + 1 ≡ number_at_place s place → number_at_place s i - 1 ≡ index + (i - place) * unsigned_abs s.step
behind_up s index place i up small low le high is =
    omega (arith, is, up_at s place up small low (omega arith), up_at s i up small (omega arith) high, steps_sum (i - place) (place - 1) (i - 1) (unsigned_abs s.step) (omega arith))

behind_down : (s : Span3) (index place i : ℕ) → s.step <ℤ pos 0 → IsSmallSpan s → 1 ≤ place → place ≤ i → i ≤ s.count → index + 1 ≡ number_at_place s place → (number_at_place s i - 1 ≡ index - (i - place) * unsigned_abs s.step) × ((i - place) * unsigned_abs s.step ≤ index)
behind_down s index place i down small low le high is =
    let last = number_low small.0 s i small.2 (omega arith) high in
    let there = down_at s i down small (omega arith) high in
    let here = down_at s place down small low (omega arith) in
    let sum = steps_sum (i - place) (place - 1) (i - 1) (unsigned_abs s.step) (omega arith) in
    (omega (arith, is, here, there, sum, last.0), omega (arith, is, here, there, sum, last.0))

-- as many steps as there is room for, and no more
few_steps : (n room stride : ℕ) → n ≤ room / stride → n * stride ≤ room
few_steps n room stride le = omega (arith, mul-le n stride (room / stride) stride le (omega arith), div-mul-le_self room stride)

many_steps : (n room stride : ℕ) → 0 < stride → room / stride < n → room < n * stride
many_steps n room stride some lt =
    omega (arith, mul-le (room / stride + 1) stride n stride (omega arith) (omega arith), div-add-mod' room stride, mod_below room stride some)

-- what a walk knows of where it stands: the number behind the index is at the place
pub record StandsAt (s : Span3) (size index place : ℕ) : Type 0 where
  pub span : IsShortSpan s
  pub some : 1 ≤ size
  pub low : 1 ≤ place
  pub high : place ≤ s.count
  pub number : index + 1 ≡ number_at_place s place

small_span : (s : Span3) → IsShortSpan s → IsSmallSpan s
small_span s short = (short.0, omega (arith, short.1), short.2)

within : (s : Span3) (size index place length : ℕ) → StandsAt s size index place → IsSpanIn length s → index / size < div_ceil length size
within s size index place length at span =
    piece_within length size index at.some (omega (arith, at.number, (number_low length s place span at.low at.high).1))

pub slice_up : (s : Span3) (size index place room stride : ℕ) → StandsAt s size index place → pos 0 <ℤ s.step → stride ≡ unsigned_abs s.step → room + index % size + 1 ≡ size → IsSlice s size place (index / size) (min (place + room / stride) s.count + 1)
slice_up s size index place room stride at up step fits =
    let small = small_span s at.span in
    let moves : 0 < stride = rw step (size_pos s.step small.2.steps) in
    record {
      some = omega (arith, at.high);
      last = omega arith;
      each = λ i low lt.
          let is : number_at_place s i - 1 ≡ index + (i - place) * stride = rw step (behind_up s index place i up small at.low low (omega arith) at.number) in
          ap (λ (n : ℕ). n / size) is ∙ stays_up index ((i - place) * stride) size at.some (omega (arith, fits, few_steps (i - place) room stride (omega arith)));
      next = λ more same.
          let end : ℕ = min (place + room / stride) s.count + 1 in
          let is : number_at_place s end - 1 ≡ index + (end - place) * stride = behind_up s index place end up small at.low (omega (arith, at.high)) more at.number ∙ ap (λ (k : ℕ). index + (end - place) * k) (sym step) in
          leaves_up index ((end - place) * stride) size at.some (omega (arith, fits, many_steps (end - place) room stride moves (omega (arith, more)))) (sym (ap (λ (n : ℕ). n / size) is) ∙ same);
      fits = λ length span. within s size index place length at span;
    }

pub slice_down : (s : Span3) (size index place room stride : ℕ) → StandsAt s size index place → s.step <ℤ pos 0 → stride ≡ unsigned_abs s.step → room ≡ index % size → IsSlice s size place (index / size) (min (place + room / stride) s.count + 1)
slice_down s size index place room stride at down step fits =
    let small = small_span s at.span in
    let moves : 0 < stride = rw step (size_pos s.step small.2.steps) in
    record {
      some = omega (arith, at.high);
      last = omega arith;
      each = λ i low lt.
          let is : number_at_place s i - 1 ≡ index - (i - place) * stride = rw step (behind_down s index place i down small at.low low (omega arith) at.number).0 in
          ap (λ (n : ℕ). n / size) is ∙ stays_down index ((i - place) * stride) size at.some (omega (arith, fits, few_steps (i - place) room stride (omega arith)));
      next = λ more same.
          let end : ℕ = min (place + room / stride) s.count + 1 in
          let behind = behind_down s index place end down small at.low (omega (arith, at.high)) more at.number in
          let is : number_at_place s end - 1 ≡ index - (end - place) * stride = behind.0 ∙ ap (λ (k : ℕ). index - (end - place) * k) (sym step) in
          let le : (end - place) * stride ≤ index = omega (arith, behind.1, ap (λ (k : ℕ). (end - place) * k) step) in
          leaves_down index ((end - place) * stride) size at.some le (omega (arith, fits, many_steps (end - place) room stride moves (omega (arith, more)))) (sym (ap (λ (n : ℕ). n / size) is) ∙ same);
      fits = λ length span. within s size index place length at span;
    }

pub slice_is : (s : Span3) (size index place room stride : ℕ) → StandsAt s size index place → stride ≡ unsigned_abs s.step → (pos 0 <ℤ s.step → room + index % size + 1 ≡ size) → (s.step <ℤ pos 0 → room ≡ index % size) → IsSlice s size place (index / size) (min (place + room / stride) s.count + 1)
slice_is s size index place room stride at step rise fall = ⊎_elim
    (λ (up : pos 0 <ℤ s.step). slice_up s size index place room stride at up step (rise up))
    (λ (down : s.step <ℤ pos 0). slice_down s size index place room stride at down step (fall down))
    (step_cases s.step at.span.2.steps)

-- the rows on the diagonal stand at the places of their columns
pub kept_diag : (first last rows : ℕ) → 1 ≤ first → first < last → last ≤ rows + 1 → AreKept Diag first last rows first last
kept_diag first last rows above some within = record {
  some = above;
  order = omega arith;
  end = within;
  exact = λ i low high. ((λ between. (i, between.0, between.1, grind (arith, nat_tests))), (λ has. (grind (arith, nat_tests), grind (arith, nat_tests))));
}
