-- The worked script's journal is a whole legal run, entry by entry; in five changes of it the changed entry isn't legal.
use Rattle.std.proofs.Common.{◌≡◌, ◌≢◌, ◌⊎◌, ℕ, zero, suc, ◌<◌, Bool, true, false, eqb, List, [], ◌∷◌, take, drop, Option, Some, None, refl, ap, sym, ◌∙◌, subst, inl, inr, ⊎_elim, arith}
use Rattle.std.proofs.lemmas.Bool.{eqb-true, leb-true, or_cases}
use Rattle.std.proofs.lemmas.List.{take-append-drop}
use Rattle.dd_machine.specs.declared.copy_state.CopyState.{CopyState}
use Rattle.dd_machine.specs.declared.copy_state.CopyState.TheVariants as state
use Rattle.dd_machine.specs.declared.event.Event.TheVariants.{Ask, Rest, Put, Free, Begin, Hold, Pick, Make, Copy, Claim, Finish, Close}
use Rattle.dd_machine.specs.declared.task_state.TaskState.TheVariants.{Waiting, Running, Done}
use Rattle.dd_machine.specs.Effects.{after, fresh, given_back, copy_where}
use Rattle.dd_machine.specs.Legal.{AllDone, May}
use Rattle.dd_machine.specs.Needed.{is_current, is_needed, reads_current}
use Rattle.dd_machine.specs.Runs.{IsLegalRun, start}
use Rattle.dd_machine.specs.States as states
use Rattle.dd_machine.specs.States.{State, at_copy}
use Rattle.dd_machine.specs.Tests.{Has, is_any, is_idle, is_active, is_here, is_in_state, is_leaving, is_lent}
use Rattle.dd_machine.specs.Words.{IsOf, IsOneOf, element, has_number, proc_of}
use Rattle.dd_machine.proofs.ChangesLemmas.{at_copy_other, each_at_copy, at_copy_tells}
use Rattle.dd_machine.proofs.Computing.{computing}
use Rattle.dd_machine.specs.TwoSpaces.{AreRefused, IsWorked, journal, two_spaces}
use Rattle.dd_machine.proofs.RunsLemmas.{run_parts}
use Rattle.dd_machine.proofs.TestsLemmas.{any_finished, pair_same, pin_at, state_finished}
use Rattle.dd_machine.specs.declared.entry.Entry.{Entry}

abbrev s0 : State
s0 = start two_spaces

abbrev s1 : State
s1 = after two_spaces s0 (Ask 1 1)

abbrev s2 : State
s2 = after two_spaces s1 (Put 1)

abbrev s3 : State
s3 = after two_spaces s2 Rest

abbrev s4 : State
s4 = after two_spaces s3 (Ask 2 2)

abbrev s5 : State
s5 = after two_spaces s4 (Put 2)

abbrev s6 : State
s6 = after two_spaces s5 Rest

abbrev s7 : State
s7 = after two_spaces s6 (Begin 1)

abbrev s8 : State
s8 = after two_spaces s7 (Hold 1)

abbrev s9 : State
s9 = after two_spaces s8 (Claim 1 1)

abbrev s10 : State
s10 = after two_spaces s9 (Finish 1)

abbrev s11 : State
s11 = after two_spaces s10 (Hold 2)

abbrev s12 : State
s12 = after two_spaces s11 (Make 2 1)

abbrev s13 : State
s13 = after two_spaces s12 (Copy 2 1 1 2)

abbrev s14 : State
s14 = after two_spaces s13 (Claim 2 1)

abbrev s15 : State
s15 = after two_spaces s14 (Finish 2)

abbrev s16 : State
s16 = after two_spaces s15 (Free 2 1)

abbrev s17 : State
s17 = after two_spaces s16 (Close 1)

abbrev s18 : State
s18 = after two_spaces s17 (Ask 2 2)

one : IsOneOf 2 1
one = (omega arith, omega arith)

two : IsOneOf 2 2
two = (omega arith, omega arith)

pub in_two : (P : ℕ → Type 0) → P 1 → P 2 → (t : ℕ) → IsOneOf 2 t → P t
in_two P p q zero is = absurd (omega (arith, is.0))
in_two P p q (suc zero) is = p
in_two P p q (suc (suc zero)) is = q
in_two P p q (suc (suc (suc t))) is = absurd (omega (arith, is.1))

pub closed : (A : ℕ → Type 0) (r : ℕ) → None ≡ Some r → A r
closed A r e = absurd cc

pub pinned_by : (P : ℕ → ℕ → Type 0) (s b : ℕ) → P s b → (x y : ℕ) → pin_at s b ≡ pin_at x y → P x y
pinned_by P s b p x y e = let h = pair_same s x b y e in subst (λ z. P z y) h.0 (subst (λ z. P s z) h.1 p)

pub open_one : (P : ℕ → Type 0) → P 1 → (r : ℕ) → Some 1 ≡ Some r → P r
open_one P p r e = let h : 1 ≡ r = cc in subst P h p

-- every copy is Here
abbrev NoneIs : (CopyState → Bool) → State → Type 0
NoneIs test st = (s b : ℕ) → is_in_state test (st.copies s b) ≡ false

module _ (test : CopyState → Bool) (h : test state.Here ≡ false) where
  P : ℕ → ℕ → Option states.Copy → Type 0
  P s b c = is_in_state test c ≡ false

  none2 : NoneIs test s2
  unfolding computing P
  none2 = each_at_copy P s1.copies 1 1 (fresh two_spaces 1 0) (λ s b. refl) h

  none5 : NoneIs test s5
  unfolding computing P
  none5 = each_at_copy P s4.copies 2 2 (fresh two_spaces 2 0) none2 h

  none10 : NoneIs test s10
  none10 s b = state_finished two_spaces s9 1 s b test ∙ none5 s b

  none12 : NoneIs test s12
  unfolding computing P
  none12 = each_at_copy P s11.copies 2 1 (fresh two_spaces 1 states.blank) none10 h

  none13 : NoneIs test s13
  unfolding computing P
  none13 = each_at_copy P (at_copy s12.copies 1 1 (given_back (s12.copies 1 1))) 2 1 (copy_where (is_needed two_spaces s12 2 1 1) (λ i. s12.current (element two_spaces 1 i)) (s12.copies 2 1))
      (each_at_copy P s12.copies 1 1 (given_back (s12.copies 1 1)) none12 h) h

  none16 : NoneIs test s16
  unfolding computing P
  none16 = each_at_copy P s15.copies 2 1 None (λ s b. state_finished two_spaces s14 2 s b test ∙ none13 s b) refl

m0 : May two_spaces s0 (Ask 1 1)
unfolding computing
m0 = record { space_is = one; block_is = one; no_pin = refl; due = λ out. refl; all_done = closed _; home = closed _; there = closed _; stale = closed _ }

m1 : May two_spaces s1 (Put 1)
unfolding computing
m1 = record { block_is = one; outside = refl; due = refl; pin = refl; absent = λ s. refl; fits = leb-true 32 4096 refl }

m2 : May two_spaces s2 Rest
unfolding computing
m2 = record { due = λ out. refl; pinned = refl; here = pinned_by (λ s b. Has s2 s b is_here) 1 1 refl; current = λ r s b e. absurd cc; none_leaving = none2 is_leaving refl }

m3 : May two_spaces s3 (Ask 2 2)
unfolding computing
m3 = record { space_is = two; block_is = two; no_pin = refl; due = λ out. refl; all_done = closed _; home = closed _; there = closed _; stale = closed _ }

absent2 : (s : ℕ) → s4.copies s 2 ≡ None
unfolding computing
absent2 s = at_copy_other s1.copies 1 1 (fresh two_spaces 1 0) s 2 (λ same other. omega (arith, other))

m4 : May two_spaces s4 (Put 2)
unfolding computing
m4 = record { block_is = two; outside = refl; due = refl; pin = refl; absent = absent2; fits = leb-true 16 4096 refl }

m5 : May two_spaces s5 Rest
unfolding computing
m5 = record { due = λ out. refl; pinned = refl; here = pinned_by (λ s b. Has s5 s b is_here) 2 2 refl; current = λ r s b e. absurd cc; none_leaving = none5 is_leaving refl }

m6 : May two_spaces s6 (Begin 1)
unfolding computing
m6 = record { no_pin = refl; outside = refl; due = refl }

-- the numbers in a list of one or two
pub only_one : (x b : ℕ) → has_number (x ∷ []) b ≡ true → b ≡ x
only_one x b e = ⊎_elim (λ (h : eqb x b ≡ true). sym (eqb-true x b h)) (λ (h : false ≡ true). absurd cc) (or_cases (eqb x b) false e)

only_two : (x y b : ℕ) → has_number (x ∷ y ∷ []) b ≡ true → (b ≡ x) ⊎ (b ≡ y)
only_two x y b e = ⊎_elim (λ (h : eqb x b ≡ true). inl (sym (eqb-true x b h))) (λ (h : has_number (y ∷ []) b ≡ true). inr (only_one y b h)) (or_cases (eqb x b) (has_number (y ∷ []) b) e)

m7 : May two_spaces s7 (Hold 1)
unfolding computing
m7 = record { task_is = one; of_region = refl; waiting = refl; deps_done = λ d e. absurd cc; alone = in_two (λ t. proc_of two_spaces t ≡ 1 → is_active (s7.tasks t) ≡ false) (λ e. refl) (λ e. refl); room = leb-true 96 4096 refl }

m8 : May two_spaces s8 (Claim 1 1)
unfolding computing
m8 = record {
  held = refl;
  all_here = λ b e. subst (λ x. Has s8 1 x is_here) (sym (only_one 1 b e)) refl;
  all_current = λ b e. subst (λ x. reads_current two_spaces s8 1 x ≡ true) (sym (only_one 1 b e)) refl;
  no_lend = none5 (is_lent (λ t. eqb t 1)) refl;
  worker_is = (omega arith, omega arith);
  worker_free = in_two (λ t. s8.tasks t ≢ Running 1) (λ e. cc) (λ e. cc);
  fits = leb-true 64 4096 refl;
}

m9 : May two_spaces s9 (Finish 1)
unfolding computing
m9 = refl

m10 : May two_spaces s10 (Hold 2)
unfolding computing
m10 = record {
  task_is = two;
  of_region = refl;
  waiting = refl;
  deps_done = λ d e. subst (λ x. s10.tasks x ≡ Done) (sym (only_one 1 d e)) refl;
  alone = in_two (λ t. proc_of two_spaces t ≡ 2 → is_active (s10.tasks t) ≡ false) (λ e. refl) (λ e. refl);
  room = leb-true 112 4096 refl;
}

m11 : May two_spaces s11 (Make 2 1)
unfolding computing
m11 = record { held = refl; touched = refl; absent = refl; fits = leb-true 48 4096 refl }

m12 : May two_spaces s12 (Copy 2 1 1 2)
unfolding computing
m12 = (omega arith, record { source_is = one; block_is = one; asked = refl; here = refl; gives = refl; exact = refl; some_needed = omega arith })

m13 : May two_spaces s13 (Claim 2 1)
unfolding computing
m13 = record {
  held = refl;
  all_here = λ b e. ⊎_elim (λ (h : b ≡ 1). subst (λ x. Has s13 2 x is_here) (sym h) refl) (λ (h : b ≡ 2). subst (λ x. Has s13 2 x is_here) (sym h) refl) (only_two 1 2 b e);
  all_current = λ b e. ⊎_elim (λ (h : b ≡ 1). subst (λ x. reads_current two_spaces s13 2 x ≡ true) (sym h) refl) (λ (h : b ≡ 2). subst (λ x. reads_current two_spaces s13 2 x ≡ true) (sym h) refl) (only_two 1 2 b e);
  no_lend = none13 (is_lent (λ t. eqb t 2)) refl;
  worker_is = (omega arith, omega arith);
  worker_free = in_two (λ t. s13.tasks t ≢ Running 1) (λ e. cc) (λ e. cc);
  fits = leb-true 80 4096 refl;
}

m14 : May two_spaces s14 (Finish 2)
unfolding computing
m14 = refl

done15 : (t : ℕ) → IsOf two_spaces 1 t → s15.tasks t ≡ Done
unfolding computing
done15 t is = in_two (λ x. s15.tasks x ≡ Done) refl refl t is.0

m15 : May two_spaces s15 (Free 2 1)
unfolding computing
m15 = record {
  space_is = two;
  block_is = one;
  idle = refl;
  due = λ out. absurd cc;
  at_home = λ out. absurd cc;
  all_done = open_one (λ r. AllDone two_spaces s15 r) done15;
  no_pin = λ r e. refl;
  elsewhere = λ r e same. omega (arith, same);
  home_there = λ r e. refl;
  home_current = λ r e. refl;
}

-- where there are copies
abbrev Lies : ℕ → ℕ → Type 0
Lies s b = ((s ≡ 1) × (b ≡ 1)) ⊎ ((s ≡ 2) × (b ≡ 2))

Q : ℕ → ℕ → Option states.Copy → Type 0
Q s b c = is_in_state is_any c ≡ true → Lies s b ⊎ ((s ≡ 2) × (b ≡ 1))

lies13 : (s b : ℕ) → Q s b (s13.copies s b)
unfolding computing Q
lies13 = each_at_copy Q (at_copy s12.copies 1 1 (given_back (s12.copies 1 1))) 2 1 (copy_where (is_needed two_spaces s12 2 1 1) (λ i. s12.current (element two_spaces 1 i)) (s12.copies 2 1))
    (each_at_copy Q s12.copies 1 1 (given_back (s12.copies 1 1))
    (each_at_copy Q s11.copies 2 1 (fresh two_spaces 1 states.blank)
    (λ s b there. each_at_copy Q s4.copies 2 2 (fresh two_spaces 2 0) (each_at_copy Q s1.copies 1 1 (fresh two_spaces 1 0) (λ s b e. absurd cc) (λ e. inl (inl (refl, refl)))) (λ e. inl (inr (refl, refl))) s b (sym (any_finished two_spaces s9 1 s b) ∙ there))
    (λ e. inr (refl, refl)))
    (λ e. inl (inl (refl, refl))))
    (λ e. inr (refl, refl))

lies16 : (s b : ℕ) → Has s16 s b is_any → Lies s b
unfolding computing Q
lies16 s b there = ⊎_elim
    (λ (e : (s ≡ 2) × (b ≡ 1) × (at_copy s15.copies 2 1 None s b ≡ None)). absurd (let h : true ≡ false = sym there ∙ ap (is_in_state is_any) e.2 in cc))
    (λ (e : (s ≡ 2 → b ≡ 1 → ⊥) × (at_copy s15.copies 2 1 None s b ≡ s15.copies s b)).
    ⊎_elim (λ (l : Lies s b). l) (λ (l : (s ≡ 2) × (b ≡ 1)). absurd (e.0 l.0 l.1))
    (lies13 s b (sym (any_finished two_spaces s14 2 s b) ∙ ap (is_in_state is_any) (sym e.1) ∙ there)))
    (at_copy_tells s15.copies 2 1 None s b)

by_lies : (R : ℕ → ℕ → Type 0) → R 1 1 → R 2 2 → (s b : ℕ) → Lies s b → R s b
by_lies R p q s b l = ⊎_elim
    (λ (e : (s ≡ 1) × (b ≡ 1)). subst (λ x. R x b) (sym e.0) (subst (λ y. R 1 y) (sym e.1) p))
    (λ (e : (s ≡ 2) × (b ≡ 2)). subst (λ x. R x b) (sym e.0) (subst (λ y. R 2 y) (sym e.1) q))
    l

m16 : May two_spaces s16 (Close 1)
unfolding computing
m16 = record {
  open_is = refl;
  all_done = done15;
  no_pin = refl;
  idle = λ s b there. by_lies (λ x y. Has s16 x y is_idle) refl refl s b (lies16 s b there);
  at_home = λ s b there. by_lies (λ x y. s16.homes y ≡ x) refl refl s b (lies16 s b there);
  current = λ s b there. by_lies (λ x y. is_current two_spaces s16 x y ≡ true) refl refl s b (lies16 s b there);
}

m17 : May two_spaces s17 (Ask 2 2)
unfolding computing
m17 = record { space_is = two; block_is = two; no_pin = refl; due = λ out. refl; all_done = closed _; home = closed _; there = closed _; stale = closed _ }

m18 : May two_spaces s18 Rest
unfolding computing
m18 = record { due = λ out. refl; pinned = refl; here = pinned_by (λ s b. Has s18 s b is_here) 2 2 refl; current = λ r s b e. absurd cc; none_leaving = none16 is_leaving refl }

pub legal_run : IsLegalRun two_spaces journal
unfolding computing
legal_run = ((refl, m0), ((refl, m1), ((refl, m2), ((refl, m3), ((refl, m4), ((refl, m5), ((refl, m6), ((refl, m7), ((refl, m8), ((refl, m9), ((refl, m10), ((refl, m11), ((refl, m12), ((refl, m13), ((refl, m14), ((refl, m15), ((refl, m16), ((refl, m17), ((refl, m18), tt)))))))))))))))))))

-- it is a whole one, and moves two elements
pub worked : IsWorked
unfolding computing
worked = record { whole = (legal_run, refl); moved = refl }

-- ---- changes that aren't legal

-- what comes before them is a legal run
first_of : (n : ℕ) → IsLegalRun two_spaces (take n journal)
first_of n = (run_parts two_spaces (start two_spaces) (take n journal) (drop n journal) (subst (λ (es : List Entry). IsLegalRun two_spaces es) (sym (take-append-drop n journal)) legal_run)).0

-- a Copy that counts the whole block
four_copied : May two_spaces s12 (Copy 2 1 1 4) → ⊥
unfolding computing
four_copied may = let e : 4 ≡ 2 = may.1.exact in omega (arith, e)

-- the second task is held before the first is done
held_early : May two_spaces s7 (Hold 2) → ⊥
unfolding computing
held_early may = let e : Waiting ≡ Done = may.deps_done 1 refl in cc

-- a Claim without the Copy
claimed_early : May two_spaces s12 (Claim 2 1) → ⊥
unfolding computing
claimed_early may = let e : false ≡ true = may.all_current 1 refl in cc

-- a Close with a copy away from home
closed_early : May two_spaces s15 (Close 1) → ⊥
unfolding computing
closed_early may = let e : 1 ≡ 2 = may.at_home 2 1 refl in omega (arith, e)

-- a Pick where the load is small
picked : May two_spaces s3 (Pick 1 1) → ⊥
unfolding computing
picked may = let e : 4096 < 32 = may.over in omega (arith, e)

pub refused : AreRefused
unfolding computing
refused = record {
  whole_block = (first_of 12, four_copied);
  held_early = (first_of 7, held_early);
  not_copied = (first_of 12, claimed_early);
  not_freed = (first_of 15, closed_early);
  not_over = (first_of 3, picked);
}
