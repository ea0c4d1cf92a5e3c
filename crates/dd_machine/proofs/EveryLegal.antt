-- The journal with every event is a whole legal run, entry by entry.
use Rattle.std.proofs.Common.{◌≡◌, ◌≢◌, ℕ, zero, suc, Bool, true, false, eqb, Option, None, refl, sym, ◌∙◌, subst, ⊎_elim, arith}
use Rattle.std.proofs.lemmas.Bool.{cases_Bool, leb-true, ltb-true}
use Rattle.dd_machine.specs.declared.copy_state.CopyState.{CopyState}
use Rattle.dd_machine.specs.declared.copy_state.CopyState.TheVariants as state
use Rattle.dd_machine.specs.declared.event.Event.TheVariants.{Ask, Rest, Put, Shift, Free, Begin, Hold, Pick, Gone, Make, Call, Come, Lend, Copy, Claim, Finish, Back, Close}
use Rattle.dd_machine.specs.declared.task_state.TaskState.TheVariants.{Running, Done}
use Rattle.dd_machine.specs.Effects.{after, copy_where, fresh, given_back, in_state}
use Rattle.dd_machine.specs.Legal.{AllDone, May}
use Rattle.dd_machine.specs.Needed.{is_current, is_needed, reads_current}
use Rattle.dd_machine.specs.Runs.{IsLegalRun, IsWholeRun, start}
use Rattle.dd_machine.specs.States as states
use Rattle.dd_machine.specs.States.{State, at_copy}
use Rattle.dd_machine.specs.Tests.{Has, is_any, is_active, is_here, is_idle, is_in_state, is_leaving, is_lent}
use Rattle.dd_machine.specs.Words.{IsOf, IsOneOf, element, proc_of}
use Rattle.dd_machine.proofs.ChangesLemmas.{at_copy_other, each_at_copy}
use Rattle.dd_machine.proofs.Computing.{computing}
use Rattle.dd_machine.proofs.EveryPlan.{every_event, three_rows}
use Rattle.dd_machine.proofs.RowLegal.{closed, in_two, only_one, open_one, pinned_by}
use Rattle.dd_machine.proofs.TestsLemmas.{any_finished, passes_any}

abbrev e0 : State
e0 = start three_rows

abbrev e1 : State
e1 = after three_rows e0 (Ask 1 1)

abbrev e2 : State
e2 = after three_rows e1 (Put 1)

abbrev e3 : State
e3 = after three_rows e2 Rest

abbrev e4 : State
e4 = after three_rows e3 (Ask 2 2)

abbrev e5 : State
e5 = after three_rows e4 (Put 2)

abbrev e6 : State
e6 = after three_rows e5 Rest

abbrev e7 : State
e7 = after three_rows e6 (Ask 1 3)

abbrev e8 : State
e8 = after three_rows e7 (Put 3)

abbrev e9 : State
e9 = after three_rows e8 Rest

abbrev e10 : State
e10 = after three_rows e9 (Ask 1 2)

abbrev e11 : State
e11 = after three_rows e10 (Shift 2 1)

abbrev e12 : State
e12 = after three_rows e11 Rest

abbrev e13 : State
e13 = after three_rows e12 (Begin 1)

abbrev e14 : State
e14 = after three_rows e13 (Hold 1)

abbrev e15 : State
e15 = after three_rows e14 (Pick 1 1)

abbrev e16 : State
e16 = after three_rows e15 (Gone 1 1)

abbrev e17 : State
e17 = after three_rows e16 (Claim 1 1)

abbrev e18 : State
e18 = after three_rows e17 (Hold 2)

abbrev e19 : State
e19 = after three_rows e18 (Make 2 1)

abbrev e20 : State
e20 = after three_rows e19 (Lend 2 1 1)

abbrev e21 : State
e21 = after three_rows e20 (Copy 2 1 1 2)

abbrev e22 : State
e22 = after three_rows e21 (Claim 2 2)

abbrev e23 : State
e23 = after three_rows e22 (Finish 1)

abbrev e24 : State
e24 = after three_rows e23 (Finish 2)

abbrev e25 : State
e25 = after three_rows e24 (Ask 1 1)

abbrev e26 : State
e26 = after three_rows e25 (Call 1 1)

abbrev e27 : State
e27 = after three_rows e26 (Come 1 1)

abbrev e28 : State
e28 = after three_rows e27 (Back 1 2 2)

abbrev e29 : State
e29 = after three_rows e28 Rest

abbrev e30 : State
e30 = after three_rows e29 (Free 2 1)

abbrev e31 : State
e31 = after three_rows e30 (Close 1)

abbrev e32 : State
e32 = after three_rows e31 (Ask 1 1)

abbrev e33 : State
e33 = after three_rows e32 Rest

one : IsOneOf 2 1
one = (omega arith, omega arith)

two : IsOneOf 2 2
two = (omega arith, omega arith)

first : IsOneOf 3 1
first = (omega arith, omega arith)

second : IsOneOf 3 2
second = (omega arith, omega arith)

third : IsOneOf 3 3
third = (omega arith, omega arith)

in_three : (P : ℕ → Type 0) → P 1 → P 2 → P 3 → (t : ℕ) → IsOneOf 3 t → P t
in_three P p q r zero is = absurd (omega (arith, is.0))
in_three P p q r (suc zero) is = p
in_three P p q r (suc (suc zero)) is = q
in_three P p q r (suc (suc (suc zero))) is = r
in_three P p q r (suc (suc (suc (suc t)))) is = absurd (omega (arith, is.1))

-- ---- the copies are of the two spaces and the three blocks

W : ℕ → ℕ → Option states.Copy → Type 0
W s b c = is_in_state is_any c ≡ true → IsOneOf 2 s × IsOneOf 3 b

abbrev In : State → Type 0
In st = (s b : ℕ) → Has st s b is_any → IsOneOf 2 s × IsOneOf 3 b

put_in : (copies : ℕ → ℕ → Option states.Copy) (s b : ℕ) (c : Option states.Copy) → IsOneOf 2 s → IsOneOf 3 b
    → ((x y : ℕ) → is_in_state is_any (copies x y) ≡ true → IsOneOf 2 x × IsOneOf 3 y)
    → (x y : ℕ) → is_in_state is_any (at_copy copies s b c x y) ≡ true → IsOneOf 2 x × IsOneOf 3 y
unfolding W
put_in copies s b c s_is b_is old = each_at_copy W copies s b c old (λ e. (s_is, b_is))

ranged : (st : State) → In st → (R : ℕ → ℕ → Type 0) → (Has st 1 1 is_any → R 1 1) → (Has st 1 2 is_any → R 1 2) → (Has st 1 3 is_any → R 1 3)
    → (Has st 2 1 is_any → R 2 1) → (Has st 2 2 is_any → R 2 2) → (Has st 2 3 is_any → R 2 3) → (s b : ℕ) → Has st s b is_any → R s b
ranged st within R a b c d e f x y has =
    let known = within x y has in
    in_two (λ s. (k : ℕ) → IsOneOf 3 k → Has st s k is_any → R s k)
    (in_three (λ k. Has st 1 k is_any → R 1 k) a b c)
    (in_three (λ k. Has st 2 k is_any → R 2 k) d e f)
    x known.0 y known.1 has

-- no copy meets a test that none of the six meets
none_by : (st : State) (test : CopyState → Bool) → In st → is_in_state test (st.copies 1 1) ≡ false → is_in_state test (st.copies 1 2) ≡ false → is_in_state test (st.copies 1 3) ≡ false
    → is_in_state test (st.copies 2 1) ≡ false → is_in_state test (st.copies 2 2) ≡ false → is_in_state test (st.copies 2 3) ≡ false → (s b : ℕ) → is_in_state test (st.copies s b) ≡ false
none_by st test within a b c d e f x y = ⊎_elim
    (λ (on : is_in_state test (st.copies x y) ≡ true).
    ranged st within (λ s k. is_in_state test (st.copies s k) ≡ false) (λ h. a) (λ h. b) (λ h. c) (λ h. d) (λ h. e) (λ h. f) x y (passes_any test (st.copies x y) on))
    (λ (off : is_in_state test (st.copies x y) ≡ false). off)
    (cases_Bool (is_in_state test (st.copies x y)))

w2 : In e2
unfolding computing
w2 = put_in e1.copies 1 1 (fresh three_rows 1 0) one first (λ s b has. absurd cc)

w5 : In e5
unfolding computing
w5 = put_in e4.copies 2 2 (fresh three_rows 2 0) two second w2

w8 : In e8
unfolding computing
w8 = put_in e7.copies 1 3 (fresh three_rows 3 0) one third w5

w11 : In e11
unfolding computing
w11 = put_in (at_copy e10.copies 2 2 None) 1 2 (in_state state.Here (e10.copies 2 2)) one second (put_in e10.copies 2 2 None two second w8)

w15 : In e15
unfolding computing
w15 = put_in e14.copies 1 1 (in_state state.Leaving (e14.copies 1 1)) one first w11

w16 : In e16
unfolding computing
w16 = put_in e15.copies 1 1 (in_state state.Out (e15.copies 1 1)) one first w15

w19 : In e19
unfolding computing
w19 = put_in e18.copies 2 1 (fresh three_rows 1 states.blank) two first w16

w20 : In e20
unfolding computing
w20 = put_in e19.copies 1 1 (in_state (state.Lent 2) (e19.copies 1 1)) one first w19

w21 : In e21
unfolding computing
w21 = put_in (at_copy e20.copies 1 1 (given_back (e20.copies 1 1))) 2 1 (copy_where (is_needed three_rows e20 2 1 1) (λ i. e20.current (element three_rows 1 i)) (e20.copies 2 1)) two first
    (put_in e20.copies 1 1 (given_back (e20.copies 1 1)) one first w20)

w23 : In e23
w23 s b has = w21 s b (sym (any_finished three_rows e22 1 s b) ∙ has)

w24 : In e24
w24 s b has = w23 s b (sym (any_finished three_rows e23 2 s b) ∙ has)

w26 : In e26
unfolding computing
w26 = put_in e25.copies 1 1 (in_state state.Coming (e25.copies 1 1)) one first w24

w27 : In e27
unfolding computing
w27 = put_in e26.copies 1 1 (in_state state.Here (e26.copies 1 1)) one first w26

w28 : In e28
unfolding computing
w28 = put_in (at_copy e27.copies 2 1 (given_back (e27.copies 2 1))) 1 1 (copy_where (is_needed three_rows e27 0 1 2) (λ i. e27.current (element three_rows 1 i)) (e27.copies 1 1)) one first
    (put_in e27.copies 2 1 (given_back (e27.copies 2 1)) two first w27)

w30 : In e30
unfolding computing
w30 = put_in e29.copies 2 1 None two first w28

same_worker : (v w : ℕ) → Running v ≡ Running w → v ≡ w
same_worker v w e = cc

-- ---- each entry is legal

m0 : May three_rows e0 (Ask 1 1)
unfolding computing
m0 = record { space_is = one; block_is = first; no_pin = refl; due = λ out. refl; all_done = closed _; home = closed _; there = closed _; stale = closed _ }

m1 : May three_rows e1 (Put 1)
unfolding computing
m1 = record { block_is = first; outside = refl; due = refl; pin = refl; absent = λ s. refl; fits = leb-true 16 64 refl }

m2 : May three_rows e2 Rest
unfolding computing
m2 = record { due = λ out. refl; pinned = refl; here = pinned_by (λ s b. Has e2 s b is_here) 1 1 refl; current = λ r s b e. absurd cc; none_leaving = none_by e2 is_leaving w2 refl refl refl refl refl refl }

m3 : May three_rows e3 (Ask 2 2)
unfolding computing
m3 = record { space_is = two; block_is = second; no_pin = refl; due = λ out. refl; all_done = closed _; home = closed _; there = closed _; stale = closed _ }

absent4 : (s : ℕ) → e4.copies s 2 ≡ None
unfolding computing
absent4 s = at_copy_other e1.copies 1 1 (fresh three_rows 1 0) s 2 (λ same other. omega (arith, other))

m4 : May three_rows e4 (Put 2)
unfolding computing
m4 = record { block_is = second; outside = refl; due = refl; pin = refl; absent = absent4; fits = leb-true 16 64 refl }

m5 : May three_rows e5 Rest
unfolding computing
m5 = record { due = λ out. refl; pinned = refl; here = pinned_by (λ s b. Has e5 s b is_here) 2 2 refl; current = λ r s b e. absurd cc; none_leaving = none_by e5 is_leaving w5 refl refl refl refl refl refl }

m6 : May three_rows e6 (Ask 1 3)
unfolding computing
m6 = record { space_is = one; block_is = third; no_pin = refl; due = λ out. refl; all_done = closed _; home = closed _; there = closed _; stale = closed _ }

absent7 : (s : ℕ) → e7.copies s 3 ≡ None
unfolding computing
absent7 s = at_copy_other e4.copies 2 2 (fresh three_rows 2 0) s 3 (λ same other. omega (arith, other)) ∙ at_copy_other e1.copies 1 1 (fresh three_rows 1 0) s 3 (λ same other. omega (arith, other))

m7 : May three_rows e7 (Put 3)
unfolding computing
m7 = record { block_is = third; outside = refl; due = refl; pin = refl; absent = absent7; fits = leb-true 32 64 refl }

m8 : May three_rows e8 Rest
unfolding computing
m8 = record { due = λ out. refl; pinned = refl; here = pinned_by (λ s b. Has e8 s b is_here) 1 3 refl; current = λ r s b e. absurd cc; none_leaving = none_by e8 is_leaving w8 refl refl refl refl refl refl }

m9 : May three_rows e9 (Ask 1 2)
unfolding computing
m9 = record { space_is = one; block_is = second; no_pin = refl; due = λ out. refl; all_done = closed _; home = closed _; there = closed _; stale = closed _ }

m10 : May three_rows e10 (Shift 2 1)
unfolding computing
m10 = record { block_is = second; space_is = one; outside = refl; due = refl; pin = refl; elsewhere = λ same. omega (arith, same); idle = refl; fits = leb-true 48 64 refl }

m11 : May three_rows e11 Rest
unfolding computing
m11 = record { due = λ out. refl; pinned = refl; here = pinned_by (λ s b. Has e11 s b is_here) 1 2 refl; current = λ r s b e. absurd cc; none_leaving = none_by e11 is_leaving w11 refl refl refl refl refl refl }

m12 : May three_rows e12 (Begin 1)
unfolding computing
m12 = record { no_pin = refl; outside = refl; due = refl }

m13 : May three_rows e13 (Hold 1)
unfolding computing
m13 = record { task_is = one; of_region = refl; waiting = refl; deps_done = λ d e. absurd cc; alone = in_two (λ t. proc_of three_rows t ≡ 1 → is_active (e13.tasks t) ≡ false) (λ e. refl) (λ e. refl); room = leb-true 48 64 refl }

m14 : May three_rows e14 (Pick 1 1)
unfolding computing
m14 = record { space_is = one; over = ltb-true 64 80 refl; is_victim = refl }

m15 : May three_rows e15 (Gone 1 1)
unfolding computing
m15 = record { space_is = one; block_is = first; leaving = refl }

m16 : May three_rows e16 (Claim 1 1)
unfolding computing
m16 = record {
  held = refl;
  all_here = λ b e. subst (λ x. Has e16 1 x is_here) (sym (only_one 3 b e)) refl;
  all_current = λ b e. subst (λ x. reads_current three_rows e16 1 x ≡ true) (sym (only_one 3 b e)) refl;
  no_lend = none_by e16 (is_lent (λ t. eqb t 1)) w16 refl refl refl refl refl refl;
  worker_is = (omega arith, omega arith);
  worker_free = in_two (λ t. e16.tasks t ≢ Running 1) (λ e. cc) (λ e. cc);
  fits = leb-true 48 64 refl;
}

m17 : May three_rows e17 (Hold 2)
unfolding computing
m17 = record { task_is = two; of_region = refl; waiting = refl; deps_done = λ d e. absurd cc; alone = in_two (λ t. proc_of three_rows t ≡ 2 → is_active (e17.tasks t) ≡ false) (λ e. absurd (omega (arith, e))) (λ e. refl); room = leb-true 48 64 refl }

m18 : May three_rows e18 (Make 2 1)
unfolding computing
m18 = record { held = refl; touched = refl; absent = refl; fits = leb-true 16 64 refl }

m19 : May three_rows e19 (Lend 2 1 1)
unfolding computing
m19 = record {
  source_is = one;
  block_is = first;
  asked = refl;
  here = refl;
  no_lend = none_by e19 (is_lent (λ t. eqb t 2)) w19 refl refl refl refl refl refl;
  out = refl;
  some_needed = ltb-true 0 2 refl;
  fits = leb-true 32 64 refl;
}

m20 : May three_rows e20 (Copy 2 1 1 2)
unfolding computing
m20 = (omega arith, record { source_is = one; block_is = first; asked = refl; here = refl; gives = refl; exact = refl; some_needed = omega arith })

m21 : May three_rows e21 (Claim 2 2)
unfolding computing
m21 = record {
  held = refl;
  all_here = λ b e. subst (λ x. Has e21 2 x is_here) (sym (only_one 1 b e)) refl;
  all_current = λ b e. subst (λ x. reads_current three_rows e21 2 x ≡ true) (sym (only_one 1 b e)) refl;
  no_lend = none_by e21 (is_lent (λ t. eqb t 2)) w21 refl refl refl refl refl refl;
  worker_is = (omega arith, omega arith);
  worker_free = in_two (λ t. e21.tasks t ≢ Running 2) (λ e. let h = same_worker 1 2 e in omega (arith, h)) (λ e. cc);
  fits = leb-true 32 64 refl;
}

m22 : May three_rows e22 (Finish 1)
unfolding computing
m22 = refl

m23 : May three_rows e23 (Finish 2)
unfolding computing
m23 = refl

done24 : (t : ℕ) → IsOf three_rows 1 t → e24.tasks t ≡ Done
unfolding computing
done24 t is = in_two (λ x. e24.tasks x ≡ Done) refl refl t is.0

m24 : May three_rows e24 (Ask 1 1)
unfolding computing
m24 = record { space_is = one; block_is = first; no_pin = refl; due = λ out. absurd cc; all_done = open_one (λ r. AllDone three_rows e24 r) done24; home = λ r e. refl; there = λ r e. refl; stale = λ r e. refl }

m25 : May three_rows e25 (Call 1 1)
unfolding computing
m25 = record { space_is = one; block_is = first; out = refl; pinned = refl; fits = leb-true 48 64 refl }

m26 : May three_rows e26 (Come 1 1)
unfolding computing
m26 = record { space_is = one; block_is = first; coming = refl }

m27 : May three_rows e27 (Back 1 2 2)
unfolding computing
m27 = record { source_is = two; block_is = first; asked = (refl, refl); here = refl; gives = refl; exact = refl; some_needed = omega arith }

m28 : May three_rows e28 Rest
unfolding computing
m28 = record {
  due = λ out. absurd cc;
  pinned = refl;
  here = pinned_by (λ s b. Has e28 s b is_here) 1 1 refl;
  current = λ r s b o e. pinned_by (λ x y. is_current three_rows e28 x y ≡ true) 1 1 refl s b e;
  none_leaving = none_by e28 is_leaving w28 refl refl refl refl refl refl;
}

m29 : May three_rows e29 (Free 2 1)
unfolding computing
m29 = record {
  space_is = two;
  block_is = first;
  idle = refl;
  due = λ out. absurd cc;
  at_home = λ out. absurd cc;
  all_done = open_one (λ r. AllDone three_rows e29 r) done24;
  no_pin = λ r e. refl;
  elsewhere = λ r e same. omega (arith, same);
  home_there = λ r e. refl;
  home_current = λ r e. refl;
}

m30 : May three_rows e30 (Close 1)
unfolding computing
m30 = record {
  open_is = refl;
  all_done = done24;
  no_pin = refl;
  idle = ranged e30 w30 (λ s b. Has e30 s b is_idle) (λ h. refl) (λ h. refl) (λ h. refl) (λ h. absurd cc) (λ h. absurd cc) (λ h. absurd cc);
  at_home = ranged e30 w30 (λ s b. e30.homes b ≡ s) (λ h. refl) (λ h. refl) (λ h. refl) (λ h. absurd cc) (λ h. absurd cc) (λ h. absurd cc);
  current = ranged e30 w30 (λ s b. is_current three_rows e30 s b ≡ true) (λ h. refl) (λ h. refl) (λ h. refl) (λ h. absurd cc) (λ h. absurd cc) (λ h. absurd cc);
}

m31 : May three_rows e31 (Ask 1 1)
unfolding computing
m31 = record { space_is = one; block_is = first; no_pin = refl; due = λ out. refl; all_done = closed _; home = closed _; there = closed _; stale = closed _ }

m32 : May three_rows e32 Rest
unfolding computing
m32 = record { due = λ out. refl; pinned = refl; here = pinned_by (λ s b. Has e32 s b is_here) 1 1 refl; current = λ r s b e. absurd cc; none_leaving = none_by e32 is_leaving w30 refl refl refl refl refl refl }

legal_run : IsLegalRun three_rows every_event
unfolding computing
legal_run = ((refl, m0), ((refl, m1), ((refl, m2), ((refl, m3), ((refl, m4), ((refl, m5), ((refl, m6), ((refl, m7), ((refl, m8), ((refl, m9), ((refl, m10), ((refl, m11), ((refl, m12), ((refl, m13), ((refl, m14), ((refl, m15), ((refl, m16), ((refl, m17), ((refl, m18), ((refl, m19), ((refl, m20), ((refl, m21), ((refl, m22), ((refl, m23), ((refl, m24), ((refl, m25), ((refl, m26), ((refl, m27), ((refl, m28), ((refl, m29), ((refl, m30), ((refl, m31), ((refl, m32), tt)))))))))))))))))))))))))))))))))

pub whole_run : IsWholeRun three_rows every_event
unfolding computing
whole_run = (legal_run, refl)
