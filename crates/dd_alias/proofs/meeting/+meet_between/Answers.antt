use Rattle.std.proofs.Common.{◌+◌, ◌-◌, ◌/◌, ◌<◌, arith}
use Rattle.dd_alias.specs.Lines.{KeepBoth}
use Rattle.dd_alias.proofs.OrderLemmas.{apart_between, in_second_half}
use Rattle.dd_alias.proofs.meeting.+meet_between.Goals as goal

pub returns-then-are_apart_at : goal.returns-then-are_apart_at
returns-then-are_apart_at t c = (
  (λ e. absurd (cc)),
  (λ some.
      let a = c.args.a.now in
      let b = c.args.b.now in
      let last : c.args.end - 1 < c.args.end = omega (arith, c.if-first-end.false) in
      absurd (apart_between a b c.args.rows.now c.args.first some.0 (c.args.end - 1) some.1 (omega (arith, some.2)) (record { one = c.requires.a some.0 some.2; other = c.requires.b some.0 some.2 }) (record { one = c.requires.a (c.args.end - 1) last; other = c.requires.b (c.args.end - 1) last }) (c.are_apart_at.ensures (cc)) some.3)),
)

pub meet_between-requires : goal.meet_between-requires
meet_between-requires t c = (
  omega (arith, c.if-first-end.false),
  (
    (λ u before. c.requires.a u (omega (arith, before, c.if-first-end.false))),
    (λ u before. c.requires.b u (omega (arith, before, c.if-first-end.false))),
  ),
)

pub meet_at-requires-clause-a : goal.meet_at-requires-clause-a
meet_at-requires-clause-a t c = c.requires.a c.args.first (omega (arith, c.if-first-end.false))

pub meet_at-requires-clause-b : goal.meet_at-requires-clause-b
meet_at-requires-clause-b t c = c.requires.b c.args.first (omega (arith, c.if-first-end.false))

pub meet_at-requires-2-clause-a : goal.meet_at-requires-2-clause-a
meet_at-requires-2-clause-a t c = c.requires.a (c.args.end - 1) (omega (arith, c.if-first-end.false))

pub meet_at-requires-2-clause-b : goal.meet_at-requires-2-clause-b
meet_at-requires-2-clause-b t c = c.requires.b (c.args.end - 1) (omega (arith, c.if-first-end.false))

pub are_apart_at-requires-clause-one_a : goal.are_apart_at-requires-clause-one_a
are_apart_at-requires-clause-one_a t c = c.requires.a c.args.first (omega (arith, c.if-first-end.false))

pub are_apart_at-requires-clause-one_b : goal.are_apart_at-requires-clause-one_b
are_apart_at-requires-clause-one_b t c = c.requires.b c.args.first (omega (arith, c.if-first-end.false))

pub are_apart_at-requires-clause-other_a : goal.are_apart_at-requires-clause-other_a
are_apart_at-requires-clause-other_a t c = c.requires.a (c.args.end - 1) (omega (arith, c.if-first-end.false))

pub are_apart_at-requires-clause-other_b : goal.are_apart_at-requires-clause-other_b
are_apart_at-requires-clause-other_b t c = c.requires.b (c.args.end - 1) (omega (arith, c.if-first-end.false))

pub meet_between-requires-2 : goal.meet_between-requires-2
meet_between-requires-2 t c = (
  omega (arith, c.if-first-end.false),
  (
    (λ u before. c.requires.a u (omega (arith, before))),
    (λ u before. c.requires.b u (omega (arith, before))),
  ),
)

pub returns : goal.returns
returns t c = (
  (λ yes.
      let found = c.meet_between-2.ensures.0 yes in
      (found.0, omega (arith, found.1, c.if-first-end.false), omega (arith, found.2), found.3)),
  (λ some.
      let a = c.args.a.now in
      let b = c.args.b.now in
      let rows = c.args.rows.now in
      let middle = c.args.first + (c.args.end - c.args.first) / 2 in
      c.meet_between-2.ensures.1 (in_second_half (λ u. KeepBoth a b rows u) c.args.first middle (c.args.end - 1) some.0 (λ both. let e = c.if-meet_at.ensures.1 both in absurd (cc)) (λ both. let e = c.if-meet_at-2.ensures.1 both in absurd (cc)) (λ u low high both. let e = c.if-meet_between.ensures.1 (u, low, high, both) in absurd (cc)) some.1 (omega (arith, some.2, c.if-first-end.false)) some.3)),
)
