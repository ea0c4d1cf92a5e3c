use Rattle.std.proofs.Common.{refl, inl, inr, ◌≡◌}
use Rattle.dd_kernels.specs.Names.{name_of}
use Rattle.dd_check.proofs.ArgumentLemmas.{right_count, right_modes, right_word, wrong_count, wrong_modes}
use Rattle.dd_check.proofs.GroupLemmas.{no, untrue, yes}
use Rattle.dd_check.proofs.kinds.kernel_of.Goals as goal

pub returns-then-not-has_right_count : goal.returns-then-not-has_right_count
returns-then-not-has_right_count c = λ s.
    let is : c.args.kernel.now ≡ name_of c.in-Some.k = rw (← c.as_bytes.ensures) ((c.in-Some.ensures c.in-Some.k).0 refl) in
    record {
      line = refl;
      first = inr (no (right_word c.args.kernel.now c.args.scalar c.args.pieces.now _ is), inl (refl, wrong_count _ _ _ _ _ _ is (untrue c.if-not-has_right_count.ensures) c.given.ensures c.wanted.ensures));
    }

pub returns-then-not-has_right_modes : goal.returns-then-not-has_right_modes
returns-then-not-has_right_modes c = λ s.
    let is : c.args.kernel.now ≡ name_of c.in-Some.k = rw (← c.as_bytes.ensures) ((c.in-Some.ensures c.in-Some.k).0 refl) in
    let right = c.if-not-has_right_count.ensures.0 refl in
    rw c.plain-then-not-has_right_modes.ensures
    (record {
      line = refl;
      first = inr (no (right_word c.args.kernel.now c.args.scalar c.args.pieces.now _ is), inr (right_count _ _ _ _ is right.0 right.1, inl (refl, yes (wrong_modes c.args.kernel.now c.args.scalar _ _ is (untrue c.if-not-has_right_modes.ensures)))));
    })

pub returns : goal.returns
returns c = λ s.
    let is : c.args.kernel.now ≡ name_of c.in-Some.k = rw (← c.as_bytes.ensures) ((c.in-Some.ensures c.in-Some.k).0 refl) in
    let right = c.if-not-has_right_count.ensures.0 refl in
    let modes = c.if-not-has_right_modes.ensures.0 refl in
    record {
      kernel = is;
      count = right.1;
      modes = modes;
      scalar_given = right.0;
      clear = (no (right_word c.args.kernel.now c.args.scalar c.args.pieces.now _ is), (right_count _ _ _ _ is right.0 right.1, (no (right_modes c.args.kernel.now c.args.scalar c.args.pieces.now _ is modes), tt)));
    }
