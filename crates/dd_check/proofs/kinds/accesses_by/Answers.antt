use Rattle.std.proofs.Common.{refl, inl, inr}
use Rattle.std.proofs.lemmas.List.Elements.{All-weaker}
use Rattle.dd_blocks.specs.declared.access_row.AccessRow.{AccessRow}
use Rattle.dd_check.specs.Drafts.{above_of}
use Rattle.dd_check.specs.Seen.{IsSeen, IsSmallView}
use Rattle.dd_check.proofs.GroupLemmas.{no, untrue, yes}
use Rattle.dd_check.proofs.OneAccessLemmas.{no_mismatch}
use Rattle.dd_check.proofs.SeenLemmas.{seen_small}
use Rattle.dd_check.proofs.kinds.accesses_by.Goals as goal

pub returns-then-has_no_square-clause-kinds : goal.returns-then-has_no_square-clause-kinds
returns-then-has_no_square-clause-kinds c = λ word scalar is.
    rw c.plain-then-has_no_square.ensures
    (record { line = refl; first = inr (no (untrue c.if-has_bad_range.ensures), inl (refl, yes (c.if-has_no_square.ensures.0 refl))) })

pub shapes_of-requires : goal.shapes_of-requires
shapes_of-requires c =
    rw c.deref.ensures.value
    (All-weaker (IsSeen c.args.draft.now.plan) (λ (a : AccessRow). IsSmallView a.view)
    (λ a h. seen_small c.args.draft.now.plan a c.requires.sound.above.limits.elements h)
    c.in_ok-accesses.accesses.items c.in_ok-accesses.ensures.seen)

pub returns-clause-kinds : goal.returns-clause-kinds
returns-clause-kinds c = λ word scalar is.
    let fit = rw (c.deref-2.ensures.value, c.in_ok-shapes.ensures, c.deref.ensures.value) at (c.if-not-shapes_fit.ensures.0 refl) in (
      no (untrue c.if-has_bad_range.ensures),
      (
        no (untrue c.if-has_no_square.ensures),
        (no (no_mismatch (above_of c.args.draft.now) word scalar c.args.pieces.now c.args.k c.in_ok-accesses.accesses.items is c.in_ok-accesses.ensures.accesses fit), tt),
      ),
    )
