use Rattle.std.proofs.Common.{◌∙◌, ◌++◌, [], ◌∷◌, refl, sym, subst, arith}
use Rattle.std.specs.List.{Contains}
use Rattle.std.proofs.lemmas.List.Elements.{Contains-push}
use Rattle.dd_alias.specs.declared.extent.Extent.{Extent}
use Rattle.dd_alias.specs.Extents.{ClashesWithOne}
use Rattle.dd_alias.specs.Waits.{IsBefore, IsEarlier}
use Rattle.dd_alias.proofs.WaitLemmas.{found_more, pushed, unchanged, waits_all}
use Rattle.dd_alias.proofs.waits.waits_among.Goals as goal
use Rattle.dd_alias.proofs.waits.waits_among.Goals.{then-clashes_with_one+in_ok-push, else-clashes_with_one}

pub loop-extent-preserved-then-extent-last : goal.loop-extent-preserved-then-extent-last
loop-extent-preserved-then-extent-last c =
    let e = c.extent-item.result in
    let found = c.loop-extent.found.items in
    let earlier : IsEarlier c.args.number e = subst (λ (x : Extent). IsEarlier c.args.number x) (sym c.extent-item.is) (c.requires.earlier c.loop-extent.extent-index e c.loop-extent-test.true) in
    let there = c.loop-extent.invariant.last (λ none. absurd (omega (arith, c.if-extent-last.true, earlier.0))) in
    record {
      found = found_more (IsBefore c.args.own.now c.args.number) c.args.extents.now c.loop-extent.extent-index [] found found e c.loop-extent-test.true c.extent-item.is c.loop-extent.invariant.found
          (unchanged (IsBefore c.args.own.now c.args.number) e found (λ u here. subst (λ n. Contains found n) (sym c.if-extent-last.true ∙ here.0) there));
      last = c.loop-extent.invariant.last;
    }

pub loop-extent-preserved : goal.loop-extent-preserved
loop-extent-preserved c =
    let e = c.extent-item.result in
    let own = c.args.own.now in
    let found = c.loop-extent.found.items in
    let earlier : IsEarlier c.args.number e = subst (λ (x : Extent). IsEarlier c.args.number x) (sym c.extent-item.is) (c.requires.earlier c.loop-extent.extent-index e c.loop-extent-test.true) in
    elim c.if-clashes_with_one.branch [
      | then-clashes_with_one+in_ok-push w ↦
          rw (w.found-is, w.last-is, w.in_ok-push.ensures.items) (record {
            found = found_more (IsBefore own c.args.number) c.args.extents.now c.loop-extent.extent-index [] found (found ++ e.task ∷ []) e c.loop-extent-test.true c.extent-item.is c.loop-extent.invariant.found
                (pushed (ClashesWithOne e own) c.args.number e found (found ++ e.task ∷ []) refl earlier.1 (w.if-clashes_with_one.ensures.0 refl));
            last = λ some. Contains-push found e.task;
          })
      | else-clashes_with_one w ↦
          rw (w.found-is, w.last-is) (record {
            found = found_more (IsBefore own c.args.number) c.args.extents.now c.loop-extent.extent-index [] found found e c.loop-extent-test.true c.extent-item.is c.loop-extent.invariant.found
                (unchanged (IsBefore own c.args.number) e found (λ u here. let yes = w.if-clashes_with_one.ensures.1 here.2 in absurd (cc)));
            last = c.loop-extent.invariant.last;
          })
    ]

pub returns : goal.returns
returns c =
    waits_all c.args.extents.now c.args.own.now c.args.number c.loop-extent.extent-index c.loop-extent.found.items c.loop-extent-test.false c.loop-extent.invariant.found
