use Rattle.std.proofs.Common.{◌≡◌, ◌≢◌, ℕ, ℤ, ◌<◌, inl, inr, List, [], length, set, get_or, sym, ap, ◌∙◌, subst, arith}
use Rattle.std.specs.Global.{Vec}
use Rattle.std.specs.Vec.{with_items}
use Rattle.std.proofs.lemmas.Bool.Decides.{eqb_tells}
use Rattle.std.proofs.lemmas.List.{get_or-map, get_or_default, length-map, length-set}
use Rattle.dd_blocks.specs.Tasks.{shapes_in}
use Rattle.dd_meaning.specs.Lists.{lists_of}
use Rattle.dd_stamps.specs.Found.{HasCollected}
use Rattle.dd_stamps.proofs.FoundLemmas.{have_lengths, have_shapes, one_written, same_collected}
use Rattle.dd_stamps.proofs.OutputsLemmas.{as_many, length_at}
use Rattle.dd_stamps.proofs.collecting.gather_all.Goals as goal

pub bounds-bufs-k : goal.bounds-bufs-k
bounds-bufs-k c =
    let long = have_lengths c.args.accesses.now (lists_of c.args.bufs.now) (λ k d lt. (_, c.requires.views k d lt)) (have_shapes (shapes_in c.args.accesses.now) (lists_of c.args.bufs.now) c.requires.filled) in
    omega (arith, as_many c.args.accesses.now (lists_of c.args.bufs.now) long, length-map c.args.bufs.now (λ (v : Vec ℤ). v.items), c.loop-k.invariant.count)

pub collect_one-requires-clause-long : goal.collect_one-requires-clause-long
collect_one-requires-clause-long c =
    let long = have_lengths c.args.accesses.now (lists_of c.args.bufs.now) (λ k d lt. (_, c.requires.views k d lt)) (have_shapes (shapes_in c.args.accesses.now) (lists_of c.args.bufs.now) c.requires.filled) in
    let few : c.loop-k.k < length c.loop-k.bufs = omega (arith, as_many c.args.accesses.now (lists_of c.args.bufs.now) long, length-map c.args.bufs.now (λ (v : Vec ℤ). v.items), c.loop-k.invariant.count) in
    ap length c.deref_mut.ensures.value
    ∙ ap length (sym (get_or-map (λ (v : Vec ℤ). v.items) c.loop-k.bufs c.loop-k.k c.index-bufs-k.result [] few))
    ∙ ap length (c.loop-k.invariant.left c.loop-k.k (omega arith))
    ∙ length_at c.args.accesses.now (lists_of c.args.bufs.now) c.loop-k.k _ long c.loop-k-test.true

pub loop-k-preserved : goal.loop-k-preserved
loop-k-preserved c =
    let lt = c.loop-k-test.true in
    let long = have_lengths c.args.accesses.now (lists_of c.args.bufs.now) (λ k d lt. (_, c.requires.views k d lt)) (have_shapes (shapes_in c.args.accesses.now) (lists_of c.args.bufs.now) c.requires.filled) in
    let few : c.loop-k.k < length c.loop-k.bufs = omega (arith, as_many c.args.accesses.now (lists_of c.args.bufs.now) long, length-map c.args.bufs.now (λ (v : Vec ℤ). v.items), c.loop-k.invariant.count) in
    let v : Vec ℤ = get_or c.loop-k.bufs c.loop-k.k c.index-bufs-k.result in
    let written = one_written c.loop-k.bufs c.loop-k.k v c.collect_one.new.buf few (c.collect_one.auto.buf ∙ c.deref_mut.ensures.len) in
    let was : c.deref_mut.result.now ≡ get_or (lists_of c.args.bufs.now) c.loop-k.k [] =
    c.deref_mut.ensures.value ∙ sym (get_or-map (λ (v : Vec ℤ). v.items) c.loop-k.bufs c.loop-k.k c.index-bufs-k.result [] few) ∙ c.loop-k.invariant.left c.loop-k.k (omega arith) in
    let news : List (List ℤ) = lists_of (set c.loop-k.bufs c.loop-k.k (with_items v c.collect_one.new.buf)) in
    record {
      count = length-set c.loop-k.bufs c.loop-k.k (with_items v c.collect_one.new.buf) ∙ c.loop-k.invariant.count;
      done = λ k d less. elim (eqb_tells k c.loop-k.k) [
        | inl e ↦
            subst (λ (n : ℕ). HasCollected c.args.copy.now.plan.now c.args.copy.now.block c.args.copy.now.values.items (get_or c.args.accesses.now n d) (get_or (lists_of c.args.bufs.now) n []) (get_or (lists_of (set c.loop-k.bufs c.loop-k.k (with_items (get_or c.loop-k.bufs c.loop-k.k c.index-bufs-k.result) c.collect_one.new.buf))) n [])) (sym e.1)
            (same_collected c.args.copy.now.plan.now c.args.copy.now.block c.args.copy.now.values.items _ _ _ _ _ _ (get_or_default c.args.accesses.now c.loop-k.k _ d lt) was (sym written.0) c.collect_one.ensures)
        | inr ne ↦
            let other : k ≢ c.loop-k.k = ne.1 in
            subst (λ (l : List ℤ). HasCollected c.args.copy.now.plan.now c.args.copy.now.block c.args.copy.now.values.items (get_or c.args.accesses.now k d) (get_or (lists_of c.args.bufs.now) k []) l) (sym (written.1 k ne.1)) (c.loop-k.invariant.done k d (omega arith))
      ];
      left = λ k le. written.1 k (λ e. omega (arith, e, le)) ∙ c.loop-k.invariant.left k (omega arith);
    }
