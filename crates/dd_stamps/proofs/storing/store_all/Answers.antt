use Rattle.std.proofs.Common.{◌≡◌, ◌<◌, ℤ, [], length, get_or, sym, ap, ◌∙◌, arith}
use Rattle.std.specs.Global.{Vec}
use Rattle.std.proofs.lemmas.List.{get_or-map, length-map}
use Rattle.dd_meaning.specs.Lists.{lists_of}
use Rattle.dd_stamps.proofs.OutputsLemmas.{as_many, length_at, number_left, one_of_all, outputs_left}
use Rattle.dd_stamps.proofs.StampsLemmas.{may_still, spends_more}
use Rattle.dd_stamps.proofs.storing.store_all.Goals as goal

pub bounds-bufs-k : goal.bounds-bufs-k
bounds-bufs-k g c = omega (arith, as_many c.args.accesses.now (lists_of c.args.bufs.now) c.requires.1.1.1.0, length-map c.args.bufs.now (λ (v : Vec ℤ). v.items))

pub store_one-requires : goal.store_one-requires
store_one-requires g c =
    let lt = c.loop-k-test.true in
    let long = c.requires.1.1.1.0 in
    let few : c.loop-k.k < length c.args.bufs.now = omega (arith, as_many c.args.accesses.now (lists_of c.args.bufs.now) long, length-map c.args.bufs.now (λ (v : Vec ℤ). v.items)) in (
      c.requires.0,
      (
        c.requires.1.0,
        (
          c.requires.1.1.0 c.loop-k.k _ lt,
          (
            ap length c.deref.ensures.value ∙ ap (λ (v : Vec ℤ). length v.items) c.index-bufs-k.is
                ∙ ap length (sym (get_or-map (λ (v : Vec ℤ). v.items) c.args.bufs.now c.loop-k.k c.index-bufs-k.result [] few))
                ∙ length_at c.args.accesses.now (lists_of c.args.bufs.now) c.loop-k.k _ long lt,
            (
              c.loop-k.invariant.full ∙ c.requires.1.1.1.1.0,
              (
                c.loop-k.invariant.stamps ∙ c.requires.1.1.1.1.1.0,
                (
                  λ q less is. c.requires.1.1.1.1.1.1.0 q less (one_of_all c.args.accesses.now c.loop-k.k _ _ lt is),
                  may_still g.written c.args.task c.args.versions.now c.loop-k.versions c.requires.1.1.1.1.1.1.1 c.loop-k.invariant.spare,
                ),
              ),
            ),
          ),
        ),
      ),
    )

pub loop-k-preserved : goal.loop-k-preserved
loop-k-preserved g c =
    let lt = c.loop-k-test.true in
    let long = c.requires.1.1.1.0 in
    let few : c.loop-k.k < length c.args.bufs.now = omega (arith, as_many c.args.accesses.now (lists_of c.args.bufs.now) long, length-map c.args.bufs.now (λ (v : Vec ℤ). v.items)) in
    let many : c.loop-k.k < length (lists_of c.args.bufs.now) = omega (arith, few, length-map c.args.bufs.now (λ (v : Vec ℤ). v.items)) in
    let from : c.deref.result.now ≡ get_or (lists_of c.args.bufs.now) c.loop-k.k [] =
    c.deref.ensures.value ∙ ap (λ (v : Vec ℤ). v.items) c.index-bufs-k.is ∙ sym (get_or-map (λ (v : Vec ℤ). v.items) c.args.bufs.now c.loop-k.k c.index-bufs-k.result [] few) in
    record {
      full = c.store_one.ensures.values.count ∙ c.loop-k.invariant.full;
      stamps = c.store_one.ensures.versions.count ∙ c.loop-k.invariant.stamps;
      values = λ q less.
          outputs_left c.args.accesses.now (lists_of c.args.bufs.now) c.loop-k.k _ c.deref.result.now _ _ _ lt many from (c.store_one.ensures.values.each q less)
          ∙ c.loop-k.invariant.values q less;
      versions = λ q less. number_left c.args.accesses.now c.loop-k.k c.args.task _ _ _ _ lt (c.store_one.ensures.versions.each q less) ∙ c.loop-k.invariant.versions q less;
      spare = spends_more g.written c.args.task c.args.versions.now c.loop-k.versions c.store_one.new.versions c.loop-k.invariant.spare c.store_one.ensures.spare;
    }
