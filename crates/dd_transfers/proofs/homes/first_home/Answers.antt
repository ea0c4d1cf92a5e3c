use Rattle.std.proofs.Common.{◌+◌, ◌-◌, sym, subst}
use Rattle.dd_transfers.specs.Marks.{IsMarked}
use Rattle.dd_transfers.proofs.LayoutLemmas.{FindsHome, finds_home}
use Rattle.dd_transfers.proofs.homes.first_home.Goals as goal

finds : (c : goal.After-as_slice) → FindsHome c.args.plan.now c.args.array c.args.pos c.as_slice.result.now (c.from.result + c.block_of.result - 1)
finds c =
    finds_home c.args.plan.now c.requires.well c.args.array c.args.pos c.array-row.result.now c.from.result c.block_of.result c.as_slice.result.now
    c.requires.array c.array-row.ensures c.from.ensures c.block_of.ensures.value c.block_of.ensures.within c.as_slice.ensures

pub bounds-as_slice-block : goal.bounds-as_slice-block
bounds-as_slice-block c = (finds c).within

pub returns : goal.returns
returns c = record {
  value = (finds c).home;
  within = subst (λ home. IsMarked home) (sym (finds c).home) (finds c).marked;
}
