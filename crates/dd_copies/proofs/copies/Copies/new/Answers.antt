use Rattle.std.proofs.Common.{◌≡◌, ℕ, List, Option, replicate, None, rules, subst, sym, ap, ◌∙◌}
use Rattle.dd_copies.specs.declared.block_copy.BlockCopy.{BlockCopy}
use Rattle.dd_copies.specs.CopyTables.{IsTable, copies_of}
use Rattle.dd_copies.proofs.CellsLemmas.{cells_empty, table_empty}
use Rattle.dd_copies.proofs.copies.Copies.new.Goals as goal

pub returns-clause-table : goal.returns-clause-table
returns-clause-table c =
    let all : c.loop-space._space ≡ c.args.spaces = search rules in
    let is = c.loop-space.invariant ∙ ap (λ (n : ℕ). replicate n (replicate c.args.blocks None)) all in
    subst (λ (t : List (List (Option BlockCopy))). IsTable c.args.spaces c.args.blocks t) (sym is) (table_empty c.args.spaces c.args.blocks)

pub returns-clause-none : goal.returns-clause-none
returns-clause-none c = λ s b.
    ap (λ (t : List (List (Option BlockCopy))). copies_of t s b) c.loop-space.invariant ∙ cells_empty c.loop-space._space c.args.blocks s b
