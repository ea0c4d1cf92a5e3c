use Rattle.std.proofs.Common.{ℕ, List, Some, sym, subst, ◌∙◌}
use Rattle.dd_blocks.specs.declared.what.What.TheVariants.{Put}
use Rattle.dd_check.specs.Ahead.{CountsAhead}
use Rattle.dd_check.specs.Lookup.{Renames}
use Rattle.dd_check.proofs.NewArrayLemmas.{made, put_ahead}
use Rattle.dd_check.proofs.new_array.add_array.Goals as goal

pub add_row-requires : goal.add_row-requires
add_row-requires c =
    let new = c.stand_behind.new.draft in
    subst (λ (n : ℕ). CountsAhead (record new { names = c.put.new.self }) (Put n)) (sym c.in_ok-array.ensures.number)
    (put_ahead c.args.draft.now new c.args.grid c.args.fill c.put.new.self c.requires.sound c.in_ok-array.ensures.stands)

pub returns-clause-entered : goal.returns-clause-entered
returns-clause-entered c =
    let new = c.stand_behind.new.draft in
    let renames = subst (λ (bs : List ℕ). Renames new.names c.put.new.self bs (Some c.in_ok-array.array)) c.as_bytes.ensures c.in_ok-put.ensures in
    c.in_ok-add_row.ensures.above
    ∙ made c.args.draft.now new c.args.grid c.args.fill c.args.line c.in_ok-array.array c.args.name.now c.put.new.self c.in_ok-array.ensures.stands c.in_ok-array.ensures.number renames
