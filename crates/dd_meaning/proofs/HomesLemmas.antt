-- The home of an element when a region begins is a space of the Plan.
use Rattle.std.proofs.Common.{ℕ, ◌-◌, Option, None, Some, List, take, sym, subst, arith}
use Rattle.std.specs.Option.{unwrap_or}
use Rattle.std.specs.List.{last_or}
use Rattle.std.proofs.lemmas.List.Elements.{All-get_or, All-take}
use Rattle.dd_blocks.specs.declared.block_row.BlockRow.{BlockRow}
use Rattle.dd_blocks.specs.declared.plan.Plan.{Plan}
use Rattle.dd_blocks.specs.declared.statement_row.StatementRow.{StatementRow}
use Rattle.dd_blocks.specs.Elements.{Element}
use Rattle.dd_blocks.specs.Homes.{row_of_region, spaces_of}
use Rattle.dd_blocks.specs.Numbered.{IsNumberIn, block_row}
use Rattle.dd_blocks.specs.PlanElements.{IsElement, block_of_element}
use Rattle.dd_blocks.specs.WellFormed.{IsWellFormed, StatementNamesRows}
use Rattle.dd_blocks.proofs.MovedSpacesLemmas.{IsSpaceOr, Names, last_move}
use Rattle.dd_blocks.proofs.NumberedLemmas.{numbered-get}
use Rattle.dd_blocks.proofs.PlanElementsLemmas.{place_of_each}
use Rattle.dd_meaning.specs.Moves.{home_of}

unwrap_within : (plan : Plan) (o : Option ℕ) (before : ℕ) → IsSpaceOr plan o → IsNumberIn plan.spaces before → IsNumberIn plan.spaces (unwrap_or o before)
unwrap_within plan None before inside within = within
unwrap_within plan (Some space) before inside within = inside

pub rows_above_name : (plan : Plan) → IsWellFormed plan → (i : ℕ) → Names plan (take i plan.statements)
rows_above_name plan well i = All-take (λ (row : StatementRow). StatementNamesRows plan row.what) i plan.statements well.names.statements

pub home_within : (plan : Plan) → IsWellFormed plan → (region : ℕ) (e : Element) → IsElement plan e → IsNumberIn plan.spaces (home_of plan region e)
home_within plan well region e is =
    let rows : List StatementRow = take (row_of_region plan region - 1) plan.statements in
    let block : ℕ = block_of_element plan e in
    let within = (place_of_each plan well.layout e is).block in
    let none : BlockRow = record { array = 0; home = 0; size = 0 } in
    let Q : BlockRow → Type 0 = λ b. IsNumberIn plan.arrays b.array × IsNumberIn plan.spaces b.home in
    let names = subst Q (sym (numbered-get none plan.blocks block within.0)) (All-get_or Q plan.blocks (block - 1) none (omega (arith, within.0, within.1)) well.names.blocks) in
    unwrap_within plan (last_or None (spaces_of (block_row plan block).array rows)) (block_row plan block).home
    (last_move plan (block_row plan block).array rows (rows_above_name plan well (row_of_region plan region - 1))) names.1
