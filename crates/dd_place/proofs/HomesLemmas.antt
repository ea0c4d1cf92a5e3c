-- The home of a block by the homes of the arrays.
use Rattle.std.proofs.Common.{◌≡◌, ◌≢◌, ℕ, ◌-◌, Bool, eqb, cond, List, length, get_or, sym, ap, ◌∙◌, subst, arith}
use Rattle.std.proofs.lemmas.Bool.{eq-eqb, ne_eqb}
use Rattle.std.proofs.lemmas.List.Elements.{All-get_or, All-take}
use Rattle.dd_blocks.specs.declared.block_row.BlockRow.{BlockRow}
use Rattle.dd_blocks.specs.declared.plan.Plan.{Plan}
use Rattle.dd_blocks.specs.declared.statement_row.StatementRow.{StatementRow}
use Rattle.dd_blocks.specs.ArrayHomes.{AreMovedTo, rows_above}
use Rattle.dd_blocks.specs.Homes.{home_after, home_in_region, row_of_region}
use Rattle.dd_blocks.specs.Numbered.{IsNumberIn, block_row}
use Rattle.dd_blocks.specs.WellFormed.{NamesRows, StatementNamesRows}
use Rattle.dd_blocks.proofs.MovedSpacesLemmas.{home_by_last}
use Rattle.dd_place.proofs.NumberedLemmas.{numbered_at}

abbrev no_block : BlockRow
no_block = record { array = 0; home = 0; size = 0 }

-- a block by its number names rows of the Plan
pub block_names : (plan : Plan) (block : ℕ) → NamesRows plan → IsNumberIn plan.blocks block → IsNumberIn plan.arrays (block_row plan block).array × IsNumberIn plan.spaces (block_row plan block).home
block_names plan block names within =
    let P : BlockRow → Type 0 = λ b. IsNumberIn plan.arrays b.array × IsNumberIn plan.spaces b.home in
    subst P (sym (numbered_at no_block plan.blocks block within.0)) (All-get_or P plan.blocks (block - 1) no_block (omega (arith, within)) names.blocks)

module _ (plan : Plan) (homes : List ℕ) (block region : ℕ) (names : NamesRows plan) (within : IsNumberIn plan.blocks block)
    (moved : AreMovedTo (length plan.arrays) (rows_above plan region) homes) where
  abbrev row : BlockRow
  row = block_row plan block

  abbrev last : ℕ
  last = get_or homes (row.array - 1) 0

  home_is : home_in_region plan region block ≡ cond (eqb last 0) row.home last
  home_is =
      let array = (block_names plan block names within).0 in
      let above = rows_above plan region in
      let named = All-take (λ (r : StatementRow). StatementNamesRows plan r.what) (row_of_region plan region - 1) plan.statements names.statements in
      home_by_last plan row.array row.home above named
      ∙ sym (ap (λ (h : ℕ). cond (eqb h 0) row.home h) (moved.each row.array array.0 array.1))

  pub home_first : last ≡ 0 → row.home ≡ home_in_region plan region block
  home_first none = sym (home_is ∙ ap (λ (b : Bool). cond b row.home last) (eq-eqb last 0 none))

  pub home_moved : last ≢ 0 → last ≡ home_in_region plan region block
  home_moved some = sym (home_is ∙ ap (λ (b : Bool). cond b row.home last) (ne_eqb last 0 some))
