use Rattle.std.proofs.Common.{◌≡◌, ◌+◌, ◌-◌, ◌<◌, ℕ, not, nat_eq, true, take, None, ap, sym, subst, ◌∙◌, arith}
use Rattle.std.specs.List.{last_or}
use Rattle.std.specs.Option.{unwrap_or}
use Rattle.dd_blocks.specs.declared.array_row.ArrayRow.{ArrayRow}
use Rattle.dd_blocks.specs.declared.block_row.BlockRow.{BlockRow}
use Rattle.dd_blocks.specs.Grids.{block_count}
use Rattle.dd_blocks.specs.Homes.{home_before, spaces_of}
use Rattle.dd_blocks.specs.Numbered.{array_row, block_row}
use Rattle.dd_owed.proofs.BlocksLemmas.{block_known}
use Rattle.dd_owed.proofs.HomesLemmas.{home_is}
use Rattle.dd_owed.proofs.PiecesLemmas.{is_other, is_same, sought_here, sought_later, sought_past}
use Rattle.dd_owed.proofs.blocks.block_elsewhere_at.Goals as goal
use Rattle.dd_owed.proofs.blocks.block_elsewhere_at.Goals.{then-home-space+else-left-eq0, else-home-space}

pub block-requires : goal.block-requires
block-requires c =
    let n = ap (λ (r : ArrayRow). block_count r.grid) c.array-found.ensures in
    rw c.array-found.ensures (block_known c.args.plan.now c.args.array c.loop-j.j c.requires.well c.requires.array (omega (arith, c.loop-j-test.true, c.blocks-j-end.ensures.value, n)))

pub returns-then-left-eq0-clause-value : goal.returns-then-left-eq0-clause-value
returns-then-left-eq0-clause-value c =
    let row = c.array-found.result.now in
    let lt : c.loop-j.j < block_count row.grid = omega (arith, c.loop-j-test.true, c.blocks-j-end.ensures.value) in
    let plan = c.args.plan.now in
    let n = ap (λ (r : ArrayRow). block_count r.grid) c.array-found.ensures in
    let inside : c.loop-j.j < block_count (array_row plan c.args.array).grid = omega (arith, c.loop-j-test.true, c.blocks-j-end.ensures.value, n) in
    let moved = last_or None (spaces_of c.args.array (take (c.args.row - 1) plan.statements)) in
    let P : ℕ → Type 0 = λ b. unwrap_or moved (block_row plan b).home ≡ home_before plan c.args.row b in
    let first : (array_row plan c.args.array).first_block + c.loop-j.j ≡ row.first_block + c.loop-j.j = ap (λ (r : ArrayRow). r.first_block + c.loop-j.j) (sym c.array-found.ensures) in
    let is : c.unwrap_or-home.result ≡ home_before plan c.args.row (row.first_block + c.loop-j.j) =
    c.unwrap_or-home.ensures ∙ ap (λ o. unwrap_or o c.block.result.now.home) c.moved_to-moved.ensures ∙ ap (λ (b : BlockRow). unwrap_or moved b.home) c.block.ensures
    ∙ subst P first (home_is plan c.args.row c.args.array c.loop-j.j c.requires.well c.requires.array inside) in
    let p = λ (b : ℕ). not (nat_eq (home_before c.args.plan.now c.args.row b) c.args.space) in
    let good : p (row.first_block + c.loop-j.j) ≡ true = ap (λ (h : ℕ). not (nat_eq h c.args.space)) (sym is) ∙ is_other c.unwrap_or-home.result c.args.space c.if-home-space.true in
    sought_here p row.first_block (block_count row.grid) c.loop-j.j _ lt good (rw c.if-left-eq0.true at c.loop-j.invariant.0)

pub returns-then-left-eq0-clause-known : goal.returns-then-left-eq0-clause-known
returns-then-left-eq0-clause-known c =
    let n = ap (λ (r : ArrayRow). block_count r.grid) c.array-found.ensures in
    rw c.array-found.ensures (block_known c.args.plan.now c.args.array c.loop-j.j c.requires.well c.requires.array (omega (arith, c.loop-j-test.true, c.blocks-j-end.ensures.value, n)))

pub loop-j-preserved : goal.loop-j-preserved
loop-j-preserved c =
    let row = c.array-found.result.now in
    let lt : c.loop-j.j < block_count row.grid = omega (arith, c.loop-j-test.true, c.blocks-j-end.ensures.value) in
    let plan = c.args.plan.now in
    let n = ap (λ (r : ArrayRow). block_count r.grid) c.array-found.ensures in
    let inside : c.loop-j.j < block_count (array_row plan c.args.array).grid = omega (arith, c.loop-j-test.true, c.blocks-j-end.ensures.value, n) in
    let moved = last_or None (spaces_of c.args.array (take (c.args.row - 1) plan.statements)) in
    let P : ℕ → Type 0 = λ b. unwrap_or moved (block_row plan b).home ≡ home_before plan c.args.row b in
    let first : (array_row plan c.args.array).first_block + c.loop-j.j ≡ row.first_block + c.loop-j.j = ap (λ (r : ArrayRow). r.first_block + c.loop-j.j) (sym c.array-found.ensures) in
    let is : c.unwrap_or-home.result ≡ home_before plan c.args.row (row.first_block + c.loop-j.j) =
    c.unwrap_or-home.ensures ∙ ap (λ o. unwrap_or o c.block.result.now.home) c.moved_to-moved.ensures ∙ ap (λ (b : BlockRow). unwrap_or moved b.home) c.block.ensures
    ∙ subst P first (home_is plan c.args.row c.args.array c.loop-j.j c.requires.well c.requires.array inside) in
    let p = λ (b : ℕ). not (nat_eq (home_before c.args.plan.now c.args.row b) c.args.space) in
    elim c.if-home-space.branch [
      | then-home-space+else-left-eq0 w ↦
          let good : p (row.first_block + c.loop-j.j) ≡ true = ap (λ (h : ℕ). not (nat_eq h c.args.space)) (sym is) ∙ is_other c.unwrap_or-home.result c.args.space w.if-home-space.true in
          let some : 0 < c.loop-j.left = omega (arith, w.if-left-eq0.false) in
          rw w.left-is (sought_later p row.first_block (block_count row.grid) c.loop-j.j c.loop-j.left _ lt good some c.loop-j.invariant.0, omega (arith, c.loop-j.invariant.1, some))
      | else-home-space w ↦
          let bad = ap (λ (h : ℕ). not (nat_eq h c.args.space)) (sym is) ∙ is_same c.unwrap_or-home.result c.args.space w.if-home-space.false in
          rw w.left-is (sought_past p row.first_block (block_count row.grid) c.loop-j.j c.loop-j.left _ lt bad c.loop-j.invariant.0, omega (arith, c.loop-j.invariant.1))
    ]
