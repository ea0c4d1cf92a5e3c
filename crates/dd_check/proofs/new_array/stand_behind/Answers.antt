use Rattle.std.proofs.Common.{◌≡◌, ℕ, suc, ◌+◌, ◌*◌, [], ◌∷◌, ◌++◌, length, refl, ap, ◌∙◌, arith}
use Rattle.dd_blocks.specs.declared.array_row.ArrayRow.{ArrayRow}
use Rattle.dd_blocks.specs.Layout.{blocks_of_array}
use Rattle.dd_check.specs.Rows.{next_array}
use Rattle.dd_check.proofs.new_array.stand_behind.Goals as goal

pub returns-clause-stands : goal.returns-clause-stands
returns-clause-stands c =
    let p = c.args.draft.now.plan in
    let row : c.next_row-row.result ≡ next_array p c.args.grid c.args.fill = c.next_row-row.ensures.value in
    let number : length c.as_slice.result.now + 1 ≡ suc (length p.arrays) = omega (arith, ap length c.as_slice.ensures) in
    let spaces : length c.as_slice-2.result.now ≡ length p.spaces = ap length c.as_slice-2.ensures in
    let blocks : c.add_blocks.new.blocks ≡ p.blocks ++ blocks_of_array (length p.spaces) (suc (length p.arrays)) (next_array p c.args.grid c.args.fill) =
    c.in_ok-add_blocks.ensures
    ∙ ap (λ (n : ℕ). p.blocks ++ blocks_of_array n (length c.as_slice.result.now + 1) c.next_row-row.result) spaces
    ∙ ap (λ (n : ℕ). p.blocks ++ blocks_of_array (length p.spaces) n c.next_row-row.result) number
    ∙ ap (λ (r : ArrayRow). p.blocks ++ blocks_of_array (length p.spaces) (suc (length p.arrays)) r) row in
    let arrays = c.in_ok-push.ensures.ok ∙ ap (λ (r : ArrayRow). p.arrays ++ r ∷ []) row in
    record {
      plan = λ i. record { spaces = p.spaces; procs = p.procs; policy = p.policy; rule = p.rule; arrays = arrays i; blocks = blocks i; tasks = p.tasks; statements = p.statements };
      names = refl;
      counts = c.in_ok-push-2.ensures.items;
      homes = c.in_ok-push-3.ensures.items;
      opened = refl;
      settled = refl;
      elements = λ i. c.args.draft.now.elements + c.from.ensures i * c.from-2.ensures i;
      regions = refl;
      touches = refl;
    }
