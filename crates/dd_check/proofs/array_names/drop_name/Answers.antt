use Rattle.std.proofs.Common.{◌≡◌, ℕ, suc, ◌-◌, ◌≤◌, List, Some, None, get_or, nat_eq, refl, sym, ap, subst, ◌∙◌, arith}
use Rattle.std.specs.Vec.{with_item}
use Rattle.std.proofs.lemmas.List.{get_or_read}
use Rattle.dd_blocks.specs.declared.what.What.TheVariants.{Drop}
use Rattle.dd_blocks.specs.Lives.{names_ended, names_given}
use Rattle.dd_check.specs.Drafts.{above_of}
use Rattle.dd_check.specs.Lookup.{Renames, array_by}
use Rattle.dd_check.proofs.ArrayNamesLemmas.{counted_at, dropped_ahead, known_some, renamed, says_last, some_name}
use Rattle.dd_check.proofs.array_names.drop_name.Goals as goal

pub overflow_sub-left : goal.overflow_sub-left
overflow_sub-left c =
    let d = c.args.draft.now in
    let n = c.array_of-array.result in
    let within = c.array_of-array.ensures.within in
    let count : c.index.result.now ≡ get_or d.counts.items (n - 1) 0 = get_or_read d.counts.items _ _ (omega (arith, within, c.requires.sound.counts.each)) c.index.ensures 0 in
    omega (arith, count, some_name d c.args.name.now n c.requires.sound within (known_some _ c.requires.known ∙ ap Some (sym c.array_of-array.ensures.value)))

pub add_row-requires : goal.add_row-requires
add_row-requires c =
    let d = c.args.draft.now in
    let n = c.array_of-array.result in
    let within = c.array_of-array.ensures.within in
    let count : c.index.result.now ≡ get_or d.counts.items (n - 1) 0 = get_or_read d.counts.items _ _ (omega (arith, within, c.requires.sound.counts.each)) c.index.ensures 0 in
    let some : 1 ≤ get_or d.counts.items (n - 1) 0 = some_name d c.args.name.now n c.requires.sound within (known_some _ c.requires.known ∙ ap Some (sym c.array_of-array.ensures.value)) in
    dropped_ahead d c.remove.new.self (with_item d.counts (n - 1) (c.index.result.now - 1)) n (c.index.result.now - 1) c.requires.sound.counts within refl _ (omega (arith, count, some))

pub returns-clause-entered : goal.returns-clause-entered
returns-clause-entered c =
    let d = c.args.draft.now in
    let n = c.array_of-array.result in
    let rows = d.plan.statements in
    let within = c.array_of-array.ensures.within in
    let value = c.array_of-array.ensures.value in
    let count : c.index.result.now ≡ get_or d.counts.items (n - 1) 0 = get_or_read d.counts.items _ _ (omega (arith, within, c.requires.sound.counts.each)) c.index.ensures 0 in
    let some : 1 ≤ get_or d.counts.items (n - 1) 0 = some_name d c.args.name.now n c.requires.sound within (known_some _ c.requires.known ∙ ap Some (sym value)) in
    let last : nat_eq (c.index.result.now - 1) 0 ≡ nat_eq (suc (names_ended n rows)) (names_given n rows) =
    says_last (c.index.result.now - 1) (names_ended n rows) (names_given n rows) (omega (arith, count, some, counted_at d n c.requires.sound.counts within)) in
    let renames = subst (λ (bs : List ℕ). Renames d.names c.remove.new.self bs None) c.as_bytes.ensures c.remove.ensures in
    c.in_ok-add_row.ensures.above
    ∙ renamed (above_of d) (array_by c.remove.new.self) c.args.name.now None c.args.line _ _ (ap (Drop n) last ∙ ap (λ (a : ℕ). Drop a (nat_eq (suc (names_ended a rows)) (names_given a rows))) value) renames
