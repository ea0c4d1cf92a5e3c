use Rattle.std.proofs.Common.{◌≡◌, ℕ, ◌+◌, ◌-◌, cond, List, Option, Some, get_or, refl, sym, ap, subst, ◌∙◌, arith}
use Rattle.std.specs.Str.{bytes_eq}
use Rattle.std.specs.Vec.{with_item}
use Rattle.std.proofs.lemmas.List.{get_or_read}
use Rattle.dd_blocks.specs.declared.what.What.TheVariants.{Same}
use Rattle.dd_check.specs.Drafts.{above_of}
use Rattle.dd_check.specs.Lookup.{Renames, array_by}
use Rattle.dd_check.proofs.ArrayNamesLemmas.{few_names, known_some, named_ahead, renamed}
use Rattle.dd_check.proofs.array_names.add_name.Goals as goal

pub overflow_add-index_mut : goal.overflow_add-index_mut
overflow_add-index_mut c =
    let d = c.args.draft.now in
    let n = c.array_of-array.result in
    let within = c.array_of-array.ensures.within in
    let count : c.index_mut.result.now ≡ get_or d.counts.items (n - 1) 0 = get_or_read d.counts.items _ _ (omega (arith, within, c.requires.sound.counts.each)) c.index_mut.ensures.value 0 in
    omega (arith, count, few_names d n c.requires.sound.counts within, c.requires.sound.few, c.requires.sound.above.line.few)

pub add_row-requires : goal.add_row-requires
add_row-requires c =
    let d = c.args.draft.now in
    let n = c.array_of-array.result in
    let within = c.array_of-array.ensures.within in
    let count : c.index_mut.result.now ≡ get_or d.counts.items (n - 1) 0 = get_or_read d.counts.items _ _ (omega (arith, within, c.requires.sound.counts.each)) c.index_mut.ensures.value 0 in
    named_ahead d c.put.new.self (with_item d.counts (n - 1) (c.index_mut.result.now + 1)) n (c.index_mut.result.now + 1) c.requires.sound.counts within refl (omega (arith, count))

pub returns-clause-entered : goal.returns-clause-entered
returns-clause-entered c =
    let d = c.args.draft.now in
    let n = c.array_of-array.result in
    let value = c.array_of-array.ensures.value in
    let live = known_some _ c.requires.known ∙ ap Some (sym value) in
    let renames = subst (λ (bs : List ℕ). Renames d.names c.put.new.self bs (Some n)) c.as_bytes.ensures c.in_ok-put.ensures in
    c.in_ok-add_row.ensures.above
    ∙ renamed (above_of d) (array_by c.put.new.self) c.args.name.now _ c.args.line _ _ (ap Same value)
    (λ other. renames other ∙ ap (λ (o : Option ℕ). cond (bytes_eq other c.args.name.now) o (array_by d.names other)) (sym live))
