use Rattle.std.proofs.Common.{◌+◌, ◌-◌, ◌++◌, take, drop, length, ap, ◌∙◌, rules, arith}
use Rattle.std.proofs.lemmas.List.{take_all}
use Rattle.std.proofs.lemmas.Slice.{put_mid-paste}
use Rattle.dd_plain.proofs.WalkLemmas.{run_within, run_stored}
use Rattle.dd_lists.proofs.SignedLemmas.{one_step}
use Rattle.dd_plain.proofs.storing.store_column.Goals as goal

pub returns-then-column-eq1 : goal.returns-then-column-eq1
returns-then-column-eq1 c =
    let one = one_step c.args.column.step (search rules) c.if-column-eq1.true in
    let within = run_within _ c.args.column c.requires.within one in
    put_mid-paste c.args.column.first (c.args.column.first + length c.args.from.now - c.args.column.first) c.args.values.now c.copy_from_slice.new.self c.args.from.now (length c.args.from.now) c.copy_from_slice.ensures.after (omega arith) (omega arith)
    ∙ ap (λ l. take c.args.column.first c.args.values.now ++ l ++ drop (c.args.column.first + length c.args.from.now) c.args.values.now) (take_all (length c.args.from.now) c.args.from.now (omega arith))
    ∙ run_stored c.args.column c.args.from.now c.args.values.now one c.requires.long within
