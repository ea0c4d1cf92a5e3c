use Rattle.std.proofs.Common.{◌≡◌, ℕ, true, rules}
use Rattle.dd_copies.specs.CopyTables.{copies_of}
use Rattle.dd_copies.proofs.CellsLemmas.{there_in}
use Rattle.dd_machine.specs.Tests.{is_any, is_in_state}
use Rattle.dd_machine.specs.Words.{IsOneOf, blocks, spaces}
use Rattle.dd_legal.proofs.closing.may_close.Goals as goal

pub returns : goal.returns
returns c =
    let inside : (s b : ℕ) → is_in_state is_any (copies_of c.args.tables.now.copies s b) ≡ true → IsOneOf (spaces c.args.plan.now) s × IsOneOf (blocks c.args.plan.now) b =
    λ s b any. there_in c.args.plan.now c.args.tables.now.copies is_any s b c.requires.sized.copies any in (
      (λ t. record {
        open_is = search rules;
        all_done = search rules;
        no_pin = search rules;
        idle = λ s b any. (c.all_at_home.ensures.0 t s b (inside s b any).0 (inside s b any).1).idle any;
        at_home = λ s b any. (c.all_at_home.ensures.0 t s b (inside s b any).0 (inside s b any).1).at_home any;
        current = λ s b any. (c.all_at_home.ensures.0 t s b (inside s b any).0 (inside s b any).1).current any;
      }),
      (λ may. c.all_at_home.ensures.1 (λ s b _ _. record { idle = may.idle s b; at_home = may.at_home s b; current = may.current s b })),
    )
