-- The sum is printed as that of one number. Until then nothing is written.
use Rattle.std.proofs.Common.{◌∷◌, [], Err, refl, ap, sym, ◌∙◌, subst, rules}
use Rattle.std.specs.Int.{w64, cast_signed, cast_unsigned}
use Rattle.std.proofs.lemmas.Int.{to_z-of_z}
use Rattle.dd_meaning.specs.Text.{summed}
use Rattle.dd_print.specs.Asks.{sum_events}
use Rattle.dd_print.specs.Causes.{of_text}
use Rattle.dd_print.specs.Gives.{Breaks, PrintGives}
use Rattle.dd_print.specs.Held.{IsTelling, values_now}
use Rattle.dd_print.proofs.BreaksLemmas.{breaks_behind, breaks_kept, err_gives, no_disk, no_write}
use Rattle.dd_print.proofs.WritesLemmas.{summed_one, text_all, text_front, writes_none}
use Rattle.dd_table.specs.Tables.{line_now, state_now}
use Rattle.dd_print.proofs.sum.print_sum.Goals as goal

pub returns-in-Some-clause-entries : goal.returns-in-Some-clause-entries
returns-in-Some-clause-entries g c =
    let t = c.args.table.now in
    let events = sum_events t.holding.ledger.plan.now (state_now t) c.args.array in
    subst (Breaks t t (line_now t) events) (sym c.into.ensures) (breaks_kept t (line_now t) events c.in-Some.cause (sym c.cause.ensures ∙ c.in-Some.is))

pub returns-in-Some-clause-written : goal.returns-in-Some-clause-written
returns-in-Some-clause-written g c =
    let t = c.args.table.now in
    writes_none (IsTelling t) (summed c.args.name.now (values_now t.holding.ledger.plan.now (state_now t) c.args.array)) (Err c.into.result) c.into.result (g.O.Sink.taken c.args.out.now) (g.O.Sink.faults c.args.out.now)
    refl (λ e. no_write c.in-Some.cause (sym c.into.ensures ∙ e))

pub returns-in_err-sum-clause-written : goal.returns-in_err-sum-clause-written
returns-in_err-sum-clause-written g c =
    let t = c.args.table.now in
    writes_none (IsTelling c.sum_of_array.new.table) (summed c.args.name.now (values_now t.holding.ledger.plan.now (state_now t) c.args.array)) c.from_residual.result c.in_err-sum.field-0.0 (g.O.Sink.taken c.args.out.now) (g.O.Sink.faults c.args.out.now)
    c.from_residual.ensures.1 (λ e. c.in_err-sum.ensures.no_sink (ap Err e))

pub returns-in_err-print_sum-clause-entries : goal.returns-in_err-print_sum-clause-entries
returns-in_err-print_sum-clause-entries g c =
    let t = c.args.table.now in
    let u = c.sum_of_array.new.table in
    let events = sum_events t.holding.ledger.plan.now (state_now t) c.args.array in
    let fault = c.in_err-print_sum.field-0.0 in
    err_gives (λ r. PrintGives t u (line_now t) events r) c.from_residual-in_err-print_sum.result (of_text fault) c.from_residual-in_err-print_sum.ensures.1
    (breaks_behind t u (line_now t) events (of_text fault) c.in_ok-sum.ensures.entries (no_disk fault))

pub returns-in_err-print_sum-clause-written : goal.returns-in_err-print_sum-clause-written
returns-in_err-print_sum-clause-written g c =
    let t = c.args.table.now in
    let values = values_now t.holding.ledger.plan.now (state_now t) c.args.array in
    text_front (IsTelling c.sum_of_array.new.table) (summed c.args.name.now (cast_signed w64 (cast_unsigned w64 c.in_ok-sum.sum) ∷ [])) (summed c.args.name.now values) c.from_residual-in_err-print_sum.result c.in_err-print_sum.field-0.0
    (g.O.Sink.taken c.args.out.now) (g.O.Sink.taken c.print_sum.new.out) (g.O.Sink.faults c.args.out.now) (g.O.Sink.faults c.print_sum.new.out) c.from_residual-in_err-print_sum.ensures.1
    (λ telling. summed_one c.args.name.now values (cast_signed w64 (cast_unsigned w64 c.in_ok-sum.sum)) (to_z-of_z w64 c.in_ok-sum.sum (search rules) ∙ c.in_ok-sum.ensures.told telling)) c.in_err-print_sum.ensures

pub returns-clause-written : goal.returns-clause-written
returns-clause-written g c =
    let t = c.args.table.now in
    let values = values_now t.holding.ledger.plan.now (state_now t) c.args.array in
    text_all (IsTelling c.sum_of_array.new.table) (summed c.args.name.now (cast_signed w64 (cast_unsigned w64 c.in_ok-sum.sum) ∷ [])) (summed c.args.name.now values)
    (g.O.Sink.taken c.args.out.now) (g.O.Sink.taken c.print_sum.new.out) (g.O.Sink.faults c.args.out.now) (g.O.Sink.faults c.print_sum.new.out)
    (λ telling. summed_one c.args.name.now values (cast_signed w64 (cast_unsigned w64 c.in_ok-sum.sum)) (to_z-of_z w64 c.in_ok-sum.sum (search rules) ∙ c.in_ok-sum.ensures.told telling)) c.in_ok-print_sum.ensures
