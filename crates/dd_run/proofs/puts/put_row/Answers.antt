-- The row's entries are those of its blocks; then the array has its first name.
use Rattle.std.proofs.Common.{refl, sym, subst, ◌∙◌}
use Rattle.dd_blocks.specs.declared.plan.Plan.{Plan}
use Rattle.dd_blocks.specs.declared.what.What.TheVariants.{Put}
use Rattle.dd_blocks.specs.Numbered.{IsNumberIn}
use Rattle.dd_core.specs.Lines.{with_line}
use Rattle.dd_run.specs.Gives.{RunGives}
use Rattle.dd_run.specs.Puts.{put_one}
use Rattle.dd_run.proofs.AtLemmas.{between_at, due_at, names_at_row, plan_of}
use Rattle.dd_run.proofs.NamesLemmas.{entered_named, names_fewer, names_given_at, put_gives}
use Rattle.dd_run.proofs.NextLemmas.{adds_state, follows_enter, names_stay, pins_flat, plan_stays, stops_row}
use Rattle.dd_machine.specs.Owed.{blocks_of}
use Rattle.dd_table.specs.Tables.{line_now, state_now}
use Rattle.dd_table.proofs.GivesLemmas.{err_as}
use Rattle.dd_run.proofs.puts.put_row.Goals as goal

pub put_blocks-requires-clause-array : goal.put_blocks-requires-clause-array
put_blocks-requires-clause-array g c = λ _ _. names_at_row c.args.table.now c.args.i (Put c.args.array) c.requires.well c.requires.within c.requires.what

pub put_blocks-requires-clause-between : goal.put_blocks-requires-clause-between
put_blocks-requires-clause-between g c = λ _ _. between_at c.args.table.now c.args.i c.requires.at

pub put_blocks-requires-clause-due : goal.put_blocks-requires-clause-due
put_blocks-requires-clause-due g c = λ _ _. due_at c.args.table.now c.args.i (Put c.args.array) c.requires.well c.requires.within c.requires.at c.requires.what

pub returns-in_err-put_blocks : goal.returns-in_err-put_blocks
returns-in_err-put_blocks g c =
    let t = c.args.table.now in
    let u = c.put_blocks.new.table in
    let fault = c.in_err-put_blocks.field-0.0 in
    record {
      gives = err_as (RunGives (plan_of t) c.args.i t u) c.from_residual.result fault c.from_residual.ensures.1
          (stops_row t u c.args.i (Put c.args.array) fault c.requires.well c.requires.within c.requires.at c.requires.what c.in_err-put_blocks.ensures.gives);
    }

pub same_name-requires-clause-array : goal.same_name-requires-clause-array
same_name-requires-clause-array g c = λ _ _.
    let t = c.args.table.now in
    let p = c.in_ok-put_blocks.ensures.gives in
    subst (λ (plan : Plan). IsNumberIn plan.arrays c.args.array) (sym (plan_stays t c.put_blocks.new.table (with_line (line_now t) p.adds.added) p.adds.grows.holds.grows))
    (names_at_row t c.args.i (Put c.args.array) c.requires.well c.requires.within c.requires.what)

pub same_name-requires-clause-fewer : goal.same_name-requires-clause-fewer
same_name-requires-clause-fewer g c = λ _ _.
    let t = c.args.table.now in
    let u = c.put_blocks.new.table in
    let p = c.in_ok-put_blocks.ensures.gives in
    let a = c.args.array in
    names_fewer t u c.args.i a c.requires.well c.requires.within
    (names_stay t u (with_line (line_now t) p.adds.added) a p.adds.grows ∙ c.requires.at.names a (names_at_row t c.args.i (Put a) c.requires.well c.requires.within c.requires.what))

pub returns : goal.returns
returns g c =
    let t = c.args.table.now in
    let u = c.put_blocks.new.table in
    let v = c.same_name.new.table in
    let p = c.in_ok-put_blocks.ensures.gives in
    let i = c.args.i in
    let a = c.args.array in
    let what = Put a in
    let within = names_at_row t i what c.requires.well c.requires.within c.requires.what in
    let entries = with_line (line_now t) p.adds.added in
    record {
      gives = record {
        enters = entered_named t u v i (follows_enter t u i what c.requires.well c.requires.within c.requires.at c.requires.what p) c.same_name.ensures.same;
        stands = names_given_at t u v i a what c.requires.well c.requires.within c.requires.what (put_gives a) within
            (λ b b_is. names_stay t u entries b p.adds.grows ∙ c.requires.at.names b b_is) (plan_stays t u entries p.adds.grows.holds.grows) p.cause
            (adds_state t u i what c.requires.well c.requires.within c.requires.at c.requires.what (pins_flat (put_one (state_now t)) (blocks_of (plan_of t) a) (λ b. refl)) p.adds)
            c.same_name.ensures.names c.same_name.ensures.same;
      };
    }
