-- A statement of which only a row is left.
use Rattle.std.proofs.Common.{◌≡◌, ℕ, suc, ◌+◌, ◌*◌, ◌≤◌, List, [], get_or, Option, None, Some, refl, ap, arith}
use Rattle.std.specs.List.{All}
use Rattle.std.proofs.lemmas.List.Elements.{All-push}
use Rattle.dd_blocks.specs.declared.block_row.BlockRow.{BlockRow}
use Rattle.dd_blocks.specs.declared.plan.Plan.{Plan}
use Rattle.dd_blocks.specs.declared.statement_row.StatementRow.{StatementRow}
use Rattle.dd_blocks.specs.declared.what.What.{What}
use Rattle.dd_blocks.specs.Homes.{space_moved_to}
use Rattle.dd_blocks.specs.Limits.{touches_limit}
use Rattle.dd_blocks.specs.Lives.{MayStand, array_put, region_run}
use Rattle.dd_blocks.specs.Numbered.{space_row}
use Rattle.dd_blocks.specs.Touches.{touches_in, touches_of}
use Rattle.dd_blocks.specs.WellFormed.{HasShortName, StatementNamesRows, TaskNamesRows}
use Rattle.dd_blocks.specs.Numbered.{no_task}
use Rattle.dd_check.specs.Above.{Above, open_tasks, open_tasks_of}
use Rattle.dd_check.specs.Effects.{add_statement}
use Rattle.dd_check.specs.Sound.{AreSoundNames, IsSound}
use Rattle.dd_check.proofs.RowsLemmas.{All_numbered}
use Rattle.dd_check.proofs.ExtendsLemmas.{Extends, statement_names_kept, task_kept, task_names_kept, used_kept, touches_kept}
use Rattle.dd_check.proofs.LivesLemmas.{fits_push, lives_push, puts_push, regions_push}
use Rattle.dd_check.proofs.PushLemmas.{IsReady, line_push, more_regions, no_tasks_region, ready_machine, rows_named, touches_push}

-- what holds of such a statement
pub record IsPlain (plan : Plan) (what : What) : Type 0 where
  pub names : StatementNamesRows plan what
  pub short : HasShortName what
  pub stands : MayStand plan plan.statements what
  pub puts : array_put what ≡ None
  pub runs : region_run what ≡ None
  pub fits : All (λ (b : BlockRow). (space : ℕ) → space_moved_to b.array what ≡ Some space → 16 * b.size ≤ (space_row plan space).limit) plan.blocks
  pub touches : touches_in plan + touches_of plan what ≤ touches_limit

abbrev pub below : ℕ → What → (List ℕ → Option ℕ) → Above → Above
below n what live s = record { plan = add_statement n what s.plan; live = live; opened = s.opened; settled = s.settled }

pub statement_extends : (n : ℕ) (what : What) (p : Plan) → Extends p (add_statement n what p)
statement_extends n what p = record {
  spaces = refl;
  procs = refl;
  arrays = omega arith;
  blocks = omega arith;
  tasks = omega arith;
  regions = more_regions p.statements (record { line = n; what = what });
  array = λ i number. refl;
  block = λ i number. refl;
  task = λ i number. refl;
  region = λ i number. refl;
}

module _ (n : ℕ) (s : Above) (what : What) (live : List ℕ → Option ℕ) (sound : IsSound n s) (ready : IsReady s) (closed : s.opened ≡ None) (plain : IsPlain s.plan what) where
  abbrev after : Above
  after = below (suc n) what live s

  abbrev row : StatementRow
  row = record { line = suc n; what = what }

  extends : Extends s.plan after.plan
  extends = statement_extends (suc n) what s.plan

  none_open : open_tasks after ≡ []
  none_open = ap open_tasks_of closed

  few_touches : touches_in after.plan ≤ touches_limit
  few_touches = omega (arith, touches_push s.plan after.plan row extends refl sound.names_rows.statements, touches_kept s.plan after.plan extends what plain.names, plain.touches)

  pub plain_sound : AreSoundNames after → IsSound (suc n) after
  plain_sound names = record {
    machine = ready_machine after (record { settled = ready.settled; spaces = ready.spaces; procs = ready.procs });
    names_rows = record {
      procs = sound.names_rows.procs;
      blocks = sound.names_rows.blocks;
      tasks = λ k d lt. task_names_kept s.plan after.plan extends (get_or s.plan.tasks k d) (sound.names_rows.tasks k d lt);
      statements = rows_named s.plan after.plan row extends refl sound.names_rows.statements (statement_names_kept s.plan after.plan extends what plain.names);
    };
    layout = record { arrays = sound.layout.arrays; blocks = sound.layout.blocks };
    tasks = λ t number. task_kept s.plan after.plan extends t number (All_numbered (TaskNamesRows s.plan) no_task s.plan.tasks t sound.names_rows.tasks number) (sound.tasks t number);
    homes = λ k d lt. fits_push s.plan after.plan row (get_or s.plan.blocks k d) refl refl (sound.homes k d lt) (plain.fits k d lt);
    limits = record {
      each_space = sound.limits.each_space;
      each_proc = sound.limits.each_proc;
      each_array = sound.limits.each_array;
      each_statement = All-push (λ (r : StatementRow). HasShortName r.what) s.plan.statements row sound.limits.each_statement plain.short;
      spaces = sound.limits.spaces;
      procs = sound.limits.procs;
      arrays = sound.limits.arrays;
      elements = sound.limits.elements;
      blocks = sound.limits.blocks;
      each_region = λ region. record { tasks = (sound.limits.each_region region).tasks; elements = (sound.limits.each_region region).elements };
      touches = few_touches;
    };
    regions = record {
      tasks = sound.regions.tasks;
      rows = rw (regions_push s.plan.statements row plain.runs) sound.regions.rows;
    };
    lives = lives_push s.plan after.plan row extends refl sound.lives sound.names_rows.statements (rw (puts_push s.plan.statements row plain.puts) sound.lives.puts) (record { live = rw (used_kept s.plan after.plan extends what plain.names) plain.stands.live; last = plain.stands.last });
    names = names;
    region = no_tasks_region after none_open few_touches;
    line = line_push n s after what sound.line refl (omega (arith, sound.line.tasks));
  }
