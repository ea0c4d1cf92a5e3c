-- A script that has nothing but its machine so far.
use Rattle.std.proofs.Common.{◌≡◌, ◌≢◌, ℕ, ◌≤◌, Bool, true, List, [], length, Option, None, refl, arith}
use Rattle.std.specs.List.{All}
use Rattle.dd_blocks.specs.declared.plan.Plan.{Plan}
use Rattle.dd_blocks.specs.declared.policy.Policy.{Policy}
use Rattle.dd_blocks.specs.declared.proc_row.ProcRow.{ProcRow}
use Rattle.dd_blocks.specs.declared.rule.Rule.{Rule}
use Rattle.dd_blocks.specs.declared.space_row.SpaceRow.{SpaceRow}
use Rattle.dd_blocks.specs.Limits.{name_limit, procs_limit, spaces_limit}
use Rattle.dd_blocks.specs.Numbered.{IsNumberIn}
use Rattle.dd_blocks.specs.WellFormed.{IsSmallSpace}
use Rattle.dd_check.specs.Above.{Above}
use Rattle.dd_check.specs.Sound.{IsSound}
use Rattle.dd_check.proofs.PushLemmas.{no_tasks_region}

-- a machine that keeps its limits
pub record IsSmallMachine (spaces : List SpaceRow) (procs : List ProcRow) : Type 0 where
  pub named : All (λ (p : ProcRow). IsNumberIn spaces p.space) procs
  pub each_space : All IsSmallSpace spaces
  pub each_proc : All (λ (p : ProcRow). length p.name ≤ name_limit) procs
  pub spaces_few : length spaces ≤ spaces_limit
  pub procs_few : length procs ≤ procs_limit

-- the Plan of a machine alone
abbrev pub bare : List SpaceRow → List ProcRow → Policy → Rule → Plan
bare spaces procs policy rule = record { spaces = spaces; procs = procs; policy = policy; rule = rule; arrays = []; blocks = []; tasks = []; statements = [] }

-- below it no name stands for an array, and no region is open
abbrev pub bare_above : Plan → (List ℕ → Option ℕ) → Bool → Above
bare_above plan live settled = record { plan = plan; live = live; opened = None; settled = settled }

pub bare_sound : (n : ℕ) (spaces : List SpaceRow) (procs : List ProcRow) (policy : Policy) (rule : Rule) (live : List ℕ → Option ℕ) (settled : Bool) → IsSmallMachine spaces procs → ((name : List ℕ) → live name ≡ None) → (procs ≢ [] → 1 ≤ length spaces) → (settled ≡ true → 1 ≤ length spaces) → IsSound n (bare_above (bare spaces procs policy rule) live settled)
bare_sound n spaces procs policy rule live settled small unnamed with_proc with_other = record {
  machine = record {
    space_of_proc = with_proc;
    space = with_other;
    proc = λ some. absurd (some refl);
    opened = λ some. absurd (some refl);
    arrays = λ unsettled. refl;
    statements = λ unsettled. refl;
    region = λ unsettled. refl;
  };
  names_rows = record {
    procs = small.named;
    blocks = λ k d lt. absurd (omega arith);
    tasks = λ k d lt. absurd (omega arith);
    statements = λ k d lt. absurd (omega arith);
  };
  layout = record { arrays = λ i lt. absurd (omega arith); blocks = refl };
  tasks = λ t number. absurd (omega (arith, number.0, number.1));
  homes = λ k d lt. absurd (omega arith);
  limits = record {
    each_space = small.each_space;
    each_proc = small.each_proc;
    each_array = λ k d lt. absurd (omega arith);
    each_statement = λ k d lt. absurd (omega arith);
    spaces = small.spaces_few;
    procs = small.procs_few;
    arrays = omega arith;
    elements = omega arith;
    blocks = omega arith;
    each_region = λ region. record { tasks = omega arith; elements = omega arith };
    touches = omega arith;
  };
  regions = record { tasks = λ i j d le lt. absurd (omega arith); rows = refl };
  lives = record { puts = refl; stand = λ i d lt. absurd (omega arith) };
  names = record {
    live = λ name array is. let none : live name ≡ None = unnamed name in absurd (cc);
    names = λ array number. absurd (omega (arith, number.0, number.1));
  };
  region = no_tasks_region (bare_above (bare spaces procs policy rule) live settled) refl (omega arith);
  line = record {
    few = omega arith;
    lines = λ i j d le lt. absurd (omega arith);
    rise = λ k lt. absurd (omega arith);
    above = λ k d lt. absurd (omega arith);
    tasks = omega arith;
  };
}
