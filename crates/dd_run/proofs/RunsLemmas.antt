-- What all rows came to, as the run says it.
use Rattle.std.proofs.Common.{◌≡◌, ℕ, Bool, true, false, List, [], Option, Some, None, Result, Ok, Err, refl, ap, sym, ◌∙◌, subst, ◌+◌, arith}
use Rattle.std.specs.Prelude.{IsErrOf, IsSome, is_some}
use Rattle.std.proofs.lemmas.List.Elements.{All-nil}
use Rattle.dd_blocks.specs.Numbered.{IsNumberIn}
use Rattle.dd_causes.proofs.AppendedLemmas.{appends_nothing}
use Rattle.dd_blocks.specs.declared.plan.Plan.{Plan}
use Rattle.dd_blocks.specs.WellFormed.{IsWellFormed}
use Rattle.dd_machine.specs.declared.entry.Entry.{Entry}
use Rattle.dd_machine.specs.Owed.{left}
use Rattle.dd_machine.specs.declared.event.Event.TheVariants.{Claim}
use Rattle.dd_machine.specs.Runs.{IsRun, start, state_after, state_of_run}
use Rattle.dd_machine.specs.Sound.{IsSound}
use Rattle.dd_machine.specs.States.{State}
use Rattle.dd_machine.specs.Words.{IsOneOf, rows}
use Rattle.dd_print.specs.declared.fault.PrintFault.{PrintFault}
use Rattle.dd_run.specs.Gives.{RowsGive, why_ended}
use Rattle.dd_run.specs.Journals.{IsJournal}
use Rattle.dd_run.specs.Rows.{IsAtRow}
use Rattle.dd_run.specs.Runs.{IsBroken, IsWhole}
use Rattle.dd_run.specs.Texts.{CountsWrites, whole_text}
use Rattle.dd_run.proofs.JournalLemmas.{is_journal}
use Rattle.dd_pool.specs.Pools.{names_of}
use Rattle.dd_print.specs.declared.fault.PrintFault.TheVariants.{WriteFault}
use Rattle.dd_table.specs.Counts.{pick_count}
use Rattle.laws_of_rows.specs.Rows as at_rows
use Rattle.dd_run.proofs.AtLemmas.{sound_at}
use Rattle.dd_store.specs.declared.store.Slot.{Ghosts as SlotGhosts}
use Rattle.dd_store.specs.declared.store.Store.{Ghosts}
use Rattle.dd_table.specs.declared.table.Table.{Table}
use Rattle.dd_table.specs.Tables.{state_now}
use Rattle.laws_of_rows.proofs.MovedLemmas.{moved_at_row}
use Rattle.laws_of_rows.proofs.RowsLemmas.{at_end, at_start}

begun_run : (plan : Plan) → state_of_run plan [] ≡ start plan
unfolding state_after
begun_run plan = refl

failed_by : (ended : Result (Unit {0}) PrintFault) → IsErrOf ended WriteFault → why_ended ended ≡ Some WriteFault
failed_by (Ok done) failed = absurd (cc)
failed_by (Err fault) failed = cc

-- where it ended for no write, the sink counted nothing
pub written_by : (ended : Result (Unit {0}) PrintFault) (fault : Option PrintFault) (faults faults' : ℕ) → CountsWrites ended faults faults' → fault ≡ why_ended ended → (fault ≡ Some WriteFault → ⊥) → faults' ≡ faults
written_by ended fault faults faults' counts why other = counts.kept (λ failed. other (why ∙ failed_by ended failed))

module _ {D S : Type 0} {g : Ghosts D S} {h : SlotGhosts S} where
  whole_run : (plan : Plan) (logged : Bool) (t u : Table D S g h) (count : ℕ) (first last : Option (List ℕ)) → IsWellFormed plan → RowsGive plan logged t u (Ok tt) first last
      → IsJournal plan 1 u.holding.ledger.journal.items count → IsWhole plan (SlotGhosts.tells h) logged 1 u.holding.ledger.journal.items count first last
  whole_run plan logged t u count first last well p journal = record {
    journal_is = journal;
    whole = (journal.legal, ap (λ (s : State). left plan s.progress) (sym state) ∙ at_end plan (state_now u) p.ended.at);
    moved_all = journal.moved ∙ ap (λ (s : State). s.moved) (sym state) ∙ moved_at_row plan (rows plan) (state_now u) well sound p.ended.at;
    bytes = p.all;
  }
    where
      state : state_now u ≡ state_of_run plan u.holding.ledger.journal.items
      state = u.holding.ledger.facts.state ∙ ap (λ (q : Plan). state_of_run q u.holding.ledger.journal.items) p.ended.plan_is

      sound : IsSound plan (state_now u)
      sound = subst (λ (q : Plan). IsSound q (state_now u)) p.ended.plan_is (sound_at u (subst IsWellFormed (sym p.ended.plan_is) well))

  -- it ended so
  pub whole_by : (plan : Plan) (logged : Bool) (t u : Table D S g h) (ended : Result (Unit {0}) PrintFault) (fault : Option PrintFault) (journal : List Entry) (count : ℕ) (first last : Option (List ℕ)) → IsWellFormed plan
      → RowsGive plan logged t u ended first last → fault ≡ why_ended ended → journal ≡ u.holding.ledger.journal.items → IsJournal plan 1 journal count → fault ≡ None
      → IsWhole plan (SlotGhosts.tells h) logged 1 journal count first last
  whole_by plan logged t u (Ok done) fault journal count first last well p why same is none =
      subst (λ (es : List Entry). IsWhole plan (SlotGhosts.tells h) logged 1 es count first last) (sym same)
      (whole_run plan logged t u count first last well p (subst (λ (es : List Entry). IsJournal plan 1 es count) same is))
  whole_by plan logged t u (Err e) fault journal count first last well p why same is none = absurd (let x : None ≡ Some e = sym none ∙ why in cc)

  pub broken_by : (plan : Plan) (logged : Bool) (t u : Table D S g h) (ended : Result (Unit {0}) PrintFault) (fault : Option PrintFault) (journal : List Entry) (count : ℕ) (first last : Option (List ℕ))
      → RowsGive plan logged t u ended first last → fault ≡ why_ended ended → journal ≡ u.holding.ledger.journal.items → IsJournal plan 1 journal count → IsSome fault
      → IsBroken plan (SlotGhosts.tells h) logged 1 journal count first last
  broken_by plan logged t u (Ok done) fault journal count first last p why same is some = absurd (let x : false ≡ true = sym (ap is_some why) ∙ some in cc)
  broken_by plan logged t u (Err e) fault journal count first last p why same is some =
      subst (λ (es : List Entry). IsBroken plan (SlotGhosts.tells h) logged 1 es count first last) (sym same) (record {
        journal_is = subst (λ (es : List Entry). IsJournal plan 1 es count) same is;
        prefix = p.prefix;
      })

  -- a run without entries is at the first row
  pub begun_at : (plan : Plan) (t : Table D S g h) → t.holding.ledger.plan.now ≡ plan → t.holding.ledger.journal.items ≡ [] → t.cause ≡ None
      → ((a : ℕ) → IsNumberIn plan.arrays a → names_of t.holding.pool a ≡ 0) → IsAtRow plan 0 t
  begun_at plan t same empty cause names = record {
    plan_is = same;
    cause = cause;
    at = subst (at_rows.IsAtRow plan 0) (sym begun) (at_start plan);
    names = names;
  }
    where
      begun : state_now t ≡ start plan
      begun = t.holding.ledger.facts.state ∙ ap (λ (q : Plan). state_of_run q t.holding.ledger.journal.items) same ∙ ap (state_of_run plan) empty ∙ begun_run plan

-- a run that never began
pub never_begun : (plan : Plan) (tells logged : Bool) (journal : List Entry) (first : Option (List ℕ)) → IsWellFormed plan → journal ≡ [] → IsBroken plan tells logged 1 journal 0 first first
unfolding IsRun state_after
never_begun plan tells logged journal first well empty = subst (λ (es : List Entry). IsBroken plan tells logged 1 es 0 first first) (sym empty) (record {
  journal_is = is_journal plan 1 0 [] well tt (All-nil (λ (e : Entry). (task worker : ℕ) → e.event ≡ Claim task worker → IsOneOf 1 worker)) refl;
  prefix = λ told. record {
    done = [];
    left = whole_text plan logged [];
    prefix = refl;
    written = appends_nothing first;
    entries = λ i lt few. absurd (omega (arith, few));
  };
})

pub no_picks : (journal : List Entry) (made : ℕ) → journal ≡ [] → made ≡ made + pick_count journal
unfolding pick_count
no_picks journal made empty = let none : pick_count journal ≡ 0 = ap pick_count empty in omega (arith, none)
