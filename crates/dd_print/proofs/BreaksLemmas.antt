-- Calls that print, one after another, and where they end early.
use Rattle.std.proofs.Common.{◌≡◌, ℕ, ◌+◌, ◌-◌, ◌<◌, ◌≤◌, List, [], ◌++◌, Some, None, inl, inr, refl, ap, sym, ◌∙◌, subst, ⊎_elim, append-nil, Result, Ok, Err, arith}
use Rattle.std.specs.Prelude.{IsErrAnd}
use Rattle.std.specs.List.{flat_map, range_with_len}
use Rattle.std.proofs.lemmas.Grind.{flat_map-append}
use Rattle.std.proofs.lemmas.List.{append_assoc}
use Rattle.dd_causes.specs.Counts.{Rose}
use Rattle.dd_lists.proofs.SumsLemmas.{range-add}
use Rattle.dd_machine.specs.declared.event.Event.{Event}
use Rattle.dd_print.specs.Causes.{of_run, of_text}
use Rattle.dd_print.specs.declared.fault.PrintFault.{PrintFault}
use Rattle.dd_print.specs.declared.fault.PrintFault.TheVariants.{DiskFault, Memory, WriteFault}
use Rattle.dd_print.specs.Gives.{Breaks}
use Rattle.dd_statements.specs.Follows.{Follows, StopsIn}
use Rattle.dd_statements.proofs.AddsLemmas.{adds_none, adds_then, grows_none}
use Rattle.dd_statements.proofs.LoopLemmas.{IsAtBlock, between, between_next}
use Rattle.dd_store.specs.declared.store.Slot.{Ghosts as SlotGhosts}
use Rattle.dd_store.specs.declared.store.Store.{Ghosts}
use Rattle.dd_table.specs.declared.fault.RunFault.{RunFault}
use Rattle.dd_table.specs.declared.fault.RunFault.TheVariants as run
use Rattle.dd_table.specs.declared.table.Table.{Table}
use Rattle.dd_table.specs.Tables.{line_now}
use Rattle.dd_table.proofs.FactsLemmas.{rose_before}
use Rattle.dd_table.proofs.GivesLemmas.{not_none}
use Rattle.dd_text.specs.declared.fault.PrintFault.{PrintFault as TextFault}
use Rattle.dd_text.specs.declared.fault.PrintFault.TheVariants as text

-- which fault is of the disk, and which of the sink
disk_of : (f : RunFault) → of_run f ≡ DiskFault → f ≡ run.DiskFault
disk_of run.DiskFault is = refl
disk_of run.Memory is = cc

pub no_disk : (f : TextFault) → of_text f ≡ DiskFault → ⊥
no_disk text.WriteFault is = cc
no_disk text.Memory is = cc

pub no_write : (f : RunFault) → of_run f ≡ WriteFault → ⊥
no_write run.DiskFault is = cc
no_write run.Memory is = cc

pub no_memory : Memory ≡ DiskFault → ⊥
no_memory is = cc

pub no_write_memory : Memory ≡ WriteFault → ⊥
no_write_memory is = cc

-- all of the blocks, by those before one, it, and those behind it
whole : (f : ℕ → List Event) (first end b : ℕ) → first ≤ b → b < end → between f first b ++ (f b ++ between f (b + 1) end) ≡ between f first end
whole f first end b le lt =
    ap (λ (l : List Event). between f first b ++ l) (sym (between_next f b end lt))
    ∙ sym (flat_map-append f (range_with_len first (b - first)) (range_with_len b (end - b)))
    ∙ ap (λ (n : ℕ). flat_map f (range_with_len first (b - first) ++ range_with_len n (end - b))) (let e : b ≡ first + (b - first) = omega (arith, le) in e)
    ∙ ap (flat_map f) (sym (range-add first (b - first) (end - b)))
    ∙ ap (λ (n : ℕ). flat_map f (range_with_len first n)) (let e : b - first + (end - b) ≡ end - first = omega (arith, le, lt) in e)

-- an answer that is known to be this fault
pub err_gives : {A : Type 0} (P : Result A PrintFault → Type 0) (result : Result A PrintFault) (fault : PrintFault) → IsErrAnd result (λ e. e ≡ fault) → P (Err fault) → P result
err_gives P (Ok done) fault is p = absurd is
err_gives P (Err e) fault is p = subst (λ (x : PrintFault). P (Err x)) (sym is) p

module _ {D S : Type 0} {g : Ghosts D S} {h : SlotGhosts S} where
  -- the run stopped
  pub breaks_stop : (t u : Table D S g h) (line : ℕ) (events : List Event) (fault : RunFault) → StopsIn t u line events fault → Breaks t u line events (of_run fault)
  breaks_stop t u line events fault p = record {
    done = p.done;
    rest = p.rest;
    all = p.all;
    adds = p.adds;
    disk = λ is. p.disk (disk_of fault is);
    counted = λ is. p.cause ∙ ap Some (disk_of fault is);
    kept = λ f some. let k = p.kept f some in (ap of_run k.0, k.1, p.cause ∙ ap Some k.0);
  }

  -- it had stopped before
  pub breaks_kept : (t : Table D S g h) (line : ℕ) (events : List Event) (fault : RunFault) → t.cause ≡ Some fault → Breaks t t line events (of_run fault)
  breaks_kept t line events fault kept = record {
    done = [];
    rest = events;
    all = refl;
    adds = record { added = []; ordered = refl; owed = refl; grows = grows_none t };
    disk = λ is. inl (kept ∙ ap Some (disk_of fault is));
    counted = λ is. kept ∙ ap Some (disk_of fault is);
    kept = λ f some. (let e : Some fault ≡ Some f = sym kept ∙ some in ap of_run (some_same fault f e), refl, some);
  }
    where
      some_same : (a b : RunFault) → Some a ≡ Some b → a ≡ b
      some_same a b e = cc

  -- something else than the disk failed, when these events were entered
  pub breaks_here : (t u : Table D S g h) (line : ℕ) (xs ys : List Event) (fault : PrintFault) → Follows t u line xs → (fault ≡ DiskFault → ⊥) → Breaks t u line (xs ++ ys) fault
  breaks_here t u line xs ys fault p other = record {
    done = xs;
    rest = ys;
    all = refl;
    adds = p.adds;
    disk = λ is. absurd (other is);
    counted = λ is. absurd (other is);
    kept = λ f some. not_none t.cause f p.none some;
  }

  pub breaks_behind : (t u : Table D S g h) (line : ℕ) (xs : List Event) (fault : PrintFault) → Follows t u line xs → (fault ≡ DiskFault → ⊥) → Breaks t u line xs fault
  breaks_behind t u line xs fault p other = subst (λ (l : List Event). Breaks t u line l fault) (append-nil xs) (breaks_here t u line xs [] fault p other)

  -- before any event
  pub breaks_first : (t : Table D S g h) (line : ℕ) (events : List Event) (fault : PrintFault) → t.cause ≡ None → (fault ≡ DiskFault → ⊥) → Breaks t t line events fault
  breaks_first t line events fault none other = record {
    done = [];
    rest = events;
    all = refl;
    adds = adds_none t line;
    disk = λ is. absurd (other is);
    counted = λ is. absurd (other is);
    kept = λ f some. not_none t.cause f none some;
  }

  -- it ended early in more events too
  pub breaks_within : (t u : Table D S g h) (line : ℕ) (xs ys : List Event) (fault : PrintFault) → Breaks t u line xs fault → Breaks t u line (xs ++ ys) fault
  breaks_within t u line xs ys fault p = record {
    done = p.done;
    rest = p.rest ++ ys;
    all = ap (λ (l : List Event). l ++ ys) p.all ∙ append_assoc p.done p.rest ys;
    adds = p.adds;
    disk = p.disk;
    counted = p.counted;
    kept = p.kept;
  }

  -- after some events it ended early in others
  pub breaks_after : (t m u : Table D S g h) (line : ℕ) (xs ys : List Event) (fault : PrintFault) → Follows t m line xs → Breaks m u line ys fault → Breaks t u line (xs ++ ys) fault
  breaks_after t m u line xs ys fault p q = record {
    done = xs ++ q.done;
    rest = q.rest;
    all = ap (λ (l : List Event). xs ++ l) q.all ∙ sym (append_assoc xs q.done q.rest);
    adds = adds_then t m u line xs q.done p.adds q.adds;
    disk = λ is. ⊎_elim
        (λ (kept : m.cause ≡ Some run.DiskFault). not_none m.cause run.DiskFault p.cause kept)
        (λ (rose : Rose (Ghosts.faults g m.store) (Ghosts.faults g u.store)). inr (rose_before (Ghosts.faults g t.store) (Ghosts.faults g m.store) (Ghosts.faults g u.store) p.adds.grows.faults rose))
        (q.disk is);
    counted = q.counted;
    kept = λ f some. not_none t.cause f p.none some;
  }

  -- it ended early at one of them
  pub block_breaks : (t m u : Table D S g h) (f : ℕ → List Event) (first end b : ℕ) (fault : PrintFault) → b < end → IsAtBlock t m f first end b → Breaks m u (line_now t) (f b) fault
      → Breaks t u (line_now t) (between f first end) fault
  block_breaks t m u f first end b fault lt at p =
      subst (λ (l : List Event). Breaks t u (line_now t) l fault) (whole f first end b at.from lt)
      (breaks_after t m u (line_now t) (between f first b) (f b ++ between f (b + 1) end) fault at.within.follows (breaks_within m u (line_now t) (f b) (between f (b + 1) end) fault p))
