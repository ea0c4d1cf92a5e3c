-- What a call gives: all entries, or a prefix of them and a kept cause.
use Rattle.std.proofs.Common.{◌≡◌, ℕ, List, [], ◌∷◌, ◌++◌, Option, Some, None, Bor, refl, sym, ap, ◌∙◌, subst, inl, inr, ⊎_elim, arith, append-nil, Result, Ok, Err}
use Rattle.std.specs.Prelude.{IsErrAnd, is_some}
use Rattle.std.proofs.lemmas.List.{append_assoc}
use Rattle.dd_blocks.specs.declared.plan.Plan.{Plan}
use Rattle.dd_causes.specs.Counts.{Rose}
use Rattle.dd_holding.specs.declared.holding.Holding.{Holding}
use Rattle.dd_holding.specs.Holdings.{Holds}
use Rattle.dd_machine.specs.declared.entry.Entry.{Entry}
use Rattle.dd_machine.specs.declared.event.Event.{Event}
use Rattle.dd_machine.specs.Owed.{left, next_line}
use Rattle.dd_store.specs.declared.store.Slot.{Ghosts as SlotGhosts}
use Rattle.dd_store.specs.declared.store.Store.{Ghosts}
use Rattle.dd_table.specs.declared.fault.RunFault.{RunFault}
use Rattle.dd_table.specs.declared.fault.RunFault.TheVariants.{DiskFault, Memory}
use Rattle.dd_table.specs.declared.table.Table.{Table}
use Rattle.dd_store.specs.declared.fault.StoreFault.{StoreFault}
use Rattle.dd_store.specs.declared.fault.StoreFault.TheVariants as store
use Rattle.dd_table.specs.Causes.{fault_of}
use Rattle.dd_table.specs.Counts.{pick_count}
use Rattle.dd_table.specs.Partly.{Partly}
use Rattle.dd_core.specs.Lines.{with_line}
use Rattle.dd_table.specs.Tables.{Ends, Enters, Gives, GrowsBy, IsCaused, IsLeft, Stops, line_now, or_zero, state_now}
use Rattle.dd_table.proofs.FactsLemmas.{holds_then, rose_before}

-- want of memory isn't the disk
pub not_disk : {A : Type 0} (fault : RunFault) → fault ≡ Memory → fault ≡ DiskFault → A
not_disk fault memory disk = absurd (let e : Memory ≡ DiskFault = sym memory ∙ disk in cc)

pub not_none : {A : Type 0} (cause : Option RunFault) (f : RunFault) → cause ≡ None → cause ≡ Some f → A
not_none cause f none some = absurd (let e : None ≡ Some f = sym none ∙ some in cc)

-- the disk's fault of a run is that of a store
pub disk_of : (fault : StoreFault) → fault_of fault ≡ DiskFault → fault ≡ store.Disk
disk_of store.Disk is = refl
disk_of store.Memory is = absurd (let e : Memory ≡ DiskFault = is in cc)

-- a cause that was kept now is the disk where the fault was
pub kept_disk : (cause : Option RunFault) (kept fault : RunFault) → cause ≡ Some kept → kept ≡ fault → cause ≡ Some DiskFault → fault ≡ DiskFault
kept_disk cause kept fault is same disk = (let e : Some kept ≡ Some DiskFault = sym is ∙ disk in let k : kept ≡ DiskFault = cc in sym same ∙ k)

-- what a fault gives that is handed on
pub err_as : (P : Result (Unit {0}) RunFault → Type 0) (result : Result (Unit {0}) RunFault) (fault : RunFault) → IsErrAnd result (λ f. f ≡ fault) → P (Err fault) → P result
err_as P (Ok done) fault is holds = absurd is
err_as P (Err f) fault is holds = subst (λ (x : RunFault). P (Err x)) (sym is) holds

-- events of two parts as entries
lines_both : (line : ℕ) (xs ys : List Event) → with_line line (xs ++ ys) ≡ with_line line xs ++ with_line line ys
lines_both line [] ys = refl
lines_both line (x ∷ xs) ys = ap (λ (l : List Entry). record { line = line; event = x } ∷ l) (lines_both line xs ys)

module _ {D S : Type 0} {g : Ghosts D S} {h : SlotGhosts S} where
  -- some of the events were entered, and then the cause was kept
  pub stops_at : (t u : Table D S g h) (events done rest : List Event) (fault : RunFault) → events ≡ done ++ rest → GrowsBy t u (with_line (line_now t) done) → u.cause ≡ Some fault → IsCaused t u fault
      → t.cause ≡ None → Stops t u events fault
  stops_at t u events done rest fault all grows cause disk none = record {
    done = done;
    rest = rest;
    all = all;
    grows = grows;
    cause = cause;
    disk = disk;
    kept = λ f some. not_none t.cause f none some;
  }

  -- none was entered, and the cause was kept by a call on the table
  pub stopped : (t : Table D S g h) {m u : Table D S g h} (events : List Event) (fault : RunFault) → Holds t.holding m.holding [] → m.opening.value ≡ t.opening.value
      → m.store ≡ t.store → GrowsBy m u [] → u.cause ≡ Some fault → IsCaused t u fault → t.cause ≡ None → Stops t u events fault
  stopped t {m} {u} events fault holds opening same grows cause disk none = record {
    done = [];
    rest = events;
    all = refl;
    grows = record {
      holds = holds_then t.holding m.holding u.holding [] [] holds grows.holds;
      opening = grows.opening ∙ opening;
      faults = (let le = grows.faults in let first = ap (Ghosts.faults g) same in omega (arith, first, le));
    };
    cause = cause;
    disk = disk;
    kept = λ f some. not_none t.cause f none some;
  }

  -- nothing was entered
  pub grows_none : (t : Table D S g h) → GrowsBy t t []
  grows_none t = record {
    holds = record { grows = record { plan = refl; journal = sym (append-nil t.holding.ledger.journal.items) }; names = refl };
    opening = refl;
    faults = omega arith;
  }

  pub ends_none : (t : Table D S g h) → t.cause ≡ None → Ends t t []
  ends_none t none = record { enters = record { grows = grows_none t; cause = refl }; none = none }

  -- a cause was kept before
  pub stopped_before : (t : Table D S g h) (events : List Event) (fault : RunFault) → t.cause ≡ Some fault → Stops t t events fault
  stopped_before t events fault kept = record {
    done = [];
    rest = events;
    all = refl;
    grows = grows_none t;
    cause = kept;
    disk = λ is. inl (kept ∙ ap (λ (f : RunFault). Some f) is);
    kept = λ f some. (some_same fault f (sym kept ∙ some), refl);
  }
    where
      some_same : (a b : RunFault) → Some a ≡ Some b → a ≡ b
      some_same a b e = cc

  -- a call without a Pick that stopped half-way has none either
  pub partly_none : (x y : Holding D S g h) (line : ℕ) (events : List Event) (partly : Partly x y line events) → pick_count (with_line line events) ≡ 0
      → pick_count (with_line line partly.done ++ with_line line partly.rest) ≡ 0
  partly_none x y line events partly none = ap pick_count (sym (lines_both line partly.done partly.rest) ∙ sym (ap (with_line line) partly.all)) ∙ none

  -- some entries, and then others, of one line
  pub grows_then : (t m u : Table D S g h) (xs ys : List Event) → GrowsBy t m (with_line (line_now t) xs) → line_now m ≡ line_now t → GrowsBy m u (with_line (line_now m) ys)
      → GrowsBy t u (with_line (line_now t) (xs ++ ys))
  grows_then t m u xs ys p same q = record {
    holds = subst (Holds t.holding u.holding) (sym (lines_both (line_now t) xs ys))
        (holds_then t.holding m.holding u.holding (with_line (line_now t) xs) (with_line (line_now t) ys) p.holds (subst (λ (line : ℕ). Holds m.holding u.holding (with_line line ys)) same q.holds));
    opening = q.opening ∙ p.opening;
    faults = (let first = p.faults in let second = q.faults in omega (arith, first, second));
  }

  pub ends_then : (t m u : Table D S g h) (xs ys : List Event) → Ends t m xs → line_now m ≡ line_now t → Enters m u ys → Ends t u (xs ++ ys)
  ends_then t m u xs ys p same q = record {
    enters = record { grows = grows_then t m u xs ys p.enters.grows same q.grows; cause = q.cause ∙ p.enters.cause };
    none = p.none;
  }

  -- after some entries a call stops
  pub stops_then : (t m u : Table D S g h) (xs ys : List Event) (fault : RunFault) → Ends t m xs → line_now m ≡ line_now t → Stops m u ys fault → Stops t u (xs ++ ys) fault
  stops_then t m u xs ys fault p same q = record {
    done = xs ++ q.done;
    rest = q.rest;
    all = ap (λ (l : List Event). xs ++ l) q.all ∙ sym (append_assoc xs q.done q.rest);
    grows = grows_then t m u xs q.done p.enters.grows same q.grows;
    cause = q.cause;
    disk = λ is. ⊎_elim
        (λ (kept : m.cause ≡ Some DiskFault). not_none m.cause DiskFault (p.enters.cause ∙ p.none) kept)
        (λ (rose : Rose (Ghosts.faults g m.store) (Ghosts.faults g u.store)). inr (rose_before (Ghosts.faults g t.store) (Ghosts.faults g m.store) (Ghosts.faults g u.store) p.enters.grows.faults rose))
        (q.disk is);
    kept = λ f some. not_none t.cause f p.none some;
  }

  pub gives_then : (t m u : Table D S g h) (xs ys : List Event) (result : Result (Unit {0}) RunFault) → Ends t m xs → line_now m ≡ line_now t → Gives m u ys result → Gives t u (xs ++ ys) result
  gives_then t m u xs ys (Ok done) p same q = ends_then t m u xs ys p same q.enters
  gives_then t m u xs ys (Err fault) p same q = stops_then t m u xs ys fault p same q

  -- a call that stops at some entries stops at more
  pub stops_more : (t u : Table D S g h) (xs ys : List Event) (fault : RunFault) → Stops t u xs fault → Stops t u (xs ++ ys) fault
  stops_more t u xs ys fault p = record {
    done = p.done;
    rest = p.rest ++ ys;
    all = ap (λ (l : List Event). l ++ ys) p.all ∙ append_assoc p.done p.rest ys;
    grows = p.grows;
    cause = p.cause;
    disk = p.disk;
    kept = p.kept;
  }

  -- the line stays while the next entry of the statements has it
  pub line_kept : (t u : Table D S g h) (xs : List Entry) → Holds t.holding u.holding xs
      → next_line (left t.holding.ledger.plan.now (state_now u).progress) ≡ next_line (left t.holding.ledger.plan.now (state_now t).progress) → line_now u ≡ line_now t
  line_kept t u xs holds same = ap (λ (p : Bor Plan). or_zero (next_line (left p.now (state_now u).progress))) holds.grows.plan ∙ ap or_zero same

  pub left_kept : (t u : Table D S g h) (xs : List Entry) → Holds t.holding u.holding xs
      → next_line (left t.holding.ledger.plan.now (state_now u).progress) ≡ next_line (left t.holding.ledger.plan.now (state_now t).progress) → IsLeft t → IsLeft u
  left_kept t u xs holds same is = ap (λ (p : Bor Plan). is_some (next_line (left p.now (state_now u).progress))) holds.grows.plan ∙ ap (λ (l : Option ℕ). is_some l) same ∙ is
