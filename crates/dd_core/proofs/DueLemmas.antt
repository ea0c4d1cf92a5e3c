-- Entries that come next.
use Rattle.std.proofs.Common.{◌≡◌, ◌↔◌, ◌∙◌, ◌∷◌, ◌<◌, ◌+◌, [], drop, get_or, drop-cons, subst, arith, ap, sym, suc, ℕ, List, length, take, Some, option_map}
use Rattle.dd_blocks.specs.declared.plan.Plan.{Plan}
use Rattle.dd_core.specs.Cores.{core_state}
use Rattle.dd_core.specs.Due.{AreDue}
use Rattle.dd_core.specs.Lines.{with_line}
use Rattle.dd_machine.proofs.ProgressLemmas.{makes_next}
use Rattle.dd_machine.specs.declared.entry.Entry.{Entry}
use Rattle.dd_machine.specs.declared.event.Event.{Event}
use Rattle.dd_machine.specs.Owed.{left, next_entry, one_more}
use Rattle.dd_machine.specs.States.{Progress, State}
use Rattle.dd_tables.specs.declared.tables.Tables.{Tables}
use Rattle.dd_tables.specs.Sized.{IsSized}

-- these events come next at a position, with this line
abbrev pub ComeNext : Plan → Progress → ℕ → List Event → Type 0
ComeNext plan p line events = take (length events) (left plan p) ≡ with_line line events

-- the next entry, and then what is left behind it
behind : (plan : Plan) (p : Progress) (entry : Entry) → next_entry (left plan p) ≡ Some entry → left plan p ≡ entry ∷ left plan (one_more plan p)
behind plan p entry next =
    let m = makes_next plan p entry.event (ap (option_map (λ (e : Entry). e.event)) next) in
    let e : Some m.entry ≡ Some entry = sym (ap next_entry m.was_left) ∙ next in
    let same : m.entry ≡ entry = cc in
    m.was_left ∙ ap (λ (e : Entry). e ∷ left plan (one_more plan p)) same

-- an event that comes next, and those behind it
pub next_too : (plan : Plan) (p q : Progress) (line : ℕ) (event : Event) (events : List Event) → next_entry (left plan p) ≡ Some (record { line = line; event = event })
    → one_more plan p ≡ q → ComeNext plan p line (event ∷ events) ↔ ComeNext plan q line events
next_too plan p q line event events next more =
    let entry : Entry = record { line = line; event = event } in
    let was : left plan p ≡ entry ∷ left plan q = behind plan p entry next ∙ ap (λ (r : Progress). entry ∷ left plan r) more in
    rw was ((λ are. let e : take (length events) (left plan q) ≡ with_line line events = cc in e), (λ are. ap (λ (es : List Entry). entry ∷ es) are))

-- one that doesn't come next
pub not_next : (plan : Plan) (p : Progress) (line : ℕ) (event : Event) (events : List Event) → ComeNext plan p line (event ∷ events) → next_entry (left plan p) ≡ Some (record { line = line; event = event })
not_next plan p line event events are = first (left plan p) are
  where
    first : (es : List Entry) → take (length (event ∷ events)) es ≡ with_line line (event ∷ events) → next_entry es ≡ Some (record { line = line; event = event })
    first [] are = cc
    first (e ∷ es) are = cc

-- the events from a place on are the one there and those behind it
cut : (events : List Event) (i : ℕ) (d : Event) → i < length events → drop i events ≡ get_or events i d ∷ drop (i + 1) events
cut events i d lt = let e : suc i ≡ i + 1 = omega arith in drop-cons events i d lt ∙ ap (λ (n : ℕ). get_or events i d ∷ drop n events) e

-- the same behind some events
pub next_at : (plan : Plan) (p q : Progress) (line i : ℕ) (events : List Event) (d : Event) (X : Type 0) → i < length events
    → next_entry (left plan p) ≡ Some (record { line = line; event = get_or events i d }) → one_more plan p ≡ q
    → (ComeNext plan p line (drop i events) ↔ X) → (ComeNext plan q line (drop (i + 1) events) ↔ X)
next_at plan p q line i events d X lt next more all =
    let split = cut events i d lt in
    let one = next_too plan p q line (get_or events i d) (drop (i + 1) events) next more in
    ((λ are. all.0 (subst (λ (es : List Event). ComeNext plan p line es) (sym split) (one.1 are))), (λ x. one.0 (subst (λ (es : List Event). ComeNext plan p line es) split (all.1 x))))

pub not_at : (plan : Plan) (p : Progress) (line i : ℕ) (events : List Event) (d : Event) (X : Type 0) → i < length events
    → (next_entry (left plan p) ≡ Some (record { line = line; event = get_or events i d }) → ⊥)
    → (ComeNext plan p line (drop i events) ↔ X) → X → ⊥
not_at plan p line i events d X lt none all x =
    let split = cut events i d lt in
    none (not_next plan p line (get_or events i d) (drop (i + 1) events) (subst (λ (es : List Event). ComeNext plan p line es) split (all.1 x)))

-- where some events come next with a line, that line is the one of the next entry
same_line : (es : List Entry) (entry : Entry) (line : ℕ) (events : List Event) → next_entry es ≡ Some entry → take (length events) es ≡ with_line line events → take (length events) es ≡ with_line entry.line events
same_line es entry line [] next are = are
same_line [] entry line (event ∷ events) next are = cc
same_line (e ∷ es) entry line (event ∷ events) next are =
    let is : e ≡ record { line = line; event = event } = cc in
    let same : e ≡ entry = cc in
    let l : line ≡ entry.line = ap (λ (x : Entry). x.line) (sym is ∙ same) in
    are ∙ ap (λ (n : ℕ). with_line n (event ∷ events)) l

due_with : (plan : Plan) (st : State) (entry : Entry) (events : List Event) → next_entry (left plan st.progress) ≡ Some entry → (ComeNext plan st.progress entry.line events ↔ AreDue plan st events)
due_with plan st entry events next = ((λ are. record { line = entry.line; are = are }), (λ due. same_line (left plan st.progress) entry due.line events next due.are))

-- the same of tables
pub due_of : (plan : Plan) (own core : Tables) (entry : Entry) (events : List Event) → own ≡ core → own.next ≡ Some entry → IsSized plan core
    → (ComeNext plan (core_state plan own).progress entry.line events ↔ AreDue plan (core_state plan core) events)
due_of plan own core entry events same next sized =
    let there : next_entry (left plan (core_state plan core).progress) ≡ Some entry = sym sized.next ∙ ap (λ (t : Tables). t.next) (sym same) ∙ next in
    subst (λ (t : Tables). ComeNext plan (core_state plan t).progress entry.line events ↔ AreDue plan (core_state plan core) events) (sym same) (due_with plan (core_state plan core) entry events there)
