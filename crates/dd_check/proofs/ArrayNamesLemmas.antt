-- A name more, and a name less, of an array.
use Rattle.std.proofs.Common.{◌≡◌, ◌≢◌, ℕ, suc, ◌+◌, ◌-◌, ◌≤◌, Bool, cond, nat_eq, List, length, get_or, set, Option, None, Some, unwrap_or, Vec, Global, refl, sym, ap, subst, ◌∙◌, ⊎_elim, arith}
use Rattle.std.specs.Str.{bytes_eq}
use Rattle.std.proofs.lemmas.Bool.{cases_eq, eq-eqb, ne_eqb}
use Rattle.std.proofs.lemmas.Grind.{get_or-set_at}
use Rattle.std.proofs.lemmas.List.{get_or-set_other}
use Rattle.std.proofs.lemmas.List.Sums.{count_by-le-length}
use Rattle.std.proofs.Math.ListN.{length-set}
use Rattle.dd_blocks.specs.declared.statement_row.StatementRow.{StatementRow}
use Rattle.dd_blocks.specs.declared.what.What.{What}
use Rattle.dd_blocks.specs.declared.what.What.TheVariants.{Same, Drop}
use Rattle.dd_blocks.specs.Lives.{gives_name, names_ended, names_given}
use Rattle.dd_blocks.specs.Numbered.{IsNumberIn}
use Rattle.dd_check.specs.declared.draft.Draft.{Draft}
use Rattle.dd_check.specs.declared.names.Names.{Names}
use Rattle.dd_check.specs.Above.{Above}
use Rattle.dd_check.specs.Ahead.{CountsAhead, one_if}
use Rattle.dd_check.specs.Drafts.{Counts, IsSoundDraft, above_of}
use Rattle.dd_check.specs.Effects.{add_row, add_statement, with_name}

one_at : (a k : ℕ) → 1 ≤ a → k ≡ a - 1 → one_if (nat_eq a (k + 1)) ≡ 1
one_at a k some e = ap one_if (eq-eqb a (k + 1) (omega arith))

none_at : (a k : ℕ) → 1 ≤ a → (k ≡ a - 1 → ⊥) → one_if (nat_eq a (k + 1)) ≡ 0
none_at a k some e = ap one_if (ne_eqb a (k + 1) (λ same. e (omega arith)))

-- one count changes, and as much is given or ended at that place alone
module _ (items : List ℕ) (a k v ended given : ℕ) (low : 1 ≤ a) (high : a ≤ length items) (h : ended + get_or items k 0 ≡ given)
    (one : ℕ) (here : k ≡ a - 1 → one ≡ 1) (there : (k ≡ a - 1 → ⊥) → one ≡ 0) where
  at_place : k ≡ a - 1 → (get_or items k 0 ≡ get_or items (a - 1) 0) × (get_or (set items (a - 1) v) k 0 ≡ v) × (one ≡ 1)
  at_place e = (ap (λ i. get_or items i 0) e, get_or-set_at items (a - 1) k v 0 e (omega arith), here e)

  elsewhere : (k ≡ a - 1 → ⊥) → (get_or (set items (a - 1) v) k 0 ≡ get_or items k 0) × (one ≡ 0)
  elsewhere e = (get_or-set_other items (a - 1) k v 0 e, there e)

  gained : v ≡ get_or items (a - 1) 0 + 1 → ended + get_or (set items (a - 1) v) k 0 ≡ given + one
  gained more = ⊎_elim (λ e. omega (arith, at_place e)) (λ e. omega (arith, elsewhere e)) (cases_eq k (a - 1))

  lost : v + 1 ≡ get_or items (a - 1) 0 → ended + one + get_or (set items (a - 1) v) k 0 ≡ given
  lost less = ⊎_elim (λ e. omega (arith, at_place e)) (λ e. omega (arith, elsewhere e)) (cases_eq k (a - 1))

module _ (d : Draft) (names : Names) (counts : Vec ℕ Global) (array v : ℕ) (h : Counts d) (within : IsNumberIn d.plan.arrays array)
    (set_to : counts.items ≡ set d.counts.items (array - 1) v) where
  same_length : length counts.items ≡ length d.plan.arrays
  same_length = ap length set_to ∙ length-set d.counts.items (array - 1) v ∙ h.each

  high : array ≤ length d.counts.items
  high = omega (arith, within.1, h.each)

  pub named_ahead : v ≡ get_or d.counts.items (array - 1) 0 + 1 → CountsAhead (record d { names = names; counts = counts }) (Same array)
  named_ahead e = record {
    each = same_length;
    names = λ k low.
        let step = gained d.counts.items array k v _ _ within.0 high (h.names k low) (one_if (nat_eq array (k + 1))) (one_at array k within.0) (none_at array k within.0) e in
        omega (arith, step, ap (λ (l : List ℕ). get_or l k 0) set_to);
    elements = h.elements;
    regions = omega (arith, h.regions);
    touches = omega (arith, h.touches);
    opened = h.opened;
    homes = h.homes;
    array = tt;
  }

  pub dropped_ahead : (last : Bool) → v + 1 ≡ get_or d.counts.items (array - 1) 0 → CountsAhead (record d { names = names; counts = counts }) (Drop array last)
  dropped_ahead last e = record {
    each = same_length;
    names = λ k low.
        let step = lost d.counts.items array k v _ _ within.0 high (h.names k low) (one_if (nat_eq array (k + 1))) (one_at array k within.0) (none_at array k within.0) e in
        omega (arith, step, ap (λ (l : List ℕ). get_or l k 0) set_to);
    elements = h.elements;
    regions = omega (arith, h.regions);
    touches = omega (arith, h.touches);
    opened = h.opened;
    homes = h.homes;
    array = tt;
  }

-- the count of an array, by its number
pub counted_at : (d : Draft) (array : ℕ) → Counts d → IsNumberIn d.plan.arrays array
    → names_ended array d.plan.statements + get_or d.counts.items (array - 1) 0 ≡ names_given array d.plan.statements
counted_at d array h within =
    let number : array - 1 + 1 ≡ array = omega (arith, within.0) in
    subst (λ n. names_ended n d.plan.statements + get_or d.counts.items (array - 1) 0 ≡ names_given n d.plan.statements) number (h.names (array - 1) (omega (arith, within.0, within.1)))

pub few_names : (d : Draft) (array : ℕ) → Counts d → IsNumberIn d.plan.arrays array → get_or d.counts.items (array - 1) 0 ≤ length d.plan.statements
few_names d array h within =
    let given : names_given array d.plan.statements ≤ length d.plan.statements = count_by-le-length (λ (row : StatementRow). gives_name array row.what) d.plan.statements in
    omega (arith, counted_at d array h within, given)

pub known_some : (o : Option ℕ) → o ≢ None → o ≡ Some (unwrap_or o 0)
known_some None known = absurd (known refl)
known_some (Some a) known = refl

-- an array that has a name is counted once at least
pub some_name : (d : Draft) (name : List ℕ) (array : ℕ) → IsSoundDraft d → IsNumberIn d.plan.arrays array → (above_of d).live name ≡ Some array → 1 ≤ get_or d.counts.items (array - 1) 0
some_name d name array sound within live =
    let has = sound.above.names.names array within in
    let there = (has.exact name).0 live in
    omega (arith, counted_at d array sound.counts within, has.count, there.1)

pub says_last : (left ended given : ℕ) → ended + (left + 1) ≡ given → nat_eq left 0 ≡ nat_eq (suc ended) given
says_last left ended given e = ⊎_elim zero more (cases_eq left 0)
  where
    zero : left ≡ 0 → nat_eq left 0 ≡ nat_eq (suc ended) given
    zero z = eq-eqb left 0 z ∙ sym (eq-eqb (suc ended) given (omega arith))

    more : (left ≡ 0 → ⊥) → nat_eq left 0 ≡ nat_eq (suc ended) given
    more some = ne_eqb left 0 some ∙ sym (ne_eqb (suc ended) given (λ same. some (omega arith)))

-- what such a line leaves
pub renamed : (s : Above) (live : List ℕ → Option ℕ) (name : List ℕ) (w : Option ℕ) (n : ℕ) (what wanted : What) → what ≡ wanted
    → ((other : List ℕ) → live other ≡ cond (bytes_eq other name) w (s.live other))
    → record { plan = add_statement n what s.plan; live = live; opened = s.opened; settled = s.settled } ≡ with_name name w (add_row n wanted s)
renamed s live name w n what wanted e h = λ i. record { plan = add_statement n (e i) s.plan; live = λ other. h other i; opened = s.opened; settled = s.settled }
