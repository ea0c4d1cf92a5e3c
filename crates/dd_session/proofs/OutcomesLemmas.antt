-- Which statuses are left where it is known from where the text comes, and nothing failed.
use Rattle.std.proofs.Common.{◌≡◌, ℕ, ◌+◌, ◌<◌, List, ◌++◌, Option, Some, None, length, refl, sym, ap, subst, ◌∙◌, arith, inl, inr, ◌⊎◌}
use Rattle.std.proofs.lemmas.List.{append-nil, length-append}
use Rattle.dd_io.specs.Taken.{ReadsToEnd, TakesExactly}
use Rattle.dd_blocks.specs.declared.plan.Plan.{Plan}
use Rattle.dd_blocks.specs.Limits.{text_limit}
use Rattle.dd_check.specs.declared.fault.Fault.{Fault}
use Rattle.dd_check.specs.Faults.{IsFault, IsOnlyFaultOf, IsOnlyPlanOf, too_long}
use Rattle.dd_session.specs.declared.status.Status.{Status}
use Rattle.dd_session.specs.declared.status.Status.TheVariants.{Done, Memory, Words, Script, ReadFault, WriteFault, DiskFault}
use Rattle.dd_session.specs.Origins.{Origin, read_from}
use Rattle.dd_session.specs.Outcomes.{EndsWith, IsAccepted, IsFaulty, Leaves}

-- all that was left is the text that was read
pub text_read : (text bytes : List ℕ) (left' : Option (List ℕ)) → ReadsToEnd (Some text) left' bytes → bytes ≡ text
text_read text bytes None r = absurd r.taken
text_read text bytes (Some rest) r = sym (r.taken ∙ ap (λ l. bytes ++ l) r.end ∙ append-nil bytes)

-- where one byte more was taken than a script may have, the text is too long
pub long_taken : (text : List ℕ) (left' : Option (List ℕ)) → TakesExactly (Some text) left' (text_limit + 1) → text_limit < length text
long_taken text None t = absurd t.taken
long_taken text (Some rest) t = omega (arith, ap length t.taken, length-append t.bytes rest, t.counted)

-- the text comes from there, and is the only one that does
pub record IsTheText (origin : Origin) (text : List ℕ) : Type 0 where
  pub only : (t : List ℕ) → origin.Comes t → t ≡ text
  pub long : origin.Long → text_limit < length text

-- the text that a source tells
pub told_text : {left : Option (List ℕ)} (left' : Option (List ℕ)) (text : List ℕ) → left ≡ Some text → IsTheText (read_from left left') text
told_text {left} left' text told = record {
  only = λ t r. text_read text t left' (subst (λ (l : Option (List ℕ)). ReadsToEnd l left' t) told r);
  long = λ t. long_taken text left' (subst (λ (l : Option (List ℕ)). TakesExactly l left' (text_limit + 1)) told t);
}

-- what ends so with a text from one place ends so with one from another, where it comes from there too
accepted_from : (origin origin' : Origin) (plan : Plan) → ((t : List ℕ) → origin.Comes t → origin'.Comes t) → IsAccepted origin plan → IsAccepted origin' plan
accepted_from origin origin' plan more a = record { text = a.text; comes = more a.text a.comes; short = a.short; accepted = a.accepted }

pub ends_from : (origin origin' : Origin) (leaves : Leaves) (status : Status) → ((t : List ℕ) → origin.Comes t → origin'.Comes t) → (origin.Long → origin'.Long)
    → EndsWith origin leaves status → EndsWith origin' leaves status
ends_from origin origin' leaves Done more longer e = (e.0, accepted_from origin origin' e.0 more e.1, e.2)
ends_from origin origin' leaves Memory more longer e = elim e as (λ _. EndsWith origin' leaves Memory) [
  | inl idle ↦ inl idle
  | inr early ↦ inr (early.0, accepted_from origin origin' early.0 more early.1, early.2)
]
ends_from origin origin' leaves Words more longer e = e
ends_from origin origin' leaves (Script fault) more longer e = (
  elim e.0 as (λ _. ((fault ≡ too_long) × origin'.Long) ⊎ IsFaulty origin' fault) [
    | inl long ↦ inl (long.0, longer long.1)
    | inr faulty ↦ inr (record { text = faulty.text; comes = more faulty.text faulty.comes; short = faulty.short; refused = faulty.refused })
  ],
  e.1,
)
ends_from origin origin' leaves ReadFault more longer e = e
ends_from origin origin' leaves WriteFault more longer e = (e.0, accepted_from origin origin' e.0 more e.1, e.2)
ends_from origin origin' leaves DiskFault more longer e = (e.0, accepted_from origin origin' e.0 more e.1, e.2)

plan_of : (origin : Origin) (text : List ℕ) (plan : Plan) → IsTheText origin text → IsAccepted origin plan → IsOnlyPlanOf text plan
plan_of origin text plan the a = subst (λ (t : List ℕ). IsOnlyPlanOf t plan) (the.only a.text a.comes) a.accepted

fault_of : (origin : Origin) (text : List ℕ) (fault : Fault) → IsTheText origin text → IsFaulty origin fault → IsOnlyFaultOf text fault
fault_of origin text fault the f = subst (λ (t : List ℕ). IsOnlyFaultOf t fault) (the.only f.text f.comes) f.refused

-- a script without a fault is run
pub faultless_is_run : (origin : Origin) (leaves : Leaves) (status : Status) (text : List ℕ) → IsTheText origin text → EndsWith origin leaves status → ((fault : Fault) → IsFault text fault → ⊥)
    → (status ≡ ReadFault → ⊥) → (status ≡ WriteFault → ⊥) → (status ≡ DiskFault → ⊥) → (status ≡ Done) ⊎ (status ≡ Memory)
faultless_is_run origin leaves Done text the h faultless r w d = inl refl
faultless_is_run origin leaves Memory text the h faultless r w d = inr refl
faultless_is_run origin leaves Words text the h faultless r w d = absurd h
faultless_is_run origin leaves ReadFault text the h faultless r w d = absurd (r refl)
faultless_is_run origin leaves WriteFault text the h faultless r w d = absurd (w refl)
faultless_is_run origin leaves DiskFault text the h faultless r w d = absurd (d refl)
faultless_is_run origin leaves (Script fault) text the h faultless r w d = elim h.0 as (λ _. (Script fault ≡ Done) ⊎ (Script fault ≡ Memory)) [
  | inl t ↦ absurd (faultless too_long (inl (the.long t.1, refl)))
  | inr o ↦ absurd (faultless fault (fault_of origin text fault the o).is)
]

-- a text that is too long has no other fault
too_long_only : (text : List ℕ) (fault : Fault) → text_limit < length text → IsFault text fault → fault ≡ too_long
too_long_only text fault long f = elim f as (λ _. fault ≡ too_long) [
  | inl t ↦ t.1
  | inr s ↦ absurd (omega (arith, long, s.0))
]

-- a script with a fault is refused for it
pub faulty_is_refused : (origin : Origin) (leaves : Leaves) (status : Status) (text : List ℕ) (fault : Fault) → IsTheText origin text → EndsWith origin leaves status → IsFault text fault
    → (status ≡ ReadFault → ⊥) → (status ≡ Script fault) ⊎ (status ≡ Memory)
faulty_is_refused origin leaves Done text fault the h f r = absurd ((plan_of origin text h.0 the h.1).faultless fault f)
faulty_is_refused origin leaves Memory text fault the h f r = inr refl
faulty_is_refused origin leaves Words text fault the h f r = absurd h
faulty_is_refused origin leaves ReadFault text fault the h f r = absurd (r refl)
faulty_is_refused origin leaves WriteFault text fault the h f r = absurd ((plan_of origin text h.0 the h.1).faultless fault f)
faulty_is_refused origin leaves DiskFault text fault the h f r = absurd ((plan_of origin text h.0 the h.1).faultless fault f)
faulty_is_refused origin leaves (Script found) text fault the h f r = elim h.0 as (λ _. (Script found ≡ Script fault) ⊎ (Script found ≡ Memory)) [
  | inl t ↦ inl (ap Script (t.0 ∙ sym (too_long_only text fault (the.long t.1) f)))
  | inr p ↦ inl (ap Script (sym ((fault_of origin text found the p).only fault f)))
]
