-- From one line of a text to the next.
use Rattle.std.proofs.Common.{◌≡◌, ℕ, ◌+◌, ◌<◌, ◌≤◌, List, [], ◌∷◌, Option, Some, None, Result, Ok, Err, OnOk, length, refl, sym, subst, inl, inr, ap, arith, suc}
use Rattle.std.specs.Option.{option_map}
use Rattle.dd_script.specs.declared.statement.Statement.{Statement}
use Rattle.dd_script.specs.Reads.{Reads}
use Rattle.dd_check.specs.declared.fault.AcceptFault.{AcceptFault}
use Rattle.dd_check.specs.declared.fault.AcceptFault.TheVariants.{Script, Memory}
use Rattle.dd_check.specs.declared.fault.Fault.{Fault}
use Rattle.dd_check.specs.Above.{Above, found_by, nothing_above, settle}
use Rattle.dd_check.specs.Chain.{IsFoundOr, IsRefusedOr, IsUnreadOr}
use Rattle.dd_blocks.specs.declared.plan.Plan.{Plan}
use Rattle.dd_blocks.specs.Limits.{text_limit}
use Rattle.dd_check.specs.declared.draft.Draft.{Draft}
use Rattle.dd_check.specs.declared.kind.Kind.TheVariants.{UnendedRegion}
use Rattle.dd_check.specs.declared.opened.Opened.{Opened}
use Rattle.dd_check.specs.Drafts.{above_of, region_of}
use Rattle.dd_check.specs.Faults.{AreTaken, IsAcceptFault, IsOnlyFaultOf, IsOnlyPlanOf, IsRefused, IsRefusedIn, IsTaken, kinds}
use Rattle.dd_check.specs.Sound.{IsSound}
use Rattle.dd_check.proofs.KeptLemmas.{taken_sound}
use Rattle.dd_check.proofs.OneTextLemmas.{fault_only, plan_only}
use Rattle.dd_check.specs.Lines.{lines_of}

-- Reading came to the line with number n, which stands below s and above `rest`: from here on the text means the same.
pub record Reaches (text : List ℕ) (n : ℕ) (s : Above) (rest : List ℕ) : Type 0 where
  pub takes : (after : Above) → AreTaken n s (lines_of rest) after → AreTaken 1 nothing_above (lines_of text) after
  pub refuses : (fault : Fault) → IsRefusedIn n s (lines_of rest) fault → IsRefusedIn 1 nothing_above (lines_of text) fault

pub reaches_start : (text : List ℕ) (s : Above) → s ≡ nothing_above → Reaches text 1 s text
reaches_start text s e = record {
  takes = λ after t. subst (λ (a : Above). AreTaken 1 a (lines_of text) after) e t;
  refuses = λ fault r. subst (λ (a : Above). IsRefusedIn 1 a (lines_of text) fault) e r;
}

pub reaches_next : {text : List ℕ} {n : ℕ} {s : Above} {rest : List ℕ} → Reaches text n s rest → (line below : List ℕ) (next : Above) → lines_of rest ≡ line ∷ lines_of below → IsTaken n s line next → Reaches text (n + 1) next below
reaches_next {text} {n} {s} {rest} h line below next cut taken = record {
  takes = λ after t. h.takes after (subst (λ (ls : List (List ℕ)). AreTaken n s ls after) (sym cut) (next, taken, t));
  refuses = λ fault r. h.refuses fault (subst (λ (ls : List (List ℕ)). IsRefusedIn n s ls fault) (sym cut) (inr (next, taken, r)));
}

-- the line is refused
pub refused_here : {text : List ℕ} {n : ℕ} {s : Above} {rest : List ℕ} → Reaches text n s rest → (line below : List ℕ) (fault : Fault) → lines_of rest ≡ line ∷ lines_of below → IsRefused n s line fault → IsRefusedIn 1 nothing_above (lines_of text) fault
refused_here {text} {n} {s} {rest} h line below fault cut refused =
    h.refuses fault (subst (λ (ls : List (List ℕ)). IsRefusedIn n s ls fault) (sym cut) (inl refused))

-- all lines were taken
pub taken_whole : {text : List ℕ} {n : ℕ} {s : Above} {rest : List ℕ} → Reaches text n s rest → rest ≡ [] → AreTaken 1 nothing_above (lines_of text) s
taken_whole {text} {n} {s} {rest} h e = h.takes s (subst (λ (bs : List ℕ). AreTaken n s (lines_of bs) s) (sym e) refl)

-- why a line is refused: it can't be read, or its statement may not stand there
pub unread_refused : (e : AcceptFault) (n : ℕ) (s : Above) (line : List ℕ) → IsUnreadOr e n line → IsRefusedOr e n s line
unread_refused (Script fault) n s line u = (u.0, inl u.1)
unread_refused Memory n s line u = tt

pub found_refused : (e : AcceptFault) (n : ℕ) (s : Above) (line : List ℕ) (x : Statement) → Reads line (Some x) → IsFoundOr e n (found_by s x) x kinds → IsRefusedOr e n s line
found_refused (Script fault) n s line x reads found = (found.line, inr (x, reads, found.first))
found_refused Memory n s line x reads found = tt

-- two facts of an answer that is no fault give a third
pub both_on_ok : {T E P Q R : Type 0} (r : Result T E) → (P → Q → R) → OnOk r P → OnOk r Q → OnOk r R
both_on_ok (Ok v) f p q = f p q
both_on_ok (Err e) f p q = tt

-- a line of the text is refused
pub text_refused : (e : AcceptFault) (text : List ℕ) (n : ℕ) (s : Above) (rest line below : List ℕ) → Reaches text n s rest → lines_of rest ≡ line ∷ lines_of below → length text ≤ text_limit → IsRefusedOr e n s line → IsAcceptFault e text
text_refused (Script fault) text n s rest line below reaches cut short refused =
    fault_only text fault (inr (omega (arith, short), inl (refused_here reaches line below fault cut refused)))
text_refused Memory text n s rest line below reaches cut short refused = tt

-- all lines were taken, and a region is open
pub text_unended : (text : List ℕ) (n : ℕ) (d : Draft) (rest : List ℕ) (o : Opened) → Reaches text n (above_of d) rest → rest ≡ [] → length text ≤ text_limit → d.opened ≡ Some o
    → IsOnlyFaultOf text (record { line = o.line; kind = UnendedRegion; a = 0; b = 0 })
text_unended text n d rest o reaches empty short is = fault_only text _ (inr (
  omega (arith, short),
  inr (record {
    after = above_of d;
    taken = taken_whole reaches empty;
    region = region_of o;
    opened = ap (λ (x : Option Opened). option_map region_of x) is;
    is = refl;
  }),
))

-- all lines were taken, and none is
pub text_accepted : (text : List ℕ) (n : ℕ) (d : Draft) (rest : List ℕ) (plan : Plan) → Reaches text n (above_of d) rest → rest ≡ [] → length text ≤ text_limit → d.opened ≡ None
    → plan ≡ (settle (above_of d)).plan → IsOnlyPlanOf text plan
text_accepted text n d rest plan reaches empty short is plan_is = plan_only text plan (record {
  short = omega (arith, short);
  after = above_of d;
  taken = taken_whole reaches empty;
  closed = ap (λ (x : Option Opened). option_map region_of x) is;
  is = plan_is;
})

-- what is below one more line
pub sound_next : (n : ℕ) (s : Above) (line : List ℕ) (after : Above) → n < text_limit → IsSound n s → IsTaken (n + 1) s line after → IsSound (n + 1) after
sound_next n s line after few sound taken =
    let next : n + 1 ≡ suc n = omega arith in
    subst (λ (m : ℕ). IsSound m after) (sym next) (taken_sound n s line after (omega (arith, few)) sound (subst (λ (m : ℕ). IsTaken m s line after) next taken))
