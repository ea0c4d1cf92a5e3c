-- What calls that print leave on a sink.
use Rattle.std.proofs.Common.{◌≡◌, ℕ, ℤ, List, [], ◌∷◌, ◌++◌, Option, refl, ap, subst, Result, Ok, Err, arith}
use Rattle.std.specs.Prelude.{IsErrAnd, codes}
use Rattle.std.specs.Fmt.{signed_decimal}
use Rattle.std.specs.Io.KnownBytes.{Appends}
use Rattle.dd_causes.specs.Appended.{AppendsFront}
use Rattle.dd_causes.proofs.AppendedLemmas.{front_untouched}
use Rattle.dd_meaning.specs.Text.{summed}
use Rattle.dd_print.specs.Causes.{of_text}
use Rattle.dd_print.specs.declared.fault.PrintFault.{PrintFault}
use Rattle.dd_print.specs.declared.fault.PrintFault.TheVariants.{WriteFault}
use Rattle.dd_print.specs.Held.{list_sum}
use Rattle.dd_print.specs.Writes.{WritesWhere}
use Rattle.dd_print.proofs.BreaksLemmas.{err_gives}
use Rattle.dd_print.proofs.SumsLemmas.{sum_of_one}
use Rattle.dd_text.specs.declared.fault.PrintFault.{PrintFault as TextFault}
use Rattle.dd_text.specs.declared.fault.PrintFault.TheVariants as text
use Rattle.dd_text.specs.Writes.{Writes}

write_of : (f : TextFault) → of_text f ≡ WriteFault → f ≡ text.WriteFault
write_of text.WriteFault is = refl
write_of text.Memory is = cc

-- the fault of an answer
fault_of : {A E : Type 0} → E → Result A E → E
fault_of e (Ok done) = e
fault_of e (Err f) = f

-- nothing was written, and something else failed
pub writes_none : (Told : Type 0) (whole : List ℕ) (result : Result (Unit {0}) PrintFault) (fault : PrintFault) (taken : Option (List ℕ)) (faults : ℕ) → IsErrAnd result (λ e. e ≡ fault) → (fault ≡ WriteFault → ⊥)
    → WritesWhere Told whole result taken taken faults faults
unfolding fault_of
writes_none Told whole result fault taken faults is other =
    err_gives (λ r. WritesWhere Told whole r taken taken faults faults) result fault is (record {
      all = λ told. tt;
      front = λ told. front_untouched taken whole;
      cause = λ e. absurd (other (ap (fault_of fault) e));
      kept = λ no. refl;
      later = omega arith;
    })

-- a text was written that is the whole, where all is told, or a prefix of it
pub text_all : (Told : Type 0) (written whole : List ℕ) (taken taken' : Option (List ℕ)) (faults faults' : ℕ) → (Told → written ≡ whole) → Writes {T = Unit {0}} written (Ok tt) taken taken' faults faults'
    → WritesWhere Told whole (Ok tt) taken taken' faults faults'
text_all Told written whole taken taken' faults faults' same p = record {
  all = λ told. subst (Appends taken taken') (same told) p.all;
  front = λ told. tt;
  cause = λ e. absurd (cc);
  kept = λ no. p.kept (λ e. cc);
  later = p.later;
}

pub text_front : (Told : Type 0) (written whole : List ℕ) (result : Result (Unit {0}) PrintFault) (fault : TextFault) (taken taken' : Option (List ℕ)) (faults faults' : ℕ) → IsErrAnd result (λ e. e ≡ of_text fault)
    → (Told → written ≡ whole) → Writes {T = Unit {0}} written (Err fault) taken taken' faults faults' → WritesWhere Told whole result taken taken' faults faults'
unfolding fault_of
text_front Told written whole result fault taken taken' faults faults' is same p =
    err_gives (λ r. WritesWhere Told whole r taken taken' faults faults') result (of_text fault) is (record {
      all = λ told. tt;
      front = λ told. subst (AppendsFront taken taken') (same told) p.front;
      cause = λ e. p.cause (ap Err (write_of fault (ap (fault_of (of_text fault)) e)));
      kept = λ no. p.kept (λ e. no (ap (λ (x : TextFault). Err (of_text x)) (ap (fault_of fault) e)));
      later = p.later;
    })

-- one number that is printed as a sum of others
pub summed_one : (name : List ℕ) (values : List ℤ) (z : ℤ) → z ≡ list_sum values → summed name (z ∷ []) ≡ summed name values
summed_one name values z is = ap (λ (w : ℤ). codes "sum " ++ name ++ 32 ∷ signed_decimal w ++ 10 ∷ []) (sum_of_one values z is)
