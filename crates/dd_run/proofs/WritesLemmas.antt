-- What calls leave on a sink, by how they end.
use Rattle.std.proofs.Common.{◌≡◌, ℕ, ◌≤◌, List, ◌++◌, Option, Result, Ok, Err, IsErrAnd, refl, ap, sym, ◌∙◌, subst, append_assoc, arith}
use Rattle.std.specs.Io.KnownBytes.{Appends}
use Rattle.dd_causes.specs.Appended.{AppendsFront}
use Rattle.dd_causes.specs.Counts.{Rose}
use Rattle.dd_causes.proofs.AppendedLemmas.{appends_then}
use Rattle.dd_print.specs.declared.fault.PrintFault.{PrintFault}
use Rattle.dd_print.specs.declared.fault.PrintFault.TheVariants.{WriteFault}
use Rattle.dd_print.specs.Writes.{WritesWhere}

-- what holds of a fault holds of the answer that passes it on
pub print_err : (P : Result (Unit {0}) PrintFault → Type 0) (result : Result (Unit {0}) PrintFault) (fault : PrintFault) → IsErrAnd result (λ f. f ≡ fault) → P (Err fault) → P result
print_err P (Ok done) fault is holds = absurd is
print_err P (Err f) fault is holds = subst (λ (x : PrintFault). P (Err x)) (sym is) holds

-- the same text by another name
pub text_as : {T : Type 0} {result : Result (Unit {0}) PrintFault} {taken taken' : Option (List ℕ)} {faults faults' : ℕ} (a b : List ℕ) → a ≡ b
    → WritesWhere T a result taken taken' faults faults' → WritesWhere T b result taken taken' faults faults'
text_as {T} {result} {taken} {taken'} {faults} {faults'} a b same w = subst (λ (text : List ℕ). WritesWhere T text result taken taken' faults faults') same w

-- all of it was written
pub wrote : {T : Type 0} {taken taken' : Option (List ℕ)} {faults faults' : ℕ} (whole : List ℕ) → Appends taken taken' whole → faults' ≡ faults → WritesWhere T whole (Ok tt) taken taken' faults faults'
wrote {T} {taken} {taken'} {faults} {faults'} whole all same = record {
  all = λ told. all;
  front = λ told. tt;
  cause = λ is. absurd (cc);
  kept = λ other. same;
  later = omega (arith, same);
}

-- the sink failed
pub broke : {T : Type 0} {result : Result (Unit {0}) PrintFault} {taken taken' : Option (List ℕ)} {faults faults' : ℕ} (whole : List ℕ) → IsErrAnd result (λ f. f ≡ WriteFault)
    → AppendsFront taken taken' whole → Rose faults faults' → faults ≤ faults' → WritesWhere T whole result taken taken' faults faults'
broke {T} {result} {taken} {taken'} {faults} {faults'} whole is front rose later =
    print_err (λ (r : Result (Unit {0}) PrintFault). WritesWhere T whole r taken taken' faults faults') result WriteFault is (record {
      all = λ told. tt;
      front = λ told. front;
      cause = λ is. rose;
      kept = λ other. absurd (other refl);
      later = later;
    })

-- ---- a text in two parts

-- the first part ended early
pub broke_first : {T : Type 0} {result : Result (Unit {0}) PrintFault} {taken taken' : Option (List ℕ)} {faults faults' : ℕ} (a b : List ℕ) (fault : PrintFault) → IsErrAnd result (λ f. f ≡ fault)
    → WritesWhere T a (Err fault) taken taken' faults faults' → WritesWhere T (a ++ b) result taken taken' faults faults'
broke_first {T} {result} {taken} {taken'} {faults} {faults'} a b fault is w =
    print_err (λ (r : Result (Unit {0}) PrintFault). WritesWhere T (a ++ b) r taken taken' faults faults') result fault is (record {
      all = λ told. tt;
      front = λ told.
          let front = (w.front told) in
          record {
            left = front.left ++ b;
            front = record { done = front.front.done; split = ap (λ (l : List ℕ). l ++ b) front.front.split ∙ append_assoc front.front.done front.left b; grown = front.front.grown };
          };
      cause = w.cause;
      kept = w.kept;
      later = w.later;
    })

-- both were written
pub wrote_both : {T : Type 0} {first middle last : Option (List ℕ)} {m n o : ℕ} (a b whole : List ℕ) → whole ≡ a ++ b → WritesWhere T a (Ok tt) first middle m n → Appends middle last b → o ≡ n
    → WritesWhere T whole (Ok tt) first last m o
wrote_both {T} {first} {middle} {last} {m} {n} {o} a b whole is w more same = subst (λ (text : List ℕ). WritesWhere T text (Ok tt) first last m o) (sym is) (record {
  all = λ told. appends_then first middle last a b (w.all told) more;
  front = λ told. tt;
  cause = λ failed. absurd (cc);
  kept = λ other. same ∙ w.kept other;
  later = (let before = w.later in omega (arith, before, same));
})

-- the second part ended early, since the sink failed
pub broke_second : {T : Type 0} {result : Result (Unit {0}) PrintFault} {first middle last : Option (List ℕ)} {m n o : ℕ} (a b whole : List ℕ) → whole ≡ a ++ b → IsErrAnd result (λ f. f ≡ WriteFault)
    → WritesWhere T a (Ok tt) first middle m n → AppendsFront middle last b → Rose n o → n ≤ o → WritesWhere T whole result first last m o
broke_second {T} {result} {first} {middle} {last} {m} {n} {o} a b whole is err w front rose later =
    print_err (λ (r : Result (Unit {0}) PrintFault). WritesWhere T whole r first last m o) result WriteFault err
    (subst (λ (text : List ℕ). WritesWhere T text (Err WriteFault) first last m o) (sym is) (record {
      all = λ told. tt;
      front = λ told. record {
        left = front.left;
        front = record {
          done = a ++ front.front.done;
          split = ap (λ (l : List ℕ). a ++ l) front.front.split ∙ sym (append_assoc a front.front.done front.left);
          grown = appends_then first middle last a front.front.done (w.all told) front.front.grown;
        };
      };
      cause = λ failed. subst (λ (k : ℕ). Rose k o) (w.kept (λ no. absurd (cc))) rose;
      kept = λ other. absurd (other refl);
      later = (let before = w.later in omega (arith, before, later));
    }))
