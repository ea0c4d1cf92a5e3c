-- A kernel leaves what it only reads.
use Rattle.std.proofs.Common.{◌≡◌, ℤ, true, false, List, [], ◌∷◌, refl}
use Rattle.std.specs.List.{AllZip}
use Rattle.dd_kernels.specs.declared.kernel.Kernel.{Kernel}
use Rattle.dd_kernels.specs.declared.kernel.Kernel.TheVariants.{Fill, Addk, Scale, Copy, Copyt, Add, Sub, Mul, Axpy, Xor, Min, Max, Neg, Rev, Rot, Sort, Scan, Sum, Dot, Swap, Iota, Gemm, Gemv, Stencil5, Trmv, TrsvUnit, TrsmUnit, Mirror, SyrkPacked}
use Rattle.dd_kernels.specs.declared.shape.Shape.{Shape}
use Rattle.dd_kernels.specs.declared.signature.Mode.{Mode}
use Rattle.dd_kernels.specs.declared.signature.Mode.TheVariants.{Read, Write, Both}
use Rattle.dd_kernels.specs.Signatures.{modes_of}
use Rattle.dd_kernels.specs.Table.{results, into_one, into_first, into_first_of_three, into_second, exchanged}
use Rattle.dd_blocks.specs.Elements.{writes}
use Rattle.dd_blocks.specs.Tasks.{MayBe}

-- a list that is only read is the same after as before
abbrev pub StayWhereRead : List Mode → List (List ℤ) → List (List ℤ) → Type 0
StayWhereRead [] before after = Unit {0}
StayWhereRead (m ∷ ms) [] after = Unit {0}
StayWhereRead (m ∷ ms) (x ∷ before) [] = Unit {0}
StayWhereRead (m ∷ ms) (x ∷ before) (y ∷ after) = (writes m ≡ false → y ≡ x) × StayWhereRead ms before after

all_stay : (ms : List Mode) (lists : List (List ℤ)) → StayWhereRead ms lists lists
all_stay [] lists = tt
all_stay (m ∷ ms) [] = tt
all_stay (m ∷ ms) (x ∷ lists) = ((λ e. refl), all_stay ms lists)

-- an access that the kernel writes is written
pub written : (m : Mode) → MayBe Both m → writes m ≡ true
written Read h = absurd h
written Write h = absurd h
written Both h = refl

also_written : (m : Mode) → MayBe Write m → writes m ≡ true
also_written Read h = absurd h
also_written Write h = refl
also_written Both h = refl

abbrev FirstIsWritten : List Mode → Type 0
FirstIsWritten [] = Unit {0}
FirstIsWritten (m ∷ ms) = writes m ≡ true

first_both : (ms more : List Mode) → AllZip MayBe (Both ∷ more) ms → FirstIsWritten ms
first_both [] more h = tt
first_both (m ∷ ms) more h = written m h.0

first_write : (ms more : List Mode) → AllZip MayBe (Write ∷ more) ms → FirstIsWritten ms
first_write [] more h = tt
first_write (m ∷ ms) more h = also_written m h.0

rest_stays : (ms : List Mode) (x y : List ℤ) (rest : List (List ℤ)) → FirstIsWritten ms → StayWhereRead ms (x ∷ rest) (y ∷ rest)
rest_stays [] x y rest first = tt
rest_stays (m ∷ ms) x y rest first = ((λ e. absurd (cc)), all_stay ms rest)

one : (f : Shape → List ℤ → List ℤ) (ms : List Mode) (ss : List Shape) (lists : List (List ℤ)) → FirstIsWritten ms → StayWhereRead ms lists (into_one f ss lists)
one f ms [] lists first = all_stay ms lists
one f ms (s ∷ ss) [] first = all_stay ms []
one f ms (s ∷ ss) (x ∷ rest) first = rest_stays ms x _ rest first

two : (f : Shape → Shape → List ℤ → List ℤ → List ℤ) (ms : List Mode) (ss : List Shape) (lists : List (List ℤ)) → FirstIsWritten ms → StayWhereRead ms lists (into_first f ss lists)
two f ms [] lists first = all_stay ms lists
two f ms (s ∷ []) lists first = all_stay ms lists
two f ms (s ∷ t ∷ ss) [] first = all_stay ms []
two f ms (s ∷ t ∷ ss) (x ∷ []) first = all_stay ms (x ∷ [])
two f ms (s ∷ t ∷ ss) (x ∷ y ∷ rest) first = rest_stays ms x _ (y ∷ rest) first

three : (f : Shape → Shape → Shape → List ℤ → List ℤ → List ℤ → List ℤ) (ms : List Mode) (ss : List Shape) (lists : List (List ℤ)) → FirstIsWritten ms → StayWhereRead ms lists (into_first_of_three f ss lists)
three f ms [] lists first = all_stay ms lists
three f ms (s ∷ []) lists first = all_stay ms lists
three f ms (s ∷ t ∷ []) lists first = all_stay ms lists
three f ms (s ∷ t ∷ u ∷ ss) [] first = all_stay ms []
three f ms (s ∷ t ∷ u ∷ ss) (x ∷ []) first = all_stay ms (x ∷ [])
three f ms (s ∷ t ∷ u ∷ ss) (x ∷ y ∷ []) first = all_stay ms (x ∷ y ∷ [])
three f ms (s ∷ t ∷ u ∷ ss) (x ∷ y ∷ z ∷ rest) first = rest_stays ms x _ (y ∷ z ∷ rest) first

both : (ms : List Mode) (lists : List (List ℤ)) → AllZip MayBe (Both ∷ Both ∷ []) ms → StayWhereRead ms lists (exchanged lists)
both [] lists h = tt
both (m ∷ []) lists h = absurd h.1
both (m ∷ n ∷ ms) [] h = tt
both (m ∷ n ∷ ms) (x ∷ []) h = all_stay (m ∷ n ∷ ms) (x ∷ [])
both (m ∷ n ∷ ms) (x ∷ y ∷ rest) h =
    let first = written m h.0 in
    let second = written n h.1.0 in
    ((λ e. absurd (cc)), ((λ e. absurd (cc)), all_stay ms rest))

second : (f : List ℤ → List ℤ) (ms : List Mode) (lists : List (List ℤ)) → AllZip MayBe (Read ∷ Write ∷ []) ms → StayWhereRead ms lists (into_second f lists)
second f [] lists h = tt
second f (m ∷ []) lists h = absurd h.1
second f (m ∷ n ∷ ms) [] h = tt
second f (m ∷ n ∷ ms) (x ∷ []) h = all_stay (m ∷ n ∷ ms) (x ∷ [])
second f (m ∷ n ∷ ms) (x ∷ y ∷ rest) h =
    let later = also_written n h.1.0 in
    ((λ e. refl), ((λ e. absurd (cc)), all_stay ms rest))

pub reads_stay : (k : Kernel) (scalar : ℤ) (ss : List Shape) (ms : List Mode) (lists : List (List ℤ)) → AllZip MayBe (modes_of k) ms → StayWhereRead ms lists (results k scalar ss lists)
reads_stay Fill scalar ss ms lists h = one _ ms ss lists (first_write ms [] h)
reads_stay Addk scalar ss ms lists h = one _ ms ss lists (first_both ms [] h)
reads_stay Scale scalar ss ms lists h = one _ ms ss lists (first_both ms [] h)
reads_stay Copy scalar ss ms lists h = two _ ms ss lists (first_write ms (Read ∷ []) h)
reads_stay Copyt scalar ss ms lists h = two _ ms ss lists (first_write ms (Read ∷ []) h)
reads_stay Add scalar ss ms lists h = two _ ms ss lists (first_both ms (Read ∷ []) h)
reads_stay Sub scalar ss ms lists h = two _ ms ss lists (first_both ms (Read ∷ []) h)
reads_stay Mul scalar ss ms lists h = two _ ms ss lists (first_both ms (Read ∷ []) h)
reads_stay Axpy scalar ss ms lists h = two _ ms ss lists (first_both ms (Read ∷ []) h)
reads_stay Xor scalar ss ms lists h = two _ ms ss lists (first_both ms (Read ∷ []) h)
reads_stay Min scalar ss ms lists h = two _ ms ss lists (first_both ms (Read ∷ []) h)
reads_stay Max scalar ss ms lists h = two _ ms ss lists (first_both ms (Read ∷ []) h)
reads_stay Neg scalar ss ms lists h = one _ ms ss lists (first_both ms [] h)
reads_stay Rev scalar ss ms lists h = one _ ms ss lists (first_both ms [] h)
reads_stay Rot scalar ss ms lists h = one _ ms ss lists (first_both ms [] h)
reads_stay Sort scalar ss ms lists h = one _ ms ss lists (first_both ms [] h)
reads_stay Scan scalar ss ms lists h = one _ ms ss lists (first_both ms [] h)
reads_stay Sum scalar ss ms lists h = two _ ms ss lists (first_write ms (Read ∷ []) h)
reads_stay Dot scalar ss ms lists h = three _ ms ss lists (first_write ms (Read ∷ Read ∷ []) h)
reads_stay Swap scalar ss ms lists h = both ms lists h
reads_stay Iota scalar ss ms lists h = one _ ms ss lists (first_write ms [] h)
reads_stay Gemm scalar ss ms lists h = three _ ms ss lists (first_both ms (Read ∷ Read ∷ []) h)
reads_stay Gemv scalar ss ms lists h = three _ ms ss lists (first_both ms (Read ∷ Read ∷ []) h)
reads_stay Stencil5 scalar ss ms lists h = two _ ms ss lists (first_write ms (Read ∷ []) h)
reads_stay Trmv scalar ss ms lists h = two _ ms ss lists (first_both ms (Read ∷ []) h)
reads_stay TrsvUnit scalar ss ms lists h = two _ ms ss lists (first_both ms (Read ∷ []) h)
reads_stay TrsmUnit scalar ss ms lists h = two _ ms ss lists (first_both ms (Read ∷ []) h)
reads_stay Mirror scalar ss ms lists h = second _ ms lists h
reads_stay SyrkPacked scalar ss ms lists h = two _ ms ss lists (first_both ms (Read ∷ []) h)
