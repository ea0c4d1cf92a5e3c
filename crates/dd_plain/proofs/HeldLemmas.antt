-- What is held of two or three accesses, as the vectors of a slice that was cut in two.
use Rattle.std.proofs.Common.{◌≡◌, ℤ, Bool, List, [], ◌∷◌, ◌++◌, length, take, drop, get_or, set, ap, subst, ◌∙◌}
use Rattle.std.specs.Global.{Vec}
use Rattle.std.specs.Vec.{with_items}
use Rattle.dd_kernels.specs.declared.kernel.Kernel.{Kernel}
use Rattle.dd_blocks.specs.declared.access_row.AccessRow.{AccessRow}
use Rattle.dd_blocks.specs.Tasks.{kernel_shape, shapes_in}
use Rattle.dd_plain.specs.Lending.{AreHeld, IsHeld, all_places, places_in}
use Rattle.dd_plain.specs.Lists.{lists_of}
use Rattle.dd_plain.specs.Runs.{Wrote}
use Rattle.dd_lists.proofs.VectorsLemmas.{items_written}

pub two_wrote : {k : Kernel} {scalar : ℤ} (lent : AccessRow → Bool) (accesses : List AccessRow) (x y : AccessRow) (held first rest : List (Vec ℤ)) (d e : Vec ℤ) (old_x old_y new_x new_y : List ℤ) → accesses ≡ x ∷ y ∷ [] → AreHeld lent accesses (lists_of held) → first ≡ take 1 held → rest ≡ drop 1 held → old_x ≡ (get_or first 0 d).items → old_y ≡ (get_or rest 0 e).items → length new_x ≡ length old_x → length new_y ≡ length old_y → Wrote k scalar (kernel_shape x.view ∷ kernel_shape y.view ∷ []) (places_in lent x (length old_x) ∷ places_in lent y (length old_y) ∷ []) (old_x ∷ old_y ∷ []) (new_x ∷ new_y ∷ []) → Wrote k scalar (shapes_in accesses) (all_places lent accesses (lists_of held)) (lists_of held) (lists_of (set first 0 (with_items (get_or first 0 d) new_x) ++ set rest 0 (with_items (get_or rest 0 e) new_y)))
two_wrote lent accesses x y [] first rest d e old_x old_y new_x new_y two are_held front back x_is y_is x_long y_long wrote = absurd (subst (λ (l : List AccessRow). AreHeld lent l []) two are_held)
two_wrote lent accesses x y (v ∷ []) first rest d e old_x old_y new_x new_y two are_held front back x_is y_is x_long y_long wrote = absurd (subst (λ (l : List AccessRow). AreHeld lent l (v.items ∷ [])) two are_held).1
two_wrote lent accesses x y (v ∷ w ∷ u ∷ more) first rest d e old_x old_y new_x new_y two are_held front back x_is y_is x_long y_long wrote = absurd (subst (λ (l : List AccessRow). AreHeld lent l (v.items ∷ w.items ∷ lists_of (u ∷ more))) two are_held).1.1
two_wrote lent accesses x y (v ∷ w ∷ []) first rest d e old_x old_y new_x new_y two are_held front back x_is y_is x_long y_long wrote =
    let x_held : old_x ≡ v.items = x_is ∙ ap (λ (l : List (Vec ℤ)). (get_or l 0 d).items) front in
    let y_held : old_y ≡ w.items = y_is ∙ ap (λ (l : List (Vec ℤ)). (get_or l 0 e).items) back in
    let x_new = items_written v new_x (x_long ∙ ap length x_held) in
    let y_new = items_written w new_y (y_long ∙ ap length y_held) in
    rw (two, front, back, x_new, y_new) (rw (x_held, y_held) at wrote)

pub three_held : (lent : AccessRow → Bool) (accesses : List AccessRow) (x y z : AccessRow) (held rest : List (Vec ℤ)) (e f : Vec ℤ) → accesses ≡ x ∷ y ∷ z ∷ [] → AreHeld lent accesses (lists_of held) → rest ≡ drop 1 held → IsHeld lent y (length (get_or rest 0 e).items) × IsHeld lent z (length (get_or rest 1 f).items)
three_held lent accesses x y z [] rest e f three are_held back = absurd (subst (λ (l : List AccessRow). AreHeld lent l []) three are_held)
three_held lent accesses x y z (v ∷ []) rest e f three are_held back = absurd (subst (λ (l : List AccessRow). AreHeld lent l (v.items ∷ [])) three are_held).1
three_held lent accesses x y z (v ∷ w ∷ []) rest e f three are_held back = absurd (subst (λ (l : List AccessRow). AreHeld lent l (v.items ∷ w.items ∷ [])) three are_held).1.1
three_held lent accesses x y z (v ∷ w ∷ u ∷ more) rest e f three are_held back =
    let all : AreHeld lent (x ∷ y ∷ z ∷ []) (v.items ∷ w.items ∷ u.items ∷ lists_of more) = subst (λ (l : List AccessRow). AreHeld lent l (v.items ∷ w.items ∷ u.items ∷ lists_of more)) three are_held in
    rw back (all.1.0, all.1.1.0)

pub three_wrote : {k : Kernel} {scalar : ℤ} (lent : AccessRow → Bool) (accesses : List AccessRow) (x y z : AccessRow) (held first rest : List (Vec ℤ)) (d e f : Vec ℤ) (old_x old_y old_z new_x : List ℤ) → accesses ≡ x ∷ y ∷ z ∷ [] → AreHeld lent accesses (lists_of held) → first ≡ take 1 held → rest ≡ drop 1 held → old_x ≡ (get_or first 0 d).items → old_y ≡ (get_or rest 0 e).items → old_z ≡ (get_or rest 1 f).items → length new_x ≡ length old_x → Wrote k scalar (kernel_shape x.view ∷ kernel_shape y.view ∷ kernel_shape z.view ∷ []) (places_in lent x (length old_x) ∷ places_in lent y (length old_y) ∷ places_in lent z (length old_z) ∷ []) (old_x ∷ old_y ∷ old_z ∷ []) (new_x ∷ old_y ∷ old_z ∷ []) → Wrote k scalar (shapes_in accesses) (all_places lent accesses (lists_of held)) (lists_of held) (lists_of (set first 0 (with_items (get_or first 0 d) new_x) ++ rest))
three_wrote lent accesses x y z [] first rest d e f old_x old_y old_z new_x three are_held front back x_is y_is z_is x_long wrote = absurd (subst (λ (l : List AccessRow). AreHeld lent l []) three are_held)
three_wrote lent accesses x y z (v ∷ []) first rest d e f old_x old_y old_z new_x three are_held front back x_is y_is z_is x_long wrote = absurd (subst (λ (l : List AccessRow). AreHeld lent l (v.items ∷ [])) three are_held).1
three_wrote lent accesses x y z (v ∷ w ∷ []) first rest d e f old_x old_y old_z new_x three are_held front back x_is y_is z_is x_long wrote = absurd (subst (λ (l : List AccessRow). AreHeld lent l (v.items ∷ w.items ∷ [])) three are_held).1.1
three_wrote lent accesses x y z (v ∷ w ∷ u ∷ t ∷ more) first rest d e f old_x old_y old_z new_x three are_held front back x_is y_is z_is x_long wrote = absurd (subst (λ (l : List AccessRow). AreHeld lent l (v.items ∷ w.items ∷ u.items ∷ lists_of (t ∷ more))) three are_held).1.1.1
three_wrote lent accesses x y z (v ∷ w ∷ u ∷ []) first rest d e f old_x old_y old_z new_x three are_held front back x_is y_is z_is x_long wrote =
    let x_held : old_x ≡ v.items = x_is ∙ ap (λ (l : List (Vec ℤ)). (get_or l 0 d).items) front in
    let y_held : old_y ≡ w.items = y_is ∙ ap (λ (l : List (Vec ℤ)). (get_or l 0 e).items) back in
    let z_held : old_z ≡ u.items = z_is ∙ ap (λ (l : List (Vec ℤ)). (get_or l 1 f).items) back in
    let x_new = items_written v new_x (x_long ∙ ap length x_held) in
    rw (three, front, back, x_new) (rw (x_held, y_held, z_held) at wrote)
