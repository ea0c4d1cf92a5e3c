-- Vectors, by the lists that they hold.
use Rattle.std.proofs.Common.{◌≡◌, List, length, drop, sym, ◌∙◌}
use Rattle.std.specs.Global.{Vec}
use Rattle.std.specs.Vec.{with_items}
use Rattle.std.proofs.lemmas.List.{take_at}

-- a vector holds the list that was written over it
pub items_written : {X : Type 0} (v : Vec X) (values : List X) → length values ≡ length v.items → (with_items v values).items ≡ values
items_written v values same = take_at values (drop (length values) v.items) v.len (same ∙ sym v.ok.0)
