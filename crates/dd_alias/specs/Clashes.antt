-- Which accesses keep their order.
use Rattle.std.specs.Prelude.{◌≡◌, ◌⊎◌, true, List, Any}
use Rattle.dd_blocks.specs.declared.access_row.AccessRow.{AccessRow}
use Rattle.dd_blocks.specs.Elements.{writes}
use Rattle.dd_alias.specs.Overlap.{Overlaps}

-- one of both writes, and they share an element
abbrev pub Clash : AccessRow → AccessRow → Type 0
Clash a b = ((writes a.mode ≡ true) ⊎ (writes b.mode ≡ true)) × Overlaps a.view b.view

abbrev pub ClashesWithSome : AccessRow → List AccessRow → Type 0
ClashesWithSome a others = Any (λ (b : AccessRow). Clash a b) others
