-- Whether some element of a list is of a kind, by the elements at the places.
use Rattle.std.proofs.Common.{ℕ, ◌<◌, List, length, get_or, pos, sym, subst, ◌∙◌}
use Rattle.std.specs.List.{Any}
use Rattle.std.proofs.lemmas.List.{get_or_default}
use Rattle.dd_kernels.specs.declared.signature.Mode.TheVariants.{Read}
use Rattle.dd_views.specs.declared.part.Part.TheVariants.{All}
use Rattle.dd_blocks.specs.declared.access_row.AccessRow.{AccessRow}

-- what stands for no access in a list
abbrev pub no_access : AccessRow
no_access = record {
  view = record { array = 0; height = 0; rows = record { first = 0; step = pos 0; count = 0 }; cols = record { first = 0; step = pos 0; count = 0 }; part = All };
  mode = Read;
}

pub any_at : {X : Type 0} (P : X → Type 0) (xs : List X) (k : ℕ) (d : X) → k < length xs → P (get_or xs k d) → Any P xs
any_at P xs k d within holds = (k, get_or xs k d, within, get_or_default xs k (get_or xs k d) d within, holds)

pub none_any : {X : Type 0} (P : X → Type 0) (xs : List X) (d : X) → ((k : ℕ) → k < length xs → ¬ P (get_or xs k d)) → ¬ Any P xs
none_any P xs d none any = none any.0 any.2 (subst P (sym any.3 ∙ get_or_default xs any.0 any.1 d any.2) any.4)
