-- The text of a script is that of its rows.
use Rattle.std.proofs.Common.{◌≡◌, [], ◌++◌, length}
use Rattle.std.specs.List.{flat_map, range_with_len}
use Rattle.std.proofs.lemmas.List.{append-nil}
use Rattle.dd_lists.proofs.ListsLemmas.{flat_map_same}
use Rattle.dd_blocks.specs.declared.plan.Plan.{Plan}
use Rattle.dd_meaning.specs.Text.{row_text, text_of}

pub text_of_rows : (plan : Plan) → text_of plan ≡ flat_map (row_text plan) (range_with_len 0 (length plan.statements))
text_of_rows plan = flat_map_same (λ i. row_text plan i ++ []) (row_text plan) (range_with_len 0 (length plan.statements)) (λ i. append-nil (row_text plan i))
