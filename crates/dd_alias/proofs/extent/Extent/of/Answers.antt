use Rattle.dd_alias.proofs.extent.Extent.of.Goals as goal

pub returns-then-not-has_rows_and_cols : goal.returns-then-not-has_rows_and_cols
returns-then-not-has_rows_and_cols c = c.if-not-has_rows_and_cols.ensures.none (λ yes. absurd (cc))
