use Rattle.std.proofs.Common.{sym, ◌∙◌}
use Rattle.reasons_faults.specs.Reasons.{of_ranges}
use Rattle.reasons_names.proofs.Pieces.{if_ok}
use Rattle.reasons_faults.proofs.reason.Goals as goal

pub returns-then-is_of_ranges : goal.returns-then-is_of_ranges
returns-then-is_of_ranges c = if_ok c.told.result _ _ (λ lines told. of_ranges (sym c.is_of_ranges.ensures ∙ c.if-is_of_ranges.true) told) c.told.ensures
