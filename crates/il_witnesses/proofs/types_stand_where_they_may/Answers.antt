use Rattle.il_witnesses.proofs.DeclarationRows.{boolean_subrange-row, other_external-row, array_input-row}
use Rattle.il_witnesses.proofs.types_stand_where_they_may.Goals as goal

pub returns-clause-of_boolean_subrange : goal.returns-clause-of_boolean_subrange
returns-clause-of_boolean_subrange k = boolean_subrange-row

pub returns-clause-of_other_external : goal.returns-clause-of_other_external
returns-clause-of_other_external k = other_external-row

pub returns-clause-of_array_input : goal.returns-clause-of_array_input
returns-clause-of_array_input k = array_input-row
