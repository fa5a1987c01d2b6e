use Rattle.il_witnesses.proofs.DeclarationRows.{empty_subrange-row, wrong_element-row}
use Rattle.il_witnesses.proofs.ranges_are_not_empty.Goals as goal

pub returns-clause-of_empty_subrange : goal.returns-clause-of_empty_subrange
returns-clause-of_empty_subrange k = empty_subrange-row

pub returns-clause-of_wrong_element : goal.returns-clause-of_wrong_element
returns-clause-of_wrong_element k = wrong_element-row
