use Rattle.il_witnesses.proofs.FirstRows.{negated_number-first, added_boolean-first}
use Rattle.il_witnesses.proofs.kinds_agree.Goals as goal

pub returns-clause-of_negated_number : goal.returns-clause-of_negated_number
returns-clause-of_negated_number k = negated_number-first

pub returns-clause-of_added_boolean : goal.returns-clause-of_added_boolean
returns-clause-of_added_boolean k = added_boolean-first
