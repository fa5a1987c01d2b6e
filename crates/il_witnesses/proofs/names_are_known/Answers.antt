use Rattle.il_witnesses.proofs.DeclarationRows.{unknown_type-row, external_of_none-row, unknown_name-row}
use Rattle.il_witnesses.proofs.names_are_known.Goals as goal

pub returns-clause-of_unknown_type : goal.returns-clause-of_unknown_type
returns-clause-of_unknown_type k = unknown_type-row

pub returns-clause-of_external_of_none : goal.returns-clause-of_external_of_none
returns-clause-of_external_of_none k = external_of_none-row

pub returns-clause-of_unknown_name : goal.returns-clause-of_unknown_name
returns-clause-of_unknown_name k = unknown_name-row
