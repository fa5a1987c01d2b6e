use Rattle.il_witnesses.proofs.DeclarationRows.{unknown_task-row, two_lines-row, unknown_program-row, two_roles-row, missing_car-row, missing_line-row, unused_program-row}
use Rattle.il_witnesses.proofs.tasks_run_the_group.Goals as goal

pub returns-clause-of_unknown_task : goal.returns-clause-of_unknown_task
returns-clause-of_unknown_task k = unknown_task-row

pub returns-clause-of_two_lines : goal.returns-clause-of_two_lines
returns-clause-of_two_lines k = two_lines-row

pub returns-clause-of_unknown_program : goal.returns-clause-of_unknown_program
returns-clause-of_unknown_program k = unknown_program-row

pub returns-clause-of_two_roles : goal.returns-clause-of_two_roles
returns-clause-of_two_roles k = two_roles-row

pub returns-clause-of_missing_car : goal.returns-clause-of_missing_car
returns-clause-of_missing_car k = missing_car-row

pub returns-clause-of_missing_line : goal.returns-clause-of_missing_line
returns-clause-of_missing_line k = missing_line-row

pub returns-clause-of_unused_program : goal.returns-clause-of_unused_program
returns-clause-of_unused_program k = unused_program-row
