use Rattle.il_witnesses.proofs.FirstRows.{predeclared_unit-first}
use Rattle.il_witnesses.proofs.DeclarationRows.{two_units-row, variable_as_unit-row, predeclared_variable-row, label_twice-row, two_globals-row, global_as_unit-row, predeclared_global-row, task_twice-row, line_twice-row}
use Rattle.il_witnesses.proofs.names_are_declared_once.Goals as goal

pub returns-clause-of_predeclared_unit : goal.returns-clause-of_predeclared_unit
returns-clause-of_predeclared_unit k = predeclared_unit-first

pub returns-clause-of_two_units : goal.returns-clause-of_two_units
returns-clause-of_two_units k = two_units-row

pub returns-clause-of_variable_as_unit : goal.returns-clause-of_variable_as_unit
returns-clause-of_variable_as_unit k = variable_as_unit-row

pub returns-clause-of_predeclared_variable : goal.returns-clause-of_predeclared_variable
returns-clause-of_predeclared_variable k = predeclared_variable-row

pub returns-clause-of_label_twice : goal.returns-clause-of_label_twice
returns-clause-of_label_twice k = label_twice-row

pub returns-clause-of_two_globals : goal.returns-clause-of_two_globals
returns-clause-of_two_globals k = two_globals-row

pub returns-clause-of_global_as_unit : goal.returns-clause-of_global_as_unit
returns-clause-of_global_as_unit k = global_as_unit-row

pub returns-clause-of_predeclared_global : goal.returns-clause-of_predeclared_global
returns-clause-of_predeclared_global k = predeclared_global-row

pub returns-clause-of_task_twice : goal.returns-clause-of_task_twice
returns-clause-of_task_twice k = task_twice-row

pub returns-clause-of_line_twice : goal.returns-clause-of_line_twice
returns-clause-of_line_twice k = line_twice-row
