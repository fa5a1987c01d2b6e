use Rattle.std.proofs.Common.{rules}
use Rattle.il_statics.proofs.elementary.limits.Goals as goal

pub returns-in-Bool : goal.returns-in-Bool
returns-in-Bool c = search rules

pub returns-in-Sint : goal.returns-in-Sint
returns-in-Sint c = search rules

pub returns-in-Int : goal.returns-in-Int
returns-in-Int c = search rules

pub returns-in-Dint : goal.returns-in-Dint
returns-in-Dint c = search rules

pub returns-in-Usint : goal.returns-in-Usint
returns-in-Usint c = search rules

pub returns-in-Uint : goal.returns-in-Uint
returns-in-Uint c = search rules

pub returns-in-Udint : goal.returns-in-Udint
returns-in-Udint c = search rules

pub returns-in-Time : goal.returns-in-Time
returns-in-Time c = search rules
