use Rattle.std.proofs.Common.{sym, subst}
use Rattle.il_syntax.specs.declared.tree.Config.{Config}
use Rattle.il_statics.specs.Faults.{BreaksDeclarations, Broken, Typing, HasNoFault}
use Rattle.reasons_ranges.proofs.ranges.ordered_told.Goals as goal

pub units_told-requires-clause-declared : goal.units_told-requires-clause-declared
units_told-requires-clause-declared c = subst (λ (k : Config). HasNoFault (BreaksDeclarations k)) (sym c.names.ensures) c.config-config.ensures.declared

pub units_told-requires-clause-typed : goal.units_told-requires-clause-typed
units_told-requires-clause-typed c = subst (λ (k : Config). HasNoFault (Broken Typing k)) (sym c.names.ensures) c.config-config.ensures.typed
