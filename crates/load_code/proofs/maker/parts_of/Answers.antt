use Rattle.std.proofs.Common.{sym, subst}
use Rattle.il_statics.specs.Written.{IsWritten}
use Rattle.load_code.proofs.Contained.{declared_along, typed_along, ordered_along}
use Rattle.load_code.proofs.maker.parts_of.Goals as goal

pub parts_by-requires-clause-declared : goal.parts_by-requires-clause-declared
parts_by-requires-clause-declared c = declared_along c.args.ordered.now c.names.result.now (sym c.names.ensures) c.config-config.ensures.declared

pub parts_by-requires-clause-typed : goal.parts_by-requires-clause-typed
parts_by-requires-clause-typed c = typed_along c.args.ordered.now c.names.result.now (sym c.names.ensures) c.config-config.ensures.typed

pub parts_by-requires-clause-ordered : goal.parts_by-requires-clause-ordered
parts_by-requires-clause-ordered c = ordered_along c.args.ordered.now c.names.result.now (sym c.names.ensures) c.config-config.ensures.ordered

pub parts_by-requires-clause-written : goal.parts_by-requires-clause-written
parts_by-requires-clause-written c = subst IsWritten (sym c.names.ensures) c.config-config.ensures.written
