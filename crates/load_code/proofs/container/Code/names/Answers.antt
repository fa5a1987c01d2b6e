use Rattle.load_code.proofs.Contained.{declared_along, typed_along, ordered_along}
use Rattle.load_code.proofs.container.Code.names.Goals as goal

pub returns-clause-declared : goal.returns-clause-declared
returns-clause-declared c = declared_along c.self.inside.ordered c.args.self.now c.self.view_is c.self.invariant.0.declared

pub returns-clause-typed : goal.returns-clause-typed
returns-clause-typed c = typed_along c.self.inside.ordered c.args.self.now c.self.view_is c.self.invariant.0.typed

pub returns-clause-ordered : goal.returns-clause-ordered
returns-clause-ordered c = ordered_along c.self.inside.ordered c.args.self.now c.self.view_is c.self.invariant.0.ordered
