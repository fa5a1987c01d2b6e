use Rattle.il_statics.specs.Names.{form_named}
use Rattle.load_scope.proofs.unit.UnitScope.scalar.Goals as goal

pub returns : goal.returns
returns c = c.scalar_if.ensures c.args.self.now.config (form_named c.args.self.now.config c.args.self.now.unit c.args.name.now) c.declared_type.ensures
