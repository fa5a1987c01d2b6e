use Rattle.std.proofs.Common.{◌∙◌, sym, subst}
use Rattle.load_code.specs.Resolving.{IsSmall}
use Rattle.load_code.proofs.Resolve.{known_is, known_small}
use Rattle.load_code.proofs.here.Here.known.Goals as goal

pub returns-clause-is : goal.returns-clause-is
returns-clause-is c =
    let h = c.args.self.now in
    c.known_by.ensures ∙ known_is h.scope.config h.checked h.scope.unit h.there h.own.now h.offsets c.args.name.now c.declared_type.result c.get.result c.declared_type.ensures c.get.ensures

pub returns-clause-small : goal.returns-clause-small
returns-clause-small c =
    let h = c.args.self.now in
    subst IsSmall (sym (c.known_by.ensures ∙ known_is h.scope.config h.checked h.scope.unit h.there h.own.now h.offsets c.args.name.now c.declared_type.result c.get.result c.declared_type.ensures c.get.ensures)) (known_small h.scope.config h.checked h.scope.unit h.there c.args.name.now)
