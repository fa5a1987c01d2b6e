use Rattle.std.proofs.Common.{sym, ap, ◌∙◌}
use Rattle.il_statics.specs.Types.{label_place}
use Rattle.ranges_laws.specs.Steps.{has_condition, jumping_to, is_bare}
use Rattle.ranges_transfer.proofs.Steps.{goes_to}
use Rattle.ranges_transfer.proofs.instructions.jumped.Goals as goal

pub returns-in_ok-jumping_to-in-Some : goal.returns-in_ok-jumping_to-in-Some
returns-in_ok-jumping_to-in-Some g c =
    let f = c.args.facts in
    c.in_ok-jumping_to-in-Some.ensures
    ∙ ap (jumping_to c.args.condition f) (sym c.in-Some.is ∙ c.target_of.ensures)
    ∙ sym (goes_to (is_bare f.deferred) (has_condition c.args.condition f.result) c.args.condition f (label_place (g.S.Scope.names c.args.scope.now).unit.body c.args.label.now))

pub returns-in-None : goal.returns-in-None
returns-in-None g c =
    let f = c.args.facts in
    ap (jumping_to c.args.condition f) (sym c.in-None.is ∙ c.target_of.ensures)
    ∙ sym (goes_to (is_bare f.deferred) (has_condition c.args.condition f.result) c.args.condition f (label_place (g.S.Scope.names c.args.scope.now).unit.body c.args.label.now))
