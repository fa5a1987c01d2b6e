use Rattle.std.proofs.Common.{◌∙◌, ap, map}
use Rattle.std.proofs.lemmas.List.{take_all}
use Rattle.group_world.proofs.Sharing.{denials_map}
use Rattle.group_world.proofs.calling.report_denials.Goals as goal

pub returns : goal.returns
returns c = c.rules.invariant ∙ ap (map (λ rule. record { car = c.args.car; rule = rule })) (take_all c.rules.rule-index c.args.rules.now c.rules-test.false) ∙ denials_map c.args.car c.args.rules.now
