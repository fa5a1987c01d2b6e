use Rattle.std.proofs.Common.{◌∙◌, ap, arith}
use Rattle.il_syntax.specs.declared.tree.Config.{Config}
use Rattle.load_code.proofs.Lined.{task_there, none_there, framed_many}
use Rattle.load_code.proofs.placing.task_of.Goals as goal

pub returns-then-at-units : goal.returns-then-at-units
returns-then-at-units c = λ p found accepted. absurd (none_there c.args.blocks.now.names.now c.as_slice-units.result.now c.args.at p (c.as_slice-units.ensures ∙ ap (λ (x : Config). x.units) c.config.ensures) (omega arith) found)

pub unit_task-requires : goal.unit_task-requires
unit_task-requires c = framed_many c.args.blocks.now.names.now c.args.ordered.now c.in_ok-framed.framed c.as_slice.result.now c.requires c.in_ok-framed.ensures.count c.as_slice.ensures

pub returns : goal.returns
returns c =
    let same = c.as_slice-units.ensures ∙ ap (λ (x : Config). x.units) c.config.ensures in λ p found accepted.
    task_there c.args.blocks.now.names.now c.args.ordered.now c.as_slice-units.result.now c.args.at c.index-units-at.result c.in_ok-framed.framed c.as_slice.result.now c.in_ok-task-2.task c.requires same c.if-at-units.false c.index-units-at.is
    c.in_ok-framed.ensures.framed c.as_slice.ensures c.in_ok-task-2.ensures p found accepted
