use Rattle.std.proofs.Common.{subst, slice_get}
use Rattle.il_syntax.specs.declared.tree.Config.{Config}
use Rattle.load_code.specs.Tasks.{Belongs}
use Rattle.load_code.proofs.Contained.{task_along}
use Rattle.load_code.proofs.Lined.{task_once}
use Rattle.load_code.proofs.container.Code.task.Goals as goal

pub returns-clause-is : goal.returns-clause-is
returns-clause-is c =
    let s = c.self.inside in
    task_along s.ordered c.args.self.now c.self.view_is s.parts.units s.parts.tasks c.self.invariant.0 c.as_slice.result.now c.as_slice.ensures c.args.line c.index-as_slice-line.result c.requires c.index-as_slice-line.is

pub returns-clause-once : goal.returns-clause-once
returns-clause-once c = λ p found.
    let s = c.self.inside in
    task_once c.args.self.now s.parts.units s.parts.tasks (subst (λ (k : Config). Belongs k s.parts.units s.parts.tasks) c.self.view_is c.self.invariant.0) (slice_get c.args.self.now.programs c.args.line) c.index-as_slice-line.result p found
    (task_along s.ordered c.args.self.now c.self.view_is s.parts.units s.parts.tasks c.self.invariant.0 c.as_slice.result.now c.as_slice.ensures c.args.line c.index-as_slice-line.result c.requires c.index-as_slice-line.is p found)
