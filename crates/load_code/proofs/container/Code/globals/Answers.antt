use Rattle.std.proofs.Common.{subst}
use Rattle.il_syntax.specs.declared.tree.Config.{Config}
use Rattle.load_code.specs.Tasks.{Belongs}
use Rattle.load_code.proofs.Lined.{shared_once}
use Rattle.load_code.proofs.Shared.{globals_along}
use Rattle.load_code.proofs.container.Code.globals.Goals as goal

pub returns-clause-is : goal.returns-clause-is
returns-clause-is c = globals_along c.self.inside.ordered c.args.self.now c.self.view_is c.self.inside.parts.globals c.self.invariant.1

pub returns-clause-once : goal.returns-clause-once
returns-clause-once c =
    let s = c.self.inside in
    shared_once c.args.self.now s.parts.units s.parts.tasks (subst (λ (k : Config). Belongs k s.parts.units s.parts.tasks) c.self.view_is c.self.invariant.0) s.parts.globals (globals_along s.ordered c.args.self.now c.self.view_is s.parts.globals c.self.invariant.1)
