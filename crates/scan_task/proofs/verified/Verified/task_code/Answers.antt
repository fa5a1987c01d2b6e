use Rattle.std.proofs.Common.{◌∙◌, ap, subst, length, slice_get, arith}
use Rattle.il_syntax.specs.declared.tree.Config.{Config}
use Rattle.il_semantics.specs.Scan.{program_of}
use Rattle.load_code.specs.Tasks.{IsTaskOf as IsTaskCode}
use Rattle.scan_task.proofs.verified.Verified.task_code.Goals as goal

pub task-requires : goal.task-requires
task-requires c =
    let s = c.plan.ensures c.requires.0 c.requires.1.program in
    let low = s.within in
    let same = ap (λ (k : Config). length k.programs) c.code.ensures.same in omega (arith, low, same)

pub returns-clause-code : goal.returns-clause-code
returns-clause-code c = λ u is.
    let code = c.code.ensures.same in
    subst (λ k. IsTaskCode k u c.task.result.now) code (c.task.ensures.is u (ap (λ (k : Config). program_of k (slice_get k.programs c.plan.result.now.line)) code ∙ (c.plan.ensures u is).line))
