use Rattle.std.proofs.Common.{arith, map, subst}
use Rattle.load_scope.proofs.Filled.{take_all}
use Rattle.load_declarations.specs.TaskRules.{IsSet}
use Rattle.load_declarations.proofs.Lists.{set_none, set_next}
use Rattle.load_declarations.proofs.sets.lines_programs.Goals as goal

pub loop-line-init : goal.loop-line-init
loop-line-init c = set_none (λ t. t.program.name) c.args.lines.now c.new-set.result c.new-set.ensures

pub loop-line-preserved : goal.loop-line-preserved
loop-line-preserved c = set_next (λ t. t.program.name) c.args.lines.now c.loop-line.line-index c.line-item.result c.as_str.result.now _ c.loop-line.set c.put.new.self (omega arith) c.line-item.is c.as_str.ensures c.in_ok-put.ensures.ok c.loop-line.invariant

pub returns : goal.returns
returns c = subst (λ l. IsSet (map (λ t. t.program.name) l) c.loop-line.set) (take_all c.args.lines.now c.loop-line.line-index (omega arith)) c.loop-line.invariant
