use Rattle.std.proofs.Common.{arith, subst}
use Rattle.il_syntax.specs.declared.tree.ProgramLine.{ProgramLine as Item}
use Rattle.base_maps.specs.NameMap.{empty}
use Rattle.il_statics.specs.Least.{IsLeast}
use Rattle.load_scope.proofs.Filled.{take_all}
use Rattle.load_declarations.specs.Again.{AgainFrom}
use Rattle.load_declarations.proofs.Againness.{so_far_none, so_far_next}
use Rattle.load_declarations.proofs.again.second_program_line.Goals as goal

pub loop-line-init : goal.loop-line-init
loop-line-init c = so_far_none (λ (x : Item). x.name.name) (λ x. x.place) 20 c.new-seen.result empty c.args.lines.now c.new-seen.ensures

pub loop-line-preserved : goal.loop-line-preserved
loop-line-preserved c =
    so_far_next (λ (x : Item). x.name.name) (λ x. x.place) 20 empty c.args.lines.now c.loop-line.line-index c.line-item.result c.as_str.result.now c.in_ok-again.again c.loop-line.found c.fault_if.result c.earlier-found.result c.loop-line.seen c.see.new.seen
    (omega arith) c.line-item.is c.as_str.ensures c.in_ok-again.ensures.again c.in_ok-again.ensures.seen c.fault_if.ensures c.earlier-found.ensures c.loop-line.invariant

pub returns : goal.returns
returns c = subst (λ l. IsLeast c.loop-line.found (AgainFrom (λ (x : Item). x.name.name) (λ x. x.place) 20 empty l)) (take_all c.args.lines.now c.loop-line.line-index (omega arith)) c.loop-line.invariant.least
