use Rattle.std.proofs.Common.{◌∙◌, arith, subst, ap}
use Rattle.std.specs.Prelude.{flat_map}
use Rattle.il_syntax.specs.declared.tree.Declaration.{Declaration}
use Rattle.il_syntax.specs.declared.tree.Named.{Named}
use Rattle.il_statics.specs.Least.{IsLeast}
use Rattle.load_scope.proofs.Filled.{take_all}
use Rattle.load_declarations.specs.Again.{NamedAgain, after}
use Rattle.load_declarations.proofs.Againness.{so_far_nothing, so_far_lists}
use Rattle.load_declarations.proofs.again.again_declared.Goals as goal

pub loop-declaration-init : goal.loop-declaration-init
loop-declaration-init c = so_far_nothing (λ (n : Named). n.name) (λ n. n.place) 20 c.args.seen.now

pub loop-declaration-preserved : goal.loop-declaration-preserved
loop-declaration-preserved c =
    so_far_lists (λ (n : Named). n.name) (λ n. n.place) 20 (λ (x : Declaration). x.names) c.args.seen.now c.args.declarations.now c.loop-declaration.declaration-index c.declaration-item.result c.as_slice.result.now c.loop-declaration.found c.in_ok-again.again c.earlier-found.result c.loop-declaration.seen c.again_named.new.seen
    (omega arith) c.declaration-item.is c.as_slice.ensures c.in_ok-again.ensures.found c.in_ok-again.ensures.seen c.earlier-found.ensures c.loop-declaration.invariant

pub returns-clause-found : goal.returns-clause-found
returns-clause-found c = subst (λ l. IsLeast c.loop-declaration.found (NamedAgain c.args.seen.now (flat_map (λ (x : Declaration). x.names) l))) (take_all c.args.declarations.now c.loop-declaration.declaration-index (omega arith)) c.loop-declaration.invariant.least

pub returns-clause-seen : goal.returns-clause-seen
returns-clause-seen c = c.loop-declaration.invariant.seen_is ∙ ap (λ l. after c.args.seen.now (flat_map (λ (x : Declaration). x.names) l)) (take_all c.args.declarations.now c.loop-declaration.declaration-index (omega arith))
