use Rattle.std.proofs.Common.{arith}
use Rattle.il_syntax.specs.declared.tree.Step.{Step}
use Rattle.il_statics.specs.Types.{stored_names}
use Rattle.base_maps.specs.NameMap.{empty}
use Rattle.load_scope.specs.StoredNames.{is_stored}
use Rattle.load_scope.proofs.Stored.{names_next, names_all, from_none, none_yet}
use Rattle.load_scope.proofs.stores.stored_by.Goals as goal

pub loop-step-init : goal.loop-step-init
loop-step-init c = none_yet c.new-stored.result c.new-stored.ensures

pub loop-step-preserved : goal.loop-step-preserved
loop-step-preserved c =
    names_next (λ (s : Step). stored_names s.instruction) c.args.steps.now c.loop-step.step-index c.step-item.result empty c.loop-step.stored c.add_stored.new.stored (omega arith) c.step-item.is c.in_ok-add_stored.ensures c.loop-step.invariant

pub returns : goal.returns
returns c = λ q.
    from_none c.loop-step.stored (is_stored c.args.steps.now q) q
    (names_all (λ (s : Step). stored_names s.instruction) c.args.steps.now c.loop-step.step-index empty c.loop-step.stored (omega arith) c.loop-step.invariant q)
