use Rattle.std.proofs.Common.{length, get_or, [], refl, sym, ap, subst, ◌∙◌, arith}
use Rattle.std.proofs.lemmas.Option.{slice_get_read}
use Rattle.il_syntax.specs.declared.tree.Step.{Step}
use Rattle.base_maps.specs.NameMap.{empty}
use Rattle.il_syntax.specs.declared.tree.Unit.{Unit as ProgramUnit}
use Rattle.ranges_pass.specs.Numbering.{Adds, may_test, IsStepNumbered, IsPlaceNumbered}
use Rattle.ranges_pass.proofs.Numbers.{adds_next, kept_step, numbered_all}
use Rattle.ranges_pass.proofs.numbering.numbering_of.Goals as goal

pub loop-place-preserved : goal.loop-place-preserved
loop-place-preserved c =
    adds_next c.args.unit.now (λ ns. IsPlaceNumbered c.args.unit.now ns c.as_slice-steps.result.now) c.as_slice-steps.result.now c.loop-place.place c.index-steps-place.result empty c.loop-place.numbering.numbers c.add_step.new.numbering.numbers [] c.loop-place.numbering.declared c.add_step.new.numbering.declared
    (λ old new at s kept h. kept_step c.args.unit.now old new (may_test c.as_slice-steps.result.now at) s.instruction kept h)
    (slice_get_read c.as_slice-steps.result.now (length c.as_slice-steps.result.now) c.loop-place.place c.index-steps-place.result refl (omega (arith, c.loop-place-test.true, c.loop-place.auto.place-end)) c.index-steps-place.is) c.loop-place.invariant
    (subst (λ (s : Step). Adds c.args.unit.now (λ ns. IsPlaceNumbered c.args.unit.now ns c.as_slice-steps.result.now c.loop-place.place s) c.loop-place.numbering.numbers c.loop-place.numbering.declared c.add_step.new.numbering.numbers c.add_step.new.numbering.declared) (sym c.index-steps-place.is)
    (subst (λ tests. Adds c.args.unit.now (λ ns. IsStepNumbered c.args.unit.now ns tests (get_or c.as_slice-steps.result.now c.loop-place.place c.index-steps-place.result).instruction) c.loop-place.numbering.numbers c.loop-place.numbering.declared c.add_step.new.numbering.numbers c.add_step.new.numbering.declared) c.may_test-tests.ensures c.in_ok-add_step.ensures))

pub returns : goal.returns
returns c =
    numbered_all c.args.unit.now c.as_slice-steps.result.now c.loop-place.place c.loop-place.numbering.numbers c.loop-place.numbering.declared empty [] (c.as_slice-steps.ensures ∙ ap (λ (t : ProgramUnit). t.body.steps) c.tree.ensures) (omega (arith, c.loop-place-test.false, c.loop-place.auto.place-end)) refl refl c.loop-place.invariant
