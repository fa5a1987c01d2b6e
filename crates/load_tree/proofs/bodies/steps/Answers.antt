use Rattle.std.specs.Prelude.{max}
use Rattle.std.proofs.Common.{◌≡◌, ◌+◌, length, length-append, [], ◌∷◌, arith}
use Rattle.load_lines.proofs.Chain.{starts}
use Rattle.load_lines.proofs.ByError.{up_by}
use Rattle.load_lines.proofs.Nesting.{none_open}
use Rattle.load_tree.specs.Bodies.{SpellsStepsBy}
use Rattle.load_tree.proofs.Entries.{steps_refused, steps_read, step_on, open_on, few_on}
use Rattle.load_tree.proofs.Begun.{steps_breaks}
use Rattle.load_tree.proofs.Ahead.{up_so}
use Rattle.load_tree.proofs.LateBodies.{cut_starts, step_cut, steps_late}
use Rattle.load_tree.proofs.bodies.steps.Goals as goal

pub returns-in_err-labels-clause-refused : goal.returns-in_err-labels-clause-refused
returns-in_err-labels-clause-refused c =
    up_by (SpellsStepsBy c.args.last) _ c.from_residual.ensures.1 (steps_refused c.args.source.now _ _ _ _ _ _ _ _ _ c.is_full-full.ensures.yes c.steps.invariant.2.2 c.steps.invariant.3 c.in_err-labels.ensures.refused)

pub returns-in-End-clause-reads : goal.returns-in-End-clause-reads
returns-in-End-clause-reads c =
    steps_read c.args.source.now _ _ _ _ _ _ _ _ _ _ _ c.steps.invariant.2.1 c.steps.invariant.0 c.steps.invariant.1 c.steps.invariant.2.2 c.steps.invariant.3 (rw c.in-End.is at c.in_ok-labels.ensures.reads)

pub steps-preserved : goal.steps-preserved
steps-preserved c =
    let next = rw c.in-Step.is at c.in_ok-labels.ensures.reads in
    let few = few_on c.is_full-full.result (length c.steps.steps) next.found.1.2 c.is_full-full.ensures.no c.steps.invariant.1 in
    let size : length c.push.new.self ≡ length c.steps.steps + 1 = rw c.in_ok-push-in-Step.ensures.ok (length-append c.steps.steps (c.in-Step.step ∷ [])) in
    let opens = open_on c.args.source.now c.args.last _ _ _ _ _ _ _ _ c.steps.invariant.2.2 next in (
      rw c.depth_after-depth.ensures next.found.1.1,
      omega (arith, size, few),
      (max c.steps.invariant.2.0 c.steps.depth, omega (arith, c.steps.invariant.0, c.steps.invariant.2.1), rw (c.in_ok-push-in-Step.ensures.ok, c.depth_after-depth.ensures, c.needs_load-load.ensures) opens),
      rw (c.in_ok-push-in-Step.ensures.ok, c.skip_lines.ensures.rest) (step_on c.args.source.now c.args.last c.requires _ _ _ _ _ _ _ _ c.steps.invariant.3 next),
      rw (c.in_ok-push-in-Step.ensures.ok, c.skip_lines.ensures.rest) (step_cut _ _ c.args.last c.requires c.steps.invariant.4 next.found.0),
    )

pub steps-init : goal.steps-init
steps-init c = rw c.new-steps.ensures (omega arith, omega arith, (0, omega arith, none_open), (λ b. starts _ _ _ _), λ b. cut_starts _)

pub returns-in_err-labels-clause-begins : goal.returns-in_err-labels-clause-begins
returns-in_err-labels-clause-begins c = up_so _ _ c.from_residual.ensures.1 (steps_breaks c.args.last c.steps.depth c.steps.load c.is_full-full.result c.steps.invariant.0 c.steps.invariant.1 c.steps.invariant.2.1 c.is_full-full.ensures.yes c.is_full-full.ensures.no c.steps.invariant.2.2 c.steps.invariant.3 c.in_err-labels.ensures.begins)

pub returns-in_err-labels-clause-late : goal.returns-in_err-labels-clause-late
returns-in_err-labels-clause-late c =
    up_so _ _ c.from_residual.ensures.1 (steps_late c.args.last c.steps.depth c.steps.load c.is_full-full.result c.steps.invariant.1 c.is_full-full.ensures.no c.steps.invariant.2.2 c.steps.invariant.4 c.in_err-labels.ensures.late)
