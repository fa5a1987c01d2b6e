use Rattle.std.proofs.Common.{◌<◌, ◌≤◌, rules, ap, ◌∙◌}
use Rattle.scan_task.specs.Scanning.{Program}
use Rattle.show_scan.proofs.Steps.{none_left, goes_on, stops}
use Rattle.show_scan.proofs.shown.put_lines.Goals as goal

pub returns-in-None-clause-lines : goal.returns-in-None-clause-lines
returns-in-None-clause-lines c =
    let left : c.steps.counter < 1000000 = search rules in
    stops c.args.world.now.program.config c.args.source.now 1000000 c.steps.counter _ _ c.steps.asked c.steps.world.world c.steps.invariant.0
    c.steps.world.program (ap (λ (p : Program). p.config) c.steps.invariant.1) _ c.put_next.new.world.world c.in_ok-more.field-0 c.in_ok-more.ensures.shown left c.in-None.is

pub steps-preserved : goal.steps-preserved
steps-preserved c =
    let left : c.steps.counter < 1000000 = search rules in (
      goes_on c.args.world.now.program.config c.args.source.now 1000000 c.steps.counter _ _ c.steps.asked c.steps.world.world c.steps.invariant.0
          c.steps.world.program (ap (λ (p : Program). p.config) c.steps.invariant.1) _ c.put_next.new.world.world c.in_ok-more.field-0 c.in_ok-more.ensures.shown left c.in-Some.more c.in-Some.is,
      c.put_next.ensures.same ∙ c.steps.invariant.1,
    )

pub returns-clause-lines : goal.returns-clause-lines
returns-clause-lines c =
    let past : 1000000 ≤ c.steps.counter = search rules in
    none_left c.args.world.now.program.config c.args.source.now 1000000 c.steps.counter _ _ c.steps.asked c.steps.world.world c.steps.invariant.0 past
