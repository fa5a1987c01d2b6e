use Rattle.std.proofs.Common.{rules, ap}
use Rattle.group_spec.specs.declared.image.Sizes.{Sizes}
use Rattle.trace_text.proofs.Bytes.{if_none}
use Rattle.serve_lines.proofs.Saying.{none_said, round_said, press_said, other_said}
use Rattle.serve_lines.proofs.said.spelled.Goals as goal

pub returns-in_err-fields-clause-none : goal.returns-in_err-fields-clause-none
returns-in_err-fields-clause-none c =
    let cars = ap (λ (s : Sizes). s.cars) c.sizes.ensures in
    if_none _ _ (none_said c.args.world.now.program.config c.sizes.result.cars cars c.args.line.now (λ is. absurd (search (rules, c.is_end.ensures.1 is, c.if-is_end.false))) c.in_err-fields.ensures.none)

pub returns-in-Refresh-clause-found : goal.returns-in-Refresh-clause-found
returns-in-Refresh-clause-found c =
    let cars = ap (λ (s : Sizes). s.cars) c.sizes.ensures in
    round_said c.args.world.now.program.config c.sizes.result.cars cars c.args.line.now c.in_ok-fields.field-0 c.in_ok-fields.ensures.found.0 c.in_ok-fields.ensures.found.1 c.in-Refresh.fields c.in-Refresh.is

pub returns-in-Press-clause-found : goal.returns-in-Press-clause-found
returns-in-Press-clause-found c =
    let cars = ap (λ (s : Sizes). s.cars) c.sizes.ensures in
    press_said c.args.world.now.program.config c.sizes.result.cars cars c.args.line.now c.in_ok-fields.field-0 c.in_ok-fields.ensures.found.0 c.in_ok-fields.ensures.found.1 c.in-Press.call c.in-Press.is

pub returns-in_default-clause-none : goal.returns-in_default-clause-none
returns-in_default-clause-none c =
    let cars = ap (λ (s : Sizes). s.cars) c.sizes.ensures in
    other_said c.args.world.now.program.config c.sizes.result.cars cars c.args.line.now c.in_ok-fields.field-0 c.in_ok-fields.ensures.found.0 c.in_ok-fields.ensures.found.1 c.in_default.not-Refresh c.in_default.not-Press
