use Rattle.std.proofs.Common.{◌≡◌, ◌+◌, ◌≤◌, ◌∙◌, inl, sym, ap, subst, arith}
use Rattle.il_syntax.specs.declared.tree.Config.{Config}
use Rattle.scan_task.proofs.Sizes.{sizes_fit}
use Rattle.group_spec.specs.declared.image.Sizes.{Sizes}
use Rattle.group_spec.specs.Image.{sizes_of}
use Rattle.group_world.specs.Setting.{IsSeated}
use Rattle.group_state.specs.declared.read.Behind.{Behind}
use Rattle.group_state.specs.Heads.{TakesHead, RefusesHead, variables_at}
use Rattle.group_state.specs.Holding.{HoldsHead}
use Rattle.group_state.specs.Parts.{calls_of}
use Rattle.group_state.specs.Reading.{Explains}
use Rattle.group_state.specs.Variables.{left}
use Rattle.group_state.proofs.Placing.{head_holds}
use Rattle.group_state.proofs.Readings.{state_read, variables_refused, read_seated}
use Rattle.group_state.proofs.Again.{up_so}
use Rattle.group_state.proofs.read.read_state.Goals as goal

pub take_head-requires-clause-cars : goal.take_head-requires-clause-cars
take_head-requires-clause-cars c = subst (λ (s : Sizes). s.cars ≤ 8) (sym c.sizes-sizes.ensures) (sizes_fit c.args.verified.now.config c.config-config.ensures.runnable).0.1

pub take_head-requires-clause-slots : goal.take_head-requires-clause-slots
take_head-requires-clause-slots c = subst (λ (s : Sizes). s.slots ≤ 64) (sym c.sizes-sizes.ensures) (sizes_fit c.args.verified.now.config c.config-config.ensures.runnable).2.1

pub returns-in_err-head-clause-wrong : goal.returns-in_err-head-clause-wrong
returns-in_err-head-clause-wrong c =
    up_so (Explains c.args.verified.now.config c.args.digest.now c.args.text.now) c.from_residual.result c.from_residual.ensures.1
    (inl (subst (λ (s : Sizes). RefusesHead s c.args.digest.now c.args.text.now c.in_err-head.field-0.0) c.sizes-sizes.ensures c.in_err-head.ensures.wrong))

pub set_head-requires-clause-holds : goal.set_head-requires-clause-holds
set_head-requires-clause-holds c =
    let calls = calls_of c.in_ok-head.head.calls in
    subst (λ (s : Sizes). HoldsHead s c.in_ok-head.head.image calls) (c.sizes-sizes.ensures ∙ sym (ap (λ (x : Config). sizes_of x) c.in_ok-core.ensures.config))
    (head_holds c.sizes-sizes.result c.args.digest.now c.args.text.now c.in_ok-head.head.image calls c.in_ok-head.rest.now c.in_ok-head.ensures.found)

pub returns-in_err-to-clause-wrong : goal.returns-in_err-to-clause-wrong
returns-in_err-to-clause-wrong c =
    let config = c.args.verified.now.config in
    let calls = calls_of c.in_ok-head.head.calls in
    let head = subst (λ (s : Sizes). TakesHead s c.args.digest.now c.args.text.now c.in_ok-head.head.image calls c.in_ok-head.rest.now) c.sizes-sizes.ensures c.in_ok-head.ensures.found in
    let cars : c.from.result ≡ (sizes_of config).cars = c.from.ensures ∙ ap (λ (s : Sizes). s.cars) c.sizes-sizes.ensures in
    let slots : c.from-2.result ≡ (sizes_of config).slots = c.from-2.ensures ∙ ap (λ (s : Sizes). s.slots) c.sizes-sizes.ensures in
    let line : 7 + c.from.result + c.from-2.result ≡ variables_at (sizes_of config) = omega (arith, cars, slots) in
    up_so (Explains config c.args.digest.now c.args.text.now) c.from_residual-in_err-to.result c.from_residual-in_err-to.ensures.1
    (variables_refused config c.args.digest.now c.args.text.now c.in_ok-head.head.image calls c.in_ok-head.rest.now (7 + c.from.result + c.from-2.result) c.in_err-to.field-0.0 head line c.in_err-to.ensures.wrong)

pub returns-clause-state : goal.returns-clause-state
returns-clause-state c =
    let config = c.args.verified.now.config in
    let calls = calls_of c.in_ok-head.head.calls in
    let head = subst (λ (s : Sizes). TakesHead s c.args.digest.now c.args.text.now c.in_ok-head.head.image calls c.in_ok-head.rest.now) c.sizes-sizes.ensures c.in_ok-head.ensures.found in
    let cars : c.from.result ≡ (sizes_of config).cars = c.from.ensures ∙ ap (λ (s : Sizes). s.cars) c.sizes-sizes.ensures in
    let slots : c.from-2.result ≡ (sizes_of config).slots = c.from-2.ensures ∙ ap (λ (s : Sizes). s.slots) c.sizes-sizes.ensures in
    let line : 7 + c.from.result + c.from-2.result ≡ variables_at (sizes_of config) = omega (arith, cars, slots) in
    let from : Behind = record { rest = c.in_ok-head.rest; line = 7 + c.from.result + c.from-2.result } in
    state_read config c.args.digest.now c.args.text.now c.in_ok-head.head.image calls c.in_ok-core.core.group c.set_head.new.core.group c.take_variables.new.core.group from c.in_ok-to.to
    head line c.set_head.ensures.group c.in_ok-to.ensures.found

pub returns-clause-seated : goal.returns-clause-seated
returns-clause-seated c =
    let config = c.args.verified.now.config in
    let after = c.take_variables.new.core.group in
    let found = c.in_ok-to.ensures.found in
    subst (λ (x : Config). IsSeated x after) (sym (c.in_ok-to.ensures.config ∙ (c.set_head.ensures.config ∙ c.in_ok-core.ensures.config))) (read_seated config after found.between (left found.last c.in_ok-to.to.line) found.tasks)
