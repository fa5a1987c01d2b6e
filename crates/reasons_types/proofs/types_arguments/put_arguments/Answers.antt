use Rattle.std.proofs.Common.{◌≡◌, ◌++◌, [], length, take, refl, subst, arith}
use Rattle.std.proofs.lemmas.List.{take_all}
use Rattle.std.proofs.lemmas.Option.{slice_get_read}
use Rattle.std.specs.Prelude.{string_bytes}
use Rattle.il_statics.specs.Types.{instance_block}
use Rattle.reasons_types.specs.ArgumentReasons.{arguments_lines}
use Rattle.reasons_types.proofs.ArgumentTexts.{argument_more}
use Rattle.reasons_types.proofs.types_arguments.put_arguments.Goals as goal

pub arguments-preserved : goal.arguments-preserved
arguments-preserved c =
    let arguments = c.args.arguments.now in
    argument_more (instance_block c.args.scope.now.config c.args.scope.now.unit c.args.instance.now) c.args.instance.now arguments c.arguments.at c.index-arguments-at.result (take c.arguments.at arguments)
    (string_bytes c.args.text.now) (string_bytes c.arguments.text) (string_bytes c.put_argument.new.text)
    (slice_get_read arguments (length arguments) c.arguments.at c.index-arguments-at.result refl c.arguments-test.true c.index-arguments-at.is) refl c.arguments.invariant c.in_ok-put_argument.ensures

pub returns : goal.returns
returns c =
    let arguments = c.args.arguments.now in
    let ended : c.arguments.at ≡ length arguments = omega (arith, c.arguments-test.false, c.arguments.auto.at-end) in
    subst (λ all. string_bytes c.arguments.text ≡ string_bytes c.args.text.now ++ arguments_lines (instance_block c.args.scope.now.config c.args.scope.now.unit c.args.instance.now) c.args.instance.now [] all)
    (take_all c.arguments.at arguments (omega (arith, ended))) c.arguments.invariant
