use Rattle.std.proofs.Common.{length, refl, take, ap, ◌∙◌}
use Rattle.std.specs.Prelude.{is_some}
use Rattle.std.proofs.lemmas.Option.{slice_get_read}
use Rattle.base_maps.specs.NameMap.{get, get-empty}
use Rattle.load_types.proofs.Arguments.{one_argument, seen_next}
use Rattle.load_types.proofs.calls.many_fault.Goals as goal

pub loop-at-init : goal.loop-at-init
loop-at-init g c = record { numbers = λ block is. c.none-fault.ensures; words = λ q. ap (λ m. is_some (get m q)) c.new-seen.ensures ∙ ap is_some (get-empty q) }

pub loop-at-preserved : goal.loop-at-preserved
loop-at-preserved g c =
    let there = slice_get_read c.args.arguments.now (length c.args.arguments.now) c.loop-at.at c.index-arguments-at.result refl c.loop-at-test.true c.index-arguments-at.is in
    record {
      numbers = λ block is.
          one_argument (g.S.Scope.config c.args.scope.now) (g.S.Scope.unit c.args.scope.now) block c.args.arguments.now c.loop-at.at c.index-arguments-at.result (take c.loop-at.at c.args.arguments.now) c.argument_word.result.now c.in_ok-given.given c.unless.result c.argument_fault.result c.lower-here.result c.loop-at.fault c.lower-fault.result
          there refl c.argument_word.ensures (c.in_ok-given.ensures.again ∙ c.loop-at.invariant.words c.argument_word.result.now) c.unless.ensures (c.argument_fault.ensures block is) c.lower-here.ensures c.lower-fault.ensures (c.loop-at.invariant.numbers block is);
      words = λ q. ap (λ m. is_some (get m q)) c.in_ok-given.ensures.seen ∙ seen_next c.args.arguments.now c.loop-at.at c.index-arguments-at.result c.argument_word.result.now c.loop-at.seen q there c.argument_word.ensures (c.loop-at.invariant.words q);
    }
