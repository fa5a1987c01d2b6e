use Rattle.std.proofs.Common.{◌≡◌, ap, arith, subst, ◌∙◌, Some, None, [], ◌∷◌, ◌++◌}
use Rattle.std.specs.Prelude.{is_ok}
use Rattle.ranges_transfer.specs.Tables.{IsFresh}
use Rattle.ranges_transfer.proofs.Tables.{fresh_one, fresh_more, pushed}
use Rattle.ranges_transfer.proofs.pass.fresh.Goals as goal

pub loop-init : goal.loop-init
loop-init g c =
    fresh_one c.args.entry c.push.new.self.items
    (pushed c.in_ok-table.table.items c.push.new.self.items (Some c.args.entry) (is_ok c.push.result) c.push.ensures.items (ap is_ok c.in_ok-push.was) ∙ ap (λ xs. xs ++ Some c.args.entry ∷ []) c.in_ok-table.ensures.items)

pub loop-preserved : goal.loop-preserved
loop-preserved g c =
    fresh_more c.args.entry c.loop.counter c.loop.table.items c.push-in-loop.new.self.items c.loop.invariant
    (pushed c.loop.table.items c.push-in-loop.new.self.items None (is_ok c.push-in-loop.result) c.push-in-loop.ensures.items (ap is_ok c.in_ok-push-2.was))

pub returns : goal.returns
returns g c =
    let all : c.loop.counter ≡ c.args.count = omega (arith, c.loop-test.false, c.loop.auto.counter-end) in
    subst (λ n. IsFresh c.args.entry n c.loop.table.items) all c.loop.invariant
