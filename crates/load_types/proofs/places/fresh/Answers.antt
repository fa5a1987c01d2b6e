use Rattle.std.proofs.Common.{ap, ◌∙◌, None, [], ◌∷◌, ◌++◌}
use Rattle.std.specs.Prelude.{is_ok}
use Rattle.load_types.specs.declared.arrival.Arrival.TheVariants.{Unreached, Reached}
use Rattle.load_types.proofs.Fresh.{fresh_one, fresh_more, pushed}
use Rattle.load_types.proofs.places.fresh.Goals as goal

pub loop-init : goal.loop-init
loop-init c =
    fresh_one c.push.new.self.items
    (pushed c.new-table.result.items c.push.new.self.items (Reached None) (is_ok c.push.result) c.push.ensures.items (ap is_ok c.in_ok-push.was) ∙ ap (λ xs. xs ++ Reached None ∷ []) c.new-table.ensures.items)

pub loop-preserved : goal.loop-preserved
loop-preserved c =
    fresh_more c.loop.counter c.loop.table.items c.push-in-loop.new.self.items c.loop.invariant
    (pushed c.loop.table.items c.push-in-loop.new.self.items Unreached (is_ok c.push-in-loop.result) c.push-in-loop.ensures.items (ap is_ok c.in_ok-push-2.was))
