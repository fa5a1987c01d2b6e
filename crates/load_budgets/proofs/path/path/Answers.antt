use Rattle.std.proofs.Common.{arith, ◌+◌, ◌-◌, ◌++◌, ◌∷◌, [], length, map, ap, ◌∙◌, Some}
use Rattle.load_budgets.specs.Rounds.{line_at, followed}
use Rattle.load_budgets.specs.declared.table.Rest.{Rest}
use Rattle.load_budgets.proofs.Stacked.{place_more}
use Rattle.load_budgets.proofs.path.path.Goals as goal

pub places-preserved : goal.places-preserved
places-preserved c =
    ap (λ (r : Rest). c.push.new.self ++ map (line_at c.args.body.now) (followed (length c.args.rests.now - (c.places._passed + 1)) c.args.rests.now r.next)) c.rest_up-at.ensures
    ∙ place_more (line_at c.args.body.now) c.args.rests.now (length c.args.rests.now - (c.places._passed + 1)) (length c.args.rests.now - c.places._passed) c.in-Some.place c.places.lines c.push.new.self
    (map (line_at c.args.body.now) (followed (length c.args.rests.now) c.args.rests.now (Some 0))) c.places.at c.in-Some.is (omega (arith, c.places-test.true)) c.places.invariant
    (c.in_ok-push-in-Some.ensures.ok ∙ ap (λ n. c.places.lines ++ n ∷ []) c.line_at.ensures)
