use Rattle.std.proofs.Common.{◌≡◌, ◌∷◌, [], length, sym, subst, true, ◌∙◌}
use Rattle.load_order.specs.Chained.{is_shut, AreAmong}
use Rattle.load_order.specs.Used.{is_among}
use Rattle.load_order.proofs.Dead.{merged_first, merged_second, merged_both, one_among, one_itself, shut_on, dead_at}
use Rattle.load_order.proofs.chains.is_shut.Goals as goal

pub returns-in-Some-clause-more : goal.returns-in-Some-clause-more
returns-in-Some-clause-more c = subst (AreAmong c.args.reason.now) (sym c.in_ok-merge.ensures) (merged_first c.args.reason.now c.as_slice.result.now)

pub returns-in-Some-clause-among : goal.returns-in-Some-clause-among
returns-in-Some-clause-among c =
    let dead = dead_at (length c.args.ends.now.items) c.args.uses.now c.args.ends.now.items c.args.to c.index.result.now c.as_slice-known.result.now c.in-Some.at c.index-known-at.result c.args.left c.args.way.now c.as_slice.result.now c.requires.dead c.requires.unit c.index.ensures c.as_slice-known.ensures c.in-Some.ensures.0 c.in-Some.ensures.1 c.as_slice.ensures in
    λ are. subst (λ x. AreAmong x c.args.way.now) (sym c.in_ok-merge.ensures) (merged_both c.args.reason.now c.as_slice.result.now c.args.way.now are dead.0)

pub returns-in-Some-clause-shut : goal.returns-in-Some-clause-shut
returns-in-Some-clause-shut c =
    let dead = dead_at (length c.args.ends.now.items) c.args.uses.now c.args.ends.now.items c.args.to c.index.result.now c.as_slice-known.result.now c.in-Some.at c.index-known-at.result c.args.left c.args.way.now c.as_slice.result.now c.requires.dead c.requires.unit c.index.ensures c.as_slice-known.ensures c.in-Some.ensures.0 c.in-Some.ensures.1 c.as_slice.ensures in
    λ _ _. dead.1 c.merge.new.numbers (subst (AreAmong c.as_slice.result.now) (sym c.in_ok-merge.ensures) (merged_second c.args.reason.now c.as_slice.result.now))

pub returns-in_ok-merge-2-clause-more : goal.returns-in_ok-merge-2-clause-more
returns-in_ok-merge-2-clause-more c = subst (AreAmong c.args.reason.now) (sym c.in_ok-merge-2.ensures) (merged_first c.args.reason.now (c.args.to ∷ []))

pub returns-in_ok-merge-2-clause-among : goal.returns-in_ok-merge-2-clause-among
returns-in_ok-merge-2-clause-among c = λ are. subst (λ x. AreAmong x c.args.way.now) (sym c.in_ok-merge-2.ensures) (merged_both c.args.reason.now (c.args.to ∷ []) c.args.way.now are (one_among c.args.way.now c.args.to (sym c.is_among-again.ensures ∙ c.if-again.true)))

pub returns-in_ok-merge-2-clause-shut : goal.returns-in_ok-merge-2-clause-shut
returns-in_ok-merge-2-clause-shut c = λ _ _. shut_on (length c.args.ends.now.items) c.args.uses.now c.args.left c.merge-then-again.new.numbers c.args.to (subst (λ x. is_among x c.args.to ≡ true) (sym c.in_ok-merge-2.ensures) (merged_second c.args.reason.now (c.args.to ∷ []) c.args.to (one_itself c.args.to)))
