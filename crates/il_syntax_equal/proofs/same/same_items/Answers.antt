use Rattle.std.proofs.Common.{◌≡◌, ℕ, ◌<◌, ◌≤◌, length, refl, arith, rules}
use Rattle.il_syntax_equal.proofs.Lists.{same_lists}
use Rattle.il_syntax_equal.proofs.same.same_items.Goals as goal

pub returns : goal.returns
returns g c =
    let many : length c.args.items.now ≡ length c.args.others.now = search rules in
    let all : length c.args.items.now ≤ c.loop-at.at = search rules in
    (λ _. same_lists c.args.items.now c.args.others.now many (λ k below. c.loop-at.invariant k (omega (arith, below, all))), λ _. refl)
