use Rattle.std.proofs.Common.{arith, ◌≡◌, ◌≤◌, ap, length}
use Rattle.group_spec.specs.Hands.{calls_of_words}
use Rattle.group_spec.proofs.Hands.{set_few}
use Rattle.group_spec.proofs.hand.Hand.len.Goals as goal

pub calls-init : goal.calls-init
calls-init c =
    let few : length (calls_of_words c.self.inside.words) ≤ 256 = set_few c.self.inside.words c.self.invariant in
    let same : length (calls_of_words c.self.inside.words) ≡ length c.args.self.now = ap length c.self.view_is in
    record { counted = omega (arith, same); few = omega (arith, same, few) }
