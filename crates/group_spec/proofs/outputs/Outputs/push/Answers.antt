use Rattle.std.proofs.Common.{◌<◌, ◌+◌, ◌∙◌, ap, subst, length, arith}
use Rattle.group_spec.specs.Bits.{IsWithBit, flag}
use Rattle.group_spec.specs.Image.{runs}
use Rattle.group_spec.specs.Limits.{most_cars}
use Rattle.group_spec.proofs.Running.{more_fits, keeps_more, byte_flag}
use Rattle.group_spec.proofs.outputs.Outputs.push.Goals as goal

pub overflow_add-self : goal.overflow_add-self
overflow_add-self c =
    let room : length c.self.inside.cars < most_cars = omega (arith, ap length c.self.view_is, c.requires) in
    omega (arith, more_fits c.self.inside.cars c.self.inside.running c.self.inside.count c.from.result c.runs-runs.result c.self.invariant c.from.ensures room)

pub invariant_of-self : goal.invariant_of-self
invariant_of-self c =
    let room : length c.self.inside.cars < most_cars = omega (arith, ap length c.self.view_is, c.requires) in
    let with_ : IsWithBit 16 c.self.inside.running (length c.self.inside.cars) (runs c.args.outputs.motor) c.with_bit-self-inside.result =
    subst (λ n. IsWithBit 16 c.self.inside.running n (runs c.args.outputs.motor) c.with_bit-self-inside.result) c.len.ensures.count
    (subst (λ r. IsWithBit 16 c.self.inside.running c.len.result r c.with_bit-self-inside.result) c.runs-runs.ensures c.with_bit-self-inside.ensures) in
    rw c.push.ensures
    (keeps_more c.self.inside.cars c.self.inside.running c.self.inside.count c.with_bit-self-inside.result (c.self.inside.count + c.from.result) c.args.outputs c.self.invariant room with_
    (ap (λ n. c.self.inside.count + n) (c.from.ensures ∙ byte_flag c.runs-runs.result ∙ ap flag c.runs-runs.ensures)))
