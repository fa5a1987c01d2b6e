use Rattle.std.proofs.Common.{◌<◌, ◌+◌, ◌-◌, ◌∙◌, ap, subst, length, arith}
use Rattle.group_spec.specs.Bits.{IsWithBit, flag}
use Rattle.group_spec.specs.Image.{runs}
use Rattle.group_spec.proofs.Running.{own_fits, others_counted, set_fits, keeps_set, byte_flag}
use Rattle.group_spec.proofs.outputs.Outputs.set.Goals as goal

pub overflow_sub-others : goal.overflow_sub-others
overflow_sub-others c = own_fits c.self.inside.cars c.self.inside.running c.self.inside.count c.from.result c.args.index c.has_bit.result c.self.invariant (omega (arith, ap length c.self.view_is, c.requires)) c.from.ensures c.has_bit.ensures

pub overflow_add-self : goal.overflow_add-self
overflow_add-self c =
    omega (arith, set_fits c.self.inside.cars c.self.inside.running c.self.inside.count c.from.result c.from-2.result c.runs-runs.result c.self.invariant c.from-2.ensures)

pub invariant_of-self : goal.invariant_of-self
invariant_of-self c =
    let within : c.args.index < length c.self.inside.cars = omega (arith, ap length c.self.view_is, c.requires) in
    let with_ : IsWithBit 16 c.self.inside.running c.args.index (runs c.args.outputs.motor) c.with_bit-self-inside.result =
    subst (λ r. IsWithBit 16 c.self.inside.running c.args.index r c.with_bit-self-inside.result) c.runs-runs.ensures c.with_bit-self-inside.ensures in
    rw c.set.ensures
    (keeps_set c.self.inside.cars c.self.inside.running c.self.inside.count c.with_bit-self-inside.result (c.self.inside.count - c.from.result) (c.self.inside.count - c.from.result + c.from-2.result) c.args.index c.args.outputs c.self.invariant within with_
    (others_counted c.self.inside.cars c.self.inside.running c.self.inside.count c.from.result c.args.index c.has_bit.result c.self.invariant within c.from.ensures c.has_bit.ensures)
    (ap (λ n. c.self.inside.count - c.from.result + n) (c.from-2.ensures ∙ byte_flag c.runs-runs.result ∙ ap flag c.runs-runs.ensures)))
