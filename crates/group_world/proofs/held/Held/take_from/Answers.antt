use Rattle.std.proofs.Common.{◌∙◌, refl, sym}
use Rattle.group_spec.specs.Hands.{has_from}
use Rattle.group_world.proofs.Handing.{blank_stays}
use Rattle.group_world.proofs.held.Held.take_from.Goals as goal

pub invariant_of-self : goal.invariant_of-self
invariant_of-self c = λ blank.
    blank_stays c.self.inside.is_blank (has_from c.args.desk.now c.args.floor) c.self.inside.calls c.args.desk.now c.move_from.new.others c.args.floor refl c.self.invariant c.move_from.ensures.moved (sym c.stays_blank-self-inside.ensures ∙ blank)
