use Rattle.load_code.proofs.Needed.{frame_is}
use Rattle.load_code.proofs.framing.has_frame.Goals as goal

pub returns : goal.returns
returns c = λ p found.
    frame_is c.args.ordered.now c.config-config.ensures.declared (λ number place other. c.config-config.ensures.ordered number place) c.args.program c.args.at p c.args.unit.now c.needs.result c.is_framed.result found c.requires
    (c.needs.ensures p c.args.unit.now found c.requires) c.is_framed.ensures
