use Rattle.std.proofs.Common.{slice_get, sym, ◌∙◌, ap}
use Rattle.group_spec.proofs.Hands.{blank_is, first_is}
use Rattle.group_spec.proofs.hand.Hand.first.Goals as goal

pub returns-in_err-index-clause-value : goal.returns-in_err-index-clause-value
returns-in_err-index-clause-value c =
    rw (← c.self.view_is) (c.from_residual.ensures ∙ sym (ap (λ calls. slice_get calls 0) (blank_is c.self.inside.words c.in_err-index.ensures.blank)))

pub returns-clause-value : goal.returns-clause-value
returns-clause-value c =
    rw (← c.self.view_is)
    (first_is c.self.inside.words c.in_ok-index.index c.in_ok-index.bit c.call_of.result c.self.invariant c.in_ok-index.ensures.found c.call_of.ensures.from c.call_of.ensures.to)
