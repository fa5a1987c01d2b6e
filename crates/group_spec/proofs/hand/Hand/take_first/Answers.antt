use Rattle.std.proofs.Common.{drop, slice_get, sym, ◌∙◌, ap}
use Rattle.group_spec.proofs.Hands.{blank_is, first_is, first_in_words}
use Rattle.group_spec.proofs.hand.Hand.take_first.Goals as goal

pub returns-in_err-index-clause-first : goal.returns-in_err-index-clause-first
returns-in_err-index-clause-first c =
    rw (← c.self.view_is) (c.from_residual.ensures ∙ sym (ap (λ calls. slice_get calls 0) (blank_is c.self.inside.words c.in_err-index.ensures.blank)))

pub returns-in_err-index-clause-rest : goal.returns-in_err-index-clause-rest
returns-in_err-index-clause-rest c =
    let none = blank_is c.self.inside.words c.in_err-index.ensures.blank in
    rw (← c.self.view_is) (none ∙ sym (ap (drop 1) none))

pub returns-clause-first : goal.returns-clause-first
returns-clause-first c =
    rw (← c.self.view_is)
    (first_is c.self.inside.words c.in_ok-index.index c.in_ok-index.bit c.call_of-call.result c.self.invariant c.in_ok-index.ensures.found c.call_of-call.ensures.from c.call_of-call.ensures.to)

pub returns-clause-rest : goal.returns-clause-rest
returns-clause-rest c =
    rw (← c.self.view_is) (sym (ap (drop 1) (first_in_words c.self.inside.words c.in_ok-index.index c.in_ok-index.bit c.self.invariant c.in_ok-index.ensures.found)))
