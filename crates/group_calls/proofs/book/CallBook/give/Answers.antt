use Rattle.std.proofs.Common.{ap, ◌∙◌}
use Rattle.group_spec.specs.Calls.{Calls}
use Rattle.group_calls.proofs.Sets.{given_apart, given_slots}
use Rattle.group_calls.proofs.book.CallBook.give.Goals as goal

pub returns-clause-slots : goal.returns-clause-slots
returns-clause-slots c = given_apart c.self.inside c.args.last ∙ ap (λ (calls : Calls). calls.slots) c.self.view_is

pub invariant_of-self : goal.invariant_of-self
invariant_of-self c = given_slots c.self.inside c.args.last c.self.invariant c.requires
