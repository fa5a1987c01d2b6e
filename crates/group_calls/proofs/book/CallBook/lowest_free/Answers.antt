use Rattle.std.proofs.Common.{◌∙◌, sym, arith}
use Rattle.group_calls.proofs.Sets.{lowest_free_is, none_free_is, member_within}
use Rattle.group_calls.proofs.book.CallBook.lowest_free.Goals as goal

pub returns-in_err-bit-clause-number : goal.returns-in_err-bit-clause-number
returns-in_err-bit-clause-number c = rw (← c.self.view_is) (c.from_residual.ensures ∙ sym (none_free_is c.self.inside c.in_err-bit.ensures.none))

pub returns-clause-number : goal.returns-clause-number
returns-clause-number c = rw (← c.self.view_is) (sym (lowest_free_is c.self.inside c.in_ok-bit.bit c.self.invariant c.in_ok-bit.ensures.found))

pub returns-clause-within : goal.returns-clause-within
returns-clause-within c =
    let lowest = c.in_ok-bit.ensures.found in
    rw (← c.self.view_is) (omega arith, omega (arith, member_within c.self.inside c.in_ok-bit.bit c.self.invariant lowest.within lowest.member))
