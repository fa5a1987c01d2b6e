use Rattle.std.proofs.Common.{◌≡◌, ◌<◌, ℕ, Some}
use Rattle.group_laws.specs.Holding.{ticket_at}
use Rattle.group_state.proofs.calls.is_given.Given as goal

-- no slot before the place is under the ticket
abbrev pub invariant-slots : goal.invariant-slots
invariant-slots l = (k : ℕ) → k < l.slot-index → ticket_at l.earlier k ≡ Some l.ticket → ⊥
