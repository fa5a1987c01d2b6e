use Rattle.std.proofs.Common.{◌≡◌, ℕ, ◌+◌, List, Some, slice_get, sym, ap, subst, ◌∙◌}
use Rattle.group_spec.specs.declared.trace.TraceEvent.{TraceEvent}
use Rattle.trace_text.specs.Told.{IsLeftOf}
use Rattle.trace_text.proofs.Left.{next_event}
use Rattle.trace_text.proofs.trace.Events.next.Goals as goal

pub first_event-event-requires : goal.first_event-event-requires
first_event-event-requires c =
    let s = c.self.inside in
    let n = next_event s.format s.cars s.rest.now s.count s.index s.told.now.events c.self.invariant c.if-self.false in
    (n.0, n.1, n.2.traced, n.2.line)

pub invariant_of-self : goal.invariant_of-self
invariant_of-self c =
    let s = c.self.inside in
    let n = next_event s.format s.cars s.rest.now s.count s.index s.told.now.events c.self.invariant c.if-self.false in
    let both = c.first_event-event.ensures n.0 n.1 n.2.traced n.2.line in
    subst (λ (t : List ℕ). IsLeftOf s.format s.cars t s.count (s.index + 1) s.told.now.events) (sym both.1) n.2.left

pub returns-clause-found : goal.returns-clause-found
returns-clause-found c =
    let s = c.self.inside in
    let n = next_event s.format s.cars s.rest.now s.count s.index s.told.now.events c.self.invariant c.if-self.false in
    let both = c.first_event-event.ensures n.0 n.1 n.2.traced n.2.line in
    subst (λ (v : List TraceEvent × ℕ). slice_get v.0 v.1 ≡ Some c.first_event-event.result.0) c.self.view_is (n.2.there ∙ ap Some (sym both.0))
