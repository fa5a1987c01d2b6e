-- An event that is refused in the front of a trace.
use Rattle.std.proofs.Common.{◌<◌, ℕ, List, ◌∷◌, ◌++◌, length, take, drop, sym, ap, ◌∙◌, arith, length-append}
use Rattle.std.proofs.lemmas.List.{take-append-drop, append_assoc, length-take}
use Rattle.il_syntax.specs.declared.tree.Config.{Config}
use Rattle.group_spec.specs.declared.event.EventFault.{EventFault}
use Rattle.group_spec.specs.declared.trace.TraceEvent.{TraceEvent}
use Rattle.group_spec.specs.World.{World}
use Rattle.group_journal.specs.Rounds.{IsRefusedAt}

-- it is refused in the whole trace
pub refused_in_front : (c : Config) (w : World) (n : ℕ) (events : List TraceEvent) (index : ℕ) (fault : EventFault) → IsRefusedAt c w (take n events) index fault → IsRefusedAt c w events index fault
refused_in_front c w n events index fault r = record {
  first = r.first;
  event = r.event;
  rest = r.rest ++ drop n events;
  are = sym (take-append-drop n events) ∙ ap (λ es. es ++ drop n events) r.are ∙ append_assoc r.first (r.event ∷ r.rest) (drop n events);
  behind = r.behind;
  before = r.before;
  taken = r.taken;
  refused = r.refused;
}

-- and is in front of what follows
pub early_in_front : (c : Config) (w : World) (n : ℕ) (events : List TraceEvent) (index : ℕ) (fault : EventFault) → IsRefusedAt c w (take n events) index fault → index < n
early_in_front c w n events index fault r =
    let long = ap (λ (es : List TraceEvent). length es) r.are in
    let parts = length-append r.first (r.event ∷ r.rest) in
    let front = length-take n events in
    let at = r.behind in
    omega (arith, long, parts, front, at)
