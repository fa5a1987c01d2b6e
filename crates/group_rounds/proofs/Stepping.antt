-- Steps along a trace.
use Rattle.std.proofs.Common.{◌≡◌, ℕ, ◌+◌, ◌<◌, List, [], ◌∷◌, ◌++◌, length, get_or, map, take, refl, sym, ap, ◌∙◌, subst}
use Rattle.std.proofs.lemmas.Option.{slice_get_read}
use Rattle.std.specs.Prelude.{Some, slice_get}
use Rattle.scan_task.specs.Scanning.{Program}
use Rattle.il_syntax.specs.declared.tree.Config.{Config}
use Rattle.group_spec.specs.declared.event.Event.TheVariants.{Start, Refresh, Press, Gather}
use Rattle.group_spec.specs.declared.event.EventFault.{EventFault}
use Rattle.group_spec.specs.declared.trace.TraceEvent.{TraceEvent}
use Rattle.group_spec.specs.declared.trace.TraceEvent.TheVariants as traced
use Rattle.group_spec.specs.Replies.{Reply}
use Rattle.group_spec.specs.World.{World}
use Rattle.group_journal.specs.Rounds.{Takes, TakesAll, Refuses, IsRefusedAt}
use Rattle.group_journal.proofs.Taking.{happen_one}
use Rattle.group_rounds.specs.Along.{TakesWith, Step, Lead, AreStepsOf, event_of}
use Rattle.group_rounds.proofs.Driving.{take_next, map_append}
use Rattle.group_rounds.proofs.Taking.{refused_at}

-- an event that is taken with a reply is taken
takes_of : (c : Config) (w v : World) (e : TraceEvent) (reply : Reply) → TakesWith c w e reply v → Takes c w e v
takes_of c w v (traced.Start t) reply is = happen_one c w v (Start t) reply is.0 is.1
takes_of c w v (traced.Commit t) reply is = is.0
takes_of c w v (traced.Press call) reply is = happen_one c w v (Press call) reply is.0 is.1
takes_of c w v (traced.Gather floor) reply is = happen_one c w v (Gather floor) reply is.0 is.1
takes_of c w v (traced.Refresh fields) reply is = happen_one c w v (Refresh fields) reply is.0 is.1

led_takes : (c : Config) (w v : World) (steps : List Step) → Lead c w steps v → TakesAll c w (map event_of steps) v
led_takes c w v [] lead = lead
led_takes c w v (s ∷ steps) lead = (s.after, takes_of c w s.after s.event s.reply lead.0, led_takes c s.after v steps lead.1)

-- events that steps are of are taken
pub steps_take : (c : Config) (w v : World) (events : List TraceEvent) (steps : List Step) → AreStepsOf c w events v steps → TakesAll c w events v
steps_take c w v events steps are = subst (λ es. TakesAll c w es v) are.of (led_takes c w v steps are.lead)

lead_more : (c : Config) (w m v : World) (steps : List Step) (e : TraceEvent) (reply : Reply) → Lead c w steps m → TakesWith c m e reply v → Lead c w (steps ++ record { event = e; reply = reply; after = v } ∷ []) v
lead_more c w m v [] e reply same last = (subst (λ y. TakesWith c y e reply v) (sym same) last, refl)
lead_more c w m v (s ∷ steps) e reply lead last = (lead.0, lead_more c s.after m v steps e reply lead.1 last)

-- one step more
pub step_more : (c : Config) (w m v : World) (events : List TraceEvent) (i : ℕ) (steps : List Step) (e : TraceEvent) (reply : Reply) → slice_get events i ≡ Some e → AreStepsOf c w (take i events) m steps → TakesWith c m e reply v
    → AreStepsOf c w (take (i + 1) events) v (steps ++ record { event = e; reply = reply; after = v } ∷ [])
step_more c w m v events i steps e reply at are last = record {
  of = map_append event_of steps (record { event = e; reply = reply; after = v } ∷ []) ∙ ap (λ l. l ++ e ∷ []) are.of ∙ sym (take_next events i e at);
  lead = lead_more c w m v steps e reply are.lead last;
}

-- the first event that is refused after steps of a program that stays the same
pub refused_there : (p q : Program) → q ≡ p → (w m : World) (events : List TraceEvent) (i : ℕ) (steps : List Step) (e : TraceEvent) (fault : EventFault) → slice_get events i ≡ Some e → AreStepsOf p.config w (take i events) m steps
    → Refuses q.config m e fault → IsRefusedAt p.config w events i fault
refused_there p q same w m events i steps e fault at are why =
    refused_at p.config events i e fault w m at (steps_take p.config w m (take i events) steps are) (subst (λ (x : Program). Refuses x.config m e fault) same why)
