-- Whose scans are open along the events of a trace.
use Rattle.std.proofs.Common.{◌≡◌, ℕ, List, [], ◌∷◌, Bool, true, false, refl, sym, ap, ◌∙◌, subst}
use Rattle.std.specs.Prelude.{slice_get, is_some}
use Rattle.il_syntax.specs.declared.tree.Config.{Config}
use Rattle.group_spec.specs.declared.event.Event.{Event}
use Rattle.group_spec.specs.declared.event.Event.TheVariants.{Start, Press, Gather, Refresh}
use Rattle.group_spec.specs.declared.trace.TraceEvent.{TraceEvent}
use Rattle.group_spec.specs.declared.trace.TraceEvent.TheVariants as traced
use Rattle.group_spec.specs.World.{World, flat, scan_at}
use Rattle.group_laws.specs.Accepted.{IsSound}
use Rattle.group_laws.specs.Runs.{IsReached}
use Rattle.group_journal.specs.Closed.{open_behind, open_along}
use Rattle.group_journal.specs.Rounds.{Happen, Takes, TakesAll}
use Rattle.group_journal.proofs.Journals.{Puts, takes_first, ended_run, happens_start, has_place, by_task, quiet_run, AreQuiet, pressing, gathering, refreshing}
use Rattle.group_journal.proofs.Rounds.{happen_reached, finish_reached}
use Rattle.group_journal.proofs.Taking.{finish_closes}

take_reached : (c : Config) (w v : World) (e : TraceEvent) → IsReached c w → Takes c w e v → IsReached c v
take_reached c w v (traced.Start t) reached taken = happen_reached c w v (Start t ∷ []) reached taken
take_reached c w v (traced.Commit t) reached taken = finish_reached c t w v reached taken
take_reached c w v (traced.Press call) reached taken = happen_reached c w v (Press call ∷ []) reached taken
take_reached c w v (traced.Gather floor) reached taken = happen_reached c w v (Gather floor ∷ []) reached taken
take_reached c w v (traced.Refresh fields) reached taken = happen_reached c w v (Refresh fields ∷ []) reached taken

quiet : (c : Config) (w v : World) (e : Event) (t : ℕ) → AreQuiet (e ∷ []) → Happen c w (e ∷ []) v → is_some (scan_at v t) ≡ is_some (scan_at w t)
quiet c w v e t none h = ap (λ ss. is_some (flat (slice_get ss t))) (quiet_run c (e ∷ []) w v [] h.replies none h.runs h.accepted)

-- an event of a trace leaves a task's scan open or not
pub take_opens : (c : Config) → IsSound c → (w v : World) (e : TraceEvent) (t : ℕ) → IsReached c w → Takes c w e v → is_some (scan_at v t) ≡ open_behind t (is_some (scan_at w t)) e
take_opens c sound w v (traced.Start u) t reached h =
    let g = takes_first c w v [] h.replies (Start u) [] h.runs h.accepted in
    let same = ended_run c g.next v _ h.replies g.rest in
    let p = happens_start c w g.next u g.reply (has_place c sound w reached u) g.happens g.accepted in
    by_task w v u t true (subst (λ x. Puts w x u true) same p.1)
take_opens c sound w v (traced.Commit u) t reached h = by_task w v u t false (finish_closes c u w v h)
take_opens c sound w v (traced.Press call) t reached h = quiet c w v (Press call) t (pressing, tt) h
take_opens c sound w v (traced.Gather floor) t reached h = quiet c w v (Gather floor) t (gathering, tt) h
take_opens c sound w v (traced.Refresh fields) t reached h = quiet c w v (Refresh fields) t (refreshing, tt) h

-- so do events, one after the other
pub along : (c : Config) → IsSound c → (events : List TraceEvent) (w v : World) (t : ℕ) → IsReached c w → TakesAll c w events v → is_some (scan_at v t) ≡ open_along t (is_some (scan_at w t)) events
along c sound [] w v t reached same = ap (λ (x : World). is_some (scan_at x t)) (sym same)
along c sound (e ∷ events) w v t reached (m, first, rest) =
    along c sound events m v t (take_reached c w m e reached first) rest ∙ ap (λ b. open_along t b events) (take_opens c sound w m e t reached first)

pub along_reached : (c : Config) (events : List TraceEvent) (w v : World) → IsReached c w → TakesAll c w events v → IsReached c v
along_reached c [] w v reached same = subst (IsReached c) same reached
along_reached c (e ∷ events) w v reached (m, first, rest) = along_reached c events m v (take_reached c w m e reached first) rest
