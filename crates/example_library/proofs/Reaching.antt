-- What one event leaves of a world.
use Rattle.std.proofs.Common.{◌≡◌, List, [], ◌∷◌, ◌++◌, Ok, refl, sym, ap, ◌∙◌, subst}
use Rattle.scan_task.specs.Scanning.{Program}
use Rattle.il_syntax.specs.declared.tree.Config.{Config}
use Rattle.group_spec.specs.declared.event.Event.{Event}
use Rattle.group_spec.specs.Replies.{Reply}
use Rattle.group_spec.specs.World.{World, happens, run}
use Rattle.group_laws.specs.Histories.{CallGoesWell, RunsOnWell}
use Rattle.group_laws.specs.Runs.{Begins, IsReached}
use Rattle.group_laws.proofs.Following.{same_end}
use Rattle.group_laws.proofs.Histories.{event_is_run}
use Rattle.example_library.specs.Stepping.{IsWellReached}

-- a run that goes on well leaves the world to which it leads
well_at : (c : Config) (base : World) → Begins c base → (past events : List Event) (answers replies : List Reply) (w v : World) → RunsOnWell c base past answers w events → run c w [] events ≡ Ok (v, replies) → IsWellReached c v
well_at c base begins past events answers replies w v on is =
    let same : on.after ≡ v = ap (λ n. n.0) (same_end on.after v on.replies replies (sym on.is ∙ is)) in
    subst (IsWellReached c) same (record { base = base; begins = begins; events = past ++ events; replies = answers ++ on.replies; history = on.history; well = on.well })

-- a world that a call left as it was
pub unchanged : (p q : Program) → q ≡ p → (w v : World) → v ≡ w → (events : List Event) → IsReached p.config w → CallGoesWell p.config w events → IsWellReached q.config v
unchanged p q same w v left events reached goes =
    let c = p.config in
    let well = well_at c reached.base reached.begins reached.events [] reached.replies [] w w (goes reached.base reached.begins reached.events [] events reached.replies reached.is refl) refl in
    subst (λ (x : Program). IsWellReached x.config v) (sym same) (subst (IsWellReached c) (sym left) well)

-- the world after one event, by a call that keeps the program
pub behind : (p q : Program) → q ≡ p → (w v : World) (e : Event) (reply : Reply) → IsReached p.config w → CallGoesWell p.config w (e ∷ []) → happens p.config w e ≡ Ok (v, reply) → IsWellReached q.config v
behind p q same w v e reply reached goes is =
    let c = p.config in
    subst (λ (x : Program). IsWellReached x.config v) (sym same)
    (well_at c reached.base reached.begins reached.events (e ∷ []) reached.replies (reply ∷ []) w v (goes reached.base reached.begins reached.events (e ∷ []) [] reached.replies reached.is refl) (event_is_run c w v e reply [] is))
