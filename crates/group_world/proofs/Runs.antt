-- Runs over lists of events.
use Rattle.std.proofs.Common.{◌≡◌, ◌<◌, ◌≤◌, ◌+◌, ◌-◌, ℕ, ◌∙◌, sym, ap, List, [], ◌∷◌, ◌++◌, length, drop, Ok, arith}
use Rattle.std.specs.Prelude.{slice_index_or}
use Rattle.std.proofs.lemmas.List.{drop_more, length-append}
use Rattle.il_syntax.specs.declared.tree.Config.{Config}
use Rattle.group_spec.specs.declared.event.Event.{Event}
use Rattle.group_spec.specs.Replies.{Reply}
use Rattle.group_world.specs.Running.{may_report, reporting}
use Rattle.group_spec.specs.World.{World, happens, run, and_then}

-- a run of what is left takes one event
pub one_more : (p q : Config) (events : List Event) (at : ℕ) (e : Event) (w next : World) (reply : Reply) (so_far then : List Reply) → q ≡ p → at < length events → e ≡ slice_index_or events at e → happens q w e ≡ Ok (next, reply) → then ≡ so_far ++ reply ∷ []
    → run p w so_far (drop at events) ≡ run p next then (drop (at + 1) events)
one_more p q events at e w next reply so_far then same below is happened more =
    ap (λ es. run p w so_far es) (drop_more events at e below ∙ ap (λ d. d ∷ drop (at + 1) events) (sym is))
    ∙ ap (λ r. and_then r (λ n. run p n.0 (so_far ++ n.1 ∷ []) (drop (at + 1) events))) (ap (λ d. happens d w e) (sym same) ∙ happened)
    ∙ ap (λ items. run p next items (drop (at + 1) events)) (sym more)

-- one reply more
pub one_longer : (items then : List Reply) (reply : Reply) (before at : ℕ) → then ≡ items ++ reply ∷ [] → length items ≡ before + at → length then ≡ before + (at + 1)
one_longer items then reply before at more is = let n : length then ≡ length items + 1 = ap length more ∙ length-append items (reply ∷ []) in omega (arith, n, is)

-- and there is room for the rest
pub room_left : (items then : List Reply) (reply : Reply) (total at before after : ℕ) → at < total → then ≡ items ++ reply ∷ [] → length items + (total - at) ≤ before → before ≤ after → length then + (total - (at + 1)) ≤ after
room_left items then reply total at before after below more room grows = let n : length then ≡ length items + 1 = ap length more ∙ length-append items (reply ∷ []) in omega (arith, n, below, room, grows)

-- the reports that are left
pub reports_left : (events : List Event) (at : ℕ) (e : Event) → at < length events → e ≡ slice_index_or events at e → reporting (drop at events) ≡ may_report e + reporting (drop (at + 1) events)
reports_left events at e below is = ap reporting (drop_more events at e below ∙ ap (λ d. d ∷ drop (at + 1) events) (sym is))
