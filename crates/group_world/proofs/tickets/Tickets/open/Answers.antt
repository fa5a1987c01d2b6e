use Rattle.std.proofs.Common.{◌≡◌, ◌∙◌, true, ap, map, length, drop, arith, ℤ, Bool, Option, Some, ℕ, List}
use Rattle.std.proofs.lemmas.List.{length-map, take_at}
use Rattle.group_spec.specs.Calls.{ticket_of}
use Rattle.group_world.specs.Seen.{seen_by}
use Rattle.group_world.proofs.tickets.Tickets.open.Goals as goal

pub copy_to_front-requires : goal.copy_to_front-requires
copy_to_front-requires c =
    let slots = c.args.calls.now.slots in
    let shown : c.tickets.result.now ≡ map ticket_of slots = c.tickets.ensures ∙ ap (λ (s : List ℤ × (List Bool × List (Option ℕ))). s.1.1) c.columns.ensures in
    omega (arith, ap length shown, length-map slots ticket_of, c.count-count.ensures.few)

pub returns : goal.returns
returns c =
    let slots = c.args.calls.now.slots in
    let shown : c.tickets.result.now ≡ map ticket_of slots = c.tickets.ensures ∙ ap (λ (s : List ℤ × (List Bool × List (Option ℕ))). s.1.1) c.columns.ensures in
    let long : length c.tickets.result.now ≡ c.count-count.result = omega (arith, ap length shown, length-map slots ticket_of, c.count-count.ensures.value) in
    ap (seen_by true c.count-count.result) c.copy_to_front.ensures
    ∙ ap Some (take_at c.tickets.result.now (drop (length c.tickets.result.now) c.self.inside.seen) c.count-count.result long ∙ shown)
