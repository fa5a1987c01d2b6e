-- An open scan of a task has the tickets that it saw.
use Rattle.std.proofs.Common.{◌≡◌, ℕ, List, Option, Some, None, refl, true, false}
use Rattle.std.specs.Prelude.{is_some}
use Rattle.group_spec.specs.World.{TaskState}
use Rattle.group_world.specs.Groups.{holds_tickets}

some_tickets : (o : Option (List (Option ℕ))) → is_some o ≡ true → (tickets : List (Option ℕ)) × (o ≡ Some tickets)
some_tickets None h = let bad : false ≡ true = h in cc
some_tickets (Some tickets) h = (tickets, refl)

pub open_task : (o : Option TaskState) → holds_tickets o ≡ true → (x : TaskState) × (tickets : List (Option ℕ)) × (o ≡ Some x) × (x.tickets ≡ Some tickets)
open_task None h = let bad : false ≡ true = h in cc
open_task (Some x) h = let found = some_tickets x.tickets h in (x, found.0, refl, found.1)
