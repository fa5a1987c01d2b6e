-- What is asked for is what the scans wished (own rules).
use Rattle.std.specs.Prelude.{◌≡◌, ℕ, suc, ◌+◌, ◌<◌, List, length, slice_get, Option, Some}
use Rattle.il_semantics.specs.State.{Values}
use Rattle.il_syntax.specs.declared.tree.Config.{Config}
use Rattle.group_spec.specs.Snapshot.{wishes_of, assigned}
use Rattle.group_spec.specs.World.{Group, TaskState, committed_group}
use Rattle.show_values.specs.Asked.{asked_after, serve_at, assign_of}
use Rattle.show_values.specs.declared.asked.Asked.{Asked}

-- What a car's commit asks to serve is SERVE as its scan left it, whatever the answer.
abbrev pub ServeIsWished : Type 0
ServeIsWished =
    (c : Config) (g : Group) (k : ℕ) (task : TaskState) (tickets : List (Option ℕ)) (values : Values) (asked : Asked) → k < length asked.serves
    → serve_at k (asked_after (suc k) (committed_group c g (suc k) task tickets values).1.answers asked) ≡ (wishes_of values).serve

-- What GROUP's commit asks to tell a slot to is ASSIGN of the slot as its scan left it, whatever the answer; the first slot is at place 0.
abbrev pub AssignIsWished : Type 0
AssignIsWished =
    (c : Config) (g : Group) (task : TaskState) (tickets : List (Option ℕ)) (values : Values) (asked : Asked) (place car : ℕ) → place < length tickets → slice_get (assigned (length tickets) values) place ≡ Some car
    → assign_of (place + 1) (asked_after 0 (committed_group c g 0 task tickets values).1.answers asked) ≡ car
