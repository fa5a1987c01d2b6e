-- A run over the instructions that are left of a scan.
use Rattle.std.proofs.Common.{◌≡◌, ℕ, zero, suc, ◌≤◌, true, List, [], ◌∷◌, ◌++◌, length, Option, Some, None, Ok, sym, ap, ◌∙◌, arith, if◌then◌else◌}
use Rattle.std.specs.Prelude.{slice_get, slice_set, is_some}
use Rattle.std.proofs.lemmas.List.{append_assoc}
use Rattle.il_syntax.specs.declared.tree.Config.{Config}
use Rattle.il_semantics.specs.State.{State}
use Rattle.il_semantics.specs.Step.{Next, step}
use Rattle.il_semantics.specs.Scan.{Reaches, has_ended}
use Rattle.scan_task.specs.Standing.{Standing}
use Rattle.group_laws.proofs.Unended.{unended}
use Rattle.group_spec.specs.declared.event.Event.TheVariants.{Instruction}
use Rattle.group_spec.specs.declared.calls.Call.{Call}
use Rattle.group_spec.specs.Replies.{Reply, More, End}
use Rattle.group_spec.specs.World.{World, Group, TaskState, flat, task_at, happens, run, and_then, reply_to, instructs, instructs_in, instructs_scan, stepped}
use Rattle.group_world.specs.Running.{instructions, up_to_end}
use Rattle.group_world.specs.Groups.{scans_by, world_by}
use Rattle.group_world.specs.Worlds.{RunsOut}
use Rattle.group_world.proofs.Views.{scan_put, scans_length, set_same, set_again, set_there, within, flat_some}
use Rattle.group_world.proofs.Events.{ended_so}

module _ (c : Config) (g : Group) (stores : List (Option Standing)) (desk hand : List Call) (t : ℕ) (task : TaskState) (many : length stores ≡ length g.tasks) (there : task_at g t ≡ Some task) where
  abbrev scans : List (Option State)
  scans = scans_by g.tasks stores

  -- the world, where the scan of the task is so
  abbrev at : State → World
  at x = record { group = g; scans = slice_set scans t (Some x); desk = desk; hand = hand }

  found : (x : State) → flat (slice_get (slice_set scans t (Some x)) t) ≡ Some x
  found x = set_there scans t x (let below = within g.tasks t task there in let n = scans_length g.tasks stores many in omega (arith, below, n))

  one : (x m : State) → step c x ≡ Next m → happens c (at x) (Instruction t) ≡ Ok (at m, reply_to m)
  unfolding happens
  one x m is =
      ap (instructs c (at x) t) there ∙ ap (instructs_in c (at x) t) (found x) ∙ ap (instructs_scan c (at x) t x) (unended c x m is) ∙ ap (stepped (at x) t) is
      ∙ ap (λ ss. Ok (record { group = g; scans = ss; desk = desk; hand = hand }, reply_to m)) (set_again scans t (Some x) (Some m))

  all : (n : ℕ) (x y : State) (earlier : List Reply) → has_ended y ≡ true → Reaches c (suc n) x y → run c (at x) earlier (instructions t (suc n)) ≡ Ok (at y, earlier ++ up_to_end (suc n))
  all zero x y earlier ended (mid, first, last) =
      ap (λ r. and_then r (λ v. run c v.0 (earlier ++ v.1 ∷ []) [])) (one x mid first) ∙ ap (λ m. Ok (at m, earlier ++ reply_to m ∷ [])) (sym last)
      ∙ ap (λ b. Ok (at y, earlier ++ (if b then End else More) ∷ [])) ended
  all (suc n) x y earlier ended (mid, first, rest) =
      ap (λ r. and_then r (λ v. run c v.0 (earlier ++ v.1 ∷ []) (instructions t (suc n)))) (one x mid first)
      ∙ ap (λ b. run c (at mid) (earlier ++ (if b then End else More) ∷ []) (instructions t (suc n))) (unended c mid rest.0 rest.1)
      ∙ all n mid y (earlier ++ More ∷ []) ended rest ∙ ap (λ l. Ok (at y, l)) (append_assoc earlier (More ∷ []) (up_to_end (suc n)))

  some_steps : (n : ℕ) (x y : State) → 1 ≤ n → has_ended y ≡ true → Reaches c n x y → run c (at x) [] (instructions t n) ≡ Ok (at y, up_to_end n)
  some_steps zero x y some ended reaches = absurd (omega (arith, some))
  some_steps (suc n) x y some ended reaches = all n x y [] ended reaches

  -- the world with this store is that whose scan is there
  put : (s : Standing) → is_some task.tickets ≡ true → scans_by g.tasks (slice_set stores t (Some s)) ≡ slice_set scans t (Some s.state)
  put s busy =
      ap (λ ts. scans_by ts (slice_set stores t (Some s))) (sym (set_same g.tasks t (Some task) (flat_some _ task there)))
      ∙ scan_put g.tasks stores t task s many ∙ ap (λ b. slice_set scans t (if b then Some s.state else None)) busy

  -- an open scan of a world runs to its end
  pub finishes : (s : Standing) (after : Option Standing) (n : ℕ) (out : RunsOut c t s after n) → is_some task.tickets ≡ true → flat (slice_get stores t) ≡ Some s
      → run c (world_by g stores desk hand) [] (instructions t n) ≡ Ok (world_by g (slice_set stores t after) desk hand, up_to_end n)
  finishes s after n out busy kept =
      ap (λ ss. run c (record { group = g; scans = scans_by g.tasks ss; desk = desk; hand = hand }) [] (instructions t n)) (sym (set_same stores t (Some s) (flat_some _ s kept)))
      ∙ ap (λ ss. run c (record { group = g; scans = ss; desk = desk; hand = hand }) [] (instructions t n)) (put s busy)
      ∙ some_steps n s.state out.store.state out.some (ended_so out.store.state out.ended) out.steps
      ∙ ap (λ ss. Ok (record { group = g; scans = ss; desk = desk; hand = hand }, up_to_end n)) (sym (put out.store busy))
      ∙ ap (λ o. Ok (world_by g (slice_set stores t o) desk hand, up_to_end n)) (sym out.is)
