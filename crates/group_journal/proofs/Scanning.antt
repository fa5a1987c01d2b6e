-- A scan from where it is to its end, and its commit.
use Rattle.std.proofs.Common.{◌≡◌, ℕ, zero, suc, ◌+◌, ◌<◌, ◌≤◌, Bool, true, false, List, [], ◌∷◌, ◌++◌, length, replicate, Option, Some, None, Ok, if◌then◌else◌, refl, sym, ap, ◌∙◌, subst, arith}
use Rattle.std.specs.Prelude.{slice_get, slice_set}
use Rattle.std.proofs.lemmas.List.{append_assoc}
use Rattle.il_syntax.specs.declared.tree.Config.{Config}
use Rattle.il_semantics.specs.State.{Frame, State}
use Rattle.il_semantics.specs.Step.{Next, Stuck, step, step_of}
use Rattle.il_semantics.specs.Scan.{Reaches, has_ended}
use Rattle.group_laws.proofs.Unended.{unended}
use Rattle.group_spec.specs.declared.event.Event.{Event}
use Rattle.group_spec.specs.declared.event.Event.TheVariants.{Instruction}
use Rattle.group_spec.specs.Replies.{Reply, More, End}
use Rattle.group_spec.specs.World.{World, TaskState, flat, task_at, scan_at, happens, run, and_then, reply_to, instructs, instructs_in, instructs_scan, stepped}
use Rattle.group_laws.specs.Accepted.{IsSound}
use Rattle.group_laws.specs.Holding.{SeatHolds, IsOpen, TaskHolds, WorldHolds}
use Rattle.group_laws.specs.Runs.{IsReached}
use Rattle.group_laws.specs.Scans.{ScanHolds}
use Rattle.group_laws.specs.Tasks.{budget_of}
use Rattle.group_laws.proofs.Accepted.{opens_well, scans_well}
use Rattle.group_laws.proofs.Running.{reached_world_holds}
use Rattle.group_laws.proofs.Seats.{flat_same}
use Rattle.group_journal.specs.Journal.{IsAccepted, AreAccepted}
use Rattle.group_journal.proofs.Handing.{append_nil}

-- WRITES INTO LISTS

pub within : {X : Type 0} (xs : List (Option X)) (t : ℕ) (x : X) → flat (slice_get xs t) ≡ Some x → t < length xs
within [] t x e = let bad : None ≡ Some x = e in cc
within (o ∷ xs) zero x e = omega arith
within (o ∷ xs) (suc t) x e = let rest = within xs t x e in omega (arith, rest)

pub set_again : {X : Type 0} (xs : List X) (t : ℕ) (a b : X) → slice_set (slice_set xs t a) t b ≡ slice_set xs t b
set_again [] t a b = refl
set_again (x ∷ xs) zero a b = refl
set_again (x ∷ xs) (suc t) a b = ap (λ l. x ∷ l) (set_again xs t a b)

pub set_same : {X : Type 0} (xs : List (Option X)) (t : ℕ) (x : X) → flat (slice_get xs t) ≡ Some x → slice_set xs t (Some x) ≡ xs
set_same [] t x e = refl
set_same (None ∷ xs) zero x e = let bad : None ≡ Some x = e in cc
set_same (Some y ∷ xs) zero x e = ap (λ o. o ∷ xs) (sym e)
set_same (o ∷ xs) (suc t) x e = ap (λ l. o ∷ l) (set_same xs t x e)

-- STEPS

-- steps after others
pub reaches_on : (c : Config) (m n : ℕ) (a b d : State) → Reaches c m a b → Reaches c n b d → Reaches c (m + n) a d
reaches_on c zero n a b d first more = let same : n ≡ 0 + n = omega arith in subst (λ k. Reaches c k a d) same (subst (λ x. Reaches c n x d) first more)
reaches_on c (suc m) n a b d (mid, goes, first) more = let same : suc (m + n) ≡ suc m + n = omega arith in subst (λ k. Reaches c k a d) same (mid, goes, reaches_on c m n mid b d first more)

either_accepted : (b : Bool) → IsAccepted (if b then End else More)
either_accepted true = tt
either_accepted false = tt

module _ (c : Config) (w : World) (t : ℕ) (task : TaskState) (there : task_at w.group t ≡ Some task) (among : t < length w.scans) where
  -- the world, where the scan of the task is so
  abbrev pub standing : State → World
  standing x = record { group = w.group; scans = slice_set w.scans t (Some x); desk = w.desk; hand = w.hand }

  pub found : (x : State) → scan_at (standing x) t ≡ Some x
  found x = flat_same w.scans t (Some x) among

  one : (x m : State) → step c x ≡ Next m → happens c (standing x) (Instruction t) ≡ Ok (standing m, reply_to m)
  unfolding happens
  one x m is =
      ap (instructs c (standing x) t) there ∙ ap (instructs_in c (standing x) t) (found x) ∙ ap (instructs_scan c (standing x) t x) (unended c x m is) ∙ ap (stepped (standing x) t) is
      ∙ ap (λ ss. Ok (record { group = w.group; scans = ss; desk = w.desk; hand = w.hand }, reply_to m)) (set_again w.scans t (Some x) (Some m))

  -- so many instructions are accepted, and lead where the scan's steps do
  pub all_steps : (n : ℕ) (x y : State) (earlier : List Reply) (rest : List Event) → Reaches c n x y
      → (replies : List Reply) × AreAccepted replies × (run c (standing x) earlier (replicate n (Instruction t) ++ rest) ≡ run c (standing y) (earlier ++ replies) rest)
  all_steps zero x y earlier rest same = ([], tt, ap (λ s. run c (standing s) earlier rest) (sym same) ∙ ap (λ rs. run c (standing y) rs rest) (sym (append_nil earlier)))
  all_steps (suc n) x y earlier rest (mid, goes, reaches) =
      let more = all_steps n mid y (earlier ++ reply_to mid ∷ []) rest reaches in (
        reply_to mid ∷ more.0,
        (either_accepted (has_ended mid), more.1),
        ap (λ r. and_then r (λ v. run c v.0 (earlier ++ v.1 ∷ []) (replicate n (Instruction t) ++ rest))) (one x mid goes) ∙ more.2 ∙ ap (λ rs. run c (standing y) rs rest) (append_assoc earlier (reply_to mid ∷ []) more.0),
      )

-- THE BUDGET

-- a task with an open scan
seat_of_scan : (c : Config) (t n : ℕ) (o : Option TaskState) (s : Option State) (scan : State) → SeatHolds c t n o s → s ≡ Some scan → (task : TaskState) × (o ≡ Some task) × TaskHolds c t n task (Some scan)
seat_of_scan c t n None None scan h e = let bad : None ≡ Some scan = e in cc
seat_of_scan c t n None (Some s) scan h e = absurd h
seat_of_scan c t n (Some task) s scan h e = (task, refl, subst (λ x. TaskHolds c t n task x) e h)

-- a scan that is open in a world of a run ends within the budget
pub ends_within : (c : Config) → IsSound c → (w : World) → IsReached c w → (t n : ℕ) (scan last : State) → scan_at w t ≡ Some scan → Reaches c n scan last → n ≤ budget_of c t
ends_within c sound w reached t n scan last there reaches =
    let scans = scans_well c sound in
    let holds : (steps : ℕ → ℕ) × WorldHolds c steps w = reached_world_holds c (opens_well c sound) scans w reached in
    let seat = seat_of_scan c t (holds.0 t) (task_at w.group t) (scan_at w t) scan (holds.1.each t) there in
    let begun : IsOpen c t (holds.0 t) seat.0 scan = seat.2.scanning in
    let all : ScanHolds c t seat.2.unit (holds.0 t + n) last = scans t seat.2.unit begun.group seat.0 (holds.0 t + n) last seat.2.is begun.ranges seat.2.variables (reaches_on c (holds.0 t) n _ scan last begun.reaches reaches) in
    let most = all.within in
    omega (arith, most)

-- and its task is there
pub task_of_scan : (c : Config) → IsSound c → (w : World) → IsReached c w → (t : ℕ) (scan : State) → scan_at w t ≡ Some scan → (task : TaskState) × (task_at w.group t ≡ Some task)
task_of_scan c sound w reached t scan there =
    let holds : (steps : ℕ → ℕ) × WorldHolds c steps w = reached_world_holds c (opens_well c sound) (scans_well c sound) w reached in
    let seat = seat_of_scan c t (holds.0 t) (task_at w.group t) (scan_at w t) scan (holds.1.each t) there in
    (seat.0, seat.1)
