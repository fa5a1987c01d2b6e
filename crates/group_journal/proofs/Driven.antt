-- Journals whose refreshes come from the plant are safe.
use Rattle.std.proofs.Common.{◌≡◌, ℕ, zero, suc, ◌+◌, Bool, true, false, List, [], ◌∷◌, ◌++◌, map, length, replicate, ◌==◌, if◌then◌else◌, refl, sym, ap, ◌∙◌, subst, arith}
use Rattle.std.proofs.lemmas.List.{append_assoc}
use Rattle.il_syntax.specs.declared.tree.Config.{Config}
use Rattle.group_spec.specs.declared.event.Event.{Event}
use Rattle.group_spec.specs.declared.event.Event.TheVariants.{Instruction, Commit, Refresh, Press, Gather}
use Rattle.group_spec.specs.declared.image.Fields.{Fields}
use Rattle.group_spec.specs.declared.journal.Entry.{Entry}
use Rattle.group_spec.specs.declared.journal.Entry.TheVariants as entry
use Rattle.group_spec.specs.Hands.{floors_of}
use Rattle.group_spec.specs.Image.{sizes_of, FieldsInRange, fields_in_range}
use Rattle.group_spec.specs.Plant.{PlantState, IsPlantOf, StaysSafe, ObeysWithOwnFields}
use Rattle.group_spec.specs.Replies.{Reply}
use Rattle.group_spec.specs.World.{World, opening, happens, refreshes}
use Rattle.group_spec.proofs.Laws.{fields_in_range_means}
use Rattle.group_laws.specs.Accepted.{IsSound}
use Rattle.group_laws.specs.Runs.{IsReached, HasNoRefresh, fields_behind}
use Rattle.group_laws.proofs.Histories.{reached_well}
use Rattle.group_laws.proofs.Fields.{fields_changed, fields_kept}
use Rattle.group_laws.proofs.Following.{goes_on}
use Rattle.group_plant.specs.declared.switches.Switches.{Switches}
use Rattle.group_plant.specs.Switches.{under}
use Rattle.group_plant.proofs.Safe.{stays_safe, sized_after, fields_length, sized_under, safe_under, in_shafts_under}
use Rattle.group_journal.specs.Journal.{Enters, IsAccepted, AreAccepted, events_of, actor_of, entries_by, refresher}
use Rattle.group_journal.specs.Safe.{AreInShafts, IsDriven}
use Rattle.group_journal.specs.Driven.{Moves, MovesSafely, Leads, DrivenJournalIsSafe}
use Rattle.group_journal.proofs.Journals.{Ends, Led, same_world, takes_first, ended_run}
use Rattle.group_journal.proofs.Safe.{two_floors, without_fire, limit_within, opening_driven}
use Rattle.group_journal.proofs.Taking.{refresh_taken}

-- FIELDS BEHIND AN ENTRY

-- a scan's events are no refresh
scan_only : (t n : ℕ) → HasNoRefresh (replicate n (Instruction t) ++ Commit t ∷ [])
scan_only t zero = tt
scan_only t (suc n) = scan_only t n

-- a run that ends with a refresh in range shows its fields
shows_last : (c : Config) (events : List Event) (fields : Fields) (w v : World) (earlier all : List Reply) → FieldsInRange (sizes_of c) fields → Ends c w earlier (events ++ Refresh fields ∷ []) v all → AreAccepted all → v.group.image.fields ≡ fields
shows_last c [] fields w v earlier all inside is accepted =
    let g = takes_first c w v earlier all (Refresh fields) [] is accepted in
    let taken = refresh_taken c w g.next fields g.reply inside g.happens in
    ap (λ (x : World). x.group.image.fields) (sym (ended_run c g.next v _ all g.rest)) ∙ fields_changed c w g.next (Refresh fields) g.reply g.happens ∙ ap (fields_behind w.group.image.fields (Refresh fields)) taken.1
shows_last c (e ∷ events) fields w v earlier all inside is accepted =
    let g = takes_first c w v earlier all e (events ++ Refresh fields ∷ []) is accepted in
    shows_last c events fields g.next v (earlier ++ g.reply ∷ []) all inside g.rest accepted

-- and the fields of the refresh that ends it are in range
refreshes_in_range : (w v : World) (fields : Fields) (r : Reply) (b : Bool) → refreshes w fields b ≡ Led v r → IsAccepted r → b ≡ true
refreshes_in_range w v fields r true is accepted = refl
refreshes_in_range w v fields r false is accepted = absurd (subst IsAccepted (sym (same_world w v _ r is).1) accepted)

accepted_in_range : (c : Config) (w v : World) (fields : Fields) (r : Reply) → happens c w (Refresh fields) ≡ Led v r → IsAccepted r → fields_in_range (sizes_of c) fields ≡ true
unfolding happens
accepted_in_range c w v fields r is accepted = refreshes_in_range w v fields r (fields_in_range (sizes_of c) fields) is accepted

last_in_range : (c : Config) (events : List Event) (fields : Fields) (w v : World) (earlier all : List Reply) → Ends c w earlier (events ++ Refresh fields ∷ []) v all → AreAccepted all → fields_in_range (sizes_of c) fields ≡ true
last_in_range c [] fields w v earlier all is accepted =
    let g = takes_first c w v earlier all (Refresh fields) [] is accepted in accepted_in_range c w g.next fields g.reply g.happens g.accepted
last_in_range c (e ∷ events) fields w v earlier all is accepted =
    let g = takes_first c w v earlier all e (events ++ Refresh fields ∷ []) is accepted in last_in_range c events fields g.next v (earlier ++ g.reply ∷ []) all g.rest accepted

-- ONE ENTRY

reached_on : (c : Config) (w m : World) (e : Entry) (answer : Reply) (plant : PlantState) → IsDriven c plant w → Enters c w e m answer → IsReached c m
reached_on c w m e answer plant driven step = goes_on c w m [] (step.replies ++ answer ∷ []) (events_of step.instructions e) driven.reached step.happens

-- after a scan's entry the image tells what the plant tells, as before
scanned_driven : (c : Config) (w m : World) (e : Entry) (answer : Reply) (before next : PlantState) → IsDriven c before w → (step : Enters c w e m answer) → HasNoRefresh (events_of step.instructions e) → next ≡ before → IsDriven c next m
scanned_driven c w m e answer before next driven step none same =
    subst (λ p. IsDriven c p m) (sym same) (record {
      reached = reached_on c w m e answer before driven step;
      sized = driven.sized;
      shown = fields_kept c w m [] (step.replies ++ answer ∷ []) (events_of step.instructions e) none step.happens ∙ driven.shown;
      shafts = driven.shafts;
    })

step_is_safe : (c : Config) → IsSound c → (switches : Switches) (w m : World) (e : Entry) (answer : Reply) (before next : PlantState) → IsDriven c before w → Enters c w e m answer → Moves switches w e before next → MovesSafely c switches w e before next × IsDriven c next m
step_is_safe c sound switches w m (entry.Start t) answer before next driven step same = (same, scanned_driven c w m (entry.Start t) answer before next driven step tt same)
step_is_safe c sound switches w m (entry.Commit t) answer before next driven step same = (same, scanned_driven c w m (entry.Commit t) answer before next driven step (scan_only t step.instructions) same)
step_is_safe c sound switches w m (entry.Refresh fields entered) answer before next driven step (moved, told_fields) =
    let sizes = sizes_of c in
    let two = two_floors c sound in
    let here = reached_well c sound w driven.reached in
    let image = w.group.image in
    let obeys : ObeysWithOwnFields before image.outputs = without_fire image before driven.shown here.obeys in
    let many : length image.outputs ≡ length before.cars = obeys.cars ∙ fields_length before.floors before.cars in
    let events = map Press entered ++ map Gather (floors_of entered) in
    let happens_so : Ends c w [] (events ++ Refresh fields ∷ []) m (step.replies ++ answer ∷ []) =
    subst (λ es. Ends c w [] es m (step.replies ++ answer ∷ [])) (sym (append_assoc (map Press entered) (map Gather (floors_of entered)) (Refresh fields ∷ []))) step.happens
    in
    let ranged : fields_in_range sizes fields ≡ true = last_in_range c events fields w m [] (step.replies ++ answer ∷ []) happens_so step.accepted in
    let inside : FieldsInRange sizes fields = fields_in_range_means sizes fields ranged in
    let low = limit_within c switches before next image.outputs moved (subst (λ f. fields_in_range sizes f ≡ true) told_fields ranged) in
    let stays = stays_safe sizes before image.outputs (omega (arith, two)) driven.sized many obeys in
    let safe : StaysSafe sizes before next = subst (StaysSafe sizes before) (sym moved) (safe_under sizes switches before image.outputs low stays) in
    let shafts : AreInShafts next = subst AreInShafts (sym moved) (in_shafts_under sizes switches before image.outputs many stays driven.shafts)
    in (
      ((moved, told_fields), record { obeys = obeys; step = safe; shafts = shafts }),
      record {
        reached = reached_on c w m (entry.Refresh fields entered) answer before driven step;
        sized = subst (IsPlantOf sizes) (sym moved) (sized_after sizes (under switches before) image.outputs (sized_under sizes switches before driven.sized low) many);
        shown = shows_last c events fields w m [] (step.replies ++ answer ∷ []) inside happens_so step.accepted ∙ told_fields;
        shafts = shafts;
      },
    )

-- JOURNALS

leads_safely : (c : Config) → IsSound c → (switches : ℕ → Switches) (made : ℕ) (entries : List Entry) (before plant : PlantState) (w v : World) → IsDriven c before w → Leads Moves c switches made before w entries plant v → Leads (MovesSafely c) c switches made before w entries plant v
leads_safely c sound switches made [] before plant w v driven same = same
leads_safely c sound switches made (e ∷ entries) before plant w v driven (m, answer, next, step, moves, rest) =
    let here = step_is_safe c sound (switches (made + 1)) w m e answer before next driven step moves in
    (m, answer, next, step, here.0, leads_safely c sound switches (made + (if actor_of e == refresher then 1 else 0)) entries next plant m v here.1 rest)

pub driven_journal_is_safe : DrivenJournalIsSafe
driven_journal_is_safe c sound switches entries plant w leads =
    let first = opening_driven c sound in
    record { opens = first.shafts; leads = leads_safely c sound switches 0 entries _ plant (opening c) w first leads }

-- a further entry
pub leads_more : (step : Switches → World → Entry → PlantState → PlantState → Type 0) (c : Config) (switches : ℕ → Switches) (made : ℕ) (before plant next : PlantState) (w m v : World) (entries : List Entry) (e : Entry) (answer : Reply)
    → Leads step c switches made before w entries plant m → Enters c m e v answer → step (switches ((made + entries_by refresher entries) + 1)) m e plant next → Leads step c switches made before w (entries ++ e ∷ []) next v
leads_more step c switches made before plant next w m v [] e answer (same, here) enters moves =
    let none : (made + 0) + 1 ≡ made + 1 = omega arith in
    (v, answer, next, subst (λ x. Enters c x e v answer) (sym here) enters, subst (λ x. step (switches (made + 1)) x e before next) (sym here) (subst (λ p. step (switches (made + 1)) m e p next) (sym same) (subst (λ n. step (switches n) m e plant next) none moves)), (refl, refl))
leads_more step c switches made before plant next w m v (d ∷ entries) e answer (x, reply, first, enters, moves, rest) last step_last =
    let more = if actor_of d == refresher then 1 else 0 in
    let number : (made + (more + entries_by refresher entries)) + 1 ≡ ((made + more) + entries_by refresher entries) + 1 = omega arith in
    (x, reply, first, enters, moves, leads_more step c switches (made + more) first plant next x m v entries e answer rest last (subst (λ n. step (switches n) m e plant next) number step_last))
