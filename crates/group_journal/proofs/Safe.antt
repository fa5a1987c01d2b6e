-- Rounds keep the cars safe: what the image has at a round's step is what the plant reported before.
use Rattle.std.proofs.Common.{◌≡◌, ℕ, zero, suc, ◌≤◌, true, false, List, [], ◌∷◌, length, replicate, ℤ, pos, negsuc, ◌≤ℤ◌, sym, ap, ◌∙◌, subst, arith}
use Rattle.std.specs.Prelude.{nat_abs}
use Rattle.std.proofs.lemmas.Int.{ints}
use Rattle.il_syntax.specs.declared.tree.Config.{Config}
use Rattle.group_spec.specs.declared.calls.Call.{Call}
use Rattle.group_spec.specs.declared.event.Event.TheVariants.{Start, Instruction, Commit, Refresh}
use Rattle.group_spec.specs.declared.image.CarOutputs.{CarOutputs}
use Rattle.group_spec.specs.declared.image.Fields.{Fields}
use Rattle.group_spec.specs.declared.image.Image.{Image}
use Rattle.group_spec.specs.declared.journal.Entry.{Entry}
use Rattle.group_spec.specs.Image.{sizes_of, fields_in_range, Obeys}
use Rattle.group_spec.specs.Plant.{PlantState, IsPlantOf, StaysSafe, ObeysWithOwnFields, opening_plant, plant_after, fields_of_plant}
use Rattle.group_spec.specs.Replies.{Started, Committed, Refreshed}
use Rattle.group_spec.specs.World.{World, opening}
use Rattle.group_laws.specs.Accepted.{IsSound}
use Rattle.group_laws.specs.Runs.{HasNoRefresh}
use Rattle.group_laws.proofs.Histories.{reached_well}
use Rattle.group_laws.proofs.Fields.{fields_changed, fields_kept}
use Rattle.group_laws.proofs.Tasks.{floors_within}
use Rattle.group_spec.proofs.Laws.{fields_in_range_means}
use Rattle.group_plant.specs.declared.switches.Switches.{Switches}
use Rattle.group_plant.specs.Switches.{under}
use Rattle.group_plant.proofs.Safe.{stays_safe, sized_after, opening_sized, opening_reports, opening_in_shafts, fields_length, sized_under, safe_under, in_shafts_under, limit_told}
use Rattle.group_journal.specs.Rounds.{Scans, ScanEach, Rounds, desk_events, tasks_in_order}
use Rattle.group_journal.specs.Safe.{AreInShafts, KeepsCarsSafe, IsDriven, DrivenIsSafe, RoundsKeepCarsSafe}
use Rattle.group_journal.proofs.Journals.{opening_reached}
use Rattle.group_journal.proofs.Rounds.{happen_reached, round_reached, desk_leaves, refresh_of}

-- SIZES

as_size : (z : ℤ) → pos 2 ≤ℤ z → 2 ≤ nat_abs z
as_size (pos n) low = omega (arith, ints, low)
as_size (negsuc n) low = absurd (omega (arith, ints, low))

-- an accepted configuration has two floors
pub two_floors : (c : Config) → IsSound c → 2 ≤ (sizes_of c).floors
two_floors c sound = as_size c.floors.value (floors_within c sound.declared).0

-- SCANS LEAVE THE FIELDS

instructions_only : (t n : ℕ) → HasNoRefresh (replicate n (Instruction t))
instructions_only t zero = tt
instructions_only t (suc n) = instructions_only t n

scan_fields : (c : Config) (t : ℕ) (w v : World) → Scans c t w v → v.group.image.fields ≡ w.group.image.fields
scan_fields c t w v s =
    let f = s.rest in
    fields_changed c f.at_end v (Commit t) (Committed f.report) f.commit ∙ fields_kept c s.started f.at_end [] _ (replicate f.finish.instructions (Instruction t)) (instructions_only t f.finish.instructions) f.finish.steps
    ∙ fields_changed c w s.started (Start t) Started s.start

scans_fields : (c : Config) (tasks : List ℕ) (w v : World) → ScanEach c tasks w v → v.group.image.fields ≡ w.group.image.fields
scans_fields c [] w v same = ap (λ (x : World). x.group.image.fields) (sym same)
scans_fields c (t ∷ tasks) w v (m, first, rest) = scans_fields c tasks m v rest ∙ scan_fields c t w m first

-- THE STEP OF A ROUND

-- outputs that obey obey without FIRE
pub without_fire : (image : Image) (plant : PlantState) → image.fields ≡ fields_of_plant plant → Obeys image → ObeysWithOwnFields plant image.outputs
without_fire image plant shown obeys =
    let own : Obeys (record { fields = fields_of_plant plant; outputs = image.outputs }) = subst (λ (f : Fields). Obeys (record { fields = f; outputs = image.outputs })) shown obeys in
    record { cars = own.cars; each = own.each; limit = own.limit; fire = λ is. let no : false ≡ true = is in cc }

-- what a plant told in a refresh that was taken is set within the number of cars
pub limit_within : (c : Config) (switches : Switches) (before next : PlantState) (outputs : List CarOutputs) → next ≡ plant_after (under switches before) outputs → fields_in_range (sizes_of c) (fields_of_plant next) ≡ true → switches.run_limit ≤ (sizes_of c).cars
limit_within c switches before next outputs step inside =
    subst (λ n. n ≤ (sizes_of c).cars) (ap (λ (p : PlantState). p.run_limit) step ∙ limit_told switches before outputs) (fields_in_range_means (sizes_of c) (fields_of_plant next) inside).run_limit

pub driven_is_safe : DrivenIsSafe
driven_is_safe c sound calls switches before next w v entries driven round =
    let sizes = sizes_of c in
    let two = two_floors c sound in
    let gathered = happen_reached c w round.gathered (desk_events c calls) driven.reached round.desk in
    let here = reached_well c sound round.gathered gathered in
    let same : round.gathered.group ≡ w.group = ap (λ (x : World). x.group) (desk_leaves c calls w round.gathered round.desk) in
    let image = round.gathered.group.image in
    let shown : image.fields ≡ fields_of_plant before = ap (λ g. g.image.fields) same ∙ driven.shown in
    let obeys : ObeysWithOwnFields before image.outputs = without_fire image before shown here.obeys in
    let many : length image.outputs ≡ length before.cars = obeys.cars ∙ fields_length before.floors before.cars in
    let inside = (refresh_of c round.gathered round.refreshed (fields_of_plant next) round.report round.refresh).inside in
    let low = limit_within c switches before next image.outputs round.plant_step inside in
    let stays = stays_safe sizes before image.outputs (omega (arith, two)) driven.sized many obeys in
    let back = sym round.plant_step in
    let shafts = in_shafts_under sizes switches before image.outputs many stays driven.shafts in
    let now = fields_changed c round.gathered round.refreshed (Refresh (fields_of_plant next)) (Refreshed round.report) round.refresh in (
      record {
        obeys = obeys;
        step = subst (StaysSafe sizes before) back (safe_under sizes switches before image.outputs low stays);
        shafts = subst AreInShafts back shafts;
      },
      record {
        reached = round_reached c calls switches before next w v entries driven.reached round;
        sized = subst (IsPlantOf sizes) back (sized_after sizes (under switches before) image.outputs (sized_under sizes switches before driven.sized low) many);
        shown = scans_fields c (tasks_in_order c) round.refreshed v round.scans ∙ now;
        shafts = subst AreInShafts back shafts;
      },
    )

-- FROM THE OPENING

opening_shown : (c : Config) → 2 ≤ (sizes_of c).floors → (opening c).group.image.fields ≡ fields_of_plant (opening_plant (sizes_of c).cars (sizes_of c).floors)
unfolding opening
opening_shown c two = sym (opening_reports (sizes_of c).cars (sizes_of c).floors (sizes_of c).slots two)

pub opening_driven : (c : Config) → IsSound c → IsDriven c (opening_plant (sizes_of c).cars (sizes_of c).floors) (opening c)
opening_driven c sound = record {
  reached = opening_reached c;
  sized = opening_sized (sizes_of c).cars (sizes_of c).floors (sizes_of c).slots;
  shown = opening_shown c (two_floors c sound);
  shafts = opening_in_shafts (sizes_of c).cars (sizes_of c).floors;
}

rounds_driven : (c : Config) → IsSound c → (calls : ℕ → List Call) (switches : ℕ → Switches) (n : ℕ) (plant : PlantState) (w : World) (entries : List Entry) (rounds : Rounds c calls switches n plant w entries) → KeepsCarsSafe c calls switches n plant w entries rounds × IsDriven c plant w
rounds_driven c sound calls switches zero plant w entries (plant_is, world_is, none) =
    let first = opening_driven c sound in
    let driven : IsDriven c plant w = subst (λ p. IsDriven c p w) (sym plant_is) (subst (IsDriven c (opening_plant (sizes_of c).cars (sizes_of c).floors)) (sym world_is) first) in
    (driven.shafts, driven)
rounds_driven c sound calls switches (suc n) plant w entries (before, u, earlier, last, rounds, round, is) =
    let so_far = rounds_driven c sound calls switches n before u earlier rounds in
    let here = driven_is_safe c sound (calls (suc n)) (switches (suc n)) before plant u w last so_far.1 round in
    ((so_far.0, here.0), here.1)

pub rounds_keep_cars_safe : RoundsKeepCarsSafe
rounds_keep_cars_safe c sound calls switches n plant w entries rounds = (rounds_driven c sound calls switches n plant w entries rounds).0
