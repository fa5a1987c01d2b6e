-- The plant under the lock, after one entry more.
use Rattle.std.proofs.Common.{◌≡◌, ℕ, ◌+◌, ◌<◌, Bool, List, [], length, replicate, sym, ap, ◌∙◌, arith, subst}
use Rattle.std.specs.Prelude.{slice_index_or, slice_set, if◌then◌else◌, Some, Result, Ok, Err}
use Rattle.std.specs.Result.{IsErrAnd}
use Rattle.std.proofs.lemmas.List.{get_or-set_same, get_or-set_other, length-set}
use Rattle.il_syntax.specs.declared.tree.Config.{Config}
use Rattle.group_spec.specs.declared.calls.Call.{Call}
use Rattle.group_spec.specs.declared.image.Fields.{Fields}
use Rattle.group_spec.specs.declared.journal.Entry.{Entry}
use Rattle.group_spec.specs.declared.journal.Entry.TheVariants as entry
use Rattle.group_spec.specs.Image.{sizes_of, FieldsInRange}
use Rattle.group_spec.specs.Plant.{PlantState, IsPlantOf}
use Rattle.group_spec.specs.Replies.{Reply}
use Rattle.group_spec.specs.World.{World, opening}
use Rattle.group_plant.specs.declared.switches.Switches.{Switches}
use Rattle.group_journal.specs.Driven.{Moves, IsDrivenJournal, first_plant}
use Rattle.group_journal.specs.Journal.{Enters, entries_by, refresher}
use Rattle.group_journal.specs.Pages.{Page, Adds}
use Rattle.group_journal.specs.declared.fault.StationFault.{StationFault}
use Rattle.group_journal.specs.declared.fault.StationFault.TheVariants.{FieldOutOfRange}
use Rattle.group_journal.proofs.Driven.{leads_more}
use Rattle.group_journal.proofs.Taking.{fields_so}
use Rattle.threads_book.specs.Ledgers.{refresh_fault, full_fault, fault_in}
use Rattle.threads_station.specs.Counted.{Counted, IsAtPlant}

-- the journal with one entry more is driven, where the entry takes the plant on
driven_more : (c : Config) (switches : ℕ → Switches) (b p : Page) (plant next : PlantState) (e : Entry) (answer : Reply) → b.config ≡ c → Adds b e answer p → IsDrivenJournal c switches b.journal plant b.world
    → Moves (switches (entries_by refresher b.journal + 1)) b.world e plant next → IsDrivenJournal c switches p.journal next p.world
driven_more c switches b p plant next e answer config adds driven moves =
    let step : Enters c b.world e p.world answer = subst (λ k. Enters k b.world e p.world answer) config adds.step in
    let number : entries_by refresher b.journal + 1 ≡ (0 + entries_by refresher b.journal) + 1 = omega arith in
    let more = leads_more Moves c switches 0 (first_plant c) plant next (opening c) b.world p.world b.journal e answer driven step (subst (λ n. Moves (switches n) b.world e plant next) number moves) in
    subst (λ es. IsDrivenJournal c switches es next p.world) (sym adds.journal) more

-- at the start
pub at_opening : (c : Config) (switches : ℕ → Switches) (totals : List ℕ) (b : Page) (plant : PlantState) → totals ≡ replicate 11 0 → b.journal ≡ [] → b.world ≡ opening c → plant ≡ first_plant c → IsPlantOf (sizes_of c) plant → IsAtPlant c switches totals b plant
at_opening c switches totals b plant none empty world first sized = record {
  sized = sized;
  most = omega (arith, ap (λ ts. slice_index_or ts 10 0) none);
  driven = λ same. subst (λ es. IsDrivenJournal c switches es plant b.world) (sym empty) (sym first, sym world);
}

-- a scan's entry leaves the plant as it is
pub at_scanned : (c : Config) (switches : ℕ → Switches) (totals : List ℕ) (b p : Page) (plant : PlantState) (e : Entry) (answer : Reply) (a n : ℕ) → a < 9 → b.config ≡ c → Adds b e answer p → ((s : Switches) (w : World) → Moves s w e plant plant)
    → IsAtPlant c switches totals b plant → IsAtPlant c switches (slice_set totals a n) p plant
at_scanned c switches totals b p plant e answer a n low config adds moves at =
    let nine : slice_index_or (slice_set totals a n) 9 0 ≡ slice_index_or totals 9 0 = get_or-set_other totals a 9 n 0 (λ same. absurd (omega (arith, same, low))) in
    let ten : slice_index_or (slice_set totals a n) 10 0 ≡ slice_index_or totals 10 0 = get_or-set_other totals a 10 n 0 (λ same. absurd (omega (arith, same, low))) in
    record {
      sized = at.sized;
      most = omega (arith, at.most, nine, ten);
      driven = λ same. driven_more c switches b p plant plant e answer config adds (at.driven (sym ten ∙ same ∙ nine)) (moves (switches (entries_by refresher b.journal + 1)) b.world);
    }

-- THE TOTALS AFTER A REFRESH

abbrev more : List ℕ → List ℕ
more totals = slice_set totals 9 (slice_index_or totals 9 0 + 1)

nine_more : (totals : List ℕ) → length totals ≡ 11 → slice_index_or (more totals) 9 0 ≡ slice_index_or totals 9 0 + 1
nine_more totals long = get_or-set_same totals 9 (slice_index_or totals 9 0 + 1) 0 (omega (arith, long))

ten_stays : (totals : List ℕ) → slice_index_or (more totals) 10 0 ≡ slice_index_or totals 10 0
ten_stays totals = get_or-set_other totals 9 10 (slice_index_or totals 9 0 + 1) 0 (λ same. absurd (omega (arith, same)))

-- after a refresh that didn't come from it, nothing is said of the plant
pub at_refreshed : (c : Config) (switches : ℕ → Switches) (totals : List ℕ) (b p : Page) (plant : PlantState) → length totals ≡ 11 → IsAtPlant c switches totals b plant
    → IsAtPlant c switches (slice_set totals 9 (slice_index_or totals 9 0 + 1)) p plant
at_refreshed c switches totals b p plant long at =
    let nine = nine_more totals long in
    let ten = ten_stays totals in
    record { sized = at.sized; most = omega (arith, at.most, nine, ten); driven = λ same. absurd (omega (arith, at.most, nine, ten, same)) }

-- a refresh by the plant takes it on
pub at_driven : (c : Config) (switches : ℕ → Switches) (now : Switches) (totals : List ℕ) (b p : Page) (plant next : PlantState) (fields : Fields) (calls : List Call) (answer : Reply) → Counted totals b.journal → b.config ≡ c → Adds b (entry.Refresh fields calls) answer p
    → now ≡ switches (entries_by refresher b.journal + 1) → Moves now b.world (entry.Refresh fields calls) plant next → IsPlantOf (sizes_of c) next → IsAtPlant c switches totals b plant
    → (last : List ℕ) → last ≡ slice_set totals 9 (slice_index_or totals 9 0 + 1) → IsAtPlant c switches (slice_set last 10 (slice_index_or last 10 0 + 1)) p next
at_driven c switches now totals b p plant next fields calls answer counted config adds set moves sized at last is =
    let nine : slice_index_or last 9 0 ≡ slice_index_or totals 9 0 + 1 = ap (λ ts. slice_index_or ts 9 0) is ∙ nine_more totals counted.many in
    let ten : slice_index_or last 10 0 ≡ slice_index_or totals 10 0 = ap (λ ts. slice_index_or ts 10 0) is ∙ ten_stays totals in
    let long : length last ≡ 11 = ap length is ∙ length-set totals 9 (slice_index_or totals 9 0 + 1) ∙ counted.many in
    let still : slice_index_or (slice_set last 10 (slice_index_or last 10 0 + 1)) 9 0 ≡ slice_index_or last 9 0 = get_or-set_other last 10 9 (slice_index_or last 10 0 + 1) 0 (λ same. absurd (omega (arith, same))) in
    let one : slice_index_or (slice_set last 10 (slice_index_or last 10 0 + 1)) 10 0 ≡ slice_index_or last 10 0 + 1 = get_or-set_same last 10 (slice_index_or last 10 0 + 1) 0 (omega (arith, long)) in
    record {
      sized = sized;
      most = omega (arith, at.most, nine, ten, still, one);
      driven = λ same.
          driven_more c switches b p plant next (entry.Refresh fields calls) answer config adds (at.driven (omega (arith, nine, ten, still, one, same))) (subst (λ s. Moves s b.world (entry.Refresh fields calls) plant next) set moves);
    }

-- fields in range are refused only by a full journal
pub driven_fault : (b : Page) (fields : Fields) → FieldsInRange (sizes_of b.config) fields → refresh_fault b fields ≡ full_fault b
driven_fault b fields inside = ap (λ (x : Bool). if x then full_fault b else Some FieldOutOfRange) (fields_so (sizes_of b.config) fields inside)

-- a fault goes up as it is
pub fault_up : {A : Type 0} (r : Result A StationFault) (f : StationFault) → IsErrAnd r (λ e. e ≡ f) → fault_in r ≡ Some f
fault_up (Ok x) f bad = absurd bad
fault_up (Err e) f same = ap Some same
