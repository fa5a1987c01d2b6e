-- A text that is spelled has one fault at most, by its number and its place.
use Rattle.std.proofs.Common.{◌≡◌, ◌++◌, ◌∷◌, [], ℕ, List, Result, Ok, Err, arith, sym, ap₂, ◌∙◌, subst}
use Rattle.std.specs.Prelude.{Contains, IfErr, IsErrAnd, flat_map}
use Rattle.std.proofs.lemmas.Option.{slice_get_within}
use Rattle.il_syntax.specs.declared.fault.Refusal.{Refusal}
use Rattle.il_syntax.specs.declared.fault.Refusal.TheVariants.{Fault, Memory}
use Rattle.il_syntax.specs.declared.tree.Config.{Config}
use Rattle.il_syntax.specs.declared.tree.Place.{Place}
use Rattle.il_syntax.specs.declared.tree.Step.{Step}
use Rattle.il_syntax.specs.declared.tree.Unit.{Unit as Organized}
use Rattle.il_syntax.proofs.Places.{place_is}
use Rattle.il_syntax.specs.Grammar.{Spells}
use Rattle.il_statics.proofs.FirstFaults.{first_is_one}
use Rattle.il_statics.specs.Faults.{Declaring, Typing, Ordering, Broken, BreaksDeclarations, HasNoFault, IsRefusedBy}
use Rattle.il_syntax_laws.specs.Places.{places, unit_places, inner_places, result_places, declaration_places, step_places, instruction_places, name_places, BreaksAtPlaces}
use Rattle.il_syntax_laws.proofs.Members.{first_in, later_in, left_in, right_in, given_in, standing_in}
use Rattle.il_syntax_laws.proofs.FaultPlaces.{broken_place}
use Rattle.il_syntax_laws.proofs.FirstLines.{first_at_one_line}
use Rattle.il_semantics.specs.Annotation.{Annotated}
use Rattle.ranges_pass.specs.Lacking.{BreaksRanges, lacks_ranges}
use Rattle.load_budgets.specs.Costs.{IsTooLong, too_long}
use Rattle.scan_task.specs.Scanning.{Program}
use Rattle.load_tree.specs.Refused.{IsFault}
use Rattle.load_text.specs.Loading.{SpellsOnly, IsRefusedFor, by_declarations, by_types, by_order, by_ranges, by_budgets, IsSpelledWith}

-- PLACES

heading_in : (c : Config) (u : Organized) → Contains c.units u → Contains (places c) u.place
heading_in c u has = left_in (flat_map unit_places c.units) _ u.place (given_in unit_places c.units u u.place has (first_in u.place (u.name.place ∷ (result_places u.kind ++ inner_places u))))

step_in : (c : Config) (u : Organized) (s : Step) → Contains c.units u → Contains u.body.steps s → Contains (places c) s.place
step_in c u s has among =
    left_in (flat_map unit_places c.units) _ s.place (given_in unit_places c.units u s.place has
    (later_in u.place (u.name.place ∷ (result_places u.kind ++ inner_places u)) s.place (later_in u.name.place (result_places u.kind ++ inner_places u) s.place (right_in (result_places u.kind) (inner_places u) s.place
    (right_in (flat_map declaration_places u.inputs) _ s.place (right_in (flat_map declaration_places u.outputs) _ s.place
    (right_in (flat_map declaration_places u.variables) _ s.place (right_in (flat_map declaration_places u.externals) _ s.place
    (left_in (flat_map step_places u.body.steps) (flat_map name_places u.body.last_labels ++ u.body.end ∷ []) s.place (given_in step_places u.body.steps s s.place among
    (right_in (flat_map name_places s.labels) (s.place ∷ instruction_places s.instruction) s.place (first_in s.place (instruction_places s.instruction)))))))))))))

ranges_at : (c : Config) → BreaksAtPlaces c (BreaksRanges c)
ranges_at c n p (lacks_ranges u has lacks) = subst (Contains (places c)) (sym lacks.place_is) (step_in c u lacks.step has (standing_in u.body.steps lacks.at lacks.step lacks.stands))

budgets_at : (c : Config) → BreaksAtPlaces c (IsTooLong c)
budgets_at c n p (too_long u cost has longest over number is) = subst (Contains (places c)) (sym is) (heading_in c u has)

-- ONE PHASE

-- two first faults of a rule are one
same_fault : (text : List ℕ) (c : Config) (rule : ℕ → Place → Type 0) → Spells text c → BreaksAtPlaces c rule → (n m : ℕ) (p q : Place) → IsRefusedBy rule (Fault n p) → IsRefusedBy rule (Fault m q) → (n ≡ m) × (p ≡ q)
same_fault text c rule spelled at n m p q first other =
    let same = first_at_one_line text c rule spelled at n m p q first other in
    (same.0, place_is p q (first_is_one rule n m p q first other).1 same.1)

-- a fault of a rule is broken
is_broken : (rule : ℕ → Place → Type 0) (n : ℕ) (p : Place) → IsRefusedBy rule (Fault n p) → HasNoFault rule → ⊥
is_broken rule n p first none = none n p first.broken

-- where each unit has ranges, none lacks them
lacks_none : (c : Config) (n : ℕ) (p : Place) → IsRefusedBy (BreaksRanges c) (Fault n p) → Annotated c → ⊥
lacks_none c n p first ranged = by_unit first.broken
  where
    by_unit : BreaksRanges c n p → ⊥
    by_unit (lacks_ranges u has lacks) =
        let a = ranged u has in
        let within = slice_get_within u.body.steps lacks.at lacks.step lacks.stands in
        lacks.first.none a.0 (record { entry = a.1.entry; each = λ place k low at. a.1.each place k (omega (arith, low, within)) at })

-- ALL PHASES

module _ (text : List ℕ) (c : Config) (spelled : Spells text c) (n m : ℕ) (p q : Place) where
  pub one_fault : IsRefusedFor c (Fault n p) → IsRefusedFor c (Fault m q) → (n ≡ m) × (p ≡ q)
  one_fault (by_declarations a) (by_declarations b) = same_fault text c (BreaksDeclarations c) spelled (broken_place Declaring c) n m p q a b
  one_fault (by_declarations a) (by_types d b) = absurd (is_broken (BreaksDeclarations c) n p a d)
  one_fault (by_declarations a) (by_order d t b) = absurd (is_broken (BreaksDeclarations c) n p a d)
  one_fault (by_declarations a) (by_ranges u b) = absurd (is_broken (BreaksDeclarations c) n p a u.declared)
  one_fault (by_declarations a) (by_budgets u r b) = absurd (is_broken (BreaksDeclarations c) n p a u.declared)
  one_fault (by_types d a) (by_declarations b) = absurd (is_broken (BreaksDeclarations c) m q b d)
  one_fault (by_types d a) (by_types e b) = same_fault text c (Broken Typing c) spelled (broken_place Typing c) n m p q a b
  one_fault (by_types d a) (by_order e t b) = absurd (is_broken (Broken Typing c) n p a t)
  one_fault (by_types d a) (by_ranges u b) = absurd (is_broken (Broken Typing c) n p a u.typed)
  one_fault (by_types d a) (by_budgets u r b) = absurd (is_broken (Broken Typing c) n p a u.typed)
  one_fault (by_order d t a) (by_declarations b) = absurd (is_broken (BreaksDeclarations c) m q b d)
  one_fault (by_order d t a) (by_types e b) = absurd (is_broken (Broken Typing c) m q b t)
  one_fault (by_order d t a) (by_order e v b) = same_fault text c (Broken Ordering c) spelled (broken_place Ordering c) n m p q a b
  one_fault (by_order d t a) (by_ranges u b) = absurd (is_broken (Broken Ordering c) n p a u.ordered)
  one_fault (by_order d t a) (by_budgets u r b) = absurd (is_broken (Broken Ordering c) n p a u.ordered)
  one_fault (by_ranges u a) (by_declarations b) = absurd (is_broken (BreaksDeclarations c) m q b u.declared)
  one_fault (by_ranges u a) (by_types e b) = absurd (is_broken (Broken Typing c) m q b u.typed)
  one_fault (by_ranges u a) (by_order e v b) = absurd (is_broken (Broken Ordering c) m q b u.ordered)
  one_fault (by_ranges u a) (by_ranges v b) = same_fault text c (BreaksRanges c) spelled (ranges_at c) n m p q a b
  one_fault (by_ranges u a) (by_budgets v r b) = absurd (lacks_none c n p a r)
  one_fault (by_budgets u r a) (by_declarations b) = absurd (is_broken (BreaksDeclarations c) m q b u.declared)
  one_fault (by_budgets u r a) (by_types e b) = absurd (is_broken (Broken Typing c) m q b u.typed)
  one_fault (by_budgets u r a) (by_order e v b) = absurd (is_broken (Broken Ordering c) m q b u.ordered)
  one_fault (by_budgets u r a) (by_ranges v b) = absurd (lacks_none c m q b r)
  one_fault (by_budgets u r a) (by_budgets v s b) = same_fault text c (IsTooLong c) spelled (budgets_at c) n m p q a b

-- what a text is refused for is its one fault
pub one_by : (text : List ℕ) (c : Config) → SpellsOnly text c → (r : Result Program Refusal) → IfErr r (IsRefusedFor c) → IsFault r → (n : ℕ) (p : Place) → IsSpelledWith text (Fault n p) → IsErrAnd r (λ e. e ≡ Fault n p)
one_by text c only (Ok v) refused fault n p w = absurd fault
one_by text c only (Err Memory) refused fault n p w = absurd fault
one_by text c only (Err (Fault m q)) refused fault n p w =
    let one = one_fault text c only.spelled.spelled m n q p refused (subst (λ d. IsRefusedFor d (Fault n p)) (only.only w.0 w.1) w.2) in ap₂ Fault one.0 one.1
