-- Each instruction: what the pass hands on is an annotation's, and lies below each annotation's.
use Rattle.std.proofs.Common.{◌≡◌, ℕ, ◌+◌, Bool, true, false, cond, List, [], ◌∷◌, Option, Some, None, option_map, refl, sym, ap, ◌∙◌, subst}
use Rattle.std.specs.Prelude.{option_and_then}
use Rattle.std.specs.Ordering.{eq_by_cmp}
use Rattle.ranges_interval.specs.declared.Interval.{Interval}
use Rattle.ranges_interval.specs.Interval.{IsWithin}
use Rattle.il_statics.proofs.Alike.{same_type, type_same}
use Rattle.il_syntax.specs.declared.tree.Config.{Config}
use Rattle.il_syntax.specs.declared.tree.Unit.{Unit as ProgramUnit}
use Rattle.il_syntax.specs.declared.tree.Elementary.{Elementary}
use Rattle.il_syntax.specs.declared.tree.Elementary.TheVariants.{Time}
use Rattle.il_syntax.specs.declared.tree.Literal.TheVariants.{Truth, Bare, Whole, Time as Duration}
use Rattle.il_syntax.specs.declared.tree.Operand.{Operand}
use Rattle.il_syntax.specs.declared.tree.Operator.{Operator}
use Rattle.il_syntax.specs.declared.tree.Reference.{Reference}
use Rattle.il_syntax.specs.declared.tree.Named.{Named}
use Rattle.il_syntax.specs.declared.tree.Store.{Store as StoreKind}
use Rattle.il_syntax.specs.declared.tree.Store.TheVariants.{Plain, Negated, Set, Reset}
use Rattle.il_syntax.specs.declared.tree.Condition.{Condition}
use Rattle.il_syntax.specs.declared.tree.Condition.TheVariants.{Always, WhenTrue, WhenFalse}
use Rattle.il_syntax.specs.declared.tree.Instruction.{Instruction}
use Rattle.il_syntax.specs.declared.tree.Instruction.TheVariants.{Load, Store, Not, Operate, Defer, Evaluate, Jump, Return, Invoke}
use Rattle.il_syntax.specs.ElementaryTypes.{is_same_type}
use Rattle.il_statics.specs.declared.names.StandardFunction.{StandardFunction}
use Rattle.il_statics.specs.declared.names.StandardFunction.TheVariants.{Absolute, Minimum, Maximum, Limited, Selected, Converted}
use Rattle.il_statics.specs.Names.{standard_function, function_named}
use Rattle.il_statics.specs.Types.{label_place}
use Rattle.base_maps.specs.NameMap.{NameMap, Text, order, get, insert, get-insert}
use Rattle.il_semantics.specs.Meaning.{Denotation, Constant, Direct, Numbered, Indexed, Inside, Unknown, denotation, natural}
use Rattle.il_semantics.specs.declared.known.Known.{Known}
use Rattle.il_semantics.specs.declared.known.Known.TheVariants.{Flag, Ranged}
use Rattle.il_semantics.specs.declared.known.KnownDeferred.{KnownDeferred}
use Rattle.il_semantics.specs.Annotation.{Knowledge, knowledge, Annotation, Spot, Passes, Leads, IsPart, IsKnownWithin, IsResultWithin, IsVariableWithin, interval, only, range, WithInterval, WithKnownResult, WithOperand, WithFlow, declared_known, WithOperated, WithTarget, Fits, FitsRange, IsLoaded, HasCondition, MayPass, LeadsTo, result_at_target, after_store, IsDeferredWithin, WithStandardArguments, WithApplied, known_argument_type, IsInvoked}
use Rattle.ranges_laws.specs.Pass.{Moves}
use Rattle.ranges_laws.specs.declared.facts.Facts.{Facts}
use Rattle.ranges_laws.specs.Facts.{Names, row_at, variables_of, IsRowOf, facts, with_result, shown, IsFineKnown, IsFineResult, IsFine}
use Rattle.ranges_laws.specs.Found.{provided, is_part, there_fits, found_operand, found_operated, found_loaded, fits_range, fits_target, found_applied}
use Rattle.ranges_laws.specs.Steps.{to_next, flag_there, loaded_operand, stored_row, stored, taken_by, context, operated_by, aside, deferred, paired, has_flag, has_condition, passing, jumping_to, is_bare, found_arguments, applied_to, moves_of_standard, moves_of_invoke, moves_of}
use Rattle.ranges_laws.specs.Prepared.{IsFineDenotation, AreFineUnits, HasNumber}
use Rattle.ranges_laws.proofs.Tests.{left_true, right_true, both_true, part_is, is_part_of, interval_trans}
use Rattle.ranges_laws.proofs.Least.{Over, OverNext, AllOver, HoldsOf, HoldsOfJump, same_some, mapped}
use Rattle.ranges_laws.proofs.Joins.{Under, known_itself, part_itself, part_trans, result_itself, deferred_itself, under_row}
use Rattle.ranges_laws.proofs.Rows.{put_fine, put_map, row_is, variable_itself}
use Rattle.ranges_laws.proofs.Agree.{Agrees, Tests, agrees_some, agrees_is, agrees_test, agrees_if, agrees_then, provided_is, is_provided}
use Rattle.ranges_laws.proofs.Operations.{Knows, finds, finds_none, Variables, index_tests, operand_agrees, operated_agrees, AreWithin, AreFine, are_within_itself, applied_agrees}

abbrev pub spot : Config → ProgramUnit → Annotation → ℕ → Knowledge → Spot
spot c u a p k = record { config = c; unit = u; annotation = a; place = p; known = k }

-- LEADS

pub lead : (names : Names) (a : Annotation) (p : ℕ) (f : Facts) (k : Knowledge) → IsPart k (shown names f) → Over (Under names) a p f → Leads a p k
lead names a p f k part o = (o.wide, o.stands, part_trans k (shown names f) o.wide part o.under)

pub over_lead : (names : Names) (a : Annotation) (p : ℕ) (f : Facts) (k : Knowledge) → IsPart (shown names f) k → Leads a p k → Over (Under names) a p f
over_lead names a p f k part (next, stands, below) = record { wide = next; stands = stands; under = part_trans (shown names f) k next part below }

-- what an instruction hands on is fine
pub record AreFineMoves (names : Names) (m : Moves Facts) : Type 0 where
  pub next : HoldsOf (IsFine names) m.next
  pub jump : HoldsOfJump (IsFine names) m.jump

-- the pass does right by an instruction
pub record Works (names : Names) (c : Config) (u : ProgramUnit) (f : Facts) (l : Knowledge) (i : Instruction) : Type 0 where
  pub fine : (m : Moves Facts) → moves_of names c u f i ≡ Some m → AreFineMoves names m
  pub sound : (a : Annotation) (p : ℕ) (m : Moves Facts) → moves_of names c u f i ≡ Some m → AllOver (Under names) a p m → Passes (spot c u a p (shown names f)) i
  pub complete : (a : Annotation) (p : ℕ) → Passes (spot c u a p l) i → (m : Moves Facts) × (moves_of names c u f i ≡ Some m) × AllOver (Under names) a p m

-- the same of what goes on to the next place alone
pub record Nexts {X : Type 0} (names : Names) (o : Option X) (made : X → Facts) (narrow wide : (X → Type 0) → Type 0) (then_narrow then_wide : X → Knowledge) : Type 0 where
  pub fine : (m : Moves Facts) → option_map (λ x. to_next (made x)) o ≡ Some m → AreFineMoves names m
  pub sound : (a : Annotation) (p : ℕ) (m : Moves Facts) → option_map (λ x. to_next (made x)) o ≡ Some m → AllOver (Under names) a p m → narrow (λ x. Leads a (p + 1) (then_narrow x))
  pub complete : (a : Annotation) (p : ℕ) → wide (λ x. Leads a (p + 1) (then_wide x)) → (m : Moves Facts) × (option_map (λ x. to_next (made x)) o ≡ Some m) × AllOver (Under names) a p m

pub nexts : {X : Type 0} (Fine : X → Type 0) (Within : X → X → Type 0) (names : Names) (o : Option X) (narrow wide : (X → Type 0) → Type 0) → Agrees Fine Within o narrow wide → (made : X → Facts) (then_narrow then_wide : X → Knowledge)
    → ((x : X) → Fine x → IsFine names (made x)) → ((x : X) → Fine x → IsPart (then_narrow x) (shown names (made x))) → ((x y : X) → Fine x → Within x y → IsPart (shown names (made x)) (then_wide y))
    → Nexts names o made narrow wide then_narrow then_wide
nexts Fine Within names o narrow wide a made tn tw fine part_n part_w = record {
  fine = λ m e. let h = mapped (λ x. to_next (made x)) o m e in subst (AreFineMoves names) h.gives (record { next = fine h.from (a.fine h.from h.was); jump = tt });
  sound = λ an p m e over.
      let h = mapped (λ x. to_next (made x)) o m e in
      let all = subst (AllOver (Under names) an p) (sym h.gives) over in
      a.sound h.from h.was (λ x. Leads an (p + 1) (tn x)) (lead names an (p + 1) (made h.from) (tn h.from) (part_n h.from (a.fine h.from h.was)) all.next);
  complete = λ an p g.
      let h = a.complete (λ x. Leads an (p + 1) (tw x)) g in
      (to_next (made h.least), ap (option_map (λ x. to_next (made x))) h.is, record { next = over_lead names an (p + 1) (made h.least) (tw h.wide) (part_w h.least h.wide (a.fine h.least h.is) h.within) h.goes; jump = tt });
}

-- RESULTS

pub record Stands (names : Names) (c : Config) (u : ProgramUnit) (f : Facts) (l : Knowledge) : Type 0 where
  pub fine : IsFine names f
  pub under : Under names f l
  pub denotes : (r : Reference) → IsFineDenotation (denotation c u r)
  pub units : AreFineUnits c

pub variables_of_place : (names : Names) (c : Config) (u : ProgramUnit) (f : Facts) (l : Knowledge) → Stands names c u f l → Variables names f.row l.variables
variables_of_place names c u f l s = record { fine = s.fine.row; within = under_row names f l s.under }

with_result_fine : (names : Names) (f : Facts) (k : Known) → IsFine names f → IsFineKnown k → IsFine names (with_result f k)
with_result_fine names f k h fk = record { row = h.row; result = fk; deferred = h.deferred }

with_result_part : (names : Names) (f : Facts) (l : Knowledge) (k w : Known) → Under names f l → IsKnownWithin k w → IsPart (shown names (with_result f k)) (knowledge l.variables (Some w) l.deferred)
with_result_part names f l k w u h = record { variables = u.variables; result = h; deferred = u.deferred }

pub result_agrees : (o wide : Option Known) → IsFineResult o → IsResultWithin o wide → Knows o (WithKnownResult o) (WithKnownResult wide)
result_agrees o None f w = record { fine = λ k e. subst IsFineResult e f; sound = λ k e go g. subst (λ x. WithKnownResult x go) (sym e) g; complete = λ go g. absurd g }
result_agrees None (Some k) f w = absurd w
result_agrees (Some k) (Some l) f w = finds k l f w

-- an instruction that gives a result
pub gives : (names : Names) (c : Config) (u : ProgramUnit) (f : Facts) (l : Knowledge) → Stands names c u f l → (o : Option Known) (narrow wide : (Known → Type 0) → Type 0) → Knows o narrow wide
    → Nexts names o (with_result f) narrow wide (λ k. knowledge (variables_of names f.row) (Some k) f.deferred) (λ k. knowledge l.variables (Some k) l.deferred)
gives names c u f l s o narrow wide a =
    nexts IsFineKnown IsKnownWithin names o narrow wide a (with_result f) (λ k. knowledge (variables_of names f.row) (Some k) f.deferred) (λ k. knowledge l.variables (Some k) l.deferred)
    (λ k fk. with_result_fine names f k s.fine fk) (λ k fk. part_itself (shown names (with_result f k))) (λ k w fk h. with_result_part names f l k w s.under h)

loaded_agrees : (names : Names) (c : Config) (u : ProgramUnit) (f : Facts) (l : Knowledge) → Stands names c u f l → (r : Reference)
    → Knows (loaded_operand names f.row (denotation c u r)) (WithOperand (variables_of names f.row) (natural (denotation c u r)) (denotation c u r)) (WithOperand l.variables (natural (denotation c u r)) (denotation c u r))
loaded_agrees names c u f l s r = operand_agrees names f.row l.variables (variables_of_place names c u f l s) (natural (denotation c u r)) (denotation c u r) (s.denotes r)

then_itself : {X : Type 0} (o : Option X) → option_and_then (λ x. Some x) o ≡ o
then_itself None = refl
then_itself (Some x) = refl

abbrev IsNegated : Known → (Known → Type 0) → Type 0
IsNegated Flag go = go Flag
IsNegated (Ranged e i) go = ⊥

negated_agrees : (k w : Known) → IsKnownWithin k w → Knows (found_loaded true k) (IsNegated k) (IsNegated w)
negated_agrees Flag Flag h = finds Flag Flag tt tt
negated_agrees (Ranged e i) (Ranged g j) h = finds_none _ _ (λ go g. g)
negated_agrees Flag (Ranged g j) h = absurd h
negated_agrees (Ranged e i) Flag h = absurd h

flow_map : (e : Elementary) (declared flow : Option Interval) (g h : Known → Type 0) → ((k : Known) → g k → h k) → WithFlow e declared flow g → WithFlow e declared flow h
flow_map e None flow g h f x = f Flag x
flow_map e (Some d) None g h f x = x
flow_map e (Some d) (Some i) g h f x = f (Ranged e i) x

operand_map : (variables : NameMap Interval) (e : Elementary) (d : Denotation) (g h : Known → Type 0) → ((k : Known) → g k → h k) → WithOperand variables e d g → WithOperand variables e d h
operand_map variables e (Constant (Truth b)) g h f x = f Flag x
operand_map variables e (Constant (Bare z)) g h f x = (x.0, x.1, f (Ranged e (only z)) x.2)
operand_map variables e (Constant (Whole written z)) g h f x = (x.0, f (Ranged written (only z)) x.1)
operand_map variables e (Constant (Duration z)) g h f x = (x.0, f (Ranged Time (only z)) x.1)
operand_map variables e (Direct name s) g h f x = flow_map s.elementary (range s) (get variables name) g h f x
operand_map variables e (Numbered name bounds element z) g h f x = (x.0, f (declared_known element) x.1)
operand_map variables e (Indexed name bounds element variable s) g h f x = (x.0, x.1, f (declared_known element) x.2)
operand_map variables e (Inside instance word s) g h f x = f (declared_known s) x
operand_map variables e Unknown g h f x = x

pub works_load : (names : Names) (c : Config) (u : ProgramUnit) (f : Facts) (l : Knowledge) → Stands names c u f l → (negated : Bool) (operand : Operand) → Works names c u f l (Load negated operand)
works_load names c u f l s false operand = record { fine = g.fine; sound = g.sound; complete = g.complete }
  where
    d : Denotation
    d = denotation c u operand.reference

    g : Nexts names (option_and_then (λ k. Some k) (loaded_operand names f.row (denotation c u operand.reference))) (with_result f) (WithOperand (variables_of names f.row) (natural (denotation c u operand.reference)) (denotation c u operand.reference)) (WithOperand l.variables (natural (denotation c u operand.reference)) (denotation c u operand.reference))
        (λ k. knowledge (variables_of names f.row) (Some k) f.deferred) (λ k. knowledge l.variables (Some k) l.deferred)
    g = gives names c u f l s _ _ _ (agrees_is IsFineKnown IsKnownWithin _ _ _ _ (then_itself (loaded_operand names f.row (denotation c u operand.reference))) (loaded_agrees names c u f l s operand.reference))
works_load names c u f l s true operand = record {
  fine = g.fine;
  sound = λ a p m e over. operand_map (variables_of names f.row) (natural (denotation c u operand.reference)) (denotation c u operand.reference) _ _ (to_loaded (spot c u a p (shown names f))) (g.sound a p m e over);
  complete = λ a p h. g.complete a p (operand_map l.variables (natural (denotation c u operand.reference)) (denotation c u operand.reference) _ _ (of_loaded (spot c u a p l)) h);
}
  where
    to_loaded : (s : Spot) (k : Known) → IsNegated k (λ x. Leads s.annotation (s.place + 1) (knowledge s.known.variables (Some x) s.known.deferred)) → IsLoaded s true k
    to_loaded s Flag h = h
    to_loaded s (Ranged e i) h = h

    of_loaded : (s : Spot) (k : Known) → IsLoaded s true k → IsNegated k (λ x. Leads s.annotation (s.place + 1) (knowledge s.known.variables (Some x) s.known.deferred))
    of_loaded s Flag h = h
    of_loaded s (Ranged e i) h = h

    g : Nexts names (option_and_then (found_loaded true) (loaded_operand names f.row (denotation c u operand.reference))) (with_result f)
        (λ go. WithOperand (variables_of names f.row) (natural (denotation c u operand.reference)) (denotation c u operand.reference) (λ k. IsNegated k go)) (λ go. WithOperand l.variables (natural (denotation c u operand.reference)) (denotation c u operand.reference) (λ k. IsNegated k go))
        (λ k. knowledge (variables_of names f.row) (Some k) f.deferred) (λ k. knowledge l.variables (Some k) l.deferred)
    g = gives names c u f l s _ _ _ (agrees_then IsFineKnown IsKnownWithin IsFineKnown IsKnownWithin _ _ _ (loaded_agrees names c u f l s operand.reference) known_itself (found_loaded true) IsNegated IsNegated (λ k w fk h. negated_agrees k w h))

flag_tests : (o wide : Option Known) → IsResultWithin o wide → Tests (has_flag o) (o ≡ Some Flag) (wide ≡ Some Flag)
flag_tests o wide w = record { holds = holds o; follows = λ e. follows o (subst (IsResultWithin o) e w) }
  where
    holds : (o : Option Known) → has_flag o ≡ true → o ≡ Some Flag
    holds None e = let bad : false ≡ true = e in cc
    holds (Some Flag) e = refl
    holds (Some (Ranged t i)) e = let bad : false ≡ true = e in cc

    follows : (o : Option Known) → IsResultWithin o (Some Flag) → has_flag o ≡ true
    follows None h = absurd h
    follows (Some Flag) h = refl
    follows (Some (Ranged t i)) h = absurd h

flag_is : (o : Option Known) → flag_there o ≡ provided (has_flag o) (Some Flag)
flag_is None = refl
flag_is (Some Flag) = refl
flag_is (Some (Ranged e i)) = refl

flag_agrees : (o wide : Option Known) → IsResultWithin o wide → Knows (flag_there o) (λ go. (o ≡ Some Flag) × go Flag) (λ go. (wide ≡ Some Flag) × go Flag)
flag_agrees o wide w =
    agrees_is IsFineKnown IsKnownWithin _ _ _ _ (flag_is o) (agrees_if IsFineKnown IsKnownWithin (has_flag o) (o ≡ Some Flag) (wide ≡ Some Flag) (Some Flag) (λ go. go Flag) (λ go. go Flag) (flag_tests o wide w) (finds Flag Flag tt tt))

pub works_not : (names : Names) (c : Config) (u : ProgramUnit) (f : Facts) (l : Knowledge) → Stands names c u f l → Works names c u f l Not
works_not names c u f l s = let g = gives names c u f l s (flag_there f.result) _ _ (flag_agrees f.result l.result s.under.result) in record { fine = g.fine; sound = g.sound; complete = g.complete }

-- OPERATORS

abbrev IsOperatedBy : NameMap Interval → Operator → Denotation → Known → (Known → Type 0) → Type 0
IsOperatedBy variables operator d left go = WithOperand variables (context d left) d (λ right. WithOperated operator left right go)

operator_agrees : (names : Names) (c : Config) (u : ProgramUnit) (f : Facts) (l : Knowledge) → Stands names c u f l → (operator : Operator) (r : Reference) (left wide : Known) → IsFineKnown left → IsKnownWithin left wide
    → Knows (operated_by names f.row operator (denotation c u r) left) (IsOperatedBy (variables_of names f.row) operator (denotation c u r) left) (IsOperatedBy l.variables operator (denotation c u r) wide)
operator_agrees names c u f l s operator r left wide fl within =
    agrees_then IsFineKnown IsKnownWithin IsFineKnown IsKnownWithin _ _ _ (operand left wide within) known_itself (found_operated operator left) (WithOperated operator left) (WithOperated operator wide) (λ x y fx h. operated_agrees operator left x wide y fl fx within h)
  where
    at : (e : Elementary) → Knows (found_operand (row_at names f.row) e (denotation c u r)) (WithOperand (variables_of names f.row) e (denotation c u r)) (WithOperand l.variables e (denotation c u r))
    at e = operand_agrees names f.row l.variables (variables_of_place names c u f l s) e (denotation c u r) (s.denotes r)

    operand : (left wide : Known) → IsKnownWithin left wide → Knows (found_operand (row_at names f.row) (context (denotation c u r) left) (denotation c u r)) (WithOperand (variables_of names f.row) (context (denotation c u r) left) (denotation c u r)) (WithOperand l.variables (context (denotation c u r) wide) (denotation c u r))
    operand Flag Flag h = at (natural (denotation c u r))
    operand (Ranged e i) (Ranged g j) h = subst (λ x. Knows (found_operand (row_at names f.row) e (denotation c u r)) (WithOperand (variables_of names f.row) e (denotation c u r)) (WithOperand l.variables x (denotation c u r))) h.0 (at e)
    operand Flag (Ranged g j) h = absurd h
    operand (Ranged e i) Flag h = absurd h

pub works_operate : (names : Names) (c : Config) (u : ProgramUnit) (f : Facts) (l : Knowledge) → Stands names c u f l → (operator : Operator) (operand : Operand) → Works names c u f l (Operate operator operand)
works_operate names c u f l s operator operand =
    let a = agrees_then IsFineKnown IsKnownWithin IsFineKnown IsKnownWithin f.result (WithKnownResult f.result) (WithKnownResult l.result) (result_agrees f.result l.result s.fine.result s.under.result) known_itself
    (operated_by names f.row operator (denotation c u operand.reference)) (IsOperatedBy (variables_of names f.row) operator (denotation c u operand.reference)) (IsOperatedBy l.variables operator (denotation c u operand.reference))
    (λ left wide fl h. operator_agrees names c u f l s operator operand.reference left wide fl h) in
    let g = gives names c u f l s _ _ _ a in
    record { fine = g.fine; sound = g.sound; complete = g.complete }

-- STORES

pub fits_tests : (e : Elementary) (declared : Option Interval) (k w : Known) → IsKnownWithin k w → Tests (fits_range e declared k) (FitsRange e declared k) (FitsRange e declared w)
fits_tests e None Flag Flag h = record { holds = λ x. tt; follows = λ x. refl }
fits_tests e None (Ranged g i) (Ranged o j) h = record { holds = λ x. let bad : false ≡ true = x in cc; follows = λ x. absurd x }
fits_tests e (Some d) Flag Flag h = record { holds = λ x. let bad : false ≡ true = x in cc; follows = λ x. absurd x }
fits_tests e (Some d) (Ranged g i) (Ranged o j) h = record {
  holds = λ x. (same_type g e (left_true (is_same_type g e) (is_part i d) x), part_is i d (right_true (is_same_type g e) (is_part i d) x));
  follows = λ x. both_true (is_same_type g e) (is_part i d) (type_same g e (h.0 ∙ x.0)) (is_part_of i d (interval_trans i j d h.1 x.1));
}
fits_tests e declared Flag (Ranged o j) h = absurd h
fits_tests e declared (Ranged g i) Flag h = absurd h

pub target_tests : (names : Names) (row : List Interval) (wide : NameMap Interval) → Variables names row wide → (d : Denotation) (k w : Known) → IsKnownWithin k w
    → Tests (fits_target names row d k) (WithTarget (variables_of names row) d (λ scalar. Fits scalar k)) (WithTarget wide d (λ scalar. Fits scalar w))
target_tests names row wide v (Constant l) k w h = record { holds = λ x. let bad : false ≡ true = x in cc; follows = λ x. absurd x }
target_tests names row wide v (Direct name s) k w h = fits_tests s.elementary (range s) k w h
target_tests names row wide v (Numbered name bounds element z) k w h =
    let t = fits_tests element.elementary (range element) k w h in
    record {
      holds = λ x. (part_is (only z) (interval bounds) (left_true _ _ x), t.holds (right_true _ _ x));
      follows = λ x. both_true _ _ (is_part_of (only z) (interval bounds) x.0) (t.follows x.1);
    }
target_tests names row wide v (Indexed name bounds element variable s) k w h =
    let t = fits_tests element.elementary (range element) k w h in
    let i = index_tests (row_at names row variable) (get (variables_of names row) variable) (get wide variable) (interval bounds) (row_is names row variable) (v.within variable) in
    record {
      holds = λ x. (left_true _ _ x, i.holds (left_true _ _ (right_true _ _ x)), t.holds (right_true _ _ (right_true _ _ x)));
      follows = λ x. both_true _ _ x.0 (both_true _ _ (i.follows x.1) (t.follows x.2));
    }
target_tests names row wide v (Inside instance word s) k w h = fits_tests s.elementary (range s) k w h
target_tests names row wide v Unknown k w h = record { holds = λ x. let bad : false ≡ true = x in cc; follows = λ x. absurd x }

-- a result that its target takes
pub record IsTaken (names : Names) (f : Facts) (d : Denotation) (k : Known) : Type 0 where
  pub fine : IsFineKnown k
  pub fits : fits_target names f.row d k ≡ true

taken_agrees : (names : Names) (c : Config) (u : ProgramUnit) (f : Facts) (l : Knowledge) → Stands names c u f l → (d : Denotation) (k w : Known) → IsFineKnown k → IsKnownWithin k w
    → Agrees (IsTaken names f d) IsKnownWithin (taken_by names f d k) (λ go. WithTarget (variables_of names f.row) d (λ scalar. Fits scalar k) × go k) (λ go. WithTarget l.variables d (λ scalar. Fits scalar w) × go w)
taken_agrees names c u f l s d k w fk h =
    let t = target_tests names f.row l.variables (variables_of_place names c u f l s) d k w h in
    let a = λ (e : fits_target names f.row d k ≡ true). agrees_some (IsTaken names f d) IsKnownWithin k w (record { fine = fk; fits = e }) h in
    agrees_test (IsTaken names f d) IsKnownWithin (fits_target names f.row d k) (WithTarget (variables_of names f.row) d (λ scalar. Fits scalar k)) (WithTarget l.variables d (λ scalar. Fits scalar w)) (Some k) (λ go. go k) (λ go. go w) t (λ q. a (t.follows q)) a

pub ranged_fits : (e : Elementary) (declared : Option Interval) (g : Elementary) (i : Interval) → fits_range e declared (Ranged g i) ≡ true → (j : Interval) × (declared ≡ Some j)
ranged_fits e None g i x = absurd (let bad : false ≡ true = x in cc)
ranged_fits e (Some j) g i x = (j, refl)

stored_fine : (names : Names) (f : Facts) (d : Denotation) (k : Known) → IsFine names f → IsFineKnown k → IsFine names (stored names f d k)
stored_fine names f d k h fk = record { row = by_target d k fk; result = h.result; deferred = h.deferred }
  where
    by_target : (d : Denotation) (k : Known) → IsFineKnown k → IsRowOf names (stored_row names d k f.row)
    by_target (Direct name s) (Ranged e i) fk = put_fine names f.row name i fk h.row
    by_target (Direct name s) Flag fk = h.row
    by_target (Constant l) k fk = h.row
    by_target (Numbered name bounds element z) k fk = h.row
    by_target (Indexed name bounds element variable s) k fk = h.row
    by_target (Inside instance word s) k fk = h.row
    by_target Unknown k fk = h.row

-- the map after a store, in facts
stored_same : (names : Names) (f : Facts) (d : Denotation) (k : Known) → IsRowOf names f.row → HasNumber names d → fits_target names f.row d k ≡ true → (q : Text) → get (after_store d k (variables_of names f.row)) q ≡ get (variables_of names (stored_row names d k f.row)) q
stored_same names f (Direct name s) (Ranged e i) fr n fits q = let d = ranged_fits s.elementary (range s) e i fits in put_map names f.row name i fr (n d.0 d.1) q
stored_same names f (Direct name s) Flag fr n fits q = refl
stored_same names f (Constant l) k fr n fits q = refl
stored_same names f (Numbered name bounds element z) k fr n fits q = refl
stored_same names f (Indexed name bounds element variable s) k fr n fits q = refl
stored_same names f (Inside instance word s) k fr n fits q = refl
stored_same names f Unknown k fr n fits q = refl

pub cond_part : (b : Bool) (i j : Interval) (o p : Option Interval) → IsWithin i j → IsVariableWithin o p → IsVariableWithin (cond b (Some i) o) (cond b (Some j) p)
cond_part true i j o p w h = w
cond_part false i j o p w h = h

-- a store into wider ranges
pub store_grows : (d : Denotation) (k w : Known) (m n : NameMap Interval) → IsKnownWithin k w → ((q : Text) → IsVariableWithin (get m q) (get n q)) → (q : Text) → IsVariableWithin (get (after_store d k m) q) (get (after_store d w n) q)
store_grows (Direct name s) (Ranged e i) (Ranged g j) m n h v q =
    subst (λ o. IsVariableWithin o (get (insert n name j) q)) (sym (get-insert m name i q)) (subst (λ o. IsVariableWithin (cond (eq_by_cmp order q name) (Some i) (get m q)) o) (sym (get-insert n name j q)) (cond_part (eq_by_cmp order q name) i j (get m q) (get n q) h.1 (v q)))
store_grows (Direct name s) Flag Flag m n h v q = v q
store_grows (Direct name s) Flag (Ranged g j) m n h v q = absurd h
store_grows (Direct name s) (Ranged e i) Flag m n h v q = absurd h
store_grows (Constant l) k w m n h v q = v q
store_grows (Numbered name bounds element z) k w m n h v q = v q
store_grows (Indexed name bounds element variable s) k w m n h v q = v q
store_grows (Inside instance word s) k w m n h v q = v q
store_grows Unknown k w m n h v q = v q

pub same_part : (o p : Option Interval) → o ≡ p → IsVariableWithin o p
same_part o p e = subst (IsVariableWithin o) e (variable_itself o)

pub works_store_plain : (names : Names) (c : Config) (u : ProgramUnit) (f : Facts) (l : Knowledge) → Stands names c u f l → (to : Operand) → HasNumber names (denotation c u to.reference) → Works names c u f l (Store Plain to)
works_store_plain names c u f l s to n = record { fine = g.fine; sound = g.sound; complete = g.complete }
  where
    d : Denotation
    d = denotation c u to.reference

    IsTakenBy : NameMap Interval → Known → (Known → Type 0) → Type 0
    IsTakenBy variables k go = WithTarget variables (denotation c u to.reference) (λ scalar. Fits scalar k) × go k

    made_part : (k : Known) → IsTaken names f (denotation c u to.reference) k → IsPart (knowledge (after_store (denotation c u to.reference) k (variables_of names f.row)) f.result f.deferred) (shown names (stored names f (denotation c u to.reference) k))
    made_part k t = record {
      variables = λ q. same_part _ _ (stored_same names f (denotation c u to.reference) k s.fine.row n t.fits q);
      result = result_itself f.result;
      deferred = deferred_itself f.deferred;
    }

    wide_part : (k w : Known) → IsTaken names f (denotation c u to.reference) k → IsKnownWithin k w → IsPart (shown names (stored names f (denotation c u to.reference) k)) (knowledge (after_store (denotation c u to.reference) w l.variables) l.result l.deferred)
    wide_part k w t h = record {
      variables = λ q. subst (λ o. IsVariableWithin o (get (after_store (denotation c u to.reference) w l.variables) q)) (stored_same names f (denotation c u to.reference) k s.fine.row n t.fits q)
          (store_grows (denotation c u to.reference) k w (variables_of names f.row) l.variables h s.under.variables q);
      result = s.under.result;
      deferred = s.under.deferred;
    }

    g : Nexts names (option_and_then (taken_by names f (denotation c u to.reference)) f.result) (stored names f (denotation c u to.reference)) (λ go. WithKnownResult f.result (λ k. WithTarget (variables_of names f.row) (denotation c u to.reference) (λ scalar. Fits scalar k) × go k)) (λ go. WithKnownResult l.result (λ k. WithTarget l.variables (denotation c u to.reference) (λ scalar. Fits scalar k) × go k))
        (λ k. knowledge (after_store (denotation c u to.reference) k (variables_of names f.row)) f.result f.deferred) (λ k. knowledge (after_store (denotation c u to.reference) k l.variables) l.result l.deferred)
    g = nexts (IsTaken names f (denotation c u to.reference)) IsKnownWithin names _ _ _
        (agrees_then IsFineKnown IsKnownWithin (IsTaken names f (denotation c u to.reference)) IsKnownWithin f.result (WithKnownResult f.result) (WithKnownResult l.result) (result_agrees f.result l.result s.fine.result s.under.result) known_itself
        (taken_by names f (denotation c u to.reference)) (λ k go. WithTarget (variables_of names f.row) (denotation c u to.reference) (λ scalar. Fits scalar k) × go k) (λ k go. WithTarget l.variables (denotation c u to.reference) (λ scalar. Fits scalar k) × go k)
        (λ k w fk h. taken_agrees names c u f l s (denotation c u to.reference) k w fk h))
        (stored names f (denotation c u to.reference)) (λ k. knowledge (after_store (denotation c u to.reference) k (variables_of names f.row)) f.result f.deferred) (λ k. knowledge (after_store (denotation c u to.reference) k l.variables) l.result l.deferred)
        (λ k t. stored_fine names f (denotation c u to.reference) k s.fine t.fine) made_part wide_part

-- STN, S and R: a Boolean
flag_stores : (names : Names) (c : Config) (u : ProgramUnit) (f : Facts) (l : Knowledge) → Stands names c u f l → (d : Denotation)
    → Nexts names (option_and_then (taken_by names f d) (flag_there f.result)) (λ k. f) (λ go. (f.result ≡ Some Flag) × (WithTarget (variables_of names f.row) d (λ scalar. Fits scalar Flag) × go Flag)) (λ go. (l.result ≡ Some Flag) × (WithTarget l.variables d (λ scalar. Fits scalar Flag) × go Flag))
    (λ k. shown names f) (λ k. l)
flag_stores names c u f l s d =
    nexts (IsTaken names f d) IsKnownWithin names _ _ _
    (agrees_then IsFineKnown IsKnownWithin (IsTaken names f d) IsKnownWithin (flag_there f.result) (λ go. (f.result ≡ Some Flag) × go Flag) (λ go. (l.result ≡ Some Flag) × go Flag) (flag_agrees f.result l.result s.under.result) known_itself
    (taken_by names f d) (λ k go. WithTarget (variables_of names f.row) d (λ scalar. Fits scalar k) × go k) (λ k go. WithTarget l.variables d (λ scalar. Fits scalar k) × go k) (λ k w fk h. taken_agrees names c u f l s d k w fk h))
    (λ k. f) (λ k. shown names f) (λ k. l) (λ k t. s.fine) (λ k t. part_itself (shown names f)) (λ k w t h. s.under)

-- how a store of a Boolean passes
IsFlagStored : NameMap Interval → Denotation → Option Known → Type 0 → Type 0
IsFlagStored variables d None go = ⊥
IsFlagStored variables d (Some Flag) go = WithTarget variables d (λ scalar. Fits scalar Flag) × go
IsFlagStored variables d (Some (Ranged e i)) go = ⊥

to_stored : (variables : NameMap Interval) (d : Denotation) (o : Option Known) (go : Type 0) → (o ≡ Some Flag) × (WithTarget variables d (λ scalar. Fits scalar Flag) × go) → IsFlagStored variables d o go
unfolding IsFlagStored
to_stored variables d None go h = let bad : ◌≡◌ {A = Option Known} None (Some Flag) = h.0 in cc
to_stored variables d (Some Flag) go h = h.1
to_stored variables d (Some (Ranged e i)) go h = absurd (let bad : Some (Ranged e i) ≡ Some Flag = h.0 in cc)

of_stored : (variables : NameMap Interval) (d : Denotation) (o : Option Known) (go : Type 0) → IsFlagStored variables d o go → (o ≡ Some Flag) × (WithTarget variables d (λ scalar. Fits scalar Flag) × go)
unfolding IsFlagStored
of_stored variables d None go h = absurd h
of_stored variables d (Some Flag) go h = (refl, h)
of_stored variables d (Some (Ranged e i)) go h = absurd h

-- kinds other than ST
pub IsFlagKind : StoreKind → Type 0
IsFlagKind Plain = ⊥
IsFlagKind Negated = Unit {0}
IsFlagKind Set = Unit {0}
IsFlagKind Reset = Unit {0}

stored_passes : (c : Config) (u : ProgramUnit) (kind : StoreKind) → IsFlagKind kind → (to : Operand) (a : Annotation) (p : ℕ) (variables : NameMap Interval) (o : Option Known) (ds : List KnownDeferred)
    → IsFlagStored variables (denotation c u to.reference) o (Leads a (p + 1) (knowledge variables o ds)) → Passes (spot c u a p (knowledge variables o ds)) (Store kind to)
unfolding IsFlagStored IsFlagKind
stored_passes c u Plain fk to a p variables o ds h = absurd fk
stored_passes c u Negated fk to a p variables None ds h = h
stored_passes c u Negated fk to a p variables (Some Flag) ds h = h
stored_passes c u Negated fk to a p variables (Some (Ranged e i)) ds h = h
stored_passes c u Set fk to a p variables None ds h = h
stored_passes c u Set fk to a p variables (Some Flag) ds h = h
stored_passes c u Set fk to a p variables (Some (Ranged e i)) ds h = h
stored_passes c u Reset fk to a p variables None ds h = h
stored_passes c u Reset fk to a p variables (Some Flag) ds h = h
stored_passes c u Reset fk to a p variables (Some (Ranged e i)) ds h = h

passes_stored : (c : Config) (u : ProgramUnit) (kind : StoreKind) → IsFlagKind kind → (to : Operand) (a : Annotation) (p : ℕ) (variables : NameMap Interval) (o : Option Known) (ds : List KnownDeferred)
    → Passes (spot c u a p (knowledge variables o ds)) (Store kind to) → IsFlagStored variables (denotation c u to.reference) o (Leads a (p + 1) (knowledge variables o ds))
unfolding IsFlagStored IsFlagKind
passes_stored c u Plain fk to a p variables o ds h = absurd fk
passes_stored c u Negated fk to a p variables None ds h = h
passes_stored c u Negated fk to a p variables (Some Flag) ds h = h
passes_stored c u Negated fk to a p variables (Some (Ranged e i)) ds h = h
passes_stored c u Set fk to a p variables None ds h = h
passes_stored c u Set fk to a p variables (Some Flag) ds h = h
passes_stored c u Set fk to a p variables (Some (Ranged e i)) ds h = h
passes_stored c u Reset fk to a p variables None ds h = h
passes_stored c u Reset fk to a p variables (Some Flag) ds h = h
passes_stored c u Reset fk to a p variables (Some (Ranged e i)) ds h = h

flag_moves : (names : Names) (c : Config) (u : ProgramUnit) (f : Facts) (kind : StoreKind) → IsFlagKind kind → (to : Operand) → moves_of names c u f (Store kind to) ≡ option_map (λ k. to_next f) (option_and_then (taken_by names f (denotation c u to.reference)) (flag_there f.result))
unfolding IsFlagKind
flag_moves names c u f Plain fk to = absurd fk
flag_moves names c u f Negated fk to = refl
flag_moves names c u f Set fk to = refl
flag_moves names c u f Reset fk to = refl

pub works_store_flag : (names : Names) (c : Config) (u : ProgramUnit) (f : Facts) (l : Knowledge) → Stands names c u f l → (kind : StoreKind) → IsFlagKind kind → (to : Operand) → Works names c u f l (Store kind to)
works_store_flag names c u f l s kind fk to =
    let d = denotation c u to.reference in
    let g = flag_stores names c u f l s d in
    let e = flag_moves names c u f kind fk to in
    record {
      fine = λ m h. g.fine m (sym e ∙ h);
      sound = λ a p m h over. stored_passes c u kind fk to a p (variables_of names f.row) f.result f.deferred (to_stored (variables_of names f.row) d f.result (Leads a (p + 1) (shown names f)) (g.sound a p m (sym e ∙ h) over));
      complete = λ a p h.
          let r = g.complete a p (of_stored l.variables d l.result (Leads a (p + 1) l) (passes_stored c u kind fk to a p l.variables l.result l.deferred h)) in
          (r.0, e ∙ r.1, r.2);
    }

-- a store of any kind
pub works_store : (names : Names) (c : Config) (u : ProgramUnit) (f : Facts) (l : Knowledge) → Stands names c u f l → (kind : StoreKind) (to : Operand) → HasNumber names (denotation c u to.reference) → Works names c u f l (Store kind to)
unfolding IsFlagKind
works_store names c u f l s Plain to n = works_store_plain names c u f l s to n
works_store names c u f l s Negated to n = works_store_flag names c u f l s Negated tt to
works_store names c u f l s Set to n = works_store_flag names c u f l s Set tt to
works_store names c u f l s Reset to n = works_store_flag names c u f l s Reset tt to

-- WHAT IS SET ASIDE

record IsPairFine (p : Known × Known) : Type 0 where
  first : IsFineKnown p.0
  second : IsFineKnown p.1

record IsPairWithin (p q : Known × Known) : Type 0 where
  first : IsKnownWithin p.0 q.0
  second : IsKnownWithin p.1 q.1

then_pair : (x : Known) (o : Option Known) → option_and_then {U = Known × Known} (λ y. Some (x, y)) o ≡ option_map {U = Known × Known} (λ y. (x, y)) o
then_pair x None = refl
then_pair x (Some y) = refl

pub works_defer : (names : Names) (c : Config) (u : ProgramUnit) (f : Facts) (l : Knowledge) → Stands names c u f l → (operator : Operator) (first : Option Operand) → Works names c u f l (Defer operator first)
works_defer names c u f l s operator None = record { fine = g.fine; sound = g.sound; complete = g.complete }
  where
    g : Nexts names f.result (λ left. aside f operator left None) (WithKnownResult f.result) (WithKnownResult l.result) (λ left. knowledge (variables_of names f.row) None (deferred operator left ∷ f.deferred)) (λ left. knowledge l.variables None (deferred operator left ∷ l.deferred))
    g = nexts IsFineKnown IsKnownWithin names _ _ _ (result_agrees f.result l.result s.fine.result s.under.result) (λ left. aside f operator left None) (λ left. knowledge (variables_of names f.row) None (deferred operator left ∷ f.deferred)) (λ left. knowledge l.variables None (deferred operator left ∷ l.deferred))
        (λ k fk. record { row = s.fine.row; result = tt; deferred = (fk, s.fine.deferred) }) (λ k fk. part_itself (shown names (aside f operator k None))) (λ k w fk h. record { variables = s.under.variables; result = tt; deferred = (refl, h, s.under.deferred) })
works_defer names c u f l s operator (Some o) = record { fine = g.fine; sound = g.sound; complete = g.complete }
  where
    Narrow : Known → (Known × Known → Type 0) → Type 0
    Narrow left go = WithOperand (variables_of names f.row) (natural (denotation c u o.reference)) (denotation c u o.reference) (λ k. go (left, k))

    pairs : Agrees IsPairFine IsPairWithin (paired f.result (loaded_operand names f.row (denotation c u o.reference)))
        (λ go. WithKnownResult f.result (λ left. WithOperand (variables_of names f.row) (natural (denotation c u o.reference)) (denotation c u o.reference) (λ k. go (left, k)))) (λ go. WithKnownResult l.result (λ left. WithOperand l.variables (natural (denotation c u o.reference)) (denotation c u o.reference) (λ k. go (left, k))))
    pairs = agrees_then IsFineKnown IsKnownWithin IsPairFine IsPairWithin f.result (WithKnownResult f.result) (WithKnownResult l.result) (result_agrees f.result l.result s.fine.result s.under.result) known_itself
        (λ x. option_map (λ y. (x, y)) (loaded_operand names f.row (denotation c u o.reference))) (λ left go. WithOperand (variables_of names f.row) (natural (denotation c u o.reference)) (denotation c u o.reference) (λ k. go (left, k))) (λ left go. WithOperand l.variables (natural (denotation c u o.reference)) (denotation c u o.reference) (λ k. go (left, k)))
        (λ left wide fl h. agrees_is IsPairFine IsPairWithin _ _ _ _ (sym (then_pair left (loaded_operand names f.row (denotation c u o.reference))))
        (agrees_then IsFineKnown IsKnownWithin IsPairFine IsPairWithin _ _ _ (loaded_agrees names c u f l s o.reference) known_itself (λ y. Some (left, y)) (λ k go. go (left, k)) (λ k go. go (wide, k))
        (λ k w fk v. agrees_some IsPairFine IsPairWithin (left, k) (wide, w) (record { first = fl; second = fk }) (record { first = h; second = v }))))

    g : Nexts names (paired f.result (loaded_operand names f.row (denotation c u o.reference))) (λ p. aside f operator p.0 (Some p.1))
        (λ go. WithKnownResult f.result (λ left. WithOperand (variables_of names f.row) (natural (denotation c u o.reference)) (denotation c u o.reference) (λ k. go (left, k)))) (λ go. WithKnownResult l.result (λ left. WithOperand l.variables (natural (denotation c u o.reference)) (denotation c u o.reference) (λ k. go (left, k))))
        (λ p. knowledge (variables_of names f.row) (Some p.1) (deferred operator p.0 ∷ f.deferred)) (λ p. knowledge l.variables (Some p.1) (deferred operator p.0 ∷ l.deferred))
    g = nexts IsPairFine IsPairWithin names _ _ _ pairs (λ p. aside f operator p.0 (Some p.1)) (λ p. knowledge (variables_of names f.row) (Some p.1) (deferred operator p.0 ∷ f.deferred)) (λ p. knowledge l.variables (Some p.1) (deferred operator p.0 ∷ l.deferred))
        (λ p fp. record { row = s.fine.row; result = fp.second; deferred = (fp.first, s.fine.deferred) }) (λ p fp. part_itself (shown names (aside f operator p.0 (Some p.1)))) (λ p w fp h. record { variables = s.under.variables; result = h.second; deferred = (refl, h.first, s.under.deferred) })

-- `)`, by what is set aside in the facts and in the annotation
pub works_evaluate : (names : Names) (c : Config) (u : ProgramUnit) (row : List Interval) (result : Option Known) (ds : List KnownDeferred) (variables : NameMap Interval) (wide : Option Known) (es : List KnownDeferred)
    → Stands names c u (facts row result ds) (knowledge variables wide es) → Works names c u (facts row result ds) (knowledge variables wide es) Evaluate
works_evaluate names c u row result [] variables wide [] s = record {
  fine = λ m e. absurd (let bad : None ≡ Some m = e in cc);
  sound = λ a p m e over. absurd (let bad : None ≡ Some m = e in cc);
  complete = λ a p h. absurd (nothing wide h);
}
  where
    nothing : (o : Option Known) → WithKnownResult o (λ right. ⊥) → ⊥
    nothing None h = h
    nothing (Some k) h = h
works_evaluate names c u row result (d ∷ ds) variables wide (e ∷ es) s = record { fine = g.fine; sound = g.sound; complete = g.complete }
  where
    g : Nexts names (option_and_then (found_operated d.operator d.left) result) (λ k. facts row (Some k) ds) (λ go. WithKnownResult result (λ right. WithOperated d.operator d.left right go)) (λ go. WithKnownResult wide (λ right. WithOperated e.operator e.left right go)) (λ k. knowledge (variables_of names row) (Some k) ds) (λ k. knowledge variables (Some k) es)
    g = nexts IsFineKnown IsKnownWithin names _ _ _
        (agrees_then IsFineKnown IsKnownWithin IsFineKnown IsKnownWithin result (WithKnownResult result) (WithKnownResult wide) (result_agrees result wide s.fine.result s.under.result) known_itself (found_operated d.operator d.left) (WithOperated d.operator d.left) (WithOperated e.operator e.left)
        (λ k w fk h. subst (λ x. Knows (found_operated d.operator d.left k) (WithOperated d.operator d.left k) (WithOperated x e.left w)) s.under.deferred.0 (operated_agrees d.operator d.left k e.left w s.fine.deferred.0 fk s.under.deferred.1 h)))
        (λ k. facts row (Some k) ds) (λ k. knowledge (variables_of names row) (Some k) ds) (λ k. knowledge variables (Some k) es)
        (λ k fk. record { row = s.fine.row; result = fk; deferred = s.fine.deferred.1 }) (λ k fk. part_itself (shown names (facts row (Some k) ds))) (λ k w fk h. record { variables = s.under.variables; result = h; deferred = s.under.deferred.2 })
works_evaluate names c u row result [] variables wide (e ∷ es) s = absurd s.under.deferred
works_evaluate names c u row result (d ∷ ds) variables wide [] s = absurd s.under.deferred

-- JUMPS AND RETURNS

pub condition_tests : (condition : Condition) (o wide : Option Known) → IsResultWithin o wide → Tests (has_condition condition o) (HasCondition condition o) (HasCondition condition wide)
condition_tests Always o wide w = record { holds = λ e. tt; follows = λ h. refl }
condition_tests WhenTrue o wide w = flag_tests o wide w
condition_tests WhenFalse o wide w = flag_tests o wide w

passing_fine : (names : Names) (condition : Condition) (f : Facts) → IsFine names f → HoldsOf (IsFine names) (passing condition f)
passing_fine names Always f h = tt
passing_fine names WhenTrue f h = h
passing_fine names WhenFalse f h = h

may_pass : (names : Names) (c : Config) (u : ProgramUnit) (a : Annotation) (p : ℕ) (condition : Condition) (f : Facts) → OverNext (Under names) a p (passing condition f) → MayPass (spot c u a p (shown names f)) condition f.result
may_pass names c u a p Always f o = tt
may_pass names c u a p WhenTrue f o = lead names a (p + 1) f (shown names f) (part_itself (shown names f)) o
may_pass names c u a p WhenFalse f o = lead names a (p + 1) f (shown names f) (part_itself (shown names f)) o

over_pass : (names : Names) (c : Config) (u : ProgramUnit) (a : Annotation) (p : ℕ) (condition : Condition) (f : Facts) (l : Knowledge) → Under names f l → MayPass (spot c u a p l) condition l.result → OverNext (Under names) a p (passing condition f)
over_pass names c u a p Always f l under h = tt
over_pass names c u a p WhenTrue f l under h = over_lead names a (p + 1) f l under h
over_pass names c u a p WhenFalse f l under h = over_lead names a (p + 1) f l under h

pub works_return : (names : Names) (c : Config) (u : ProgramUnit) (f : Facts) (l : Knowledge) → Stands names c u f l → (condition : Condition) → Works names c u f l (Return condition)
works_return names c u f l s condition = record {
  fine = λ m e. subst (AreFineMoves names) (gives m e) (record { next = passing_fine names condition f s.fine; jump = tt });
  sound = λ a p m e over.
      let q = provided_is (has_condition condition f.result) (Some ends) m e in
      (t.holds q.test, may_pass names c u a p condition f (subst (AllOver (Under names) a p) (sym (gives m e)) over).next);
  complete = λ a p h. (ends, is_provided (has_condition condition f.result) (Some ends) (t.follows h.0), record { next = over_pass names c u a p condition f l s.under h.1; jump = tt });
}
  where
    ends : Moves Facts
    ends = record { next = passing condition f; jump = None }

    t : Tests (has_condition condition f.result) (HasCondition condition f.result) (HasCondition condition l.result)
    t = condition_tests condition f.result l.result s.under.result

    gives : (m : Moves Facts) → provided (has_condition condition f.result) (Some (record { next = passing condition f; jump = None })) ≡ Some m → record { next = passing condition f; jump = None } ≡ m
    gives m e = same_some _ m (provided_is (has_condition condition f.result) (Some (record { next = passing condition f; jump = None })) m e).is

target_fine : (names : Names) (condition : Condition) (f : Facts) → IsFine names f → IsFine names (facts f.row (result_at_target condition f.result) f.deferred)
target_fine names Always f h = record { row = h.row; result = tt; deferred = h.deferred }
target_fine names WhenTrue f h = h
target_fine names WhenFalse f h = h

target_part : (names : Names) (condition : Condition) (f : Facts) (l : Knowledge) → Under names f l → IsPart (shown names (facts f.row (result_at_target condition f.result) f.deferred)) (knowledge l.variables (result_at_target condition l.result) l.deferred)
target_part names Always f l h = record { variables = h.variables; result = tt; deferred = h.deferred }
target_part names WhenTrue f l h = h
target_part names WhenFalse f l h = h

-- a jump, by the place of its label
pub record Jumps (names : Names) (c : Config) (u : ProgramUnit) (f : Facts) (l : Knowledge) (condition : Condition) (at : Option ℕ) : Type 0 where
  pub fine : (m : Moves Facts) → provided (has_condition condition f.result) (jumping_to condition f at) ≡ Some m → AreFineMoves names m
  pub sound : (a : Annotation) (p : ℕ) (m : Moves Facts) → provided (has_condition condition f.result) (jumping_to condition f at) ≡ Some m → AllOver (Under names) a p m
      → HasCondition condition f.result × LeadsTo (spot c u a p (shown names f)) at (knowledge (variables_of names f.row) (result_at_target condition f.result) f.deferred) × MayPass (spot c u a p (shown names f)) condition f.result
  pub complete : (a : Annotation) (p : ℕ) → HasCondition condition l.result × LeadsTo (spot c u a p l) at (knowledge l.variables (result_at_target condition l.result) l.deferred) × MayPass (spot c u a p l) condition l.result
      → (m : Moves Facts) × (provided (has_condition condition f.result) (jumping_to condition f at) ≡ Some m) × AllOver (Under names) a p m

pub jumps : (names : Names) (c : Config) (u : ProgramUnit) (f : Facts) (l : Knowledge) → Stands names c u f l → (condition : Condition) (at : Option ℕ) → Jumps names c u f l condition at
jumps names c u f l s condition None = record {
  fine = λ m e. absurd (nothing m e);
  sound = λ a p m e over. absurd (nothing m e);
  complete = λ a p h. absurd h.1;
}
  where
    nothing : (m : Moves Facts) → provided (has_condition condition f.result) None ≡ Some m → ⊥
    nothing m e = let q = provided_is (has_condition condition f.result) None m e in let bad : ◌≡◌ {A = Option (Moves Facts)} None (Some m) = q.is in cc
jumps names c u f l s condition (Some to) = record {
  fine = λ m e. subst (AreFineMoves names) (gives m e) (record { next = passing_fine names condition f s.fine; jump = target_fine names condition f s.fine });
  sound = λ a p m e over.
      let q = provided_is (has_condition condition f.result) (jumping_to condition f (Some to)) m e in
      let all = subst (AllOver (Under names) a p) (sym (gives m e)) over in
      (t.holds q.test, lead names a to there (shown names there) (part_itself (shown names there)) all.jump, may_pass names c u a p condition f all.next);
  complete = λ a p h. (
    goes,
    is_provided (has_condition condition f.result) (Some goes) (t.follows h.0),
    record {
      next = over_pass names c u a p condition f l s.under h.2;
      jump = over_lead names a to there (knowledge l.variables (result_at_target condition l.result) l.deferred) (target_part names condition f l s.under) h.1;
    },
  );
}
  where
    there : Facts
    there = facts f.row (result_at_target condition f.result) f.deferred

    goes : Moves Facts
    goes = record { next = passing condition f; jump = Some (to, facts f.row (result_at_target condition f.result) f.deferred) }

    t : Tests (has_condition condition f.result) (HasCondition condition f.result) (HasCondition condition l.result)
    t = condition_tests condition f.result l.result s.under.result

    gives : (m : Moves Facts) → provided (has_condition condition f.result) (jumping_to condition f (Some to)) ≡ Some m → record { next = passing condition f; jump = Some (to, facts f.row (result_at_target condition f.result) f.deferred) } ≡ m
    gives m e = same_some _ m (provided_is (has_condition condition f.result) (jumping_to condition f (Some to)) m e).is

pub bare_tests : (ds es : List KnownDeferred) → IsDeferredWithin ds es → Tests (is_bare ds) (ds ≡ []) (es ≡ [])
bare_tests [] [] w = record { holds = λ e. refl; follows = λ e. refl }
bare_tests (d ∷ ds) (e ∷ es) w = record { holds = λ h. absurd (let bad : false ≡ true = h in cc); follows = λ h. absurd (let bad : e ∷ es ≡ [] = h in cc) }
bare_tests [] (e ∷ es) w = absurd w
bare_tests (d ∷ ds) [] w = absurd w

-- STANDARD FUNCTIONS

-- the arguments, without the place
WithArguments : NameMap Interval → Config → ProgramUnit → StandardFunction → Known → List Operand → (List Known → Type 0) → Type 0
WithArguments variables c u f first [] go = go []
WithArguments variables c u f first (o ∷ os) go =
    WithOperand variables (known_argument_type f first (denotation c u o.reference)) (denotation c u o.reference) (λ k. WithArguments variables c u f first os (λ ks. go (k ∷ ks)))

to_arguments : (s : Spot) (f : StandardFunction) (first : Known) (os : List Operand) (g h : List Known → Type 0) → ((ks : List Known) → g ks → h ks) → WithArguments s.known.variables s.config s.unit f first os g → WithStandardArguments s f first os h
unfolding WithArguments
to_arguments s f first [] g h map x = map [] x
to_arguments s f first (o ∷ os) g h map x = operand_map s.known.variables _ (denotation s.config s.unit o.reference) _ _ (λ k y. to_arguments s f first os (λ ks. g (k ∷ ks)) (λ ks. h (k ∷ ks)) (λ ks. map (k ∷ ks)) y) x

of_arguments : (s : Spot) (f : StandardFunction) (first : Known) (os : List Operand) (g h : List Known → Type 0) → ((ks : List Known) → g ks → h ks) → WithStandardArguments s f first os g → WithArguments s.known.variables s.config s.unit f first os h
unfolding WithArguments
of_arguments s f first [] g h map x = map [] x
of_arguments s f first (o ∷ os) g h map x = operand_map s.known.variables _ (denotation s.config s.unit o.reference) _ _ (λ k y. of_arguments s f first os (λ ks. g (k ∷ ks)) (λ ks. h (k ∷ ks)) (λ ks. map (k ∷ ks)) y) x

same_argument_type : (f : StandardFunction) (k w : Known) (d : Denotation) → IsKnownWithin k w → known_argument_type f k d ≡ known_argument_type f w d
same_argument_type Selected k w d h = refl
same_argument_type Absolute Flag Flag d h = refl
same_argument_type Absolute (Ranged e i) (Ranged g j) d h = h.0
same_argument_type Minimum Flag Flag d h = refl
same_argument_type Minimum (Ranged e i) (Ranged g j) d h = h.0
same_argument_type Maximum Flag Flag d h = refl
same_argument_type Maximum (Ranged e i) (Ranged g j) d h = h.0
same_argument_type Limited Flag Flag d h = refl
same_argument_type Limited (Ranged e i) (Ranged g j) d h = h.0
same_argument_type (Converted from to) Flag Flag d h = refl
same_argument_type (Converted from to) (Ranged e i) (Ranged g j) d h = h.0
same_argument_type f Flag (Ranged g j) d h = absurd h
same_argument_type f (Ranged e i) Flag d h = absurd h

then_cons : (k : Known) (o : Option (List Known)) → option_and_then (λ ks. Some (k ∷ ks)) o ≡ option_map (λ ks. k ∷ ks) o
then_cons k None = refl
then_cons k (Some ks) = refl

arguments_agree : (names : Names) (c : Config) (u : ProgramUnit) (f : Facts) (l : Knowledge) → Stands names c u f l → (function : StandardFunction) (first wide : Known) → IsKnownWithin first wide → (os : List Operand)
    → Agrees AreFine AreWithin (found_arguments names f.row c u function first os) (WithArguments (variables_of names f.row) c u function first os) (WithArguments l.variables c u function wide os)
unfolding WithArguments
arguments_agree names c u f l s function first wide h [] = agrees_some AreFine AreWithin [] [] tt tt
arguments_agree names c u f l s function first wide h (o ∷ os) =
    agrees_then IsFineKnown IsKnownWithin AreFine AreWithin _ _ _ operand known_itself (λ k. option_map (λ ks. k ∷ ks) (found_arguments names f.row c u function first os))
    (λ k go. WithArguments (variables_of names f.row) c u function first os (λ ks. go (k ∷ ks))) (λ k go. WithArguments l.variables c u function wide os (λ ks. go (k ∷ ks)))
    (λ k w fk v. agrees_is AreFine AreWithin _ _ _ _ (sym (then_cons k (found_arguments names f.row c u function first os)))
    (agrees_then AreFine AreWithin AreFine AreWithin _ _ _ (arguments_agree names c u f l s function first wide h os) are_within_itself (λ ks. Some (k ∷ ks)) (λ ks go. go (k ∷ ks)) (λ ks go. go (w ∷ ks))
    (λ ks ws fs vs. agrees_some AreFine AreWithin (k ∷ ks) (w ∷ ws) (fk, fs) (v, vs))))
  where
    at : (e : Elementary) → Knows (found_operand (row_at names f.row) e (denotation c u o.reference)) (WithOperand (variables_of names f.row) e (denotation c u o.reference)) (WithOperand l.variables e (denotation c u o.reference))
    at e = operand_agrees names f.row l.variables (variables_of_place names c u f l s) e (denotation c u o.reference) (s.denotes o.reference)

    operand : Knows (found_operand (row_at names f.row) (known_argument_type function first (denotation c u o.reference)) (denotation c u o.reference)) (WithOperand (variables_of names f.row) (known_argument_type function first (denotation c u o.reference)) (denotation c u o.reference))
        (WithOperand l.variables (known_argument_type function wide (denotation c u o.reference)) (denotation c u o.reference))
    operand = subst (λ x. Knows (found_operand (row_at names f.row) (known_argument_type function first (denotation c u o.reference)) (denotation c u o.reference)) (WithOperand (variables_of names f.row) (known_argument_type function first (denotation c u o.reference)) (denotation c u o.reference)) (WithOperand l.variables x (denotation c u o.reference)))
        (same_argument_type function first wide (denotation c u o.reference) h) (at (known_argument_type function first (denotation c u o.reference)))

-- a standard function of the result and its further arguments
IsAppliedTo : NameMap Interval → Config → ProgramUnit → StandardFunction → List Operand → Known → (Known → Type 0) → Type 0
IsAppliedTo variables c u f operands first go = WithArguments variables c u f first operands (λ ks. WithApplied f first ks go)

-- a call of a standard function, by which it is
pub record Applies (names : Names) (c : Config) (u : ProgramUnit) (f : Facts) (l : Knowledge) (function : StandardFunction) (operands : List Operand) : Type 0 where
  pub fine : (m : Moves Facts) → moves_of_standard names c u f (Some function) operands ≡ Some m → AreFineMoves names m
  pub sound : (own : Option ProgramUnit) (a : Annotation) (p : ℕ) (m : Moves Facts) → moves_of_standard names c u f (Some function) operands ≡ Some m → AllOver (Under names) a p m
      → WithKnownResult f.result (λ first. IsInvoked (spot c u a p (shown names f)) (Some function) own operands first)
  pub complete : (own : Option ProgramUnit) (a : Annotation) (p : ℕ) → WithKnownResult l.result (λ first. IsInvoked (spot c u a p l) (Some function) own operands first)
      → (m : Moves Facts) × (moves_of_standard names c u f (Some function) operands ≡ Some m) × AllOver (Under names) a p m

pub result_map : (o : Option Known) (g h : Known → Type 0) → ((k : Known) → g k → h k) → WithKnownResult o g → WithKnownResult o h
result_map None g h map x = x
result_map (Some k) g h map x = map k x

pub applies : (names : Names) (c : Config) (u : ProgramUnit) (f : Facts) (l : Knowledge) → Stands names c u f l → (function : StandardFunction) (operands : List Operand) → Applies names c u f l function operands
unfolding IsAppliedTo
applies names c u f l s function operands = record {
  fine = g.fine;
  sound = λ own a p m e over. result_map f.result _ _ (λ first x. to_arguments (spot c u a p (shown names f)) function first operands _ _ (λ ks y. y) x) (g.sound a p m e over);
  complete = λ own a p h. g.complete a p (result_map l.result _ _ (λ first x. of_arguments (spot c u a p l) function first operands _ _ (λ ks y. y) x) h);
}
  where
    calls : Knows (option_and_then (applied_to names f.row c u function operands) f.result) (λ go. WithKnownResult f.result (λ first. WithArguments (variables_of names f.row) c u function first operands (λ ks. WithApplied function first ks go)))
        (λ go. WithKnownResult l.result (λ first. WithArguments l.variables c u function first operands (λ ks. WithApplied function first ks go)))
    calls = agrees_then IsFineKnown IsKnownWithin IsFineKnown IsKnownWithin f.result (WithKnownResult f.result) (WithKnownResult l.result) (result_agrees f.result l.result s.fine.result s.under.result) known_itself
        (applied_to names f.row c u function operands) (λ first go. WithArguments (variables_of names f.row) c u function first operands (λ ks. WithApplied function first ks go)) (λ first go. WithArguments l.variables c u function first operands (λ ks. WithApplied function first ks go))
        (λ first wide ff h. agrees_then AreFine AreWithin IsFineKnown IsKnownWithin _ _ _ (arguments_agree names c u f l s function first wide h operands) are_within_itself (found_applied function first) (WithApplied function first) (WithApplied function wide)
        (λ ks ls fs us. applied_agrees function first wide ks ls ff h fs us))

    g : Nexts names (option_and_then (applied_to names f.row c u function operands) f.result) (with_result f) (λ go. WithKnownResult f.result (λ first. WithArguments (variables_of names f.row) c u function first operands (λ ks. WithApplied function first ks go)))
        (λ go. WithKnownResult l.result (λ first. WithArguments l.variables c u function first operands (λ ks. WithApplied function first ks go)))
        (λ k. knowledge (variables_of names f.row) (Some k) f.deferred) (λ k. knowledge l.variables (Some k) l.deferred)
    g = gives names c u f l s _ _ _ calls

pub works_standard : (names : Names) (c : Config) (u : ProgramUnit) (f : Facts) (l : Knowledge) → Stands names c u f l → (function : Named) (operands : List Operand) (standard : StandardFunction) → standard_function function.name ≡ Some standard → Works names c u f l (Invoke function operands)
works_standard names c u f l s function operands standard is = record {
  fine = λ m e. g.fine m (sym same ∙ e);
  sound = λ a p m e over. subst (λ o. WithKnownResult f.result (λ first. IsInvoked (spot c u a p (shown names f)) o (function_named c function.name) operands first)) (sym is) (g.sound (function_named c function.name) a p m (sym same ∙ e) over);
  complete = λ a p h. let r = g.complete (function_named c function.name) a p (subst (λ o. WithKnownResult l.result (λ first. IsInvoked (spot c u a p l) o (function_named c function.name) operands first)) is h) in (r.0, same ∙ r.1, r.2);
}
  where
    g : Applies names c u f l standard operands
    g = applies names c u f l s standard operands

    same : moves_of names c u f (Invoke function operands) ≡ moves_of_standard names c u f (Some standard) operands
    same = ap (λ o. moves_of_invoke names c u f o (function_named c function.name) operands) is
