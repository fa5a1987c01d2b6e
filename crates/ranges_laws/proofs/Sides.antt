-- The sides of a jump: what a test's outcome leaves of the facts, against what it leaves of an annotation's ranges.
use Rattle.std.proofs.Common.{◌≡◌, ℕ, ◌+◌, Bool, true, false, not, cond, List, [], ◌∷◌, Option, Some, None, option_map, refl, sym, ap, ◌∙◌, subst}
use Rattle.std.specs.Ordering.{eq_by_cmp}
use Rattle.ranges_interval.specs.declared.Interval.{Interval}
use Rattle.ranges_interval.specs.Interval.{IsWithin, IsOperand}
use Rattle.ranges_interval.specs.Compared.{interval_narrow, IsLeftWithin}
use Rattle.ranges_interval.proofs.Outcomes.{left_operand, narrow_grows}
use Rattle.il_syntax.specs.declared.tree.Config.{Config}
use Rattle.il_syntax.specs.declared.tree.Unit.{Unit as ProgramUnit}
use Rattle.il_syntax.specs.declared.tree.Named.{Named}
use Rattle.il_syntax.specs.declared.tree.Condition.{Condition}
use Rattle.il_syntax.specs.declared.tree.Condition.TheVariants.{Always, WhenTrue, WhenFalse}
use Rattle.il_syntax.specs.declared.tree.Instruction.{Instruction}
use Rattle.il_syntax.specs.declared.tree.Instruction.TheVariants.{Jump}
use Rattle.il_statics.specs.Types.{label_place}
use Rattle.base_maps.specs.NameMap.{NameMap, Text, order, get, insert, get-insert}
use Rattle.il_semantics.specs.Tests.{Test, test_at}
use Rattle.il_semantics.specs.declared.known.KnownDeferred.{KnownDeferred}
use Rattle.il_semantics.specs.Annotation.{acts_at, narrowed, narrowed_by, WithSide, IsJumped, IsPassed, Knowledge, knowledge, Annotation, Spot, Passes, Leads, LeadsTo, GoesOn, MayPass, HasCondition, IsPart, IsVariableWithin, IsResultWithin, result_at_target}
use Rattle.ranges_laws.specs.Pass.{Moves}
use Rattle.ranges_laws.specs.declared.facts.Facts.{Facts}
use Rattle.ranges_laws.specs.Facts.{Names, row_at, row_put, variables_of, IsRowOf, facts, shown, IsFine}
use Rattle.ranges_laws.specs.Found.{provided}
use Rattle.ranges_laws.specs.Steps.{has_condition, passing, jumping_to, is_bare, narrowed_row_by, narrowed_row, sided, passing_side, landing, testing_to, moves_of, moves_of_test, moves_by}
use Rattle.ranges_laws.proofs.Least.{OverNext, OverJump, AllOver, HoldsOf, HoldsOfJump, same_some, mapped}
use Rattle.ranges_laws.proofs.Joins.{Under, part_itself, result_itself, deferred_itself}
use Rattle.ranges_laws.proofs.Rows.{put_fine, put_map, row_is, row_operand, variable_itself, IsNumbered}
use Rattle.ranges_laws.proofs.Agree.{Tests, provided_is, is_provided}
use Rattle.ranges_laws.proofs.Instructions.{spot, lead, over_lead, AreFineMoves, Stands, condition_tests, bare_tests, jumps}

-- the pass does right by an instruction at a place
pub record WorksAt (names : Names) (c : Config) (u : ProgramUnit) (f : Facts) (l : Knowledge) (t : Option Test) (i : Instruction) (p : ℕ) : Type 0 where
  pub fine : (m : Moves Facts) → moves_by names c u t f i ≡ Some m → AreFineMoves names m
  pub sound : (a : Annotation) (m : Moves Facts) → moves_by names c u t f i ≡ Some m → AllOver (Under names) a p m → Passes (spot c u a p (shown names f)) i
  pub complete : (a : Annotation) → Passes (spot c u a p l) i → (m : Moves Facts) × (moves_by names c u t f i ≡ Some m) × AllOver (Under names) a p m

-- WHAT AN OUTCOME LEAVES

-- something is left of the facts, and of the annotation's ranges no less
pub record IsLeft (names : Names) (f : Facts) (l : Knowledge) (t : Test) (holds : Bool) (row : List Interval) : Type 0 where
  pub row_is : narrowed_row names t holds f.row ≡ Some row
  pub fine : IsRowOf names row
  pub narrow : NameMap Interval
  pub narrow_is : narrowed (Some t) holds (variables_of names f.row) ≡ Some narrow
  pub same : (q : Text) → get narrow q ≡ get (variables_of names row) q
  pub wide : NameMap Interval
  pub wide_is : narrowed (Some t) holds l.variables ≡ Some wide
  pub within : (q : Text) → IsVariableWithin (get (variables_of names row) q) (get wide q)

pub data HasSide (names : Names) (f : Facts) (l : Knowledge) (t : Test) (holds : Bool) : Type 0 where
  empty : narrowed_row names t holds f.row ≡ None → narrowed (Some t) holds (variables_of names f.row) ≡ None → HasSide names f l t holds
  left : (row : List Interval) → IsLeft names f l t holds row → HasSide names f l t holds

put_within : (v w : NameMap Interval) (name : Text) (r s : Interval) → IsWithin r s → ((q : Text) → IsVariableWithin (get v q) (get w q)) → (q : Text) → IsVariableWithin (get (insert v name r) q) (get (insert w name s) q)
put_within v w name r s h all q = subst (λ o. IsVariableWithin o (get (insert w name s) q)) (sym (get-insert v name r q)) (subst (λ o. IsVariableWithin (cond (eq_by_cmp order q name) (Some r) (get v q)) o) (sym (get-insert w name s q)) (by_test (eq_by_cmp order q name)))
  where
    by_test : (b : Bool) → IsVariableWithin (cond b (Some r) (get v q)) (cond b (Some s) (get w q))
    by_test true = h
    by_test false = all q

pub side_of : (names : Names) (c : Config) (u : ProgramUnit) (f : Facts) (l : Knowledge) → Stands names c u f l → (t : Test) → IsNumbered names t.name → (holds : Bool) → HasSide names f l t holds
side_of names c u f l s t numbered holds = by_range (row_at names f.row t.name) refl
  where
    -- the row has a range, and so has the annotation
    by_wide : (i : Interval) → row_at names f.row t.name ≡ Some i → (o : Option Interval) → get l.variables t.name ≡ o → IsVariableWithin (Some i) o → HasSide names f l t holds
    by_wide i is None at w = absurd w
    by_wide i is (Some j) at w = by_left (interval_narrow t.comparison holds i t.number) (interval_narrow t.comparison holds j t.number) refl refl (narrow_grows t.comparison holds t.number i j w)
      where
        row_known : (o : Option Interval) → interval_narrow t.comparison holds i t.number ≡ o → narrowed_row names t holds f.row ≡ option_map (row_put names f.row t.name) o
        row_known o e = ap (λ x. narrowed_row_by names t holds x f.row) is ∙ ap (option_map (row_put names f.row t.name)) e

        shown_known : (o : Option Interval) → interval_narrow t.comparison holds i t.number ≡ o → narrowed (Some t) holds (variables_of names f.row) ≡ option_map (insert (variables_of names f.row) t.name) o
        shown_known o e = ap (λ x. narrowed_by t holds x (variables_of names f.row)) (row_is names f.row t.name ∙ is) ∙ ap (option_map (insert (variables_of names f.row) t.name)) e

        wide_known : (o : Option Interval) → interval_narrow t.comparison holds j t.number ≡ o → narrowed (Some t) holds l.variables ≡ option_map (insert l.variables t.name) o
        wide_known o e = ap (λ x. narrowed_by t holds x l.variables) at ∙ ap (option_map (insert l.variables t.name)) e

        by_left : (o x : Option Interval) → interval_narrow t.comparison holds i t.number ≡ o → interval_narrow t.comparison holds j t.number ≡ x → IsLeftWithin o x → HasSide names f l t holds
        by_left None x e g h = empty (row_known None e) (shown_known None e)
        by_left (Some r) None e g h = absurd h
        by_left (Some r) (Some k) e g h = left (row_put names f.row t.name r) (record {
          row_is = row_known (Some r) e;
          fine = put_fine names f.row t.name r (left_operand t.comparison holds i r t.number (row_operand names f.row t.name i s.fine.row is) e) s.fine.row;
          narrow = insert (variables_of names f.row) t.name r;
          narrow_is = shown_known (Some r) e;
          same = put_map names f.row t.name r s.fine.row numbered;
          wide = insert l.variables t.name k;
          wide_is = wide_known (Some k) g;
          within = λ q. subst (λ o. IsVariableWithin o (get (insert l.variables t.name k) q)) (put_map names f.row t.name r s.fine.row numbered q) (put_within (variables_of names f.row) l.variables t.name r k h s.under.variables q);
        })

    by_none : row_at names f.row t.name ≡ None → (o : Option Interval) → get l.variables t.name ≡ o → IsVariableWithin None o → HasSide names f l t holds
    by_none is None at w = left f.row (record {
      row_is = ap (λ x. narrowed_row_by names t holds x f.row) is;
      fine = s.fine.row;
      narrow = variables_of names f.row;
      narrow_is = ap (λ x. narrowed_by t holds x (variables_of names f.row)) (row_is names f.row t.name ∙ is);
      same = λ q. refl;
      wide = l.variables;
      wide_is = ap (λ x. narrowed_by t holds x l.variables) at;
      within = s.under.variables;
    })
    by_none is (Some j) at w = absurd w

    by_range : (o : Option Interval) → row_at names f.row t.name ≡ o → HasSide names f l t holds
    by_range None is = by_none is (get l.variables t.name) refl (subst (λ o. IsVariableWithin o (get l.variables t.name)) (row_is names f.row t.name ∙ is) (s.under.variables t.name))
    by_range (Some i) is = by_wide i is (get l.variables t.name) refl (subst (λ o. IsVariableWithin o (get l.variables t.name)) (row_is names f.row t.name ∙ is) (s.under.variables t.name))

-- BOTH SIDES

same_within : (o x : Option Interval) → o ≡ x → IsVariableWithin o x
same_within o x e = subst (IsVariableWithin o) e (variable_itself o)

module _ (names : Names) (c : Config) (u : ProgramUnit) (f : Facts) (l : Knowledge) (stands : Stands names c u f l) (t : Test) (a : Annotation) (p : ℕ) where
  -- the facts of a row
  abbrev on_row : List Interval → Facts
  on_row row = facts row f.result f.deferred

  abbrev at_label : Condition → List Interval → Facts
  at_label condition row = facts row (result_at_target condition f.result) f.deferred

  at_label_fine : (condition : Condition) (row : List Interval) → IsRowOf names row → IsFine names (at_label condition row)
  at_label_fine Always row h = record { row = h; result = tt; deferred = stands.fine.deferred }
  at_label_fine WhenTrue row h = record { row = h; result = stands.fine.result; deferred = stands.fine.deferred }
  at_label_fine WhenFalse row h = record { row = h; result = stands.fine.result; deferred = stands.fine.deferred }

  at_label_result : (condition : Condition) → IsResultWithin (result_at_target condition f.result) (result_at_target condition l.result)
  at_label_result Always = tt
  at_label_result WhenTrue = stands.under.result
  at_label_result WhenFalse = stands.under.result

  -- the side that goes to a label
  landing_fine : (holds : Bool) → HasSide names f l t holds → (condition : Condition) (at : Option ℕ) (j : Option (ℕ × Facts)) → landing condition at (sided names t holds f) ≡ Some j → HoldsOfJump (IsFine names) j
  landing_fine holds (empty e g) condition at j is = subst (HoldsOfJump (IsFine names)) (same_some None j (sym (ap (λ o. landing condition at (option_map on_row o)) e) ∙ is)) tt
  landing_fine holds (left row h) condition None j is = absurd (let bad : None ≡ Some j = sym (ap (λ o. landing condition None (option_map on_row o)) h.row_is) ∙ is in cc)
  landing_fine holds (left row h) condition (Some to) j is = subst (HoldsOfJump (IsFine names)) (same_some (Some (to, at_label condition row)) j (sym (ap (λ o. landing condition (Some to) (option_map on_row o)) h.row_is) ∙ is)) (at_label_fine condition row h.fine)

  landing_sound : (holds : Bool) → HasSide names f l t holds → (condition : Condition) (at : Option ℕ) (j : Option (ℕ × Facts)) → landing condition at (sided names t holds f) ≡ Some j → OverJump (Under names) a j
      → WithSide (narrowed (Some t) holds (variables_of names f.row)) (λ v. LeadsTo (spot c u a p (shown names f)) at (knowledge v (result_at_target condition f.result) f.deferred))
  landing_sound holds (empty e g) condition at j is over = subst (λ o. WithSide o (λ v. LeadsTo (spot c u a p (shown names f)) at (knowledge v (result_at_target condition f.result) f.deferred))) (sym g) tt
  landing_sound holds (left row h) condition None j is over = absurd (let bad : None ≡ Some j = sym (ap (λ o. landing condition None (option_map on_row o)) h.row_is) ∙ is in cc)
  landing_sound holds (left row h) condition (Some to) j is over =
      subst (λ o. WithSide o (λ v. LeadsTo (spot c u a p (shown names f)) (Some to) (knowledge v (result_at_target condition f.result) f.deferred))) (sym h.narrow_is)
      (lead names a to (at_label condition row) (knowledge h.narrow (result_at_target condition f.result) f.deferred)
      (record { variables = λ q. same_within _ _ (h.same q); result = result_itself (result_at_target condition f.result); deferred = deferred_itself f.deferred })
      (subst (OverJump (Under names) a) (sym (same_some (Some (to, at_label condition row)) j (sym (ap (λ o. landing condition (Some to) (option_map on_row o)) h.row_is) ∙ is))) over))

  landing_complete : (holds : Bool) → HasSide names f l t holds → (condition : Condition) (at : Option ℕ) → WithSide (narrowed (Some t) holds l.variables) (λ v. LeadsTo (spot c u a p l) at (knowledge v (result_at_target condition l.result) l.deferred))
      → (j : Option (ℕ × Facts)) × (landing condition at (sided names t holds f) ≡ Some j) × OverJump (Under names) a j
  landing_complete holds (empty e g) condition at w = (None, ap (λ o. landing condition at (option_map on_row o)) e, tt)
  landing_complete holds (left row h) condition None w = absurd (subst (λ o. WithSide o (λ v. LeadsTo (spot c u a p l) None (knowledge v (result_at_target condition l.result) l.deferred))) h.wide_is w)
  landing_complete holds (left row h) condition (Some to) w = (
    Some (to, at_label condition row),
    ap (λ o. landing condition (Some to) (option_map on_row o)) h.row_is,
    over_lead names a to (at_label condition row) (knowledge h.wide (result_at_target condition l.result) l.deferred)
        (record { variables = h.within; result = at_label_result condition; deferred = stands.under.deferred })
        (subst (λ o. WithSide o (λ v. LeadsTo (spot c u a p l) (Some to) (knowledge v (result_at_target condition l.result) l.deferred))) h.wide_is w),
  )

  -- the side that goes on to the next place
  on_fine : (holds : Bool) → HasSide names f l t holds → HoldsOf (IsFine names) (sided names t holds f)
  on_fine holds (empty e g) = subst (λ o. HoldsOf (IsFine names) (option_map on_row o)) (sym e) tt
  on_fine holds (left row h) = subst (λ o. HoldsOf (IsFine names) (option_map on_row o)) (sym h.row_is) (record { row = h.fine; result = stands.fine.result; deferred = stands.fine.deferred })

  on_sound : (holds : Bool) → HasSide names f l t holds → OverNext (Under names) a p (sided names t holds f) → WithSide (narrowed (Some t) holds (variables_of names f.row)) (λ v. GoesOn (spot c u a p (shown names f)) v f.result f.deferred)
  on_sound holds (empty e g) over = subst (λ o. WithSide o (λ v. GoesOn (spot c u a p (shown names f)) v f.result f.deferred)) (sym g) tt
  on_sound holds (left row h) over =
      subst (λ o. WithSide o (λ v. GoesOn (spot c u a p (shown names f)) v f.result f.deferred)) (sym h.narrow_is)
      (lead names a (p + 1) (on_row row) (knowledge h.narrow f.result f.deferred) (record { variables = λ q. same_within _ _ (h.same q); result = result_itself f.result; deferred = deferred_itself f.deferred })
      (subst (λ o. OverNext (Under names) a p (option_map on_row o)) h.row_is over))

  on_complete : (holds : Bool) → HasSide names f l t holds → WithSide (narrowed (Some t) holds l.variables) (λ v. GoesOn (spot c u a p l) v l.result l.deferred) → OverNext (Under names) a p (sided names t holds f)
  on_complete holds (empty e g) w = subst (λ o. OverNext (Under names) a p (option_map on_row o)) (sym e) tt
  on_complete holds (left row h) w =
      subst (λ o. OverNext (Under names) a p (option_map on_row o)) (sym h.row_is)
      (over_lead names a (p + 1) (on_row row) (knowledge h.wide l.result l.deferred) (record { variables = h.within; result = stands.under.result; deferred = stands.under.deferred })
      (subst (λ o. WithSide o (λ v. GoesOn (spot c u a p l) v l.result l.deferred)) h.wide_is w))

  pub passing_fine : (condition : Condition) → HasSide names f l t (not (acts_at condition)) → HoldsOf (IsFine names) (passing_side condition (sided names t (not (acts_at condition)) f))
  passing_fine Always h = tt
  passing_fine WhenTrue h = on_fine false h
  passing_fine WhenFalse h = on_fine true h

  pub passing_sound : (e : test_at c u p ≡ Some t) (condition : Condition) → HasSide names f l t (not (acts_at condition)) → OverNext (Under names) a p (passing_side condition (sided names t (not (acts_at condition)) f)) → IsPassed (spot c u a p (shown names f)) condition
  passing_sound e Always h over = tt
  passing_sound e WhenTrue h over = subst (λ o. WithSide (narrowed o false (variables_of names f.row)) (λ v. GoesOn (spot c u a p (shown names f)) v f.result f.deferred)) (sym e) (on_sound false h over)
  passing_sound e WhenFalse h over = subst (λ o. WithSide (narrowed o true (variables_of names f.row)) (λ v. GoesOn (spot c u a p (shown names f)) v f.result f.deferred)) (sym e) (on_sound true h over)

  pub passing_complete : (e : test_at c u p ≡ Some t) (condition : Condition) → HasSide names f l t (not (acts_at condition)) → IsPassed (spot c u a p l) condition → OverNext (Under names) a p (passing_side condition (sided names t (not (acts_at condition)) f))
  passing_complete e Always h w = tt
  passing_complete e WhenTrue h w = on_complete false h (subst (λ o. WithSide (narrowed o false l.variables) (λ v. GoesOn (spot c u a p l) v l.result l.deferred)) e w)
  passing_complete e WhenFalse h w = on_complete true h (subst (λ o. WithSide (narrowed o true l.variables) (λ v. GoesOn (spot c u a p l) v l.result l.deferred)) e w)

-- THE JUMP OF A TEST

pub works_test : (names : Names) (c : Config) (u : ProgramUnit) (f : Facts) (l : Knowledge) → Stands names c u f l → (t : Test) → IsNumbered names t.name → (p : ℕ) → test_at c u p ≡ Some t → (condition : Condition) (label : Named) → WorksAt names c u f l (Some t) (Jump condition label) p
works_test names c u f l s t numbered p at condition label = record { fine = fine; sound = sound; complete = complete }
  where
    place : Option ℕ
    place = label_place u.body label.name

    acting : HasSide names f l t (acts_at condition)
    acting = side_of names c u f l s t numbered (acts_at condition)

    going : HasSide names f l t (not (acts_at condition))
    going = side_of names c u f l s t numbered (not (acts_at condition))

    made : Option (ℕ × Facts) → Moves Facts
    made jump = record { next = passing_side condition (sided names t (not (acts_at condition)) f); jump = jump }

    b : Tests (is_bare f.deferred) (f.deferred ≡ []) (l.deferred ≡ [])
    b = bare_tests f.deferred l.deferred s.under.deferred

    k : Tests (has_condition condition f.result) (HasCondition condition f.result) (HasCondition condition l.result)
    k = condition_tests condition f.result l.result s.under.result

    fine : (m : Moves Facts) → moves_by names c u (Some t) f (Jump condition label) ≡ Some m → AreFineMoves names m
    fine m e =
        let q = provided_is (has_condition condition f.result) (testing_to names t condition f place) m (provided_is (is_bare f.deferred) _ m e).is in
        let h = mapped made (landing condition place (sided names t (acts_at condition) f)) m q.is in
        subst (AreFineMoves names) h.gives (record { next = passing_fine names c u f l s t [] p condition going; jump = landing_fine names c u f l s t [] p (acts_at condition) acting condition place h.from h.was })

    sound : (a : Annotation) (m : Moves Facts) → moves_by names c u (Some t) f (Jump condition label) ≡ Some m → AllOver (Under names) a p m → Passes (spot c u a p (shown names f)) (Jump condition label)
    sound a m e over =
        let n = provided_is (is_bare f.deferred) (provided (has_condition condition f.result) (testing_to names t condition f place)) m e in
        let q = provided_is (has_condition condition f.result) (testing_to names t condition f place) m n.is in
        let h = mapped made (landing condition place (sided names t (acts_at condition) f)) m q.is in
        let all = subst (AllOver (Under names) a p) (sym h.gives) over in (
          b.holds n.test,
          k.holds q.test,
          subst (λ o. WithSide (narrowed o (acts_at condition) (variables_of names f.row)) (λ v. LeadsTo (spot c u a p (shown names f)) place (knowledge v (result_at_target condition f.result) f.deferred))) (sym at)
              (landing_sound names c u f l s t a p (acts_at condition) acting condition place h.from h.was all.jump),
          passing_sound names c u f l s t a p at condition going all.next,
        )

    complete : (a : Annotation) → Passes (spot c u a p l) (Jump condition label) → (m : Moves Facts) × (moves_by names c u (Some t) f (Jump condition label) ≡ Some m) × AllOver (Under names) a p m
    complete a (none, has, jumped, passed) =
        let j = landing_complete names c u f l s t a p (acts_at condition) acting condition place (subst (λ o. WithSide (narrowed o (acts_at condition) l.variables) (λ v. LeadsTo (spot c u a p l) place (knowledge v (result_at_target condition l.result) l.deferred))) at jumped) in (
          made j.0,
          is_provided (is_bare f.deferred) (provided (has_condition condition f.result) (testing_to names t condition f place)) (b.follows none)
              ∙ is_provided (has_condition condition f.result) (testing_to names t condition f place) (k.follows has)
              ∙ ap (option_map made) j.1,
          record { next = passing_complete names c u f l s t a p at condition going passed; jump = j.2 },
        )

-- A JUMP THAT ENDS NO TEST

untested_passes : (c : Config) (u : ProgramUnit) (a : Annotation) (p : ℕ) (k : Knowledge) → test_at c u p ≡ None → (condition : Condition) → MayPass (spot c u a p k) condition k.result → IsPassed (spot c u a p k) condition
untested_passes c u a p k e Always h = tt
untested_passes c u a p k e WhenTrue h = subst (λ o. WithSide (narrowed o false k.variables) (λ v. GoesOn (spot c u a p k) v k.result k.deferred)) (sym e) h
untested_passes c u a p k e WhenFalse h = subst (λ o. WithSide (narrowed o true k.variables) (λ v. GoesOn (spot c u a p k) v k.result k.deferred)) (sym e) h

passes_untested : (c : Config) (u : ProgramUnit) (a : Annotation) (p : ℕ) (k : Knowledge) → test_at c u p ≡ None → (condition : Condition) → IsPassed (spot c u a p k) condition → MayPass (spot c u a p k) condition k.result
passes_untested c u a p k e Always h = tt
passes_untested c u a p k e WhenTrue h = subst (λ o. WithSide (narrowed o false k.variables) (λ v. GoesOn (spot c u a p k) v k.result k.deferred)) e h
passes_untested c u a p k e WhenFalse h = subst (λ o. WithSide (narrowed o true k.variables) (λ v. GoesOn (spot c u a p k) v k.result k.deferred)) e h

pub works_jump : (names : Names) (c : Config) (u : ProgramUnit) (f : Facts) (l : Knowledge) → Stands names c u f l → (p : ℕ) → test_at c u p ≡ None → (condition : Condition) (label : Named) → WorksAt names c u f l None (Jump condition label) p
works_jump names c u f l s p at condition label =
    let place = label_place u.body label.name in
    let g = jumps names c u f l s condition place in
    let b = bare_tests f.deferred l.deferred s.under.deferred in
    let inner = provided (has_condition condition f.result) (jumping_to condition f place) in
    record {
      fine = λ m e. g.fine m (provided_is (is_bare f.deferred) inner m e).is;
      sound = λ a m e over.
          let q = provided_is (is_bare f.deferred) inner m e in
          let r = g.sound a p m q.is over in (
            b.holds q.test,
            r.0,
            subst (λ o. WithSide (narrowed o (acts_at condition) (variables_of names f.row)) (λ v. LeadsTo (spot c u a p (shown names f)) place (knowledge v (result_at_target condition f.result) f.deferred))) (sym at) r.1,
            untested_passes c u a p (shown names f) at condition r.2,
          );
      complete = λ a h.
          let r = g.complete a p (
            h.1,
            subst (λ o. WithSide (narrowed o (acts_at condition) l.variables) (λ v. LeadsTo (spot c u a p l) place (knowledge v (result_at_target condition l.result) l.deferred))) at h.2,
            passes_untested c u a p l at condition h.3,
          ) in
          (r.0, is_provided (is_bare f.deferred) inner (b.follows h.0) ∙ r.1, r.2);
    }
