-- Operands and places of stores: what is there is as is known.
use Rattle.std.proofs.Common.{◌≡◌, suc, Bool, true, false, ◌&&◌, List, [], ◌∷◌, ◌++◌, refl, ap, ◌∙◌, cond, Some, None, Option, subst, ℤ, arith}
use Rattle.std.proofs.lemmas.Int.{ints}
use Rattle.std.specs.Prelude.{option_map, Contains, find, bytes_eq}
use Rattle.std.proofs.lemmas.List.Elements.{Contains-append_left, Contains-append_right}
use Rattle.std.proofs.lemmas.Slice.Eq.{bytes_eq-Decides}
use Rattle.std.proofs.lemmas.Option.{same_Some}
use Rattle.il_syntax.specs.declared.tree.Config.{Config}
use Rattle.il_syntax.specs.declared.tree.Unit.{Unit as ProgramUnit}
use Rattle.il_syntax.specs.declared.tree.Form.{Form}
use Rattle.il_syntax.specs.declared.tree.Form.TheVariants.{Scalar as ScalarForm, Array as ArrayForm, Block as BlockForm}
use Rattle.il_syntax.specs.declared.tree.Scalar.{Scalar}
use Rattle.il_syntax.specs.declared.tree.Subrange.{Subrange}
use Rattle.il_syntax.specs.declared.tree.Elementary.{Elementary}
use Rattle.il_syntax.specs.declared.tree.Elementary.TheVariants.{Bool as BoolType, Sint, Int, Dint, Usint, Uint, Udint, Time}
use Rattle.il_syntax.specs.declared.tree.Literal.{Literal}
use Rattle.il_syntax.specs.declared.tree.Literal.TheVariants.{Truth, Bare, Whole, Time as Duration}
use Rattle.il_syntax.specs.declared.tree.Index.{Index}
use Rattle.il_syntax.specs.declared.tree.Index.TheVariants.{Number, Variable as ByVariable}
use Rattle.il_syntax.specs.declared.tree.Reference.{Reference}
use Rattle.il_syntax.specs.declared.tree.Reference.TheVariants.{Literal as OfLiteral, Variable as OfVariable, Element, Member}
use Rattle.il_syntax.specs.ElementaryTypes.{limits, is_whole, LiesIn}
use Rattle.ranges_interval.specs.declared.Interval.{Interval}
use Rattle.ranges_interval.specs.Interval.{IsIn, IsWithin}
use Rattle.il_statics.specs.Names.{Spelling, entry_of, or_else, BlockVariables, block_variables, form_named}
use Rattle.il_statics.specs.Declarations.{declared_limits, is_within, is_within_any}
use Rattle.il_semantics.specs.declared.value.Value.{Value}
use Rattle.il_semantics.specs.declared.value.Value.TheVariants.{Boolean, Integer}
use Rattle.il_semantics.specs.declared.value.Content.{Content}
use Rattle.base_maps.specs.NameMap.{NameMap, Text, get}
use Rattle.il_semantics.specs.Values.{IsOf, IsValueIn}
use Rattle.il_semantics.specs.State.{Values}
use Rattle.il_semantics.specs.Meaning.{under, element_path, member_path, Denotation, Constant, Direct, Numbered, Indexed, Inside, Unknown, direct, indexed_by, element_of, inputs_of, outputs_of, inside, member_of, denotation}
use Rattle.il_semantics.specs.Step.{Outcome, provided, with_value, with_location, with_kept, with_operand, with_literal, with_integer, Trap, Location, at, content}
use Rattle.il_semantics.specs.declared.known.Known.{Known}
use Rattle.il_semantics.specs.declared.known.Known.TheVariants.{Flag, Ranged}
use Rattle.il_semantics.specs.Annotation.{interval, range, only, declared_known, WithInterval, WithOperand, WithTarget, WithFlow, WithLiteral}
use Rattle.il_semantics_laws.specs.Agreement.{HasVariable, itself, element, member, Sees, IsKept, Holds, IsKnown, KnowsVariables}
use Rattle.il_semantics_laws.proofs.Going.{both, within_yes, provided_ok}

-- WHAT A DENOTATION IS OF

-- names of the unit with these types
abbrev pub IsMeant : Config → ProgramUnit → Denotation → Type 0
IsMeant c u (Constant l) = Unit {0}
IsMeant c u (Direct name s) = form_named c u name ≡ Some (ScalarForm s)
IsMeant c u (Numbered name bounds e z) = form_named c u name ≡ Some (ArrayForm bounds e)
IsMeant c u (Indexed name bounds e variable s) = (form_named c u name ≡ Some (ArrayForm bounds e)) × (form_named c u variable ≡ Some (ScalarForm s))
IsMeant c u (Inside instance word s) = (block : Text) × (form_named c u instance ≡ Some (BlockForm block)) × HasVariable c block word (ScalarForm s)
IsMeant c u Unknown = Unit {0}

-- an entry that is found is in its table
pub found_entry : {A : Type 0} (table : List (Spelling × A)) (name : Spelling) (x : A) → entry_of table name ≡ Some x → Contains table (name, x)
found_entry [] name x e = cc
found_entry {A = A} (t ∷ table) name x e = by_test (bytes_eq t.0 name) refl e (found_entry table name x)
  where
    by_test : (b : Bool) → bytes_eq t.0 name ≡ b → option_map (λ (e : Spelling × A). e.1) (cond b (Some t) (find (λ e. bytes_eq e.0 name) table)) ≡ Some x → (entry_of table name ≡ Some x → Contains table (name, x)) → Contains (t ∷ table) (name, x)
    by_test true is e more =
        let named : t.0 ≡ name = (bytes_eq-Decides t.0 name).0 is in
        let valued : t.1 ≡ x = same_Some t.1 x e in
        (0, omega arith, λ i. (named i, valued i))
    by_test false is e more = let r = more e in (suc r.0, omega (arith, r.1), r.2)

module _ (c : Config) (u : ProgramUnit) where
  meant_direct : (name : Text) (f : Option Form) → form_named c u name ≡ f → IsMeant c u (direct name f)
  meant_direct name None e = tt
  meant_direct name (Some (ScalarForm s)) e = e
  meant_direct name (Some (ArrayForm bounds e1)) e = tt
  meant_direct name (Some (BlockForm block)) e = tt

  meant_index : (name : Text) (bounds : Subrange) (e1 : Scalar) (variable : Text) (f : Option Form) → form_named c u name ≡ Some (ArrayForm bounds e1) → form_named c u variable ≡ f → IsMeant c u (indexed_by name bounds e1 variable f)
  meant_index name bounds e1 variable None a e = tt
  meant_index name bounds e1 variable (Some (ScalarForm s)) a e = (a, e)
  meant_index name bounds e1 variable (Some (ArrayForm b x)) a e = tt
  meant_index name bounds e1 variable (Some (BlockForm block)) a e = tt

  meant_element : (name : Text) (index : Index) (f : Option Form) → form_named c u name ≡ f → IsMeant c u (element_of (form_named c u) name index f)
  meant_element name index None e = tt
  meant_element name index (Some (ScalarForm s)) e = tt
  meant_element name (Number z) (Some (ArrayForm bounds e1)) e = e
  meant_element name (ByVariable v) (Some (ArrayForm bounds e1)) e = meant_index name bounds e1 v (form_named c u v) e refl
  meant_element name index (Some (BlockForm block)) e = tt

  -- a word that a caller sees is a variable of the block
  word_of : (block word : Text) (s : Scalar) (b : Option BlockVariables) → block_variables c block ≡ b → or_else (entry_of (outputs_of b) word) (entry_of (inputs_of b) word) ≡ Some (ScalarForm s) → HasVariable c block word (ScalarForm s)
  word_of block word s None is e = cc
  word_of block word s (Some b) is e = (b, is, by_output (entry_of b.outputs word) refl e)
    where
      by_output : (o : Option Form) → entry_of b.outputs word ≡ o → or_else o (entry_of b.inputs word) ≡ Some (ScalarForm s) → Contains (b.inputs ++ b.outputs ++ b.inner) (word, ScalarForm s)
      by_output (Some f) at e = Contains-append_left _ b.inner _ (Contains-append_right b.inputs b.outputs _ (found_entry b.outputs word _ (at ∙ e)))
      by_output None at e = Contains-append_left _ b.inner _ (Contains-append_left b.inputs b.outputs _ (found_entry b.inputs word _ e))

  meant_inside : (instance word block : Text) (f : Option Form) → form_named c u instance ≡ Some (BlockForm block) → or_else (entry_of (outputs_of (block_variables c block)) word) (entry_of (inputs_of (block_variables c block)) word) ≡ f
      → IsMeant c u (inside instance word f)
  meant_inside instance word block None i e = tt
  meant_inside instance word block (Some (ScalarForm s)) i e = (block, i, word_of block word s (block_variables c block) refl e)
  meant_inside instance word block (Some (ArrayForm b x)) i e = tt
  meant_inside instance word block (Some (BlockForm b)) i e = tt

  meant_member : (instance word : Text) (f : Option Form) → form_named c u instance ≡ f → IsMeant c u (member_of c instance word f)
  meant_member instance word None e = tt
  meant_member instance word (Some (ScalarForm s)) e = tt
  meant_member instance word (Some (ArrayForm b x)) e = tt
  meant_member instance word (Some (BlockForm block)) e = meant_inside instance word block _ e refl

  -- an operand denotes what its names are
  pub is_meant : (r : Reference) → IsMeant c u (denotation c u r)
  is_meant (OfLiteral l) = tt
  is_meant (OfVariable name) = meant_direct name (form_named c u name) refl
  is_meant (Element name index) = meant_element name index (form_named c u name) refl
  is_meant (Member instance word) = meant_member instance word (form_named c u instance) refl

-- VALUES

-- a scalar type without limits is BOOL
pub no_limits : (e : Elementary) (s : Option Subrange) → declared_limits (record { elementary = e; subrange = s }) ≡ None → e ≡ BoolType
no_limits BoolType s is = refl
no_limits Sint None is = cc
no_limits Int None is = cc
no_limits Dint None is = cc
no_limits Usint None is = cc
no_limits Uint None is = cc
no_limits Udint None is = cc
no_limits Time None is = cc
no_limits Sint (Some s) is = cc
no_limits Int (Some s) is = cc
no_limits Dint (Some s) is = cc
no_limits Usint (Some s) is = cc
no_limits Uint (Some s) is = cc
no_limits Udint (Some s) is = cc
no_limits Time (Some s) is = cc

-- a value of a declared set is as the declaration says
pub declared_is_known : (s : Scalar) (v : Value) → IsOf s v → IsKnown (declared_known s) (content s.elementary v)
declared_is_known s v of_it = by_limits (declared_limits s) refl v of_it
  where
    by_limits : (o : Option Subrange) → declared_limits s ≡ o → (v : Value) → IsValueIn (declared_limits s) v → IsKnown (declared_known s) (content s.elementary v)
    by_limits None is (Boolean b) h = rw is (b, ap (λ e. content e (Boolean b)) (no_limits s.elementary s.subrange is))
    by_limits None is (Integer z) h = absurd (subst (λ o. IsValueIn o (Integer z)) is h)
    by_limits (Some r) is (Boolean b) h = absurd (subst (λ o. IsValueIn o (Boolean b)) is h)
    by_limits (Some r) is (Integer z) h = rw is (z, refl, subst (λ o. IsValueIn o (Integer z)) is h)

-- where a denotation leads in a body at a path
abbrev pub Aims : Text → Denotation → Location → Type 0
Aims path (Constant c) l = ⊥
Aims path (Direct name s) l = l ≡ at (under path name) s
Aims path (Numbered name bounds e z) l = l ≡ at (element_path (under path name) z) e
Aims path (Indexed name bounds e variable s) l = (z : ℤ) × (l ≡ at (element_path (under path name) z) e)
Aims path (Inside instance word s) l = l ≡ at (member_path (under path instance) word) s
Aims path Unknown l = ⊥

module _ (Q : Outcome → Type 0) (c : Config) (p u : ProgramUnit) (path : Text) (values : Values) (holds : Holds c p values) (kept : (q : Text) (s : Scalar) → Sees c u path q s → IsKept c p q s) (variables : NameMap Interval)
    (knows : KnowsVariables c u path variables values) where
  -- a value that a body sees is there
  pub value_ok : (q : Text) (s : Scalar) (go : Value → Outcome) → IsKept c p q s → ((v : Value) → get values q ≡ Some v → IsOf s v → Q (go v)) → Q (with_value (get values q) go)
  value_ok q s go k g = let h = holds q s k in rw h.1 (g h.0 h.1 h.2)

  -- the index of an element lies in its array
  index_ok : (variable : Text) (bounds : Subrange) (e : Elementary) (o : Option Interval) (go : ℤ → Outcome) (trap : Trap) → get variables variable ≡ o → WithInterval o (λ i. IsWithin i (interval bounds)) → ((z : ℤ) → is_within bounds z ≡ true → Q (go z))
      → Q (with_value (get values (under path variable)) (λ v. with_integer v (λ z. provided (is_within bounds z) trap (go z))))
  index_ok variable bounds e None go trap is w g = absurd w
  index_ok variable bounds e (Some i) go trap is w g =
      let n = (knows variable i is).1 in
      let inside : is_within bounds n.0 ≡ true = index_in bounds i n.0 w n.2 in
      rw n.1 (provided_ok Q _ _ _ inside (g n.0 inside))
    where
      index_in : (bounds : Subrange) (i : Interval) (z : ℤ) → IsWithin i (interval bounds) → IsIn i z → is_within bounds z ≡ true
      index_in bounds i z w h = within_yes bounds z (omega (arith, ints)) (omega (arith, ints))

  -- the place of a store
  pub location_ok : (m : Denotation) → IsMeant c u m → (P : Scalar → Type 0) (go : Location → Outcome) → WithTarget variables m P → ((l : Location) → Aims path m l → IsKept c p l.path l.scalar → P l.scalar → Q (go l)) → Q (with_location path values m go)
  location_ok (Constant l) means P go w g = absurd w
  location_ok (Direct name s) means P go w g = g _ refl (kept _ s (name, ScalarForm s, means, itself _ _ refl refl)) w
  location_ok (Numbered name bounds e z) means P go w g =
      let inside : is_within bounds z ≡ true = within_yes bounds z w.0.0 w.0.1 in
      provided_ok Q _ _ _ inside (g _ refl (kept _ e (name, ArrayForm bounds e, means, element _ _ bounds z refl inside refl)) w.1)
  location_ok (Indexed name bounds e variable s) means P go w g =
      provided_ok Q _ _ _ w.0 (index_ok variable bounds s.elementary (get variables variable) _ _ refl w.1 (λ z inside.
      g _ (z, refl) (kept _ e (name, ArrayForm bounds e, means.0, element _ _ bounds z refl inside refl)) w.2))
  location_ok (Inside instance word s) means P go w g =
      g _ refl (kept _ s (instance, BlockForm means.0, means.1, member _ _ means.0 word (ScalarForm s) refl means.2 (itself _ _ refl refl))) w
  location_ok Unknown means P go w g = absurd w

  -- a literal: only a bare one takes the type that is given
  literal_ok : (e f : Elementary) (l : Literal) (P : Known → Type 0) (go : Content → Outcome) → ((i : Interval) → P (Ranged e i) → f ≡ e) → WithLiteral e l P → ((k : Known) (x : Content) → IsKnown k x → P k → Q (go x)) → Q (with_literal f l go)
  literal_ok e f (Truth b) P go suits w g = g Flag _ (b, refl) w
  literal_ok e f (Bare z) P go suits w g = rw (suits _ w.2) (provided_ok Q _ _ _ (bare_yes e z w.0 (limits e) refl w.1) (g (Ranged e (only z)) _ (z, refl, only_in z) w.2))
    where
      bare_yes : (e : Elementary) (z : ℤ) → is_whole e ≡ true → (o : Option Subrange) → limits e ≡ o → LiesIn o z → (is_whole e && is_within_any (limits e) z) ≡ true
      bare_yes e z whole None is lies = absurd lies
      bare_yes e z whole (Some s) is lies = both _ _ whole (ap (λ o. is_within_any o z) is ∙ within_yes s z lies.0 lies.1)

      only_in : (z : ℤ) → IsIn (only z) z
      only_in z = (omega (arith, ints), omega (arith, ints))
  literal_ok e f (Whole written z) P go suits w g = g (Ranged written (only z)) _ (z, refl, (omega (arith, ints), omega (arith, ints))) w.1
  literal_ok e f (Duration z) P go suits w g = g (Ranged Time (only z)) _ (z, refl, (omega (arith, ints), omega (arith, ints))) w.1

  -- a scalar variable: a Boolean, or a number that is known
  flow_ok : (name : Text) (s : Scalar) (P : Known → Type 0) (go : Content → Outcome) → form_named c u name ≡ Some (ScalarForm s) → WithFlow s.elementary (range s) (get variables name) P → ((k : Known) (x : Content) → IsKnown k x → P k → Q (go x))
      → Q (with_kept values (at (under path name) s) go)
  flow_ok name s P go means w g = by_limits (declared_limits s) refl
    where
      is_kept : IsKept c p (under path name) s
      is_kept = kept _ s (name, ScalarForm s, means, itself _ _ refl refl)

      by_flow : (o : Option Interval) → get variables name ≡ o → WithInterval o (λ i. P (Ranged s.elementary i)) → Q (with_kept values (at (under path name) s) go)
      by_flow None is w = absurd w
      by_flow (Some i) is w = let n = (knows name i is).1 in rw n.1 (g (Ranged s.elementary i) _ (n.0, refl, n.2) w)

      by_limits : (o : Option Subrange) → declared_limits s ≡ o → Q (with_kept values (at (under path name) s) go)
      by_limits None is = value_ok _ s _ is_kept (λ v there of_it. by_value v (subst (λ o. IsValueIn o v) is of_it))
        where
          by_value : (v : Value) → IsValueIn None v → Q (go (content s.elementary v))
          by_value (Boolean b) h = g Flag _ (b, ap (λ e. content e (Boolean b)) (no_limits s.elementary s.subrange is)) (subst (λ o. WithFlow s.elementary (option_map interval o) (get variables name) P) is w)
          by_value (Integer z) h = absurd h
      by_limits (Some r) is = by_flow (get variables name) refl (subst (λ o. WithFlow s.elementary (option_map interval o) (get variables name) P) is w)

  -- a scalar that has its declared set
  pub declared_ok : (q : Text) (s : Scalar) (P : Known → Type 0) (go : Content → Outcome) → IsKept c p q s → P (declared_known s) → ((k : Known) (x : Content) → IsKnown k x → P k → Q (go x)) → Q (with_kept values (at q s) go)
  declared_ok q s P go k w g = value_ok q s _ k (λ v there of_it. g (declared_known s) _ (declared_is_known s v of_it) w)

  -- an operand is found, and is as is known
  pub operand_ok : (e f : Elementary) (m : Denotation) → IsMeant c u m → (P : Known → Type 0) (go : Content → Outcome) → ((i : Interval) → P (Ranged e i) → f ≡ e) → WithOperand variables e m P → ((k : Known) (x : Content) → IsKnown k x → P k → Q (go x))
      → Q (with_operand f path values m go)
  operand_ok e f (Constant l) means P go suits w g = literal_ok e f l P go suits w g
  operand_ok e f (Direct name s) means P go suits w g = flow_ok name s P go means w g
  operand_ok e f (Numbered name bounds s z) means P go suits w g =
      location_ok (Numbered name bounds s z) means (λ t. P (declared_known t)) _ w (λ l aims k h. declared_ok l.path l.scalar P go k h g)
  operand_ok e f (Indexed name bounds s variable t) means P go suits w g =
      location_ok (Indexed name bounds s variable t) means (λ x. P (declared_known x)) _ w (λ l aims k h. declared_ok l.path l.scalar P go k h g)
  operand_ok e f (Inside instance word s) means P go suits w g =
      location_ok (Inside instance word s) means (λ t. P (declared_known t)) _ w (λ l aims k h. declared_ok l.path l.scalar P go k h g)
  operand_ok e f Unknown means P go suits w g = absurd w

-- knowledge of an operand is knowledge of something
pub operand_known : (variables : NameMap Interval) (e : Elementary) (m : Denotation) (P : Known → Type 0) → WithOperand variables e m P → (k : Known) × P k
operand_known variables e (Constant (Truth b)) P w = (Flag, w)
operand_known variables e (Constant (Bare z)) P w = (_, w.2)
operand_known variables e (Constant (Whole written z)) P w = (_, w.1)
operand_known variables e (Constant (Duration z)) P w = (_, w.1)
operand_known variables e (Direct name s) P w = by_range (range s) (get variables name) w
  where
    by_range : (o flow : Option Interval) → WithFlow s.elementary o flow P → (k : Known) × P k
    by_range None flow w = (Flag, w)
    by_range (Some r) None w = absurd w
    by_range (Some r) (Some i) w = (_, w)
operand_known variables e (Numbered name bounds s z) P w = (_, w.1)
operand_known variables e (Indexed name bounds s variable t) P w = (_, w.2)
operand_known variables e (Inside instance word s) P w = (_, w)
operand_known variables e Unknown P w = absurd w
