-- A store keeps the declared sets, what is known of the body's variables, and what is known elsewhere.
use Rattle.std.proofs.Common.{◌≡◌, ◌≢◌, suc, Bool, true, false, List, [], ◌∷◌, ◌++◌, refl, sym, ap, ◌∙◌, cond, Some, None, Option, subst, ℤ, ◌≤ℤ◌, arith}
use Rattle.std.proofs.lemmas.Int.{ints}
use Rattle.std.proofs.lemmas.Option.{same_Some}
use Rattle.std.specs.Prelude.{option_map, Contains}
use Rattle.std.specs.Ordering.{eq_by_cmp}
use Rattle.il_syntax.specs.declared.tree.Config.{Config}
use Rattle.il_syntax.specs.declared.tree.Unit.{Unit as ProgramUnit}
use Rattle.il_syntax.specs.declared.tree.Form.TheVariants.{Scalar as ScalarForm}
use Rattle.il_syntax.specs.declared.tree.Scalar.{Scalar}
use Rattle.il_syntax.specs.declared.tree.Subrange.{Subrange}
use Rattle.il_syntax.specs.declared.tree.Elementary.{Elementary}
use Rattle.il_syntax.specs.declared.tree.Elementary.TheVariants.{Bool as BoolType}
use Rattle.il_syntax.specs.ElementaryTypes.{is_same_type}
use Rattle.ranges_interval.specs.declared.Interval.{Interval}
use Rattle.ranges_interval.specs.Interval.{IsIn, IsWithin}
use Rattle.il_statics.specs.Names.{form_named}
use Rattle.il_statics.specs.Declarations.{declared_limits}
use Rattle.il_semantics.specs.declared.value.Value.{Value}
use Rattle.il_semantics.specs.declared.value.Value.TheVariants.{Boolean, Integer}
use Rattle.il_semantics.specs.declared.value.Content.{Content}
use Rattle.base_maps.specs.NameMap.{NameMap, Text, order, get, insert, get-insert}
use Rattle.il_semantics.specs.Values.{IsOf, IsValueIn, is_of, is_value_in}
use Rattle.il_semantics.specs.State.{Values, Frame}
use Rattle.il_semantics.specs.Ranges.{HasValue}
use Rattle.il_semantics.specs.Meaning.{under, Denotation, Constant, Direct, Numbered, Indexed, Inside, Unknown}
use Rattle.il_semantics.specs.Step.{Outcome, stored, Location}
use Rattle.il_semantics.specs.declared.known.Known.{Known}
use Rattle.il_semantics.specs.declared.known.Known.TheVariants.{Flag, Ranged}
use Rattle.il_semantics.specs.Annotation.{interval, Fits, FitsRange, after_store}
use Rattle.il_semantics_laws.specs.Agreement.{itself, Sees, IsKept, Holds, IsKnown, KnowsVariables, FrameAgrees, CallersAgree}
use Rattle.il_statics.specs.Written.{IsWord}
use Rattle.il_semantics_laws.specs.Soundness.{HasPathsOnce, HasWords, HasWordNames}
use Rattle.il_semantics_laws.proofs.Going.{within_yes, type_itself, provided_ok}
use Rattle.il_semantics_laws.proofs.Texts.{same_text, under_is, under_injective, no_element, no_member, apart, text_itself, element_within, member_within}
use Rattle.il_semantics_laws.proofs.Reading.{IsMeant, Aims, no_limits}

-- A FIT CONTENT

-- a content that fits a scalar is one of its values, and of its type
record FitsAs (s : Scalar) (x : Content) : Type 0 where
  same_type : is_same_type s.elementary x.elementary ≡ true
  one_of : is_of s x.value ≡ true
  is_value : IsOf s x.value

fits_as : (s : Scalar) (o : Option Subrange) → declared_limits s ≡ o → (k : Known) (x : Content) → IsKnown k x → FitsRange s.elementary (option_map interval o) k → FitsAs s x
fits_as s None is Flag x known fits = rw known.1 (record {
  same_type = ap (λ e. is_same_type e BoolType) (no_limits s.elementary s.subrange is);
  one_of = ap (λ o. is_value_in o (Boolean known.0)) is;
  is_value = subst (λ o. IsValueIn o (Boolean known.0)) (sym is) tt;
})
fits_as s None is (Ranged f i) x known fits = absurd fits
fits_as s (Some r) is Flag x known fits = absurd fits
fits_as s (Some r) is (Ranged f i) x known fits =
    let low : r.lower ≤ℤ known.0 = in_low r i known.0 fits.1 known.2 in
    let high : known.0 ≤ℤ r.upper = in_high r i known.0 fits.1 known.2 in
    rw known.1 (record {
      same_type = ap (λ e. is_same_type s.elementary e) fits.0 ∙ type_itself s.elementary;
      one_of = ap (λ o. is_value_in o (Integer known.0)) is ∙ within_yes r known.0 low high;
      is_value = subst (λ o. IsValueIn o (Integer known.0)) (sym is) (low, high);
    })
  where
    in_low : (r : Subrange) (i : Interval) (z : ℤ) → IsWithin i (interval r) → IsIn i z → r.lower ≤ℤ z
    in_low r i z w h = omega (arith, ints)

    in_high : (r : Subrange) (i : Interval) (z : ℤ) → IsWithin i (interval r) → IsIn i z → z ≤ℤ r.upper
    in_high r i z w h = omega (arith, ints)

-- a content that fits is stored
pub stored_ok : (Q : Outcome → Type 0) (values : Values) (l : Location) (k : Known) (x : Content) (go : Values → Outcome) → IsKnown k x → Fits l.scalar k → (IsOf l.scalar x.value → Q (go (insert values l.path x.value))) → Q (stored values l x go)
stored_ok Q values l k x go known fits g =
    let fit = fits_as l.scalar (declared_limits l.scalar) refl k x known fits in
    provided_ok Q _ _ _ fit.same_type (provided_ok Q _ _ _ fit.one_of (g fit.is_value))

-- WHAT A STORE LEAVES

put_there : (values : Values) (q r : Text) (v : Value) → eq_by_cmp order r q ≡ true → get (insert values q v) r ≡ Some v
put_there values q r v e = get-insert values q v r ∙ ap (λ b. cond b (Some v) (get values r)) e

put_elsewhere : (values : Values) (q r : Text) (v : Value) → eq_by_cmp order r q ≡ false → get (insert values q v) r ≡ get values r
put_elsewhere values q r v e = get-insert values q v r ∙ ap (λ b. cond b (Some v) (get values r)) e

-- another path has what it had
pub put_apart : (values : Values) (q r : Text) (v : Value) → ¬ (r ≡ q) → get (insert values q v) r ≡ get values r
put_apart values q r v other = by_test (eq_by_cmp order r q) refl
  where
    by_test : (b : Bool) → eq_by_cmp order r q ≡ b → get (insert values q v) r ≡ get values r
    by_test true e = absurd (other (same_text r q e))
    by_test false e = put_elsewhere values q r v e

-- each path has a value of its declared set
pub holds_after : (c : Config) (p : ProgramUnit) (values : Values) (q : Text) (s : Scalar) (v : Value) → Holds c p values → HasPathsOnce c p → IsKept c p q s → IsOf s v → Holds c p (insert values q v)
holds_after c p values q s v holds once kept of_it r t is = by_test (eq_by_cmp order r q) refl
  where
    by_test : (b : Bool) → eq_by_cmp order r q ≡ b → HasValue (insert values q v) (r, t)
    by_test true e = (v, put_there values q r v e, subst (λ x. IsOf x v) (once q s t kept (subst (λ x. IsKept c p x t) (same_text r q e) is)) of_it)
    by_test false e = let h = holds r t is in (h.0, put_elsewhere values q r v e ∙ h.1, h.2)

module _ (c : Config) (p u : ProgramUnit) (path : Text) (values : Values) (holds : Holds c p values) (kept : (q : Text) (s : Scalar) → Sees c u path q s → IsKept c p q s) (words : HasWords c u) (variables : NameMap Interval)
    (knows : KnowsVariables c u path variables values) where
  -- what is known of a name whose path is another holds as before
  knows_other : (q name : Text) (v : Value) (i : Interval) → get variables name ≡ Some i → ¬ (under path name ≡ q)
      → ((s : Scalar) × (form_named c u name ≡ Some (ScalarForm s))) × ((z : ℤ) × (get (insert values q v) (under path name) ≡ Some (Integer z)) × IsIn i z)
  knows_other q name v i is other = let n = knows name i is in (n.0, (n.1.0, put_apart values q (under path name) v other ∙ n.1.1, n.1.2))

  -- a store into an element or a member leaves all that is known
  pub knows_aside : (q : Text) (v : Value) → ((name : Text) → IsWord name → ¬ (under path name ≡ q)) → KnowsVariables c u path variables (insert values q v)
  knows_aside q v other name i is = let n = knows name i is in knows_other q name v i is (other name (words name _ n.0.1))

  -- of a Boolean variable no number is known
  no_number : (s : Scalar) (z : ℤ) → FitsRange s.elementary (option_map interval (declared_limits s)) Flag → IsOf s (Integer z) → ⊥
  no_number s z fits of_it = by_limits (declared_limits s) fits of_it
    where
      by_limits : (o : Option Subrange) → FitsRange s.elementary (option_map interval o) Flag → IsValueIn o (Integer z) → ⊥
      by_limits None f h = h
      by_limits (Some r) f h = f

  knows_flag : (name : Text) (s : Scalar) (v : Value) → form_named c u name ≡ Some (ScalarForm s) → Fits s Flag → KnowsVariables c u path variables (insert values (under path name) v)
  knows_flag name s v form fits other i is = knows_other (under path name) other v i is (λ same.
      let n = (knows other i is).1 in
      let h = holds (under path name) s (kept _ s (name, ScalarForm s, form, itself _ _ refl refl)) in
      let number : h.0 ≡ Integer n.0 = same_Some _ _ (sym h.1 ∙ ap (get values) (sym same) ∙ n.1) in
      no_number s n.0 fits (subst (IsOf s) number h.2))

  knows_ranged : (name : Text) (s : Scalar) (e : Elementary) (i : Interval) (x : Content) → form_named c u name ≡ Some (ScalarForm s) → IsKnown (Ranged e i) x → KnowsVariables c u path (insert variables name i) (insert values (under path name) x.value)
  knows_ranged name s e i x form known other j is = by_test (eq_by_cmp order other name) refl
    where
      by_test : (b : Bool) → eq_by_cmp order other name ≡ b → ((s : Scalar) × (form_named c u other ≡ Some (ScalarForm s))) × ((z : ℤ) × (get (insert values (under path name) x.value) (under path other) ≡ Some (Integer z)) × IsIn j z)
      by_test true t =
          let same = same_text other name t in
          let range : i ≡ j = same_Some i j (sym (get-insert variables name i other ∙ ap (λ b. cond b (Some i) (get variables other)) t) ∙ is) in
          ((s, ap (form_named c u) same ∙ form), (known.0, ap (get (insert values (under path name) x.value)) (ap (under path) same) ∙ put_itself ∙ ap (λ (y : Content). Some y.value) known.1, subst (λ r. IsIn r known.0) range known.2))
        where
          put_itself : get (insert values (under path name) x.value) (under path name) ≡ Some x.value
          put_itself = put_there values _ _ x.value (text_itself (under path name))
      by_test false t =
          let old : get variables other ≡ Some j = sym (get-insert variables name i other ∙ ap (λ b. cond b (Some i) (get variables other)) t) ∙ is in
          knows_other (under path name) other x.value j old (λ same. differ (under_injective path other name same) t)
        where
          differ : other ≡ name → eq_by_cmp order other name ≡ false → ⊥
          differ same t = let b = text_itself name in let c : eq_by_cmp order name name ≡ false = ap (λ w. eq_by_cmp order w name) (sym same) ∙ t in cc

  -- what is known after a store holds after it
  pub knows_after : (m : Denotation) (l : Location) (k : Known) (x : Content) → IsMeant c u m → Aims path m l → Fits l.scalar k → IsKnown k x → KnowsVariables c u path (after_store m k variables) (insert values l.path x.value)
  knows_after (Constant t) l k x means aims fits known = absurd aims
  knows_after (Direct name s) l Flag x means aims fits known = rw aims (knows_flag name s x.value means (subst (λ (t : Location). Fits t.scalar Flag) aims fits))
  knows_after (Direct name s) l (Ranged e i) x means aims fits known = rw aims (knows_ranged name s e i x means known)
  knows_after (Numbered name bounds s z) l k x means aims fits known = rw aims (knows_aside _ x.value (λ other word. no_element path other name z word))
  knows_after (Indexed name bounds s variable t) l k x means aims fits known = rw aims.1 (knows_aside _ x.value (λ other word. no_element path other name aims.0 word))
  knows_after (Inside instance word s) l k x means aims fits known = rw aims (knows_aside _ x.value (λ other is_word. no_member path other instance word is_word))
  knows_after Unknown l k x means aims fits known = absurd aims

  -- the same of a Boolean
  pub knows_after_flag : (m : Denotation) (l : Location) (x : Content) → IsMeant c u m → Aims path m l → Fits l.scalar Flag → IsKnown Flag x → KnowsVariables c u path variables (insert values l.path x.value)
  knows_after_flag (Constant t) l x means aims fits known = absurd aims
  knows_after_flag (Direct name s) l x means aims fits known = knows_after (Direct name s) l Flag x means aims fits known
  knows_after_flag (Numbered name bounds s z) l x means aims fits known = knows_after (Numbered name bounds s z) l Flag x means aims fits known
  knows_after_flag (Indexed name bounds s variable t) l x means aims fits known = knows_after (Indexed name bounds s variable t) l Flag x means aims fits known
  knows_after_flag (Inside instance word s) l x means aims fits known = knows_after (Inside instance word s) l Flag x means aims fits known
  knows_after_flag Unknown l x means aims fits known = absurd aims

-- ELSEWHERE

-- from some values to others only paths within the frame's have changed; of a program's frame this says nothing
abbrev pub Confined : Text → Values → Values → Type 0
Confined path before after = path ≢ [] → (q : Text) → ((t : Text) → ¬ (q ≡ path ++ 46 ∷ t)) → get after q ≡ get before q

-- a store of a frame is within its path
pub aims_within : (path : Text) (m : Denotation) (l : Location) → path ≢ [] → Aims path m l → (t : Text) × (l.path ≡ path ++ 46 ∷ t)
aims_within [] m l some aims = absurd (some refl)
aims_within (x ∷ xs) (Constant t) l some aims = absurd aims
aims_within (x ∷ xs) (Direct name s) l some aims = (name, ap (λ (t : Location). t.path) aims ∙ under_is x xs name)
aims_within (x ∷ xs) (Numbered name bounds s z) l some aims = (_, ap (λ (t : Location). t.path) aims ∙ element_within x xs name z)
aims_within (x ∷ xs) (Indexed name bounds s variable t) l some aims = (_, ap (λ (t : Location). t.path) aims.1 ∙ element_within x xs name aims.0)
aims_within (x ∷ xs) (Inside instance word s) l some aims = (_, ap (λ (t : Location). t.path) aims ∙ member_within x xs instance word)
aims_within (x ∷ xs) Unknown l some aims = absurd aims

pub confined_nothing : (path : Text) (values : Values) → Confined path values values
confined_nothing path values some q outside = refl

pub confined_store : (path : Text) (values : Values) (m : Denotation) (l : Location) (v : Value) → Aims path m l → Confined path values (insert values l.path v)
confined_store path values m l v aims some q outside = let w = aims_within path m l some aims in put_apart values l.path q v (λ same. outside w.0 (same ∙ w.1))

-- what is confined to one frame leaves the others as they are
pub frame_elsewhere : (c : Config) (p : ProgramUnit) (values after : Values) (path : Text) (g : Frame) (u : ProgramUnit) (k : _) → HasWordNames c → path ≢ [] → Confined path values after → ¬ (g.path ≡ path) → ((rest : Text) → ¬ (g.path ≡ path ++ 46 ∷ rest))
    → FrameAgrees c p values g u k → FrameAgrees c p after g u k
frame_elsewhere c p values after path g u k words some confined other outside a = record {
  named = a.named;
  among = a.among;
  annotation = a.annotation;
  annotated = a.annotated;
  within = a.within;
  stands = a.stands;
  kept = a.kept;
  variables = λ name i is.
      let n = a.variables name i is in
      (n.0, (n.1.0, confined some (under g.path name) (λ t. apart g.path name path t (words u a.among name _ n.0.1) other outside) ∙ n.1.1, n.1.2));
  deferred = a.deferred;
}

pub callers_elsewhere : (c : Config) (p : ProgramUnit) (values after : Values) (path : Text) (v : ProgramUnit) (name at_path : Text) (below : List Frame) → HasWordNames c → path ≢ [] → Confined path values after
    → ((g : Frame) → Contains below g → ¬ (g.path ≡ path)) → ((g : Frame) (rest : Text) → Contains below g → ¬ (g.path ≡ path ++ 46 ∷ rest)) → CallersAgree c p values v name at_path below → CallersAgree c p after v name at_path below
callers_elsewhere c p values after path v name at_path [] words some confined other outside a = a
callers_elsewhere c p values after path v name at_path (g ∷ below) words some confined other outside a = (
  a.0,
  a.1,
  frame_elsewhere c p values after path g a.0 a.1 words some confined (other g (first g below)) (λ rest. outside g rest (first g below)) a.2,
  a.3,
  a.4,
  callers_elsewhere c p values after path a.0 g.unit g.path below words some confined (λ h among. other h (further g h below among)) (λ h rest among. outside h rest (further g h below among)) a.5,
)
  where
    first : (g : Frame) (below : List Frame) → Contains (g ∷ below) g
    first g below = (0, omega arith, refl)

    further : (g h : Frame) (below : List Frame) → Contains below h → Contains (g ∷ below) h
    further g h below among = (suc among.0, omega (arith, among.1), among.2)

-- so what a frame does leaves its callers as they are
pub callers_after : (c : Config) (p : ProgramUnit) (values after : Values) (v : ProgramUnit) (name path : Text) (below : List Frame) → HasWordNames c → Confined path values after → CallersAgree c p values v name path below → CallersAgree c p after v name path below
callers_after c p values after v name path [] words confined a = a
callers_after c p values after v name path (g ∷ below) words confined a = callers_elsewhere c p values after path v name path (g ∷ below) words a.4.some confined a.4.other a.4.outside a
