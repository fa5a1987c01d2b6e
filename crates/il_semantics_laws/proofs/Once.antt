-- No two variables are kept at one path with two types.
use Rattle.std.proofs.Common.{◌≡◌, ◌≢◌, ℕ, suc, [], ◌∷◌, ◌++◌, refl, sym, ap, ◌∙◌, Some, subst, append_assoc, append-nil, codes, arith, ◌⊎◌, inl, inr}
use Rattle.std.specs.Prelude.{Contains}
use Rattle.std.specs.Fmt.{signed_decimal}
use Rattle.std.proofs.lemmas.Option.{same_Some}
use Rattle.il_syntax.specs.declared.tree.Config.{Config}
use Rattle.il_syntax.specs.declared.tree.Unit.{Unit as ProgramUnit}
use Rattle.il_syntax.specs.declared.tree.Scalar.{Scalar}
use Rattle.il_syntax.specs.declared.tree.Subrange.{Subrange}
use Rattle.il_syntax.specs.declared.tree.Form.{Form}
use Rattle.il_syntax.specs.declared.tree.Form.TheVariants.{Scalar as ScalarForm, Array as ArrayForm, Block as BlockForm}
use Rattle.il_statics.specs.Names.{form_named, unit_named, function_named}
use Rattle.base_maps.specs.NameMap.{Text}
use Rattle.il_semantics.specs.Meaning.{under, member_path}
use Rattle.il_semantics_laws.specs.Agreement.{HasVariable, Keeps, itself, element, member, Sees, of_program, of_function}
use Rattle.il_statics.specs.Written.{IsWord}
use Rattle.il_semantics_laws.specs.Soundness.{IsInOrder, HasPathsOnce}
use Rattle.il_semantics_laws.proofs.Texts.{under_is, member_is, element_is}
use Rattle.il_semantics_laws.proofs.Named.{found_unit, name_of, function_is_unit, function_word}

-- WORDS AND WHAT STANDS BEHIND THEM

-- nothing, a point or a bracket
abbrev pub Starts : Text → Type 0
Starts [] = Unit {0}
Starts (x ∷ xs) = (x ≡ 46) ⊎ (x ≡ 91)

abbrev pub IsPlain : Text → Type 0
IsPlain a = (¬ Contains a 46) × (¬ Contains a 91)

plain_rest : (x : ℕ) (a : Text) → IsPlain (x ∷ a) → IsPlain a
plain_rest x a h = (λ c. h.0 (suc c.0, omega (arith, c.1), c.2), λ c. h.1 (suc c.0, omega (arith, c.1), c.2))

no_start : (y : ℕ) (b r : Text) → IsPlain (y ∷ b) → Starts r → (s : Text) → r ≡ y ∷ (b ++ s) → ⊥
no_start y b [] plain starts s e = cc
no_start y b (x ∷ r) plain (inl is) s e = let same : x ≡ y = cc in plain.0 (0, omega arith, sym same ∙ is)
no_start y b (x ∷ r) plain (inr is) s e = let same : x ≡ y = cc in plain.1 (0, omega arith, sym same ∙ is)

-- a text is cut at the end of its first word in one way
pub splits : (a b r s : Text) → IsPlain a → IsPlain b → Starts r → Starts s → a ++ r ≡ b ++ s → (a ≡ b) × (r ≡ s)
splits [] [] r s p q f g e = (refl, e)
splits [] (y ∷ b) r s p q f g e = absurd (no_start y b r q f s e)
splits (x ∷ a) [] r s p q f g e = absurd (no_start x a s p g r (sym e))
splits (x ∷ a) (y ∷ b) r s p q f g e =
    let head : x ≡ y = cc in
    let tail : a ++ r ≡ b ++ s = cc in
    let more = splits a b r s (plain_rest x a p) (plain_rest y b q) f g tail in
    let same = more.0 in
    (cc, more.1)

pub plain : (a : Text) → IsWord a → IsPlain a
plain a word = (word.no_point, word.no_bracket)

-- WHAT STANDS BEHIND A VARIABLE

pub data Behind (c : Config) (s : Scalar) : Text → Form → Type 0 where
  whole : (rest : Text) (form : Form) → form ≡ ScalarForm s → rest ≡ [] → Behind c s rest form
  indexed : (rest : Text) (form : Form) (bounds : Subrange) (index : Text) → form ≡ ArrayForm bounds s → rest ≡ 91 ∷ index → Behind c s rest form
  inside : (rest : Text) (form : Form) (block word : Text) (inner : Form) (more : Text) → form ≡ BlockForm block → HasVariable c block word inner → rest ≡ 46 ∷ (word ++ more) → Behind c s more inner → Behind c s rest form

pub starts : (c : Config) (s : Scalar) (rest : Text) (form : Form) → Behind c s rest form → Starts rest
starts c s _ _ (whole rest form is e) = subst Starts (sym e) tt
starts c s _ _ (indexed rest form bounds index is e) = subst Starts (sym e) (inr refl)
starts c s _ _ (inside rest form block word inner more is has e b) = subst Starts (sym e) (inl refl)

pub behind_of : (c : Config) (q : Text) (s : Scalar) (path : Text) (form : Form) → Keeps c q s path form → (rest : Text) × (q ≡ path ++ rest) × Behind c s rest form
behind_of c q s _ _ (itself path form is e) = ([], e ∙ sym (append-nil path), whole _ _ is refl)
behind_of c q s _ _ (element path form bounds z is low e) = (91 ∷ (signed_decimal z ++ codes "]"), e ∙ element_is path z, indexed _ _ bounds _ is refl)
behind_of c q s _ _ (member path form block word inner is has keeps) =
    let r = behind_of c q s (member_path path word) inner keeps in
    (46 ∷ (word ++ r.0), r.1 ∙ ap (λ t. t ++ r.0) (member_is path word) ∙ append_assoc path (46 ∷ word) r.0, inside _ _ block word inner r.0 is has refl r.2)

module _ (c : Config) (p : ProgramUnit) (order : IsInOrder c p) where
  behind_once : (s t : Scalar) (rest other : Text) (form same_form : Form) → Behind c s rest form → Behind c t other same_form → rest ≡ other → form ≡ same_form → s ≡ t
  behind_once s t _ _ _ _ (whole rest form is e) (whole other g js f) same forms = cc
  behind_once s t _ _ _ _ (whole rest form is e) (indexed other g bounds index js f) same forms = cc
  behind_once s t _ _ _ _ (whole rest form is e) (inside other g block word inner more js has f b) same forms = cc
  behind_once s t _ _ _ _ (indexed rest form bounds index is e) (whole other g js f) same forms = cc
  behind_once s t _ _ _ _ (indexed rest form bounds index is e) (indexed other g bounds2 index2 js f) same forms = cc
  behind_once s t _ _ _ _ (indexed rest form bounds index is e) (inside other g block word inner more js has f b) same forms = cc
  behind_once s t _ _ _ _ (inside rest form block word inner more is has e b) (whole other g js f) same forms = cc
  behind_once s t _ _ _ _ (inside rest form block word inner more is has e b) (indexed other g bounds index js f) same forms = cc
  behind_once s t _ _ _ _ (inside rest form block word inner more is has e b) (inside other g block2 word2 inner2 more2 js has2 f d) same forms =
      let blocks : block ≡ block2 = cc in
      let texts : word ++ more ≡ word2 ++ more2 = cc in
      let cut = splits word word2 more more2 (plain word (order.block_words.words block word inner has)) (plain word2 (order.block_words.words block2 word2 inner2 has2)) (starts c s more inner b) (starts c t more2 inner2 d) texts in
      let moved = subst (λ (w : Text). HasVariable c block w inner2) (sym cut.0) (subst (λ (w : Text). HasVariable c w word2 inner2) (sym blocks) has2) in
      behind_once s t more more2 inner inner2 b d cut.1 (order.block_words.once block word inner inner2 has moved)

  -- what a body sees, after the name of a variable
  seen_behind : (v : ProgramUnit) (path q : Text) (s : Scalar) (sees : Sees c v path q s) → (rest : Text) × (q ≡ under path sees.0 ++ rest) × Behind c s rest sees.1
  seen_behind v path q s sees = behind_of c q s (under path sees.0) sees.1 sees.3

  -- two variables of one body
  body_once : (v : ProgramUnit) → Contains c.units v → (s t : Scalar) (name other : Text) (form same_form : Form) (rest more : Text) → form_named c v name ≡ Some form → form_named c v other ≡ Some same_form → Behind c s rest form → Behind c t more same_form → name ++ rest ≡ other ++ more → s ≡ t
  body_once v among s t name other form same_form rest more is js b d e =
      let cut = splits name other rest more (plain name (order.words v among name form is)) (plain other (order.words v among other same_form js)) (starts c s rest form b) (starts c t more same_form d) e in
      behind_once s t rest more form same_form b d cut.1 (same_Some form same_form (sym is ∙ ap (form_named c v) cut.0 ∙ js))

  -- what a function's body sees, after its name
  function_seen : (v : ProgramUnit) (q : Text) (s : Scalar) → v.name.name ≢ [] → (sees : Sees c v v.name.name q s) → (rest : Text) × (q ≡ v.name.name ++ 46 ∷ (sees.0 ++ rest)) × Behind c s rest sees.1
  function_seen v q s some sees = by_name v.name.name some sees.0 (seen_behind v v.name.name q s sees)
    where
      by_name : (path : Text) → path ≢ [] → (name : Text) → (rest : Text) × (q ≡ under path name ++ rest) × Behind c s rest sees.1 → (rest : Text) × (q ≡ path ++ 46 ∷ (name ++ rest)) × Behind c s rest sees.1
      by_name [] some name r = absurd (some refl)
      by_name (x ∷ xs) some name r = (r.0, r.1 ∙ ap (λ t. t ++ r.0) (under_is x xs name) ∙ append_assoc (x ∷ xs) (46 ∷ name) r.0, r.2)

  -- a variable of the program is none of a function
  mixed : (f : ProgramUnit) (function q : Text) (s t : Scalar) → function_named c function ≡ Some f → Sees c p [] q s → Sees c f f.name.name q t → s ≡ t
  mixed f function q s t own_one sees seen =
      let unit_is = function_is_unit c function f own_one in
      let word = function_word c p order f (found_unit c function f unit_is.0) unit_is.1 in
      let among = found_unit c p.name.name p order.named in
      let a = seen_behind p [] q s sees in
      let b = function_seen f q t word.some seen in
      let cut = splits sees.0 f.name.name a.0 (46 ∷ (seen.0 ++ b.0)) (plain sees.0 (order.words p among sees.0 sees.1 sees.2)) (plain f.name.name word) (starts c s a.0 sees.1 a.2) (inl refl) (sym a.1 ∙ b.1) in
      by_behind a.0 sees.1 a.2 cut.1 sees.2 cut.0
    where
      by_behind : (rest : Text) (form : Form) → Behind c s rest form → rest ≡ 46 ∷ (seen.0 ++ (function_seen f q t (function_word c p order f (found_unit c function f (function_is_unit c function f own_one).0) (function_is_unit c function f own_one).1).some seen).0) → form_named c p sees.0 ≡ Some form → sees.0 ≡ f.name.name → s ≡ t
      by_behind _ _ (whole rest form is e) at named same = cc
      by_behind _ _ (indexed rest form bounds index is e) at named same = let never : ◌≡◌ {A = ℕ} 91 46 = cc in absurd (omega arith)
      by_behind _ _ (inside rest form block word inner more is has e b) at named same =
          absurd (order.instances p f sees.0 block function (found_unit c p.name.name p order.named) (named ∙ ap Some is) own_one same)

  -- two functions of one name are one
  functions_once : (f g : ProgramUnit) (function other q : Text) (s t : Scalar) → function_named c function ≡ Some f → function_named c other ≡ Some g → Sees c f f.name.name q s → Sees c g g.name.name q t → s ≡ t
  functions_once f g function other q s t f_is g_is sees seen =
      let f_unit = function_is_unit c function f f_is in
      let g_unit = function_is_unit c other g g_is in
      let f_among = found_unit c function f f_unit.0 in
      let f_word = function_word c p order f f_among f_unit.1 in
      let g_word = function_word c p order g (found_unit c other g g_unit.0) g_unit.1 in
      let a = function_seen f q s f_word.some sees in
      let b = function_seen g q t g_word.some seen in
      let cut = splits f.name.name g.name.name (46 ∷ (sees.0 ++ a.0)) (46 ∷ (seen.0 ++ b.0)) (plain f.name.name f_word) (plain g.name.name g_word) (inl refl) (inl refl) (sym a.1 ∙ b.1) in
      let one : f ≡ g = same_Some f g (sym f_unit.0 ∙ ap (unit_named c) (sym (name_of c function f f_unit.0) ∙ cut.0 ∙ name_of c other g g_unit.0) ∙ g_unit.0) in
      let texts : sees.0 ++ a.0 ≡ seen.0 ++ b.0 = let tails = cut.1 in cc in
      body_once f f_among s t sees.0 seen.0 sees.1 seen.1 a.0 b.0 sees.2 (subst (λ (h : ProgramUnit). form_named c h seen.0 ≡ Some seen.1) (sym one) seen.2) a.2 b.2 texts

  pub paths_once : HasPathsOnce c p
  paths_once q s t (of_program sees) (of_program seen) =
      let a = seen_behind p [] q s sees in
      let b = seen_behind p [] q t seen in
      body_once p (found_unit c p.name.name p order.named) s t sees.0 seen.0 sees.1 seen.1 a.0 b.0 sees.2 seen.2 a.2 b.2 (sym a.1 ∙ b.1)
  paths_once q s t (of_program sees) (of_function f us function stack is seen) = mixed f function q s t is sees seen
  paths_once q s t (of_function f us function stack is sees) (of_program seen) = sym (mixed f function q t s is seen sees)
  paths_once q s t (of_function f us function stack is sees) (of_function g vs other pile js seen) = functions_once f g function other q s t is js sees seen
