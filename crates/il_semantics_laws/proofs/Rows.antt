-- A configuration in order, so that the laws' premises can be met: a program with a whole variable and a timer that it calls.
use Rattle.std.proofs.Common.{◌≡◌, ◌<◌, ℕ, zero, suc, Bool, true, false, ◌&&◌, List, [], ◌∷◌, ◌++◌, refl, sym, ap, ◌∙◌, Some, None, Option, subst, length, codes, arith}
use Rattle.std.proofs.lemmas.Slice.Eq.{bytes_eq-Decides}
use Rattle.std.proofs.lemmas.Option.{same_Some}
use Rattle.std.specs.Prelude.{Contains, option_map, option_and_then, bytes_eq, if◌then◌else◌}
use Rattle.il_syntax.specs.declared.tree.Config.{Config}
use Rattle.il_syntax.specs.declared.tree.Unit.{Unit as ProgramUnit}
use Rattle.il_syntax.specs.declared.tree.Form.{Form}
use Rattle.il_syntax.specs.declared.tree.Form.TheVariants.{Scalar as ScalarForm, Array as ArrayForm, Block as BlockForm}
use Rattle.il_syntax.specs.declared.tree.Condition.{Condition}
use Rattle.il_syntax.specs.declared.tree.Condition.TheVariants.{Always}
use Rattle.il_syntax.specs.declared.tree.Named.{Named}
use Rattle.il_syntax.specs.declared.tree.Instruction.{Instruction}
use Rattle.il_syntax.specs.declared.tree.Instruction.TheVariants.{Load, Store, Not, Operate, Defer, Evaluate, Jump, Return, Call, Invoke}
use Rattle.il_statics.specs.declared.names.StandardBlock.{StandardBlock}
use Rattle.il_statics.specs.declared.names.StandardBlock.TheVariants.{Ton}
use Rattle.il_statics.specs.Names.{standard_block, standard_function, standard_variables, BlockVariables, block_variables, own_block_variables, or_else, Variable, ImageName, image_of, image_name, own_variable, variables_of, meaning, MeansVariable, MeansUnit, MeansStandard, meant_variable, outer_meaning, sees, is_predeclared, is_function, is_function_block, unit_named, function_named, function_block_named, form_named}
use Rattle.base_maps.specs.NameMap.{Text}
use Rattle.il_semantics.specs.Step.{instruction_at}
use Rattle.il_semantics.proofs.Trees.{named, declared, int, variable, ld, st, line, program, config}
use Rattle.il_semantics_laws.specs.Agreement.{HasVariable, CallsBy, HasUse, IsStack}
use Rattle.il_statics.specs.Written.{IsWord}
use Rattle.il_semantics_laws.specs.Soundness.{IsInOrder}
use Rattle.il_semantics_laws.proofs.Blocks.{words_of}
use Rattle.il_statics.proofs.Every.{all_of, contains_all, first_of_two, second_of_two}
use Rattle.il_semantics_laws.proofs.Words.{found_all, is_word, word_by, words_good, apart_good, one_form}
use Rattle.il_semantics_laws.proofs.Named.{found_unit, function_is_unit}
use Rattle.il_semantics_laws.proofs.Running.{block_is_unit}

abbrev timed : ProgramUnit
timed = program (declared (codes "V") int ∷ declared (codes "T") (BlockForm (codes "TON")) ∷ []) (line (ld (variable (codes "V"))) ∷ line (st (codes "V")) ∷ line (Call Always (named (codes "T")) []) ∷ [])

abbrev alone : Config
alone = config (timed ∷ [])

-- THE PROGRAM'S NAMES

abbrev is_good_form : Form → Bool
is_good_form (BlockForm b) = bytes_eq b (codes "TON")
is_good_form (ScalarForm s) = true
is_good_form (ArrayForm bounds e) = true

abbrev is_good : Variable → Bool
is_good v = is_word v.name && is_good_form v.form

abbrev Good : Text → Form → Type 0
Good name form = IsWord name × (is_good_form form ≡ true)

good_by : (v : Variable) (name : Text) (form : Form) → is_good v ≡ true → bytes_eq v.name name ≡ true → v.form ≡ form → Good name form
good_by v name form good is same =
    let named_so : v.name ≡ name = (bytes_eq-Decides v.name name).0 is in
    (word_by name (ap is_word (sym named_so) ∙ first_of_two (is_word v.name) _ good), ap is_good_form (sym same) ∙ second_of_two (is_word v.name) _ good)

images_good : all_of (λ (i : ImageName). is_good i.variable) (image_of alone.cars.value alone.floors.value alone.slots.value) ≡ true
images_good = refl

variables_good : all_of is_good (variables_of timed) ≡ true
variables_good = refl

image_found : (name : Text) (i : ImageName) → image_name alone name ≡ Some i → (is_good i.variable ≡ true) × (bytes_eq i.variable.name name ≡ true)
unfolding image_name
image_found name i e = found_all (λ (j : ImageName). is_good j.variable) (λ (j : ImageName). bytes_eq j.variable.name name) (image_of alone.cars.value alone.floors.value alone.slots.value) i images_good e

good_name : (name : Text) (form : Form) → form_named alone timed name ≡ Some form → Good name form
unfolding meaning
good_name name form e = from_own (own_variable timed name) refl e
  where
    from_global : (o : Option ProgramUnit) (b : Bool) → option_map (λ (v : Variable). v.form) (meant_variable (or_else (option_map MeansUnit o) (if b then Some MeansStandard else None))) ≡ Some form → Good name form
    from_global (Some v) b e = cc
    from_global None true e = cc
    from_global None false e = cc

    from_image : (o : Option ImageName) → image_name alone name ≡ o → option_map (λ (v : Variable). v.form) (meant_variable (outer_meaning alone timed name o)) ≡ Some form → Good name form
    from_image None is e = from_global (unit_named alone name) (is_predeclared alone name) e
    from_image (Some i) is e = by_sight (sees alone timed i) e
      where
        by_sight : (b : Bool) → option_map (λ (v : Variable). v.form) (meant_variable (if b then Some (MeansVariable i.variable) else None)) ≡ Some form → Good name form
        by_sight true e = let r = image_found name i is in good_by i.variable name form r.0 r.1 (same_Some i.variable.form form e)
        by_sight false e = cc

    from_own : (o : Option Variable) → own_variable timed name ≡ o → option_map (λ (v : Variable). v.form) (meant_variable (or_else (option_map MeansVariable o) (outer_meaning alone timed name (image_name alone name)))) ≡ Some form → Good name form
    from_own (Some v) is e = let r = found_all is_good (λ (x : Variable). bytes_eq x.name name) (variables_of timed) v variables_good is in good_by v name form r.0 r.1 (same_Some v.form form e)
    from_own None is e = from_image (image_name alone name) refl e

-- THE PREMISES

one_unit : (u : ProgramUnit) → Contains alone.units u → u ≡ timed
one_unit u (zero, low, same) = sym same
one_unit u (suc n, low, same) = absurd (omega arith)

no_function : (name : Text) (f : ProgramUnit) → function_named alone name ≡ Some f → ⊥
no_function name f e =
    let is = function_is_unit alone name f e in
    let same = one_unit f (found_unit alone name f is.0) in
    let never : false ≡ true = sym (ap is_function same) ∙ is.1 in cc

no_block : (name : Text) (v : ProgramUnit) → function_block_named alone name ≡ Some v → ⊥
no_block name v e =
    let is = block_is_unit alone name v e in
    let same = one_unit v (found_unit alone name v is) in
    let never : None ≡ Some v = sym (ap (λ o. option_and_then (λ u. if is_function_block u then Some u else None) o) (is ∙ ap Some same)) ∙ e in cc

no_call : (u v : ProgramUnit) (i : Instruction) → CallsBy alone u v i → ⊥
no_call u v (Call condition instance arguments) h = no_block h.0 v h.2
no_call u v (Invoke function operands) h = no_function function.name v h.1
no_call u v (Load negated o) h = h
no_call u v (Store kind to) h = h
no_call u v Not h = h
no_call u v (Operate operator o) h = h
no_call u v (Defer operator first) h = h
no_call u v Evaluate h = h
no_call u v (Jump condition label) h = h
no_call u v (Return condition) h = h

-- the program uses no unit of its own: the one name in it is a standard block's
no_use : (v : ProgramUnit) → HasUse alone timed v → ⊥
unfolding image_name standard_function standard_block
no_use v h = let low = h.1 in absurd (omega arith)

nobody : (v : ProgramUnit) (us : List ProgramUnit) → IsStack alone timed v us → us ≡ []
nobody v [] s = refl
nobody v (u ∷ []) s = absurd (no_use v (subst (λ (w : ProgramUnit). HasUse alone w v) s.1 s.0))
nobody v (u ∷ w ∷ us) s = let never = nobody u (w ∷ us) s.1 in cc

no_jump : (n : ℕ) (condition : Condition) (label : Named) → instruction_at timed.body n ≡ Jump condition label → ⊥
no_jump zero condition label e = cc
no_jump (suc zero) condition label e = cc
no_jump (suc (suc zero)) condition label e = cc
no_jump (suc (suc (suc n))) condition label e = cc

-- what a block is here
standard_one : (block word : Text) (form : Form) → HasVariable alone block word form → (s : StandardBlock) × (standard_block block ≡ Some s) × Contains (words_of s) (word, form)
unfolding block_variables
standard_one block word form h = by_standard (standard_block block) refl (function_block_named alone block) refl h.1
  where
    by_standard : (o : Option StandardBlock) → standard_block block ≡ o → (t : Option ProgramUnit) → function_block_named alone block ≡ t → or_else (option_map standard_variables o) (option_map own_block_variables t) ≡ Some h.0 → (s : StandardBlock) × (standard_block block ≡ Some s) × Contains (words_of s) (word, form)
    by_standard (Some s) is t at e = let same = same_Some _ _ e in (s, is, subst (λ (b : BlockVariables). Contains (b.inputs ++ b.outputs ++ b.inner) (word, form)) (sym same) h.2)
    by_standard None is (Some v) at e = absurd (no_block block v at)
    by_standard None is None at e = cc

timer : (b : BlockVariables) × (block_variables alone (codes "TON") ≡ Some b)
unfolding block_variables standard_block
timer = (standard_variables Ton, refl)

pub in_order : IsInOrder alone timed
unfolding meaning image_name standard_function standard_block
in_order = record {
  named = refl;
  words = λ u among name form e. (good_name name form (subst (λ (v : ProgramUnit). form_named alone v name ≡ Some form) (one_unit u among) e)).0;
  block_words = record {
    words = λ block word form h. let s = standard_one block word form h in word_by word (contains_all (λ (e : Text × Form). is_word e.0) (words_of s.0) (word, form) (words_good s.0) s.2);
    once = λ block word form other h k.
        let s = standard_one block word form h in
        let t = standard_one block word other k in
        let same = same_Some _ _ (sym s.1 ∙ t.1) in
        one_form (words_of s.0) word form other (apart_good s.0) s.2 (subst (λ b. Contains (words_of b) (word, other)) (sym same) t.2);
  };
  forward = λ u at to condition label among e f. absurd (no_jump at condition label (subst (λ (v : ProgramUnit). instruction_at v.body at ≡ Jump condition label) (one_unit u among) e));
  uses = λ u v place among h. absurd (no_call u v (instruction_at u.body place) h);
  shallow = λ v us s. let none = nobody v us s in subst (λ (t : List ProgramUnit). length t < 16) (sym none) (omega arith);
  blocks = λ u name block among e.
      let good = (good_name name (BlockForm block) (subst (λ (v : ProgramUnit). form_named alone v name ≡ Some (BlockForm block)) (one_unit u among) e)).1 in
      let same = (bytes_eq-Decides block (codes "TON")).0 good in
      subst (λ t. (b : BlockVariables) × (block_variables alone t ≡ Some b)) (sym same) timer;
  own = λ block v name form e f. absurd (no_block block v e);
  acyclic = λ v w us s among. let none = nobody v us s in let low = (subst (λ (t : List ProgramUnit). Contains t w) none among).1 in absurd (omega arith);
  instances = λ u f name block function among e is. absurd (no_function function f is);
  inputs = λ f function e is among. absurd (no_function function f is);
  fresh = λ f function e is among. absurd (no_function function f is);
  time = refl;
}
