-- What the code counts are the slots, up to the limit.
use Rattle.std.proofs.Common.{◌≡◌, ℕ, zero, suc, ◌+◌, ◌*◌, ◌<◌, ◌≤◌, inl, inr, List, [], ◌∷◌, ◌++◌, length, map, slice_get, Option, Some, None, option_map, option_and_then, refl, sym, ap, ap₂, ◌∙◌, arith}
use Rattle.std.proofs.lemmas.Bool.{cases_lt}
use Rattle.std.proofs.lemmas.Option.{slice_get-map}
use Rattle.std.proofs.Math.Nat.{zero-mul}
use Rattle.std.proofs.lemmas.List.Sums.{sum_by-append, sum_by-cons}
use Rattle.il_syntax.specs.declared.tree.Config.{Config}
use Rattle.il_syntax.specs.declared.tree.Unit.{Unit as ProgramUnit}
use Rattle.il_syntax.specs.declared.tree.Named.{Named}
use Rattle.il_syntax.specs.declared.tree.Declaration.{Declaration}
use Rattle.il_syntax.specs.declared.tree.Elementary.{Elementary}
use Rattle.il_syntax.specs.declared.tree.Form.{Form}
use Rattle.il_syntax.specs.declared.tree.Form.TheVariants.{Scalar as OfScalar, Array as OfArray, Block as OfBlock}
use Rattle.il_statics.specs.Names.{Spelling, named_forms, own_block_variables, block_variables, standard_variables, standard_words, with_forms, word_form}
use Rattle.il_statics.specs.Order.{form_slots, variable_slots, known_block_slots, block_slots, unit_slots, global_slots}
use Rattle.load_scope.specs.declared.entry.BlockType.{BlockType}
use Rattle.load_scope.specs.declared.entry.BlockType.TheVariants.{Standard as StandardType, Own}
use Rattle.il_statics.specs.declared.names.StandardBlock.{StandardBlock}
use Rattle.load_scope.specs.Views.{block_type, variables_of_block}
use Rattle.load_scope.proofs.Laws.{block_found}
use Rattle.load_order.specs.Counted.{capped, standard_slots, number_in, number_at, block_count, type_count, form_count, all_listed, unit_listed, units_listed, with_variables, with_declared, counts}
use Rattle.load_order.specs.declared.variables.Variables.{Variables}

-- CAPS

suc_times : (k x : ℕ) → suc k * x ≡ x + k * x
suc_times k x = omega arith

pub capped_sum : (a b : ℕ) → capped (capped a + capped b) ≡ capped (a + b)
capped_sum a b = omega arith

pub capped_more : (a b : ℕ) → capped (capped a + b) ≡ capped (a + b)
capped_more a b = omega arith

capped_low : (a : ℕ) → a ≤ 4097 → capped a ≡ a
capped_low a le = omega (arith, le)

capped_high : (a : ℕ) → 4097 ≤ a → capped a ≡ 4097
capped_high a le = omega (arith, le)

pub capped_times : (k b : ℕ) → capped (k * capped b) ≡ capped (k * b)
capped_times k b = elim (cases_lt b 4097) [ inl l ↦ ap (λ x. capped (k * x)) (capped_low b (omega (arith, l))) | inr h ↦ large h k ]
  where
    large : 4097 ≤ b → (k : ℕ) → capped (k * capped b) ≡ capped (k * b)
    large h zero = ap capped (zero-mul (capped b) ∙ sym (zero-mul b))
    large h (suc k) =
        ap capped (suc_times k (capped b)) ∙ capped_high (capped b + k * capped b) (let e = capped_high b h in omega (arith, e)) ∙ sym (capped_high (b + k * b) (omega (arith, h))) ∙ ap capped (sym (suc_times k b))

-- more than the limit, with the cap or without
pub over_cap : (a : ℕ) → 4096 < capped a → 4096 < a
over_cap a over = omega (arith, over)

pub cap_over : (a : ℕ) → 4096 < a → 4096 < capped a
cap_over a over = omega (arith, over)

-- DECLARATIONS

names_slots : (block : Spelling → ℕ) (form : Form) (names : List Named) → variable_slots block (map (λ (n : Named). (n.name, form)) names) ≡ length names * form_slots block form
names_slots block form [] = sym (zero-mul (form_slots block form))
names_slots block form (n ∷ names) = sum_by-cons (λ (v : Spelling × Form). form_slots block v.1) (n.name, form) (map (λ (n : Named). (n.name, form)) names) ∙ ap (λ k. form_slots block form + k) (names_slots block form names) ∙ multiplied (length names) (form_slots block form)
  where
    multiplied : (k f : ℕ) → f + k * f ≡ suc k * f
    multiplied k f = sym (suc_times k f)

declared_slots : (block : Spelling → ℕ) (d : Declaration) (ds : List Declaration) → variable_slots block (named_forms (d ∷ ds)) ≡ length d.names * form_slots block d.declared.form + variable_slots block (named_forms ds)
declared_slots block d ds =
    sum_by-append (λ (v : Spelling × Form). form_slots block v.1) (map (λ (n : Named). (n.name, d.declared.form)) d.names) (named_forms ds)
    ∙ ap (λ k. k + variable_slots block (named_forms ds)) (names_slots block d.declared.form d.names)

-- the types are counted right
abbrev AreForms : Config → ℕ → Type 0
AreForms c depth = (f : Form) → form_count c depth (counts c depth) f ≡ capped (form_slots (λ n. block_slots c depth n) f)

declared_is : (c : Config) (depth : ℕ) → AreForms c depth → (ds : List Declaration) (total t : ℕ) → total ≡ capped t → with_declared c depth (counts c depth) total ds ≡ capped (t + variable_slots (λ n. block_slots c depth n) (named_forms ds))
declared_is c depth forms [] total t is = is ∙ ap capped (let e : t ≡ t + 0 = omega arith in e)
declared_is c depth forms (d ∷ ds) total t is =
    declared_is c depth forms ds (capped (total + capped (length d.names * form_count c depth (counts c depth) d.declared.form))) (t + length d.names * form_slots (λ n. block_slots c depth n) d.declared.form) more
    ∙ ap capped (assoc t (length d.names * form_slots (λ n. block_slots c depth n) d.declared.form) (variable_slots (λ n. block_slots c depth n) (named_forms ds)) ∙ ap (λ k. t + k) (sym (declared_slots (λ n. block_slots c depth n) d ds)))
  where
    assoc : (a b e : ℕ) → a + b + e ≡ a + (b + e)
    assoc a b e = omega arith

    more : capped (total + capped (length d.names * form_count c depth (counts c depth) d.declared.form)) ≡ capped (t + length d.names * form_slots (λ n. block_slots c depth n) d.declared.form)
    more =
        ap (λ x. capped (x + capped (length d.names * form_count c depth (counts c depth) d.declared.form))) is
        ∙ ap (λ x. capped (capped t + capped (length d.names * x))) (forms d.declared.form)
        ∙ ap (λ x. capped (capped t + x)) (capped_times (length d.names) (form_slots (λ n. block_slots c depth n) d.declared.form))
        ∙ capped_sum t (length d.names * form_slots (λ n. block_slots c depth n) d.declared.form)

-- variables after others
variables_on : (depth : ℕ) (counted : List ℕ) (total : ℕ) (xs ys : List Variables) → with_variables depth counted total (xs ++ ys) ≡ with_variables depth counted (with_variables depth counted total xs) ys
variables_on depth counted total [] ys = refl
variables_on depth counted total (x ∷ xs) ys = variables_on depth counted (capped (total + capped (x.count * type_count depth counted x.declared))) xs ys

unit_from : (c : Config) (depth : ℕ) → AreForms c depth → (u : ProgramUnit) → with_variables depth (counts c depth) 0 (unit_listed c u) ≡ capped (known_block_slots (λ n. block_slots c depth n) (Some (own_block_variables u)))
unit_from c depth forms u =
    variables_on depth (counts c depth) 0 (all_listed c u.inputs ++ all_listed c u.outputs) (all_listed c u.variables)
    ∙ ap (λ t. with_declared c depth (counts c depth) t u.variables) (variables_on depth (counts c depth) 0 (all_listed c u.inputs) (all_listed c u.outputs))
    ∙ declared_is c depth forms u.variables (with_declared c depth (counts c depth) (with_declared c depth (counts c depth) 0 u.inputs) u.outputs) (0 + variable_slots (λ n. block_slots c depth n) (named_forms u.inputs) + variable_slots (λ n. block_slots c depth n) (named_forms u.outputs))
    (declared_is c depth forms u.outputs (with_declared c depth (counts c depth) 0 u.inputs) (0 + variable_slots (λ n. block_slots c depth n) (named_forms u.inputs)) (declared_is c depth forms u.inputs 0 0 refl))
    ∙ ap capped (from_zero (variable_slots (λ n. block_slots c depth n) (named_forms u.inputs)) (variable_slots (λ n. block_slots c depth n) (named_forms u.outputs)) (variable_slots (λ n. block_slots c depth n) (named_forms u.variables)))
  where
    from_zero : (a b e : ℕ) → 0 + a + b + e ≡ a + b + e
    from_zero a b e = omega arith

-- each word of a standard block takes one
words_slots : (block : Spelling → ℕ) (ws : List (Spelling × Elementary)) → variable_slots block (with_forms ws) ≡ length ws
words_slots block [] = refl
words_slots block (w ∷ ws) =
    let rest = words_slots block ws in
    sum_by-cons (λ (v : Spelling × Form). form_slots block v.1) (w.0, word_form w.1) (with_forms ws) ∙ (let e : 1 + variable_slots block (with_forms ws) ≡ suc (length ws) = omega (arith, rest) in e)

standard_is : (block : Spelling → ℕ) (b : StandardBlock) → standard_slots b ≡ capped (known_block_slots block (Some (standard_variables b)))
standard_is block b =
    let i = words_slots block (standard_words b).inputs in
    let o = words_slots block (standard_words b).outputs in
    let n = words_slots block (standard_words b).inner in
    ap capped (ap₂ ◌+◌ (ap₂ ◌+◌ (sym i) (sym o)) (sym n))

own_is : (c : Config) (depth k : ℕ) → AreForms c depth → number_at (counts c (suc depth)) k ≡ capped (known_block_slots (λ n. block_slots c depth n) (option_map own_block_variables (slice_get c.units k)))
own_is c depth k forms = ap number_in (slice_get-map (λ vs. with_variables depth (counts c depth) 0 vs) (units_listed c) k) ∙ ap (λ o. number_in (option_map (λ vs. with_variables depth (counts c depth) 0 vs) o)) (slice_get-map (λ u. unit_listed c u) c.units k) ∙ by_unit (slice_get c.units k)
  where
    by_unit : (o : Option ProgramUnit) → number_in (option_map (λ vs. with_variables depth (counts c depth) 0 vs) (option_map (λ u. unit_listed c u) o)) ≡ capped (known_block_slots (λ n. block_slots c depth n) (option_map own_block_variables o))
    by_unit None = refl
    by_unit (Some u) = unit_from c depth forms u

block_is : (c : Config) (depth : ℕ) → AreForms c depth → (name : Spelling) → block_count (counts c (suc depth)) (block_type c name) ≡ capped (known_block_slots (λ n. block_slots c depth n) (block_variables c name))
block_is c depth forms name = by_type (block_type c name) ∙ ap (λ o. capped (known_block_slots (λ n. block_slots c depth n) o)) (block_found c name)
  where
    by_type : (o : Option BlockType) → block_count (counts c (suc depth)) o ≡ capped (known_block_slots (λ n. block_slots c depth n) (option_and_then (variables_of_block c) o))
    by_type None = refl
    by_type (Some (StandardType b)) = standard_is (λ n. block_slots c depth n) b
    by_type (Some (Own k)) = own_is c depth k forms

forms_are : (c : Config) (depth : ℕ) → AreForms c depth
unfolding block_slots
forms_are c depth (OfScalar scalar) = refl
forms_are c depth (OfArray bounds element) = refl
forms_are c zero (OfBlock name) = refl
forms_are c (suc depth) (OfBlock name) = block_is c depth (forms_are c depth) name

-- the slots of units, and of the globals
pub unit_is : (c : Config) (k : ℕ) (u : ProgramUnit) → slice_get c.units k ≡ Some u → number_at (counts c (suc (length c.units + 1))) k ≡ capped (unit_slots c u)
unit_is c k u there = own_is c (length c.units + 1) k (forms_are c (length c.units + 1)) ∙ ap (λ o. capped (known_block_slots (λ n. block_slots c (length c.units + 1) n) (option_map own_block_variables o))) there

pub globals_are : (c : Config) → with_declared c (length c.units + 1) (counts c (length c.units + 1)) 0 c.globals ≡ capped (global_slots c)
globals_are c = declared_is c (length c.units + 1) (forms_are c (length c.units + 1)) c.globals 0 0 refl ∙ ap capped (let e : 0 + global_slots c ≡ global_slots c = omega arith in e)
