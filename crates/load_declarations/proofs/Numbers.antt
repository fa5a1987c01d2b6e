-- Which numbers types, initial values and names in instructions break.
use Rattle.std.proofs.Common.{◌≡◌, ◌⊎◌, inl, inr, ℕ, Bool, true, false, ◌&&◌, List, [], ◌∷◌, ◌++◌, refl, sym, subst, arith, Option, Some, None, is_some, if◌then◌else◌}
use Rattle.std.specs.Prelude.{Contains, flat_map, int_le}
use Rattle.std.proofs.lemmas.List.Elements.{Contains-append_cases}
use Rattle.il_syntax.specs.declared.tree.Config.{Config}
use Rattle.il_syntax.specs.declared.tree.Unit.{Unit as ProgramUnit}
use Rattle.il_syntax.specs.declared.tree.Form.{Form}
use Rattle.il_syntax.specs.declared.tree.Form.TheVariants.{Scalar as OfScalar, Array as OfArray, Block as OfBlock}
use Rattle.il_syntax.specs.declared.tree.Elementary.{Elementary}
use Rattle.il_syntax.specs.declared.tree.Subrange.{Subrange}
use Rattle.il_syntax.specs.declared.tree.Literal.{Literal}
use Rattle.il_syntax.specs.declared.tree.Index.{Index}
use Rattle.il_syntax.specs.declared.tree.Index.TheVariants.{Number as NumberIndex, Variable as VariableIndex}
use Rattle.il_syntax.specs.declared.tree.Reference.{Reference}
use Rattle.il_syntax.specs.declared.tree.Reference.TheVariants.{Literal as OfLiteral, Variable as OfVariable, Element as OfElement, Member as OfMember}
use Rattle.il_syntax.specs.declared.tree.Operand.{Operand}
use Rattle.il_syntax.specs.declared.tree.Argument.{Argument}
use Rattle.il_syntax.specs.declared.tree.Argument.TheVariants.{Input, Output}
use Rattle.il_syntax.specs.declared.tree.Instruction.{Instruction}
use Rattle.il_syntax.specs.declared.tree.Instruction.TheVariants.{Load, Store as StoreInto, Not, Operate, Defer, Evaluate, Jump, Return, Call, Invoke}
use Rattle.il_syntax.specs.ElementaryTypes.{is_whole}
use Rattle.il_statics.specs.Names.{Spelling, BlockVariables, block_variables, Meaning, MeansVariable, MeansUnit, MeansStandard, meaning, standard_function, function_named}
use Rattle.il_statics.specs.Declarations.{Admitted, Access, Reads, Stores, unless, has_value, subrange_numbers, bounds_numbers, admits_arrays, admits_instances, instance_numbers, type_numbers, initial_numbers, is_of_type, written_type, literal_lies_in, declared_limits, is_visible, scalar_form_numbers, scalar_numbers, array_form_numbers, array_numbers, index_name_numbers, member_form_numbers, member_numbers, reference_numbers, called_form_numbers, called_numbers, argument_name_numbers, short_form_name_numbers, name_numbers}
use Rattle.load_declarations.proofs.Members.{none_in, one_in, from_flat}

-- a test that is to hold
unless_in : (b : Bool) (m n : ℕ) → Contains (unless b m) n → n ≡ m
unless_in true m n c = absurd (none_in n c)
unless_in false m n c = sym (one_in m n c)

-- SUBRANGES AND TYPES

subrange_cases : (e : Elementary) (s : Option Subrange) (n : ℕ) → Contains (subrange_numbers e s) n → (n ≡ 22) ⊎ (n ≡ 25)
subrange_cases e None n c = absurd (none_in n c)
subrange_cases e (Some s) n c = go (is_whole e) c
  where
    go : (b : Bool) → Contains (if b then unless (has_value e s.lower && has_value e s.upper && int_le s.lower s.upper) 22 else 25 ∷ []) n → (n ≡ 22) ⊎ (n ≡ 25)
    go true h = inl (unless_in (has_value e s.lower && has_value e s.upper && int_le s.lower s.upper) 22 n h)
    go false h = inr (sym (one_in 25 n h))

instance_cases : (a : Admitted) (o : Option BlockVariables) (n : ℕ) → Contains (instance_numbers a o) n → (n ≡ 21) ⊎ (n ≡ 25)
instance_cases a None n c = inl (sym (one_in 21 n c))
instance_cases a (Some b) n c = inr (unless_in (admits_instances a) 25 n c)

-- what a type breaks
pub type_cases : (config : Config) (a : Admitted) (form : Form) (n : ℕ) → Contains (type_numbers config a form) n → (n ≡ 21) ⊎ ((n ≡ 22) ⊎ (n ≡ 25))
unfolding type_numbers
type_cases config a (OfScalar s) n c = inr (subrange_cases s.elementary s.subrange n c)
type_cases config a (OfArray bounds e) n c =
    elim (Contains-append_cases (unless (admits_arrays a) 25 ++ bounds_numbers bounds) (subrange_numbers e.elementary e.subrange) n c) [
      | inl x ↦ inr (elim (Contains-append_cases (unless (admits_arrays a) 25) (bounds_numbers bounds) n x) [ inl y ↦ inr (unless_in (admits_arrays a) 25 n y) | inr z ↦ inl (unless_in _ 22 n z) ])
      | inr y ↦ inr (subrange_cases e.elementary e.subrange n y)
    ]
type_cases config a (OfBlock name) n c = elim (instance_cases a (block_variables config name) n c) [ inl x ↦ inl x | inr y ↦ inr (inr y) ]

-- an instance where none is admitted breaks 21 or 25
pub instance_breaks : (a : Admitted) (o : Option BlockVariables) → admits_instances a ≡ false → (Contains (instance_numbers a o) 21) ⊎ (Contains (instance_numbers a o) 25)
instance_breaks a None e = inl (0, omega arith, refl)
instance_breaks a (Some b) e = inr (subst (λ t. Contains (unless t 25) 25) (sym e) (0, omega arith, refl))

-- what an initial value breaks
pub initial_cases : (form : Form) (literal : Literal) (n : ℕ) → Contains (initial_numbers form literal) n → (n ≡ 23) ⊎ (n ≡ 25)
initial_cases (OfScalar s) literal n c = go (is_of_type s.elementary (written_type literal)) c
  where
    go : (b : Bool) → Contains (if b then unless (literal_lies_in (declared_limits s) literal) 23 else 25 ∷ []) n → (n ≡ 23) ⊎ (n ≡ 25)
    go true h = inl (unless_in (literal_lies_in (declared_limits s) literal) 23 n h)
    go false h = inr (sym (one_in 25 n h))
initial_cases (OfArray b e) literal n c = inr (sym (one_in 25 n c))
initial_cases (OfBlock name) literal n c = inr (sym (one_in 25 n c))

-- NAMES IN INSTRUCTIONS

-- all numbers of a list are 21 or 25
record Two (ns : List ℕ) : Type 0 where
  pub is : (n : ℕ) → Contains ns n → (n ≡ 21) ⊎ (n ≡ 25)

two_none : Two []
two_none = record { is = λ n c. absurd (none_in n c) }

two_21 : Two (21 ∷ [])
two_21 = record { is = λ n c. inl (sym (one_in 21 n c)) }

two_25 : Two (25 ∷ [])
two_25 = record { is = λ n c. inr (sym (one_in 25 n c)) }

two_unless : (b : Bool) → Two (unless b 21)
two_unless b = record { is = λ n c. inl (unless_in b 21 n c) }

two_both : (xs ys : List ℕ) → Two xs → Two ys → Two (xs ++ ys)
two_both xs ys a b = record { is = λ n c. elim (Contains-append_cases xs ys n c) [ inl x ↦ a.is n x | inr y ↦ b.is n y ] }

two_all : {A : Type 0} (f : A → List ℕ) (xs : List A) → ((x : A) → Two (f x)) → Two (flat_map f xs)
two_all f xs each = record { is = λ n c. let r = from_flat f xs n c in (each r.0).is n r.2 }

scalar_two : (m : Option Meaning) → Two (scalar_numbers m)
scalar_two (Some (MeansVariable v)) = of_form v.form
  where
    of_form : (f : Form) → Two (scalar_form_numbers f)
    of_form (OfScalar s) = two_none
    of_form (OfArray b e) = two_25
    of_form (OfBlock n) = two_21
scalar_two (Some (MeansUnit u)) = two_21
scalar_two (Some MeansStandard) = two_21
scalar_two None = two_21

array_two : (m : Option Meaning) → Two (array_numbers m)
array_two (Some (MeansVariable v)) = of_form v.form
  where
    of_form : (f : Form) → Two (array_form_numbers f)
    of_form (OfScalar s) = two_25
    of_form (OfArray b e) = two_none
    of_form (OfBlock n) = two_25
array_two (Some (MeansUnit u)) = two_25
array_two (Some MeansStandard) = two_25
array_two None = two_21

called_two : (m : Option Meaning) → Two (called_numbers m)
called_two (Some (MeansVariable v)) = of_form v.form
  where
    of_form : (f : Form) → Two (called_form_numbers f)
    of_form (OfScalar s) = two_25
    of_form (OfArray b e) = two_25
    of_form (OfBlock n) = two_none
called_two (Some (MeansUnit u)) = two_25
called_two (Some MeansStandard) = two_25
called_two None = two_21

member_two : (config : Config) (access : Access) (word : Spelling) (m : Option Meaning) → Two (member_numbers config access word m)
member_two config access word (Some (MeansVariable v)) = of_form v.form
  where
    of_form : (f : Form) → Two (member_form_numbers config access word f)
    of_form (OfScalar s) = two_21
    of_form (OfArray b e) = two_21
    of_form (OfBlock n) = two_unless (is_visible access (block_variables config n) word)
member_two config access word (Some (MeansUnit u)) = two_21
member_two config access word (Some MeansStandard) = two_21
member_two config access word None = two_21

index_two : (config : Config) (unit : ProgramUnit) (i : Index) → Two (index_name_numbers config unit i)
index_two config unit (NumberIndex n) = two_none
index_two config unit (VariableIndex name) = scalar_two (meaning config unit name)

reference_two : (config : Config) (unit : ProgramUnit) (access : Access) (r : Reference) → Two (reference_numbers config unit access r)
reference_two config unit access (OfLiteral l) = two_none
reference_two config unit access (OfVariable name) = scalar_two (meaning config unit name)
reference_two config unit access (OfElement name index) = two_both (array_numbers (meaning config unit name)) (index_name_numbers config unit index) (array_two (meaning config unit name)) (index_two config unit index)
reference_two config unit access (OfMember name word) = member_two config access word (meaning config unit name)

argument_two : (config : Config) (unit : ProgramUnit) (a : Argument) → Two (argument_name_numbers config unit a)
argument_two config unit (Input word operand) = reference_two config unit Reads operand.reference
argument_two config unit (Output word target) = scalar_two (meaning config unit target.name)

short_form_two : (config : Config) (unit : ProgramUnit) (o : Option Operand) → Two (short_form_name_numbers config unit o)
short_form_two config unit None = two_none
short_form_two config unit (Some operand) = reference_two config unit Reads operand.reference

function_two : (b c : Bool) → Two (if b then [] else unless c 21)
function_two true c = two_none
function_two false c = two_unless c

name_two : (config : Config) (unit : ProgramUnit) (i : Instruction) → Two (name_numbers config unit i)
unfolding name_numbers
name_two config unit (Load negated operand) = reference_two config unit Reads operand.reference
name_two config unit (StoreInto store target) = reference_two config unit Stores target.reference
name_two config unit Not = two_none
name_two config unit (Operate operator operand) = reference_two config unit Reads operand.reference
name_two config unit (Defer operator first) = short_form_two config unit first
name_two config unit Evaluate = two_none
name_two config unit (Jump condition label) = two_none
name_two config unit (Return condition) = two_none
name_two config unit (Call condition instance arguments) =
    two_both (called_numbers (meaning config unit instance.name)) (flat_map (argument_name_numbers config unit) arguments) (called_two (meaning config unit instance.name)) (two_all (argument_name_numbers config unit) arguments (argument_two config unit))
name_two config unit (Invoke function operands) =
    two_both _ (flat_map (λ (o : Operand). reference_numbers config unit Reads o.reference) operands) (function_two (is_some (standard_function function.name)) (is_some (function_named config function.name))) (two_all (λ (o : Operand). reference_numbers config unit Reads o.reference) operands (λ o. reference_two config unit Reads o.reference))

-- what the names of an instruction break
pub name_cases : (config : Config) (unit : ProgramUnit) (i : Instruction) (n : ℕ) → Contains (name_numbers config unit i) n → (n ≡ 21) ⊎ (n ≡ 25)
name_cases config unit i n c = (name_two config unit i).is n c
