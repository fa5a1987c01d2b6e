-- Own functions by the number of their unit, and the types of inputs.
use Rattle.std.proofs.Common.{◌≡◌, ℕ, ◌+◌, ◌<◌, ◌≤◌, List, [], ◌∷◌, ◌++◌, map, take, length, Option, Some, None, is_some, option_and_then, option_map, slice_get, get_or, refl, sym, ap, ◌∙◌, append-nil, append_assoc}
use Rattle.std.specs.Prelude.{flat_map}
use Rattle.std.specs.Option.{option_or}
use Rattle.std.proofs.lemmas.List.{map-append}
use Rattle.std.proofs.lemmas.List.Concat.{flat_map-append}
use Rattle.il_syntax.specs.declared.tree.Config.{Config}
use Rattle.il_syntax.specs.declared.tree.Unit.{Unit as ProgramUnit}
use Rattle.il_syntax.specs.declared.tree.UnitKind.{UnitKind}
use Rattle.il_syntax.specs.declared.tree.Declaration.{Declaration}
use Rattle.il_syntax.specs.declared.tree.Named.{Named}
use Rattle.il_syntax.specs.declared.tree.Scalar.{Scalar}
use Rattle.il_syntax.specs.declared.tree.Form.{Form}
use Rattle.il_statics.specs.Names.{Spelling, named_forms, function_named, or_else, entry_of, BlockVariables}
use Rattle.il_statics.specs.Types.{member_form}
use Rattle.load_scope.specs.declared.entry.BlockType.{BlockType}
use Rattle.load_scope.specs.Views.{function_number, variables_of_block}
use Rattle.load_scope.specs.Units.{scalar_of, input_scalars, declared_scalars, AreInputsOf, kind_result, own_scalar}
use Rattle.load_scope.proofs.Filled.{take_next}
use Rattle.load_scope.proofs.Laws.{function_found}
use Rattle.load_scope.proofs.Seen.{read_at, none_at}

-- INPUTS

-- the types of names are those of declarations
pub scalars_of_names : (declarations : List Declaration) → map (λ (input : Spelling × Form). scalar_of (Some input.1)) (named_forms declarations) ≡ declared_scalars declarations
scalars_of_names [] = refl
scalars_of_names (d ∷ declarations) = map-append (λ (input : Spelling × Form). scalar_of (Some input.1)) (map (λ (n : Named). (n.name, d.declared.form)) d.names) (named_forms declarations) ∙ ap (λ l. map (λ (input : Spelling × Form). scalar_of (Some input.1)) (map (λ (n : Named). (n.name, d.declared.form)) d.names) ++ l) (scalars_of_names declarations) ∙ ap (λ l. l ++ declared_scalars declarations) (both d.names)
  where
    both : (ns : List Named) → map (λ (input : Spelling × Form). scalar_of (Some input.1)) (map (λ (n : Named). (n.name, d.declared.form)) ns) ≡ map (λ n. scalar_of (Some d.declared.form)) ns
    both [] = refl
    both (n ∷ ns) = ap (λ l. scalar_of (Some d.declared.form) ∷ l) (both ns)

-- one item more of a list of lists
pub flat_more : {A B : Type 0} (f : A → List B) (xs : List A) (i : ℕ) (x : A) → i < length xs → x ≡ get_or xs i x → flat_map f (take (i + 1) xs) ≡ flat_map f (take i xs) ++ f x
flat_more f xs i x low there = ap (flat_map f) (take_next xs i x low there) ∙ flat_map-append f (take i xs) (x ∷ []) ∙ ap (λ l. flat_map f (take i xs) ++ l) (append-nil (f x))

pub declared_next : (ds : List Declaration) (i : ℕ) (d : Declaration) (each : Option Scalar) (names : List Named) (types new : List (Option Scalar)) → i < length ds → d ≡ get_or ds i d → each ≡ scalar_of (Some d.declared.form) → names ≡ d.names → new ≡ types ++ map (λ n. each) names → types ≡ declared_scalars (take i ds) → new ≡ declared_scalars (take (i + 1) ds)
declared_next ds i d each names types new low there form listed is before =
    is ∙ ap (λ l. l ++ map (λ n. each) names) before ∙ ap (λ e. declared_scalars (take i ds) ++ map (λ n. e) names) form ∙ ap (λ ns. declared_scalars (take i ds) ++ map (λ n. scalar_of (Some d.declared.form)) ns) listed
    ∙ sym (flat_more (λ (d : Declaration). map (λ n. scalar_of (Some d.declared.form)) d.names) ds i d low there)

pub each_next : (ns : List Named) (i : ℕ) (n : Named) (each : Option Scalar) (old types new : List (Option Scalar)) → i < length ns → n ≡ get_or ns i n → new ≡ types ++ each ∷ [] → types ≡ old ++ map (λ n. each) (take i ns) → new ≡ old ++ map (λ n. each) (take (i + 1) ns)
each_next ns i n each old types new low there is before =
    is ∙ ap (λ l. l ++ each ∷ []) before ∙ append_assoc old (map (λ n. each) (take i ns)) (each ∷ []) ∙ ap (λ l. old ++ l) (sym (map-append (λ n. each) (take i ns) (n ∷ [])) ∙ ap (map (λ n. each)) (sym (take_next ns i n low there)))

-- a unit's inputs are those of the unit that is there
pub inputs_are : (o : Option ProgramUnit) (u : ProgramUnit) (scalars : List (Option Scalar)) → o ≡ Some u → scalars ≡ input_scalars u → AreInputsOf o scalars
inputs_are o u scalars is each = record { unit = u; is = is; each = each }

-- FUNCTIONS

-- no number, no function
pub none_numbered : (config : Config) (name : Spelling) → None ≡ function_number config name → function_named config name ≡ None
none_numbered config name none = sym (function_found config name) ∙ ap (option_and_then (slice_get config.units)) (sym none)

-- a number is that of a unit
pub numbered : (config : Config) (name : Spelling) (k : ℕ) → Some k ≡ function_number config name → function_named config name ≡ slice_get config.units k
numbered config name k is = sym (function_found config name) ∙ ap (option_and_then (slice_get config.units)) (sym is)

pub none_there : (config : Config) (name : Spelling) (k : ℕ) (units : List ProgramUnit) → Some k ≡ function_number config name → units ≡ config.units → length units ≤ k → function_named config name ≡ None
none_there config name k units is all past = numbered config name k is ∙ ap (λ l. slice_get l k) (sym all) ∙ none_at units k past

pub there : (config : Config) (name : Spelling) (k : ℕ) (units : List ProgramUnit) (u : ProgramUnit) → Some k ≡ function_number config name → units ≡ config.units → k < length units → u ≡ get_or units k u → function_named config name ≡ Some u
there config name k units u is all low at = numbered config name k is ∙ read_at units config.units k u all low at

-- what its result has for a type
pub result_none : (config : Config) (name : Spelling) (r : Option Scalar) → function_named config name ≡ None → r ≡ None → r ≡ own_scalar (function_named config name)
result_none config name r none is = is ∙ sym (ap own_scalar none)

pub result_there : (config : Config) (name : Spelling) (r : Option Scalar) (u : ProgramUnit) → function_named config name ≡ Some u → r ≡ kind_result u.kind → r ≡ own_scalar (function_named config name)
result_there config name r u own is = is ∙ sym (ap own_scalar own)

-- WORDS

-- the first of two, each changed
either : {A B : Type 0} (f : A → B) (o p : Option A) → option_or (option_map f o) (option_map f p) ≡ option_map f (or_else o p)
either f None None = refl
either f None (Some y) = refl
either f (Some x) p = refl

pub or_mapped : {A B : Type 0} (f : A → B) (o p : Option A) (x y : Option B) → x ≡ option_map f o → y ≡ option_map f p → option_or x y ≡ option_map f (or_else o p)
or_mapped f o p x y e g = ap (λ z. option_or z y) e ∙ ap (option_or (option_map f o)) g ∙ either f o p

-- what an option's test gives, of a block by its type
pub member_is : {T : Type 0} (config : Config) (f : Form → T) (type : BlockType) (found : Option BlockVariables) (word : Spelling) (r x y : Option T) → option_and_then (variables_of_block config) (Some type) ≡ found → r ≡ option_or x y
    → x ≡ option_map f (option_and_then (λ b. entry_of b.outputs word) (variables_of_block config type)) → y ≡ option_map f (option_and_then (λ b. entry_of b.inputs word) (variables_of_block config type))
    → r ≡ option_map f (option_and_then (member_form word) found)
member_is config f type found word r x y is either_is out in_ = either_is ∙ or_mapped f _ _ x y out in_ ∙ ap (option_map f) (both (variables_of_block config type) ∙ ap (option_and_then (member_form word)) is)
  where
    both : (o : Option BlockVariables) → or_else (option_and_then (λ b. entry_of b.outputs word) o) (option_and_then (λ b. entry_of b.inputs word) o) ≡ option_and_then (member_form word) o
    both None = refl
    both (Some b) = refl
