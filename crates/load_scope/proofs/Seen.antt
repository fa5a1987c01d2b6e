-- What names mean, as the rules say it.
use Rattle.std.proofs.Common.{◌≡◌, ℕ, zero, suc, Bool, true, false, ◌&&◌, ◌||◌, List, [], ◌∷◌, ◌++◌, map, refl, sym, ap, ◌∙◌, subst, Option, Some, None, is_some, option_map, option_and_then, bytes_eq, slice_get, if◌then◌else◌, ◌<◌, ◌≤◌, length, get_or, arith}
use Rattle.std.proofs.lemmas.Option.{slice_get_read}
use Rattle.std.specs.Prelude.{find, OnOk, Result, Ok, Err}
use Rattle.il_syntax.specs.declared.tree.Config.{Config}
use Rattle.il_syntax.specs.declared.tree.Unit.{Unit as ProgramUnit}
use Rattle.il_syntax.specs.declared.tree.UnitKind.{UnitKind}
use Rattle.il_syntax.specs.declared.tree.UnitKind.TheVariants.{Function, FunctionBlock, Program}
use Rattle.il_syntax.specs.declared.tree.Declaration.{Declaration}
use Rattle.il_syntax.specs.declared.tree.Scalar.{Scalar}
use Rattle.il_syntax.specs.declared.tree.Place.{Place}
use Rattle.il_syntax.specs.declared.tree.Form.{Form}
use Rattle.il_syntax.specs.declared.tree.Form.TheVariants.{Scalar as OfScalar}
use Rattle.base_maps.specs.NameMap.{NameMap, get, with_new, empty, get-empty}
use Rattle.il_statics.specs.declared.names.Audience.TheVariants.{Everybody, CarPrograms, GroupPrograms}
use Rattle.il_statics.specs.declared.names.Role.TheVariants.{Car as CarRole, Group as GroupRole}
use Rattle.il_statics.specs.Names as rule
use Rattle.il_statics.specs.Names.{Spelling, or_else, entry_of, is_one_of, BlockVariables, own_block_variables, named_forms, with_origin, result_of, variables_of, own_variable, is_predeclared, is_program_kind, is_seen_by, sees, image_meaning, unit_named, global_meaning, outer_meaning, image_name, program_role, meaning, meant_variable, variable_named, MeansVariable, MeansUnit, MeansStandard}
use Rattle.il_statics.specs.Declarations.{names_of_units}
use Rattle.load_scope.specs.declared.entry.VariableType.{VariableType}
use Rattle.load_scope.specs.declared.entry.VariableType.TheVariants.{Scalar as OfScalarType}
use Rattle.il_statics.specs.declared.names.Origin.{Origin}
use Rattle.il_statics.specs.declared.names.Origin.TheVariants.{Input, Output, Local, External, FunctionResult}
use Rattle.load_scope.specs.declared.entry.Variable.{Variable}
use Rattle.il_statics.specs.declared.names.Role.{Role}
use Rattle.load_scope.specs.declared.entry.ImageName.{ImageName}
use Rattle.load_scope.specs.declared.entry.Binding.{Binding}
use Rattle.load_scope.specs.declared.entry.Binding.TheVariants as means
use Rattle.load_scope.specs.declared.tables.Scope.{Scope}
use Rattle.load_scope.specs.Views.{place_of, unit_number, type_of, variable_of, image_entry, binding_of}
use Rattle.load_scope.specs.declared.image.ImageRow.{ImageRow}
use Rattle.load_scope.specs.Images.{image_in, named, row_among, image_entries}
use Rattle.load_scope.specs.Tables.{seen_variable, HasVariables, HasList, HasImages, role_of, own_seen, HasOwn, IsScope, AreScopes}
use Rattle.load_scope.specs.Meanings.{listed_as, own_result, image_seen, variable_binding, global_binding}
use Rattle.load_scope.proofs.Filled.{or_else_assoc, map-or_else, get-with_new}
use Rattle.load_scope.proofs.Known.{image_is}

-- OWN VARIABLES

-- what is found in two lists
pub find-both : {A : Type 0} (p : A → Bool) (xs ys : List A) → find p (xs ++ ys) ≡ or_else (find p xs) (find p ys)
find-both p [] ys = refl
find-both {A = A} p (x ∷ xs) ys = go (p x) (find-both p xs ys)
  where
    go : (b : Bool) → find p (xs ++ ys) ≡ or_else (find p xs) (find p ys) → (if b then Some x else find p (xs ++ ys)) ≡ or_else (if b then Some x else find p xs) (find p ys)
    go true rest = refl
    go false rest = rest

-- a variable of one list
one_list : (config : Config) (origin : Origin) (vs : List (Spelling × Form)) (q : Spelling)
    → option_map (seen_variable config) (find (λ v. bytes_eq v.name q) (map (λ (v : Spelling × Form). record { name = v.0; form = v.1; origin = origin }) vs)) ≡ option_map (listed_as origin) (option_map (type_of config) (entry_of vs q))
one_list config origin [] q = refl
one_list config origin (v ∷ vs) q = go (bytes_eq v.0 q) (one_list config origin vs q)
  where
    go : (b : Bool) → option_map (seen_variable config) (find (λ v. bytes_eq v.name q) (map (λ (v : Spelling × Form). record { name = v.0; form = v.1; origin = origin }) vs)) ≡ option_map (listed_as origin) (option_map (type_of config) (entry_of vs q))
        → option_map (seen_variable config) (if b then Some (record { name = v.0; form = v.1; origin = origin }) else find (λ v. bytes_eq v.name q) (map (λ (v : Spelling × Form). record { name = v.0; form = v.1; origin = origin }) vs)) ≡ option_map (listed_as origin) (option_map (type_of config) (option_map (λ (e : Spelling × Form). e.1) (if b then Some v else find (λ e. bytes_eq e.0 q) vs)))
    go true rest = refl
    go false rest = rest

-- a function's result
by_result : (config : Config) (kind : UnitKind) (own q : Spelling) → option_map (seen_variable config) (find (λ v. bytes_eq v.name q) (result_of kind own)) ≡ own_result kind own q
by_result config (Function scalar place) own q = go (bytes_eq own q)
  where
    v : rule.Variable
    v = record { name = own; form = OfScalar scalar; origin = FunctionResult }

    go : (b : Bool) → option_map (seen_variable config) (if b then Some v else None) ≡ (if b then Some (seen_variable config v) else None)
    go true = refl
    go false = refl
by_result config FunctionBlock own q = refl
by_result config Program own q = refl

-- four lists after a result
find-five : (p : rule.Variable → Bool) (a b c d e : List rule.Variable) → find p (a ++ b ++ c ++ d ++ e) ≡ or_else (find p a) (or_else (find p b) (or_else (find p c) (or_else (find p d) (find p e))))
find-five p a b c d e =
    find-both p (a ++ b ++ c ++ d) e ∙ ap (λ o. or_else o (find p e)) (find-both p (a ++ b ++ c) d ∙ ap (λ o. or_else o (find p d)) (find-both p (a ++ b) c ∙ ap (λ o. or_else o (find p c)) (find-both p a b)))
    ∙ or_else_assoc (or_else (or_else (find p a) (find p b)) (find p c)) (find p d) (find p e)
    ∙ or_else_assoc (or_else (find p a) (find p b)) (find p c) (or_else (find p d) (find p e))
    ∙ or_else_assoc (find p a) (find p b) (or_else (find p c) (or_else (find p d) (find p e)))

-- a change of the first of two
either_of : {A B : Type 0} (f : A → B) (a b : Option A) (x y : Option B) → option_map f a ≡ x → option_map f b ≡ y → option_map f (or_else a b) ≡ or_else x y
either_of f a b x y first second = map-or_else f a b ∙ ap (λ o. or_else o (option_map f b)) first ∙ ap (or_else x) second

-- all own variables, as a table of them is filled
pub own_filled : (config : Config) (unit : ProgramUnit) (none result inputs outputs variables own : NameMap (Option Variable)) → none ≡ empty → ((q : Spelling) → get result q ≡ or_else (get none q) (own_result unit.kind unit.name.name q))
    → HasList config Input unit.inputs result inputs → HasList config Output unit.outputs inputs outputs → HasList config Local unit.variables outputs variables → HasList config External unit.externals variables own → HasVariables config unit own
own_filled config unit none result inputs outputs variables own start first second third fourth fifth q =
    fifth q ∙ ap (λ o. or_else o (list External unit.externals)) (fourth q ∙ ap (λ o. or_else o (list Local unit.variables)) (third q ∙ ap (λ o. or_else o (list Output unit.outputs)) (second q ∙ ap (λ o. or_else o (list Input unit.inputs)) (first q ∙ ap (λ m. or_else (get m q) made) start ∙ ap (λ o. or_else o made) (get-empty q)))))
    ∙ or_else_assoc (or_else (or_else made (list Input unit.inputs)) (list Output unit.outputs)) (list Local unit.variables) (list External unit.externals)
    ∙ or_else_assoc (or_else made (list Input unit.inputs)) (list Output unit.outputs) (or_else (list Local unit.variables) (list External unit.externals))
    ∙ or_else_assoc made (list Input unit.inputs) (or_else (list Output unit.outputs) (or_else (list Local unit.variables) (list External unit.externals)))
    ∙ sym (
    ap (option_map (seen_variable config)) (find-five p (result_of unit.kind unit.name.name) (with_origin Input unit.inputs) (with_origin Output unit.outputs) (with_origin Local unit.variables) (with_origin External unit.externals))
    ∙ either_of (seen_variable config) (find p (result_of unit.kind unit.name.name)) _ _ _ (by_result config unit.kind unit.name.name q)
    (either_of (seen_variable config) (find p (with_origin Input unit.inputs)) _ _ _ (one_list config Input (named_forms unit.inputs) q)
    (either_of (seen_variable config) (find p (with_origin Output unit.outputs)) _ _ _ (one_list config Output (named_forms unit.outputs) q)
    (either_of (seen_variable config) (find p (with_origin Local unit.variables)) _ _ _ (one_list config Local (named_forms unit.variables) q) (one_list config External (named_forms unit.externals) q)))))
  where
    p : rule.Variable → Bool
    p v = bytes_eq v.name q

    made : Option (Option Variable)
    made = own_result unit.kind unit.name.name q

    list : Origin → List Declaration → Option (Option Variable)
    list origin ds = option_map (listed_as origin) (option_map (type_of config) (entry_of (named_forms ds) q))

-- what follows where a call went well
pub on_ok : {X E P Q : Type 0} (r : Result X E) → (P → Q) → OnOk r P → OnOk r Q
on_ok (Ok x) f p = f p
on_ok (Err e) f p = p

-- a function's result where there is none yet
pub result_put : (kind : UnitKind) (own : Spelling) (scalar : Scalar) (place : Place) (old new : NameMap (Option Variable)) (key : Spelling) → kind ≡ Function scalar place → key ≡ own → new ≡ with_new old key (listed_as FunctionResult (OfScalarType scalar)) → (q : Spelling) → get new q ≡ or_else (get old q) (own_result kind own q)
result_put kind own scalar place old new key is named added q =
    ap (λ m. get m q) added ∙ get-with_new old key (listed_as FunctionResult (OfScalarType scalar)) q
    ∙ ap (λ k. or_else (get old q) (if bytes_eq k q then Some (listed_as FunctionResult (OfScalarType scalar)) else None)) named
    ∙ ap (λ k. or_else (get old q) (own_result k own q)) (sym is)

-- IMAGE NAMES

image_is_meant : (config : Config) (unit : ProgramUnit) (i : rule.ImageName) → variable_binding (image_seen unit.kind (role_of config unit) (image_entry config i)) ≡ option_map (binding_of config) (image_meaning config unit i)
image_is_meant config unit i =
    go (is_program_kind unit.kind && is_seen_by (program_role config unit.name.name config.programs) i.audience)
  where
    go : (b : Bool) → variable_binding (if b then Some (variable_of config i.variable) else None) ≡ option_map (binding_of config) (if b then Some (MeansVariable i.variable) else None)
    go true = refl
    go false = refl

-- the image names after the variables of a unit
pub own_seen_is : (config : Config) (unit : ProgramUnit) (variables own : NameMap (Option Variable)) (rows : List ImageRow) (role : Option Role) → HasVariables config unit variables → role ≡ role_of config unit → map (named config) rows ≡ image_entries config → HasImages config unit.kind role rows variables own → HasOwn config unit own
own_seen_is config unit variables own rows role first roles are second q =
    second q ∙ ap (λ o. or_else o (shown role (option_map (image_in config) (row_among rows q)))) (first q)
    ∙ ap (λ r. or_else (option_map (seen_variable config) (own_variable unit q)) (shown r (option_map (image_in config) (row_among rows q)))) roles
    ∙ ap (λ o. or_else (option_map (seen_variable config) (own_variable unit q)) (shown (role_of config unit) o)) (image_is config rows q are)
  where
    shown : Option Role → Option ImageName → Option (Option Variable)
    shown r o = option_map (image_seen unit.kind r) o

-- UNITS

-- the unit of a number
pub unit_found : (units : List ProgramUnit) (q : Spelling) → find (λ u. bytes_eq u.name.name q) units ≡ option_and_then (slice_get units) (place_of (map (λ u. u.name.name) units) q)
unit_found [] q = refl
unit_found (u ∷ us) q = go (bytes_eq u.name.name q) (place_of (map (λ (x : ProgramUnit). x.name.name) us) q) (unit_found us q)
  where
    by_place : (o : Option ℕ) → option_and_then (slice_get us) o ≡ option_and_then (slice_get (u ∷ us)) (option_map (λ k. suc k) o)
    by_place (Some k) = refl
    by_place None = refl

    go : (b : Bool) (o : Option ℕ) → find (λ x. bytes_eq x.name.name q) us ≡ option_and_then (slice_get us) o → (if b then Some u else find (λ x. bytes_eq x.name.name q) us) ≡ option_and_then (slice_get (u ∷ us)) (if b then Some 0 else option_map (λ k. suc k) o)
    go true o rest = refl
    go false o rest = rest ∙ by_place o

-- whether there is one
pub unit_there : (units : List ProgramUnit) (q : Spelling) → is_some (find (λ u. bytes_eq u.name.name q) units) ≡ is_some (place_of (map (λ u. u.name.name) units) q)
unit_there [] q = refl
unit_there (u ∷ us) q = go (bytes_eq u.name.name q) (place_of (map (λ (x : ProgramUnit). x.name.name) us) q) (unit_there us q)
  where
    by_place : (o : Option ℕ) → is_some o ≡ is_some (option_map (λ k. suc k) o)
    by_place (Some k) = refl
    by_place None = refl

    go : (b : Bool) (o : Option ℕ) → is_some (find (λ x. bytes_eq x.name.name q) us) ≡ is_some o → is_some (if b then Some u else find (λ x. bytes_eq x.name.name q) us) ≡ is_some (if b then Some 0 else option_map (λ k. suc k) o)
    go true o rest = refl
    go false o rest = rest ∙ by_place o

named_there : (config : Config) (q : Spelling) → is_some (unit_number config q) ≡ is_some (unit_named config q)
unfolding unit_number
named_there config q = go (is_predeclared config q)
  where
    go : (b : Bool) → is_some (if b then None else place_of (names_of_units config) q) ≡ is_some (if b then None else find (λ u. bytes_eq u.name.name q) config.units)
    go true = refl
    go false = sym (unit_there config.units q)

global_is : (config : Config) (q : Spelling) → global_binding config q ≡ option_map (binding_of config) (global_meaning config q)
global_is config q = ap (λ b. if b then Some means.Unit else (if is_predeclared config q then Some means.Standard else None)) (named_there config q) ∙ go (unit_named config q) (is_predeclared config q)
  where
    go : (u : Option ProgramUnit) (b : Bool) → (if is_some u then Some means.Unit else (if b then Some means.Standard else None)) ≡ option_map (binding_of config) (or_else (option_map MeansUnit u) (if b then Some MeansStandard else None))
    go (Some u) b = refl
    go None true = refl
    go None false = refl

-- MEANINGS

-- what is found under a name, and what it means
abbrev pub meant_by : Config → Spelling → Option (Option Variable) → Option Binding
meant_by config q (Some seen) = variable_binding seen
meant_by config q None = global_binding config q

meant_outer : (config : Config) (unit : ProgramUnit) (q : Spelling) (o : Option rule.ImageName) → meant_by config q (option_map (image_seen unit.kind (role_of config unit)) (option_map (image_entry config) o)) ≡ option_map (binding_of config) (outer_meaning config unit q o)
meant_outer config unit q (Some image) = image_is_meant config unit image
meant_outer config unit q None = global_is config q

pub meaning_is : (config : Config) (unit : ProgramUnit) (q : Spelling) → meant_by config q (own_seen config unit q) ≡ option_map (binding_of config) (meaning config unit q)
unfolding meaning
meaning_is config unit q = go (own_variable unit q) (image_name config q) (meant_outer config unit q (image_name config q))
  where
    shown : Option rule.ImageName → Option (Option Variable)
    shown o = option_map (image_seen unit.kind (role_of config unit)) (option_map (image_entry config) o)

    go : (v : Option rule.Variable) (i : Option rule.ImageName) → meant_by config q (shown i) ≡ option_map (binding_of config) (outer_meaning config unit q i)
        → meant_by config q (or_else (option_map (seen_variable config) v) (shown i)) ≡ option_map (binding_of config) (or_else (option_map MeansVariable v) (outer_meaning config unit q i))
    go (Some x) i outer = refl
    go None i outer = outer

-- VARIABLES

-- the variable among what is found
abbrev pub seen_of : Option (Option Variable) → Option Variable
seen_of (Some seen) = seen
seen_of None = None

-- the variable that is meant
abbrev bound : Option Binding → Option Variable
bound (Some (means.Variable v)) = Some v
bound (Some means.Unit) = None
bound (Some means.Standard) = None
bound None = None

bound_seen : (config : Config) (q : Spelling) (o : Option (Option Variable)) → bound (meant_by config q o) ≡ seen_of o
bound_seen config q (Some (Some v)) = refl
bound_seen config q (Some None) = refl
bound_seen config q None = go (is_some (unit_number config q)) (is_predeclared config q)
  where
    go : (u p : Bool) → bound (if u then Some means.Unit else (if p then Some means.Standard else None)) ≡ None
    go true p = refl
    go false true = refl
    go false false = refl

bound_meant : (config : Config) (m : Option rule.Meaning) → bound (option_map (binding_of config) m) ≡ option_map (variable_of config) (meant_variable m)
bound_meant config (Some (MeansVariable v)) = refl
bound_meant config (Some (MeansUnit u)) = refl
bound_meant config (Some MeansStandard) = refl
bound_meant config None = refl

pub variable_is : (config : Config) (unit : ProgramUnit) (q : Spelling) → seen_of (own_seen config unit q) ≡ option_map (variable_of config) (variable_named config unit q)
variable_is config unit q = sym (bound_seen config q (own_seen config unit q)) ∙ ap bound (meaning_is config unit q) ∙ bound_meant config (meaning config unit q)

-- SCOPES BY THEIR NUMBERS

pub scope_at : (config : Config) (units : List ProgramUnit) (scopes : List Scope) (k : ℕ) (u : ProgramUnit) (s : Scope) → AreScopes config units scopes → slice_get units k ≡ Some u → slice_get scopes k ≡ Some s → IsScope config u s
scope_at config [] [] k u s are a b = let bad : None ≡ Some u = a in cc
scope_at config [] (t ∷ scopes) k u s are a b = absurd are
scope_at config (x ∷ units) [] k u s are a b = absurd are
scope_at config (x ∷ units) (t ∷ scopes) zero u s are a b =
    let unit : x ≡ u = cc in
    let scope : t ≡ s = cc in
    subst (λ y. IsScope config y s) unit (subst (IsScope config x) scope are.0)
scope_at config (x ∷ units) (t ∷ scopes) (suc k) u s are a b = scope_at config units scopes k u s are.1 a b

pub scope_there : (config : Config) (units : List ProgramUnit) (scopes : List Scope) (k : ℕ) → AreScopes config units scopes → slice_get scopes k ≡ None → slice_get units k ≡ None
scope_there config [] [] k are a = refl
scope_there config [] (t ∷ scopes) k are a = absurd are
scope_there config (x ∷ units) [] k are a = absurd are
scope_there config (x ∷ units) (t ∷ scopes) zero are a = let bad : Some t ≡ None = a in cc
scope_there config (x ∷ units) (t ∷ scopes) (suc k) are a = scope_there config units scopes k are.1 a

-- an element that was read
pub read_at : {A : Type 0} (xs ys : List A) (k : ℕ) (x : A) → xs ≡ ys → k < length xs → x ≡ get_or xs k x → slice_get ys k ≡ Some x
read_at xs ys k x same low there = ap (λ l. slice_get l k) (sym same) ∙ slice_get_read xs (length xs) k x refl low there

-- one that is not there
pub none_at : {A : Type 0} (xs : List A) (k : ℕ) → length xs ≤ k → slice_get xs k ≡ None
none_at [] k low = refl
none_at (x ∷ xs) zero low = absurd (omega arith)
none_at (x ∷ xs) (suc k) low = none_at xs k (omega arith)

-- BLOCKS

-- the unit of a scope
pub unit_of : (config : Config) (units : List ProgramUnit) (scopes : List Scope) (k : ℕ) (s : Scope) → AreScopes config units scopes → slice_get scopes k ≡ Some s → (u : ProgramUnit) × (slice_get units k ≡ Some u) × IsScope config u s
unit_of config [] [] k s are b = let bad : None ≡ Some s = b in cc
unit_of config [] (t ∷ scopes) k s are b = absurd are
unit_of config (x ∷ units) [] k s are b = absurd are
unit_of config (x ∷ units) (t ∷ scopes) zero s are b = let scope : t ≡ s = cc in (x, refl, subst (IsScope config x) scope are.0)
unit_of config (x ∷ units) (t ∷ scopes) (suc k) s are b = unit_of config units scopes k s are.1 b

-- an own block's input or output
pub own_entry : (config : Config) (list : BlockVariables → List (Spelling × Form)) (unit : Option ProgramUnit) (u : ProgramUnit) (word : Spelling) (o : Option VariableType) → unit ≡ Some u → o ≡ option_map (type_of config) (entry_of (list (own_block_variables u)) word) → o ≡ option_map (type_of config) (option_and_then (λ b. entry_of (list b) word) (option_map own_block_variables unit))
own_entry config list unit u word o is e = e ∙ ap (λ x. option_map (type_of config) (option_and_then (λ b. entry_of (list b) word) (option_map own_block_variables x))) (sym is)

-- none, where there is no unit
pub own_entry_none : (config : Config) (list : BlockVariables → List (Spelling × Form)) (unit : Option ProgramUnit) (word : Spelling) → unit ≡ None → None ≡ option_map (type_of config) (option_and_then (λ b. entry_of (list b) word) (option_map own_block_variables unit))
own_entry_none config list unit word is = ap (λ x. option_map (type_of config) (option_and_then (λ b. entry_of (list b) word) (option_map own_block_variables x))) (sym is)

-- whether a name is among others
pub place_there : (names : List Spelling) (q : Spelling) → is_some (place_of names q) ≡ is_one_of names q
place_there [] q = refl
place_there (n ∷ ns) q = go (bytes_eq n q) (place_of ns q) (place_there ns q)
  where
    by_place : (o : Option ℕ) → is_some (option_map (λ k. suc k) o) ≡ is_some o
    by_place (Some k) = refl
    by_place None = refl

    go : (b : Bool) (o : Option ℕ) → is_some o ≡ is_one_of ns q → is_some (if b then Some 0 else option_map (λ k. suc k) o) ≡ (b || is_one_of ns q)
    go true o rest = refl
    go false o rest = by_place o ∙ rest
