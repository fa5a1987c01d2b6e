-- Which globals two tasks write.
use Rattle.std.proofs.Common.{◌≡◌, ◌≢◌, ℕ, zero, suc, ◌+◌, ◌<◌, ◌⊎◌, inl, inr, Bool, true, false, ◌||◌, ◌&&◌, if◌then◌else◌, List, [], ◌∷◌, length, slice_get, refl, sym, ap, ◌∙◌, subst, Option, Some, None, option_map, bytes_eq, arith}
use Rattle.std.specs.Prelude.{Contains, find, map, flat_map, ◌++◌}
use Rattle.std.specs.List.{list_any}
use Rattle.std.proofs.lemmas.Option.{slice_get_within, get_or_from_slice_get, slice_get-get_or}
use Rattle.std.proofs.lemmas.Slice.Eq.{bytes_eq-Decides}
use Rattle.il_syntax.specs.declared.tree.Config.{Config}
use Rattle.il_syntax.specs.declared.tree.Unit.{Unit as ProgramUnit}
use Rattle.il_syntax.specs.declared.tree.Step.{Step}
use Rattle.il_syntax.specs.declared.tree.Declaration.{Declaration}
use Rattle.il_syntax.specs.declared.tree.Named.{Named}
use Rattle.il_syntax.specs.declared.tree.Form.{Form}
use Rattle.il_syntax.specs.declared.tree.Form.TheVariants.{Scalar as OfScalar}
use Rattle.il_syntax.specs.declared.tree.UnitKind.{UnitKind}
use Rattle.il_syntax.specs.declared.tree.UnitKind.TheVariants.{Function, FunctionBlock, Program}
use Rattle.il_syntax.specs.declared.tree.Place.{Place}
use Rattle.il_syntax.specs.declared.tree.ProgramLine.{ProgramLine}
use Rattle.base_maps.specs.NameMap.{NameMap, get, insert, empty, get-empty}
use Rattle.il_statics.specs.declared.names.Origin.{Origin}
use Rattle.il_statics.specs.declared.names.Origin.TheVariants.{Input as AsInput, Output as AsOutput, Local as AsVariable, External as AsExternal, FunctionResult as AsResult, ReadImage as AsReadImage, WrittenImage as AsWrittenImage}
use Rattle.il_statics.specs.Names as rule
use Rattle.il_statics.specs.Names.{Spelling, ImageName, image_of, image_name, own_variable, variables_of, result_of, with_origin, named_forms, program_named, or_else, Meaning, MeansVariable, MeansUnit, MeansStandard, meaning, meant_variable, variable_named, sees, outer_meaning, unit_named, is_predeclared}
use Rattle.il_statics.specs.Types.{IsExternalOf, TaskWrites, stored_names}
use Rattle.il_statics.specs.Least.{NumberedFault, IsLeast}
use Rattle.il_statics.proofs.Least.{least_same}
use Rattle.load_types.specs.Faults.{HasStoreOfTwo}
use Rattle.load_scope.specs.declared.entry.Variable.{Variable}
use Rattle.load_scope.specs.Views.{variable_of}
use Rattle.load_scope.proofs.Filled.{get-inserted}
use Rattle.load_scope.specs.StoredNames.{is_stored}
use Rattle.load_declarations.proofs.Members.{none_in, one_in, in_rest, in_flat, from_flat, from_map}
use Rattle.load_types.specs.declared.writers.Writer.{Writer}
use Rattle.load_types.specs.declared.writers.Writer.TheVariants.{Task, Several}
use Rattle.load_types.specs.Writers.{is_external, is_external_origin, is_external_variable, is_same_task, is_task_of, writer_after, note, noted, names_stored, if_stored, declared_stored, noted_line, WritesBelow, AreTwoTasks, IsWriter, AreWriters, is_several, is_shared, HasSharedStores}

-- EXTERNALS

found_is_none : (test : ImageName → Bool) (p : ImageName → Bool) (xs : List ImageName) (x : ImageName) → list_any test xs ≡ false → find p xs ≡ Some x → test x ≡ false
found_is_none test p [] x none e = let bad : None ≡ Some x = e in cc
found_is_none test p (y ∷ xs) x none e = by_first (p y) (test y) refl none e (found_is_none test p xs x)
  where
    same : (a b : ImageName) → Some a ≡ Some b → a ≡ b
    same a b e = cc

    by_first : (b t : Bool) → test y ≡ t → (t || list_any test xs) ≡ false → (if b then Some y else find p xs) ≡ Some x → (list_any test xs ≡ false → find p xs ≡ Some x → test x ≡ false) → test x ≡ false
    by_first b true is none e rest = let bad : true ≡ false = none in cc
    by_first true false is none e rest = ap test (sym (same y x e)) ∙ is
    by_first false false is none e rest = rest none e

image_is_none : (config : Config) (name : Spelling) (i : ImageName) → image_name config name ≡ Some i → is_external_origin i.variable.origin ≡ false
unfolding image_name
image_is_none config name i e = found_is_none (λ i. is_external_origin i.variable.origin) (λ i. bytes_eq i.variable.name name) (image_of config.cars.value config.floors.value config.slots.value) i refl e

-- a variable that a name means is an external where it is one of the unit
pub external_meant : (config : Config) (unit : ProgramUnit) (name : Spelling) → is_external_variable (variable_named config unit name) ≡ is_external unit name
unfolding meaning is_external
external_meant config unit name = by_own (own_variable unit name)
  where
    by_standard : (b : Bool) → is_external_variable (meant_variable (if b then Some MeansStandard else None)) ≡ false
    by_standard true = refl
    by_standard false = refl

    by_global : (u : Option ProgramUnit) → is_external_variable (meant_variable (or_else (option_map MeansUnit u) (if is_predeclared config name then Some MeansStandard else None))) ≡ false
    by_global (Some u) = refl
    by_global None = by_standard (is_predeclared config name)

    by_seen : (i : ImageName) (b : Bool) → is_external_origin i.variable.origin ≡ false → is_external_variable (meant_variable (if b then Some (MeansVariable i.variable) else None)) ≡ false
    by_seen i true e = e
    by_seen i false e = refl

    by_image : (o : Option ImageName) → image_name config name ≡ o → is_external_variable (meant_variable (outer_meaning config unit name o)) ≡ false
    by_image (Some i) e = by_seen i (sees config unit i) (image_is_none config name i e)
    by_image None e = by_global (unit_named config name)

    by_own : (o : Option rule.Variable) → is_external_variable (meant_variable (or_else (option_map MeansVariable o) (outer_meaning config unit name (image_name config name)))) ≡ is_external_variable o
    by_own (Some v) = refl
    by_own None = by_image (image_name config name) refl

-- the same of a variable that is found
pub external_found : (config : Config) (o : Option rule.Variable) (found : Variable) (r : Bool) → Some found ≡ option_map (variable_of config) o → r ≡ is_external_origin found.origin → r ≡ is_external_variable o
external_found config None found r there is = absurd (let bad : Some found ≡ None = there in cc)
external_found config (Some v) found r there is = is ∙ ap (λ (x : Variable). is_external_origin x.origin) (same found (variable_of config v) there)
  where
    same : (a b : Variable) → Some a ≡ Some b → a ≡ b
    same a b e = cc

pub external_none : (config : Config) (o : Option rule.Variable) → None ≡ option_map (variable_of config) o → false ≡ is_external_variable o
external_none config None none = refl
external_none config (Some v) none = absurd (let bad : None ≡ Some (variable_of config v) = none in cc)

external_is : (unit : ProgramUnit) (name : Spelling) → is_external unit name ≡ true → IsExternalOf unit name
unfolding is_external
external_is unit name e = by_own (own_variable unit name) e
  where
    by_origin : (o : Origin) → is_external_origin o ≡ true → Some o ≡ Some AsExternal
    by_origin AsInput e = let bad : false ≡ true = e in cc
    by_origin AsOutput e = let bad : false ≡ true = e in cc
    by_origin AsVariable e = let bad : false ≡ true = e in cc
    by_origin AsExternal e = refl
    by_origin AsResult e = let bad : false ≡ true = e in cc
    by_origin AsReadImage e = let bad : false ≡ true = e in cc
    by_origin AsWrittenImage e = let bad : false ≡ true = e in cc

    by_own : (o : Option rule.Variable) → is_external_variable o ≡ true → option_map (λ v. v.origin) o ≡ Some AsExternal
    by_own (Some v) e = by_origin v.origin e
    by_own None e = let bad : false ≡ true = e in cc

is_external_there : (unit : ProgramUnit) (name : Spelling) → IsExternalOf unit name → is_external unit name ≡ true
unfolding is_external
is_external_there unit name e = by_own (own_variable unit name) e
  where
    same : (a b : Origin) → Some a ≡ Some b → a ≡ b
    same a b e = cc

    by_own : (o : Option rule.Variable) → option_map (λ v. v.origin) o ≡ Some AsExternal → is_external_variable o ≡ true
    by_own (Some v) e = ap is_external_origin (same v.origin AsExternal e)
    by_own None e = let bad : ◌≡◌ {A = Option Origin} None (Some AsExternal) = e in cc

-- externals follows all others
module _ (test : rule.Variable → Bool) where
  external_behind : (xs ys : List rule.Variable) → is_external_variable (find test xs) ≡ false → is_external_variable (find test (xs ++ ys)) ≡ true → is_external_variable (find test ys) ≡ true
  external_behind [] ys none e = e
  external_behind (x ∷ xs) ys none e = by_first (test x) none e (external_behind xs ys)
    where
      by_first : (b : Bool) → is_external_variable (if b then Some x else find test xs) ≡ false → is_external_variable (if b then Some x else find test (xs ++ ys)) ≡ true → (is_external_variable (find test xs) ≡ false → is_external_variable (find test (xs ++ ys)) ≡ true → is_external_variable (find test ys) ≡ true) → is_external_variable (find test ys) ≡ true
      by_first true is e further = absurd (let bad : false ≡ true = sym is ∙ e in cc)
      by_first false is e further = further is e

  no_external_appended : (xs ys : List rule.Variable) → is_external_variable (find test xs) ≡ false → is_external_variable (find test ys) ≡ false → is_external_variable (find test (xs ++ ys)) ≡ false
  no_external_appended [] ys none rest = rest
  no_external_appended (x ∷ xs) ys none rest = by_first (test x) none (λ k. no_external_appended xs ys k rest)
    where
      by_first : (b : Bool) → is_external_variable (if b then Some x else find test xs) ≡ false → (is_external_variable (find test xs) ≡ false → is_external_variable (find test (xs ++ ys)) ≡ false) → is_external_variable (if b then Some x else find test (xs ++ ys)) ≡ false
      by_first true is further = is
      by_first false is further = further is

  no_external_of_origin : (o : Origin) (vs : List (Spelling × Form)) → is_external_origin o ≡ false → is_external_variable (find test (map (λ v. record { name = v.0; form = v.1; origin = o }) vs)) ≡ false
  no_external_of_origin o [] none = refl
  no_external_of_origin o (v ∷ vs) none = by_first (test (record { name = v.0; form = v.1; origin = o })) (no_external_of_origin o vs none)
    where
      by_first : (b : Bool) → is_external_variable (find test (map (λ v. record { name = v.0; form = v.1; origin = o }) vs)) ≡ false → is_external_variable (if b then Some (record { name = v.0; form = v.1; origin = o }) else find test (map (λ v. record { name = v.0; form = v.1; origin = o }) vs)) ≡ false
      by_first true further = none
      by_first false further = further

  no_external_result : (kind : UnitKind) (name : Spelling) → is_external_variable (find test (result_of kind name)) ≡ false
  no_external_result (Function scalar place) name = by_first (test (record { name = name; form = OfScalar scalar; origin = AsResult }))
    where
      by_first : (b : Bool) → is_external_variable (if b then Some (record { name = name; form = OfScalar scalar; origin = AsResult }) else None) ≡ false
      by_first true = refl
      by_first false = refl
  no_external_result FunctionBlock name = refl
  no_external_result Program name = refl

  -- what is in front of the externals
  external_among : (unit : ProgramUnit) → is_external_variable (find test (variables_of unit)) ≡ true → is_external_variable (find test (with_origin AsExternal unit.externals)) ≡ true
  external_among unit e =
      external_behind _ (with_origin AsExternal unit.externals)
      (no_external_appended _ (with_origin AsVariable unit.variables)
      (no_external_appended _ (with_origin AsOutput unit.outputs)
      (no_external_appended (result_of unit.kind unit.name.name) (with_origin AsInput unit.inputs) (no_external_result unit.kind unit.name.name) (no_external_of_origin AsInput (named_forms unit.inputs) refl))
      (no_external_of_origin AsOutput (named_forms unit.outputs) refl))
      (no_external_of_origin AsVariable (named_forms unit.variables) refl)) e

named_in : (o : Origin) (q : Spelling) (vs : List (Spelling × Form)) → is_external_variable (find (λ v. bytes_eq v.name q) (map (λ (v : Spelling × Form). record { name = v.0; form = v.1; origin = o }) vs)) ≡ true → (v : Spelling × Form) × Contains vs v × (v.0 ≡ q)
named_in o q [] e = absurd (let bad : false ≡ true = e in cc)
named_in o q (v ∷ vs) e = by_first (bytes_eq v.0 q) refl e (named_in o q vs)
  where
    rest : List rule.Variable
    rest = map (λ (v : Spelling × Form). record { name = v.0; form = v.1; origin = o }) vs

    by_first : (b : Bool) → bytes_eq v.0 q ≡ b → is_external_variable (if b then Some (record { name = v.0; form = v.1; origin = o }) else find (λ v. bytes_eq v.name q) rest) ≡ true → (is_external_variable (find (λ v. bytes_eq v.name q) rest) ≡ true → (w : Spelling × Form) × Contains vs w × (w.0 ≡ q)) → (w : Spelling × Form) × Contains (v ∷ vs) w × (w.0 ≡ q)
    by_first true is e further = (v, (0, omega arith, refl), (bytes_eq-Decides v.0 q).0 is)
    by_first false is e further = let r = further e in (r.0, in_rest v vs r.0 r.1, r.2)

-- an external of a unit is declared as one
pub record IsDeclaredExternal (unit : ProgramUnit) (name : Spelling) : Type 0 where
  pub declaration : Declaration
  pub among : Contains unit.externals declaration
  pub named : Named
  pub listed : Contains declaration.names named
  pub is : named.name ≡ name

external_declared : (unit : ProgramUnit) (name : Spelling) → is_external unit name ≡ true → IsDeclaredExternal unit name
unfolding is_external
external_declared unit name e =
    let v = named_in AsExternal name (named_forms unit.externals) (external_among (λ v. bytes_eq v.name name) unit e) in
    let d = from_flat (λ (d : Declaration). map (λ (n : Named). (n.name, d.declared.form)) d.names) unit.externals v.0 v.1 in
    let n = from_map (λ (n : Named). (n.name, d.0.declared.form)) d.0.names v.0 d.2 in
    record { declaration = d.0; among = d.1; named = n.0; listed = n.1; is = ap (λ (p : Spelling × Form). p.0) n.2 ∙ v.2 }

-- EXTERNALS THAT ARE STORED INTO

any_in : (test : Spelling → Bool) (xs : List Spelling) → list_any test xs ≡ true → (x : Spelling) × Contains xs x × (test x ≡ true)
any_in test [] e = let bad : false ≡ true = e in cc
any_in test (x ∷ xs) e = by_first (test x) refl e (any_in test xs)
  where
    by_first : (b : Bool) → test x ≡ b → (b || list_any test xs) ≡ true → (list_any test xs ≡ true → (y : Spelling) × Contains xs y × (test y ≡ true)) → (y : Spelling) × Contains (x ∷ xs) y × (test y ≡ true)
    by_first true is e rest = (x, (0, omega arith, refl), is)
    by_first false is e rest = let r = rest e in (r.0, (suc r.1.0, omega (arith, r.1.1), r.1.2), r.2)

in_any : (test : Spelling → Bool) (xs : List Spelling) (x : Spelling) → Contains xs x → test x ≡ true → list_any test xs ≡ true
in_any test [] x (k, low, e) is = absurd (omega arith)
in_any test (y ∷ xs) x (zero, low, e) is = ap (λ b. b || list_any test xs) (ap test e ∙ is)
in_any test (y ∷ xs) x (suc k, low, e) is = either (test y) (in_any test xs x (k, omega arith, e) is)
  where
    either : (a : Bool) → list_any test xs ≡ true → (a || list_any test xs) ≡ true
    either true h = refl
    either false h = h

-- an external that the instructions store into
stored_external : (unit : ProgramUnit) (name : Spelling) → is_external unit name ≡ true → Contains (names_stored unit.body.steps) name → Contains (declared_stored unit unit.externals) name
stored_external unit name external stored =
    let d = external_declared unit name external in
    in_flat (λ (d : Declaration). flat_map (if_stored unit) d.names) unit.externals d.declaration name d.among
    (in_flat (if_stored unit) d.declaration.names d.named name d.listed (by_test d.named d.is (is_stored unit.body.steps d.named.name) (ap (is_stored unit.body.steps) d.is ∙ in_any (λ n. bytes_eq n name) (names_stored unit.body.steps) name stored ((bytes_eq-Decides name name).1 refl))))
  where
    by_test : (n : Named) → n.name ≡ name → (b : Bool) → b ≡ true → Contains (if b then n.name ∷ [] else []) name
    by_test n same true is = (0, omega arith, same)
    by_test n same false is = absurd (let bad : false ≡ true = is in cc)

external_stored : (unit : ProgramUnit) (name : Spelling) → Contains (declared_stored unit unit.externals) name → Contains (names_stored unit.body.steps) name
external_stored unit name c =
    let d = from_flat (λ (d : Declaration). flat_map (if_stored unit) d.names) unit.externals name c in
    let n = from_flat (if_stored unit) d.0.names name d.2 in
    by_test n.0 (is_stored unit.body.steps n.0.name) refl n.2
  where
    by_test : (n : Named) (b : Bool) → is_stored unit.body.steps n.name ≡ b → Contains (if b then n.name ∷ [] else []) name → Contains (names_stored unit.body.steps) name
    by_test n true is c =
        let a = any_in (λ m. bytes_eq m n.name) (names_stored unit.body.steps) is in
        subst (Contains (names_stored unit.body.steps)) ((bytes_eq-Decides a.0 n.name).0 a.2 ∙ one_in n.name name c) a.1
    by_test n false is c = absurd (none_in name c)

-- WRITERS

module _ (lines : List ProgramLine) where
  -- the same writers
  writer_same : (P Q : Spelling → Type 0) (o : Option Writer) → ((t : Spelling) → P t → Q t) → ((t : Spelling) → Q t → P t) → IsWriter lines P o → IsWriter lines Q o
  writer_same P Q None up down w = λ t q. w t (down t q)
  writer_same P Q (Some (Task line)) up down w = record { of = w.of; listed = w.listed; writes = up w.of.task.name w.writes; only = λ t q. w.only t (down t q) }
  writer_same P Q (Some Several) up down w = record { first = w.first; second = w.second; one = up w.first w.one; other = up w.second w.other; differ = w.differ }

  -- one more writer
  writer_more : (line : ℕ) (of : ProgramLine) (P : Spelling → Type 0) (o : Option Writer) → slice_get lines line ≡ Some of → IsWriter lines P o → IsWriter lines (λ t. P t ⊎ (t ≡ of.task.name)) (Some (writer_after lines line o))
  writer_more line of P None there w = record { of = of; listed = there; writes = inr refl; only = λ t h. elim h [ inl p ↦ absurd (w t p) | inr e ↦ e ] }
  writer_more line of P (Some (Task first)) there w = by_same (is_same_task lines first line) (ap (λ o. is_task_of o (slice_get lines line)) w.listed ∙ ap (is_task_of (Some w.of)) there)
    where
      by_same : (b : Bool) → b ≡ bytes_eq w.of.task.name of.task.name → IsWriter lines (λ t. P t ⊎ (t ≡ of.task.name)) (Some (if b then Task first else Several))
      by_same true e = record { of = w.of; listed = w.listed; writes = inl w.writes; only = λ t h. elim h [ inl p ↦ w.only t p | inr s ↦ s ∙ sym ((bytes_eq-Decides w.of.task.name of.task.name).0 (sym e)) ] }
      by_same false e = record { first = w.of.task.name; second = of.task.name; one = inl w.writes; other = inr refl; differ = λ s. let bad : false ≡ true = e ∙ (bytes_eq-Decides w.of.task.name of.task.name).1 s in cc }
  writer_more line of P (Some Several) there w = record { first = w.first; second = w.second; one = inl w.one; other = inl w.other; differ = w.differ }

  module _ (line : ℕ) (of : ProgramLine) (unit : ProgramUnit) (there : slice_get lines line ≡ Some of) where
    -- the program of this line writes a name
    abbrev pub With : (Spelling → Type 0) → Spelling → List Spelling → Spelling → Type 0
    With P name names t = P t ⊎ ((t ≡ of.task.name) × (is_external unit name ≡ true) × Contains names name)

    note_kept : (W : Spelling → Spelling → Type 0) (table : NameMap Writer) (n : Spelling) → ((q : Spelling) → IsWriter lines (W q) (get table q)) → (q : Spelling) → IsWriter lines (With (W q) q (n ∷ [])) (get (note lines line unit table n) q)
    note_kept W table n kept q = by_external (is_external unit n) refl
      where
        inside : Contains (n ∷ []) q → n ≡ q
        inside (zero, low, e) = e
        inside (suc k, low, e) = absurd (omega arith)

        unchanged : (Contains (n ∷ []) q → is_external unit q ≡ true → ⊥) → IsWriter lines (With (W q) q (n ∷ [])) (get table q)
        unchanged never = writer_same (W q) (With (W q) q (n ∷ [])) (get table q) (λ t w. inl w) (λ t h. elim h [ inl w ↦ w | inr x ↦ absurd (never x.2 x.1) ]) (kept q)

        by_name : (b : Bool) → bytes_eq n q ≡ b → is_external unit n ≡ true → IsWriter lines (With (W q) q (n ∷ [])) (if b then Some (writer_after lines line (get table n)) else get table q)
        by_name true same external =
            let e : n ≡ q = (bytes_eq-Decides n q).0 same in
            subst (λ k. IsWriter lines (With (W q) q (n ∷ [])) (Some (writer_after lines line (get table k)))) (sym e)
            (writer_same (λ t. W q t ⊎ (t ≡ of.task.name)) (With (W q) q (n ∷ [])) (Some (writer_after lines line (get table q))) (λ t h. elim h [ inl w ↦ inl w | inr s ↦ inr (s, ap (is_external unit) (sym e) ∙ external, (0, omega arith, e)) ]) (λ t h. elim h [ inl w ↦ inl w | inr x ↦ inr x.0 ]) (writer_more line of (W q) (get table q) there (kept q)))
        by_name false differs external = unchanged (λ c x. let bad : true ≡ false = sym ((bytes_eq-Decides n q).1 (inside c)) ∙ differs in cc)

        by_external : (b : Bool) → is_external unit n ≡ b → IsWriter lines (With (W q) q (n ∷ [])) (get (if b then insert table n (writer_after lines line (get table n)) else table) q)
        by_external true is = subst (IsWriter lines (With (W q) q (n ∷ []))) (sym (get-inserted table n (writer_after lines line (get table n)) q)) (by_name (bytes_eq n q) refl is)
        by_external false is = unchanged (λ c x. let bad : true ≡ false = sym x ∙ ap (is_external unit) (sym (inside c)) ∙ is in cc)

    noted_kept : (W : Spelling → Spelling → Type 0) (names : List Spelling) (table : NameMap Writer) → ((q : Spelling) → IsWriter lines (W q) (get table q)) → (q : Spelling) → IsWriter lines (With (W q) q names) (get (noted lines line unit table names) q)
    noted_kept W [] table kept q = writer_same (W q) (With (W q) q []) (get table q) (λ t w. inl w) (λ t h. elim h [ inl w ↦ w | inr x ↦ absurd (none_in q x.2) ]) (kept q)
      where
        none_in : (q : Spelling) → Contains [] q → ⊥
        none_in q (k, low, e) = omega arith
    noted_kept W (n ∷ ns) table kept q =
        writer_same (With (With (W q) q (n ∷ [])) q ns) (With (W q) q (n ∷ ns)) (get (noted lines line unit (note lines line unit table n) ns) q) up down
        (noted_kept (λ q. With (W q) q (n ∷ [])) ns (note lines line unit table n) (note_kept W table n kept) q)
      where
        first : Contains (n ∷ []) q → Contains (n ∷ ns) q
        first (zero, low, e) = (0, omega arith, e)
        first (suc k, low, e) = absurd (omega arith)

        rest : Contains ns q → Contains (n ∷ ns) q
        rest (k, low, e) = (suc k, omega arith, e)

        up : (t : Spelling) → With (With (W q) q (n ∷ [])) q ns t → With (W q) q (n ∷ ns) t
        up t (inl (inl w)) = inl w
        up t (inl (inr (s, x, c))) = inr (s, x, first c)
        up t (inr (s, x, c)) = inr (s, x, rest c)

        down : (t : Spelling) → With (W q) q (n ∷ ns) t → With (With (W q) q (n ∷ [])) q ns t
        down t (inl w) = inl (inl w)
        down t (inr (s, x, (zero, low, e))) = inl (inr (s, x, (0, omega arith, e)))
        down t (inr (s, x, (suc k, low, e))) = inr (s, x, (k, omega arith, e))

-- ONE PROGRAM LINE MORE

none_below : (config : Config) (task name : Spelling) → WritesBelow config 0 task name → ⊥
none_below config task name w = omega (arith, w.low)

pub writers_none : (config : Config) (table : NameMap Writer) → table ≡ empty → AreWriters config 0 table
writers_none config table is name = subst (IsWriter config.programs (λ task. WritesBelow config 0 task name)) (sym (ap (λ t. get t name) is ∙ get-empty name)) (λ task w. none_below config task name w)

module _ (config : Config) (k : ℕ) (of : ProgramLine) (there : slice_get config.programs k ≡ Some of) where
  below_more : (task name : Spelling) → WritesBelow config k task name → WritesBelow config (k + 1) task name
  below_more task name w = record { at = w.at; line = w.line; unit = w.unit; low = omega (arith, w.low); listed = w.listed; of_task = w.of_task; of_program = w.of_program; external = w.external; stores = w.stores }

  -- the line at this index
  pub record WritesHere (task name : Spelling) : Type 0 where
    pub unit : ProgramUnit
    pub of_task : of.task.name ≡ task
    pub of_program : program_named config of.program.name ≡ Some unit
    pub external : is_external unit name ≡ true
    pub stores : Contains (names_stored unit.body.steps) name

  below_cases : (task name : Spelling) → WritesBelow config (k + 1) task name → WritesBelow config k task name ⊎ WritesHere task name
  below_cases task name w = elim (lt_or_eq w.at k w.low) [ inl l ↦ inl (record { at = w.at; line = w.line; unit = w.unit; low = l; listed = w.listed; of_task = w.of_task; of_program = w.of_program; external = w.external; stores = w.stores }) | inr e ↦ inr (here (same w.line of (sym w.listed ∙ ap (slice_get config.programs) e ∙ there))) ]
    where
      lt_or_eq : (a b : ℕ) → a < b + 1 → (a < b) ⊎ (a ≡ b)
      lt_or_eq a b l = grind arith

      same : (a b : ProgramLine) → Some a ≡ Some b → a ≡ b
      same a b e = cc

      here : w.line ≡ of → WritesHere task name
      here e = record { unit = w.unit; of_task = ap (λ l. l.task.name) (sym e) ∙ w.of_task; of_program = ap (λ l. program_named config l.program.name) (sym e) ∙ w.of_program; external = w.external; stores = w.stores }

  pub line_next : (table new : NameMap Writer) → new ≡ noted_line config.programs k (program_named config of.program.name) table → AreWriters config k table → AreWriters config (k + 1) new
  line_next table new is before name = subst (λ t. IsWriter config.programs (λ task. WritesBelow config (k + 1) task name) (get t name)) (sym is) (by_program (program_named config of.program.name) refl)
    where
      same : (a b : ProgramUnit) → Some a ≡ Some b → a ≡ b
      same a b e = cc

      by_program : (o : Option ProgramUnit) → program_named config of.program.name ≡ o → IsWriter config.programs (λ task. WritesBelow config (k + 1) task name) (get (noted_line config.programs k o table) name)
      by_program None none = writer_same config.programs (λ task. WritesBelow config k task name) (λ task. WritesBelow config (k + 1) task name) (get table name) (λ t w. below_more t name w) (λ t w. elim (below_cases t name w) [ inl b ↦ b | inr h ↦ absurd (never (sym h.of_program ∙ none)) ]) (before name)
        where
          never : {u : ProgramUnit} → Some u ≡ None → ⊥
          never e = cc
      by_program (Some unit) named =
          writer_same config.programs (With config.programs k of unit there (λ task. WritesBelow config k task name) name (declared_stored unit unit.externals)) (λ task. WritesBelow config (k + 1) task name) (get (noted config.programs k unit table (declared_stored unit unit.externals)) name) up down
          (noted_kept config.programs k of unit there (λ q task. WritesBelow config k task q) (declared_stored unit unit.externals) table before name)
        where
          up : (t : Spelling) → With config.programs k of unit there (λ task. WritesBelow config k task name) name (declared_stored unit unit.externals) t → WritesBelow config (k + 1) t name
          up t (inl w) = below_more t name w
          up t (inr (s, x, c)) = record { at = k; line = of; unit = unit; low = omega arith; listed = there; of_task = sym s; of_program = named; external = x; stores = external_stored unit name c }

          down : (t : Spelling) → WritesBelow config (k + 1) t name → With config.programs k of unit there (λ task. WritesBelow config k task name) name (declared_stored unit unit.externals) t
          down t w = elim (below_cases t name w) [ inl b ↦ inl b | inr h ↦ inr (at_unit t h (same h.unit unit (sym h.of_program ∙ named))) ]
            where
              at_unit : (t : Spelling) → (h : WritesHere t name) → h.unit ≡ unit → (t ≡ of.task.name) × (is_external unit name ≡ true) × Contains (declared_stored unit unit.externals) name
              at_unit t h e =
                  let external = ap (λ u. is_external u name) (sym e) ∙ h.external in
                  (sym h.of_task, external, stored_external unit name external (subst (λ u. Contains (names_stored u.body.steps) name) e h.stores))

-- STORES OF TWO

pub both_true : (a b : Bool) → (a && b) ≡ true → (a ≡ true) × (b ≡ true)
both_true true true e = (refl, refl)
both_true true false e = let bad : false ≡ true = e in cc
both_true false b e = let bad : false ≡ true = e in cc

among : {A : Type 0} (xs : List A) (i : ℕ) (x : A) → slice_get xs i ≡ Some x → Contains xs x
among xs i x e = (i, slice_get_within xs i x e, get_or_from_slice_get xs i x x e)

two_of : (lines : List ProgramLine) (P : Spelling → Type 0) (o : Option Writer) → IsWriter lines P o → is_several o ≡ true → AreTwoTasks P
two_of lines P None w e = let bad : false ≡ true = e in cc
two_of lines P (Some (Task line)) w e = let bad : false ≡ true = e in cc
two_of lines P (Some Several) w e = w

of_two : (lines : List ProgramLine) (P : Spelling → Type 0) (o : Option Writer) (a b : Spelling) → IsWriter lines P o → P a → P b → a ≢ b → is_several o ≡ true
of_two lines P None a b w one other differ = absurd (w a one)
of_two lines P (Some (Task line)) a b w one other differ = absurd (differ (w.only a one ∙ sym (w.only b other)))
of_two lines P (Some Several) a b w one other differ = refl

module _ (config : Config) (table : NameMap Writer) (writers : AreWriters config (length config.programs) table) where
  task_writes : (task name : Spelling) → WritesBelow config (length config.programs) task name → TaskWrites config task name
  task_writes task name w =
      let s = from_flat (λ (s : Step). stored_names s.instruction) w.unit.body.steps name w.stores in
      record { line = w.line; unit = w.unit; place = s.0.place; listed = among config.programs w.at w.line w.listed; of_task = w.of_task; of_program = w.of_program; stores = record { external = external_is w.unit name w.external; step = s.0; written = s.1; stores = s.2; is_place = refl } }

  writes_below : (task name : Spelling) → TaskWrites config task name → WritesBelow config (length config.programs) task name
  writes_below task name w =
      let c = w.listed in
      record { at = c.0; line = w.line; unit = w.unit; low = c.1; listed = slice_get-get_or config.programs c.0 w.line c.1 ∙ ap Some c.2; of_task = w.of_task; of_program = w.of_program; external = is_external_there w.unit name w.stores.external; stores = in_flat (λ (s : Step). stored_names s.instruction) w.unit.body.steps w.stores.step name w.stores.written w.stores.stores }

  up : (n : ℕ) (p : Place) → HasSharedStores table config.units n p → HasStoreOfTwo config n p
  up n p (i, unit, low, there, (j, step, within, stands, (shared, is_number, is_place))) =
      let a = any_in (is_shared unit table) (stored_names step.instruction) shared in
      let b = both_true (is_external unit a.0) (is_several (get table a.0)) a.2 in
      let two = two_of config.programs (λ task. WritesBelow config (length config.programs) task a.0) (get table a.0) (writers a.0) b.1 in
      (is_number, record { name = a.0; first = two.first; second = two.second; unit = unit; written = among config.units i unit there; stores = record { external = external_is unit a.0 b.0; step = step; written = among unit.body.steps j step stands; stores = a.1; is_place = is_place }; one = task_writes two.first a.0 two.one; other = task_writes two.second a.0 two.other; differ = two.differ })

  down : (n : ℕ) (p : Place) → HasStoreOfTwo config n p → HasSharedStores table config.units n p
  down n p (is_number, s) =
      let u = s.written in
      let c = s.stores.written in
      let several = of_two config.programs (λ task. WritesBelow config (length config.programs) task s.name) (get table s.name) s.first s.second (writers s.name) (writes_below s.first s.name s.one) (writes_below s.second s.name s.other) s.differ in
      let shared : is_shared s.unit table s.name ≡ true = ap (λ b. b && is_several (get table s.name)) (is_external_there s.unit s.name s.stores.external) ∙ several in
      (u.0, s.unit, u.1, slice_get-get_or config.units u.0 s.unit u.1 ∙ ap Some u.2, (c.0, s.stores.step, c.1, slice_get-get_or s.unit.body.steps c.0 s.stores.step c.1 ∙ ap Some c.2, (in_any (is_shared s.unit table) (stored_names s.stores.step.instruction) s.name s.stores.stores shared, is_number, s.stores.is_place)))

  -- the first store into a global that two tasks write
  pub least_shared : (found : Option NumberedFault) → IsLeast found (HasSharedStores table config.units) → IsLeast found (HasStoreOfTwo config)
  least_shared found l = least_same (HasSharedStores table config.units) (HasStoreOfTwo config) found l up down
