-- What tables have, one entry after another.
use Rattle.std.proofs.Common.{◌≡◌, ℕ, zero, suc, ◌+◌, ◌<◌, Bool, true, false, ◌||◌, cond, List, [], ◌∷◌, ◌++◌, map, take, length, get_or, refl, sym, ap, ◌∙◌, subst, Option, Some, None, is_some, option_map, bytes_eq, if◌then◌else◌, arith}
use Rattle.std.specs.Prelude.{find, ℤ}
use Rattle.std.specs.Cmp.{eq_by_cmp_equiv}
use Rattle.std.specs.Cmp.Lexicographic.{nat_list_cmp_total}
use Rattle.std.proofs.lemmas.Map.Text.{is_eq-slice_cmp}
use Rattle.std.proofs.lemmas.Slice.Eq.{bytes_eq-Decides}
use Rattle.std.proofs.lemmas.List.{take_more, map-append}
use Rattle.il_syntax.specs.declared.tree.Config.{Config}
use Rattle.il_syntax.specs.declared.tree.Unit.{Unit as ProgramUnit}
use Rattle.il_syntax.specs.declared.tree.Declaration.{Declaration}
use Rattle.il_syntax.specs.declared.tree.ProgramLine.{ProgramLine}
use Rattle.il_syntax.specs.declared.tree.Named.{Named}
use Rattle.il_syntax.specs.declared.tree.Form.{Form}
use Rattle.base_maps.specs.NameMap.{NameMap, get, insert, with_new, get-insert, empty, get-empty}
use Rattle.il_statics.specs.Names.{Spelling, or_else, entry_of, is_one_of, named_forms, program_role, role_from, task_role}
use Rattle.il_statics.specs.Names as rule
use Rattle.load_scope.specs.declared.entry.VariableType.{VariableType}
use Rattle.load_scope.specs.declared.entry.Variable.{Variable}
use Rattle.il_statics.specs.declared.names.Origin.{Origin}
use Rattle.il_statics.specs.declared.names.Role.{Role}
use Rattle.load_scope.specs.declared.tables.Scope.{Scope}
use Rattle.load_scope.specs.Views.{place_of, type_of}
use Rattle.load_scope.specs.declared.image.ImageRow.{ImageRow}
use Rattle.il_syntax.specs.declared.tree.UnitKind.{UnitKind}
use Rattle.load_scope.specs.Words.{is_name}
use Rattle.load_scope.specs.Images.{image_in, row_among}
use Rattle.load_scope.specs.Tables.{with_role, with_role_of, HasForms, HasNames, HasList, HasImages, HasRoles, IsScope, AreScopes}
use Rattle.load_scope.specs.Meanings.{listed_as, image_seen}

-- what a table has after an insertion
pub get-inserted : {X : Type 0} (m : NameMap X) (k : Spelling) (v : X) (q : Spelling) → get (insert m k v) q ≡ (if bytes_eq k q then Some v else get m q)
get-inserted m k v q =
    get-insert m k v q ∙ ap (λ b. cond b (Some v) (get m q)) (sym (sym (is_eq-slice_cmp k q) ∙ (eq_by_cmp_equiv nat_list_cmp_total).symm k q))

-- nothing else
pub or_else_none : {X : Type 0} (o : Option X) → or_else o None ≡ o
or_else_none (Some x) = refl
or_else_none None = refl

-- one of three, however grouped
pub or_else_assoc : {X : Type 0} (a b c : Option X) → or_else (or_else a b) c ≡ or_else a (or_else b c)
or_else_assoc (Some x) b c = refl
or_else_assoc None b c = refl

-- what a table has with a name that it did not have
pub get-with_new : {X : Type 0} (m : NameMap X) (k : Spelling) (v : X) (q : Spelling) → get (with_new m k v) q ≡ or_else (get m q) (if bytes_eq k q then Some v else None)
get-with_new {X = X} m k v q = by_old (get m k) refl
  where
    by_old : (o : Option X) → get m k ≡ o → get (if is_some o then m else insert m k v) q ≡ or_else (get m q) (if bytes_eq k q then Some v else None)
    by_old (Some x) is = by_name (bytes_eq k q) refl
      where
        by_name : (b : Bool) → bytes_eq k q ≡ b → get m q ≡ or_else (get m q) (if b then Some v else None)
        by_name true same = let there : get m q ≡ Some x = ap (get m) (sym ((bytes_eq-Decides k q).0 same)) ∙ is in there ∙ sym (ap (λ o. or_else o (Some v)) there)
        by_name false differs = sym (or_else_none (get m q))
    by_old None is = get-inserted m k v q ∙ by_name (bytes_eq k q) refl
      where
        by_name : (b : Bool) → bytes_eq k q ≡ b → (if b then Some v else get m q) ≡ or_else (get m q) (if b then Some v else None)
        by_name true same = let none : get m q ≡ None = ap (get m) (sym ((bytes_eq-Decides k q).0 same)) ∙ is in sym (ap (λ o. or_else o (Some v)) none)
        by_name false differs = sym (or_else_none (get m q))

-- one element more
pub take_next : {A : Type 0} (xs : List A) (i : ℕ) (x : A) → i < length xs → x ≡ get_or xs i x → take (i + 1) xs ≡ take i xs ++ x ∷ []
take_next xs i x low there = take_more xs i x low ∙ ap (λ y. take i xs ++ y ∷ []) (sym there)

-- an element that is there, whatever takes the place of others
same_default : {A : Type 0} (xs : List A) (i : ℕ) (d e : A) → i < length xs → get_or xs i d ≡ get_or xs i e
same_default [] i d e low = absurd (omega arith)
same_default (x ∷ xs) zero d e low = refl
same_default (x ∷ xs) (suc i) d e low = same_default xs i d e (omega arith)

-- all elements
pub take_all : {A : Type 0} (xs : List A) (i : ℕ) → length xs < i + 1 → take i xs ≡ xs
take_all [] zero low = refl
take_all [] (suc i) low = refl
take_all (x ∷ xs) zero low = absurd (omega arith)
take_all (x ∷ xs) (suc i) low = ap (λ l. x ∷ l) (take_all xs i (omega arith))

-- UNITS

-- the number of a name after others
place_of-last : (names : List Spelling) (n q : Spelling) → place_of (names ++ n ∷ []) q ≡ or_else (place_of names q) (if bytes_eq n q then Some (length names) else None)
place_of-last [] n q = by_name (bytes_eq n q)
  where
    by_name : (b : Bool) → (if b then Some 0 else option_map (λ k. suc k) None) ≡ (if b then Some 0 else None)
    by_name true = refl
    by_name false = refl
place_of-last (m ∷ names) n q = by_first (bytes_eq m q) (place_of names q) (place_of-last names n q)
  where
    by_last : (o : Option ℕ) (b : Bool) → option_map (λ k. suc k) (or_else o (if b then Some (length names) else None)) ≡ or_else (option_map (λ k. suc k) o) (if b then Some (suc (length names)) else None)
    by_last (Some k) b = refl
    by_last None true = refl
    by_last None false = refl

    by_first : (b : Bool) (o : Option ℕ) → place_of (names ++ n ∷ []) q ≡ or_else o (if bytes_eq n q then Some (length names) else None)
        → (if b then Some 0 else option_map (λ k. suc k) (place_of (names ++ n ∷ []) q)) ≡ or_else (if b then Some 0 else option_map (λ k. suc k) o) (if bytes_eq n q then Some (suc (length names)) else None)
    by_first true o rest = refl
    by_first false o rest = ap (option_map (λ k. suc k)) rest ∙ by_last o (bytes_eq n q)

length-take_map : {A B : Type 0} (f : A → B) (xs : List A) (i : ℕ) → i < length xs → length (map f (take i xs)) ≡ i
length-take_map f [] i low = absurd (omega arith)
length-take_map f (x ∷ xs) zero low = refl
length-take_map f (x ∷ xs) (suc i) low = ap suc (length-take_map f xs i (omega arith))

-- one unit more
pub unit_next : (units : List ProgramUnit) (i : ℕ) (u : ProgramUnit) (mid new : NameMap ℕ) (key : Spelling) → i < length units → u ≡ get_or units i u → key ≡ u.name.name → new ≡ with_new mid key i
    → ((q : Spelling) → get mid q ≡ place_of (map (λ x. x.name.name) (take i units)) q) → (q : Spelling) → get new q ≡ place_of (map (λ x. x.name.name) (take (i + 1) units)) q
unit_next units i u mid new key low there named is before q =
    ap (λ m. get m q) is ∙ get-with_new mid key i q
    ∙ ap (λ o. or_else o (if bytes_eq key q then Some i else None)) (before q)
    ∙ ap (λ k. or_else (place_of (map (λ (x : ProgramUnit). x.name.name) (take i units)) q) (if bytes_eq key q then Some k else None)) (sym (length-take_map (λ (x : ProgramUnit). x.name.name) units i low))
    ∙ sym (place_of-last (map (λ (x : ProgramUnit). x.name.name) (take i units)) key q)
    ∙ ap (λ k. place_of (map (λ (x : ProgramUnit). x.name.name) (take i units) ++ k ∷ []) q) named
    ∙ ap (λ l. place_of l q) (sym (map-append (λ (x : ProgramUnit). x.name.name) (take i units) (u ∷ [])) ∙ ap (map (λ (x : ProgramUnit). x.name.name)) (sym (take_next units i u low there)))

-- NAMES OF ONE DECLARATION

-- a name after others
one_of-last : (names : List Spelling) (n q : Spelling) → is_one_of (names ++ n ∷ []) q ≡ (is_one_of names q || bytes_eq n q)
one_of-last [] n q = by_name (bytes_eq n q)
  where
    by_name : (b : Bool) → (b || false) ≡ b
    by_name true = refl
    by_name false = refl
one_of-last (m ∷ names) n q = by_first (bytes_eq m q) (one_of-last names n q)
  where
    by_first : (b : Bool) → is_one_of (names ++ n ∷ []) q ≡ (is_one_of names q || bytes_eq n q) → (b || is_one_of (names ++ n ∷ []) q) ≡ ((b || is_one_of names q) || bytes_eq n q)
    by_first true rest = refl
    by_first false rest = rest

-- a name that is in one of two lists
by_either : {X : Type 0} (o : Option X) (a b : Bool) (x : X) → or_else (or_else o (if a then Some x else None)) (if b then Some x else None) ≡ or_else o (if a || b then Some x else None)
by_either (Some y) a b x = refl
by_either None true b x = refl
by_either None false b x = refl

-- no name
pub names_none : {X : Type 0} (entry : X) (names : List Named) (old : NameMap X) → HasNames (take 0 names) entry old old
names_none entry names old q = sym (or_else_none (get old q))

-- one name more
pub names_next : {X : Type 0} (names : List Named) (i : ℕ) (n : Named) (key : Spelling) (declared : X) (old mid new : NameMap X) → i < length names → n ≡ get_or names i n → key ≡ n.name → new ≡ with_new mid key declared → HasNames (take i names) declared old mid → HasNames (take (i + 1) names) declared old new
names_next names i n key declared old mid new low there named is before q =
    ap (λ m. get m q) is ∙ get-with_new mid key declared q
    ∙ ap (λ o. or_else o (if bytes_eq key q then Some declared else None)) (before q)
    ∙ by_either (get old q) (is_one_of (map (λ (x : Named). x.name) (take i names)) q) (bytes_eq key q) declared
    ∙ ap (λ b. or_else (get old q) (if b then Some declared else None)) (sym (one_of-last (map (λ (x : Named). x.name) (take i names)) key q)
    ∙ ap (λ k. is_one_of (map (λ (x : Named). x.name) (take i names) ++ k ∷ []) q) named
    ∙ ap (λ l. is_one_of l q) (sym (map-append (λ (x : Named). x.name) (take i names) (n ∷ [])) ∙ ap (map (λ (x : Named). x.name)) (sym (take_next names i n low there))))

-- DECLARATIONS

-- the variables of a list and of one declaration more
forms-last : (ds : List Declaration) (d : Declaration) → named_forms (ds ++ d ∷ []) ≡ named_forms ds ++ map (λ (n : Named). (n.name, d.declared.form)) d.names
forms-last [] d = append_nil (map (λ (n : Named). (n.name, d.declared.form)) d.names)
  where
    append_nil : {A : Type 0} (xs : List A) → xs ++ [] ≡ xs
    append_nil [] = refl
    append_nil (x ∷ xs) = ap (λ l. x ∷ l) (append_nil xs)
forms-last (e ∷ ds) d = ap (λ l. map (λ (n : Named). (n.name, e.declared.form)) e.names ++ l) (forms-last ds d) ∙ sym (append_three (map (λ (n : Named). (n.name, e.declared.form)) e.names) (named_forms ds) (map (λ (n : Named). (n.name, d.declared.form)) d.names))
  where
    append_three : {A : Type 0} (xs ys zs : List A) → (xs ++ ys) ++ zs ≡ xs ++ (ys ++ zs)
    append_three [] ys zs = refl
    append_three (x ∷ xs) ys zs = ap (λ l. x ∷ l) (append_three xs ys zs)

-- an entry of two tables one after another
pub entry-append : {A : Type 0} (xs ys : List (Spelling × A)) (q : Spelling) → entry_of (xs ++ ys) q ≡ or_else (entry_of xs q) (entry_of ys q)
entry-append [] ys q = refl
entry-append {A = A} (x ∷ xs) ys q = go (bytes_eq x.0 q) (entry-append xs ys q)
  where
    go : (b : Bool) → entry_of (xs ++ ys) q ≡ or_else (entry_of xs q) (entry_of ys q)
        → option_map (λ (e : Spelling × A). e.1) (if b then Some x else find (λ e. bytes_eq e.0 q) (xs ++ ys)) ≡ or_else (option_map (λ (e : Spelling × A). e.1) (if b then Some x else find (λ e. bytes_eq e.0 q) xs)) (entry_of ys q)
    go true rest = refl
    go false rest = rest

-- the type of a name of one declaration
forms-one : (form : Form) (names : List Named) (q : Spelling) → entry_of (map (λ (n : Named). (n.name, form)) names) q ≡ (if is_one_of (map (λ (n : Named). n.name) names) q then Some form else None)
forms-one form [] q = refl
forms-one form (n ∷ names) q = go (bytes_eq n.name q) (forms-one form names q)
  where
    go : (b : Bool) → entry_of (map (λ (m : Named). (m.name, form)) names) q ≡ (if is_one_of (map (λ (m : Named). m.name) names) q then Some form else None)
        → option_map (λ (e : Spelling × Form). e.1) (if b then Some (n.name, form) else find (λ e. bytes_eq e.0 q) (map (λ (m : Named). (m.name, form)) names)) ≡ (if b || is_one_of (map (λ (m : Named). m.name) names) q then Some form else None)
    go true rest = refl
    go false rest = rest

pub map-or_else : {A B : Type 0} (f : A → B) (a b : Option A) → option_map f (or_else a b) ≡ or_else (option_map f a) (option_map f b)
map-or_else f (Some x) b = refl
map-or_else f None b = refl

map-if : {A B : Type 0} (f : A → B) (b : Bool) (x : A) → option_map f (if b then Some x else None) ≡ (if b then Some (f x) else None)
map-if f true x = refl
map-if f false x = refl

-- no declaration
pub forms_none : (config : Config) (declarations : List Declaration) (table : NameMap VariableType) → table ≡ empty → HasForms config (take 0 declarations) table
forms_none config declarations table is q = ap (λ m. get m q) is ∙ get-empty q

-- one declaration more
pub forms_next : (config : Config) (ds : List Declaration) (i : ℕ) (d : Declaration) (names : List Named) (declared : VariableType) (mid new : NameMap VariableType) → i < length ds → d ≡ get_or ds i d → names ≡ d.names → declared ≡ type_of config d.declared.form → HasNames names declared mid new → HasForms config (take i ds) mid → HasForms config (take (i + 1) ds) new
forms_next config ds i d names declared mid new low there listed typed added before q =
    added q
    ∙ ap (λ o. or_else o (if is_one_of (map (λ (n : Named). n.name) names) q then Some declared else None)) (before q)
    ∙ ap (λ l. or_else (option_map (type_of config) (entry_of (named_forms (take i ds)) q)) (if is_one_of (map (λ (n : Named). n.name) l) q then Some declared else None)) listed
    ∙ ap (λ t. or_else (option_map (type_of config) (entry_of (named_forms (take i ds)) q)) (if is_one_of (map (λ (n : Named). n.name) d.names) q then Some t else None)) typed
    ∙ ap (or_else (option_map (type_of config) (entry_of (named_forms (take i ds)) q))) (sym (map-if (type_of config) (is_one_of (map (λ (n : Named). n.name) d.names) q) d.declared.form) ∙ ap (option_map (type_of config)) (sym (forms-one d.declared.form d.names q)))
    ∙ sym (map-or_else (type_of config) (entry_of (named_forms (take i ds)) q) (entry_of (map (λ (n : Named). (n.name, d.declared.form)) d.names) q))
    ∙ ap (option_map (type_of config)) (sym (entry-append (named_forms (take i ds)) (map (λ (n : Named). (n.name, d.declared.form)) d.names) q) ∙ ap (λ l. entry_of l q) (sym (forms-last (take i ds) d) ∙ ap named_forms (sym (take_next ds i d low there))))

-- LISTS OF A UNIT

-- no declaration
pub list_none : (config : Config) (origin : Origin) (declarations : List Declaration) (old : NameMap (Option Variable)) → HasList config origin (take 0 declarations) old old
list_none config origin declarations old q = sym (or_else_none (get old q))

-- one declaration more
pub list_next : (config : Config) (origin : Origin) (ds : List Declaration) (i : ℕ) (d : Declaration) (names : List Named) (variable : Option Variable) (old mid new : NameMap (Option Variable)) → i < length ds → d ≡ get_or ds i d → names ≡ d.names → variable ≡ listed_as origin (type_of config d.declared.form) → HasNames names variable mid new → HasList config origin (take i ds) old mid → HasList config origin (take (i + 1) ds) old new
list_next config origin ds i d names variable old mid new low there listed typed added before q =
    added q
    ∙ ap (λ o. or_else o (if is_one_of (map (λ (n : Named). n.name) names) q then Some variable else None)) (before q)
    ∙ or_else_assoc (get old q) (meant (entry_of (named_forms (take i ds)) q)) (if is_one_of (map (λ (n : Named). n.name) names) q then Some variable else None)
    ∙ ap (or_else (get old q)) (
    ap (λ l. or_else (meant (entry_of (named_forms (take i ds)) q)) (if is_one_of (map (λ (n : Named). n.name) l) q then Some variable else None)) listed
    ∙ ap (λ v. or_else (meant (entry_of (named_forms (take i ds)) q)) (if is_one_of (map (λ (n : Named). n.name) d.names) q then Some v else None)) typed
    ∙ ap (or_else (meant (entry_of (named_forms (take i ds)) q))) (sym (map-if (listed_as origin) named (type_of config d.declared.form)) ∙ ap (option_map (listed_as origin)) (sym (map-if (type_of config) named d.declared.form)) ∙ ap meant (sym (forms-one d.declared.form d.names q)))
    ∙ sym (meant-both (entry_of (named_forms (take i ds)) q) (entry_of (map (λ (n : Named). (n.name, d.declared.form)) d.names) q))
    ∙ ap meant (sym (entry-append (named_forms (take i ds)) (map (λ (n : Named). (n.name, d.declared.form)) d.names) q) ∙ ap (λ l. entry_of l q) (sym (forms-last (take i ds) d) ∙ ap named_forms (sym (take_next ds i d low there)))))
  where
    meant : Option Form → Option (Option Variable)
    meant o = option_map (listed_as origin) (option_map (type_of config) o)

    named : Bool
    named = is_one_of (map (λ (n : Named). n.name) d.names) q

    meant-both : (a b : Option Form) → meant (or_else a b) ≡ or_else (meant a) (meant b)
    meant-both (Some x) b = refl
    meant-both None b = refl

-- IMAGE NAMES OF A UNIT

-- the row of a spelling among rows and one row more
row_among-last : (rows : List ImageRow) (r : ImageRow) (q : Spelling) → row_among (rows ++ r ∷ []) q ≡ or_else (row_among rows q) (if bytes_eq r.name.now q then Some r else None)
unfolding is_name
row_among-last [] r q = refl
row_among-last (x ∷ rows) r q = go (bytes_eq x.name.now q) (row_among-last rows r q)
  where
    go : (b : Bool) → row_among (rows ++ r ∷ []) q ≡ or_else (row_among rows q) (if bytes_eq r.name.now q then Some r else None) → (if b then Some x else row_among (rows ++ r ∷ []) q) ≡ or_else (if b then Some x else row_among rows q) (if bytes_eq r.name.now q then Some r else None)
    go true rest = refl
    go false rest = rest

-- no row
pub images_none : (config : Config) (kind : UnitKind) (role : Option Role) (rows : List ImageRow) (old : NameMap (Option Variable)) → HasImages config kind role (take 0 rows) old old
images_none config kind role rows old q = sym (or_else_none (get old q))

-- one row more
pub images_next : (config : Config) (kind : UnitKind) (role : Option Role) (rows : List ImageRow) (i : ℕ) (d r : ImageRow) (key : Spelling) (entry : Option Variable) (old mid new : NameMap (Option Variable)) → i < length rows → r ≡ get_or rows i d → key ≡ r.name.now → entry ≡ image_seen kind role (image_in config r) → new ≡ with_new mid key entry → HasImages config kind role (take i rows) old mid → HasImages config kind role (take (i + 1) rows) old new
images_next config kind role rows i d r key entry old mid new low there named seen is before q =
    ap (λ m. get m q) is ∙ get-with_new mid key entry q
    ∙ ap (λ o. or_else o (if bytes_eq key q then Some entry else None)) (before q)
    ∙ or_else_assoc (get old q) (shown (row_among (take i rows) q)) (if bytes_eq key q then Some entry else None)
    ∙ ap (or_else (get old q)) (
    ap (λ k. or_else (shown (row_among (take i rows) q)) (if bytes_eq k q then Some entry else None)) named
    ∙ ap (λ e. or_else (shown (row_among (take i rows) q)) (if bytes_eq r.name.now q then Some e else None)) seen
    ∙ ap (or_else (shown (row_among (take i rows) q))) (shown-if (bytes_eq r.name.now q))
    ∙ sym (shown-both (row_among (take i rows) q) (if bytes_eq r.name.now q then Some r else None))
    ∙ ap shown (sym (row_among-last (take i rows) r q) ∙ ap (λ l. row_among l q) (sym (take_next rows i r low (there ∙ same_default rows i d r low)))))
  where
    shown : Option ImageRow → Option (Option Variable)
    shown o = option_map (image_seen kind role) (option_map (image_in config) o)

    shown-if : (b : Bool) → (if b then Some (image_seen kind role (image_in config r)) else None) ≡ shown (if b then Some r else None)
    shown-if true = refl
    shown-if false = refl

    shown-both : (a b : Option ImageRow) → shown (or_else a b) ≡ or_else (shown a) (shown b)
    shown-both (Some x) b = refl
    shown-both None b = refl

-- ROLES

-- the role of a program by lines and one line more
role-last : (config : Config) (q : Spelling) (lines : List ProgramLine) (line : ProgramLine) → program_role config q (lines ++ line ∷ []) ≡ or_else (program_role config q lines) (role_from config q line)
role-last config q [] line = or_else_none (role_from config q line)
role-last config q (l ∷ lines) line = ap (or_else (role_from config q l)) (role-last config q lines line) ∙ sym (or_else_assoc (role_from config q l) (program_role config q lines) (role_from config q line))

-- the role that one line gives
role-one : (config : Config) (line : ProgramLine) (mid : NameMap Role) (q : Spelling) → get (with_role config.cars.value line mid) q ≡ or_else (get mid q) (role_from config q line)
role-one config line mid q = by_role (task_role config.cars.value line.task.name)
  where
    no_name : (b : Bool) → get mid q ≡ or_else (get mid q) (if b then None else None)
    no_name true = sym (or_else_none (get mid q))
    no_name false = sym (or_else_none (get mid q))

    by_role : (r : Option Role) → get (with_role_of r line.program.name mid) q ≡ or_else (get mid q) (if bytes_eq line.program.name q then r else None)
    by_role (Some r) = get-with_new mid line.program.name r q
    by_role None = no_name (bytes_eq line.program.name q)

-- no line
pub roles_none : (config : Config) (lines : List ProgramLine) (roles : NameMap Role) → roles ≡ empty → HasRoles config (take 0 lines) roles
roles_none config lines roles is q = ap (λ m. get m q) is ∙ get-empty q

-- one line more
pub roles_next : (config : Config) (cars : ℤ) (lines : List ProgramLine) (i : ℕ) (line : ProgramLine) (mid new : NameMap Role) → cars ≡ config.cars.value → i < length lines → line ≡ get_or lines i line → new ≡ with_role cars line mid → HasRoles config (take i lines) mid → HasRoles config (take (i + 1) lines) new
roles_next config cars lines i line mid new same low there is before q =
    ap (λ m. get m q) (is ∙ ap (λ z. with_role z line mid) same) ∙ role-one config line mid q
    ∙ ap (λ o. or_else o (role_from config q line)) (before q)
    ∙ sym (role-last config q (take i lines) line) ∙ ap (program_role config q) (sym (take_next lines i line low there))

-- SCOPES

scopes-last : (config : Config) (units : List ProgramUnit) (scopes : List Scope) (u : ProgramUnit) (s : Scope) → AreScopes config units scopes → IsScope config u s → AreScopes config (units ++ u ∷ []) (scopes ++ s ∷ [])
scopes-last config [] [] u s before is = (is, tt)
scopes-last config [] (t ∷ scopes) u s before is = absurd before
scopes-last config (x ∷ units) [] u s before is = absurd before
scopes-last config (x ∷ units) (t ∷ scopes) u s before is = (before.0, scopes-last config units scopes u s before.1 is)

-- no unit
pub scopes_none : (config : Config) (units : List ProgramUnit) (scopes : List Scope) → scopes ≡ [] → AreScopes config (take 0 units) scopes
scopes_none config units scopes is = subst (AreScopes config []) (sym is) tt

-- one unit more
pub scopes_next : (config : Config) (units : List ProgramUnit) (i : ℕ) (u : ProgramUnit) (s : Scope) (mid new : List Scope) → i < length units → u ≡ get_or units i u → new ≡ mid ++ s ∷ [] → IsScope config u s → AreScopes config (take i units) mid → AreScopes config (take (i + 1) units) new
scopes_next config units i u s mid new low there is one before =
    subst (λ l. AreScopes config l new) (sym (take_next units i u low there)) (subst (AreScopes config (take i units ++ u ∷ [])) (sym is) (scopes-last config (take i units) mid u s before one))
