-- Which names were seen: those in a table, and those that are left.
use Rattle.std.proofs.Common.{◌≡◌, Bool, true, false, ◌||◌, if◌then◌else◌, cond, List, [], ◌∷◌, ◌++◌, Option, Some, refl, sym, ap, ◌∙◌}
use Rattle.std.proofs.lemmas.Map.Text.{is_eq-slice_cmp}
use Rattle.std.specs.Prelude.{bytes_eq, is_some}
use Rattle.std.specs.List.{list_any}
use Rattle.il_syntax.specs.declared.tree.Declaration.{Declaration}
use Rattle.il_syntax.specs.declared.tree.Unit.{Unit as ProgramUnit}
use Rattle.base_maps.specs.NameMap.{NameMap, get, insert, get-insert, get-empty, empty}
use Rattle.il_statics.specs.Names.{Spelling, is_one_of}
use Rattle.show_names.specs.Names.{DeclaredName, is_declared, declares}
use Rattle.show_names.specs.Uses.{NameUse}
use Rattle.show_names.specs.Xref.{other_names}
use Rattle.show_names.proofs.Bytes.{same_bytes, bytes_swap}

-- ONE MORE NAME

-- the entry of a name, after another name got one
pub get_after : {X : Type 0} (m : NameMap X) (name : Spelling) (v : X) (other : Spelling) → get (insert m name v) other ≡ cond (bytes_eq name other) (Some v) (get m other)
get_after m name v other = get-insert m name v other ∙ ap (λ b. cond b (Some v) (get m other)) (is_eq-slice_cmp other name ∙ bytes_swap other name)

pub get_after-same : {X : Type 0} (m : NameMap X) (name : Spelling) (v : X) (other : Spelling) → bytes_eq name other ≡ true → get (insert m name v) other ≡ Some v
get_after-same m name v other h = get_after m name v other ∙ ap (λ b. cond b (Some v) (get m other)) h

pub get_after-other : {X : Type 0} (m : NameMap X) (name : Spelling) (v : X) (other : Spelling) → bytes_eq name other ≡ false → get (insert m name v) other ≡ get m other
get_after-other m name v other h = get_after m name v other ∙ ap (λ b. cond b (Some v) (get m other)) h

is_some-cond : {X : Type 0} (b : Bool) (v : X) (o : Option X) → is_some (cond b (Some v) o) ≡ (b || is_some o)
is_some-cond true v o = refl
is_some-cond false v o = refl

pub has_after : {X : Type 0} (m : NameMap X) (name : Spelling) (v : X) (other : Spelling) → is_some (get (insert m name v) other) ≡ (bytes_eq name other || is_some (get m other))
has_after m name v other = ap is_some (get_after m name v other) ∙ is_some-cond (bytes_eq name other) v (get m other)

pub has_none : {X : Type 0} (m : NameMap X) → m ≡ empty → (name : Spelling) → is_some (get m name) ≡ false
has_none m e name = ap (λ t. is_some (get t name)) e ∙ ap is_some (get-empty name)

-- NAMES THAT ARE LEFT

-- a name is in the table or among those that are left
abbrev pub is_told : NameMap Bool → List DeclaredName → Spelling → Bool
is_told m left name = is_some (get m name) || list_any (λ n. bytes_eq n.name name) left

or_turn : (a b c : Bool) → ((a || b) || c) ≡ (b || (a || c))
or_turn true true c = refl
or_turn true false c = refl
or_turn false b c = refl

pub told_put : (m now : NameMap Bool) (left rest : List DeclaredName) (n : DeclaredName) → left ≡ n ∷ rest → now ≡ insert m n.name true → (name : Spelling) → is_told now rest name ≡ is_told m left name
told_put m now left rest n is put name =
    ap (λ t. is_told t rest name) put ∙ ap (λ b. b || list_any (λ n. bytes_eq n.name name) rest) (has_after m n.name true name)
    ∙ or_turn (bytes_eq n.name name) (is_some (get m name)) _ ∙ ap (λ l. is_told m l name) (sym is)

skip-case : (b has rest : Bool) → (b ≡ true → has ≡ true) → (has || rest) ≡ (has || (b || rest))
skip-case true has rest h = ap (λ x. x || rest) (h refl) ∙ sym (ap (λ x. x || true) (h refl))
skip-case false has rest h = refl

pub told_skip : (m : NameMap Bool) (left rest : List DeclaredName) (n : DeclaredName) → left ≡ n ∷ rest → is_some (get m n.name) ≡ true → (name : Spelling) → is_told m rest name ≡ is_told m left name
told_skip m left rest n is there name =
    skip-case (bytes_eq n.name name) (is_some (get m name)) _ (λ e. ap (λ q. is_some (get m q)) (sym (same_bytes n.name name e)) ∙ there) ∙ ap (λ l. is_told m l name) (sym is)

or_false : (b : Bool) → (b || false) ≡ b
or_false true = refl
or_false false = refl

pub told_all : (m : NameMap Bool) (left : List DeclaredName) → left ≡ [] → (name : Spelling) → is_some (get m name) ≡ is_told m left name
told_all m left none name = sym (ap (λ l. is_told m l name) none ∙ or_false (is_some (get m name)))

pub told_none : (m : NameMap Bool) (left : List DeclaredName) → m ≡ empty → (name : Spelling) → is_told m left name ≡ list_any (λ n. bytes_eq n.name name) left
told_none m left e name = ap (λ b. b || list_any (λ n. bytes_eq n.name name) left) (has_none m e name)

-- the names of a unit's four lists
pub unit_names : (unit : ProgramUnit) (none one two three four : NameMap Bool) (inputs outputs variables externals : List Declaration) → none ≡ empty
    → inputs ≡ unit.inputs → outputs ≡ unit.outputs → variables ≡ unit.variables → externals ≡ unit.externals
    → ((name : Spelling) → is_some (get one name) ≡ (is_some (get none name) || is_declared inputs name))
    → ((name : Spelling) → is_some (get two name) ≡ (is_some (get one name) || is_declared outputs name))
    → ((name : Spelling) → is_some (get three name) ≡ (is_some (get two name) || is_declared variables name))
    → ((name : Spelling) → is_some (get four name) ≡ (is_some (get three name) || is_declared externals name))
    → (name : Spelling) → is_some (get four name) ≡ declares unit name
unit_names unit none one two three four inputs outputs variables externals new is_i is_o is_v is_e put_i put_o put_v put_e name =
    put_e name ∙ ap (λ b. b || is_declared externals name) (put_v name ∙ ap (λ b. b || is_declared variables name) (put_o name ∙ ap (λ b. b || is_declared outputs name) (put_i name ∙ ap (λ b. b || is_declared inputs name) (has_none none new name))))
    ∙ ap (λ l. is_declared l name || is_declared outputs name || is_declared variables name || is_declared externals name) is_i
    ∙ ap (λ l. is_declared unit.inputs name || is_declared l name || is_declared variables name || is_declared externals name) is_o
    ∙ ap (λ l. is_declared unit.inputs name || is_declared unit.outputs name || is_declared l name || is_declared externals name) is_v
    ∙ ap (λ l. is_declared unit.inputs name || is_declared unit.outputs name || is_declared unit.variables name || is_declared l name) is_e

-- NAMES OF USES

-- the names of uses that are not in the table, each once, in the order of first use
abbrev pub unseen : NameMap Bool → List NameUse → List Spelling
unseen m [] = []
unseen m (u ∷ us) = if is_some (get m u.name) then unseen m us else u.name ∷ unseen (insert m u.name true) us

pub unseen_seen : (m : NameMap Bool) (left rest : List NameUse) (u : NameUse) → left ≡ u ∷ rest → is_some (get m u.name) ≡ true → unseen m left ≡ unseen m rest
unseen_seen m left rest u is there = ap (unseen m) is ∙ ap (λ b. if b then unseen m rest else u.name ∷ unseen (insert m u.name true) rest) there

pub unseen_new : (m now : NameMap Bool) (left rest : List NameUse) (u : NameUse) → left ≡ u ∷ rest → is_some (get m u.name) ≡ false → now ≡ insert m u.name true → unseen m left ≡ u.name ∷ unseen now rest
unseen_new m now left rest u is new put =
    ap (unseen m) is ∙ ap (λ b. if b then unseen m rest else u.name ∷ unseen (insert m u.name true) rest) new ∙ ap (λ t. u.name ∷ unseen t rest) (sym put)

one_of_push : (names : List Spelling) (n name : Spelling) → is_one_of (names ++ n ∷ []) name ≡ (is_one_of names name || bytes_eq n name)
one_of_push [] n name = or_false (bytes_eq n name)
one_of_push (x ∷ names) n name = ap (λ b. bytes_eq x name || b) (one_of_push names n name) ∙ or_assoc (bytes_eq x name) (is_one_of names name) (bytes_eq n name)
  where
    or_assoc : (a b c : Bool) → (a || (b || c)) ≡ ((a || b) || c)
    or_assoc true b c = refl
    or_assoc false b c = refl

or_move : (a b c : Bool) → (a || (b || c)) ≡ (b || (c || a))
or_move true true c = refl
or_move true false true = refl
or_move true false false = refl
or_move false b true = refl
or_move false true false = refl
or_move false false false = refl

-- the table has what a unit declares, and what was seen
pub unseen_is : (unit : ProgramUnit) (us : List NameUse) (m : NameMap Bool) (seen : List Spelling)
    → ((name : Spelling) → is_some (get m name) ≡ (declares unit name || is_one_of seen name)) → unseen m us ≡ other_names unit seen us
unseen_is unit [] m seen h = refl
unseen_is unit (u ∷ us) m seen h =
    ap (λ b. if b then unseen m us else u.name ∷ unseen (insert m u.name true) us) (h u.name)
    ∙ ap (λ l. if declares unit u.name || is_one_of seen u.name then l else u.name ∷ unseen (insert m u.name true) us) (unseen_is unit us m seen h)
    ∙ ap (λ l. if declares unit u.name || is_one_of seen u.name then other_names unit seen us else u.name ∷ l) (unseen_is unit us (insert m u.name true) (seen ++ u.name ∷ []) more)
  where
    more : (name : Spelling) → is_some (get (insert m u.name true) name) ≡ (declares unit name || is_one_of (seen ++ u.name ∷ []) name)
    more name =
        has_after m u.name true name ∙ ap (λ b. bytes_eq u.name name || b) (h name) ∙ or_move (bytes_eq u.name name) (declares unit name) (is_one_of seen name)
        ∙ ap (λ b. declares unit name || b) (sym (one_of_push seen u.name name))

pub unseen_first : (unit : ProgramUnit) (us : List NameUse) (m : NameMap Bool) → ((name : Spelling) → is_some (get m name) ≡ declares unit name) → unseen m us ≡ other_names unit [] us
unseen_first unit us m h = unseen_is unit us m [] (λ name. h name ∙ sym (or_false (declares unit name)))
