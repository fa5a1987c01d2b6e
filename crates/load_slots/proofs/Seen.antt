-- What a unit sees of the image, by its role.
use Rattle.std.proofs.Common.{◌≡◌, ℕ, ◌+◌, ◌<◌, length, drop, get_or, Bool, true, false, List, [], ◌∷◌, ◌++◌, map, refl, sym, ap, ap₂, ◌∙◌, Option, None, append-nil, append_assoc}
use Rattle.std.proofs.lemmas.List.{map-append, drop_more}
use Rattle.il_syntax.specs.declared.tree.Literal.{Literal}
use Rattle.load_scope.specs.declared.entry.VariableType.{VariableType}
use Rattle.il_syntax.specs.declared.tree.Declaration.{Declaration}
use Rattle.il_syntax.specs.declared.tree.Named.{Named}
use Rattle.load_scope.specs.Views.{type_of, image_entry}
use Rattle.il_semantics_laws.proofs.Fresh.{entity}
use Rattle.load_slots.specs.declared.variables.Variable.{Variable}
use Rattle.load_slots.specs.declared.variables.Part.{Part}
use Rattle.load_slots.specs.declared.variables.Part.TheVariants.{Common, OfRole}
use Rattle.std.specs.Prelude.{option_map, if◌then◌else◌, ◌&&◌, filter, not, flat_map}
use Rattle.il_syntax.specs.declared.tree.Unit.{Unit as ProgramUnit}
use Rattle.il_syntax.specs.declared.tree.Config.{Config}
use Rattle.il_statics.specs.declared.names.Audience.{Audience}
use Rattle.il_statics.specs.declared.names.Audience.TheVariants.{Everybody, CarPrograms, GroupPrograms}
use Rattle.il_statics.specs.declared.names.Role.{Role}
use Rattle.il_statics.specs.Names.{ImageName, image_of, is_program, is_seen_by, program_role}
use Rattle.il_statics.specs.Names as rule
use Rattle.il_semantics.specs.Meaning.{Entity, entities, own_entities, result_entities}
use Rattle.load_scope.specs.declared.image.ImageRow.{ImageRow}
use Rattle.load_scope.specs.Images.{named, image_entries}
use Rattle.load_slots.specs.Making.{variable, shown, added, is_in_part, seen_entry, with_image}
use Rattle.load_slots.specs.Flattened.{function_entities}
use Rattle.load_slots.specs.Places.{seen_among, seen_image, unit_entities, is_common}
use Rattle.load_slots.proofs.Declared.{none_seen}

-- the image names that units of a role see
abbrev shown_to : Bool → Option Role → List ImageName → List Entity
shown_to program role [] = []
shown_to program role (i ∷ is) = if program && is_seen_by role i.audience then record { name = i.variable.name; form = i.variable.form; initial = None } ∷ shown_to program role is else shown_to program role is

shown_is : (c : Config) (u : ProgramUnit) (is : List ImageName) → seen_among c u is ≡ shown_to (is_program u) (program_role c u.name.name c.programs) is
shown_is c u [] = refl
shown_is c u (i ∷ is) = ap (λ es. if is_program u && is_seen_by (program_role c u.name.name c.programs) i.audience then record { name = i.variable.name; form = i.variable.form; initial = None } ∷ es else es) (shown_is c u is)

-- ADDING

pub added_all : {A : Type 0} (list vs : List A) → added list vs ≡ list ++ vs
added_all list [] = sym (append-nil list)
added_all list (v ∷ vs) = added_all (list ++ v ∷ []) vs ∙ append_assoc list (v ∷ []) vs

added_twice : (list xs ys : List Variable) → added list (xs ++ ys) ≡ added (added list xs) ys
added_twice list [] ys = refl
added_twice list (x ∷ xs) ys = added_twice (list ++ x ∷ []) xs ys

added_both : (c : Config) (list : List Variable) (es ds : List Entity) → added list (map (shown c) (es ++ ds)) ≡ added (added list (map (shown c) es)) (map (shown c) ds)
added_both c list [] ds = refl
added_both c list (e ∷ es) ds = added_both c (list ++ shown c e ∷ []) es ds

same_names : (c : Config) (d : Declaration) (ns : List Named) → map (shown c) (map (entity d) ns) ≡ map (λ n. variable n.name (type_of c d.declared.form) (option_map (λ i. i.literal) d.initial)) ns
same_names c d [] = refl
same_names c d (n ∷ ns) = ap (λ vs. variable n.name (type_of c d.declared.form) (option_map (λ i. i.literal) d.initial) ∷ vs) (same_names c d ns)

-- one declaration more
pub declared_next : (c : Config) (list : List Variable) (d : Declaration) (ds : List Declaration)
    → added list (map (shown c) (entities (d ∷ ds))) ≡ added (added list (map (λ n. variable n.name (type_of c d.declared.form) (option_map (λ i. i.literal) d.initial)) d.names)) (map (shown c) (entities ds))
declared_next c list d ds = added_both c list (map (entity d) d.names) (entities ds) ∙ ap (λ vs. added (added list vs) (map (shown c) (entities ds))) (same_names c d d.names)

pub declarations_next : (c : Config) (list after : List Variable) (ds : List Declaration) (i : ℕ) (d : Declaration) (names : List Named) (t : VariableType) (l : Option Literal) (all : List Variable)
    → i < length ds → d ≡ get_or ds i d → names ≡ d.names → t ≡ type_of c d.declared.form → l ≡ option_map (λ i. i.literal) d.initial → after ≡ added list (map (λ n. variable n.name t l) names)
    → added list (map (shown c) (entities (drop i ds))) ≡ all → added after (map (shown c) (entities (drop (i + 1) ds))) ≡ all
declarations_next c list after ds i d names t l all low is named typed begun grown rest =
    let here : drop i ds ≡ d ∷ drop (i + 1) ds = drop_more ds i d low ∙ ap (λ x. x ∷ drop (i + 1) ds) (sym is) in
    ap (λ x. added x (map (shown c) (entities (drop (i + 1) ds))))
    (grown ∙ ap (λ ns. added list (map (λ n. variable n.name t l) ns)) named ∙ ap₂ (λ u k. added list (map (λ n. variable n.name u k) d.names)) typed begun)
    ∙ sym (ap (λ x. added list (map (shown c) (entities x))) here ∙ declared_next c list d (drop (i + 1) ds)) ∙ rest

pub own_added : (c : Config) (list : List Variable) (u : ProgramUnit)
    → added list (map (shown c) (own_entities u)) ≡ added (added (added list (map (shown c) (entities u.inputs))) (map (shown c) (entities u.outputs))) (map (shown c) (entities u.variables))
own_added c list u =
    added_both c list (entities u.inputs ++ entities u.outputs) (entities u.variables) ∙ ap (λ l. added l (map (shown c) (entities u.variables))) (added_both c list (entities u.inputs) (entities u.outputs))

pub others_added : (c : Config) (u : ProgramUnit) (xs ys zs vs : List Variable) → xs ≡ added [] (map (shown c) (result_entities u.kind u.name.name)) → ys ≡ added xs (map (shown c) (entities u.externals)) → zs ≡ added ys (map (shown c) (seen_image c u))
    → map (shown c) (own_entities u) ++ zs ≡ map (shown c) (unit_entities c u)
others_added c u xs ys zs vs p q r =
    ap (λ l. map (shown c) (own_entities u) ++ l) (r ∙ ap (λ l. added l (map (shown c) (seen_image c u))) (q ∙ ap (λ l. added l (map (shown c) (entities u.externals))) p)
    ∙ sym (added_both c [] (result_entities u.kind u.name.name) (entities u.externals ++ seen_image c u) ∙ added_both c (added [] (map (shown c) (result_entities u.kind u.name.name))) (entities u.externals) (seen_image c u))
    ∙ added_all [] (map (shown c) (result_entities u.kind u.name.name ++ (entities u.externals ++ seen_image c u))))
    ∙ sym (map-append (shown c) (own_entities u) (result_entities u.kind u.name.name ++ (entities u.externals ++ seen_image c u)))

pub function_added : (c : Config) (u : ProgramUnit) (xs ys : List Variable) → xs ≡ added [] (map (shown c) (own_entities u)) → ys ≡ added xs (map (shown c) (result_entities u.kind u.name.name)) → ys ≡ map (shown c) (function_entities u)
function_added c u xs ys p q =
    q ∙ ap (λ l. added l (map (shown c) (result_entities u.kind u.name.name))) p ∙ sym (added_both c [] (own_entities u) (result_entities u.kind u.name.name)) ∙ added_all [] (map (shown c) (function_entities u))

-- THE IMAGE

-- the two parts of the image
common_is : (v : rule.Variable) (a : Audience) → is_in_part Common a ≡ is_common (record { variable = v; audience = a })
common_is v Everybody = refl
common_is v CarPrograms = refl
common_is v GroupPrograms = refl

rest_is : (v : rule.Variable) (a : Audience) → is_in_part OfRole a ≡ not (is_common (record { variable = v; audience = a }))
rest_is v Everybody = refl
rest_is v CarPrograms = refl
rest_is v GroupPrograms = refl

-- what programs of a role see of one part of the image
part_is : (c : Config) (r : Option Role) (part : Part) (p : ImageName → Bool) → ((i : ImageName) → is_in_part part i.audience ≡ p i) → (is : List ImageName)
    → map (shown c) (shown_to true r (filter p is)) ≡ flat_map (seen_entry r part) (map (λ i. (i.variable.name, image_entry c i)) is)
part_is c r part p parts [] = refl
part_is c r part p parts (i ∷ is) =
    by (p i) (is_seen_by r i.audience) refl (part_is c r part p parts is)
    ∙ sym (ap (λ b. (if b && is_seen_by r i.audience then one else []) ++ rest) (parts i))
  where
    one : List Variable
    one = variable i.variable.name (type_of c i.variable.form) None ∷ []

    rest : List Variable
    rest = flat_map (seen_entry r part) (map (λ (j : ImageName). (j.variable.name, image_entry c j)) is)

    by : (b d : Bool) → is_seen_by r i.audience ≡ d → map (shown c) (shown_to true r (filter p is)) ≡ rest → map (shown c) (shown_to true r (if b then i ∷ filter p is else filter p is)) ≡ (if b && d then one else []) ++ rest
    by true true e same = ap (λ x. map (shown c) (if x then record { name = i.variable.name; form = i.variable.form; initial = None } ∷ shown_to true r (filter p is) else shown_to true r (filter p is))) e ∙ ap (λ vs. one ++ vs) same
    by true false e same = ap (λ x. map (shown c) (if x then record { name = i.variable.name; form = i.variable.form; initial = None } ∷ shown_to true r (filter p is) else shown_to true r (filter p is))) e ∙ same
    by false d e same = same

pub image_added : (c : Config) (list : List Variable) (u : ProgramUnit) → is_program u ≡ true
    → added list (map (shown c) (seen_image c u)) ≡ with_image list c (program_role c u.name.name c.programs)
image_added c list u is =
    added_both c list (seen_among c u (filter is_common all)) (seen_among c u (filter (λ i. not (is_common i)) all))
    ∙ ap₂ (λ xs ys. added (added list xs) ys) (seen Common is_common (λ i. common_is i.variable i.audience)) (seen OfRole (λ i. not (is_common i)) (λ i. rest_is i.variable i.audience))
  where
    all : List ImageName
    all = image_of c.cars.value c.floors.value c.slots.value

    r : Option Role
    r = program_role c u.name.name c.programs

    seen : (part : Part) (p : ImageName → Bool) → ((i : ImageName) → is_in_part part i.audience ≡ p i) → map (shown c) (seen_among c u (filter p all)) ≡ flat_map (seen_entry r part) (image_entries c)
    seen part p parts = ap (map (shown c)) (shown_is c u (filter p all) ∙ ap (λ b. shown_to b r (filter p all)) is) ∙ part_is c r part p parts all

-- both parts, by the rows of the table
pub parts_added : (c : Config) (role : Option Role) (rows : List ImageRow) (list mid last : List Variable) → map (named c) rows ≡ image_entries c → mid ≡ added list (flat_map (seen_entry role Common) (map (named c) rows)) → last ≡ added mid (flat_map (seen_entry role OfRole) (map (named c) rows))
    → last ≡ with_image list c role
parts_added c role rows list mid last are first second =
    second ∙ ap (λ l. added l (flat_map (seen_entry role OfRole) (map (named c) rows))) first
    ∙ ap (λ es. added (added list (flat_map (seen_entry role Common) es)) (flat_map (seen_entry role OfRole) es)) are

pub none_is : (c : Config) (u : ProgramUnit) → is_program u ≡ false → map (shown c) (seen_image c u) ≡ []
none_is c u is =
    let all : List ImageName = image_of c.cars.value c.floors.value c.slots.value in
    ap₂ (λ xs ys. map (shown c) (xs ++ ys)) (none_seen c u is (filter is_common all)) (none_seen c u is (filter (λ i. not (is_common i)) all))
