-- Slots are laid out as the definitions have them.
use Rattle.std.proofs.Common.{◌≡◌, ℕ, zero, suc, ◌^◌, ℤ, pos, ◌+ℤ◌, ◌≤ℤ◌, neg_ℤ, true, List, [], ◌∷◌, ◌++◌, map, refl, sym, ap, ap₂, ◌∙◌, append_assoc, append-nil, codes, Option, None, arith}
use Rattle.std.proofs.lemmas.Int.{ints}
use Rattle.std.proofs.lemmas.List.{map-append, append_cancel_left}
use Rattle.il_syntax.specs.declared.tree.Scalar.{Scalar as ScalarType}
use Rattle.il_syntax.specs.declared.tree.Subrange.{Subrange}
use Rattle.il_syntax.specs.declared.tree.Literal.{Literal}
use Rattle.il_syntax.specs.declared.tree.Form.{Form}
use Rattle.il_syntax.specs.declared.tree.Form.TheVariants.{Scalar as ScalarForm, Array as ArrayForm, Block as BlockForm}
use Rattle.il_syntax.specs.declared.tree.UnitKind.{UnitKind}
use Rattle.il_syntax.specs.declared.tree.UnitKind.TheVariants.{Function, FunctionBlock, Program}
use Rattle.il_syntax.specs.declared.tree.Unit.{Unit as ProgramUnit}
use Rattle.il_syntax.specs.declared.tree.Config.{Config}
use Rattle.il_statics.specs.declared.names.StandardBlock.{StandardBlock}
use Rattle.il_statics.specs.declared.standard.BlockWord.{BlockWord}
use Rattle.il_statics.specs.declared.standard.BlockWords.{BlockWords}
use Rattle.il_statics.specs.Names.{WordLists, is_program, is_program_kind, standard_words}
use Rattle.il_statics.specs.Tables.{word, word_lists}
use Rattle.base_maps.specs.NameMap.{Text}
use Rattle.il_semantics.specs.declared.value.Value.{Value}
use Rattle.il_semantics.specs.Meaning.{Entity, entities, own_entities, result_entities, block_entities, under, element_path, elements, width, initial_value, values_at, entity_values, instance_values}
use Rattle.load_scope.specs.declared.entry.BlockType.{BlockType}
use Rattle.load_scope.specs.Views.{block_type, type_of}
use Rattle.load_order.specs.Related.{tabulate}
use Rattle.load_code.specs.declared.laying.Opening.{Opening}
use Rattle.load_slots.specs.declared.variables.Variable.{Variable}
use Rattle.load_slots.specs.Cells.{cells_at, element_cells, entity_cells, instance_cells, IsShort, HasShort, AreNamed}
use Rattle.load_code.specs.Laying.{cell_of, value_of, element_opening, variable_openings, list_openings, block_openings, openings_to, openings_of, with_value, with_values}
use Rattle.load_slots.specs.Layout.{Rows, rows, cell, number_part, flag_part}
use Rattle.load_slots.specs.Making.{shown, word_variable, standard_list, block_lists, block_variables}
use Rattle.load_slots.specs.Places.{capped, seen_image, unit_entities}
use Rattle.load_slots.specs.Whole.{first_rows}
use Rattle.load_slots.proofs.Counted.{block_list}

-- the parts of an element's path
pub bracketed : (name digits : Text) → name ++ (codes "[" ++ (digits ++ codes "]")) ≡ name ++ codes "[" ++ digits ++ codes "]"
bracketed name digits = sym (append_assoc name (codes "[") (digits ++ codes "]")) ∙ sym (append_assoc (name ++ codes "[") digits (codes "]"))

pub dotted : (path name : Text) → path ++ (codes "." ++ name) ≡ path ++ codes "." ++ name
dotted path name = sym (append_assoc path (codes ".") name)

-- what a program sees beside its own variables
pub seen_list : (c : Config) (u : ProgramUnit) (vs : List Variable) → is_program u ≡ true → map (shown c) (own_entities u) ++ vs ≡ map (shown c) (unit_entities c u) → vs ≡ map (shown c) (entities u.externals ++ seen_image c u)
seen_list c u vs is all =
    append_cancel_left (map (shown c) (own_entities u)) vs (map (shown c) (entities u.externals ++ seen_image c u))
    (all ∙ ap (λ es. map (shown c) (own_entities u ++ (es ++ (entities u.externals ++ seen_image c u)))) (none u.kind is) ∙ map-append (shown c) (own_entities u) (entities u.externals ++ seen_image c u))
  where
    none : (k : UnitKind) → is_program_kind k ≡ true → result_entities k u.name.name ≡ []
    none (Function s place) h = cc
    none FunctionBlock h = refl
    none Program h = refl

-- TABLES OF VALUES

tab_same : {A : Type 0} (n : ℕ) (f g : ℕ → A) → ((k : ℕ) → f k ≡ g k) → tabulate n f ≡ tabulate n g
tab_same zero f g same = refl
tab_same (suc n) f g same = ap₂ (λ xs x. xs ++ x ∷ []) (tab_same n f g same) (same n)

tab_mapped : {A B : Type 0} (h : A → B) (n : ℕ) (f : ℕ → A) → map h (tabulate n f) ≡ tabulate n (λ k. h (f k))
tab_mapped h zero f = refl
tab_mapped h (suc n) f = map-append h (tabulate n f) (f n ∷ []) ∙ ap (λ xs. xs ++ h (f n) ∷ []) (tab_mapped h n f)

pub tab_front : {A : Type 0} (n : ℕ) (f : ℕ → A) → tabulate (suc n) f ≡ f 0 ∷ tabulate n (λ k. f (suc k))
tab_front zero f = refl
tab_front (suc n) f = ap (λ xs. xs ++ f (suc n) ∷ []) (tab_front n f)

cells_from : (n : ℕ) (path : Text) (z : ℤ) (s : ScalarType) → tabulate n (λ k. cell (element_path path (z +ℤ pos k)) s) ≡ element_cells n path z s
cells_from zero path z s = refl
cells_from (suc n) path z s =
    tab_front n (λ k. cell (element_path path (z +ℤ pos k)) s)
    ∙ ap₂ (λ y xs. cell (element_path path y) s ∷ xs) (let e : z +ℤ pos 0 ≡ z = omega (arith, ints) in e)
    (tab_same n (λ k. cell (element_path path (z +ℤ pos (suc k))) s) (λ k. cell (element_path path ((z +ℤ pos 1) +ℤ pos k)) s) (λ k. ap (λ y. cell (element_path path y) s) (let e : z +ℤ pos (suc k) ≡ (z +ℤ pos 1) +ℤ pos k = omega (arith, ints) in e))
    ∙ cells_from n path (z +ℤ pos 1) s)

values_from : (n : ℕ) (path : Text) (z : ℤ) (v : Value) → tabulate n (λ k. (element_path path (z +ℤ pos k), v)) ≡ elements n path z v
values_from zero path z v = refl
values_from (suc n) path z v =
    tab_front n (λ k. (element_path path (z +ℤ pos k), v))
    ∙ ap₂ (λ y (xs : List (Text × Value)). (element_path path y, v) ∷ xs) (let e : z +ℤ pos 0 ≡ z = omega (arith, ints) in e)
    (tab_same {A = Text × Value} n (λ k. (element_path path (z +ℤ pos (suc k)), v)) (λ k. (element_path path ((z +ℤ pos 1) +ℤ pos k), v)) (λ k. ap (λ y. (element_path path y, v)) (let e : z +ℤ pos (suc k) ≡ (z +ℤ pos 1) +ℤ pos k = omega (arith, ints) in e))
    ∙ values_from n path (z +ℤ pos 1) v)

-- VARIABLES

-- arrays that can be counted
abbrev pub AreShort : List Entity → Type 0
AreShort [] = Unit {0}
AreShort (e ∷ es) = HasShort e.form × AreShort es

pub named_short : (es : List Entity) → AreNamed es → AreShort es
named_short [] named = tt
named_short (e ∷ es) named = (named.3, named_short es named.4)

short_counted : (bounds : Subrange) → IsShort bounds.lower (width bounds) → capped (width bounds) ≡ width bounds
short_counted bounds is = counted (width bounds) bounds.lower is.least is.most
  where
    counted : (n : ℕ) (from : ℤ) → neg_ℤ (pos (2 ^ 62)) ≤ℤ from → (from +ℤ pos n) ≤ℤ pos (2 ^ 62) → capped n ≡ n
    counted n from least most = omega (arith, ints)

module _ (c : Config) where
  pub variables_are : (name : Text) → block_variables (block_lists c) (block_type c name) ≡ map (shown c) (block_entities c name)
  variables_are name = block_list c name

  module _ (shorts : (name : Text) → AreShort (block_entities c name)) where
    -- the cells of openings
    abbrev AreCells : ℕ → Type 0
    AreCells n = (path name : Text) → map cell_of (block_openings n (block_lists c) path (block_type c name)) ≡ instance_cells n c path name

    cells_of_form : (n : ℕ) → AreCells n → (path : Text) (initial : Option Literal) (f : Form) → HasShort f → map cell_of (variable_openings (block_openings n (block_lists c)) path initial (type_of c f)) ≡ cells_at (instance_cells n c) path f
    cells_of_form n are path initial (ScalarForm s) short = refl
    cells_of_form n are path initial (ArrayForm bounds s) short =
        ap (λ k. map cell_of (tabulate k (element_opening path bounds.lower s))) (short_counted bounds short) ∙ tab_mapped cell_of (width bounds) (element_opening path bounds.lower s) ∙ cells_from (width bounds) path bounds.lower s
    cells_of_form n are path initial (BlockForm name) short = are path name

    cells_of_list : (n : ℕ) → AreCells n → (path : Text) (es : List Entity) → AreShort es → map cell_of (list_openings (block_openings n (block_lists c)) path (map (shown c) es)) ≡ entity_cells (instance_cells n c) path es
    cells_of_list n are path [] short = refl
    cells_of_list n are path (e ∷ es) short =
        map-append cell_of (variable_openings (block_openings n (block_lists c)) (under path e.name) e.initial (type_of c e.form)) (list_openings (block_openings n (block_lists c)) path (map (shown c) es))
        ∙ ap₂ ◌++◌ (cells_of_form n are (under path e.name) e.initial e.form short.0) (cells_of_list n are path es short.1)

    are_cells : (n : ℕ) → AreCells n
    are_cells zero path name = refl
    are_cells (suc n) path name =
        ap (λ vs. map cell_of (list_openings (block_openings n (block_lists c)) path vs)) (variables_are name) ∙ cells_of_list n (are_cells n) path (block_entities c name) (shorts name)

    pub cells_to : (n : ℕ) (path : Text) (es : List Entity) → AreShort es → map cell_of (openings_to n c path es) ≡ entity_cells (instance_cells n c) path es
    cells_to n path es short = cells_of_list n (are_cells n) path es short

    pub cells_are : (path : Text) (es : List Entity) → AreShort es → map cell_of (openings_of c path es) ≡ entity_cells (instance_cells 16 c) path es
    cells_are path es short = cells_of_list 16 (are_cells 16) path es short

    -- their values
    abbrev AreValues : ℕ → Type 0
    AreValues n = (path name : Text) → map value_of (block_openings n (block_lists c) path (block_type c name)) ≡ instance_values n c path name

    values_of_form : (n : ℕ) → AreValues n → (path : Text) (initial : Option Literal) (f : Form) → HasShort f
        → map value_of (variable_openings (block_openings n (block_lists c)) path initial (type_of c f)) ≡ values_at (instance_values n c) path initial f
    values_of_form n are path initial (ScalarForm s) short = refl
    values_of_form n are path initial (ArrayForm bounds s) short =
        ap (λ k. map value_of (tabulate k (element_opening path bounds.lower s))) (short_counted bounds short) ∙ tab_mapped value_of (width bounds) (element_opening path bounds.lower s)
        ∙ values_from (width bounds) path bounds.lower (initial_value s None)
    values_of_form n are path initial (BlockForm name) short = are path name

    values_of_list : (n : ℕ) → AreValues n → (path : Text) (es : List Entity) → AreShort es
        → map value_of (list_openings (block_openings n (block_lists c)) path (map (shown c) es)) ≡ entity_values (instance_values n c) path es
    values_of_list n are path [] short = refl
    values_of_list n are path (e ∷ es) short =
        map-append value_of (variable_openings (block_openings n (block_lists c)) (under path e.name) e.initial (type_of c e.form)) (list_openings (block_openings n (block_lists c)) path (map (shown c) es))
        ∙ ap₂ ◌++◌ (values_of_form n are (under path e.name) e.initial e.form short.0) (values_of_list n are path es short.1)

    are_values : (n : ℕ) → AreValues n
    are_values zero path name = refl
    are_values (suc n) path name =
        ap (λ vs. map value_of (list_openings (block_openings n (block_lists c)) path vs)) (variables_are name) ∙ values_of_list n (are_values n) path (block_entities c name) (shorts name)

    pub values_to : (n : ℕ) (path : Text) (es : List Entity) → AreShort es → map value_of (openings_to n c path es) ≡ entity_values (instance_values n c) path es
    values_to n path es short = values_of_list n (are_values n) path es short

    pub values_are : (path : Text) (es : List Entity) → AreShort es → map value_of (openings_of c path es) ≡ entity_values (instance_values 16 c) path es
    values_are path es short = values_of_list 16 (are_values 16) path es short

-- FIRST ROWS

rows_after : (r : Rows) (os : List Opening) → with_values r os ≡ rows (r.numbers ++ map (λ o. number_part o.value) os) (r.flags ++ map (λ o. flag_part o.value) os)
rows_after r [] = ap₂ rows (sym (append-nil r.numbers)) (sym (append-nil r.flags))
rows_after r (o ∷ os) =
    rows_after (with_value r o.value) os
    ∙ ap₂ rows (append_assoc r.numbers (number_part o.value ∷ []) (map (λ o. number_part o.value) os)) (append_assoc r.flags (flag_part o.value ∷ []) (map (λ o. flag_part o.value) os))

map_twice : {A B C : Type 0} (f : B → C) (g : A → B) (xs : List A) → map (λ x. f (g x)) xs ≡ map f (map g xs)
map_twice f g [] = refl
map_twice f g (x ∷ xs) = ap (λ ys. f (g x) ∷ ys) (map_twice f g xs)

pub first_is : (os : List Opening) → with_values (rows [] []) os ≡ first_rows (map value_of os)
first_is os = rows_after (rows [] []) os ∙ ap₂ rows (map_twice (λ (v : Text × Value). number_part v.1) value_of os) (map_twice (λ (v : Text × Value). flag_part v.1) value_of os)

-- STANDARD BLOCKS

-- the slots of variables, one list after another
listed_both : (inner : Text → Option BlockType → List Opening) (path : Text) (xs ys : List Variable) → list_openings inner path (xs ++ ys) ≡ list_openings inner path xs ++ list_openings inner path ys
listed_both inner path [] ys = refl
listed_both inner path (x ∷ xs) ys =
    ap (λ os. variable_openings inner (under path x.name) x.initial x.declared ++ os) (listed_both inner path xs ys)
    ∙ sym (append_assoc (variable_openings inner (under path x.name) x.initial x.declared) (list_openings inner path xs) (list_openings inner path ys))

words_mapped : (ws : List BlockWord) → map (λ w. word_variable (word w)) ws ≡ map word_variable (map word ws)
words_mapped [] = refl
words_mapped (w ∷ ws) = ap (λ vs. word_variable (word w) ∷ vs) (words_mapped ws)

-- the words of three lists are all words of a standard block
pub words_listed : (s : StandardBlock) (ws : BlockWords) (path : Text) (first second third all : List Opening) (inner : Text → Option BlockType → List Opening) → word_lists ws ≡ standard_words s
    → second ≡ first ++ list_openings inner path (map (λ w. word_variable (word w)) ws.inputs.now)
    → third ≡ second ++ list_openings inner path (map (λ w. word_variable (word w)) ws.outputs.now)
    → all ≡ third ++ list_openings inner path (map (λ w. word_variable (word w)) ws.inner.now)
    → all ≡ first ++ list_openings inner path (standard_list s)
words_listed s ws path first second third all inner are inputs outputs rest =
    rest
    ∙ ap (λ os. os ++ of_words ws.inner.now) (outputs ∙ ap (λ os. os ++ of_words ws.outputs.now) inputs)
    ∙ append_assoc (first ++ of_words ws.inputs.now) (of_words ws.outputs.now) (of_words ws.inner.now)
    ∙ append_assoc first (of_words ws.inputs.now) (of_words ws.outputs.now ++ of_words ws.inner.now)
    ∙ ap (λ os. first ++ os) (sym (append_assoc (of_words ws.inputs.now) (of_words ws.outputs.now) (of_words ws.inner.now)) ∙ together)
  where
    of_words : List BlockWord → List Opening
    of_words words = list_openings inner path (map (λ w. word_variable (word w)) words)

    mapped : (words : List BlockWord) → of_words words ≡ list_openings inner path (map word_variable (map word words))
    mapped words = ap (list_openings inner path) (words_mapped words)

    together : (of_words ws.inputs.now ++ of_words ws.outputs.now) ++ of_words ws.inner.now ≡ list_openings inner path (standard_list s)
    together =
        ap₂ ◌++◌ (ap₂ ◌++◌ (mapped ws.inputs.now) (mapped ws.outputs.now)) (mapped ws.inner.now)
        ∙ ap (λ os. os ++ list_openings inner path (map word_variable (map word ws.inner.now))) (sym (listed_both inner path (map word_variable (map word ws.inputs.now)) (map word_variable (map word ws.outputs.now))) ∙ ap (list_openings inner path) (sym (map-append word_variable (map word ws.inputs.now) (map word ws.outputs.now))))
        ∙ sym (listed_both inner path (map word_variable (map word ws.inputs.now ++ map word ws.outputs.now)) (map word_variable (map word ws.inner.now)))
        ∙ ap (list_openings inner path) (sym (map-append word_variable (map word ws.inputs.now ++ map word ws.outputs.now) (map word ws.inner.now)))
        ∙ ap (λ (l : WordLists). list_openings inner path (map word_variable (l.inputs ++ l.outputs ++ l.inner))) are
