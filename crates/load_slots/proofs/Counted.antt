-- Sizes and offsets are those of the layout.
use Rattle.std.proofs.Common.{◌≡◌, ℕ, zero, suc, ◌+◌, ◌-◌, ◌<◌, get_or, Bool, true, false, List, [], ◌∷◌, ◌++◌, map, length, slice_get, refl, sym, ap, ap₂, ◌∙◌, Option, Some, None, drop, append_assoc, arith, length-append}
use Rattle.std.proofs.lemmas.List.{map-append}
use Rattle.std.specs.Option.{option_or}
use Rattle.std.specs.Prelude.{Result, Ok, Err, IfOk, option_map, option_and_then, bytes_eq, if◌then◌else◌}
use Rattle.std.proofs.lemmas.Option.{same_Some}
use Rattle.std.proofs.lemmas.Slice.Eq.{bytes_eq-Decides}
use Rattle.il_syntax.specs.declared.tree.Elementary.{Elementary}
use Rattle.il_syntax.specs.declared.tree.Form.{Form}
use Rattle.il_syntax.specs.declared.tree.Form.TheVariants.{Scalar as ScalarForm, Array as ArrayForm, Block as BlockForm}
use Rattle.il_syntax.specs.declared.tree.Unit.{Unit as ProgramUnit}
use Rattle.il_syntax.specs.declared.tree.Config.{Config}
use Rattle.il_statics.specs.declared.names.StandardBlock.{StandardBlock}
use Rattle.il_statics.specs.Names.{WordLists, or_else, standard_block, standard_variables, standard_words, standard_inner, with_forms, word_form, function_block_named, is_function_block}
use Rattle.il_statics.specs.Tables.{word, word_lists}
use Rattle.il_statics.specs.declared.standard.BlockWord.{BlockWord}
use Rattle.il_statics.specs.declared.standard.BlockWords.{BlockWords}
use Rattle.base_maps.specs.NameMap.{NameMap, Text, get, get-empty}
use Rattle.il_semantics.specs.Meaning.{Entity, uninitialized, own_entities, standard_entities, block_entities}
use Rattle.load_scope.specs.declared.entry.BlockType.{BlockType}
use Rattle.load_scope.specs.declared.entry.BlockType.TheVariants.{Standard, Own}
use Rattle.load_scope.specs.Words.{is_name}
use Rattle.load_scope.specs.Views.{type_of, passes, unit_number, block_type, function_block_number}
use Rattle.load_scope.proofs.Filled.{get-with_new}
use Rattle.load_scope.proofs.Laws.{function_block_found}
use Rattle.load_scope.proofs.Seen.{read_at}
use Rattle.load_slots.specs.declared.variables.Variable.{Variable}
use Rattle.load_slots.specs.declared.offsets.Offsets.{Offsets}
use Rattle.load_slots.specs.Cells.{form_in, offset_in}
use Rattle.load_slots.specs.Places.{capped, form_width, entities_width, block_width, unit_entities}
use Rattle.load_slots.specs.Making.{shown, word_variable, all_words, list_if, block_lists, block_variables, size_or_zero, block_size, variable_size, list_size, sizes_to, with_offset, with_offsets, no_offsets, offsets_of, sizes_of, unit_offsets, place_from, standard_offset}
use Rattle.load_slots.proofs.Declared.{block_is_own, block_is_standard}

pub offsets_twice : (sizes : List ℕ) (o : Offsets) (vs ws : List Variable) → with_offsets sizes o (vs ++ ws) ≡ with_offsets sizes (with_offsets sizes o vs) ws
offsets_twice sizes o [] ws = refl
offsets_twice sizes o (v ∷ vs) ws = offsets_twice sizes (with_offset o v.name (variable_size true sizes v.declared)) vs ws

-- LISTS

pub mapped_at : {A B : Type 0} (f : A → B) (xs : List A) (k : ℕ) (x : A) → slice_get xs k ≡ Some x → slice_get (map f xs) k ≡ Some (f x)
mapped_at f [] k x is = cc
mapped_at f (y ∷ xs) zero x is = ap (λ z. Some (f z)) (same_Some y x is)
mapped_at f (y ∷ xs) (suc k) x is = mapped_at f xs k x is

pub length_mapped : {A B : Type 0} (f : A → B) (xs : List A) → length (map f xs) ≡ length xs
length_mapped f [] = refl
length_mapped f (x ∷ xs) = ap suc (length_mapped f xs)

-- BLOCKS

-- what an own block of a number is
pub record IsOwnBlock (c : Config) (name : Text) (k : ℕ) : Type 0 where
  pub unit : ProgramUnit
  pub there : slice_get c.units k ≡ Some unit
  pub is : function_block_named c name ≡ Some unit

own_there : (c : Config) (name : Text) (k : ℕ) → function_block_number c name ≡ Some k → (v : ProgramUnit) × (slice_get c.units k ≡ Some v)
unfolding function_block_number
own_there c name k is = by_number (unit_number c name) is
  where
    by_test : (j : ℕ) (v : ProgramUnit) (b : Bool) → slice_get c.units j ≡ Some v → (if b then Some j else None) ≡ Some k → (w : ProgramUnit) × (slice_get c.units k ≡ Some w)
    by_test j v true at e = (v, ap (slice_get c.units) (sym (same_Some j k e)) ∙ at)
    by_test j v false at e = cc

    by_unit : (j : ℕ) (o : Option ProgramUnit) → slice_get c.units j ≡ o → (if passes is_function_block o then Some j else None) ≡ Some k → (w : ProgramUnit) × (slice_get c.units k ≡ Some w)
    by_unit j None at e = cc
    by_unit j (Some v) at e = by_test j v (is_function_block v) at e

    by_number : (o : Option ℕ) → option_and_then (λ j. if passes is_function_block (slice_get c.units j) then Some j else None) o ≡ Some k → (w : ProgramUnit) × (slice_get c.units k ≡ Some w)
    by_number None e = cc
    by_number (Some j) e = by_unit j (slice_get c.units j) refl e

pub own_block : (c : Config) (name : Text) (k : ℕ) → function_block_number c name ≡ Some k → IsOwnBlock c name k
own_block c name k is =
    let v = own_there c name k is in
    record { unit = v.0; there = v.1; is = sym (ap (option_and_then (slice_get c.units)) (sym is) ∙ function_block_found c name) ∙ v.1 }

-- what block a name is that of
pub data IsBlock (c : Config) (name : Text) : Option BlockType → Type 0 where
  of_standard : (s : StandardBlock) (b : Option BlockType) → standard_block name ≡ Some s → b ≡ Some (Standard s) → IsBlock c name b
  of_own : (k : ℕ) (b : Option BlockType) → IsOwnBlock c name k → b ≡ Some (Own k) → IsBlock c name b
  of_none : (b : Option BlockType) → block_entities c name ≡ [] → b ≡ None → IsBlock c name b

pub which_block : (c : Config) (name : Text) → IsBlock c name (block_type c name)
unfolding block_type
which_block c name = by_standard (standard_block name) refl
  where
    by_number : standard_block name ≡ None → (o : Option ℕ) → function_block_number c name ≡ o → IsBlock c name (or_else (option_map (λ b. Standard b) (standard_block name)) (option_map Own (function_block_number c name)))
    by_number nothing (Some k) at = of_own k _ (own_block c name k at) (rw nothing (rw at refl))
    by_number nothing None at =
        let no_function : function_block_named c name ≡ None = sym (function_block_found c name) ∙ ap (option_and_then (slice_get c.units)) at in
        of_none _ (rw no_function (rw nothing refl)) (rw nothing (rw at refl))

    by_standard : (o : Option StandardBlock) → standard_block name ≡ o → IsBlock c name (or_else (option_map (λ b. Standard b) (standard_block name)) (option_map Own (function_block_number c name)))
    by_standard (Some s) is = of_standard s _ is (rw is refl)
    by_standard None is = by_number is (function_block_number c name) refl

-- all variables of a standard block are its words
pub forms_are : (s : StandardBlock) → (standard_variables s).inputs ++ (standard_variables s).outputs ++ (standard_variables s).inner ≡ with_forms (all_words s)
forms_are s = sym (
    map-append (λ (w : Text × Elementary). (w.0, word_form w.1)) ((standard_words s).inputs ++ (standard_words s).outputs) (standard_words s).inner
    ∙ ap (λ vs. vs ++ standard_inner s) (map-append (λ (w : Text × Elementary). (w.0, word_form w.1)) (standard_words s).inputs (standard_words s).outputs))

pub words_are : (s : StandardBlock) → standard_entities (standard_variables s) ≡ uninitialized (with_forms (all_words s))
words_are s = ap uninitialized (forms_are s)

words_shown : (c : Config) (ws : List (Text × Elementary)) → map (shown c) (uninitialized (with_forms ws)) ≡ map word_variable ws
words_shown c [] = refl
words_shown c (w ∷ ws) = ap (λ vs. word_variable w ∷ vs) (words_shown c ws)

-- the variables of a block, by the lists of own ones
pub block_list : (c : Config) (name : Text) → block_variables (block_lists c) (block_type c name) ≡ map (shown c) (block_entities c name)
block_list c name = by_case (block_type c name) (which_block c name)
  where
    by_case : (o : Option BlockType) → IsBlock c name o → block_variables (block_lists c) o ≡ map (shown c) (block_entities c name)
    by_case _ (of_standard s o at e) = ap (block_variables (block_lists c)) e ∙ sym (ap (map (shown c)) (block_is_standard c name s at ∙ words_are s) ∙ words_shown c (all_words s))
    by_case _ (of_own k o v e) =
        ap (block_variables (block_lists c)) e ∙ ap list_if (mapped_at (λ u. map (shown c) (own_entities u)) c.units k v.unit v.there) ∙ ap (map (shown c)) (sym (block_is_own c name v.unit v.is))
    by_case _ (of_none o at e) = ap (block_variables (block_lists c)) e ∙ ap (map (shown c)) (sym at)

-- SIZES

capped_twice : (a b : ℕ) → capped (capped a + capped b) ≡ capped (a + b)
capped_twice a b = omega arith

-- whether sizes are known, so many deep
abbrev known : ℕ → Bool
known zero = false
known (suc n) = true

-- the sizes of blocks one less deep
abbrev sizes_below : ℕ → List (List Variable) → List ℕ
sizes_below zero lists = []
sizes_below (suc n) lists = sizes_to n lists

-- each word of a standard block takes one slot
words_wide : (inner : Text → ℕ) (ws : List (Text × Elementary)) → entities_width inner (uninitialized (with_forms ws)) ≡ length ws
words_wide inner [] = refl
words_wide inner (w ∷ ws) = let rest = words_wide inner ws in (let e : 1 + entities_width inner (uninitialized (with_forms ws)) ≡ suc (length ws) = omega (arith, rest) in e)

module _ (c : Config) where
  -- what the sizes of blocks are to be
  abbrev AreSizes : ℕ → Type 0
  AreSizes n = (name : Text) → block_size (known n) (sizes_below n (block_lists c)) (block_type c name) ≡ capped (block_width n c name)

  form_counted : (n : ℕ) → AreSizes n → (f : Form) → variable_size (known n) (sizes_below n (block_lists c)) (type_of c f) ≡ capped (form_width (block_width n c) f)
  form_counted n are (ScalarForm s) = refl
  form_counted n are (ArrayForm bounds element) = refl
  form_counted n are (BlockForm name) = are name

  list_counted : (n : ℕ) → AreSizes n → (a : ℕ) (es : List Entity) → list_size (known n) (sizes_below n (block_lists c)) (capped a) (map (shown c) es) ≡ capped (a + entities_width (block_width n c) es)
  list_counted n are a [] = ap capped (let e : a ≡ a + 0 = omega arith in e)
  list_counted n are a (e ∷ es) =
      ap (λ k. list_size (known n) (sizes_below n (block_lists c)) (capped (capped a + k)) (map (shown c) es)) (form_counted n are e.form)
      ∙ ap (λ k. list_size (known n) (sizes_below n (block_lists c)) k (map (shown c) es)) (capped_twice a (form_width (block_width n c) e.form))
      ∙ list_counted n are (a + form_width (block_width n c) e.form) es
      ∙ ap capped (let f : a + form_width (block_width n c) e.form + entities_width (block_width n c) es ≡ a + (form_width (block_width n c) e.form + entities_width (block_width n c) es) = omega arith in f)

  sizes_are : (n : ℕ) → sizes_to n (block_lists c) ≡ map (λ vs. list_size (known n) (sizes_below n (block_lists c)) 0 vs) (block_lists c)
  sizes_are zero = refl
  sizes_are (suc n) = refl

  -- each is as wide as its slots are many, as far as that can be counted
  pub are_sizes : (n : ℕ) → AreSizes n
  are_sizes zero name = refl
  are_sizes (suc n) name = by_case (block_type c name) (which_block c name) (are_sizes n)
    where
      by_case : (o : Option BlockType) → IsBlock c name o → AreSizes n → block_size true (sizes_to n (block_lists c)) o ≡ capped (entities_width (block_width n c) (block_entities c name))
      by_case _ (of_standard s o at e) below =
          ap (block_size true (sizes_to n (block_lists c))) e
          ∙ ap capped (sym (ap (entities_width (block_width n c)) (block_is_standard c name s at ∙ words_are s) ∙ words_wide (block_width n c) (all_words s)))
      by_case _ (of_own k o v e) below =
          ap (block_size true (sizes_to n (block_lists c))) e
          ∙ ap (λ ss. size_or_zero (slice_get ss k)) (sizes_are n)
          ∙ ap size_or_zero (mapped_at (λ vs. list_size (known n) (sizes_below n (block_lists c)) 0 vs) (block_lists c) k (map (shown c) (own_entities v.unit)) (mapped_at (λ u. map (shown c) (own_entities u)) c.units k v.unit v.there))
          ∙ list_counted n below 0 (own_entities v.unit)
          ∙ ap capped (let z : 0 + entities_width (block_width n c) (own_entities v.unit) ≡ entities_width (block_width n c) (own_entities v.unit) = omega arith in z)
          ∙ ap (λ es. capped (entities_width (block_width n c) es)) (sym (block_is_own c name v.unit v.is))
      by_case _ (of_none o here e) below = ap (block_size true (sizes_to n (block_lists c))) e ∙ ap (λ es. capped (entities_width (block_width n c) es)) (sym here)

-- sizes that stay the same once stay so
sizes_stay : (n k : ℕ) (lists : List (List Variable)) → sizes_to (suc n) lists ≡ sizes_to n lists → sizes_to (k + n) lists ≡ sizes_to n lists
sizes_stay n zero lists e = ap (λ i. sizes_to i lists) (let z : 0 + n ≡ n = omega arith in z)
sizes_stay n (suc k) lists e =
    ap (λ i. sizes_to i lists) (let z : suc k + n ≡ suc (k + n) = omega arith in z) ∙ ap (λ ss. map (λ vs. list_size true ss 0 vs) lists) (sizes_stay n k lists e) ∙ e

pub sizes_end : (n : ℕ) (lists : List (List Variable)) (ss next : List ℕ) → n < 16 → ss ≡ sizes_to n lists → next ≡ map (λ vs. list_size true ss 0 vs) lists → next ≡ ss → next ≡ sizes_to 16 lists
sizes_end n lists ss next low at made same =
    let stays : sizes_to (suc n) lists ≡ sizes_to n lists = ap (λ ts. map (λ vs. list_size true ts 0 vs) lists) (sym at) ∙ sym made ∙ same ∙ at in
    same ∙ at ∙ sym (sizes_stay n (16 - n) lists stays) ∙ ap (λ k. sizes_to k lists) (let e : 16 - n + n ≡ 16 = omega (arith, low) in e)

-- `==` of sizes
pub same_sizes : (first second : List ℕ) (r : Bool) → r ≡ bytes_eq first second → r ≡ true → first ≡ second
same_sizes first second r is same = (bytes_eq-Decides first second).0 (sym is ∙ same)

-- OFFSETS

-- how far the variable of a name is from the first, as far as that can be counted
abbrev pub offset_found : (Form → ℕ) → List Entity → Text → Option ℕ
offset_found wide es name = option_map (λ f. capped (offset_in wide es name)) (form_in es name)

module _ (c : Config) where
  abbrev sizes : List ℕ
  sizes = sizes_to 16 (block_lists c)

  abbrev wide : Form → ℕ
  wide = form_width (block_width 17 c)

  behind : (es : List Entity) (o : Offsets) (a : ℕ) → o.total ≡ capped a → (q : Text)
      → get (with_offsets sizes o (map (shown c) es)).table q ≡ or_else (get o.table q) (option_map (λ f. capped (a + offset_in wide es q)) (form_in es q))
  behind [] o a is q = by_entry (get o.table q)
    where
      by_entry : (x : Option ℕ) → x ≡ or_else x None
      by_entry None = refl
      by_entry (Some k) = refl
  behind (e ∷ es) o a is q =
      behind es (with_offset o e.name (variable_size true sizes (type_of c e.form))) (a + wide e.form)
      (ap₂ (λ t k. capped (t + k)) is (form_counted c 17 (are_sizes c 17) e.form) ∙ capped_twice a (wide e.form)) q
      ∙ ap (λ x. or_else x (option_map (λ f. capped (a + wide e.form + offset_in wide es q)) (form_in es q))) (get-with_new o.table e.name o.total q)
      ∙ by_name (get o.table q) (bytes_eq e.name q)
    where
      by_name : (x : Option ℕ) (b : Bool) → or_else (or_else x (if b then Some o.total else None)) (option_map (λ f. capped (a + wide e.form + offset_in wide es q)) (form_in es q))
          ≡ or_else x (option_map (λ f. capped (a + (if b then 0 else wide e.form + offset_in wide es q))) (if b then Some e.form else form_in es q))
      by_name (Some k) b = refl
      by_name None true = ap Some (is ∙ ap capped (let z : a ≡ a + 0 = omega arith in z))
      by_name None false = ap (λ k. option_map (λ f. capped k) (form_in es q)) (let z : a + wide e.form + offset_in wide es q ≡ a + (wide e.form + offset_in wide es q) = omega arith in z)

  -- a table has each name's offset
  pub offsets_are : (es : List Entity) (q : Text) → get (offsets_of sizes (map (shown c) es)) q ≡ offset_found wide es q
  offsets_are es q =
      behind es no_offsets 0 refl q ∙ ap (λ x. or_else x (option_map (λ f. capped (0 + offset_in wide es q)) (form_in es q))) (get-empty q)
      ∙ ap (λ k. option_map (λ f. capped k) (form_in es q)) (let z : 0 + offset_in wide es q ≡ offset_in wide es q = omega arith in z)

-- A UNIT'S LIST

pub unit_list : (c : Config) (u : ProgramUnit) (mine others : List Variable) (t : NameMap ℕ) → mine ≡ map (shown c) (own_entities u) → map (shown c) (own_entities u) ++ others ≡ map (shown c) (unit_entities c u)
    → t ≡ offsets_of (sizes_of c) (mine ++ others) → t ≡ unit_offsets c u
unit_list c u mine others t is all made = made ∙ ap (λ vs. offsets_of (sizes_of c) (vs ++ others)) is ∙ ap (offsets_of (sizes_of c)) all

-- the list of a unit's own variables
other_or : {A : Type 0} (xs : List A) (k : ℕ) (d e : A) → k < length xs → get_or xs k d ≡ get_or xs k e
other_or [] k d e low = absurd (omega arith)
other_or (x ∷ xs) zero d e low = refl
other_or (x ∷ xs) (suc k) d e low = other_or xs k d e (omega arith)

pub own_list : (c : Config) (lists : List (List Variable)) (k : ℕ) (u : ProgramUnit) (vs d : List Variable) → lists ≡ block_lists c → slice_get c.units k ≡ Some u → k < length lists → vs ≡ get_or lists k d → vs ≡ map (shown c) (own_entities u)
own_list c lists k u vs d are there low is =
    let at : slice_get lists k ≡ Some vs = read_at lists lists k vs refl low (is ∙ other_or lists k d vs low) in
    same_Some vs (map (shown c) (own_entities u)) (sym at ∙ ap (λ ls. slice_get ls k) are ∙ mapped_at (λ w. map (shown c) (own_entities w)) c.units k u there)

pub lists_many : (c : Config) (lists : List (List Variable)) (k : ℕ) → lists ≡ block_lists c → k < length c.units → k < length lists
lists_many c lists k are low =
    let size : length lists ≡ length c.units = ap length are ∙ length_mapped (λ u. map (shown c) (own_entities u)) c.units in
    omega (arith, size, low)

-- the unit of a number
pub unit_at : (c : Config) (units : List ProgramUnit) (k : ℕ) (u : ProgramUnit) → units ≡ c.units → k < length c.units → u ≡ get_or units k u → slice_get c.units k ≡ Some u
unit_at c units k u same low is = let size : length units ≡ length c.units = ap length same in sym (ap (λ us. slice_get us k) same) ∙ read_at units units k u refl (omega (arith, size, low)) is

-- and its list
pub list_of : (c : Config) (units : List ProgramUnit) (lists : List (List Variable)) (k : ℕ) (u : ProgramUnit) (vs d : List Variable) → units ≡ c.units → lists ≡ block_lists c → k < length c.units → u ≡ get_or units k u → vs ≡ get_or lists k d → vs ≡ map (shown c) (own_entities u)
list_of c units lists k u vs d same are low here is = own_list c lists k u vs d are (unit_at c units k u same low here) (lists_many c lists k are low) is

-- what is made of the unit of a number
pub table_of : {E : Type 0} (c : Config) (k : ℕ) (v : ProgramUnit) (r : Result (NameMap ℕ) E) → slice_get c.units k ≡ Some v → IfOk r (λ t. t ≡ unit_offsets c v) → IfOk r (λ t. (u : ProgramUnit) → slice_get c.units k ≡ Some u → t ≡ unit_offsets c u)
table_of c k v (Ok t) there made = λ u found. made ∙ ap (unit_offsets c) (same_Some v u (sym there ∙ found))
table_of c k v (Err e) there made = tt

pub one_there : {A : Type 0} (xs : List A) (i : ℕ) → i < length xs → (x : A) × (slice_get xs i ≡ Some x) × (drop i xs ≡ x ∷ drop (i + 1) xs)
one_there [] i low = absurd (omega arith)
one_there (x ∷ xs) zero low = (x, refl, refl)
one_there (x ∷ xs) (suc i) low = let r = one_there xs i (omega arith) in (r.0, r.1, r.2 ∙ ap (λ n. r.0 ∷ drop n (x ∷ xs)) (let e : suc (i + 1) ≡ suc i + 1 = omega arith in e))

-- one more of those that are made of some
pub next_made : {A B : Type 0} (f : A → B) (xs : List A) (i : ℕ) (ts : List B) (t : B) (after all : List B) → i < length xs → ((x : A) → slice_get xs i ≡ Some x → t ≡ f x) → after ≡ ts ++ t ∷ [] → ts ++ map f (drop i xs) ≡ all → after ++ map f (drop (i + 1) xs) ≡ all
next_made f xs i ts t after all low made grown rest =
    let r = one_there xs i low in
    ap (λ bs. bs ++ map f (drop (i + 1) xs)) (grown ∙ ap (λ b. ts ++ b ∷ []) (made r.0 r.1)) ∙ append_assoc ts (f r.0 ∷ []) (map f (drop (i + 1) xs)) ∙ ap (λ ys. ts ++ map f ys) (sym r.2) ∙ rest

pub sizes_found : (c : Config) (lists : List (List Variable)) (ss : List ℕ) → lists ≡ block_lists c → ss ≡ sizes_to 16 lists → ss ≡ sizes_of c
sizes_found c lists ss is made = made ∙ ap (sizes_to 16) is

-- THE WORDS OF STANDARD BLOCKS

-- where a name is among some, counted from a place on
place_shifted : (k : ℕ) (vs : List Variable) (q : Text) → place_from k vs q ≡ option_map (λ n. k + n) (place_from 0 vs q)
place_shifted k [] q = refl
place_shifted k (v ∷ vs) q = by_name (is_name v.name q) (place_shifted (k + 1) vs q) (place_shifted 1 vs q)
  where
    moved : (o : Option ℕ) → option_map (λ n. k + 1 + n) o ≡ option_map (λ n. k + n) (option_map (λ n. 1 + n) o)
    moved None = refl
    moved (Some n) = ap Some (let e : k + 1 + n ≡ k + (1 + n) = omega arith in e)

    by_name : (b : Bool) → place_from (k + 1) vs q ≡ option_map (λ n. k + 1 + n) (place_from 0 vs q) → place_from 1 vs q ≡ option_map (λ n. 1 + n) (place_from 0 vs q)
        → (if b then Some k else place_from (k + 1) vs q) ≡ option_map (λ n. k + n) (if b then Some 0 else place_from 1 vs q)
    by_name true rest one = ap Some (let e : k ≡ k + 0 = omega arith in e)
    by_name false rest one = rest ∙ moved (place_from 0 vs q) ∙ ap (option_map (λ n. k + n)) (sym one)

-- and after others
place_behind : (xs ys : List (Text × Elementary)) (q : Text)
    → place_from 0 (map word_variable (xs ++ ys)) q ≡ or_else (place_from 0 (map word_variable xs) q) (option_map (λ n. length xs + n) (place_from 0 (map word_variable ys) q))
place_behind [] ys q = kept (place_from 0 (map word_variable ys) q)
  where
    kept : (o : Option ℕ) → o ≡ option_map (λ n. 0 + n) o
    kept None = refl
    kept (Some n) = ap Some (let e : n ≡ 0 + n = omega arith in e)
place_behind (x ∷ xs) ys q =
    by_name (is_name x.0 q) (place_shifted 1 (map word_variable (xs ++ ys)) q ∙ ap (option_map (λ n. 1 + n)) (place_behind xs ys q) ∙ both (place_from 0 (map word_variable xs) q) (place_from 0 (map word_variable ys) q) ∙ ap (λ o. or_else o (option_map (λ n. suc (length xs) + n) (place_from 0 (map word_variable ys) q))) (sym (place_shifted 1 (map word_variable xs) q)))
  where
    one_more : (o : Option ℕ) → option_map (λ n. 1 + n) (option_map (λ n. length xs + n) o) ≡ option_map (λ n. suc (length xs) + n) o
    one_more None = refl
    one_more (Some n) = ap Some (let e : 1 + (length xs + n) ≡ suc (length xs) + n = omega arith in e)

    both : (o p : Option ℕ) → option_map (λ n. 1 + n) (or_else o (option_map (λ n. length xs + n) p)) ≡ or_else (option_map (λ n. 1 + n) o) (option_map (λ n. suc (length xs) + n) p)
    both (Some k) p = refl
    both None p = one_more p

    by_name : (b : Bool) → place_from 1 (map word_variable (xs ++ ys)) q ≡ or_else (place_from 1 (map word_variable xs) q) (option_map (λ n. suc (length xs) + n) (place_from 0 (map word_variable ys) q))
        → (if b then Some 0 else place_from 1 (map word_variable (xs ++ ys)) q) ≡ or_else (if b then Some 0 else place_from 1 (map word_variable xs) q) (option_map (λ n. suc (length xs) + n) (place_from 0 (map word_variable ys) q))
    by_name true rest = refl
    by_name false rest = rest

-- the place of a word among all, from its places among three lists
placed_all : (xs ys zs : List (Text × Elementary)) (q : Text) (a b : ℕ) → a ≡ length xs → b ≡ capped (a + length ys)
    → or_else (or_else (option_map (λ k. capped (0 + k)) (place_from 0 (map word_variable xs) q)) (option_map (λ k. capped (a + k)) (place_from 0 (map word_variable ys) q))) (option_map (λ k. capped (b + k)) (place_from 0 (map word_variable zs) q))
    ≡ option_map capped (place_from 0 (map word_variable (xs ++ ys ++ zs)) q)
placed_all xs ys zs q a b is_a is_b =
    sym (ap (option_map capped) (place_behind (xs ++ ys) zs q ∙ ap (λ o. or_else o (option_map (λ n. length (xs ++ ys) + n) (place_from 0 (map word_variable zs) q))) (place_behind xs ys q))
    ∙ all (place_from 0 (map word_variable xs) q) (place_from 0 (map word_variable ys) q) (place_from 0 (map word_variable zs) q))
  where
    both : length (xs ++ ys) ≡ length xs + length ys
    both = length-append xs ys

    all : (x y z : Option ℕ) → option_map capped (or_else (or_else x (option_map (λ n. length xs + n) y)) (option_map (λ n. length (xs ++ ys) + n) z))
        ≡ or_else (or_else (option_map (λ k. capped (0 + k)) x) (option_map (λ k. capped (a + k)) y)) (option_map (λ k. capped (b + k)) z)
    all (Some k) y z = ap Some (let e : capped k ≡ capped (0 + k) = omega arith in e)
    all None (Some k) z = ap Some (let e : capped (length xs + k) ≡ capped (a + k) = omega (arith, is_a) in e)
    all None None None = refl
    all None None (Some k) = ap Some (let e : capped (length (xs ++ ys) + k) ≡ capped (b + k) = omega (arith, both, is_a, is_b) in e)

-- and in the table of the code
words_mapped : (ws : List BlockWord) → map (λ w. word_variable (word w)) ws ≡ map word_variable (map word ws)
words_mapped [] = refl
words_mapped (w ∷ ws) = ap (λ vs. word_variable (word w) ∷ vs) (words_mapped ws)

-- the first of two, as std has it
pub or_is : (r a b : Option ℕ) → r ≡ option_or a b → r ≡ or_else a b
or_is r (Some x) b e = e
or_is r None b e = e

pub placed_in : (s : StandardBlock) (ws : BlockWords) (q : Text) (a b : ℕ) → word_lists ws ≡ standard_words s → a ≡ length ws.inputs.now → b ≡ capped (a + length ws.outputs.now)
    → or_else (or_else (option_map (λ k. capped (0 + k)) (place_from 0 (map (λ w. word_variable (word w)) ws.inputs.now) q)) (option_map (λ k. capped (a + k)) (place_from 0 (map (λ w. word_variable (word w)) ws.outputs.now) q))) (option_map (λ k. capped (b + k)) (place_from 0 (map (λ w. word_variable (word w)) ws.inner.now) q))
    ≡ standard_offset s q
placed_in s ws q a b are is_a is_b =
    ap₂ or_else (ap₂ or_else (ap (λ vs. option_map (λ (k : ℕ). capped (0 + k)) (place_from 0 vs q)) (words_mapped ws.inputs.now)) (ap (λ vs. option_map (λ k. capped (a + k)) (place_from 0 vs q)) (words_mapped ws.outputs.now))) (ap (λ vs. option_map (λ k. capped (b + k)) (place_from 0 vs q)) (words_mapped ws.inner.now))
    ∙ placed_all (map word ws.inputs.now) (map word ws.outputs.now) (map word ws.inner.now) q a b (is_a ∙ sym (length_mapped word ws.inputs.now)) (is_b ∙ ap (λ n. capped (a + n)) (sym (length_mapped word ws.outputs.now)))
    ∙ ap (λ (l : WordLists). option_map capped (place_from 0 (map word_variable (l.inputs ++ l.outputs ++ l.inner)) q)) are

-- and how many they are
pub size_in : (s : StandardBlock) (ws : BlockWords) (r k : ℕ) → word_lists ws ≡ standard_words s → k ≡ capped (length ws.inputs.now + length ws.outputs.now) → r ≡ capped (k + length ws.inner.now) → r ≡ capped (length (all_words s))
size_in s ws r k are is_k is_r =
    let i : length ws.inputs.now ≡ length (standard_words s).inputs = sym (length_mapped word ws.inputs.now) ∙ ap (λ (l : WordLists). length l.inputs) are in
    let o : length ws.outputs.now ≡ length (standard_words s).outputs = sym (length_mapped word ws.outputs.now) ∙ ap (λ (l : WordLists). length l.outputs) are in
    let n : length ws.inner.now ≡ length (standard_words s).inner = sym (length_mapped word ws.inner.now) ∙ ap (λ (l : WordLists). length l.inner) are in
    let all : length (all_words s) ≡ length (standard_words s).inputs + length (standard_words s).outputs + length (standard_words s).inner =
    length-append ((standard_words s).inputs ++ (standard_words s).outputs) (standard_words s).inner ∙ ap (λ m. m + length (standard_words s).inner) (length-append (standard_words s).inputs (standard_words s).outputs) in
    omega (arith, i, o, n, all, is_k, is_r)

module _ (c : Config) where
  -- where each takes one slot, the place of a name is its offset
  placed : (ws : List (Text × Elementary)) (k : ℕ) (q : Text)
      → place_from k (map word_variable ws) q ≡ option_map (λ f. k + offset_in (form_width (block_width 17 c)) (uninitialized (with_forms ws)) q) (form_in (uninitialized (with_forms ws)) q)
  unfolding is_name
  placed [] k q = refl
  placed (w ∷ ws) k q = by_name (bytes_eq w.0 q) (placed ws (k + 1) q)
    where
      es : List Entity
      es = uninitialized (with_forms ws)

      by_name : (b : Bool) → place_from (k + 1) (map word_variable ws) q ≡ option_map (λ f. k + 1 + offset_in (form_width (block_width 17 c)) (uninitialized (with_forms ws)) q) (form_in (uninitialized (with_forms ws)) q)
          → (if b then Some k else place_from (k + 1) (map word_variable ws) q)
          ≡ option_map (λ f. k + (if b then 0 else 1 + offset_in (form_width (block_width 17 c)) (uninitialized (with_forms ws)) q)) (if b then Some (word_form w.1) else form_in (uninitialized (with_forms ws)) q)
      by_name true rest = ap Some (let z : k ≡ k + 0 = omega arith in z)
      by_name false rest = rest ∙ ap (λ n. option_map (λ f. n) (form_in es q)) (let z : k + 1 + offset_in (form_width (block_width 17 c)) (uninitialized (with_forms ws)) q ≡ k + (1 + offset_in (form_width (block_width 17 c)) (uninitialized (with_forms ws)) q) = omega arith in z)

  -- the place of a word of a standard block is its offset
  pub standard_offset_is : (s : StandardBlock) (q : Text) → standard_offset s q ≡ offset_found (form_width (block_width 17 c)) (standard_entities (standard_variables s)) q
  standard_offset_is s q = ap (option_map capped) (placed (all_words s) 0 q) ∙ capped_at (form_in (uninitialized (with_forms (all_words s))) q) ∙ ap (λ es. offset_found (form_width (block_width 17 c)) es q) (sym (words_are s))
    where
      capped_at : (f : Option Form) → option_map capped (option_map (λ g. 0 + offset_in (form_width (block_width 17 c)) (uninitialized (with_forms (all_words s))) q) f) ≡ option_map (λ g. capped (offset_in (form_width (block_width 17 c)) (uninitialized (with_forms (all_words s))) q)) f
      capped_at None = refl
      capped_at (Some g) = ap Some (let z : capped (0 + offset_in (form_width (block_width 17 c)) (uninitialized (with_forms (all_words s))) q) ≡ capped (offset_in (form_width (block_width 17 c)) (uninitialized (with_forms (all_words s))) q) = omega arith in z)
