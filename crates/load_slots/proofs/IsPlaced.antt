-- That the variables of a unit are where its names lead.
use Rattle.std.proofs.Common.{◌≡◌, ℕ, zero, suc, ◌+◌, ◌<◌, ◌≤◌, ◌⊎◌, inl, inr, Bool, true, false, List, [], ◌∷◌, ◌++◌, length, slice_get, ◌-◌, refl, sym, ap, ap₂, ◌∙◌, Option, Some, None, subst, ℤ, pos, negsuc, ◌+ℤ◌, ◌-ℤ◌, ◌≤ℤ◌, ◌^◌, arith, length-append}
use Rattle.std.specs.Prelude.{bytes_eq, if◌then◌else◌, nat_abs, int_le, ◌&&◌}
use Rattle.std.proofs.lemmas.Int.{ints}
use Rattle.il_syntax.specs.declared.tree.Scalar.{Scalar}
use Rattle.il_syntax.specs.declared.tree.Subrange.{Subrange}
use Rattle.il_syntax.specs.declared.tree.Index.TheVariants.{Number, Variable as ByVariable}
use Rattle.il_syntax.specs.declared.tree.Reference.{Reference}
use Rattle.il_syntax.specs.declared.tree.Reference.TheVariants.{Literal as LiteralReference, Variable, Element, Member}
use Rattle.il_syntax.specs.declared.tree.Elementary.{Elementary}
use Rattle.il_syntax.specs.ElementaryTypes.{plain}
use Rattle.il_syntax.specs.declared.tree.Form.{Form}
use Rattle.il_syntax.specs.declared.tree.Form.TheVariants.{Scalar as ScalarForm, Array as ArrayForm, Block as BlockForm}
use Rattle.il_syntax.specs.declared.tree.Unit.{Unit as ProgramUnit}
use Rattle.il_syntax.specs.declared.tree.Config.{Config}
use Rattle.il_statics.specs.declared.names.StandardBlock.{StandardBlock}
use Rattle.il_statics.specs.Names.{or_else, entry_of, block_variables, form_named, standard_variables, with_forms}
use Rattle.il_statics.specs.Declarations.{is_within}
use Rattle.base_maps.specs.NameMap.{Text}
use Rattle.il_semantics.specs.Meaning.{Entity, uninitialized, standard_entities, under, member_path, element_path, width, block_entities, inputs_of, outputs_of, denotation, inside, width_of, direct, element_of, indexed_by, member_of}
use Rattle.load_slots.specs.declared.flat.Cell.{Cell}
use Rattle.load_slots.specs.Layout.{cell}
use Rattle.load_slots.specs.Flattened.{Names, block_of, index_in, HasCell, HasCells, word_cells, standard_cells}
use Rattle.load_slots.specs.Cells.{element_cells, cells_at, entity_cells, instance_cells, offset_in, form_in, Stands, AreNamed}
use Rattle.load_slots.specs.Places.{form_width, entities_width, block_width, names_by, capped, IsLayout, IsHeight, IsFormBelow, AreBelow}
use Rattle.load_slots.specs.Making.{all_words}
use Rattle.load_slots.proofs.Counted.{forms_are, words_are}
use Rattle.load_slots.proofs.Placed.{stands_at}
use Rattle.load_slots.proofs.Declared.{same_bytes, some_name, words, block_is_standard}

-- HOW MANY SLOTS

elements_size : (k : ℕ) (path : Text) (z : ℤ) (s : Scalar) → length (element_cells k path z s) ≡ k
elements_size zero path z s = refl
elements_size (suc k) path z s = ap suc (elements_size k path (z +ℤ pos 1) s)

form_size : (inner : Text → Text → List Cell) (wide : Text → ℕ) → ((path block : Text) → length (inner path block) ≡ wide block) → (path : Text) (f : Form) → length (cells_at inner path f) ≡ form_width wide f
form_size inner wide sizes path (ScalarForm s) = refl
form_size inner wide sizes path (ArrayForm bounds element) = elements_size (width bounds) path bounds.lower element
form_size inner wide sizes path (BlockForm block) = sizes path block

pub entities_size : (inner : Text → Text → List Cell) (wide : Text → ℕ) → ((path block : Text) → length (inner path block) ≡ wide block) → (path : Text) (es : List Entity) → length (entity_cells inner path es) ≡ entities_width wide es
entities_size inner wide sizes path [] = refl
entities_size inner wide sizes path (e ∷ es) =
    length-append (cells_at inner (under path e.name) e.form) (entity_cells inner path es) ∙ ap₂ ◌+◌ (form_size inner wide sizes (under path e.name) e.form) (entities_size inner wide sizes path es)

-- so many deep or deeper, the slots of a block are the same
form_same : (height : Text → ℕ) (n : ℕ) (one other : Text → Text → List Cell) → ((path block : Text) → height block ≤ n → one path block ≡ other path block)
    → (path : Text) (f : Form) → IsFormBelow height (suc n) f → cells_at one path f ≡ cells_at other path f
form_same height n one other same path (ScalarForm s) below = refl
form_same height n one other same path (ArrayForm bounds element) below = refl
form_same height n one other same path (BlockForm block) below = same path block (omega (arith, below))

pub entities_same : (height : Text → ℕ) (n : ℕ) (one other : Text → Text → List Cell) → ((path block : Text) → height block ≤ n → one path block ≡ other path block)
    → (path : Text) (es : List Entity) → AreBelow height (suc n) es → entity_cells one path es ≡ entity_cells other path es
entities_same height n one other same path [] below = refl
entities_same height n one other same path (e ∷ es) below = ap₂ ◌++◌ (form_same height n one other same (under path e.name) e.form below.0) (entities_same height n one other same path es below.1)

form_lower : (height : Text → ℕ) (m n : ℕ) → m ≤ n → (f : Form) → IsFormBelow height m f → IsFormBelow height n f
form_lower height m n le (ScalarForm s) below = tt
form_lower height m n le (ArrayForm bounds element) below = tt
form_lower height m n le (BlockForm block) below = omega (arith, below, le)

lower : (height : Text → ℕ) (m n : ℕ) → m ≤ n → (es : List Entity) → AreBelow height m es → AreBelow height n es
lower height m n le [] below = tt
lower height m n le (e ∷ es) below = (form_lower height m n le e.form below.0, lower height m n le es below.1)

pub instances_same : (c : Config) (height : Text → ℕ) → IsHeight c height → (m n : ℕ) (path block : Text) → height block ≤ m → height block ≤ n → instance_cells m c path block ≡ instance_cells n c path block
instances_same c height is zero n path block le more = let some : 0 < height block = is.counted block in let none : ⊥ = omega (arith, some, le) in absurd none
instances_same c height is (suc m) zero path block le more = let some : 0 < height block = is.counted block in let none : ⊥ = omega (arith, some, more) in absurd none
instances_same c height is (suc m) (suc n) path block le more =
    entities_same height k (instance_cells m c) (instance_cells n c) (λ path block below. instances_same c height is m n path block (omega (arith, below, le)) (omega (arith, below, more))) path (block_entities c block)
    (subst (λ h. AreBelow height h (block_entities c block)) (let e : height block ≡ suc k = omega (arith, is.counted block) in e) (is.falls block))
  where
    k : ℕ
    k = height block - 1

pub sizes_to : (n : ℕ) (c : Config) (path block : Text) → length (instance_cells n c path block) ≡ block_width n c block
sizes_to zero c path block = refl
sizes_to (suc n) c path block = entities_size (instance_cells n c) (block_width n c) (sizes_to n c) path (block_entities c block)

-- the slots of instances are a layout, where no block is higher than these go deep
pub layout : (c : Config) (height : Text → ℕ) → IsHeight c height → (n : ℕ) → ((block : Text) → height block ≤ n) → IsLayout c (instance_cells n c) (block_width n c)
layout c height is n tall = record {
  unfolds = λ path block. instances_same c height is n (suc n) path block (tall block) (omega (arith, tall block));
  sizes = sizes_to n c;
}

-- ELEMENTS

element_at : (k : ℕ) (path : Text) (z : ℤ) (s : Scalar) (j : ℕ) → j < k → slice_get (element_cells k path z s) j ≡ Some (cell (element_path path (z +ℤ pos j)) s)
element_at zero path z s j below = let none : ⊥ = omega (arith, below) in absurd none
element_at (suc k) path z s zero below = ap (λ y. Some (cell (element_path path y) s)) (let e : z ≡ z +ℤ pos 0 = omega (arith, ints) in e)
element_at (suc k) path z s (suc j) below =
    element_at k path (z +ℤ pos 1) s j (omega (arith, below)) ∙ ap (λ y. Some (cell (element_path path y) s)) (let e : (z +ℤ pos 1) +ℤ pos j ≡ z +ℤ pos (suc j) = omega (arith, ints) in e)

both : (a b : Bool) → a && b ≡ true → (a ≡ true) × (b ≡ true)
both true b is = (refl, is)
both false b is = cc

pub within_limits : (bounds : Subrange) (z : ℤ) → is_within bounds z ≡ true → (bounds.lower ≤ℤ z) × (z ≤ℤ bounds.upper)
within_limits bounds z is =
    let two = both (int_le bounds.lower z) (int_le z bounds.upper) is in
    let low : int_le bounds.lower z ≡ true = two.0 in
    let high : int_le z bounds.upper ≡ true = two.1 in
    (omega (arith, ints, low), omega (arith, ints, high))

far : (a l z : ℤ) → l ≤ℤ z → a ≡ z -ℤ l → l +ℤ pos (nat_abs a) ≡ z
far (pos n) l z below is = omega (arith, ints, is, below)
far (negsuc n) l z below is = omega (arith, ints, is, below)

wide_of : (m : ℕ) (a : ℤ) → pos (suc m) ≤ℤ a → m < width_of a
wide_of m (pos n) le = omega (arith, ints, le)
wide_of m (negsuc n) le = let none : ⊥ = omega (arith, ints, le) in absurd none

pub index_below : (bounds : Subrange) (z : ℤ) → (bounds.lower ≤ℤ z) × (z ≤ℤ bounds.upper) → (index_in bounds z < width bounds) × (bounds.lower +ℤ pos (index_in bounds z) ≡ z)
index_below bounds z is =
    let there : bounds.lower +ℤ pos (index_in bounds z) ≡ z = far (z -ℤ bounds.lower) bounds.lower z is.0 refl in
    let high : z ≤ℤ bounds.upper = is.1 in
    (beside (index_in bounds z) bounds.lower bounds.upper z there high, there)
  where
    beside : (k : ℕ) (l u z : ℤ) → l +ℤ pos k ≡ z → z ≤ℤ u → k < width_of ((u -ℤ l) +ℤ pos 1)
    beside k l u z there high = wide_of k ((u -ℤ l) +ℤ pos 1) (omega (arith, ints, there, high))

-- NAMES

no_width : (inner : Text → ℕ) (f : Form) → 0 ≤ form_width inner f
no_width inner f = omega arith

-- what comes before a name and its own slots are no more than all
pub offset_below : (wide : Text → ℕ) (es : List Entity) (name : Text) (f : Form) → form_in es name ≡ Some f → offset_in (form_width wide) es name + form_width wide f ≤ entities_width wide es
offset_below wide [] name f is = cc
offset_below wide (e ∷ es) name f is = by_test (bytes_eq e.name name) is (offset_below wide es name f)
  where
    by_test : (b : Bool) → (if b then Some e.form else form_in es name) ≡ Some f → (form_in es name ≡ Some f → offset_in (form_width wide) es name + form_width wide f ≤ entities_width wide es)
        → (if b then 0 else form_width wide e.form + offset_in (form_width wide) es name) + form_width wide f ≤ form_width wide e.form + entities_width wide es
    by_test true is more = let same : e.form ≡ f = cc in subst (λ g. 0 + form_width wide g ≤ form_width wide e.form + entities_width wide es) same (omega arith)
    by_test false is more = let rest = more is in omega (arith, rest)

uncapped : (o w t : ℕ) → o + w ≤ t → t < 2 ^ 63 → capped o ≡ o
uncapped o w t le small = omega (arith, le, small)

uncapped_both : (o p w t b u : ℕ) → p + w ≤ t → b ≡ t → o + b ≤ u → u < 2 ^ 63 → capped (o + p) ≡ o + p
uncapped_both o p w t b u le same more small = omega (arith, le, same, more, small)

pub member_under : (q word : Text) → (q ≡ [] → ⊥) → under q word ≡ member_path q word
member_under [] word some = absurd (some refl)
member_under (b ∷ q) word some = refl

under_some : (path name : Text) → (name ≡ [] → ⊥) → under path name ≡ [] → ⊥
under_some [] name some e = some e
under_some (d ∷ path) name some e = cc

some_text : (q : Text) → (q ≡ [] → ⊥) → (d : ℕ) × (p : Text) × (q ≡ d ∷ p)
some_text [] some = absurd (some refl)
some_text (d ∷ p) some = (d, p, refl)

-- the slots of a standard block's variables
standard_same : (inner : Text → Text → List Cell) (d : ℕ) (p : Text) (b : StandardBlock) → entity_cells inner (d ∷ p) (standard_entities (standard_variables b)) ≡ standard_cells (d ∷ p) b
standard_same inner d p b = ap (entity_cells inner (d ∷ p)) (words_are b) ∙ words_same (all_words b) ∙ ap (word_cells (d ∷ p)) (sym (forms_are b))
  where
    words_same : (ws : List (Text × Elementary)) → entity_cells inner (d ∷ p) (uninitialized (with_forms ws)) ≡ word_cells (d ∷ p) (with_forms ws)
    words_same [] = refl
    words_same (w ∷ ws) = ap (λ xs. cell (member_path (d ∷ p) w.0) (plain w.1) ∷ xs) (words_same ws)

module _ (c : Config) (inner : Text → Text → List Cell) (wide : Text → ℕ) (is : IsLayout c inner wide) (named : (block : Text) → AreNamed (block_entities c block)) (cells : List Cell) where
  stands : (path : Text) (es : List Entity) (base : ℕ) → Stands cells base (entity_cells inner path es) → (name : Text) (f : Form) → form_in es name ≡ Some f
      → Stands cells (base + offset_in (form_width wide) es name) (cells_at inner (under path name) f)
  stands path es base all name f found =
      let w = stands_at inner (form_width wide) (form_size inner wide is.sizes) cells path es base all name f found in
      subst (λ q. Stands cells (base + offset_in (form_width wide) es name) (cells_at inner (under path q) f)) (same_bytes w.0 name w.2) w.1

  pub scalar_stands : (path : Text) (es : List Entity) (base : ℕ) → Stands cells base (entity_cells inner path es) → (name : Text) (s : Scalar) → form_in es name ≡ Some (ScalarForm s)
      → slice_get cells (base + offset_in (form_width wide) es name) ≡ Some (cell (under path name) s)
  scalar_stands path es base all name s found =
      let o : ℕ = base + offset_in (form_width wide) es name in
      ap (slice_get cells) (let e : o ≡ o + 0 = omega arith in e) ∙ stands path es base all name (ScalarForm s) found 0 (cell (under path name) s) refl

  element_stands : (path : Text) (es : List Entity) (base : ℕ) → Stands cells base (entity_cells inner path es) → (name : Text) (bounds : Subrange) (element : Scalar) → form_in es name ≡ Some (ArrayForm bounds element)
      → (z : ℤ) → is_within bounds z ≡ true → slice_get cells (base + (offset_in (form_width wide) es name + index_in bounds z)) ≡ Some (cell (element_path (under path name) z) element)
  element_stands path es base all name bounds element found z within =
      let there = index_below bounds z (within_limits bounds z within) in
      let o : ℕ = offset_in (form_width wide) es name in
      ap (slice_get cells) (let e : base + (o + index_in bounds z) ≡ base + o + index_in bounds z = omega arith in e)
      ∙ stands path es base all name (ArrayForm bounds element) found (index_in bounds z) (cell (element_path (under path name) z) element)
      (element_at (width bounds) (under path name) bounds.lower element (index_in bounds z) there.0 ∙ ap (λ y. Some (cell (element_path (under path name) y) element)) there.1)

  pub instance_stands : (path : Text) (es : List Entity) (base : ℕ) → Stands cells base (entity_cells inner path es) → (instance block : Text) → form_in es instance ≡ Some (BlockForm block)
      → Stands cells (base + offset_in (form_width wide) es instance) (entity_cells inner (under path instance) (block_entities c block))
  instance_stands path es base all instance block found =
      subst (Stands cells (base + offset_in (form_width wide) es instance)) (is.unfolds (under path instance) block) (stands path es base all instance (BlockForm block) found)

  module _ (declared : Text → List Entity) (number : Text → ℕ) (u : ProgramUnit) (own : AreNamed (declared u.name.name)) (forms : (name : Text) (f : Form) → form_named c u name ≡ Some f → form_in (declared u.name.name) name ≡ Some f)
      (path : Text) (base : ℕ) (all : Stands cells base (entity_cells inner path (declared u.name.name))) (small : entities_width wide (declared u.name.name) < 2 ^ 63) where
    abbrev n : Names
    n = names_by c wide declared number u.name.name

    abbrev es : List Entity
    es = declared u.name.name

    -- names lead as far as their variables are
    pub offset_is : (name : Text) (f : Form) → form_in es name ≡ Some f → n.offset name ≡ offset_in (form_width wide) es name
    offset_is name f found = uncapped (offset_in (form_width wide) es name) (form_width wide f) (entities_width wide es) (offset_below wide es name f found) small

    word_is : (instance block : Text) → form_in es instance ≡ Some (BlockForm block) → (word : Text) (f : Form) → form_in (block_entities c block) word ≡ Some f
        → n.word instance word ≡ offset_in (form_width wide) es instance + offset_in (form_width wide) (block_entities c block) word
    word_is instance block found word f inside_it =
        ap (λ g. capped (offset_in (form_width wide) es instance + offset_in (form_width wide) (block_entities c (block_of g)) word)) found
        ∙ uncapped_both (offset_in (form_width wide) es instance) (offset_in (form_width wide) (block_entities c block) word) (form_width wide f) (entities_width wide (block_entities c block)) (wide block) (entities_width wide es)
        (offset_below wide (block_entities c block) word f inside_it) (sym (is.sizes [] block) ∙ ap length (is.unfolds [] block) ∙ entities_size inner wide is.sizes [] (block_entities c block))
        (offset_below wide es instance (BlockForm block) found) small

    word_stands : (instance block : Text) → form_in es instance ≡ Some (BlockForm block) → (word : Text) (s : Scalar) → form_in (block_entities c block) word ≡ Some (ScalarForm s)
        → slice_get cells (base + n.word instance word) ≡ Some (cell (member_path (under path instance) word) s)
    word_stands instance block found word s inside_it =
        let o : ℕ = offset_in (form_width wide) es instance in
        let w : ℕ = offset_in (form_width wide) (block_entities c block) word in
        ap (λ k. slice_get cells (base + k)) (word_is instance block found word (ScalarForm s) inside_it)
        ∙ ap (slice_get cells) (let e : base + (o + w) ≡ base + o + w = omega arith in e)
        ∙ scalar_stands (under path instance) (block_entities c block) (base + o) (instance_stands path es base all instance block found) word s inside_it
        ∙ ap (λ q. Some (cell q s)) (member_under (under path instance) word (under_some path instance (some_name es own instance (BlockForm block) found)))

    abbrev IsFound : Text → Option Form → Type 0
    IsFound name o = (f : Form) → o ≡ Some f → form_in es name ≡ Some f

    here : (name : Text) (s : Scalar) → form_in es name ≡ Some (ScalarForm s) → slice_get cells (base + n.offset name) ≡ Some (cell (under path name) s)
    here name s found = ap (λ k. slice_get cells (base + k)) (offset_is name (ScalarForm s) found) ∙ scalar_stands path es base all name s found

    elements_here : (name : Text) (bounds : Subrange) (element : Scalar) → form_in es name ≡ Some (ArrayForm bounds element) → (z : ℤ) → is_within bounds z ≡ true
        → slice_get cells (base + (n.offset name + index_in bounds z)) ≡ Some (cell (element_path (under path name) z) element)
    elements_here name bounds element found z within =
        ap (λ k. slice_get cells (base + (k + index_in bounds z))) (offset_is name (ArrayForm bounds element) found) ∙ element_stands path es base all name bounds element found z within

    direct_at : (name : Text) (o : Option Form) → IsFound name o → HasCell n cells path base (direct name o)
    direct_at name None found = tt
    direct_at name (Some (ScalarForm s)) found = here name s (found (ScalarForm s) refl)
    direct_at name (Some (ArrayForm bounds element)) found = tt
    direct_at name (Some (BlockForm block)) found = tt

    numbered_at : (name : Text) (z : ℤ) (o : Option Form) → IsFound name o → HasCell n cells path base (element_of (form_named c u) name (Number z) o)
    numbered_at name z None found = tt
    numbered_at name z (Some (ScalarForm s)) found = tt
    numbered_at name z (Some (ArrayForm bounds element)) found = elements_here name bounds element (found (ArrayForm bounds element) refl) z
    numbered_at name z (Some (BlockForm block)) found = tt

    by_variable : (name : Text) (bounds : Subrange) (element : Scalar) → form_in es name ≡ Some (ArrayForm bounds element) → (v : Text) (o : Option Form) → IsFound v o → HasCell n cells path base (indexed_by name bounds element v o)
    by_variable name bounds element array v None found = tt
    by_variable name bounds element array v (Some (ScalarForm s)) found = (here v s (found (ScalarForm s) refl), elements_here name bounds element array)
    by_variable name bounds element array v (Some (ArrayForm b e)) found = tt
    by_variable name bounds element array v (Some (BlockForm block)) found = tt

    indexed_at : (name v : Text) (o : Option Form) → IsFound name o → HasCell n cells path base (element_of (form_named c u) name (ByVariable v) o)
    indexed_at name v None found = tt
    indexed_at name v (Some (ScalarForm s)) found = tt
    indexed_at name v (Some (ArrayForm bounds element)) found = by_variable name bounds element (found (ArrayForm bounds element) refl) v (form_named c u v) (forms v)
    indexed_at name v (Some (BlockForm block)) found = tt

    inside_at : (instance block word : Text) → form_in es instance ≡ Some (BlockForm block) → (o : Option Form) → ((f : Form) → o ≡ Some f → form_in (block_entities c block) word ≡ Some f) → HasCell n cells path base (inside instance word o)
    inside_at instance block word found None there = tt
    inside_at instance block word found (Some (ScalarForm s)) there = word_stands instance block found word s (there (ScalarForm s) refl)
    inside_at instance block word found (Some (ArrayForm bounds element)) there = tt
    inside_at instance block word found (Some (BlockForm b)) there = tt

    either_word : (a b : Option Form) (f : Form) → or_else a b ≡ Some f → (a ≡ Some f) ⊎ (b ≡ Some f)
    either_word (Some g) b f e = inl e
    either_word None b f e = inr e

    member_at : (instance word : Text) (o : Option Form) → IsFound instance o → HasCell n cells path base (member_of c instance word o)
    member_at instance word None found = tt
    member_at instance word (Some (ScalarForm s)) found = tt
    member_at instance word (Some (ArrayForm bounds element)) found = tt
    member_at instance word (Some (BlockForm block)) found =
        let outs : Option Form = entry_of (outputs_of (block_variables c block)) word in
        let ins : Option Form = entry_of (inputs_of (block_variables c block)) word in
        inside_at instance block word (found (BlockForm block) refl) (or_else outs ins)
        (λ f e. elim (either_word outs ins f e) [ inl h ↦ (words c block (named block)).1 word f h | inr h ↦ (words c block (named block)).0 word f h ])

    operand_at : (r : Reference) → HasCell n cells path base (denotation c u r)
    operand_at (LiteralReference l) = tt
    operand_at (Variable name) = direct_at name (form_named c u name) (forms name)
    operand_at (Element name (Number z)) = numbered_at name z (form_named c u name) (forms name)
    operand_at (Element name (ByVariable v)) = indexed_at name v (form_named c u name) (forms name)
    operand_at (Member instance word) = member_at instance word (form_named c u instance) (forms instance)

    -- what the names of a unit lead to is there
    pub has_cells : base + entities_width wide es ≤ length cells → HasCells c n cells u path base
    has_cells room = record {
      within = omega (arith, room);
      operands = operand_at;
      inputs = λ instance block found word s there. word_stands instance block (forms instance (BlockForm block) found) word s ((words c block (named block)).0 word (ScalarForm s) there);
      outputs = λ instance block found word s there. word_stands instance block (forms instance (BlockForm block) found) word s ((words c block (named block)).1 word (ScalarForm s) there);
      standard = λ instance block b found is.
          let at_it : form_in es instance ≡ Some (BlockForm block) = forms instance (BlockForm block) found in
          let q = some_text (under path instance) (under_some path instance (some_name es own instance (BlockForm block) at_it)) in
          let same : entity_cells inner (under path instance) (block_entities c block) ≡ standard_cells (under path instance) b =
          ap (entity_cells inner (under path instance)) (block_is_standard c block b is) ∙ subst (λ p. entity_cells inner p (standard_entities (standard_variables b)) ≡ standard_cells p b) (sym q.2) (standard_same inner q.0 q.1 b) in
          subst (λ k. Stands cells (base + k) (standard_cells (under path instance) b)) (sym (offset_is instance (BlockForm block) at_it)) (subst (Stands cells (base + offset_in (form_width wide) es instance)) same (instance_stands path es base all instance block at_it));
    }
