-- Predeclared names, looked up in tables.
use Rattle.std.proofs.Common.{◌≡◌, Bool, true, false, List, [], ◌∷◌, map, refl, sym, ap, ◌∙◌, Option, Some, None, option_map, bytes_eq, if◌then◌else◌}
use Rattle.std.specs.Prelude.{find}
use Rattle.il_syntax.specs.declared.tree.Config.{Config}
use Rattle.il_syntax.specs.declared.tree.Elementary.{Elementary}
use Rattle.il_statics.specs.Names as rule
use Rattle.il_statics.specs.Names.{Spelling, entry_of, standard_functions, standard_function, standard_blocks, standard_block, word_form, with_forms, image_of, image_name}
use Rattle.il_statics.specs.Tables.{word, named_block, named_function}
use Rattle.il_statics.specs.declared.standard.BlockWord.{BlockWord}
use Rattle.il_statics.specs.declared.standard.NamedBlock.{NamedBlock}
use Rattle.il_statics.specs.declared.standard.NamedFunction.{NamedFunction}
use Rattle.load_scope.specs.Words.{is_name, entry_among}
use Rattle.load_scope.specs.Images.{image_in, named, row_among, image_entries}
use Rattle.load_scope.specs.declared.image.ImageRow.{ImageRow}
use Rattle.load_scope.specs.Views.{image_entry}

-- what is found under a name in a table of records
found_is : {R A : Type 0} (key : R → Spelling) (value : R → A) (rows : List R) (name : Spelling) → option_map value (find (λ r. is_name (key r) name) rows) ≡ entry_of (map (λ r. (key r, value r)) rows) name
unfolding is_name
found_is key value [] name = refl
found_is {R = R} {A = A} key value (r ∷ rs) name = go (bytes_eq (key r) name) (found_is key value rs name)
  where
    go : (b : Bool) → option_map value (find (λ x. bytes_eq (key x) name) rs) ≡ entry_of (map (λ x. (key x, value x)) rs) name
        → option_map value (if b then Some r else find (λ x. bytes_eq (key x) name) rs) ≡ option_map (λ (x : Spelling × A). x.1) (if b then Some (key r, value r) else find (λ x. bytes_eq x.0 name) (map (λ x. (key x, value x)) rs))
    go true rest = refl
    go false rest = rest

-- the standard functions
pub function_is : (rows : List NamedFunction) (name : Spelling) → map named_function rows ≡ standard_functions → option_map (λ r. r.function) (find (λ r. is_name r.name.now name) rows) ≡ standard_function name
unfolding standard_function
function_is rows name are = found_is (λ (r : NamedFunction). r.name.now) (λ r. r.function) rows name ∙ ap (λ t. entry_of t name) are

-- the standard blocks
pub block_is : (rows : List NamedBlock) (name : Spelling) → map named_block rows ≡ standard_blocks → option_map (λ r. r.block) (find (λ r. is_name r.name.now name) rows) ≡ standard_block name
unfolding standard_block
block_is rows name are = found_is (λ (r : NamedBlock). r.name.now) (λ r. r.block) rows name ∙ ap (λ t. entry_of t name) are

-- a word of a standard block, with its type
pub word_is : (rows : List BlockWord) (table : List (Spelling × Elementary)) (q : Spelling) → map word rows ≡ table
    → option_map word_form (option_map (λ w. w.elementary) (find (λ w. is_name w.name.now q) rows)) ≡ entry_of (with_forms table) q
word_is rows table q are = in_both (find (λ w. is_name w.name.now q) rows) ∙ found_is (λ (w : BlockWord). w.name.now) (λ w. word_form w.elementary) rows q ∙ ap (λ t. entry_of t q) (sym (in_all rows) ∙ ap with_forms are)
  where
    in_both : (o : Option BlockWord) → option_map word_form (option_map (λ w. w.elementary) o) ≡ option_map (λ w. word_form w.elementary) o
    in_both None = refl
    in_both (Some w) = refl

    in_all : (ws : List BlockWord) → with_forms (map word ws) ≡ map (λ w. (w.name.now, word_form w.elementary)) ws
    in_all [] = refl
    in_all (w ∷ ws) = ap (λ rest. (w.name.now, word_form w.elementary) ∷ rest) (in_all ws)

-- the image names as a table
image_among : (config : Config) (images : List rule.ImageName) (name : Spelling) → option_map (image_entry config) (find (λ i. bytes_eq i.variable.name name) images) ≡ entry_among (map (λ i. (i.variable.name, image_entry config i)) images) name
unfolding is_name
image_among config [] name = refl
image_among config (i ∷ is) name = go (bytes_eq i.variable.name name) (image_among config is name)
  where
    go : (b : Bool) → option_map (image_entry config) (find (λ j. bytes_eq j.variable.name name) is) ≡ entry_among (map (λ j. (j.variable.name, image_entry config j)) is) name
        → option_map (image_entry config) (if b then Some i else find (λ j. bytes_eq j.variable.name name) is) ≡ (if b then Some (image_entry config i) else entry_among (map (λ j. (j.variable.name, image_entry config j)) is) name)
    go true rest = refl
    go false rest = rest

-- the row of a spelling, and what is found in the table
row_is : (config : Config) (rows : List ImageRow) (name : Spelling) → option_map (image_in config) (row_among rows name) ≡ entry_among (map (named config) rows) name
row_is config [] name = refl
row_is config (r ∷ rs) name = go (is_name r.name.now name) (row_is config rs name)
  where
    go : (b : Bool) → option_map (image_in config) (row_among rs name) ≡ entry_among (map (named config) rs) name → option_map (image_in config) (if b then Some r else row_among rs name) ≡ (if b then Some (image_in config r) else entry_among (map (named config) rs) name)
    go true rest = refl
    go false rest = rest

pub image_is : (config : Config) (rows : List ImageRow) (name : Spelling) → map (named config) rows ≡ image_entries config → option_map (image_in config) (row_among rows name) ≡ option_map (image_entry config) (image_name config name)
unfolding image_name
image_is config rows name are =
    row_is config rows name ∙ ap (λ t. entry_among t name) are ∙ sym (image_among config (image_of config.cars.value config.floors.value config.slots.value) name)
