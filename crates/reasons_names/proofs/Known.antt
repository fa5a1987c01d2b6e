-- Names of tables, as the rules have them.
use Rattle.std.proofs.Common.{◌≡◌, List, map, flat_map, sym, ap, ◌∙◌}
use Rattle.std.proofs.lemmas.Simd.{map-map}
use Rattle.std.proofs.lemmas.List.Folds.{flat_map-map}
use Rattle.il_syntax.specs.declared.tree.Config.{Config}
use Rattle.il_syntax.specs.declared.tree.Unit.{Unit as ProgramUnit}
use Rattle.il_statics.specs.declared.names.StandardBlock.{StandardBlock}
use Rattle.il_statics.specs.declared.names.StandardFunction.{StandardFunction}
use Rattle.il_statics.specs.declared.standard.NamedBlock.{NamedBlock}
use Rattle.il_statics.specs.declared.standard.NamedFunction.{NamedFunction}
use Rattle.il_statics.specs.Names.{Spelling, ImageName, image_of, standard_functions, standard_blocks}
use Rattle.il_statics.specs.Tables.{named_block, named_function}
use Rattle.load_scope.specs.declared.entry.ImageName.{ImageName as ImageEntry}
use Rattle.load_scope.specs.declared.image.ImageRow.{ImageRow}
use Rattle.load_scope.specs.Images.{named, image_entries}
use Rattle.load_scope.specs.Views.{image_entry}
use Rattle.reasons_names.specs.declared.names_known.Word.{Word}
use Rattle.reasons_names.specs.NamesNear.{predeclared_name}
use Rattle.reasons_names.specs.NamesKnown.{seen_image, images_near}

-- the image names of the table
pub images_of_rows : (config : Config) (unit : ProgramUnit) (rows : List ImageRow) → map (named config) rows ≡ image_entries config → flat_map (λ (r : ImageRow). seen_image config unit r.name.now) rows ≡ images_near config unit
unfolding images_near
images_of_rows config unit rows is =
    sym (flat_map-map (λ (e : Spelling × ImageEntry). seen_image config unit e.0) (named config) rows)
    ∙ ap (flat_map (λ (e : Spelling × ImageEntry). seen_image config unit e.0)) is
    ∙ flat_map-map (λ (e : Spelling × ImageEntry). seen_image config unit e.0) (λ (i : ImageName). (i.variable.name, image_entry config i)) (image_of config.cars.value config.floors.value config.slots.value)

-- the standard functions of the table
pub functions_of_rows : (rows : List NamedFunction) → map named_function rows ≡ standard_functions → map (λ (f : NamedFunction). predeclared_name f.name.now) rows ≡ map (λ f. predeclared_name f.0) standard_functions
functions_of_rows rows is = sym (map-map (λ (f : Spelling × StandardFunction). predeclared_name f.0) named_function rows) ∙ ap (map (λ (f : Spelling × StandardFunction). predeclared_name f.0)) is

-- the standard blocks of the table
pub blocks_of_rows : (rows : List NamedBlock) → map named_block rows ≡ standard_blocks → map (λ (b : NamedBlock). predeclared_name b.name.now) rows ≡ map (λ b. predeclared_name b.0) standard_blocks
blocks_of_rows rows is = sym (map-map (λ (b : Spelling × StandardBlock). predeclared_name b.0) named_block rows) ∙ ap (map (λ (b : Spelling × StandardBlock). predeclared_name b.0)) is

-- the words of a table
pub words_of_rows : (rows : List Word) (words : List Spelling) → map (λ (w : Word). w.text.now) rows ≡ words → map (λ (w : Word). predeclared_name w.text.now) rows ≡ map predeclared_name words
words_of_rows rows words is = sym (map-map predeclared_name (λ (w : Word). w.text.now) rows) ∙ ap (map predeclared_name) is
