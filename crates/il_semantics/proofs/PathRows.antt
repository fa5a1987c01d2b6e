-- Control paths with their costs.
use Rattle.std.specs.Prelude.{true, false, [], ◌∷◌, refl}
use Rattle.il_syntax.specs.declared.tree.Config.{Config}
use Rattle.il_statics.specs.Names.{image_name, standard_function, standard_block}
use Rattle.il_statics.specs.Types.{label_place}
use Rattle.il_semantics.specs.Paths.{IsPath, ends, goes, calls, visit}
use Rattle.il_semantics.proofs.Trees.{config}
use Rattle.il_semantics.proofs.Rows.{branches, one_more, calls_function}

abbrev branching : Config
branching = config (branches ∷ [])

-- The path that does not jump costs 7.
longer : IsPath branching branches 0 (visit 0 true ∷ visit 1 false ∷ visit 2 true ∷ visit 3 true ∷ visit 4 true ∷ visit 5 true ∷ visit 6 true ∷ []) 7
unfolding label_place
longer =
    goes branches 0 true 1 _ 6 refl refl refl (goes branches 1 false 2 _ 5 refl refl refl (goes branches 2 true 3 _ 4 refl refl refl
    (goes branches 3 true 4 _ 3 refl refl refl (goes branches 4 true 5 _ 2 refl refl refl (goes branches 5 true 6 _ 1 refl refl refl (ends branches 6 true refl refl))))))

-- The path that jumps costs 5.
shorter : IsPath branching branches 0 (visit 0 true ∷ visit 1 true ∷ visit 4 true ∷ visit 5 true ∷ visit 6 true ∷ []) 5
unfolding label_place
shorter =
    goes branches 0 true 1 _ 4 refl refl refl (goes branches 1 true 4 _ 3 refl refl refl (goes branches 4 true 5 _ 2 refl refl refl (goes branches 5 true 6 _ 1 refl refl refl (ends branches 6 true refl refl))))

abbrev calling : Config
calling = config (one_more ∷ calls_function ∷ [])

inner : IsPath calling one_more 0 (visit 0 true ∷ visit 1 true ∷ visit 2 true ∷ visit 3 true ∷ []) 4
unfolding standard_function standard_block image_name label_place
inner = goes one_more 0 true 1 _ 3 refl refl refl (goes one_more 1 true 2 _ 2 refl refl refl (goes one_more 2 true 3 _ 1 refl refl refl (ends one_more 3 true refl refl)))

-- A call of an own unit costs 1 and a path of that unit.
outer : IsPath calling calls_function 0 (visit 0 true ∷ visit 1 true ∷ visit 2 true ∷ visit 3 true ∷ []) 8
unfolding standard_function standard_block image_name label_place
outer =
    goes calls_function 0 true 1 _ 7 refl refl refl (calls calls_function 1 true 2 _ 2 one_more _ 4 refl refl refl inner
    (goes calls_function 2 true 3 _ 1 refl refl refl (ends calls_function 3 true refl refl)))
