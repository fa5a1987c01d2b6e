-- The tasks of cars, by their names.
use Rattle.std.proofs.Common.{◌≡◌, List, map, flat_map, sym, ap, ◌∙◌}
use Rattle.std.proofs.lemmas.List.Folds.{flat_map-map}
use Rattle.il_syntax.specs.declared.tree.Config.{Config}
use Rattle.reasons_faults.specs.declared.tasks.CarWord.{CarWord}
use Rattle.reasons_faults.specs.TaskReasons.{missing_car, car_words}

pub cars_of_rows : (config : Config) (rows : List CarWord) → map (λ (w : CarWord). w.text.now) rows ≡ car_words → flat_map (λ (w : CarWord). missing_car config w.text.now) rows ≡ flat_map (missing_car config) car_words
cars_of_rows config rows is = sym (flat_map-map (missing_car config) (λ (w : CarWord). w.text.now) rows) ∙ ap (flat_map (missing_car config)) is
