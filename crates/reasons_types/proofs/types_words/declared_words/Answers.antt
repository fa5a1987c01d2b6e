use Rattle.std.proofs.Common.{◌++◌, length, map, refl, ap, ◌∙◌}
use Rattle.std.proofs.lemmas.Option.{slice_get_read}
use Rattle.il_syntax.specs.declared.tree.Named.{Named}
use Rattle.std.proofs.Common.{List}
use Rattle.reasons_types.proofs.ArgumentTexts.{shown, words_more}
use Rattle.reasons_types.proofs.types_words.declared_words.Goals as goal

pub declarations-preserved : goal.declarations-preserved
declarations-preserved c =
    let ds = c.args.declarations.now in
    words_more ds c.declarations.declaration-index c.declaration-item.result (shown c.declarations.found.items) (shown c.add_names.new.found.items)
    (slice_get_read ds (length ds) c.declarations.declaration-index c.declaration-item.result refl c.declarations-test.true c.declaration-item.is) c.declarations.invariant
    (c.in_ok-add_names.ensures ∙ ap (λ (l : List Named). shown c.declarations.found.items ++ map (λ (n : Named). n.name) l) c.as_slice.ensures)
