use Rattle.std.proofs.Common.{◌∙◌, ap₂, refl}
use Rattle.il_statics.specs.Names.{or_else}
use Rattle.load_slots.proofs.Counted.{or_is, placed_in}
use Rattle.load_slots.proofs.standard.standard_offset.Goals as goal

pub returns : goal.returns
returns c =
    or_is c.or-2.result c.or.result c.place_behind-3.result c.or-2.ensures
    ∙ ap₂ or_else (or_is c.or.result c.place_behind.result c.place_behind-2.result c.or.ensures ∙ ap₂ or_else c.place_behind.ensures c.place_behind-2.ensures) c.place_behind-3.ensures
    ∙ placed_in c.args.block c.words_of-words.result.now c.args.word.now _ _ c.words_of-words.ensures refl c.sum-inner.ensures
