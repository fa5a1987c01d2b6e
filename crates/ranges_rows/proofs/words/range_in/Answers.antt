use Rattle.std.proofs.Common.{◌+◌, ◌*◌, get_or, sym, ap₂, ◌∙◌, arith, rules, SFits, w32, pos}
use Rattle.std.proofs.lemmas.Int.{to_z-of_z}
use Rattle.ranges_rows.specs.Ranges.{range_of}
use Rattle.ranges_rows.proofs.Widened.{widened_get, inside_words}
use Rattle.ranges_rows.proofs.words.range_in.Goals as goal

pub overflow_mul-ends : goal.overflow_mul-ends
overflow_mul-ends c = let h = inside_words c.args.words.now c.args.number c.requires in grind arith

pub offset_bounds-words-number : goal.offset_bounds-words-number
offset_bounds-words-number c = let h = inside_words c.args.words.now c.args.number c.requires in grind arith

pub bounds-words-number : goal.bounds-words-number
bounds-words-number c = let h = inside_words c.args.words.now c.args.number c.requires in omega (arith, h)

pub overflow_mul-ends-2 : goal.overflow_mul-ends-2
overflow_mul-ends-2 c = let h = inside_words c.args.words.now c.args.number c.requires in grind arith

pub overflow_add-ends : goal.overflow_add-ends
overflow_add-ends c = let h = inside_words c.args.words.now c.args.number c.requires in grind arith

pub offset_bounds-words-number-2 : goal.offset_bounds-words-number-2
offset_bounds-words-number-2 c = let h = inside_words c.args.words.now c.args.number c.requires in grind arith

pub bounds-words-number-2 : goal.bounds-words-number-2
bounds-words-number-2 c = let h = inside_words c.args.words.now c.args.number c.requires in omega (arith, h)

pub returns : goal.returns
returns c d =
    let low : SFits w32 (get_or c.args.words.now (2 * c.args.number) (pos 0)) = search rules in
    let high : SFits w32 (get_or c.args.words.now (2 * c.args.number + 1) (pos 0)) = search rules in
    c.range.ensures ∙ ap₂ range_of (to_z-of_z w32 _ low) (to_z-of_z w32 _ high) ∙ sym (widened_get c.args.words.now c.args.number d (pos 0) (pos 0) c.requires)
