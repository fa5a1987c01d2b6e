use Rattle.std.proofs.Common.{arith, rules, SFits, w32}
use Rattle.std.proofs.lemmas.Int.{to_z-of_z}
use Rattle.ranges_rows.proofs.Widened.{put_is, inside_words}
use Rattle.ranges_rows.proofs.words.put.Goals as goal

pub overflow_mul-number : goal.overflow_mul-number
overflow_mul-number c = let h = inside_words c.args.words.now.items c.args.number c.requires in grind arith

pub index_mut-requires : goal.index_mut-requires
index_mut-requires c = let h = inside_words c.args.words.now.items c.args.number c.requires in grind arith

pub overflow_mul-number-2 : goal.overflow_mul-number-2
overflow_mul-number-2 c = let h = inside_words c.args.words.now.items c.args.number c.requires in grind arith

pub overflow_add-number : goal.overflow_add-number
overflow_add-number c = let h = inside_words c.args.words.now.items c.args.number c.requires in grind arith

pub index_mut-requires-2 : goal.index_mut-requires-2
index_mut-requires-2 c = let h = inside_words c.args.words.now.items c.args.number c.requires in grind arith

pub returns : goal.returns
returns c =
    let low : SFits w32 c.args.ends.low = search rules in
    let high : SFits w32 c.args.ends.high = search rules in
    put_is c.args.words.now.items c.args.number c.args.ends.low c.args.ends.high _ _ (to_z-of_z w32 c.args.ends.low low) (to_z-of_z w32 c.args.ends.high high) c.requires
