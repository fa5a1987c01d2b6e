use Rattle.std.proofs.Common.{◌≡◌, drop}
use Rattle.reasons_types.specs.RangeWords.{line_among}
use Rattle.reasons_types.proofs.range_words.line_among.Given as goal

-- what is left answers for all
abbrev pub invariant-loop-one : goal.invariant-loop-one
invariant-loop-one l = line_among (drop l.one-index l.names) l.name ≡ line_among l.names l.name
