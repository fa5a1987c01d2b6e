use Rattle.std.proofs.Common.{◌≡◌, drop}
use Rattle.reasons_types.specs.RangeWords.{line_in}
use Rattle.reasons_types.proofs.range_words.line_in.Given as goal

-- what is left answers for all
abbrev pub invariant-loop-declaration : goal.invariant-loop-declaration
invariant-loop-declaration l = line_in (drop l.declaration-index l.declarations) l.name ≡ line_in l.declarations l.name
