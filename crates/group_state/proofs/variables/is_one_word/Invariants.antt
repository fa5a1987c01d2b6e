use Rattle.std.proofs.Common.{take}
use Rattle.trace_text.specs.Reading.{Without}
use Rattle.group_state.proofs.variables.is_one_word.Given as goal

-- no space before the place
abbrev pub invariant-bytes : goal.invariant-bytes
invariant-bytes l = Without 32 (take l.byte-index l.text)
