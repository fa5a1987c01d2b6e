use Rattle.std.proofs.Common.{◌≡◌, [], take}
use Rattle.il_statics.specs.Names.{is_one_of}
use Rattle.load_types.specs.Types.{words_onto}
use Rattle.load_types.proofs.calls.is_given.Given as goal

abbrev pub invariant-loop-argument : goal.invariant-loop-argument
invariant-loop-argument l = l.given ≡ is_one_of (words_onto [] (take l.argument-index l.arguments)) l.word
