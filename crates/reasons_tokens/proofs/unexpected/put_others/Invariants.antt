use Rattle.std.proofs.Common.{◌≡◌, ◌++◌, map, take}
use Rattle.reasons_tokens.specs.ExpectedKinds.{kind_of}
use Rattle.reasons_tokens.specs.TokenReasons.{other_words}
use Rattle.reasons_tokens.proofs.unexpected.put_others.Given as goal

-- the kinds so far
abbrev pub invariant-kinds : goal.invariant-kinds
invariant-kinds l = l.lines.items ≡ l.initial.lines.items ++ other_words (map kind_of (take l.kind-index l.kinds))
