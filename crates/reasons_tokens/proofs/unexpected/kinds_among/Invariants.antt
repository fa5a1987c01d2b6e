use Rattle.std.proofs.Common.{◌≤◌, length, map, take}
use Rattle.reasons_tokens.specs.ExpectedKinds.{kind_of}
use Rattle.reasons_tokens.specs.TokenReasons.{CanStandOf}
use Rattle.reasons_tokens.proofs.unexpected.kinds_among.Given as goal

-- the kinds so far
abbrev pub invariant-kinds : goal.invariant-kinds
invariant-kinds l = record {
  few : length l.kinds.items ≤ 8;
  can : CanStandOf l.text l.offset (map kind_of l.kinds.items) (map kind_of (take l.kind-index l.all));
}
