use Rattle.std.proofs.Common.{List, map, subst}
use Rattle.std.specs.Prelude.{IfOk}
use Rattle.reasons_tokens.specs.ExpectedKinds.{ExpectedKind, kind_of}
use Rattle.reasons_tokens.specs.TokenReasons.{CanStandOf}
use Rattle.reasons_tokens.proofs.unexpected.kinds_at.Goals as goal

pub returns-clause-can : goal.returns-clause-can
returns-clause-can c =
    subst (λ (all : List ExpectedKind). IfOk c.kinds_among.result (λ ks. CanStandOf c.args.text.now c.args.offset (map kind_of ks.items) all)) c.kinds.ensures c.kinds_among.ensures.can
