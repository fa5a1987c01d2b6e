use Rattle.std.proofs.Common.{◌≡◌, ◌++◌, List, map, subst, sym}
use Rattle.reasons_tokens.specs.declared.expected.Expected.{Expected}
use Rattle.reasons_tokens.specs.ExpectedKinds.{kind_of}
use Rattle.reasons_tokens.specs.TokenReasons.{expected_line}
use Rattle.reasons_names.proofs.Pieces.{on_ok}
use Rattle.reasons_tokens.proofs.unexpected.put_expected.Goals as goal

pub returns-in-Some : goal.returns-in-Some
returns-in-Some c =
    on_ok c.put_kinds.result _ _
    (λ e. subst (λ (ks : List Expected). c.put_kinds.new.lines.items ≡ c.args.lines.now.items ++ expected_line (map kind_of ks)) (sym c.in-Some.ensures.cases.0) e)
    c.put_kinds.ensures
