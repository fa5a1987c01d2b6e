use Rattle.std.proofs.Common.{◌∙◌, ◌++◌, ap, codes}
use Rattle.std.proofs.Math.Facts.{to_z-of_z}
use Rattle.std.specs.Fmt.{signed_decimal}
use Rattle.load_code.proofs.Laid.{bracketed}
use Rattle.load_code.proofs.laying.numbered_path.Goals as goal

pub returns : goal.returns
returns c =
    c.in_ok-path.ensures.ok ∙ ap (λ z. c.args.path.now ++ (codes "[" ++ (signed_decimal z ++ codes "]"))) (to_z-of_z c.ranges.number) ∙ bracketed c.args.path.now (signed_decimal c.args.number)
