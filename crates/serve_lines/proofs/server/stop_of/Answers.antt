use Rattle.std.proofs.Common.{◌≡◌, [], length, length-append, ap, arith, rules}
use Rattle.std.specs.Prelude.{string_bytes}
use Rattle.serve_lines.proofs.Few.{outputs_few}
use Rattle.serve_lines.specs.Answers.{outputs_line}
use Rattle.serve_lines.proofs.server.stop_of.Goals as goal

pub returns-clause-short : goal.returns-clause-short
returns-clause-short c =
    let few = outputs_few c.as_slice.result.now in
    let given = ap length c.as_slice.ensures in
    let none : string_bytes c.new-text.result ≡ [] = search rules in
    let nothing = ap length none in
    let all = ap length c.in_ok-put_outputs.ensures in
    let both = length-append (string_bytes c.new-text.result) (outputs_line c.as_slice.result.now) in
    omega (arith, few, given, all, both, nothing, c.len-cars.ensures.fits)
