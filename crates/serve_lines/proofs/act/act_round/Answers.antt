use Rattle.std.proofs.Common.{◌≡◌, ◌≤◌, ◌++◌, arith, flat_map, length, string_bytes, ap, ◌∙◌}
use Rattle.serve_lines.specs.Answers.{notice_line, outputs_line}
use Rattle.serve_lines.proofs.Few.{on_ok, round_few}
use Rattle.serve_lines.proofs.act.act_round.Goals as goal

pub returns-clause-room : goal.returns-clause-room
returns-clause-room c =
    let notices = c.as_slice.result.now in
    let outputs = c.as_slice-2.result.now in
    let listed = ap length c.as_slice.ensures in
    let given = ap length c.as_slice-2.ensures in
    let many : length notices ≤ 168 = omega (arith, listed, c.len-most.ensures.fits) in
    let cars : length outputs ≤ 8 = omega (arith, given, c.len-cars.ensures.fits) in
    let before = c.in_ok-put_notices.ensures.lines ∙ ap (λ l. l ++ flat_map notice_line notices) c.requires.empty in
    on_ok c.put_outputs.result (λ (is : string_bytes c.put_outputs.new.text ≡ string_bytes c.put_notices.new.text ++ outputs_line outputs). round_few (string_bytes c.put_outputs.new.text) notices outputs (is ∙ ap (λ l. l ++ outputs_line outputs) before) c.in_ok-put_notices.ensures.few many cars) c.put_outputs.ensures
