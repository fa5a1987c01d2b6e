use Rattle.std.proofs.Common.{◌≡◌, min, length, arith, subst, sym, ◌∙◌}
use Rattle.cli_messages.specs.Places.{IsLastLine}
use Rattle.cli_messages.proofs.Splitting.{first_bytes}
use Rattle.cli_messages.proofs.LastLines.{last_bytes}
use Rattle.cli_messages.proofs.lines.line_around.Goals as goal

pub returns : goal.returns
returns c =
    let at : c.min.result ≡ min (length c.args.text.now) c.args.offset = omega (arith, c.min.ensures) in
    record {
      front_is = subst (λ t. IsLastLine t c.last_line.result.now) (c.split_at.ensures.front ∙ first_bytes c.args.offset c.args.text.now c.min.result at) c.last_line.ensures;
      back_is = (c.first_line.result.1.now, c.first_line.ensures.line, sym (c.split_at.ensures.back ∙ last_bytes c.args.offset c.args.text.now c.min.result at) ∙ c.first_line.ensures.whole, c.first_line.ensures.ends);
    }
