use Rattle.std.proofs.Common.{option_map}
use Rattle.std.specs.Prelude.{codes, string_bytes}
use Rattle.show_names.specs.RangeLines.{front_text}
use Rattle.show_names.proofs.RangeTexts.{put_last}
use Rattle.show_names.proofs.range_lines.put_not_reached.Goals as goal

pub returns : goal.returns
returns c =
    put_last c.push_str.result (string_bytes c.args.text.now) (string_bytes c.put_front.new.text) (string_bytes c.push_str.new.self) (front_text (option_map (λ s. s.now) c.args.source) c.args.step.now) (codes ": not reached\n")
    c.in_ok-put_front.ensures c.push_str.ensures.bytes
