use Rattle.std.proofs.Common.{◌∙◌}
use Rattle.std.proofs.lemmas.Str.{IsUtf8-from_ascii}
use Rattle.load_lines.proofs.Spelling.{upper_part}
use Rattle.load_lines.proofs.source.Source.spelling.Goals as goal

pub from_utf8_unchecked-requires : goal.from_utf8_unchecked-requires
from_utf8_unchecked-requires c = IsUtf8-from_ascii _ (c.part-bytes.ensures.ascii c.self.invariant.0)

pub returns : goal.returns
returns c =
    rw (← c.self.view_is)
    (c.from_utf8_unchecked.ensures ∙ c.part-bytes.ensures.bytes ∙ upper_part c.self.inside.text.now c.self.inside.upper.now _ _ c.self.invariant.1)
