use Rattle.std.proofs.Common.{◌≡◌, ◌++◌, ◌+◌, drop, string_bytes}
use Rattle.cli_output.specs.ImageText.{slots_text}
use Rattle.cli_output.proofs.image.put_slots.Given as goal

-- the slots that are left complete the text
abbrev pub invariant-slots : goal.invariant-slots
invariant-slots l = string_bytes l.text ++ slots_text (l.index + 1) (drop l.index l.slots) ≡ string_bytes l.initial.text ++ slots_text 1 l.slots
