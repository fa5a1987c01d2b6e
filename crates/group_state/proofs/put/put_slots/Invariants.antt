use Rattle.std.proofs.Common.{◌≡◌, ◌++◌, ◌+◌, drop, string_bytes}
use Rattle.trace_text.specs.Text.{text_of_lines}
use Rattle.group_state.specs.Text.{slots_lines}
use Rattle.group_state.proofs.put.put_slots.Given as goal

-- the slots that are left complete the text
abbrev pub invariant-slots : goal.invariant-slots
invariant-slots l = string_bytes l.text ++ text_of_lines (slots_lines (l.index + 1) (drop l.index l.slots)) ≡ string_bytes l.initial.text ++ text_of_lines (slots_lines 1 l.slots)
