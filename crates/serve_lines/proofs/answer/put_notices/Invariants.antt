use Rattle.std.proofs.Common.{◌≡◌, ◌≤◌, ◌*◌, ◌++◌, flat_map, length, take, string_bytes}
use Rattle.serve_lines.specs.Answers.{notice_line}
use Rattle.serve_lines.proofs.answer.put_notices.Given as goal

abbrev pub invariant-notices : goal.invariant-notices
invariant-notices l = record {
  lines : string_bytes l.text ≡ string_bytes l.initial.text ++ flat_map notice_line (take l.notice-index l.notices);
  few : length (flat_map notice_line (take l.notice-index l.notices)) ≤ 41 * l.notice-index;
}
