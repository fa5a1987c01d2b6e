use Rattle.std.proofs.Common.{◌≡◌, ◌+◌, drop}
use Rattle.std.specs.List.{position_or_len}
use Rattle.cli_host.specs.CallsFile.{is_cut}
use Rattle.cli_host.proofs.calls.first_cut.Given as goal

-- the bytes that are left report
abbrev pub invariant-bytes : goal.invariant-bytes
invariant-bytes l = (l.place ≡ l.byte-index) × (position_or_len (is_cut l.cut) l.text ≡ l.place + position_or_len (is_cut l.cut) (drop l.byte-index l.text))
