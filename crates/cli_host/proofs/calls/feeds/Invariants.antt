use Rattle.std.proofs.Common.{◌≡◌, ◌≤◌, ◌+◌, drop}
use Rattle.cli_host.specs.CallsFile.{feeds}
use Rattle.cli_host.proofs.calls.feeds.Given as goal

-- the bytes that are left report
abbrev pub invariant-bytes : goal.invariant-bytes
invariant-bytes l = (l.count ≤ l.byte-index) × (feeds l.text ≡ l.count + feeds (drop l.byte-index l.text))
