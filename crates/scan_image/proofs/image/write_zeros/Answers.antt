use Rattle.std.proofs.Common.{rules}
use Rattle.std.specs.Prelude.{replicate, pos, false}
use Rattle.std.proofs.lemmas.List.{take-replicate}
use Rattle.group_spec.specs.Snapshot.{number}
use Rattle.scan_image.proofs.Writing.{zero_numbers, zero_flags}
use Rattle.scan_image.proofs.image.write_zeros.Goals as goal

pub returns : goal.returns
returns c =
    let numbers = take-replicate c.args.count 64 (pos 0) c.requires.few in
    let flags = take-replicate c.args.count 64 false c.requires.few in
    c.put_parts.ensures (replicate c.args.count (number 0)) (search (rules, zero_numbers c.args.count, numbers)) (search (rules, zero_flags c.args.count, flags))
