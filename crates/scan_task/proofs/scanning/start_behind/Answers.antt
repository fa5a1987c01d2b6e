use Rattle.std.proofs.Common.{◌<◌, ◌^◌, [], None, ◌++◌, ◌∙◌, ap, ap₂, sym, subst, length, arith}
use Rattle.std.proofs.lemmas.List.{length-map}
use Rattle.scan_loop.specs.Going.{Stored, going}
use Rattle.group_spec.specs.declared.image.Sizes.{Sizes}
use Rattle.scan_image.specs.Image.{image_values}
use Rattle.scan_task.specs.Sharing.{globals_in}
use Rattle.scan_task.specs.Starting.{shared_value, listed_values}
use Rattle.scan_task.proofs.Restarts.{room, given_values, written_behind, starts_as, starts_scan}
use Rattle.scan_task.proofs.scanning.start_behind.Goals as goal

pub listed-listed-requires-clause-there : goal.listed-listed-requires-clause-there
listed-listed-requires-clause-there c = (c.requires.rows.0, c.requires.rows.1)

pub write_seen-requires-clause-numbers : goal.write_seen-requires-clause-numbers
write_seen-requires-clause-numbers c =
    let config = c.args.verified.now.config in
    let b = c.args.begin.now in
    let q = c.requires.begin in
    let values = listed_values c.listed-listed.result in
    let globals = globals_in config b.globals.now in
    let short = subst (λ n. n < 2 ^ 63) (c.slot_count-count.ensures.count c.requires.rows.0 c.requires.rows.1.program) c.slot_count-count.ensures.few in
    let first = (room config c.slot_count-count.ensures.runnable c.args.task c.args.scan.now.rows c.requires.rows short b.variables.now q.variables b.image.now b.calls.now.slots q.fields q.outputs q.slots q.each values globals c.listed-listed.ensures).0 in
    let many = length-map c.listed-listed.result.slots.now (shared_value c.listed-listed.result.cells.now c.listed-listed.result.rows.now) in
    let image = ap (λ (z : Sizes). length (image_values z c.args.task b.image.now b.calls.now.slots)) c.sizes-sizes.ensures in
    let here = ap (λ (s : Stored). length s.rows.numbers) c.scan.view_is in
    let own = c.len-own.ensures in
    omega (arith, first, many, image, here, own)

pub write_seen-requires-clause-flags : goal.write_seen-requires-clause-flags
write_seen-requires-clause-flags c =
    let config = c.args.verified.now.config in
    let b = c.args.begin.now in
    let q = c.requires.begin in
    let values = listed_values c.listed-listed.result in
    let globals = globals_in config b.globals.now in
    let short = subst (λ n. n < 2 ^ 63) (c.slot_count-count.ensures.count c.requires.rows.0 c.requires.rows.1.program) c.slot_count-count.ensures.few in
    let first = (room config c.slot_count-count.ensures.runnable c.args.task c.args.scan.now.rows c.requires.rows short b.variables.now q.variables b.image.now b.calls.now.slots q.fields q.outputs q.slots q.each values globals c.listed-listed.ensures).1 in
    let many = length-map c.listed-listed.result.slots.now (shared_value c.listed-listed.result.cells.now c.listed-listed.result.rows.now) in
    let image = ap (λ (z : Sizes). length (image_values z c.args.task b.image.now b.calls.now.slots)) c.sizes-sizes.ensures in
    let here = ap (λ (s : Stored). length s.rows.flags) c.scan.view_is in
    let own = c.len-own.ensures in
    omega (arith, first, many, image, here, own)

pub returns-clause-begins : goal.returns-clause-begins
returns-clause-begins c =
    let config = c.args.verified.now.config in
    let b = c.args.begin.now in
    let q = c.requires.begin in
    let values = listed_values c.listed-listed.result in
    let globals = globals_in config b.globals.now in
    let short = subst (λ n. n < 2 ^ 63) (c.slot_count-count.ensures.count c.requires.rows.0 c.requires.rows.1.program) c.slot_count-count.ensures.few in
    let given = given_values config c.slot_count-count.ensures.runnable c.args.task c.args.scan.now.rows c.requires.rows short b.variables.now q.variables b.image.now b.calls.now.slots q.fields q.outputs q.slots q.each values globals c.listed-listed.ensures in
    let rows = written_behind config c.slot_count-count.ensures.runnable c.args.task c.args.scan.now.rows c.requires.rows short b.variables.now q.variables b.image.now b.calls.now.slots q.fields q.outputs q.slots q.each values globals c.listed-listed.ensures c.len-own.result c.scan.inside.rows c.write_seen.new.rows c.len-own.ensures (ap (λ (s : Stored). s.rows) c.scan.view_is)
    (c.write_seen.ensures _ (given ∙ ap (λ (z : Sizes). values ++ image_values z c.args.task b.image.now b.calls.now.slots) (sym c.sizes-sizes.ensures))) in
    starts_as config c.slot_count-count.ensures.runnable c.args.task c.args.scan.now.rows c.requires.rows short b.variables.now q.variables b.image.now b.calls.now.slots q.fields q.outputs q.slots q.each values globals c.listed-listed.ensures c.enter.new.scan
    (c.enter.ensures ∙ ap₂ (λ r f. going r f [] [] None) rows (c.first_frame-frame.ensures c.requires.rows.0 c.requires.rows.1.program)) c.requires.own

pub returns-clause-scan : goal.returns-clause-scan
returns-clause-scan c =
    let config = c.args.verified.now.config in
    let b = c.args.begin.now in
    let q = c.requires.begin in
    let values = listed_values c.listed-listed.result in
    let globals = globals_in config b.globals.now in
    let short = subst (λ n. n < 2 ^ 63) (c.slot_count-count.ensures.count c.requires.rows.0 c.requires.rows.1.program) c.slot_count-count.ensures.few in
    let given = given_values config c.slot_count-count.ensures.runnable c.args.task c.args.scan.now.rows c.requires.rows short b.variables.now q.variables b.image.now b.calls.now.slots q.fields q.outputs q.slots q.each values globals c.listed-listed.ensures in
    let rows = written_behind config c.slot_count-count.ensures.runnable c.args.task c.args.scan.now.rows c.requires.rows short b.variables.now q.variables b.image.now b.calls.now.slots q.fields q.outputs q.slots q.each values globals c.listed-listed.ensures c.len-own.result c.scan.inside.rows c.write_seen.new.rows c.len-own.ensures (ap (λ (s : Stored). s.rows) c.scan.view_is)
    (c.write_seen.ensures _ (given ∙ ap (λ (z : Sizes). values ++ image_values z c.args.task b.image.now b.calls.now.slots) (sym c.sizes-sizes.ensures))) in
    starts_scan config c.slot_count-count.ensures.runnable c.args.task c.args.scan.now.rows c.requires.rows short b.variables.now q.variables b.image.now b.calls.now.slots q.fields q.outputs q.slots q.each values globals c.listed-listed.ensures c.enter.new.scan
    (c.enter.ensures ∙ ap₂ (λ r f. going r f [] [] None) rows (c.first_frame-frame.ensures c.requires.rows.0 c.requires.rows.1.program)) c.requires.own q.own
