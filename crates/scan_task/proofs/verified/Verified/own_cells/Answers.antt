use Rattle.std.proofs.Common.{◌≡◌, ◌++◌, List, length, take, ap, ap₂, ◌∙◌, arith}
use Rattle.std.proofs.lemmas.List.{length-append, take-append-le, take_all}
use Rattle.load_slots.specs.declared.flat.Cell.{Cell}
use Rattle.load_slots.specs.Program.{own_cells, seen_cells}
use Rattle.scan_task.proofs.verified.Verified.own_cells.Goals as goal

take_front : (xs ys : List Cell) → take (length xs) (xs ++ ys) ≡ xs
take_front xs ys = take-append-le (length xs) xs ys (omega arith) ∙ take_all (length xs) xs (omega arith)

pub split_at-requires : goal.split_at-requires
split_at-requires c =
    let config = c.args.self.now.config in
    let u = c.requires.0 in
    let t = c.task_code-code.ensures.code u c.requires.1.program in
    let n = length-append (own_cells config u) (seen_cells config u) in
    let cells = ap length (c.cells.ensures ∙ t.cells) in
    let own = c.own.ensures ∙ t.own in
    omega (arith, n, cells, own)

pub returns : goal.returns
returns c = λ u is.
    let config = c.args.self.now.config in
    let t = c.task_code-code.ensures.code u is in
    c.split_at.ensures.front ∙ (ap₂ take (c.own.ensures ∙ t.own) (c.cells.ensures ∙ t.cells) ∙ take_front (own_cells config u) (seen_cells config u))
