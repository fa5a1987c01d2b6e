use Rattle.std.proofs.Common.{◌≡◌, ◌∙◌, ap, sym, length, Some, arith}
use Rattle.il_syntax.specs.declared.tree.Config.{Config}
use Rattle.il_syntax.specs.declared.tree.ProgramLine.{ProgramLine}
use Rattle.load_scope.proofs.Seen.{read_at}
use Rattle.load_scope.specs.Views.{program_number}
use Rattle.load_code.proofs.Lined.{line_there, line_none}
use Rattle.scan_task.specs.Listing.{program_line_of}
use Rattle.scan_task.proofs.Lines.{line_named, number_first}
use Rattle.scan_task.proofs.plans.program_number.Goals as goal

pub unreachable-requires : goal.unreachable-requires
unreachable-requires c =
    let config = c.args.code.now in
    let line : program_line_of config.programs c.args.task ≡ Some c.index-lines-line.result = sym c.requires.line ∙ read_at c.as_slice-lines.result.now config.programs c.args.line c.index-lines-line.result (c.as_slice-lines.ensures ∙ ap (λ (k : Config). k.programs) c.config.ensures.is) (let n = ap length (c.as_slice-lines.ensures ∙ ap (λ (k : Config). k.programs) c.config.ensures.is) in let low = c.requires.within in omega (arith, n, low)) c.index-lines-line.is in
    line_none config c.index-lines-line.result.program.name c.as_str.result.now c.requires.there.0 (sym c.in-None.is ∙ c.program.ensures ∙ ap (λ k. program_number k c.as_str.result.now) c.names.ensures.is) (c.as_str.ensures ∙ ap (λ (l : ProgramLine). l.program.name) (sym c.index-lines-line.is))
    (line_named config c.requires.runs c.args.task c.requires.there c.index-lines-line.result line c.requires.there.0 c.requires.there.1.program)

pub returns-clause-stands : goal.returns-clause-stands
returns-clause-stands c = λ u is.
    let config = c.args.code.now in
    let line : program_line_of config.programs c.args.task ≡ Some c.index-lines-line.result = sym c.requires.line ∙ read_at c.as_slice-lines.result.now config.programs c.args.line c.index-lines-line.result (c.as_slice-lines.ensures ∙ ap (λ (k : Config). k.programs) c.config.ensures.is) (let n = ap length (c.as_slice-lines.ensures ∙ ap (λ (k : Config). k.programs) c.config.ensures.is) in let low = c.requires.within in omega (arith, n, low)) c.index-lines-line.is in
    line_there config c.index-lines-line.result.program.name c.as_str.result.now c.in-Some.unit u (sym c.in-Some.is ∙ c.program.ensures ∙ ap (λ k. program_number k c.as_str.result.now) c.names.ensures.is) (c.as_str.ensures ∙ ap (λ (l : ProgramLine). l.program.name) (sym c.index-lines-line.is))
    (line_named config c.requires.runs c.args.task c.requires.there c.index-lines-line.result line u is)

pub returns-clause-first : goal.returns-clause-first
returns-clause-first c = λ u is.
    let config = c.args.code.now in
    let line : program_line_of config.programs c.args.task ≡ Some c.index-lines-line.result = sym c.requires.line ∙ read_at c.as_slice-lines.result.now config.programs c.args.line c.index-lines-line.result (c.as_slice-lines.ensures ∙ ap (λ (k : Config). k.programs) c.config.ensures.is) (let n = ap length (c.as_slice-lines.ensures ∙ ap (λ (k : Config). k.programs) c.config.ensures.is) in let low = c.requires.within in omega (arith, n, low)) c.index-lines-line.is in
    number_first config c.index-lines-line.result.program.name c.as_str.result.now c.in-Some.unit u (sym c.in-Some.is ∙ c.program.ensures ∙ ap (λ k. program_number k c.as_str.result.now) c.names.ensures.is) (c.as_str.ensures ∙ ap (λ (l : ProgramLine). l.program.name) (sym c.index-lines-line.is))
    (line_named config c.requires.runs c.args.task c.requires.there c.index-lines-line.result line u is)
