use Rattle.std.proofs.Common.{rules, ◌≡◌, [], ◌∷◌, decimal, true, sym, ap, ◌∙◌}
use Rattle.std.specs.Bool.{Decides}
use Rattle.std.proofs.Common.{Some, None}
use Rattle.std.proofs.lemmas.Bool.Decides.{Decides-eqb}
use Rattle.std.proofs.lemmas.Slice.Eq.{strip_prefix_is, slice_eq-Decides}
use Rattle.trace_text.specs.Text.{last_line}
use Rattle.trace_text.proofs.Bytes.{same_rest}
use Rattle.trace_text.proofs.read.is_last_line.Goals as goal

pub returns-in-Some : goal.returns-in-Some
unfolding last_line
returns-in-Some c =
    let line : c.args.line.now ≡ 69 ∷ 32 ∷ c.in-Some.digits.now = strip_prefix_is Decides-eqb c.args.line.now (69 ∷ 32 ∷ []) (Some c.in-Some.digits) c.in-Some.ensures.cases in
    let text : c.as_bytes.result.now ≡ decimal c.args.count = c.as_bytes.ensures.value ∙ c.format.ensures.text in
    let test : Decides c.eq.result (c.in-Some.digits.now ≡ c.as_bytes.result.now) = slice_eq-Decides Decides-eqb _ _ _ c.eq.ensures in
    let yes : c.eq.result ≡ true → c.args.line.now ≡ last_line c.args.count = λ t. line ∙ ap (λ d. 69 ∷ 32 ∷ d) (test.0 t ∙ text) in
    let back : c.args.line.now ≡ last_line c.args.count → c.eq.result ≡ true = λ e. test.1 (same_rest _ _ _ _ (same_rest _ _ _ _ (sym line ∙ e)) ∙ sym text) in
    search (rules, yes, back)

pub returns-in-None : goal.returns-in-None
unfolding last_line
returns-in-None c =
    let none = strip_prefix_is Decides-eqb c.args.line.now (69 ∷ 32 ∷ []) (None) c.in-None.ensures.cases in
    let no : c.args.line.now ≡ last_line c.args.count → ⊥ = λ e. none (decimal c.args.count) e in
    search (rules, no)
