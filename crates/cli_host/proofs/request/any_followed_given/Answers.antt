use Rattle.std.proofs.Common.{rules, refl, ap, ◌∙◌, ◌∷◌}
use Rattle.cli_host.specs.Requests.{IsDigits, words_of}
use Rattle.cli_host.proofs.request.any_followed_given.Goals as goal

pub returns-clause-some : goal.returns-clause-some
returns-clause-some c =
    let no : IsDigits c.in_ok-trace.trace.now → ⊥ = search (rules, c.if-is_digits.ensures) in
    record {
      positional = words_of c.in_ok-positional.field-0.positional;
      apart = c.in_ok-positional.ensures.some;
      parts = c.in_ok-file.ensures.some ∙ ap (λ ws. c.in_ok-file.file.now ∷ ws) c.in_ok-trace.ensures.some;
      is_trace = no;
      plain = c.in_ok-positional.ensures.plain;
      whole = refl;
    }
