use Rattle.std.proofs.Common.{rules, ◌≡◌, ℕ, List, refl, ap, map, arith}
use Rattle.std.specs.Prelude.{length, string_bytes}
use Rattle.std.proofs.lemmas.List.{length-map, nil_from_length}
use Rattle.cli_host.specs.Servings.{given_of}
use Rattle.cli_host.specs.Servings.Give.{more_words}
use Rattle.cli_host.proofs.Given.{fewer, left, must_give, at_end, nothing_more}
use Rattle.cli_host.proofs.serving.words_given.Goals as goal

pub words-preserved : goal.words-preserved
words-preserved c =
    let first = c.in_ok-more.ensures.some in
    record {
      whole = λ after give. c.words.invariant.whole after (more_words _ _ _ _ after first give);
      left = λ after give. left _ _ _ after _ first (c.words.invariant.left after give);
    }

pub words-smaller : goal.words-smaller
words-smaller c = fewer (map string_bytes c.words.rest.now) (given_of c.words.given) (given_of c.in_ok-more.more.given) (map string_bytes c.in_ok-more.more.rest.now) c.in_ok-more.ensures.some

pub returns-clause-some : goal.returns-clause-some
returns-clause-some c =
    let none : length c.words.rest.now ≡ 0 = search rules in
    c.words.invariant.whole _ (nothing_more _ _ (ap (map string_bytes) (nil_from_length c.words.rest.now none)))

pub returns-clause-only : goal.returns-clause-only
returns-clause-only c = λ after give.
    let none : length c.words.rest.now ≡ 0 = search rules in
    at_end _ _ after (ap (map string_bytes) (nil_from_length c.words.rest.now none)) (c.words.invariant.left after give)

pub returns-in_err-more-clause-none : goal.returns-in_err-more-clause-none
returns-in_err-more-clause-none c = λ _ after give.
    let some : length c.words.rest.now ≡ 0 → ⊥ = search rules in
    must_give (map string_bytes c.words.rest.now) _ after
    (λ is. let none : length (map string_bytes c.words.rest.now) ≡ 0 = ap length is in let same = length-map {B = List ℕ} c.words.rest.now in some (omega (arith, none, same)))
    (c.in_err-more.ensures.none refl) (c.words.invariant.left after give)
