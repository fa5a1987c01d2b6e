use Rattle.std.proofs.Common.{◌≡◌, sym, ◌∙◌, ap, refl}
use Rattle.load_lines.specs.Count.{keyword_number}
use Rattle.load_lines.specs.declared.lead.Lead.TheVariants as lead
use Rattle.load_lines.proofs.Same.{keyword_one}
use Rattle.load_lines.proofs.Leaves.{word_there, word_lead}
use Rattle.load_lines.proofs.source.Source.take_word.Goals as goal

pub returns-in_default-clause-eaten : goal.returns-in_default-clause-eaten
returns-in_default-clause-eaten c = (refl, λ other w. c.in_default.not-Reserved c.args.keyword (c.requires ∙ word_lead c.args.self.now c.args.keyword _ other w))

pub returns-then-keyword_number-clause-eaten : goal.returns-then-keyword_number-clause-eaten
returns-then-keyword_number-clause-eaten c = (
  refl,
  λ other w.
      let l = word_lead c.args.self.now c.args.keyword _ other w in
      let same : c.in-Reserved.its ≡ c.args.keyword = cc (sym c.in-Reserved.is ∙ c.requires ∙ l) in
      c.if-keyword_number.true (c.keyword_number.ensures ∙ ap keyword_number same ∙ sym c.keyword_number-2.ensures),
)

pub returns-clause-eaten : goal.returns-clause-eaten
returns-clause-eaten c =
    let n : keyword_number c.in-Reserved.its ≡ keyword_number c.args.keyword = sym c.keyword_number.ensures ∙ c.if-keyword_number.false ∙ c.keyword_number-2.ensures in
    let same = keyword_one c.in-Reserved.its c.args.keyword n in
    rw c.advance.ensures.rest (word_there c.args.self.now c.args.keyword _ (sym c.requires ∙ c.in-Reserved.is ∙ ap (λ k. lead.Reserved k) same))
