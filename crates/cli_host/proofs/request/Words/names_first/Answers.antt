use Rattle.std.proofs.Common.{◌≡◌, ◌++◌, [], ℕ, List, length, map, string_bytes, true, false, refl, sym, ◌∙◌, subst, append_assoc}
use borrow.Author.Tests.{eq-eqb, eqb-true}
use Rattle.cli_host.specs.Requests.{AreNamesFirst}
use Rattle.cli_host.proofs.Names.{split_here, split_last, all_names, both_names, no_name}
use Rattle.cli_host.proofs.request.Words.names_first.Goals as goal

-- the same words
moved : (words names presses others more behind : List (List ℕ)) → words ≡ others → names ≡ more → presses ≡ behind → AreNamesFirst others more behind → AreNamesFirst words names presses
moved words names presses others more behind e f g are =
    subst (λ ws. AreNamesFirst ws names presses) (sym e) (subst (λ ws. AreNamesFirst others ws presses) (sym f) (subst (λ ws. AreNamesFirst others more ws) (sym g) are))

pub returns-then-not-is_empty : goal.returns-then-not-is_empty
returns-then-not-is_empty c =
    moved _ _ _ _ _ _ refl c.of.ensures refl
    (split_here c.args.self.front.now c.split_at.result.0.now c.split_at.result.1.now c.first_number.result c.split_at.ensures.front c.split_at.ensures.back c.first_number.ensures.before c.first_number.ensures.at
    [] (map string_bytes c.args.self.middle.now ++ map string_bytes c.args.self.back.now) no_name
    (λ none. let no : false ≡ true = sym c.if-not-is_empty.true ∙ c.is_empty.ensures ∙ eq-eqb (length c.split_at.result.1.now) 0 none in cc))

pub returns-then-not-is_empty-2 : goal.returns-then-not-is_empty-2
returns-then-not-is_empty-2 c =
    let front = all_names c.args.self.front.now c.split_at.result.0.now c.split_at.result.1.now c.first_number.result c.split_at.ensures.front c.split_at.ensures.back c.first_number.ensures.before c.first_number.ensures.at
    (eqb-true (length c.split_at.result.1.now) 0 (sym c.is_empty.ensures ∙ c.if-not-is_empty.false)) in
    moved _ _ _ _ _ _ refl c.around.ensures c.around-then-not-is_empty-2.ensures
    (split_here c.args.self.middle.now c.split_at-2.result.0.now c.split_at-2.result.1.now c.first_number-2.result c.split_at-2.ensures.front c.split_at-2.ensures.back c.first_number-2.ensures.before c.first_number-2.ensures.at
    (map string_bytes c.args.self.front.now) (map string_bytes c.args.self.back.now) front
    (λ none. let no : false ≡ true = sym c.if-not-is_empty-2.true ∙ c.is_empty-2.ensures ∙ eq-eqb (length c.split_at-2.result.1.now) 0 none in cc))

pub returns : goal.returns
returns c =
    let front = all_names c.args.self.front.now c.split_at.result.0.now c.split_at.result.1.now c.first_number.result c.split_at.ensures.front c.split_at.ensures.back c.first_number.ensures.before c.first_number.ensures.at
    (eqb-true (length c.split_at.result.1.now) 0 (sym c.is_empty.ensures ∙ c.if-not-is_empty.false)) in
    let middle = all_names c.args.self.middle.now c.split_at-2.result.0.now c.split_at-2.result.1.now c.first_number-2.result c.split_at-2.ensures.front c.split_at-2.ensures.back c.first_number-2.ensures.before c.first_number-2.ensures.at
    (eqb-true (length c.split_at-2.result.1.now) 0 (sym c.is_empty-2.ensures ∙ c.if-not-is_empty-2.false)) in
    let first = map string_bytes c.args.self.front.now in
    let second = map string_bytes c.args.self.middle.now in
    moved _ _ _ _ _ _ (sym (append_assoc first second (map string_bytes c.args.self.back.now))) (sym (append_assoc first second (map string_bytes c.split_at-3.result.0.now))) c.of-2.ensures
    (split_last c.args.self.back.now c.split_at-3.result.0.now c.split_at-3.result.1.now c.first_number-3.result c.split_at-3.ensures.front c.split_at-3.ensures.back c.first_number-3.ensures.before c.first_number-3.ensures.at
    (first ++ second) (both_names first second front middle))
