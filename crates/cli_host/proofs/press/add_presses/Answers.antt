use Rattle.std.proofs.Common.{refl, sym, ◌≡◌, ◌∙◌, ◌++◌, ◌+◌, ◌∷◌, [], map, take, subst}
use Rattle.std.specs.Prelude.{string_bytes}
use Rattle.cli_host.specs.Presses.{IsPress, AreOfWords, HasNoPress}
use Rattle.cli_host.proofs.Apart.{stands}
use Rattle.cli_host.proofs.Parts.{one_more, so_far}
use Rattle.cli_host.proofs.press.add_presses.Goals as goal

pub returns-in-None-clause-err : goal.returns-in-None-clause-err
returns-in-None-clause-err c =
    let named : string_bytes c.in_ok-from_str-in-None.field-0 ≡ c.deref.result.now = c.in_ok-from_str-in-None.ensures.ok ∙ c.deref-in-None.ensures ∙ sym c.deref.ensures in
    subst (HasNoPress c.args.rounds c.args.floors (map string_bytes c.args.words.now)) (sym named) (record {
      place = c.words.word-index;
      stands = stands c.args.words.now c.words.word-index c.word-item.result c.deref.result.now c.words-test.true c.word-item.is c.deref.ensures;
      none = c.in-None.ensures.none refl;
    })

pub words-preserved : goal.words-preserved
words-preserved c = λ before are.
    subst (AreOfWords c.args.rounds c.args.floors (before ++ map string_bytes (take (c.words.word-index + 1) c.args.words.now))) (sym c.in_ok-push-in-Some.ensures.ok)
    (subst (λ ws. AreOfWords c.args.rounds c.args.floors ws (c.words.presses ++ c.in-Some.press ∷ [])) (so_far before c.args.words.now c.words.word-index c.word-item.result c.words-test.true c.word-item.is)
    (one_more c.args.rounds c.args.floors _ c.words.presses _ c.in-Some.press (c.words.invariant before are)
    (subst (λ w. IsPress c.args.rounds c.args.floors w c.in-Some.press) c.deref.ensures c.in-Some.ensures.some)))
