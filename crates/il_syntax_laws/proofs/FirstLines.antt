-- The line of a first fault is one.
use Rattle.std.proofs.Common.{ℕ, List, sym, ◌∙◌, ap, subst}
use Rattle.std.specs.Prelude.{Contains}
use Rattle.il_syntax.specs.declared.tree.Place.{Place}
use Rattle.il_syntax.specs.declared.tree.Config.{Config}
use Rattle.il_syntax.specs.Text.{line_at}
use Rattle.il_syntax.specs.Grammar.{Spells}
use Rattle.il_statics.proofs.FirstFaults.{first_is_one}
use Rattle.il_syntax_laws.specs.Places.{places, HasItsLine, BreaksAtPlaces, IsFirstAtOneLine}
use Rattle.il_syntax_laws.proofs.Spelled.{spelled_places}

-- a place of a spelled tree has its line
its_line : (text : List ℕ) (c : Config) → Spells text c → (p : Place) → Contains (places c) p → HasItsLine text p
its_line text c spelled p (k, below, is) = subst (HasItsLine text) is ((spelled_places text c spelled).lines k p below)

-- where a rule is broken at places alone, the first fault is at one line
pub first_at_one_line : (text : List ℕ) (c : Config) (rule : ℕ → Place → Type 0) → Spells text c → BreaksAtPlaces c rule → IsFirstAtOneLine rule
first_at_one_line text c rule spelled at n m p q first other =
    let same = first_is_one rule n m p q first other in
    (same.0, its_line text c spelled p (at n p first.broken) ∙ ap (line_at text) same.1 ∙ sym (its_line text c spelled q (at m q other.broken)))
