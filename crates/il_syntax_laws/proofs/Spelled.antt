-- What is shown of a tree that a text spells.
use Rattle.std.proofs.Common.{◌≡◌, ℕ, zero, suc, ◌<◌, ◌≤◌, List, [], ◌∷◌, ◌++◌, length, get_or, ◌∙◌, ap, arith, Option, Some, None}
use Rattle.std.specs.Prelude.{ℤ, IsTrue, Contains, All, AllPairs}
use Rattle.il_syntax.specs.declared.tree.Place.{Place}
use Rattle.il_syntax.specs.declared.tree.Elementary.{Elementary}
use Rattle.il_syntax.specs.declared.tree.Literal.TheVariants.{Whole}
use Rattle.il_syntax.specs.declared.tree.Named.{Named}
use Rattle.il_syntax.specs.declared.tree.Initial.{Initial}
use Rattle.il_syntax.specs.declared.tree.Declaration.{Declaration}
use Rattle.il_syntax.specs.declared.tree.Unit.{Unit as ProgramUnit}
use Rattle.il_syntax.specs.declared.tree.Config.{Config}
use Rattle.il_syntax.specs.ElementaryTypes.{is_whole}
use Rattle.il_syntax.specs.Grammar.{Spells}
use Rattle.il_statics.specs.Declarations.{unit_declarations, names_in}
use Rattle.il_statics.specs.Written.{IsWritten}
use Rattle.il_syntax_laws.specs.Places.{places, HasItsLine, AreInText}
use Rattle.il_syntax_laws.proofs.Walk.{Rise, Each, after_lines}
use Rattle.il_syntax_laws.proofs.Shown.{HasWord, IsWholeInitial, IsWrittenDeclaration, IsWrittenUnit, config_shown}
use Rattle.il_syntax_laws.proofs.Members.{of_both, of_given, of_each}

-- what is shown of a tree
record IsShown (text : List ℕ) (c : Config) : Type 0 where
  end : ℕ
  rise : Rise text 0 (places c) end
  units : Each IsWrittenUnit c.units
  globals : Each IsWrittenDeclaration c.globals

spelled_shown : (text : List ℕ) (c : Config) → Spells text c → IsShown text c
spelled_shown text c (ts, tokens, spelled) =
    let w = (after_lines (config_shown c)).walk 0 ts [] tokens spelled in
    record { end = w.0; rise = w.2; units = w.3.0; globals = w.3.1 }

-- PLACES

-- each place has its line
all_lines : (text : List ℕ) (at : ℕ) (ps : List Place) (to : ℕ) → Rise text at ps to → All (HasItsLine text) ps
all_lines text at [] to h k d below = absurd (omega arith)
all_lines text at (p ∷ ps) to h zero d below = h.1
all_lines text at (p ∷ ps) to h (suc k) d below = all_lines text p.offset ps to h.2 k d (omega arith)

-- none comes before the first
all_behind : (text : List ℕ) (at : ℕ) (ps : List Place) (to k : ℕ) (d : Place) → Rise text at ps to → k < length ps → at ≤ (get_or ps k d).offset
all_behind text at [] to k d h below = absurd (omega arith)
all_behind text at (p ∷ ps) to zero d h below = h.0
all_behind text at (p ∷ ps) to (suc k) d h below = let rest = all_behind text p.offset ps to k d h.2 (omega arith) in omega (arith, h.0, rest)

-- none comes before an earlier one
in_order : (text : List ℕ) (at : ℕ) (ps : List Place) (to : ℕ) → Rise text at ps to → AllPairs (λ (p q : Place). p.offset ≤ q.offset) ps
in_order text at [] to h i j d up below = absurd (omega arith)
in_order text at (p ∷ ps) to h zero zero d up below = absurd (omega arith)
in_order text at (p ∷ ps) to h zero (suc j) d up below = all_behind text p.offset ps to j d h.2 (omega arith)
in_order text at (p ∷ ps) to h (suc i) zero d up below = absurd (omega arith)
in_order text at (p ∷ ps) to h (suc i) (suc j) d up below = in_order text p.offset ps to h.2 i j d (omega arith) (omega arith)

pub spelled_places : (text : List ℕ) (c : Config) → Spells text c → AreInText text (places c)
spelled_places text c spelled =
    let shown = spelled_shown text c spelled in
    record { lines = all_lines text 0 (places c) shown.end shown.rise; order = in_order text 0 (places c) shown.end shown.rise }

-- NAMES AND LITERALS

-- the declarations of a unit
of_unit : (u : ProgramUnit) → IsWrittenUnit u → (d : Declaration) → Contains (unit_declarations u) d → IsWrittenDeclaration d
of_unit u h =
    let each = λ (ds : List Declaration). of_each IsWrittenDeclaration ds in
    of_both IsWrittenDeclaration ((u.inputs ++ u.outputs) ++ u.variables) u.externals
    (of_both IsWrittenDeclaration (u.inputs ++ u.outputs) u.variables (of_both IsWrittenDeclaration u.inputs u.outputs (each u.inputs h.1) (each u.outputs h.2)) (each u.variables h.3))
    (each u.externals h.4)

-- the names of declarations
of_names : (ds : List Declaration) → ((d : Declaration) → Contains ds d → IsWrittenDeclaration d) → (n : Named) → Contains (names_in ds) n → HasWord n
of_names ds all = of_given HasWord (λ d. d.names) ds (λ d c. of_each HasWord d.names (all d c).0)

-- the type before the number of an initial value
of_initial : (i : Option Initial) (v : Initial) (e : Elementary) (z : ℤ) → IsWholeInitial i → i ≡ Some v → v.literal ≡ Whole e z → IsTrue (is_whole e)
of_initial None v e z h some same = absurd cc
of_initial (Some w) v e z h some same = h e z (ap (λ (x : Initial). x.literal) (some_is w v some) ∙ same)
  where
    some_is : (a b : Initial) → Some a ≡ Some b → a ≡ b
    some_is a b h = cc

pub spelled_written : (text : List ℕ) (c : Config) → Spells text c → IsWritten c
spelled_written text c spelled =
    let shown = spelled_shown text c spelled in
    let unit = of_each IsWrittenUnit c.units shown.units in
    let all = of_both IsWrittenDeclaration _ c.globals (of_given IsWrittenDeclaration unit_declarations c.units (λ u h. of_unit u (unit u h))) (of_each IsWrittenDeclaration c.globals shown.globals) in
    record {
      headings = λ u h. (unit u h).0;
      names = λ u n h k. of_names (unit_declarations u) (of_unit u (unit u h)) n k;
      globals = λ n h. of_names c.globals (of_each IsWrittenDeclaration c.globals shown.globals) n h;
      externals = λ u h other. (unit u h).5 other;
      literals = λ d i e z h some same. of_initial d.initial i e z (all d h).1 some same;
    }
