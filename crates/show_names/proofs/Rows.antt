-- Worked rows: small bodies, their uses and the lines of their names.
use Rattle.std.proofs.Common.{◌≡◌, ℕ, false, List, [], ◌∷◌, ◌++◌, refl, append_assoc, arith, rules}
use Rattle.std.proofs.lemmas.Grind.{common_steps}
use Rattle.std.specs.Prelude.{pos, codes, decimal}
use Rattle.std.proofs.lemmas.List.{append-nil}
use Rattle.il_syntax.specs.declared.tree.Place.{Place}
use Rattle.il_syntax.specs.declared.tree.Named.{Named}
use Rattle.il_syntax.specs.declared.tree.Index.TheVariants.{Number, Variable as ByVariable}
use Rattle.il_syntax.specs.declared.tree.Reference.{Reference}
use Rattle.il_syntax.specs.declared.tree.Reference.TheVariants.{Variable, Element, Member}
use Rattle.il_syntax.specs.declared.tree.Operand.{Operand}
use Rattle.il_syntax.specs.declared.tree.Argument.TheVariants.{Input, Output}
use Rattle.il_syntax.specs.declared.tree.Condition.TheVariants.{Always}
use Rattle.il_syntax.specs.declared.tree.Store.TheVariants.{Plain}
use Rattle.il_syntax.specs.declared.tree.Instruction.{Instruction}
use Rattle.il_syntax.specs.declared.tree.Instruction.TheVariants.{Load, Store as StoreInto, Call, Invoke}
use Rattle.il_syntax.specs.declared.tree.Step.{Step}
use Rattle.show_names.specs.Uses.{use_in, uses}
use Rattle.show_names.specs.Xref.{name_line, used_part, declared_line, other_line}
use Rattle.show_names.specs.declared.uses.Manner.TheVariants.{Read, Written, Called}

abbrev in_line : ℕ → Place
in_line line = record { offset = 0; line = line }

abbrev at : ℕ → Reference → Operand
at line reference = record { place = in_line line; reference = reference }

abbrev named : ℕ → List ℕ → Named
named line name = record { place = in_line line; name = name }

abbrev step : Instruction → Step
step instruction = record { labels = []; place = in_line 1; instruction = instruction }

-- LD N in lines 3 and 7, ST N in line 6
abbrev counts : List Step
counts =
    step (Load false (at 3 (Variable (codes "N"))))
    ∷ step (StoreInto Plain (at 6 (Variable (codes "N"))))
    ∷ step (Load false (at 7 (Variable (codes "N")))) ∷ []

-- the line of a name that is declared elsewhere
row_other : other_line counts (codes "N") ≡ codes "  N: read " ++ (decimal 3 ++ (codes " " ++ (decimal 7 ++ (codes ", written " ++ (decimal 6 ++ codes "\n")))))
unfolding other_line
row_other = first_of (search (rules, append_assoc, append-nil), grind (arith, common_steps))

-- the line of a declared name, of its parts
row_parts : name_line (codes "N") (codes " declared 2" ∷ used_part Read (codes " 3 7") ∷ used_part Written (codes " 6") ∷ used_part Called [] ∷ []) ≡ codes "  N: declared 2, read 3 7, written 6\n"
row_parts = refl

-- a declared name that is never used
row_unused : declared_line [] (record { name = codes "N"; line = 2; is_instance = false; has_initial = false }) ≡ codes "  N: declared " ++ (decimal 2 ++ codes "\n")
unfolding declared_line
row_unused = first_of (search (rules, append_assoc, append-nil), grind (arith, common_steps))

-- ST W[I]: the array is written, its index is read
row_store : uses (step (StoreInto Plain (at 4 (Element (codes "W") (ByVariable (codes "I"))))) ∷ []) ≡ use_in Written 4 (codes "W") ∷ use_in Read 4 (codes "I") ∷ []
row_store = refl

-- LD W[2]: a number is no name
row_number : uses (step (Load false (at 4 (Element (codes "W") (Number (pos 2))))) ∷ []) ≡ use_in Read 4 (codes "W") ∷ []
row_number = refl

-- LD T1.Q: the instance is read
row_member : uses (step (Load false (at 4 (Member (codes "T1") (codes "Q")))) ∷ []) ≡ use_in Read 4 (codes "T1") ∷ []
row_member = refl

-- CAL T1(IN := A, Q => B), each in a line of its own
row_call : uses (step (Call Always (named 4 (codes "T1")) (Input (named 5 (codes "IN")) (at 5 (Variable (codes "A"))) ∷ Output (named 6 (codes "Q")) (named 6 (codes "B")) ∷ [])) ∷ [])
    ≡ use_in Called 4 (codes "T1") ∷ use_in Read 5 (codes "A") ∷ use_in Written 6 (codes "B") ∷ []
row_call = refl

-- SEL A, B
row_function : uses (step (Invoke (named 4 (codes "SEL")) (at 4 (Variable (codes "A")) ∷ at 4 (Variable (codes "B")) ∷ [])) ∷ []) ≡ use_in Called 4 (codes "SEL") ∷ use_in Read 4 (codes "A") ∷ use_in Read 4 (codes "B") ∷ []
row_function = refl
