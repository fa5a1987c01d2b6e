-- A configuration that is accepted, so that the laws' premises can be met: the program LD V, ADD 1, ST V with V : INT.
use Rattle.std.proofs.Common.{◌≡◌, pos, false, [], ◌∷◌, refl, Some, None, codes}
use Rattle.std.specs.Prelude.{Contains, IsTrue}
use Rattle.il_syntax.specs.ElementaryTypes.{is_whole}
use Rattle.il_syntax.specs.declared.tree.Config.{Config}
use Rattle.il_syntax.specs.declared.tree.Unit.{Unit as ProgramUnit}
use Rattle.il_syntax.specs.declared.tree.Named.{Named}
use Rattle.il_syntax.specs.declared.tree.Declaration.{Declaration}
use Rattle.il_syntax.specs.declared.tree.Reference.TheVariants.{Literal as OfLiteral, Variable as OfVariable}
use Rattle.il_syntax.specs.declared.tree.Literal.TheVariants.{Bare}
use Rattle.il_syntax.specs.declared.tree.Arithmetic.TheVariants.{Add}
use Rattle.il_syntax.specs.declared.tree.Operator.TheVariants.{Arithmetic as ArithmeticOperator}
use Rattle.il_syntax.specs.declared.tree.Store.TheVariants.{Plain}
use Rattle.il_syntax.specs.declared.tree.Instruction.TheVariants.{Store as StoreInto, Operate}
use Rattle.il_statics.specs.Names.{is_program, image_name, standard_function, standard_block}
use Rattle.il_statics.specs.Declarations.{unit_names}
use Rattle.il_statics.proofs.Rows.{named, declared, step, operand, load, int, program, frame, only}
use Rattle.il_statics.proofs.Accepted.{counting-declared, counting-typed, counting-ordered}
use Rattle.il_statics.specs.Written.{IsWord}
use Rattle.il_semantics_laws.specs.Soundness.{IsInOrder}
use Rattle.il_statics.specs.Written.{IsWritten}
use Rattle.il_semantics_laws.specs.Accepted.{IsAccepted}
use Rattle.il_semantics_laws.proofs.Lists.{in_nothing}
use Rattle.il_semantics_laws.proofs.Words.{word_by}
use Rattle.il_semantics_laws.proofs.Premises.{in_order}

abbrev counting_program : ProgramUnit
counting_program =
    program 10 (codes "C") (declared (named 20 (codes "V") ∷ []) 21 int None ∷ []) [] (step 30 (load 31 (OfVariable (codes "V"))) ∷ step 40 (Operate (ArithmeticOperator Add) (operand 41 (OfLiteral (Bare (pos 1))))) ∷ step 50 (StoreInto Plain (operand 51 (OfVariable (codes "V")))) ∷ [])

abbrev counting : Config
counting = frame (counting_program ∷ [])

is_written : IsWritten counting
is_written = record {
  headings = λ u among. only (λ (w : ProgramUnit). IsWord w.name.name) counting_program u (word_by (codes "C") refl) among;
  names = λ u n among. only (λ (w : ProgramUnit). Contains (unit_names w) n → IsWord n.name) counting_program u (λ has. only (λ (m : Named). IsWord m.name) _ n (word_by (codes "V") refl) has) among;
  globals = λ n among. absurd (in_nothing n among);
  externals = λ u among. only (λ (w : ProgramUnit). is_program w ≡ false → w.externals ≡ []) counting_program u (λ other. refl) among;
  literals = λ d i e z among some is. only (λ (f : Declaration). f.initial ≡ Some i → IsTrue (is_whole e)) _ d (λ never. cc) among some;
}

is_accepted : IsAccepted counting counting_program
unfolding image_name standard_function standard_block
is_accepted = record { written = is_written; declared = counting-declared; typed = counting-typed; ordered = λ number place other. counting-ordered number place; program = refl }

pub counting_in_order : IsInOrder counting counting_program
counting_in_order = in_order counting counting_program is_accepted
