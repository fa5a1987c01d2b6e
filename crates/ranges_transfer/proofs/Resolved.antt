-- What operands mean with numbers is what they denote.
use Rattle.std.proofs.Common.{◌≡◌, ◌&&◌, List, Option, Some, None, refl, sym, ap, ◌∙◌, subst}
use Rattle.std.specs.Prelude.{option_and_then}
use Rattle.ranges_interval.specs.declared.Interval.{Interval}
use Rattle.il_syntax.specs.declared.tree.Elementary.{Elementary}
use Rattle.il_syntax.specs.declared.tree.Scalar.{Scalar}
use Rattle.il_syntax.specs.declared.tree.Subrange.{Subrange}
use Rattle.il_syntax.specs.declared.tree.Form.{Form}
use Rattle.il_syntax.specs.declared.tree.Form.TheVariants.{Scalar as OfScalar, Array as OfArray, Block as OfBlock}
use Rattle.il_syntax.specs.declared.tree.Index.{Index}
use Rattle.il_syntax.specs.declared.tree.Index.TheVariants.{Number, Variable as ByVariable}
use Rattle.il_syntax.specs.declared.tree.Reference.{Reference}
use Rattle.il_syntax.specs.declared.tree.Reference.TheVariants.{Literal as OfLiteral, Variable as OfVariable, Element as OfElement, Member as OfMember}
use Rattle.il_syntax.specs.ElementaryTypes.{is_whole}
use Rattle.il_statics.specs.Names.{form_named, or_else, entry_of, block_variables}
use Rattle.base_maps.specs.NameMap.{Text, get}
use Rattle.il_semantics.specs.Meaning.{Denotation, Constant, Direct, Numbered, Indexed, Inside, Unknown, direct, indexed_by, element_of, inside, member_of, natural, inputs_of, outputs_of}
use Rattle.il_semantics.specs.declared.known.Known.{Known}
use Rattle.il_semantics.specs.declared.known.Known.TheVariants.{Flag, Ranged}
use Rattle.il_semantics.specs.Annotation.{interval, range, form_range, declared_range, declared_known, IsVariableWithin}
use Rattle.ranges_laws.specs.Facts.{Names, range_by, row_at, variables_of, IsRowOf, IsFineKnown, IsFineResult}
use Rattle.ranges_laws.specs.Found.{provided, there_fits, found_operand, found_flow, fits_range, fits_target}
use Rattle.ranges_laws.specs.Steps.{context, stored_row}
use Rattle.ranges_laws.specs.Numbers.{is_inside, operand_inside}
use Rattle.ranges_laws.specs.Prepared.{IsFineDenotation}
use Rattle.ranges_laws.proofs.Rows.{row_is, variable_itself}
use Rattle.ranges_laws.proofs.Operations.{operand_agrees}
use Rattle.ranges_transfer.specs.declared.meant.Meant.{Meant}
use Rattle.ranges_transfer.specs.Meant.{resolved, range_in, operand_in, operand_inside_in, natural_of, context_of, target_fits, stored_in, is_inside_in}
use Rattle.ranges_transfer.specs.Scopes.{denoted}

-- THE TYPES OF VARIABLES

-- the declared range of a variable is that of its scalar type
abbrev pub IsTyped : Names → Denotation → Type 0
IsTyped n (Direct name s) = declared_range n.config n.unit name ≡ range s
IsTyped n (Indexed name bounds element variable s) = declared_range n.config n.unit variable ≡ range s
IsTyped n _ = Unit {0}

pub typed : (n : Names) (r : Reference) → IsTyped n (denoted n r)
typed n (OfLiteral l) = tt
typed n (OfVariable name) = by_form (form_named n.config n.unit name) refl
  where
    by_form : (o : Option Form) → form_named n.config n.unit name ≡ o → IsTyped n (direct name o)
    by_form None e = tt
    by_form (Some (OfScalar s)) e = ap (option_and_then form_range) e
    by_form (Some (OfArray bounds element)) e = tt
    by_form (Some (OfBlock block)) e = tt
typed n (OfElement name index) = by_form (form_named n.config n.unit name) index
  where
    by_variable : (bounds : Subrange) (element : Scalar) (v : Text) (o : Option Form) → form_named n.config n.unit v ≡ o → IsTyped n (indexed_by name bounds element v o)
    by_variable bounds element v None e = tt
    by_variable bounds element v (Some (OfScalar s)) e = ap (option_and_then form_range) e
    by_variable bounds element v (Some (OfArray b x)) e = tt
    by_variable bounds element v (Some (OfBlock block)) e = tt

    by_form : (o : Option Form) (index : Index) → IsTyped n (element_of (form_named n.config n.unit) name index o)
    by_form None index = tt
    by_form (Some (OfScalar s)) index = tt
    by_form (Some (OfArray bounds element)) (Number z) = tt
    by_form (Some (OfArray bounds element)) (ByVariable v) = by_variable bounds element v (form_named n.config n.unit v) refl
    by_form (Some (OfBlock block)) index = tt
typed n (OfMember instance word) = by_form (form_named n.config n.unit instance)
  where
    by_word : (o : Option Form) → IsTyped n (inside instance word o)
    by_word None = tt
    by_word (Some (OfScalar s)) = tt
    by_word (Some (OfArray bounds element)) = tt
    by_word (Some (OfBlock block)) = tt

    by_form : (o : Option Form) → IsTyped n (member_of n.config instance word o)
    by_form None = tt
    by_form (Some (OfScalar s)) = tt
    by_form (Some (OfArray bounds element)) = tt
    by_form (Some (OfBlock block)) = by_word (or_else (entry_of (outputs_of (block_variables n.config block)) word) (entry_of (inputs_of (block_variables n.config block)) word))

-- the range of a variable
same_range : (n : Names) (row : List Interval) (name : Text) (s : Scalar) → declared_range n.config n.unit name ≡ range s → range_in row s (get n.numbers name) ≡ row_at n row name
same_range n row name s e = ap (λ o. range_by o row (get n.numbers name)) (sym e)

-- OPERANDS

operand_same : (n : Names) (row : List Interval) (e : Elementary) (d : Denotation) → IsTyped n d → operand_in row e (resolved n d) ≡ found_operand (row_at n row) e d
operand_same n row e (Constant l) t = refl
operand_same n row e (Direct name s) t = ap (found_flow s.elementary (range s)) (same_range n row name s t)
operand_same n row e (Numbered name bounds element z) t = refl
operand_same n row e (Indexed name bounds element variable s) t = ap (λ o. provided (is_whole s.elementary) (provided (there_fits o (interval bounds)) (Some (declared_known element)))) (same_range n row variable s t)
operand_same n row e (Inside instance word s) t = refl
operand_same n row e Unknown t = refl

pub operand_is : (n : Names) (row : List Interval) (e : Elementary) (r : Reference) → operand_in row e (resolved n (denoted n r)) ≡ found_operand (row_at n row) e (denoted n r)
operand_is n row e r = operand_same n row e (denoted n r) (typed n r)

option_fine : (o : Option Known) → ((k : Known) → o ≡ Some k → IsFineKnown k) → IsFineResult o
option_fine None h = tt
option_fine (Some k) h = h k refl

-- what is found of an operand is what operations take
pub operand_fine : (n : Names) (row : List Interval) (e : Elementary) (r : Reference) → IsRowOf n row → IsFineDenotation (denoted n r) → IsFineResult (found_operand (row_at n row) e (denoted n r))
operand_fine n row e r f fine =
    option_fine (found_operand (row_at n row) e (denoted n r)) (λ k s. (operand_agrees n row (variables_of n row) (record { fine = f; within = λ q. subst (λ x. IsVariableWithin (row_at n row q) x) (sym (row_is n row q)) (variable_itself (row_at n row q)) }) e (denoted n r) fine).fine k s)

-- the type of a bare literal
natural_same : (n : Names) (d : Denotation) → natural_of (resolved n d) ≡ natural d
natural_same n (Constant l) = refl
natural_same n (Direct name s) = refl
natural_same n (Numbered name bounds element z) = refl
natural_same n (Indexed name bounds element variable s) = refl
natural_same n (Inside instance word s) = refl
natural_same n Unknown = refl

pub natural_is : (n : Names) (r : Reference) → natural_of (resolved n (denoted n r)) ≡ natural (denoted n r)
natural_is n r = natural_same n (denoted n r)

pub context_is : (n : Names) (r : Reference) (k : Known) → context_of (resolved n (denoted n r)) k ≡ context (denoted n r) k
context_is n r Flag = natural_is n r
context_is n r (Ranged e i) = refl

-- what is found, by what was meant
pub found_is : (n : Names) (row : List Interval) (e f : Elementary) (r : Reference) → e ≡ f → operand_in row e (resolved n (denoted n r)) ≡ found_operand (row_at n row) f (denoted n r)
found_is n row e f r same = ap (λ t. operand_in row t (resolved n (denoted n r))) same ∙ operand_is n row f r

pub found_from : (n : Names) (row : List Interval) (e f : Elementary) (r : Reference) (m : Meant) (o : Option Known) → m ≡ resolved n (denoted n r) → e ≡ f → o ≡ operand_in row e m → o ≡ found_operand (row_at n row) f (denoted n r)
found_from n row e f r m o is same found = found ∙ ap (operand_in row e) is ∙ found_is n row e f r same

pub fine_from : (n : Names) (row : List Interval) (e : Elementary) (r : Reference) (o : Option Known) → IsRowOf n row → IsFineDenotation (denoted n r) → o ≡ found_operand (row_at n row) e (denoted n r) → IsFineResult o
fine_from n row e r o f fine is = subst IsFineResult (sym is) (operand_fine n row e r f fine)

-- TARGETS

target_same : (n : Names) (row : List Interval) (d : Denotation) (k : Known) → IsTyped n d → target_fits row (resolved n d) k ≡ fits_target n row d k
target_same n row (Constant l) k t = refl
target_same n row (Direct name s) k t = refl
target_same n row (Numbered name bounds element z) k t = refl
target_same n row (Indexed name bounds element variable s) k t = ap (λ o. is_whole s.elementary && (there_fits o (interval bounds) && fits_range element.elementary (range element) k)) (same_range n row variable s t)
target_same n row (Inside instance word s) k t = refl
target_same n row Unknown k t = refl

pub target_is : (n : Names) (row : List Interval) (r : Reference) (k : Known) → target_fits row (resolved n (denoted n r)) k ≡ fits_target n row (denoted n r) k
target_is n row r k = target_same n row (denoted n r) k (typed n r)

stored_same : (n : Names) (row : List Interval) (d : Denotation) (k : Known) → stored_in (resolved n d) k row ≡ stored_row n d k row
stored_same n row (Direct name s) (Ranged e i) = refl
stored_same n row (Direct name s) Flag = refl
stored_same n row (Constant l) k = refl
stored_same n row (Numbered name bounds element z) k = refl
stored_same n row (Indexed name bounds element variable s) k = refl
stored_same n row (Inside instance word s) k = refl
stored_same n row Unknown k = refl

pub stored_is : (n : Names) (row : List Interval) (r : Reference) (k : Known) → stored_in (resolved n (denoted n r)) k row ≡ stored_row n (denoted n r) k row
stored_is n row r k = stored_same n row (denoted n r) k

-- INDICES

inside_same : (n : Names) (row : List Interval) (d : Denotation) → IsTyped n d → is_inside_in row (resolved n d) ≡ is_inside (get (variables_of n row)) d
inside_same n row (Constant l) t = refl
inside_same n row (Direct name s) t = refl
inside_same n row (Numbered name bounds element z) t = refl
inside_same n row (Indexed name bounds element variable s) t = ap (λ o. there_fits o (interval bounds)) (same_range n row variable s t ∙ sym (row_is n row variable))
inside_same n row (Inside instance word s) t = refl
inside_same n row Unknown t = refl

pub inside_is : (n : Names) (row : List Interval) (r : Reference) → is_inside_in row (resolved n (denoted n r)) ≡ is_inside (get (variables_of n row)) (denoted n r)
inside_is n row r = inside_same n row (denoted n r) (typed n r)

-- what is known of an operand as if its index lay in its array
beside_same : (n : Names) (row : List Interval) (e : Elementary) (d : Denotation) → IsTyped n d → operand_inside_in row e (resolved n d) ≡ operand_inside (get (variables_of n row)) e d
beside_same n row e (Constant l) t = refl
beside_same n row e (Direct name s) t = operand_same n row e (Direct name s) t ∙ ap (found_flow s.elementary (range s)) (sym (row_is n row name))
beside_same n row e (Numbered name bounds element z) t = refl
beside_same n row e (Indexed name bounds element variable s) t = refl
beside_same n row e (Inside instance word s) t = refl
beside_same n row e Unknown t = refl

pub beside_from : (n : Names) (row : List Interval) (e f : Elementary) (r : Reference) (m : Meant) (o : Option Known) → m ≡ resolved n (denoted n r) → e ≡ f → o ≡ operand_inside_in row e m → o ≡ operand_inside (get (variables_of n row)) f (denoted n r)
beside_from n row e f r m o is same found = found ∙ ap (operand_inside_in row e) is ∙ ap (λ t. operand_inside_in row t (resolved n (denoted n r))) same ∙ beside_same n row f (denoted n r) (typed n r)

fine_same : (n : Names) (row : List Interval) (e : Elementary) (d : Denotation) → IsRowOf n row → IsFineDenotation d → IsFineResult (found_operand (row_at n row) e d) → IsFineResult (operand_inside (get (variables_of n row)) e d)
fine_same n row e (Constant l) f fine found = found
fine_same n row e (Direct name s) f fine found = subst (λ o. IsFineResult (found_flow s.elementary (range s) o)) (sym (row_is n row name)) found
fine_same n row e (Numbered name bounds element z) f fine found = fine
fine_same n row e (Indexed name bounds element variable s) f fine found = fine
fine_same n row e (Inside instance word s) f fine found = found
fine_same n row e Unknown f fine found = found

pub beside_fine : (n : Names) (row : List Interval) (e : Elementary) (r : Reference) (o : Option Known) → IsRowOf n row → IsFineDenotation (denoted n r) → o ≡ operand_inside (get (variables_of n row)) e (denoted n r) → IsFineResult o
beside_fine n row e r o f fine is = subst IsFineResult (sym is) (fine_same n row e (denoted n r) f fine (operand_fine n row e r f fine))
