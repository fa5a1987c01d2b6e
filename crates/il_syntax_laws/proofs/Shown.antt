-- What the grammar gives of each part of a tree: its places, and that its names are words.
use Rattle.std.proofs.Common.{◌≡◌, ℕ, ◌≤◌, List, [], ◌∷◌, ◌++◌, refl, sym, subst, Bool, true, false, inl, inr, Option, Some, None, append_assoc}
use Rattle.std.specs.Prelude.{ℤ, IsTrue, flat_map, codes}
use Rattle.il_syntax.specs.declared.token.Token.{Token}
use Rattle.il_syntax.specs.declared.token.Sign.TheVariants.{Assign, Arrow, Range, Colon, Semicolon, Comma, OpenParenthesis, CloseParenthesis, OpenBracket, CloseBracket, Dot, Ampersand}
use Rattle.il_syntax.specs.declared.keyword.Keyword.{Keyword}
use Rattle.il_syntax.specs.declared.keyword.Keyword.TheVariants as word
use Rattle.il_syntax.specs.declared.tree.Place.{Place}
use Rattle.il_syntax.specs.declared.tree.Elementary.{Elementary}
use Rattle.il_syntax.specs.declared.tree.Elementary.TheVariants as elementary
use Rattle.il_syntax.specs.declared.tree.Literal.{Literal}
use Rattle.il_syntax.specs.declared.tree.Literal.TheVariants as literal
use Rattle.il_syntax.specs.declared.tree.Subrange.{Subrange}
use Rattle.il_syntax.specs.declared.tree.Scalar.{Scalar}
use Rattle.il_syntax.specs.declared.tree.Form.{Form as TypeForm}
use Rattle.il_syntax.specs.declared.tree.Form.TheVariants as form
use Rattle.il_syntax.specs.declared.tree.WrittenType.{WrittenType}
use Rattle.il_syntax.specs.declared.tree.Named.{Named}
use Rattle.il_syntax.specs.declared.tree.Initial.{Initial}
use Rattle.il_syntax.specs.declared.tree.Declaration.{Declaration}
use Rattle.il_syntax.specs.declared.tree.Index.{Index}
use Rattle.il_syntax.specs.declared.tree.Index.TheVariants as index
use Rattle.il_syntax.specs.declared.tree.Reference.{Reference}
use Rattle.il_syntax.specs.declared.tree.Reference.TheVariants as reference
use Rattle.il_syntax.specs.declared.tree.Operand.{Operand}
use Rattle.il_syntax.specs.declared.tree.Operator.{Operator}
use Rattle.il_syntax.specs.declared.tree.Operator.TheVariants as operator
use Rattle.il_syntax.specs.declared.tree.Logic.TheVariants.{Conjunction, Disjunction, Exclusive}
use Rattle.il_syntax.specs.declared.tree.Argument.{Argument}
use Rattle.il_syntax.specs.declared.tree.Argument.TheVariants as argument
use Rattle.il_syntax.specs.declared.tree.Instruction.{Instruction}
use Rattle.il_syntax.specs.declared.tree.Instruction.TheVariants as instruction
use Rattle.il_syntax.specs.declared.tree.Step.{Step}
use Rattle.il_syntax.specs.declared.tree.Body.{Body}
use Rattle.il_syntax.specs.declared.tree.UnitKind.{UnitKind}
use Rattle.il_syntax.specs.declared.tree.UnitKind.TheVariants as unit
use Rattle.il_syntax.specs.declared.tree.Unit.{Unit as ProgramUnit}
use Rattle.il_syntax.specs.declared.tree.Size.{Size}
use Rattle.il_syntax.specs.declared.tree.Task.{Task}
use Rattle.il_syntax.specs.declared.tree.ProgramLine.{ProgramLine}
use Rattle.il_syntax.specs.declared.tree.Config.{Config}
use Rattle.il_syntax.specs.ElementaryTypes.{is_whole}
use Rattle.il_syntax.specs.Text.{IsLexeme, AreTokens}
use Rattle.il_syntax.specs.Grammar.{Front, Gap, AfterLines, TheSign, TheLetterN, TheWord, AWord, AName, TheName, SomeName, TheText, ADecimal, ANumber, ATyped, ALiteral, SpellsSubrange, SpellsScalar, SpellsForm, SpellsType, SpellsInitial, SpellsDeclaration, SpellsExternal, SpellsList, SpellsFilledList, SpellsOptionalList, SpellsIndex, SpellsReference, SpellsOperand, SpellsTarget, SpellsAmpersand, SpellsShortly, SpellsOperator, SpellsArgument, SpellsArguments, SpellsOperands, SpellsFirst, SpellsInstruction, SpellsLabel, SpellsLabelled, SpellsStep, SpellsLabelLine, SpellsBody, SpellsNoExternals, SpellsExternals, SpellsResult, SpellsUnit, SpellsSize, SpellsGlobals, SpellsTask, SpellsProgramLine, SpellsSizes, SpellsResource, SpellsConfig, unit_word, end_word}
use Rattle.il_statics.specs.Names.{is_program, is_program_kind}
use Rattle.il_statics.specs.Written.{IsWord}
use Rattle.il_syntax_laws.specs.Places.{name_places, operand_places, initial_places, declaration_places, argument_places, first_places, instruction_places, step_places, body_places, result_places, unit_places, globals_places, task_places, line_places, places}
use Rattle.il_syntax_laws.proofs.Walk.{Shows, Skips, tightly, loosely, gives, placed, chain, behind, before, after_lines, nothing, missing, the_end, either, one, the_sign, the_line_end, at_place, Each, repeats, repeats_until, listed}
use Rattle.il_syntax_laws.proofs.Words.{word_is, typed_is}

-- WHAT IS SHOWN

-- the type before a number is a whole one
abbrev pub IsWholeLiteral : Literal → Type 0
IsWholeLiteral l = (e : Elementary) (z : ℤ) → l ≡ literal.Whole e z → IsTrue (is_whole e)

-- of an initial value too
abbrev pub IsWholeInitial : Option Initial → Type 0
IsWholeInitial None = Unit {0}
IsWholeInitial (Some i) = IsWholeLiteral i.literal

-- a name is a word
abbrev pub HasWord : Named → Type 0
HasWord n = IsWord n.name

-- a declaration's names are words, and the type before its initial value is a whole one
abbrev pub IsWrittenDeclaration : Declaration → Type 0
IsWrittenDeclaration d = Each HasWord d.names × IsWholeInitial d.initial

-- a unit's name is a word, its declarations are written, and a program alone has externals
abbrev pub IsWrittenUnit : ProgramUnit → Type 0
IsWrittenUnit u =
    HasWord u.name × Each IsWrittenDeclaration u.inputs × Each IsWrittenDeclaration u.outputs × Each IsWrittenDeclaration u.variables × Each IsWrittenDeclaration u.externals
    × (is_program u ≡ false → u.externals ≡ [])

-- what is known of the externals of a kind of unit
abbrev OfPrograms : UnitKind → List Declaration → Type 0
OfPrograms (unit.Function result place) ds = ds ≡ []
OfPrograms unit.FunctionBlock ds = ds ≡ []
OfPrograms unit.Program ds = Unit {0}

-- so a unit that is no program has none
of_programs : (kind : UnitKind) (ds : List Declaration) → OfPrograms kind ds → is_program_kind kind ≡ false → ds ≡ []
of_programs (unit.Function result place) ds e other = e
of_programs unit.FunctionBlock ds e other = e
of_programs unit.Program ds e other = absurd cc

-- the places of the tasks, the programs and the end of a resource
abbrev in_resource : Config → List Place
in_resource c = flat_map task_places c.tasks ++ (flat_map line_places c.programs ++ c.end_resource ∷ [])

module _ {text : List ℕ} where
  -- TOKENS

  -- a reserved word
  pub the_word : (k : Keyword) → Shows text (TheWord text k) [] (Unit {0})
  the_word k = one (λ t p l. tt)

  -- a word, reserved or not
  any_word : (n : List ℕ) → Shows text (AWord text n) [] (Unit {0})
  any_word n = one (λ t p l. tt)

  -- a name
  a_name : (n : List ℕ) → Shows text (AName text n) [] (IsWord n)
  a_name n = one (λ t p l. subst IsWord p.1 (word_is text t.start t.end (subst (λ k. IsLexeme text k t.start t.end) p.0 l)))

  -- a name where it is written
  pub the_name : (n : Named) → Shows text (TheName text n) (name_places n) (HasWord n)
  the_name n = at_place n.place (a_name n.name)

  -- a name that the tree leaves out
  some_name : Shows text (SomeName text) [] (Unit {0})
  some_name = one (λ t p l. tt)

  -- a word that is no reserved one
  the_text : (n : List ℕ) → Shows text (TheText text n) [] (Unit {0})
  the_text n = one (λ t p l. tt)

  -- a decimal
  a_decimal : (value : ℤ) → Shows text (ADecimal text value) [] (Unit {0})
  a_decimal value = one (λ t p l. tt)

  -- a number
  a_number : (value : ℤ) → Shows text (ANumber value) [] (Unit {0})
  a_number value = one (λ t p l. tt)

  -- a typed literal
  a_typed : (l : Literal) → Shows text (ATyped l) [] (IsWholeLiteral l)
  a_typed l = one (λ t p x. typed_is text t.start t.end l (subst (λ k. IsLexeme text k t.start t.end) p x))

  -- a literal
  a_literal : (l : Literal) → Shows text (ALiteral text l) [] (IsWholeLiteral l)
  a_literal (literal.Truth b) = gives (λ u e z same. absurd cc) (the_word (word.Truth b))
  a_literal (literal.Bare n) = gives (λ u e z same. absurd cc) (a_number n)
  a_literal (literal.Whole type n) = a_typed (literal.Whole type n)
  a_literal (literal.Time n) = a_typed (literal.Time n)

  -- DECLARATIONS

  subrange_shown : (s : Option Subrange) → Shows text (SpellsSubrange text s) [] (Unit {0})
  subrange_shown None = missing (AfterLines (TheSign OpenParenthesis))
  subrange_shown (Some s) =
      after_lines (behind loosely (the_sign OpenParenthesis) (behind loosely (a_number s.lower) (behind loosely (the_sign Range) (behind loosely (a_number s.upper) (the_sign CloseParenthesis)))))

  scalar_shown : (s : Scalar) → Shows text (SpellsScalar text s) [] (Unit {0})
  scalar_shown s = behind tightly (the_word (word.Elementary s.elementary)) (subrange_shown s.subrange)

  form_shown : (f : TypeForm) → Shows text (SpellsForm text f) [] (Unit {0})
  form_shown (form.Scalar s) = scalar_shown s
  form_shown (form.Array bounds element) =
      behind loosely (the_word word.Array) (behind loosely (the_sign OpenBracket) (behind loosely (a_number bounds.lower) (behind loosely (the_sign Range)
      (behind loosely (a_number bounds.upper) (behind loosely (the_sign CloseBracket) (behind loosely (the_word word.Of) (scalar_shown element)))))))
  form_shown (form.Block n) = gives (λ w. tt) (a_name n)

  type_shown : (t : WrittenType) → Shows text (SpellsType text t) (t.place ∷ []) (Unit {0})
  type_shown t = at_place t.place (form_shown t.form)

  initial_shown : (i : Option Initial) → Shows text (SpellsInitial text i) (initial_places i) (IsWholeInitial i)
  initial_shown None = the_sign Semicolon
  initial_shown (Some i) = behind loosely (the_sign Assign) (before loosely (at_place i.place (a_literal i.literal)) (the_sign Semicolon))

  pub declaration_shown : (d : Declaration) → Shows text (SpellsDeclaration text d) (declaration_places d) (IsWrittenDeclaration d)
  declaration_shown d =
      gives (λ x. (x.0, x.1.1)) (chain loosely (listed loosely the_name (the_sign Colon) d.names) (chain loosely (type_shown d.declared) (initial_shown d.initial)))

  external_shown : (d : Declaration) → Shows text (SpellsExternal text d) (declaration_places d) (IsWrittenDeclaration d)
  external_shown d = record { walk = λ at ts r h p. (declaration_shown d).walk at ts r h p.2 }

  list_shown : (k : Keyword) (P : Declaration → Front) → ((d : Declaration) → Shows text (P d) (declaration_places d) (IsWrittenDeclaration d)) → (ds : List Declaration)
      → Shows text (SpellsList text k P ds) (flat_map declaration_places ds) (Each IsWrittenDeclaration ds)
  list_shown k P each ds = after_lines (behind loosely (the_word k) (repeats_until each (the_word word.EndVar) ds))

  filled_list_shown : (k : Keyword) (ds : List Declaration) → Shows text (SpellsFilledList text k ds) (flat_map declaration_places ds) (Each IsWrittenDeclaration ds)
  filled_list_shown k [] = missing (AfterLines (TheWord text k))
  filled_list_shown k (d ∷ ds) = list_shown k (SpellsDeclaration text) declaration_shown (d ∷ ds)

  -- declarations of which there are none
  no_list : {P : Front} (ds : List Declaration) → ds ≡ [] → Shows text P [] (Unit {0}) → Shows text P (flat_map declaration_places ds) (Each IsWrittenDeclaration ds)
  no_list {P = P} ds none shown = subst (λ l. Shows text P (flat_map declaration_places l) (Each IsWrittenDeclaration l)) (sym none) shown

  optional_list_shown : (k : Keyword) (P : Declaration → Front) → ((d : Declaration) → Shows text (P d) (declaration_places d) (IsWrittenDeclaration d)) → (ds : List Declaration)
      → Shows text (SpellsOptionalList text k P ds) (flat_map declaration_places ds) (Each IsWrittenDeclaration ds)
  optional_list_shown k P each ds = record {
    walk = λ at ts r h p. elim p [ inl q ↦ (list_shown k P each ds).walk at ts r h q | inr q ↦ (no_list ds q.0 (missing (AfterLines (TheWord text k)))).walk at ts r h q.1 ];
  }

  -- OPERANDS

  index_shown : (i : Index) → Shows text (SpellsIndex text i) [] (Unit {0})
  index_shown (index.Number n) = a_number n
  index_shown (index.Variable n) = gives (λ w. tt) (a_name n)

  reference_shown : {gap : Gap} → Skips text gap → (r : Reference) → Shows text (SpellsReference text gap r) [] (Unit {0})
  reference_shown gap (reference.Literal l) = gives (λ w. tt) (a_literal l)
  reference_shown gap (reference.Variable n) = behind gap (a_name n) (behind tightly (missing (TheSign OpenBracket)) (missing (TheSign Dot)))
  reference_shown gap (reference.Element n i) = behind gap (a_name n) (behind gap (the_sign OpenBracket) (behind gap (index_shown i) (the_sign CloseBracket)))
  reference_shown gap (reference.Member n m) = behind gap (a_name n) (behind gap (the_sign Dot) (any_word m))

  pub operand_shown : {gap : Gap} → Skips text gap → (o : Operand) → Shows text (SpellsOperand text gap o) (operand_places o) (Unit {0})
  operand_shown gap o = at_place o.place (reference_shown gap o.reference)

  target_shown : (o : Operand) → Shows text (SpellsTarget text o) (operand_places o) (Unit {0})
  target_shown o = record { walk = λ at ts r h p. (operand_shown tightly o).walk at ts r h p.1 }

  ampersand_shown : (negated : Bool) → Shows text (SpellsAmpersand text negated) [] (Unit {0})
  ampersand_shown true = record { walk = go }
    where
      go : (at : ℕ) (ts r : List Token) → AreTokens text at ts → SpellsAmpersand text true ts r → (to : ℕ) × AreTokens text to r × (at ≤ to) × Unit {0}
      go at [] r h p = absurd p
      go at (t ∷ ts) r h p = (behind tightly (the_sign Ampersand) (one (λ u q l. tt))).walk at (t ∷ ts) r h (ts, (p.0, refl), p.1)
  ampersand_shown false = record { walk = go }
    where
      go : (at : ℕ) (ts r : List Token) → AreTokens text at ts → SpellsAmpersand text false ts r → (to : ℕ) × AreTokens text to r × (at ≤ to) × Unit {0}
      go at [] r h p = absurd p
      go at (t ∷ ts) r h p = (behind tightly (the_sign Ampersand) (missing (TheLetterN text t.end))).walk at (t ∷ ts) r h (ts, (p.0, refl), p.1)

  shortly_shown : (o : Operator) → Shows text (SpellsShortly text o) [] (Unit {0})
  shortly_shown (operator.Logic Conjunction negated) = ampersand_shown negated
  shortly_shown (operator.Logic Disjunction negated) = record { walk = λ at ts r h p. absurd p }
  shortly_shown (operator.Logic Exclusive negated) = record { walk = λ at ts r h p. absurd p }
  shortly_shown (operator.Arithmetic a) = record { walk = λ at ts r h p. absurd p }
  shortly_shown (operator.Comparison c) = record { walk = λ at ts r h p. absurd p }

  operator_shown : (o : Operator) → Shows text (SpellsOperator text o) [] (Unit {0})
  operator_shown o = either (the_word (word.Operate o)) (shortly_shown o)

  -- INSTRUCTIONS

  argument_shown : (a : Argument) → Shows text (SpellsArgument text a) (argument_places a) (Unit {0})
  argument_shown (argument.Input input operand) =
      gives (λ x. tt) (chain loosely (at_place input.place (any_word input.name)) (behind loosely (the_sign Assign) (operand_shown loosely operand)))
  argument_shown (argument.Output output target) =
      gives (λ x. tt) (chain loosely (at_place output.place (any_word output.name)) (behind loosely (the_sign Arrow) (the_name target)))

  arguments_shown : (xs : List Argument) → Shows text (SpellsArguments text xs) (flat_map argument_places xs) (Unit {0})
  arguments_shown [] = either the_line_end (behind loosely (the_sign OpenParenthesis) (behind tightly (the_sign CloseParenthesis) the_line_end))
  arguments_shown (first ∷ more) =
      gives (λ x. tt) (behind loosely (the_sign OpenParenthesis) (before tightly (listed loosely argument_shown (the_sign CloseParenthesis) (first ∷ more)) the_line_end))

  operands_shown : (xs : List Operand) → Shows text (SpellsOperands text xs) (flat_map operand_places xs) (Unit {0})
  operands_shown [] = the_line_end
  operands_shown (first ∷ more) = gives (λ x. tt) (listed tightly (operand_shown tightly) the_line_end (first ∷ more))

  first_shown : (o : Option Operand) → Shows text (SpellsFirst text o) (first_places o) (Unit {0})
  first_shown None = the_line_end
  first_shown (Some operand) = before tightly (operand_shown tightly operand) the_line_end

  instruction_shown : (i : Instruction) → Shows text (SpellsInstruction text i) (instruction_places i) (Unit {0})
  instruction_shown (instruction.Load negated operand) = behind tightly (the_word (word.Load negated)) (before tightly (operand_shown tightly operand) the_line_end)
  instruction_shown (instruction.Store store target) = behind tightly (the_word (word.Store store)) (before tightly (target_shown target) the_line_end)
  instruction_shown instruction.Not = behind tightly (the_word word.Not) the_line_end
  instruction_shown (instruction.Operate op operand) = behind tightly (operator_shown op) (before tightly (operand_shown tightly operand) the_line_end)
  instruction_shown (instruction.Defer op first) = behind tightly (operator_shown op) (behind tightly (the_sign OpenParenthesis) (first_shown first))
  instruction_shown instruction.Evaluate = behind tightly (the_sign CloseParenthesis) the_line_end
  instruction_shown (instruction.Jump condition label) =
      gives (λ x. tt) (behind tightly (the_word (word.Jump condition)) (before tightly (the_name label) the_line_end))
  instruction_shown (instruction.Return condition) = behind tightly (the_word (word.Return condition)) the_line_end
  instruction_shown (instruction.Call condition instance arguments) =
      gives (λ x. tt) (behind tightly (the_word (word.Call condition)) (chain tightly (the_name instance) (arguments_shown arguments)))
  instruction_shown (instruction.Invoke function operands) = gives (λ x. tt) (chain tightly (the_name function) (operands_shown operands))

  label_shown : (l : Named) → Shows text (SpellsLabel text l) (name_places l) (HasWord l)
  label_shown l = before tightly (the_name l) (the_sign Colon)

  label_line_shown : (l : Named) → Shows text (SpellsLabelLine text l) (name_places l) (HasWord l)
  label_line_shown l = before tightly (label_shown l) the_line_end

  labelled_shown : {P : Front} {ps : List Place} (ls : List Named) → Shows text P ps (Unit {0}) → Shows text (SpellsLabelled text ls P) (flat_map name_places ls ++ ps) (Unit {0})
  labelled_shown [] shown = shown
  labelled_shown (l ∷ []) shown = gives (λ x. tt) (chain loosely (label_shown l) shown)
  labelled_shown (l ∷ next ∷ more) shown = gives (λ x. tt) (chain tightly (label_shown l) (behind loosely the_line_end (labelled_shown (next ∷ more) shown)))

  pub step_shown : (s : Step) → Shows text (SpellsStep text s) (step_places s) (Unit {0})
  step_shown s = labelled_shown s.labels (at_place s.place (instruction_shown s.instruction))

  body_shown : (last : Keyword) (b : Body) → Shows text (SpellsBody text last b) (body_places b) (Unit {0})
  body_shown last b = record {
    walk = λ at ts r h p.
        (gives (λ x. tt) (behind loosely the_line_end (repeats step_shown (repeats label_line_shown (at_place b.end (the_word last)) b.last_labels) b.steps))).walk at ts r h p.1;
  }

  -- UNITS

  no_externals_shown : (ds : List Declaration) → Shows text (SpellsNoExternals text ds) (flat_map declaration_places ds) (Each IsWrittenDeclaration ds × (ds ≡ []))
  no_externals_shown ds = record { walk = λ at ts r h p. (gives (λ x. (x, p.0)) (no_list ds p.0 (missing (AfterLines (TheWord text word.VarExternal))))).walk at ts r h p.1 }

  externals_shown : (k : UnitKind) (ds : List Declaration) → Shows text (SpellsExternals text k ds) (flat_map declaration_places ds) (Each IsWrittenDeclaration ds × OfPrograms k ds)
  externals_shown (unit.Function result place) ds = no_externals_shown ds
  externals_shown unit.FunctionBlock ds = no_externals_shown ds
  externals_shown unit.Program ds = gives (λ x. (x, tt)) (optional_list_shown word.VarExternal (SpellsExternal text) external_shown ds)

  result_shown : (k : UnitKind) → Shows text (SpellsResult text k) (result_places k) (Unit {0})
  result_shown (unit.Function result place) = after_lines (behind loosely (the_sign Colon) (at_place place (scalar_shown result)))
  result_shown unit.FunctionBlock = nothing
  result_shown unit.Program = nothing

  pub unit_shown : (u : ProgramUnit) → Shows text (SpellsUnit text u) (unit_places u) (IsWrittenUnit u)
  unit_shown u = record {
    walk = λ at ts r h p.
        (gives (λ x. (x.1.0, x.1.1.1.0, x.1.1.1.1.0, x.1.1.1.1.1.0, x.1.1.1.1.1.1.0.0, of_programs u.kind u.externals x.1.1.1.1.1.1.0.1))
        (chain loosely (at_place u.place (the_word (unit_word u.kind))) (chain tightly (the_name u.name) (chain tightly (result_shown u.kind)
        (chain tightly (filled_list_shown word.VarInput u.inputs) (chain tightly (filled_list_shown word.VarOutput u.outputs)
        (chain tightly (optional_list_shown word.Var (SpellsDeclaration text) declaration_shown u.variables)
        (chain tightly (externals_shown u.kind u.externals) (body_shown (end_word u.kind) u.body))))))))).walk at ts r h p.1;
  }

  -- CONFIGURATIONS

  size_shown : (n : List ℕ) (s : Size) → Shows text (SpellsSize text n s) (s.place ∷ []) (Unit {0})
  size_shown n s =
      behind loosely (the_text n) (behind loosely (the_sign Colon) (behind loosely (the_word (word.Elementary elementary.Int))
      (behind loosely (the_sign Assign) (before loosely (at_place s.place (a_decimal s.value)) (the_sign Semicolon)))))

  sizes_shown : (c : Config) → Shows text (SpellsSizes text c) (c.cars.place ∷ c.floors.place ∷ c.slots.place ∷ []) (Unit {0})
  sizes_shown c =
      gives (λ x. tt) (behind loosely (the_word word.VarGlobal) (behind loosely (the_word word.Constant)
      (chain loosely (size_shown (codes "CARS") c.cars) (chain loosely (size_shown (codes "FLOORS") c.floors) (before loosely (size_shown (codes "SLOTS") c.slots) (the_word word.EndVar))))))

  globals_shown : (place : Option Place) (ds : List Declaration) → Shows text (SpellsGlobals text place ds) (globals_places place ++ flat_map declaration_places ds) (Each IsWrittenDeclaration ds)
  globals_shown None ds = record { walk = λ at ts r h p. (no_list ds p.0 (missing (AfterLines (TheWord text word.VarGlobal)))).walk at ts r h p.1 }
  globals_shown (Some place) ds = after_lines (at_place place (behind loosely (the_word word.VarGlobal) (repeats_until declaration_shown (the_word word.EndVar) ds)))

  task_shown : (t : Task) → Shows text (SpellsTask text t) (task_places t) (Unit {0})
  task_shown t =
      gives (λ x. tt) (chain loosely (at_place t.place (the_word word.Task)) (before loosely (the_name t.name) (behind loosely (the_sign OpenParenthesis)
      (behind loosely (the_word word.Interval) (behind loosely (the_sign Assign) (behind loosely (a_typed (literal.Time t.interval)) (behind loosely (the_sign Comma)
      (behind loosely (the_word word.Priority) (behind loosely (the_sign Assign) (behind loosely (a_decimal t.priority)
      (behind loosely (the_sign CloseParenthesis) (the_sign Semicolon))))))))))))

  line_shown : (l : ProgramLine) → Shows text (SpellsProgramLine text l) (line_places l) (Unit {0})
  line_shown l =
      gives (λ x. tt) (chain loosely (at_place l.place (the_word word.Program)) (chain loosely (the_name l.name) (behind loosely (the_word word.With)
      (chain loosely (the_name l.task) (behind loosely (the_sign Colon) (before loosely (the_name l.program) (the_sign Semicolon)))))))

  resource_shown : (c : Config) → Shows text (SpellsResource text c) (in_resource c) (Unit {0})
  resource_shown c =
      gives (λ x. tt) (behind loosely (the_word word.Resource) (behind loosely some_name (behind loosely (the_word word.On) (behind loosely some_name
      (repeats task_shown (repeats line_shown (at_place c.end_resource (the_word word.EndResource)) c.programs) c.tasks)))))

  pub config_shown : (c : Config) → Shows text (SpellsConfig text c) (places c) (Each IsWrittenUnit c.units × Each IsWrittenDeclaration c.globals)
  config_shown c =
      gives (λ x. (x.0, x.1.1.0))
      (repeats unit_shown (behind loosely (the_word word.Configuration) (behind loosely some_name (chain tightly (sizes_shown c)
      (placed (append_assoc (globals_places c.globals_place) (flat_map declaration_places c.globals) (in_resource c))
      (chain loosely (globals_shown c.globals_place c.globals) (before loosely (resource_shown c) (behind loosely (the_word word.EndConfiguration) the_end))))))) c.units)
