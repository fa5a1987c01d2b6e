-- Rules of readers that hold of cut tokens, and their samples.
use Rattle.std.proofs.Common.{◌≡◌, ◌<◌, ℕ, length, Bool, true, false, Some, List, [], ◌∷◌, ◌++◌, refl, sym, subst, arith, inl, inr}
use Rattle.std.specs.Prelude.{ℤ, codes, ◌⊎◌, Result, Ok, Err, IfErr, IsErrAnd}
use Rattle.il_syntax.specs.declared.token.Token.{Token}
use Rattle.il_syntax.specs.declared.token.Sign.TheVariants.{Assign, Range, Colon, Semicolon, Comma, OpenParenthesis, CloseParenthesis, OpenBracket, CloseBracket}
use Rattle.il_syntax.specs.declared.keyword.Keyword.{Keyword}
use Rattle.il_syntax.specs.declared.keyword.Keyword.TheVariants as word
use Rattle.il_syntax.specs.declared.tree.Place.{Place}
use Rattle.il_syntax.specs.declared.tree.Elementary.TheVariants as elementary
use Rattle.il_syntax.specs.declared.tree.Literal.TheVariants as literal
use Rattle.il_syntax.specs.declared.tree.Subrange.{Subrange}
use Rattle.il_syntax.specs.declared.tree.Named.{Named}
use Rattle.il_syntax.specs.declared.tree.Index.{Index}
use Rattle.il_syntax.specs.declared.tree.Reference.{Reference}
use Rattle.il_syntax.specs.declared.tree.Reference.TheVariants as reference
use Rattle.il_syntax.specs.declared.tree.Operand.{Operand}
use Rattle.il_syntax.specs.declared.tree.Operator.{Operator}
use Rattle.il_syntax.specs.declared.tree.Argument.{Argument}
use Rattle.il_syntax.specs.declared.tree.Instruction.{Instruction}
use Rattle.il_syntax.specs.declared.tree.Instruction.TheVariants as instruction
use Rattle.il_syntax.specs.declared.tree.Size.{Size}
use Rattle.il_syntax.specs.Grammar.{Front, Gap, tight, loose, skip_line_ends, ◌⟨◌⟩◌, ◌⨾◌, ◌⋯◌, AfterLines, At, Repeats, Listed, TheSign, TheLineEnd, ANumber, AName, TheName, TheText, ADecimal, ALiteral, SpellsDeclaration, SpellsArguments, SpellsOperands, SpellsForm, SpellsType, SpellsIndex, SpellsReference, SpellsOperand, SpellsTarget, SpellsOperator, SpellsArgument, SpellsSize}
use Rattle.il_syntax_laws.specs.GoesOn.{Sample, Test, always, quiet, calm, settled, IsSampled, Begins}
use Rattle.il_syntax_laws.proofs.Open.{Fills, Takes, next, sign_fills, word_fills, number_fills, decimal_fills, literal_fills, typed_fills, index_fills, name_fills, the_name_fills, any_word_fills, names_fill, size_fills, inside_fills, operand_fills, target_fills, type_fills, form_fills, declaration_fills, argument_fills, reference_fills, loose_reference_fills, operator_fills, fill_placed, loose_open}
use Rattle.il_syntax_laws.proofs.Samples.{word_sample, sign_sample, name_sample, number_sample, time_sample, true_sample, line_end_sample, cars_sample, floors_sample, slots_sample, cars_lexeme, floors_lexeme, slots_lexeme, sign_sampled, line_end_sampled, word_sampled, the_name_sampled, text_sampled, number_sampled, decimal_sampled, interval_sampled, scalar_sampled, index_sampled, variable_sampled, loose_variable_sampled, passed_sampled, operand_line_sampled}
use Rattle.il_syntax_laws.proofs.GoesOn.{is_solid, Passes, Stays, stays_tight, stays_loose, passes_calm, passes_always, IsCutGap, tight_cut, loose_cut, Reaches, reach_tight, then_sampled, behind_sampled, map_sampled, any_sampled, at_sampled, IsFilling, begins_here, begins_later, begins_behind, begins_as, begins_at, begins_lines, begins_inside, whole_or, gone_item, wanted_item, wanted_end}
use Rattle.load_lines.specs.declared.tokens.Gap.{Gap as GapKind}
use Rattle.load_lines.specs.declared.tokens.Gap.TheVariants as gap
use Rattle.load_lines.specs.declared.operand.Selector.{Selector}
use Rattle.load_lines.specs.declared.operand.Selector.TheVariants as selector
use Rattle.load_lines.specs.declared.operand.Passed.{Passed}
use Rattle.load_lines.specs.declared.operand.Passed.TheVariants as passed
use Rattle.load_lines.specs.Reads.{Reads, BreaksOff, NamesFirst, test_of, gap_of, SpellsRange, SpellsElementType, SpellsLine, SpellsInside, SpellsOpened, SpellsListed, AnyNamed, BreaksOffAs, SpellsWorkOf, SpellsRoomyOf, Effect, Further, fault_at}
use Rattle.load_lines.specs.Reads.Effect.{Even, Opening}
use Rattle.load_lines.specs.Operands.{SpellsElement, SpellsSelector, SpellsSelected, SpellsPassed, reference_of, argument_of}
use Rattle.load_lines.specs.Settings.{AnInterval, PlacedWord, PlacedDecimal, SpellsSized, SpellsPriority, SpellsSchedule, SpellsTimes, SpellsProgramName, SpellsBound, SpellsWith, SpellsFloors, IsSizeWord}
use Rattle.load_lines.specs.declared.stop.Stop.{Stop}
use Rattle.load_lines.specs.declared.stop.SyntaxError.{SyntaxError}
use Rattle.load_lines.specs.declared.stop.SyntaxError.TheVariants.{Unexpected, TooDeep, TooMany}
use Rattle.load_lines.proofs.Instructions.{work_read}
use Rattle.load_lines.proofs.Chain.{HasRead, Wants}
use Rattle.load_lines.proofs.Breaks.{as_breaks, at_first, map_breaks, s_loose, s_part, s_part_tight}

-- rules of which each value holds of cut tokens
pub the_name_filling : IsFilling tight always (λ text. TheName text)
the_name_filling = record { one = the_name_fills }

pub name_filling : IsFilling tight always (λ text. AName text)
name_filling = record { one = name_fills }

pub number_filling : IsFilling tight always (λ text. ANumber)
number_filling = record { one = number_fills }

pub decimal_filling : IsFilling tight always (λ text. ADecimal text)
decimal_filling = record { one = decimal_fills }

pub literal_filling : IsFilling tight always (λ text. ALiteral text)
literal_filling = record { one = literal_fills }

pub interval_filling : IsFilling tight always (λ text. AnInterval)
interval_filling = record { one = λ v. typed_fills (literal.Time v) }

pub index_filling : IsFilling tight always (λ text. SpellsIndex text)
index_filling = record { one = index_fills }

pub any_named_filling : IsFilling tight always (λ text. AnyNamed text)
any_named_filling = record { one = λ n. fill_placed n.place (any_word_fills n.name) }

pub placed_word_filling : (k : Keyword) → IsFilling tight always (λ text. PlacedWord text k)
placed_word_filling k = record { one = λ place. fill_placed place (word_fills k) }

pub names_filling : IsFilling tight always (λ text (ns : List Named). Listed loose (TheName text) ns (TheSign Colon))
names_filling = record { one = names_fill }

pub size_filling : (n : List ℕ) → IsFilling tight always (λ text. SpellsSize text n)
size_filling n = record { one = size_fills n }

pub range_filling : IsFilling tight always (λ text. SpellsRange)
range_filling = record { one = λ s. next loose_open (number_fills s.lower) (next loose_open (sign_fills Range) (number_fills s.upper)) }

pub inside_filling : IsFilling tight always (λ text. SpellsInside text)
inside_filling = record { one = inside_fills }

pub type_filling : IsFilling loose quiet (λ text. SpellsType text)
type_filling = record { one = type_fills }

pub operand_filling : IsFilling tight calm (λ text. SpellsOperand text tight)
operand_filling = record { one = operand_fills }

pub target_filling : IsFilling tight calm (λ text. SpellsTarget text)
target_filling = record { one = target_fills }

pub argument_filling : IsFilling loose settled (λ text. SpellsArgument text)
argument_filling = record { one = argument_fills }

-- a rule at the place of its first token
pub placed_filling : {A : Type 0} {P : List ℕ → A → Front} {look : Gap} {test : Test} → IsFilling look test P → IsFilling look test (λ text (y : Place × A). At y.0 (P text y.1))
placed_filling fill = record { one = λ y. fill_placed y.0 (fill.one y.1) }

abbrev pub place_at : List Token → Place
place_at [] = record { offset = 0; line = 0 }
place_at (t ∷ ts) = record { offset = t.start; line = t.line }

pub placed_read : {A : Type 0} {P : List ℕ → A → Front} {look : Gap} {test : Test} {text : List ℕ} {ts m : List Token} {x : A} → IsFilling look test P → Reads (P text) ts x m
    → Reads (λ (y : Place × A). At y.0 (P text y.1)) ts (place_at ts, x) m
placed_read {A = A} {P = P} {text = text} {ts = ts} {m = m} {x = x} fill here = record { found = go ts here.found }
  where
    go : (ts : List Token) → P text x ts m → At (place_at ts) (P text x) ts m
    go [] p = let less = (fill.one x).takes.less text [] m p in absurd (omega (arith, less))
    go (t ∷ ts) p = (refl, refl, p)

pub placed_sampled : {A : Type 0} {P : List ℕ → A → Front} {look : Gap} {asked test : Test} {ss : List Sample} → IsFilling look asked P → IsSampled test P ss → IsSampled test (λ text (y : Place × A). At y.0 (P text y.1)) ss
placed_sampled fill p = at_sampled (λ x. (fill.one x).takes) p

-- a rule after any number of line ends
pub lines_break : {A : Type 0} {P : List ℕ → A → Front} {test : Test} {zs : List Sample} {text : List ℕ} {ts : List Token} {e : Stop} → IsSampled test P zs → is_solid zs ≡ true → BreaksOff test P text (skip_line_ends ts) e
    → BreaksOff test (λ text x. AfterLines (P text x)) text ts e
lines_break q solid bad = as_breaks (λ at b. begins_lines q solid b) bad

-- samples
pub range_sampled : IsSampled always (λ text. SpellsRange) (number_sample ∷ sign_sample Range ∷ number_sample ∷ [])
range_sampled = map_sampled (λ (x : ℤ × ℤ). record { lower = x.0; upper = x.1 }) (λ x other us r w. w) (s_loose number_sampled (s_part (sign_sampled Range) number_sampled refl) refl)

pub limits_sampled : IsSampled always (λ text (s : Subrange). TheSign OpenParenthesis ⋯ ANumber s.lower ⋯ TheSign Range ⋯ ANumber s.upper ⋯ TheSign CloseParenthesis) (sign_sample OpenParenthesis ∷ number_sample ∷ sign_sample Range ∷ number_sample ∷ sign_sample CloseParenthesis ∷ [])
limits_sampled =
    map_sampled (λ (x : ℤ × (ℤ × Unit {0})). record { lower = x.0; upper = x.1.0 }) (λ x other us r w. w)
    (s_part (sign_sampled OpenParenthesis) (s_loose number_sampled (s_part (sign_sampled Range) (s_loose number_sampled (sign_sampled CloseParenthesis) refl) refl) refl) refl)

-- the words of the sizes
abbrev pub size_word_sample : (n : List ℕ) → IsSizeWord n → Sample
size_word_sample n (inl e) = cars_sample
size_word_sample n (inr (inl e)) = floors_sample
size_word_sample n (inr (inr e)) = slots_sample

pub size_word_sampled : (n : List ℕ) (is : IsSizeWord n) → IsSampled always (λ text (u : Unit {0}). TheText text n) (size_word_sample n is ∷ [])
size_word_sampled n (inl e) = subst (λ (m : List ℕ). IsSampled always (λ text (u : Unit {0}). TheText text m) (cars_sample ∷ [])) (sym e) (text_sampled (codes "CARS") cars_lexeme refl)
size_word_sampled n (inr (inl e)) = subst (λ (m : List ℕ). IsSampled always (λ text (u : Unit {0}). TheText text m) (floors_sample ∷ [])) (sym e) (text_sampled (codes "FLOORS") floors_lexeme refl)
size_word_sampled n (inr (inr e)) = subst (λ (m : List ℕ). IsSampled always (λ text (u : Unit {0}). TheText text m) (slots_sample ∷ [])) (sym e) (text_sampled (codes "SLOTS") slots_lexeme refl)

-- gaps of either kind
pub cut_of : (g : GapKind) → IsCutGap (gap_of g)
cut_of gap.Tight = tight_cut
cut_of gap.Loose = loose_cut

pub stays_of : (g : GapKind) {ss : List Sample} {test : Test} → is_solid ss ≡ true → Stays (gap_of g) ss test
stays_of gap.Tight solid = stays_tight
stays_of gap.Loose solid = stays_loose solid

module _ {A B : Type 0} {P : List ℕ → A → Front} {Q : List ℕ → B → Front} {zs : List Sample} {second : Test} (g : GapKind) where
  pub s_gap : {ss : List Sample} → IsSampled always P ss → IsSampled second Q zs → is_solid zs ≡ true → IsSampled second (λ text (x : A × B). P text x.0 ⟨ gap_of g ⟩ Q text x.1) (ss ++ zs)
  s_gap p q solid = then_sampled (gap_of g) p q passes_always (stays_of g solid)

  pub later_gap : {text : List ℕ} {ts m : List Token} {e : Stop} {x : A} → IsFilling tight always P → Reads (P text) ts x m → IsSampled second Q zs → is_solid zs ≡ true → BreaksOff second Q text (gap_of g m) e
      → BreaksOff second (λ text (x : A × B). P text x.0 ⟨ gap_of g ⟩ Q text x.1) text ts e
  later_gap fill here q solid bad = as_breaks (λ at b. begins_later (cut_of g) (reach_tight (cut_of g)) fill here.found q passes_always (stays_of g solid) b) bad

module _ {B : Type 0} {F : List ℕ → Front} {Q : List ℕ → B → Front} {zs : List Sample} {second : Test} (g : GapKind) where
  pub s_part_gap : {ss : List Sample} → IsSampled always (λ text (u : Unit {0}). F text) ss → IsSampled second Q zs → is_solid zs ≡ true → IsSampled second (λ text (y : B). F text ⟨ gap_of g ⟩ Q text y) (ss ++ zs)
  s_part_gap p q solid = behind_sampled (gap_of g) p q passes_always (stays_of g solid)

  pub part_gap : {text : List ℕ} {ts m : List Token} {e : Stop} → Fills tight always F → F text ts m → IsSampled second Q zs → is_solid zs ≡ true → BreaksOff second Q text (gap_of g m) e
      → BreaksOff second (λ text (y : B). F text ⟨ gap_of g ⟩ Q text y) text ts e
  part_gap fill here q solid bad = as_breaks (λ at b. begins_behind (cut_of g) (reach_tight (cut_of g)) fill here q passes_always (stays_of g solid) b) bad

-- an index and its bracket
pub element_sampled : (g : GapKind) → IsSampled always (λ text. SpellsElement text (gap_of g)) (number_sample ∷ sign_sample CloseBracket ∷ [])
element_sampled g = map_sampled (λ (x : Index × Unit {0}). x.0) (λ x other us r w. w) (s_gap {Q = λ text (u : Unit {0}). TheSign CloseBracket} g index_sampled (sign_sampled CloseBracket) refl)

pub bracket_sampled : (g : GapKind) {test : Test} → IsSampled test (λ text. SpellsSelector text (gap_of g)) (sign_sample OpenBracket ∷ number_sample ∷ sign_sample CloseBracket ∷ [])
bracket_sampled g = any_sampled (map_sampled selector.Element (λ x other us r w. w) (s_part_gap {Q = λ text. SpellsElement text (gap_of g)} g (sign_sampled OpenBracket) (element_sampled g) refl))

pub selected_sampled : (g : GapKind) → IsSampled (test_of g) (λ text. SpellsSelected text (gap_of g)) (name_sample ∷ [])
selected_sampled gap.Tight = map_sampled (λ (n : List ℕ). reference.Variable n) (λ x other us r w. (tt, w)) variable_sampled
selected_sampled gap.Loose = map_sampled (λ (n : List ℕ). reference.Variable n) (λ x other us r w. (tt, w)) loose_variable_sampled

pub reference_takes : (g : GapKind) (x : Reference) → Takes tight (λ text. SpellsReference text (gap_of g) x)
reference_takes gap.Tight x = (reference_fills x).takes
reference_takes gap.Loose x = (loose_reference_fills x).takes

-- a name, and what follows it
pub selected_is : (g : GapKind) (x : List ℕ × Selector) (other : List ℕ) (us r : List Token) → (AName other x.0 ⟨ gap_of g ⟩ SpellsSelector other (gap_of g) x.1) us r → SpellsSelected other (gap_of g) (reference_of x.0 x.1) us r
selected_is g (n, selector.Whole) other us r w = (tt, w)
selected_is g (n, selector.Element i) other us r w = (tt, w)
selected_is g (n, selector.Member m) other us r w = (tt, w)

pub argument_is : (x : Named × Passed) (other : List ℕ) (us r : List Token) → (AnyNamed other x.0 ⋯ SpellsPassed other x.1) us r → SpellsArgument other (argument_of x.0 x.1) us r
argument_is (n, passed.Input o) other us r w = w
argument_is (n, passed.Output t) other us r w = w

-- what an argument passes
pub any_passed_sampled : {test : Test} → IsSampled test (λ text. SpellsPassed text) (sign_sample Assign ∷ true_sample ∷ [])
any_passed_sampled = any_sampled (map_sampled passed.Input (λ x other us r w. w) passed_sampled)

-- what follows an operator, and an instruction
pub work_sampled : (room : Bool) (op : Operator) → IsSampled always (λ text. SpellsWorkOf op text room Even) (true_sample ∷ line_end_sample ∷ [])
work_sampled room op = map_sampled (λ (o : Operand). instruction.Operate op o) (λ x other us r w. (refl, (refl, w))) operand_line_sampled

pub roomy_sampled : (room : Bool) → IsSampled always (λ text. SpellsRoomyOf text room Even) (word_sample word.Not ∷ line_end_sample ∷ [])
roomy_sampled room = map_sampled (λ (u : Unit {0}). instruction.Not) (λ x other us r w. (refl, (tt, w))) (s_part_tight (word_sampled word.Not) line_end_sampled)

-- of one effect
pub as_effect : {A : Type 0} {P : List ℕ → Bool → Effect → A → Front} {room : Bool} {text : List ℕ} {ts : List Token} {e : Stop} (effect : Effect) → BreaksOff always (λ text. P text room effect) text ts e → BreaksOffAs P room text ts e
as_effect effect bad = record { fault = λ is. let b = bad.fault is in (Unexpected, b.0, b.1, effect, b.2, tt) }

pub roomy_first : {text : List ℕ} {ts : List Token} {e : Stop} (room : Bool) → NamesFirst ts e → BreaksOffAs SpellsRoomyOf room text ts e
roomy_first room bad = as_effect Even (at_first (roomy_sampled room) bad)

-- what follows an operator breaks off at a parenthesis that opens: with it goes on what does not count the parentheses
pub deep_breaks : {text : List ℕ} {e : Stop} {room : Bool} (op : Operator) (ts m : List Token) → TheSign OpenParenthesis ts m → e ≡ fault_at TooDeep ts → BreaksOffAs (SpellsWorkOf op) room text ts e
deep_breaks op [] m here same = absurd here
deep_breaks {text = text} {room = room} op (t ∷ ts) m here same = record { fault = λ is. (TooDeep, t ∷ ts, same, Even, begins_here (work_sampled room op) text (t ∷ ts), (t, ts, refl, (refl, Opening false, behind))) }
  where
    behind : Begins always (λ text. SpellsWorkOf op text true (Opening false)) text (t ∷ ts) ts
    behind =
        begins_as {P = λ text (o : Operand). TheSign OpenParenthesis ⨾ SpellsLine text o} {Q = λ text. SpellsWorkOf op text true (Opening false)} (λ o. instruction.Defer op (Some o)) (λ x other us r w. (refl, (refl, refl, w)))
        (begins_behind tight_cut (reach_tight tight_cut) (sign_fills OpenParenthesis) (here.0, refl) operand_line_sampled passes_always stays_tight (begins_here operand_line_sampled text ts))

-- what holds of a token that only a limit forbids gives what else does
pub further_as : {B C : SyntaxError → Token → List Token → Type 0} (error : SyntaxError) (at : List Token) → ((error : SyntaxError) (t : Token) (back : List Token) → at ≡ t ∷ back → B error t back → C error t back) → Further B error at → Further C error at
further_as Unexpected at f more = tt
further_as TooDeep at f more = (more.0, more.1, more.2, f TooDeep more.0 more.1 more.2 more.3)
further_as TooMany at f more = (more.0, more.1, more.2, f TooMany more.0 more.1 more.2 more.3)

-- an error goes up as it is
pub up_so : {X : Type 0} (B : Stop → Type 0) {e : Stop} (r : Result X Stop) → IsErrAnd r (λ y. y ≡ e) → B e → IfErr r B
up_so B (Err y) same bad = subst B (sym same) bad
up_so B (Ok x) same bad = tt

-- an operator is there, and what follows breaks off
pub operator_breaks : {text : List ℕ} {ts m : List Token} {e : Stop} (room : Bool) (op : Operator) → SpellsOperator text op ts m → BreaksOffAs (SpellsWorkOf op) room text m e → BreaksOffAs SpellsRoomyOf room text ts e
operator_breaks {text = text} {ts = ts} {m = m} room op here bad = record {
  fault = λ is.
      let b = bad.fault is in
      let g = go room b.1 b.3 b.4 (whole_or b.1 m b.4.inside) in
      (b.0, b.1, b.2, g.0, g.1, further_as {B = λ error t back. (error ≡ TooDeep) × (more : Effect) × Begins always (λ text. SpellsWorkOf op text true more) text m back} {C = λ error t back. (error ≡ TooDeep) × (more : Effect) × Begins always (λ text. SpellsRoomyOf text true more) text ts back} b.0 b.1 (λ error t back same k. let g = go true back k.1 k.2 (whole_or back m k.2.inside) in (k.0, g.0, g.1)) b.5);
}
  where
    seen : (room : Bool) (effect : Effect) (at : List Token) → Begins always (λ text (i : Instruction). SpellsOperator text op ⨾ SpellsWorkOf op text room effect i) text ts at → Begins always (λ text. SpellsRoomyOf text room effect) text ts at
    seen room effect at b =
        begins_as {P = λ text (i : Instruction). SpellsOperator text op ⨾ SpellsWorkOf op text room effect i} {Q = λ text. SpellsRoomyOf text room effect} (λ i. i)
        (λ i other us r w. (w.2.0, (work_read other room op us w.0 r i w.1 (record { found = w.2.1 })).found)) b

    go : (room : Bool) (at : List Token) (effect : Effect) → Begins always (λ text. SpellsWorkOf op text room effect) text m at → ((at ≡ m) ⊎ (length at < length m)) → (effect : Effect) × Begins always (λ text. SpellsRoomyOf text room effect) text ts at
    go room at effect b (inl edge) = (
      Even,
      seen room Even at
          (subst (λ k. Begins always (λ text (i : Instruction). SpellsOperator text op ⨾ SpellsWorkOf op text room Even i) text ts k) (sym edge)
          (begins_behind tight_cut (reach_tight tight_cut) (operator_fills op) here (work_sampled room op) (passes_calm refl) stays_tight (begins_here (work_sampled room op) text m))),
    )
    go room at effect b (inr less) = (effect, seen room effect at (begins_inside tight_cut (reach_tight tight_cut) (operator_fills op).opens here less b))

pub form_filling : IsFilling loose quiet (λ text. SpellsForm text)
form_filling = record { one = form_fills }

pub declaration_filling : IsFilling tight always (λ text. SpellsDeclaration text)
declaration_filling = record { one = declaration_fills }

-- the parts of declarations
pub element_type_sampled : IsSampled quiet (λ text. SpellsElementType text) (sign_sample CloseBracket ∷ word_sample word.Of ∷ word_sample (word.Elementary elementary.Bool) ∷ [])
element_type_sampled = s_part (sign_sampled CloseBracket) (s_part (word_sampled word.Of) scalar_sampled refl) refl

-- the parts of lines
pub placed_decimal_sampled : IsSampled always (λ text. PlacedDecimal text) (number_sample ∷ sign_sample Semicolon ∷ [])
placed_decimal_sampled = map_sampled (λ (x : (Place × ℤ) × Unit {0}). record { place = x.0.0; value = x.0.1 }) (λ x other us r w. w) (s_loose (placed_sampled decimal_filling decimal_sampled) (sign_sampled Semicolon) refl)

pub sized_sampled : IsSampled always (λ text. SpellsSized text) (word_sample (word.Elementary elementary.Int) ∷ sign_sample Assign ∷ number_sample ∷ sign_sample Semicolon ∷ [])
sized_sampled = s_part (word_sampled (word.Elementary elementary.Int)) (s_part (sign_sampled Assign) placed_decimal_sampled refl) refl

pub a_size_sampled : (n : List ℕ) (is : IsSizeWord n)
    → IsSampled always (λ text. SpellsSize text n) (size_word_sample n is ∷ sign_sample Colon ∷ word_sample (word.Elementary elementary.Int) ∷ sign_sample Assign ∷ number_sample ∷ sign_sample Semicolon ∷ [])
a_size_sampled n is = s_part (size_word_sampled n is) (s_part (sign_sampled Colon) sized_sampled refl) refl

pub priority_sampled : IsSampled always (λ text. SpellsPriority text) (word_sample word.Priority ∷ sign_sample Assign ∷ number_sample ∷ sign_sample CloseParenthesis ∷ sign_sample Semicolon ∷ [])
priority_sampled =
    map_sampled (λ (x : ℤ × Unit {0}). x.0) (λ x other us r w. w)
    (s_part (word_sampled word.Priority) (s_part (sign_sampled Assign) (s_loose decimal_sampled (s_part (sign_sampled CloseParenthesis) (sign_sampled Semicolon) refl) refl) refl) refl)

pub schedule_sampled : IsSampled always (λ text. SpellsSchedule text) (time_sample ∷ sign_sample Comma ∷ word_sample word.Priority ∷ sign_sample Assign ∷ number_sample ∷ sign_sample CloseParenthesis ∷ sign_sample Semicolon ∷ [])
schedule_sampled = s_loose interval_sampled (s_part (sign_sampled Comma) priority_sampled refl) refl

pub times_sampled : IsSampled always (λ text. SpellsTimes text)
    (sign_sample OpenParenthesis ∷ word_sample word.Interval ∷ sign_sample Assign ∷ time_sample ∷ sign_sample Comma ∷ word_sample word.Priority ∷ sign_sample Assign ∷ number_sample ∷ sign_sample CloseParenthesis ∷ sign_sample Semicolon ∷ [])
times_sampled = s_part (sign_sampled OpenParenthesis) (s_part (word_sampled word.Interval) (s_part (sign_sampled Assign) schedule_sampled refl) refl) refl

pub program_name_sampled : IsSampled always (λ text. SpellsProgramName text) (name_sample ∷ sign_sample Semicolon ∷ [])
program_name_sampled = map_sampled (λ (x : Named × Unit {0}). x.0) (λ x other us r w. w) (s_loose the_name_sampled (sign_sampled Semicolon) refl)

pub bound_sampled : IsSampled always (λ text. SpellsBound text) (name_sample ∷ sign_sample Colon ∷ name_sample ∷ sign_sample Semicolon ∷ [])
bound_sampled = s_loose the_name_sampled (s_part (sign_sampled Colon) program_name_sampled refl) refl

pub with_sampled : IsSampled always (λ text. SpellsWith text) (word_sample word.With ∷ name_sample ∷ sign_sample Colon ∷ name_sample ∷ sign_sample Semicolon ∷ [])
with_sampled = s_part (word_sampled word.With) bound_sampled refl

abbrev pub size_samples : Sample → List Sample
size_samples s = s ∷ sign_sample Colon ∷ word_sample (word.Elementary elementary.Int) ∷ sign_sample Assign ∷ number_sample ∷ sign_sample Semicolon ∷ []

pub floors_sampled : IsSampled always (λ text. SpellsFloors text) (size_samples floors_sample ++ (size_samples slots_sample ++ word_sample word.EndVar ∷ []))
floors_sampled =
    map_sampled (λ (x : Size × (Size × Unit {0})). (x.0, x.1.0)) (λ x other us r w. w)
    (s_loose (a_size_sampled (codes "FLOORS") (inr (inl refl))) (s_loose (a_size_sampled (codes "SLOTS") (inr (inr refl))) (word_sampled word.EndVar) refl) refl)

-- operands and targets
pub reference_breaks : {text : List ℕ} {ts : List Token} {e : Stop} (g : GapKind) → BreaksOff (test_of g) (λ text. SpellsReference text (gap_of g)) text ts e → BreaksOff (test_of g) (λ text. SpellsOperand text (gap_of g)) text ts e
reference_breaks g bad =
    map_breaks {P = λ text (y : Place × Reference). At y.0 (SpellsReference text (gap_of g) y.1)} {Q = λ text. SpellsOperand text (gap_of g)} (λ y. record { place = y.0; reference = y.1 }) (λ x other us r w. w)
    (as_breaks (λ at b. begins_at (λ x. reference_takes g x) b) bad)

pub target_breaks : {text : List ℕ} {ts : List Token} {e : Stop} → BreaksOff calm (λ text. SpellsSelected text tight) text ts e → BreaksOff calm (λ text. SpellsTarget text) text ts e
target_breaks bad =
    map_breaks {P = λ text (y : Place × Reference). At y.0 (SpellsSelected text tight y.1)} {Q = λ text. SpellsTarget text} (λ y. record { place = y.0; reference = y.1 }) (λ x other us r w. split x other us r w)
    (as_breaks (λ at b. begins_at (λ x. record { less = λ text ts m p. (reference_fills x).takes.less text ts m p.1 }) b) bad)
  where
    split : (y : Place × Reference) (other : List ℕ) (us r : List Token) → At y.0 (SpellsSelected other tight y.1) us r → SpellsTarget other (record { place = y.0; reference = y.1 }) us r
    split y other [] r w = absurd w
    split y other (u ∷ us) r w = (w.2.0, (w.0, w.1, w.2.1))

-- arguments and operands
pub opened_sampled : IsSampled always (λ text. SpellsOpened text) (sign_sample CloseParenthesis ∷ line_end_sample ∷ [])
opened_sampled = map_sampled (λ (u : Unit {0}). []) (λ x other us r w. w) (s_part_tight (sign_sampled CloseParenthesis) line_end_sampled)

pub opened_is : (xs : List Argument) (other : List ℕ) (us r : List Token) → (SpellsInside other xs ⨾ TheLineEnd) us r → SpellsOpened other xs us r
opened_is [] other us r w = absurd w.1
opened_is (x ∷ xs) other us r w = w

pub arguments_is : (xs : List Argument) (other : List ℕ) (us r : List Token) → (TheSign OpenParenthesis ⋯ SpellsOpened other xs) us r → SpellsArguments other xs us r
arguments_is [] other us r w = inr w
arguments_is (x ∷ xs) other us r w = w

pub operands_is : (xs : List Operand) (other : List ℕ) (us r : List Token) → SpellsListed other xs us r → SpellsOperands other xs us r
operands_is [] other us r w = absurd w
operands_is (x ∷ xs) other us r w = w

-- loops
pub item_breaks : {A : Type 0} {P : List ℕ → A → Front} {E : List ℕ → Front} {first : Test} {es : List Sample} {text : List ℕ} {start ts : List Token} {xs : List A} {e : Stop}
    → IsSampled always (λ text (u : Unit {0}). E text) es → Passes first es always → Stays loose es always → HasRead P E text start xs ts → BreaksOff first P text ts e → BreaksOff always (λ text ys. Repeats (P text) ys (E text)) text start e
item_breaks end passes stays so_far bad = as_breaks (λ at b. gone_item end passes stays so_far.gone b) bad

module _ {A : Type 0} {gap : Gap} {P : List ℕ → A → Front} {E : List ℕ → Front} {first second : Test} {es : List Sample} {text : List ℕ} {start ts : List Token} {xs : List A} {e : Stop} where
  pub list_item_breaks : {ps : List Sample} → IsSampled first P ps → IsSampled second (λ text (u : Unit {0}). E text) es → Passes first es second → Stays gap es second → Stays gap (ps ++ es) second → Wants gap P E text start xs ts
      → BreaksOff first P text ts e → BreaksOff second (λ text ys. Listed gap (P text) ys (E text)) text start e
  list_item_breaks p end passes stays whole so_far bad = as_breaks (λ at b. wanted_item p end passes stays whole so_far.gone b) bad

  pub at_item : {ps : List Sample} → IsSampled first P ps → IsSampled second (λ text (u : Unit {0}). E text) es → Passes first es second → Stays gap es second → Stays gap (ps ++ es) second → Wants gap P E text start xs ts
      → NamesFirst ts e → BreaksOff second (λ text ys. Listed gap (P text) ys (E text)) text start e
  at_item p end passes stays whole so_far bad = list_item_breaks p end passes stays whole so_far (at_first p bad)

  pub at_list_end : {look : Gap} {m : List Token} {x : A} → IsCutGap gap → Reaches gap look → IsFilling look first P → IsSampled second (λ text (u : Unit {0}). E text) es → Passes first es second → Stays gap es second
      → Wants gap P E text start xs ts → Reads (P text) ts x m → NamesFirst (gap m) e → BreaksOff second (λ text ys. Listed gap (P text) ys (E text)) text start e
  at_list_end {m = m} cut far fill end passes stays so_far here bad = record { fault = λ is. (gap m, bad is, wanted_end cut far fill end passes stays so_far.gone here.found) }
