-- What the definitions say of small texts, by computation: values of numbers and durations, words, names,
-- parentheses, a text that has no tokens, and a whole text with its tokens and its tree.
use Rattle.std.proofs.Common.{◌≡◌, ℕ, true, false, List, [], ◌∷◌, drop, refl, sym, ap, subst, arith}
use Rattle.std.specs.Prelude.{◌+◌, length, slice_range, pos, negsuc, codes, Some, None}
use mathlib.Core.Logic.{inl, inr}
use lib.Signed.{le_z_yes}
use Rattle.il_syntax.specs.declared.token.Kind.{Kind}
use Rattle.il_syntax.specs.declared.token.Kind.TheVariants as kind
use Rattle.il_syntax.specs.declared.token.Sign.{Sign}
use Rattle.il_syntax.specs.declared.token.Sign.TheVariants.{Assign, Arrow, Range, Colon, Semicolon, Comma, OpenParenthesis, CloseParenthesis, OpenBracket, CloseBracket, Dot, Ampersand}
use Rattle.il_syntax.specs.declared.token.Token.{Token}
use Rattle.il_syntax.specs.declared.keyword.Keyword.TheVariants as word
use Rattle.il_syntax.specs.declared.tree.Place.{Place}
use Rattle.il_syntax.specs.declared.tree.Named.{Named}
use Rattle.il_syntax.specs.declared.tree.Step.{Step}
use Rattle.il_syntax.specs.declared.tree.Config.{Config}
use Rattle.il_syntax.specs.declared.tree.Elementary.TheVariants as elementary
use Rattle.il_syntax.specs.declared.tree.UnitKind.TheVariants as unit
use Rattle.il_syntax.specs.declared.tree.Instruction.{Instruction}
use Rattle.il_syntax.specs.declared.tree.Instruction.TheVariants as instruction
use Rattle.il_syntax.specs.declared.tree.Operator.TheVariants as operator
use Rattle.il_syntax.specs.declared.tree.Arithmetic.TheVariants.{Add, Mul}
use Rattle.il_syntax.specs.declared.tree.Operand.{Operand}
use Rattle.il_syntax.specs.declared.tree.Reference.TheVariants as reference
use Rattle.il_syntax.specs.declared.tree.Store.TheVariants as store
use Rattle.il_syntax.specs.declared.tree.Literal.TheVariants as literal
use Rattle.il_syntax.specs.Text.{number_value, magnitude, is_grouped_after, duration_value, parts_value, is_identifier, entry_of, run_end, byte_at, sign_bytes, IsLexeme, IsBlank, AreBlanks, AreTokens, HasNoTokens}
use Rattle.il_syntax.specs.ElementaryTypes.{IsValueOf}
use Rattle.il_syntax.specs.Words.{keyword_of, IsName}
use Rattle.il_syntax.specs.Grammar.{is_nested, greatest_depth, Spells}

-- ---- numbers (2.2.1)

hexadecimal : number_value (codes "16#FF") ≡ Some (pos 255)
unfolding number_value magnitude is_grouped_after
hexadecimal = refl

lower_case_and_underscore : number_value (codes "16#f_f") ≡ Some (pos 255)
unfolding number_value magnitude is_grouped_after
lower_case_and_underscore = refl

leading_zeros : number_value (codes "-007") ≡ Some (negsuc 6)
unfolding number_value is_grouped_after
leading_zeros = refl

two_underscores : number_value (codes "1__0") ≡ None
unfolding number_value magnitude is_grouped_after
two_underscores = refl

signed_base : number_value (codes "-16#F") ≡ None
unfolding number_value is_grouped_after
signed_base = refl

another_base : number_value (codes "016#F") ≡ None
unfolding number_value magnitude is_grouped_after
another_base = refl

-- SINT#200 is well formed and too large
too_large : IsValueOf elementary.Sint (pos 200) → ⊥
too_large value = absurd value.1.le

-- ---- durations (2.2.3.1)

seconds_and_milliseconds : duration_value (codes "1s500ms") ≡ Some 1500
unfolding duration_value parts_value
seconds_and_milliseconds = refl

minutes_before_seconds : duration_value (codes "1D2h3M4S5mS") ≡ Some 93784005
unfolding duration_value parts_value
minutes_before_seconds = refl

wrong_order : duration_value (codes "1s1h") ≡ None
unfolding duration_value parts_value
wrong_order = refl

twice : duration_value (codes "1s1s") ≡ None
unfolding duration_value parts_value
twice = refl

no_unit : duration_value (codes "5") ≡ None
unfolding duration_value parts_value
no_unit = refl

-- T#2147483648ms is well formed and too large
too_long : IsValueOf elementary.Time (pos 2147483648) → ⊥
too_long value = absurd value.1.le

-- ---- words (2.1.2, 2.1.3)

leading_underscore : is_identifier (codes "_A") ≡ true
unfolding is_identifier is_grouped_after
leading_underscore = refl

leading_underscore_digit : is_identifier (codes "_1") ≡ true
unfolding is_identifier is_grouped_after
leading_underscore_digit = refl

underscore_alone : is_identifier (codes "_") ≡ false
unfolding is_identifier is_grouped_after
underscore_alone = refl

double_underscore : is_identifier (codes "A__B") ≡ false
unfolding is_identifier is_grouped_after
double_underscore = refl

double_leading_underscore : is_identifier (codes "__A") ≡ false
unfolding is_identifier is_grouped_after
double_leading_underscore = refl

last_underscore : is_identifier (codes "A_") ≡ false
unfolding is_identifier is_grouped_after
last_underscore = refl

store_not : keyword_of (codes "STN") ≡ Some (word.Store store.Negated)
unfolding keyword_of entry_of
store_not = refl

-- CARS, T and N are no reserved words
names : IsName (codes "CARS") × IsName (codes "T") × IsName (codes "N")
unfolding keyword_of entry_of
names = (refl, refl, refl)

-- ---- parentheses (3.2.2)

-- an instruction with no labels
abbrev step : Instruction → Step
step i = record { labels = []; place = record { offset = 0; line = 1 }; instruction = i }

abbrev one : Operand
one = record { place = record { offset = 0; line = 1 }; reference = reference.Literal (literal.Bare (pos 1)) }

-- ADD( 1, MUL 1, )
short_form : is_nested 0 false (step (instruction.Defer (operator.Arithmetic Add) (Some one)) ∷ step (instruction.Operate (operator.Arithmetic Mul) one) ∷ step instruction.Evaluate ∷ []) ≡ true
short_form = refl

-- ADD(, MUL 1, )
no_load : is_nested 0 false (step (instruction.Defer (operator.Arithmetic Add) None) ∷ step (instruction.Operate (operator.Arithmetic Mul) one) ∷ step instruction.Evaluate ∷ []) ≡ false
no_load = refl

-- ADD( 1
never_closed : is_nested 0 false (step (instruction.Defer (operator.Arithmetic Add) (Some one)) ∷ []) ≡ false
never_closed = refl

-- )
never_opened : is_nested 0 false (step instruction.Evaluate ∷ []) ≡ false
never_opened = refl

-- ADD( 1, MUL( 1, ), )
two_deep : greatest_depth 0 (step (instruction.Defer (operator.Arithmetic Add) (Some one)) ∷ step (instruction.Defer (operator.Arithmetic Mul) (Some one)) ∷ step instruction.Evaluate ∷ step instruction.Evaluate ∷ []) ≡ 2
two_deep = refl

-- ---- a text with no tokens

abbrev wrong_number : List ℕ
wrong_number = codes "1__0"

abbrev first : List ℕ → ℕ
first bytes = byte_at bytes 0

-- no sign begins with a digit
no_sign : (sign : Sign) → slice_range wrong_number 0 (0 + length (sign_bytes sign)) ≡ sign_bytes sign → ⊥
no_sign Assign e = omega (arith, ap first e)
no_sign Arrow e = omega (arith, ap first e)
no_sign Range e = omega (arith, ap first e)
no_sign Colon e = omega (arith, ap first e)
no_sign Semicolon e = omega (arith, ap first e)
no_sign Comma e = omega (arith, ap first e)
no_sign OpenParenthesis e = omega (arith, ap first e)
no_sign CloseParenthesis e = omega (arith, ap first e)
no_sign OpenBracket e = omega (arith, ap first e)
no_sign CloseBracket e = omega (arith, ap first e)
no_sign Dot e = omega (arith, ap first e)
no_sign Ampersand e = omega (arith, ap first e)

-- no token begins the text
no_lexeme : (of_kind : Kind) (j : ℕ) → IsLexeme wrong_number of_kind 0 j → ⊥
unfolding run_end number_value magnitude is_grouped_after
no_lexeme kind.Word j h = cc h.0
no_lexeme (kind.Number value) j h =
    let whole : number_value (slice_range wrong_number 0 4) ≡ Some value = subst (λ (k : ℕ). number_value (slice_range wrong_number 0 k) ≡ Some value) h.1 h.2 in cc whole
no_lexeme (kind.Typed (literal.Truth truth)) j h = cc h.1
no_lexeme (kind.Typed (literal.Bare value)) j h = cc h.1
no_lexeme (kind.Typed (literal.Whole type value)) j h = cc h.1
no_lexeme (kind.Typed (literal.Time value)) j h = cc h.1
no_lexeme (kind.Sign sign) j h = no_sign sign (subst (λ (k : ℕ). slice_range wrong_number 0 k ≡ sign_bytes sign) h.0 h.1)
no_lexeme kind.LineEnd j (inl h) = omega (arith, h.1)
no_lexeme kind.LineEnd j (inr h) = omega (arith, h.1)

-- nothing blank is at its front
no_blank : (j : ℕ) → IsBlank wrong_number 0 j → ⊥
no_blank j (inl h) = cc h.1
no_blank j (inr h) = cc h.opening

-- so a token of it would begin at 0
begins_at : (ends : List ℕ) (j : ℕ) → AreBlanks wrong_number ends 0 j → 0 ≡ j
begins_at [] j e = e
begins_at (k ∷ ends) j e = absurd (no_blank k e.0)

-- the text 1__0 has no tokens
no_tokens : HasNoTokens wrong_number
no_tokens [] blank = omega (arith, begins_at blank.0 4 blank.1)
no_tokens (t ∷ ts) cut =
    no_lexeme t.kind t.end (subst (λ (i : ℕ). IsLexeme wrong_number t.kind i t.end) (sym (begins_at cut.0.gap.0 t.start cut.0.gap.1)) cut.0.lexeme)

-- ---- a whole text, its tokens and its tree

-- A program that stores 0 into MOTOR, and the smallest configuration round it.
abbrev motor_text : List ℕ
motor_text = codes "PROGRAM C\nLD 0\nST MOTOR\nEND_PROGRAM\nCONFIGURATION K\nVAR_GLOBAL CONSTANT CARS : INT := 1; FLOORS : INT := 2; SLOTS : INT := 1; END_VAR\nRESOURCE M ON PLC\nTASK CAR1 (INTERVAL := T#100ms, PRIORITY := 1);\nPROGRAM P1 WITH CAR1 : C;\nEND_RESOURCE\nEND_CONFIGURATION\n"

abbrev token : Kind → ℕ → ℕ → ℕ → Token
token k i j l = record { kind = k; start = i; end = j; line = l }

abbrev place : ℕ → ℕ → Place
place at on = record { offset = at; line = on }

abbrev named : ℕ → ℕ → List ℕ → Named
named at on text = record { place = place at on; name = text }

-- Its tokens.
abbrev motor_tokens : List Token
motor_tokens =
    token kind.Word 0 7 1
    ∷ token kind.Word 8 9 1
    ∷ token kind.LineEnd 9 10 1
    ∷ token kind.Word 10 12 2
    ∷ token (kind.Number (pos 0)) 13 14 2
    ∷ token kind.LineEnd 14 15 2
    ∷ token kind.Word 15 17 3
    ∷ token kind.Word 18 23 3
    ∷ token kind.LineEnd 23 24 3
    ∷ token kind.Word 24 35 4
    ∷ token kind.LineEnd 35 36 4
    ∷ token kind.Word 36 49 5
    ∷ token kind.Word 50 51 5
    ∷ token kind.LineEnd 51 52 5
    ∷ token kind.Word 52 62 6
    ∷ token kind.Word 63 71 6
    ∷ token kind.Word 72 76 6
    ∷ token (kind.Sign Colon) 77 78 6
    ∷ token kind.Word 79 82 6
    ∷ token (kind.Sign Assign) 83 85 6
    ∷ token (kind.Number (pos 1)) 86 87 6
    ∷ token (kind.Sign Semicolon) 87 88 6
    ∷ token kind.Word 89 95 6
    ∷ token (kind.Sign Colon) 96 97 6
    ∷ token kind.Word 98 101 6
    ∷ token (kind.Sign Assign) 102 104 6
    ∷ token (kind.Number (pos 2)) 105 106 6
    ∷ token (kind.Sign Semicolon) 106 107 6
    ∷ token kind.Word 108 113 6
    ∷ token (kind.Sign Colon) 114 115 6
    ∷ token kind.Word 116 119 6
    ∷ token (kind.Sign Assign) 120 122 6
    ∷ token (kind.Number (pos 1)) 123 124 6
    ∷ token (kind.Sign Semicolon) 124 125 6
    ∷ token kind.Word 126 133 6
    ∷ token kind.LineEnd 133 134 6
    ∷ token kind.Word 134 142 7
    ∷ token kind.Word 143 144 7
    ∷ token kind.Word 145 147 7
    ∷ token kind.Word 148 151 7
    ∷ token kind.LineEnd 151 152 7
    ∷ token kind.Word 152 156 8
    ∷ token kind.Word 157 161 8
    ∷ token (kind.Sign OpenParenthesis) 162 163 8
    ∷ token kind.Word 163 171 8
    ∷ token (kind.Sign Assign) 172 174 8
    ∷ token (kind.Typed (literal.Time (pos 100))) 175 182 8
    ∷ token (kind.Sign Comma) 182 183 8
    ∷ token kind.Word 184 192 8
    ∷ token (kind.Sign Assign) 193 195 8
    ∷ token (kind.Number (pos 1)) 196 197 8
    ∷ token (kind.Sign CloseParenthesis) 197 198 8
    ∷ token (kind.Sign Semicolon) 198 199 8
    ∷ token kind.LineEnd 199 200 8
    ∷ token kind.Word 200 207 9
    ∷ token kind.Word 208 210 9
    ∷ token kind.Word 211 215 9
    ∷ token kind.Word 216 220 9
    ∷ token (kind.Sign Colon) 221 222 9
    ∷ token kind.Word 223 224 9
    ∷ token (kind.Sign Semicolon) 224 225 9
    ∷ token kind.LineEnd 225 226 9
    ∷ token kind.Word 226 238 10
    ∷ token kind.LineEnd 238 239 10
    ∷ token kind.Word 239 256 11
    ∷ token kind.LineEnd 256 257 11 ∷ []

-- The text is cut into these tokens.
motor_cut : AreTokens motor_text 0 motor_tokens
unfolding run_end is_identifier is_grouped_after number_value magnitude duration_value parts_value entry_of
motor_cut = (
  record { gap = ([], refl); lexeme = (refl, refl, refl, refl, omega arith); line = refl },
  (
    record { gap = ((8 ∷ []), (inl (refl, refl), refl)); lexeme = (refl, refl, refl, refl, omega arith); line = refl },
    (
      record { gap = ([], refl); lexeme = inl (refl, refl); line = refl },
      (
        record { gap = ([], refl); lexeme = (refl, refl, refl, refl, omega arith); line = refl },
        (
          record { gap = ((13 ∷ []), (inl (refl, refl), refl)); lexeme = (refl, refl, refl, omega arith); line = refl },
          (
            record { gap = ([], refl); lexeme = inl (refl, refl); line = refl },
            (
              record { gap = ([], refl); lexeme = (refl, refl, refl, refl, omega arith); line = refl },
              (
                record { gap = ((18 ∷ []), (inl (refl, refl), refl)); lexeme = (refl, refl, refl, refl, omega arith); line = refl },
                (
                  record { gap = ([], refl); lexeme = inl (refl, refl); line = refl },
                  (
                    record { gap = ([], refl); lexeme = (refl, refl, refl, refl, omega arith); line = refl },
                    (
                      record { gap = ([], refl); lexeme = inl (refl, refl); line = refl },
                      (
                        record { gap = ([], refl); lexeme = (refl, refl, refl, refl, omega arith); line = refl },
                        (
                          record { gap = ((50 ∷ []), (inl (refl, refl), refl)); lexeme = (refl, refl, refl, refl, omega arith); line = refl },
                          (
                            record { gap = ([], refl); lexeme = inl (refl, refl); line = refl },
                            (
                              record { gap = ([], refl); lexeme = (refl, refl, refl, refl, omega arith); line = refl },
                              (
                                record { gap = ((63 ∷ []), (inl (refl, refl), refl)); lexeme = (refl, refl, refl, refl, omega arith); line = refl },
                                (
                                  record { gap = ((72 ∷ []), (inl (refl, refl), refl)); lexeme = (refl, refl, refl, refl, omega arith); line = refl },
                                  (
                                    record { gap = ((77 ∷ []), (inl (refl, refl), refl)); lexeme = (refl, refl, refl); line = refl },
                                    (
                                      record { gap = ((79 ∷ []), (inl (refl, refl), refl)); lexeme = (refl, refl, refl, refl, omega arith); line = refl },
                                      (
                                        record { gap = ((83 ∷ []), (inl (refl, refl), refl)); lexeme = (refl, refl, refl); line = refl },
                                        (
                                          record { gap = ((86 ∷ []), (inl (refl, refl), refl)); lexeme = (refl, refl, refl, omega arith); line = refl },
                                          (
                                            record { gap = ([], refl); lexeme = (refl, refl, refl); line = refl },
                                            (
                                              record { gap = ((89 ∷ []), (inl (refl, refl), refl)); lexeme = (refl, refl, refl, refl, omega arith); line = refl },
                                              (
                                                record { gap = ((96 ∷ []), (inl (refl, refl), refl)); lexeme = (refl, refl, refl); line = refl },
                                                (
                                                  record { gap = ((98 ∷ []), (inl (refl, refl), refl)); lexeme = (refl, refl, refl, refl, omega arith); line = refl },
                                                  (
                                                    record { gap = ((102 ∷ []), (inl (refl, refl), refl)); lexeme = (refl, refl, refl); line = refl },
                                                    (
                                                      record { gap = ((105 ∷ []), (inl (refl, refl), refl)); lexeme = (refl, refl, refl, omega arith); line = refl },
                                                      (
                                                        record { gap = ([], refl); lexeme = (refl, refl, refl); line = refl },
                                                        (
                                                          record { gap = ((108 ∷ []), (inl (refl, refl), refl)); lexeme = (refl, refl, refl, refl, omega arith); line = refl },
                                                          (
                                                            record { gap = ((114 ∷ []), (inl (refl, refl), refl)); lexeme = (refl, refl, refl); line = refl },
                                                            (
                                                              record { gap = ((116 ∷ []), (inl (refl, refl), refl)); lexeme = (refl, refl, refl, refl, omega arith); line = refl },
                                                              (
                                                                record { gap = ((120 ∷ []), (inl (refl, refl), refl)); lexeme = (refl, refl, refl); line = refl },
                                                                (
                                                                  record { gap = ((123 ∷ []), (inl (refl, refl), refl)); lexeme = (refl, refl, refl, omega arith); line = refl },
                                                                  (
                                                                    record { gap = ([], refl); lexeme = (refl, refl, refl); line = refl },
                                                                    (
                                                                      record { gap = ((126 ∷ []), (inl (refl, refl), refl)); lexeme = (refl, refl, refl, refl, omega arith); line = refl },
                                                                      (
                                                                        record { gap = ([], refl); lexeme = inl (refl, refl); line = refl },
                                                                        (
                                                                          record { gap = ([], refl); lexeme = (refl, refl, refl, refl, omega arith); line = refl },
                                                                          (
                                                                            record { gap = ((143 ∷ []), (inl (refl, refl), refl)); lexeme = (refl, refl, refl, refl, omega arith); line = refl },
                                                                            (
                                                                              record { gap = ((145 ∷ []), (inl (refl, refl), refl)); lexeme = (refl, refl, refl, refl, omega arith); line = refl },
                                                                              (
                                                                                record { gap = ((148 ∷ []), (inl (refl, refl), refl)); lexeme = (refl, refl, refl, refl, omega arith); line = refl },
                                                                                (
                                                                                  record { gap = ([], refl); lexeme = inl (refl, refl); line = refl },
                                                                                  (
                                                                                    record { gap = ([], refl); lexeme = (refl, refl, refl, refl, omega arith); line = refl },
                                                                                    (
                                                                                      record { gap = ((157 ∷ []), (inl (refl, refl), refl)); lexeme = (refl, refl, refl, refl, omega arith); line = refl },
                                                                                      (
                                                                                        record { gap = ((162 ∷ []), (inl (refl, refl), refl)); lexeme = (refl, refl, refl); line = refl },
                                                                                        (
                                                                                          record { gap = ([], refl); lexeme = (refl, refl, refl, refl, omega arith); line = refl },
                                                                                          (
                                                                                            record { gap = ((172 ∷ []), (inl (refl, refl), refl)); lexeme = (refl, refl, refl); line = refl },
                                                                                            (
                                                                                              record { gap = ((175 ∷ []), (inl (refl, refl), refl)); lexeme = (176, refl, refl, refl, refl, (refl, refl, (le_z_yes tt, le_z_yes tt))); line = refl },
                                                                                              (
                                                                                                record { gap = ([], refl); lexeme = (refl, refl, refl); line = refl },
                                                                                                (
                                                                                                  record { gap = ((184 ∷ []), (inl (refl, refl), refl)); lexeme = (refl, refl, refl, refl, omega arith); line = refl },
                                                                                                  (
                                                                                                    record { gap = ((193 ∷ []), (inl (refl, refl), refl)); lexeme = (refl, refl, refl); line = refl },
                                                                                                    (
                                                                                                      record { gap = ((196 ∷ []), (inl (refl, refl), refl)); lexeme = (refl, refl, refl, omega arith); line = refl },
                                                                                                      (
                                                                                                        record { gap = ([], refl); lexeme = (refl, refl, refl); line = refl },
                                                                                                        (
                                                                                                          record { gap = ([], refl); lexeme = (refl, refl, refl); line = refl },
                                                                                                          (
                                                                                                            record { gap = ([], refl); lexeme = inl (refl, refl); line = refl },
                                                                                                            (
                                                                                                              record { gap = ([], refl); lexeme = (refl, refl, refl, refl, omega arith); line = refl },
                                                                                                              (
                                                                                                                record { gap = ((208 ∷ []), (inl (refl, refl), refl)); lexeme = (refl, refl, refl, refl, omega arith); line = refl },
                                                                                                                (
                                                                                                                  record { gap = ((211 ∷ []), (inl (refl, refl), refl)); lexeme = (refl, refl, refl, refl, omega arith); line = refl },
                                                                                                                  (
                                                                                                                    record { gap = ((216 ∷ []), (inl (refl, refl), refl)); lexeme = (refl, refl, refl, refl, omega arith); line = refl },
                                                                                                                    (
                                                                                                                      record { gap = ((221 ∷ []), (inl (refl, refl), refl)); lexeme = (refl, refl, refl); line = refl },
                                                                                                                      (
                                                                                                                        record { gap = ((223 ∷ []), (inl (refl, refl), refl)); lexeme = (refl, refl, refl, refl, omega arith); line = refl },
                                                                                                                        (
                                                                                                                          record { gap = ([], refl); lexeme = (refl, refl, refl); line = refl },
                                                                                                                          (
                                                                                                                            record { gap = ([], refl); lexeme = inl (refl, refl); line = refl },
                                                                                                                            (
                                                                                                                              record { gap = ([], refl); lexeme = (refl, refl, refl, refl, omega arith); line = refl },
                                                                                                                              (
                                                                                                                                record { gap = ([], refl); lexeme = inl (refl, refl); line = refl },
                                                                                                                                (
                                                                                                                                  record { gap = ([], refl); lexeme = (refl, refl, refl, refl, omega arith); line = refl },
                                                                                                                                  (
                                                                                                                                    record { gap = ([], refl); lexeme = inl (refl, refl); line = refl },
                                                                                                                                    ([], refl),
                                                                                                                                  ),
                                                                                                                                ),
                                                                                                                              ),
                                                                                                                            ),
                                                                                                                          ),
                                                                                                                        ),
                                                                                                                      ),
                                                                                                                    ),
                                                                                                                  ),
                                                                                                                ),
                                                                                                              ),
                                                                                                            ),
                                                                                                          ),
                                                                                                        ),
                                                                                                      ),
                                                                                                    ),
                                                                                                  ),
                                                                                                ),
                                                                                              ),
                                                                                            ),
                                                                                          ),
                                                                                        ),
                                                                                      ),
                                                                                    ),
                                                                                  ),
                                                                                ),
                                                                              ),
                                                                            ),
                                                                          ),
                                                                        ),
                                                                      ),
                                                                    ),
                                                                  ),
                                                                ),
                                                              ),
                                                            ),
                                                          ),
                                                        ),
                                                      ),
                                                    ),
                                                  ),
                                                ),
                                              ),
                                            ),
                                          ),
                                        ),
                                      ),
                                    ),
                                  ),
                                ),
                              ),
                            ),
                          ),
                        ),
                      ),
                    ),
                  ),
                ),
              ),
            ),
          ),
        ),
      ),
    ),
  ),
)

-- The tokens from one of them on.
abbrev motor_from : ℕ → List Token
motor_from i = drop i motor_tokens

-- the tree of the text
abbrev motor_tree : Config
motor_tree = record {
  units = record {
    place = (place 0 1);
    kind = unit.Program;
    name = (named 8 1 (codes "C"));
    inputs = [];
    outputs = [];
    variables = [];
    externals = [];
    body = record {
      steps =
          record { labels = []; place = (place 10 2); instruction = instruction.Load false (record { place = (place 13 2); reference = reference.Literal (literal.Bare (pos 0)) }) }
          ∷ record { labels = []; place = (place 15 3); instruction = instruction.Store store.Plain (record { place = (place 18 3); reference = reference.Variable (codes "MOTOR") }) }
          ∷ [];
      last_labels = [];
      end = (place 24 4);
    };
  } ∷ [];
  cars = record { place = (place 86 6); value = pos 1 };
  floors = record { place = (place 105 6); value = pos 2 };
  slots = record { place = (place 123 6); value = pos 1 };
  globals_place = None;
  globals = [];
  tasks = record { place = (place 152 8); name = (named 157 8 (codes "CAR1")); interval = pos 100; priority = pos 1 } ∷ [];
  programs = record { place = (place 200 9); name = (named 208 9 (codes "P1")); task = (named 216 9 (codes "CAR1")); program = (named 223 9 (codes "C")) } ∷ [];
  end_resource = (place 226 10);
}

-- the text spells this tree
motor_spelled : Spells motor_text motor_tree
unfolding keyword_of entry_of is_grouped_after
motor_spelled = (motor_tokens, motor_cut, ((motor_from 10), ((refl, refl), ((motor_from 1), (refl, refl, ((refl, refl), refl)), ((motor_from 2), (refl, refl, ((refl, refl, refl), refl)), ((motor_from 2), refl, ((motor_from 2), (refl, λ other p. cc p.0.1), ((motor_from 2), (refl, λ other p. cc p.0.1), ((motor_from 2), (inr (refl, (refl, λ other p. cc p.0.1))), ((motor_from 2), (inr (refl, (refl, λ other p. cc p.0.1))), (refl, ((motor_from 3), (refl, refl), ((motor_from 6), (refl, refl, ((motor_from 4), ((refl, refl), refl), ((motor_from 5), (refl, refl, (refl, refl)), (refl, refl)))), ((motor_from 9), (refl, refl, ((motor_from 7), ((refl, refl), refl), ((motor_from 8), (tt, (refl, refl, ((motor_from 8), ((refl, refl, refl), refl), ((motor_from 8), (refl, λ other p. cc p.0), (refl, λ other p. cc p.0))))), (refl, refl)))), (refl, refl, ((refl, refl), refl)))))))))))))), ((motor_from 12), ((refl, refl), refl), ((motor_from 13), ((refl, refl), refl), ((motor_from 35), ((motor_from 15), ((refl, refl), refl), ((motor_from 16), ((refl, refl), refl), ((motor_from 22), ((motor_from 17), ((refl, refl), refl), ((motor_from 18), (refl, refl), ((motor_from 19), ((refl, refl), refl), ((motor_from 20), (refl, refl), ((motor_from 21), (refl, refl, ((refl, refl), refl)), (refl, refl)))))), ((motor_from 28), ((motor_from 23), ((refl, refl), refl), ((motor_from 24), (refl, refl), ((motor_from 25), ((refl, refl), refl), ((motor_from 26), (refl, refl), ((motor_from 27), (refl, refl, ((refl, refl), refl)), (refl, refl)))))), ((motor_from 34), ((motor_from 29), ((refl, refl), refl), ((motor_from 30), (refl, refl), ((motor_from 31), ((refl, refl), refl), ((motor_from 32), (refl, refl), ((motor_from 33), (refl, refl, ((refl, refl), refl)), (refl, refl)))))), ((refl, refl), refl)))))), ((motor_from 35), (refl, (refl, λ other p. cc p.0.1)), ((motor_from 63), ((motor_from 37), ((refl, refl), refl), ((motor_from 38), ((refl, refl), refl), ((motor_from 39), ((refl, refl), refl), ((motor_from 40), ((refl, refl), refl), ((motor_from 53), ((motor_from 42), (refl, refl, ((refl, refl), refl)), ((motor_from 43), (refl, refl, ((refl, refl, refl), refl)), ((motor_from 44), (refl, refl), ((motor_from 45), ((refl, refl), refl), ((motor_from 46), (refl, refl), ((motor_from 47), (refl, refl), ((motor_from 48), (refl, refl), ((motor_from 49), ((refl, refl), refl), ((motor_from 50), (refl, refl), ((motor_from 51), ((refl, refl), refl), ((motor_from 52), (refl, refl), (refl, refl)))))))))))), ((motor_from 61), ((motor_from 55), (refl, refl, ((refl, refl), refl)), ((motor_from 56), (refl, refl, ((refl, refl, refl), refl)), ((motor_from 57), ((refl, refl), refl), ((motor_from 58), (refl, refl, ((refl, refl, refl), refl)), ((motor_from 59), (refl, refl), ((motor_from 60), (refl, refl, ((refl, refl, refl), refl)), (refl, refl))))))), (refl, refl, ((refl, refl), refl)))))))), ((motor_from 65), ((refl, refl), refl), (refl, refl)))))))))
