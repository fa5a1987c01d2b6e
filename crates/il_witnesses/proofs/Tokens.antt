-- The tokens of the text, line by line.
use Rattle.std.proofs.Common.{◌≡◌, ℕ, List, [], ◌∷◌, refl, arith, drop}
use Rattle.std.specs.Prelude.{pos, negsuc}
use mathlib.Core.Logic.{inl, inr}
use lib.Signed.{le_z_yes}
use Rattle.il_syntax.specs.declared.token.Kind.{Kind}
use Rattle.il_syntax.specs.declared.token.Kind.TheVariants as kind
use Rattle.il_syntax.specs.declared.token.Sign.TheVariants.{Assign, Arrow, Range, Colon, Semicolon, Comma, OpenParenthesis, CloseParenthesis, OpenBracket, CloseBracket, Dot, Ampersand}
use Rattle.il_syntax.specs.declared.token.Token.{Token}
use Rattle.il_syntax.specs.declared.tree.Elementary.TheVariants as elementary
use Rattle.il_syntax.specs.declared.tree.Literal.TheVariants as literal
use Rattle.il_syntax.specs.Text.{number_value, magnitude, is_grouped_after, duration_value, parts_value, is_identifier, entry_of, AreTokens, run_end}
use Rattle.il_witnesses.specs.EveryConstruct.{whole_text}

-- a token of a kind, from one byte up to another, on a line
abbrev token : Kind → ℕ → ℕ → ℕ → Token
token k i j l = record { kind = k; start = i; end = j; line = l }

abbrev line_1 : List Token → List Token
line_1 ts = token kind.LineEnd 0 1 1 ∷ ts

cut_1 : (ts : List Token) → AreTokens whole_text 1 ts → AreTokens whole_text 0 (line_1 ts)
unfolding run_end is_identifier is_grouped_after number_value magnitude duration_value parts_value entry_of
cut_1 ts h = (record { gap = ([], refl); lexeme = inl (refl, refl); line = refl }, h)

abbrev line_2 : List Token → List Token
line_2 ts = token kind.Word 1 9 2 ∷ token kind.Word 10 11 2 ∷ token (kind.Sign Colon) 12 13 2 ∷ token kind.Word 14 17 2 ∷ token (kind.Sign OpenParenthesis) 18 19 2 ∷ token (kind.Number (pos 1)) 19 20 2 ∷ token (kind.Sign Range) 20 22 2 ∷ token (kind.Number (pos 10)) 22 24 2 ∷ token (kind.Sign CloseParenthesis) 24 25 2 ∷ token kind.LineEnd 25 26 2 ∷ ts

cut_2 : (ts : List Token) → AreTokens whole_text 26 ts → AreTokens whole_text 1 (line_2 ts)
unfolding run_end is_identifier is_grouped_after number_value magnitude duration_value parts_value entry_of
cut_2 ts h = (record { gap = ([], refl); lexeme = (refl, refl, refl, refl, omega arith); line = refl }, (record { gap = (10 ∷ [], (inl (refl, refl), refl)); lexeme = (refl, refl, refl, refl, omega arith); line = refl }, (record { gap = (12 ∷ [], (inl (refl, refl), refl)); lexeme = (refl, refl, refl); line = refl }, (record { gap = (14 ∷ [], (inl (refl, refl), refl)); lexeme = (refl, refl, refl, refl, omega arith); line = refl }, (record { gap = (18 ∷ [], (inl (refl, refl), refl)); lexeme = (refl, refl, refl); line = refl }, (record { gap = ([], refl); lexeme = (refl, refl, refl, omega arith); line = refl }, (record { gap = ([], refl); lexeme = (refl, refl, refl); line = refl }, (record { gap = ([], refl); lexeme = (refl, refl, refl, omega arith); line = refl }, (record { gap = ([], refl); lexeme = (refl, refl, refl); line = refl }, (record { gap = ([], refl); lexeme = inl (refl, refl); line = refl }, h))))))))))

abbrev line_3 : List Token → List Token
line_3 ts = token kind.Word 26 35 3 ∷ token kind.Word 36 37 3 ∷ token (kind.Sign Colon) 38 39 3 ∷ token kind.Word 40 43 3 ∷ token (kind.Sign OpenParenthesis) 44 45 3 ∷ token (kind.Number (pos 0)) 45 46 3 ∷ token (kind.Sign Range) 46 48 3 ∷ token (kind.Number (pos 9)) 48 49 3 ∷ token (kind.Sign CloseParenthesis) 49 50 3 ∷ token (kind.Sign Semicolon) 50 51 3 ∷ token kind.Word 52 53 3 ∷ token (kind.Sign Colon) 54 55 3 ∷ token kind.Word 56 60 3 ∷ token (kind.Sign Semicolon) 60 61 3 ∷ token kind.Word 62 69 3 ∷ token kind.LineEnd 69 70 3 ∷ ts

cut_3 : (ts : List Token) → AreTokens whole_text 70 ts → AreTokens whole_text 26 (line_3 ts)
unfolding run_end is_identifier is_grouped_after number_value magnitude duration_value parts_value entry_of
cut_3 ts h = (record { gap = ([], refl); lexeme = (refl, refl, refl, refl, omega arith); line = refl }, (record { gap = (36 ∷ [], (inl (refl, refl), refl)); lexeme = (refl, refl, refl, refl, omega arith); line = refl }, (record { gap = (38 ∷ [], (inl (refl, refl), refl)); lexeme = (refl, refl, refl); line = refl }, (record { gap = (40 ∷ [], (inl (refl, refl), refl)); lexeme = (refl, refl, refl, refl, omega arith); line = refl }, (record { gap = (44 ∷ [], (inl (refl, refl), refl)); lexeme = (refl, refl, refl); line = refl }, (record { gap = ([], refl); lexeme = (refl, refl, refl, omega arith); line = refl }, (record { gap = ([], refl); lexeme = (refl, refl, refl); line = refl }, (record { gap = ([], refl); lexeme = (refl, refl, refl, omega arith); line = refl }, (record { gap = ([], refl); lexeme = (refl, refl, refl); line = refl }, (record { gap = ([], refl); lexeme = (refl, refl, refl); line = refl }, (record { gap = (52 ∷ [], (inl (refl, refl), refl)); lexeme = (refl, refl, refl, refl, omega arith); line = refl }, (record { gap = (54 ∷ [], (inl (refl, refl), refl)); lexeme = (refl, refl, refl); line = refl }, (record { gap = (56 ∷ [], (inl (refl, refl), refl)); lexeme = (refl, refl, refl, refl, omega arith); line = refl }, (record { gap = ([], refl); lexeme = (refl, refl, refl); line = refl }, (record { gap = (62 ∷ [], (inl (refl, refl), refl)); lexeme = (refl, refl, refl, refl, omega arith); line = refl }, (record { gap = ([], refl); lexeme = inl (refl, refl); line = refl }, h))))))))))))))))

abbrev line_4 : List Token → List Token
line_4 ts = token kind.Word 70 73 4 ∷ token kind.Word 74 75 4 ∷ token (kind.Sign Comma) 75 76 4 ∷ token kind.Word 77 78 4 ∷ token (kind.Sign Colon) 79 80 4 ∷ token kind.Word 81 85 4 ∷ token (kind.Sign Assign) 86 88 4 ∷ token (kind.Number (negsuc 4)) 89 91 4 ∷ token (kind.Sign Semicolon) 91 92 4 ∷ token kind.Word 93 94 4 ∷ token (kind.Sign Colon) 95 96 4 ∷ token kind.Word 97 102 4 ∷ token (kind.Sign Semicolon) 102 103 4 ∷ token kind.Word 104 111 4 ∷ token kind.LineEnd 111 112 4 ∷ ts

cut_4 : (ts : List Token) → AreTokens whole_text 112 ts → AreTokens whole_text 70 (line_4 ts)
unfolding run_end is_identifier is_grouped_after number_value magnitude duration_value parts_value entry_of
cut_4 ts h = (record { gap = ([], refl); lexeme = (refl, refl, refl, refl, omega arith); line = refl }, (record { gap = (74 ∷ [], (inl (refl, refl), refl)); lexeme = (refl, refl, refl, refl, omega arith); line = refl }, (record { gap = ([], refl); lexeme = (refl, refl, refl); line = refl }, (record { gap = (77 ∷ [], (inl (refl, refl), refl)); lexeme = (refl, refl, refl, refl, omega arith); line = refl }, (record { gap = (79 ∷ [], (inl (refl, refl), refl)); lexeme = (refl, refl, refl); line = refl }, (record { gap = (81 ∷ [], (inl (refl, refl), refl)); lexeme = (refl, refl, refl, refl, omega arith); line = refl }, (record { gap = (86 ∷ [], (inl (refl, refl), refl)); lexeme = (refl, refl, refl); line = refl }, (record { gap = (89 ∷ [], (inl (refl, refl), refl)); lexeme = (refl, refl, refl, omega arith); line = refl }, (record { gap = ([], refl); lexeme = (refl, refl, refl); line = refl }, (record { gap = (93 ∷ [], (inl (refl, refl), refl)); lexeme = (refl, refl, refl, refl, omega arith); line = refl }, (record { gap = (95 ∷ [], (inl (refl, refl), refl)); lexeme = (refl, refl, refl); line = refl }, (record { gap = (97 ∷ [], (inl (refl, refl), refl)); lexeme = (refl, refl, refl, refl, omega arith); line = refl }, (record { gap = ([], refl); lexeme = (refl, refl, refl); line = refl }, (record { gap = (104 ∷ [], (inl (refl, refl), refl)); lexeme = (refl, refl, refl, refl, omega arith); line = refl }, (record { gap = ([], refl); lexeme = inl (refl, refl); line = refl }, h)))))))))))))))

abbrev line_5 : List Token → List Token
line_5 ts = token kind.Word 112 114 5 ∷ token kind.Word 115 116 5 ∷ token kind.LineEnd 116 117 5 ∷ ts

cut_5 : (ts : List Token) → AreTokens whole_text 117 ts → AreTokens whole_text 112 (line_5 ts)
unfolding run_end is_identifier is_grouped_after number_value magnitude duration_value parts_value entry_of
cut_5 ts h = (record { gap = ([], refl); lexeme = (refl, refl, refl, refl, omega arith); line = refl }, (record { gap = (115 ∷ [], (inl (refl, refl), refl)); lexeme = (refl, refl, refl, refl, omega arith); line = refl }, (record { gap = ([], refl); lexeme = inl (refl, refl); line = refl }, h)))

abbrev line_6 : List Token → List Token
line_6 ts = token kind.Word 117 120 6 ∷ token (kind.Number (pos 1)) 121 125 6 ∷ token kind.LineEnd 125 126 6 ∷ ts

cut_6 : (ts : List Token) → AreTokens whole_text 126 ts → AreTokens whole_text 117 (line_6 ts)
unfolding run_end is_identifier is_grouped_after number_value magnitude duration_value parts_value entry_of
cut_6 ts h = (record { gap = ([], refl); lexeme = (refl, refl, refl, refl, omega arith); line = refl }, (record { gap = (121 ∷ [], (inl (refl, refl), refl)); lexeme = (refl, refl, refl, omega arith); line = refl }, (record { gap = ([], refl); lexeme = inl (refl, refl); line = refl }, h)))

abbrev line_7 : List Token → List Token
line_7 ts = token kind.Word 126 128 7 ∷ token kind.Word 129 130 7 ∷ token kind.LineEnd 130 131 7 ∷ ts

cut_7 : (ts : List Token) → AreTokens whole_text 131 ts → AreTokens whole_text 126 (line_7 ts)
unfolding run_end is_identifier is_grouped_after number_value magnitude duration_value parts_value entry_of
cut_7 ts h = (record { gap = ([], refl); lexeme = (refl, refl, refl, refl, omega arith); line = refl }, (record { gap = (129 ∷ [], (inl (refl, refl), refl)); lexeme = (refl, refl, refl, refl, omega arith); line = refl }, (record { gap = ([], refl); lexeme = inl (refl, refl); line = refl }, h)))

abbrev line_8 : List Token → List Token
line_8 ts = token kind.Word 131 143 8 ∷ token kind.LineEnd 149 150 8 ∷ ts

cut_8 : (ts : List Token) → AreTokens whole_text 150 ts → AreTokens whole_text 131 (line_8 ts)
unfolding run_end is_identifier is_grouped_after number_value magnitude duration_value parts_value entry_of
cut_8 ts h = (record { gap = ([], refl); lexeme = (refl, refl, refl, refl, omega arith); line = refl }, (record { gap = (144 ∷ 149 ∷ [], (inl (refl, refl), (inr (record { apart = omega arith; opening = refl; inside = λ k low high. let only : k ≡ 146 = omega (arith, low, high) in rw only refl; closing = refl }), refl))); lexeme = inl (refl, refl); line = refl }, h))

abbrev line_9 : List Token → List Token
line_9 ts = token kind.Word 150 164 9 ∷ token kind.Word 165 166 9 ∷ token kind.LineEnd 166 167 9 ∷ ts

cut_9 : (ts : List Token) → AreTokens whole_text 167 ts → AreTokens whole_text 150 (line_9 ts)
unfolding run_end is_identifier is_grouped_after number_value magnitude duration_value parts_value entry_of
cut_9 ts h = (record { gap = ([], refl); lexeme = (refl, refl, refl, refl, omega arith); line = refl }, (record { gap = (165 ∷ [], (inl (refl, refl), refl)); lexeme = (refl, refl, refl, refl, omega arith); line = refl }, (record { gap = ([], refl); lexeme = inl (refl, refl); line = refl }, h)))

abbrev line_10 : List Token → List Token
line_10 ts = token kind.Word 167 176 10 ∷ token kind.Word 177 178 10 ∷ token (kind.Sign Colon) 179 180 10 ∷ token kind.Word 181 185 10 ∷ token (kind.Sign Assign) 186 188 10 ∷ token kind.Word 189 193 10 ∷ token (kind.Sign Semicolon) 193 194 10 ∷ token kind.Word 195 196 10 ∷ token (kind.Sign Colon) 197 198 10 ∷ token kind.Word 199 203 10 ∷ token (kind.Sign Assign) 204 206 10 ∷ token (kind.Typed (literal.Time (pos 1000))) 207 211 10 ∷ token (kind.Sign Semicolon) 211 212 10 ∷ token kind.Word 213 220 10 ∷ token kind.LineEnd 220 221 10 ∷ ts

cut_10 : (ts : List Token) → AreTokens whole_text 221 ts → AreTokens whole_text 167 (line_10 ts)
unfolding run_end is_identifier is_grouped_after number_value magnitude duration_value parts_value entry_of
cut_10 ts h = (record { gap = ([], refl); lexeme = (refl, refl, refl, refl, omega arith); line = refl }, (record { gap = (177 ∷ [], (inl (refl, refl), refl)); lexeme = (refl, refl, refl, refl, omega arith); line = refl }, (record { gap = (179 ∷ [], (inl (refl, refl), refl)); lexeme = (refl, refl, refl); line = refl }, (record { gap = (181 ∷ [], (inl (refl, refl), refl)); lexeme = (refl, refl, refl, refl, omega arith); line = refl }, (record { gap = (186 ∷ [], (inl (refl, refl), refl)); lexeme = (refl, refl, refl); line = refl }, (record { gap = (189 ∷ [], (inl (refl, refl), refl)); lexeme = (refl, refl, refl, refl, omega arith); line = refl }, (record { gap = ([], refl); lexeme = (refl, refl, refl); line = refl }, (record { gap = (195 ∷ [], (inl (refl, refl), refl)); lexeme = (refl, refl, refl, refl, omega arith); line = refl }, (record { gap = (197 ∷ [], (inl (refl, refl), refl)); lexeme = (refl, refl, refl); line = refl }, (record { gap = (199 ∷ [], (inl (refl, refl), refl)); lexeme = (refl, refl, refl, refl, omega arith); line = refl }, (record { gap = (204 ∷ [], (inl (refl, refl), refl)); lexeme = (refl, refl, refl); line = refl }, (record { gap = (207 ∷ [], (inl (refl, refl), refl)); lexeme = (208, refl, refl, refl, refl, (refl, refl, (le_z_yes tt, le_z_yes tt))); line = refl }, (record { gap = ([], refl); lexeme = (refl, refl, refl); line = refl }, (record { gap = (213 ∷ [], (inl (refl, refl), refl)); lexeme = (refl, refl, refl, refl, omega arith); line = refl }, (record { gap = ([], refl); lexeme = inl (refl, refl); line = refl }, h)))))))))))))))

abbrev line_11 : List Token → List Token
line_11 ts = token kind.Word 221 231 11 ∷ token kind.Word 232 233 11 ∷ token (kind.Sign Colon) 234 235 11 ∷ token kind.Word 236 240 11 ∷ token (kind.Sign Semicolon) 240 241 11 ∷ token kind.Word 242 243 11 ∷ token (kind.Sign Colon) 244 245 11 ∷ token kind.Word 246 250 11 ∷ token (kind.Sign Semicolon) 250 251 11 ∷ token kind.Word 252 259 11 ∷ token kind.LineEnd 259 260 11 ∷ ts

cut_11 : (ts : List Token) → AreTokens whole_text 260 ts → AreTokens whole_text 221 (line_11 ts)
unfolding run_end is_identifier is_grouped_after number_value magnitude duration_value parts_value entry_of
cut_11 ts h = (record { gap = ([], refl); lexeme = (refl, refl, refl, refl, omega arith); line = refl }, (record { gap = (232 ∷ [], (inl (refl, refl), refl)); lexeme = (refl, refl, refl, refl, omega arith); line = refl }, (record { gap = (234 ∷ [], (inl (refl, refl), refl)); lexeme = (refl, refl, refl); line = refl }, (record { gap = (236 ∷ [], (inl (refl, refl), refl)); lexeme = (refl, refl, refl, refl, omega arith); line = refl }, (record { gap = ([], refl); lexeme = (refl, refl, refl); line = refl }, (record { gap = (242 ∷ [], (inl (refl, refl), refl)); lexeme = (refl, refl, refl, refl, omega arith); line = refl }, (record { gap = (244 ∷ [], (inl (refl, refl), refl)); lexeme = (refl, refl, refl); line = refl }, (record { gap = (246 ∷ [], (inl (refl, refl), refl)); lexeme = (refl, refl, refl, refl, omega arith); line = refl }, (record { gap = ([], refl); lexeme = (refl, refl, refl); line = refl }, (record { gap = (252 ∷ [], (inl (refl, refl), refl)); lexeme = (refl, refl, refl, refl, omega arith); line = refl }, (record { gap = ([], refl); lexeme = inl (refl, refl); line = refl }, h)))))))))))

abbrev line_12 : List Token → List Token
line_12 ts = token kind.Word 260 263 12 ∷ token kind.Word 264 265 12 ∷ token kind.LineEnd 265 266 12 ∷ ts

cut_12 : (ts : List Token) → AreTokens whole_text 266 ts → AreTokens whole_text 260 (line_12 ts)
unfolding run_end is_identifier is_grouped_after number_value magnitude duration_value parts_value entry_of
cut_12 ts h = (record { gap = ([], refl); lexeme = (refl, refl, refl, refl, omega arith); line = refl }, (record { gap = (264 ∷ [], (inl (refl, refl), refl)); lexeme = (refl, refl, refl, refl, omega arith); line = refl }, (record { gap = ([], refl); lexeme = inl (refl, refl); line = refl }, h)))

abbrev line_13 : List Token → List Token
line_13 ts = token kind.Word 266 269 13 ∷ token kind.Word 270 271 13 ∷ token kind.LineEnd 271 272 13 ∷ ts

cut_13 : (ts : List Token) → AreTokens whole_text 272 ts → AreTokens whole_text 266 (line_13 ts)
unfolding run_end is_identifier is_grouped_after number_value magnitude duration_value parts_value entry_of
cut_13 ts h = (record { gap = ([], refl); lexeme = (refl, refl, refl, refl, omega arith); line = refl }, (record { gap = (270 ∷ [], (inl (refl, refl), refl)); lexeme = (refl, refl, refl, refl, omega arith); line = refl }, (record { gap = ([], refl); lexeme = inl (refl, refl); line = refl }, h)))

abbrev line_14 : List Token → List Token
line_14 ts = token kind.Word 272 290 14 ∷ token kind.LineEnd 290 291 14 ∷ ts

cut_14 : (ts : List Token) → AreTokens whole_text 291 ts → AreTokens whole_text 272 (line_14 ts)
unfolding run_end is_identifier is_grouped_after number_value magnitude duration_value parts_value entry_of
cut_14 ts h = (record { gap = ([], refl); lexeme = (refl, refl, refl, refl, omega arith); line = refl }, (record { gap = ([], refl); lexeme = inl (refl, refl); line = refl }, h))

abbrev line_15 : List Token → List Token
line_15 ts = token kind.LineEnd 291 292 15 ∷ ts

cut_15 : (ts : List Token) → AreTokens whole_text 292 ts → AreTokens whole_text 291 (line_15 ts)
unfolding run_end is_identifier is_grouped_after number_value magnitude duration_value parts_value entry_of
cut_15 ts h = (record { gap = ([], refl); lexeme = inl (refl, refl); line = refl }, h)

abbrev line_16 : List Token → List Token
line_16 ts = token kind.Word 292 299 16 ∷ token kind.Word 300 301 16 ∷ token kind.LineEnd 301 302 16 ∷ ts

cut_16 : (ts : List Token) → AreTokens whole_text 302 ts → AreTokens whole_text 292 (line_16 ts)
unfolding run_end is_identifier is_grouped_after number_value magnitude duration_value parts_value entry_of
cut_16 ts h = (record { gap = ([], refl); lexeme = (refl, refl, refl, refl, omega arith); line = refl }, (record { gap = (300 ∷ [], (inl (refl, refl), refl)); lexeme = (refl, refl, refl, refl, omega arith); line = refl }, (record { gap = ([], refl); lexeme = inl (refl, refl); line = refl }, h)))

abbrev line_17 : List Token → List Token
line_17 ts = token kind.Word 302 305 17 ∷ token kind.LineEnd 305 306 17 ∷ ts

cut_17 : (ts : List Token) → AreTokens whole_text 306 ts → AreTokens whole_text 302 (line_17 ts)
unfolding run_end is_identifier is_grouped_after number_value magnitude duration_value parts_value entry_of
cut_17 ts h = (record { gap = ([], refl); lexeme = (refl, refl, refl, refl, omega arith); line = refl }, (record { gap = ([], refl); lexeme = inl (refl, refl); line = refl }, h))

abbrev line_18 : List Token → List Token
line_18 ts = token kind.Word 308 309 18 ∷ token (kind.Sign Colon) 310 311 18 ∷ token kind.Word 312 317 18 ∷ token (kind.Sign OpenBracket) 318 319 18 ∷ token (kind.Number (pos 1)) 319 320 18 ∷ token (kind.Sign Range) 320 322 18 ∷ token (kind.Number (pos 8)) 322 323 18 ∷ token (kind.Sign CloseBracket) 323 324 18 ∷ token kind.Word 325 327 18 ∷ token kind.Word 328 331 18 ∷ token (kind.Sign OpenParenthesis) 332 333 18 ∷ token (kind.Number (pos 0)) 333 334 18 ∷ token (kind.Sign Range) 334 336 18 ∷ token (kind.Number (pos 9)) 336 337 18 ∷ token (kind.Sign CloseParenthesis) 337 338 18 ∷ token (kind.Sign Semicolon) 338 339 18 ∷ token kind.LineEnd 339 340 18 ∷ ts

cut_18 : (ts : List Token) → AreTokens whole_text 340 ts → AreTokens whole_text 306 (line_18 ts)
unfolding run_end is_identifier is_grouped_after number_value magnitude duration_value parts_value entry_of
cut_18 ts h = (record { gap = (307 ∷ 308 ∷ [], (inl (refl, refl), (inl (refl, refl), refl))); lexeme = (refl, refl, refl, refl, omega arith); line = refl }, (record { gap = (310 ∷ [], (inl (refl, refl), refl)); lexeme = (refl, refl, refl); line = refl }, (record { gap = (312 ∷ [], (inl (refl, refl), refl)); lexeme = (refl, refl, refl, refl, omega arith); line = refl }, (record { gap = (318 ∷ [], (inl (refl, refl), refl)); lexeme = (refl, refl, refl); line = refl }, (record { gap = ([], refl); lexeme = (refl, refl, refl, omega arith); line = refl }, (record { gap = ([], refl); lexeme = (refl, refl, refl); line = refl }, (record { gap = ([], refl); lexeme = (refl, refl, refl, omega arith); line = refl }, (record { gap = ([], refl); lexeme = (refl, refl, refl); line = refl }, (record { gap = (325 ∷ [], (inl (refl, refl), refl)); lexeme = (refl, refl, refl, refl, omega arith); line = refl }, (record { gap = (328 ∷ [], (inl (refl, refl), refl)); lexeme = (refl, refl, refl, refl, omega arith); line = refl }, (record { gap = (332 ∷ [], (inl (refl, refl), refl)); lexeme = (refl, refl, refl); line = refl }, (record { gap = ([], refl); lexeme = (refl, refl, refl, omega arith); line = refl }, (record { gap = ([], refl); lexeme = (refl, refl, refl); line = refl }, (record { gap = ([], refl); lexeme = (refl, refl, refl, omega arith); line = refl }, (record { gap = ([], refl); lexeme = (refl, refl, refl); line = refl }, (record { gap = ([], refl); lexeme = (refl, refl, refl); line = refl }, (record { gap = ([], refl); lexeme = inl (refl, refl); line = refl }, h)))))))))))))))))

abbrev line_19 : List Token → List Token
line_19 ts = token kind.Word 342 343 19 ∷ token (kind.Sign Colon) 344 345 19 ∷ token kind.Word 346 351 19 ∷ token (kind.Sign OpenParenthesis) 352 353 19 ∷ token (kind.Number (pos 1)) 353 354 19 ∷ token (kind.Sign Range) 354 356 19 ∷ token (kind.Number (pos 8)) 356 357 19 ∷ token (kind.Sign CloseParenthesis) 357 358 19 ∷ token (kind.Sign Assign) 359 361 19 ∷ token (kind.Typed (literal.Whole elementary.Usint (pos 1))) 362 369 19 ∷ token (kind.Sign Semicolon) 369 370 19 ∷ token kind.LineEnd 370 371 19 ∷ ts

cut_19 : (ts : List Token) → AreTokens whole_text 371 ts → AreTokens whole_text 340 (line_19 ts)
unfolding run_end is_identifier is_grouped_after number_value magnitude duration_value parts_value entry_of
cut_19 ts h = (record { gap = (341 ∷ 342 ∷ [], (inl (refl, refl), (inl (refl, refl), refl))); lexeme = (refl, refl, refl, refl, omega arith); line = refl }, (record { gap = (344 ∷ [], (inl (refl, refl), refl)); lexeme = (refl, refl, refl); line = refl }, (record { gap = (346 ∷ [], (inl (refl, refl), refl)); lexeme = (refl, refl, refl, refl, omega arith); line = refl }, (record { gap = (352 ∷ [], (inl (refl, refl), refl)); lexeme = (refl, refl, refl); line = refl }, (record { gap = ([], refl); lexeme = (refl, refl, refl, omega arith); line = refl }, (record { gap = ([], refl); lexeme = (refl, refl, refl); line = refl }, (record { gap = ([], refl); lexeme = (refl, refl, refl, omega arith); line = refl }, (record { gap = ([], refl); lexeme = (refl, refl, refl); line = refl }, (record { gap = (359 ∷ [], (inl (refl, refl), refl)); lexeme = (refl, refl, refl); line = refl }, (record { gap = (362 ∷ [], (inl (refl, refl), refl)); lexeme = (367, refl, refl, refl, refl, (refl, refl, (le_z_yes tt, le_z_yes tt))); line = refl }, (record { gap = ([], refl); lexeme = (refl, refl, refl); line = refl }, (record { gap = ([], refl); lexeme = inl (refl, refl); line = refl }, h))))))))))))

abbrev line_20 : List Token → List Token
line_20 ts = token kind.Word 373 375 20 ∷ token (kind.Sign Colon) 376 377 20 ∷ token kind.Word 378 379 20 ∷ token (kind.Sign Semicolon) 379 380 20 ∷ token kind.Word 381 383 20 ∷ token (kind.Sign Colon) 384 385 20 ∷ token kind.Word 386 389 20 ∷ token (kind.Sign Semicolon) 389 390 20 ∷ token kind.LineEnd 390 391 20 ∷ ts

cut_20 : (ts : List Token) → AreTokens whole_text 391 ts → AreTokens whole_text 371 (line_20 ts)
unfolding run_end is_identifier is_grouped_after number_value magnitude duration_value parts_value entry_of
cut_20 ts h = (record { gap = (372 ∷ 373 ∷ [], (inl (refl, refl), (inl (refl, refl), refl))); lexeme = (refl, refl, refl, refl, omega arith); line = refl }, (record { gap = (376 ∷ [], (inl (refl, refl), refl)); lexeme = (refl, refl, refl); line = refl }, (record { gap = (378 ∷ [], (inl (refl, refl), refl)); lexeme = (refl, refl, refl, refl, omega arith); line = refl }, (record { gap = ([], refl); lexeme = (refl, refl, refl); line = refl }, (record { gap = (381 ∷ [], (inl (refl, refl), refl)); lexeme = (refl, refl, refl, refl, omega arith); line = refl }, (record { gap = (384 ∷ [], (inl (refl, refl), refl)); lexeme = (refl, refl, refl); line = refl }, (record { gap = (386 ∷ [], (inl (refl, refl), refl)); lexeme = (refl, refl, refl, refl, omega arith); line = refl }, (record { gap = ([], refl); lexeme = (refl, refl, refl); line = refl }, (record { gap = ([], refl); lexeme = inl (refl, refl); line = refl }, h)))))))))

abbrev line_21 : List Token → List Token
line_21 ts = token kind.Word 391 398 21 ∷ token kind.LineEnd 398 399 21 ∷ ts

cut_21 : (ts : List Token) → AreTokens whole_text 399 ts → AreTokens whole_text 391 (line_21 ts)
unfolding run_end is_identifier is_grouped_after number_value magnitude duration_value parts_value entry_of
cut_21 ts h = (record { gap = ([], refl); lexeme = (refl, refl, refl, refl, omega arith); line = refl }, (record { gap = ([], refl); lexeme = inl (refl, refl); line = refl }, h))

abbrev line_22 : List Token → List Token
line_22 ts = token kind.Word 399 411 22 ∷ token kind.Word 412 413 22 ∷ token (kind.Sign Colon) 414 415 22 ∷ token kind.Word 416 420 22 ∷ token (kind.Sign Semicolon) 420 421 22 ∷ token kind.LineEnd 421 422 22 ∷ ts

cut_22 : (ts : List Token) → AreTokens whole_text 422 ts → AreTokens whole_text 399 (line_22 ts)
unfolding run_end is_identifier is_grouped_after number_value magnitude duration_value parts_value entry_of
cut_22 ts h = (record { gap = ([], refl); lexeme = (refl, refl, refl, refl, omega arith); line = refl }, (record { gap = (412 ∷ [], (inl (refl, refl), refl)); lexeme = (refl, refl, refl, refl, omega arith); line = refl }, (record { gap = (414 ∷ [], (inl (refl, refl), refl)); lexeme = (refl, refl, refl); line = refl }, (record { gap = (416 ∷ [], (inl (refl, refl), refl)); lexeme = (refl, refl, refl, refl, omega arith); line = refl }, (record { gap = ([], refl); lexeme = (refl, refl, refl); line = refl }, (record { gap = ([], refl); lexeme = inl (refl, refl); line = refl }, h))))))

abbrev line_23 : List Token → List Token
line_23 ts = token kind.Word 424 425 23 ∷ token (kind.Sign Colon) 426 427 23 ∷ token kind.Word 428 432 23 ∷ token (kind.Sign Semicolon) 432 433 23 ∷ token kind.Word 434 441 23 ∷ token kind.LineEnd 441 442 23 ∷ ts

cut_23 : (ts : List Token) → AreTokens whole_text 442 ts → AreTokens whole_text 422 (line_23 ts)
unfolding run_end is_identifier is_grouped_after number_value magnitude duration_value parts_value entry_of
cut_23 ts h = (record { gap = (423 ∷ 424 ∷ [], (inl (refl, refl), (inl (refl, refl), refl))); lexeme = (refl, refl, refl, refl, omega arith); line = refl }, (record { gap = (426 ∷ [], (inl (refl, refl), refl)); lexeme = (refl, refl, refl); line = refl }, (record { gap = (428 ∷ [], (inl (refl, refl), refl)); lexeme = (refl, refl, refl, refl, omega arith); line = refl }, (record { gap = ([], refl); lexeme = (refl, refl, refl); line = refl }, (record { gap = (434 ∷ [], (inl (refl, refl), refl)); lexeme = (refl, refl, refl, refl, omega arith); line = refl }, (record { gap = ([], refl); lexeme = inl (refl, refl); line = refl }, h))))))

abbrev line_24 : List Token → List Token
line_24 ts = token kind.LineEnd 442 443 24 ∷ ts

cut_24 : (ts : List Token) → AreTokens whole_text 443 ts → AreTokens whole_text 442 (line_24 ts)
unfolding run_end is_identifier is_grouped_after number_value magnitude duration_value parts_value entry_of
cut_24 ts h = (record { gap = ([], refl); lexeme = inl (refl, refl); line = refl }, h)

abbrev line_25 : List Token → List Token
line_25 ts = token kind.Word 443 444 25 ∷ token (kind.Sign Colon) 444 445 25 ∷ token kind.LineEnd 445 446 25 ∷ ts

cut_25 : (ts : List Token) → AreTokens whole_text 446 ts → AreTokens whole_text 443 (line_25 ts)
unfolding run_end is_identifier is_grouped_after number_value magnitude duration_value parts_value entry_of
cut_25 ts h = (record { gap = ([], refl); lexeme = (refl, refl, refl, refl, omega arith); line = refl }, (record { gap = ([], refl); lexeme = (refl, refl, refl); line = refl }, (record { gap = ([], refl); lexeme = inl (refl, refl); line = refl }, h)))

abbrev line_26 : List Token → List Token
line_26 ts = token kind.LineEnd 446 447 26 ∷ ts

cut_26 : (ts : List Token) → AreTokens whole_text 447 ts → AreTokens whole_text 446 (line_26 ts)
unfolding run_end is_identifier is_grouped_after number_value magnitude duration_value parts_value entry_of
cut_26 ts h = (record { gap = ([], refl); lexeme = inl (refl, refl); line = refl }, h)

abbrev line_27 : List Token → List Token
line_27 ts = token kind.Word 447 448 27 ∷ token (kind.Sign Colon) 448 449 27 ∷ token kind.Word 450 452 27 ∷ token (kind.Typed (literal.Whole elementary.Int (pos 2))) 453 458 27 ∷ token kind.LineEnd 458 459 27 ∷ ts

cut_27 : (ts : List Token) → AreTokens whole_text 459 ts → AreTokens whole_text 447 (line_27 ts)
unfolding run_end is_identifier is_grouped_after number_value magnitude duration_value parts_value entry_of
cut_27 ts h = (record { gap = ([], refl); lexeme = (refl, refl, refl, refl, omega arith); line = refl }, (record { gap = ([], refl); lexeme = (refl, refl, refl); line = refl }, (record { gap = (450 ∷ [], (inl (refl, refl), refl)); lexeme = (refl, refl, refl, refl, omega arith); line = refl }, (record { gap = (453 ∷ [], (inl (refl, refl), refl)); lexeme = (456, refl, refl, refl, refl, (refl, refl, (le_z_yes tt, le_z_yes tt))); line = refl }, (record { gap = ([], refl); lexeme = inl (refl, refl); line = refl }, h)))))

abbrev line_28 : List Token → List Token
line_28 ts = token kind.Word 459 461 28 ∷ token kind.Word 462 463 28 ∷ token (kind.Sign OpenBracket) 463 464 28 ∷ token (kind.Number (pos 1)) 464 465 28 ∷ token (kind.Sign CloseBracket) 465 466 28 ∷ token kind.LineEnd 466 467 28 ∷ ts

cut_28 : (ts : List Token) → AreTokens whole_text 467 ts → AreTokens whole_text 459 (line_28 ts)
unfolding run_end is_identifier is_grouped_after number_value magnitude duration_value parts_value entry_of
cut_28 ts h = (record { gap = ([], refl); lexeme = (refl, refl, refl, refl, omega arith); line = refl }, (record { gap = (462 ∷ [], (inl (refl, refl), refl)); lexeme = (refl, refl, refl, refl, omega arith); line = refl }, (record { gap = ([], refl); lexeme = (refl, refl, refl); line = refl }, (record { gap = ([], refl); lexeme = (refl, refl, refl, omega arith); line = refl }, (record { gap = ([], refl); lexeme = (refl, refl, refl); line = refl }, (record { gap = ([], refl); lexeme = inl (refl, refl); line = refl }, h))))))

abbrev line_29 : List Token → List Token
line_29 ts = token kind.Word 467 469 29 ∷ token (kind.Number (pos 9)) 470 471 29 ∷ token kind.LineEnd 471 472 29 ∷ ts

cut_29 : (ts : List Token) → AreTokens whole_text 472 ts → AreTokens whole_text 467 (line_29 ts)
unfolding run_end is_identifier is_grouped_after number_value magnitude duration_value parts_value entry_of
cut_29 ts h = (record { gap = ([], refl); lexeme = (refl, refl, refl, refl, omega arith); line = refl }, (record { gap = (470 ∷ [], (inl (refl, refl), refl)); lexeme = (refl, refl, refl, omega arith); line = refl }, (record { gap = ([], refl); lexeme = inl (refl, refl); line = refl }, h)))

abbrev line_30 : List Token → List Token
line_30 ts = token kind.Word 472 474 30 ∷ token kind.Word 475 476 30 ∷ token (kind.Sign OpenBracket) 476 477 30 ∷ token kind.Word 478 479 30 ∷ token (kind.Sign CloseBracket) 480 481 30 ∷ token kind.LineEnd 481 482 30 ∷ ts

cut_30 : (ts : List Token) → AreTokens whole_text 482 ts → AreTokens whole_text 472 (line_30 ts)
unfolding run_end is_identifier is_grouped_after number_value magnitude duration_value parts_value entry_of
cut_30 ts h = (record { gap = ([], refl); lexeme = (refl, refl, refl, refl, omega arith); line = refl }, (record { gap = (475 ∷ [], (inl (refl, refl), refl)); lexeme = (refl, refl, refl, refl, omega arith); line = refl }, (record { gap = ([], refl); lexeme = (refl, refl, refl); line = refl }, (record { gap = (478 ∷ [], (inl (refl, refl), refl)); lexeme = (refl, refl, refl, refl, omega arith); line = refl }, (record { gap = (480 ∷ [], (inl (refl, refl), refl)); lexeme = (refl, refl, refl); line = refl }, (record { gap = ([], refl); lexeme = inl (refl, refl); line = refl }, h))))))

abbrev line_31 : List Token → List Token
line_31 ts = token kind.Word 482 484 31 ∷ token (kind.Typed (literal.Time (pos 1000))) 485 489 31 ∷ token kind.LineEnd 489 491 31 ∷ ts

cut_31 : (ts : List Token) → AreTokens whole_text 491 ts → AreTokens whole_text 482 (line_31 ts)
unfolding run_end is_identifier is_grouped_after number_value magnitude duration_value parts_value entry_of
cut_31 ts h = (record { gap = ([], refl); lexeme = (refl, refl, refl, refl, omega arith); line = refl }, (record { gap = (485 ∷ [], (inl (refl, refl), refl)); lexeme = (486, refl, refl, refl, refl, (refl, refl, (le_z_yes tt, le_z_yes tt))); line = refl }, (record { gap = ([], refl); lexeme = inr (refl, refl, refl); line = refl }, h)))

abbrev line_32 : List Token → List Token
line_32 ts = token kind.Word 491 493 32 ∷ token kind.Word 494 496 32 ∷ token (kind.Sign Dot) 496 497 32 ∷ token kind.Word 497 499 32 ∷ token kind.LineEnd 499 500 32 ∷ ts

cut_32 : (ts : List Token) → AreTokens whole_text 500 ts → AreTokens whole_text 491 (line_32 ts)
unfolding run_end is_identifier is_grouped_after number_value magnitude duration_value parts_value entry_of
cut_32 ts h = (record { gap = ([], refl); lexeme = (refl, refl, refl, refl, omega arith); line = refl }, (record { gap = (494 ∷ [], (inl (refl, refl), refl)); lexeme = (refl, refl, refl, refl, omega arith); line = refl }, (record { gap = ([], refl); lexeme = (refl, refl, refl); line = refl }, (record { gap = ([], refl); lexeme = (refl, refl, refl, refl, omega arith); line = refl }, (record { gap = ([], refl); lexeme = inl (refl, refl); line = refl }, h)))))

abbrev line_33 : List Token → List Token
line_33 ts = token kind.Word 500 503 33 ∷ token kind.Word 504 505 33 ∷ token kind.LineEnd 505 506 33 ∷ ts

cut_33 : (ts : List Token) → AreTokens whole_text 506 ts → AreTokens whole_text 500 (line_33 ts)
unfolding run_end is_identifier is_grouped_after number_value magnitude duration_value parts_value entry_of
cut_33 ts h = (record { gap = ([], refl); lexeme = (refl, refl, refl, refl, omega arith); line = refl }, (record { gap = (504 ∷ [], (inl (refl, refl), refl)); lexeme = (refl, refl, refl, refl, omega arith); line = refl }, (record { gap = ([], refl); lexeme = inl (refl, refl); line = refl }, h)))

abbrev line_34 : List Token → List Token
line_34 ts = token kind.Word 506 507 34 ∷ token (kind.Sign Colon) 507 508 34 ∷ token kind.Word 509 511 34 ∷ token kind.Word 512 514 34 ∷ token (kind.Sign Dot) 514 515 34 ∷ token kind.Word 515 516 34 ∷ token kind.LineEnd 516 517 34 ∷ ts

cut_34 : (ts : List Token) → AreTokens whole_text 517 ts → AreTokens whole_text 506 (line_34 ts)
unfolding run_end is_identifier is_grouped_after number_value magnitude duration_value parts_value entry_of
cut_34 ts h = (record { gap = ([], refl); lexeme = (refl, refl, refl, refl, omega arith); line = refl }, (record { gap = ([], refl); lexeme = (refl, refl, refl); line = refl }, (record { gap = (509 ∷ [], (inl (refl, refl), refl)); lexeme = (refl, refl, refl, refl, omega arith); line = refl }, (record { gap = (512 ∷ [], (inl (refl, refl), refl)); lexeme = (refl, refl, refl, refl, omega arith); line = refl }, (record { gap = ([], refl); lexeme = (refl, refl, refl); line = refl }, (record { gap = ([], refl); lexeme = (refl, refl, refl, refl, omega arith); line = refl }, (record { gap = ([], refl); lexeme = inl (refl, refl); line = refl }, h)))))))

abbrev line_35 : List Token → List Token
line_35 ts = token kind.Word 517 521 35 ∷ token kind.Word 522 523 35 ∷ token kind.LineEnd 523 524 35 ∷ ts

cut_35 : (ts : List Token) → AreTokens whole_text 524 ts → AreTokens whole_text 517 (line_35 ts)
unfolding run_end is_identifier is_grouped_after number_value magnitude duration_value parts_value entry_of
cut_35 ts h = (record { gap = ([], refl); lexeme = (refl, refl, refl, refl, omega arith); line = refl }, (record { gap = (522 ∷ [], (inl (refl, refl), refl)); lexeme = (refl, refl, refl, refl, omega arith); line = refl }, (record { gap = ([], refl); lexeme = inl (refl, refl); line = refl }, h)))

abbrev line_36 : List Token → List Token
line_36 ts = token kind.Word 524 529 36 ∷ token kind.Word 530 531 36 ∷ token kind.LineEnd 531 532 36 ∷ ts

cut_36 : (ts : List Token) → AreTokens whole_text 532 ts → AreTokens whole_text 524 (line_36 ts)
unfolding run_end is_identifier is_grouped_after number_value magnitude duration_value parts_value entry_of
cut_36 ts h = (record { gap = ([], refl); lexeme = (refl, refl, refl, refl, omega arith); line = refl }, (record { gap = (530 ∷ [], (inl (refl, refl), refl)); lexeme = (refl, refl, refl, refl, omega arith); line = refl }, (record { gap = ([], refl); lexeme = inl (refl, refl); line = refl }, h)))

abbrev line_37 : List Token → List Token
line_37 ts = token kind.Word 532 533 37 ∷ token kind.Word 534 535 37 ∷ token kind.LineEnd 535 536 37 ∷ ts

cut_37 : (ts : List Token) → AreTokens whole_text 536 ts → AreTokens whole_text 532 (line_37 ts)
unfolding run_end is_identifier is_grouped_after number_value magnitude duration_value parts_value entry_of
cut_37 ts h = (record { gap = ([], refl); lexeme = (refl, refl, refl, refl, omega arith); line = refl }, (record { gap = (534 ∷ [], (inl (refl, refl), refl)); lexeme = (refl, refl, refl, refl, omega arith); line = refl }, (record { gap = ([], refl); lexeme = inl (refl, refl); line = refl }, h)))

abbrev line_38 : List Token → List Token
line_38 ts = token kind.Word 536 537 38 ∷ token kind.Word 538 539 38 ∷ token kind.LineEnd 539 540 38 ∷ ts

cut_38 : (ts : List Token) → AreTokens whole_text 540 ts → AreTokens whole_text 536 (line_38 ts)
unfolding run_end is_identifier is_grouped_after number_value magnitude duration_value parts_value entry_of
cut_38 ts h = (record { gap = ([], refl); lexeme = (refl, refl, refl, refl, omega arith); line = refl }, (record { gap = (538 ∷ [], (inl (refl, refl), refl)); lexeme = (refl, refl, refl, refl, omega arith); line = refl }, (record { gap = ([], refl); lexeme = inl (refl, refl); line = refl }, h)))

abbrev line_39 : List Token → List Token
line_39 ts = token kind.Word 540 542 39 ∷ token kind.Word 543 547 39 ∷ token kind.LineEnd 547 548 39 ∷ ts

cut_39 : (ts : List Token) → AreTokens whole_text 548 ts → AreTokens whole_text 540 (line_39 ts)
unfolding run_end is_identifier is_grouped_after number_value magnitude duration_value parts_value entry_of
cut_39 ts h = (record { gap = ([], refl); lexeme = (refl, refl, refl, refl, omega arith); line = refl }, (record { gap = (543 ∷ [], (inl (refl, refl), refl)); lexeme = (refl, refl, refl, refl, omega arith); line = refl }, (record { gap = ([], refl); lexeme = inl (refl, refl); line = refl }, h)))

abbrev line_40 : List Token → List Token
line_40 ts = token kind.Word 548 551 40 ∷ token kind.Word 552 553 40 ∷ token kind.LineEnd 553 554 40 ∷ ts

cut_40 : (ts : List Token) → AreTokens whole_text 554 ts → AreTokens whole_text 548 (line_40 ts)
unfolding run_end is_identifier is_grouped_after number_value magnitude duration_value parts_value entry_of
cut_40 ts h = (record { gap = ([], refl); lexeme = (refl, refl, refl, refl, omega arith); line = refl }, (record { gap = (552 ∷ [], (inl (refl, refl), refl)); lexeme = (refl, refl, refl, refl, omega arith); line = refl }, (record { gap = ([], refl); lexeme = inl (refl, refl); line = refl }, h)))

abbrev line_41 : List Token → List Token
line_41 ts = token kind.Word 554 558 41 ∷ token kind.Word 559 560 41 ∷ token kind.LineEnd 560 561 41 ∷ ts

cut_41 : (ts : List Token) → AreTokens whole_text 561 ts → AreTokens whole_text 554 (line_41 ts)
unfolding run_end is_identifier is_grouped_after number_value magnitude duration_value parts_value entry_of
cut_41 ts h = (record { gap = ([], refl); lexeme = (refl, refl, refl, refl, omega arith); line = refl }, (record { gap = (559 ∷ [], (inl (refl, refl), refl)); lexeme = (refl, refl, refl, refl, omega arith); line = refl }, (record { gap = ([], refl); lexeme = inl (refl, refl); line = refl }, h)))

abbrev line_42 : List Token → List Token
line_42 ts = token (kind.Sign Ampersand) 561 562 42 ∷ token kind.Word 562 563 42 ∷ token kind.Word 564 565 42 ∷ token kind.LineEnd 565 566 42 ∷ ts

cut_42 : (ts : List Token) → AreTokens whole_text 566 ts → AreTokens whole_text 561 (line_42 ts)
unfolding run_end is_identifier is_grouped_after number_value magnitude duration_value parts_value entry_of
cut_42 ts h = (record { gap = ([], refl); lexeme = (refl, refl, refl); line = refl }, (record { gap = ([], refl); lexeme = (refl, refl, refl, refl, omega arith); line = refl }, (record { gap = (564 ∷ [], (inl (refl, refl), refl)); lexeme = (refl, refl, refl, refl, omega arith); line = refl }, (record { gap = ([], refl); lexeme = inl (refl, refl); line = refl }, h))))

abbrev line_43 : List Token → List Token
line_43 ts = token (kind.Sign Ampersand) 566 567 43 ∷ token kind.Word 568 569 43 ∷ token kind.LineEnd 569 570 43 ∷ ts

cut_43 : (ts : List Token) → AreTokens whole_text 570 ts → AreTokens whole_text 566 (line_43 ts)
unfolding run_end is_identifier is_grouped_after number_value magnitude duration_value parts_value entry_of
cut_43 ts h = (record { gap = ([], refl); lexeme = (refl, refl, refl); line = refl }, (record { gap = (568 ∷ [], (inl (refl, refl), refl)); lexeme = (refl, refl, refl, refl, omega arith); line = refl }, (record { gap = ([], refl); lexeme = inl (refl, refl); line = refl }, h)))

abbrev line_44 : List Token → List Token
line_44 ts = token kind.Word 570 572 44 ∷ token kind.Word 573 578 44 ∷ token kind.LineEnd 578 579 44 ∷ ts

cut_44 : (ts : List Token) → AreTokens whole_text 579 ts → AreTokens whole_text 570 (line_44 ts)
unfolding run_end is_identifier is_grouped_after number_value magnitude duration_value parts_value entry_of
cut_44 ts h = (record { gap = ([], refl); lexeme = (refl, refl, refl, refl, omega arith); line = refl }, (record { gap = (573 ∷ [], (inl (refl, refl), refl)); lexeme = (refl, refl, refl, refl, omega arith); line = refl }, (record { gap = ([], refl); lexeme = inl (refl, refl); line = refl }, h)))

abbrev line_45 : List Token → List Token
line_45 ts = token kind.Word 579 582 45 ∷ token kind.Word 583 584 45 ∷ token kind.LineEnd 584 585 45 ∷ ts

cut_45 : (ts : List Token) → AreTokens whole_text 585 ts → AreTokens whole_text 579 (line_45 ts)
unfolding run_end is_identifier is_grouped_after number_value magnitude duration_value parts_value entry_of
cut_45 ts h = (record { gap = ([], refl); lexeme = (refl, refl, refl, refl, omega arith); line = refl }, (record { gap = (583 ∷ [], (inl (refl, refl), refl)); lexeme = (refl, refl, refl, refl, omega arith); line = refl }, (record { gap = ([], refl); lexeme = inl (refl, refl); line = refl }, h)))

abbrev line_46 : List Token → List Token
line_46 ts = token kind.Word 585 588 46 ∷ token kind.Word 589 590 46 ∷ token kind.LineEnd 590 591 46 ∷ ts

cut_46 : (ts : List Token) → AreTokens whole_text 591 ts → AreTokens whole_text 585 (line_46 ts)
unfolding run_end is_identifier is_grouped_after number_value magnitude duration_value parts_value entry_of
cut_46 ts h = (record { gap = ([], refl); lexeme = (refl, refl, refl, refl, omega arith); line = refl }, (record { gap = (589 ∷ [], (inl (refl, refl), refl)); lexeme = (refl, refl, refl, refl, omega arith); line = refl }, (record { gap = ([], refl); lexeme = inl (refl, refl); line = refl }, h)))

abbrev line_47 : List Token → List Token
line_47 ts = token kind.Word 591 595 47 ∷ token kind.Word 596 597 47 ∷ token kind.LineEnd 597 598 47 ∷ ts

cut_47 : (ts : List Token) → AreTokens whole_text 598 ts → AreTokens whole_text 591 (line_47 ts)
unfolding run_end is_identifier is_grouped_after number_value magnitude duration_value parts_value entry_of
cut_47 ts h = (record { gap = ([], refl); lexeme = (refl, refl, refl, refl, omega arith); line = refl }, (record { gap = (596 ∷ [], (inl (refl, refl), refl)); lexeme = (refl, refl, refl, refl, omega arith); line = refl }, (record { gap = ([], refl); lexeme = inl (refl, refl); line = refl }, h)))

abbrev line_48 : List Token → List Token
line_48 ts = token kind.Word 598 601 48 ∷ token kind.LineEnd 601 602 48 ∷ ts

cut_48 : (ts : List Token) → AreTokens whole_text 602 ts → AreTokens whole_text 598 (line_48 ts)
unfolding run_end is_identifier is_grouped_after number_value magnitude duration_value parts_value entry_of
cut_48 ts h = (record { gap = ([], refl); lexeme = (refl, refl, refl, refl, omega arith); line = refl }, (record { gap = ([], refl); lexeme = inl (refl, refl); line = refl }, h))

abbrev line_49 : List Token → List Token
line_49 ts = token kind.Word 602 604 49 ∷ token (kind.Number (pos 2)) 605 606 49 ∷ token kind.LineEnd 606 607 49 ∷ ts

cut_49 : (ts : List Token) → AreTokens whole_text 607 ts → AreTokens whole_text 602 (line_49 ts)
unfolding run_end is_identifier is_grouped_after number_value magnitude duration_value parts_value entry_of
cut_49 ts h = (record { gap = ([], refl); lexeme = (refl, refl, refl, refl, omega arith); line = refl }, (record { gap = (605 ∷ [], (inl (refl, refl), refl)); lexeme = (refl, refl, refl, omega arith); line = refl }, (record { gap = ([], refl); lexeme = inl (refl, refl); line = refl }, h)))

abbrev line_50 : List Token → List Token
line_50 ts = token kind.Word 607 610 50 ∷ token (kind.Number (pos 1)) 611 612 50 ∷ token kind.LineEnd 612 613 50 ∷ ts

cut_50 : (ts : List Token) → AreTokens whole_text 613 ts → AreTokens whole_text 607 (line_50 ts)
unfolding run_end is_identifier is_grouped_after number_value magnitude duration_value parts_value entry_of
cut_50 ts h = (record { gap = ([], refl); lexeme = (refl, refl, refl, refl, omega arith); line = refl }, (record { gap = (611 ∷ [], (inl (refl, refl), refl)); lexeme = (refl, refl, refl, omega arith); line = refl }, (record { gap = ([], refl); lexeme = inl (refl, refl); line = refl }, h)))

abbrev line_51 : List Token → List Token
line_51 ts = token kind.Word 613 616 51 ∷ token (kind.Number (pos 1)) 617 618 51 ∷ token kind.LineEnd 618 619 51 ∷ ts

cut_51 : (ts : List Token) → AreTokens whole_text 619 ts → AreTokens whole_text 613 (line_51 ts)
unfolding run_end is_identifier is_grouped_after number_value magnitude duration_value parts_value entry_of
cut_51 ts h = (record { gap = ([], refl); lexeme = (refl, refl, refl, refl, omega arith); line = refl }, (record { gap = (617 ∷ [], (inl (refl, refl), refl)); lexeme = (refl, refl, refl, omega arith); line = refl }, (record { gap = ([], refl); lexeme = inl (refl, refl); line = refl }, h)))

abbrev line_52 : List Token → List Token
line_52 ts = token kind.Word 619 622 52 ∷ token kind.Word 623 624 52 ∷ token kind.LineEnd 624 625 52 ∷ ts

cut_52 : (ts : List Token) → AreTokens whole_text 625 ts → AreTokens whole_text 619 (line_52 ts)
unfolding run_end is_identifier is_grouped_after number_value magnitude duration_value parts_value entry_of
cut_52 ts h = (record { gap = ([], refl); lexeme = (refl, refl, refl, refl, omega arith); line = refl }, (record { gap = (623 ∷ [], (inl (refl, refl), refl)); lexeme = (refl, refl, refl, refl, omega arith); line = refl }, (record { gap = ([], refl); lexeme = inl (refl, refl); line = refl }, h)))

abbrev line_53 : List Token → List Token
line_53 ts = token kind.Word 625 628 53 ∷ token (kind.Number (pos 2)) 629 630 53 ∷ token kind.LineEnd 630 631 53 ∷ ts

cut_53 : (ts : List Token) → AreTokens whole_text 631 ts → AreTokens whole_text 625 (line_53 ts)
unfolding run_end is_identifier is_grouped_after number_value magnitude duration_value parts_value entry_of
cut_53 ts h = (record { gap = ([], refl); lexeme = (refl, refl, refl, refl, omega arith); line = refl }, (record { gap = (629 ∷ [], (inl (refl, refl), refl)); lexeme = (refl, refl, refl, omega arith); line = refl }, (record { gap = ([], refl); lexeme = inl (refl, refl); line = refl }, h)))

abbrev line_54 : List Token → List Token
line_54 ts = token kind.Word 631 634 54 ∷ token (kind.Number (pos 2)) 635 636 54 ∷ token kind.LineEnd 636 637 54 ∷ ts

cut_54 : (ts : List Token) → AreTokens whole_text 637 ts → AreTokens whole_text 631 (line_54 ts)
unfolding run_end is_identifier is_grouped_after number_value magnitude duration_value parts_value entry_of
cut_54 ts h = (record { gap = ([], refl); lexeme = (refl, refl, refl, refl, omega arith); line = refl }, (record { gap = (635 ∷ [], (inl (refl, refl), refl)); lexeme = (refl, refl, refl, omega arith); line = refl }, (record { gap = ([], refl); lexeme = inl (refl, refl); line = refl }, h)))

abbrev line_55 : List Token → List Token
line_55 ts = token kind.Word 637 639 55 ∷ token (kind.Number (pos 1)) 640 641 55 ∷ token kind.LineEnd 641 642 55 ∷ ts

cut_55 : (ts : List Token) → AreTokens whole_text 642 ts → AreTokens whole_text 637 (line_55 ts)
unfolding run_end is_identifier is_grouped_after number_value magnitude duration_value parts_value entry_of
cut_55 ts h = (record { gap = ([], refl); lexeme = (refl, refl, refl, refl, omega arith); line = refl }, (record { gap = (640 ∷ [], (inl (refl, refl), refl)); lexeme = (refl, refl, refl, omega arith); line = refl }, (record { gap = ([], refl); lexeme = inl (refl, refl); line = refl }, h)))

abbrev line_56 : List Token → List Token
line_56 ts = token kind.Word 642 644 56 ∷ token (kind.Number (pos 2)) 645 646 56 ∷ token kind.LineEnd 646 647 56 ∷ ts

cut_56 : (ts : List Token) → AreTokens whole_text 647 ts → AreTokens whole_text 642 (line_56 ts)
unfolding run_end is_identifier is_grouped_after number_value magnitude duration_value parts_value entry_of
cut_56 ts h = (record { gap = ([], refl); lexeme = (refl, refl, refl, refl, omega arith); line = refl }, (record { gap = (645 ∷ [], (inl (refl, refl), refl)); lexeme = (refl, refl, refl, omega arith); line = refl }, (record { gap = ([], refl); lexeme = inl (refl, refl); line = refl }, h)))

abbrev line_57 : List Token → List Token
line_57 ts = token kind.Word 647 649 57 ∷ token (kind.Number (pos 1)) 650 651 57 ∷ token kind.LineEnd 651 652 57 ∷ ts

cut_57 : (ts : List Token) → AreTokens whole_text 652 ts → AreTokens whole_text 647 (line_57 ts)
unfolding run_end is_identifier is_grouped_after number_value magnitude duration_value parts_value entry_of
cut_57 ts h = (record { gap = ([], refl); lexeme = (refl, refl, refl, refl, omega arith); line = refl }, (record { gap = (650 ∷ [], (inl (refl, refl), refl)); lexeme = (refl, refl, refl, omega arith); line = refl }, (record { gap = ([], refl); lexeme = inl (refl, refl); line = refl }, h)))

abbrev line_58 : List Token → List Token
line_58 ts = token kind.Word 652 654 58 ∷ token (kind.Number (pos 2)) 655 656 58 ∷ token kind.LineEnd 656 657 58 ∷ ts

cut_58 : (ts : List Token) → AreTokens whole_text 657 ts → AreTokens whole_text 652 (line_58 ts)
unfolding run_end is_identifier is_grouped_after number_value magnitude duration_value parts_value entry_of
cut_58 ts h = (record { gap = ([], refl); lexeme = (refl, refl, refl, refl, omega arith); line = refl }, (record { gap = (655 ∷ [], (inl (refl, refl), refl)); lexeme = (refl, refl, refl, omega arith); line = refl }, (record { gap = ([], refl); lexeme = inl (refl, refl); line = refl }, h)))

abbrev line_59 : List Token → List Token
line_59 ts = token kind.Word 657 659 59 ∷ token (kind.Number (pos 1)) 660 661 59 ∷ token kind.LineEnd 661 662 59 ∷ ts

cut_59 : (ts : List Token) → AreTokens whole_text 662 ts → AreTokens whole_text 657 (line_59 ts)
unfolding run_end is_identifier is_grouped_after number_value magnitude duration_value parts_value entry_of
cut_59 ts h = (record { gap = ([], refl); lexeme = (refl, refl, refl, refl, omega arith); line = refl }, (record { gap = (660 ∷ [], (inl (refl, refl), refl)); lexeme = (refl, refl, refl, omega arith); line = refl }, (record { gap = ([], refl); lexeme = inl (refl, refl); line = refl }, h)))

abbrev line_60 : List Token → List Token
line_60 ts = token kind.Word 662 664 60 ∷ token (kind.Number (pos 2)) 665 666 60 ∷ token kind.LineEnd 666 667 60 ∷ ts

cut_60 : (ts : List Token) → AreTokens whole_text 667 ts → AreTokens whole_text 662 (line_60 ts)
unfolding run_end is_identifier is_grouped_after number_value magnitude duration_value parts_value entry_of
cut_60 ts h = (record { gap = ([], refl); lexeme = (refl, refl, refl, refl, omega arith); line = refl }, (record { gap = (665 ∷ [], (inl (refl, refl), refl)); lexeme = (refl, refl, refl, omega arith); line = refl }, (record { gap = ([], refl); lexeme = inl (refl, refl); line = refl }, h)))

abbrev line_61 : List Token → List Token
line_61 ts = token kind.Word 667 669 61 ∷ token (kind.Number (pos 1)) 670 671 61 ∷ token kind.LineEnd 671 672 61 ∷ ts

cut_61 : (ts : List Token) → AreTokens whole_text 672 ts → AreTokens whole_text 667 (line_61 ts)
unfolding run_end is_identifier is_grouped_after number_value magnitude duration_value parts_value entry_of
cut_61 ts h = (record { gap = ([], refl); lexeme = (refl, refl, refl, refl, omega arith); line = refl }, (record { gap = (670 ∷ [], (inl (refl, refl), refl)); lexeme = (refl, refl, refl, omega arith); line = refl }, (record { gap = ([], refl); lexeme = inl (refl, refl); line = refl }, h)))

abbrev line_62 : List Token → List Token
line_62 ts = token kind.Word 672 674 62 ∷ token (kind.Number (pos 2)) 675 676 62 ∷ token kind.LineEnd 676 677 62 ∷ ts

cut_62 : (ts : List Token) → AreTokens whole_text 677 ts → AreTokens whole_text 672 (line_62 ts)
unfolding run_end is_identifier is_grouped_after number_value magnitude duration_value parts_value entry_of
cut_62 ts h = (record { gap = ([], refl); lexeme = (refl, refl, refl, refl, omega arith); line = refl }, (record { gap = (675 ∷ [], (inl (refl, refl), refl)); lexeme = (refl, refl, refl, omega arith); line = refl }, (record { gap = ([], refl); lexeme = inl (refl, refl); line = refl }, h)))

abbrev line_63 : List Token → List Token
line_63 ts = token kind.Word 677 679 63 ∷ token (kind.Number (pos 1)) 680 681 63 ∷ token kind.LineEnd 681 682 63 ∷ ts

cut_63 : (ts : List Token) → AreTokens whole_text 682 ts → AreTokens whole_text 677 (line_63 ts)
unfolding run_end is_identifier is_grouped_after number_value magnitude duration_value parts_value entry_of
cut_63 ts h = (record { gap = ([], refl); lexeme = (refl, refl, refl, refl, omega arith); line = refl }, (record { gap = (680 ∷ [], (inl (refl, refl), refl)); lexeme = (refl, refl, refl, omega arith); line = refl }, (record { gap = ([], refl); lexeme = inl (refl, refl); line = refl }, h)))

abbrev line_64 : List Token → List Token
line_64 ts = token kind.Word 682 684 64 ∷ token (kind.Number (pos 2)) 685 686 64 ∷ token kind.LineEnd 686 687 64 ∷ ts

cut_64 : (ts : List Token) → AreTokens whole_text 687 ts → AreTokens whole_text 682 (line_64 ts)
unfolding run_end is_identifier is_grouped_after number_value magnitude duration_value parts_value entry_of
cut_64 ts h = (record { gap = ([], refl); lexeme = (refl, refl, refl, refl, omega arith); line = refl }, (record { gap = (685 ∷ [], (inl (refl, refl), refl)); lexeme = (refl, refl, refl, omega arith); line = refl }, (record { gap = ([], refl); lexeme = inl (refl, refl); line = refl }, h)))

abbrev line_65 : List Token → List Token
line_65 ts = token kind.Word 687 689 65 ∷ token (kind.Number (pos 1)) 690 691 65 ∷ token kind.LineEnd 691 692 65 ∷ ts

cut_65 : (ts : List Token) → AreTokens whole_text 692 ts → AreTokens whole_text 687 (line_65 ts)
unfolding run_end is_identifier is_grouped_after number_value magnitude duration_value parts_value entry_of
cut_65 ts h = (record { gap = ([], refl); lexeme = (refl, refl, refl, refl, omega arith); line = refl }, (record { gap = (690 ∷ [], (inl (refl, refl), refl)); lexeme = (refl, refl, refl, omega arith); line = refl }, (record { gap = ([], refl); lexeme = inl (refl, refl); line = refl }, h)))

abbrev line_66 : List Token → List Token
line_66 ts = token kind.Word 692 694 66 ∷ token (kind.Number (pos 2)) 695 696 66 ∷ token kind.LineEnd 696 697 66 ∷ ts

cut_66 : (ts : List Token) → AreTokens whole_text 697 ts → AreTokens whole_text 692 (line_66 ts)
unfolding run_end is_identifier is_grouped_after number_value magnitude duration_value parts_value entry_of
cut_66 ts h = (record { gap = ([], refl); lexeme = (refl, refl, refl, refl, omega arith); line = refl }, (record { gap = (695 ∷ [], (inl (refl, refl), refl)); lexeme = (refl, refl, refl, omega arith); line = refl }, (record { gap = ([], refl); lexeme = inl (refl, refl); line = refl }, h)))

abbrev line_67 : List Token → List Token
line_67 ts = token kind.Word 697 700 67 ∷ token (kind.Sign OpenParenthesis) 700 701 67 ∷ token (kind.Number (pos 3)) 702 703 67 ∷ token kind.LineEnd 703 704 67 ∷ ts

cut_67 : (ts : List Token) → AreTokens whole_text 704 ts → AreTokens whole_text 697 (line_67 ts)
unfolding run_end is_identifier is_grouped_after number_value magnitude duration_value parts_value entry_of
cut_67 ts h = (record { gap = ([], refl); lexeme = (refl, refl, refl, refl, omega arith); line = refl }, (record { gap = ([], refl); lexeme = (refl, refl, refl); line = refl }, (record { gap = (702 ∷ [], (inl (refl, refl), refl)); lexeme = (refl, refl, refl, omega arith); line = refl }, (record { gap = ([], refl); lexeme = inl (refl, refl); line = refl }, h))))

abbrev line_68 : List Token → List Token
line_68 ts = token kind.Word 704 707 68 ∷ token (kind.Sign OpenParenthesis) 708 709 68 ∷ token kind.LineEnd 709 710 68 ∷ ts

cut_68 : (ts : List Token) → AreTokens whole_text 710 ts → AreTokens whole_text 704 (line_68 ts)
unfolding run_end is_identifier is_grouped_after number_value magnitude duration_value parts_value entry_of
cut_68 ts h = (record { gap = ([], refl); lexeme = (refl, refl, refl, refl, omega arith); line = refl }, (record { gap = (708 ∷ [], (inl (refl, refl), refl)); lexeme = (refl, refl, refl); line = refl }, (record { gap = ([], refl); lexeme = inl (refl, refl); line = refl }, h)))

abbrev line_69 : List Token → List Token
line_69 ts = token kind.Word 710 712 69 ∷ token (kind.Number (pos 4)) 713 714 69 ∷ token kind.LineEnd 714 715 69 ∷ ts

cut_69 : (ts : List Token) → AreTokens whole_text 715 ts → AreTokens whole_text 710 (line_69 ts)
unfolding run_end is_identifier is_grouped_after number_value magnitude duration_value parts_value entry_of
cut_69 ts h = (record { gap = ([], refl); lexeme = (refl, refl, refl, refl, omega arith); line = refl }, (record { gap = (713 ∷ [], (inl (refl, refl), refl)); lexeme = (refl, refl, refl, omega arith); line = refl }, (record { gap = ([], refl); lexeme = inl (refl, refl); line = refl }, h)))

abbrev line_70 : List Token → List Token
line_70 ts = token (kind.Sign CloseParenthesis) 715 716 70 ∷ token kind.LineEnd 716 717 70 ∷ ts

cut_70 : (ts : List Token) → AreTokens whole_text 717 ts → AreTokens whole_text 715 (line_70 ts)
unfolding run_end is_identifier is_grouped_after number_value magnitude duration_value parts_value entry_of
cut_70 ts h = (record { gap = ([], refl); lexeme = (refl, refl, refl); line = refl }, (record { gap = ([], refl); lexeme = inl (refl, refl); line = refl }, h))

abbrev line_71 : List Token → List Token
line_71 ts = token kind.LineEnd 717 718 71 ∷ ts

cut_71 : (ts : List Token) → AreTokens whole_text 718 ts → AreTokens whole_text 717 (line_71 ts)
unfolding run_end is_identifier is_grouped_after number_value magnitude duration_value parts_value entry_of
cut_71 ts h = (record { gap = ([], refl); lexeme = inl (refl, refl); line = refl }, h)

abbrev line_72 : List Token → List Token
line_72 ts = token (kind.Sign CloseParenthesis) 718 719 72 ∷ token kind.LineEnd 719 720 72 ∷ ts

cut_72 : (ts : List Token) → AreTokens whole_text 720 ts → AreTokens whole_text 718 (line_72 ts)
unfolding run_end is_identifier is_grouped_after number_value magnitude duration_value parts_value entry_of
cut_72 ts h = (record { gap = ([], refl); lexeme = (refl, refl, refl); line = refl }, (record { gap = ([], refl); lexeme = inl (refl, refl); line = refl }, h))

abbrev line_73 : List Token → List Token
line_73 ts = token kind.Word 720 722 73 ∷ token (kind.Number (pos 14)) 723 725 73 ∷ token kind.LineEnd 725 726 73 ∷ ts

cut_73 : (ts : List Token) → AreTokens whole_text 726 ts → AreTokens whole_text 720 (line_73 ts)
unfolding run_end is_identifier is_grouped_after number_value magnitude duration_value parts_value entry_of
cut_73 ts h = (record { gap = ([], refl); lexeme = (refl, refl, refl, refl, omega arith); line = refl }, (record { gap = (723 ∷ [], (inl (refl, refl), refl)); lexeme = (refl, refl, refl, omega arith); line = refl }, (record { gap = ([], refl); lexeme = inl (refl, refl); line = refl }, h)))

abbrev line_74 : List Token → List Token
line_74 ts = token (kind.Sign Ampersand) 726 727 74 ∷ token (kind.Sign OpenParenthesis) 728 729 74 ∷ token kind.Word 729 734 74 ∷ token kind.LineEnd 734 735 74 ∷ ts

cut_74 : (ts : List Token) → AreTokens whole_text 735 ts → AreTokens whole_text 726 (line_74 ts)
unfolding run_end is_identifier is_grouped_after number_value magnitude duration_value parts_value entry_of
cut_74 ts h = (record { gap = ([], refl); lexeme = (refl, refl, refl); line = refl }, (record { gap = (728 ∷ [], (inl (refl, refl), refl)); lexeme = (refl, refl, refl); line = refl }, (record { gap = ([], refl); lexeme = (refl, refl, refl, refl, omega arith); line = refl }, (record { gap = ([], refl); lexeme = inl (refl, refl); line = refl }, h))))

abbrev line_75 : List Token → List Token
line_75 ts = token (kind.Sign CloseParenthesis) 735 736 75 ∷ token kind.LineEnd 736 737 75 ∷ ts

cut_75 : (ts : List Token) → AreTokens whole_text 737 ts → AreTokens whole_text 735 (line_75 ts)
unfolding run_end is_identifier is_grouped_after number_value magnitude duration_value parts_value entry_of
cut_75 ts h = (record { gap = ([], refl); lexeme = (refl, refl, refl); line = refl }, (record { gap = ([], refl); lexeme = inl (refl, refl); line = refl }, h))

abbrev line_76 : List Token → List Token
line_76 ts = token kind.Word 737 740 76 ∷ token kind.Word 741 743 76 ∷ token (kind.Sign OpenParenthesis) 744 745 76 ∷ token kind.Word 745 746 76 ∷ token (kind.Sign Assign) 747 749 76 ∷ token kind.Word 750 751 76 ∷ token (kind.Sign OpenBracket) 751 752 76 ∷ token (kind.Number (pos 1)) 753 754 76 ∷ token (kind.Sign CloseBracket) 755 756 76 ∷ token (kind.Sign Comma) 756 757 76 ∷ token kind.LineEnd 757 758 76 ∷ ts

cut_76 : (ts : List Token) → AreTokens whole_text 758 ts → AreTokens whole_text 737 (line_76 ts)
unfolding run_end is_identifier is_grouped_after number_value magnitude duration_value parts_value entry_of
cut_76 ts h = (record { gap = ([], refl); lexeme = (refl, refl, refl, refl, omega arith); line = refl }, (record { gap = (741 ∷ [], (inl (refl, refl), refl)); lexeme = (refl, refl, refl, refl, omega arith); line = refl }, (record { gap = (744 ∷ [], (inl (refl, refl), refl)); lexeme = (refl, refl, refl); line = refl }, (record { gap = ([], refl); lexeme = (refl, refl, refl, refl, omega arith); line = refl }, (record { gap = (747 ∷ [], (inl (refl, refl), refl)); lexeme = (refl, refl, refl); line = refl }, (record { gap = (750 ∷ [], (inl (refl, refl), refl)); lexeme = (refl, refl, refl, refl, omega arith); line = refl }, (record { gap = ([], refl); lexeme = (refl, refl, refl); line = refl }, (record { gap = (753 ∷ [], (inl (refl, refl), refl)); lexeme = (refl, refl, refl, omega arith); line = refl }, (record { gap = (755 ∷ [], (inl (refl, refl), refl)); lexeme = (refl, refl, refl); line = refl }, (record { gap = ([], refl); lexeme = (refl, refl, refl); line = refl }, (record { gap = ([], refl); lexeme = inl (refl, refl); line = refl }, h)))))))))))

abbrev line_77 : List Token → List Token
line_77 ts = token kind.Word 760 761 77 ∷ token kind.LineEnd 761 762 77 ∷ ts

cut_77 : (ts : List Token) → AreTokens whole_text 762 ts → AreTokens whole_text 758 (line_77 ts)
unfolding run_end is_identifier is_grouped_after number_value magnitude duration_value parts_value entry_of
cut_77 ts h = (record { gap = (759 ∷ 760 ∷ [], (inl (refl, refl), (inl (refl, refl), refl))); lexeme = (refl, refl, refl, refl, omega arith); line = refl }, (record { gap = ([], refl); lexeme = inl (refl, refl); line = refl }, h))

abbrev line_78 : List Token → List Token
line_78 ts = token (kind.Sign Arrow) 764 766 78 ∷ token kind.Word 767 768 78 ∷ token (kind.Sign CloseParenthesis) 768 769 78 ∷ token kind.LineEnd 769 770 78 ∷ ts

cut_78 : (ts : List Token) → AreTokens whole_text 770 ts → AreTokens whole_text 762 (line_78 ts)
unfolding run_end is_identifier is_grouped_after number_value magnitude duration_value parts_value entry_of
cut_78 ts h = (record { gap = (763 ∷ 764 ∷ [], (inl (refl, refl), (inl (refl, refl), refl))); lexeme = (refl, refl, refl); line = refl }, (record { gap = (767 ∷ [], (inl (refl, refl), refl)); lexeme = (refl, refl, refl, refl, omega arith); line = refl }, (record { gap = ([], refl); lexeme = (refl, refl, refl); line = refl }, (record { gap = ([], refl); lexeme = inl (refl, refl); line = refl }, h))))

abbrev line_79 : List Token → List Token
line_79 ts = token kind.Word 770 772 79 ∷ token kind.Word 773 774 79 ∷ token kind.LineEnd 774 775 79 ∷ ts

cut_79 : (ts : List Token) → AreTokens whole_text 775 ts → AreTokens whole_text 770 (line_79 ts)
unfolding run_end is_identifier is_grouped_after number_value magnitude duration_value parts_value entry_of
cut_79 ts h = (record { gap = ([], refl); lexeme = (refl, refl, refl, refl, omega arith); line = refl }, (record { gap = (773 ∷ [], (inl (refl, refl), refl)); lexeme = (refl, refl, refl, refl, omega arith); line = refl }, (record { gap = ([], refl); lexeme = inl (refl, refl); line = refl }, h)))

abbrev line_80 : List Token → List Token
line_80 ts = token kind.Word 775 779 80 ∷ token kind.Word 780 782 80 ∷ token kind.LineEnd 782 783 80 ∷ ts

cut_80 : (ts : List Token) → AreTokens whole_text 783 ts → AreTokens whole_text 775 (line_80 ts)
unfolding run_end is_identifier is_grouped_after number_value magnitude duration_value parts_value entry_of
cut_80 ts h = (record { gap = ([], refl); lexeme = (refl, refl, refl, refl, omega arith); line = refl }, (record { gap = (780 ∷ [], (inl (refl, refl), refl)); lexeme = (refl, refl, refl, refl, omega arith); line = refl }, (record { gap = ([], refl); lexeme = inl (refl, refl); line = refl }, h)))

abbrev line_81 : List Token → List Token
line_81 ts = token kind.Word 783 788 81 ∷ token kind.Word 789 791 81 ∷ token (kind.Sign OpenParenthesis) 792 793 81 ∷ token (kind.Sign CloseParenthesis) 794 795 81 ∷ token kind.LineEnd 795 796 81 ∷ ts

cut_81 : (ts : List Token) → AreTokens whole_text 796 ts → AreTokens whole_text 783 (line_81 ts)
unfolding run_end is_identifier is_grouped_after number_value magnitude duration_value parts_value entry_of
cut_81 ts h = (record { gap = ([], refl); lexeme = (refl, refl, refl, refl, omega arith); line = refl }, (record { gap = (789 ∷ [], (inl (refl, refl), refl)); lexeme = (refl, refl, refl, refl, omega arith); line = refl }, (record { gap = (792 ∷ [], (inl (refl, refl), refl)); lexeme = (refl, refl, refl); line = refl }, (record { gap = (794 ∷ [], (inl (refl, refl), refl)); lexeme = (refl, refl, refl); line = refl }, (record { gap = ([], refl); lexeme = inl (refl, refl); line = refl }, h)))))

abbrev line_82 : List Token → List Token
line_82 ts = token kind.Word 796 798 82 ∷ token (kind.Number (pos 1)) 799 800 82 ∷ token kind.LineEnd 800 801 82 ∷ ts

cut_82 : (ts : List Token) → AreTokens whole_text 801 ts → AreTokens whole_text 796 (line_82 ts)
unfolding run_end is_identifier is_grouped_after number_value magnitude duration_value parts_value entry_of
cut_82 ts h = (record { gap = ([], refl); lexeme = (refl, refl, refl, refl, omega arith); line = refl }, (record { gap = (799 ∷ [], (inl (refl, refl), refl)); lexeme = (refl, refl, refl, omega arith); line = refl }, (record { gap = ([], refl); lexeme = inl (refl, refl); line = refl }, h)))

abbrev line_83 : List Token → List Token
line_83 ts = token kind.Word 801 802 83 ∷ token kind.Word 803 804 83 ∷ token kind.LineEnd 804 805 83 ∷ ts

cut_83 : (ts : List Token) → AreTokens whole_text 805 ts → AreTokens whole_text 801 (line_83 ts)
unfolding run_end is_identifier is_grouped_after number_value magnitude duration_value parts_value entry_of
cut_83 ts h = (record { gap = ([], refl); lexeme = (refl, refl, refl, refl, omega arith); line = refl }, (record { gap = (803 ∷ [], (inl (refl, refl), refl)); lexeme = (refl, refl, refl, refl, omega arith); line = refl }, (record { gap = ([], refl); lexeme = inl (refl, refl); line = refl }, h)))

abbrev line_84 : List Token → List Token
line_84 ts = token kind.Word 805 810 84 ∷ token kind.Word 811 812 84 ∷ token (kind.Sign OpenBracket) 812 813 84 ∷ token kind.Word 813 814 84 ∷ token (kind.Sign CloseBracket) 814 815 84 ∷ token (kind.Sign Comma) 815 816 84 ∷ token (kind.Number (pos 9)) 817 818 84 ∷ token kind.LineEnd 818 819 84 ∷ ts

cut_84 : (ts : List Token) → AreTokens whole_text 819 ts → AreTokens whole_text 805 (line_84 ts)
unfolding run_end is_identifier is_grouped_after number_value magnitude duration_value parts_value entry_of
cut_84 ts h = (record { gap = ([], refl); lexeme = (refl, refl, refl, refl, omega arith); line = refl }, (record { gap = (811 ∷ [], (inl (refl, refl), refl)); lexeme = (refl, refl, refl, refl, omega arith); line = refl }, (record { gap = ([], refl); lexeme = (refl, refl, refl); line = refl }, (record { gap = ([], refl); lexeme = (refl, refl, refl, refl, omega arith); line = refl }, (record { gap = ([], refl); lexeme = (refl, refl, refl); line = refl }, (record { gap = ([], refl); lexeme = (refl, refl, refl); line = refl }, (record { gap = (817 ∷ [], (inl (refl, refl), refl)); lexeme = (refl, refl, refl, omega arith); line = refl }, (record { gap = ([], refl); lexeme = inl (refl, refl); line = refl }, h))))))))

abbrev line_85 : List Token → List Token
line_85 ts = token kind.Word 819 822 85 ∷ token kind.LineEnd 822 823 85 ∷ ts

cut_85 : (ts : List Token) → AreTokens whole_text 823 ts → AreTokens whole_text 819 (line_85 ts)
unfolding run_end is_identifier is_grouped_after number_value magnitude duration_value parts_value entry_of
cut_85 ts h = (record { gap = ([], refl); lexeme = (refl, refl, refl, refl, omega arith); line = refl }, (record { gap = ([], refl); lexeme = inl (refl, refl); line = refl }, h))

abbrev line_86 : List Token → List Token
line_86 ts = token kind.Word 823 827 86 ∷ token kind.LineEnd 827 828 86 ∷ ts

cut_86 : (ts : List Token) → AreTokens whole_text 828 ts → AreTokens whole_text 823 (line_86 ts)
unfolding run_end is_identifier is_grouped_after number_value magnitude duration_value parts_value entry_of
cut_86 ts h = (record { gap = ([], refl); lexeme = (refl, refl, refl, refl, omega arith); line = refl }, (record { gap = ([], refl); lexeme = inl (refl, refl); line = refl }, h))

abbrev line_87 : List Token → List Token
line_87 ts = token kind.Word 828 833 87 ∷ token kind.LineEnd 833 834 87 ∷ ts

cut_87 : (ts : List Token) → AreTokens whole_text 834 ts → AreTokens whole_text 828 (line_87 ts)
unfolding run_end is_identifier is_grouped_after number_value magnitude duration_value parts_value entry_of
cut_87 ts h = (record { gap = ([], refl); lexeme = (refl, refl, refl, refl, omega arith); line = refl }, (record { gap = ([], refl); lexeme = inl (refl, refl); line = refl }, h))

abbrev line_88 : List Token → List Token
line_88 ts = token kind.Word 834 837 88 ∷ token kind.LineEnd 837 838 88 ∷ ts

cut_88 : (ts : List Token) → AreTokens whole_text 838 ts → AreTokens whole_text 834 (line_88 ts)
unfolding run_end is_identifier is_grouped_after number_value magnitude duration_value parts_value entry_of
cut_88 ts h = (record { gap = ([], refl); lexeme = (refl, refl, refl, refl, omega arith); line = refl }, (record { gap = ([], refl); lexeme = inl (refl, refl); line = refl }, h))

abbrev line_89 : List Token → List Token
line_89 ts = token kind.Word 838 839 89 ∷ token (kind.Sign Colon) 839 840 89 ∷ token kind.LineEnd 840 841 89 ∷ ts

cut_89 : (ts : List Token) → AreTokens whole_text 841 ts → AreTokens whole_text 838 (line_89 ts)
unfolding run_end is_identifier is_grouped_after number_value magnitude duration_value parts_value entry_of
cut_89 ts h = (record { gap = ([], refl); lexeme = (refl, refl, refl, refl, omega arith); line = refl }, (record { gap = ([], refl); lexeme = (refl, refl, refl); line = refl }, (record { gap = ([], refl); lexeme = inl (refl, refl); line = refl }, h)))

abbrev line_90 : List Token → List Token
line_90 ts = token kind.Word 841 843 90 ∷ token (kind.Sign Colon) 843 844 90 ∷ token kind.LineEnd 844 845 90 ∷ ts

cut_90 : (ts : List Token) → AreTokens whole_text 845 ts → AreTokens whole_text 841 (line_90 ts)
unfolding run_end is_identifier is_grouped_after number_value magnitude duration_value parts_value entry_of
cut_90 ts h = (record { gap = ([], refl); lexeme = (refl, refl, refl, refl, omega arith); line = refl }, (record { gap = ([], refl); lexeme = (refl, refl, refl); line = refl }, (record { gap = ([], refl); lexeme = inl (refl, refl); line = refl }, h)))

abbrev line_91 : List Token → List Token
line_91 ts = token kind.LineEnd 845 846 91 ∷ ts

cut_91 : (ts : List Token) → AreTokens whole_text 846 ts → AreTokens whole_text 845 (line_91 ts)
unfolding run_end is_identifier is_grouped_after number_value magnitude duration_value parts_value entry_of
cut_91 ts h = (record { gap = ([], refl); lexeme = inl (refl, refl); line = refl }, h)

abbrev line_92 : List Token → List Token
line_92 ts = token kind.Word 846 857 92 ∷ token kind.LineEnd 857 858 92 ∷ ts

cut_92 : (ts : List Token) → AreTokens whole_text 858 ts → AreTokens whole_text 846 (line_92 ts)
unfolding run_end is_identifier is_grouped_after number_value magnitude duration_value parts_value entry_of
cut_92 ts h = (record { gap = ([], refl); lexeme = (refl, refl, refl, refl, omega arith); line = refl }, (record { gap = ([], refl); lexeme = inl (refl, refl); line = refl }, h))

abbrev line_93 : List Token → List Token
line_93 ts = token kind.Word 858 865 93 ∷ token kind.Word 866 867 93 ∷ token kind.LineEnd 867 868 93 ∷ ts

cut_93 : (ts : List Token) → AreTokens whole_text 868 ts → AreTokens whole_text 858 (line_93 ts)
unfolding run_end is_identifier is_grouped_after number_value magnitude duration_value parts_value entry_of
cut_93 ts h = (record { gap = ([], refl); lexeme = (refl, refl, refl, refl, omega arith); line = refl }, (record { gap = (866 ∷ [], (inl (refl, refl), refl)); lexeme = (refl, refl, refl, refl, omega arith); line = refl }, (record { gap = ([], refl); lexeme = inl (refl, refl); line = refl }, h)))

abbrev line_94 : List Token → List Token
line_94 ts = token kind.Word 868 871 94 ∷ token kind.Word 872 879 94 ∷ token kind.LineEnd 879 880 94 ∷ ts

cut_94 : (ts : List Token) → AreTokens whole_text 880 ts → AreTokens whole_text 868 (line_94 ts)
unfolding run_end is_identifier is_grouped_after number_value magnitude duration_value parts_value entry_of
cut_94 ts h = (record { gap = ([], refl); lexeme = (refl, refl, refl, refl, omega arith); line = refl }, (record { gap = (872 ∷ [], (inl (refl, refl), refl)); lexeme = (refl, refl, refl, refl, omega arith); line = refl }, (record { gap = ([], refl); lexeme = inl (refl, refl); line = refl }, h)))

abbrev line_95 : List Token → List Token
line_95 ts = token kind.Word 880 891 95 ∷ token kind.LineEnd 891 892 95 ∷ ts

cut_95 : (ts : List Token) → AreTokens whole_text 892 ts → AreTokens whole_text 880 (line_95 ts)
unfolding run_end is_identifier is_grouped_after number_value magnitude duration_value parts_value entry_of
cut_95 ts h = (record { gap = ([], refl); lexeme = (refl, refl, refl, refl, omega arith); line = refl }, (record { gap = ([], refl); lexeme = inl (refl, refl); line = refl }, h))

abbrev line_96 : List Token → List Token
line_96 ts = token kind.Word 892 905 96 ∷ token kind.Word 906 907 96 ∷ token kind.LineEnd 907 908 96 ∷ ts

cut_96 : (ts : List Token) → AreTokens whole_text 908 ts → AreTokens whole_text 892 (line_96 ts)
unfolding run_end is_identifier is_grouped_after number_value magnitude duration_value parts_value entry_of
cut_96 ts h = (record { gap = ([], refl); lexeme = (refl, refl, refl, refl, omega arith); line = refl }, (record { gap = (906 ∷ [], (inl (refl, refl), refl)); lexeme = (refl, refl, refl, refl, omega arith); line = refl }, (record { gap = ([], refl); lexeme = inl (refl, refl); line = refl }, h)))

abbrev line_97 : List Token → List Token
line_97 ts = token kind.Word 908 918 97 ∷ token kind.Word 919 927 97 ∷ token kind.Word 928 932 97 ∷ token (kind.Sign Colon) 933 934 97 ∷ token kind.Word 935 938 97 ∷ token (kind.Sign Assign) 939 941 97 ∷ token (kind.Number (pos 2)) 942 943 97 ∷ token (kind.Sign Semicolon) 943 944 97 ∷ token kind.Word 945 951 97 ∷ token (kind.Sign Colon) 952 953 97 ∷ token kind.Word 954 957 97 ∷ token (kind.Sign Assign) 958 960 97 ∷ token (kind.Number (pos 2)) 961 962 97 ∷ token (kind.Sign Semicolon) 962 963 97 ∷ token kind.Word 964 969 97 ∷ token (kind.Sign Colon) 970 971 97 ∷ token kind.Word 972 975 97 ∷ token (kind.Sign Assign) 976 978 97 ∷ token (kind.Number (pos 10)) 979 982 97 ∷ token (kind.Sign Semicolon) 982 983 97 ∷ token kind.Word 984 991 97 ∷ token kind.LineEnd 991 992 97 ∷ ts

cut_97 : (ts : List Token) → AreTokens whole_text 992 ts → AreTokens whole_text 908 (line_97 ts)
unfolding run_end is_identifier is_grouped_after number_value magnitude duration_value parts_value entry_of
cut_97 ts h = (record { gap = ([], refl); lexeme = (refl, refl, refl, refl, omega arith); line = refl }, (record { gap = (919 ∷ [], (inl (refl, refl), refl)); lexeme = (refl, refl, refl, refl, omega arith); line = refl }, (record { gap = (928 ∷ [], (inl (refl, refl), refl)); lexeme = (refl, refl, refl, refl, omega arith); line = refl }, (record { gap = (933 ∷ [], (inl (refl, refl), refl)); lexeme = (refl, refl, refl); line = refl }, (record { gap = (935 ∷ [], (inl (refl, refl), refl)); lexeme = (refl, refl, refl, refl, omega arith); line = refl }, (record { gap = (939 ∷ [], (inl (refl, refl), refl)); lexeme = (refl, refl, refl); line = refl }, (record { gap = (942 ∷ [], (inl (refl, refl), refl)); lexeme = (refl, refl, refl, omega arith); line = refl }, (record { gap = ([], refl); lexeme = (refl, refl, refl); line = refl }, (record { gap = (945 ∷ [], (inl (refl, refl), refl)); lexeme = (refl, refl, refl, refl, omega arith); line = refl }, (record { gap = (952 ∷ [], (inl (refl, refl), refl)); lexeme = (refl, refl, refl); line = refl }, (record { gap = (954 ∷ [], (inl (refl, refl), refl)); lexeme = (refl, refl, refl, refl, omega arith); line = refl }, (record { gap = (958 ∷ [], (inl (refl, refl), refl)); lexeme = (refl, refl, refl); line = refl }, (record { gap = (961 ∷ [], (inl (refl, refl), refl)); lexeme = (refl, refl, refl, omega arith); line = refl }, (record { gap = ([], refl); lexeme = (refl, refl, refl); line = refl }, (record { gap = (964 ∷ [], (inl (refl, refl), refl)); lexeme = (refl, refl, refl, refl, omega arith); line = refl }, (record { gap = (970 ∷ [], (inl (refl, refl), refl)); lexeme = (refl, refl, refl); line = refl }, (record { gap = (972 ∷ [], (inl (refl, refl), refl)); lexeme = (refl, refl, refl, refl, omega arith); line = refl }, (record { gap = (976 ∷ [], (inl (refl, refl), refl)); lexeme = (refl, refl, refl); line = refl }, (record { gap = (979 ∷ [], (inl (refl, refl), refl)); lexeme = (refl, refl, refl, omega arith); line = refl }, (record { gap = ([], refl); lexeme = (refl, refl, refl); line = refl }, (record { gap = (984 ∷ [], (inl (refl, refl), refl)); lexeme = (refl, refl, refl, refl, omega arith); line = refl }, (record { gap = ([], refl); lexeme = inl (refl, refl); line = refl }, h))))))))))))))))))))))

abbrev line_98 : List Token → List Token
line_98 ts = token kind.Word 992 1002 98 ∷ token kind.Word 1003 1004 98 ∷ token (kind.Sign Colon) 1005 1006 98 ∷ token kind.Word 1007 1011 98 ∷ token (kind.Sign Semicolon) 1011 1012 98 ∷ token kind.Word 1013 1014 98 ∷ token (kind.Sign Colon) 1015 1016 98 ∷ token kind.Word 1017 1021 98 ∷ token (kind.Sign Semicolon) 1021 1022 98 ∷ token kind.LineEnd 1022 1023 98 ∷ ts

cut_98 : (ts : List Token) → AreTokens whole_text 1023 ts → AreTokens whole_text 992 (line_98 ts)
unfolding run_end is_identifier is_grouped_after number_value magnitude duration_value parts_value entry_of
cut_98 ts h = (record { gap = ([], refl); lexeme = (refl, refl, refl, refl, omega arith); line = refl }, (record { gap = (1003 ∷ [], (inl (refl, refl), refl)); lexeme = (refl, refl, refl, refl, omega arith); line = refl }, (record { gap = (1005 ∷ [], (inl (refl, refl), refl)); lexeme = (refl, refl, refl); line = refl }, (record { gap = (1007 ∷ [], (inl (refl, refl), refl)); lexeme = (refl, refl, refl, refl, omega arith); line = refl }, (record { gap = ([], refl); lexeme = (refl, refl, refl); line = refl }, (record { gap = (1013 ∷ [], (inl (refl, refl), refl)); lexeme = (refl, refl, refl, refl, omega arith); line = refl }, (record { gap = (1015 ∷ [], (inl (refl, refl), refl)); lexeme = (refl, refl, refl); line = refl }, (record { gap = (1017 ∷ [], (inl (refl, refl), refl)); lexeme = (refl, refl, refl, refl, omega arith); line = refl }, (record { gap = ([], refl); lexeme = (refl, refl, refl); line = refl }, (record { gap = ([], refl); lexeme = inl (refl, refl); line = refl }, h))))))))))

abbrev line_99 : List Token → List Token
line_99 ts = token kind.Word 1023 1030 99 ∷ token kind.Word 1031 1039 99 ∷ token kind.Word 1040 1041 99 ∷ token kind.Word 1042 1044 99 ∷ token kind.Word 1045 1048 99 ∷ token kind.LineEnd 1048 1049 99 ∷ ts

cut_99 : (ts : List Token) → AreTokens whole_text 1049 ts → AreTokens whole_text 1023 (line_99 ts)
unfolding run_end is_identifier is_grouped_after number_value magnitude duration_value parts_value entry_of
cut_99 ts h = (record { gap = ([], refl); lexeme = (refl, refl, refl, refl, omega arith); line = refl }, (record { gap = (1031 ∷ [], (inl (refl, refl), refl)); lexeme = (refl, refl, refl, refl, omega arith); line = refl }, (record { gap = (1040 ∷ [], (inl (refl, refl), refl)); lexeme = (refl, refl, refl, refl, omega arith); line = refl }, (record { gap = (1042 ∷ [], (inl (refl, refl), refl)); lexeme = (refl, refl, refl, refl, omega arith); line = refl }, (record { gap = (1045 ∷ [], (inl (refl, refl), refl)); lexeme = (refl, refl, refl, refl, omega arith); line = refl }, (record { gap = ([], refl); lexeme = inl (refl, refl); line = refl }, h))))))

abbrev line_100 : List Token → List Token
line_100 ts = token kind.Word 1049 1053 100 ∷ token kind.Word 1054 1058 100 ∷ token (kind.Sign OpenParenthesis) 1059 1060 100 ∷ token kind.Word 1060 1068 100 ∷ token (kind.Sign Assign) 1069 1071 100 ∷ token (kind.Typed (literal.Time (pos 100))) 1072 1079 100 ∷ token (kind.Sign Comma) 1079 1080 100 ∷ token kind.Word 1081 1089 100 ∷ token (kind.Sign Assign) 1090 1092 100 ∷ token (kind.Number (pos 1)) 1093 1094 100 ∷ token (kind.Sign CloseParenthesis) 1094 1095 100 ∷ token (kind.Sign Semicolon) 1095 1096 100 ∷ token kind.LineEnd 1096 1097 100 ∷ ts

cut_100 : (ts : List Token) → AreTokens whole_text 1097 ts → AreTokens whole_text 1049 (line_100 ts)
unfolding run_end is_identifier is_grouped_after number_value magnitude duration_value parts_value entry_of
cut_100 ts h = (record { gap = ([], refl); lexeme = (refl, refl, refl, refl, omega arith); line = refl }, (record { gap = (1054 ∷ [], (inl (refl, refl), refl)); lexeme = (refl, refl, refl, refl, omega arith); line = refl }, (record { gap = (1059 ∷ [], (inl (refl, refl), refl)); lexeme = (refl, refl, refl); line = refl }, (record { gap = ([], refl); lexeme = (refl, refl, refl, refl, omega arith); line = refl }, (record { gap = (1069 ∷ [], (inl (refl, refl), refl)); lexeme = (refl, refl, refl); line = refl }, (record { gap = (1072 ∷ [], (inl (refl, refl), refl)); lexeme = (1073, refl, refl, refl, refl, (refl, refl, (le_z_yes tt, le_z_yes tt))); line = refl }, (record { gap = ([], refl); lexeme = (refl, refl, refl); line = refl }, (record { gap = (1081 ∷ [], (inl (refl, refl), refl)); lexeme = (refl, refl, refl, refl, omega arith); line = refl }, (record { gap = (1090 ∷ [], (inl (refl, refl), refl)); lexeme = (refl, refl, refl); line = refl }, (record { gap = (1093 ∷ [], (inl (refl, refl), refl)); lexeme = (refl, refl, refl, omega arith); line = refl }, (record { gap = ([], refl); lexeme = (refl, refl, refl); line = refl }, (record { gap = ([], refl); lexeme = (refl, refl, refl); line = refl }, (record { gap = ([], refl); lexeme = inl (refl, refl); line = refl }, h)))))))))))))

abbrev line_101 : List Token → List Token
line_101 ts = token kind.Word 1097 1101 101 ∷ token kind.Word 1102 1106 101 ∷ token (kind.Sign OpenParenthesis) 1107 1108 101 ∷ token kind.Word 1108 1116 101 ∷ token (kind.Sign Assign) 1117 1119 101 ∷ token (kind.Typed (literal.Time (pos 1500))) 1120 1132 101 ∷ token (kind.Sign Comma) 1132 1133 101 ∷ token kind.Word 1134 1142 101 ∷ token (kind.Sign Assign) 1143 1145 101 ∷ token (kind.Number (pos 2)) 1146 1147 101 ∷ token (kind.Sign CloseParenthesis) 1147 1148 101 ∷ token (kind.Sign Semicolon) 1148 1149 101 ∷ token kind.LineEnd 1149 1150 101 ∷ ts

cut_101 : (ts : List Token) → AreTokens whole_text 1150 ts → AreTokens whole_text 1097 (line_101 ts)
unfolding run_end is_identifier is_grouped_after number_value magnitude duration_value parts_value entry_of
cut_101 ts h = (record { gap = ([], refl); lexeme = (refl, refl, refl, refl, omega arith); line = refl }, (record { gap = (1102 ∷ [], (inl (refl, refl), refl)); lexeme = (refl, refl, refl, refl, omega arith); line = refl }, (record { gap = (1107 ∷ [], (inl (refl, refl), refl)); lexeme = (refl, refl, refl); line = refl }, (record { gap = ([], refl); lexeme = (refl, refl, refl, refl, omega arith); line = refl }, (record { gap = (1117 ∷ [], (inl (refl, refl), refl)); lexeme = (refl, refl, refl); line = refl }, (record { gap = (1120 ∷ [], (inl (refl, refl), refl)); lexeme = (1124, refl, refl, refl, refl, (refl, refl, (le_z_yes tt, le_z_yes tt))); line = refl }, (record { gap = ([], refl); lexeme = (refl, refl, refl); line = refl }, (record { gap = (1134 ∷ [], (inl (refl, refl), refl)); lexeme = (refl, refl, refl, refl, omega arith); line = refl }, (record { gap = (1143 ∷ [], (inl (refl, refl), refl)); lexeme = (refl, refl, refl); line = refl }, (record { gap = (1146 ∷ [], (inl (refl, refl), refl)); lexeme = (refl, refl, refl, omega arith); line = refl }, (record { gap = ([], refl); lexeme = (refl, refl, refl); line = refl }, (record { gap = ([], refl); lexeme = (refl, refl, refl); line = refl }, (record { gap = ([], refl); lexeme = inl (refl, refl); line = refl }, h)))))))))))))

abbrev line_102 : List Token → List Token
line_102 ts = token kind.Word 1150 1154 102 ∷ token kind.Word 1155 1160 102 ∷ token (kind.Sign OpenParenthesis) 1161 1162 102 ∷ token kind.Word 1162 1170 102 ∷ token (kind.Sign Assign) 1171 1173 102 ∷ token (kind.Typed (literal.Time (pos 60000))) 1174 1178 102 ∷ token (kind.Sign Comma) 1178 1179 102 ∷ token kind.Word 1180 1188 102 ∷ token (kind.Sign Assign) 1189 1191 102 ∷ token (kind.Number (pos 3)) 1192 1193 102 ∷ token (kind.Sign CloseParenthesis) 1193 1194 102 ∷ token (kind.Sign Semicolon) 1194 1195 102 ∷ token kind.LineEnd 1195 1196 102 ∷ ts

cut_102 : (ts : List Token) → AreTokens whole_text 1196 ts → AreTokens whole_text 1150 (line_102 ts)
unfolding run_end is_identifier is_grouped_after number_value magnitude duration_value parts_value entry_of
cut_102 ts h = (record { gap = ([], refl); lexeme = (refl, refl, refl, refl, omega arith); line = refl }, (record { gap = (1155 ∷ [], (inl (refl, refl), refl)); lexeme = (refl, refl, refl, refl, omega arith); line = refl }, (record { gap = (1161 ∷ [], (inl (refl, refl), refl)); lexeme = (refl, refl, refl); line = refl }, (record { gap = ([], refl); lexeme = (refl, refl, refl, refl, omega arith); line = refl }, (record { gap = (1171 ∷ [], (inl (refl, refl), refl)); lexeme = (refl, refl, refl); line = refl }, (record { gap = (1174 ∷ [], (inl (refl, refl), refl)); lexeme = (1175, refl, refl, refl, refl, (refl, refl, (le_z_yes tt, le_z_yes tt))); line = refl }, (record { gap = ([], refl); lexeme = (refl, refl, refl); line = refl }, (record { gap = (1180 ∷ [], (inl (refl, refl), refl)); lexeme = (refl, refl, refl, refl, omega arith); line = refl }, (record { gap = (1189 ∷ [], (inl (refl, refl), refl)); lexeme = (refl, refl, refl); line = refl }, (record { gap = (1192 ∷ [], (inl (refl, refl), refl)); lexeme = (refl, refl, refl, omega arith); line = refl }, (record { gap = ([], refl); lexeme = (refl, refl, refl); line = refl }, (record { gap = ([], refl); lexeme = (refl, refl, refl); line = refl }, (record { gap = ([], refl); lexeme = inl (refl, refl); line = refl }, h)))))))))))))

abbrev line_103 : List Token → List Token
line_103 ts = token kind.Word 1196 1203 103 ∷ token kind.Word 1204 1206 103 ∷ token kind.Word 1207 1211 103 ∷ token kind.Word 1212 1216 103 ∷ token (kind.Sign Colon) 1217 1218 103 ∷ token kind.Word 1219 1220 103 ∷ token (kind.Sign Semicolon) 1220 1221 103 ∷ token kind.LineEnd 1221 1222 103 ∷ ts

cut_103 : (ts : List Token) → AreTokens whole_text 1222 ts → AreTokens whole_text 1196 (line_103 ts)
unfolding run_end is_identifier is_grouped_after number_value magnitude duration_value parts_value entry_of
cut_103 ts h = (record { gap = ([], refl); lexeme = (refl, refl, refl, refl, omega arith); line = refl }, (record { gap = (1204 ∷ [], (inl (refl, refl), refl)); lexeme = (refl, refl, refl, refl, omega arith); line = refl }, (record { gap = (1207 ∷ [], (inl (refl, refl), refl)); lexeme = (refl, refl, refl, refl, omega arith); line = refl }, (record { gap = (1212 ∷ [], (inl (refl, refl), refl)); lexeme = (refl, refl, refl, refl, omega arith); line = refl }, (record { gap = (1217 ∷ [], (inl (refl, refl), refl)); lexeme = (refl, refl, refl); line = refl }, (record { gap = (1219 ∷ [], (inl (refl, refl), refl)); lexeme = (refl, refl, refl, refl, omega arith); line = refl }, (record { gap = ([], refl); lexeme = (refl, refl, refl); line = refl }, (record { gap = ([], refl); lexeme = inl (refl, refl); line = refl }, h))))))))

abbrev line_104 : List Token → List Token
line_104 ts = token kind.Word 1222 1229 104 ∷ token kind.Word 1230 1232 104 ∷ token kind.Word 1233 1237 104 ∷ token kind.Word 1238 1242 104 ∷ token (kind.Sign Colon) 1243 1244 104 ∷ token kind.Word 1245 1246 104 ∷ token (kind.Sign Semicolon) 1246 1247 104 ∷ token kind.LineEnd 1247 1248 104 ∷ ts

cut_104 : (ts : List Token) → AreTokens whole_text 1248 ts → AreTokens whole_text 1222 (line_104 ts)
unfolding run_end is_identifier is_grouped_after number_value magnitude duration_value parts_value entry_of
cut_104 ts h = (record { gap = ([], refl); lexeme = (refl, refl, refl, refl, omega arith); line = refl }, (record { gap = (1230 ∷ [], (inl (refl, refl), refl)); lexeme = (refl, refl, refl, refl, omega arith); line = refl }, (record { gap = (1233 ∷ [], (inl (refl, refl), refl)); lexeme = (refl, refl, refl, refl, omega arith); line = refl }, (record { gap = (1238 ∷ [], (inl (refl, refl), refl)); lexeme = (refl, refl, refl, refl, omega arith); line = refl }, (record { gap = (1243 ∷ [], (inl (refl, refl), refl)); lexeme = (refl, refl, refl); line = refl }, (record { gap = (1245 ∷ [], (inl (refl, refl), refl)); lexeme = (refl, refl, refl, refl, omega arith); line = refl }, (record { gap = ([], refl); lexeme = (refl, refl, refl); line = refl }, (record { gap = ([], refl); lexeme = inl (refl, refl); line = refl }, h))))))))

abbrev line_105 : List Token → List Token
line_105 ts = token kind.Word 1248 1255 105 ∷ token kind.Word 1256 1258 105 ∷ token kind.Word 1259 1263 105 ∷ token kind.Word 1264 1269 105 ∷ token (kind.Sign Colon) 1270 1271 105 ∷ token kind.Word 1272 1273 105 ∷ token (kind.Sign Semicolon) 1273 1274 105 ∷ token kind.LineEnd 1274 1275 105 ∷ ts

cut_105 : (ts : List Token) → AreTokens whole_text 1275 ts → AreTokens whole_text 1248 (line_105 ts)
unfolding run_end is_identifier is_grouped_after number_value magnitude duration_value parts_value entry_of
cut_105 ts h = (record { gap = ([], refl); lexeme = (refl, refl, refl, refl, omega arith); line = refl }, (record { gap = (1256 ∷ [], (inl (refl, refl), refl)); lexeme = (refl, refl, refl, refl, omega arith); line = refl }, (record { gap = (1259 ∷ [], (inl (refl, refl), refl)); lexeme = (refl, refl, refl, refl, omega arith); line = refl }, (record { gap = (1264 ∷ [], (inl (refl, refl), refl)); lexeme = (refl, refl, refl, refl, omega arith); line = refl }, (record { gap = (1270 ∷ [], (inl (refl, refl), refl)); lexeme = (refl, refl, refl); line = refl }, (record { gap = (1272 ∷ [], (inl (refl, refl), refl)); lexeme = (refl, refl, refl, refl, omega arith); line = refl }, (record { gap = ([], refl); lexeme = (refl, refl, refl); line = refl }, (record { gap = ([], refl); lexeme = inl (refl, refl); line = refl }, h))))))))

abbrev line_106 : List Token → List Token
line_106 ts = token kind.Word 1275 1287 106 ∷ token kind.LineEnd 1287 1288 106 ∷ ts

cut_106 : (ts : List Token) → AreTokens whole_text 1288 ts → AreTokens whole_text 1275 (line_106 ts)
unfolding run_end is_identifier is_grouped_after number_value magnitude duration_value parts_value entry_of
cut_106 ts h = (record { gap = ([], refl); lexeme = (refl, refl, refl, refl, omega arith); line = refl }, (record { gap = ([], refl); lexeme = inl (refl, refl); line = refl }, h))

abbrev line_107 : List Token → List Token
line_107 ts = token kind.Word 1288 1305 107 ∷ token kind.LineEnd 1305 1306 107 ∷ ts

cut_107 : (ts : List Token) → AreTokens whole_text 1306 ts → AreTokens whole_text 1288 (line_107 ts)
unfolding run_end is_identifier is_grouped_after number_value magnitude duration_value parts_value entry_of
cut_107 ts h = (record { gap = ([], refl); lexeme = (refl, refl, refl, refl, omega arith); line = refl }, (record { gap = ([], refl); lexeme = inl (refl, refl); line = refl }, h))

-- all of them
abbrev pub whole_tokens : List Token
whole_tokens = line_1 (line_2 (line_3 (line_4 (line_5 (line_6 (line_7 (line_8 (line_9 (line_10 (line_11 (line_12 (line_13 (line_14 (line_15 (line_16 (line_17 (line_18 (line_19 (line_20 (line_21 (line_22 (line_23 (line_24 (line_25 (line_26 (line_27 (line_28 (line_29 (line_30 (line_31 (line_32 (line_33 (line_34 (line_35 (line_36 (line_37 (line_38 (line_39 (line_40 (line_41 (line_42 (line_43 (line_44 (line_45 (line_46 (line_47 (line_48 (line_49 (line_50 (line_51 (line_52 (line_53 (line_54 (line_55 (line_56 (line_57 (line_58 (line_59 (line_60 (line_61 (line_62 (line_63 (line_64 (line_65 (line_66 (line_67 (line_68 (line_69 (line_70 (line_71 (line_72 (line_73 (line_74 (line_75 (line_76 (line_77 (line_78 (line_79 (line_80 (line_81 (line_82 (line_83 (line_84 (line_85 (line_86 (line_87 (line_88 (line_89 (line_90 (line_91 (line_92 (line_93 (line_94 (line_95 (line_96 (line_97 (line_98 (line_99 (line_100 (line_101 (line_102 (line_103 (line_104 (line_105 (line_106 (line_107 []))))))))))))))))))))))))))))))))))))))))))))))))))))))))))))))))))))))))))))))))))))))))))))))))))))))))))

-- those from one on
abbrev pub from : ℕ → List Token
from k = drop k whole_tokens

-- the text is cut into them
pub whole_cut : AreTokens whole_text 0 whole_tokens
whole_cut = cut_1 (drop 1 whole_tokens) (cut_2 (drop 11 whole_tokens) (cut_3 (drop 27 whole_tokens) (cut_4 (drop 42 whole_tokens) (cut_5 (drop 45 whole_tokens) (cut_6 (drop 48 whole_tokens) (cut_7 (drop 51 whole_tokens) (cut_8 (drop 53 whole_tokens) (cut_9 (drop 56 whole_tokens) (cut_10 (drop 71 whole_tokens) (cut_11 (drop 82 whole_tokens) (cut_12 (drop 85 whole_tokens) (cut_13 (drop 88 whole_tokens) (cut_14 (drop 90 whole_tokens) (cut_15 (drop 91 whole_tokens) (cut_16 (drop 94 whole_tokens) (cut_17 (drop 96 whole_tokens) (cut_18 (drop 113 whole_tokens) (cut_19 (drop 125 whole_tokens) (cut_20 (drop 134 whole_tokens) (cut_21 (drop 136 whole_tokens) (cut_22 (drop 142 whole_tokens) (cut_23 (drop 148 whole_tokens) (cut_24 (drop 149 whole_tokens) (cut_25 (drop 152 whole_tokens) (cut_26 (drop 153 whole_tokens) (cut_27 (drop 158 whole_tokens) (cut_28 (drop 164 whole_tokens) (cut_29 (drop 167 whole_tokens) (cut_30 (drop 173 whole_tokens) (cut_31 (drop 176 whole_tokens) (cut_32 (drop 181 whole_tokens) (cut_33 (drop 184 whole_tokens) (cut_34 (drop 191 whole_tokens) (cut_35 (drop 194 whole_tokens) (cut_36 (drop 197 whole_tokens) (cut_37 (drop 200 whole_tokens) (cut_38 (drop 203 whole_tokens) (cut_39 (drop 206 whole_tokens) (cut_40 (drop 209 whole_tokens) (cut_41 (drop 212 whole_tokens) (cut_42 (drop 216 whole_tokens) (cut_43 (drop 219 whole_tokens) (cut_44 (drop 222 whole_tokens) (cut_45 (drop 225 whole_tokens) (cut_46 (drop 228 whole_tokens) (cut_47 (drop 231 whole_tokens) (cut_48 (drop 233 whole_tokens) (cut_49 (drop 236 whole_tokens) (cut_50 (drop 239 whole_tokens) (cut_51 (drop 242 whole_tokens) (cut_52 (drop 245 whole_tokens) (cut_53 (drop 248 whole_tokens) (cut_54 (drop 251 whole_tokens) (cut_55 (drop 254 whole_tokens) (cut_56 (drop 257 whole_tokens) (cut_57 (drop 260 whole_tokens) (cut_58 (drop 263 whole_tokens) (cut_59 (drop 266 whole_tokens) (cut_60 (drop 269 whole_tokens) (cut_61 (drop 272 whole_tokens) (cut_62 (drop 275 whole_tokens) (cut_63 (drop 278 whole_tokens) (cut_64 (drop 281 whole_tokens) (cut_65 (drop 284 whole_tokens) (cut_66 (drop 287 whole_tokens) (cut_67 (drop 291 whole_tokens) (cut_68 (drop 294 whole_tokens) (cut_69 (drop 297 whole_tokens) (cut_70 (drop 299 whole_tokens) (cut_71 (drop 300 whole_tokens) (cut_72 (drop 302 whole_tokens) (cut_73 (drop 305 whole_tokens) (cut_74 (drop 309 whole_tokens) (cut_75 (drop 311 whole_tokens) (cut_76 (drop 322 whole_tokens) (cut_77 (drop 324 whole_tokens) (cut_78 (drop 328 whole_tokens) (cut_79 (drop 331 whole_tokens) (cut_80 (drop 334 whole_tokens) (cut_81 (drop 339 whole_tokens) (cut_82 (drop 342 whole_tokens) (cut_83 (drop 345 whole_tokens) (cut_84 (drop 353 whole_tokens) (cut_85 (drop 355 whole_tokens) (cut_86 (drop 357 whole_tokens) (cut_87 (drop 359 whole_tokens) (cut_88 (drop 361 whole_tokens) (cut_89 (drop 364 whole_tokens) (cut_90 (drop 367 whole_tokens) (cut_91 (drop 368 whole_tokens) (cut_92 (drop 370 whole_tokens) (cut_93 (drop 373 whole_tokens) (cut_94 (drop 376 whole_tokens) (cut_95 (drop 378 whole_tokens) (cut_96 (drop 381 whole_tokens) (cut_97 (drop 403 whole_tokens) (cut_98 (drop 413 whole_tokens) (cut_99 (drop 419 whole_tokens) (cut_100 (drop 432 whole_tokens) (cut_101 (drop 445 whole_tokens) (cut_102 (drop 458 whole_tokens) (cut_103 (drop 466 whole_tokens) (cut_104 (drop 474 whole_tokens) (cut_105 (drop 482 whole_tokens) (cut_106 (drop 484 whole_tokens) (cut_107 (drop 486 whole_tokens) (([], refl))))))))))))))))))))))))))))))))))))))))))))))))))))))))))))))))))))))))))))))))))))))))))))))))))))))))))))
