-- The tokens of the text spell its tree, part by part.
use Rattle.std.proofs.Common.{List, refl, arith, inl, inr}
use Rattle.il_syntax.specs.declared.token.Token.{Token}
use Rattle.il_syntax.specs.Text.{entry_of, is_grouped_after}
use Rattle.il_syntax.specs.Words.{keyword_of}
use Rattle.il_syntax.specs.Grammar.{Front, skip_line_ends, At, Repeats, TheWord, SpellsStep, SpellsLabelLine, SpellsUnit, Spells}
use Rattle.il_syntax.specs.declared.keyword.Keyword.TheVariants as word
use Rattle.il_witnesses.specs.EveryConstruct.{whole_text, whole_tree, function_tree, block_tree, program_tree, group_tree, labels_steps, operators_steps, parentheses_steps, calls_steps}
use Rattle.il_witnesses.proofs.Tokens.{whole_tokens, from, whole_cut}

-- labels, loads, stores and jumps, before what follows
labels_spelled : (E : Front) (rest : List Token) → E (skip_line_ends (from 203)) rest → Repeats (SpellsStep whole_text) labels_steps E (from 149) rest
unfolding keyword_of entry_of
labels_spelled E rest end = (from 158, (from 151, (from 150, (refl, refl, ((refl, refl, refl), refl)), (refl, refl)), (from 152, (refl, refl), (from 155, (from 154, (refl, refl, ((refl, refl, refl), refl)), (refl, refl)), (refl, refl, (from 156, ((refl, refl), refl), (from 157, (refl, refl, (refl, refl)), (refl, refl))))))), (from 164, (refl, refl, (from 159, ((refl, refl), refl), (from 163, (tt, (refl, refl, (from 160, ((refl, refl, refl), refl), (from 161, (refl, refl), (from 162, (refl, refl), (refl, refl)))))), (refl, refl)))), (from 167, (refl, refl, (from 165, ((refl, refl), refl), (from 166, (refl, refl, (refl, refl)), (refl, refl)))), (from 173, (refl, refl, (from 168, ((refl, refl), refl), (from 172, (tt, (refl, refl, (from 169, ((refl, refl, refl), refl), (from 170, (refl, refl), (from 171, ((refl, refl, refl), refl), (refl, refl)))))), (refl, refl)))), (from 176, (refl, refl, (from 174, ((refl, refl), refl), (from 175, (refl, refl, (refl, refl)), (refl, refl)))), (from 181, (refl, refl, (from 177, ((refl, refl), refl), (from 180, (tt, (refl, refl, (from 178, ((refl, refl, refl), refl), (from 179, (refl, refl), ((refl, refl), refl))))), (refl, refl)))), (from 184, (refl, refl, (from 182, ((refl, refl), refl), (from 183, (refl, refl, ((refl, refl, refl), refl)), (refl, refl)))), (from 191, (from 186, (from 185, (refl, refl, ((refl, refl, refl), refl)), (refl, refl)), (refl, refl, (from 187, ((refl, refl), refl), (from 190, (refl, refl, (from 188, ((refl, refl, refl), refl), (from 189, (refl, refl), ((refl, refl), refl)))), (refl, refl))))), (from 194, (refl, refl, (from 192, ((refl, refl), refl), (from 193, (refl, refl, ((refl, refl, refl), refl)), (refl, refl)))), (from 197, (refl, refl, (from 195, ((refl, refl), refl), (from 196, (refl, refl, ((refl, refl, refl), refl)), (refl, refl)))), (from 200, (refl, refl, (from 198, ((refl, refl), refl), (from 199, (tt, (refl, refl, (from 199, ((refl, refl, refl), refl), (from 199, (refl, λ other p. cc p.0), (refl, λ other p. cc p.0))))), (refl, refl)))), (from 203, (refl, refl, (from 201, ((refl, refl), refl), (from 202, (tt, (refl, refl, (from 202, ((refl, refl, refl), refl), (from 202, (refl, λ other p. cc p.0), (refl, λ other p. cc p.0))))), (refl, refl)))), end))))))))))))

-- operators, before what follows
operators_spelled : (E : Front) (rest : List Token) → E (skip_line_ends (from 284)) rest → Repeats (SpellsStep whole_text) operators_steps E (from 203) rest
unfolding keyword_of entry_of
operators_spelled E rest end = (from 206, (refl, refl, (from 204, ((refl, refl), refl), (from 205, (refl, refl, ((refl, refl), refl)), (refl, refl)))), (from 209, (refl, refl, (from 207, (inl ((refl, refl), refl)), (from 208, (refl, refl, (from 208, ((refl, refl, refl), refl), (from 208, (refl, λ other p. cc p.0), (refl, λ other p. cc p.0)))), (refl, refl)))), (from 212, (refl, refl, (from 210, (inl ((refl, refl), refl)), (from 211, (refl, refl, (from 211, ((refl, refl, refl), refl), (from 211, (refl, λ other p. cc p.0), (refl, λ other p. cc p.0)))), (refl, refl)))), (from 216, (refl, refl, (from 214, (inr (refl, ((refl, refl, refl), refl))), (from 215, (refl, refl, (from 215, ((refl, refl, refl), refl), (from 215, (refl, λ other p. cc p.0), (refl, λ other p. cc p.0)))), (refl, refl)))), (from 219, (refl, refl, (from 217, (inr (refl, (refl, λ other p. cc p.0.1))), (from 218, (refl, refl, (from 218, ((refl, refl, refl), refl), (from 218, (refl, λ other p. cc p.0), (refl, λ other p. cc p.0)))), (refl, refl)))), (from 222, (refl, refl, (from 220, (inl ((refl, refl), refl)), (from 221, (refl, refl, ((refl, refl), refl)), (refl, refl)))), (from 225, (refl, refl, (from 223, (inl ((refl, refl), refl)), (from 224, (refl, refl, (from 224, ((refl, refl, refl), refl), (from 224, (refl, λ other p. cc p.0), (refl, λ other p. cc p.0)))), (refl, refl)))), (from 228, (refl, refl, (from 226, (inl ((refl, refl), refl)), (from 227, (refl, refl, (from 227, ((refl, refl, refl), refl), (from 227, (refl, λ other p. cc p.0), (refl, λ other p. cc p.0)))), (refl, refl)))), (from 231, (refl, refl, (from 229, (inl ((refl, refl), refl)), (from 230, (refl, refl, (from 230, ((refl, refl, refl), refl), (from 230, (refl, λ other p. cc p.0), (refl, λ other p. cc p.0)))), (refl, refl)))), (from 233, (refl, refl, (from 232, ((refl, refl), refl), (refl, refl))), (from 236, (refl, refl, (from 234, ((refl, refl), refl), (from 235, (refl, refl, (refl, refl)), (refl, refl)))), (from 239, (refl, refl, (from 237, (inl ((refl, refl), refl)), (from 238, (refl, refl, (refl, refl)), (refl, refl)))), (from 242, (refl, refl, (from 240, (inl ((refl, refl), refl)), (from 241, (refl, refl, (refl, refl)), (refl, refl)))), (from 245, (refl, refl, (from 243, (inl ((refl, refl), refl)), (from 244, (refl, refl, (from 244, ((refl, refl, refl), refl), (from 244, (refl, λ other p. cc p.0), (refl, λ other p. cc p.0)))), (refl, refl)))), (from 248, (refl, refl, (from 246, (inl ((refl, refl), refl)), (from 247, (refl, refl, (refl, refl)), (refl, refl)))), (from 251, (refl, refl, (from 249, (inl ((refl, refl), refl)), (from 250, (refl, refl, (refl, refl)), (refl, refl)))), (from 254, (refl, refl, (from 252, (inl ((refl, refl), refl)), (from 253, (refl, refl, (refl, refl)), (refl, refl)))), (from 257, (refl, refl, (from 255, ((refl, refl), refl), (from 256, (refl, refl, (refl, refl)), (refl, refl)))), (from 260, (refl, refl, (from 258, (inl ((refl, refl), refl)), (from 259, (refl, refl, (refl, refl)), (refl, refl)))), (from 263, (refl, refl, (from 261, ((refl, refl), refl), (from 262, (refl, refl, (refl, refl)), (refl, refl)))), (from 266, (refl, refl, (from 264, (inl ((refl, refl), refl)), (from 265, (refl, refl, (refl, refl)), (refl, refl)))), (from 269, (refl, refl, (from 267, ((refl, refl), refl), (from 268, (refl, refl, (refl, refl)), (refl, refl)))), (from 272, (refl, refl, (from 270, (inl ((refl, refl), refl)), (from 271, (refl, refl, (refl, refl)), (refl, refl)))), (from 275, (refl, refl, (from 273, ((refl, refl), refl), (from 274, (refl, refl, (refl, refl)), (refl, refl)))), (from 278, (refl, refl, (from 276, (inl ((refl, refl), refl)), (from 277, (refl, refl, (refl, refl)), (refl, refl)))), (from 281, (refl, refl, (from 279, ((refl, refl), refl), (from 280, (refl, refl, (refl, refl)), (refl, refl)))), (from 284, (refl, refl, (from 282, (inl ((refl, refl), refl)), (from 283, (refl, refl, (refl, refl)), (refl, refl)))), end)))))))))))))))))))))))))))

-- parentheses in both forms, before what follows
parentheses_spelled : (E : Front) (rest : List Token) → E (skip_line_ends (from 311)) rest → Repeats (SpellsStep whole_text) parentheses_steps E (from 284) rest
unfolding keyword_of entry_of
parentheses_spelled E rest end = (from 287, (refl, refl, (from 285, ((refl, refl), refl), (from 286, (refl, refl, (refl, refl)), (refl, refl)))), (from 291, (refl, refl, (from 288, (inl ((refl, refl), refl)), (from 289, (refl, refl), (from 290, (refl, refl, (refl, refl)), (refl, refl))))), (from 294, (refl, refl, (from 292, (inl ((refl, refl), refl)), (from 293, (refl, refl), (refl, refl)))), (from 297, (refl, refl, (from 295, ((refl, refl), refl), (from 296, (refl, refl, (refl, refl)), (refl, refl)))), (from 299, (refl, refl, (from 298, (refl, refl), (refl, refl))), (from 302, (refl, refl, (from 301, (refl, refl), (refl, refl))), (from 305, (refl, refl, (from 303, (inl ((refl, refl), refl)), (from 304, (refl, refl, (refl, refl)), (refl, refl)))), (from 309, (refl, refl, (from 306, (inr (refl, (refl, λ other p. cc p.0.0))), (from 307, (refl, refl), (from 308, (refl, refl, ((refl, refl), refl)), (refl, refl))))), (from 311, (refl, refl, (from 310, (refl, refl), (refl, refl))), end)))))))))

-- calls of instances and functions, and returns, before what follows
calls_spelled : (E : Front) (rest : List Token) → E (skip_line_ends (from 361)) rest → Repeats (SpellsStep whole_text) calls_steps E (from 311) rest
unfolding keyword_of entry_of
calls_spelled E rest end = (from 328, (refl, refl, (from 312, ((refl, refl), refl), (from 313, (refl, refl, ((refl, refl, refl), refl)), (from 314, (refl, refl), (from 327, (from 320, (from 315, (refl, refl, ((refl, refl), refl)), (from 316, (refl, refl), (refl, refl, (from 317, ((refl, refl, refl), refl), (from 318, (refl, refl), (from 319, (refl, refl), (refl, refl))))))), (from 321, (refl, refl), (from 326, (from 323, (refl, refl, ((refl, refl), refl)), (from 325, (refl, refl), (refl, refl, ((refl, refl, refl), refl)))), (refl, refl)))), (refl, refl)))))), (from 331, (refl, refl, (from 329, ((refl, refl), refl), (from 330, (refl, refl, (from 330, ((refl, refl, refl), refl), (from 330, (refl, λ other p. cc p.0), (refl, λ other p. cc p.0)))), (refl, refl)))), (from 334, (refl, refl, (from 332, ((refl, refl), refl), (from 333, (refl, refl, ((refl, refl, refl), refl)), (inl (refl, refl))))), (from 339, (refl, refl, (from 335, ((refl, refl), refl), (from 336, (refl, refl, ((refl, refl, refl), refl)), (inr (from 337, (refl, refl), (from 338, (refl, refl), (refl, refl))))))), (from 342, (refl, refl, (from 340, ((refl, refl), refl), (from 341, (refl, refl, (refl, refl)), (refl, refl)))), (from 345, (refl, refl, (from 343, (refl, refl, ((refl, refl, refl), refl)), (from 344, (refl, refl, (from 344, ((refl, refl, refl), refl), (from 344, (refl, λ other p. cc p.0), (refl, λ other p. cc p.0)))), (refl, refl)))), (from 353, (refl, refl, (from 346, (refl, refl, ((refl, refl, refl), refl)), (from 350, (refl, refl, (from 347, ((refl, refl, refl), refl), (from 348, (refl, refl), (from 349, ((refl, refl, refl), refl), (refl, refl))))), (from 351, (refl, refl), (from 352, (refl, refl, (refl, refl)), (refl, refl)))))), (from 355, (refl, refl, (from 354, (refl, refl, ((refl, refl, refl), refl)), (refl, refl))), (from 357, (refl, refl, (from 356, ((refl, refl), refl), (refl, refl))), (from 359, (refl, refl, (from 358, ((refl, refl), refl), (refl, refl))), (from 361, (refl, refl, (from 360, ((refl, refl), refl), (refl, refl))), end)))))))))))

-- what follows each part of the program
abbrev behind_calls : Front
behind_calls = Repeats (SpellsLabelLine whole_text) program_tree.body.last_labels (At program_tree.body.end (TheWord whole_text word.EndProgram))

abbrev behind_parentheses : Front
behind_parentheses = Repeats (SpellsStep whole_text) calls_steps behind_calls

abbrev behind_operators : Front
behind_operators = Repeats (SpellsStep whole_text) parentheses_steps behind_parentheses

abbrev behind_labels : Front
behind_labels = Repeats (SpellsStep whole_text) operators_steps behind_operators

function_spelled : SpellsUnit whole_text function_tree (from 1) (from 52)
unfolding keyword_of entry_of
function_spelled = ((omega arith, refl), (from 2, (refl, refl, ((refl, refl), refl)), (from 3, (refl, refl, ((refl, refl, refl), refl)), (from 10, (from 4, (refl, refl), (refl, refl, (from 5, ((refl, refl), refl), (from 6, (refl, refl), (from 7, (refl, refl), (from 8, (refl, refl), (from 9, (refl, refl), (refl, refl)))))))), (from 26, (from 12, ((refl, refl), refl), (from 21, (from 14, (from 13, (refl, refl, ((refl, refl, refl), refl)), (refl, refl)), (from 20, (refl, refl, (from 15, ((refl, refl), refl), (from 16, (refl, refl), (from 17, (refl, refl), (from 18, (refl, refl), (from 19, (refl, refl), (refl, refl))))))), (refl, refl))), (from 25, (from 23, (from 22, (refl, refl, ((refl, refl, refl), refl)), (refl, refl)), (from 24, (refl, refl, (from 24, ((refl, refl), refl), (refl, λ other p. cc p.0))), (refl, refl))), ((refl, refl), refl)))), (from 26, (refl, λ other p. cc p.0.1), (from 41, (inl (from 28, ((refl, refl), refl), (from 36, (from 32, (from 29, (refl, refl, ((refl, refl, refl), refl)), (from 30, (refl, refl), (from 31, (refl, refl, ((refl, refl, refl), refl)), (refl, refl)))), (from 33, (refl, refl, (from 33, ((refl, refl), refl), (refl, λ other p. cc p.0))), (from 34, (refl, refl), (from 35, (refl, refl, (refl, refl)), (refl, refl))))), (from 40, (from 38, (from 37, (refl, refl, ((refl, refl, refl), refl)), (refl, refl)), (from 39, (refl, refl, (from 39, ((refl, refl), refl), (refl, λ other p. cc p.0))), (refl, refl))), ((refl, refl), refl))))), (from 41, (refl, (refl, λ other p. cc p.0.1)), (refl, (from 42, (refl, refl), (from 45, (refl, refl, (from 43, ((refl, refl), refl), (from 44, (refl, refl, (from 44, ((refl, refl, refl), refl), (from 44, (refl, λ other p. cc p.0), (refl, λ other p. cc p.0)))), (refl, refl)))), (from 48, (refl, refl, (from 46, (inl ((refl, refl), refl)), (from 47, (refl, refl, (refl, refl)), (refl, refl)))), (from 51, (refl, refl, (from 49, ((refl, refl), refl), (from 50, (tt, (refl, refl, (from 50, ((refl, refl, refl), refl), (from 50, (refl, λ other p. cc p.0), (refl, λ other p. cc p.0))))), (refl, refl)))), (refl, refl, ((refl, refl), refl)))))))))))))))

block_spelled : SpellsUnit whole_text block_tree (from 53) (from 89)
unfolding keyword_of entry_of
block_spelled = (tt, (from 54, (refl, refl, ((refl, refl), refl)), (from 55, (refl, refl, ((refl, refl, refl), refl)), (from 55, refl, (from 70, (from 57, ((refl, refl), refl), (from 63, (from 59, (from 58, (refl, refl, ((refl, refl, refl), refl)), (refl, refl)), (from 60, (refl, refl, (from 60, ((refl, refl), refl), (refl, λ other p. cc p.0))), (from 61, (refl, refl), (from 62, (refl, refl, ((refl, refl), refl)), (refl, refl))))), (from 69, (from 65, (from 64, (refl, refl, ((refl, refl, refl), refl)), (refl, refl)), (from 66, (refl, refl, (from 66, ((refl, refl), refl), (refl, λ other p. cc p.0))), (from 67, (refl, refl), (from 68, (refl, refl, (refl, refl)), (refl, refl))))), ((refl, refl), refl)))), (from 81, (from 72, ((refl, refl), refl), (from 76, (from 74, (from 73, (refl, refl, ((refl, refl, refl), refl)), (refl, refl)), (from 75, (refl, refl, (from 75, ((refl, refl), refl), (refl, λ other p. cc p.0))), (refl, refl))), (from 80, (from 78, (from 77, (refl, refl, ((refl, refl, refl), refl)), (refl, refl)), (from 79, (refl, refl, (from 79, ((refl, refl), refl), (refl, λ other p. cc p.0))), (refl, refl))), ((refl, refl), refl)))), (from 81, (inr (refl, (refl, λ other p. cc p.0.1))), (from 81, (refl, (refl, λ other p. cc p.0.1)), (refl, (from 82, (refl, refl), (from 85, (refl, refl, (from 83, ((refl, refl), refl), (from 84, (refl, refl, (from 84, ((refl, refl, refl), refl), (from 84, (refl, λ other p. cc p.0), (refl, λ other p. cc p.0)))), (refl, refl)))), (from 88, (refl, refl, (from 86, ((refl, refl), refl), (from 87, (tt, (refl, refl, (from 87, ((refl, refl, refl), refl), (from 87, (refl, λ other p. cc p.0), (refl, λ other p. cc p.0))))), (refl, refl)))), (refl, refl, ((refl, refl), refl))))))))))))))

program_spelled : SpellsUnit whole_text program_tree (from 91) (from 369)
unfolding keyword_of entry_of
program_spelled = ((refl, refl), (from 92, (refl, refl, ((refl, refl), refl)), (from 93, (refl, refl, ((refl, refl, refl), refl)), (from 93, refl, (from 93, (refl, λ other p. cc p.0.1), (from 93, (refl, λ other p. cc p.0.1), (from 135, (inl (from 95, ((refl, refl), refl), (from 112, (from 98, (from 97, (refl, refl, ((refl, refl, refl), refl)), (refl, refl)), (from 111, (refl, refl, (from 99, ((refl, refl), refl), (from 100, (refl, refl), (from 101, (refl, refl), (from 102, (refl, refl), (from 103, (refl, refl), (from 104, (refl, refl), (from 105, ((refl, refl), refl), (from 106, ((refl, refl), refl), (from 107, (refl, refl), (from 108, (refl, refl), (from 109, (refl, refl), (from 110, (refl, refl), (refl, refl)))))))))))))), (refl, refl))), (from 124, (from 115, (from 114, (refl, refl, ((refl, refl, refl), refl)), (refl, refl)), (from 121, (refl, refl, (from 116, ((refl, refl), refl), (from 117, (refl, refl), (from 118, (refl, refl), (from 119, (refl, refl), (from 120, (refl, refl), (refl, refl))))))), (from 122, (refl, refl), (from 123, (refl, refl, (refl, refl)), (refl, refl))))), (from 129, (from 127, (from 126, (refl, refl, ((refl, refl, refl), refl)), (refl, refl)), (from 128, (refl, refl, ((refl, refl, refl), refl)), (refl, refl))), (from 133, (from 131, (from 130, (refl, refl, ((refl, refl, refl), refl)), (refl, refl)), (from 132, (refl, refl, ((refl, refl, refl), refl)), (refl, refl))), ((refl, refl), refl))))))), (from 147, (inl (from 137, ((refl, refl), refl), (from 141, (refl, refl, (from 139, (from 138, (refl, refl, ((refl, refl, refl), refl)), (refl, refl)), (from 140, (refl, refl, (from 140, ((refl, refl), refl), (refl, λ other p. cc p.0))), (refl, refl)))), (from 146, (refl, refl, (from 144, (from 143, (refl, refl, ((refl, refl, refl), refl)), (refl, refl)), (from 145, (refl, refl, (from 145, ((refl, refl), refl), (refl, λ other p. cc p.0))), (refl, refl)))), ((refl, refl), refl))))), (refl, (from 148, (refl, refl), labels_spelled (behind_labels) (from 369) (operators_spelled (behind_operators) (from 369) (parentheses_spelled (behind_parentheses) (from 369) (calls_spelled (behind_calls) (from 369) ((from 364, (from 363, (from 362, (refl, refl, ((refl, refl, refl), refl)), (refl, refl)), (refl, refl)), (from 367, (from 366, (from 365, (refl, refl, ((refl, refl, refl), refl)), (refl, refl)), (refl, refl)), (refl, refl, ((refl, refl), refl))))))))))))))))))

group_spelled : SpellsUnit whole_text group_tree (from 370) (from 377)
unfolding keyword_of entry_of
group_spelled = ((refl, refl), (from 371, (refl, refl, ((refl, refl), refl)), (from 372, (refl, refl, ((refl, refl, refl), refl)), (from 372, refl, (from 372, (refl, λ other p. cc p.0.1), (from 372, (refl, λ other p. cc p.0.1), (from 375, (inl (from 374, ((refl, refl), refl), ((refl, refl), refl))), (from 375, (inr (refl, (refl, λ other p. cc p.0.1))), (refl, (from 376, (refl, refl), (refl, refl, ((refl, refl), refl))))))))))))

pub whole_spelled : Spells whole_text whole_tree
unfolding keyword_of entry_of is_grouped_after
whole_spelled = (whole_tokens, whole_cut, (from 52, function_spelled, (from 89, block_spelled, (from 369, program_spelled, (from 377, group_spelled, (from 379, ((refl, refl), refl), (from 380, ((refl, refl), refl), (from 402, (from 382, ((refl, refl), refl), (from 383, ((refl, refl), refl), (from 389, (from 384, ((refl, refl), refl), (from 385, (refl, refl), (from 386, ((refl, refl), refl), (from 387, (refl, refl), (from 388, (refl, refl, ((refl, refl), refl)), (refl, refl)))))), (from 395, (from 390, ((refl, refl), refl), (from 391, (refl, refl), (from 392, ((refl, refl), refl), (from 393, (refl, refl), (from 394, (refl, refl, ((refl, refl), refl)), (refl, refl)))))), (from 401, (from 396, ((refl, refl), refl), (from 397, (refl, refl), (from 398, ((refl, refl), refl), (from 399, (refl, refl), (from 400, (refl, refl, ((refl, refl), refl)), (refl, refl)))))), ((refl, refl), refl)))))), (from 414, (refl, refl, (from 404, ((refl, refl), refl), (from 408, (from 406, (from 405, (refl, refl, ((refl, refl, refl), refl)), (refl, refl)), (from 407, (refl, refl, (from 407, ((refl, refl), refl), (refl, λ other p. cc p.0))), (refl, refl))), (from 412, (from 410, (from 409, (refl, refl, ((refl, refl, refl), refl)), (refl, refl)), (from 411, (refl, refl, (from 411, ((refl, refl), refl), (refl, λ other p. cc p.0))), (refl, refl))), ((refl, refl), refl))))), (from 483, (from 415, ((refl, refl), refl), (from 416, ((refl, refl), refl), (from 417, ((refl, refl), refl), (from 418, ((refl, refl), refl), (from 431, (from 420, (refl, refl, ((refl, refl), refl)), (from 421, (refl, refl, ((refl, refl, refl), refl)), (from 422, (refl, refl), (from 423, ((refl, refl), refl), (from 424, (refl, refl), (from 425, (refl, refl), (from 426, (refl, refl), (from 427, ((refl, refl), refl), (from 428, (refl, refl), (from 429, ((refl, refl), refl), (from 430, (refl, refl), (refl, refl)))))))))))), (from 444, (from 433, (refl, refl, ((refl, refl), refl)), (from 434, (refl, refl, ((refl, refl, refl), refl)), (from 435, (refl, refl), (from 436, ((refl, refl), refl), (from 437, (refl, refl), (from 438, (refl, refl), (from 439, (refl, refl), (from 440, ((refl, refl), refl), (from 441, (refl, refl), (from 442, ((refl, refl), refl), (from 443, (refl, refl), (refl, refl)))))))))))), (from 457, (from 446, (refl, refl, ((refl, refl), refl)), (from 447, (refl, refl, ((refl, refl, refl), refl)), (from 448, (refl, refl), (from 449, ((refl, refl), refl), (from 450, (refl, refl), (from 451, (refl, refl), (from 452, (refl, refl), (from 453, ((refl, refl), refl), (from 454, (refl, refl), (from 455, ((refl, refl), refl), (from 456, (refl, refl), (refl, refl)))))))))))), (from 465, (from 459, (refl, refl, ((refl, refl), refl)), (from 460, (refl, refl, ((refl, refl, refl), refl)), (from 461, ((refl, refl), refl), (from 462, (refl, refl, ((refl, refl, refl), refl)), (from 463, (refl, refl), (from 464, (refl, refl, ((refl, refl, refl), refl)), (refl, refl))))))), (from 473, (from 467, (refl, refl, ((refl, refl), refl)), (from 468, (refl, refl, ((refl, refl, refl), refl)), (from 469, ((refl, refl), refl), (from 470, (refl, refl, ((refl, refl, refl), refl)), (from 471, (refl, refl), (from 472, (refl, refl, ((refl, refl, refl), refl)), (refl, refl))))))), (from 481, (from 475, (refl, refl, ((refl, refl), refl)), (from 476, (refl, refl, ((refl, refl, refl), refl)), (from 477, ((refl, refl), refl), (from 478, (refl, refl, ((refl, refl, refl), refl)), (from 479, (refl, refl), (from 480, (refl, refl, ((refl, refl, refl), refl)), (refl, refl))))))), (refl, refl, ((refl, refl), refl)))))))))))), (from 485, ((refl, refl), refl), (refl, refl))))))))))))
