-- The bytes of words.
use Rattle.std.proofs.Common.{◌≡◌, ℕ, ◌-◌, ◌<◌, true, List, length, get_or, drop, arith, ap, sym, subst, ◌∙◌, length-take, get_or-take}
use Rattle.std.specs.Prelude.{slice_range}
use Rattle.std.specs.List.{All, prefix_len}
use Rattle.std.specs.Char.{to_ascii_uppercase}
use Rattle.std.specs.Str.{IsUtf8}
use Rattle.std.proofs.lemmas.Bool.Decides.{nat_tests}
use Rattle.std.proofs.lemmas.List.{length-map, get_or-map}
use Rattle.std.proofs.lemmas.List.Sums.{prefix_len_passes}
use Rattle.std.proofs.lemmas.Str.{IsUtf8-from_ascii}
use Rattle.std.proofs.lemmas.Str.Ascii.{IsAscii-from_all, uppercase_ascii}
use Rattle.il_syntax.specs.declared.token.Token.{Token}
use Rattle.il_syntax.specs.declared.token.Kind.TheVariants.{Word}
use Rattle.il_syntax.specs.Text.{is_word_byte, run_end, upper_case, IsLexeme, IsToken, name_of}

-- the bytes of a run pass
pub run_passes : (text : List ℕ) (i j k : ℕ) → j ≡ run_end is_word_byte text i → k < length (slice_range text i j) → is_word_byte (get_or (slice_range text i j) k 0) ≡ true
unfolding run_end
run_passes text i j k end below =
    let long = length-take (j - i) (drop i text) in
    let less : k < j - i = omega arith in
    let inside : k < prefix_len is_word_byte (drop i text) = omega arith in
    ap is_word_byte (get_or-take (j - i) (drop i text) k 0 less) ∙ prefix_len_passes is_word_byte (drop i text) k 0 inside

-- a byte of a word is ASCII
word_ascii : (b : ℕ) → is_word_byte b ≡ true → b < 128
word_ascii b h = grind (arith, nat_tests)

-- a word in upper case is ASCII
pub name_ascii : (text : List ℕ) (i j : ℕ) → IsLexeme text Word i j → All (λ b. b < 128) (upper_case (slice_range text i j))
name_ascii text i j h k d below =
    let inside : k < length (slice_range text i j) = omega (arith, length-map (slice_range text i j) to_ascii_uppercase, below) in
    let byte = get_or-map to_ascii_uppercase (slice_range text i j) k 0 d inside in
    let small = uppercase_ascii (get_or (slice_range text i j) k 0) (word_ascii (get_or (slice_range text i j) k 0) (run_passes text i j k h.1 inside)) in
    subst (λ b. b < 128) (sym byte) small

-- so the name at a word is UTF-8
pub name_utf8 : (text : List ℕ) (at : ℕ) (t : Token) → IsToken text at t → t.kind ≡ Word → IsUtf8 (name_of text t)
name_utf8 text at t h word =
    let lexeme = subst (λ kind. IsLexeme text kind t.start t.end) word h.lexeme in
    IsUtf8-from_ascii (name_of text t) (IsAscii-from_all (name_of text t) (name_ascii text t.start t.end lexeme))
