-- What a token gives of the name or the literal that it spells.
use Rattle.std.proofs.Common.{◌≡◌, ℕ, ◌-◌, ◌<◌, Bool, true, false, List, [], ◌∷◌, length, get_or, drop, arith, refl, ap, sym, subst, ◌∙◌, Some, length-take, length-drop, get_or-take}
use Rattle.std.specs.Prelude.{slice_range, bytes_eq, if◌then◌else◌, ℤ, IsTrue}
use Rattle.std.specs.List.{prefix_len}
use Rattle.std.specs.Char.{to_ascii_uppercase}
use Rattle.std.proofs.lemmas.Bool.Decides.{nat_tests}
use Rattle.std.proofs.lemmas.List.{length-map, get_or-map}
use Rattle.std.proofs.lemmas.List.Sums.{prefix_len_passes}
use Rattle.il_syntax.specs.declared.token.Kind.TheVariants as kind
use Rattle.il_syntax.specs.declared.tree.Elementary.{Elementary}
use Rattle.il_syntax.specs.declared.tree.Literal.{Literal}
use Rattle.il_syntax.specs.declared.tree.Literal.TheVariants as literal
use Rattle.il_syntax.specs.ElementaryTypes.{is_whole}
use Rattle.il_syntax.specs.Text.{is_word_byte, run_end, upper_case, entry_of, whole_type_words, IsLexeme}
use Rattle.il_statics.specs.Written.{IsWord}
use Rattle.load_tokens.proofs.Lexemes.{lexeme_within}
use Rattle.load_tokens.proofs.Names.{run_passes}

-- a byte of a word is one in upper case too
upper_passes : (b : ℕ) → is_word_byte b ≡ true → is_word_byte (to_ascii_uppercase b) ≡ true
upper_passes b h = grind (arith, nat_tests)

-- each byte of a word in upper case is one of a word
name_byte : (text : List ℕ) (i j k d : ℕ) → j ≡ run_end is_word_byte text i → k < length (upper_case (slice_range text i j)) → is_word_byte (get_or (upper_case (slice_range text i j)) k d) ≡ true
name_byte text i j k d end below =
    let inside : k < length (slice_range text i j) = omega (arith, length-map (slice_range text i j) to_ascii_uppercase, below) in
    ap is_word_byte (get_or-map to_ascii_uppercase (slice_range text i j) k 0 d inside) ∙ upper_passes (get_or (slice_range text i j) k 0) (run_passes text i j k end inside)

-- a word token spells a word
pub word_is : (text : List ℕ) (i j : ℕ) → IsLexeme text kind.Word i j → IsWord (upper_case (slice_range text i j))
word_is text i j l = record {
  some = λ e.
      let within = lexeme_within text kind.Word i j l in
      let long : length (slice_range text i j) ≡ 0 = sym (length-map (slice_range text i j) to_ascii_uppercase) ∙ ap length e in
      omega (arith, within.0, within.1, length-take (j - i) (drop i text), length-drop i text, long);
  no_point = λ c. let e = sym (ap is_word_byte c.2) ∙ name_byte text i j c.0 46 l.1 c.1 in cc;
  no_bracket = λ c. let e = sym (ap is_word_byte c.2) ∙ name_byte text i j c.0 91 l.1 c.1 in cc;
  no_feed = λ c. let e = sym (ap is_word_byte c.2) ∙ name_byte text i j c.0 10 l.1 c.1 in cc;
}

-- what holds of each entry of a table holds of the one that is found
Entries : {A : Type 0} → (A → Type 0) → List (List ℕ × A) → Type 0
Entries P [] = Unit {0}
Entries P (entry ∷ entries) = P entry.1 × Entries P entries

found_entry : {A : Type 0} (P : A → Type 0) (table : List (List ℕ × A)) (name : List ℕ) (x : A) → Entries P table → entry_of table name ≡ Some x → P x
unfolding entry_of Entries
found_entry P [] name x all e = absurd cc
found_entry P (entry ∷ entries) name x all e = go (bytes_eq name entry.0) e (found_entry P entries name x all.1)
  where
    go : (b : Bool) → (if b then Some entry.1 else entry_of entries name) ≡ Some x → (entry_of entries name ≡ Some x → P x) → P x
    go true h rest = subst P (some_is entry.1 x h) all.0
      where
        some_is : {A : Type 0} (a b : A) → Some a ≡ Some b → a ≡ b
        some_is a b h = cc
    go false h rest = rest h

-- the type before a number is a whole one
pub typed_is : (text : List ℕ) (i j : ℕ) (l : Literal) → IsLexeme text (kind.Typed l) i j → (e : Elementary) (z : ℤ) → l ≡ literal.Whole e z → IsTrue (is_whole e)
unfolding Entries
typed_is text i j (literal.Whole f v) h e z same =
    let found : IsTrue (is_whole f) = found_entry (λ (x : Elementary). IsTrue (is_whole x)) whole_type_words _ f (refl, (refl, (refl, (refl, (refl, (refl, tt)))))) h.5.0 in
    let is : f ≡ e = cc in
    subst (λ x. IsTrue (is_whole x)) is found
typed_is text i j (literal.Truth b) h e z same = absurd cc
typed_is text i j (literal.Bare n) h e z same = absurd cc
typed_is text i j (literal.Time n) h e z same = absurd cc
