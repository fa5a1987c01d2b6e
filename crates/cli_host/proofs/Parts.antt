-- Words in parts between colons, and the presses that words spell.
use Rattle.std.proofs.Common.{◌≡◌, ◌≢◌, ℕ, ◌<◌, Bool, List, [], ◌∷◌, length, map, take, get_or, sym, ap, ◌∙◌, subst, arith, zero, suc, ◌+◌, ◌++◌, refl, ◌⊎◌, inl, inr}
use Rattle.std.specs.Prelude.{◌==◌, Option, Some, None, slice_get, String, string_bytes}
use Rattle.std.specs.Global.{Global}
use Rattle.std.specs.List.{join_with_byte, position_or_len, before_first, after_first}
use Rattle.std.proofs.lemmas.List.{map-append, append_assoc, length-append}
use Rattle.std.proofs.Math.Seq.{take-suc}
use Rattle.std.proofs.Math.Numerals.{add-one}
use Rattle.std.proofs.lemmas.List.Sums.{fails_before_first}
use Rattle.std.proofs.lemmas.List.Splits.{slice_split_none, slice_split_first, length-slice_split, join_with_byte-slice_split}
use borrow.Author.Tests.{ne_eqb}
use Rattle.std.proofs.lemmas.Option.{slice_get-get_or, get_or_from_slice_get, slice_get_within}
use Rattle.cli_host.specs.Requests.{IsDigits, IsNumberTo}
use Rattle.cli_host.specs.Presses.{parts_of, IsPressOf, IsPress, AreOfWords, IsUnpressedWord, IsUnpressed}
use Rattle.cli_host.specs.Presses.IsPress.{plain, at_panel}
use Rattle.cli_host.specs.declared.press.Press.{Press}
use Rattle.cli_host.specs.declared.press.PressFault.{PressFault}
use Rattle.cli_host.specs.declared.press.PressFault.TheVariants.{Bad, TooMany, NoMemory}

abbrev pub is_colon : ℕ → Bool
is_colon b = b == 58

-- a word without a colon is its one part
pub one_part : (word : List ℕ) → position_or_len is_colon word ≡ length word → parts_of word ≡ word ∷ []
one_part word e = slice_split_none is_colon word (λ k d low. fails_before_first is_colon word k d (omega (arith, e, low)))

-- the part before the first colon
pub part_before : (word first rest : List ℕ) → position_or_len is_colon word < length word → first ≡ before_first is_colon word → rest ≡ after_first is_colon word → parts_of word ≡ first ∷ parts_of rest
part_before word first rest low is_first is_rest = slice_split_first is_colon word 0 low ∙ ap (λ x. x ∷ parts_of (after_first is_colon word)) (sym is_first) ∙ ap (λ r. first ∷ parts_of r) (sym is_rest)

get_or_any : (word : List ℕ) (k d e : ℕ) → k < length word → get_or word k d ≡ get_or word k e
get_or_any word k d e low = get_or_from_slice_get word k (get_or word k e) d (slice_get-get_or word k e low)

-- digits have no colon
pub of_digits : (word : List ℕ) → IsDigits word → parts_of word ≡ word ∷ []
of_digits word digits = slice_split_none is_colon word (λ k d low. ne_eqb (get_or word k d) 58 (other k d low))
  where
    other : (k d : ℕ) → k < length word → get_or word k d ≢ 58
    other k d low e = let at = digits k low in let same : get_or word k 0 ≡ 58 = get_or_any word k 0 d low ∙ e in omega (arith, at.1, same)

cut : {x y : List ℕ} {xs ys : List (List ℕ)} → x ∷ xs ≡ y ∷ ys → (x ≡ y) × (xs ≡ ys)
cut e = (cc, cc)

no_more : {x : List ℕ} {xs : List (List ℕ)} → x ∷ xs ≡ [] → ⊥
no_more e = cc

-- a word has a part
some_part : (word : List ℕ) → parts_of word ≡ [] → ⊥
some_part word e = let long = length-slice_split is_colon word in let none : length (parts_of word) ≡ 0 = ap length e in omega (arith, long, none)

-- the only part is the word
alone : (word part : List ℕ) → parts_of word ≡ part ∷ [] → word ≡ part
alone word part e = sym (join_with_byte-slice_split 58 word) ∙ ap (join_with_byte 58) e

-- no colon at all
pub no_press : (rounds floors : ℕ) (word x : List ℕ) → parts_of word ≡ x ∷ [] → (p : Press) → IsPress rounds floors word p → ⊥
no_press rounds floors word x e p (plain first second third parts is panel) = no_more (cut (sym parts ∙ e)).1
no_press rounds floors word x e p (at_panel first second third fourth parts is panel) = no_more (cut (sym parts ∙ e)).1

-- one colon alone
pub half_press : (rounds floors : ℕ) (word x y : List ℕ) → parts_of word ≡ x ∷ y ∷ [] → (p : Press) → IsPress rounds floors word p → ⊥
half_press rounds floors word x y e p (plain first second third parts is panel) = no_more (cut (cut (sym parts ∙ e)).1).1
half_press rounds floors word x y e p (at_panel first second third fourth parts is panel) = no_more (cut (cut (sym parts ∙ e)).1).1

same_parts : (rounds floors : ℕ) (a b c x y z : List ℕ) (p : Press) → a ≡ x → b ≡ y → c ≡ z → IsPressOf rounds floors a b c p → IsPressOf rounds floors x y z p
same_parts rounds floors a b c x y z p e f g is =
    subst (λ t. IsPressOf rounds floors x y t p) g (subst (λ t. IsPressOf rounds floors x t c p) f (subst (λ t. IsPressOf rounds floors t b c p) e is))

-- two colons
pub press_of_three : (rounds floors : ℕ) (word x y z : List ℕ) → parts_of word ≡ x ∷ y ∷ z ∷ [] → (p : Press) → IsPress rounds floors word p → IsPressOf rounds floors x y z p
press_of_three rounds floors word x y z e p (plain first second third parts is panel) =
    let one = cut (sym parts ∙ e) in
    let two = cut one.1 in
    same_parts rounds floors first second third x y z p one.0 two.0 (cut two.1).0 is
press_of_three rounds floors word x y z e p (at_panel first second third fourth parts is panel) =
    absurd (no_more (cut (cut (cut (sym parts ∙ e)).1).1).1)

-- more than two
pub press_of_more : (rounds floors : ℕ) (word x y z rest : List ℕ) → parts_of word ≡ x ∷ y ∷ z ∷ parts_of rest → (p : Press) → IsPress rounds floors word p → IsPressOf rounds floors x y z p × IsNumberTo 4 rest p.panel
press_of_more rounds floors word x y z rest e p (plain first second third parts is panel) =
    absurd (some_part rest (sym (cut (cut (cut (sym parts ∙ e)).1).1).1))
press_of_more rounds floors word x y z rest e p (at_panel first second third fourth parts is panel) =
    let one = cut (sym parts ∙ e) in
    let two = cut one.1 in
    let three = cut two.1 in (
      same_parts rounds floors first second third x y z p one.0 two.0 three.0 is,
      subst (λ t. IsNumberTo 4 t p.panel) (sym (alone rest fourth (sym three.1))) panel,
    )

pub plain_press : (rounds floors : ℕ) (word x y z : List ℕ) → parts_of word ≡ x ∷ y ∷ z ∷ [] → (p : Press) → IsPressOf rounds floors x y z p × (p.panel ≡ 1) → IsPress rounds floors word p
plain_press rounds floors word x y z e p is = plain x y z e is.0 is.1

pub panel_press : (rounds floors : ℕ) (word x y z rest : List ℕ) (panel : ℕ) → parts_of word ≡ x ∷ y ∷ z ∷ parts_of rest → IsNumberTo 4 rest panel → (p : Press) → IsPressOf rounds floors x y z p × (p.panel ≡ panel) → IsPress rounds floors word p
panel_press rounds floors word x y z rest panel e number p is =
    at_panel x y z rest (e ∙ ap (λ ps. x ∷ y ∷ z ∷ ps) (of_digits rest number.digits)) is.0 (subst (IsNumberTo 4 rest) (sym is.1) number)

-- LISTS OF PRESSES

same_some : {X : Type 0} {x y : X} → ◌≡◌ {A = Option X} (Some x) (Some y) → x ≡ y
same_some e = cc

-- what is found in a longer list
last_or : {X : Type 0} (xs : List X) (x : X) (k : ℕ) (y : X) → slice_get (xs ++ x ∷ []) k ≡ Some y → (slice_get xs k ≡ Some y) ⊎ ((k ≡ length xs) × (x ≡ y))
last_or [] x zero y e = inr (refl, same_some e)
last_or {X} [] x (suc k) y e = let no : ◌≡◌ {A = Option X} None (Some y) = e in cc
last_or (z ∷ xs) x zero y e = inl e
last_or (z ∷ xs) x (suc k) y e = elim (last_or xs x k y e) [
  | inl there ↦ inl there
  | inr last ↦ let at = last.0 in inr (omega (arith, at), last.1)
]

-- no word
pub of_none : (rounds floors : ℕ) (presses : List Press) → presses ≡ [] → AreOfWords rounds floors [] presses
of_none rounds floors presses e = record {
  long = ap length e;
  each = λ k word press at there. let low = slice_get_within [] k word at in absurd (omega (arith, low));
}

-- one word more
pub one_more : (rounds floors : ℕ) (words : List (List ℕ)) (presses : List Press) (w : List ℕ) (p : Press) → AreOfWords rounds floors words presses → IsPress rounds floors w p
    → AreOfWords rounds floors (words ++ w ∷ []) (presses ++ p ∷ [])
one_more rounds floors words presses w p are is = record {
  long = length-append presses (p ∷ []) ∙ ap (λ n. n + 1) are.long ∙ sym (length-append words (w ∷ []));
  each = λ k word press at there. elim (last_or words w k word at) [
    | inl before ↦ elim (last_or presses p k press there) [
      | inl found ↦ are.each k word press before found
      | inr last ↦ let low = slice_get_within words k word before in let long = are.long in let at_end = last.0 in absurd (omega (arith, low, long, at_end))
    ]
    | inr end ↦ elim (last_or presses p k press there) [
      | inl found ↦ let low = slice_get_within presses k press found in let long = are.long in let at_end = end.0 in absurd (omega (arith, low, long, at_end))
      | inr last ↦ subst (λ v. IsPress rounds floors v press) end.1 (subst (λ q. IsPress rounds floors w q) last.1 is)
    ]
  ];
}

-- the words so far and the next one
pub so_far : (before : List (List ℕ)) (words : List (String Global)) (i : ℕ) (w : String Global) → i < length words → w ≡ get_or words i w
    → (before ++ map string_bytes (take i words)) ++ string_bytes w ∷ [] ≡ before ++ map string_bytes (take (i + 1) words)
so_far before words i w low e =
    append_assoc before (map string_bytes (take i words)) (string_bytes w ∷ [])
    ∙ ap (λ ws. before ++ ws) (sym (map-append string_bytes (take i words) (w ∷ [])))
    ∙ ap (λ ws. before ++ map string_bytes ws) (ap (λ v. take i words ++ v ∷ []) e ∙ sym (take-suc words i w low) ∙ ap (λ n. take n words) (sym (add-one i)))

in_front : (xs ys : List (List ℕ)) (k : ℕ) (word : List ℕ) → slice_get xs k ≡ Some word → slice_get (xs ++ ys) k ≡ Some word
in_front [] ys k word e = let low = slice_get_within [] k word e in absurd (omega (arith, low))
in_front (x ∷ xs) ys zero word e = e
in_front (x ∷ xs) ys (suc k) word e = in_front xs ys k word e

in_back : (xs ys : List (List ℕ)) (k : ℕ) (word : List ℕ) → slice_get ys k ≡ Some word → (n : ℕ) × (slice_get (xs ++ ys) n ≡ Some word)
in_back [] ys k word e = (k, e)
in_back (x ∷ xs) ys k word e = let more = in_back xs ys k word e in (suc more.0, more.1)

-- words in two parts, where one has a word that spells no press
pub none_in_front : (rounds floors : ℕ) (xs ys : List (List ℕ)) (why : PressFault) → IsUnpressedWord rounds floors xs why → IsUnpressedWord rounds floors (xs ++ ys) why
none_in_front rounds floors xs ys (Bad word) has = record { place = has.place; stands = in_front xs ys has.place (string_bytes word) has.stands; none = has.none }
none_in_front rounds floors xs ys TooMany has = has
none_in_front rounds floors xs ys NoMemory has = tt

pub none_in_back : (rounds floors : ℕ) (xs ys : List (List ℕ)) (why : PressFault) → IsUnpressedWord rounds floors ys why → IsUnpressedWord rounds floors (xs ++ ys) why
none_in_back rounds floors xs ys (Bad word) has = let at = in_back xs ys has.place (string_bytes word) has.stands in record { place = at.0; stands = at.1; none = has.none }
none_in_back rounds floors xs ys TooMany has = has
none_in_back rounds floors xs ys NoMemory has = tt

-- more than 1000 are refused before each is looked at
pub any_unpressed : (rounds floors : ℕ) (words : List (List ℕ)) (why : PressFault) → IsUnpressedWord rounds floors words why → IsUnpressed rounds floors words why
any_unpressed rounds floors words (Bad word) has = has
any_unpressed rounds floors words TooMany has = absurd has
any_unpressed rounds floors words NoMemory has = tt
