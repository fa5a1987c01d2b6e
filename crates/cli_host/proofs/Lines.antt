-- The lines of the file of `--calls`, and their words.
use Rattle.std.proofs.Common.{arith, ◌≡◌, ◌≢◌, ◌≤◌, ◌<◌, ◌+◌, inl, inr, ℕ, zero, suc, List, [], ◌∷◌, ◌++◌, append_assoc, length, length-append, get_or, take, drop, refl, sym, ap, ◌∙◌, subst}
use Rattle.std.specs.Prelude.{slice_index, flat_map}
use Rattle.std.specs.Str.{IsAscii, IsUtf8}
use Rattle.std.specs.List.{AllByRecursion, filter, slice_split, position_or_len}
use Rattle.std.proofs.Math.Numerals.{add-one}
use Rattle.std.proofs.lemmas.Bool.{cases_lt}
use Rattle.std.proofs.lemmas.Str.{IsUtf8-from_ascii}
use Rattle.std.proofs.lemmas.List.{take_all}
use Rattle.std.proofs.lemmas.List.Sums.{fails_before_first}
use Rattle.std.proofs.lemmas.List.Splits.{slice_split_none, slice_split_first}
use Rattle.cli_host.specs.Requests.{IsDigits, IsNumberTo}
use Rattle.cli_host.specs.Presses.{IsPressOf}
use Rattle.cli_host.specs.CallsFile.{is_cut, has_byte, lines_of, words_in, AreCallsOf, AreLineWords, ArePressWords, AreSettingWords, AreLines, IsLine, IsFirstBad, IsFirstBeyond, IsSetting, Say, SayBefore, most_lines, presses_of, settings_of}
use Rattle.cli_host.specs.CallsFile.ArePressWords.{plain, at_panel}
use Rattle.cli_host.specs.declared.calls.Cut.{Cut}
use Rattle.cli_host.specs.declared.calls.Line.{Line}
use Rattle.cli_host.specs.declared.calls.Line.TheVariants as line
use Rattle.cli_host.specs.declared.press.Press.{Press}
use Rattle.cli_host.specs.declared.press.Set.{Set}
use Rattle.cli_host.specs.declared.press.Setting.{Setting}

cut : {x y : List ℕ} {xs ys : List (List ℕ)} → x ∷ xs ≡ y ∷ ys → (x ≡ y) × (xs ≡ ys)
cut e = (cc, cc)

no_more : {x : List ℕ} {xs : List (List ℕ)} → x ∷ xs ≡ [] → ⊥
no_more e = cc

-- BYTES

beyond : (xs : List ℕ) (i : ℕ) → (i < length xs → ⊥) → get_or xs i 0 ≡ 0
beyond [] zero out = refl
beyond [] (suc i) out = refl
beyond (x ∷ xs) zero out = absurd (out (omega arith))
beyond (x ∷ xs) (suc i) out = beyond xs i (λ low. out (omega (arith, low)))

digits_ascii : (text : List ℕ) → IsDigits text → IsAscii text
digits_ascii text digits i = elim (cases_lt i (length text)) [
  | inl low ↦ let at = digits i low in omega (arith, at)
  | inr high ↦ let none = beyond text i (λ low. omega (arith, low, high)) in omega (arith, none)
]

-- digits are a text
pub digits_utf8 : (text : List ℕ) → IsDigits text → IsUtf8 text
digits_utf8 text digits = IsUtf8-from_ascii text (digits_ascii text digits)

-- PIECES

drop_next : (n : ℕ) (xs : List ℕ) (x : ℕ) (more : List ℕ) → drop n xs ≡ x ∷ more → (n < length xs) × (more ≡ drop (suc n) xs)
drop_next zero [] x more e = let none = ap length e in absurd (omega (arith, none))
drop_next zero (y ∷ xs) x more e = (omega arith, cc)
drop_next (suc n) [] x more e = let none = ap length e in absurd (omega (arith, none))
drop_next (suc n) (y ∷ xs) x more e = let rest = drop_next n xs x more e in (omega (arith, rest.0), rest.1)

drop_end : (n : ℕ) (xs : List ℕ) → length (drop n xs) ≡ 0 → n ≤ length xs → n ≡ length xs
drop_end zero [] e low = refl
drop_end zero (x ∷ xs) e low = absurd (omega (arith, e))
drop_end (suc n) [] e low = absurd (omega (arith, low))
drop_end (suc n) (x ∷ xs) e low = ap suc (drop_end n xs e (omega (arith, low)))

pub piece_first : (cut : Cut) (text front back left : List ℕ) (n first : ℕ) → n ≡ position_or_len (is_cut cut) text → front ≡ take n text → back ≡ drop n text → back ≡ first ∷ left
    → slice_split (is_cut cut) text ≡ front ∷ slice_split (is_cut cut) left
piece_first cut text front back left n first is e f g =
    let next = drop_next n text first left (sym f ∙ g) in
    slice_split_first (is_cut cut) text 0 (subst (λ k. k < length text) is next.0)
    ∙ ap (λ ps. ps ∷ slice_split (is_cut cut) (drop (position_or_len (is_cut cut) text + 1) text)) (ap (λ k. take k text) (sym is) ∙ sym e)
    ∙ ap (λ l. front ∷ slice_split (is_cut cut) l) (ap (λ k. drop (k + 1) text) (sym is) ∙ ap (λ k. drop k text) (add-one n) ∙ sym next.1)

pub piece_alone : (cut : Cut) (text front back : List ℕ) (n : ℕ) → n ≡ position_or_len (is_cut cut) text → n ≤ length text → front ≡ take n text → back ≡ drop n text → length back ≡ 0
    → slice_split (is_cut cut) text ≡ front ∷ []
piece_alone cut text front back n is low e f z =
    let all : n ≡ length text = drop_end n text (ap length (sym f) ∙ z) low in
    slice_split_none (is_cut cut) text (λ k d less. fails_before_first (is_cut cut) text k d (omega (arith, all, is, less)))
    ∙ ap (λ t. t ∷ []) (sym (take_all n text (omega (arith, all))) ∙ sym e)

-- WORDS

pub no_word : (piece : List ℕ) (pieces : List (List ℕ)) → length piece ≡ 0 → filter has_byte (piece ∷ pieces) ≡ filter has_byte pieces
no_word [] pieces z = refl
no_word (b ∷ bytes) pieces z = absurd (omega (arith, z))

pub one_word : (piece : List ℕ) (pieces : List (List ℕ)) → (length piece ≡ 0 → ⊥) → filter has_byte (piece ∷ pieces) ≡ piece ∷ filter has_byte pieces
one_word [] pieces some = absurd (some refl)
one_word (b ∷ bytes) pieces some = refl

-- WHAT A LINE SAYS

same_press : (rounds floors : ℕ) (a b c x y z : List ℕ) (p : Press) → a ≡ x → b ≡ y → c ≡ z → IsPressOf rounds floors a b c p → IsPressOf rounds floors x y z p
same_press rounds floors a b c x y z p e f g is =
    subst (λ t. IsPressOf rounds floors x y t p) g (subst (λ t. IsPressOf rounds floors x t c p) f (subst (λ t. IsPressOf rounds floors t b c p) e is))

-- a press of three words
pub of_three : (rounds floors : ℕ) (x y z : List ℕ) (p : Press) → ArePressWords rounds floors (x ∷ y ∷ z ∷ []) p → IsPressOf rounds floors x y z p
of_three rounds floors x y z p (plain a b c are is panel) =
    let one = cut (sym are) in let two = cut one.1 in let three = cut two.1 in same_press rounds floors a b c x y z p one.0 two.0 three.0 is
of_three rounds floors x y z p (at_panel a b c d are is panel) =
    absurd (no_more (cut (cut (cut (sym are)).1).1).1)

-- of four
pub of_four : (rounds floors : ℕ) (x y z w : List ℕ) (p : Press) → ArePressWords rounds floors (x ∷ y ∷ z ∷ w ∷ []) p → IsPressOf rounds floors x y z p × IsNumberTo 4 w p.panel
of_four rounds floors x y z w p (plain a b c are is panel) =
    absurd (no_more (cut (cut (cut are).1).1).1)
of_four rounds floors x y z w p (at_panel a b c d are is panel) =
    let one = cut (sym are) in let two = cut one.1 in let three = cut two.1 in let four = cut three.1 in
    (same_press rounds floors a b c x y z p one.0 two.0 three.0 is, subst (λ t. IsNumberTo 4 t p.panel) four.0 panel)

no_five : (rounds floors : ℕ) (x y z w v : List ℕ) (more : List (List ℕ)) (p : Press) → ArePressWords rounds floors (x ∷ y ∷ z ∷ w ∷ v ∷ more) p → ⊥
no_five rounds floors x y z w v more p (plain a b c are is panel) = no_more (cut (cut (cut are).1).1).1
no_five rounds floors x y z w v more p (at_panel a b c d are is panel) = no_more (cut (cut (cut (cut are).1).1).1).1

-- of fewer, none
few_none : (rounds floors : ℕ) (words : List (List ℕ)) (p : Press) → length words < 3 → ArePressWords rounds floors words p → ⊥
few_none rounds floors words p few (plain a b c are is panel) = let n = ap length are in omega (arith, n, few)
few_none rounds floors words p few (at_panel a b c d are is panel) = let n = ap length are in omega (arith, n, few)

three_alone : (rounds cars : ℕ) (words : List (List ℕ)) (s : Setting) → AreSettingWords rounds cars words s → length words ≡ 3
three_alone rounds cars words s are = ap length are.are

setting_of_three : (rounds cars : ℕ) (x y z : List ℕ) (s : Setting) → AreSettingWords rounds cars (x ∷ y ∷ z ∷ []) s → IsNumberTo rounds x s.round × IsSetting cars y z s.set
setting_of_three rounds cars x y z s are =
    let one = cut (sym are.are) in let two = cut one.1 in let three = cut two.1 in
    (subst (λ t. IsNumberTo rounds t s.round) one.0 are.round, subst (λ t. IsSetting cars y t s.set) three.0 (subst (λ t. IsSetting cars t are.value s.set) two.0 are.set))

-- nothing is said by words of which the first begins no comment
module _ (rounds floors cars : ℕ) (x : List ℕ) (starts : slice_index x 0 ≢ 35) where
  pub none_of_few : (words : List (List ℕ)) → length words < 2 → (said : Line) → AreLineWords rounds floors cars (x ∷ words) said → ⊥
  none_of_few words few line.Nothing are = starts are
  none_of_few words few (line.OfPress p) are = few_none rounds floors (x ∷ words) p (omega (arith, few)) are
  none_of_few words few (line.OfSetting s) are = let n = three_alone rounds cars (x ∷ words) s are in omega (arith, n, few)

  pub none_of_many : (y z w v : List ℕ) (more : List (List ℕ)) → (said : Line) → AreLineWords rounds floors cars (x ∷ y ∷ z ∷ w ∷ v ∷ more) said → ⊥
  none_of_many y z w v more line.Nothing are = starts are
  none_of_many y z w v more (line.OfPress p) are = no_five rounds floors x y z w v more p are
  none_of_many y z w v more (line.OfSetting s) are = let n = three_alone rounds cars (x ∷ y ∷ z ∷ w ∷ v ∷ more) s are in omega (arith, n)

  pub none_of_three : (y z : List ℕ) → ((p : Press) → IsPressOf rounds floors x y z p → ⊥) → ((s : Set) → IsSetting cars y z s → ⊥) → (said : Line) → AreLineWords rounds floors cars (x ∷ y ∷ z ∷ []) said → ⊥
  none_of_three y z press set line.Nothing are = starts are
  none_of_three y z press set (line.OfPress p) are = press p (of_three rounds floors x y z p are)
  none_of_three y z press set (line.OfSetting s) are = set s.set (setting_of_three rounds cars x y z s are).1

  pub none_of_round : (y z : List ℕ) → ((n : ℕ) → IsNumberTo rounds x n → ⊥) → (said : Line) → AreLineWords rounds floors cars (x ∷ y ∷ z ∷ []) said → ⊥
  none_of_round y z round line.Nothing are = starts are
  none_of_round y z round (line.OfPress p) are = round p.round (of_three rounds floors x y z p are).round
  none_of_round y z round (line.OfSetting s) are = round s.round (setting_of_three rounds cars x y z s are).0

  pub none_of_four : (y z w : List ℕ) → ((p : Press) → IsPressOf rounds floors x y z p → IsNumberTo 4 w p.panel → ⊥) → (said : Line) → AreLineWords rounds floors cars (x ∷ y ∷ z ∷ w ∷ []) said → ⊥
  none_of_four y z w press line.Nothing are = starts are
  none_of_four y z w press (line.OfPress p) are = let it = of_four rounds floors x y z w p are in press p it.0 it.1
  none_of_four y z w press (line.OfSetting s) are = let n = three_alone rounds cars (x ∷ y ∷ z ∷ w ∷ []) s are in omega (arith, n)

-- LINES SO FAR

add_line : (rounds floors cars : ℕ) (before : List (List ℕ)) (read : List Line) (text : List ℕ) (said : Line) → AreLines rounds floors cars before read → IsLine rounds floors cars text said
    → AreLines rounds floors cars (before ++ text ∷ []) (read ++ said ∷ [])
add_line rounds floors cars [] [] text said are is = (is, tt)
add_line rounds floors cars [] (r ∷ read) text said are is = absurd are
add_line rounds floors cars (b ∷ before) [] text said are is = absurd are
add_line rounds floors cars (b ∷ before) (r ∷ read) text said are is = (are.0, add_line rounds floors cars before read text said are.1 is)

module _ {X : Type 0} (of : Line → List X) where
  nothing : (xs : List X) → xs ++ [] ≡ xs
  nothing [] = refl
  nothing (x ∷ xs) = ap (λ l. x ∷ l) (nothing xs)

  one_more : (read : List Line) (said : Line) → flat_map of (read ++ said ∷ []) ≡ flat_map of read ++ of said
  one_more [] said = nothing (of said)
  one_more (r ∷ read) said = ap (λ l. of r ++ l) (one_more read said) ∙ sym (append_assoc (of r) (flat_map of read) (of said))

-- lines so far, of which each says something
pub record SaidSoFar (rounds floors cars : ℕ) (lines : List (List ℕ)) (number : ℕ) (behind : List (List ℕ)) (presses : List Press) (settings : List Setting) : Type 0 where
  pub before : List (List ℕ)
  pub are : lines ≡ before ++ behind
  pub place : number ≡ length before + 1
  pub say : Say rounds floors cars before presses settings
  pub few : number ≤ most_lines + 1

pub none_so_far : (rounds floors cars : ℕ) (lines : List (List ℕ)) (presses : List Press) (settings : List Setting) → presses ≡ [] → settings ≡ [] → SaidSoFar rounds floors cars lines 1 lines presses settings
none_so_far rounds floors cars lines presses settings e f = record {
  before = [];
  are = refl;
  place = refl;
  say = record { read = []; each = tt; presses_are = e; settings_are = f };
  few = omega arith;
}

pub one_further : (rounds floors cars : ℕ) (lines : List (List ℕ)) (number : ℕ) (text : List ℕ) (behind : List (List ℕ)) (presses more : List Press) (settings others : List Setting) (said : Line)
    → number ≤ most_lines → SaidSoFar rounds floors cars lines number (text ∷ behind) presses settings → IsLine rounds floors cars text said → more ≡ presses ++ presses_of said → others ≡ settings ++ settings_of said
    → SaidSoFar rounds floors cars lines (number + 1) behind more others
one_further rounds floors cars lines number text behind presses more settings others said low so is e f = record {
  before = so.before ++ text ∷ [];
  are = so.are ∙ sym (append_assoc so.before (text ∷ []) behind);
  place = omega (arith, so.place, length-append so.before (text ∷ []));
  say = record {
    read = so.say.read ++ said ∷ [];
    each = add_line rounds floors cars so.before so.say.read text said so.say.each is;
    presses_are = e ∙ ap (λ l. l ++ presses_of said) so.say.presses_are ∙ sym (one_more presses_of so.say.read said);
    settings_are = f ∙ ap (λ l. l ++ settings_of said) so.say.settings_are ∙ sym (one_more settings_of so.say.read said);
  };
  few = omega (arith, low);
}

before_this : (rounds floors cars : ℕ) (lines : List (List ℕ)) (number : ℕ) (behind : List (List ℕ)) (presses : List Press) (settings : List Setting) → SaidSoFar rounds floors cars lines number behind presses settings
    → SayBefore rounds floors cars lines number behind
before_this rounds floors cars lines number behind presses settings so = record { before = so.before; are = so.are; place = so.place; presses = presses; settings = settings; say = so.say }

pub first_bad : (rounds floors cars : ℕ) (lines : List (List ℕ)) (number : ℕ) (text : List ℕ) (behind : List (List ℕ)) (presses : List Press) (settings : List Setting) → number ≤ most_lines
    → SaidSoFar rounds floors cars lines number (text ∷ behind) presses settings → ((said : Line) → IsLine rounds floors cars text said → ⊥) → IsFirstBad rounds floors cars lines number
first_bad rounds floors cars lines number text behind presses settings low so none = record {
  bad = text;
  rest = behind;
  before = before_this rounds floors cars lines number (text ∷ behind) presses settings so;
  none = none;
  few = low;
}

pub first_beyond : (rounds floors cars : ℕ) (lines : List (List ℕ)) (number : ℕ) (text : List ℕ) (behind : List (List ℕ)) (presses : List Press) (settings : List Setting) → most_lines < number
    → SaidSoFar rounds floors cars lines number (text ∷ behind) presses settings → IsFirstBeyond rounds floors cars lines number
first_beyond rounds floors cars lines number text behind presses settings high so = record {
  line = text;
  rest = behind;
  before = before_this rounds floors cars lines number (text ∷ behind) presses settings so;
  beyond = let few = so.few in omega (arith, few, high);
}

pub all_said : (rounds floors cars : ℕ) (lines : List (List ℕ)) (number : ℕ) (presses : List Press) (settings : List Setting) → SaidSoFar rounds floors cars lines number [] presses settings
    → (length lines ≤ most_lines) × Say rounds floors cars lines presses settings
all_said rounds floors cars lines number presses settings so =
    let all : lines ≡ so.before = so.are ∙ nil so.before in
    (omega (arith, ap length all, so.place, so.few), subst (λ ls. Say rounds floors cars ls presses settings) (sym all) so.say)
  where
    nil : (ls : List (List ℕ)) → ls ++ [] ≡ ls
    nil [] = refl
    nil (l ∷ ls) = ap (λ ws. l ∷ ws) (nil ls)

-- WHAT HOLDS OF ALL THAT A FILE SAYS

module _ (rounds floors cars : ℕ) (Holds : Press → Type 0) (holds : (first second third : List ℕ) (press : Press) → IsPressOf rounds floors first second third press → Holds press) where
  of_words : (words : List (List ℕ)) (press : Press) → ArePressWords rounds floors words press → Holds press
  of_words words press (plain a b c are is panel) = holds a b c press is
  of_words words press (at_panel a b c d are is panel) = holds a b c press is

  of_presses : (lines : List (List ℕ)) (read : List Line) → AreLines rounds floors cars lines read → AllByRecursion Holds (flat_map presses_of read)
  of_presses [] [] are = tt
  of_presses [] (r ∷ read) are = absurd are
  of_presses (l ∷ lines) [] are = absurd are
  of_presses (l ∷ lines) (line.Nothing ∷ read) are = of_presses lines read are.1
  of_presses (l ∷ lines) (line.OfPress p ∷ read) are = (of_words (words_in l) p are.0, of_presses lines read are.1)
  of_presses (l ∷ lines) (line.OfSetting s ∷ read) are = of_presses lines read are.1

  -- what holds of a press that words spell, holds of each press of a file
  pub all_presses : (text : List ℕ) (presses : List Press) (settings : List Setting) → AreCallsOf rounds floors cars text presses settings → AllByRecursion Holds presses
  all_presses text presses settings are = subst (AllByRecursion Holds) (sym are.say.presses_are) (of_presses (lines_of text) are.say.read are.say.each)

module _ (rounds floors cars : ℕ) (Holds : Press → Type 0) (holds : (first second third : List ℕ) (press : Press) → IsPressOf rounds floors first second third press → 1 ≤ press.panel → press.panel ≤ 4 → Holds press) where
  at_words : (words : List (List ℕ)) (press : Press) → ArePressWords rounds floors words press → Holds press
  at_words words press (plain a b c are is panel) = holds a b c press is (omega (arith, panel)) (omega (arith, panel))
  at_words words press (at_panel a b c d are is panel) = holds a b c press is panel.least panel.most

  at_presses : (lines : List (List ℕ)) (read : List Line) → AreLines rounds floors cars lines read → AllByRecursion Holds (flat_map presses_of read)
  at_presses [] [] are = tt
  at_presses [] (r ∷ read) are = absurd are
  at_presses (l ∷ lines) [] are = absurd are
  at_presses (l ∷ lines) (line.Nothing ∷ read) are = at_presses lines read are.1
  at_presses (l ∷ lines) (line.OfPress p ∷ read) are = (at_words (words_in l) p are.0, at_presses lines read are.1)
  at_presses (l ∷ lines) (line.OfSetting s ∷ read) are = at_presses lines read are.1

  -- the same with the panel, which is one of four
  pub all_at_panels : (text : List ℕ) (presses : List Press) (settings : List Setting) → AreCallsOf rounds floors cars text presses settings → AllByRecursion Holds presses
  all_at_panels text presses settings are = subst (AllByRecursion Holds) (sym are.say.presses_are) (at_presses (lines_of text) are.say.read are.say.each)

module _ (rounds floors cars : ℕ) (Holds : Setting → Type 0) (holds : (first name value : List ℕ) (setting : Setting) → IsNumberTo rounds first setting.round → IsSetting cars name value setting.set → Holds setting) where
  of_settings : (lines : List (List ℕ)) (read : List Line) → AreLines rounds floors cars lines read → AllByRecursion Holds (flat_map settings_of read)
  of_settings [] [] are = tt
  of_settings [] (r ∷ read) are = absurd are
  of_settings (l ∷ lines) [] are = absurd are
  of_settings (l ∷ lines) (line.Nothing ∷ read) are = of_settings lines read are.1
  of_settings (l ∷ lines) (line.OfPress p ∷ read) are = of_settings lines read are.1
  of_settings (l ∷ lines) (line.OfSetting s ∷ read) are = (holds are.0.first are.0.name are.0.value s are.0.round are.0.set, of_settings lines read are.1)

  -- and of each setting
  pub all_settings : (text : List ℕ) (presses : List Press) (settings : List Setting) → AreCallsOf rounds floors cars text presses settings → AllByRecursion Holds settings
  all_settings text presses settings are = subst (AllByRecursion Holds) (sym are.say.settings_are) (of_settings (lines_of text) are.say.read are.say.each)
