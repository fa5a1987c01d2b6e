-- Tests of names: what is a word, the words of standard blocks and of the image.
use Rattle.std.proofs.Common.{◌≡◌, ℕ, zero, suc, Bool, true, false, not, ◌&&◌, List, [], ◌∷◌, refl, sym, ap, ◌∙◌, cond, Some, arith}
use Rattle.std.proofs.lemmas.Bool.Decides.{nat_tests}
use Rattle.std.proofs.lemmas.Slice.Eq.{bytes_eq-Decides}
use Rattle.std.proofs.lemmas.Option.{same_Some}
use Rattle.std.specs.Prelude.{Contains, find, bytes_eq, ◌==◌, ℤ}
use Rattle.il_syntax.specs.declared.tree.Form.{Form}
use Rattle.il_syntax.specs.declared.tree.Form.TheVariants.{Scalar as ScalarForm, Array as ArrayForm, Block as BlockForm}
use Rattle.il_statics.specs.declared.names.StandardBlock.{StandardBlock}
use Rattle.il_statics.specs.Names.{ImageName, image_of}
use Rattle.base_maps.specs.NameMap.{Text}
use Rattle.il_statics.specs.Written.{IsWord}
use Rattle.il_statics.proofs.Every.{all_of, first_of_two, second_of_two, contains_all, every_block}
use Rattle.il_semantics_laws.proofs.Blocks.{words_of}

-- TESTS OF LISTS

pub found_all : {A : Type 0} (test wanted : A → Bool) (xs : List A) (x : A) → all_of test xs ≡ true → find wanted xs ≡ Some x → (test x ≡ true) × (wanted x ≡ true)
found_all test wanted [] x all e = cc
found_all test wanted (y ∷ xs) x all e = by_test (wanted y) refl e (found_all test wanted xs x (second_of_two (test y) _ all))
  where
    by_test : (b : Bool) → wanted y ≡ b → cond b (Some y) (find wanted xs) ≡ Some x → (find wanted xs ≡ Some x → (test x ≡ true) × (wanted x ≡ true)) → (test x ≡ true) × (wanted x ≡ true)
    by_test true is e more = let same : y ≡ x = same_Some y x e in (ap test (sym same) ∙ first_of_two (test y) _ all, ap wanted (sym same) ∙ is)
    by_test false is e more = more e

-- WORDS

abbrev pub lacks : ℕ → Text → Bool
lacks x t = all_of (λ y. not (y == x)) t

abbrev pub is_word : Text → Bool
is_word [] = false
is_word (x ∷ xs) = lacks 46 (x ∷ xs) && lacks 91 (x ∷ xs) && lacks 10 (x ∷ xs)

differs : (x : ℕ) → not (x == x) ≡ true → ⊥
differs x e = grind (arith, nat_tests)

pub word_by : (t : Text) → is_word t ≡ true → IsWord t
word_by [] e = cc
word_by (x ∷ xs) e = record {
  some = λ f. cc;
  no_point = λ among. differs 46 (contains_all (λ y. not (y == 46)) (x ∷ xs) 46 (first_of_two (lacks 46 (x ∷ xs)) (lacks 91 (x ∷ xs)) marks) among);
  no_bracket = λ among. differs 91 (contains_all (λ y. not (y == 91)) (x ∷ xs) 91 (second_of_two (lacks 46 (x ∷ xs)) (lacks 91 (x ∷ xs)) marks) among);
  no_feed = λ among. differs 10 (contains_all (λ y. not (y == 10)) (x ∷ xs) 10 (second_of_two (lacks 46 (x ∷ xs) && lacks 91 (x ∷ xs)) (lacks 10 (x ∷ xs)) e) among);
}
  where
    marks : (lacks 46 (x ∷ xs) && lacks 91 (x ∷ xs)) ≡ true
    marks = first_of_two (lacks 46 (x ∷ xs) && lacks 91 (x ∷ xs)) (lacks 10 (x ∷ xs)) e

-- BLOCKS

-- a standard block's words
pub words_good : (b : StandardBlock) → all_of (λ (e : Text × Form). is_word e.0) (words_of b) ≡ true
words_good = every_block (λ b. all_of (λ (e : Text × Form). is_word e.0) (words_of b)) refl

-- no two entries have one name
abbrev pub are_apart : List (Text × Form) → Bool
are_apart [] = true
are_apart (e ∷ es) = all_of (λ (d : Text × Form). not (bytes_eq e.0 d.0)) es && are_apart es

pub apart_good : (b : StandardBlock) → are_apart (words_of b) ≡ true
apart_good = every_block (λ b. are_apart (words_of b)) refl

twice : (d : Text × Form) (es : List (Text × Form)) (name : Text) (g : Form) → all_of (λ (x : Text × Form). not (bytes_eq d.0 x.0)) es ≡ true → d.0 ≡ name → Contains es (name, g) → ⊥
twice d es name g all same among =
    let no = contains_all (λ (x : Text × Form). not (bytes_eq d.0 x.0)) es (name, g) all among in
    let yes = (bytes_eq-Decides d.0 name).1 same in
    let never : not true ≡ true = ap not (sym yes) ∙ no in cc

pub one_form : (es : List (Text × Form)) (name : Text) (f g : Form) → are_apart es ≡ true → Contains es (name, f) → Contains es (name, g) → f ≡ g
one_form [] name f g e a b = let low = a.1 in absurd (omega arith)
one_form (d ∷ es) name f g e (zero, l, same) (zero, m, also) = ap (λ (x : Text × Form). x.1) (sym same ∙ also)
one_form (d ∷ es) name f g e (suc i, l, same) (suc j, m, also) = one_form es name f g (second_of_two (all_of _ es) _ e) (i, omega arith, same) (j, omega arith, also)
one_form (d ∷ es) name f g e (zero, l, same) (suc j, m, also) = absurd (twice d es name g (first_of_two _ _ e) (ap (λ (x : Text × Form). x.0) same) (j, omega arith, also))
one_form (d ∷ es) name f g e (suc i, l, same) (zero, m, also) = absurd (twice d es name f (first_of_two _ _ e) (ap (λ (x : Text × Form). x.0) also) (i, omega arith, same))

-- the image's names are words, and none is an instance's
abbrev pub is_no_block : Form → Bool
is_no_block (BlockForm b) = false
is_no_block (ScalarForm s) = true
is_no_block (ArrayForm bounds e) = true

pub images_are_words : (cars floors slots : ℤ) → all_of (λ (i : ImageName). is_word i.variable.name && is_no_block i.variable.form) (image_of cars floors slots) ≡ true
images_are_words cars floors slots = refl

-- no two of a list have one name
abbrev pub are_apart_by : {A : Type 0} → (A → Text) → List A → Bool
are_apart_by name [] = true
are_apart_by name (x ∷ xs) = all_of (λ y. not (bytes_eq (name x) (name y))) xs && are_apart_by name xs

other_name : {A : Type 0} (name : A → Text) (x : A) (xs : List A) (y : A) → all_of (λ z. not (bytes_eq (name x) (name z))) xs ≡ true → name x ≡ name y → Contains xs y → ⊥
other_name name x xs y all same among =
    let no = contains_all (λ z. not (bytes_eq (name x) (name z))) xs y all among in
    let yes = (bytes_eq-Decides (name x) (name y)).1 same in
    let never : not true ≡ true = ap not (sym yes) ∙ no in cc

pub one_by_name : {A : Type 0} (name : A → Text) (xs : List A) (x y : A) → are_apart_by name xs ≡ true → Contains xs x → Contains xs y → name x ≡ name y → x ≡ y
one_by_name name [] x y e a b same = let low = a.1 in absurd (omega arith)
one_by_name name (z ∷ zs) x y e (zero, l, is) (zero, m, js) same = sym is ∙ js
one_by_name name (z ∷ zs) x y e (suc i, l, is) (suc j, m, js) same = one_by_name name zs x y (second_of_two (all_of _ zs) _ e) (i, omega arith, is) (j, omega arith, js) same
one_by_name name (z ∷ zs) x y e (zero, l, is) (suc j, m, js) same = absurd (other_name name z zs y (first_of_two _ _ e) (ap name is ∙ same) (j, omega arith, js))
one_by_name name (z ∷ zs) x y e (suc i, l, is) (zero, m, js) same = absurd (other_name name z zs x (first_of_two _ _ e) (ap name js ∙ sym same) (i, omega arith, is))

-- no two names of the image are one
pub images_apart : (cars floors slots : ℤ) → are_apart_by (λ (i : ImageName). i.variable.name) (image_of cars floors slots) ≡ true
images_apart cars floors slots = refl
