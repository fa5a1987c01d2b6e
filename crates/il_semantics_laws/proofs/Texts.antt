-- Paths apart: a word has neither a point nor a bracket.
use Rattle.std.proofs.Common.{◌≡◌, true, ℕ, suc, [], ◌∷◌, ◌++◌, refl, sym, ap, ◌∙◌, subst, codes, append_assoc, arith, ◌⊎◌, inl, inr}
use Rattle.std.proofs.lemmas.List.{append_cancel_left}
use Rattle.std.specs.Prelude.{Contains, ℤ}
use Rattle.std.specs.Fmt.{signed_decimal}
use Rattle.std.proofs.lemmas.Map.Lookups.{exact_bytes}
use Rattle.std.specs.Ordering.{eq_by_cmp, is_eq}
use Rattle.std.specs.Cmp.{eq_by_cmp_equiv}
use Rattle.std.specs.Cmp.Lexicographic.{nat_list_cmp_total}
use Rattle.std.specs.declared.cmp.Ordering.{Ordering}
use Rattle.std.specs.declared.cmp.Ordering.TheVariants.{Less, Equal, Greater}
use Rattle.base_maps.specs.NameMap.{Text, order}
use Rattle.il_semantics.specs.Meaning.{under, element_path, member_path}
use Rattle.il_statics.specs.Written.{IsWord}
use Rattle.base_maps.proofs.Texts.{is_eq_true}

-- what follows another text is in the text
pub behind : (a : Text) (x : ℕ) (b : Text) → Contains (a ++ x ∷ b) x
behind [] x b = (0, omega arith, refl)
behind (y ∷ a) x b = let r = behind a x b in (suc r.0, omega (arith, r.1), r.2)

-- a point and a name after a path, and an element's index
pub member_is : (path word : Text) → member_path path word ≡ path ++ 46 ∷ word
member_is path word = append_assoc path (codes ".") word

pub element_is : (path : Text) (z : ℤ) → element_path path z ≡ path ++ 91 ∷ (signed_decimal z ++ codes "]")
element_is path z = ap (λ t. t ++ codes "]") (append_assoc path (codes "[") (signed_decimal z)) ∙ append_assoc path (91 ∷ signed_decimal z) (codes "]")

pub under_is : (x : ℕ) (xs name : Text) → under (x ∷ xs) name ≡ (x ∷ xs) ++ 46 ∷ name
under_is x xs name = append_assoc (x ∷ xs) (codes ".") name

-- what follows a variable of a body follows its name
under_behind : (path name rest : Text) → under path name ++ rest ≡ under path (name ++ rest)
under_behind [] name rest = refl
under_behind (x ∷ xs) name rest =
    ap (λ t. t ++ rest) (under_is x xs name) ∙ append_assoc (x ∷ xs) (46 ∷ name) rest ∙ sym (under_is x xs (name ++ rest))

-- one word is one variable
pub under_injective : (path a b : Text) → under path a ≡ under path b → a ≡ b
under_injective [] a b e = e
under_injective (x ∷ xs) a b e =
    let all : (x ∷ xs) ++ 46 ∷ a ≡ (x ∷ xs) ++ 46 ∷ b = sym (under_is x xs a) ∙ e ∙ under_is x xs b in
    append_cancel_left (46 ∷ []) a b (append_cancel_left (x ∷ xs) (46 ∷ a) (46 ∷ b) all)

-- two variables of one body
under_cancel : (path a b rest : Text) → under path a ≡ under path b ++ rest → a ≡ b ++ rest
under_cancel path a b rest e = under_injective path a (b ++ rest) (e ∙ under_behind path b rest)

-- a word is no element's path
pub no_element : (path name other : Text) (z : ℤ) → IsWord name → ¬ (under path name ≡ element_path (under path other) z)
no_element path name other z word e =
    word.no_bracket (subst (λ (t : Text). Contains t 91) (sym (under_cancel path name other _ (e ∙ element_is (under path other) z))) (behind other 91 (signed_decimal z ++ codes "]")))

-- nor a member's
pub no_member : (path name instance inner : Text) → IsWord name → ¬ (under path name ≡ member_path (under path instance) inner)
no_member path name instance inner word e =
    word.no_point (subst (λ (t : Text). Contains t 46) (sym (under_cancel path name instance _ (e ∙ member_is (under path instance) inner))) (behind instance 46 inner))

-- a text before the last point is another, or begins with it and a point
before_point : (a b name rest : Text) → ¬ Contains name 46 → a ++ 46 ∷ name ≡ b ++ 46 ∷ rest → (a ≡ b) ⊎ ((more : Text) × (a ≡ b ++ 46 ∷ more))
before_point [] [] name rest none e = inl refl
before_point [] (y ∷ b) name rest none e = let same : name ≡ b ++ 46 ∷ rest = cc in absurd (none (subst (λ (t : Text). Contains t 46) (sym same) (behind b 46 rest)))
before_point (x ∷ a) [] name rest none e = let same : x ≡ 46 = cc in inr (a, ap (λ w. w ∷ a) same)
before_point (x ∷ a) (y ∷ b) name rest none e =
    let head : x ≡ y = cc in
    let tail : a ++ 46 ∷ name ≡ b ++ 46 ∷ rest = cc in
    joined head (before_point a b name rest none tail)
  where
    joined : x ≡ y → (a ≡ b) ⊎ ((more : Text) × (a ≡ b ++ 46 ∷ more)) → (◌≡◌ {A = Text} (x ∷ a) (y ∷ b)) ⊎ ((more : Text) × ◌≡◌ {A = Text} (x ∷ a) (y ∷ (b ++ 46 ∷ more)))
    joined h (inl e) = inl cc
    joined h (inr r) = inr (r.0, let e = r.1 in cc)

-- a scalar of a body is not within another path that is apart from it
pub apart : (path name other rest : Text) → IsWord name → ¬ (path ≡ other) → ((more : Text) → ¬ (path ≡ other ++ 46 ∷ more)) → ¬ (under path name ≡ other ++ 46 ∷ rest)
apart [] name other rest word other_path outside e = word.no_point (subst (λ (t : Text). Contains t 46) (sym e) (behind other 46 rest))
apart (x ∷ path) name other rest word other_path outside e = by_side (before_point (x ∷ path) other name rest word.no_point (sym (under_is x path name) ∙ e))
  where
    by_side : (◌≡◌ {A = Text} (x ∷ path) other) ⊎ ((more : Text) × ◌≡◌ {A = Text} (x ∷ path) (other ++ 46 ∷ more)) → ⊥
    by_side (inl same) = other_path same
    by_side (inr r) = outside r.0 r.1

pub same_text : (q k : Text) → eq_by_cmp order q k ≡ true → q ≡ k
same_text q k h = exact_bytes q k (is_eq_true (order q k) h)

pub text_itself : (q : Text) → eq_by_cmp order q q ≡ true
text_itself q = (eq_by_cmp_equiv nat_list_cmp_total).refl q

-- what a body at a path keeps is within the path
pub element_within : (x : ℕ) (xs name : Text) (z : ℤ) → element_path (under (x ∷ xs) name) z ≡ (x ∷ xs) ++ 46 ∷ (name ++ 91 ∷ (signed_decimal z ++ codes "]"))
element_within x xs name z = element_is (under (x ∷ xs) name) z ∙ ap (λ t. t ++ 91 ∷ (signed_decimal z ++ codes "]")) (under_is x xs name) ∙ append_assoc (x ∷ xs) (46 ∷ name) (91 ∷ (signed_decimal z ++ codes "]"))

pub member_within : (x : ℕ) (xs instance word : Text) → member_path (under (x ∷ xs) instance) word ≡ (x ∷ xs) ++ 46 ∷ (instance ++ 46 ∷ word)
member_within x xs instance word = member_is (under (x ∷ xs) instance) word ∙ ap (λ t. t ++ 46 ∷ word) (under_is x xs instance) ∙ append_assoc (x ∷ xs) (46 ∷ instance) (46 ∷ word)
