-- Words of a command line apart, by the first option among them.
use Rattle.std.proofs.Common.{arith, ℕ, ◌≡◌, ◌<◌, Bool, true, false, List, [], ◌∷◌, ◌++◌, refl, sym, ap, ◌∙◌, subst, map, take, drop, length}
use Rattle.std.specs.Prelude.{Option, Some, codes, slice_get, String, string_bytes}
use Rattle.std.specs.Global.{Global}
use Rattle.cli_host.specs.Requests.{IsOption, AreNoOptions, AreApart, IsBehind, IsFirstApart, IsFlagApart}
use Rattle.cli_host.specs.Requests.AreApart.{without, one_first, two_first}
use Rattle.cli_host.proofs.Apart.{parted, front_of, is_at, has_one, front_none, back_none, both_none, nil_none, same_front}

cut : {x y : List ℕ} {xs ys : List (List ℕ)} → x ∷ xs ≡ y ∷ ys → (x ≡ y) × (xs ≡ ys)
cut e = (cc, cc)

-- WITHOUT OPTIONS

only_plain : (one two : List ℕ) → IsOption one → IsOption two → (words : List (List ℕ)) → AreNoOptions words → (positional : List (List ℕ)) (first second : Option (List ℕ)) → AreApart one two words positional first second → positional ≡ words
only_plain one two is_one is_two words plain positional first second (without is f c) = sym is
only_plain one two is_one is_two words plain positional first second (one_first h) = absurd (has_one IsOption h.before one h.rest is_one (subst AreNoOptions h.are plain))
only_plain one two is_one is_two words plain positional first second (two_first h) = absurd (has_one IsOption h.before two h.rest is_two (subst AreNoOptions h.are plain))

only_uncut : (words : List (List ℕ)) → AreNoOptions words → (positional : List (List ℕ)) (has : Bool) → IsFlagApart (codes "--cut") words positional has → positional ≡ words
only_uncut words plain positional false is = sym is
only_uncut words plain positional true h = absurd (has_one IsOption h.0 (codes "--cut") h.1 refl (subst AreNoOptions h.2 plain))

-- none is among words that end where the first one would be
ends : (words front back : List (String Global)) (n : ℕ) → front ≡ take n words → back ≡ drop n words → length back ≡ 0 → ((k : ℕ) (word : List ℕ) → k < n → slice_get (map string_bytes words) k ≡ Some word → IsOption word → ⊥)
    → AreNoOptions (map string_bytes words) × (map string_bytes words ≡ map string_bytes front ++ map string_bytes back)
ends words front [] n e f z before =
    let parts = parted words front [] n e f in
    (subst AreNoOptions (sym parts) (both_none IsOption (map string_bytes front) [] (front_of IsOption words front n e before) (nil_none IsOption)), parts)
ends words front (x ∷ back) n e f z before = absurd (omega (arith, z))

pub without_options : (one two : List ℕ) → IsOption one → IsOption two → (words front back : List (String Global)) (n : ℕ) → front ≡ take n words → back ≡ drop n words → length back ≡ 0 → ((k : ℕ) (word : List ℕ) → k < n → slice_get (map string_bytes words) k ≡ Some word → IsOption word → ⊥)
    → (positional : List (List ℕ)) (first second : Option (List ℕ)) → AreApart one two (map string_bytes words) positional first second → positional ≡ map string_bytes front ++ map string_bytes back
without_options one two is_one is_two words front back n e f z before positional first second apart =
    let are = ends words front back n e f z before in only_plain one two is_one is_two (map string_bytes words) are.0 positional first second apart ∙ are.1

pub without_cut : (words front back : List (String Global)) (n : ℕ) → front ≡ take n words → back ≡ drop n words → length back ≡ 0 → ((k : ℕ) (word : List ℕ) → k < n → slice_get (map string_bytes words) k ≡ Some word → IsOption word → ⊥)
    → (positional : List (List ℕ)) (has : Bool) → IsFlagApart (codes "--cut") (map string_bytes words) positional has → positional ≡ map string_bytes front ++ map string_bytes back
without_cut words front back n e f z before positional has apart =
    let are = ends words front back n e f z before in only_uncut (map string_bytes words) are.0 positional has apart ∙ are.1

pub none_left : (words front back : List (String Global)) (n : ℕ) → front ≡ take n words → back ≡ drop n words → length back ≡ 0 → ((k : ℕ) (word : List ℕ) → k < n → slice_get (map string_bytes words) k ≡ Some word → IsOption word → ⊥)
    → AreNoOptions (map string_bytes front ++ map string_bytes back)
none_left words front back n e f z before = let are = ends words front back n e f z before in subst AreNoOptions are.1 are.0

-- THE FIRST OPTION

-- what follows it, and the words without it and another one
pub record FoundBehind (second : List ℕ) (front more positional : List (List ℕ)) (other : Option (List ℕ)) : Type 0 where
  pub word : List ℕ
  pub others : List (List ℕ)
  pub behind : IsBehind second more word others other
  pub plain : AreNoOptions others
  pub positional_is : positional ≡ front ++ others

-- words in two parts about their first option
pub record HasFirst (words front : List (List ℕ)) (option : List ℕ) (more : List (List ℕ)) : Type 0 where
  pub are : words ≡ front ++ option ∷ more
  pub plain : AreNoOptions front
  pub is : IsOption option

there : (first second : List ℕ) (words front : List (List ℕ)) (option : List ℕ) (more positional : List (List ℕ)) (value other : Option (List ℕ)) → IsOption first → HasFirst words front option more
    → IsFirstApart first second words positional value other → AreNoOptions positional → (option ≡ first) × FoundBehind second front more positional other
there first second words front option more positional value other is has h none =
    let plain : AreNoOptions (h.before ++ h.others) = subst AreNoOptions h.positional_is none in
    let same = same_front IsOption front h.before option first more h.rest has.plain (front_none IsOption h.before h.others plain) has.is is (sym has.are ∙ h.are) in
    let parts = cut same.1 in (
      parts.0,
      record {
        word = h.word;
        others = h.others;
        behind = subst (λ ws. IsBehind second ws h.word h.others other) (sym parts.1) h.behind;
        plain = back_none IsOption h.before h.others plain;
        positional_is = h.positional_is ∙ ap (λ ws. ws ++ h.others) (sym same.0);
      },
    )

module _ (one two : List ℕ) (is_one : IsOption one) (is_two : IsOption two) (differ : one ≡ two → ⊥) (words front : List (List ℕ)) (option : List ℕ) (more positional : List (List ℕ)) (first second : Option (List ℕ)) (has : HasFirst words front option more)
    (none : AreNoOptions positional) where
  pub at_one : option ≡ one → AreApart one two words positional first second → FoundBehind two front more positional second
  at_one is (without all f c) = absurd (has_one IsOption front option more has.is (subst AreNoOptions (sym all ∙ has.are) none))
  at_one is (one_first h) = (there one two words front option more positional first second is_one has h none).1
  at_one is (two_first h) = absurd (differ (sym is ∙ (there two one words front option more positional second first is_two has h none).0))

  pub at_two : option ≡ two → AreApart one two words positional first second → FoundBehind one front more positional first
  at_two is (without all f c) = absurd (has_one IsOption front option more has.is (subst AreNoOptions (sym all ∙ has.are) none))
  at_two is (one_first h) = absurd (differ (sym (there one two words front option more positional first second is_one has h none).0 ∙ is))
  at_two is (two_first h) = (there two one words front option more positional second first is_two has h none).1

  pub at_neither : (option ≡ one → ⊥) → (option ≡ two → ⊥) → AreApart one two words positional first second → ⊥
  at_neither not_one not_two (without all f c) = has_one IsOption front option more has.is (subst AreNoOptions (sym all ∙ has.are) none)
  at_neither not_one not_two (one_first h) = not_one (there one two words front option more positional first second is_one has h none).0
  at_neither not_one not_two (two_first h) = not_two (there two one words front option more positional second first is_two has h none).0

-- the flag is it
module _ (words front : List (List ℕ)) (option : List ℕ) (more positional : List (List ℕ)) (has : HasFirst words front option more) (none : AreNoOptions positional) where
  pub at_cut : (has_flag : Bool) → IsFlagApart (codes "--cut") words positional has_flag → (option ≡ codes "--cut") × (positional ≡ front ++ more)
  at_cut false all = absurd (has_one IsOption front option more has.is (subst AreNoOptions (sym all ∙ has.are) none))
  at_cut true h =
      let plain : AreNoOptions (h.0 ++ h.1) = subst AreNoOptions h.3 none in
      let same = same_front IsOption front h.0 option (codes "--cut") more h.1 has.plain (front_none IsOption h.0 h.1 plain) has.is refl (sym has.are ∙ h.2) in
      let parts = cut same.1 in
      (parts.0, h.3 ∙ ap (λ ws. ws ++ h.1) (sym same.0) ∙ ap (λ ws. front ++ ws) (sym parts.1))

-- the same of strings
pub has_first : (words front back : List (String Global)) (n : ℕ) (first : String Global) (more : List (String Global)) → front ≡ take n words → back ≡ drop n words → back ≡ first ∷ more
    → ((k : ℕ) (word : List ℕ) → k < n → slice_get (map string_bytes words) k ≡ Some word → IsOption word → ⊥)
    → ((word : List ℕ) → slice_get (map string_bytes words) n ≡ Some word → IsOption word)
    → HasFirst (map string_bytes words) (map string_bytes front) (string_bytes first) (map string_bytes more)
has_first words front back n first more e f g before at = record {
  are = parted words front back n e f ∙ ap (λ ws. map string_bytes front ++ map string_bytes ws) g;
  plain = front_of IsOption words front n e before;
  is = is_at IsOption words back n (string_bytes first) (map string_bytes more) f (ap (map string_bytes) g) at;
}
