-- Words of a command line apart, by the first place of an option.
use Rattle.std.proofs.Common.{arith, ℕ, ◌≡◌, ◌<◌, ◌+◌, inl, inr, get_or, List, [], ◌∷◌, ◌++◌, zero, suc, refl, sym, ap, ◌∙◌, subst, map, take, drop, length}
use Rattle.std.specs.Prelude.{Option, Some, None, option_map, slice_get, String, string_bytes}
use Rattle.std.proofs.lemmas.Bool.{cases_lt}
use Rattle.std.specs.Global.{Global}
use Rattle.std.proofs.lemmas.List.{map-append, take-append-drop, length-map}
use Rattle.std.proofs.lemmas.Option.{slice_get_within, slice_get_read, slice_get-map, slice_get-get_or, same_Some}
use Rattle.cli_host.specs.Requests.{IsOption, AreNone, AreNoOptions, LeaveOut, IsApart}

cut : {x y : List ℕ} {xs ys : List (List ℕ)} → x ∷ xs ≡ y ∷ ys → (x ≡ y) × (xs ≡ ys)
cut e = (cc, cc)

no_more : {x : List ℕ} {xs : List (List ℕ)} → x ∷ xs ≡ [] → ⊥
no_more e = cc

-- the word at a place
pub place_of : (n : ℕ) (words : List (List ℕ)) (x : List ℕ) (more : List (List ℕ)) → drop n words ≡ x ∷ more → slice_get words n ≡ Some x
place_of zero [] x more e = absurd (no_more (sym e))
place_of zero (y ∷ words) x more e = ap Some (cut e).0
place_of (suc n) [] x more e = absurd (no_more (sym e))
place_of (suc n) (y ∷ words) x more e = place_of n words x more e

-- the bytes of a word at its place
pub stands : (words : List (String Global)) (k : ℕ) (word : String Global) (bytes : List ℕ) → k < length words → word ≡ get_or words k word → bytes ≡ string_bytes word → slice_get (map string_bytes words) k ≡ Some bytes
stands words k word bytes low at is = slice_get-map string_bytes words k ∙ ap (option_map string_bytes) (slice_get_read words (length words) k word refl low at) ∙ ap Some (sym is)

-- places are within
pub within : (words : List (String Global)) (k : ℕ) (word : List ℕ) → slice_get (map string_bytes words) k ≡ Some word → k < length words
within words k word at = let low = slice_get_within (map string_bytes words) k word at in let same = length-map {B = List ℕ} words in omega (arith, low, same)

-- the bytes of words in two parts
pub in_parts : (words : List (String Global)) (n : ℕ) → map string_bytes words ≡ map string_bytes (take n words) ++ map string_bytes (drop n words)
in_parts words n = ap (map string_bytes) (sym (take-append-drop n words)) ∙ map-append string_bytes (take n words) (drop n words)

pub map_take : (n : ℕ) (words : List (String Global)) → map string_bytes (take n words) ≡ take n (map string_bytes words)
map_take zero words = refl
map_take (suc n) [] = refl
map_take (suc n) (x ∷ words) = ap (λ ws. string_bytes x ∷ ws) (map_take n words)

pub map_drop : (n : ℕ) (words : List (String Global)) → map string_bytes (drop n words) ≡ drop n (map string_bytes words)
map_drop zero words = refl
map_drop (suc n) [] = refl
map_drop (suc n) (x ∷ words) = map_drop n words

pub parted : (words front back : List (String Global)) (n : ℕ) → front ≡ take n words → back ≡ drop n words → map string_bytes words ≡ map string_bytes front ++ map string_bytes back
parted words front back n e f = in_parts words n ∙ ap (λ ws. map string_bytes ws ++ map string_bytes (drop n words)) (sym e) ∙ ap (λ ws. map string_bytes front ++ map string_bytes ws) (sym f)

-- WORDS OF WHICH NONE IS SUCH A WORD

module _ (Is : List ℕ → Type 0) where
  pub first_none : (x : List ℕ) (xs : List (List ℕ)) → AreNone Is (x ∷ xs) → Is x → ⊥
  first_none x xs none is = none 0 x refl is

  pub rest_none : (x : List ℕ) (xs : List (List ℕ)) → AreNone Is (x ∷ xs) → AreNone Is xs
  rest_none x xs none k word at = none (suc k) word at

  pub nil_none : AreNone Is []
  nil_none k word at = let low = slice_get_within [] k word at in absurd (omega (arith, low))

  pub cons_none : (x : List ℕ) (xs : List (List ℕ)) → (Is x → ⊥) → AreNone Is xs → AreNone Is (x ∷ xs)
  cons_none x xs none more zero word at = λ is. none (subst Is (sym (same_Some x word at)) is)
  cons_none x xs none more (suc k) word at = more k word at

  pub both_none : (xs ys : List (List ℕ)) → AreNone Is xs → AreNone Is ys → AreNone Is (xs ++ ys)
  both_none [] ys none more k word at = more k word at
  both_none (x ∷ xs) ys none more zero word at = none 0 word at
  both_none (x ∷ xs) ys none more (suc k) word at = both_none xs ys (rest_none x xs none) more k word at

  pub front_none : (xs ys : List (List ℕ)) → AreNone Is (xs ++ ys) → AreNone Is xs
  front_none [] ys none k word at = nil_none k word at
  front_none (x ∷ xs) ys none zero word at = none 0 word at
  front_none (x ∷ xs) ys none (suc k) word at = front_none xs ys (rest_none x (xs ++ ys) none) k word at

  pub back_none : (xs ys : List (List ℕ)) → AreNone Is (xs ++ ys) → AreNone Is ys
  back_none [] ys none = none
  back_none (x ∷ xs) ys none = back_none xs ys (rest_none x (xs ++ ys) none)

  -- words with one among them
  pub has_one : (xs : List (List ℕ)) (x : List ℕ) (more : List (List ℕ)) → Is x → AreNone Is (xs ++ x ∷ more) → ⊥
  has_one xs x more is none = first_none x more (back_none xs (x ∷ more) none) is

  -- none among the first words
  pub none_to : (n : ℕ) (words : List (List ℕ)) → ((k : ℕ) (word : List ℕ) → k < n → slice_get words k ≡ Some word → Is word → ⊥) → AreNone Is (take n words)
  none_to zero words before k word at = nil_none k word at
  none_to (suc n) [] before k word at = nil_none k word at
  none_to (suc n) (x ∷ xs) before zero word at = before 0 word (omega arith) at
  none_to (suc n) (x ∷ xs) before (suc k) word at = none_to n xs (λ j w low there. before (suc j) w (omega (arith, low)) there) k word at

  -- one word more that is none
  pub one_none : (words : List (List ℕ)) (n : ℕ) (bytes : List ℕ) → slice_get words n ≡ Some bytes → (Is bytes → ⊥) → ((k : ℕ) (word : List ℕ) → k < n → slice_get words k ≡ Some word → Is word → ⊥)
      → (k : ℕ) (word : List ℕ) → k < n + 1 → slice_get words k ≡ Some word → Is word → ⊥
  one_none words n bytes there none before k word low at = elim (cases_lt k n) [
    | inl less ↦ before k word less at
    | inr not_less ↦
        let last : k ≡ n = omega (arith, low, not_less) in
        let same : word ≡ bytes = same_Some word bytes (sym at ∙ ap (slice_get words) last ∙ there) in
        λ is. none (subst Is same is)
  ]

  -- one at a place
  pub some_one : (words : List (String Global)) (n : ℕ) → n < length words → ((word : List ℕ) → slice_get (map string_bytes words) n ≡ Some word → Is word) → AreNone Is (map string_bytes words) → ⊥
  some_one words n low is none =
      let same = length-map {B = List ℕ} words in
      let word = get_or (map string_bytes words) n [] in
      let at : slice_get (map string_bytes words) n ≡ Some word = slice_get-get_or (map string_bytes words) n [] (omega (arith, low, same)) in
      none n word at (is word at)

  pub front_of : (words front : List (String Global)) (n : ℕ) → front ≡ take n words → ((k : ℕ) (word : List ℕ) → k < n → slice_get (map string_bytes words) k ≡ Some word → Is word → ⊥) → AreNone Is (map string_bytes front)
  front_of words front n e before = subst (AreNone Is) (sym (ap (map string_bytes) e ∙ map_take n words)) (none_to n (map string_bytes words) before)

  pub is_at : (words back : List (String Global)) (n : ℕ) (x : List ℕ) (more : List (List ℕ)) → back ≡ drop n words → map string_bytes back ≡ x ∷ more
      → ((word : List ℕ) → slice_get (map string_bytes words) n ≡ Some word → Is word) → Is x
  is_at words back n x more e f is = is x (place_of n (map string_bytes words) x more (sym (map_drop n words) ∙ ap (map string_bytes) (sym e) ∙ f))

  -- the first one is one
  pub same_front : (front before : List (List ℕ)) (x y : List ℕ) (more after : List (List ℕ)) → AreNone Is front → AreNone Is before → Is x → Is y → front ++ x ∷ more ≡ before ++ y ∷ after
      → (front ≡ before) × (x ∷ more ≡ y ∷ after)
  same_front [] [] x y more after plain none is is_y e = (refl, e)
  same_front [] (b ∷ before) x y more after plain none is is_y e = absurd (first_none b before none (subst Is (cut e).0 is))
  same_front (f ∷ front) [] x y more after plain none is is_y e = absurd (first_none f front plain (subst Is (sym (cut e).0) is_y))
  same_front (f ∷ front) (b ∷ before) x y more after plain none is is_y e =
      let rest = same_front front before x y more after (rest_none f front plain) (rest_none b before none) is is_y (cut e).1 in
      (ap (λ w. w ∷ front) (cut e).0 ∙ ap (λ ws. b ∷ ws) rest.0, rest.1)

-- THE OPTION AT ITS FIRST PLACE

-- it is there with its value
pub record StandsThere (front more positional : List (List ℕ)) (value : Option (List ℕ)) : Type 0 where
  pub word : List ℕ
  pub after : List (List ℕ)
  pub value_is : value ≡ Some word
  pub more_is : more ≡ word ∷ after
  pub positional_is : positional ≡ front ++ after
  pub word_plain : IsOption word → ⊥

pub there_of : (option : List ℕ) (words front more positional : List (List ℕ)) (value : Option (List ℕ)) → words ≡ front ++ option ∷ more → LeaveOut option front
    → IsApart option words positional value → LeaveOut option positional → StandsThere front more positional value
there_of option words front more positional None e lead apart none = absurd (has_one (λ w. w ≡ option) front option more refl (subst (LeaveOut option) (sym apart ∙ e) none))
there_of option words front more positional (Some value) e lead apart none =
    let before = apart.0 in
    let after = apart.1 in
    let all : LeaveOut option (before ++ after) = subst (LeaveOut option) apart.3 none in
    let same = same_front (λ w. w ≡ option) front before option option more (value ∷ after) lead (front_none (λ w. w ≡ option) before after all) refl refl (sym e ∙ apart.2) in
    record {
      word = value;
      after = after;
      value_is = refl;
      more_is = (cut same.1).1;
      positional_is = apart.3 ∙ ap (λ ws. ws ++ after) (sym same.0);
      word_plain = apart.4;
    }

-- words without the option are apart as they are
all_left : (option : List ℕ) (words positional : List (List ℕ)) (value : Option (List ℕ)) → LeaveOut option words → IsApart option words positional value → (positional ≡ words) × (value ≡ None)
all_left option words positional None none apart = (sym apart, refl)
all_left option words positional (Some value) none apart = absurd (has_one (λ w. w ≡ option) apart.0 option (value ∷ apart.1) refl (subst (LeaveOut option) apart.2 none))

-- options are left out where there are none
pub plain_out : (option : List ℕ) (words : List (List ℕ)) → IsOption option → AreNoOptions words → LeaveOut option words
plain_out option words is plain k word at same = plain k word at (subst IsOption (sym same) is)

-- THE SAME OF STRINGS

pub only_all : (option : List ℕ) (words front back : List (String Global)) (n : ℕ) → front ≡ take n words → back ≡ drop n words → length back ≡ 0 → LeaveOut option (map string_bytes front)
    → (positional : List (List ℕ)) (value : Option (List ℕ)) → IsApart option (map string_bytes words) positional value → LeaveOut option positional → (positional ≡ map string_bytes front ++ map string_bytes back) × (value ≡ None)
only_all option words front [] n e f z none positional value apart _ =
    let parts = parted words front [] n e f in
    let all = all_left option (map string_bytes words) positional value (subst (LeaveOut option) (sym parts) (both_none (λ w. w ≡ option) (map string_bytes front) [] none (nil_none (λ w. w ≡ option)))) apart in
    (all.0 ∙ parts, all.1)
only_all option words front (x ∷ back) n e f z none positional value apart _ = absurd (omega (arith, z))

pub there : (option : List ℕ) (words front back : List (String Global)) (n : ℕ) (first : String Global) (more : List (String Global)) → front ≡ take n words → back ≡ drop n words → back ≡ first ∷ more
    → ((k : ℕ) (word : List ℕ) → k < n → slice_get (map string_bytes words) k ≡ Some word → word ≡ option → ⊥)
    → ((word : List ℕ) → slice_get (map string_bytes words) n ≡ Some word → word ≡ option)
    → (positional : List (List ℕ)) (value : Option (List ℕ)) → IsApart option (map string_bytes words) positional value → LeaveOut option positional → StandsThere (map string_bytes front) (map string_bytes more) positional value
there option words front back n first more e f g before at positional value apart none =
    let is = is_at (λ w. w ≡ option) words back n (string_bytes first) (map string_bytes more) f (ap (map string_bytes) g) at in
    there_of option (map string_bytes words) (map string_bytes front) (map string_bytes more) positional value
    (parted words front back n e f ∙ ap (λ ws. map string_bytes front ++ map string_bytes ws) g ∙ ap (λ w. map string_bytes front ++ w ∷ map string_bytes more) is)
    (front_of (λ w. w ≡ option) words front n e before) apart none

pub no_value : (front : List (List ℕ)) (more : List (String Global)) (positional : List (List ℕ)) (value : Option (List ℕ)) → length more ≡ 0 → StandsThere front (map string_bytes more) positional value → ⊥
no_value front [] positional value z found = no_more (sym found.more_is)
no_value front (x ∷ more) positional value z found = absurd (omega (arith, z))

-- the value and the words after it
pub with_value : (front : List (List ℕ)) (more : List (String Global)) (word : String Global) (back : List (String Global)) (positional : List (List ℕ)) (value : Option (List ℕ)) → more ≡ word ∷ back
    → StandsThere front (map string_bytes more) positional value → (positional ≡ front ++ map string_bytes back) × (value ≡ Some (string_bytes word)) × (IsOption (string_bytes word) → ⊥)
with_value front more word back positional value e found =
    let same = cut (sym (ap (map string_bytes) e) ∙ found.more_is) in
    (found.positional_is ∙ ap (λ ws. front ++ ws) (sym same.1), found.value_is ∙ ap Some (sym same.0), λ is. found.word_plain (subst IsOption same.0 is))

pub parted_at : (option : List ℕ) (words front back : List (String Global)) (n : ℕ) (first word : String Global) (more rest : List (String Global)) → front ≡ take n words → back ≡ drop n words → back ≡ first ∷ more → more ≡ word ∷ rest
    → ((other : List ℕ) → slice_get (map string_bytes words) n ≡ Some other → other ≡ option)
    → map string_bytes words ≡ map string_bytes front ++ option ∷ string_bytes word ∷ map string_bytes rest
parted_at option words front back n first word more rest e f g h at =
    let is = is_at (λ w. w ≡ option) words back n (string_bytes first) (map string_bytes more) f (ap (map string_bytes) g) at in
    parted words front back n e f ∙ ap (λ ws. map string_bytes front ++ map string_bytes ws) (g ∙ ap (λ ws. first ∷ ws) h)
    ∙ ap (λ w. map string_bytes front ++ w ∷ string_bytes word ∷ map string_bytes rest) is
