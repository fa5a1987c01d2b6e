-- Words in two parts, at the first that begins with a digit.
use Rattle.std.proofs.Common.{arith, ℕ, ◌≡◌, ◌<◌, ◌+◌, inl, inr, List, [], ◌∷◌, ◌++◌, zero, suc, refl, sym, ap, ◌∙◌, subst, map, take, drop, length}
use Rattle.std.specs.Prelude.{Some, slice_get, String, string_bytes}
use Rattle.std.specs.Global.{Global}
use Rattle.std.proofs.lemmas.Bool.{cases_lt}
use Rattle.std.proofs.lemmas.List.{append_assoc}
use Rattle.std.proofs.lemmas.Option.{slice_get_within, same_Some}
use Rattle.cli_host.specs.Requests.{BeginsWithDigit, AreNamesFirst}
use Rattle.cli_host.proofs.Apart.{map_drop, map_take, parted, place_of}

nil : (xs : List (List ℕ)) → xs ++ [] ≡ xs
nil [] = refl
nil (x ∷ xs) = ap (λ l. x ∷ l) (nil xs)

-- none of the words begins with a digit
abbrev pub AreNames : List (List ℕ) → Type 0
AreNames words = (k : ℕ) (word : List ℕ) → slice_get words k ≡ Some word → BeginsWithDigit word → ⊥

pub no_name : AreNames []
no_name k word at = let low = slice_get_within [] k word at in omega (arith, low)

rest_names : (x : List ℕ) (xs : List (List ℕ)) → AreNames (x ∷ xs) → AreNames xs
rest_names x xs names k word at = names (suc k) word at

pub both_names : (xs ys : List (List ℕ)) → AreNames xs → AreNames ys → AreNames (xs ++ ys)
both_names [] ys names more k word at = more k word at
both_names (x ∷ xs) ys names more zero word at = names 0 word at
both_names (x ∷ xs) ys names more (suc k) word at = both_names xs ys (rest_names x xs names) more k word at

-- one word more
pub one_name : (words : List (List ℕ)) (n : ℕ) (bytes : List ℕ) → slice_get words n ≡ Some bytes → (BeginsWithDigit bytes → ⊥) → ((k : ℕ) (word : List ℕ) → k < n → slice_get words k ≡ Some word → BeginsWithDigit word → ⊥)
    → (k : ℕ) (word : List ℕ) → k < n + 1 → slice_get words k ≡ Some word → BeginsWithDigit word → ⊥
one_name words n bytes there none before k word low at = elim (cases_lt k n) [
  | inl less ↦ before k word less at
  | inr not_less ↦
      let last : k ≡ n = omega (arith, low, not_less) in
      let same : word ≡ bytes = same_Some word bytes (sym at ∙ ap (slice_get words) last ∙ there) in
      λ is. none (subst BeginsWithDigit same is)
]

names_to : (n : ℕ) (words : List (List ℕ)) → ((k : ℕ) (word : List ℕ) → k < n → slice_get words k ≡ Some word → BeginsWithDigit word → ⊥) → AreNames (take n words)
names_to zero words before k word at = no_name k word at
names_to (suc n) [] before k word at = no_name k word at
names_to (suc n) (x ∷ xs) before zero word at = before 0 word (omega arith) at
names_to (suc n) (x ∷ xs) before (suc k) word at = names_to n xs (λ j w low there. before (suc j) w (omega (arith, low)) there) k word at

module _ (words front back : List (String Global)) (n : ℕ) (e : front ≡ take n words) (f : back ≡ drop n words)
    (before : (k : ℕ) (word : List ℕ) → k < n → slice_get (map string_bytes words) k ≡ Some word → BeginsWithDigit word → ⊥)
    (at : (word : List ℕ) → slice_get (map string_bytes words) n ≡ Some word → BeginsWithDigit word) where
  front_names : AreNames (map string_bytes front)
  front_names = subst AreNames (sym (ap (map string_bytes) e ∙ map_take n words)) (names_to n (map string_bytes words) before)

  back_begins : (more : List (List ℕ)) (word : List ℕ) → slice_get (map string_bytes back ++ more) 0 ≡ Some word → (length back ≡ 0 → ⊥) → BeginsWithDigit word
  back_begins more word there some = by back f there some
    where
      by : (b : List (String Global)) → b ≡ drop n words → slice_get (map string_bytes b ++ more) 0 ≡ Some word → (length b ≡ 0 → ⊥) → BeginsWithDigit word
      by [] is there some = absurd (some refl)
      by (x ∷ b) is there some =
          let first : string_bytes x ≡ word = same_Some (string_bytes x) word there in
          at word (place_of n (map string_bytes words) word (map string_bytes b) (sym (map_drop n words) ∙ ap (map string_bytes) (sym is) ∙ ap (λ w. w ∷ map string_bytes b) first))

  -- words in two parts here, after names and before other words
  split_at : (earlier behind : List (List ℕ)) → AreNames earlier → ((word : List ℕ) → slice_get (map string_bytes back ++ behind) 0 ≡ Some word → BeginsWithDigit word)
      → AreNamesFirst (earlier ++ (map string_bytes words ++ behind)) (earlier ++ map string_bytes front) (map string_bytes back ++ behind)
  split_at earlier behind names begins = record {
    are =
        ap (λ ws. earlier ++ (ws ++ behind)) (parted words front back n e f) ∙ ap (λ ws. earlier ++ ws) (append_assoc (map string_bytes front) (map string_bytes back) behind)
        ∙ sym (append_assoc earlier (map string_bytes front) (map string_bytes back ++ behind));
    unnumbered = both_names earlier (map string_bytes front) names front_names;
    numbered = begins;
  }

  -- where a word of these begins with a digit, the words after them are presses too
  pub split_here : (earlier behind : List (List ℕ)) → AreNames earlier → (length back ≡ 0 → ⊥)
      → AreNamesFirst (earlier ++ (map string_bytes words ++ behind)) (earlier ++ map string_bytes front) (map string_bytes back ++ behind)
  split_here earlier behind names some = split_at earlier behind names (λ word there. back_begins behind word there some)

  -- otherwise all of them are names
  pub all_names : length back ≡ 0 → AreNames (map string_bytes words)
  all_names none = subst AreNames (sym (parted words front back n e f ∙ ap (λ ws. map string_bytes front ++ ws) (by back none) ∙ nil (map string_bytes front))) front_names
    where
      by : (b : List (String Global)) → length b ≡ 0 → map string_bytes b ≡ []
      by [] is = refl
      by (x ∷ b) is = absurd (omega (arith, is))

  -- and the last ones are split
  pub split_last : (earlier : List (List ℕ)) → AreNames earlier → AreNamesFirst (earlier ++ map string_bytes words) (earlier ++ map string_bytes front) (map string_bytes back)
  split_last earlier names =
      subst (λ ws. AreNamesFirst (earlier ++ ws) (earlier ++ map string_bytes front) (map string_bytes back)) (nil (map string_bytes words))
      (subst (λ ws. AreNamesFirst (earlier ++ (map string_bytes words ++ [])) (earlier ++ map string_bytes front) ws) (nil (map string_bytes back)) (split_at earlier [] names (λ word there. by back f there)))
    where
      by : (b : List (String Global)) {word : List ℕ} → b ≡ drop n words → slice_get (map string_bytes b ++ []) 0 ≡ Some word → BeginsWithDigit word
      by [] {word} is there = let low = slice_get_within [] 0 word there in absurd (omega (arith, low))
      by (x ∷ b) {word} is there =
          let first : string_bytes x ≡ word = same_Some (string_bytes x) word there in
          at word (place_of n (map string_bytes words) word (map string_bytes b) (sym (map_drop n words) ∙ ap (map string_bytes) (sym is) ∙ ap (λ w. w ∷ map string_bytes b) first))
