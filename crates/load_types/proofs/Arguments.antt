-- What the arguments of a CAL break.
use Rattle.std.proofs.Common.{◌≡◌, ℕ, zero, suc, ◌+◌, Bool, not, ◌||◌, List, [], ◌∷◌, ◌++◌, take, Option, Some, None, slice_get, sym, ap, ◌∙◌, refl, true, false, append-nil, append_assoc, add-one, bytes_eq}
use Rattle.std.specs.Prelude.{is_some, if◌then◌else◌}
use Rattle.il_syntax.specs.declared.tree.Config.{Config}
use Rattle.il_syntax.specs.declared.tree.Unit.{Unit as ProgramUnit}
use Rattle.il_syntax.specs.declared.tree.Argument.{Argument}
use Rattle.il_statics.specs.Names.{Spelling, BlockVariables, is_one_of}
use Rattle.il_statics.specs.Declarations.{unless}
use Rattle.il_statics.specs.Types.{argument_word, argument_numbers, arguments_numbers}
use Rattle.il_statics.specs.Lowest.{lowest, lower_of}
use Rattle.il_statics.proofs.Lowest.{lowest_append}
use Rattle.base_maps.specs.NameMap.{NameMap, get, insert}
use Rattle.load_scope.proofs.Filled.{get-inserted}
use Rattle.load_types.specs.Types.{words_onto}

same_some : {A : Type 0} (a b : A) → Some a ≡ Some b → a ≡ b
same_some a b e = cc

words_next : (given : List Spelling) (arguments : List Argument) (i : ℕ) (a : Argument) → slice_get arguments i ≡ Some a → words_onto given (take (suc i) arguments) ≡ argument_word a ∷ words_onto given (take i arguments)
words_next given [] i a e = absurd (let bad : None ≡ Some a = e in cc)
words_next given (x ∷ arguments) zero a e = ap (λ y. argument_word y ∷ given) (same_some x a e)
words_next given (x ∷ arguments) (suc i) a e = words_next (argument_word x ∷ given) arguments i a e

pub given_next : (arguments : List Argument) (i : ℕ) (a : Argument) (word own : Spelling) (is found r : Bool) → slice_get arguments i ≡ Some a → own ≡ argument_word a → is ≡ bytes_eq own word → found ≡ is_one_of (words_onto [] (take i arguments)) word → r ≡ (is || found) → r ≡ is_one_of (words_onto [] (take (i + 1) arguments)) word
given_next arguments i a word own is found r there named e before all =
    all ∙ ap (λ b. b || found) (e ∙ ap (λ n. bytes_eq n word) named) ∙ ap (λ b. bytes_eq (argument_word a) word || b) before
    ∙ ap (λ ws. is_one_of ws word) (sym (words_next [] arguments i a there)) ∙ ap (λ k. is_one_of (words_onto [] (take k arguments)) word) (sym (add-one i))

-- the same by what was seen in a table
pub seen_next : (arguments : List Argument) (i : ℕ) (a : Argument) (own : Spelling) (seen : NameMap (Unit {0})) (word : Spelling) → slice_get arguments i ≡ Some a → own ≡ argument_word a → is_some (get seen word) ≡ is_one_of (words_onto [] (take i arguments)) word → is_some (get (insert seen own tt) word) ≡ is_one_of (words_onto [] (take (i + 1) arguments)) word
seen_next arguments i a own seen word there named before =
    given_next arguments i a word own (bytes_eq own word) (is_some (get seen word)) (is_some (get (insert seen own tt) word)) there named refl before
    (ap is_some (get-inserted seen own tt word) ∙ by (bytes_eq own word) (get seen word))
  where
    by : (b : Bool) (o : Option (Unit {0})) → is_some (if b then Some tt else o) ≡ (b || is_some o)
    by true o = refl
    by false o = refl

module _ (config : Config) (unit : ProgramUnit) where
  abbrev one_numbers : BlockVariables → List Spelling → Argument → List ℕ
  one_numbers block given a = unless (not (is_one_of given (argument_word a))) 37 ++ argument_numbers config unit block a

  arguments_next : (block : BlockVariables) (given : List Spelling) (arguments : List Argument) (i : ℕ) (a : Argument) → slice_get arguments i ≡ Some a
      → arguments_numbers config unit block given (take (suc i) arguments) ≡ arguments_numbers config unit block given (take i arguments) ++ one_numbers block (words_onto given (take i arguments)) a
  arguments_next block given [] i a e = absurd (let bad : None ≡ Some a = e in cc)
  arguments_next block given (x ∷ arguments) zero a e = append-nil (one_numbers block given x) ∙ ap (one_numbers block given) (same_some x a e)
  arguments_next block given (x ∷ arguments) (suc i) a e =
      ap (λ l. one_numbers block given x ++ l) (arguments_next block (argument_word x ∷ given) arguments i a e)
      ∙ sym (append_assoc (one_numbers block given x) (arguments_numbers config unit block (argument_word x ∷ given) (take i arguments)) (one_numbers block (words_onto (argument_word x ∷ given) (take i arguments)) a))

  pub one_argument : (block : BlockVariables) (arguments : List Argument) (i : ℕ) (a : Argument) (front : List Argument) (word : Spelling) (given : Bool) (u n here number r : Option ℕ) → slice_get arguments i ≡ Some a
      → front ≡ take i arguments → word ≡ argument_word a → given ≡ is_one_of (words_onto [] front) word → u ≡ lowest (unless (not given) 37) → n ≡ lowest (argument_numbers config unit block a) → here ≡ lower_of u n → r ≡ lower_of number here
      → number ≡ lowest (arguments_numbers config unit block [] (take i arguments)) → r ≡ lowest (arguments_numbers config unit block [] (take (i + 1) arguments))
  one_argument block arguments i a front word given u n here number r there cut named g ue ne he re before =
      let given_is : given ≡ is_one_of (words_onto [] (take i arguments)) (argument_word a) = g ∙ ap (λ w. is_one_of (words_onto [] front) w) named ∙ ap (λ f. is_one_of (words_onto [] f) (argument_word a)) cut in
      let words = words_onto [] (take i arguments) in
      let u_is : u ≡ lowest (unless (not (is_one_of words (argument_word a))) 37) = ue ∙ ap (λ b. lowest (unless (not b) 37)) given_is in
      let here_is : here ≡ lowest (one_numbers block words a) = he ∙ ap (λ o. lower_of o n) u_is ∙ ap (lower_of (lowest (unless (not (is_one_of words (argument_word a))) 37))) ne ∙ sym (lowest_append (unless (not (is_one_of words (argument_word a))) 37) (argument_numbers config unit block a)) in
      re ∙ ap (λ o. lower_of o here) before ∙ ap (lower_of (lowest (arguments_numbers config unit block [] (take i arguments)))) here_is
      ∙ sym (lowest_append (arguments_numbers config unit block [] (take i arguments)) (one_numbers block words a))
      ∙ ap lowest (sym (arguments_next block [] arguments i a there)) ∙ ap (λ k. lowest (arguments_numbers config unit block [] (take k arguments))) (sym (add-one i))
