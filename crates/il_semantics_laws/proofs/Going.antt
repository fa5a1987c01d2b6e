-- What is so for every way on is so for the outcome: tests, operators and functions, which read no variable.
use Rattle.std.proofs.Common.{◌≡◌, ℕ, zero, suc, Bool, true, false, ◌&&◌, List, [], ◌∷◌, refl, ap, ◌∙◌, Some, None, Option, subst, T, ℤ, ◌≤ℤ◌, arith}
use Rattle.std.proofs.lemmas.Int.{ints, quot-rem}
use Rattle.std.proofs.lemmas.Bool.Decides.{nat_tests}
use Rattle.std.specs.Prelude.{option_map, not, pos, negsuc, nat_abs, ◌==◌, ◌-ℤ◌, ◌*ℤ◌, int_div, int_rem}
use Rattle.il_syntax.specs.declared.tree.Elementary.{Elementary}
use Rattle.il_syntax.specs.declared.tree.Elementary.TheVariants.{Bool as BoolType, Sint, Int, Dint, Usint, Uint, Udint, Time}
use Rattle.il_syntax.specs.declared.tree.Subrange.{Subrange}
use Rattle.il_syntax.specs.declared.tree.Arithmetic.{Arithmetic as ArithmeticKind}
use Rattle.il_syntax.specs.declared.tree.Arithmetic.TheVariants.{Add, Sub, Mul, Div, Mod}
use Rattle.il_syntax.specs.declared.tree.Comparison.TheVariants.{Greater, GreaterOrEqual, Equal, NotEqual, LessOrEqual, Less}
use Rattle.il_syntax.specs.declared.tree.Operator.{Operator}
use Rattle.il_syntax.specs.declared.tree.Operator.TheVariants.{Logic, Arithmetic, Comparison}
use Rattle.il_syntax.specs.declared.tree.Condition.{Condition}
use Rattle.il_syntax.specs.declared.tree.Condition.TheVariants.{Always, WhenTrue, WhenFalse}
use Rattle.il_syntax.specs.ElementaryTypes.{limits, is_same_type, is_counted}
use Rattle.ranges_interval.specs.declared.Interval.{Interval}
use Rattle.ranges_interval.specs.Interval.{IsIn, IsWithin, IsWithoutZero, interval_mod}
use Rattle.ranges_interval.proofs.Hulls.{mod_holds}
use Rattle.il_statics.specs.declared.names.StandardFunction.{StandardFunction}
use Rattle.il_statics.specs.declared.names.StandardFunction.TheVariants.{Absolute, Minimum, Maximum, Limited, Selected, Converted}
use Rattle.il_statics.specs.Declarations.{is_within}
use Rattle.il_semantics.specs.declared.value.Value.TheVariants.{Integer}
use Rattle.il_semantics.specs.declared.value.Content.{Content}
use Rattle.il_semantics.specs.Values.{is_value_in}
use Rattle.il_semantics.specs.Step.{Outcome, Trap, provided, with_result, truth, content, logic, negated_if, arithmetic, divides, with_number, WrongKind, operated, applied, chosen, with_acting}
use Rattle.il_semantics.specs.declared.known.Known.{Known}
use Rattle.il_semantics.specs.declared.known.Known.TheVariants.{Flag, Ranged}
use Rattle.il_semantics.specs.Annotation.{WithKnownResult, WithOperated, WithApplied, WithSelected, WithInterval, GivesWithin, FitsType, interval, IsKnownWithin, IsResultWithin, HasCondition}
use Rattle.il_semantics.specs.Paths.{may_act}
use Rattle.il_semantics_laws.specs.Agreement.{IsKnown, IsKnownResult}

-- TESTS

-- a test that holds
pub yes : (b : Bool) → T b → b ≡ true
yes true h = refl
yes false h = absurd h

-- both of two tests
pub both : (a b : Bool) → a ≡ true → b ≡ true → (a && b) ≡ true
both true b p q = q
both false b p q = p

-- a number that lies within limits
pub within_yes : (s : Subrange) (z : ℤ) → s.lower ≤ℤ z → z ≤ℤ s.upper → is_within s z ≡ true
within_yes s z low high = both _ _ (yes _ low.le) (yes _ high.le)

-- a type is itself
pub type_itself : (e : Elementary) → is_same_type e e ≡ true
type_itself BoolType = refl
type_itself Sint = refl
type_itself Int = refl
type_itself Dint = refl
type_itself Usint = refl
type_itself Uint = refl
type_itself Udint = refl
type_itself Time = refl

-- types that are the same
pub same_by : (e f : Elementary) → is_same_type e f ≡ true → e ≡ f
same_by BoolType BoolType h = refl
same_by Sint Sint h = refl
same_by Int Int h = refl
same_by Dint Dint h = refl
same_by Usint Usint h = refl
same_by Uint Uint h = refl
same_by Udint Udint h = refl
same_by Time Time h = refl
same_by e f h = cc

-- a type with numbers is counted
pub counted : (e : Elementary) (r : Interval) → FitsType e r → is_counted e ≡ true
counted BoolType r fits = absurd fits
counted Sint r fits = refl
counted Int r fits = refl
counted Dint r fits = refl
counted Usint r fits = refl
counted Uint r fits = refl
counted Udint r fits = refl
counted Time r fits = refl

-- numbers of one type
two_counted : (e : Elementary) (r : Interval) → FitsType e r → (is_counted e && is_same_type e e) ≡ true
two_counted e r fits = both _ _ (counted e r fits) (type_itself e)

-- a number within a type's numbers is one of its values
pub fits_value : (o : Option Subrange) (i : Interval) (z : ℤ) → IsIn i z → WithInterval (option_map interval o) (λ j. IsWithin i j) → is_value_in o (Integer z) ≡ true
fits_value None i z h w = absurd w
fits_value (Some s) i z h w = within_yes s z (omega (arith, ints)) (omega (arith, ints))

-- WIDER KNOWLEDGE

pub in_wider : (i j : Interval) (z : ℤ) → IsWithin i j → IsIn i z → IsIn j z
in_wider i j z w h = (omega (arith, ints), omega (arith, ints))

pub known_wider : (k l : Known) (x : Content) → IsKnownWithin k l → IsKnown k x → IsKnown l x
known_wider Flag Flag x w h = h
known_wider Flag (Ranged f j) x w h = absurd w
known_wider (Ranged e i) Flag x w h = absurd w
known_wider (Ranged e i) (Ranged f j) x w h = (h.0, h.1 ∙ ap (λ t. content t (Integer h.0)) w.0, in_wider i j h.0 w.1 h.2)

pub result_wider : (k l : Option Known) (r : Option Content) → IsResultWithin k l → IsKnownResult k r → IsKnownResult l r
result_wider k None r w h = tt
result_wider None (Some l) r w h = absurd w
result_wider (Some k) (Some l) None w h = absurd h
result_wider (Some k) (Some l) (Some x) w h = known_wider k l x w h

-- WHAT OPERATIONS GIVE

suc_not_zero : (n : ℕ) → (suc n == 0) ≡ false
suc_not_zero n = grind (arith, nat_tests)

-- a divisor that is not 0
divides_by : (j : Interval) (y : ℤ) → IsWithoutZero j → IsIn j y → not (nat_abs y == 0) ≡ true
divides_by j (pos zero) without h = absurd (without h)
divides_by j (pos (suc n)) without h = ap not (suc_not_zero n)
divides_by j (negsuc n) without h = ap not (suc_not_zero n)

-- the remainder of the definition is that of the table
remainder_is : (x y : ℤ) → int_rem x y ≡ x -ℤ (int_div x y *ℤ y)
remainder_is x y = let e = quot-rem x y in omega (arith, ints)

-- a number that an operation gives
gives_in : (kind : ArithmeticKind) (i j r : Interval) (x y : ℤ) → GivesWithin kind i j r → IsIn i x → IsIn j y → (divides kind y ≡ true) × IsIn r (arithmetic kind x y)
gives_in Add i j r x y g h l = (refl, g x y h l)
gives_in Sub i j r x y g h l = (refl, g x y h l)
gives_in Mul i j r x y g h l = (refl, g x y h l)
gives_in Div i j r x y g h l = (divides_by j y g.0 l, g.1 x y h l)
gives_in Mod i j r x y g h l = (divides_by j y g.0 l, in_wider (interval_mod i j) r _ g.1 (subst (IsIn (interval_mod i j)) (remainder_is x y) (mod_holds i j g.0 x y h l)))

-- the contents are as is known of them
abbrev pub AllKnown : List Known → List Content → Type 0
AllKnown [] [] = Unit {0}
AllKnown (k ∷ ks) (x ∷ xs) = IsKnown k x × AllKnown ks xs
AllKnown [] (x ∷ xs) = ⊥
AllKnown (k ∷ ks) [] = ⊥

-- what the result is where an instruction with a condition acts, or does not
abbrev pub Decides : Condition → Bool → Option Content → Type 0
Decides Always b result = Unit {0}
Decides WhenTrue b result = result ≡ Some (truth b)
Decides WhenFalse b result = result ≡ Some (truth (not b))

twice : (b : Bool) → b ≡ not (not b)
twice true = refl
twice false = refl

-- OUTCOMES

module _ (Q : Outcome → Type 0) where
  pub provided_ok : (b : Bool) (trap : Trap) (o : Outcome) → b ≡ true → Q o → Q (provided b trap o)
  provided_ok true trap o e q = q
  provided_ok false trap o e q = cc

  -- the current result
  pub result_ok : (known : Option Known) (result : Option Content) (P : Known → Type 0) (go : Content → Outcome) → IsKnownResult known result → WithKnownResult known P
      → ((k : Known) (x : Content) → IsKnown k x → P k → Q (go x)) → Q (with_result result go)
  result_ok None result P go h p q = absurd p
  result_ok (Some k) None P go h p q = absurd h
  result_ok (Some k) (Some x) P go h p q = q k x h p

  -- a condition: without one the instruction acts
  pub acting_ok : (condition : Condition) (known : Option Known) (result : Option Content) (go : Bool → Outcome) → IsKnownResult known result → HasCondition condition known → ((b : Bool) → may_act condition b ≡ true → Q (go b))
      → Q (with_acting condition result go)
  acting_ok Always known result go h c q = q true refl
  acting_ok WhenTrue None result go h c q = cc
  acting_ok WhenTrue (Some k) None go h c q = absurd h
  acting_ok WhenTrue (Some Flag) (Some x) go h c q = rw h.1 (q h.0 refl)
  acting_ok WhenTrue (Some (Ranged e i)) (Some x) go h c q = cc
  acting_ok WhenFalse None result go h c q = cc
  acting_ok WhenFalse (Some k) None go h c q = absurd h
  acting_ok WhenFalse (Some Flag) (Some x) go h c q = rw h.1 (q (not h.0) refl)
  acting_ok WhenFalse (Some (Ranged e i)) (Some x) go h c q = cc

  -- a condition, with what the result is where the instruction acts or not
  pub deciding_ok : (condition : Condition) (known : Option Known) (result : Option Content) (go : Bool → Outcome) → IsKnownResult known result → HasCondition condition known → ((b : Bool) → may_act condition b ≡ true → Decides condition b result → Q (go b))
      → Q (with_acting condition result go)
  deciding_ok Always known result go h c q = q true refl tt
  deciding_ok WhenTrue None result go h c q = cc
  deciding_ok WhenTrue (Some k) None go h c q = absurd h
  deciding_ok WhenTrue (Some Flag) (Some x) go h c q = rw h.1 (q h.0 refl (ap Some h.1))
  deciding_ok WhenTrue (Some (Ranged e i)) (Some x) go h c q = cc
  deciding_ok WhenFalse None result go h c q = cc
  deciding_ok WhenFalse (Some k) None go h c q = absurd h
  deciding_ok WhenFalse (Some Flag) (Some x) go h c q = rw h.1 (q (not h.0) refl (ap Some h.1 ∙ ap (λ b. Some (truth b)) (twice h.0)))
  deciding_ok WhenFalse (Some (Ranged e i)) (Some x) go h c q = cc

  -- a number within its type
  pub number_ok : (e : Elementary) (r : Interval) (z : ℤ) (go : Content → Outcome) → IsIn r z → FitsType e r → Q (go (content e (Integer z))) → Q (with_number e z go)
  number_ok e r z go h fits q = provided_ok _ _ _ (fits_value (limits e) r z h fits) q

  -- two numbers of one type are compared
  pub operated_ok : (operator : Operator) (k l : Known) (a b : Content) (P : Known → Type 0) (go : Content → Outcome) → IsKnown k a → IsKnown l b → WithOperated operator k l P
      → ((m : Known) (x : Content) → IsKnown m x → P m → Q (go x)) → Q (operated operator a b go)
  operated_ok (Logic kind negated) Flag Flag a b P go h g p q = rw (h.1, g.1) (q Flag (truth (logic kind h.0 (negated_if negated g.0))) (logic kind h.0 (negated_if negated g.0), refl) p)
  operated_ok (Logic kind negated) Flag (Ranged f j) a b P go h g p q = absurd p
  operated_ok (Logic kind negated) (Ranged e i) l a b P go h g p q = absurd p
  operated_ok (Arithmetic kind) Flag l a b P go h g p q = absurd p
  operated_ok (Arithmetic kind) (Ranged e i) Flag a b P go h g p q = absurd p
  operated_ok (Arithmetic kind) (Ranged e i) (Ranged f j) a b P go h g p q = rw (h.1, g.1, ← p.1) (
      let n = gives_in kind i j p.2.0 h.0 g.0 p.2.1 h.2 g.2 in
      provided_ok _ _ _ (both _ _ p.0 (type_itself e)) (provided_ok _ _ _ n.0 (number_ok e p.2.0 _ go n.1 p.2.2 (q (Ranged e p.2.0) _ (_, refl, n.1) p.2.3))))
  operated_ok (Comparison kind) (Ranged e i) (Ranged f j) a b P go h g p q = rw (h.1, g.1, ← p.0) (provided_ok _ _ _ (type_itself e) (q Flag _ (_, refl) p.1))
  operated_ok (Comparison kind) Flag (Ranged f j) a b P go h g p q = absurd p
  operated_ok (Comparison kind) (Ranged e i) Flag a b P go h g p q = absurd p
  operated_ok (Comparison Equal) Flag Flag a b P go h g p q = rw (h.1, g.1) (q Flag _ (_, refl) p.1)
  operated_ok (Comparison NotEqual) Flag Flag a b P go h g p q = rw (h.1, g.1) (q Flag _ (_, refl) p.1)
  operated_ok (Comparison Greater) Flag Flag a b P go h g p q = absurd p.0
  operated_ok (Comparison GreaterOrEqual) Flag Flag a b P go h g p q = absurd p.0
  operated_ok (Comparison LessOrEqual) Flag Flag a b P go h g p q = absurd p.0
  operated_ok (Comparison Less) Flag Flag a b P go h g p q = absurd p.0

  -- one of two known contents of one type
  selected_ok : (k l : Known) (a b : Content) (g : Bool) (P : Known → Type 0) (go : Content → Outcome) → IsKnown k a → IsKnown l b → WithSelected k l P → ((m : Known) (x : Content) → IsKnown m x → P m → Q (go x))
      → Q (provided (is_same_type a.elementary b.elementary) WrongKind (go (chosen g a b)))
  selected_ok Flag Flag a b true P go h l p q = rw (h.1, l.1) (q Flag _ (_, refl) p)
  selected_ok Flag Flag a b false P go h l p q = rw (h.1, l.1) (q Flag _ (_, refl) p)
  selected_ok Flag (Ranged f j) a b g P go h l p q = absurd p
  selected_ok (Ranged e i) Flag a b g P go h l p q = absurd p
  selected_ok (Ranged e i) (Ranged f j) a b true P go h l p q = rw (h.1, l.1, ← p.0) (provided_ok _ _ _ (type_itself e) (q (Ranged e p.1.0) _ (_, refl, in_wider j p.1.0 _ p.1.2 l.2) p.1.4))
  selected_ok (Ranged e i) (Ranged f j) a b false P go h l p q = rw (h.1, l.1, ← p.0) (provided_ok _ _ _ (type_itself e) (q (Ranged e p.1.0) _ (_, refl, in_wider i p.1.0 _ p.1.1 h.2) p.1.4))

  -- a standard function of known arguments
  pub applied_ok : (f : StandardFunction) (k : Known) (x : Content) (ks : List Known) (xs : List Content) (P : Known → Type 0) (go : Content → Outcome) → IsKnown k x → AllKnown ks xs → WithApplied f k ks P
      → ((m : Known) (y : Content) → IsKnown m y → P m → Q (go y)) → Q (applied f x xs go)
  applied_ok Absolute Flag x ks xs P go h l p q = absurd p
  applied_ok Absolute (Ranged e i) x [] [] P go h l p q =
      let n = p.1.1 h.0 h.2 in rw h.1 (provided_ok _ _ _ p.0 (number_ok e p.1.0 _ go n p.1.2 (q (Ranged e p.1.0) _ (_, refl, n) p.1.3)))
  applied_ok Absolute (Ranged e i) x [] (y ∷ xs) P go h l p q = absurd l
  applied_ok Absolute (Ranged e i) x (k ∷ ks) xs P go h l p q = absurd p
  applied_ok Minimum Flag x ks xs P go h l p q = absurd p
  applied_ok Minimum (Ranged e i) x [] xs P go h l p q = absurd p
  applied_ok Minimum (Ranged e i) x (Flag ∷ ks) xs P go h l p q = absurd p
  applied_ok Minimum (Ranged e i) x (Ranged f j ∷ k ∷ ks) xs P go h l p q = absurd p
  applied_ok Minimum (Ranged e i) x (Ranged f j ∷ []) [] P go h l p q = absurd l
  applied_ok Minimum (Ranged e i) x (Ranged f j ∷ []) (y ∷ z ∷ xs) P go h l p q = absurd l.1
  applied_ok Minimum (Ranged e i) x (Ranged f j ∷ []) (y ∷ []) P go h l p q =
      rw (h.1, l.0.1, ← p.0) (provided_ok _ _ _ (two_counted e p.1.0 p.1.2) (q (Ranged e p.1.0) _ (_, refl, p.1.1 h.0 l.0.0 h.2 l.0.2) p.1.3))
  applied_ok Maximum Flag x ks xs P go h l p q = absurd p
  applied_ok Maximum (Ranged e i) x [] xs P go h l p q = absurd p
  applied_ok Maximum (Ranged e i) x (Flag ∷ ks) xs P go h l p q = absurd p
  applied_ok Maximum (Ranged e i) x (Ranged f j ∷ k ∷ ks) xs P go h l p q = absurd p
  applied_ok Maximum (Ranged e i) x (Ranged f j ∷ []) [] P go h l p q = absurd l
  applied_ok Maximum (Ranged e i) x (Ranged f j ∷ []) (y ∷ z ∷ xs) P go h l p q = absurd l.1
  applied_ok Maximum (Ranged e i) x (Ranged f j ∷ []) (y ∷ []) P go h l p q =
      rw (h.1, l.0.1, ← p.0) (provided_ok _ _ _ (two_counted e p.1.0 p.1.2) (q (Ranged e p.1.0) _ (_, refl, p.1.1 h.0 l.0.0 h.2 l.0.2) p.1.3))
  applied_ok Limited Flag x ks xs P go h l p q = absurd p
  applied_ok Limited (Ranged e i) x [] xs P go h l p q = absurd p
  applied_ok Limited (Ranged e i) x (Flag ∷ ks) xs P go h l p q = absurd p
  applied_ok Limited (Ranged e i) x (Ranged f j ∷ []) xs P go h l p q = absurd p
  applied_ok Limited (Ranged e i) x (Ranged f j ∷ Flag ∷ ks) xs P go h l p q = absurd p
  applied_ok Limited (Ranged e i) x (Ranged f j ∷ Ranged g k ∷ m ∷ ks) xs P go h l p q = absurd p
  applied_ok Limited (Ranged e i) x (Ranged f j ∷ Ranged g k ∷ []) [] P go h l p q = absurd l
  applied_ok Limited (Ranged e i) x (Ranged f j ∷ Ranged g k ∷ []) (y ∷ []) P go h l p q = absurd l.1
  applied_ok Limited (Ranged e i) x (Ranged f j ∷ Ranged g k ∷ []) (y ∷ z ∷ w ∷ xs) P go h l p q = absurd l.1.1
  applied_ok Limited (Ranged e i) x (Ranged f j ∷ Ranged g k ∷ []) (y ∷ z ∷ []) P go h l p q =
      rw (h.1, l.0.1, l.1.0.1, ← p.0, ← p.1) (provided_ok _ _ _ (two_counted e p.2.0 p.2.2) (provided_ok _ _ _ (two_counted e p.2.0 p.2.2) (q (Ranged e p.2.0) _ (_, refl, p.2.1 h.0 l.0.0 l.1.0.0 h.2 l.0.2 l.1.0.2) p.2.3)))
  applied_ok Selected (Ranged e i) x ks xs P go h l p q = absurd p
  applied_ok Selected Flag x [] xs P go h l p q = absurd p
  applied_ok Selected Flag x (k ∷ []) xs P go h l p q = absurd p
  applied_ok Selected Flag x (k ∷ m ∷ n ∷ ks) xs P go h l p q = absurd p
  applied_ok Selected Flag x (k ∷ m ∷ []) [] P go h l p q = absurd l
  applied_ok Selected Flag x (k ∷ m ∷ []) (y ∷ []) P go h l p q = absurd l.1
  applied_ok Selected Flag x (k ∷ m ∷ []) (y ∷ z ∷ w ∷ xs) P go h l p q = absurd l.1.1
  applied_ok Selected Flag x (k ∷ m ∷ []) (y ∷ z ∷ []) P go h l p q = rw h.1 (selected_ok k m y z h.0 P go l.0 l.1.0 p q)
  applied_ok (Converted from to) Flag x ks xs P go h l p q = absurd p
  applied_ok (Converted from to) (Ranged e i) x (k ∷ ks) xs P go h l p q = absurd p
  applied_ok (Converted from to) (Ranged e i) x [] (y ∷ xs) P go h l p q = absurd l
  applied_ok (Converted from to) (Ranged e i) x [] [] P go h l p q =
      rw (h.1, p.0) (provided_ok _ _ _ (type_itself from) (number_ok to i _ go h.2 p.1 (q (Ranged to i) _ (_, refl, h.2) p.2)))
