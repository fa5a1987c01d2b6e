-- The numbers of the variables into which a unit stores.
use Rattle.std.proofs.Common.{◌≡◌, ℕ, ◌+◌, ◌<◌, Bool, true, false, cond, List, [], ◌∷◌, ◌++◌, zero, suc, length, Option, Some, None, Result, Ok, Err, refl, sym, ap, ◌∙◌, subst, slice_get, arith, inl, inr}
use Rattle.std.specs.Prelude.{is_some, OnOk}
use Rattle.std.specs.Ordering.{eq_by_cmp}
use Rattle.std.proofs.lemmas.Bool.Decides.{eqb_tells}
use Rattle.ranges_interval.specs.declared.Interval.{Interval}
use Rattle.ranges_interval.specs.Interval.{IsOperand}
use Rattle.il_syntax.specs.declared.tree.Argument.{Argument}
use Rattle.il_syntax.specs.declared.tree.Argument.TheVariants.{Input, Output}
use Rattle.il_syntax.specs.declared.tree.Step.{Step}
use Rattle.il_syntax.specs.declared.tree.Reference.{Reference}
use Rattle.il_syntax.specs.declared.tree.Reference.TheVariants.{Literal as OfLiteral, Variable as OfVariable, Element as OfElement, Member as OfMember}
use Rattle.il_syntax.specs.declared.tree.Instruction.{Instruction}
use Rattle.il_syntax.specs.declared.tree.Instruction.TheVariants.{Load, Store, Not, Operate, Defer, Evaluate, Jump, Return, Call, Invoke}
use Rattle.il_statics.specs.Names.{Spelling}
use Rattle.base_maps.specs.NameMap.{NameMap, order, get, insert, empty, get-insert, get-empty}
use Rattle.ranges_laws.specs.Facts.{AreOperands}
use Rattle.ranges_laws.proofs.Rows.{same_text, text_itself}
use Rattle.ranges_laws.proofs.Least.{same_some}
use Rattle.load_scope.specs.Units.{InUnit}
use Rattle.ranges_pass.specs.Numbering.{range_of, AreNumbers, KeepNumbers, HasNumberIn, IsTargetNumbered, IsArgumentNumbered, AreNumberedAt, IsStepNumbered, IsPlaceNumbered, AreDeclaredOperands, Added, Adds, IsNumberingOf}

pub on_ok_both : {X E : Type 0} (P Q R : Type 0) (r : Result X E) → (P → Q → R) → OnOk r P → OnOk r Q → OnOk r R
on_ok_both P Q R (Ok x) f p q = f p q
on_ok_both P Q R (Err e) f p q = tt

append_operands : (xs : List Interval) (i : Interval) → AreOperands xs → IsOperand i → AreOperands (xs ++ i ∷ [])
append_operands [] i f o = (o, tt)
append_operands (x ∷ xs) i f o = (f.0, append_operands xs i f.1 o)

append_length : (xs : List Interval) (i : Interval) → length (xs ++ i ∷ []) ≡ length xs + 1
append_length [] i = refl
append_length (x ∷ xs) i = let h = append_length xs i in omega arith

append_front : (xs : List Interval) (i : Interval) (n : ℕ) → n < length xs → slice_get (xs ++ i ∷ []) n ≡ slice_get xs n
append_front [] i n h = absurd (omega arith)
append_front (x ∷ xs) i zero h = refl
append_front (x ∷ xs) i (suc n) h = append_front xs i n (omega arith)

append_last : (xs : List Interval) (i : Interval) → slice_get (xs ++ i ∷ []) (length xs) ≡ Some i
append_last [] i = refl
append_last (x ∷ xs) i = append_last xs i

-- what an insertion finds
found : (numbers : NameMap ℕ) (name : Spelling) (new : ℕ) (q : Spelling) (n : ℕ) (P : Type 0) → get (insert numbers name new) q ≡ Some n → (q ≡ name → new ≡ n → P) → (get numbers q ≡ Some n → P) → P
found numbers name new q n P e here there = by_test (eq_by_cmp order q name) refl (sym (get-insert numbers name new q) ∙ e)
  where
    by_test : (b : Bool) → eq_by_cmp order q name ≡ b → cond b (Some new) (get numbers q) ≡ Some n → P
    by_test true t h = here (same_text q name t) (same_some new n h)
    by_test false t h = there h

-- a variable that has no number yet, and a range
pub added_one : (u : InUnit) (numbers new : NameMap ℕ) (declared more : List Interval) (name : Spelling) (r : Interval) → get numbers name ≡ None → range_of u name ≡ Some r → new ≡ insert numbers name (length declared) → more ≡ declared ++ r ∷ []
    → Adds u (λ ns. HasNumberIn u ns name) numbers declared new more
added_one u numbers new declared more name r none range_is new_is more_is fine are =
    subst (λ m. Added u (λ ns. HasNumberIn u ns name) numbers m more) (sym new_is) (subst (λ d. Added u (λ ns. HasNumberIn u ns name) numbers (insert numbers name (length declared)) d) (sym more_is) (record {
      are = record {
        operands = append_operands declared r are.operands (fine name r (range_is));
        inside = λ q n e. found numbers name (length declared) q n (n < length (declared ++ r ∷ [])) e (λ same last. omega (arith, last, append_length declared r)) (λ old. omega (arith, are.inside q n old, append_length declared r));
        distinct = λ q p n e g. found numbers name (length declared) q n (q ≡ p) e
            (λ same last. found numbers name (length declared) p n (q ≡ p) g (λ also _. same ∙ sym also) (λ old. absurd (omega (arith, last, are.inside p n old))))
            (λ old. found numbers name (length declared) p n (q ≡ p) g (λ also last. absurd (omega (arith, last, are.inside q n old))) (λ other. are.distinct q p n old other));
        ranges = λ q n e. found numbers name (length declared) q n (slice_get (declared ++ r ∷ []) n ≡ range_of u q) e
            (λ same last. ap (slice_get (declared ++ r ∷ [])) (sym last) ∙ append_last declared r ∙ sym (range_is) ∙ ap (range_of u) (sym same))
            (λ old. append_front declared r n (are.inside q n old) ∙ are.ranges q n old);
      };
      kept = λ q n e. get-insert numbers name (length declared) q ∙ by_test q n e (eq_by_cmp order q name) refl;
      made_is = λ i e. (length declared, get-insert numbers name (length declared) name ∙ ap (λ b. cond b (Some (length declared)) (get numbers name)) (text_itself name));
    }))
  where
    by_test : (q : Spelling) (n : ℕ) → get numbers q ≡ Some n → (b : Bool) → eq_by_cmp order q name ≡ b → cond b (Some (length declared)) (get numbers q) ≡ Some n
    by_test q n e true t = let bad : ◌≡◌ {A = Option ℕ} None (Some n) = sym none ∙ ap (get numbers) (sym (same_text q name t)) ∙ e in cc
    by_test q n e false t = e

-- no number yet
pub no_numbers : (u : InUnit) (numbers : NameMap ℕ) (declared : List Interval) → numbers ≡ empty → declared ≡ [] → AreNumbers u numbers declared
no_numbers u numbers declared none nothing = subst (λ m. AreNumbers u m declared) (sym none) (subst (AreNumbers u empty) (sym nothing) (record {
  operands = tt;
  inside = λ q n e. absurd (empty_none q n e);
  distinct = λ q r n e g. absurd (empty_none q n e);
  ranges = λ q n e. absurd (empty_none q n e);
}))
  where
    empty_none : (q : Spelling) (n : ℕ) → get {X = ℕ} empty q ≡ Some n → ⊥
    empty_none q n e = let bad : ◌≡◌ {A = Option ℕ} None (Some n) = sym (get-empty q) ∙ e in cc

-- what was numbered stays so
kept_name : (u : InUnit) (old new : NameMap ℕ) (name : Spelling) → KeepNumbers old new → HasNumberIn u old name → HasNumberIn u new name
kept_name u old new name kept h = λ i e. let n = h i e in (n.0, kept name n.0 n.1)

pub kept_argument : (u : InUnit) (old new : NameMap ℕ) (a : Argument) → KeepNumbers old new → IsArgumentNumbered u old a → IsArgumentNumbered u new a
kept_argument u old new (Input word o) kept h = tt
kept_argument u old new (Output word to) kept h = kept_name u old new to.name kept h

kept_target : (u : InUnit) (old new : NameMap ℕ) (r : Reference) → KeepNumbers old new → IsTargetNumbered u old r → IsTargetNumbered u new r
kept_target u old new (OfVariable name) kept h = kept_name u old new name kept h
kept_target u old new (OfLiteral l) kept h = tt
kept_target u old new (OfElement name index) kept h = tt
kept_target u old new (OfMember name word) kept h = tt

pub kept_step : (u : InUnit) (old new : NameMap ℕ) (tests : Bool) (i : Instruction) → KeepNumbers old new → IsStepNumbered u old tests i → IsStepNumbered u new tests i
kept_step u old new tests (Store kind to) kept h = kept_target u old new to.reference kept h
kept_step u old new tests (Load negated operand) kept h = λ e. kept_target u old new operand.reference kept (h e)
kept_step u old new tests (Call condition instance arguments) kept h = λ at a low is. kept_argument u old new a kept (h at a low is)
kept_step u old new tests Not kept h = tt
kept_step u old new tests (Operate operator operand) kept h = tt
kept_step u old new tests (Defer operator first) kept h = tt
kept_step u old new tests Evaluate kept h = tt
kept_step u old new tests (Jump condition label) kept h = tt
kept_step u old new tests (Return condition) kept h = tt
kept_step u old new tests (Invoke function operands) kept h = tt

-- nothing more
pub adds_nothing : (u : InUnit) (made : NameMap ℕ → Type 0) (numbers : NameMap ℕ) (declared : List Interval) → made numbers → Adds u made numbers declared numbers declared
adds_nothing u made numbers declared m fine are = record { are = are; kept = λ q n e. e; made_is = m }

-- ONE ITEM AFTER ANOTHER

-- numbers for so many items
abbrev pub AddsTo : {X : Type 0} → InUnit → (NameMap ℕ → ℕ → X → Type 0) → List X → ℕ → NameMap ℕ → List Interval → NameMap ℕ → List Interval → Type 0
AddsTo u made items bound old declared new more = Adds u (λ ns. AreNumberedAt (made ns) items bound) old declared new more

pub adds_first : {X : Type 0} (u : InUnit) (made : NameMap ℕ → ℕ → X → Type 0) (items : List X) (numbers : NameMap ℕ) (declared : List Interval) → AddsTo u made items 0 numbers declared numbers declared
adds_first u made items numbers declared = adds_nothing u (λ ns. AreNumberedAt (made ns) items 0) numbers declared (λ at x low is. absurd (omega arith))

pub adds_next : {X : Type 0} (u : InUnit) (made : NameMap ℕ → ℕ → X → Type 0) (items : List X) (bound : ℕ) (x : X) (first old new : NameMap ℕ) (declared more most : List Interval) → ((old new : NameMap ℕ) (at : ℕ) (y : X) → KeepNumbers old new → made old at y → made new at y) → slice_get items bound ≡ Some x
    → AddsTo u made items bound first declared old more → Adds u (λ ns. made ns bound x) old more new most → AddsTo u made items (bound + 1) first declared new most
adds_next u made items bound x first old new declared more most keeps stands before here fine are =
    let b = before fine are in
    let h = here fine b.are in
    record {
      are = h.are;
      kept = λ q n e. h.kept q n (b.kept q n e);
      made_is = λ at y low e. elim (eqb_tells at bound) [
        | inl same ↦ subst (λ k. made new k y) (sym same.1) (subst (made new bound) (same_some x y (sym stands ∙ ap (slice_get items) (sym same.1) ∙ e)) h.made_is)
        | inr other ↦ keeps old new at y h.kept (b.made_is at y (omega (arith, other.1)) e)
      ];
    }

pub adds_all : {X : Type 0} (u : InUnit) (made : NameMap ℕ → ℕ → X → Type 0) (items : List X) (bound all : ℕ) (first new : NameMap ℕ) (declared more : List Interval) → bound ≡ all → AddsTo u made items bound first declared new more → AddsTo u made items all first declared new more
adds_all u made items bound all first new declared more e h = subst (λ k. AddsTo u made items k first declared new more) e h

-- the numbers of a unit
pub numbered_all : (u : InUnit) (steps : List Step) (bound : ℕ) (numbers : NameMap ℕ) (declared : List Interval) (first : NameMap ℕ) (nothing : List Interval) → steps ≡ u.unit.body.steps → bound ≡ length steps → first ≡ empty → nothing ≡ []
    → AddsTo u (λ ns. IsPlaceNumbered u ns steps) steps bound first nothing numbers declared → AreDeclaredOperands u → IsNumberingOf u numbers declared
numbered_all u steps bound numbers declared first nothing same end is none adds fine =
    let a = adds fine (no_numbers u first nothing is none) in
    record {
      are = a.are;
      stores = subst (λ l. AreNumberedAt (IsPlaceNumbered u numbers l) l (length l)) same (subst (AreNumberedAt (IsPlaceNumbered u numbers steps) steps) end a.made_is);
    }

pub none_is : (o : Option ℕ) → is_some o ≡ false → o ≡ None
none_is None e = refl
none_is (Some n) e = let bad : true ≡ false = e in cc

-- LOADS

-- where a unit has tests, what it loads is numbered
pub adds_loaded : (u : InUnit) (made : NameMap ℕ → Type 0) (tests : Type 0) (old : NameMap ℕ) (declared : List Interval) (new : NameMap ℕ) (more : List Interval) → Adds u made old declared new more → Adds u (λ ns. tests → made ns) old declared new more
adds_loaded u made tests old declared new more adds fine are = let a = adds fine are in record { are = a.are; kept = a.kept; made_is = λ _. a.made_is }
