-- Facts that lie under knowledge, and joins of facts.
use Rattle.std.proofs.Common.{◌≡◌, ℕ, zero, suc, Bool, true, false, if◌then◌else◌, List, [], ◌∷◌, length, Option, Some, None, option_map, refl, sym, ap, ◌∙◌, subst}
use Rattle.std.specs.Prelude.{nat_eq}
use Rattle.std.proofs.lemmas.Bool.{eqb-true, eq-eqb}
use Rattle.ranges_interval.specs.declared.Interval.{Interval}
use Rattle.ranges_interval.specs.Interval.{interval_join}
use Rattle.ranges_interval.proofs.Hulls.{join_operand, join_first, join_second, join_least}
use Rattle.il_statics.proofs.Alike.{same_type, type_same}
use Rattle.il_syntax.specs.declared.tree.Operator.{Operator}
use Rattle.il_syntax.specs.declared.tree.Operator.TheVariants.{Logic, Arithmetic, Comparison}
use Rattle.il_syntax.specs.declared.tree.Logic.TheVariants.{Conjunction, Disjunction, Exclusive}
use Rattle.il_syntax.specs.declared.tree.Arithmetic.TheVariants.{Add, Sub, Mul, Div, Mod}
use Rattle.il_syntax.specs.declared.tree.Comparison.TheVariants.{Greater, GreaterOrEqual, Equal, NotEqual, LessOrEqual, Less}
use Rattle.il_syntax.specs.ElementaryTypes.{is_same_type}
use Rattle.base_maps.specs.NameMap.{Text, get}
use Rattle.il_semantics.specs.declared.known.Known.{Known}
use Rattle.il_semantics.specs.declared.known.Known.TheVariants.{Flag, Ranged}
use Rattle.il_semantics.specs.declared.known.KnownDeferred.{KnownDeferred}
use Rattle.il_semantics.specs.Annotation.{Knowledge, IsPart, IsKnownWithin, IsResultWithin, IsDeferredWithin, IsVariableWithin}
use Rattle.ranges_laws.specs.declared.facts.Facts.{Facts}
use Rattle.ranges_laws.proofs.Rows.{row_is, row_first, row_second, row_least, join_row_fine, variable_itself}
use Rattle.ranges_laws.specs.Facts.{Names, row_at, row_join, variables_of, IsRowOf, facts, shown, IsFineKnown, IsFineResult, AreFineDeferred, IsFine, operator_number, is_same_operator, known_join, result_join, deferred_known, one_join, cons_if, deferred_join, facts_join}
use Rattle.ranges_laws.proofs.Tests.{interval_itself, interval_trans}
use Rattle.ranges_laws.proofs.Least.{mapped, same_some, Joined}

-- ONE SAYS NO LESS THAN ANOTHER

pub known_trans : (k l m : Known) → IsKnownWithin k l → IsKnownWithin l m → IsKnownWithin k m
known_trans Flag Flag Flag p q = tt
known_trans (Ranged e i) (Ranged f j) (Ranged g k) p q = (p.0 ∙ q.0, interval_trans i j k p.1 q.1)
known_trans Flag Flag (Ranged g k) p q = absurd q
known_trans Flag (Ranged f j) m p q = absurd p
known_trans (Ranged e i) Flag m p q = absurd p
known_trans (Ranged e i) (Ranged f j) Flag p q = absurd q

result_trans : (k l m : Option Known) → IsResultWithin k l → IsResultWithin l m → IsResultWithin k m
result_trans k l None p q = tt
result_trans k None (Some m) p q = absurd q
result_trans None (Some l) (Some m) p q = absurd p
result_trans (Some k) (Some l) (Some m) p q = known_trans k l m p q

deferred_trans : (ds es fs : List KnownDeferred) → IsDeferredWithin ds es → IsDeferredWithin es fs → IsDeferredWithin ds fs
deferred_trans [] [] fs p q = q
deferred_trans (d ∷ ds) (e ∷ es) (f ∷ fs) p q = (p.0 ∙ q.0, known_trans d.left e.left f.left p.1 q.1, deferred_trans ds es fs p.2 q.2)
deferred_trans [] (e ∷ es) fs p q = absurd p
deferred_trans (d ∷ ds) [] fs p q = absurd p
deferred_trans (d ∷ ds) (e ∷ es) [] p q = absurd q

variable_trans : (i j k : Option Interval) → IsVariableWithin i j → IsVariableWithin j k → IsVariableWithin i k
variable_trans None None None p q = tt
variable_trans (Some i) (Some j) (Some k) p q = interval_trans i j k p q
variable_trans None None (Some k) p q = absurd q
variable_trans None (Some j) k p q = absurd p
variable_trans (Some i) None k p q = absurd p
variable_trans (Some i) (Some j) None p q = absurd q

pub known_itself : (k : Known) → IsKnownWithin k k
known_itself Flag = tt
known_itself (Ranged e i) = (refl, interval_itself i)

pub result_itself : (k : Option Known) → IsResultWithin k k
result_itself None = tt
result_itself (Some k) = known_itself k

pub deferred_itself : (ds : List KnownDeferred) → IsDeferredWithin ds ds
deferred_itself [] = tt
deferred_itself (d ∷ ds) = (refl, known_itself d.left, deferred_itself ds)

pub part_itself : (k : Knowledge) → IsPart k k
part_itself k = record { variables = λ n. variable_itself (get k.variables n); result = result_itself k.result; deferred = deferred_itself k.deferred }

pub part_trans : (k l m : Knowledge) → IsPart k l → IsPart l m → IsPart k m
part_trans k l m p q = record {
  variables = λ n. variable_trans (get k.variables n) (get l.variables n) (get m.variables n) (p.variables n) (q.variables n);
  result = result_trans k.result l.result m.result p.result q.result;
  deferred = deferred_trans k.deferred l.deferred m.deferred p.deferred q.deferred;
}

-- RESULTS

known_fine : (k l j : Known) → IsFineKnown k → IsFineKnown l → known_join k l ≡ Some j → IsFineKnown j
known_fine Flag Flag j f g e = subst IsFineKnown (same_some Flag j e) tt
known_fine (Ranged e i) (Ranged h k) j f g is = by_test (is_same_type e h) is
  where
    by_test : (b : Bool) → (if b then Some (Ranged e (interval_join i k)) else None) ≡ Some j → IsFineKnown j
    by_test true is = subst IsFineKnown (same_some (Ranged e (interval_join i k)) j is) (join_operand i k f g)
    by_test false is = let bad : None ≡ Some j = is in cc
known_fine Flag (Ranged h k) j f g is = let bad : None ≡ Some j = is in cc
known_fine (Ranged e i) Flag j f g is = let bad : None ≡ Some j = is in cc

-- both lie within what is kept of them
known_both : (k l j : Known) → known_join k l ≡ Some j → IsKnownWithin k j × IsKnownWithin l j
known_both Flag Flag j e = subst (λ x. IsKnownWithin Flag x × IsKnownWithin Flag x) (same_some Flag j e) (tt, tt)
known_both (Ranged e i) (Ranged h k) j is = by_test (is_same_type e h) refl is
  where
    by_test : (b : Bool) → is_same_type e h ≡ b → (if b then Some (Ranged e (interval_join i k)) else None) ≡ Some j → IsKnownWithin (Ranged e i) j × IsKnownWithin (Ranged h k) j
    by_test true t is =
        subst (λ x. IsKnownWithin (Ranged e i) x × IsKnownWithin (Ranged h k) x) (same_some (Ranged e (interval_join i k)) j is)
        ((refl, join_first i k), (sym (same_type e h t), join_second i k))
    by_test false t is = let bad : None ≡ Some j = is in cc
known_both Flag (Ranged h k) j is = let bad : None ≡ Some j = is in cc
known_both (Ranged e i) Flag j is = let bad : None ≡ Some j = is in cc

known_least : (k l m : Known) → IsKnownWithin k m → IsKnownWithin l m → (j : Known) × (known_join k l ≡ Some j) × IsKnownWithin j m
known_least Flag Flag m p q = (Flag, refl, p)
known_least (Ranged e i) (Ranged f j) (Ranged g k) p q =
    (Ranged e (interval_join i j), ap (λ b. if b then Some (Ranged e (interval_join i j)) else None) (type_same e f (p.0 ∙ sym q.0)), (p.0, join_least i j k p.1 q.1))
known_least Flag (Ranged f j) Flag p q = absurd q
known_least Flag (Ranged f j) (Ranged g k) p q = absurd p
known_least (Ranged e i) Flag Flag p q = absurd p
known_least (Ranged e i) Flag (Ranged g k) p q = absurd q
known_least (Ranged e i) (Ranged f j) Flag p q = absurd p

option_fine : (o : Option Known) → ((k : Known) → o ≡ Some k → IsFineKnown k) → IsFineResult o
option_fine None h = tt
option_fine (Some k) h = h k refl

option_within : (k : Known) (o : Option Known) → ((j : Known) → o ≡ Some j → IsKnownWithin k j) → IsResultWithin (Some k) o
option_within k None h = tt
option_within k (Some j) h = h j refl

result_fine : (r s : Option Known) → IsFineResult r → IsFineResult s → IsFineResult (result_join r s)
result_fine None s f g = tt
result_fine (Some k) None f g = tt
result_fine (Some k) (Some l) f g = option_fine (known_join k l) (λ j e. known_fine k l j f g e)

result_first : (r s : Option Known) → IsResultWithin r (result_join r s)
result_first None s = tt
result_first (Some k) None = tt
result_first (Some k) (Some l) = option_within k (known_join k l) (λ j e. (known_both k l j e).0)

result_second : (r s : Option Known) → IsResultWithin s (result_join r s)
result_second None s = tt
result_second (Some k) None = tt
result_second (Some k) (Some l) = option_within l (known_join k l) (λ j e. (known_both k l j e).1)

result_least : (r s t : Option Known) → IsResultWithin r t → IsResultWithin s t → IsResultWithin (result_join r s) t
result_least r s None p q = tt
result_least None s (Some m) p q = absurd p
result_least (Some k) None (Some m) p q = absurd q
result_least (Some k) (Some l) (Some m) p q = let h = known_least k l m p q in subst (λ o. IsResultWithin o (Some m)) (sym h.1) h.2

-- WHAT IS SET ASIDE

operator_of : ℕ → Operator
operator_of zero = Logic Conjunction false
operator_of (suc zero) = Logic Disjunction false
operator_of (suc (suc zero)) = Logic Exclusive false
operator_of (suc (suc (suc zero))) = Logic Conjunction true
operator_of (suc (suc (suc (suc zero)))) = Logic Disjunction true
operator_of (suc (suc (suc (suc (suc zero))))) = Logic Exclusive true
operator_of (suc (suc (suc (suc (suc (suc zero)))))) = Arithmetic Add
operator_of (suc (suc (suc (suc (suc (suc (suc zero))))))) = Arithmetic Sub
operator_of (suc (suc (suc (suc (suc (suc (suc (suc zero)))))))) = Arithmetic Mul
operator_of (suc (suc (suc (suc (suc (suc (suc (suc (suc zero))))))))) = Arithmetic Div
operator_of (suc (suc (suc (suc (suc (suc (suc (suc (suc (suc zero)))))))))) = Arithmetic Mod
operator_of (suc (suc (suc (suc (suc (suc (suc (suc (suc (suc (suc zero))))))))))) = Comparison Greater
operator_of (suc (suc (suc (suc (suc (suc (suc (suc (suc (suc (suc (suc zero)))))))))))) = Comparison GreaterOrEqual
operator_of (suc (suc (suc (suc (suc (suc (suc (suc (suc (suc (suc (suc (suc zero))))))))))))) = Comparison Equal
operator_of (suc (suc (suc (suc (suc (suc (suc (suc (suc (suc (suc (suc (suc (suc zero)))))))))))))) = Comparison NotEqual
operator_of (suc (suc (suc (suc (suc (suc (suc (suc (suc (suc (suc (suc (suc (suc (suc zero))))))))))))))) = Comparison LessOrEqual
operator_of (suc (suc (suc (suc (suc (suc (suc (suc (suc (suc (suc (suc (suc (suc (suc (suc n)))))))))))))))) = Comparison Less

operator_back : (o : Operator) → operator_of (operator_number o) ≡ o
unfolding operator_of
operator_back (Logic Conjunction false) = refl
operator_back (Logic Disjunction false) = refl
operator_back (Logic Exclusive false) = refl
operator_back (Logic Conjunction true) = refl
operator_back (Logic Disjunction true) = refl
operator_back (Logic Exclusive true) = refl
operator_back (Arithmetic Add) = refl
operator_back (Arithmetic Sub) = refl
operator_back (Arithmetic Mul) = refl
operator_back (Arithmetic Div) = refl
operator_back (Arithmetic Mod) = refl
operator_back (Comparison Greater) = refl
operator_back (Comparison GreaterOrEqual) = refl
operator_back (Comparison Equal) = refl
operator_back (Comparison NotEqual) = refl
operator_back (Comparison LessOrEqual) = refl
operator_back (Comparison Less) = refl

same_operator : (a b : Operator) → is_same_operator a b ≡ true → a ≡ b
same_operator a b e = sym (operator_back a) ∙ ap operator_of (eqb-true (operator_number a) (operator_number b) e) ∙ operator_back b

operator_same : (a b : Operator) → a ≡ b → is_same_operator a b ≡ true
operator_same a b e = eq-eqb (operator_number a) (operator_number b) (ap operator_number e)

pub record OneJoined (d e j : KnownDeferred) : Type 0 where
  pub fine : IsFineKnown d.left → IsFineKnown e.left → IsFineKnown j.left
  pub first : (d.operator ≡ j.operator) × IsKnownWithin d.left j.left
  pub second : (e.operator ≡ j.operator) × IsKnownWithin e.left j.left

deferred_of : (d e j : KnownDeferred) (k : Known) → d.operator ≡ e.operator → known_join d.left e.left ≡ Some k → record { operator = d.operator; left = k } ≡ j → OneJoined d e j
deferred_of d e j k same is gives =
    let b = known_both d.left e.left k is in
    subst (OneJoined d e) gives (record { fine = λ f g. known_fine d.left e.left k f g is; first = (refl, b.0); second = (sym same, b.1) })

one_joined : (d e j : KnownDeferred) → one_join d e ≡ Some j → OneJoined d e j
one_joined d e j is = by_test (is_same_operator d.operator e.operator) refl is
  where
    by_known : (o : Option Known) → known_join d.left e.left ≡ o → d.operator ≡ e.operator → deferred_known d.operator o ≡ Some j → OneJoined d e j
    by_known None w same is = let bad : None ≡ Some j = is in cc
    by_known (Some k) w same is = let h : Some (record { operator = d.operator; left = k }) ≡ Some j = is in deferred_of d e j k same w (cc)

    by_test : (b : Bool) → is_same_operator d.operator e.operator ≡ b → (if b then deferred_known d.operator (known_join d.left e.left) else None) ≡ Some j → OneJoined d e j
    by_test true t is = by_known (known_join d.left e.left) refl (same_operator d.operator e.operator t) is
    by_test false t is = let bad : None ≡ Some j = is in cc

pub record AllJoined (ds es js : List KnownDeferred) : Type 0 where
  pub fine : AreFineDeferred ds → AreFineDeferred es → AreFineDeferred js
  pub first : IsDeferredWithin ds js
  pub second : IsDeferredWithin es js

all_joined : (ds es js : List KnownDeferred) → deferred_join ds es ≡ Some js → AllJoined ds es js
all_joined [] [] js e = subst (AllJoined [] []) (same_some [] js e) (record { fine = λ f g. tt; first = tt; second = tt })
all_joined (d ∷ ds) (e ∷ es) js is = by_parts (λ rest. all_joined ds es rest) (one_join d e) (deferred_join ds es) refl refl is
  where
    by_parts : ((rest : List KnownDeferred) → deferred_join ds es ≡ Some rest → AllJoined ds es rest) → (o : Option KnownDeferred) (p : Option (List KnownDeferred)) → one_join d e ≡ o → deferred_join ds es ≡ p → cons_if o p ≡ Some js → AllJoined (d ∷ ds) (e ∷ es) js
    by_parts below None p u v is = let bad : None ≡ Some js = is in cc
    by_parts below (Some j) None u v is = let bad : None ≡ Some js = is in cc
    by_parts below (Some j) (Some rest) u v is =
        let one = one_joined d e j u in
        let all = below rest v in
        subst (AllJoined (d ∷ ds) (e ∷ es)) (same_some (j ∷ rest) js is)
        (record { fine = λ f g. (one.fine f.0 g.0, all.fine f.1 g.1); first = (one.first.0, one.first.1, all.first); second = (one.second.0, one.second.1, all.second) })
all_joined [] (e ∷ es) js is = let bad : None ≡ Some js = is in cc
all_joined (d ∷ ds) [] js is = let bad : None ≡ Some js = is in cc

deferred_least : (ds es ms : List KnownDeferred) → IsDeferredWithin ds ms → IsDeferredWithin es ms → (js : List KnownDeferred) × (deferred_join ds es ≡ Some js) × IsDeferredWithin js ms
deferred_least [] [] ms p q = ([], refl, p)
deferred_least (d ∷ ds) (e ∷ es) (m ∷ ms) p q =
    let k = known_least d.left e.left m.left p.1 q.1 in
    let r = deferred_least ds es ms p.2 q.2 in
    let j : KnownDeferred = record { operator = d.operator; left = k.0 } in
    let one : one_join d e ≡ Some j = ap (λ b. if b then deferred_known d.operator (known_join d.left e.left) else None) (operator_same d.operator e.operator (p.0 ∙ sym q.0)) ∙ ap (deferred_known d.operator) k.1 in
    (j ∷ r.0, ap (λ o. cons_if o (deferred_join ds es)) one ∙ ap (cons_if (Some j)) r.1, (p.0, k.2, r.2))
deferred_least [] (e ∷ es) [] p q = absurd q
deferred_least [] (e ∷ es) (m ∷ ms) p q = absurd p
deferred_least (d ∷ ds) [] [] p q = absurd p
deferred_least (d ∷ ds) [] (m ∷ ms) p q = absurd q
deferred_least (d ∷ ds) (e ∷ es) [] p q = absurd p

-- FACTS

-- facts lie under what an annotation knows
abbrev pub Under : Names → Facts → Knowledge → Type 0
Under names f l = IsPart (shown names f) l

pub under_row : (names : Names) (f : Facts) (l : Knowledge) → Under names f l → (q : Text) → IsVariableWithin (row_at names f.row q) (get l.variables q)
under_row names f l u q = subst (λ o. IsVariableWithin o (get l.variables q)) (row_is names f.row q) (u.variables q)

pub row_under : (names : Names) (f : Facts) (l : Knowledge) → ((q : Text) → IsVariableWithin (row_at names f.row q) (get l.variables q)) → IsResultWithin f.result l.result → IsDeferredWithin f.deferred l.deferred → Under names f l
row_under names f l v r d = record { variables = λ q. subst (λ o. IsVariableWithin o (get l.variables q)) (sym (row_is names f.row q)) (v q); result = r; deferred = d }

row_shown : (names : Names) (f g : Facts) → ((q : Text) → IsVariableWithin (row_at names f.row q) (row_at names g.row q)) → (q : Text) → IsVariableWithin (row_at names f.row q) (get (variables_of names g.row) q)
row_shown names f g h q = subst (λ o. IsVariableWithin (row_at names f.row q) o) (sym (row_is names g.row q)) (h q)

same_long : (names : Names) (a b : List Interval) → IsRowOf names a → IsRowOf names b → nat_eq (length a) (length b) ≡ true
same_long names a b f g = eq-eqb (length a) (length b) (f.long ∙ sym g.long)

pub facts_joined : (names : Names) (f g j : Facts) → IsFine names f → IsFine names g → facts_join f g ≡ Some j → Joined (IsFine names) (Under names) (shown names) f g j
facts_joined names f g j p q e =
    let test = ap (λ b. if b then option_map (facts (row_join f.row g.row) (result_join f.result g.result)) (deferred_join f.deferred g.deferred) else None) (same_long names f.row g.row p.row q.row) in
    let m = mapped (facts (row_join f.row g.row) (result_join f.result g.result)) (deferred_join f.deferred g.deferred) j (sym test ∙ e) in
    let a = all_joined f.deferred g.deferred m.from m.was in
    let made = facts (row_join f.row g.row) (result_join f.result g.result) m.from in
    subst (Joined (IsFine names) (Under names) (shown names) f g) m.gives (record {
      fine = record { row = join_row_fine names f.row g.row p.row q.row; result = result_fine f.result g.result p.result q.result; deferred = a.fine p.deferred q.deferred };
      first = row_under names f (shown names made) (row_shown names f made (row_first names f.row g.row p.row q.row)) (result_first f.result g.result) a.first;
      second = row_under names g (shown names made) (row_shown names g made (row_second names f.row g.row p.row q.row)) (result_second f.result g.result) a.second;
    })

pub facts_least : (names : Names) (f g : Facts) (l : Knowledge) → IsFine names f → IsFine names g → Under names f l → Under names g l → (j : Facts) × (facts_join f g ≡ Some j) × Under names j l
facts_least names f g l p q u v =
    let d = deferred_least f.deferred g.deferred l.deferred u.deferred v.deferred in
    let made = facts (row_join f.row g.row) (result_join f.result g.result) d.0 in
    let test = ap (λ b. if b then option_map (facts (row_join f.row g.row) (result_join f.result g.result)) (deferred_join f.deferred g.deferred) else None) (same_long names f.row g.row p.row q.row) in
    (made, test ∙ ap (option_map (facts (row_join f.row g.row) (result_join f.result g.result))) d.1, row_under names made l (λ q'. row_least names f.row g.row p.row q.row q' (get l.variables q') (under_row names f l u q') (under_row names g l v q')) (result_least f.result g.result l.result u.result v.result) d.2)
