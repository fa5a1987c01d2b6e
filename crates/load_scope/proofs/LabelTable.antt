-- The table of labels.
use Rattle.std.proofs.Common.{◌≡◌, ℕ, zero, suc, ◌+◌, ◌-◌, ◌<◌, Bool, true, false, ◌||◌, if◌then◌else◌, cond, List, [], ◌∷◌, map, take, drop, length, get_or, Option, Some, None, slice_get, refl, sym, ap, ◌∙◌, subst, add-one, arith, bytes_eq}
use Rattle.std.specs.Cmp.{eq_by_cmp_equiv}
use Rattle.std.specs.Cmp.Lexicographic.{nat_list_cmp_total}
use Rattle.std.proofs.lemmas.Map.Text.{is_eq-slice_cmp}
use Rattle.std.proofs.lemmas.Option.{slice_get_read}
use Rattle.il_syntax.specs.declared.tree.Named.{Named}
use Rattle.il_syntax.specs.declared.tree.Step.{Step}
use Rattle.il_syntax.specs.declared.tree.Body.{Body}
use Rattle.il_statics.specs.Names.{Spelling, is_one_of}
use Rattle.il_statics.specs.Types.{label_from, label_place}
use Rattle.base_maps.specs.NameMap.{NameMap, get, insert, empty, get-insert, get-empty}
use Rattle.load_scope.specs.LabelTables.{AreFrom, AreWith}

get_put : (m : NameMap ℕ) (k : Spelling) (v : ℕ) (q : Spelling) → get (insert m k v) q ≡ cond (bytes_eq k q) (Some v) (get m q)
get_put m k v q = get-insert m k v q ∙ ap (λ b. cond b (Some v) (get m q)) (sym (sym (is_eq-slice_cmp k q) ∙ (eq_by_cmp_equiv nat_list_cmp_total).symm k q))

any_next : (names : List Named) (i : ℕ) (x : Named) (q : Spelling) → slice_get names i ≡ Some x → is_one_of (map (λ l. l.name) (take (suc i) names)) q ≡ (bytes_eq x.name q || is_one_of (map (λ l. l.name) (take i names)) q)
any_next [] i x q e = absurd (let bad : None ≡ Some x = e in cc)
any_next (y ∷ names) zero x q e = ap (λ n. bytes_eq n.name q || false) (same y x e)
  where
    same : (a b : Named) → Some a ≡ Some b → a ≡ b
    same a b e = cc
any_next (y ∷ names) (suc i) x q e = ap (λ b. bytes_eq y.name q || b) (any_next names i x q e) ∙ swap (bytes_eq y.name q) (bytes_eq x.name q) (is_one_of (map (λ l. l.name) (take i names)) q)
  where
    swap : (a b c : Bool) → (a || (b || c)) ≡ (b || (a || c))
    swap true true c = refl
    swap true false c = refl
    swap false true c = refl
    swap false false c = refl

by_or : (b c : Bool) (at : ℕ) (old : Option ℕ) → cond b (Some at) (if c then Some at else old) ≡ (if b || c then Some at else old)
by_or true c at old = refl
by_or false c at old = refl

pub with_none : (old : NameMap ℕ) (names : List Named) (at : ℕ) → AreWith old (take 0 names) at old
with_none old names at name = refl

pub with_next : (old mid new : NameMap ℕ) (names : List Named) (i : ℕ) (x : Named) (name : Spelling) (at : ℕ) → i < length names → x ≡ get_or names i x → AreWith old (take i names) at mid → name ≡ x.name → new ≡ insert mid name at → AreWith old (take (i + 1) names) at new
with_next old mid new names i x name at low there w named e q =
    ap (λ m. get m q) (e ∙ ap (λ k. insert mid k at) named) ∙ get_put mid x.name at q ∙ ap (cond (bytes_eq x.name q) (Some at)) (w q)
    ∙ by_or (bytes_eq x.name q) (is_one_of (map (λ l. l.name) (take i names)) q) at (get old q)
    ∙ ap (λ b. if b then Some at else get old q) (sym (any_next names i x q (slice_get_read names (length names) i x refl low there)) ∙ ap (λ k. is_one_of (map (λ l. l.name) (take k names)) q) (sym (add-one i)))

drop_end : (steps : List Step) (n : ℕ) → n ≡ length steps → drop n steps ≡ []
drop_end [] zero e = refl
drop_end [] (suc n) e = absurd (omega arith)
drop_end (s ∷ steps) zero e = absurd (omega arith)
drop_end (s ∷ steps) (suc n) e = drop_end steps n (omega arith)

drop_at : (steps : List Step) (n : ℕ) (s : Step) → slice_get steps n ≡ Some s → drop n steps ≡ s ∷ drop (suc n) steps
drop_at [] n s e = absurd (let bad : None ≡ Some s = e in cc)
drop_at (x ∷ steps) zero s e = ap (λ y. y ∷ steps) (same x s e)
  where
    same : (a b : Step) → Some a ≡ Some b → a ≡ b
    same a b e = cc
drop_at (x ∷ steps) (suc n) s e = drop_at steps n s e

-- after all instructions
from_end : (first new : NameMap ℕ) (steps : List Step) (names last : List Named) (n : ℕ) → first ≡ empty → names ≡ last → n ≡ length steps → AreWith first names n new → AreFrom new n (drop n steps) (map (λ l. l.name) last)
from_end first new steps names last n fresh same e w q =
    w q ∙ ap (λ ns. if is_one_of (map (λ l. l.name) ns) q then Some n else get first q) same ∙ ap (λ o. if is_one_of (map (λ l. l.name) last) q then Some n else o) (ap (λ m. get m q) fresh ∙ get-empty q) ∙ ap (λ ss. label_from n ss (map (λ l. l.name) last) q) (sym (drop_end steps n e))

-- the same, as the loop counts
pub from_last : (first new : NameMap ℕ) (steps : List Step) (names last : List Named) (n m : ℕ) → first ≡ empty → names ≡ last → n ≡ length steps → m ≡ n → AreWith first names n new → AreFrom new m (drop m steps) (map (λ l. l.name) last)
from_last first new steps names last n m fresh same e count w = subst (λ k. AreFrom new k (drop k steps) (map (λ l. l.name) last)) (sym count) (from_end first new steps names last n fresh same e w)

-- one instruction more, from the end on
pub from_next : (mid new : NameMap ℕ) (steps : List Step) (last : List Spelling) (passed at : ℕ) (s : Step) → at < length steps → s ≡ get_or steps at s → at + 1 ≡ length steps - passed → AreFrom mid (length steps - passed) (drop (length steps - passed) steps) last → AreWith mid s.labels at new
    → AreFrom new (length steps - (passed + 1)) (drop (length steps - (passed + 1)) steps) last
from_next mid new steps last passed at s low there e f w = subst (λ k. AreFrom new k (drop k steps) last) same here
  where
    same : at ≡ length steps - (passed + 1)
    same = omega (arith, e)

    was : AreFrom mid (at + 1) (drop (suc at) steps) last
    was = subst (λ k. AreFrom mid (at + 1) (drop k steps) last) (add-one at) (subst (λ k. AreFrom mid k (drop k steps) last) (sym e) f)

    here : AreFrom new at (drop at steps) last
    here q = w q ∙ ap (λ o. if is_one_of (map (λ l. l.name) s.labels) q then Some at else o) (was q) ∙ ap (λ ss. label_from at ss last q) (sym (drop_at steps at s (slice_get_read steps (length steps) at s refl low there)))

-- from the first on
pub from_first : (new : NameMap ℕ) (body : Body) (n : ℕ) → n ≡ 0 → AreFrom new n (drop n body.steps) (map (λ l. l.name) body.last_labels) → (q : Spelling) → get new q ≡ label_place body q
unfolding label_place
from_first new body n e f q = f q ∙ ap (λ k. label_from k (drop k body.steps) (map (λ l. l.name) body.last_labels) q) e
