-- Each task of a group has a pass that counts its entries.
use Rattle.std.proofs.Common.{◌≡◌, ℕ, zero, suc, ◌≤◌, Bool, true, false, List, [], ◌∷◌, ◌++◌, map, refl, sym, ap, ◌∙◌, arith, subst}
use Rattle.std.proofs.Common.{inl, inr}
use Rattle.std.specs.Prelude.{All, filter, ◌⊎◌}
use Rattle.std.proofs.lemmas.List.Elements.{All-head, All-tail, All-push}
use Rattle.il_syntax.specs.declared.tree.Config.{Config}
use Rattle.group_spec.specs.declared.journal.Entry.{Entry}
use Rattle.group_journal.specs.Journal.{entries_by}
use Rattle.std.specs.Prelude.{nat_le, ◌&&◌}
use Rattle.std.proofs.lemmas.Bool.Decides.{nat_tests}
use Rattle.scan_task.specs.Scanning.{IsRunnable}
use Rattle.group_spec.specs.Image.{sizes_of}
use Rattle.group_spec.specs.Snapshot.{has_task}
use Rattle.scan_task.proofs.Sizes.{sizes_fit}
use Rattle.threads_station.specs.Passes.{TaskCount, is_task, all_tasks}

-- a number is in a list
abbrev Has : List ℕ → ℕ → Type 0
Has [] t = ⊥
Has (u ∷ us) t = (u ≡ t) ⊎ Has us t

has_filtered : (f : ℕ → Bool) (t : ℕ) (us : List ℕ) → Has us t → f t ≡ true → Has (filter f us) t
has_filtered f t [] has so = absurd has
has_filtered f t (u ∷ us) (inl same) so = rw (ap f same ∙ so) (inl same)
has_filtered f t (u ∷ us) (inr rest) so = by (f u) refl (has_filtered f t us rest so)
  where
    by : (b : Bool) → f u ≡ b → Has (filter f us) t → Has (filter f (u ∷ us)) t
    by true e has = rw e (inr has)
    by false e has = rw e has

has_all : (t : ℕ) → t ≤ 8 → Has all_tasks t
has_all zero low = inl refl
has_all (suc zero) low = inr (inl refl)
has_all (suc (suc zero)) low = inr (inr (inl refl))
has_all (suc (suc (suc zero))) low = inr (inr (inr (inl refl)))
has_all (suc (suc (suc (suc zero)))) low = inr (inr (inr (inr (inl refl))))
has_all (suc (suc (suc (suc (suc zero))))) low = inr (inr (inr (inr (inr (inl refl)))))
has_all (suc (suc (suc (suc (suc (suc zero)))))) low = inr (inr (inr (inr (inr (inr (inl refl))))))
has_all (suc (suc (suc (suc (suc (suc (suc zero))))))) low = inr (inr (inr (inr (inr (inr (inr (inl refl)))))))
has_all (suc (suc (suc (suc (suc (suc (suc (suc zero)))))))) low = inr (inr (inr (inr (inr (inr (inr (inr (inl refl))))))))
has_all (suc (suc (suc (suc (suc (suc (suc (suc (suc t))))))))) low = absurd (omega (arith, low))

counted : (n t : ℕ) (journal : List Entry) (ps : List TaskCount) → All (λ (p : TaskCount). p.count ≡ n) ps → All (λ (p : TaskCount). p.count ≡ entries_by p.task journal) ps → Has (map (λ (p : TaskCount). p.task) ps) t
    → entries_by t journal ≡ n
counted n t journal [] many counts has = absurd has
counted n t journal (p ∷ ps) many counts (inl same) =
    ap (λ u. entries_by u journal) (sym same) ∙ sym (All-head (λ (q : TaskCount). q.count ≡ entries_by q.task journal) p ps counts) ∙ All-head (λ (q : TaskCount). q.count ≡ n) p ps many
counted n t journal (p ∷ ps) many counts (inr rest) =
    counted n t journal ps (All-tail (λ (q : TaskCount). q.count ≡ n) p ps many) (All-tail (λ (q : TaskCount). q.count ≡ entries_by q.task journal) p ps counts) rest

pub all_counted : (c : Config) (n : ℕ) (journal : List Entry) (ps : List TaskCount) → map (λ (p : TaskCount). p.task) ps ≡ filter (is_task c) all_tasks → All (λ (p : TaskCount). p.count ≡ n) ps
    → All (λ (p : TaskCount). p.count ≡ entries_by p.task journal) ps → (t : ℕ) → t ≤ 8 → is_task c t ≡ true → entries_by t journal ≡ n
all_counted c n journal ps are many counts t low is = counted n t journal ps many counts (subst (λ us. Has us t) (sym are) (has_filtered (is_task c) t all_tasks (has_all t low) is))

first_of : (a b : Bool) → (a && b) ≡ true → a ≡ true
first_of true b e = refl
first_of false b e = cc

within : (a b : ℕ) → nat_le a b ≡ true → a ≤ b
within a b e = grind (arith, nat_tests)

-- a task's number is at most 8
pub low_task : (c : Config) → IsRunnable c → (t : ℕ) → is_task c t ≡ true → t ≤ 8
low_task c runs t is =
    let fit = sizes_fit c runs in
    let cars = within t (sizes_of c).cars (first_of (nat_le t (sizes_of c).cars) (has_task c t) is) in
    omega (arith, cars, fit.0.1)

-- what holds of all that is left holds of the next and of the rest
pub next_of : {X : Type 0} (now rest : List X) (x : X) → now ≡ x ∷ rest → (P : X → Type 0) → All P now → P x × All P rest
next_of now rest x is P all = let a = subst (All P) is all in (All-head P x rest a, All-tail P x rest a)

-- and of the list with one item more
pub all_more : {X : Type 0} (now xs : List X) (x : X) → now ≡ xs ++ x ∷ [] → (P : X → Type 0) → All P xs → P x → All P now
all_more now xs x is P all one = subst (All P) (sym is) (All-push P xs x all one)
