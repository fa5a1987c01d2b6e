-- A panel's pass that was taken out is put back.
use Rattle.std.proofs.Common.{◌≡◌, ℕ, zero, suc, ◌<◌, List, [], ◌∷◌, ◌++◌, length, All, refl, ap, sym, ◌∙◌, arith}
use Rattle.threads_desk.specs.Passes.{Panel, Layout, AreAllPanels}
use Rattle.threads_desk.proofs.Closing.{all-last}

same_length : (xs : List Panel) (x y : Panel) → length (xs ++ x ∷ []) ≡ length (xs ++ y ∷ [])
same_length [] x y = refl
same_length (z ∷ zs) x y = ap (λ n. suc n) (same_length zs x y)

with_other : (P : Panel → Type 0) (xs : List Panel) (x y : Panel) → All P (xs ++ x ∷ []) → P y → All P (xs ++ y ∷ [])
with_other P [] x y all here zero d low = here
with_other P [] x y all here (suc k) d low = absurd (omega (arith, low))
with_other P (z ∷ zs) x y all here zero d low = all 0 d (omega arith)
with_other P (z ∷ zs) x y all here (suc k) d low = with_other P zs x y (λ k d low. all (suc k) d (omega (arith, low))) here k d (omega (arith, low))

pub put_back : (d : Layout) (xs : List Panel) (x y : Panel) → AreAllPanels d (xs ++ x ∷ []) → y.table ≡ x.table → AreAllPanels d (xs ++ y ∷ [])
put_back d xs x y all same =
    let P = λ (p : Panel). p.table ≡ d.table in
    (sym (same_length xs x y) ∙ all.0, with_other P xs x y all.1 (same ∙ all-last P xs x all.1))
