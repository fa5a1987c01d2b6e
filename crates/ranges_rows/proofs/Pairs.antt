-- Lists joined item by item, as far as a number.
use Rattle.std.proofs.Common.{◌≡◌, sym, ◌∙◌, ℕ, zero, suc, ◌+◌, ◌<◌, List, [], ◌∷◌, ◌++◌, length, get_or, refl, ap, arith, take, drop}
use Rattle.std.proofs.Math.Seq.{take-append_seam}
use Rattle.std.specs.Prelude.{slice_set}
use Rattle.ranges_rows.specs.Ranges.{paired}

pub paired_to : {A : Type 0} → (A → A → A) → ℕ → List A → List A → List A
paired_to f zero xs ys = xs
paired_to f (suc i) [] ys = []
paired_to f (suc i) (x ∷ xs) [] = x ∷ xs
paired_to f (suc i) (x ∷ xs) (y ∷ ys) = f x y ∷ paired_to f i xs ys

pub paired_start : {A : Type 0} (f : A → A → A) (xs ys : List A) → paired_to f 0 xs ys ≡ xs
unfolding paired_to
paired_start f xs ys = refl

pub paired_length : {A : Type 0} (f : A → A → A) (i : ℕ) (xs ys : List A) → length (paired_to f i xs ys) ≡ length xs
unfolding paired_to
paired_length f zero xs ys = refl
paired_length f (suc i) [] ys = refl
paired_length f (suc i) (x ∷ xs) [] = refl
paired_length f (suc i) (x ∷ xs) (y ∷ ys) = ap suc (paired_length f i xs ys)

pub paired_step : {A : Type 0} (f : A → A → A) (i : ℕ) (xs ys : List A) (d e : A) → i < length xs → i < length ys → slice_set (paired_to f i xs ys) i (f (get_or (paired_to f i xs ys) i d) (get_or ys i e)) ≡ paired_to f (suc i) xs ys
unfolding paired_to
paired_step f zero (x ∷ xs) (y ∷ ys) d e h k = refl
paired_step f (suc i) (x ∷ xs) (y ∷ ys) d e h k = ap (λ zs. f x y ∷ zs) (paired_step f i xs ys d e (omega arith) (omega arith))
paired_step f i [] ys d e h k = absurd (omega arith)
paired_step f i (x ∷ xs) [] d e h k = absurd (omega arith)

pub paired_end : {A : Type 0} (f : A → A → A) (xs ys : List A) → length xs ≡ length ys → paired_to f (length ys) xs ys ≡ paired f xs ys
unfolding paired_to
paired_end f [] [] e = refl
paired_end f (x ∷ xs) (y ∷ ys) e = ap (λ zs. f x y ∷ zs) (paired_end f xs ys (omega arith))
paired_end f [] (y ∷ ys) e = absurd (omega arith)
paired_end f (x ∷ xs) [] e = absurd (omega arith)

-- two fronts of one length, and what follows them
pub paired_append : {A : Type 0} (f : A → A → A) (xs us ys vs : List A) → length xs ≡ length us → paired f (xs ++ ys) (us ++ vs) ≡ paired f xs us ++ paired f ys vs
paired_append f [] [] ys vs e = refl
paired_append f (x ∷ xs) (u ∷ us) ys vs e = ap (λ zs. f x u ∷ zs) (paired_append f xs us ys vs (omega arith))
paired_append f [] (u ∷ us) ys vs e = absurd (omega arith)
paired_append f (x ∷ xs) [] ys vs e = absurd (omega arith)

pub paired_long : {A : Type 0} (f : A → A → A) (xs ys : List A) → length xs ≡ length ys → length (paired f xs ys) ≡ length xs
paired_long f [] [] e = refl
paired_long f (x ∷ xs) (y ∷ ys) e = ap suc (paired_long f xs ys (omega arith))
paired_long f [] (y ∷ ys) e = refl
paired_long f (x ∷ xs) [] e = absurd (omega arith)

-- what joins each item with itself
pub paired_same : {A : Type 0} (f : A → A → A) → ((x : A) → f x x ≡ x) → (xs : List A) → paired f xs xs ≡ xs
paired_same f e [] = refl
paired_same f e (x ∷ xs) = ap (λ y. y ∷ paired f xs xs) (e x) ∙ ap (λ ys. x ∷ ys) (paired_same f e xs)

pub paired_on : {A : Type 0} (f : A → A → A) (i : ℕ) (now new xs ys : List A) (a b r d : A) → now ≡ paired_to f i xs ys → a ≡ get_or now i d → b ≡ get_or ys i d → r ≡ f a b → new ≡ slice_set now i r → i < length xs → i < length ys → new ≡ paired_to f (i + 1) xs ys
paired_on f i now new xs ys a b r d is ea eb er en h k =
    let one : i + 1 ≡ suc i = omega arith in
    let step = paired_step f i xs ys d d h k in
    cc

-- JOINED HALVES

pub paired_halves : {A : Type 0} (f : A → A → A) (row other new1 new2 a b u v : List A) → new1 ≡ paired f a u → new2 ≡ paired f b v → row ≡ a ++ b → u ++ v ≡ other → length a ≡ length u → new1 ++ new2 ≡ paired f row other
paired_halves f row other new1 new2 a b u v e1 e2 er eo l =
    let parts = paired_append f a u b v l in
    cc

-- all of a vector is written back
pub written_whole : {A : Type 0} (n : ℕ) (new old : List A) → length new ≡ length old → n ≡ length old → take n (new ++ drop (length new) old) ≡ new
written_whole n new old l e = rw (e ∙ sym l) (take-append_seam new (drop (length new) old))
