-- Texts that are split at a byte.
use Rattle.std.proofs.Common.{◌≡◌, ℕ, zero, suc, ◌-◌, ◌<◌, ◌≤◌, true, List, [], ◌∷◌, ◌++◌, length, get_or, take, drop, refl, sym, ap, subst, ◌∙◌, arith}
use borrow.Author.Tests.{eq-eqb, eqb-true}
use Rattle.std.specs.Prelude.{Option, Some, None, IfSome, IfNone, ◌==◌}
use Rattle.std.specs.Option.{unwrap_or}
use Rattle.std.proofs.lemmas.List.{drop_all, take_all}
use Rattle.std.specs.List.{AllByRecursion}
use Rattle.memchr.specs.Find.{IsFirstByte, is_byte}
use Rattle.trace_text.specs.Reading.{Without}
use Rattle.trace_text.specs.Parts.{Ends}

pub same_first : (a b : ℕ) (x y : List ℕ) → a ∷ x ≡ b ∷ y → a ≡ b
same_first a b x y e = cc

pub same_rest : (a b : ℕ) (x y : List ℕ) → a ∷ x ≡ b ∷ y → x ≡ y
same_rest a b x y e = cc

-- the first two bytes, and what follows them
pub two_bytes : (text : List ℕ) → 2 ≤ length text → text ≡ get_or text 0 0 ∷ get_or text 1 0 ∷ take (length text - 2) (drop 2 text)
two_bytes [] h = absurd (omega arith)
two_bytes (a ∷ []) h = absurd (omega arith)
two_bytes (a ∷ b ∷ rest) h = let all : take (length (a ∷ b ∷ rest) - 2) rest ≡ rest = take_all _ rest (omega arith) in ap (λ (r : List ℕ). a ∷ b ∷ r) (sym all)

-- the first three bytes, and what follows them
pub three_bytes : (text : List ℕ) → 3 ≤ length text → text ≡ get_or text 0 0 ∷ get_or text 1 0 ∷ get_or text 2 0 ∷ take (length text - 3) (drop 3 text)
three_bytes [] h = absurd (omega arith)
three_bytes (a ∷ []) h = absurd (omega arith)
three_bytes (a ∷ b ∷ []) h = absurd (omega arith)
three_bytes (a ∷ b ∷ c ∷ rest) h = let all : take (length (a ∷ b ∷ c ∷ rest) - 3) rest ≡ rest = take_all _ rest (omega arith) in ap (λ (r : List ℕ). a ∷ b ∷ c ∷ r) (sym all)

-- the first four bytes, and what follows them
pub four_bytes : (text : List ℕ) → 4 ≤ length text → text ≡ get_or text 0 0 ∷ get_or text 1 0 ∷ get_or text 2 0 ∷ get_or text 3 0 ∷ take (length text - 4) (drop 4 text)
four_bytes [] h = absurd (omega arith)
four_bytes (a ∷ []) h = absurd (omega arith)
four_bytes (a ∷ b ∷ []) h = absurd (omega arith)
four_bytes (a ∷ b ∷ c ∷ []) h = absurd (omega arith)
four_bytes (a ∷ b ∷ c ∷ d ∷ rest) h = let all : take (length (a ∷ b ∷ c ∷ d ∷ rest) - 4) rest ≡ rest = take_all _ rest (omega arith) in ap (λ (r : List ℕ). a ∷ b ∷ c ∷ d ∷ r) (sym all)

-- what each element has, and what follows from it
pub each : {X : Type 0} (P Q : X → Type 0) → ((x : X) → P x → Q x) → (xs : List X) → AllByRecursion P xs → AllByRecursion Q xs
each P Q f [] h = tt
each P Q f (x ∷ xs) h = (f x h.0, each P Q f xs h.1)

pub each_append : {X : Type 0} (P : X → Type 0) (xs ys : List X) → AllByRecursion P xs → AllByRecursion P ys → AllByRecursion P (xs ++ ys)
each_append P [] ys h k = k
each_append P (x ∷ xs) ys h k = (h.0, each_append P xs ys h.1 k)

pub each_behind : {X : Type 0} (P : X → Type 0) (xs ys : List X) → AllByRecursion P (xs ++ ys) → AllByRecursion P ys
each_behind P [] ys h = h
each_behind P (x ∷ xs) ys h = each_behind P xs ys h.1

-- `?` at a None
pub if_none : {X : Type 0} (r : Option X) (P : Type 0) → P → IfNone r P
if_none None P p = p
if_none (Some x) P p = tt

-- what follows from a fact of a Some, and of a None
pub some_by : {X : Type 0} (r : Option X) (P Q : X → Type 0) → ((x : X) → P x → Q x) → IfSome r P → IfSome r Q
some_by None P Q f p = tt
some_by (Some x) P Q f p = f x p

pub none_by : {X : Type 0} (r : Option X) (P Q : Type 0) → (P → Q) → IfNone r P → IfNone r Q
none_by None P Q f p = f p
none_by (Some x) P Q f p = tt

same_test : (a b : ℕ) → a ≡ b → (a == b) ≡ true
same_test a b e = eq-eqb a b e

-- a byte that isn't before a place
nowhere_before : (stop : ℕ) (text : List ℕ) (n : ℕ) → ((k : ℕ) → k < n → ¬ ((get_or text k 0 == stop) ≡ true)) → Without stop (take n text)
nowhere_before stop [] zero h = tt
nowhere_before stop [] (suc n) h = tt
nowhere_before stop (byte ∷ bytes) zero h = tt
nowhere_before stop (byte ∷ bytes) (suc n) h = (λ e. h 0 (omega arith) (same_test byte stop e), nowhere_before stop bytes n (λ k l. h (suc k) (omega arith)))

first_stops : (stop : ℕ) (text : List ℕ) (n : ℕ) → n < length text → get_or text n 0 ≡ stop → Ends stop (drop n text)
first_stops stop [] n l e = absurd (omega arith)
first_stops stop (byte ∷ bytes) zero l e = e
first_stops stop (byte ∷ bytes) (suc n) l e = first_stops stop bytes n (omega arith) e

-- what a search for the byte finds
pub split_found : (stop : ℕ) (text : List ℕ) (r : Option ℕ) → IsFirstByte (is_byte stop) text r
    → Without stop (take (unwrap_or r (length text)) text) × Ends stop (drop (unwrap_or r (length text)) text)
split_found stop text None h =
    let nothing : drop (length text) text ≡ [] = drop_all (length text) text (omega arith) in
    (nowhere_before stop text (length text) (λ k l. h k (omega arith) l), subst (Ends stop) (sym nothing) tt)
split_found stop text (Some k) h =
    (nowhere_before stop text k (λ j l. h.0.before j (omega arith) l), first_stops stop text k h.0.high (eqb-true (get_or text k 0) stop h.1))

-- a text is split before the first such byte in one way
pub split_once : (stop : ℕ) (p q a b : List ℕ) → Without stop p → Without stop q → Ends stop a → Ends stop b → p ++ a ≡ q ++ b → (p ≡ q) × (a ≡ b)
split_once stop [] [] a b h k f g e = (refl, e)
split_once stop [] (y ∷ q) [] b h k f g e = absurd (cc)
split_once stop [] (y ∷ q) (x ∷ a) b h k f g e = absurd (k.0 (sym (same_first x y a (q ++ b) e) ∙ f))
split_once stop (x ∷ p) [] a [] h k f g e = absurd (cc)
split_once stop (x ∷ p) [] a (y ∷ b) h k f g e = absurd (h.0 (same_first x y (p ++ a) b e ∙ g))
split_once stop (x ∷ p) (y ∷ q) a b h k f g e =
    let rest = split_once stop p q a b h.1 k.1 f g (same_rest x y (p ++ a) (q ++ b) e) in
    let first = same_first x y (p ++ a) (q ++ b) e in
    let tail : p ≡ q = rest.0 in
    (cc, rest.1)
