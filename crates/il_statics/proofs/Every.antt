-- What a test finds of each standard block of the table, it finds of every one.
use Rattle.std.proofs.Common.{◌≡◌, zero, suc, Bool, true, false, ◌&&◌, List, [], ◌∷◌, map, refl, sym, ap, ◌∙◌, arith, lit≤}
use Rattle.std.specs.Prelude.{Contains}
use Rattle.il_statics.specs.Names.{Spelling, standard_blocks}
use Rattle.il_statics.specs.declared.names.StandardBlock.{StandardBlock}
use Rattle.il_statics.specs.declared.names.StandardBlock.TheVariants.{Sr, Rs, RTrig, FTrig, Ctu, Ctd, Ctud, Tp, Ton, Tof}

-- TESTS OF LISTS

abbrev pub all_of : {A : Type 0} → (A → Bool) → List A → Bool
all_of test [] = true
all_of test (x ∷ xs) = test x && all_of test xs

pub first_of_two : (a b : Bool) → (a && b) ≡ true → a ≡ true
first_of_two true b e = refl
first_of_two false b e = e

pub second_of_two : (a b : Bool) → (a && b) ≡ true → b ≡ true
second_of_two true b e = e
second_of_two false b e = cc

pub contains_all : {A : Type 0} (test : A → Bool) (xs : List A) (x : A) → all_of test xs ≡ true → Contains xs x → test x ≡ true
contains_all test [] x all among = let low = among.1 in absurd (omega arith)
contains_all test (y ∷ xs) x all (zero, low, same) = ap test (sym same) ∙ first_of_two (test y) _ all
contains_all test (y ∷ xs) x all (suc n, low, same) = contains_all test xs x (second_of_two (test y) _ all) (n, omega arith, same)

-- STANDARD BLOCKS

-- the blocks of the table
abbrev pub blocks : List StandardBlock
blocks = map (λ (e : Spelling × StandardBlock). e.1) standard_blocks

among : (b : StandardBlock) → Contains blocks b
among Sr = (0, lit≤ tt, refl)
among Rs = (1, lit≤ tt, refl)
among RTrig = (2, lit≤ tt, refl)
among FTrig = (3, lit≤ tt, refl)
among Ctu = (4, lit≤ tt, refl)
among Ctd = (5, lit≤ tt, refl)
among Ctud = (6, lit≤ tt, refl)
among Tp = (7, lit≤ tt, refl)
among Ton = (8, lit≤ tt, refl)
among Tof = (9, lit≤ tt, refl)

pub every_block : (test : StandardBlock → Bool) → all_of test blocks ≡ true → (b : StandardBlock) → test b ≡ true
every_block test all b = contains_all test blocks b all (among b)
