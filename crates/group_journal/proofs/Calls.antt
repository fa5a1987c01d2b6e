-- The calls that were entered, as a set.
use Rattle.std.proofs.Common.{◌≡◌, ℕ, zero, suc, ◌+◌, ◌<◌, ◌≤◌, List, [], ◌∷◌, ◌++◌, map, take, length, refl, sym, ap, ◌∙◌, subst, arith}
use Rattle.std.specs.Prelude.{slice_index_or}
use Rattle.std.proofs.lemmas.List.{append_assoc}
use Rattle.group_spec.specs.declared.calls.Call.{Call}
use Rattle.group_spec.specs.declared.image.Sizes.{Sizes}
use Rattle.group_spec.specs.declared.report.EnteredCall.{EnteredCall}
use Rattle.group_spec.specs.Hands.{HasWord, IsInOrder, with_call}
use Rattle.group_journal.proofs.Orders.{all_before, with_last}
use Rattle.group_journal.specs.Journal.{AllCalls}
use Rattle.group_journal.specs.Entered.{calls, AllHaveWords}

-- one call more, after others in order
pub next_call : (done : List EnteredCall) (i : ℕ) (d other : EnteredCall) → i < length done → d ≡ slice_index_or done i other → (before : List Call) → IsInOrder (before ++ calls done) → with_call (before ++ calls (take i done)) d.call ≡ before ++ calls (take (i + 1) done)
next_call [] i d other below is before order = absurd (omega (arith, below))
next_call (x ∷ done) zero d other below is before order =
    let same : d ≡ x = is in
    ap (λ (e : EnteredCall). with_call (before ++ []) e.call) same ∙ ap (λ l. with_call l x.call) (nil before) ∙ with_last before x.call (all_before before x.call (calls done) order)
  where
    nil : (xs : List Call) → xs ++ [] ≡ xs
    nil [] = refl
    nil (y ∷ xs) = ap (λ l. y ∷ l) (nil xs)
next_call (x ∷ done) (suc i) d other below is before order =
    let more = next_call done i d other (omega (arith, below)) is (before ++ x.call ∷ []) (subst IsInOrder (sym (append_assoc before (x.call ∷ []) (calls done))) order) in
    let next : suc i + 1 ≡ suc (i + 1) = omega arith in
    ap (λ l. with_call l d.call) (sym (append_assoc before (x.call ∷ []) (calls (take i done)))) ∙ more ∙ append_assoc before (x.call ∷ []) (calls (take (i + 1) done))
    ∙ ap (λ n. before ++ calls (take n (x ∷ done))) (sym next)

-- it has a word and a bit
pub word_at : (done : List EnteredCall) (i : ℕ) (d other : EnteredCall) → i < length done → d ≡ slice_index_or done i other → AllHaveWords done → HasWord d.call.from × HasWord d.call.to
word_at [] i d other below is all = absurd (omega (arith, below))
word_at (x ∷ done) zero d other below is all = subst (λ (e : EnteredCall). HasWord e.call.from × HasWord e.call.to) (sym is) all.0
word_at (x ∷ done) (suc i) d other below is all = word_at done i d other (omega (arith, below)) is all.1

-- the calls of a group have words
pub have_words : (sizes : Sizes) → sizes.floors ≤ 16 → (done : List EnteredCall) → AllCalls sizes (map (λ (d : EnteredCall). d.call) done) → AllHaveWords done
have_words sizes few [] are = tt
have_words sizes few (d ∷ done) are =
    let from = are.0.from in
    let to = are.0.to in
    (((omega (arith, from.0), omega (arith, from.1, few)), (omega (arith, to.0), omega (arith, to.1, few))), have_words sizes few done are.1)
