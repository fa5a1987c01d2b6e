-- Runs of bytes that were seen at once.
use Rattle.std.proofs.Common.{◌≡◌, ◌≢◌, ℕ, zero, suc, ◌+◌, ◌-◌, ◌<◌, ◌≤◌, Bool, true, false, List, [], ◌∷◌, length, get_or, take, drop, arith, ap, sym, refl, ◌∙◌, inl, inr, length-take, length-drop, get_or-take, get_or-drop}
use Rattle.std.specs.Prelude.{◌==◌, ◌||◌, not, ◌&&◌, slice_range, count_by}
use Rattle.std.specs.Char.{is_ascii_alphanumeric}
use Rattle.std.proofs.lemmas.Bool.{cases_lt}
use Rattle.std.proofs.lemmas.Bool.Decides.{nat_tests}
use Rattle.std.proofs.lemmas.List.Sums.{sum_by-append}
use Rattle.std.proofs.Math.Seq.{take-add}
use Rattle.std.proofs.Common.{cond}
use lib.Lanes.{chunk}
use Rattle.il_syntax.proofs.TextLemmas.{run_end-goes}
use Rattle.il_syntax.specs.Text.{byte_at, is_word_byte, run_end, is_grouped_after, is_identifier, is_text_byte, opens_comment, closes_comment}
use Rattle.load_tokens.specs.Lanes.{AllPassBetween, is_plain}
use Rattle.load_tokens.proofs.Grouped.{is_no_underscore}

-- one run after another
pub pass_on : (test : ℕ → Bool) (text : List ℕ) (i j m : ℕ) → AllPassBetween test text i j → AllPassBetween test text j m → AllPassBetween test text i m
pass_on test text i j m front back k from to = elim (cases_lt k j) [ inl early ↦ front k from early | inr late ↦ back k late to ]

-- a plain byte is inside of a comment
pub plain_inside : (text : List ℕ) (k : ℕ) → is_plain (byte_at text k) ≡ true
    → (is_text_byte text k && (not (opens_comment text k) && not (closes_comment text k))) ≡ true
plain_inside text k h = grind (arith, nat_tests)

-- a run ends where it ends after some of its bytes
pub run_on : (test : ℕ → Bool) (text : List ℕ) (i n : ℕ) → i + n ≤ length text → AllPassBetween test text i (i + n) → run_end test text i ≡ run_end test text (i + n)
run_on test text i zero fits pass = ap (run_end test text) (omega arith)
run_on test text i (suc n) fits pass =
    run_end-goes test text i (omega arith) (pass i (omega arith) (omega arith))
    ∙ run_on test text (i + 1) n (omega arith) (λ k from to. pass k (omega arith) (omega arith))
    ∙ ap (run_end test text) (omega arith)

-- the same up to a place
pub run_to : (test : ℕ → Bool) (text : List ℕ) (i j : ℕ) → i ≤ j → j ≤ length text → AllPassBetween test text i j → run_end test text i ≡ run_end test text j
run_to test text i j order fits pass =
    let back : i + (j - i) ≡ j = omega arith in
    run_on test text i (j - i) (omega arith) (λ k from to. pass k from (omega arith)) ∙ ap (run_end test text) back

-- letters and digits go on with a word
pub words_pass : (text : List ℕ) (i j : ℕ) → AllPassBetween is_ascii_alphanumeric text i j → AllPassBetween is_word_byte text i j
words_pass text i j pass k from to = ap (λ b. b || byte_at text k == 95) (pass k from to)

no_underscore : (b : ℕ) → is_ascii_alphanumeric b ≡ true → b ≢ 95
no_underscore b h e = let bad : false ≡ true = ap is_ascii_alphanumeric (sym e) ∙ h in cc

-- letters and digits are alone, with no underscore between them
abbrev IsPlainWord : List ℕ → Type 0
IsPlainWord bs = (k : ℕ) → k < length bs → is_ascii_alphanumeric (get_or bs k 0) ≡ true

plain_grouped : (bs : List ℕ) → IsPlainWord bs → is_grouped_after is_ascii_alphanumeric true bs ≡ true
unfolding is_grouped_after
plain_grouped [] plain = refl
plain_grouped (b ∷ bs) plain =
    let first = plain 0 (omega arith) in
    rw (is_no_underscore b (no_underscore b first), first) (plain_grouped bs (λ k below. plain (suc k) (omega arith)))

plain_word_grouped : (bs : List ℕ) → 0 < length bs → IsPlainWord bs → is_grouped_after is_ascii_alphanumeric false bs ≡ true
unfolding is_grouped_after
plain_word_grouped [] some plain = absurd (omega arith)
plain_word_grouped (b ∷ bs) some plain =
    let first = plain 0 (omega arith) in
    rw (is_no_underscore b (no_underscore b first), first) (plain_grouped bs (λ k below. plain (suc k) (omega arith)))

plain_identifier : (bs : List ℕ) → 0 < length bs → IsPlainWord bs → is_identifier bs ≡ true
unfolding is_identifier
plain_identifier bs some plain = rw (is_no_underscore (byte_at bs 0) (no_underscore (byte_at bs 0) (plain 0 some))) (plain_word_grouped bs some plain)

-- letters and digits are an identifier
pub seen_identifier : (text : List ℕ) (i j : ℕ) → i < j → j ≤ length text → AllPassBetween is_ascii_alphanumeric text i j → is_identifier (slice_range text i j) ≡ true
seen_identifier text i j some fits pass =
    let long : length (slice_range text i j) ≡ j - i = omega (arith, length-take (j - i) (drop i text), length-drop i text) in
    plain_identifier (slice_range text i j) (omega arith) (λ k below.
    let less : k < j - i = omega arith in
    ap is_ascii_alphanumeric (get_or-take (j - i) (drop i text) k 0 less ∙ get_or-drop i text k 0) ∙ pass (i + k) (omega arith) (omega arith))

-- a count over some bytes more
pub count_on : (test : ℕ → Bool) (bs : List ℕ) (i n : ℕ) → count_by test (take (i + n) bs) ≡ count_by test (take i bs) + count_by test (chunk i n bs)
count_on test bs i n = ap (count_by test) (take-add i n bs) ∙ sum_by-append (λ b. cond (test b) 1 0) (take i bs) (take n (drop i bs))
