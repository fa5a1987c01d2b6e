-- Where a run of bytes ends, as a loop over it takes its steps; and what a table has for a word.
use Rattle.std.proofs.Common.{◌≡◌, ℕ, ◌+◌, ◌<◌, ◌≤◌, Bool, true, false, List, length, arith}
use Rattle.std.specs.Prelude.{slice_index}
use Rattle.std.proofs.lemmas.List.Sums.{prefix_len-drop_yes, prefix_len-drop_no, prefix_len-drop_all}
use Rattle.il_syntax.specs.Text.{run_end}

-- after a byte of the run, the run ends where it did
pub run_end-goes : (test : ℕ → Bool) (text : List ℕ) (i : ℕ) → i < length text → test (slice_index text i) ≡ true → run_end test text i ≡ run_end test text (i + 1)
unfolding run_end
run_end-goes test text i inside passes = omega (arith, prefix_len-drop_yes test text i 0 inside passes)

-- at a byte that is not of it, the run is empty
pub run_end-stops : (test : ℕ → Bool) (text : List ℕ) (i : ℕ) → i < length text → test (slice_index text i) ≡ false → run_end test text i ≡ i
unfolding run_end
run_end-stops test text i inside fails = omega (arith, prefix_len-drop_no test text i 0 inside fails)

-- at the end of the text too
pub run_end-at_end : (test : ℕ → Bool) (text : List ℕ) (i : ℕ) → length text ≤ i → run_end test text i ≡ i
unfolding run_end
run_end-at_end test text i outside = omega (arith, prefix_len-drop_all test text i outside)
