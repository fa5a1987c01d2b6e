use Rattle.std.proofs.Common.{◌≡◌, All, pos, take}
use Rattle.std.specs.Prelude.{IsTrue}
use Rattle.scan_task.proofs.outputs.are_zeros.Given as goal

-- where no number so far is another, all so far are 0
abbrev pub invariant-numbers : goal.invariant-numbers
invariant-numbers l = record {
  zeros : IsTrue l.zeros → All (λ z. z ≡ pos 0) (take l.number-index l.numbers);
}
