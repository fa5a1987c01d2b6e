use Rattle.std.proofs.Common.{ℕ}
use Rattle.ranges_pass.specs.Numbering.{IsArgumentNumbered}
use Rattle.ranges_pass.proofs.Numbers.{AddsTo}
use Rattle.ranges_pass.proofs.numbering.add_arguments.Given as goal

abbrev pub invariant-loop-argument : goal.invariant-loop-argument
invariant-loop-argument l = AddsTo l.unit (λ ns (at : ℕ) a. IsArgumentNumbered l.unit ns a) l.arguments l.argument-index l.initial.numbering.numbers l.initial.numbering.declared l.numbering.numbers l.numbering.declared
