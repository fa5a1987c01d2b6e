-- Worked examples of the definitions: each computes.
use Rattle.std.specs.Prelude.{◌≡◌, ◌+◌, [], ◌∷◌, refl}
use Rattle.group_spec.specs.Hands.{calls_of_bits}
use Rattle.atomic_table.specs.Seated.{TableId}
use Rattle.threads_desk.specs.Account.{call, times, membership}
use Rattle.threads_desk.specs.Passes.{entered}

-- eight floors: floor 3 presses 5, which is gathered, and 5 again; floor 4 presses 1
twice : times (call 3 5) (call 3 5 ∷ call 3 5 ∷ []) ≡ 2
twice = refl

other-way : times (call 5 3) (call 3 5 ∷ call 4 1 ∷ []) ≡ 0
other-way = refl

-- the word 16 of floor 3 is the call to floor 5
one-call : calls_of_bits 16 3 1 16 ≡ call 3 5 ∷ []
unfolding calls_of_bits
one-call = refl

on-desk : membership (call 3 5 ∷ call 4 1 ∷ []) (call 4 1) ≡ 1
on-desk = refl

-- twice New is once gathered and once on the desk
balance : times (call 3 5) (call 3 5 ∷ call 3 5 ∷ []) ≡ times (call 3 5) (call 3 5 ∷ []) + membership (call 3 5 ∷ call 4 1 ∷ []) (call 3 5)
balance = refl

-- gathered twice and once in the hand: entered once
entered-once : (table : TableId) → entered (record { table = table; floors = 8; hand = call 3 5 ∷ []; gathered = call 3 5 ∷ call 4 1 ∷ call 3 5 ∷ [] }) (call 3 5) ≡ 1
entered-once table = refl

-- a call that left the hand
entered-all : (table : TableId) → entered (record { table = table; floors = 8; hand = call 3 5 ∷ []; gathered = call 3 5 ∷ call 4 1 ∷ call 3 5 ∷ [] }) (call 4 1) ≡ 1
entered-all table = refl
