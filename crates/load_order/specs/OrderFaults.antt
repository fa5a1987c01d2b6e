-- The numbers of the faults of order (own rule).
use Rattle.std.specs.Prelude.{ℕ}
use Rattle.load_order.specs.declared.fault.OrderFault.{OrderFault}
use Rattle.load_order.specs.declared.fault.OrderFault.TheVariants.{Recursive, TooDeepCalls, TooMany}

-- the number under which a fault is printed
abbrev pub order_fault_number : OrderFault → ℕ
order_fault_number Recursive = 36
order_fault_number TooDeepCalls = 46
order_fault_number TooMany = 12
