use Rattle.std.specs.Prelude.{ℕ, List, codes}
use Rattle.ap_binary.specs.declared.refusal.BinaryFault.{BinaryFault}
use Rattle.ap_binary.specs.declared.refusal.BinaryKind.{BinaryKind}
use Rattle.ap_binary.specs.declared.refusal.BinaryKind.TheVariants.{BadHeader, BadLine, OutOfRange, EmptyCycle, EmptySide, WrongWay}
use Rattle.ap_binary.specs.declared.refusal.BinaryRefusal.{BinaryRefusal}
use Rattle.ap_binary.specs.declared.refusal.BinaryRefusal.TheVariants.{Fault, Memory}

-- the number of a kind of fault
abbrev pub kind_number : BinaryKind → ℕ
kind_number BadHeader = 1
kind_number BadLine = 2
kind_number OutOfRange = 3
kind_number EmptyCycle = 4
kind_number EmptySide = 5
kind_number WrongWay = 6

-- the name of a kind of fault
abbrev pub kind_name : BinaryKind → List ℕ
kind_name BadHeader = codes "BadHeader"
kind_name BadLine = codes "BadLine"
kind_name OutOfRange = codes "OutOfRange"
kind_name EmptyCycle = codes "EmptyCycle"
kind_name EmptySide = codes "EmptySide"
kind_name WrongWay = codes "WrongWay"

-- of a fault this holds; want of memory comes at any time
abbrev pub IfFault : BinaryRefusal → (BinaryFault → Type 0) → Type 0
IfFault (Fault fault) P = P fault
IfFault Memory P = Unit {0}
