use Rattle.std.specs.Prelude.{ℕ, List, codes}
use Rattle.ap_dix.specs.declared.refusal.DixKind.{DixKind}
use Rattle.ap_dix.specs.declared.refusal.DixKind.TheVariants.{NotUtf8, Syntax, UnknownElement, UnknownAttribute, MissingAttribute, Misplaced, DuplicateName, UndeclaredSymbol, UndefinedParadigm, BadRegex, Weighted, Unsupported}
use Rattle.ap_dix.specs.declared.refusal.DixFault.{DixFault}
use Rattle.ap_dix.specs.declared.refusal.DixRefusal.{DixRefusal}
use Rattle.ap_dix.specs.declared.refusal.DixRefusal.TheVariants.{Fault, Memory}

-- the number of a kind of fault
abbrev pub kind_number : DixKind → ℕ
kind_number NotUtf8 = 1
kind_number Syntax = 2
kind_number UnknownElement = 3
kind_number UnknownAttribute = 4
kind_number MissingAttribute = 5
kind_number Misplaced = 6
kind_number DuplicateName = 7
kind_number UndeclaredSymbol = 8
kind_number UndefinedParadigm = 9
kind_number BadRegex = 10
kind_number Weighted = 11
kind_number Unsupported = 12

-- the name of a kind of fault
abbrev pub kind_name : DixKind → List ℕ
kind_name NotUtf8 = codes "NotUtf8"
kind_name Syntax = codes "Syntax"
kind_name UnknownElement = codes "UnknownElement"
kind_name UnknownAttribute = codes "UnknownAttribute"
kind_name MissingAttribute = codes "MissingAttribute"
kind_name Misplaced = codes "Misplaced"
kind_name DuplicateName = codes "DuplicateName"
kind_name UndeclaredSymbol = codes "UndeclaredSymbol"
kind_name UndefinedParadigm = codes "UndefinedParadigm"
kind_name BadRegex = codes "BadRegex"
kind_name Weighted = codes "Weighted"
kind_name Unsupported = codes "Unsupported"

-- of a fault this holds; want of memory comes at any time
abbrev pub IfFault : DixRefusal → (DixFault → Type 0) → Type 0
IfFault (Fault fault) P = P fault
IfFault Memory P = Unit {0}
