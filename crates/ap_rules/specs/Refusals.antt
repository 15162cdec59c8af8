use Rattle.std.specs.Prelude.{ℕ, List, codes}
use Rattle.ap_rules.specs.declared.refusal.RuleKind.{RuleKind}
use Rattle.ap_rules.specs.declared.refusal.RuleKind.TheVariants.{NotUtf8, Syntax, UnknownElement, UnknownAttribute, MissingAttribute, Misplaced, DuplicateName, UndefinedName, BadPosition, BadTags, PatternLength, Misused, Unsupported}
use Rattle.ap_rules.specs.declared.refusal.RuleFault.{RuleFault}
use Rattle.ap_rules.specs.declared.refusal.RuleRefusal.{RuleRefusal}
use Rattle.ap_rules.specs.declared.refusal.RuleRefusal.TheVariants.{Fault, Memory}

-- the number of a kind of fault
abbrev pub kind_number : RuleKind → ℕ
kind_number NotUtf8 = 1
kind_number Syntax = 2
kind_number UnknownElement = 3
kind_number UnknownAttribute = 4
kind_number MissingAttribute = 5
kind_number Misplaced = 6
kind_number DuplicateName = 7
kind_number UndefinedName = 8
kind_number BadPosition = 9
kind_number BadTags = 10
kind_number PatternLength = 11
kind_number Misused = 12
kind_number Unsupported = 13

-- the name of a kind of fault
abbrev pub kind_name : RuleKind → List ℕ
kind_name NotUtf8 = codes "NotUtf8"
kind_name Syntax = codes "Syntax"
kind_name UnknownElement = codes "UnknownElement"
kind_name UnknownAttribute = codes "UnknownAttribute"
kind_name MissingAttribute = codes "MissingAttribute"
kind_name Misplaced = codes "Misplaced"
kind_name DuplicateName = codes "DuplicateName"
kind_name UndefinedName = codes "UndefinedName"
kind_name BadPosition = codes "BadPosition"
kind_name BadTags = codes "BadTags"
kind_name PatternLength = codes "PatternLength"
kind_name Misused = codes "Misused"
kind_name Unsupported = codes "Unsupported"

-- of a fault this holds; want of memory comes at any time
abbrev pub IfFault : RuleRefusal → (RuleFault → Type 0) → Type 0
IfFault (Fault fault) P = P fault
IfFault Memory P = Unit {0}
