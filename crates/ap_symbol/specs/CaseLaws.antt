use Rattle.std.specs.Prelude.{◌≡◌, ◌↔◌, ℕ, false, List, IsTrue, length}
use Rattle.ap_symbol.specs.declared.symbol.Symbol.{Symbol}
use Rattle.ap_symbol.specs.declared.recasing.Case.{Case}
use Rattle.ap_symbol.specs.Case.{lower_lem, upper_lem, is_upper_lem, partner_lem}
use Rattle.ap_symbol.specs.Coded.{AreCoded}
use Rattle.ap_symbol.specs.Words.{is_white, AreProper}
use Rattle.ap_symbol.specs.Rendering.{rendering}
use Rattle.ap_symbol.specs.Recasing.{carry_lem, recase_lem}

-- an upper letter of the table, and its partner
abbrev pub ArePartners : ℕ → ℕ → Type 0
ArePartners u l = IsTrue (is_upper_lem u) × (lower_lem u ≡ l)

-- a lower letter of the table is the partner of an upper one
abbrev pub IsLower : ℕ → Type 0
IsLower l = (u : ℕ) × ArePartners u l

-- `upper` takes each lower letter to the one upper letter whose partner it is
abbrev pub PartnersAreInverse : Type 0
PartnersAreInverse = (u l : ℕ) → ArePartners u l → upper_lem l ≡ u

abbrev pub NoLetterIsBoth : Type 0
NoLetterIsBoth = (c : ℕ) → IsTrue (is_upper_lem c) → ¬ IsLower c

-- exactly the upper letters are changed by `lower`, and exactly the lower ones by `upper`
abbrev pub UpperLettersMove : Type 0
UpperLettersMove = (c : ℕ) → IsTrue (is_upper_lem c) ↔ (¬ (lower_lem c ≡ c))

abbrev pub LowerLettersMove : Type 0
LowerLettersMove = (c : ℕ) → IsLower c ↔ (¬ (upper_lem c ≡ c))

-- what the last change of case was is all that counts
abbrev pub CaseSettles : Type 0
CaseSettles = (c : ℕ) → (lower_lem (upper_lem c) ≡ lower_lem c)
    × (upper_lem (lower_lem c) ≡ upper_lem c) × (lower_lem (lower_lem c) ≡ lower_lem c)
    × (upper_lem (upper_lem c) ≡ upper_lem c)

abbrev pub LowerIsNeverUpper : Type 0
LowerIsNeverUpper = (c : ℕ) → is_upper_lem (lower_lem c) ≡ false

-- a character comes back from upper case exactly where it is not upper
abbrev pub ComesBackUnlessUpper : Type 0
ComesBackUnlessUpper = (c : ℕ) → (lower_lem (upper_lem c) ≡ c) ↔ (is_upper_lem c ≡ false)

-- white space stays itself, and no letter becomes white space
abbrev pub WhiteSpaceStays : Type 0
WhiteSpaceStays = (c : ℕ) → (is_white (lower_lem c) ≡ is_white c)
    × (is_white (upper_lem c) ≡ is_white c)

abbrev pub PartnerOfPartner : Type 0
PartnerOfPartner = (c : ℕ) → partner_lem (partner_lem c) ≡ c

-- a change of case keeps words proper
abbrev pub StaysProper : Type 0
StaysProper = (case : Case) (word : List Symbol) → AreProper word → AreProper (carry_lem case word)
    × AreProper (recase_lem case word)

-- and coded
abbrev pub StaysCoded : Type 0
StaysCoded = (case : Case) (word : List Symbol) → AreCoded word → AreCoded (carry_lem case word)
    × AreCoded (recase_lem case word)

-- and it keeps the number of bytes
abbrev pub KeepsBytes : Type 0
KeepsBytes = (case : Case) (word : List Symbol) →
    (length (rendering (carry_lem case word)) ≡ length (rendering word))
    × (length (rendering (recase_lem case word)) ≡ length (rendering word))
