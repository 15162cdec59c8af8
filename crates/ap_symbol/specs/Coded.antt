use Rattle.std.specs.Prelude.{◌≡◌, ◌⊎◌, ℕ, ◌<◌, ◌≤◌, false, List, [], ◌∷◌, length}
use Rattle.std.specs.Str.{encode_utf8_all}
use Rattle.ap_symbol.specs.TagNames.{is_reserved_lem}
use Rattle.ap_symbol.specs.declared.symbol.Symbol.{Symbol}
use Rattle.ap_symbol.specs.declared.symbol.Symbol.TheVariants.{Letter, Tag, Blank, Join, Queue, Alarm, Star, At}

-- the code of a character: at most 0x10FFFF, and no surrogate
abbrev pub IsCode : ℕ → Type 0
IsCode c = (c < 55296) ⊎ ((57344 ≤ c) × (c < 1114112))

-- characters that a tag's name may hold
abbrev pub AreNamed : List ℕ → Type 0
AreNamed [] = Unit {0}
AreNamed (c ∷ cs) = IsCode c × (is_reserved_lem c ≡ false) × AreNamed cs

-- a tag's name is one or more such characters in UTF-8
abbrev pub IsNameText : List ℕ → Type 0
IsNameText name = (cs : List ℕ) × (name ≡ encode_utf8_all cs) × AreNamed cs × (0 < length cs)

-- a letter is a character, and a tag bears a name of characters
abbrev pub IsCoded : Symbol → Type 0
IsCoded (Letter c) = IsCode c
IsCoded (Tag name) = IsNameText name
IsCoded Blank = Unit {0}
IsCoded Join = Unit {0}
IsCoded Queue = Unit {0}
IsCoded Alarm = Unit {0}
IsCoded Star = Unit {0}
IsCoded At = Unit {0}

-- so is each symbol of the word; every word of the program is so
abbrev pub AreCoded : List Symbol → Type 0
AreCoded [] = Unit {0}
AreCoded (symbol ∷ word) = IsCoded symbol × AreCoded word
