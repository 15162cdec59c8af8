use Rattle.std.specs.Prelude.{ℕ, ◌+◌, ◌-◌, ◌%◌, Bool, ◌||◌, ◌&&◌, not, nat_le, ◌==◌, if◌then◌else◌}

-- the code points from `first` to `last`
abbrev pub spans : ℕ → ℕ → ℕ → Bool
spans first last c = nat_le first c && nat_le c last

-- upper letters whose partners lie 32 above them: A to Z, À to Þ without ×, Α to Ρ, Σ to Ϋ, А to Я
abbrev pub is_upper_by_32 : ℕ → Bool
is_upper_by_32 c = spans 0x41 0x5A c || (spans 0xC0 0xDE c && not (c == 0xD7))
    || spans 0x391 0x3A1 c || spans 0x3A3 0x3AB c || spans 0x410 0x42F c

-- upper letters at even code points, with their partners next to them: Ā to Į, Ĳ to Ķ, Ŋ to Ŷ
abbrev pub is_upper_even : ℕ → Bool
is_upper_even c = (c % 2 == 0)
    && (spans 0x100 0x12F c || spans 0x132 0x137 c || spans 0x14A 0x177 c)

-- upper letters at odd code points, with their partners next to them: Ĺ to Ň, Ź to Ž
abbrev pub is_upper_odd : ℕ → Bool
is_upper_odd c = (c % 2 == 1) && (spans 0x139 0x148 c || spans 0x179 0x17E c)

-- the lower partner of an upper letter of the table; every other character itself
abbrev pub lower_lem : ℕ → ℕ
lower_lem c =
    if is_upper_by_32 c then c + 32
    else if is_upper_even c then c + 1
    else if is_upper_odd c then c + 1
    else if c == 0x178 then 0xFF
    else if c == 0x386 then 0x3AC
    else if spans 0x388 0x38A c then c + 37
    else if c == 0x38C then 0x3CC
    else if spans 0x38E 0x38F c then c + 63
    else if spans 0x400 0x40F c then c + 80
    else c

-- the upper partner of a lower letter of the table; every other character itself
abbrev pub upper_lem : ℕ → ℕ
upper_lem c =
    if is_upper_by_32 (c - 32) then c - 32
    else if is_upper_even (c - 1) then c - 1
    else if is_upper_odd (c - 1) then c - 1
    else if c == 0xFF then 0x178
    else if c == 0x3AC then 0x386
    else if spans 0x3AD 0x3AF c then c - 37
    else if c == 0x3CC then 0x38C
    else if spans 0x3CD 0x3CE c then c - 63
    else if spans 0x450 0x45F c then c - 80
    else c

-- whether the character is an upper letter of the table
abbrev pub is_upper_lem : ℕ → Bool
is_upper_lem c = is_upper_by_32 c || is_upper_even c || is_upper_odd c || (c == 0x178)
    || (c == 0x386) || spans 0x388 0x38A c || (c == 0x38C) || spans 0x38E 0x38F c
    || spans 0x400 0x40F c

-- the other letter of its pair, and a character without a pair itself
abbrev pub partner_lem : ℕ → ℕ
partner_lem c = if is_upper_lem c then lower_lem c else upper_lem c
