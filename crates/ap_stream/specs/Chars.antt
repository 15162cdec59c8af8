-- The character at the front of bytes that may go on.
use Rattle.std.specs.Prelude.{◌≡◌, ℕ, ◌+◌, ◌-◌, ◌*◌, List, [], ◌∷◌, Bool, true, cond, eqb, ltb, leb, ◌&&◌}
use Rattle.ap_stream.specs.declared.decode.Decoded.{Decoded}

-- the bytes are the start of a character, or no character begins so, or a character and its length
pub data Front : Type 0 where
  Part : Front
  NotChar : Front
  Char : ℕ → ℕ → Front

abbrev pub is_tail : ℕ → Bool
is_tail b = leb 128 b && ltb b 192

-- which second byte may follow a first one
abbrev pub is_second : ℕ → ℕ → Bool
is_second a b = is_tail b
    && (cond (eqb a 224) (leb 160 b)
    (cond (eqb a 237) (ltb b 160)
    (cond (eqb a 240) (leb 144 b) (cond (eqb a 244) (ltb b 144) true))))

abbrev pub tail2 : ℕ → List ℕ → Front
tail2 a [] = Part
tail2 a (b ∷ bs) = cond (is_tail b) (Char (64 * (a - 192) + (b - 128)) 2) NotChar

abbrev pub tail3 : ℕ → List ℕ → Front
tail3 a [] = Part
tail3 a (b ∷ []) = cond (is_second a b) Part NotChar
tail3 a (b ∷ c ∷ bs) = cond (is_second a b)
    (cond (is_tail c) (Char (64 * (64 * (a - 224) + (b - 128)) + (c - 128)) 3) NotChar) NotChar

abbrev pub tail4 : ℕ → List ℕ → Front
tail4 a [] = Part
tail4 a (b ∷ []) = cond (is_second a b) Part NotChar
tail4 a (b ∷ c ∷ []) = cond (is_second a b) (cond (is_tail c) Part NotChar) NotChar
tail4 a (b ∷ c ∷ d ∷ bs) =
    cond (is_second a b) (cond (is_tail c)
    (cond (is_tail d) (Char (64 * (64 * (64 * (a - 240) + (b - 128)) + (c - 128)) + (d - 128)) 4)
    NotChar) NotChar) NotChar

-- a character by its first byte
unfoldable pub char_at : List ℕ → Front
char_at [] = Part
char_at (a ∷ bs) = cond (ltb a 128) (Char a 1)
    (cond (ltb a 194) NotChar
    (cond (ltb a 224) (tail2 a bs)
    (cond (ltb a 240) (tail3 a bs) (cond (ltb a 245) (tail4 a bs) NotChar))))

-- what the code says of a character
abbrev pub front_of : Decoded → Front
front_of Decoded.Part = Part
front_of Decoded.NotChar = NotChar
front_of (Decoded.Char c n) = Char c n

-- the character at the front has so many bytes, if it is one
abbrev pub CharSize : List ℕ → ℕ → Type 0
CharSize bytes size = (c : ℕ) (n : ℕ) → char_at bytes ≡ Char c n → size ≡ n
