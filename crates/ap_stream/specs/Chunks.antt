-- What stands behind the name of a chunk, by the Apertium stream format: the content, a row of
-- Lexical units and blanks that may be empty, then } and $.
use Rattle.std.specs.Prelude.{ℕ, zero, suc, ◌+◌, pred, List, [], ◌∷◌, take, cond, eqb}
use Rattle.ap_stream.specs.Types.{Lexical, MalformedKind, NotUtf8, Stray}
use Rattle.ap_stream.specs.Items.{Inner}
use Rattle.ap_stream.specs.Chars.{Front, NotChar, char_at}
use Rattle.ap_stream.specs.Blanks.{Run, BadChar, Done, blank, begins_blank}
use Rattle.ap_stream.specs.Units.{Rest, Lacks, Wrong, Ends, rest, form_of}

-- what a byte shows where only ASCII can stand, and not this byte
abbrev pub wrong_front : Front → MalformedKind
wrong_front NotChar = NotUtf8
wrong_front front = Stray

abbrev pub wrong_byte : ℕ → MalformedKind
wrong_byte b = wrong_front (char_at (b ∷ []))

-- what stands at the front of the content's bytes: the start of a part, or what no content holds,
-- or a part of so many bytes, or the } behind the last
pub data Portion : Type 0 where
  Begun : Portion
  Barred : MalformedKind → Portion
  Held : Inner → ℕ → Portion
  Braced : Portion

-- the blank at the front of the bytes
abbrev pub blank_portion : List ℕ → Run → Portion
blank_portion bytes BadChar = Barred NotUtf8
blank_portion bytes (Done n) = Held (Inner.Blank (take n bytes)) n
blank_portion bytes run = Begun

-- behind ^ a unit goes on to its $
abbrev pub unit_portion : Rest → Portion
unit_portion Lacks = Begun
unit_portion (Wrong kind) = Barred kind
unit_portion (Ends words n) = Held (Inner.Unit words) (1 + n)

unfoldable pub portion : List ℕ → Portion
portion [] = Begun
portion (b ∷ bs) =
    cond (begins_blank b) (blank_portion (b ∷ bs) (blank 0 (b ∷ bs)))
    (cond (eqb b 94) (unit_portion (rest (form_of Lexical) [] [] 0 bs))
    (cond (eqb b 125) Braced (Barred (wrong_byte b))))

-- the rest of a chunk: its bytes end before it does, or it has a fault, or it is whole and these
-- are the parts of its content
pub data Body : Type 0 where
  Opens : Body
  Fails : MalformedKind → Body
  Closes : List Inner → ℕ → Body

-- behind a part of so many bytes
abbrev pub behind_part : Inner → ℕ → Body → Body
behind_part part n (Closes parts m) = Closes (part ∷ parts) (n + m)
behind_part part n other = other

-- the } and what stands behind it
abbrev pub closed : List ℕ → Body
closed [] = Opens
closed (b ∷ bs) = cond (eqb b 36) (Closes [] 2) (Fails (wrong_byte b))

abbrev pub behind_portion : Portion → List ℕ → (ℕ → Body) → Body
behind_portion Begun bytes more = Opens
behind_portion (Barred kind) bytes more = Fails kind
behind_portion (Held part n) bytes more = behind_part part n (more (pred n))
behind_portion Braced bytes more = closed bytes

-- the rest of a chunk behind so many bytes, from within its content on
unfoldable pub body : ℕ → List ℕ → Body
body skip [] = Opens
body (suc skip) (b ∷ bs) = body skip bs
body zero (b ∷ bs) = behind_portion (portion (b ∷ bs)) bs (λ skip. body skip bs)
