-- A blank: white space and superblanks.
use Rattle.std.specs.Prelude.{ℕ, zero, suc, ◌+◌, pred, List, [], ◌∷◌, Bool, false, cond, eqb, ◌&&◌, ◌||◌, not}
use Rattle.ap_stream.specs.Chars.{Front, Part, NotChar, Char, char_at}

abbrev pub is_white : ℕ → Bool
is_white b = eqb b 32 || (eqb b 9 || (eqb b 10 || eqb b 13))

abbrev pub begins_blank : ℕ → Bool
begins_blank b = is_white b || eqb b 91

-- how much of the bytes is a superblank behind its bracket: they end within it, or in a bad
-- character, or it has so many bytes
pub data Close : Type 0 where
  Within : Close
  Bad : Close
  Closed : ℕ → Close

abbrev pub longer : ℕ → Close → Close
longer n (Closed m) = Closed (n + m)
longer n other = other

-- a bare bracket closes
abbrev pub closes : Bool → ℕ → Bool
closes escaped c = not escaped && eqb c 93

-- a bare backslash escapes the next character
abbrev pub escapes : Bool → ℕ → Bool
escapes escaped c = not escaped && eqb c 92

abbrev pub closing_by : Bool → Front → (Bool → ℕ → Close) → Close
closing_by escaped Part more = Within
closing_by escaped NotChar more = Bad
closing_by escaped (Char c n) more =
    cond (closes escaped c) (Closed n) (longer n (more (escapes escaped c) (pred n)))

-- the rest of a superblank behind so many bytes, after a backslash or not
unfoldable pub closing : Bool → ℕ → List ℕ → Close
closing escaped skip [] = Within
closing escaped (suc skip) (b ∷ bs) = closing escaped skip bs
closing escaped zero (b ∷ bs) = closing_by escaped (char_at (b ∷ bs)) (λ e skip. closing e skip bs)

-- how much of the bytes is a blank: all of them and it may go on, or they end within a superblank,
-- or in a bad character, or it has so many bytes and another byte follows
pub data Run : Type 0 where
  Open : Run
  Inside : Run
  BadChar : Run
  Done : ℕ → Run

abbrev pub further : ℕ → Run → Run
further n (Done m) = Done (n + m)
further n other = other

abbrev pub behind_close : Close → (ℕ → Run) → Run
behind_close Within more = Inside
behind_close Bad more = BadChar
behind_close (Closed n) more = further n (more n)

-- pieces of a blank behind so many bytes
unfoldable pub blank : ℕ → List ℕ → Run
blank skip [] = Open
blank (suc skip) (b ∷ bs) = blank skip bs
blank zero (b ∷ bs) = cond (is_white b) (further 1 (blank 0 bs))
    (cond (eqb b 91) (further 1 (behind_close (closing false 0 bs) (λ n. blank n bs))) (Done 0))

-- what is left of a blank within a superblank
abbrev pub inside : Bool → List ℕ → Run
inside e bs = behind_close (closing e 0 bs) (λ n. blank n bs)
