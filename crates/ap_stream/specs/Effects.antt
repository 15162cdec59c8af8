-- What one whole character makes of the bytes before it, by where they end: the table that reading
-- byte by byte goes by, and what is crossed at once.
use Rattle.std.specs.Prelude.{ℕ, List, [], ◌∷◌, Bool, true, false, cond, eqb, nat_lt, ◌&&◌, if◌then◌else◌, Option, Some, None}
use Rattle.ap_symbol.specs.TagNames.{is_reserved_lem}
use Rattle.ap_stream.specs.Types.{Dialect, Stray, BadTag, EmptyWord}
use Rattle.ap_stream.specs.declared.examine.Mode.{Mode}
use Rattle.ap_stream.specs.declared.examine.Spot.{Spot}
use Rattle.ap_stream.specs.declared.level.Level.{Level}
use Rattle.ap_stream.specs.declared.level.Effect.{Effect}
use Rattle.ap_stream.specs.Chars.{Char}
use Rattle.ap_stream.specs.Blanks.{is_white}
use Rattle.ap_stream.specs.Dialects.{is_refused}
use Rattle.ap_stream.specs.Reading.{begins_unit}
use Rattle.ap_stream.specs.Units.{Form, form_of, Sign, Awaits, Bars, Reads, Slash, Dollar, Brace, of_bare, begins_tag}

abbrev pub spot : Bool → Bool → Spot
spot first empty = record { first = first; empty = empty }

abbrev pub grown_spot : Spot → Spot
grown_spot at = spot at.first false

abbrev pub surface_at : Dialect → Spot → Bool
surface_at dialect at = (form_of dialect).surface && at.first

-- the item goes on so
abbrev pub goes : Mode → Effect
goes to = Effect.Goes (Level.Item to)

-- a blank begins or goes on, or it is another character
abbrev pub blank_effect : ℕ → Effect → Effect
blank_effect c other =
    cond (is_white c) (goes Mode.Blank) (cond (eqb c 91) (goes Mode.Inside) other)

-- what stands at the front of a word, where so many bytes end with it
abbrev pub sign_effect : Form → Spot → ℕ → Sign → Effect
sign_effect form at end Awaits = Effect.Waits
sign_effect form at end (Bars kind) = Effect.Bad kind
sign_effect form at end (Reads symbol n) = goes (Mode.Word (grown_spot at))
sign_effect form at end Slash = cond form.several
    (cond (at.first && at.empty) (Effect.Bad EmptyWord) (goes (Mode.Word (spot false true))))
    (Effect.Bad Stray)
sign_effect form at end Dollar = cond form.braced (Effect.Bad Stray)
    (cond (cond form.several at.first at.empty) (Effect.Bad EmptyWord) Effect.UnitEnds)
sign_effect form at end Brace =
    cond form.braced (Effect.Goes (Level.Part end Mode.Start)) (Effect.Bad Stray)

-- the table: what a character makes of an item, where so many bytes end with it; behind a blank
-- that is its first byte
abbrev pub effect : Dialect → Mode → ℕ → ℕ → Effect
effect dialect Mode.Start end c = blank_effect c
    (cond (eqb c 92) (goes Mode.Escape)
    (cond (begins_unit dialect c) (goes (Mode.Word (spot true true)))
    (cond (is_refused dialect c) (Effect.Bad Stray)
    (Effect.Plain (record { letter = c; escaped = false })))))
effect dialect Mode.Escape end c = Effect.Plain (record { letter = c; escaped = true })
effect dialect Mode.Blank end c = blank_effect c Effect.BlankEnds
effect dialect Mode.Inside end c = cond (eqb c 93) (goes Mode.Blank)
    (cond (eqb c 92) (goes Mode.InsideEscape) (goes Mode.Inside))
effect dialect Mode.InsideEscape end c = goes Mode.Inside
effect dialect (Mode.Word at) end c = cond (eqb c 92) (goes (Mode.WordEscape at))
    (cond (begins_tag (surface_at dialect at) c) (goes (Mode.Tag at false))
    (sign_effect (form_of dialect) at end (of_bare (surface_at dialect at) (Char c 1))))
effect dialect (Mode.WordEscape at) end c = goes (Mode.Word (grown_spot at))
effect dialect (Mode.Tag at some) end c = cond (is_reserved_lem c)
    (cond (eqb c 62 && some) (goes (Mode.Word (grown_spot at))) (Effect.Bad BadTag))
    (goes (Mode.Tag at true))

-- where the item goes on in a superblank, a word or a tag, and not in an escape
abbrev pub goes_on : Effect → Option Mode
goes_on (Effect.Goes (Level.Item Mode.Inside)) = Some Mode.Inside
goes_on (Effect.Goes (Level.Item (Mode.Word at))) = Some (Mode.Word at)
goes_on (Effect.Goes (Level.Item (Mode.Tag at some))) = Some (Mode.Tag at some)
goes_on effect = None

-- the mode behind one more byte that is a character by itself, where the item so goes on
abbrev pub crossed_by : Dialect → Mode → ℕ → Option Mode
crossed_by dialect at b = if nat_lt b 128 then goes_on (effect dialect at 0 b) else None

abbrev pub and_on : Option Mode → (Mode → Option Mode) → Option Mode
and_on None more = None
and_on (Some at) more = more at

-- the mode behind these bytes, where each is such a byte
unfoldable pub crossing : Dialect → Mode → List ℕ → Option Mode
crossing dialect at [] = Some at
crossing dialect at (b ∷ bytes) =
    and_on (crossed_by dialect at b) (λ next. crossing dialect next bytes)
