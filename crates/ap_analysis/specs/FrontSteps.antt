-- Steps that are kept by the bytes at the front of a text, each of which is an item by itself.
use Rattle.std.specs.Prelude.{◌≡◌, ℕ, ◌+◌, ◌-◌, ◌<◌, ◌≤◌, Bool, true, false, List, [], ◌∷◌, length, take, drop}
use Rattle.std.specs.List.{AllByRecursion}
use Rattle.ap_stream.specs.Bare.{bare_items, bare_run}
use Rattle.ap_live.specs.Lexicon.{Lexicon}
use Rattle.ap_analysis.specs.Entries.{IsStep}
use Rattle.ap_analysis.specs.Endings.{is_ending}
use Rattle.ap_analysis.specs.declared.front_steps.FrontKey.{FrontKey}
use Rattle.ap_analysis.specs.declared.front_steps.Mark.{Mark}
use Rattle.ap_analysis.specs.declared.front_steps.FrontSteps.{FrontSteps}

-- whether these bytes may stand behind the key
abbrev pub follows_key : Bool → List ℕ → Bool
follows_key false bytes = true
follows_key true [] = false
follows_key true (b ∷ bytes) = is_ending b

-- a step by the bytes at the front: those of its key, what it writes, and how many it uses
pub record FrontStep : Type 0 where
  pub key : List ℕ
  pub text : List ℕ
  pub count : ℕ
  pub any_ending : Bool

abbrev pub step_of : List ℕ → List ℕ → ℕ → Bool → FrontStep
step_of key text count any_ending =
    record { key = key; text = text; count = count; any_ending = any_ending }

-- the step whose key is at the front of the piece
abbrev pub step_by : List ℕ → FrontKey → List ℕ → FrontStep
step_by piece key text = step_of (take key.size piece) text key.count key.any_ending

-- the step that stands at the mark
abbrev pub step_at : List ℕ → Mark → FrontStep
step_at bytes mark = step_of (take mark.size (drop mark.first bytes))
    (take mark.wrote (drop (mark.first + mark.size) bytes)) mark.count mark.any_ending

-- The step is that of any bytes that begin with the key, and go on with an ending where it is open.
pub record IsFrontStep (lexicon : Lexicon) (sensitive : Bool) (step : FrontStep) : Type 0 where
  pub bare : step.any_ending ≡ true → bare_run step.key ≡ true
  pub gives : (bytes : List ℕ) → bare_run bytes ≡ true →
      take (length step.key) bytes ≡ step.key →
      follows_key step.any_ending (drop (length step.key) bytes) ≡ true → length bytes ≤ 258 →
      (place : ℕ) → IsStep lexicon sensitive (bare_items place bytes) step.count step.text

-- The first so many bytes of the piece begin with the key, and what is behind it may stand there.
-- Each of them is an item, if those of an open key are.
pub record FitsStep (key : List ℕ) (any_ending : Bool) (piece : List ℕ) (seen : ℕ) : Type 0 where
  pub some : 0 < seen
  pub most : seen ≤ length piece
  pub few : seen ≤ 258
  pub begins : take (length key) (take seen piece) ≡ key
  pub follows : follows_key any_ending (drop (length key) (take seen piece)) ≡ true
  pub bare : (any_ending ≡ true → bare_run key ≡ true) → bare_run (take seen piece) ≡ true

-- The first so many bytes, from one of them on, are items, and end at or behind another one.
pub record EndsBare (piece : List ℕ) (first last seen : ℕ) : Type 0 where
  pub beyond : last < seen
  pub near : seen ≤ last + 2
  pub most : seen ≤ length piece
  pub bare : bare_run (take (seen - first) (drop first piece)) ≡ true

-- The step has a space as its key, and copies it.
pub record IsSpaceStep (step : FrontStep) : Type 0 where
  pub key_is : step.key ≡ 32 ∷ []
  pub text_is : step.text ≡ 32 ∷ []
  pub count_is : step.count ≡ 1
  pub ended : step.any_ending ≡ false

-- a space is copied, whatever comes behind it
abbrev pub CopiesSpace : Lexicon → Bool → Type 0
CopiesSpace lexicon sensitive = (bytes : List ℕ) → bare_run bytes ≡ true →
    take 1 bytes ≡ 32 ∷ [] → length bytes ≤ 258 → (place : ℕ) →
    IsStep lexicon sensitive (bare_items place bytes) 1 (32 ∷ [])

-- the step at the mark stands among the bytes, and is true
pub record IsHeld (lexicon : Lexicon) (sensitive : Bool) (bytes : List ℕ) (mark : Mark)
    : Type 0 where
  pub within : mark.first + mark.size + mark.wrote ≤ length bytes
  pub is : IsFrontStep lexicon sensitive (step_at bytes mark)

pub record AreFrontSteps (lexicon : Lexicon) (sensitive : Bool) (steps : FrontSteps)
    : Type 0 where
  pub each : AllByRecursion (IsHeld lexicon sensitive steps.bytes.items) steps.marks.items
  pub spaces : steps.spaces ≡ true → CopiesSpace lexicon sensitive
