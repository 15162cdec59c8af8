-- Bilingual lookup (`lt-proc -b`) and generation (`lt-proc -g`, `-n`, `-d`): what one word gives.
use Rattle.std.specs.Prelude.{ℕ, Bool, true, false, List, [], ◌∷◌, ◌++◌, map, drop, if◌then◌else◌}
use Rattle.ap_symbol.specs.Kinds.{is_marked}
use Rattle.ap_symbol.specs.declared.symbol.Symbol.{Symbol}
use Rattle.ap_symbol.specs.declared.symbol.Symbol.TheVariants.{Star, At}
use Rattle.ap_symbol.specs.Rendering.{rendering}
use Rattle.ap_stream.specs.Spelling.{unit_bytes, joined}
use Rattle.ap_live.specs.Lexicon.{Lexicon}
use Rattle.ap_lookup.specs.Translation.{translation, lemma, forms_of}
use Rattle.ap_lookup.specs.declared.generation_writer.Marks.{Marks}
use Rattle.ap_lookup.specs.declared.generation_writer.Marks.TheVariants as marks

-- the heads, each followed by the symbols left over; without a head @ and the word
abbrev pub translations_by : List Symbol → List (List Symbol) → List Symbol → List (List Symbol)
translations_by word [] left = (At ∷ word) ∷ []
translations_by word (head ∷ heads) left = map (λ h. h ++ left) (head ∷ heads)

-- a word that begins with * or @ is its own translation
abbrev pub translations : Lexicon → Bool → List Symbol → List (List Symbol)
translations lexicon sensitive word = if is_marked word then word ∷ []
    else translations_by word (translation lexicon sensitive word).heads
    (translation lexicon sensitive word).left

-- `^source/translation$`, several translations joined by `/`
abbrev pub bilingual : Lexicon → Bool → List Symbol → List ℕ
bilingual lexicon sensitive word = unit_bytes (word ∷ translations lexicon sensitive word)

abbrev pub is_star : List Symbol → Bool
is_star (Star ∷ word) = true
is_star _ = false

-- The table of marks: a word without a form, a word that begins with *, and one that begins with @.
abbrev pub formless : Marks → List Symbol → List ℕ
formless marks.Marked word = 35 ∷ rendering (lemma word)
formless marks.Clean word = rendering (lemma word)
formless marks.Tagged word = 35 ∷ rendering word

abbrev pub starred : Marks → List Symbol → List ℕ
starred marks.Marked word = rendering word
starred marks.Clean word = rendering (drop 1 word)
starred marks.Tagged word = rendering word

abbrev pub unmatched : Marks → List Symbol → List ℕ
unmatched marks.Marked word = 64 ∷ rendering (lemma (drop 1 word))
unmatched marks.Clean word = rendering (lemma (drop 1 word))
unmatched marks.Tagged word = rendering word

-- the forms, joined by `/`
abbrev pub formed : Marks → List Symbol → List (List Symbol) → List ℕ
formed m word [] = formless m word
formed m word (form ∷ forms) = joined (form ∷ forms)

-- A word that begins with * or @ isn't looked up. The forms of any other are the right words whose
-- left word fits it whole.
abbrev pub generated : Lexicon → Marks → Bool → List Symbol → List ℕ
generated lexicon m sensitive word =
    if is_marked word then (if is_star word then starred m word else unmatched m word)
    else formed m word (forms_of lexicon sensitive word word)
