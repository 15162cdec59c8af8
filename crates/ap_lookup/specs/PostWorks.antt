-- Post-generation of the items of a text, and of a whole text.
use Rattle.std.specs.Prelude.{◌≡◌, ℕ, Bool, List, ◌++◌}
use Rattle.ap_fst.specs.Sections.{Parts}
use Rattle.ap_stream.specs.Reading.{reads}
use Rattle.ap_stream.specs.Rest.{worked}
use Rattle.ap_stream.specs.Steps.{Step, Gives, Stops, steps}
use Rattle.ap_stream.specs.Told.{Told, Ending}
use Rattle.ap_stream.specs.declared.dialect.Dialect.TheVariants.{Generated}
use Rattle.ap_stream.specs.declared.item.Read.{Read}
use Rattle.ap_live.specs.Lexicon.{Lexicon, lexicon_of}
use Rattle.ap_lookup.specs.PostGenerating.{copied, post_step}
use Rattle.ap_lookup.specs.declared.post_writing.Written.{Written}
use Rattle.ap_lookup.specs.declared.post_writing.Written.TheVariants as code

-- the items of a text, step by step
abbrev pub post_generated : Lexicon → Bool → List Read → Told
post_generated lexicon sensitive items = steps (post_step lexicon sensitive) 0 items

abbrev pub post_generated_text : Lexicon → Bool → List ℕ → Ending → Told
post_generated_text lexicon sensitive text ending =
    worked (post_generated lexicon sensitive) (reads Generated 0 text) ending

-- what is seen of the work: its dictionary, whether case counts, the items that it holds, and
-- whether they are the last
pub record Posting : Type 0 where
  pub compiled : Parts
  pub sensitive : Bool
  pub items : List Read
  pub finished : Bool

-- what is still to come of it where these items still come
abbrev pub post_work : Posting → List Read → Told
post_work h xs = post_generated (lexicon_of h.compiled h.sensitive) h.sensitive (h.items ++ xs)

-- a step of the code as the definition has it
abbrev pub meant : Written → Step
meant (code.Gives count text) = Gives count text
meant (code.Stops kind) = Stops kind

-- the first item was appended as it is spelled
abbrev pub IsCopied : List Read → List ℕ → List ℕ → Type 0
IsCopied items before after = (text : List ℕ) × (copied items ≡ Gives 1 text)
    × (after ≡ before ++ text)
