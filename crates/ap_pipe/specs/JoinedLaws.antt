-- What the laws of joined transfer say.
use Rattle.std.specs.Prelude.{◌≡◌, ℕ, false, List, [], ◌∷◌, None}
use Rattle.ap_stream.specs.Told.{Told, Ending, Clean}
use Rattle.ap_stream.specs.declared.dialect.Dialect.TheVariants.{Bilingual}
use Rattle.ap_live.specs.Lexicon.{Lexicon}
use Rattle.ap_analysis.specs.Whole.{analysis}
use Rattle.ap_passes.specs.Passes.{first_pass, split_pass}
use Rattle.ap_lookup.specs.PostWorks.{post_generated_text}
use Rattle.ap_lookup.specs.Works.{bilingual_text, generated_text}
use Rattle.ap_lookup.specs.declared.generation_writer.Marks.{Marks}
use Rattle.ap_rules.specs.Views.{plain_rules}
use Rattle.ap_rules.specs.declared.rules.Form.TheVariants.{Transfer}
use Rattle.ap_rules.specs.declared.rules.Rules.{Rules}
use Rattle.ap_exec.specs.Borderless.{KeepQueues}
use Rattle.ap_chunk.specs.Matches.{translated}
use Rattle.ap_chunk.specs.Stages.{transferred_text, interchunked_text, postchunked_text}
use Rattle.ap_pipe.specs.Joined.{transferred_as, joined_text}
use Rattle.ap_pipe.specs.Row.{meaning}

-- what a stage gives for a text with an ending
abbrev pub Meaning : Type 0
Meaning = List ℕ → Ending → Told

-- transfer of a bilingual text is transfer by what a rule sees of a unit, too
abbrev pub TransferSees : Type 0
TransferSees = (rules : Rules) (text : List ℕ) (ending : Ending) → rules.form ≡ Transfer →
    transferred_text rules text ending ≡ transferred_as translated Bilingual rules text ending

-- bilingual lookup, and then transfer
abbrev pub looked_up_first : Lexicon → Rules → List Meaning
looked_up_first lexicon rules = bilingual_text lexicon false ∷ transferred_text rules ∷ []

-- Rules of transfer in which no clip leaves out a queue, and a bilingual dictionary: where neither
-- joined transfer nor transfer behind bilingual lookup has a fault, they give the same text.
abbrev pub JoinedAgrees : Lexicon → Type 0
JoinedAgrees lexicon = (rules : Rules) (text : List ℕ) → rules.form ≡ Transfer
    → KeepQueues (plain_rules rules)
    → (joined_text lexicon rules text Clean).fault ≡ None
    → (meaning 1 (looked_up_first lexicon rules) text Clean).fault ≡ None
    → (joined_text lexicon rules text Clean).text
    ≡ (meaning 1 (looked_up_first lexicon rules) text Clean).text

-- what a whole translation goes by
pub record Pair : Type 0 where
  pub analyser : Lexicon
  pub bilingual : Lexicon
  pub generator : Lexicon
  pub post : Lexicon
  pub marks : Marks
  pub transfer : Rules
  pub interchunk : Rules
  pub postchunk : Rules

-- the stages with joined transfer, and those with bilingual lookup and transfer in its place
abbrev pub eight_stages : Pair → List Meaning
eight_stages p = analysis p.analyser false ∷ first_pass ∷ split_pass
    ∷ joined_text p.bilingual p.transfer ∷ interchunked_text p.interchunk
    ∷ postchunked_text p.postchunk ∷ generated_text p.generator p.marks false
    ∷ post_generated_text p.post false ∷ []

abbrev pub nine_stages : Pair → List Meaning
nine_stages p = analysis p.analyser false ∷ first_pass ∷ split_pass
    ∷ bilingual_text p.bilingual false ∷ transferred_text p.transfer
    ∷ interchunked_text p.interchunk ∷ postchunked_text p.postchunk
    ∷ generated_text p.generator p.marks false ∷ post_generated_text p.post false ∷ []

-- With this bilingual dictionary, and rules of transfer in which no clip leaves out a queue: where
-- neither row has a fault, they give the same text.
abbrev pub JoinedRowsAgree : Lexicon → Type 0
JoinedRowsAgree lexicon = (p : Pair) (text : List ℕ) (ending : Ending) → p.bilingual ≡ lexicon
    → p.transfer.form ≡ Transfer → KeepQueues (plain_rules p.transfer)
    → (meaning 1 (eight_stages p) text ending).fault ≡ None
    → (meaning 1 (nine_stages p) text ending).fault ≡ None
    → (meaning 1 (eight_stages p) text ending).text ≡ (meaning 1 (nine_stages p) text ending).text
