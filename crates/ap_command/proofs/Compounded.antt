-- A dictionary whose unknown words are explained as compounds.
use Rattle.std.specs.Prelude.{◌↔◌}
use Rattle.std.proofs.Common.{◌≡◌, ℕ, Bool, List, ap, sym, ◌∙◌, subst, Result, Ok, Err, IfOk, refl}
use Rattle.ap_symbol.specs.Alphabet.{has_letter}
use Rattle.ap_symbol.specs.declared.symbol.Symbol.{Symbol}
use Rattle.ap_analysis.specs.Whole.{analysis}
use Rattle.ap_compound.specs.Plain.{IsPlainOf}
use Rattle.ap_fst.specs.Sections.{Parts}
use Rattle.ap_fst.specs.declared.compiled.Kind2.{Kind2}
use Rattle.ap_fst.specs.declared.compiled.Way.{Way}
use Rattle.ap_live.specs.Lexicon.{lexicon_of, IsLexiconOf}
use Rattle.ap_live.specs.Readable.{GivesReadable}
use Rattle.ap_live.specs.Relations.{relation_of}
use Rattle.ap_live.proofs.Lexicons.{lexicon_same}
use Rattle.ap_stream.specs.Told.{Ending as TextEnding}
use Rattle.ap_pipe.specs.Any.{any_rest}
use Rattle.ap_pipe.specs.declared.any_stage.AnyStage.{AnyStage}
use Rattle.ap_command.specs.declared.content.Content.TheVariants as code
use Rattle.ap_command.specs.Said.{Said, Entries, Sections}
use Rattle.ap_command.specs.declared.reading.Manner.TheVariants.{Either}
use Rattle.ap_command.specs.declared.words.Mode.TheVariants.{A}
use Rattle.ap_command.specs.Output.{IsLexiconAlone, RelatesAlone, letters_of, relation}
use Rattle.ap_command.specs.Reading.{IsKeptAs, made_way}
use Rattle.ap_command.specs.Rows.{AnalysesAlone}
use Rattle.ap_command.specs.Stream.{IsStage}
use Rattle.ap_command.specs.Words.{way_of}
use Rattle.ap_command.proofs.Entries.{spelled-related, related-spelled}
use Rattle.ap_command.proofs.Flowing.{ModesKeep, ModesAreRead, stage-by}

-- what is kept of a file relates what the file does, and has its letters
kept-relation : (way : Way) (said : Said) (p : Parts) → IsKeptAs (Either way) said (code.Sections p)
    → (kind : Kind2) (left right : List Symbol) →
    relation_of p kind left right ↔ relation (made_way way) said kind left right
kept-relation way (Entries d) p k kind left right = (
  spelled-related d (made_way way) p k kind left right,
  related-spelled d (made_way way) p k kind left right,
)
kept-relation way (Sections q) p k kind left right = (
  (λ r. subst (λ (x : Parts). relation_of x kind left right) (sym k) r),
  (λ r. subst (λ (x : Parts). relation_of x kind left right) k r),
)
kept-relation way said p k kind left right = absurd k

kept-letters : (way : Way) (said : Said) (p : Parts) → IsKeptAs (Either way) said (code.Sections p)
    → (c : ℕ) → has_letter p.alphabet c ≡ letters_of said c
kept-letters way (Entries d) p k c = k.alphabet c
kept-letters way (Sections q) p k c = ap (λ (x : Parts). has_letter x.alphabet c) (sym k)
kept-letters way said p k c = absurd k

-- so the words that stand alone in it are those of the file
alone-lexicon : (way : Way) (said : Said) (p made : Parts) (sensitive : Bool) → IsPlainOf p made →
    IsKeptAs (Either way) said (code.Sections p)
    → IsLexiconOf (lexicon_of made sensitive) sensitive (has_letter made.alphabet)
    (relation_of made) → IsLexiconAlone (made_way way) said sensitive (lexicon_of made sensitive)
alone-lexicon way said p made sensitive plain k i =
    lexicon_same (lexicon_of made sensitive) sensitive (has_letter made.alphabet)
    (letters_of said) (relation_of made) (RelatesAlone (relation (made_way way) said))
    (λ kind left right. (
      (λ r. (let a = (plain.exactly kind left right).0 r in record {
        whole = a.whole;
        related = (kept-relation way said p k kind left a.whole).0 a.related;
        alone = a.alone;
        right_is = a.right_is;
      })),
      (λ a. (plain.exactly kind left right).1 (record {
        whole = a.whole;
        related = (kept-relation way said p k kind left a.whole).1 a.related;
        alone = a.alone;
        right_is = a.right_is;
      })),
    ))
    (λ c. ap (λ letters. has_letter letters c) plain.alphabet ∙ kept-letters way said p k c) i

pub alone-made : {E : Type 0} → ModesKeep → ModesAreRead → (p made : Parts) (sensitive : Bool) →
    IsPlainOf p made
    → IsLexiconOf (lexicon_of made sensitive) sensitive (has_letter made.alphabet)
    (relation_of made) → GivesReadable (lexicon_of made sensitive) → (r : Result AnyStage E)
    → IfOk r (λ stage. (x : List ℕ) (e : TextEnding) →
    any_rest stage x e ≡ analysis (lexicon_of made sensitive) sensitive x e) → (said : Said) →
    IsKeptAs (Either (way_of A)) said (code.Sections p) →
    IfOk r (λ stage. IsStage (AnalysesAlone said sensitive) stage)
alone-made keep link p made sensitive plain has readable (Err e) h said kept = h
alone-made keep link p made sensitive plain has readable (Ok stage) h said kept =
    stage-by (AnalysesAlone said sensitive) stage (analysis (lexicon_of made sensitive) sensitive) h
    (λ n e. (
      lexicon_of made sensitive,
      alone-lexicon (way_of A) said p made sensitive plain kept has,
      e,
    ))
    (keep A (lexicon_of made sensitive) sensitive readable)
    (link A (lexicon_of made sensitive) sensitive readable)
