-- What is left of an analyser is one value for all files that say the same, and least.
use Rattle.std.proofs.Common.{◌≡◌, ℕ, List, sym, ap, ◌∙◌, subst}
use Rattle.std.specs.Prelude.{◌↔◌}
use Rattle.ap_symbol.specs.Alphabet.{has_letter}
use Rattle.ap_symbol.specs.declared.symbol.Symbol.{Symbol}
use Rattle.ap_fst.specs.Sections.{Parts, IsCompiled, section_of}
use Rattle.ap_fst.specs.Walks.{AcceptsLabels}
use Rattle.ap_fst.specs.declared.compiled.Kind2.{Kind2}
use Rattle.ap_fst.specs.declared.compiled.Kind2.TheVariants.{Standard, Inconditional, Postblank, Preblank}
use Rattle.ap_fst.specs.declared.compiled.Way.{Way}
use Rattle.ap_fst.specs.declared.compiled.Way.TheVariants as told
use Rattle.ap_fst.specs.declared.label.Label.{Label}
use Rattle.ap_dix.specs.declared.dictionary.Direction.TheVariants.{Lr}
use Rattle.ap_live.specs.Relations.{AreSameRelations, relation_of}
use Rattle.ap_trim.specs.Trimming.{IsTrimmedBy, IsLeastFor, SayTheSame, SameLeaveSame}
use Rattle.ap_command.specs.Gives.{IsLeftOf}
use Rattle.ap_command.specs.Output.{letters_of, relation}
use Rattle.ap_command.specs.Reading.{IsKeptAs}
use Rattle.ap_command.specs.Said.{Said, Entries, Sections}
use Rattle.ap_command.specs.Trims.{label_strings, way_told, IsSoundFile, SayOneAnalyser, SayOneRelation, IsLeastLeftOf}
use Rattle.ap_command.specs.declared.content.Content.TheVariants as code
use Rattle.ap_command.specs.declared.reading.Manner.TheVariants.{Either}
use Rattle.ap_command.proofs.Entries.{spelled-related, related-spelled}

-- what is kept of a file says what the file says

kept-sound : (way : Way) (said : Said) (p : Parts) → IsSoundFile said →
    IsKeptAs (Either way) said (code.Sections p) → IsCompiled p
kept-sound way (Entries d) p s k = k.sound
kept-sound way (Sections q) p s k = subst IsCompiled k s
kept-sound way said p s k = absurd k

kept-letters : (way : Way) (said : Said) (p : Parts) →
    IsKeptAs (Either way) said (code.Sections p) → (c : ℕ) →
    has_letter p.alphabet c ≡ letters_of said c
kept-letters way (Entries d) p k c = k.alphabet c
kept-letters way (Sections q) p k c = ap (λ (x : Parts). has_letter x.alphabet c) (sym k)
kept-letters way said p k c = absurd k

kept-way : (said : Said) (p : Parts) → IsKeptAs (Either told.Lr) said (code.Sections p) →
    p.way ≡ way_told said
kept-way (Entries d) p k = k.way
kept-way (Sections q) p k = ap (λ (x : Parts). x.way) (sym k)
kept-way said p k = absurd k

kept-strings : (said : Said) (p : Parts) → IsKeptAs (Either told.Lr) said (code.Sections p) →
    (kind : Kind2) (labels : List Label) →
    AcceptsLabels (section_of p kind) labels ↔ label_strings said kind labels
kept-strings (Entries d) p k Standard labels = k.standard labels
kept-strings (Entries d) p k Inconditional labels = k.inconditional labels
kept-strings (Entries d) p k Postblank labels = k.postblank labels
kept-strings (Entries d) p k Preblank labels = k.preblank labels
kept-strings (Sections q) p k kind labels = (
  λ a. subst (λ (x : Parts). AcceptsLabels (section_of x kind) labels) (sym k) a,
  λ a. subst (λ (x : Parts). AcceptsLabels (section_of x kind) labels) k a,
)
kept-strings said p k kind labels = absurd k

kept-relates : (said : Said) (p : Parts) → IsKeptAs (Either told.Untold) said (code.Sections p) →
    AreSameRelations (relation_of p) (relation Lr said)
kept-relates (Entries d) p k = λ kind left right. (
  spelled-related d Lr p k kind left right,
  related-spelled d Lr p k kind left right,
)
kept-relates (Sections q) p k = λ kind left right. (
  λ a. subst (λ (x : Parts). relation_of x kind left right) (sym k) a,
  λ a. subst (λ (x : Parts). relation_of x kind left right) k a,
)
kept-relates said p k = absurd k

-- so files that say the same leave one value

module _ (mono other bilingual second : Said) (made again : Parts)
    (m : SayOneAnalyser mono other) (b : SayOneRelation bilingual second)
    (p : IsLeftOf mono bilingual made) (q : IsLeftOf other second again) where
  analysers-say : SayTheSame p.analyser q.analyser
  analysers-say = record {
    letters = λ c. kept-letters told.Lr mono p.analyser p.analyser_is c ∙ m.letters c
        ∙ sym (kept-letters told.Lr other q.analyser q.analyser_is c);
    way = kept-way mono p.analyser p.analyser_is ∙ m.way
        ∙ sym (kept-way other q.analyser q.analyser_is);
    strings = λ kind labels. (
      λ a. (kept-strings other q.analyser q.analyser_is kind labels).1
          ((m.strings kind labels).0
          ((kept-strings mono p.analyser p.analyser_is kind labels).0 a)),
      λ a. (kept-strings mono p.analyser p.analyser_is kind labels).1
          ((m.strings kind labels).1
          ((kept-strings other q.analyser q.analyser_is kind labels).0 a)),
    );
  }

  relate-same : AreSameRelations (relation_of p.dictionary) (relation_of q.dictionary)
  relate-same = λ kind left right. (
    λ a. (kept-relates second q.dictionary q.dictionary_is kind left right).1
        ((b.same kind left right).0
        ((kept-relates bilingual p.dictionary p.dictionary_is kind left right).0 a)),
    λ a. (kept-relates bilingual p.dictionary p.dictionary_is kind left right).1
        ((b.same kind left right).1
        ((kept-relates second q.dictionary q.dictionary_is kind left right).0 a)),
  )

  pub left-same : SameLeaveSame → made ≡ again
  left-same law =
      law p.analyser q.analyser p.dictionary q.dictionary made again
      (kept-sound told.Lr mono p.analyser m.sound p.analyser_is)
      (kept-sound told.Lr other q.analyser m.other_sound q.analyser_is)
      (kept-sound told.Untold bilingual p.dictionary b.sound p.dictionary_is)
      (kept-sound told.Untold second q.dictionary b.second_sound q.dictionary_is)
      analysers-say relate-same p.trimmed q.trimmed

abbrev LeastLeft : Type 0
LeastLeft = (mono bilingual made : Parts) (kind : Kind2) → IsTrimmedBy mono bilingual made →
    IsLeastFor mono bilingual kind (section_of made kind)

pub left-least : LeastLeft → (mono bilingual : Said) (made : Parts) →
    IsLeftOf mono bilingual made → IsLeastLeftOf mono bilingual made
left-least law mono bilingual made p =
    record { left = p; least = λ kind. law p.analyser p.dictionary made kind p.trimmed }
