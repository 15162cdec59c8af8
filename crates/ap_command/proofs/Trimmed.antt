-- What is left of an analyser is one value, by what the two files say.
use Rattle.std.proofs.Common.{◌≡◌, sym, ◌∙◌, subst, refl}
use Rattle.ap_dix.specs.declared.dictionary.Dictionary.{Dictionary}
use Rattle.ap_dix.specs.declared.dictionary.Direction.{Direction}
use Rattle.ap_fst.specs.Sections.{Parts}
use Rattle.ap_fst.specs.declared.compiled.Way.{Way}
use Rattle.ap_fst.specs.declared.compiled.Way.TheVariants as told
use Rattle.ap_compile.specs.Compiling.{IsCompiledFrom, HaveSameStrings, HaveOneClosure}
use Rattle.ap_trim.specs.Trimming.{IsTrimmedBy}
use Rattle.ap_command.specs.Said.{Said, Entries, Sections}
use Rattle.ap_command.specs.declared.content.Content.TheVariants as code
use Rattle.ap_command.specs.declared.reading.Manner.TheVariants.{Either}
use Rattle.ap_command.specs.Reading.{IsKeptAs, made_way}
use Rattle.ap_command.specs.Gives.{IsLeftOf}

abbrev SameStringsSame : Type 0
SameStringsSame = (d e : Dictionary) (way : Direction) (a b : Parts) → IsCompiledFrom d way a →
    IsCompiledFrom e way b → HaveSameStrings d e way → HaveOneClosure d.alphabet e.alphabet → a ≡ b

abbrev TrimmedIsOne : Type 0
TrimmedIsOne = (mono bilingual a b : Parts) → IsTrimmedBy mono bilingual a →
    IsTrimmedBy mono bilingual b → a ≡ b

kept-one : SameStringsSame → (way : Way) (said : Said) (p q : Parts) →
    IsKeptAs (Either way) said (code.Sections p) → IsKeptAs (Either way) said (code.Sections q) →
    p ≡ q
kept-one law way (Entries d) p q k l =
    law d d (made_way way) p q k l (λ kind labels. ((λ s. s), (λ s. s))) (λ c. refl)
kept-one law way (Sections s) p q k l = sym k ∙ l
kept-one law way said p q k l = absurd k

pub left-one : SameStringsSame → TrimmedIsOne → (mono bilingual : Said) (a b : Parts) →
    IsLeftOf mono bilingual a → IsLeftOf mono bilingual b → a ≡ b
left-one law one mono bilingual a b p q =
    let m : p.analyser ≡ q.analyser =
    kept-one law told.Lr mono p.analyser q.analyser p.analyser_is q.analyser_is in
    let d : p.dictionary ≡ q.dictionary =
    kept-one law told.Untold bilingual p.dictionary q.dictionary p.dictionary_is q.dictionary_is in
    one q.analyser q.dictionary a b (subst (λ z. IsTrimmedBy z q.dictionary a) m
    (subst (λ z. IsTrimmedBy p.analyser z a) d p.trimmed)) q.trimmed
