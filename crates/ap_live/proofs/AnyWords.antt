-- What is read and what is viable in a coherent lexicon, and right words that stay proper with a
-- case carried to them.
use Rattle.std.specs.Prelude.{◌≡◌, ◌⊎◌, ℕ, ◌≤◌, Bool, true, false, List, [], ◌∷◌, ◌++◌, map, take, drop, refl}
use Rattle.std.proofs.Common.{ap, sym, ◌∙◌, subst, inl, inr}
use Rattle.std.proofs.lemmas.List.{take-append-drop, take-take}
use Rattle.ap_symbol.specs.CaseLaws.{StaysProper}
use Rattle.ap_symbol.specs.Lists.{IsIn}
use Rattle.ap_symbol.specs.Recasing.{case_of_lem}
use Rattle.ap_symbol.specs.Words.{AreProper}
use Rattle.ap_symbol.specs.declared.symbol.Symbol.{Symbol}
use Rattle.ap_fst.specs.Sections.{Parts, IsCompiled, section_of}
use Rattle.ap_fst.specs.declared.compiled.Kind2.{Kind2}
use Rattle.ap_fst.specs.declared.compiled.Kind2.TheVariants.{Standard, Inconditional, Postblank, Preblank}
use Rattle.ap_fst.proofs.Listing.{in_front, in_back, in_either, in_map, in_mapped, IsImage}
use Rattle.ap_live.specs.Found.{has_words}
use Rattle.ap_live.specs.Lexicon.{Lexicon, IsCoherent, inputs_of, lexicon_of}
use Rattle.ap_live.specs.Readings.{AddsSome, carried, any_words}
use Rattle.ap_live.proofs.Coherence.{sections_proper}
use Rattle.ap_live.proofs.Finding.{found_is_output, output_proper}
use Rattle.ap_live.proofs.WordOrder.{some_word}

pub some_append : (a b : List (List Symbol)) → has_words (a ++ b) ≡ true →
    (has_words a ≡ true) ⊎ (has_words b ≡ true)
some_append [] b h = inr h
some_append (word ∷ a) b h = inl refl

pub read_viable : (lexicon : Lexicon) (kind : Kind2) (symbols : List Symbol) → IsCoherent lexicon →
    has_words (lexicon.readings kind symbols) ≡ true → lexicon.viable symbols ≡ true
read_viable lexicon kind symbols coherent h = let s = some_word (lexicon.readings kind symbols) h in
    coherent.read kind symbols s.0 s.1

-- what is read is viable
pub any_viable : (lexicon : Lexicon) (symbols : List Symbol) → IsCoherent lexicon →
    has_words (any_words lexicon symbols) ≡ true → lexicon.viable symbols ≡ true
any_viable lexicon symbols whole h =
    elim (some_append (lexicon.readings Standard symbols) _ h) [
      | inl s ↦ read_viable lexicon Standard symbols whole s
      | inr r ↦ elim (some_append (lexicon.readings Inconditional symbols) _ r) [
        | inl s ↦ read_viable lexicon Inconditional symbols whole s
        | inr q ↦ elim (some_append (lexicon.readings Postblank symbols) _ q) [
          | inl s ↦ read_viable lexicon Postblank symbols whole s
          | inr s ↦ read_viable lexicon Preblank symbols whole s
        ]
      ]
    ]

-- so many symbols of a list are viable where more of them are
pub viable_front : (lexicon : Lexicon) (word : List Symbol) (m n : ℕ) → IsCoherent lexicon → m ≤ n →
    lexicon.viable (take n word) ≡ true → lexicon.viable (take m word) ≡ true
viable_front lexicon word m n whole le t =
    let parts : take m word ++ drop m (take n word) ≡ take n word =
    ap (λ symbols. symbols ++ drop m (take n word)) (sym (take-take m n word le))
    ∙ take-append-drop m (take n word) in
    whole.shorter (take m word) (drop m (take n word)) (ap lexicon.viable parts ∙ t)

-- what is read is proper
pub reading_proper : (p : Parts) (sensitive : Bool) (kind : Kind2) (symbols w : List Symbol) →
    IsCompiled p → IsIn w ((lexicon_of p sensitive).readings kind symbols) → AreProper w
reading_proper p sensitive kind symbols w compiled i =
    output_proper (section_of p kind) (inputs_of sensitive symbols) w
    (sections_proper p compiled kind)
    (found_is_output (section_of p kind) (inputs_of sensitive symbols) w i)

-- ---- the right words of any kind

-- a right word of some kind
pub record IsAny (lexicon : Lexicon) (symbols w : List Symbol) : Type 0 where
  pub kind : Kind2
  pub listed : IsIn w (lexicon.readings kind symbols)

pub any_is : (lexicon : Lexicon) (symbols w : List Symbol) → IsIn w (any_words lexicon symbols) →
    IsAny lexicon symbols w
any_is lexicon symbols w i =
    let b : List (List Symbol) = lexicon.readings Inconditional symbols in
    let c : List (List Symbol) = lexicon.readings Postblank symbols in
    let d : List (List Symbol) = lexicon.readings Preblank symbols in
    elim (in_either w (lexicon.readings Standard symbols) (b ++ (c ++ d)) i) [
      | inl k ↦ record { kind = Standard; listed = k }
      | inr k ↦ elim (in_either w b (c ++ d) k) [
        | inl j ↦ record { kind = Inconditional; listed = j }
        | inr j ↦ elim (in_either w c d j) [
          | inl h ↦ record { kind = Postblank; listed = h }
          | inr h ↦ record { kind = Preblank; listed = h }
        ]
      ]
    ]

pub any_of : (lexicon : Lexicon) (kind : Kind2) (symbols w : List Symbol) →
    IsIn w (lexicon.readings kind symbols) → IsIn w (any_words lexicon symbols)
any_of lexicon Standard symbols w i = in_front w (lexicon.readings Standard symbols)
    (lexicon.readings Inconditional symbols
    ++ (lexicon.readings Postblank symbols ++ lexicon.readings Preblank symbols)) i
any_of lexicon Inconditional symbols w i = in_back w (lexicon.readings Standard symbols)
    (lexicon.readings Inconditional symbols
    ++ (lexicon.readings Postblank symbols ++ lexicon.readings Preblank symbols))
    (in_front w (lexicon.readings Inconditional symbols)
    (lexicon.readings Postblank symbols ++ lexicon.readings Preblank symbols) i)
any_of lexicon Postblank symbols w i = in_back w (lexicon.readings Standard symbols)
    (lexicon.readings Inconditional symbols
    ++ (lexicon.readings Postblank symbols ++ lexicon.readings Preblank symbols))
    (in_back w (lexicon.readings Inconditional symbols)
    (lexicon.readings Postblank symbols ++ lexicon.readings Preblank symbols)
    (in_front w (lexicon.readings Postblank symbols) (lexicon.readings Preblank symbols) i))
any_of lexicon Preblank symbols w i = in_back w (lexicon.readings Standard symbols)
    (lexicon.readings Inconditional symbols
    ++ (lexicon.readings Postblank symbols ++ lexicon.readings Preblank symbols))
    (in_back w (lexicon.readings Inconditional symbols)
    (lexicon.readings Postblank symbols ++ lexicon.readings Preblank symbols)
    (in_back w (lexicon.readings Postblank symbols) (lexicon.readings Preblank symbols) i))

pub any_proper : (p : Parts) (sensitive : Bool) (symbols w : List Symbol) → IsCompiled p →
    IsIn w (any_words (lexicon_of p sensitive) symbols) → AreProper w
any_proper p sensitive symbols w compiled i =
    let a : IsAny (lexicon_of p sensitive) symbols w =
    any_is (lexicon_of p sensitive) symbols w i in
    reading_proper p sensitive a.kind symbols w compiled a.listed

stays : StaysProper → (sensitive : Bool) (seen word : List Symbol) → AreProper word →
    AreProper (carried sensitive seen word)
stays law true seen word h = h
stays law false seen word h = (law (case_of_lem seen) word h).0

-- proper words stay so with a case carried to them
pub carried_proper : StaysProper →
    (sensitive : Bool) (seen : List Symbol) (words made : List (List Symbol)) →
    made ≡ map (carried sensitive seen) words → ((v : List Symbol) → IsIn v words → AreProper v)
    → (w : List Symbol) → IsIn w made → AreProper w
carried_proper law sensitive seen words made is proper w i =
    let m : IsImage (carried sensitive seen) w words =
    in_mapped (carried sensitive seen) w words
    (subst (λ (z : List (List Symbol)). IsIn w z) is i) in
    subst (λ (z : List Symbol). AreProper z) (sym m.image)
    (stays law sensitive seen m.source (proper m.source m.listed))

-- some of these words, with a case carried to each
pub adds_carried : (f : List Symbol → List Symbol) (some words old new : List (List Symbol)) →
    new ≡ old ++ map f some → ((w : List Symbol) → IsIn w some → IsIn w words) →
    AddsSome (map f words) old new
adds_carried f some words old new e all w i =
    elim (in_either w old (map f some) (subst (λ (z : List (List Symbol)). IsIn w z) e i)) [
      | inl k ↦ inl k
      | inr k ↦
          let m : IsImage f w some = in_mapped f w some k in
          inr (subst (λ (z : List Symbol). IsIn z (map f words)) (sym m.image)
          (in_map f m.source words (all m.source m.listed)))
    ]
