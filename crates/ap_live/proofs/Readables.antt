-- The right words of a compiled dictionary can be written in a unit and read again, and so with a
-- case carried to them.
use Rattle.std.specs.Prelude.{ℕ, Bool, true, false, List, [], ◌∷◌, ◌++◌, map, Option, Some, None}
use Rattle.std.specs.Option.{option_to_list}
use Rattle.std.proofs.Common.{sym, subst, inl, inr}
use Rattle.ap_symbol.specs.Coded.{AreCoded}
use Rattle.ap_symbol.specs.Lists.{IsIn}
use Rattle.ap_symbol.specs.Recasing.{case_of_lem}
use Rattle.ap_symbol.specs.declared.symbol.Symbol.{Symbol}
use Rattle.ap_symbol.proofs.Coded.{stays_coded}
use Rattle.ap_symbol.proofs.RecasedWords.{stays_proper}
use Rattle.ap_fst.specs.Machines.{Machine}
use Rattle.ap_fst.specs.Sections.{Parts, section_of}
use Rattle.ap_fst.specs.Sides.{right_word}
use Rattle.ap_fst.specs.Walks.{Walk, ends, goes}
use Rattle.ap_fst.specs.declared.compiled.Kind2.{Kind2}
use Rattle.ap_fst.specs.declared.compiled.Kind2.TheVariants.{Standard, Inconditional, Postblank, Preblank}
use Rattle.ap_fst.specs.declared.label.Label.{Label}
use Rattle.ap_fst.proofs.Listing.{in_either, in_mapped, IsImage, in_from_place}
use Rattle.ap_live.specs.Fitting.{Input}
use Rattle.ap_live.specs.Found.{in_order}
use Rattle.ap_live.specs.Lexicon.{Lexicon, inputs_of, lexicon_of}
use Rattle.ap_live.specs.Outputs.{IsOutput}
use Rattle.ap_live.specs.Readable.{IsReadable, GivesReadable, IsCodedSide, WritesCoded}
use Rattle.ap_live.specs.Readings.{carried, any_words, carried_words}
use Rattle.ap_live.specs.Relations.{AreSidesProper}
use Rattle.ap_live.proofs.Finding.{found_is_output, output_proper}
use Rattle.ap_live.proofs.WordOrder.{in_order_sound}

coded_both : (xs ys : List Symbol) → AreCoded xs → AreCoded ys → AreCoded (xs ++ ys)
coded_both [] ys h k = k
coded_both (x ∷ xs) ys h k = (h.0, coded_both xs ys h.1 k)

side_coded : (o : Option Symbol) → IsCodedSide o → AreCoded (option_to_list o)
side_coded None h = tt
side_coded (Some x) h = (h, tt)

walk_coded : (m : Machine) (s t : ℕ) (labels : List Label) → WritesCoded m →
    Walk m.edges s labels t → AreCoded (right_word labels)
walk_coded m s t labels writes (ends e) = tt
walk_coded m s t whole writes (goes {labels = labels} j e at from is walk) =
    subst (λ (z : List Label). AreCoded (right_word z)) (sym is)
    (coded_both (option_to_list e.label.right) (right_word labels)
    (side_coded e.label.right (writes e (in_from_place m.edges j e at)))
    (walk_coded m e.to t labels writes walk))

output_coded : (m : Machine) (seen : List Input) (w : List Symbol) → WritesCoded m →
    IsOutput m seen w → AreCoded w
output_coded m seen w writes o =
    subst AreCoded (sym o.is) (walk_coded m 0 o.accepted.last o.labels writes o.accepted.walk)

pub compiled_readable : (p : Parts) → AreSidesProper p →
    ((kind : Kind2) → WritesCoded (section_of p kind)) → (sensitive : Bool) →
    GivesReadable (lexicon_of p sensitive)
compiled_readable p proper coded sensitive kind symbols w i =
    let o = found_is_output (section_of p kind) (inputs_of sensitive symbols) w i in (
      output_proper (section_of p kind) (inputs_of sensitive symbols) w (proper kind) o,
      output_coded (section_of p kind) (inputs_of sensitive symbols) w (coded kind) o,
    )

-- with a case carried to them
carried_readable : (sensitive : Bool) (seen word : List Symbol) → IsReadable word →
    IsReadable (carried sensitive seen word)
carried_readable true seen word h = h
carried_readable false seen word h =
    ((stays_proper (case_of_lem seen) word h.0).0, (stays_coded (case_of_lem seen) word h.1).0)

pub ordered_readable : (sensitive : Bool) (seen : List Symbol) (words : List (List Symbol)) →
    ((v : List Symbol) → IsIn v words → IsReadable v) → (w : List Symbol) →
    IsIn w (in_order (map (carried sensitive seen) words)) → IsReadable w
ordered_readable sensitive seen words h w i =
    let m : IsImage (carried sensitive seen) w words =
    in_mapped (carried sensitive seen) w words
    (in_order_sound (map (carried sensitive seen) words) w i) in
    subst IsReadable (sym m.image) (carried_readable sensitive seen m.source (h m.source m.listed))

any_readable : (lexicon : Lexicon) (symbols : List Symbol) → GivesReadable lexicon →
    (w : List Symbol) → IsIn w (any_words lexicon symbols) → IsReadable w
any_readable lexicon symbols gives w i =
    let b : List (List Symbol) = lexicon.readings Inconditional symbols in
    let c : List (List Symbol) = lexicon.readings Postblank symbols in
    let d : List (List Symbol) = lexicon.readings Preblank symbols in
    elim (in_either w (lexicon.readings Standard symbols) (b ++ (c ++ d)) i) [
      | inl k ↦ gives Standard symbols w k
      | inr k ↦ elim (in_either w b (c ++ d) k) [
        | inl j ↦ gives Inconditional symbols w j
        | inr j ↦ elim (in_either w c d j) [
          | inl h ↦ gives Postblank symbols w h
          | inr h ↦
              gives Preblank symbols w h
        ]
      ]
    ]

pub words_readable : (lexicon : Lexicon) (sensitive : Bool) (seen symbols : List Symbol) →
    GivesReadable lexicon → (w : List Symbol) →
    IsIn w (carried_words lexicon sensitive seen symbols) → IsReadable w
words_readable lexicon sensitive seen symbols gives w i =
    ordered_readable sensitive seen (any_words lexicon symbols)
    (any_readable lexicon symbols gives) w i
