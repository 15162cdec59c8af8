-- What is true of each word that is read is true of each that is licensed.
use Rattle.std.specs.Prelude.{ℕ, Bool, true, false, List, [], ◌++◌, drop, if◌then◌else◌}
use Rattle.std.proofs.Common.{inl, inr}
use Rattle.ap_symbol.specs.Lists.{IsIn}
use Rattle.ap_symbol.specs.declared.symbol.Symbol.{Symbol}
use Rattle.ap_fst.proofs.Listing.{in_either}
use Rattle.ap_fst.specs.declared.compiled.Kind2.{Kind2}
use Rattle.ap_fst.specs.declared.compiled.Kind2.TheVariants.{Standard, Inconditional, Postblank, Preblank}
use Rattle.ap_stream.specs.declared.item.Read.{Read}
use Rattle.ap_live.specs.Lexicon.{Lexicon}
use Rattle.ap_analysis.specs.Licence.{begins_alphabetic, standard_words, licensed_words, surface}

chosen_in : (t : Bool) (words : List (List Symbol)) (w : List Symbol) →
    IsIn w (if t then [] else words) → IsIn w words
chosen_in true words w i = elim i [ ]
chosen_in false words w i = i

pub licensed_each : (lexicon : Lexicon) (reads : List Read) (n : ℕ) (P : List Symbol → Type 0) →
    ((kind : Kind2) (w : List Symbol) → IsIn w (lexicon.readings kind (surface reads n)) → P w)
    → (w : List Symbol) → IsIn w (licensed_words lexicon reads n) → P w
licensed_each lexicon reads n P h w i =
    let seen : List Symbol = surface reads n in
    let b : List (List Symbol) = lexicon.readings Inconditional seen in
    let c : List (List Symbol) = lexicon.readings Postblank seen in
    let d : List (List Symbol) = lexicon.readings Preblank seen in
    elim (in_either w (standard_words lexicon reads n) (b ++ (c ++ d)) i) [
      | inl k ↦ h Standard w (chosen_in (begins_alphabetic lexicon (drop n reads))
          (lexicon.readings Standard seen) w k)
      | inr k ↦ elim (in_either w b (c ++ d) k) [
        | inl j ↦ h Inconditional w j
        | inr j ↦ elim (in_either w c d j) [ inl e ↦ h Postblank w e | inr e ↦ h Preblank w e ]
      ]
    ]
