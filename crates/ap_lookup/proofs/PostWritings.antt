-- What is written at a match, symbol by symbol and blank by blank.
use Rattle.std.specs.Prelude.{◌≡◌, ℕ, suc, ◌+◌, ◌<◌, ◌≤◌, List, [], ◌∷◌, ◌++◌, length, drop, slice_get, refl}
use Rattle.std.proofs.Common.{arith, ap, sym, ◌∙◌, get_or, drop-cons}
use Rattle.std.proofs.lemmas.List.{drop_all}
use Rattle.ap_symbol.specs.declared.symbol.Symbol.{Symbol}
use Rattle.ap_stream.specs.declared.item.Item.{Item}
use Rattle.ap_stream.specs.declared.item.Item.TheVariants as item
use Rattle.ap_stream.specs.declared.item.Read.{Read}
use Rattle.ap_lookup.specs.PostGenerating.{blank_of, blanks, left_over, filled, least}

split_at : {X : Type 0} (xs : List X) (at : ℕ) (d : X) → at < length xs →
    drop at xs ≡ get_or xs at d ∷ drop (at + 1) xs
split_at xs at d lt = let one : suc at ≡ at + 1 = omega arith in
    drop-cons xs at d lt ∙ ap (λ (n : ℕ). get_or xs at d ∷ drop n xs) one

-- the blanks from the next item on
pub blanks_next : (reads : List Read) (at : ℕ) (d : Read) → at < length reads →
    blanks (drop at reads) ≡ blank_of (get_or reads at d).item ++ blanks (drop (at + 1) reads)
blanks_next reads at d lt = ap blanks (split_at reads at d lt)

pub blanks_end : (reads : List Read) (at : ℕ) → length reads ≤ at → blanks (drop at reads) ≡ []
blanks_end reads at le = ap blanks (drop_all at reads le)

-- a slot, at the next item that is a blank, or where there is none
module _ (reads : List Read) (from at : ℕ) (same : blanks (drop at reads)
    ≡ blanks (drop from reads)) where
  pub slot_here : (d : Read) (blank : List ℕ) → at < length reads → (get_or reads at d).item
      ≡ item.Blank blank → blanks (drop from reads) ≡ blank ∷ blanks (drop (at + 1) reads)
  slot_here d blank lt e = sym same ∙ blanks_next reads at d lt
      ∙ ap (λ (thing : Item). blank_of thing ++ blanks (drop (at + 1) reads)) e

  pub slot_none : length reads ≤ at → blanks (drop from reads) ≡ []
  slot_none le = sym same ∙ blanks_end reads at le

-- words with one first word have one least
pub least_same : (words others : List (List Symbol)) → slice_get words 0 ≡ slice_get others 0 →
    least words ≡ least others
least_same [] [] e = refl
least_same [] (other ∷ others) e = absurd (cc)
least_same (word ∷ words) [] e = absurd (cc)
least_same (word ∷ words) (other ∷ others) e = cc
