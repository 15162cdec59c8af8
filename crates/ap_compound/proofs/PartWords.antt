-- What holds of right words, and stays where tags are left out and words are joined, holds of the
-- words of splits.
use Rattle.std.proofs.Common.{◌<◌, Bool, List, [], ◌∷◌, ◌++◌, map, length, sym, subst, arith}
use Rattle.std.specs.List.{filter}
use Rattle.ap_symbol.specs.Lists.{IsIn}
use Rattle.ap_symbol.specs.declared.symbol.Symbol.{Symbol}
use Rattle.ap_symbol.specs.declared.symbol.Symbol.TheVariants.{Join}
use Rattle.ap_fst.proofs.Listing.{in_mapped, IsImage, filter_in, IsKept}
use Rattle.ap_live.specs.Lexicon.{Lexicon}
use Rattle.ap_live.specs.Readings.{any_words}
use Rattle.ap_compound.specs.Splits.{splits, are_several, compounds, fewest, joined_word}
use Rattle.ap_compound.specs.Tags.{left_tag, right_tag, holds, bare}
use Rattle.ap_compound.proofs.Splitting.{IsSplit, ends, goes, listed_is}

module _ (P : List Symbol → Type 0) (none : P []) (bare_stays : (w : List Symbol) → P w → P (bare w))
    (joins_stay : (front back : List Symbol) → P front → P back → P (front ++ Join ∷ back)) where
  abbrev AreAll : List (List Symbol) → Type 0
  AreAll [] = Unit {0}
  AreAll (word ∷ words) = P word × AreAll words

  joined_is : (words : List (List Symbol)) → AreAll words → P (joined_word words)
  joined_is [] h = none
  joined_is (word ∷ []) h = h.0
  joined_is (word ∷ next ∷ words) h =
      joins_stay word (joined_word (next ∷ words)) h.0 (joined_is (next ∷ words) h.1)

  module _ (lexicon : Lexicon)
      (any : (symbols w : List Symbol) → IsIn w (any_words lexicon symbols) → P w) where
    part_is : (p : List Symbol → Bool) (symbols w : List Symbol) →
        IsIn w (map bare (filter p (any_words lexicon symbols))) → P w
    part_is p symbols w i =
        let m : IsImage bare w (filter p (any_words lexicon symbols)) =
        in_mapped bare w (filter p (any_words lexicon symbols)) i in
        let k : IsKept p m.source (any_words lexicon symbols) =
        filter_in p m.source (any_words lexicon symbols) m.listed in
        subst P (sym m.image) (bare_stays m.source (any symbols m.source k.listed))

    split_is : (symbols : List Symbol) (words : List (List Symbol)) →
        IsSplit lexicon symbols words → AreAll words
    split_is symbols words (ends word some right e) =
        subst AreAll (sym e) (part_is (holds right_tag) symbols word right, tt)
    split_is symbols words (goes front back word more is some left s e) =
        subst AreAll (sym e) (part_is (holds left_tag) front word left, split_is back more s)

    compound_is : (surface : List Symbol) (words : List (List Symbol)) →
        IsIn words (compounds lexicon surface) → AreAll words
    compound_is [] words i = absurd i
    compound_is (x ∷ rest) words i =
        let k : IsKept are_several words (splits lexicon (x ∷ []) rest) =
        filter_in are_several words (splits lexicon (x ∷ []) rest) i in
        let one : 0 < length (x ∷ []) = omega arith in
        split_is (x ∷ rest) words (listed_is lexicon (x ∷ []) rest words one k.listed)

    pub joined_words : (surface w : List Symbol) →
        IsIn w (map joined_word (fewest (compounds lexicon surface))) → P w
    joined_words surface w i =
        let m : IsImage joined_word w (fewest (compounds lexicon surface)) =
        in_mapped joined_word w (fewest (compounds lexicon surface)) i in
        let k = filter_in _ m.source (compounds lexicon surface) m.listed in
        subst P (sym m.image) (joined_is m.source (compound_is surface m.source k.listed))
