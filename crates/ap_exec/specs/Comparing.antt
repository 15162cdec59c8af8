-- How words are compared, with all letters in lower case where case doesn't count.
use Rattle.std.specs.Prelude.{◌-◌, Bool, true, false, ◌&&◌, ◌||◌, nat_le, List, [], ◌∷◌, length, drop}
use Rattle.ap_symbol.specs.Case.{lower_lem}
use Rattle.ap_symbol.specs.Fitting.{fits_lem}
use Rattle.ap_symbol.specs.Recasing.{change_letter}
use Rattle.ap_symbol.specs.declared.symbol.Symbol.{Symbol}
use Rattle.ap_exec.specs.declared.comparing.Way.{Way}
use Rattle.ap_exec.specs.declared.comparing.Way.TheVariants.{Equals, Begins, Ends, Contains}

abbrev pub same_symbols : Bool → Symbol → Symbol → Bool
same_symbols false s t = fits_lem true s t
same_symbols true s t = fits_lem true (change_letter lower_lem s) (change_letter lower_lem t)

abbrev pub same_words : Bool → List Symbol → List Symbol → Bool
same_words caseless [] [] = true
same_words caseless [] (t ∷ b) = false
same_words caseless (s ∷ a) [] = false
same_words caseless (s ∷ a) (t ∷ b) = same_symbols caseless s t && same_words caseless a b

-- the word begins with the part
abbrev pub is_begun_by : Bool → List Symbol → List Symbol → Bool
is_begun_by caseless [] word = true
is_begun_by caseless (s ∷ part) [] = false
is_begun_by caseless (s ∷ part) (t ∷ word) = same_symbols caseless s t
    && is_begun_by caseless part word

-- it ends with the part
abbrev pub is_ended_by : Bool → List Symbol → List Symbol → Bool
is_ended_by caseless part word = nat_le (length part) (length word)
    && same_words caseless part (drop (length word - length part) word)

-- it holds the part at some place
abbrev pub holds_part : Bool → List Symbol → List Symbol → Bool
holds_part caseless part [] = is_begun_by caseless part []
holds_part caseless part (s ∷ word) = is_begun_by caseless part (s ∷ word)
    || holds_part caseless part word

-- a word compared with another
abbrev pub compared : Way → Bool → List Symbol → List Symbol → Bool
compared Equals caseless word other = same_words caseless word other
compared Begins caseless word other = is_begun_by caseless other word
compared Ends caseless word other = is_ended_by caseless other word
compared Contains caseless word other = holds_part caseless other word

-- it compares so with some item
abbrev pub compared_some : Way → Bool → List Symbol → List (List Symbol) → Bool
compared_some way caseless word [] = false
compared_some way caseless word (item ∷ items) = compared way caseless word item
    || compared_some way caseless word items
