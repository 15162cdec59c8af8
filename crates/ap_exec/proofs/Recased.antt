-- Letters put into a case.
use Rattle.std.proofs.Common.{◌≡◌, ℕ, Bool, true, false, List, [], ◌∷◌, refl, sym, ap, ◌∙◌}
use Rattle.ap_symbol.specs.Case.{lower_lem, upper_lem}
use Rattle.ap_symbol.specs.Recasing.{each_letter, recase_lem}
use Rattle.ap_symbol.specs.Words.{is_white}
use Rattle.ap_symbol.specs.declared.recasing.Case.TheVariants.{Low, First, All}
use Rattle.ap_symbol.specs.declared.symbol.Symbol.{Symbol}
use Rattle.ap_symbol.specs.declared.symbol.Symbol.TheVariants.{Letter, Tag, Blank, Join, Queue, Alarm, Star, At}
use Rattle.ap_symbol.proofs.Partners.{upper_lower, lower_white, upper_white}
use Rattle.ap_exec.specs.Recased.{letter_by, recased_by}

pub white_stays : (up : Bool) (c : ℕ) → is_white (letter_by up c) ≡ is_white c
white_stays true c = upper_white c
white_stays false c = lower_white c

each_is : (up : Bool) (word : List Symbol) → recased_by up up word
    ≡ each_letter (letter_by up) word
each_is up [] = refl
each_is up (Letter c ∷ word) = ap (λ w. Letter (letter_by up c) ∷ w) (each_is up word)
each_is up (Tag name ∷ word) = ap (λ w. Tag name ∷ w) (each_is up word)
each_is up (Blank ∷ word) = ap (λ w. Blank ∷ w) (each_is up word)
each_is up (Join ∷ word) = ap (λ w. Join ∷ w) (each_is up word)
each_is up (Queue ∷ word) = ap (λ w. Queue ∷ w) (each_is up word)
each_is up (Alarm ∷ word) = ap (λ w. Alarm ∷ w) (each_is up word)
each_is up (Star ∷ word) = ap (λ w. Star ∷ w) (each_is up word)
each_is up (At ∷ word) = ap (λ w. At ∷ w) (each_is up word)

pub low_is : (word : List Symbol) → recased_by false false word ≡ recase_lem Low word
low_is word = each_is false word

pub all_is : (word : List Symbol) → recased_by true true word ≡ recase_lem All word
all_is word = each_is true word

pub first_is : (word : List Symbol) → recased_by true false word ≡ recase_lem First word
first_is [] = refl
first_is (Letter c ∷ word) =
    ap (λ d. Letter d ∷ recased_by false false word) (sym (upper_lower c))
    ∙ ap (λ w. Letter (upper_lem (lower_lem c)) ∷ w) (low_is word)
first_is (Tag name ∷ word) = ap (λ w. Tag name ∷ w) (first_is word)
first_is (Blank ∷ word) = ap (λ w. Blank ∷ w) (first_is word)
first_is (Join ∷ word) = ap (λ w. Join ∷ w) (first_is word)
first_is (Queue ∷ word) = ap (λ w. Queue ∷ w) (first_is word)
first_is (Alarm ∷ word) = ap (λ w. Alarm ∷ w) (first_is word)
first_is (Star ∷ word) = ap (λ w. Star ∷ w) (first_is word)
first_is (At ∷ word) = ap (λ w. At ∷ w) (first_is word)
