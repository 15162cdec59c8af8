use Rattle.std.proofs.Common.{◌≡◌, ℕ, List, [], ◌∷◌, refl, sym, ap, ◌∙◌}
use Rattle.ap_symbol.specs.declared.symbol.Symbol.{Symbol}
use Rattle.ap_symbol.specs.declared.symbol.Symbol.TheVariants.{Letter, Tag, Blank, Join, Queue, Alarm, Star, At}
use Rattle.ap_symbol.specs.declared.recasing.Change.{Change}
use Rattle.ap_symbol.specs.declared.recasing.Change.TheVariants.{Keep, Lower, Upper}
use Rattle.ap_symbol.specs.Case.{lower_lem, upper_lem}
use Rattle.ap_symbol.specs.Words.{is_white}
use Rattle.ap_symbol.specs.Recasing.{each_letter, first_letter}
use Rattle.ap_symbol.specs.Changes.{change_lem, changed_lem}
use Rattle.ap_symbol.proofs.Partners.{upper_lower, lower_white, upper_white}

pub change_white : (change : Change) (c : ℕ) → is_white (change_lem change c) ≡ is_white c
change_white Keep c = refl
change_white Lower c = lower_white c
change_white Upper c = upper_white c

-- one change of all letters
pub changed_each : (change : Change) (word : List Symbol) → changed_lem change change word
    ≡ each_letter (change_lem change) word
changed_each change [] = refl
changed_each change (Letter c ∷ word) =
    ap (λ w. Letter (change_lem change c) ∷ w) (changed_each change word)
changed_each change (Tag name ∷ word) = ap (λ w. Tag name ∷ w) (changed_each change word)
changed_each change (Blank ∷ word) = ap (λ w. Blank ∷ w) (changed_each change word)
changed_each change (Join ∷ word) = ap (λ w. Join ∷ w) (changed_each change word)
changed_each change (Queue ∷ word) = ap (λ w. Queue ∷ w) (changed_each change word)
changed_each change (Alarm ∷ word) = ap (λ w. Alarm ∷ w) (changed_each change word)
changed_each change (Star ∷ word) = ap (λ w. Star ∷ w) (changed_each change word)
changed_each change (At ∷ word) = ap (λ w. At ∷ w) (changed_each change word)

-- the first letter in upper case, and each letter behind it changed
pub changed_first : (rest : Change) → ((c : ℕ) → upper_lem (change_lem rest c) ≡ upper_lem c) →
    (word : List Symbol) → changed_lem Upper rest word
    ≡ first_letter upper_lem (each_letter (change_lem rest) word)
changed_first rest same [] = refl
changed_first rest same (Letter c ∷ word) =
    ap (λ d. Letter d ∷ changed_lem rest rest word) (sym (same c))
    ∙ ap (λ w. Letter (upper_lem (change_lem rest c)) ∷ w) (changed_each rest word)
changed_first rest same (Tag name ∷ word) = ap (λ w. Tag name ∷ w) (changed_first rest same word)
changed_first rest same (Blank ∷ word) = ap (λ w. Blank ∷ w) (changed_first rest same word)
changed_first rest same (Join ∷ word) = ap (λ w. Join ∷ w) (changed_first rest same word)
changed_first rest same (Queue ∷ word) = ap (λ w. Queue ∷ w) (changed_first rest same word)
changed_first rest same (Alarm ∷ word) = ap (λ w. Alarm ∷ w) (changed_first rest same word)
changed_first rest same (Star ∷ word) = ap (λ w. Star ∷ w) (changed_first rest same word)
changed_first rest same (At ∷ word) = ap (λ w. At ∷ w) (changed_first rest same word)

-- letters that are all kept
pub kept : (word : List Symbol) → each_letter (change_lem Keep) word ≡ word
kept [] = refl
kept (Letter c ∷ word) = ap (λ w. Letter c ∷ w) (kept word)
kept (Tag name ∷ word) = ap (λ w. Tag name ∷ w) (kept word)
kept (Blank ∷ word) = ap (λ w. Blank ∷ w) (kept word)
kept (Join ∷ word) = ap (λ w. Join ∷ w) (kept word)
kept (Queue ∷ word) = ap (λ w. Queue ∷ w) (kept word)
kept (Alarm ∷ word) = ap (λ w. Alarm ∷ w) (kept word)
kept (Star ∷ word) = ap (λ w. Star ∷ w) (kept word)
kept (At ∷ word) = ap (λ w. At ∷ w) (kept word)

pub capital_alone : (word : List Symbol) → changed_lem Upper Keep word ≡ first_letter upper_lem word
capital_alone word = changed_first Keep (λ c. refl) word ∙ ap (first_letter upper_lem) (kept word)

pub capital_then_lower : (word : List Symbol) → changed_lem Upper Lower word
    ≡ first_letter upper_lem (each_letter lower_lem word)
capital_then_lower word = changed_first Lower upper_lower word
