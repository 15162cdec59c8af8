-- The symbols of tags, one after another.
use Rattle.std.proofs.Common.{◌≡◌, ℕ, ◌+◌, ◌<◌, suc, ◌==◌, Bool, true, false, cond, arith, List, [], ◌∷◌, ◌++◌, length, drop, drop-cons, add-one, get_or, refl, sym, ap, ◌∙◌, append_assoc, Option, Some, None}
use Rattle.std.specs.Option.{option_map}
use Rattle.std.proofs.lemmas.Bool.Decides.{nat_tests}
use Rattle.ap_symbol.specs.declared.symbol.Symbol.{Symbol}
use Rattle.ap_rules.specs.Texts.{tag_symbol, tag_symbols, parts_after, with_symbol}

-- what stands before further symbols
abbrev pub behind : List Symbol → Option (List Symbol) → Option (List Symbol)
behind word o = option_map (λ (ss : List Symbol). word ++ ss) o

pushed : (word : List Symbol) (s : Symbol) (o : Option (List Symbol)) → behind (word ++ s ∷ []) o
    ≡ behind word (with_symbol (Some s) o)
pushed word s None = refl
pushed word s (Some ss) = ap Some (append_assoc word (s ∷ []) ss)

pub at_item : {X : Type 0} (xs : List X) (i : ℕ) (x d : X) → i < length xs → x ≡ get_or xs i d →
    drop i xs ≡ x ∷ drop (i + 1) xs
at_item xs i x d lt is =
    let e : drop i xs ≡ get_or xs i d ∷ drop (suc i) xs = drop-cons xs i d lt in
    e ∙ ap (λ z. z ∷ drop (suc i) xs) (sym is) ∙ ap (λ n. x ∷ drop n xs) (sym (add-one i))

pub is_dot : (c : ℕ) → c ≡ 46 → (c == 46) ≡ true
is_dot c is = ap (λ z. z == 46) is

pub no_dot : (c : ℕ) → (c ≡ 46 → ⊥) → (c == 46) ≡ false
no_dot c is = grind (arith, nat_tests)

-- a character of a part
pub goes_on : (stars : Bool) (word : List Symbol) (part : List ℕ) (c : ℕ) (rest more : List ℕ)
    (all : Option (List Symbol)) → rest ≡ c ∷ more → (c == 46) ≡ false →
    behind word (tag_symbols stars (parts_after part rest)) ≡ all →
    behind word (tag_symbols stars (parts_after (part ++ c ∷ []) more)) ≡ all
goes_on stars word part c rest more all w e h =
    ap (λ z. behind word (tag_symbols stars
    (cond z (part ∷ parts_after [] more) (parts_after (part ++ c ∷ []) more)))) (sym e)
    ∙ ap (λ r. behind word (tag_symbols stars (parts_after part r))) (sym w) ∙ h

-- a dot behind a part
pub is_over : (stars : Bool) (word : List Symbol) (s : Symbol) (part : List ℕ) (c : ℕ)
    (rest more : List ℕ) (all : Option (List Symbol)) → rest ≡ c ∷ more → (c == 46) ≡ true →
    tag_symbol stars part ≡ Some s → behind word (tag_symbols stars (parts_after part rest)) ≡ all →
    behind (word ++ s ∷ []) (tag_symbols stars (parts_after [] more)) ≡ all
is_over stars word s part c rest more all w e is h =
    pushed word s (tag_symbols stars (parts_after [] more))
    ∙ ap (λ (o : Option Symbol). behind word
    (with_symbol o (tag_symbols stars (parts_after [] more)))) (sym is)
    ∙ ap (λ z. behind word (tag_symbols stars
    (cond z (part ∷ parts_after [] more) (parts_after (part ++ c ∷ []) more)))) (sym e)
    ∙ ap (λ r. behind word (tag_symbols stars (parts_after part r))) (sym w) ∙ h
