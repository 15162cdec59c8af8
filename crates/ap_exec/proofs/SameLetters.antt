-- Comparing symbol by symbol.
use Rattle.std.proofs.Common.{◌≡◌, ◌≢◌, ℕ, suc, ◌+◌, ◌<◌, Bool, true, false, List, [], ◌∷◌, length, map, get_or, drop, ◌||◌, ◌==◌, refl, ap, sym, ◌∙◌}
use Rattle.std.proofs.lemmas.Bool.{and_right}
use Rattle.std.proofs.lemmas.List.{at_drop_more}
use Rattle.ap_rules.specs.declared.rules.ListItem.{ListItem}
use Rattle.ap_symbol.specs.Fitting.{fits_lem}
use Rattle.ap_symbol.specs.declared.symbol.Symbol.{Symbol}
use Rattle.ap_symbol.specs.declared.symbol.Symbol.TheVariants.{Letter}
use Rattle.ap_exec.specs.Comparing.{same_symbols, same_words, compared_some}
use Rattle.ap_exec.specs.Conditions.{word_in}
use Rattle.ap_exec.specs.declared.comparing.Way.TheVariants.{Equals}

or_false : (b : Bool) → (b || false) ≡ b
or_false true = refl
or_false false = refl

pub letters_same : (a b : ℕ) → fits_lem true (Letter a) (Letter b) ≡ (a == b)
letters_same a b = or_false (a == b)

-- words of different lengths are different
pub other_lengths : (caseless : Bool) (a b : List Symbol) → length a ≢ length b →
    same_words caseless a b ≡ false
other_lengths caseless [] [] other = absurd (other refl)
other_lengths caseless [] (t ∷ b) other = refl
other_lengths caseless (s ∷ a) [] other = refl
other_lengths caseless (s ∷ a) (t ∷ b) other = and_right (same_symbols caseless s t)
    (same_words caseless a b) (other_lengths caseless a b (λ e. other (ap suc e)))

-- an item that is another word is passed over
pub passed_over : (caseless : Bool) (word : List Symbol) (items : List ListItem) (at : ℕ)
    (item : ListItem) → at < length items → item ≡ get_or items at item →
    same_words caseless word item.v ≡ false →
    compared_some Equals caseless word (map word_in (drop at items))
    ≡ compared_some Equals caseless word (map word_in items) →
    compared_some Equals caseless word (map word_in (drop (at + 1) items))
    ≡ compared_some Equals caseless word (map word_in items)
passed_over caseless word items at item within is other before =
    sym (ap (λ (b : Bool). b || rest) (ap (λ (i : ListItem). same_words caseless word i.v) (sym is)
    ∙ other)) ∙ sym (at_drop_more some items at item within) ∙ before
  where
    some : List ListItem → Bool
    some xs = compared_some Equals caseless word (map word_in xs)

    rest : Bool
    rest = some (drop (at + 1) items)
