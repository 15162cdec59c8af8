-- Words joined one after another are those that aren't empty, joined by Joins.
use Rattle.std.proofs.Common.{◌≡◌, List, [], ◌∷◌, ◌++◌, refl, sym, ◌∙◌, append_assoc, append-nil}
use Rattle.std.specs.List.{flat_map}
use Rattle.ap_symbol.specs.declared.symbol.Symbol.{Symbol}
use Rattle.ap_symbol.specs.declared.symbol.Symbol.TheVariants.{Join}
use Rattle.ap_exec.specs.Compounds.{all_joined}
use Rattle.ap_exec.specs.Pieces.{filled, behind_join, compound}

joined_behind : (t : Symbol) (made : List Symbol) (words : List (List Symbol)) →
    all_joined (t ∷ made) words ≡ (t ∷ made) ++ flat_map behind_join (filled words)
joined_behind t made [] = sym (append-nil (t ∷ made))
joined_behind t made ([] ∷ words) = joined_behind t made words
joined_behind t made ((s ∷ word) ∷ words) =
    joined_behind t (made ++ Join ∷ s ∷ word) words
    ∙ append_assoc (t ∷ made) (Join ∷ s ∷ word) (flat_map behind_join (filled words))

pub all_joined_are : (words : List (List Symbol)) → all_joined [] words ≡ compound words
all_joined_are [] = refl
all_joined_are ([] ∷ words) = all_joined_are words
all_joined_are ((s ∷ word) ∷ words) = joined_behind s word words
