-- Which words a category takes, as a test. Places are counted from 0.
use Rattle.std.specs.Prelude.{ℕ, suc, Bool, true, false, ◌&&◌, ◌||◌, List, [], ◌∷◌, take, drop, map, Option, Some, None, if◌then◌else◌}
use Rattle.std.specs.List.{list_all, list_any}
use Rattle.ap_symbol.specs.Kinds.{is_tag, is_marked}
use Rattle.ap_symbol.specs.declared.symbol.Symbol.{Symbol}
use Rattle.ap_symbol.specs.declared.symbol.Symbol.TheVariants.{Star}
use Rattle.ap_symbol.specs.Fitting.{fits_lem, lists_fit}
use Rattle.ap_rules.specs.declared.rules.CatItem.{CatItem}
use Rattle.ap_rules.specs.declared.rules.DefCat.{DefCat}
use Rattle.ap_rules.specs.declared.rules.Rules.{Rules}
use Rattle.ap_rules.specs.declared.rules.Form.{Form}
use Rattle.ap_rules.specs.declared.rules.Form.TheVariants.{Transfer, Interchunk, Postchunk}

-- the place of the first tag; the word's length where there is none
abbrev pub first_tag : List Symbol → ℕ
first_tag [] = 0
first_tag (x ∷ word) = if is_tag x then 0 else suc (first_tag word)

-- where the tags begin, if tags alone stand there and a category may take the word
abbrev pub division : List Symbol → Option ℕ
division word =
    if is_marked word then None
    else (if list_all is_tag (drop (first_tag word) word) then Some (first_tag word) else None)

-- what is behind the first passes, or what is behind more of them
abbrev pub some_later : (List Symbol → Bool) → List Symbol → Bool
some_later test [] = false
some_later test (x ∷ tags) = test tags || some_later test tags

abbrev pub one_and : Symbol → (List Symbol → Bool) → List Symbol → Bool
one_and part test [] = false
one_and part test (x ∷ tags) = fits_lem true part x && test tags

abbrev pub is_none : List Symbol → Bool
is_none [] = true
is_none (x ∷ tags) = false

abbrev pub take_tags : List Symbol → List Symbol → Bool
take_tags [] tags = is_none tags
take_tags (Star ∷ parts) tags = some_later (take_tags parts) tags
take_tags (part ∷ parts) tags = one_and part (take_tags parts) tags

abbrev pub fits_lemma : Option (List Symbol) → List Symbol → Bool
fits_lemma None lemma = true
fits_lemma (Some wanted) lemma = lists_fit false wanted lemma

abbrev pub takes_tagged : CatItem → List Symbol → List Symbol → Bool
takes_tagged item lemma tags = fits_lemma item.lemma lemma && take_tags item.tags tags

abbrev pub item_takes : Form → CatItem → List Symbol → List Symbol → Bool
item_takes Transfer item lemma tags = takes_tagged item lemma tags
item_takes Interchunk item lemma tags = takes_tagged item lemma tags
item_takes Postchunk item lemma tags = lists_fit false item.name lemma

abbrev pub takes_at : Form → DefCat → List Symbol → Option ℕ → Bool
takes_at form category word None = false
takes_at form category word (Some at) =
    list_any (λ item. item_takes form item (take at word) (drop at word)) category.items

-- the category takes the word
abbrev pub takes : Form → DefCat → List Symbol → Bool
takes form category word = takes_at form category word (division word)

-- for each category of the rules, in order, whether it takes the word
abbrev pub row_of : Rules → List Symbol → List Bool
row_of rules word = map (λ category. takes rules.form category word) rules.categories
