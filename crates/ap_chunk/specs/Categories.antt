-- Which words a category takes (the Apertium transfer format).
use Rattle.std.specs.Prelude.{◌≡◌, ◌<◌, true, false, List, [], ◌∷◌, ◌++◌, length, Option, Some, None, IsTrue}
use Rattle.std.specs.List.{list_all, list_any}
use Rattle.ap_symbol.specs.declared.symbol.Symbol.{Symbol}
use Rattle.ap_symbol.specs.declared.symbol.Symbol.TheVariants.{Star}
use Rattle.ap_symbol.specs.Fitting.{lists_fit}
use Rattle.ap_symbol.specs.Kinds.{is_tag, is_marked}
use Rattle.ap_symbol.specs.Lists.{IsIn}
use Rattle.ap_rules.specs.declared.rules.CatItem.{CatItem}
use Rattle.ap_rules.specs.declared.rules.DefCat.{DefCat}
use Rattle.ap_rules.specs.declared.rules.Form.{Form}
use Rattle.ap_rules.specs.declared.rules.Form.TheVariants.{Transfer, Interchunk, Postchunk}

-- a word is its lemma, which is what stands before its first tag, and then tags alone
pub record IsDivided (word lemma tags : List Symbol) : Type 0 where
  pub whole : word ≡ lemma ++ tags
  pub before : list_any is_tag lemma ≡ false
  pub behind : list_all is_tag tags ≡ true

-- The parts of an item take these tags, all of them and in order: a star takes one or more, any
-- other part takes one that is equal to it.
abbrev pub TakeTags : List Symbol → List Symbol → Type 0
TakeTags [] tags = tags ≡ []
TakeTags (Star ∷ parts) tags = (taken rest : List Symbol) × (tags ≡ taken ++ rest)
    × (0 < length taken) × TakeTags parts rest
TakeTags (part ∷ parts) tags = (rest : List Symbol) × (tags ≡ part ∷ rest) × TakeTags parts rest

-- upper case of the word fits lower case of the item
abbrev pub FitsLemma : Option (List Symbol) → List Symbol → Type 0
FitsLemma None lemma = Unit {0}
FitsLemma (Some wanted) lemma = IsTrue (lists_fit false wanted lemma)

-- an item of transfer or interchunk: its tags are the word's, and its lemma, where it is given,
-- fits the word's
pub record TakesTagged (item : CatItem) (lemma tags : List Symbol) : Type 0 where
  pub fit : FitsLemma item.lemma lemma
  pub taken : TakeTags item.tags tags

-- in postchunk the item's name fits the lemma, and the tags count for nothing
abbrev pub ItemTakes : Form → CatItem → List Symbol → List Symbol → Type 0
ItemTakes Transfer item lemma tags = TakesTagged item lemma tags
ItemTakes Interchunk item lemma tags = TakesTagged item lemma tags
ItemTakes Postchunk item lemma tags = IsTrue (lists_fit false item.name lemma)

-- A category takes a word where one of its items does. No category takes a word that begins with
-- `*` or `@`, or one that has anything else than tags behind its first tag.
pub record Takes (form : Form) (category : DefCat) (word : List Symbol) : Type 0 where
  pub unmarked : is_marked word ≡ false
  pub lemma : List Symbol
  pub tags : List Symbol
  pub divided : IsDivided word lemma tags
  pub item : CatItem
  pub «in» : IsIn item category.items
  pub taken : ItemTakes form item lemma tags
