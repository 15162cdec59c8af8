use Rattle.std.specs.Prelude.{◌≡◌, ℕ, Bool, true, false, not, ◌&&◌, IsTrue, List, [], ◌∷◌, ◌++◌, Option, Some, None, map}
use Rattle.std.specs.Option.{option_to_list}
use Rattle.std.specs.List.{flat_map}
use Rattle.ap_symbol.specs.declared.symbol.Symbol.{Symbol}
use Rattle.ap_symbol.specs.Lists.{IsIn, IsAt}
use Rattle.ap_dix.specs.Forms.{Form}
use Rattle.ap_dix.specs.Language.{Lang}
use Rattle.ap_dix.specs.declared.dictionary.Dictionary.{Dictionary}
use Rattle.ap_dix.specs.declared.dictionary.Direction.{Direction}
use Rattle.ap_dix.specs.declared.dictionary.Direction.TheVariants.{Lr, Rl}
use Rattle.ap_dix.specs.declared.dictionary.Entry.{Entry}
use Rattle.ap_dix.specs.declared.dictionary.EntryPart.{EntryPart}
use Rattle.ap_dix.specs.declared.dictionary.EntryPart.TheVariants.{Identity, Pair, Paradigm, Expression}
use Rattle.ap_dix.specs.declared.dictionary.Kind.{Kind}
use Rattle.ap_dix.specs.declared.dictionary.Pardef.{Pardef}
use Rattle.ap_dix.specs.declared.dictionary.Section.{Section}
use Rattle.ap_dix.specs.declared.dictionary.Side.{Side}
use Rattle.ap_dix.specs.declared.dictionary.Side.TheVariants.{Both, LrOnly, RlOnly}

-- a label: a left symbol and a right symbol, or one of them
pub record Label : Type 0 where
  pub left : Option Symbol
  pub right : Option Symbol

abbrev pub label : Option Symbol → Option Symbol → Label
label left right = record { left = left; right = right }

-- the symbols of two words position by position, the longer word's rest with nothing
abbrev pub paired : List Symbol → List Symbol → List Label
paired [] [] = []
paired (a ∷ more) [] = label (Some a) None ∷ paired more []
paired [] (b ∷ bs) = label None (Some b) ∷ paired [] bs
paired (a ∷ more) (b ∷ bs) = label (Some a) (Some b) ∷ paired more bs

-- the label with its sides in each other's place
abbrev pub swapped : Label → Label
swapped l = label l.right l.left

-- the labels as they stand in that direction
abbrev pub facing : Direction → List Label → List Label
facing Lr labels = labels
facing Rl labels = map swapped labels

-- the symbols on the left of the labels, in order
abbrev pub left_word : List Label → List Symbol
left_word labels = flat_map (λ l. option_to_list l.left) labels

-- the symbols on the right of the labels, in order
abbrev pub right_word : List Label → List Symbol
right_word labels = flat_map (λ l. option_to_list l.right) labels

-- the side lets an entry be kept in the direction
abbrev pub takes : Side → Direction → Bool
takes Both direction = true
takes LrOnly Lr = true
takes LrOnly Rl = false
takes RlOnly Lr = false
takes RlOnly Rl = true

-- the entry is kept in the direction: it is not ignored, and its side lets it
abbrev pub is_kept : Direction → Entry → Bool
is_kept direction entry = not entry.ignored && takes entry.side direction

-- The labels that the parts of an entry derive in a direction.
pub data Derives (d : Dictionary) (direction : Direction) : List EntryPart →
    List Label → Type 0 where
  nothing : Derives d direction [] []
  identity : {word : List Symbol} {parts : List EntryPart} {labels whole : List Label} →
      Derives d direction parts labels → whole ≡ facing direction (paired word word) ++ labels →
      Derives d direction (Identity word ∷ parts) whole
  pair : {left right : List Symbol} {parts : List EntryPart} {labels whole : List Label} →
      Derives d direction parts labels → whole ≡ facing direction (paired left right) ++ labels →
      Derives d direction (Pair left right ∷ parts) whole
  paradigm : {n : ℕ} {parts : List EntryPart} {own labels whole : List Label} (pardef : Pardef)
      (entry : Entry) → IsAt d.pardefs n pardef → IsIn entry pardef.entries →
      IsTrue (is_kept direction entry)
      → Derives d direction entry.parts own → Derives d direction parts labels →
      whole ≡ own ++ labels → Derives d direction (Paradigm n ∷ parts) whole
  expression : {e : Form} {text : List ℕ} {parts : List EntryPart} {labels whole : List Label}
      (string : List Symbol) → Lang e string → Derives d direction parts labels →
      whole ≡ facing direction (paired string string) ++ labels →
      Derives d direction (Expression e text ∷ parts) whole

-- Some kept entry of a section of that kind derives the labels.
pub record Strings (d : Dictionary) (direction : Direction) (kind : Kind)
    (labels : List Label) : Type 0 where
  pub section : Section
  pub entry : Entry
  pub listed : IsIn section d.sections
  pub of_kind : section.kind ≡ kind
  pub entered : IsIn entry section.entries
  pub kept : IsTrue (is_kept direction entry)
  pub derived : Derives d direction entry.parts labels

-- Some such labels have these left and right words.
pub record Relates (d : Dictionary) (direction : Direction) (kind : Kind)
    (left right : List Symbol) : Type 0 where
  pub labels : List Label
  pub string : Strings d direction kind labels
  pub left_is : left_word labels ≡ left
  pub right_is : right_word labels ≡ right
