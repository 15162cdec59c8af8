-- Where the items of an attribute stand that begin with a tag.
use Rattle.std.specs.Prelude.{◌≡◌, ℕ, ◌+◌, ◌-◌, ◌*◌, ◌%◌, ◌≤◌, ◌<◌, Bool, true, false, bytes_eq, List, ◌∷◌, length, take, drop, get_or}
use Rattle.std.specs.List.{filter}
use Rattle.ap_symbol.specs.declared.symbol.Symbol.{Symbol}
use Rattle.ap_symbol.specs.declared.symbol.Symbol.TheVariants.{Tag}
use Rattle.ap_rules.specs.declared.attribute.AttrItem.{AttrItem}
use Rattle.ap_rules.specs.declared.attribute.Stretch.{Stretch}

-- the word begins with the tag of this name
abbrev pub tag_is_first : List ℕ → List Symbol → Bool
tag_is_first name (Tag own ∷ more) = bytes_eq own name
tag_is_first name _ = false

-- the item does
abbrev pub begins_with_tag : List ℕ → AttrItem → Bool
begins_with_tag name item = tag_is_first name item.tags

-- the place of a tag's stretch, by the first byte of its name and the last one
abbrev pub place_of : List ℕ → ℕ
place_of name = (get_or name 0 0 * 8 + get_or name (length name - 1) 0) % 128

-- the empty stretch
abbrev pub nowhere : Stretch
nowhere = record { from = 0; to = 0 }

abbrev pub stretch_at : List Stretch → ℕ → Stretch
stretch_at stretches place = get_or stretches place nowhere

abbrev pub stretch_of : Stretch → List AttrItem → List AttrItem
stretch_of s items = take (s.to - s.from) (drop s.from items)

-- outside of a tag's stretch no item begins with it
abbrev pub AreStretches : List AttrItem → List Stretch → Type 0
AreStretches items stretches = (name : List ℕ) →
    filter (begins_with_tag name) (stretch_of (stretch_at stretches (place_of name)) items)
    ≡ filter (begins_with_tag name) items

-- the stretch holds the place
pub record Holds (s : Stretch) (i : ℕ) : Type 0 where
  pub from : s.from ≤ i
  pub to : i < s.to

-- it holds a further place, and all before it that it held
pub record IsStretched (at : ℕ) (old new : Stretch) : Type 0 where
  pub own : Holds new at
  pub kept : (i : ℕ) → i ≤ at → Holds old i → Holds new i

-- so does the stretch of the tag with which the word begins, and the others are as they were
pub record IsMarkedWith (at : ℕ) (word : List Symbol) (old new : List Stretch) : Type 0 where
  pub own : (name : List ℕ) → tag_is_first name word ≡ true →
      Holds (stretch_at new (place_of name)) at
  pub kept : (place i : ℕ) → i ≤ at → Holds (stretch_at old place) i →
      Holds (stretch_at new place) i
