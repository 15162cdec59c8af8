-- The superblanks of a text, in order. The text is cut as a reader cuts it, but an item may have
-- any number of bytes.
use Rattle.std.specs.Prelude.{ℕ, zero, suc, pred, List, [], ◌∷◌, take, cond, eqb, false}
use Rattle.std.specs.List.{flat_map}
use Rattle.ap_stream.specs.Types.{Dialect}
use Rattle.ap_stream.specs.Items.{Inner, Item}
use Rattle.ap_stream.specs.Blanks.{Close, Closed, closing}
use Rattle.ap_stream.specs.Reading.{First, Needs, Whole, Faulty, Last, Complete, Broken, first, last}

abbrev pub closed_super : List ℕ → Close → (ℕ → List (List ℕ)) → List (List ℕ)
closed_super bytes (Closed n) more = (91 ∷ take n bytes) ∷ more n
closed_super bytes close more = []

-- the superblanks of a blank, behind so many bytes
unfoldable pub blank_supers : ℕ → List ℕ → List (List ℕ)
blank_supers skip [] = []
blank_supers (suc skip) (b ∷ bs) = blank_supers skip bs
blank_supers zero (b ∷ bs) =
    cond (eqb b 91) (closed_super bs (closing false 0 bs) (λ n. blank_supers n bs))
    (blank_supers 0 bs)

abbrev pub inner_supers : Inner → List (List ℕ)
inner_supers (Inner.Unit words) = []
inner_supers (Inner.Blank bytes) = blank_supers 0 bytes

-- inside a chunk too
abbrev pub item_supers : Item → List (List ℕ)
item_supers (Item.Blank bytes) = blank_supers 0 bytes
item_supers (Item.Chunk c) = flat_map inner_supers c.content
item_supers thing = []

abbrev pub last_item : Last → List Item
last_item (Complete item) = item ∷ []
last_item (Broken kind) = []

abbrev pub cut_by : List ℕ → First → (ℕ → List Item) → List Item
cut_by bytes Needs more = last_item (last bytes)
cut_by bytes (Whole item n) more = item ∷ more (pred n)
cut_by bytes (Faulty kind) more = []

-- the items of a text behind so many bytes, each of any size
unfoldable pub items_of : Dialect → ℕ → List ℕ → List Item
items_of dialect skip [] = []
items_of dialect (suc skip) (b ∷ bs) = items_of dialect skip bs
items_of dialect zero (b ∷ bs) =
    cut_by (b ∷ bs) (first dialect (b ∷ bs)) (λ n. items_of dialect n bs)

abbrev pub supers : Dialect → List ℕ → List (List ℕ)
supers dialect text = flat_map item_supers (items_of dialect 0 text)
