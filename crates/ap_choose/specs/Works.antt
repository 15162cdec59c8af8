-- The choosing of readings at work.
use Rattle.std.specs.Prelude.{◌≡◌, ◌≤◌, ℕ, nat_lt, Bool, true, false, ◌||◌, List, [], ◌∷◌, ◌++◌, length, slice_index_or, if◌then◌else◌}
use Rattle.ap_stream.specs.Limits.{span_max}
use Rattle.ap_stream.specs.Steps.{bytes_of}
use Rattle.ap_stream.specs.Told.{Told}
use Rattle.ap_stream.specs.declared.item.Read.{Read}
use Rattle.ap_choose.specs.declared.forbidden.Pair.{Pair}
use Rattle.ap_choose.specs.Sentences.{units, sent_place, sentence_length, begins_unit, sentence_text, first_spelled, chosen}

-- what is seen of the work: the forbidden pairs, the items that it holds, and whether they are the
-- last
pub record Choosing : Type 0 where
  pub pairs : List Pair
  pub items : List Read
  pub finished : Bool

-- what is still to come of it where these items still come
abbrev pub choose_work : Choosing → List Read → Told
choose_work h xs = chosen h.pairs (h.items ++ xs)

abbrev pub unit_count : List Read → ℕ
unit_count items = length (units items)

-- the sentence at the front is over, whatever follows; or the item at the front begins none
abbrev pub is_over : List Read → Bool
is_over [] = false
is_over (read ∷ items) = if begins_unit (read ∷ items) then nat_lt (sent_place (read ∷ items))
    (length (read ∷ items)) || nat_lt 999 (unit_count (read ∷ items)) else true

-- how many items must be seen together: at a unit those of the sentence
abbrev pub span : List Read → ℕ
span items = if begins_unit items then sentence_length items else 0

-- how many items the first step takes
abbrev pub step_length : List Read → ℕ
step_length items = if begins_unit items then sentence_length items else 1

-- what is known of the held items: how many of them are units, whether their sentence is over, and
-- that none stands
-- behind it
pub record IsHeld (items : List Read) (count : ℕ) (over : Bool) : Type 0 where
  pub counted : count ≡ unit_count items
  pub over_is : over ≡ is_over items
  pub whole : length items ≤ step_length items

-- what the first step gives, where it takes all items: of a sentence or of one other item
abbrev pub given_text : List Pair → List Read → List ℕ
given_text pairs items = if begins_unit items then sentence_text pairs items else first_spelled
    items

-- the place of the first item
pub record IsFirstPlace (items : List Read) (place : ℕ) : Type 0 where
  pub first : Read
  pub is : first ≡ slice_index_or items 0 first
  pub place_is : place ≡ first.place

-- an item is wanted: the held ones are within the limit, and their sentence isn't over
pub record Wants (items : List Read) : Type 0 where
  pub short : bytes_of items ≤ span_max
  pub going : is_over items ≡ false
