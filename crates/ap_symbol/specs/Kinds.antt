-- What a symbol is, what a word begins with, and the first of several words.
use Rattle.std.specs.Prelude.{Bool, true, false, ◌||◌, List, [], ◌∷◌}
use Rattle.ap_symbol.specs.declared.symbol.Symbol.{Symbol}
use Rattle.ap_symbol.specs.declared.symbol.Symbol.TheVariants.{Tag, Join, Queue, Star, At}

abbrev pub is_tag : Symbol → Bool
is_tag (Tag name) = true
is_tag _ = false

abbrev pub is_join : Symbol → Bool
is_join Join = true
is_join _ = false

abbrev pub is_queue : Symbol → Bool
is_queue Queue = true
is_queue _ = false

-- where a word may be taken apart: a join, or the queue that is moved
abbrev pub is_joint : Symbol → Bool
is_joint x = is_join x || is_queue x

abbrev pub is_mark : Symbol → Bool
is_mark Star = true
is_mark At = true
is_mark _ = false

-- a word that begins with `*` or `@` is unknown or untranslated
abbrev pub is_marked : List Symbol → Bool
is_marked [] = false
is_marked (x ∷ word) = is_mark x

-- the first of several words, as the surface of a unit: the empty word where there is none
abbrev pub first_word : List (List Symbol) → List Symbol
first_word [] = []
first_word (word ∷ words) = word
