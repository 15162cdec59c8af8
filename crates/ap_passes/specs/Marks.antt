-- Which symbols matter where a word is taken apart, and where the first of them stands.
use Rattle.std.specs.Prelude.{ℕ, eqb, suc, Bool, true, false, ◌||◌, List, [], ◌∷◌, if◌then◌else◌}
use Rattle.ap_symbol.specs.Kinds.{is_tag, is_join}
use Rattle.ap_symbol.specs.declared.symbol.Symbol.{Symbol}

-- a tag or a Join ends an invariable part
abbrev pub is_end : Symbol → Bool
is_end x = is_tag x || is_join x

-- the bytes of a Join and of a Queue
abbrev pub is_joint_byte : ℕ → Bool
is_joint_byte b = eqb b 43 || eqb b 35

-- how many symbols stand before the first that passes the test: all of them, where none does
abbrev pub until : (Symbol → Bool) → List Symbol → ℕ
until test [] = 0
until test (x ∷ word) = if test x then 0 else suc (until test word)

-- such a symbol stands at the front
abbrev pub begins_with : (Symbol → Bool) → List Symbol → Bool
begins_with test [] = false
begins_with test (x ∷ word) = test x

-- such a symbol stands at the front, or none does
abbrev pub stops_at : (Symbol → Bool) → List Symbol → Bool
stops_at test [] = true
stops_at test (x ∷ word) = test x
