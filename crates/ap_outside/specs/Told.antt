use Rattle.std.specs.Prelude.{◌≡◌, ℕ, ◌<◌, ◌≤◌, List, [], ◌++◌, Option, Some, None, take, length, if◌then◌else◌}
use Rattle.std.specs.Option.{IfSome, option_map}
use Rattle.std.specs.Str.{bytes_eq}

-- The piece was the front of what was left.
abbrev pub Takes : Option (List ℕ) → Option (List ℕ) → List ℕ → Type 0
Takes old new piece = old ≡ option_map (λ rest. piece ++ rest) new

abbrev pub IsEnd : Option (List ℕ) → Type 0
IsEnd left = IfSome left (λ rest. rest ≡ [])

-- The piece now stands behind what was written.
abbrev pub Puts : Option (List ℕ) → Option (List ℕ) → List ℕ → Type 0
Puts old new piece = new ≡ option_map (λ written. written ++ piece) old

-- A front of the piece does.
abbrev pub PutsFront : Option (List ℕ) → Option (List ℕ) → List ℕ → Type 0
PutsFront old new piece = (count : ℕ) × Puts old new (take count piece)

-- The file has these bytes, and they are not too many.
abbrev pub Loads : Option (List ℕ → Option (List ℕ)) → List ℕ → ℕ → List ℕ → Type 0
Loads contents name most bytes =
    IfSome contents (λ at. (at name ≡ Some bytes) × (length bytes ≤ most))

abbrev pub IsTooLong : Option (List ℕ → Option (List ℕ)) → List ℕ → ℕ → Type 0
IsTooLong contents name most =
    IfSome contents (λ at. IfSome (at name) (λ bytes. most < length bytes) × ((at name ≡ None) → ⊥))

-- The contents with this under one name.
abbrev pub with_held : (List ℕ → Option (List ℕ)) → List ℕ → Option (List ℕ) → List ℕ →
    Option (List ℕ)
with_held at name held other = if bytes_eq name other then held else at other

-- The file has these bytes now, and every other holds what it held.
abbrev pub Stores : Option (List ℕ → Option (List ℕ)) → Option (List ℕ → Option (List ℕ)) → List ℕ →
    List ℕ → Type 0
Stores old new name bytes = new ≡ option_map (λ at. with_held at name (Some bytes)) old

-- That file may hold anything, and every other holds what it held.
abbrev pub StoresSome : Option (List ℕ → Option (List ℕ)) → Option (List ℕ → Option (List ℕ)) →
    List ℕ → Type 0
StoresSome old new name = (held : Option (List ℕ))
    × (new ≡ option_map (λ at. with_held at name held) old)
