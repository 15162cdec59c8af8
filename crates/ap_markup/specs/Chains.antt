-- The sentences on pieces, for the cuts that the code is proved to compute.
use Rattle.std.specs.Prelude.{◌≡◌, ◌⊎◌, ℕ, List, [], ◌∷◌, ◌++◌}
use Rattle.ap_markup.specs.Documents.{Placed, SpellsDocument, BeginsDocument}
use Rattle.ap_markup.specs.Pieces.{Shape}
use Rattle.ap_markup.specs.Spelling.{Cut, Over, Bad, Then}
use Rattle.ap_markup.specs.Tree.{Parts}

-- the text is cut into these pieces, and then so
abbrev pub chain : List Placed → Cut → Cut
chain [] rest = rest
chain (p ∷ ps) rest = Then p.0 p.1 (chain ps rest)

-- What is wrong at this place, behind these pieces: none stands there; or the text is over, and
-- they are no document; or no document goes on with the piece that stands there.
abbrev pub IsWrongBehind : List ℕ → List Placed → Cut → ℕ → Type 0
IsWrongBehind text ps c at =
    (c ≡ chain ps (Bad at))
    ⊎ ((c ≡ chain ps (Over at)) × ((root : Parts) → SpellsDocument text ps root → ⊥))
    ⊎ ((shape : Shape) × (more : Cut) × (c ≡ chain ps (Then at shape more))
    × (BeginsDocument text (ps ++ (at, shape) ∷ []) → ⊥))

-- The first wrong piece: a document begins with those before it, and something is wrong at its
-- place.
abbrev pub IsFirstWrong : List ℕ → Cut → ℕ → Type 0
IsFirstWrong text c at = (ps : List Placed) × BeginsDocument text ps × IsWrongBehind text ps c at
