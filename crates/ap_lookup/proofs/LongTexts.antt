-- Where heads or forms have too many bytes, so has what is written of them.
use Rattle.std.specs.Prelude.{◌≡◌, ℕ, suc, ◌+◌, ◌<◌, ◌≤◌, Bool, false, List, [], ◌∷◌, ◌++◌, length, map, refl}
use Rattle.std.proofs.Common.{arith, ap, ◌∙◌}
use Rattle.std.specs.List.{flat_map}
use Rattle.std.proofs.lemmas.List.{length-append}
use Rattle.std.proofs.lemmas.List.Concat.{length-flat_map}
use Rattle.std.proofs.lemmas.List.Sums.{sum_by-cons}
use Rattle.std.proofs.lemmas.Grind.{flat_map-append}
use Rattle.ap_symbol.specs.Kinds.{is_marked}
use Rattle.ap_symbol.specs.Rendering.{rendering, symbol_bytes}
use Rattle.ap_symbol.specs.declared.symbol.Symbol.{Symbol}
use Rattle.ap_stream.specs.Limits.{unit_max}
use Rattle.ap_stream.specs.Spelling.{slashed, joined, unit_bytes}
use Rattle.ap_live.specs.Lexicon.{Lexicon}
use Rattle.ap_live.specs.Readings.{parted_size}
use Rattle.ap_lookup.specs.Lookup.{translations_by, translations, formed, generated}
use Rattle.ap_lookup.specs.Translating.{translated}
use Rattle.ap_lookup.specs.Translation.{Translated, forms_of, translation}
use Rattle.ap_lookup.specs.declared.generation_writer.Marks.{Marks}
use Rattle.ap_lookup.specs.declared.translation.Translation.{Translation}

-- words with a slash before each
slashed_size : (words : List (List Symbol)) → length (flat_map slashed words) ≡ parted_size words
slashed_size words = length-flat_map slashed words

parted_more : (word : List Symbol) (words : List (List Symbol)) →
    parted_size (word ∷ words) ≡ suc (length (rendering word)) + parted_size words
parted_more word words = sum_by-cons (λ (z : List Symbol). suc (length (rendering z))) word words

-- heads are no longer where symbols follow each
followed_longer : (left : List Symbol) (heads : List (List Symbol)) →
    parted_size heads ≤ length (flat_map slashed (map (λ h. h ++ left) heads))
followed_longer left [] = omega arith
followed_longer left (head ∷ heads) =
    let whole : length (rendering (head ++ left))
    ≡ length (rendering head) + length (rendering left) =
    ap length (flat_map-append symbol_bytes head left)
    ∙ length-append (rendering head) (rendering left) in
    let first : length (slashed (head ++ left)) ≡ suc (length (rendering (head ++ left))) = refl in
    omega (
      arith,
      parted_more head heads,
      whole,
      first,
      length-append (slashed (head ++ left)) (flat_map slashed (map (λ h. h ++ left) heads)),
      followed_longer left heads,
    )

by_longer : (word : List Symbol) (heads : List (List Symbol)) (left : List Symbol) →
    unit_max < parted_size heads →
    unit_max < length (flat_map slashed (translations_by word heads left))
by_longer word [] left h = absurd (omega arith)
by_longer word (head ∷ heads) left h =
    omega (arith, h, followed_longer left (head ∷ heads))

-- the translations of a word whose heads have too many bytes
pub translations_long : (lexicon : Lexicon) (sensitive : Bool) (word : List Symbol) →
    is_marked word ≡ false → unit_max < parted_size (translation lexicon sensitive word).heads →
    unit_max < length (flat_map slashed (translations lexicon sensitive word))
translations_long lexicon sensitive word m h =
    rw m (by_longer word (translation lexicon sensitive word).heads
    (translation lexicon sensitive word).left h)

-- what is looked up of a word that isn't marked is its translations
pub translations_looked_up : (lexicon : Lexicon) (sensitive : Bool) (word : List Symbol)
    (made : Translation) → is_marked word ≡ false →
    translated made ≡ translation lexicon sensitive word →
    translations_by word made.heads made.rest ≡ translations lexicon sensitive word
translations_looked_up lexicon sensitive word made m e =
    rw m (ap (λ (t : Translated). translations_by word t.heads t.left) e)

-- forms, joined by one slash less than there are forms
formed_long : (m : Marks) (word : List Symbol) (forms : List (List Symbol)) →
    unit_max + 1 < parted_size forms → unit_max < length (formed m word forms)
formed_long m word [] h = absurd (omega arith)
formed_long m word (form ∷ forms) h =
    omega (
      arith,
      h,
      parted_more form forms,
      slashed_size forms,
      length-append (rendering form) (flat_map slashed forms),
    )

-- what is generated of a word whose forms have too many bytes
pub generated_long : (lexicon : Lexicon) (m : Marks) (sensitive : Bool) (word : List Symbol) →
    is_marked word ≡ false → unit_max + 1 < parted_size (forms_of lexicon sensitive word word) →
    unit_max < length (generated lexicon m sensitive word)
generated_long lexicon m sensitive word e h =
    rw e (formed_long m word (forms_of lexicon sensitive word word) h)
