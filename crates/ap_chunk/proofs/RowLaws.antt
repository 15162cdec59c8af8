-- The row of a word as a unit.
use Rattle.std.proofs.Common.{◌≡◌, ◌↔◌, ℕ, zero, suc, Bool, true, false, List, [], ◌∷◌, map, slice_get, refl, sym, ap, ◌∙◌, Option, Some, None}
use Rattle.std.proofs.lemmas.Bool.{false≢true}
use Rattle.ap_symbol.specs.declared.symbol.Symbol.{Symbol}
use Rattle.ap_stream.specs.declared.item.Character.{Character}
use Rattle.ap_stream.specs.declared.item.Chunk.{Chunk as ChunkItem}
use Rattle.ap_stream.specs.declared.item.Item.{Item}
use Rattle.ap_stream.specs.declared.item.Item.TheVariants.{Plain, Blank, Unit as unit_item, Chunk as chunk_item}
use Rattle.ap_rules.specs.declared.rules.DefCat.{DefCat}
use Rattle.ap_rules.specs.declared.rules.Form.{Form}
use Rattle.ap_rules.specs.declared.rules.Form.TheVariants.{Transfer, Interchunk, Postchunk}
use Rattle.ap_rules.specs.declared.rules.Rules.{Rules}
use Rattle.ap_chunk.specs.Choice.{unit_of}
use Rattle.ap_chunk.specs.Parts.{Part, unit, part_of, unit_part, chunk_part, word_of}
use Rattle.ap_chunk.specs.Rows.{NumberTakes, IsSeenBy}
use Rattle.ap_chunk.specs.Tests.{takes, row_of}
use Rattle.ap_chunk.proofs.Taking.{takes_exactly}

abbrev if_some : (DefCat → Bool) → Option DefCat → Bool
if_some test None = false
if_some test (Some category) = test category

tells : (test : DefCat → Bool) (categories : List DefCat) (n : ℕ) → unit_of (map test categories) n
    ≡ if_some test (slice_get categories n)
tells test [] n = refl
tells test (c ∷ categories) zero = refl
tells test (c ∷ categories) (suc n) = tells test categories n

abbrev test_of : Rules → List Symbol → DefCat → Bool
test_of rules word category = takes rules.form category word

told : (rules : Rules) (word : List Symbol) (n : ℕ) (o : Option DefCat) →
    slice_get rules.categories n ≡ o → if_some (test_of rules word) o ≡ true →
    NumberTakes rules word n
told rules word n None e h = absurd (false≢true h)
told rules word n (Some c) e h =
    record { category = c; at = e; takes = (takes_exactly rules.form c word).0 h }

pub rows_tell : (rules : Rules) (word : List Symbol) (n : ℕ) →
    (unit_of (row_of rules word) n ≡ true) ↔ NumberTakes rules word n
rows_tell rules word n =
    let test = test_of rules word in
    let same = tells test rules.categories n in (
      λ h. told rules word n (slice_get rules.categories n) refl (sym same ∙ h),
      λ t. same ∙ ap (if_some test) t.at ∙ (takes_exactly rules.form t.category word).1 t.takes,
    )

abbrev IsUnitOf : Rules → List Symbol → Part → Type 0
IsUnitOf rules word part = (test : ℕ → Bool) × (part ≡ unit test)
    × ((n : ℕ) → (test n ≡ true) ↔ NumberTakes rules word n)

of_word : (rules : Rules) (seen word : List Symbol) → word ≡ seen →
    IsUnitOf rules word (unit (unit_of (row_of rules seen)))
of_word rules seen word e = (
  unit_of (row_of rules word),
  ap (λ (w : List Symbol). unit (unit_of (row_of rules w))) (sym e),
  λ n. rows_tell rules word n,
)

unit_tells : (rules : Rules) (form : Form) (words : List (List Symbol)) (word : List Symbol) →
    IsSeenBy form (unit_item words) word → IsUnitOf rules word (unit_part rules form words)
unit_tells rules Transfer words word e = of_word rules (word_of 0 words) word e
unit_tells rules Interchunk words word e = absurd e
unit_tells rules Postchunk words word e = absurd e

name_tells : (rules : Rules) (form : Form) (c : ChunkItem) (word : List Symbol) →
    IsSeenBy form (chunk_item c) word → IsUnitOf rules word (chunk_part rules form c.name)
name_tells rules Transfer c word e = absurd e
name_tells rules Interchunk c word e = of_word rules c.name word e
name_tells rules Postchunk c word e = of_word rules c.name word e

no_plain : (form : Form) (c : Character) (word : List Symbol) → IsSeenBy form (Plain c) word → ⊥
no_plain Transfer c word e = e
no_plain Interchunk c word e = e
no_plain Postchunk c word e = e

no_blank : (form : Form) (b : List ℕ) (word : List Symbol) → IsSeenBy form (Blank b) word → ⊥
no_blank Transfer b word e = e
no_blank Interchunk b word e = e
no_blank Postchunk b word e = e

pub units_tell : (rules : Rules) (item : Item) (word : List Symbol) →
    IsSeenBy rules.form item word → IsUnitOf rules word (part_of rules item)
units_tell rules (Plain c) word e = absurd (no_plain rules.form c word e)
units_tell rules (Blank b) word e = absurd (no_blank rules.form b word e)
units_tell rules (unit_item words) word e = unit_tells rules rules.form words word e
units_tell rules (chunk_item c) word e = name_tells rules rules.form c word e
