-- What is read as a unit or a chunk are its bytes by the notation, and these are read as it.
use Rattle.std.specs.Prelude.{◌≡◌, ℕ, List, [], length, take}
use Rattle.std.proofs.Common.{arith, ap, sym, subst, ◌∙◌}
use Rattle.std.proofs.lemmas.List.{append-nil, take_all}
use Rattle.ap_symbol.specs.declared.symbol.Symbol.{Symbol}
use Rattle.ap_stream.specs.declared.dialect.Dialect.{Dialect}
use Rattle.ap_stream.specs.declared.item.Chunk.{Chunk}
use Rattle.ap_stream.specs.declared.item.Item.TheVariants as item
use Rattle.ap_stream.proofs.InUnitLaws.{unit_always}
use Rattle.ap_stream.specs.Laws.{AreWords, UnitsAreRead, ReadAreUnits, AreOneUnit, ChunksAreRead, ReadAreChunks, AreOneChunk}
use Rattle.ap_stream.specs.Notation.{IsUnitText}
use Rattle.ap_stream.specs.Reading.{Whole, first}
use Rattle.ap_stream.specs.Spelling.{unit_bytes}
use Rattle.ap_stream.proofs.Back.{unit_back}
use Rattle.ap_stream.proofs.ChunkCut.{chunk_cut}
use Rattle.ap_stream.proofs.ChunkTexts.{text_chunk}
use Rattle.ap_stream.proofs.Fronts.{unit_cut}
use Rattle.ap_stream.proofs.UnitTexts.{text_unit, unit_text}

pub units_read : UnitsAreRead
units_read dialect words bytes x h =
    unit_always dialect bytes words (text_unit dialect words bytes h) x

pub read_units : ReadAreUnits
read_units dialect text words n e =
    unit_text dialect (take n text) words (unit_cut dialect text words n e).0

-- what is written of a unit are its bytes
pub written_unit : (dialect : Dialect) (words : List (List Symbol)) → AreWords dialect words →
    IsUnitText dialect words (unit_bytes words)
written_unit dialect words h =
    let text : List ℕ = unit_bytes words in
    subst (IsUnitText dialect words) (take_all (length text) text (omega arith))
    (read_units dialect text words (length text)
    (ap (first dialect) (sym (append-nil text)) ∙ unit_back dialect words [] h))

same_words : (one other : List (List Symbol)) (n : ℕ) →
    Whole (item.Unit one) n ≡ Whole (item.Unit other) n → one ≡ other
same_words one other n e = cc

pub one_unit : AreOneUnit
one_unit dialect bytes one other h k =
    same_words one other (length bytes)
    (sym (units_read dialect one bytes [] h) ∙ units_read dialect other bytes [] k)

pub chunks_read : ChunksAreRead
chunks_read chunk bytes x h = text_chunk chunk bytes h x

pub read_chunks : ReadAreChunks
read_chunks text chunk n e = (chunk_cut text chunk n e).text

same_chunk : (one other : Chunk) (n : ℕ) →
    Whole (item.Chunk one) n ≡ Whole (item.Chunk other) n → one ≡ other
same_chunk one other n e = cc

pub one_chunk : AreOneChunk
one_chunk bytes one other h k =
    same_chunk one other (length bytes) (sym (text_chunk one bytes h []) ∙ text_chunk other bytes k [])
