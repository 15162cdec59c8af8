-- A tool that takes each item by itself keeps superblanks.
use Rattle.std.specs.Prelude.{◌≡◌, ℕ, Bool, true, false, List, [], ◌∷◌, Option, Some, None, refl, if◌then◌else◌}
use Rattle.std.proofs.Common.{sym, subst}
use Rattle.ap_symbol.specs.declared.symbol.Symbol.{Symbol}
use Rattle.ap_stream.specs.declared.dialect.Dialect.{Dialect}
use Rattle.ap_stream.specs.declared.fault.StreamFault.{StreamFault}
use Rattle.ap_stream.specs.declared.fault.LimitKind.TheVariants.{UnitTooLong}
use Rattle.ap_stream.specs.declared.fault.StreamFault.TheVariants.{Limit}
use Rattle.ap_stream.specs.declared.item.Item.{Item}
use Rattle.ap_stream.specs.declared.item.Item.TheVariants as item
use Rattle.ap_stream.specs.declared.item.Read.{Read}
use Rattle.ap_stream.specs.Each.{each, item_text, is_over}
use Rattle.ap_stream.specs.Laws.{AreWords}
use Rattle.ap_stream.specs.Pieces.{HasSuperblanks, piece, plain, white, unit, HaveSameSuperblanks, StayBare, MakesNone, supers_of, chunk, BareStay}
use Rattle.ap_stream.specs.ReadOn.{ArePieces, IsReadOn}
use Rattle.ap_stream.specs.Reading.{reads}
use Rattle.ap_stream.specs.Spelling.{unit_bytes, spelled, chunk_bytes}
use Rattle.ap_stream.specs.Supers.{blank_supers, item_supers}
use Rattle.ap_stream.specs.Told.{behind, ends_in, or_else}
use Rattle.ap_stream.proofs.ByNotation.{written_unit}
use Rattle.ap_stream.proofs.Joined.{one_piece}
use Rattle.ap_stream.proofs.Gives.{GivesPieces, gives_none, gives_end, gives_behind, gives_all, gives_pieces}
use Rattle.ap_stream.proofs.ReadOn.{are_read}
use Rattle.ap_stream.proofs.Rows.{IsRow, ChunkRow, AreRead, reads_read, reads_have, supers_more}
use Rattle.ap_stream.specs.declared.item.Chunk.{Chunk}
use Rattle.ap_stream.specs.declared.dialect.Dialect.TheVariants.{Raw, Analysed, Lexical, Bilingual, Chunked, Generated}
use Rattle.ap_stream.proofs.ChunkTexts.{written_chunk}

-- what stands bare stays so
bare_stay : (from to : Dialect) → StayBare from to → BareStay from to
bare_stay Raw to h = h
bare_stay Analysed to h = h
bare_stay Lexical to h = h
bare_stay Bilingual to h = h
bare_stay Chunked to h = h.0
bare_stay Generated to h = h

-- a chunk is written as a chunk
chunk_stays : (from to : Dialect) (c : Chunk) (bytes : List ℕ) → StayBare from to →
    ChunkRow from c bytes →
    HasSuperblanks to (spelled (item.Chunk c)) (item_supers (item.Chunk c))
chunk_stays Raw to c bytes stay h = absurd h
chunk_stays Analysed to c bytes stay h = absurd h
chunk_stays Lexical to c bytes stay h = absurd h
chunk_stays Bilingual to c bytes stay h = absurd h
chunk_stays Chunked to c bytes stay h =
    one_piece to (chunk_bytes c.name c.content) (item_supers (item.Chunk c)) (chunk (record {
      chunks = stay.1;
      chunk = c;
      text = written_chunk c.name c.content h.1 h.2;
    }) refl)
chunk_stays Generated to c bytes stay h = absurd h

-- what is written of an item as it is spelled, in a dialect where what stands bare may do so too
pub spelled_has : (from to : Dialect) (given : List (List Symbol) → List ℕ) (thing : Item)
    (bytes : List ℕ) → StayBare from to → MakesNone from to given → IsRow from thing bytes →
    HasSuperblanks to (item_text given thing) (item_supers thing)
spelled_has from to given (item.Plain c) bytes stay none h =
    one_piece to (item_text given (item.Plain c)) []
    (plain (record {
      character = c;
      code = h.0;
      allowed = λ e. bare_stay from to stay c.letter (h.1 e);
      spelled =
          refl;
    }) refl)
spelled_has from to given (item.Blank all) bytes stay none h =
    subst (λ (q : List ℕ). HasSuperblanks to q (blank_supers 0 q)) (sym h.0) (h.1 to)
spelled_has from to given (item.Unit words) bytes stay none h = none words h.1
spelled_has from to given (item.Chunk c) bytes stay none h = chunk_stays from to c bytes stay h

module _ (from to : Dialect) (given : List (List Symbol) → List ℕ) (stay : StayBare from to)
    (none : MakesNone from to given) where
  each_kept : (items : List Read) → AreRead from items →
      GivesPieces to (each given items) (supers_of items)
  each_kept [] h = gives_none to
  each_kept (read ∷ items) h = by (is_over given read.item) (each_kept items h.1)
    where
      own : HasSuperblanks to (item_text given read.item) (item_supers read.item)
      own = spelled_has from to given read.item h.0.0 stay none h.0.1

      by : (v : Bool) → GivesPieces to (each given items) (supers_of items) →
          GivesPieces to (if v then ends_in [] (Limit UnitTooLong read.place)
          else behind (item_text given read.item) (each given items)) (supers_of (read ∷ items))
      by true go = gives_end to (Limit UnitTooLong read.place) (supers_of (read ∷ items))
      by false go = subst (GivesPieces to (behind (item_text given read.item) (each given items)))
          (sym (supers_more read items))
          (gives_behind to (item_text given read.item) (each given items) (item_supers read.item)
          (supers_of items) own go)

  pub reads_kept : (place : ℕ) (text : List ℕ) → (reads from place text).stop ≡ None →
      (each given (reads from place text).items).fault ≡ None →
      HaveSameSuperblanks from to text (each given (reads from place text).items).text
  reads_kept place text h e =
      record {
        superblanks = supers_of (reads from place text).items;
        before = reads_have from place text h;
        after =
            gives_all to (each given (reads from place text).items)
            (supers_of (reads from place text).items)
            (each_kept (reads from place text).items (reads_read from place text)) e;
      }

pub each_keeps : (from to : Dialect) (given : List (List Symbol) → List ℕ) (place : ℕ)
    (text : List ℕ) → StayBare from to → MakesNone from to given
    → (reads from place text).stop ≡ None → (each given (reads from place text).items).fault ≡ None
    → HaveSameSuperblanks from to text (each given (reads from place text).items).text
each_keeps from to given place text stay none h e =
    reads_kept from to given stay none place text h e

-- whatever stops it, it writes a row of pieces
pub each_pieces : (from to : Dialect) (given : List (List Symbol) → List ℕ) (place : ℕ)
    (text : List ℕ) → StayBare from to → MakesNone from to given
    → ArePieces to (each given (reads from place text).items).text
each_pieces from to given place text stay none =
    gives_pieces to (each given (reads from place text).items)
    (supers_of (reads from place text).items)
    (each_kept from to given stay none (reads from place text).items (reads_read from place text))

-- so it is read on
pub each_read : (from to : Dialect) (given : List (List Symbol) → List ℕ) (place : ℕ)
    (text : List ℕ) → StayBare from to → MakesNone from to given
    → IsReadOn to (each given (reads from place text).items).text
each_read from to given place text stay none =
    are_read to (each given (reads from place text).items).text
    (each_pieces from to given place text stay none)

-- where neither of two faults is there
pub neither : (a b : Option StreamFault) → or_else a b ≡ None → (a ≡ None) × (b ≡ None)
neither None b h = (refl, h)
neither (Some fault) b h = absurd (cc)

-- what is written of a unit has no superblanks
pub unit_has_none : (dialect : Dialect) (words : List (List Symbol)) → AreWords dialect words →
    HasSuperblanks dialect (unit_bytes words) []
unit_has_none dialect words h =
    one_piece dialect (unit_bytes words) []
    (unit (record { words = words; text = written_unit dialect words h }) refl)

-- nor has a space in front of a text that has none
pub space_has_none : (dialect : Dialect) (text : List ℕ) → HasSuperblanks dialect text [] →
    HasSuperblanks dialect (32 ∷ text) []
space_has_none dialect text h = piece (32 ∷ []) text [] [] (white 32 refl refl refl) h refl refl
