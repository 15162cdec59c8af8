-- Stages of chunks keep superblanks: transfer by rules whose words can be written, and each stage by
-- sound rules whose words are words of the program. What such a stage writes is read on.
use Rattle.std.specs.Prelude.{◌≡◌, ℕ, true, false, List, [], ◌∷◌, None, Ok}
use Rattle.std.proofs.Common.{ap, subst, sym, ◌∙◌}
use Rattle.std.proofs.lemmas.Bool.{false≢true}
use Rattle.ap_stream.specs.Laws.{EachSpelt}
use Rattle.ap_stream.specs.Pieces.{HaveSameSuperblanks}
use Rattle.ap_stream.specs.ReadOn.{Links}
use Rattle.ap_stream.specs.Reading.{reads}
use Rattle.ap_stream.specs.Told.{Clean}
use Rattle.ap_stream.proofs.Faults.{fault_fine}
use Rattle.ap_rules.specs.Soundness.{Each, IsSound, have_chunks}
use Rattle.ap_rules.specs.Views.{plain_rules}
use Rattle.ap_rules.specs.Worded.{AreWorded}
use Rattle.ap_rules.specs.declared.rules.DefaultPiece.{DefaultPiece}
use Rattle.ap_rules.specs.declared.rules.DefaultPiece.TheVariants as default
use Rattle.ap_rules.specs.declared.rules.Form.{Form}
use Rattle.ap_rules.specs.declared.rules.Form.TheVariants.{Transfer, Interchunk, Postchunk}
use Rattle.ap_rules.specs.declared.rules.Rules.{Rules}
use Rattle.ap_exec.proofs.RunningGives.{sound_rules_give}
use Rattle.ap_exec.proofs.RunningKeeps.{running_keeps_words, starting_keeps_words}
use Rattle.ap_exec.specs.Acting.{act_of, Outcome}
use Rattle.ap_exec.specs.FillingLaws.{HoldUnits, IsWordedAtom}
use Rattle.ap_exec.specs.RunningLaws.{IsWordedMatch, IsWordedMatched, IsWordedOutput, IsOfOutput}
use Rattle.ap_exec.specs.Starting.{start_of}
use Rattle.ap_exec.specs.declared.matched.Matched.{Matched}
use Rattle.ap_exec.specs.declared.template.Atom.{Atom}
use Rattle.ap_exec.specs.declared.template.Atom.TheVariants.{Unit as The_unit, Slot, Space}
use Rattle.ap_exec.specs.declared.template.Piece.{Piece}
use Rattle.ap_exec.specs.declared.template.Piece.TheVariants.{Atom as The_atom, Chunk}
use Rattle.ap_chunk.specs.Carrying.{Held}
use Rattle.ap_chunk.specs.Laws.{IsSpeltUnit, HoldAtoms, HoldChunks, MayGive, GivesWritten, TransferKeeps, SoundGivesWritten, SoundTransferKeeps, SoundInterchunkKeeps, SoundPostchunkKeeps, TransferIsRead, InterchunkIsRead, PostchunkIsRead}
use Rattle.ap_chunk.specs.Matches.{matched_items, matched_of}
use Rattle.ap_chunk.specs.Stages.{dialect_of, chunk_step, chunked, chunked_by}
use Rattle.ap_chunk.proofs.Carried.{carried_fine}
use Rattle.ap_chunk.proofs.ItemsRead.{AreKnown, translated_read, each_of, unit_worded, match_worded}
use Rattle.ap_chunk.proofs.StepsKept.{GiveRead, stage_is_read, stage_keeps}
use Rattle.ap_chunk.proofs.UnmatchedKept.{given_by, written_by}
use Rattle.ap_chunk.proofs.WordsWritten.{all_worded, all_spelt}

-- pieces of an output of units, or of one of chunks

atoms_held : (atoms : List Atom) → Each IsWordedAtom atoms → HoldAtoms atoms
atoms_held [] h = tt
atoms_held (a ∷ atoms) h = (h.0, atoms_held atoms h.1)

units_held : (pieces : List Piece) → Each IsWordedOutput pieces → Each (IsOfOutput false) pieces →
    HoldUnits pieces
units_held [] h k = tt
units_held (The_atom a ∷ pieces) h k = (h.0, units_held pieces h.1 k.1)
units_held (Chunk name atoms ∷ pieces) h k = absurd (false≢true k.0)

chunks_held : (pieces : List Piece) → Each IsWordedOutput pieces → Each (IsOfOutput true) pieces →
    HoldChunks pieces
chunks_held [] h k = tt
chunks_held (The_atom (The_unit word) ∷ pieces) h k = absurd (false≢true (sym k.0))
chunks_held (The_atom Slot ∷ pieces) h k = chunks_held pieces h.1 k.1
chunks_held (The_atom Space ∷ pieces) h k = chunks_held pieces h.1 k.1
chunks_held (Chunk name atoms ∷ pieces) h k =
    (h.0.0, atoms_held atoms h.0.1, chunks_held pieces h.1 k.1)

may_give : (form : Form) (d : DefaultPiece) (pieces : List Piece) → Each IsWordedOutput pieces →
    Each (IsOfOutput (have_chunks form d)) pieces → MayGive (given_by form d) pieces
may_give Transfer default.Lu pieces h k = units_held pieces h k
may_give Transfer default.Chunk pieces h k = chunks_held pieces h k
may_give Interchunk d pieces h k = chunks_held pieces h k
may_give Postchunk d pieces h k = units_held pieces h k

-- sound rules

module _ (rules : Rules) (worded : AreWorded (plain_rules rules))
    (sound : IsSound (plain_rules rules)) where
  sound_starts : EachSpelt (start_of rules)
  sound_starts = all_spelt (start_of rules) (starting_keeps_words rules worded)

  sound_gives : (rule : ℕ) (m : Matched) (vars : Held) (o : Outcome) → IsWordedMatch m →
      EachSpelt vars → act_of (plain_rules rules) rule m vars ≡ Ok o →
      MayGive (given_by rules.form rules.default) o.pieces × EachSpelt o.vars
  sound_gives rule m vars o w k e =
      let kept = running_keeps_words (plain_rules rules) rule m vars o worded w
      (all_worded vars k) e in (
        may_give rules.form rules.default o.pieces kept.0
            (sound_rules_give (plain_rules rules) rule m vars o sound e),
        all_spelt o.vars kept.1,
      )

  sound_reads : GiveRead rules
  sound_reads rule taken vars o h k e =
      sound_gives rule (matched_of rules.form taken) vars o (match_worded rules.form taken h) k e

-- what is said of rules' own form, of that form

abbrev FormKeeps : Rules → List ℕ → Form → Type 0
FormKeeps rules text form = (chunked_by rules (reads (dialect_of form) 0 text) Clean).fault ≡ None →
    HaveSameSuperblanks (dialect_of form) (written_by form rules.default) text
    (chunked_by rules (reads (dialect_of form) 0 text) Clean).text

form_keeps : (rules : Rules) (text : List ℕ) (form : Form) → rules.form ≡ form →
    AreWorded (plain_rules rules) → IsSound (plain_rules rules) → FormKeeps rules text form
form_keeps rules text form f worded sound =
    subst (FormKeeps rules text) f (stage_keeps rules (sound_reads rules worded sound) text
    (sound_starts rules worded sound))

abbrev FormLinks : Rules → Form → Type 0
FormLinks rules form = Links (dialect_of form) (written_by form rules.default)
    (λ text ending. chunked_by rules (reads (dialect_of form) 0 text) ending)

form_links : (rules : Rules) (form : Form) → rules.form ≡ form → AreWorded (plain_rules rules) →
    IsSound (plain_rules rules) → FormLinks rules form
form_links rules form f worded sound = subst (FormLinks rules) f (record {
  taken = λ text h. fault_fine
      (chunked rules (start_of rules) (reads (dialect_of rules.form) 0 text).items).fault
      (reads (dialect_of rules.form) 0 text).stop
      (carried_fine (chunk_step rules) (start_of rules) 0
      (reads (dialect_of rules.form) 0 text).items) h;
  written = λ text ending. stage_is_read rules (sound_reads rules worded sound) text
      (sound_starts rules worded sound);
})

-- transfer by rules whose words can be written

written_reads : (rules : Rules) → rules.form ≡ Transfer → GivesWritten rules → GiveRead rules
written_reads rules f gives rule taken vars o h k e =
    let both = gives.on rule (matched_items taken) vars o
    (translated_read taken (subst (λ (form : Form). AreKnown (dialect_of form) taken) f h)) k
    (ap (λ (form : Form). act_of (plain_rules rules) rule (matched_of form taken) vars) (sym f)
    ∙ e) in (
      subst (λ (form : Form). MayGive (given_by form rules.default) o.pieces) (sym f) both.0,
      both.1,
    )

pub transfer_keeps : TransferKeeps
transfer_keeps rules text f gives =
    subst (FormKeeps rules text) f (stage_keeps rules (written_reads rules f gives) text
    gives.start)

pub sound_gives_written : SoundGivesWritten
sound_gives_written rules f worded sound = record {
  start = sound_starts rules worded sound;
  on = λ rule units vars o h k e.
      let m : Matched = record { chunk = None; units = units } in
      let both = sound_gives rules worded sound rule m vars o (record {
        chunk = tt;
        units = each_of IsSpeltUnit IsWordedMatched unit_worded units h;
      }) k e in (
        subst (λ (form : Form). MayGive (given_by form rules.default) o.pieces) f both.0,
        both.1,
      );
}

pub sound_transfer_keeps : SoundTransferKeeps
sound_transfer_keeps rules text f worded sound = form_keeps rules text Transfer f worded sound

pub sound_interchunk_keeps : SoundInterchunkKeeps
sound_interchunk_keeps rules text f worded sound = form_keeps rules text Interchunk f worded sound

pub sound_postchunk_keeps : SoundPostchunkKeeps
sound_postchunk_keeps rules text f worded sound = form_keeps rules text Postchunk f worded sound

pub transfer_is_read : TransferIsRead
transfer_is_read rules f worded sound = form_links rules Transfer f worded sound

pub interchunk_is_read : InterchunkIsRead
interchunk_is_read rules f worded sound = form_links rules Interchunk f worded sound

pub postchunk_is_read : PostchunkIsRead
postchunk_is_read rules f worded sound = form_links rules Postchunk f worded sound
