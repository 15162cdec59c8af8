-- What trimming leaves of a section without a fault is a section of a compiled dictionary.
use Rattle.std.proofs.Common.{◌≡◌, ℕ, List, refl, sym, subst, Ok}
use Rattle.std.specs.Prelude.{◌↔◌, IsTrue}
use Rattle.ap_fst.specs.Machines.{Machine, IsMachine}
use Rattle.ap_fst.specs.Sections.{Parts, IsSection, IsCompiled, is_plain_label}
use Rattle.ap_fst.specs.Silence.{HasEmptySide, HasNoEmptyCycle, HasBoundedRuns}
use Rattle.ap_fst.specs.Trimming.{IsTrimmed, IsTrimOf, trimmed_to, kept_edge}
use Rattle.ap_fst.specs.Walks.{AcceptsLabels}
use Rattle.ap_fst.specs.declared.label.Label.{Label}
use Rattle.ap_fst.proofs.CycleLaws.{bounded_runs, empty_cycle_runs}
use Rattle.ap_fst.proofs.Trims.{IsMade, in_flat, IsRenumbered, renumbered, trimmed_is_machine, trimmed_is_trimmed, trim_same}
use Rattle.ap_binary.specs.Grammar.{IsRaw}
use Rattle.ap_binary.specs.Lines.{file_in}
use Rattle.ap_binary.specs.Refusals.{IfFault}
use Rattle.ap_binary.specs.Spelling.{IsFirstIn, in_order, IsSpelled, AreSpelled, Spells, IsFirstFault, in_sections}
use Rattle.ap_binary.specs.declared.file.File.{File}
use Rattle.ap_binary.specs.declared.reading.Trimmed.{Trimmed}
use Rattle.ap_binary.specs.declared.refusal.BinaryRefusal.{BinaryRefusal}
use Rattle.ap_binary.specs.declared.refusal.BinaryRefusal.TheVariants.{Fault, Memory}
use Rattle.ap_binary.specs.declared.sections.Written.{Written}
use Rattle.ap_binary.proofs.Edges.{ok_holds}
use Rattle.ap_binary.proofs.Files.{IsRawFile, file_raw}

bounded : (old new : Machine) → ((w : List Label) → AcceptsLabels new w ↔ AcceptsLabels old w) →
    HasBoundedRuns old → HasBoundedRuns new
bounded old new same b =
    record {
      bound = b.bound;
      short =
          λ labels middle h r. b.short labels middle ((same labels).0 h) r;
    }

trimmed_section : (old new : Machine) → IsRaw old → HasNoEmptyCycle old → (HasEmptySide old → ⊥) →
    IsTrimOf old new → IsSection new
trimmed_section old new raw none sides t =
    let made : Machine = trimmed_to t.states old in
    let machine : IsMachine made = trimmed_is_machine t.states old t.ascend raw.sound in
    let trimmed : IsTrimmed made = trimmed_is_trimmed t.states old t.ascend t.exactly in
    let same : (w : List Label) → AcceptsLabels made w ↔ AcceptsLabels old w =
    trim_same old made t.states refl t.ascend t.exactly in
    let section : IsSection made = record {
      sound = machine;
      trimmed = trimmed;
      cycles = (empty_cycle_runs made machine trimmed).1
          (bounded old made same (bounded_runs old raw.sound none));
      sides = λ h. sides (record {
        labels = h.labels;
        accepted = (same h.labels).0 h.accepted;
        empty = h.empty;
      });
      plain = λ e i.
          let k : IsMade (kept_edge t.states) e old.edges =
          in_flat (kept_edge t.states) e old.edges i in
          let r : IsRenumbered t.states k.source e = renumbered t.states k.source e k.made in
          subst (λ (l : Label). IsTrue (is_plain_label l)) (sym r.label_is)
          (raw.plain k.source k.listed);
    } in
    subst IsSection (sym t.is) section

spelled_section : (w : Written) (m : Machine) → IsRaw w.fst → IsSpelled w m → IsSection m
spelled_section w m raw s = trimmed_section w.fst m raw s.fine.cycles s.fine.sides s.trimmed

pub spelled_is_compiled : (text : List ℕ) (c : Parts) → Spells text c → IsCompiled c
spelled_is_compiled text c s =
    let raw : IsRawFile s.file = ok_holds (file_in text) s.file IsRawFile (file_raw text) s.lines in
    record {
      letters = rw s.alphabet raw.alphabet;
      standard_is = spelled_section s.file.sections.standard c.standard raw.sections.standard
          s.sections.standard;
      inconditional_is = spelled_section s.file.sections.inconditional c.inconditional
          raw.sections.inconditional s.sections.inconditional;
      postblank_is = spelled_section s.file.sections.postblank c.postblank raw.sections.postblank
          s.sections.postblank;
      preblank_is = spelled_section s.file.sections.preblank c.preblank raw.sections.preblank
          s.sections.preblank;
    }

pub spells_by : (text : List ℕ) (f : File) (t : Trimmed) → file_in text ≡ Ok f →
    AreSpelled f.sections t →
    Spells text (record {
      alphabet = f.alphabet;
      way = f.way;
      standard = t.standard;
      inconditional =
          t.inconditional;
      postblank = t.postblank;
      preblank = t.preblank;
    })
spells_by text f t is spelled =
    record { file = f; lines = is; way = refl; alphabet = refl; sections = spelled }

pub section_refused : (text : List ℕ) (file : File) (e : BinaryRefusal) → file_in text ≡ Ok file →
    IfFault e (λ f. IsFirstIn (in_order file.sections) f) → IfFault e (λ f. IsFirstFault text f)
section_refused text file (Fault f) is h = in_sections file is h
section_refused text file Memory is h = tt
