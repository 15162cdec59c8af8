-- What the lines of a file say makes transducers and an alphabet.
use Rattle.std.proofs.Common.{◌≡◌, ℕ, ◌+◌, ◌<◌, Bool, true, false, List, refl, arith, Option, Some, None, Result, Ok, Err, IfOk}
use Rattle.std.specs.Prelude.{◌==◌, if◌then◌else◌}
use Rattle.std.proofs.lemmas.Bool.Decides.{nat_tests}
use Rattle.ap_fst.specs.Sections.{IsAlphabet}
use Rattle.ap_fst.specs.declared.compiled.Kind2.{Kind2}
use Rattle.ap_fst.specs.declared.compiled.Way.{Way}
use Rattle.ap_fst.specs.declared.compiled.Kind2.TheVariants.{Standard, Inconditional, Postblank, Preblank}
use Rattle.ap_fst.specs.declared.label.Edge.{Edge}
use Rattle.ap_binary.specs.Grammar.{IsRaw}
use Rattle.ap_binary.specs.Pieces.{head_at, alphabet_at}
use Rattle.ap_binary.specs.Lines.{◌>>=◌, fault, on_line, header_in, alphabet_place, counts_of, head_line, edges_in, finals_in, section_in, line_after, sections_in, end_in, file_in}
use Rattle.ap_binary.specs.declared.file.File.{File}
use Rattle.ap_binary.specs.declared.heads.Counts.{Counts}
use Rattle.ap_binary.specs.declared.heads.Head.{Head}
use Rattle.ap_binary.specs.declared.refusal.BinaryFault.{BinaryFault}
use Rattle.ap_binary.specs.declared.refusal.BinaryKind.TheVariants.{OutOfRange}
use Rattle.ap_binary.specs.declared.sections.Sections.{Sections}
use Rattle.ap_binary.specs.declared.sections.Written.{Written}
use Rattle.ap_binary.proofs.Options.{some_holds}
use Rattle.ap_binary.proofs.Letters.{alphabet_good}
use Rattle.ap_binary.proofs.Edges.{bind_ok, ok_holds, on_line_some, AreEdges, AreFinals, edges_are, finals_are, raw_read}

some_states : (line : ℕ) (k : Counts) (b : Bool) → (b ≡ false → 0 < k.states) →
    IfOk (if b then (let r : Result Counts BinaryFault = Err (fault OutOfRange line) in r)
    else Ok k) (λ c. 0 < c.states)
some_states line k true h = tt
some_states line k false h = h refl

counts_some : (line : ℕ) (a b c : Option ℕ) → IfOk (counts_of line a b c) (λ k. 0 < k.states)
counts_some line (Some states) (Some edges) (Some finals) =
    some_states line (record { states = states; edges = edges; finals = finals }) (states == 0)
    (λ e. grind (arith, nat_tests, e))
counts_some line (Some states) (Some edges) None = tt
counts_some line (Some states) None c = tt
counts_some line None b c = tt

pub head_some : (kind : Kind2) (line : ℕ) (bytes : List ℕ) →
    IfOk (head_line kind line bytes) (λ x. 0 < x.0.states)
unfolding head_line
head_some kind line bytes =
    let H : Type 0 = Head × List ℕ in
    let C : Type 0 = Counts × List ℕ in
    let P : C → Type 0 = λ x. 0 < x.0.states in
    bind_ok {A = H} {B = C} (on_line line (head_at kind bytes))
    (λ head. ◌>>=◌ {A = Counts} {B = C}
    (counts_of line head.0.states head.0.edges head.0.finals) (λ counts. Ok (counts, head.1))) P
    (λ head is. bind_ok {A = Counts} {B = C}
    (counts_of line head.0.states head.0.edges head.0.finals) (λ counts. Ok (counts, head.1)) P
    (λ counts is2. ok_holds (counts_of line head.0.states head.0.edges head.0.finals) counts
    (λ k. 0 < k.states) (counts_some line head.0.states head.0.edges head.0.finals) is2))

section_raw : (kind : Kind2) (line : ℕ) (bytes : List ℕ) →
    IfOk (section_in kind line bytes) (λ x. IsRaw x.0.fst)
unfolding section_in
section_raw kind line bytes =
    let C : Type 0 = Counts × List ℕ in
    let E : Type 0 = List Edge × List ℕ in
    let F : Type 0 = List ℕ × List ℕ in
    let W : Type 0 = Written × List ℕ in
    let P : W → Type 0 = λ x. IsRaw x.0.fst in
    bind_ok {A = C} {B = W} (head_line kind line bytes)
    (λ head. ◌>>=◌ {A = E} {B = W} (edges_in head.0.edges head.0.states None (line + 1) head.1)
    (λ edges. ◌>>=◌ {A = F} {B = W}
    (finals_in head.0.finals head.0.states 0 (line + 1 + head.0.edges) edges.1)
    (λ finals. Ok (
      record {
        fst =
            record { states = head.0.states; edges = edges.0; finals = finals.0 };
        line = line;
      },
      finals.1,
    )))) P
    (λ head is. bind_ok {A = E} {B = W} (edges_in head.0.edges head.0.states None (line + 1) head.1)
    (λ edges. ◌>>=◌ {A = F} {B = W}
    (finals_in head.0.finals head.0.states 0 (line + 1 + head.0.edges) edges.1)
    (λ finals. Ok (
      record {
        fst =
            record { states = head.0.states; edges = edges.0; finals = finals.0 };
        line = line;
      },
      finals.1,
    ))) P
    (λ edges is2. bind_ok {A = F} {B = W}
    (finals_in head.0.finals head.0.states 0 (line + 1 + head.0.edges) edges.1)
    (λ finals. Ok (
      record {
        fst =
            record { states = head.0.states; edges = edges.0; finals = finals.0 };
        line =
            line;
      },
      finals.1,
    )) P
    (λ finals is3. raw_read (record { states = head.0.states; edges = edges.0; finals = finals.0 })
    head.0.edges head.0.finals
    (ok_holds (head_line kind line bytes) head (λ x. 0 < x.0.states) (head_some kind line bytes) is)
    (ok_holds (edges_in head.0.edges head.0.states None (line + 1) head.1) edges
    (λ x. AreEdges head.0.edges head.0.states None x.0)
    (edges_are head.0.edges head.0.states (line + 1) None head.1) is2)
    (ok_holds (finals_in head.0.finals head.0.states 0 (line + 1 + head.0.edges) edges.1) finals
    (λ x. AreFinals head.0.finals head.0.states 0 x.0)
    (finals_are head.0.finals head.0.states 0 (line + 1 + head.0.edges) edges.1) is3))))

pub record AreRaw (s : Sections) : Type 0 where
  pub standard : IsRaw s.standard.fst
  pub inconditional : IsRaw s.inconditional.fst
  pub postblank : IsRaw s.postblank.fst
  pub preblank : IsRaw s.preblank.fst

pub raw_at : (kind : Kind2) (line : ℕ) (bytes : List ℕ) (x : Written × List ℕ) →
    section_in kind line bytes ≡ Ok x → IsRaw x.0.fst
raw_at kind line bytes x is =
    ok_holds (section_in kind line bytes) x (λ y. IsRaw y.0.fst) (section_raw kind line bytes) is

sections_raw : (line : ℕ) (bytes : List ℕ) → IfOk (sections_in line bytes) (λ x. AreRaw x.0)
unfolding sections_in
sections_raw line bytes =
    let W : Type 0 = Written × List ℕ in
    let S : Type 0 = Sections × List ℕ in
    let P : S → Type 0 = λ x. AreRaw x.0 in
    bind_ok {A = W} {B = S} (section_in Standard line bytes)
    (λ a. ◌>>=◌ {A = W} {B = S} (section_in Inconditional (line_after a.0) a.1)
    (λ b. ◌>>=◌ {A = W} {B = S} (section_in Postblank (line_after b.0) b.1)
    (λ c. ◌>>=◌ {A = W} {B = S} (section_in Preblank (line_after c.0) c.1)
    (λ d. Ok (
      record {
        standard = a.0;
        inconditional = b.0;
        postblank = c.0;
        preblank =
            d.0;
      },
      d.1,
    ))))) P
    (λ a is. bind_ok {A = W} {B = S} (section_in Inconditional (line_after a.0) a.1)
    (λ b. ◌>>=◌ {A = W} {B = S} (section_in Postblank (line_after b.0) b.1)
    (λ c. ◌>>=◌ {A = W} {B = S} (section_in Preblank (line_after c.0) c.1)
    (λ d. Ok (
      record {
        standard = a.0;
        inconditional = b.0;
        postblank = c.0;
        preblank =
            d.0;
      },
      d.1,
    )))) P
    (λ b is2. bind_ok {A = W} {B = S} (section_in Postblank (line_after b.0) b.1)
    (λ c. ◌>>=◌ {A = W} {B = S} (section_in Preblank (line_after c.0) c.1)
    (λ d. Ok (
      record {
        standard = a.0;
        inconditional = b.0;
        postblank = c.0;
        preblank =
            d.0;
      },
      d.1,
    ))) P
    (λ c is3. bind_ok {A = W} {B = S} (section_in Preblank (line_after c.0) c.1)
    (λ d. Ok (
      record {
        standard = a.0;
        inconditional = b.0;
        postblank = c.0;
        preblank =
            d.0;
      },
      d.1,
    )) P
    (λ d is4. record {
      standard = raw_at Standard line bytes a is;
      inconditional =
          raw_at Inconditional (line_after a.0) a.1 b is2;
      postblank =
          raw_at Postblank (line_after b.0) b.1 c is3;
      preblank =
          raw_at Preblank (line_after c.0) c.1 d is4;
    }))))

pub record IsRawFile (f : File) : Type 0 where
  pub alphabet : IsAlphabet f.alphabet
  pub sections : AreRaw f.sections

pub file_raw : (text : List ℕ) → IfOk (file_in text) IsRawFile
unfolding file_in
file_raw text =
    let H : Type 0 = Way × List ℕ in
    let A2 : Type 0 = List ℕ × List ℕ in
    let S : Type 0 = Sections × List ℕ in
    bind_ok {A = H} {B = File} (header_in text)
    (λ header. ◌>>=◌ {A = A2} {B = File}
    (on_line (alphabet_place header.0) (alphabet_at header.1))
    (λ alphabet. ◌>>=◌ {A = S} {B = File} (sections_in (alphabet_place header.0 + 1) alphabet.1)
    (λ sections. ◌>>=◌ {A = List ℕ} {B = File}
    (end_in (line_after sections.0.preblank) sections.1)
    (λ none. Ok (record { way = header.0; alphabet = alphabet.0; sections = sections.0 })))))
    IsRawFile
    (λ header is. bind_ok {A = A2} {B = File}
    (on_line (alphabet_place header.0) (alphabet_at header.1))
    (λ alphabet. ◌>>=◌ {A = S} {B = File} (sections_in (alphabet_place header.0 + 1) alphabet.1)
    (λ sections. ◌>>=◌ {A = List ℕ} {B = File}
    (end_in (line_after sections.0.preblank) sections.1)
    (λ none. Ok (record { way = header.0; alphabet = alphabet.0; sections = sections.0 }))))
    IsRawFile
    (λ alphabet is2. bind_ok {A = S} {B = File}
    (sections_in (alphabet_place header.0 + 1) alphabet.1)
    (λ sections. ◌>>=◌ {A = List ℕ} {B = File}
    (end_in (line_after sections.0.preblank) sections.1)
    (λ none. Ok (record { way = header.0; alphabet = alphabet.0; sections = sections.0 })))
    IsRawFile
    (λ sections is3. bind_ok {A = List ℕ} {B = File}
    (end_in (line_after sections.0.preblank) sections.1)
    (λ none. Ok (record {
      way = header.0;
      alphabet = alphabet.0;
      sections =
          sections.0;
    })) IsRawFile
    (λ none is4. record {
      alphabet = some_holds (alphabet_at header.1) alphabet (λ x. IsAlphabet x.0)
          (alphabet_good header.1)
          (on_line_some (alphabet_place header.0) (alphabet_at header.1) alphabet is2);
      sections = ok_holds (sections_in (alphabet_place header.0 + 1) alphabet.1) sections
          (λ x. AreRaw x.0) (sections_raw (alphabet_place header.0 + 1) alphabet.1) is3;
    }))))
