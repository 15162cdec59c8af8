-- No fault of a text is WrongWay.
use Rattle.std.proofs.Common.{◌≡◌, inl, inr, ℕ, ◌+◌, List, [], ◌∷◌, sym, ◌∙◌, ap, Option}
use Rattle.ap_fst.specs.declared.compiled.Kind2.{Kind2}
use Rattle.ap_fst.specs.declared.label.Edge.{Edge}
use Rattle.ap_binary.specs.Faults.{IsEdgeFault, bad_edge, edge_out, IsFinalFault, bad_final, final_out, IsSectionFault, bad_head, head_out, at_edge, at_final, IsFaultFrom, in_section, past_section, no_end, behind_end, IsLineFault, bad_header, bad_way, bad_alphabet, behind_alphabet, placed_sections, HasFirstFault, at_line, of_section}
use Rattle.ap_binary.specs.Lines.{fault, alphabet_place}
use Rattle.ap_binary.specs.Spelling.{IsFaultOf, cycle, side, IsFirstIn, in_order, IsFirstFault}
use Rattle.ap_binary.specs.declared.refusal.BinaryFault.{BinaryFault}
use Rattle.ap_binary.specs.declared.refusal.BinaryKind.{BinaryKind}
use Rattle.ap_binary.specs.declared.refusal.BinaryKind.TheVariants.{BadHeader, BadLine, OutOfRange, EmptyCycle, EmptySide, WrongWay}
use Rattle.ap_binary.specs.declared.sections.Written.{Written}
use Rattle.ap_binary.proofs.FileFaults.{first_both}

kind_is : (g : BinaryFault) (kind : BinaryKind) (line : ℕ) → g ≡ fault kind line →
    g.kind ≡ WrongWay → kind ≡ WrongWay
kind_is g kind line p e = ap (λ (f : BinaryFault). f.kind) (sym p) ∙ e

not_line : (g : BinaryFault) (line : ℕ) → g ≡ fault BadLine line → g.kind ≡ WrongWay → ⊥
not_line g line p e = let no : BadLine ≡ WrongWay = kind_is g BadLine line p e in cc

not_out : (g : BinaryFault) (line : ℕ) → g ≡ fault OutOfRange line → g.kind ≡ WrongWay → ⊥
not_out g line p e = let no : OutOfRange ≡ WrongWay = kind_is g OutOfRange line p e in cc

of_edge : (states line : ℕ) (before : Option Edge) (bytes : List ℕ) (g : BinaryFault) →
    IsEdgeFault states before line bytes g → g.kind ≡ WrongWay → ⊥
of_edge states line before bytes g (bad_edge none p) e = not_line g line p e
of_edge states line before bytes g (edge_out d has out p) e = not_out g line p e

of_final : (states line : ℕ) (before : Option ℕ) (bytes : List ℕ) (g : BinaryFault) →
    IsFinalFault states before line bytes g → g.kind ≡ WrongWay → ⊥
of_final states line before bytes g (bad_final none p) e = not_line g line p e
of_final states line before bytes g (final_out d has out p) e = not_out g line p e

in_one : (kind : Kind2) (line : ℕ) (bytes : List ℕ) (g : BinaryFault) →
    IsSectionFault kind line bytes g → g.kind ≡ WrongWay → ⊥
in_one kind line bytes g (bad_head none p) w = not_line g line p w
in_one kind line bytes g (head_out s e f has out p) w = not_out g line p w
in_one kind line bytes g (at_edge s e f es rest c good few is wrong) w =
    of_edge s _ _ rest g wrong w
in_one kind line bytes g (at_final s e f es fs rest c good count finals few is wrong) w =
    of_final s _ _ rest g wrong w

from_line : (kinds : List Kind2) (line : ℕ) (bytes : List ℕ) (g : BinaryFault) →
    IsFaultFrom kinds line bytes g → g.kind ≡ WrongWay → ⊥
from_line kinds line bytes g (in_section k ks e f) w = in_one k line bytes g f w
from_line kinds line bytes g (past_section k ks m rest e raw held is more) w =
    from_line ks _ rest g more w
from_line kinds line bytes g (no_end e none p) w = not_line g _ p w
from_line kinds line bytes g (behind_end rest e is some p) w = not_line g _ p w

at_some_line : (text : List ℕ) (g : BinaryFault) → IsLineFault text g → g.kind ≡ WrongWay → ⊥
at_some_line text g (bad_header a b p) w = let no : BadHeader ≡ WrongWay =
    kind_is g BadHeader 1 p w in cc
at_some_line text g (bad_way rest e a b p) w = not_line g _ p w
at_some_line text g (bad_alphabet way rest e none p) w = not_line g _ p w
at_some_line text g (behind_alphabet way letters rest e l f) w = from_line _ _ rest g f w

of_written : (v : Written) (g : BinaryFault) → IsFaultOf v g → g.kind ≡ WrongWay → ⊥
of_written v g (cycle j on p) w = let no : EmptyCycle ≡ WrongWay = kind_is g EmptyCycle _ p w in cc
of_written v g (side none some p) w = let no : EmptySide ≡ WrongWay =
    kind_is g EmptySide _ p w in cc

of_first : (vs : List Written) (g : BinaryFault) → IsFirstIn vs g → g.kind ≡ WrongWay → ⊥
of_first [] g h w = elim h [ ]
of_first (v ∷ vs) g (inl h) w = of_written v g h w
of_first (v ∷ vs) g (inr h) w = of_first vs g h.1 w

in_sentences : (text : List ℕ) (g : BinaryFault) → HasFirstFault text g → g.kind ≡ WrongWay → ⊥
in_sentences text g (at_line h) w = at_some_line text g h w
in_sentences text g (of_section raw are held is p) w =
    of_first (in_order (placed_sections (alphabet_place raw.way + 1) raw)) g p w

pub not_wrong_way : (text : List ℕ) (g : BinaryFault) → IsFirstFault text g → g.kind ≡ WrongWay → ⊥
not_wrong_way text g h = in_sentences text g ((first_both text g).0 h)
