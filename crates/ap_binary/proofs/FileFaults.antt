-- The first fault of a file in sentences is the one that is read.
use Rattle.std.proofs.Common.{◌≡◌, ◌⊎◌, inl, inr, ℕ, ◌+◌, Bool, true, false, List, [], ◌∷◌, ◌++◌, length, refl, sym, ◌∙◌, ap, subst, Option, Some, None, Result, Ok, Err}
use Rattle.std.specs.Prelude.{◌↔◌, codes}
use Rattle.ap_fst.specs.Sections.{IsAlphabet}
use Rattle.ap_fst.specs.declared.compiled.Kind2.{Kind2}
use Rattle.ap_fst.specs.declared.compiled.Kind2.TheVariants.{Standard, Inconditional, Postblank, Preblank}
use Rattle.ap_fst.specs.declared.compiled.Way.{Way}
use Rattle.ap_fst.specs.declared.compiled.Way.TheVariants.{Lr, Rl}
use Rattle.ap_binary.specs.Faults.{BeginsWith, IsFaultFrom, in_section, past_section, no_end, behind_end, all_kinds, IsLettersLine, IsLineFault, bad_header, bad_way, bad_alphabet, behind_alphabet, written_at, HasFirstFault, at_line, of_section}
use Rattle.ap_binary.specs.Grammar.{IsRaw, AreRawParts}
use Rattle.ap_binary.specs.Lines.{◌>>=◌, fault, on_line, on_header, way_in, header_in, alphabet_place, over, end_in, section_in, line_after, sections_in, file_in}
use Rattle.ap_binary.specs.Pieces.{word_at, version_at, way_at, alphabet_at}
use Rattle.ap_binary.specs.Spelling.{IsFirstIn, in_order, IsFirstFault, in_lines, in_sections}
use Rattle.ap_binary.specs.Text.{alphabet_text, header_text}
use Rattle.ap_binary.specs.declared.file.File.{File}
use Rattle.ap_binary.specs.declared.refusal.BinaryFault.{BinaryFault}
use Rattle.ap_binary.specs.declared.refusal.BinaryKind.TheVariants.{BadHeader, BadLine}
use Rattle.ap_binary.specs.declared.sections.Sections.{Sections}
use Rattle.ap_binary.specs.declared.sections.Written.{Written}
use Rattle.ap_binary.proofs.Edges.{ok_holds, on_line_some, same_Ok}
use Rattle.ap_binary.proofs.Erring.{same_Err, err_same, ok_no_err, bound_err, err_bind, ok_bind}
use Rattle.ap_binary.proofs.Files.{raw_at, IsRawFile, file_raw}
use Rattle.ap_binary.proofs.Inverse.{alphabet_inv, IsAlphabetOf, word_is}
use Rattle.ap_binary.proofs.Inverses.{IsSectionOf, section_is, header_some, version_is, way_is, header_inv, file_parts_of, IsFileOf, file_inv}
use Rattle.ap_binary.proofs.Letters.{alphabet_good}
use Rattle.ap_binary.proofs.Numerals.{word_back}
use Rattle.ap_binary.proofs.Options.{some_holds}
use Rattle.ap_binary.proofs.Realphabet.{alphabet_back}
use Rattle.ap_binary.proofs.Reread.{section_back, untold_back, told_back, lr_back, rl_back, header_back, letters_held, placed_file, file_back}
use Rattle.ap_binary.proofs.SectionFaults.{section_found, section_given}

-- ---- what stands behind the alphabet

-- the sections of these kinds from this line on, and the end
reads_from : List Kind2 → ℕ → List ℕ → Result (List ℕ) BinaryFault
reads_from [] line bytes = end_in line bytes
reads_from (k ∷ ks) line bytes =
    ◌>>=◌ {A = Written × List ℕ} {B = List ℕ} (section_in k line bytes)
    (λ w. reads_from ks (line_after w.0) w.1)

no_end_aux : (line : ℕ) (bytes : List ℕ) (g : BinaryFault) (r : Option (List ℕ)) →
    word_at (codes "end\n") bytes ≡ r → on_line line r ≡ Err g → IsFaultFrom [] line bytes g
no_end_aux line bytes g None is h =
    no_end refl (λ b. let no : None ≡ Some b.0 = sym is ∙ ap (word_at (codes "end\n")) b.1
    ∙ word_back (codes "end\n") b.0 in cc) (sym (same_Err {A = List ℕ} (fault BadLine line) g h))
no_end_aux line bytes g (Some x) is h = absurd (ok_no_err {A = List ℕ} x g h)

over_aux : (line : ℕ) (bytes rest : List ℕ) (g : BinaryFault) → bytes ≡ codes "end\n" ++ rest →
    over (line + 1) rest ≡ Err g → IsFaultFrom [] line bytes g
over_aux line bytes [] g is h = absurd (ok_no_err {A = List ℕ} [] g h)
over_aux line bytes (b ∷ rest) g is h =
    behind_end (b ∷ rest) refl is (λ e. cc)
    (sym (same_Err {A = List ℕ} (fault BadLine (line + 1)) g h))

end_found : (line : ℕ) (bytes : List ℕ) (g : BinaryFault) → end_in line bytes ≡ Err g →
    IsFaultFrom [] line bytes g
unfolding end_in
end_found line bytes g h =
    elim (bound_err {A = List ℕ} {B = List ℕ} (on_line line (word_at (codes "end\n") bytes))
    (over (line + 1)) g h) [
      | inl k ↦ no_end_aux line bytes g (word_at (codes "end\n") bytes) refl k
      | inr b ↦ over_aux line bytes b.x g
          (word_is (codes "end\n") bytes b.x
          (on_line_some line (word_at (codes "end\n") bytes) b.x b.is)) b.gives
    ]

end_missing_aux : (line : ℕ) (bytes : List ℕ) (g : BinaryFault) (r : Option (List ℕ)) →
    word_at (codes "end\n") bytes ≡ r → (BeginsWith bytes (codes "end\n") → ⊥) →
    g ≡ fault BadLine line →
    ◌>>=◌ {A = List ℕ} {B = List ℕ} (on_line line r) (over (line + 1)) ≡ Err g
end_missing_aux line bytes g None is none p = err_same {A = List ℕ} (fault BadLine line) g (sym p)
end_missing_aux line bytes g (Some x) is none p =
    absurd (none (x, word_is (codes "end\n") bytes x is))

end_missing : (line : ℕ) (bytes : List ℕ) (g : BinaryFault) → (BeginsWith bytes (codes "end\n") → ⊥)
    → g ≡ fault BadLine line → end_in line bytes ≡ Err g
unfolding end_in
end_missing line bytes g none p =
    end_missing_aux line bytes g (word_at (codes "end\n") bytes) refl none p

over_more : (line : ℕ) (rest : List ℕ) (g : BinaryFault) → (rest ≡ [] → ⊥) →
    g ≡ fault BadLine line → over line rest ≡ Err g
over_more line [] g some p = absurd (some refl)
over_more line (b ∷ rest) g some p = err_same {A = List ℕ} (fault BadLine line) g (sym p)

end_behind : (line : ℕ) (bytes rest : List ℕ) (g : BinaryFault) → bytes ≡ codes "end\n" ++ rest →
    (rest ≡ [] → ⊥) → g ≡ fault BadLine (line + 1) → end_in line bytes ≡ Err g
unfolding end_in
end_behind line bytes rest g is some p =
    let read : word_at (codes "end\n") bytes ≡ Some rest = ap (word_at (codes "end\n")) is
    ∙ word_back (codes "end\n") rest in
    ok_bind {A = List ℕ} {B = List ℕ} (on_line line (word_at (codes "end\n") bytes))
    (over (line + 1)) rest g (ap (on_line line) read) (over_more (line + 1) rest g some p)

behind_section : (kind : Kind2) (later : List Kind2) (line : ℕ) (bytes : List ℕ)
    (a : Written × List ℕ) (g : BinaryFault) → section_in kind line bytes ≡ Ok a →
    IsFaultFrom later (line_after a.0) a.1 g → IsFaultFrom (kind ∷ later) line bytes g
behind_section kind later line bytes a g is h =
    let t : IsSectionOf kind bytes a = section_is kind line bytes a is in
    let raw : IsRaw a.0.fst = raw_at kind line bytes a is in
    let again : section_in kind line bytes ≡ Ok (written_at line a.0.fst, a.1) =
    ap (section_in kind line) t.whole ∙ section_back kind line a.0.fst a.1 raw t.held in
    let same : a ≡ (written_at line a.0.fst, a.1) =
    same_Ok a (written_at line a.0.fst, a.1) (sym is ∙ again) in
    let place : line_after a.0 ≡ line + 1 + length a.0.fst.edges + length a.0.fst.finals =
    ap (λ (z : Written × List ℕ). line_after z.0) same in
    past_section kind later a.0.fst a.1 refl raw t.held t.whole
    (subst (λ (k : ℕ). IsFaultFrom later k a.1 g) place h)

from_found : (kinds : List Kind2) (line : ℕ) (bytes : List ℕ) (g : BinaryFault) →
    reads_from kinds line bytes ≡ Err g → IsFaultFrom kinds line bytes g
unfolding reads_from
from_found [] line bytes g h = end_found line bytes g h
from_found (k ∷ ks) line bytes g h =
    elim (bound_err {A = Written × List ℕ} {B = List ℕ} (section_in k line bytes)
    (λ w. reads_from ks (line_after w.0) w.1) g h) [
      | inl e ↦ in_section k ks refl (section_found k line bytes g e)
      | inr a ↦ behind_section k ks line bytes a.x g a.is
          (from_found ks (line_after a.x.0) a.x.1 g a.gives)
    ]

from_given : (kinds : List Kind2) (line : ℕ) (bytes : List ℕ) (g : BinaryFault) →
    IsFaultFrom kinds line bytes g → reads_from kinds line bytes ≡ Err g
unfolding reads_from
from_given kinds line bytes g (in_section k ks e f) = ap (λ z. reads_from z line bytes) e
    ∙ err_bind {A = Written × List ℕ} {B = List ℕ} (section_in k line bytes)
    (λ w. reads_from ks (line_after w.0) w.1) g (section_given k line bytes g f)
from_given kinds line bytes g (past_section k ks m rest e raw held is more) =
    ap (λ z. reads_from z line bytes) e
    ∙ ok_bind {A = Written × List ℕ} {B = List ℕ} (section_in k line bytes)
    (λ w. reads_from ks (line_after w.0) w.1) (written_at line m, rest) g
    (ap (section_in k line) is ∙ section_back k line m rest raw held)
    (from_given ks (line + 1 + length m.edges + length m.finals) rest g more)
from_given kinds line bytes g (no_end e none p) = ap (λ z. reads_from z line bytes) e
    ∙ end_missing line bytes g none p
from_given kinds line bytes g (behind_end rest e is some p) = ap (λ z. reads_from z line bytes) e
    ∙ end_behind line bytes rest g is some p

-- ---- the same, as a file is read

bind_assoc : {A B C : Type 0} (r : Result A BinaryFault) (f : A → Result B BinaryFault) (h : B →
    Result C BinaryFault) → ◌>>=◌ {A = B} {B = C} (◌>>=◌ {A = A} {B = B} r f) h
    ≡ ◌>>=◌ {A = A} {B = C} r (λ x. ◌>>=◌ {A = B} {B = C} (f x) h)
bind_assoc (Ok x) f h = refl
bind_assoc (Err e) f h = refl

err_through : {A B C : Type 0} (r : Result A BinaryFault) (f : A → Result B BinaryFault) (h : A →
    Result C BinaryFault) (g : BinaryFault) → ((x : A) → f x ≡ Err g → h x ≡ Err g) →
    ◌>>=◌ {A = A} {B = B} r f ≡ Err g → ◌>>=◌ {A = A} {B = C} r h ≡ Err g
err_through (Ok x) f h g k e = k x e
err_through {A} {B} {C} (Err d) f h g k e = err_same {A = C} d g (same_Err {A = B} d g e)

-- what is read behind the alphabet, and a value made of it
abbrev tail : (Sections → File) → ℕ → List ℕ → Result File BinaryFault
tail make line bytes = ◌>>=◌ {A = Sections × List ℕ} {B = File} (sections_in line bytes)
    (λ s. ◌>>=◌ {A = List ℕ} {B = File} (end_in (line_after s.0.preblank) s.1)
    (λ none. Ok (make s.0)))

end_only : (make : File) (r : Result (List ℕ) BinaryFault) (g : BinaryFault) →
    ◌>>=◌ {A = List ℕ} {B = File} r (λ none. Ok make) ≡ Err g → r ≡ Err g
end_only make (Ok x) g h = absurd (ok_no_err {A = File} make g h)
end_only make (Err e) g h = err_same {A = List ℕ} e g (same_Err {A = File} e g h)

tail_found : (make : Sections → File) (line : ℕ) (bytes : List ℕ) (g : BinaryFault) →
    tail make line bytes ≡ Err g → reads_from all_kinds line bytes ≡ Err g
unfolding sections_in reads_from
tail_found make line bytes g h =
    let W : Type 0 = Written × List ℕ in
    let S : Type 0 = Sections × List ℕ in
    let last : S → Result File BinaryFault =
    λ s. ◌>>=◌ {A = List ℕ} {B = File} (end_in (line_after s.0.preblank) s.1)
    (λ none. Ok (make s.0)) in
    let fourth : W → W → W → W → Result S BinaryFault =
    λ a b c d. Ok (
      record {
        standard = a.0;
        inconditional = b.0;
        postblank = c.0;
        preblank =
            d.0;
      },
      d.1,
    ) in
    let third : W → W → W → Result S BinaryFault =
    λ a b c. ◌>>=◌ {A = W} {B = S} (section_in Preblank (line_after c.0) c.1) (fourth a b c) in
    let second : W → W → Result S BinaryFault =
    λ a b. ◌>>=◌ {A = W} {B = S} (section_in Postblank (line_after b.0) b.1) (third a b) in
    let first : W → Result S BinaryFault =
    λ a. ◌>>=◌ {A = W} {B = S} (section_in Inconditional (line_after a.0) a.1) (second a) in
    err_through {A = W} {B = File} {C = List ℕ} (section_in Standard line bytes)
    (λ a. ◌>>=◌ {A = S} {B = File} (first a) last)
    (λ a. reads_from (Inconditional ∷ Postblank ∷ Preblank ∷ []) (line_after a.0) a.1) g
    (λ a ha. err_through {A = W} {B = File} {C = List ℕ}
    (section_in Inconditional (line_after a.0) a.1)
    (λ b. ◌>>=◌ {A = S} {B = File} (second a b) last)
    (λ b. reads_from (Postblank ∷ Preblank ∷ []) (line_after b.0) b.1) g
    (λ b hb. err_through {A = W} {B = File} {C = List ℕ} (section_in Postblank (line_after b.0) b.1)
    (λ c. ◌>>=◌ {A = S} {B = File} (third a b c) last)
    (λ c. reads_from (Preblank ∷ []) (line_after c.0) c.1) g
    (λ c hc. err_through {A = W} {B = File} {C = List ℕ} (section_in Preblank (line_after c.0) c.1)
    (λ d. ◌>>=◌ {A = S} {B = File} (fourth a b c d) last) (λ d. end_in (line_after d.0) d.1) g
    (λ d hd. end_only (make (record {
      standard = a.0;
      inconditional = b.0;
      postblank =
          c.0;
      preblank = d.0;
    })) (end_in (line_after d.0) d.1) g hd)
    (sym (bind_assoc {A = W} {B = S} {C = File} (section_in Preblank (line_after c.0) c.1)
    (fourth a b c) last) ∙ hc))
    (sym (bind_assoc {A = W} {B = S} {C = File} (section_in Postblank (line_after b.0) b.1)
    (third a b) last) ∙ hb))
    (sym (bind_assoc {A = W} {B = S} {C = File} (section_in Inconditional (line_after a.0) a.1)
    (second a) last) ∙ ha))
    (sym (bind_assoc {A = W} {B = S} {C = File} (section_in Standard line bytes) first last) ∙ h)

tail_given : (make : Sections → File) (line : ℕ) (bytes : List ℕ) (g : BinaryFault) →
    reads_from all_kinds line bytes ≡ Err g → tail make line bytes ≡ Err g
unfolding sections_in reads_from
tail_given make line bytes g h =
    let W : Type 0 = Written × List ℕ in
    let S : Type 0 = Sections × List ℕ in
    let last : S → Result File BinaryFault =
    λ s. ◌>>=◌ {A = List ℕ} {B = File} (end_in (line_after s.0.preblank) s.1)
    (λ none. Ok (make s.0)) in
    let fourth : W → W → W → W → Result S BinaryFault =
    λ a b c d. Ok (
      record {
        standard = a.0;
        inconditional = b.0;
        postblank = c.0;
        preblank =
            d.0;
      },
      d.1,
    ) in
    let third : W → W → W → Result S BinaryFault =
    λ a b c. ◌>>=◌ {A = W} {B = S} (section_in Preblank (line_after c.0) c.1) (fourth a b c) in
    let second : W → W → Result S BinaryFault =
    λ a b. ◌>>=◌ {A = W} {B = S} (section_in Postblank (line_after b.0) b.1) (third a b) in
    let first : W → Result S BinaryFault =
    λ a. ◌>>=◌ {A = W} {B = S} (section_in Inconditional (line_after a.0) a.1) (second a) in
    bind_assoc {A = W} {B = S} {C = File} (section_in Standard line bytes) first last
    ∙ err_through {A = W} {B = List ℕ} {C = File} (section_in Standard line bytes)
    (λ a. reads_from (Inconditional ∷ Postblank ∷ Preblank ∷ []) (line_after a.0) a.1)
    (λ a. ◌>>=◌ {A = S} {B = File} (first a) last) g
    (λ a ha. bind_assoc {A = W} {B = S} {C = File} (section_in Inconditional (line_after a.0) a.1)
    (second a) last
    ∙ err_through {A = W} {B = List ℕ} {C = File} (section_in Inconditional (line_after a.0) a.1)
    (λ b. reads_from (Postblank ∷ Preblank ∷ []) (line_after b.0) b.1)
    (λ b. ◌>>=◌ {A = S} {B = File} (second a b) last) g
    (λ b hb. bind_assoc {A = W} {B = S} {C = File} (section_in Postblank (line_after b.0) b.1)
    (third a b) last
    ∙ err_through {A = W} {B = List ℕ} {C = File} (section_in Postblank (line_after b.0) b.1)
    (λ c. reads_from (Preblank ∷ []) (line_after c.0) c.1)
    (λ c. ◌>>=◌ {A = S} {B = File} (third a b c) last) g
    (λ c hc. bind_assoc {A = W} {B = S} {C = File} (section_in Preblank (line_after c.0) c.1)
    (fourth a b c) last
    ∙ err_through {A = W} {B = List ℕ} {C = File} (section_in Preblank (line_after c.0) c.1)
    (λ d. end_in (line_after d.0) d.1) (λ d. ◌>>=◌ {A = S} {B = File} (fourth a b c d) last) g
    (λ d hd. err_bind {A = List ℕ} {B = File} (end_in (line_after d.0) d.1)
    (λ none. Ok (make (record {
      standard = a.0;
      inconditional = b.0;
      postblank = c.0;
      preblank =
          d.0;
    }))) g hd) hc) hb) ha) h

-- ---- the first lines

version_aux : (text : List ℕ) (g : BinaryFault) (r : Option (Bool × List ℕ)) → version_at text ≡ r →
    on_header r ≡ Err g → IsLineFault text g
version_aux text g None is h =
    bad_header (λ b. let no : None ≡ Some (false, b.0) = sym is ∙ ap version_at b.1
    ∙ untold_back b.0 in cc) (λ b. let no : None ≡ Some (true, b.0) = sym is ∙ ap version_at b.1
    ∙ told_back b.0 in cc) (sym (same_Err {A = Bool × List ℕ} (fault BadHeader 1) g h))
version_aux text g (Some x) is h = absurd (ok_no_err {A = Bool × List ℕ} x g h)

way_aux : (text rest : List ℕ) (g : BinaryFault) (r : Option (Way × List ℕ)) →
    text ≡ codes "LTC2\n" ++ rest → way_at rest ≡ r → on_line 2 r ≡ Err g → IsLineFault text g
way_aux text rest g None e is h =
    bad_way rest e (λ b. let no : None ≡ Some (Lr, b.0) = sym is ∙ ap way_at b.1 ∙ lr_back b.0 in
    cc) (λ b. let no : None ≡ Some (Rl, b.0) = sym is ∙ ap way_at b.1 ∙ rl_back b.0 in cc)
    (sym (same_Err {A = Way × List ℕ} (fault BadLine 2) g h))
way_aux text rest g (Some x) e is h = absurd (ok_no_err {A = Way × List ℕ} x g h)

told_wrong : (text rest : List ℕ) (tells : Bool) (g : BinaryFault) →
    ((tells ≡ false) × (text ≡ codes "LTC1\n" ++ rest))
    ⊎ ((tells ≡ true) × (text ≡ codes "LTC2\n" ++ rest)) → way_in tells rest ≡ Err g →
    IsLineFault text g
told_wrong text rest false g v h = absurd (cc)
told_wrong text rest true g (inl v) h = absurd (let no : true ≡ false = v.0 in cc)
told_wrong text rest true g (inr v) h = way_aux text rest g (way_at rest) v.1 refl h

header_found : (text : List ℕ) (g : BinaryFault) → header_in text ≡ Err g → IsLineFault text g
unfolding header_in
header_found text g h = elim (bound_err {A = Bool × List ℕ} {B = Way × List ℕ}
    (on_header (version_at text)) (λ first. way_in first.0 first.1) g h) [
      | inl k ↦ version_aux text g (version_at text) refl k
      | inr b ↦ told_wrong text b.x.1 b.x.0 g
          (some_holds (version_at text) b.x (λ y. ((y.0 ≡ false) × (text ≡ codes "LTC1\n" ++ y.1))
          ⊎ ((y.0 ≡ true) × (text ≡ codes "LTC2\n" ++ y.1))) (version_is text)
          (header_some (version_at text) b.x b.is)) b.gives
    ]

version_none_aux : (text : List ℕ) (r : Option (Bool × List ℕ)) → version_at text ≡ r →
    (BeginsWith text (codes "LTC1\n") → ⊥) → (BeginsWith text (codes "LTC2\n") → ⊥) → r ≡ None
version_none_aux text None is a b = refl
version_none_aux text (Some x) is a b =
    elim (some_holds (version_at text) x (λ y. ((y.0 ≡ false) × (text ≡ codes "LTC1\n" ++ y.1))
    ⊎ ((y.0 ≡ true) × (text ≡ codes "LTC2\n" ++ y.1))) (version_is text) is) [
      | inl v ↦ absurd (a (x.1, v.1))
      | inr v ↦ absurd (b (x.1, v.1))
    ]

way_none_aux : (rest : List ℕ) (r : Option (Way × List ℕ)) → way_at rest ≡ r →
    (BeginsWith rest (codes "way lr\n") → ⊥) → (BeginsWith rest (codes "way rl\n") → ⊥) → r ≡ None
way_none_aux rest None is a b = refl
way_none_aux rest (Some x) is a b =
    elim (some_holds (way_at rest) x (λ y. ((y.0 ≡ Lr) × (rest ≡ codes "way lr\n" ++ y.1))
    ⊎ ((y.0 ≡ Rl) × (rest ≡ codes "way rl\n" ++ y.1))) (way_is rest) is) [
      | inl v ↦ absurd (a (x.1, v.1))
      | inr v ↦ absurd (b (x.1, v.1))
    ]

header_given : (text : List ℕ) (g : BinaryFault) → version_at text ≡ None → g ≡ fault BadHeader 1 →
    header_in text ≡ Err g
unfolding header_in
header_given text g none p = rw none (err_same {A = Way × List ℕ} (fault BadHeader 1) g (sym p))

way_given : (text rest : List ℕ) (g : BinaryFault) → text ≡ codes "LTC2\n" ++ rest →
    way_at rest ≡ None → g ≡ fault BadLine 2 → header_in text ≡ Err g
unfolding header_in
way_given text rest g e none p = let v : version_at text ≡ Some (true, rest) =
    ap version_at e ∙ told_back rest in
    rw (v, none) (err_same {A = Way × List ℕ} (fault BadLine 2) g (sym p))

-- ---- the file

alphabet_aux : (text : List ℕ) (header : Way × List ℕ) (g : BinaryFault)
    (r : Option (List ℕ × List ℕ)) → text ≡ header_text header.0 ++ header.1 →
    alphabet_at header.1 ≡ r → on_line (alphabet_place header.0) r ≡ Err g → IsLineFault text g
alphabet_aux text header g None e is h =
    bad_alphabet header.0 header.1 e
    (λ letters l b. let no : None ≡ Some (letters, b.0) = sym is ∙ ap alphabet_at b.1
    ∙ alphabet_back letters b.0 (letters_held letters l.alphabet l.held)
    l.alphabet.closed in cc)
    (sym (same_Err {A = List ℕ × List ℕ} (fault BadLine (alphabet_place header.0)) g h))
alphabet_aux text header g (Some x) e is h = absurd (ok_no_err {A = List ℕ × List ℕ} x g h)

abbrev behind : Way × List ℕ → Result File BinaryFault
behind header = ◌>>=◌ {A = List ℕ × List ℕ} {B = File}
    (on_line (alphabet_place header.0) (alphabet_at header.1))
    (λ alphabet. tail (λ s. record { way = header.0; alphabet = alphabet.0; sections = s })
    (alphabet_place header.0 + 1) alphabet.1)

pub lines_found : (text : List ℕ) (g : BinaryFault) → file_in text ≡ Err g → IsLineFault text g
unfolding file_in
lines_found text g h = elim (bound_err {A = Way × List ℕ} {B = File} (header_in text) behind g h) [
  | inl k ↦ header_found text g k
  | inr a ↦
      let e : text ≡ header_text a.x.0 ++ a.x.1 =
      ok_holds (header_in text) a.x (λ x. text ≡ header_text x.0 ++ x.1)
      (header_inv text) a.is in
      elim (bound_err {A = List ℕ × List ℕ} {B = File}
      (on_line (alphabet_place a.x.0) (alphabet_at a.x.1))
      (λ alphabet. tail (λ s. record { way = a.x.0; alphabet = alphabet.0; sections = s })
      (alphabet_place a.x.0 + 1) alphabet.1) g a.gives) [
        | inl k ↦ alphabet_aux text a.x g (alphabet_at a.x.1) e refl k
        | inr b ↦
            let read : alphabet_at a.x.1 ≡ Some b.x =
            on_line_some (alphabet_place a.x.0) (alphabet_at a.x.1) b.x b.is in
            let l : IsAlphabetOf a.x.1 b.x =
            some_holds (alphabet_at a.x.1) b.x (IsAlphabetOf a.x.1) (alphabet_inv a.x.1) read in
            behind_alphabet a.x.0 b.x.0 b.x.1 (e ∙ ap (λ z. header_text a.x.0 ++ z) l.0)
            (record {
              alphabet = some_holds (alphabet_at a.x.1) b.x (λ x. IsAlphabet x.0)
                  (alphabet_good a.x.1) read;
              held = l.1;
            })
            (from_found all_kinds (alphabet_place a.x.0 + 1) b.x.1 g
            (tail_found (λ s. record { way = a.x.0; alphabet = b.x.0; sections = s })
            (alphabet_place a.x.0 + 1) b.x.1 g b.gives))
      ]
]

by_header : (text : List ℕ) (g : BinaryFault) → header_in text ≡ Err g → file_in text ≡ Err g
unfolding file_in
by_header text g h = err_bind {A = Way × List ℕ} {B = File} (header_in text) behind g h

by_rest : (text : List ℕ) (header : Way × List ℕ) (g : BinaryFault) → header_in text ≡ Ok header →
    behind header ≡ Err g → file_in text ≡ Err g
unfolding file_in
by_rest text header g h k =
    ok_bind {A = Way × List ℕ} {B = File} (header_in text) behind header g h k

no_letters_aux : (header : Way × List ℕ) (r : Option (List ℕ × List ℕ)) → alphabet_at header.1 ≡ r →
    ((letters : List ℕ) → IsLettersLine letters → BeginsWith header.1 (alphabet_text letters) →
    ⊥) → r ≡ None
no_letters_aux header None is none = refl
no_letters_aux header (Some x) is none =
    let l : IsAlphabetOf header.1 x =
    some_holds (alphabet_at header.1) x (IsAlphabetOf header.1) (alphabet_inv header.1) is in
    absurd (none x.0 (record {
      alphabet =
          some_holds (alphabet_at header.1) x (λ y. IsAlphabet y.0) (alphabet_good header.1) is;
      held = l.1;
    }) (x.1, l.0))

pub lines_given : (text : List ℕ) (g : BinaryFault) → IsLineFault text g → file_in text ≡ Err g
lines_given text g (bad_header a b p) =
    by_header text g (header_given text g (version_none_aux text (version_at text) refl a b) p)
lines_given text g (bad_way rest e a b p) =
    by_header text g (way_given text rest g e (way_none_aux rest (way_at rest) refl a b) p)
lines_given text g (bad_alphabet way rest e none p) =
    let line : ℕ = alphabet_place way in
    by_rest text (way, rest) g (ap header_in e ∙ header_back way rest)
    (err_bind {A = List ℕ × List ℕ} {B = File} (on_line line (alphabet_at rest))
    (λ alphabet. tail (λ s. record { way = way; alphabet = alphabet.0; sections = s })
    (line + 1) alphabet.1) g
    (ap (on_line line) (no_letters_aux (way, rest) (alphabet_at rest) refl none)
    ∙ err_same {A = List ℕ × List ℕ} (fault BadLine line) g (sym p)))
lines_given text g (behind_alphabet way letters rest e l f) =
    let line : ℕ = alphabet_place way in
    let more : List ℕ = alphabet_text letters ++ rest in
    by_rest text (way, more) g (ap header_in e ∙ header_back way more)
    (ok_bind {A = List ℕ × List ℕ} {B = File} (on_line line (alphabet_at more))
    (λ alphabet. tail (λ s. record { way = way; alphabet = alphabet.0; sections = s })
    (line + 1) alphabet.1) (letters, rest) g
    (ap (on_line line) (alphabet_back letters rest (letters_held letters l.alphabet l.held)
    l.alphabet.closed))
    (tail_given (λ s. record { way = way; alphabet = letters; sections = s }) (line + 1) rest g
    (from_given all_kinds (line + 1) rest g f)))

first_found : (text : List ℕ) (g : BinaryFault) → IsFirstFault text g → HasFirstFault text g
first_found text g (in_lines h) = at_line (lines_found text g h)
first_found text g (in_sections file is p) =
    let f : IsFileOf text file = ok_holds (file_in text) file (IsFileOf text) (file_inv text) is in
    let r : IsRawFile file = ok_holds (file_in text) file IsRawFile (file_raw text) is in
    let are : AreRawParts (file_parts_of file) =
    record {
      alphabet = r.alphabet;
      standard = r.sections.standard;
      inconditional =
          r.sections.inconditional;
      postblank = r.sections.postblank;
      preblank =
          r.sections.preblank;
    } in
    let again : file_in text ≡ Ok (placed_file (file_parts_of file)) =
    ap file_in f.whole ∙ file_back (file_parts_of file) are f.held in
    let same : file ≡ placed_file (file_parts_of file) =
    same_Ok file (placed_file (file_parts_of file)) (sym is ∙ again) in
    of_section (file_parts_of file) are f.held f.whole
    (subst (λ (z : File). IsFirstIn (in_order z.sections) g) same p)

first_given : (text : List ℕ) (g : BinaryFault) → HasFirstFault text g → IsFirstFault text g
first_given text g (at_line h) = in_lines (lines_given text g h)
first_given text g (of_section raw are held is p) =
    in_sections (placed_file raw) (ap file_in is ∙ file_back raw are held) p

pub first_both : (text : List ℕ) (g : BinaryFault) → IsFirstFault text g ↔ HasFirstFault text g
first_both text g = (first_found text g, first_given text g)
