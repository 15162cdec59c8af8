-- A text spells one compiled dictionary at most, or has one first fault.
use Rattle.std.proofs.Common.{◌≡◌, inl, inr, ℕ, ◌+◌, ◌<◌, List, [], ◌∷◌, refl, sym, ◌∙◌, ap, subst, arith, Result, Ok, Err}
use Rattle.std.specs.Ordering.{nat_cmp}
use Rattle.std.proofs.lemmas.Bool.{cases_lt}
use Rattle.ap_fst.specs.Lists.{IsIn, Ascends}
use Rattle.ap_fst.specs.Machines.{Machine}
use Rattle.ap_fst.specs.Sections.{Parts}
use Rattle.ap_fst.specs.Silence.{IsFirstOnEmptyCycle}
use Rattle.ap_fst.specs.Trimming.{IsTrimOf, trimmed_to}
use Rattle.ap_fst.proofs.PlaceLaws.{less_from_cmp}
use Rattle.ap_binary.specs.Lines.{file_in, fault}
use Rattle.ap_binary.specs.Spelling.{IsFine, IsFaultOf, cycle, side, IsFirstIn, in_order, IsSpelled, Spells, IsFirstFault, in_lines, in_sections}
use Rattle.ap_binary.specs.declared.file.File.{File}
use Rattle.ap_binary.specs.declared.refusal.BinaryFault.{BinaryFault}
use Rattle.ap_binary.specs.declared.refusal.BinaryKind.TheVariants.{EmptyCycle}
use Rattle.ap_binary.specs.declared.sections.Written.{Written}

same_heads : (x y : ℕ) (xs ys : List ℕ) → Ascends nat_cmp (x ∷ xs) → Ascends nat_cmp (y ∷ ys) →
    IsIn x (y ∷ ys) → IsIn y (x ∷ xs) → x ≡ y
same_heads x y xs ys a b (inl e) j = e
same_heads x y xs ys a b (inr i) (inl e) = sym e
same_heads x y xs ys a b (inr i) (inr j) =
    absurd (let p : y < x = less_from_cmp y x (b.0 x i) in let q : x < y =
    less_from_cmp x y (a.0 y j) in omega arith)

tail_in : (x y s : ℕ) (xs ys : List ℕ) → x ≡ y → Ascends nat_cmp (x ∷ xs) → IsIn s xs →
    IsIn s (y ∷ ys) → IsIn s ys
tail_in x y s xs ys e a i (inl q) =
    absurd (let p : x < s = less_from_cmp x s (a.0 s i) in omega (arith, p, q, e))
tail_in x y s xs ys e a i (inr k) = k

same_ascending : (xs ys : List ℕ) → Ascends nat_cmp xs → Ascends nat_cmp ys →
    ((s : ℕ) → IsIn s xs → IsIn s ys) → ((s : ℕ) → IsIn s ys → IsIn s xs) → xs ≡ ys
same_ascending [] [] a b f g = refl
same_ascending [] (y ∷ ys) a b f g = elim (g y (inl refl)) [ ]
same_ascending (x ∷ xs) [] a b f g = elim (f x (inl refl)) [ ]
same_ascending (x ∷ xs) (y ∷ ys) a b f g =
    let e : x ≡ y = same_heads x y xs ys a b (f x (inl refl)) (g y (inl refl)) in
    let t : xs ≡ ys = same_ascending xs ys a.1 b.1 (λ s i. tail_in x y s xs ys e a i (f s (inr i)))
    (λ s i. tail_in y x s ys xs (sym e) b i (g s (inr i))) in
    ap (λ z. z ∷ xs) e ∙ ap (λ z. y ∷ z) t

one_trim : (m a b : Machine) → IsTrimOf m a → IsTrimOf m b → a ≡ b
one_trim m a b s t =
    let e : s.states ≡ t.states =
    same_ascending s.states t.states s.ascend t.ascend
    (λ k i. (t.exactly k).1 ((s.exactly k).0 i)) (λ k i. (s.exactly k).1 ((t.exactly k).0 i)) in
    s.is ∙ ap (λ (z : List ℕ). trimmed_to z m) e ∙ sym t.is

one_section : (v w : Written) (a b : Machine) → v ≡ w → IsSpelled v a → IsSpelled w b → a ≡ b
one_section v w a b e s t =
    one_trim v.fst a b s.trimmed (subst (λ (z : Written). IsTrimOf z.fst b) (sym e) t.trimmed)

abbrev file_or : File → Result File BinaryFault → File
file_or f (Ok g) = g
file_or f (Err e) = f

abbrev fault_or : BinaryFault → Result File BinaryFault → BinaryFault
fault_or e (Ok g) = e
fault_or e (Err f) = f

one_file : (text : List ℕ) (f g : File) → file_in text ≡ Ok f → file_in text ≡ Ok g → f ≡ g
one_file text f g a b = ap (file_or f) (sym a ∙ b)

not_both : (text : List ℕ) (f : File) (e : BinaryFault) → file_in text ≡ Ok f →
    file_in text ≡ Err e → ⊥
not_both text f e a b = let k : (let r : Result File BinaryFault = Ok f in r) ≡ Err e =
    sym a ∙ b in cc

pub one_spelled : (text : List ℕ) (c d : Parts) → Spells text c → Spells text d → c ≡ d
one_spelled text c d s t =
    let f : s.file ≡ t.file = one_file text s.file t.file s.lines t.lines in
    let l : c.alphabet ≡ d.alphabet = s.alphabet ∙ ap (λ (z : File). z.alphabet) f
    ∙ sym t.alphabet in
    let w : c.way ≡ d.way = s.way ∙ ap (λ (z : File). z.way) f ∙ sym t.way in
    let p : c.standard ≡ d.standard =
    one_section s.file.sections.standard t.file.sections.standard c.standard d.standard
    (ap (λ (z : File). z.sections.standard) f) s.sections.standard t.sections.standard in
    let q : c.inconditional ≡ d.inconditional =
    one_section s.file.sections.inconditional t.file.sections.inconditional c.inconditional
    d.inconditional (ap (λ (z : File). z.sections.inconditional) f) s.sections.inconditional
    t.sections.inconditional in
    let r : c.postblank ≡ d.postblank =
    one_section s.file.sections.postblank t.file.sections.postblank c.postblank d.postblank
    (ap (λ (z : File). z.sections.postblank) f) s.sections.postblank t.sections.postblank in
    let u : c.preblank ≡ d.preblank =
    one_section s.file.sections.preblank t.file.sections.preblank c.preblank d.preblank
    (ap (λ (z : File). z.sections.preblank) f) s.sections.preblank t.sections.preblank in
    λ i. record {
      alphabet = l i;
      way = w i;
      standard = p i;
      inconditional = q i;
      postblank =
          r i;
      preblank = u i;
    }

same_place : (w : Written) (j k : ℕ) → IsFirstOnEmptyCycle w.fst.edges j →
    IsFirstOnEmptyCycle w.fst.edges k → j ≡ k
same_place w j k a b = elim (cases_lt j k) [
  | inl lt ↦ absurd (b.first j lt a.on)
  | inr le ↦ elim (cases_lt k j) [ inl lt ↦ absurd (a.first k lt b.on) | inr le' ↦ omega arith ]
]

one_fault_of : (w : Written) (e f : BinaryFault) → IsFaultOf w e → IsFaultOf w f → e ≡ f
one_fault_of w e f (cycle j a p) (cycle k b q) =
    p ∙ ap (λ n. fault EmptyCycle (w.line + 1 + n)) (same_place w j k a b) ∙ sym q
one_fault_of w e f (cycle j a p) (side none s q) = absurd (none j a.on)
one_fault_of w e f (side none s p) (cycle k b q) = absurd (none k b.on)
one_fault_of w e f (side none s p) (side none' s' q) = p ∙ sym q

fine_has_none : (w : Written) (f : BinaryFault) → IsFine w → IsFaultOf w f → ⊥
fine_has_none w f fine (cycle j a p) = fine.cycles j a.on
fine_has_none w f fine (side none s p) = fine.sides s

one_first_in : (ws : List Written) (e f : BinaryFault) → IsFirstIn ws e → IsFirstIn ws f → e ≡ f
one_first_in [] e f a b = elim a [ ]
one_first_in (w ∷ ws) e f (inl a) (inl b) = one_fault_of w e f a b
one_first_in (w ∷ ws) e f (inl a) (inr b) = absurd (fine_has_none w e b.0 a)
one_first_in (w ∷ ws) e f (inr a) (inl b) = absurd (fine_has_none w f a.0 b)
one_first_in (w ∷ ws) e f (inr a) (inr b) = one_first_in ws e f a.1 b.1

pub one_fault : (text : List ℕ) (e f : BinaryFault) → IsFirstFault text e →
    IsFirstFault text f → e ≡ f
one_fault text e f (in_lines a) (in_lines b) = ap (fault_or e) (sym a ∙ b)
one_fault text e f (in_lines a) (in_sections g b q) = absurd (not_both text g e b a)
one_fault text e f (in_sections g a p) (in_lines b) = absurd (not_both text g f a b)
one_fault text e f (in_sections g a p) (in_sections h b q) =
    one_first_in (in_order g.sections) e f p
    (subst (λ (z : File). IsFirstIn (in_order z.sections) f) (sym (one_file text g h a b)) q)

pub never_both : (text : List ℕ) (c : Parts) (f : BinaryFault) → Spells text c →
    IsFirstFault text f → ⊥
never_both text c f s (in_lines a) = not_both text s.file f s.lines a
never_both text c f s (in_sections g a p) =
    let k : IsFirstIn (in_order s.file.sections) f =
    subst (λ (z : File). IsFirstIn (in_order z.sections) f)
    (sym (one_file text s.file g s.lines a)) p in
    elim k [
      | inl x ↦ fine_has_none s.file.sections.standard f s.sections.standard.fine x
      | inr x ↦ elim x.1 [
        | inl y ↦ fine_has_none s.file.sections.inconditional f s.sections.inconditional.fine y
        | inr y ↦ elim y.1 [
          | inl z ↦ fine_has_none s.file.sections.postblank f s.sections.postblank.fine z
          | inr z ↦ elim z.1 [
            | inl u ↦
                fine_has_none s.file.sections.preblank f s.sections.preblank.fine u
            | inr u ↦
                elim u.1 [ ]
          ]
        ]
      ]
    ]
