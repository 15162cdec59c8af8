-- What is wrong where a final state is wanted.
use Rattle.std.proofs.Common.{◌≡◌, inl, inr, ℕ, suc, zero, ◌+◌, ◌-◌, ◌^◌, ◌<◌, ◌≤◌, true, false, nat_le, nat_lt, List, [], ◌∷◌, ◌++◌, length, refl, sym, ◌∙◌, ap, subst, arith, append_assoc, Option, Some, None, Ok, Err}
use Rattle.std.specs.List.{flat_map}
use Rattle.std.proofs.lemmas.Bool.{cases_Bool}
use Rattle.std.proofs.lemmas.Bool.Decides.{nat_tests}
use Rattle.std.proofs.lemmas.Option.{same_Some}
use Rattle.ap_binary.specs.Faults.{HasFinal, IsAbove, IsFinalFault, bad_final, final_out, last_or}
use Rattle.ap_binary.specs.Pieces.{final_at}
use Rattle.ap_binary.specs.Lines.{◌>>=◌, fault, on_line, judged_final, final_line, with_finals, finals_in}
use Rattle.ap_binary.specs.Text.{final_text}
use Rattle.ap_binary.specs.declared.refusal.BinaryFault.{BinaryFault}
use Rattle.ap_binary.specs.declared.refusal.BinaryKind.TheVariants.{BadLine, OutOfRange}
use Rattle.ap_binary.proofs.AnyNumbers.{clamped, clamped_cases, clamped_below}
use Rattle.ap_binary.proofs.AnyLines.{IsFinalRead, final_found, final_again}
use Rattle.ap_binary.proofs.Edges.{AreFinals, IsNextFinal, more_finals, next_final, ok_holds}
use Rattle.ap_binary.proofs.Erring.{same_Err, err_same, ok_no_err, bound_err, judge}
use Rattle.ap_binary.proofs.Inverses.{line_is_final}
use Rattle.ap_binary.proofs.Options.{some_holds}
use Rattle.ap_binary.proofs.Reread.{line_final}
use Rattle.ap_binary.proofs.Rereading.{final_back}
use Rattle.ap_fst.proofs.PlaceLaws.{less_from_cmp}

-- the least state that is above the one before
abbrev pub least_behind : Option ℕ → ℕ
least_behind None = 0
least_behind (Some s) = s + 1

above_least : (before : Option ℕ) (s : ℕ) → IsAbove before s → least_behind before ≤ s
above_least None s h = omega arith
above_least (Some b) s h = let lt : b < s = h in omega arith

least_above : (before : Option ℕ) (s : ℕ) → least_behind before ≤ s → IsAbove before s
least_above None s h = tt
least_above (Some b) s h = omega arith

pub clamped_above : (least n : ℕ) → least < 2 ^ 64 → nat_le least (clamped n) ≡ nat_le least n
clamped_above least n small = elim (clamped_cases n) [
  | inl h ↦ ap (nat_le least) h.1
  | inr h ↦
      let le : 2 ^ 64 ≤ n = h.0 in
      let a : nat_le least n ≡ true = grind (arith, nat_tests, le, small) in
      let b : nat_le least (2 ^ 64 - 1) ≡ true = grind (arith, nat_tests, small) in
      ap (nat_le least) h.1 ∙ b ∙ sym a
]

-- ---- one line

final_read : (before : Option ℕ) (bytes : List ℕ) (s : ℕ) (h : HasFinal before bytes s) →
    final_at bytes ≡ Some (clamped s, h.rest)
final_read before bytes s h = ap final_at h.is ∙ final_again h.digits h.rest s h.form

read_of : (before : Option ℕ) (bytes : List ℕ) (x : ℕ × List ℕ) (s : ℕ)
    (h : HasFinal before bytes s) → final_at bytes ≡ Some x → x.0 ≡ clamped s
read_of before bytes x s h is =
    ap (λ (v : ℕ × List ℕ). v.0)
    (same_Some x (clamped s, h.rest) (sym is ∙ final_read before bytes s h))

found_aux : (states line : ℕ) (before : Option ℕ) (bytes : List ℕ) (g : BinaryFault)
    (r : Option (ℕ × List ℕ)) → states < 2 ^ 64 → least_behind before < 2 ^ 64 → final_at bytes ≡ r
    → ◌>>=◌ {A = ℕ × List ℕ} {B = ℕ × List ℕ} (on_line line r)
    (judged_final states (least_behind before) line) ≡ Err g →
    IsFinalFault states before line bytes g
found_aux states line before bytes g None small near is h =
    bad_final (λ s has. let no : None ≡ Some (clamped s, has.rest) =
    sym is ∙ final_read before bytes s has in cc)
    (sym (same_Err {A = ℕ × List ℕ} (fault BadLine line) g h))
found_aux states line before bytes g (Some x) small near is h =
    elim (judge {A = ℕ × List ℕ} (nat_le (least_behind before) x.0) (nat_lt x.0 states)
    (fault BadLine line) (fault OutOfRange line) x g h) [
      | inl k ↦ bad_final (λ s has.
          let no : nat_le (least_behind before) s ≡ false =
          sym (clamped_above (least_behind before) s near)
          ∙ ap (nat_le (least_behind before)) (sym (read_of before bytes x s has is)) ∙ k.0 in
          let le : least_behind before ≤ s = above_least before s has.above in
          let yes : nat_le (least_behind before) s ≡ true = grind (arith, nat_tests, le) in
          let both : true ≡ false = sym yes ∙ no in cc) k.1
      | inr k ↦
          let r : IsFinalRead bytes x =
          some_holds (final_at bytes) x (IsFinalRead bytes) (final_found bytes) is in
          let above : nat_le (least_behind before) r.s ≡ true =
          sym (clamped_above (least_behind before) r.s near)
          ∙ ap (nat_le (least_behind before)) (sym r.read) ∙ k.0 in
          let out : nat_lt r.s states ≡ false = sym (clamped_below r.s states small)
          ∙ ap (λ n. nat_lt n states) (sym r.read) ∙ k.1 in
          final_out r.s (record {
            digits = r.digits;
            rest = x.1;
            is = r.is;
            form = r.form;
            above =
                least_above before r.s (grind (arith, nat_tests, above));
          })
          (λ w. let yes : nat_lt r.s states ≡ true = grind (arith, nat_tests, w) in
          let both : true ≡ false = sym yes ∙ out in cc) k.2
    ]

pub final_line_found : (states line : ℕ) (before : Option ℕ) (bytes : List ℕ) (g : BinaryFault) →
    states < 2 ^ 64 → least_behind before < 2 ^ 64 →
    final_line states (least_behind before) line bytes ≡ Err g →
    IsFinalFault states before line bytes g
unfolding final_line
final_line_found states line before bytes g small near h =
    found_aux states line before bytes g (final_at bytes) small near refl h

bad_aux : (states line : ℕ) (before : Option ℕ) (bytes : List ℕ) (g : BinaryFault)
    (r : Option (ℕ × List ℕ)) → least_behind before < 2 ^ 64 → final_at bytes ≡ r →
    ((s : ℕ) → HasFinal before bytes s → ⊥) → g ≡ fault BadLine line
    → ◌>>=◌ {A = ℕ × List ℕ} {B = ℕ × List ℕ} (on_line line r)
    (judged_final states (least_behind before) line) ≡ Err g
bad_aux states line before bytes g None near is none p =
    err_same {A = ℕ × List ℕ} (fault BadLine line) g (sym p)
bad_aux states line before bytes g (Some x) near is none p =
    elim (cases_Bool (nat_le (least_behind before) x.0)) [
      | inl t ↦
          let r : IsFinalRead bytes x =
          some_holds (final_at bytes) x (IsFinalRead bytes) (final_found bytes) is in
          let above : nat_le (least_behind before) r.s ≡ true =
          sym (clamped_above (least_behind before) r.s near)
          ∙ ap (nat_le (least_behind before)) (sym r.read) ∙ t in
          absurd (none r.s (record {
            digits = r.digits;
            rest = x.1;
            is = r.is;
            form = r.form;
            above =
                least_above before r.s (grind (arith, nat_tests, above));
          }))
      | inr f ↦ rw f (err_same {A = ℕ × List ℕ} (fault BadLine line) g (sym p))
    ]

pub final_line_given : (states line : ℕ) (before : Option ℕ) (bytes : List ℕ) (g : BinaryFault) →
    states < 2 ^ 64 → least_behind before < 2 ^ 64 → IsFinalFault states before line bytes g →
    final_line states (least_behind before) line bytes ≡ Err g
unfolding final_line
final_line_given states line before bytes g small near (bad_final none p) =
    bad_aux states line before bytes g (final_at bytes) near refl none p
final_line_given states line before bytes g small near (final_out s has out p) =
    let read : final_at bytes ≡ Some (clamped s, has.rest) = final_read before bytes s has in
    let le : least_behind before ≤ s = above_least before s has.above in
    let t : nat_le (least_behind before) s ≡ true = grind (arith, nat_tests, le) in
    let f : nat_le (least_behind before) (clamped s) ≡ true =
    clamped_above (least_behind before) s near ∙ t in
    let n : nat_lt s states ≡ false =
    elim (cases_Bool (nat_lt s states)) [
      | inl y ↦ absurd (out (grind (arith, nat_tests, y)))
      | inr z ↦ z
    ] in
    let w : nat_lt (clamped s) states ≡ false = clamped_below s states small ∙ n in
    rw (read, f, w) (err_same {A = ℕ × List ℕ} (fault OutOfRange line) g (sym p))

-- ---- the lines

pub record IsFinalsFault (n states : ℕ) (before : Option ℕ) (line : ℕ) (bytes : List ℕ)
    (g : BinaryFault) : Type 0 where
  pub fs : List ℕ
  pub rest : List ℕ
  pub fewer : length fs < n
  pub good : AreFinals (length fs) states (least_behind before) fs
  pub is : bytes ≡ flat_map final_text fs ++ rest
  pub wrong : IsFinalFault states (last_or before fs) (line + length fs) rest g

final_moved : (states m n : ℕ) (before : Option ℕ) (bytes : List ℕ) (g : BinaryFault) → m ≡ n →
    IsFinalFault states before m bytes g → IsFinalFault states before n bytes g
final_moved states m n before bytes g e h =
    subst (λ (k : ℕ). IsFinalFault states before k bytes g) e h

no_finals : (states least : ℕ) → AreFinals 0 states least []
no_finals states least =
    record { counted = refl; ascend = tt; behind = λ s i. elim i [ ]; within = λ s i. elim i [ ] }

next_within : (states least line : ℕ) (bytes : List ℕ) (x : ℕ × List ℕ) →
    final_line states least line bytes ≡ Ok x → IsNextFinal states least x.0
next_within states least line bytes x is =
    ok_holds (final_line states least line bytes) x (λ y. IsNextFinal states least y.0)
    (next_final states least line bytes) is

next_small : (states least line : ℕ) (bytes : List ℕ) (x : ℕ × List ℕ) → states < 2 ^ 64 →
    final_line states least line bytes ≡ Ok x → least_behind (Some x.0) < 2 ^ 64
next_small states least line bytes x small is = let w : x.0 < states =
    (next_within states least line bytes x is).within in omega arith

more_fault : (n states line : ℕ) (before : Option ℕ) (bytes : List ℕ) (x : ℕ × List ℕ)
    (g : BinaryFault) → states < 2 ^ 64 → final_line states (least_behind before) line bytes ≡ Ok x
    → IsFinalsFault n states (Some x.0) (line + 1) x.1 g →
    IsFinalsFault (suc n) states before line bytes g
more_fault n states line before bytes x g small is later =
    let a : bytes ≡ final_text x.0 ++ x.1 =
    line_is_final states (least_behind before) line bytes x small is in
    let few : length later.fs < n = later.fewer in
    record {
      fs = x.0 ∷ later.fs;
      rest = later.rest;
      fewer = omega arith;
      good = more_finals (length later.fs) states (least_behind before) x.0 later.fs
          (next_within states (least_behind before) line bytes x is) later.good;
      is = a ∙ ap (λ z. final_text x.0 ++ z) later.is
          ∙ sym (append_assoc (final_text x.0) (flat_map final_text later.fs) later.rest);
      wrong = final_moved states (line + 1 + length later.fs) (line + suc (length later.fs))
          (last_or (Some x.0) later.fs) later.rest g (omega arith) later.wrong;
    }

pub finals_found : (n states line : ℕ) (before : Option ℕ) (bytes : List ℕ) (g : BinaryFault) →
    states < 2 ^ 64 → least_behind before < 2 ^ 64 →
    finals_in n states (least_behind before) line bytes ≡ Err g →
    IsFinalsFault n states before line bytes g
unfolding finals_in
finals_found zero states line before bytes g small near h =
    absurd (ok_no_err {A = List ℕ × List ℕ} ([], bytes) g h)
finals_found (suc n) states line before bytes g small near h =
    let F : Type 0 = ℕ × List ℕ in
    let V : Type 0 = List ℕ × List ℕ in
    let least : ℕ = least_behind before in
    elim (bound_err {A = F} {B = V} (final_line states least line bytes)
    (λ s. with_finals (s.0 ∷ []) (finals_in n states (s.0 + 1) (line + 1) s.1)) g h) [
      | inl k ↦ record {
        fs = [];
        rest = bytes;
        fewer = omega arith;
        good =
            no_finals states least;
        is = refl;
        wrong =
            final_moved states line (line + 0) before bytes g (omega arith)
            (final_line_found states line before bytes g small near k);
      }
      | inr b ↦ elim (bound_err {A = V} {B = V} (finals_in n states (b.x.0 + 1) (line + 1) b.x.1)
          (λ y. Ok ((b.x.0 ∷ []) ++ y.0, y.1)) g b.gives) [
            | inl k ↦ more_fault n states line before bytes b.x g small b.is
                (finals_found n states (line + 1) (Some b.x.0) b.x.1 g small
                (next_small states least line bytes b.x small b.is) k)
            | inr c ↦ absurd (ok_no_err {A = V} ((b.x.0 ∷ []) ++ c.x.0, c.x.1) g c.gives)
          ]
    ]

rest_finals : (states least s : ℕ) (fs : List ℕ) → AreFinals (length (s ∷ fs)) states least (s ∷ fs)
    → AreFinals (length fs) states (s + 1) fs
rest_finals states least s fs are = record {
  counted = refl;
  ascend = are.ascend.1;
  behind = λ d i. let lt : s < d = less_from_cmp s d (are.ascend.0 d i) in omega arith;
  within = λ d i. are.within d (inr i);
}

pub finals_given : (n states line : ℕ) (before : Option ℕ) (fs bytes rest : List ℕ)
    (g : BinaryFault) → states < 2 ^ 64 → least_behind before < 2 ^ 64 → length fs < n →
    AreFinals (length fs) states (least_behind before) fs
    → bytes ≡ flat_map final_text fs ++ rest →
    IsFinalFault states (last_or before fs) (line + length fs) rest g →
    finals_in n states (least_behind before) line bytes ≡ Err g
unfolding finals_in
finals_given zero states line before fs bytes rest g small near few good is wrong =
    absurd (omega arith)
finals_given (suc n) states line before [] bytes rest g small near few good is wrong =
    let first : final_line states (least_behind before) line rest ≡ Err g =
    final_line_given states line before rest g small near
    (final_moved states (line + 0) line before rest g (omega arith) wrong) in
    ap (finals_in (suc n) states (least_behind before) line) is ∙ rw first refl
finals_given (suc n) states line before (s ∷ fs) bytes rest g small near few good is wrong =
    let more : List ℕ = flat_map final_text fs ++ rest in
    let least : ℕ = least_behind before in
    let le : least ≤ s = good.behind s (inl refl) in
    let lt : s < states = good.within s (inl refl) in
    let a : nat_le least s ≡ true = grind (arith, nat_tests, le) in
    let b : nat_lt s states ≡ true = grind (arith, nat_tests, lt) in
    let first : final_line states least line (final_text s ++ more) ≡ Ok (s, more) =
    line_final states least line (final_text s ++ more) (s, more)
    (final_back s more (omega arith)) a b in
    let later : finals_in n states (s + 1) (line + 1) more ≡ Err g =
    finals_given n states (line + 1) (Some s) fs more rest g small (omega arith) (omega arith)
    (rest_finals states least s fs good) refl
    (final_moved states (line + suc (length fs)) (line + 1 + length fs) (last_or (Some s) fs)
    rest g (omega arith) wrong) in
    ap (finals_in (suc n) states least line)
    (is ∙ append_assoc (final_text s) (flat_map final_text fs) rest) ∙ rw (first, later) refl
