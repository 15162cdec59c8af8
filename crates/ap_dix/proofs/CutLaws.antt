-- The pieces of a text, step by step and by the grammar.
use Rattle.std.proofs.Common.{◌≡◌, inl, inr, ℕ, Bool, true, false, List, [], ◌∷◌, ◌++◌, refl, sym, ◌∙◌, ap, subst, append_assoc, Some, None}
use Rattle.std.specs.Prelude.{if◌then◌else◌, IsTrue, not, ◌==◌}
use Rattle.std.proofs.lemmas.Bool.{cases_eq, not-true, eqb-true, ne_eqb, false≢true}
use Rattle.ap_symbol.specs.Words.{is_white}
use Rattle.ap_dix.specs.Grammar.{IsPieces, nothing, skipped, itself, escaped, piece, is_skipped}
use Rattle.ap_dix.specs.Machines.{Cut, cut_step, cut_end, pieces_of, run}
use Rattle.ap_dix.specs.declared.pieces.Piece.{Piece}
use Rattle.ap_dix.proofs.Runs.{run_then, run_keeps, none_else, one_of_two, taken, left_out, CameFrom, came_from, goes_on}

abbrev cut : List Piece → Bool → Cut
cut made escaping = record { made = made; escaping = escaping }

-- the text as far as the sign that stands before the next character
record IsWaiting (seen : List ℕ) (made : List Piece) : Type 0 where
  front : List ℕ
  whole : seen ≡ front ++ 92 ∷ []
  cut : IsPieces front made

abbrev IsSeenAs : List ℕ → List Piece → Bool → Type 0
IsSeenAs seen made true = IsWaiting seen made
IsSeenAs seen made false = IsPieces seen made

abbrev IsSeen : List ℕ → Cut → Type 0
IsSeen seen s = IsSeenAs seen s.made s.escaping

same_cut : (s t : Cut) → Some s ≡ Some t → s ≡ t
same_cut s t e = cc

cut_waits : (seen : List ℕ) (made : List Piece) (c : ℕ) (t : Cut) → IsWaiting seen made →
    (if is_white c then None else Some (cut (made ++ piece c true ∷ []) false)) ≡ Some t →
    IsSeen (seen ++ c ∷ []) t
cut_waits seen made c t w e =
    let q = none_else (is_white c) (Some (cut (made ++ piece c true ∷ []) false)) t e in
    let whole : seen ++ c ∷ [] ≡ w.front ++ 92 ∷ c ∷ [] = ap (λ z. z ++ c ∷ []) w.whole
    ∙ append_assoc w.front (92 ∷ []) (c ∷ []) in
    let dark : IsTrue (not (is_white c)) = ap not q.0 in
    subst (IsSeen (seen ++ c ∷ [])) (same_cut (cut (made ++ piece c true ∷ []) false) t q.1)
    (escaped c w.cut dark whole refl)

cut_goes : (seen : List ℕ) (made : List Piece) (c : ℕ) (t : Cut) → IsPieces seen made
    → (if c == 92 then Some (cut made true)
    else (if is_skipped c then Some (cut made false)
    else Some (cut (made ++ piece c false ∷ []) false))) ≡ Some t → IsSeen (seen ++ c ∷ []) t
cut_goes seen made c t h e =
    elim (one_of_two (c == 92) (Some (cut made true)) (if is_skipped c then Some (cut made false)
    else Some (cut (made ++ piece c false ∷ []) false)) t e) [
      | inl p ↦
          let is : c ≡ 92 = eqb-true c 92 p.0 in
          subst (IsSeen (seen ++ c ∷ [])) (same_cut (cut made true) t p.1)
          (record { front = seen; whole = ap (λ z. seen ++ z ∷ []) is; cut = h })
      | inr p ↦ elim (one_of_two (is_skipped c) (Some (cut made false))
          (Some (cut (made ++ piece c false ∷ []) false)) t p.1) [
            | inl q ↦ subst (IsSeen (seen ++ c ∷ [])) (same_cut (cut made false) t q.1)
                (skipped c h q.0 refl)
            | inr q ↦ subst (IsSeen (seen ++ c ∷ []))
                (same_cut (cut (made ++ piece c false ∷ []) false) t q.1)
                (itself c h (ap not q.0) (ap not p.0) refl refl)
          ]
    ]

cut_keeps : (seen : List ℕ) (s : Cut) (c : ℕ) (t : Cut) → IsSeen seen s → cut_step s c ≡ Some t →
    IsSeen (seen ++ c ∷ []) t
cut_keeps seen s c t h e =
    let P : Bool → Type 0 = λ b. IsSeenAs seen s.made b → cut_step (cut s.made b) c ≡ Some t →
    IsSeen (seen ++ c ∷ []) t in
    let each : (b : Bool) → P b =
    λ b. elim b as (λ v. IsSeenAs seen s.made v → cut_step (cut s.made v) c ≡ Some t →
    IsSeen (seen ++ c ∷ []) t) [
      | true ↦ cut_waits seen s.made c t
      | false ↦ cut_goes seen s.made c t
    ] in
    each s.escaping h e

settled : (seen : List ℕ) (s : Cut) (made : List Piece) → IsSeen seen s → cut_end s ≡ Some made →
    IsPieces seen made
settled seen s made h e =
    let each : (b : Bool) → IsSeenAs seen s.made b → cut_end (cut s.made b) ≡ Some made →
    IsPieces seen made = λ b. elim b as (λ v. IsSeenAs seen s.made v →
    cut_end (cut s.made v) ≡ Some made → IsPieces seen made) [
      | true ↦ λ w q. let no : ⊥ = cc in absurd no
      | false ↦ λ w q. let same : s.made ≡ made = cc in subst (IsPieces seen) same w
    ] in
    each s.escaping h e

-- the pieces that are read are those of the grammar
pub pieces-sound : (text : List ℕ) (pieces : List Piece) → pieces_of text ≡ Some pieces →
    IsPieces text pieces
unfolding pieces_of
pieces-sound text pieces e =
    let f : CameFrom (run cut_step (Some (cut [] false)) text) cut_end pieces =
    came_from (run cut_step (Some (cut [] false)) text) cut_end pieces e in
    settled text f.value pieces
    (run_keeps cut_step IsSeen cut_keeps (cut [] false) f.value text nothing f.was) f.gave

skipped_step : (made : List Piece) (c : ℕ) → IsTrue (is_skipped c) → cut_step (cut made false) c
    ≡ Some (cut made false)
skipped_step made c h =
    elim (cases_eq c 92) [
      | inl e ↦ let no : is_skipped 92 ≡ true = subst (λ z. is_skipped z ≡ true) e h in
          absurd (false≢true no)
      | inr n ↦ left_out (c == 92) (Some (cut made true)) _ (ne_eqb c 92 n)
          ∙ taken (is_skipped c) (Some (cut made false)) _ h
    ]

itself_step : (made : List Piece) (c : ℕ) → IsTrue (not (is_skipped c)) → IsTrue (not (c == 92)) →
    cut_step (cut made false) c ≡ Some (cut (made ++ piece c false ∷ []) false)
itself_step made c h k =
    left_out (c == 92) (Some (cut made true)) (if is_skipped c then Some (cut made false)
    else Some (cut (made ++ piece c false ∷ []) false)) (not-true (c == 92) k)
    ∙ left_out (is_skipped c) (Some (cut made false))
    (Some (cut (made ++ piece c false ∷ []) false)) (not-true (is_skipped c) h)

escaped_step : (made : List Piece) (c : ℕ) → IsTrue (not (is_white c)) → cut_step (cut made true) c
    ≡ Some (cut (made ++ piece c true ∷ []) false)
escaped_step made c h = left_out (is_white c) None (Some (cut (made ++ piece c true ∷ []) false))
    (not-true (is_white c) h)

cut_reads : (text : List ℕ) (pieces : List Piece) → IsPieces text pieces →
    run cut_step (Some (cut [] false)) text ≡ Some (cut pieces false)
cut_reads text pieces nothing = refl
cut_reads text pieces (skipped {text = front} c h k w) =
    run_then cut_step (Some (cut [] false)) (Some (cut pieces false)) (Some (cut pieces false))
    front (c ∷ []) text (cut_reads front pieces h) (skipped_step pieces c k) w
cut_reads text pieces (itself {text = front} {pieces = before} c h k n w a) =
    run_then cut_step (Some (cut [] false)) (Some (cut before false)) (Some (cut pieces false))
    front (c ∷ []) text (cut_reads front before h) (itself_step before c k n
    ∙ ap (λ z. Some (cut z false)) (sym a)) w
cut_reads text pieces (escaped {text = front} {pieces = before} c h k w a) =
    run_then cut_step (Some (cut [] false)) (Some (cut before false)) (Some (cut pieces false))
    front (92 ∷ c ∷ []) text (cut_reads front before h) (escaped_step before c k
    ∙ ap (λ z. Some (cut z false)) (sym a)) w

-- and the pieces of the grammar are read
pub pieces-complete : (text : List ℕ) (pieces : List Piece) → IsPieces text pieces →
    pieces_of text ≡ Some pieces
unfolding pieces_of
pieces-complete text pieces h =
    goes_on (run cut_step (Some (cut [] false)) text) cut_end (cut pieces false) (Some pieces)
    (cut_reads text pieces h) refl
