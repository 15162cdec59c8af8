-- A text of pairs, line by line.
use Rattle.std.specs.Prelude.{◌≡◌, ℕ, suc, ◌+◌, ◌-◌, ◌<◌, ◌≤◌, eqb, Bool, true, false, not, cond, List, [], ◌∷◌, ◌++◌, length, take, drop, refl}
use Rattle.std.specs.List.{prefix_len}
use Rattle.std.proofs.Common.{arith, ap, sym, subst, ◌∙◌, inl, inr, append_assoc}
use Rattle.std.proofs.lemmas.List.{append-nil, drop-drop, drop_all, length-drop}
use Rattle.std.proofs.lemmas.Bool.{cases_lt}
use Rattle.ap_stream.proofs.SignLaws.{slice_rest}
use Rattle.ap_choose.specs.declared.forbidden.Pair.{Pair}
use Rattle.ap_choose.specs.Pairs.{in_front, lines, Says, Say, none, next, IsBad, IsFirstBadOf}

abbrev pub line_length : List ℕ → ℕ
line_length text = prefix_len (λ b. not (eqb b 10)) text

-- the first line, and those behind it
lines_by : (b : ℕ) (c : Bool) (n : ℕ) (text : List ℕ) →
    (n < length text → lines text ≡ take n text ∷ lines (drop (n + 1) text))
    → cond (not c) (1 + n) 0 < suc (length text)
    → cond c ([] ∷ lines text) (in_front b (lines text)) ≡ take (cond (not c) (1 + n) 0)
    (b ∷ text) ∷ lines (drop (cond (not c) (1 + n) 0 + 1) (b ∷ text))
lines_by b true n text h lt = refl
lines_by b false n text h lt =
    let one : 1 + n ≡ suc n = omega arith in
    let two : 1 + n + 1 ≡ suc (n + 1) = omega arith in
    ap (in_front b) (h (omega (arith, lt)))
    ∙ ap (λ (m : ℕ). take m (b ∷ text) ∷ lines (drop (n + 1) text)) (sym one)
    ∙ ap (λ (m : ℕ). take (1 + n) (b ∷ text) ∷ lines (drop m (b ∷ text))) (sym two)

pub lines_more : (text : List ℕ) → line_length text < length text →
    lines text ≡ take (line_length text) text ∷ lines (drop (line_length text + 1) text)
lines_more [] lt = absurd (omega arith)
lines_more (b ∷ text) lt = lines_by b (eqb b 10) (line_length text) text (lines_more text) lt

last_by : (b : ℕ) (c : Bool) (n : ℕ) (text : List ℕ) → (n ≡ length text → lines text ≡ text ∷ []) →
    cond (not c) (1 + n) 0 ≡ suc (length text) → cond c ([] ∷ lines text) (in_front b (lines text))
    ≡ (b ∷ text) ∷ []
last_by b true n text h e = absurd (omega (arith, e))
last_by b false n text h e = ap (in_front b) (h (omega (arith, e)))

pub lines_last : (text : List ℕ) → line_length text ≡ length text → lines text ≡ text ∷ []
lines_last [] e = refl
lines_last (b ∷ text) e = last_by b (eqb b 10) (line_length text) text (lines_last text) e

-- what the lines from a place on say is what the text says behind what was found, and their first
-- bad line is the text's
pub record IsSoFar (text : List ℕ) (at line : ℕ) (found : List Pair) : Type 0 where
  pub within : at ≤ length text
  pub count : line ≤ at + 1
  pub said : (more : List Pair) → Say (lines (drop at text)) more → Say (lines text) (found ++ more)
  pub bad : (n : ℕ) → IsFirstBadOf (lines (drop at text)) (suc n) →
      IsFirstBadOf (lines text) (line + n)

empty_says : Says [] []
empty_says = record { utf8 = ([], (refl, refl)); shape = inl refl }

pub at_end : (text : List ℕ) (at line : ℕ) (found : List Pair) → length text ≤ at →
    IsSoFar text at line found → Say (lines text) found
at_end text at line found le h =
    let rest : lines (drop at text) ≡ [] ∷ [] = ap lines (drop_all at text le) in
    subst (λ (pairs : List Pair). Say (lines text) pairs) (append-nil found)
    (h.said [] (next [] [] [] [] rest refl empty_says (none refl refl)))

module _ (text : List ℕ) (at line : ℕ) (found : List Pair) (h : IsSoFar text at line found)
    (lt : at < length text) (size : ℕ) (s : size ≡ line_length (drop at text)) (row : List ℕ)
    (r : row ≡ take size (drop at text)) where
  left : length (drop at text) ≡ length text - at
  left = length-drop at text

  row_last : at + size ≡ length text → lines (drop at text) ≡ row ∷ []
  row_last e =
      let whole : line_length (drop at text) ≡ length (drop at text) = omega (arith, s, e, left) in
      let all : row ≡ drop at text = r ∙ ap (λ (n : ℕ). take n (drop at text)) (s ∙ whole)
      ∙ take_whole (drop at text) in
      lines_last (drop at text) whole ∙ ap (λ (q : List ℕ). q ∷ []) (sym all)
    where
      take_whole : (xs : List ℕ) → take (length xs) xs ≡ xs
      take_whole [] = refl
      take_whole (x ∷ xs) = ap (λ (q : List ℕ). x ∷ q) (take_whole xs)

  row_more : at + size < length text → lines (drop at text)
      ≡ row ∷ lines (drop (at + size + 1) text)
  row_more less =
      let short : line_length (drop at text) < length (drop at text) =
      omega (arith, s, less, left) in
      let place : at + (size + 1) ≡ at + size + 1 = omega arith in
      lines_more (drop at text) short
      ∙ ap (λ (n : ℕ). take n (drop at text) ∷ lines (drop (n + 1) (drop at text))) (sym s)
      ∙ ap (λ (q : List ℕ). q ∷ lines (drop (size + 1) (drop at text))) (sym r)
      ∙ ap (λ (q : List ℕ). row ∷ lines q) (drop-drop (size + 1) at text
      ∙ ap (λ (n : ℕ). drop n text) place)

  -- a bad line is the first one
  pub bad_here : at + size ≤ length text → IsBad row → IsFirstBadOf (lines text) line
  bad_here le bad =
      let zero : line + 0 ≡ line = omega arith in
      subst (IsFirstBadOf (lines text)) zero (h.bad 0 (elim (cases_lt (at + size) (length text)) [
        | inl less ↦ record {
          before = [];
          line = row;
          after = lines (drop (at + size + 1) text);
          split = row_more less;
          count = refl;
          fine = tt;
          bad = bad;
        }
        | inr ge ↦ record {
          before = [];
          line = row;
          after = [];
          split =
              row_last (omega (arith, le, ge));
          count = refl;
          fine = tt;
          bad = bad;
        }
      ]))

  module _ (own new : List Pair) (says : Says row own) (n : new ≡ found ++ own) where
    pub said_last : at + size ≡ length text → Say (lines text) new
    said_last e =
        subst (λ (pairs : List Pair). Say (lines text) pairs) (ap (λ (q : List Pair). found ++ q)
        (append-nil own) ∙ sym n)
        (h.said (own ++ []) (next row [] own [] (row_last e) refl says (none refl refl)))

    pub so_far : at + size < length text → IsSoFar text (at + size + 1) (line + 1) new
    so_far less = record {
      within = omega (arith, less);
      count = let c = h.count in omega (arith, c);
      said = λ more k.
          subst (λ (pairs : List Pair). Say (lines text) pairs) (sym (append_assoc found own more)
          ∙ ap (λ (q : List Pair). q ++ more) (sym n))
          (h.said (own ++ more) (next row (lines (drop (at + size + 1) text)) own more
          (row_more less) refl says k));
      bad = λ m k.
          let on : line + suc m ≡ line + 1 + m = omega arith in
          subst (IsFirstBadOf (lines text)) on (h.bad (suc m) (record {
            before = row ∷ k.before;
            line = k.line;
            after = k.after;
            split = row_more less ∙ ap (λ (q : List (List ℕ)). row ∷ q) k.split;
            count = ap suc k.count;
            fine = ((own, says), k.fine);
            bad = k.bad;
          }));
    }

pub within_text : (text : List ℕ) (at size : ℕ) → at < length text →
    size ≤ length (take (length text - at) (drop at text)) → at + size ≤ length text
within_text text at size lt le =
    let a : length (take (length text - at) (drop at text)) ≡ length (drop at text) =
    ap length (slice_rest text at) in
    let b = length-drop at text in
    omega (arith, lt, le, a, b)

pub less_text : (all n : ℕ) → n ≤ all → (n ≡ all → ⊥) → n < all
less_text all n le differs = elim (cases_lt n all) [
  | inl lt ↦ lt
  | inr ge ↦ absurd (differs (omega (arith, le, ge)))
]
