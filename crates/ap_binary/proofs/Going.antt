-- Reading line by line: what was read so far, and the rest.
use Rattle.std.proofs.Common.{◌≡◌, ℕ, suc, zero, ◌+◌, ◌-◌, ◌<◌, ◌≤◌, List, [], ◌∷◌, ◌++◌, length, refl, sym, ◌∙◌, ap, append_assoc, append-nil, arith, Option, Some, slice_get, Result, Ok, Err, length-append}
use Rattle.ap_fst.specs.declared.label.Edge.{Edge}
use Rattle.ap_binary.specs.Lines.{FailsBy, edge_line, with_edges, edges_in, final_line, with_finals, finals_in}
use Rattle.ap_binary.specs.declared.refusal.BinaryFault.{BinaryFault}
use Rattle.ap_binary.specs.declared.refusal.BinaryRefusal.{BinaryRefusal}
use Rattle.ap_binary.specs.declared.refusal.BinaryRefusal.TheVariants.{Fault, Memory}

-- the last item, if there is one
abbrev pub last_of : {X : Type 0} → List X → Option X
last_of xs = slice_get xs (length xs - 1)

at_end : {X : Type 0} (xs : List X) (x : X) → slice_get (xs ++ x ∷ []) (length xs) ≡ Some x
at_end [] x = refl
at_end (y ∷ xs) x = at_end xs x

pub last_pushed : {X : Type 0} (xs : List X) (x : X) → last_of (xs ++ x ∷ []) ≡ Some x
last_pushed xs x =
    let n : length (xs ++ x ∷ []) ≡ length xs + 1 = length-append xs (x ∷ []) in
    let e : length (xs ++ x ∷ []) - 1 ≡ length xs = omega arith in
    ap (slice_get (xs ++ x ∷ [])) e ∙ at_end xs x

with_edges-append : (a b : List Edge) (r : Result (List Edge × List ℕ) BinaryFault) →
    with_edges a (with_edges b r) ≡ with_edges (a ++ b) r
with_edges-append a b (Err e) = refl
with_edges-append a b (Ok v) = rw append_assoc refl

pub edges_go : (found : List Edge) (count k states line : ℕ) (before : Option Edge)
    (rest next : List ℕ) (e : Edge) (all : Result (List Edge × List ℕ) BinaryFault) → k < count →
    before ≡ last_of found → edge_line states before (line + k) rest ≡ Ok (e, next)
    → with_edges found (edges_in (count - k) states (last_of found) (line + k) rest) ≡ all →
    with_edges (found ++ e ∷ [])
    (edges_in (count - (k + 1)) states (last_of (found ++ e ∷ [])) (line + (k + 1)) next) ≡ all
unfolding edges_in
edges_go found count k states line before rest next e all lt last read h =
    let m : ℕ = count - (k + 1) in
    let read' : edge_line states (last_of found) (line + k) rest ≡ Ok (e, next) =
    ap (λ (b : Option Edge). edge_line states b (line + k) rest) (sym last) ∙ read in
    let step : edges_in (suc m) states (last_of found) (line + k) rest
    ≡ with_edges (e ∷ []) (edges_in m states (Some e) (line + k + 1) next) = rw read' refl in
    let count' : count - k ≡ suc m = omega arith in
    let line' : line + (k + 1) ≡ line + k + 1 = omega arith in
    rw (last_pushed found e) (rw line' (
    sym (with_edges-append found (e ∷ []) (edges_in m states (Some e) (line + k + 1) next))
    ∙ ap (with_edges found) (sym step
    ∙ ap (λ n. edges_in n states (last_of found) (line + k) rest) (sym count')) ∙ h))

pub edges_stop : (r : BinaryRefusal) (found : List Edge) (count k states line : ℕ)
    (before : Option Edge) (rest : List ℕ) (all : Result (List Edge × List ℕ) BinaryFault) →
    k < count → before ≡ last_of found → FailsBy r (edge_line states before (line + k) rest)
    → with_edges found (edges_in (count - k) states (last_of found) (line + k) rest) ≡ all →
    FailsBy r all
unfolding edges_in
edges_stop Memory found count k states line before rest all lt last read h = tt
edges_stop (Fault f) found count k states line before rest all lt last read h =
    let m : ℕ = count - (k + 1) in
    let read' : edge_line states (last_of found) (line + k) rest ≡ Err f =
    ap (λ (b : Option Edge). edge_line states b (line + k) rest) (sym last) ∙ read in
    let step : edges_in (suc m) states (last_of found) (line + k) rest ≡ Err f = rw read' refl in
    let count' : count - k ≡ suc m = omega arith in
    sym h ∙ ap (with_edges found)
    (ap (λ n. edges_in n states (last_of found) (line + k) rest) count' ∙ step)

pub edges_done : (found : List Edge) (count k states line : ℕ) (rest : List ℕ)
    (all : Result (List Edge × List ℕ) BinaryFault) → count ≤ k
    → with_edges found (edges_in (count - k) states (last_of found) (line + k) rest) ≡ all →
    all ≡ Ok (found, rest)
unfolding edges_in
edges_done found count k states line rest all le h =
    let none : count - k ≡ zero = omega arith in
    sym h ∙ ap (λ n. with_edges found (edges_in n states (last_of found) (line + k) rest)) none
    ∙ ap (λ (z : List Edge). let r : Result (List Edge × List ℕ) BinaryFault = Ok (z, rest) in
    r) (append-nil found)

with_finals-append : (a b : List ℕ) (r : Result (List ℕ × List ℕ) BinaryFault) →
    with_finals a (with_finals b r) ≡ with_finals (a ++ b) r
with_finals-append a b (Err e) = refl
with_finals-append a b (Ok v) = rw append_assoc refl

pub finals_go : (found : List ℕ) (count k states least line : ℕ) (rest next : List ℕ) (s : ℕ)
    (all : Result (List ℕ × List ℕ) BinaryFault) → k < count →
    final_line states least (line + k) rest ≡ Ok (s, next)
    → with_finals found (finals_in (count - k) states least (line + k) rest) ≡ all →
    with_finals (found ++ s ∷ [])
    (finals_in (count - (k + 1)) states (s + 1) (line + (k + 1)) next) ≡ all
unfolding finals_in
finals_go found count k states least line rest next s all lt read h =
    let m : ℕ = count - (k + 1) in
    let step : finals_in (suc m) states least (line + k) rest
    ≡ with_finals (s ∷ []) (finals_in m states (s + 1) (line + k + 1) next) = rw read refl in
    let count' : count - k ≡ suc m = omega arith in
    let line' : line + (k + 1) ≡ line + k + 1 = omega arith in
    rw line' (
    sym (with_finals-append found (s ∷ []) (finals_in m states (s + 1) (line + k + 1) next))
    ∙ ap (with_finals found)
    (sym step ∙ ap (λ n. finals_in n states least (line + k) rest) (sym count')) ∙ h)

pub finals_stop : (r : BinaryRefusal) (found : List ℕ) (count k states least line : ℕ)
    (rest : List ℕ) (all : Result (List ℕ × List ℕ) BinaryFault) → k < count →
    FailsBy r (final_line states least (line + k) rest)
    → with_finals found (finals_in (count - k) states least (line + k) rest) ≡ all → FailsBy r all
unfolding finals_in
finals_stop Memory found count k states least line rest all lt read h = tt
finals_stop (Fault f) found count k states least line rest all lt read h =
    let m : ℕ = count - (k + 1) in
    let step : finals_in (suc m) states least (line + k) rest ≡ Err f = rw read refl in
    let count' : count - k ≡ suc m = omega arith in
    sym h ∙ ap (with_finals found)
    (ap (λ n. finals_in n states least (line + k) rest) count' ∙ step)

pub finals_done : (found : List ℕ) (count k states least line : ℕ) (rest : List ℕ)
    (all : Result (List ℕ × List ℕ) BinaryFault) → count ≤ k
    → with_finals found (finals_in (count - k) states least (line + k) rest) ≡ all →
    all ≡ Ok (found, rest)
unfolding finals_in
finals_done found count k states least line rest all le h =
    let none : count - k ≡ zero = omega arith in
    sym h ∙ ap (λ n. with_finals found (finals_in n states least (line + k) rest)) none
    ∙ ap (λ (z : List ℕ). let r : Result (List ℕ × List ℕ) BinaryFault = Ok (z, rest) in r)
    (append-nil found)
