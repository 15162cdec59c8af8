-- What an edge writes, by the code of its right side, and the bytes of that.
use Rattle.std.proofs.Common.{◌≡◌, ◌+◌, ◌<◌, ◌≤◌, ◌++◌, ◌∷◌, ◌∙◌, [], List, None, Option, Some, ap, append-nil, arith, length, refl, slice_get, sym, ℕ}
use Rattle.std.specs.Option.{option_to_list}
use Rattle.std.proofs.lemmas.Option.{slice_get_within}
use Rattle.ap_symbol.specs.Rendering.{letter_bytes, rendering}
use Rattle.ap_symbol.specs.declared.symbol.Symbol.{Symbol}
use Rattle.ap_symbol.specs.declared.symbol.Symbol.TheVariants.{Letter}
use Rattle.ap_fst.specs.declared.label.Edge.{Edge}
use Rattle.ap_live.specs.Heads.{written_by}
use Rattle.ap_live.specs.Outlines.{HasRight, side_code}
use Rattle.ap_live.proofs.Outlining.{code_of_letter, code_of_none, some_at}

nothing_written : (word : List Symbol) (o : Option Edge) →
    ((e : Edge) → o ≡ Some e → e.label.right ≡ None) → word ≡ word ++ written_by o
nothing_written word None none = sym (append-nil word)
nothing_written word (Some e) none =
    sym (ap (λ (x : Option Symbol). word ++ option_to_list x) (none e refl) ∙ append-nil word)

pub beyond_written : (edges : List Edge) (place : ℕ) (word : List Symbol) → length edges ≤ place →
    word ≡ word ++ written_by (slice_get edges place)
beyond_written edges place word beyond = nothing_written word (slice_get edges place)
    (λ e at. let within : place < length edges = slice_get_within edges place e at in
    absurd (omega arith))

-- where the code is that of an empty side
pub empty_written : (edges : List Edge) (place code : ℕ) (word : List Symbol) → code ≡ 0 →
    ((e : Edge) → slice_get edges place ≡ Some e → side_code e.label.right ≡ code) →
    word ≡ word ++ written_by (slice_get edges place)
empty_written edges place code word empty is = nothing_written word (slice_get edges place)
    (λ e at. code_of_none e.label.right (is e at ∙ empty))

-- where it is that of a letter
pub letter_written : (edges : List Edge) (place code c : ℕ) (word new : List Symbol) →
    place < length edges → code ≡ c + 1 → code < 2097152 →
    ((e : Edge) → slice_get edges place ≡ Some e → side_code e.label.right ≡ code) →
    new ≡ word ++ Letter c ∷ [] → new ≡ word ++ written_by (slice_get edges place)
letter_written edges place code c word new within same small is made =
    let (e, at) = some_at edges place within in
    let right : e.label.right ≡ Some (Letter c) =
    code_of_letter c e.label.right (omega arith) (is e at ∙ same) in
    made ∙ sym (ap (λ (o : Option Edge). word ++ written_by o) at
    ∙ ap (λ (x : Option Symbol). word ++ option_to_list x) right)

-- Edges with the same right side write the same.
pub like_written : (edges : List Edge) (place like : ℕ) (side : Option Symbol) →
    HasRight edges place side → HasRight edges like side →
    written_by (slice_get edges like) ≡ written_by (slice_get edges place)
like_written edges place like side (e, (at, is)) (d, (at', is')) =
    ap written_by at' ∙ ap (λ (x : Option Symbol). option_to_list x) (is' ∙ sym is)
    ∙ sym (ap written_by at)

-- ---- the bytes of what it writes

pub empty_bytes : (edges : List Edge) (place code : ℕ) (bytes : List ℕ) → code ≡ 0 →
    ((e : Edge) → slice_get edges place ≡ Some e → side_code e.label.right ≡ code) →
    bytes ≡ bytes ++ rendering (written_by (slice_get edges place))
empty_bytes edges place code bytes empty is =
    let none : [] ≡ written_by (slice_get edges place) = empty_written edges place code [] empty is in
    sym (append-nil bytes) ∙ ap (λ z. bytes ++ rendering z) none

pub letter_spelt : (edges : List Edge) (place code c : ℕ) (bytes new : List ℕ) →
    place < length edges → code ≡ c + 1 → code < 2097152 →
    ((e : Edge) → slice_get edges place ≡ Some e → side_code e.label.right ≡ code) →
    new ≡ bytes ++ letter_bytes c → new ≡ bytes ++ rendering (written_by (slice_get edges place))
letter_spelt edges place code c bytes new within same small is made =
    let one : Letter c ∷ [] ≡ written_by (slice_get edges place) =
    letter_written edges place code c [] (Letter c ∷ []) within same small is refl in
    made ∙ ap (λ z. bytes ++ z) (sym (append-nil (letter_bytes c)))
    ∙ ap (λ z. bytes ++ rendering z) one
