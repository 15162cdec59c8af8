-- A kept name of a tag that bytes begin with.
use Rattle.std.proofs.Common.{◌≡◌, ℕ, suc, ◌+◌, ◌<◌, ◌≤◌, true, false, eqb, List, ◌∷◌, ◌++◌, length, take, drop, get_or, sym, ap, ◌∙◌, refl, arith, length-append}
use Rattle.std.specs.Str.{bytes_eq, encode_utf8_all}
use Rattle.std.proofs.Math.Seq.{drop-cons, take-append_seam}
use Rattle.std.proofs.lemmas.List.{take-append-drop}
use Rattle.std.proofs.lemmas.Slice.Eq.{bytes_eq-Decides}
use Rattle.std.proofs.lemmas.Bool.Decides.{nat_tests}
use Rattle.ap_symbol.specs.declared.symbol.Symbol.TheVariants as symbol
use Rattle.ap_symbol.specs.Coded.{AreNamed}
use Rattle.ap_stream.specs.Units.{name, of_name, Reads}
use Rattle.ap_stream.specs.UnitBytes.{Heads}
use Rattle.ap_stream.proofs.Back.{named_on, some_named}

pub begins_with : (bytes text : List ℕ) → length text < length bytes → get_or bytes (length text) 0
    ≡ 62 → bytes_eq (take (length text) bytes) text ≡ true → (x : List ℕ) × (bytes ≡ text ++ 62 ∷ x)
begins_with bytes text more at e =
    let same : take (length text) bytes ≡ text =
    (bytes_eq-Decides (take (length text) bytes) text).0 e in
    let rest : drop (length text) bytes ≡ 62 ∷ drop (suc (length text)) bytes =
    drop-cons bytes (length text) 0 more ∙ ap (λ c. c ∷ drop (suc (length text)) bytes) at in (
      drop (suc (length text)) bytes,
      sym (take-append-drop (length text) bytes)
          ∙ ap (λ q. q ++ drop (length text) bytes) same ∙ ap (λ q. text ++ q) rest,
    )

named_tag : (cs x : List ℕ) → AreNamed cs → 0 < length cs →
    of_name (encode_utf8_all cs ++ 62 ∷ x) (name 0 (encode_utf8_all cs ++ 62 ∷ x))
    ≡ Reads (symbol.Tag (encode_utf8_all cs)) (2 + length (encode_utf8_all cs))
named_tag cs x h some =
    let full : eqb (length (encode_utf8_all cs)) 0 ≡ false = let m = some_named cs h some in
    grind (arith, nat_tests, m) in
    let front : take (length (encode_utf8_all cs)) (encode_utf8_all cs ++ (62 ∷ x))
    ≡ encode_utf8_all cs = take-append_seam (encode_utf8_all cs) (62 ∷ x) in
    ap (of_name (encode_utf8_all cs ++ 62 ∷ x)) (named_on cs x h) ∙ rw (full, front) refl

pub heads_tag : (bytes text : List ℕ) → Heads bytes text →
    (of_name bytes (name 0 bytes) ≡ Reads (symbol.Tag text) (2 + length text))
    × (2 + length text ≤ 1 + length bytes)
heads_tag bytes text h =
    let cs : List ℕ = h.1.0 in
    let is : bytes ≡ encode_utf8_all h.1.0 ++ 62 ∷ h.0.0 =
    h.0.1 ∙ ap (λ q. q ++ 62 ∷ h.0.0) h.1.1 in
    let size : length bytes ≡ length text + suc (length h.0.0) =
    ap length h.0.1 ∙ length-append text (62 ∷ h.0.0) in (
      ap (λ q. of_name q (name 0 q)) is ∙ named_tag h.1.0 h.0.0 h.1.2 h.1.3
          ∙ ap (λ q. Reads (symbol.Tag q) (2 + length q)) (sym h.1.1),
      omega (arith, size),
    )
