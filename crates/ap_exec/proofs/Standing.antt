-- A part that is put in its own place changes nothing.
use Rattle.std.proofs.Common.{◌≡◌, ℕ, ◌+◌, ◌-◌, ◌≤◌, nat_le, true, if◌then◌else◌, Bool, List, ◌++◌, length, take, drop, ap, sym, append_assoc, ◌∙◌, arith}
use Rattle.std.proofs.lemmas.List.{take-append-drop, drop-drop, length-take, length-drop}
use Rattle.ap_symbol.specs.declared.symbol.Symbol.{Symbol}
use Rattle.ap_rules.specs.declared.value.Side.TheVariants.{Source, Target}
use Rattle.ap_exec.specs.Parts.{Span, cut}
use Rattle.ap_exec.specs.Units.{Shown}
use Rattle.ap_exec.specs.Writing.{moved, spliced, replaced}
use Rattle.ap_exec.proofs.Borders.{le_true}

put_back : (span : Span) (value word : List Symbol) → value ≡ cut span word →
    spliced span value word ≡ word
put_back span value word is =
    let rest = drop (span.start + span.count) word in
    ap (λ (v : List Symbol). take span.start word ++ v ++ rest) is
    ∙ append_assoc (take span.start word) (cut span word) rest
    ∙ ap (λ (xs : List Symbol). take span.start word ++ (cut span word ++ xs))
    (sym (drop-drop span.count span.start word))
    ∙ ap (λ (xs : List Symbol). take span.start word ++ xs)
    (take-append-drop span.count (drop span.start word))
    ∙ take-append-drop span.start word

pub source_stays : (span : Span) (value : List Symbol) (unit : Shown) →
    value ≡ cut span unit.source → replaced Source span value unit ≡ unit
source_stays span value unit is = ap (λ (w : List Symbol). record unit { source = w })
    (put_back span value unit.source is)

border_stays : (span : Span) (size border : ℕ) → size ≡ span.count →
    span.start + span.count ≤ border → moved span size border ≡ border
border_stays span size border same within =
    let back : border - span.count + size ≡ border = omega arith in
    ap (λ (b : Bool). if b then border - span.count + size
    else (if nat_le border span.start then border else span.start + size))
    (le_true (span.start + span.count) border within) ∙ back

pub target_stays : (span : Span) (value : List Symbol) (unit : Shown) →
    value ≡ cut span unit.target → span.start + span.count ≤ unit.border →
    span.start + span.count ≤ length unit.target → replaced Target span value unit ≡ unit
target_stays span value unit is within ranged =
    let size : length value ≡ span.count =
    let t = length-take span.count (drop span.start unit.target) in
    let d = length-drop span.start unit.target in
    omega (arith, ap length is, t, d) in
    ap (λ (w : List Symbol). record unit {
      target = w;
      border = moved span (length value) unit.border;
    }) (put_back span value unit.target is)
    ∙ ap (λ (b : ℕ). record unit { border = b })
    (border_stays span (length value) unit.border size within)
