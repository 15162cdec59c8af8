use Rattle.std.proofs.Common.{◌≡◌, ℕ, ◌+◌, ◌-◌, ◌<◌, ◌≤◌, List, [], ◌∷◌, ◌++◌, length, get_or, take, drop, sym, ap, ◌∙◌, arith, length-drop}
use Rattle.std.proofs.lemmas.List.{take_more, get_or-drop}
use Rattle.ap_symbol.specs.declared.symbol.Symbol.{Symbol}

-- a symbol more of a part of a word
pub part_more : (word made : List Symbol) (from at : ℕ) (x : Symbol) → from ≤ at →
    at < length word → x ≡ get_or word at x → made ≡ take (at - from) (drop from word) →
    made ++ x ∷ [] ≡ take (at + 1 - from) (drop from word)
part_more word made from at x above more e is =
    let l = length-drop from word in
    let there : get_or (drop from word) (at - from) x ≡ x = get_or-drop from word (at - from) x
    ∙ ap (λ k. get_or word k x) (let k : from + (at - from) ≡ at = omega (arith, above) in
    k) ∙ sym e in
    ap (λ z. z ++ x ∷ []) is ∙ ap (λ y. take (at - from) (drop from word) ++ y ∷ []) (sym there)
    ∙ sym (take_more (drop from word) (at - from) x (omega (arith, l, above, more)))
    ∙ ap (λ k. take k (drop from word)) (let k : (at - from) + 1 ≡ at + 1 - from =
    omega (arith, above) in k)
