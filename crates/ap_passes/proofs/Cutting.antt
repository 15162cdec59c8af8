-- A word that is split, part by part.
use Rattle.std.proofs.Common.{◌≡◌, ℕ, ◌+◌, ◌-◌, ◌<◌, ◌≤◌, Bool, true, false, cond, List, [], ◌∷◌, ◌++◌, length, get_or, take, drop, sym, ap, ◌∙◌, refl, arith}
use Rattle.std.specs.List.{filter}
use Rattle.std.proofs.lemmas.Bool.{cond-true, cond-false}
use Rattle.std.proofs.lemmas.List.{append-nil, append_assoc, at_drop_more, drop_all}
use Rattle.std.proofs.lemmas.List.Elements.{filter-append}
use Rattle.ap_symbol.specs.Kinds.{is_join}
use Rattle.ap_symbol.specs.declared.symbol.Symbol.{Symbol}
use Rattle.ap_symbol.proofs.Parts.{part_more}
use Rattle.ap_passes.specs.Passes.{spaced}
use Rattle.ap_passes.specs.Splitting.{between, in_front, between_joins, parts, parts_from, is_filled}
use Rattle.ap_passes.specs.Writing.{following}

pub between_more : (word : List Symbol) (from at : ℕ) (x : Symbol) → from ≤ at → at < length word →
    x ≡ get_or word at x → between from at word ++ x ∷ [] ≡ between from (at + 1) word
between_more word from at x above more is =
    part_more word (between from at word) from at x above more is refl

pub between_none : (n : ℕ) (word : List Symbol) → between n n word ≡ []
between_none n word = ap (λ k. take k (drop n word)) (let e : n - n ≡ 0 = omega arith in e)

in_front_twice : (a b : List Symbol) (words : List (List Symbol)) → in_front a (in_front b words)
    ≡ in_front (a ++ b) words
in_front_twice a b [] = refl
in_front_twice a b (word ∷ words) = ap (λ z. z ∷ words) (sym (append_assoc a b word))

in_front_nil_at : (b : Bool) (x : Symbol) (words : List (List Symbol)) →
    in_front [] (cond b ([] ∷ words) (in_front (x ∷ []) words))
    ≡ cond b ([] ∷ words) (in_front (x ∷ []) words)
in_front_nil_at true x words = refl
in_front_nil_at false x words = in_front_twice [] (x ∷ []) words

in_front_nil : (word : List Symbol) → in_front [] (between_joins word) ≡ between_joins word
in_front_nil [] = refl
in_front_nil (x ∷ word) = in_front_nil_at (is_join x) x (between_joins word)

joins_cut : (word : List Symbol) (at : ℕ) (x : Symbol) → at < length word → x ≡ get_or word at x →
    between_joins (drop at word)
    ≡ cond (is_join x) ([] ∷ between_joins (drop (at + 1) word))
    (in_front (x ∷ []) (between_joins (drop (at + 1) word)))
joins_cut word at x h is = at_drop_more between_joins word at x h
    ∙ ap (λ y. cond (is_join y) ([] ∷ between_joins (drop (at + 1) word))
    (in_front (y ∷ []) (between_joins (drop (at + 1) word)))) (sym is)

-- no Join at the place
pub parts_on : (word : List Symbol) (from at : ℕ) (x : Symbol) → from ≤ at → at < length word →
    x ≡ get_or word at x → is_join x ≡ false → parts_from from (at + 1) word
    ≡ parts_from from at word
parts_on word from at x above h is f =
    let rest : List (List Symbol) = between_joins (drop (at + 1) word) in
    let cut = joins_cut word at x h is
    ∙ cond-false (is_join x) ([] ∷ rest) (in_front (x ∷ []) rest) f in
    sym (ap (in_front (between from at word)) cut
    ∙ in_front_twice (between from at word) (x ∷ []) rest
    ∙ ap (λ z. in_front z rest) (between_more word from at x above h is))

-- a Join there ends a part
pub parts_at : (word : List Symbol) (from at : ℕ) (x : Symbol) → at < length word →
    x ≡ get_or word at x → is_join x ≡ true → parts_from from at word ≡ between from at word
    ∷ parts_from (at + 1) (at + 1) word
parts_at word from at x h is t =
    let rest : List (List Symbol) = between_joins (drop (at + 1) word) in
    let cut = joins_cut word at x h is
    ∙ cond-true (is_join x) ([] ∷ rest) (in_front (x ∷ []) rest) t in
    ap (in_front (between from at word)) cut
    ∙ ap (λ z. z ∷ rest) (append-nil (between from at word))
    ∙ ap (λ z. between from at word ∷ z)
    (sym (ap (λ z. in_front z rest) (between_none (at + 1) word)
    ∙ in_front_nil (drop (at + 1) word)))

-- the end too
pub parts_last : (word : List Symbol) (from : ℕ) → parts_from from (length word) word
    ≡ between from (length word) word ∷ []
parts_last word from =
    ap (λ z. in_front (between from (length word) word) (between_joins z))
    (drop_all (length word) word (omega arith))
    ∙ ap (λ z. z ∷ []) (append-nil (between from (length word) word))

-- which of them are filled
pub filled_at : (word : List Symbol) (from at : ℕ) (x : Symbol) → at < length word →
    x ≡ get_or word at x → is_join x ≡ true →
    filter is_filled (parts_from from at word) ≡ filter is_filled (between from at word ∷ [])
    ++ filter is_filled (parts_from (at + 1) (at + 1) word)
filled_at word from at x h is t = ap (filter is_filled) (parts_at word from at x h is t)
    ∙ filter-append is_filled (between from at word ∷ []) (parts_from (at + 1) (at + 1) word)

pub filled_by : (part : List Symbol) → 0 < length part → is_filled part ≡ true
filled_by [] h = absurd (omega (arith, h))
filled_by (x ∷ part) h = refl

following_none : (behind : Bool) → following behind [] ≡ []
following_none true = refl
following_none false = refl

-- the last part, behind those that stand already
pub ended : (word : List Symbol) (from at len : ℕ) (before now : Bool) (old into new : List ℕ) →
    at ≡ length word → len ≡ length word →
    new ++ following now [] ≡ into
    ++ following before (filter is_filled (between from len word ∷ []) ++ []) →
    into ++ following before (filter is_filled (parts_from from at word)) ≡ old
    ++ spaced (filter is_filled (parts word)) →
    new ≡ old ++ spaced (filter is_filled (parts word))
ended word from at len before now old into new a l e so_far =
    let last = append-nil (filter is_filled (between from len word ∷ []))
    ∙ ap (λ n. filter is_filled (between from n word ∷ [])) l
    ∙ ap (filter is_filled) (sym (parts_last word from))
    ∙ ap (λ n. filter is_filled (parts_from from n word)) (sym a) in
    sym (append-nil new) ∙ ap (λ z. new ++ z) (sym (following_none now)) ∙ e
    ∙ ap (λ z. into ++ following before z) last ∙ so_far

-- a symbol more of those that are appended
pub pushed_more : (word old into : List Symbol) (from at : ℕ) (x : Symbol) → from ≤ at →
    at < length word → x ≡ get_or word at x → into ≡ old ++ between from at word →
    into ++ x ∷ [] ≡ old ++ between from (at + 1) word
pushed_more word old into from at x above more is e =
    ap (λ z. z ++ x ∷ []) e ∙ append_assoc old (between from at word) (x ∷ [])
    ∙ ap (λ z. old ++ z) (between_more word from at x above more is)
