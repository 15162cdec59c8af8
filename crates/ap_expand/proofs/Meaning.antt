use Rattle.std.proofs.Common.{inl, inr, subst, ◌≡◌, ℕ, zero, suc, Bool, true, false, ◌||◌, List, [], ◌∷◌, ◌++◌, map, get_or, sym, ap, ◌∙◌, refl, Option, Some, None}
use Rattle.std.specs.Prelude.{◌&&◌, if◌then◌else◌}
use Rattle.std.specs.Option.{option_to_list}
use Rattle.std.specs.List.{flat_map}
use Rattle.std.proofs.lemmas.Bool.{cases_Bool}
use Rattle.std.proofs.lemmas.List.{append_assoc, append-nil}
use Rattle.std.proofs.lemmas.Grind.{flat_map-append}
use Rattle.ap_symbol.specs.Rendering.{rendering}
use Rattle.ap_dix.specs.declared.dictionary.Dictionary.{Dictionary}
use Rattle.ap_dix.specs.declared.dictionary.Entry.{Entry}
use Rattle.ap_dix.specs.declared.dictionary.EntryPart.{EntryPart}
use Rattle.ap_dix.specs.declared.dictionary.EntryPart.TheVariants.{Identity, Pair, Paradigm, Expression}
use Rattle.ap_dix.specs.declared.dictionary.Pardef.{Pardef}
use Rattle.ap_dix.specs.declared.dictionary.Section.{Section}
use Rattle.ap_dix.specs.declared.dictionary.Side.{Side}
use Rattle.ap_dix.specs.declared.dictionary.Side.TheVariants.{Both, LrOnly, RlOnly}
use Rattle.ap_expand.specs.Lines.{expression_bytes, Way, words, joined, all_joined, parts_ways, side_way, entry_ways, entries_ways, pardefs_ways, way_line, lines, mark_of, part_ways}
use Rattle.ap_expand.specs.Uses.{is_lr, is_rl, is_barren, both, neither, with_uses, shared_uses, part_uses, parts_uses, side_uses, entry_uses, with_entry_uses, entries_uses, pardefs_uses}
use Rattle.ap_expand.specs.declared.uses.Uses.{Uses}
use Rattle.ap_expand.proofs.Paradigms.{and-left, and-right}
use Rattle.ap_expand.specs.Search.{Opening, Follow, parts_trace, entry_trace, entries_trace, pardefs_trace, sections_trace, end_trace, with_words, with_side, no_entries, lines_among}

-- ways

abbrev way_with : List ℕ → List ℕ → Bool → Bool → Way
way_with left right lr rl = record { left = left; right = right; lr = lr; rl = rl }

or-false : (b : Bool) → (b || false) ≡ b
or-false true = refl
or-false false = refl

or-assoc : (a b c : Bool) → ((a || b) || c) ≡ (a || (b || c))
or-assoc true b c = refl
or-assoc false b c = refl

same-way : (l₁ l₂ r₁ r₂ : List ℕ) (a₁ a₂ b₁ b₂ : Bool) → l₁ ≡ l₂ → r₁ ≡ r₂ → a₁ ≡ a₂ → b₁ ≡ b₂ →
    way_with l₁ r₁ a₁ b₁ ≡ way_with l₂ r₂ a₂ b₂
same-way l₁ l₂ r₁ r₂ a₁ a₂ b₁ b₂ hl hr ha hb =
    ap (λ s. way_with s r₁ a₁ b₁) hl ∙ ap (λ s. way_with l₂ s a₁ b₁) hr
    ∙ ap (λ b. way_with l₂ r₂ b b₁) ha ∙ ap (λ b. way_with l₂ r₂ a₂ b) hb

joined-nothing : (way : Way) → way ≡ joined way (words [] [])
joined-nothing way = same-way way.left (way.left ++ []) way.right (way.right ++ []) way.lr
    (way.lr || false) way.rl (way.rl || false) (sym (append-nil way.left))
    (sym (append-nil way.right)) (sym (or-false way.lr)) (sym (or-false way.rl))

joined-words : (way : Way) (left right : List ℕ) → with_words way left right
    ≡ joined way (words left right)
joined-words way left right =
    same-way (way.left ++ left) (way.left ++ left) (way.right ++ right) (way.right ++ right) way.lr
    (way.lr || false) way.rl (way.rl || false) refl refl (sym (or-false way.lr))
    (sym (or-false way.rl))

joined-side : (way : Way) (side : Side) → with_side way side ≡ joined way (side_way side)
joined-side way Both = same-way way.left (way.left ++ []) way.right (way.right ++ [])
    (way.lr || false) (way.lr || false) (way.rl || false) (way.rl || false)
    (sym (append-nil way.left)) (sym (append-nil way.right)) refl refl
joined-side way LrOnly =
    same-way way.left (way.left ++ []) way.right (way.right ++ []) (way.lr || true) (way.lr || true)
    (way.rl || false) (way.rl || false) (sym (append-nil way.left))
    (sym (append-nil way.right)) refl refl
joined-side way RlOnly =
    same-way way.left (way.left ++ []) way.right (way.right ++ []) (way.lr || false)
    (way.lr || false) (way.rl || true) (way.rl || true) (sym (append-nil way.left))
    (sym (append-nil way.right)) refl refl

joined-assoc : (a b c : Way) → joined a (joined b c) ≡ joined (joined a b) c
joined-assoc a b c =
    same-way (a.left ++ (b.left ++ c.left)) ((a.left ++ b.left) ++ c.left)
    (a.right ++ (b.right ++ c.right)) ((a.right ++ b.right) ++ c.right) (a.lr || (b.lr || c.lr))
    ((a.lr || b.lr) || c.lr) (a.rl || (b.rl || c.rl)) ((a.rl || b.rl) || c.rl)
    (sym (append_assoc a.left b.left c.left)) (sym (append_assoc a.right b.right c.right))
    (sym (or-assoc a.lr b.lr c.lr)) (sym (or-assoc a.rl b.rl c.rl))

-- lists of what each way gives

flat-same : {X A : Type 0} (f g : X → List A) (xs : List X) → ((x : X) → f x ≡ g x) →
    flat_map f xs ≡ flat_map g xs
flat-same f g [] h = refl
flat-same f g (x ∷ xs) h = ap (λ s. s ++ flat_map f xs) (h x)
    ∙ ap (λ s. g x ++ s) (flat-same f g xs h)

flat-map : {X Y A : Type 0} (f : Y → List A) (g : X → Y) (xs : List X) →
    flat_map f (map g xs) ≡ flat_map (λ x. f (g x)) xs
flat-map f g [] = refl
flat-map f g (x ∷ xs) = ap (λ s. f (g x) ++ s) (flat-map f g xs)

flat-flat : {X Y A : Type 0} (f : Y → List A) (g : X → List Y) (xs : List X) →
    flat_map f (flat_map g xs) ≡ flat_map (λ x. flat_map f (g x)) xs
flat-flat f g [] = refl
flat-flat f g (x ∷ xs) = flat_map-append f (g x) (flat_map g xs)
    ∙ ap (λ s. flat_map f (g x) ++ s) (flat-flat f g xs)

abbrev Gives : Type 0
Gives = Way → List (List ℕ)

-- what follows each of the ways, behind this way
abbrev after : Gives → Way → List Way → List (List ℕ)
after gives way ways = flat_map (λ (w : Way). gives (joined way w)) ways

after-joined : (gives : Gives) (way a : Way) (ways : List Way) →
    after gives way (map (joined a) ways) ≡ after gives (joined way a) ways
after-joined gives way a ways =
    flat-map (λ (w : Way). gives (joined way w)) (joined a) ways
    ∙ flat-same (λ (w : Way). gives (joined way (joined a w)))
    (λ (w : Way). gives (joined (joined way a) w)) ways (λ w. ap gives (joined-assoc way a w))

after-all : (gives : Gives) (way : Way) (firsts seconds : List Way) →
    after gives way (all_joined firsts seconds)
    ≡ after (λ (w : Way). after gives w seconds) way firsts
after-all gives way firsts seconds =
    flat-flat (λ (w : Way). gives (joined way w)) (λ (a : Way). map (joined a) seconds) firsts
    ∙ flat-same (λ (a : Way). after gives way (map (joined a) seconds))
    (λ (a : Way). after gives (joined way a) seconds) firsts
    (λ a. after-joined gives way a seconds)

-- ---- what ways use

or-left : (a b : Bool) → a ≡ true → (a || b) ≡ true
or-left true b h = refl
or-left false b h = cc

or-right : (a b : Bool) → b ≡ true → (a || b) ≡ true
or-right true b h = refl
or-right false b h = h

or-both : (p q a b : Bool) → (p ≡ true → a ≡ true) → (q ≡ true → b ≡ true) → (p || q) ≡ true →
    (a || b) ≡ true
or-both true q a b f g h = or-left a b (f refl)
or-both false q a b f g h = or-right a b (g h)

abbrev HaveUses : Uses → List Way → Type 0
HaveUses u [] = Unit {0}
HaveUses u (w ∷ ws) = ((u.lr ≡ true → w.lr ≡ true) × (u.rl ≡ true → w.rl ≡ true)) × HaveUses u ws

have-append : (u : Uses) (xs ys : List Way) → HaveUses u xs → HaveUses u ys → HaveUses u (xs ++ ys)
have-append u [] ys h k = k
have-append u (x ∷ xs) ys h k = (h.0, have-append u xs ys h.1 k)

have-weaker : (u v : Uses) (xs : List Way) → (v.lr ≡ true → u.lr ≡ true) →
    (v.rl ≡ true → u.rl ≡ true) → HaveUses u xs → HaveUses v xs
have-weaker u v [] f g h = tt
have-weaker u v (x ∷ xs) f g h =
    (((λ e. h.0.0 (f e)), (λ e. h.0.1 (g e))), have-weaker u v xs f g h.1)

have-joined : (u v : Uses) (a : Way) (xs : List Way) → (u.lr ≡ true → a.lr ≡ true) →
    (u.rl ≡ true → a.rl ≡ true) → HaveUses v xs → HaveUses (with_uses u v) (map (joined a) xs)
have-joined u v a [] f g h = tt
have-joined u v a (x ∷ xs) f g h = (
  ((λ e. or-both u.lr v.lr a.lr x.lr f h.0.0 e), (λ e. or-both u.rl v.rl a.rl x.rl g h.0.1 e)),
  have-joined u v a xs f g h.1,
)

have-all : (u v : Uses) (xs ys : List Way) → HaveUses u xs → HaveUses v ys →
    HaveUses (with_uses u v) (all_joined xs ys)
have-all u v [] ys h k = tt
have-all u v (x ∷ xs) ys h k =
    have-append (with_uses u v) (map (joined x) ys) (all_joined xs ys)
    (have-joined u v x ys h.0.0 h.0.1 k) (have-all u v xs ys h.1 k)

have-neither : (w : Way) → HaveUses neither (w ∷ [])
have-neither w = (((λ e. cc), (λ e. cc)), tt)

-- what each way of each paradigm uses
abbrev UsesAt : List Uses → List (List Way) → Type 0
UsesAt uses above = (n : ℕ) → HaveUses (get_or uses n both) (get_or above n [])

have-part : (uses : List Uses) (above : List (List Way)) (part : EntryPart) → UsesAt uses above →
    HaveUses (part_uses uses part) (part_ways above part)
have-part uses above (Identity word) h = have-neither (words (rendering word) (rendering word))
have-part uses above (Pair left right) h = have-neither (words (rendering left) (rendering right))
have-part uses above (Paradigm n) h = h n
have-part uses above (Expression e text) h =
    have-neither (words (expression_bytes text) (expression_bytes text))

have-parts : (uses : List Uses) (above : List (List Way)) (parts : List EntryPart) →
    UsesAt uses above → HaveUses (parts_uses uses parts) (parts_ways above parts)
have-parts uses above [] h = have-neither (words [] [])
have-parts uses above (part ∷ parts) h =
    have-all (part_uses uses part) (parts_uses uses parts) (part_ways above part)
    (parts_ways above parts) (have-part uses above part h) (have-parts uses above parts h)

side-lr : (side : Side) → is_lr side ≡ true → (side_way side).lr ≡ true
side-lr Both h = cc
side-lr LrOnly h = refl
side-lr RlOnly h = cc

side-rl : (side : Side) → is_rl side ≡ true → (side_way side).rl ≡ true
side-rl Both h = cc
side-rl LrOnly h = cc
side-rl RlOnly h = refl

have-entry : (uses : List Uses) (above : List (List Way)) (entry : Entry) → UsesAt uses above →
    HaveUses (entry_uses uses entry) (map (joined (side_way entry.side))
    (parts_ways above entry.parts))
have-entry uses above entry h =
    have-joined (side_uses entry.side) (parts_uses uses entry.parts) (side_way entry.side)
    (parts_ways above entry.parts) (side-lr entry.side) (side-rl entry.side)
    (have-parts uses above entry.parts h)

have-kept : (uses : List Uses) (above : List (List Way)) (entry : Entry) → UsesAt uses above →
    HaveUses (with_entry_uses uses both entry) (entry_ways above entry)
have-kept uses above entry h =
    elim entry.ignored as (λ b. HaveUses (if b then both
    else shared_uses both (entry_uses uses entry)) (if b then []
    else map (joined (side_way entry.side)) (parts_ways above entry.parts))) [
      | true ↦ tt
      | false ↦ have-entry uses above entry h
    ]

have-entries : (uses : List Uses) (above : List (List Way)) (entries : List Entry) →
    UsesAt uses above → HaveUses (entries_uses uses entries) (entries_ways above entries)
have-entries uses above [] h = tt
have-entries uses above (entry ∷ entries) h =
    let first : Uses = with_entry_uses uses both entry in
    let rest : Uses = entries_uses uses entries in
    have-append (shared_uses first rest) (entry_ways above entry) (entries_ways above entries)
    (have-weaker first (shared_uses first rest) (entry_ways above entry)
    (λ e. and-left first.lr rest.lr e) (λ e. and-left first.rl rest.rl e)
    (have-kept uses above entry h))
    (have-weaker rest (shared_uses first rest) (entries_ways above entries)
    (λ e. and-right first.lr rest.lr e) (λ e. and-right first.rl rest.rl e)
    (have-entries uses above entries h))

abbrev AllUse : List Uses → List (List Way) → Type 0
AllUse [] [] = Unit {0}
AllUse [] (ways ∷ more) = ⊥
AllUse (u ∷ us) [] = ⊥
AllUse (u ∷ us) (ways ∷ more) = HaveUses u ways × AllUse us more

use-at : (us : List Uses) (above : List (List Way)) → AllUse us above → UsesAt us above
use-at [] [] h n = tt
use-at [] (ways ∷ more) h n = absurd h
use-at (u ∷ us) [] h n = absurd h
use-at (u ∷ us) (ways ∷ more) h zero = h.0
use-at (u ∷ us) (ways ∷ more) h (suc n) = use-at us more h.1 n

use-whole : (us : List Uses) (further : List Uses) (above : List (List Way)) → AllUse us above →
    UsesAt (us ++ further) above
use-whole [] further [] h n = tt
use-whole [] further (ways ∷ more) h n = absurd h
use-whole (u ∷ us) further [] h n = absurd h
use-whole (u ∷ us) further (ways ∷ more) h zero = h.0
use-whole (u ∷ us) further (ways ∷ more) h (suc n) = use-whole us further more h.1 n

use-push : (us : List Uses) (above : List (List Way)) (u : Uses) (ways : List Way) →
    AllUse us above → HaveUses u ways → AllUse (us ++ u ∷ []) (above ++ ways ∷ [])
use-push [] [] u ways h m = (m, tt)
use-push [] (w ∷ ws) u ways h m = absurd h
use-push (o ∷ os) [] u ways h m = absurd h
use-push (o ∷ os) (w ∷ ws) u ways h m = (h.0, use-push os ws u ways h.1 m)

-- the list goes on from the one for the paradigms above
record Further (us : List Uses) (pardefs : List Pardef) : Type 0 where
  pub more : List Uses
  pub is : pardefs_uses us pardefs ≡ us ++ more

further : (us : List Uses) (pardefs : List Pardef) → Further us pardefs
further us [] = record { more = []; is = sym (append-nil us) }
further us (pardef ∷ pardefs) =
    let made : Uses = entries_uses us pardef.entries in
    let next : Further (us ++ made ∷ []) pardefs = further (us ++ made ∷ []) pardefs in
    record {
      more = made ∷ next.more;
      is = next.is ∙ append_assoc us (made ∷ []) next.more;
    }

pardefs-use : (us : List Uses) (above : List (List Way)) (pardefs : List Pardef) →
    AllUse us above → AllUse (pardefs_uses us pardefs) (pardefs_ways above pardefs)
pardefs-use us above [] h = h
pardefs-use us above (pardef ∷ pardefs) h =
    pardefs-use (us ++ entries_uses us pardef.entries ∷ [])
    (above ++ entries_ways above pardef.entries ∷ []) pardefs
    (use-push us above (entries_uses us pardef.entries) (entries_ways above pardef.entries) h
    (have-entries us above pardef.entries (use-at us above h)))

-- ---- lines

-- a way that uses both gives no line
abbrev Stops : Follow → Type 0
Stops follow = (w : Way) → w.lr ≡ true → w.rl ≡ true → lines_among (follow w) ≡ []

after-none : (follow : Follow) (way : Way) (u : Uses) (ways : List Way) → Stops follow →
    HaveUses u ways → (way.lr || u.lr) ≡ true → (way.rl || u.rl) ≡ true →
    after (λ (w : Way). lines_among (follow w)) way ways ≡ []
after-none follow way u [] st h l r = refl
after-none follow way u (w ∷ ws) st h l r =
    ap (λ s. s ++ after (λ (v : Way). lines_among (follow v)) way ws)
    (st (joined way w) (or-both way.lr u.lr way.lr w.lr (λ e. e) h.0.0 l)
    (or-both way.rl u.rl way.rl w.rl (λ e. e) h.0.1 r))
    ∙ after-none follow way u ws st h.1 l r

have-none : (ways : List Way) → HaveUses neither ways
have-none [] = tt
have-none (w ∷ ws) = (((λ e. cc), (λ e. cc)), have-none ws)

-- the steps have the lines that the ways have
abbrev Means : Opening → List Way → Type 0
Means opening ways = (follow : Follow) → Stops follow → (way : Way) →
    lines_among (opening follow way)
    ≡ after (λ (w : Way). lines_among (follow w)) way ways

abbrev AllMean : List Opening → List (List Way) → Type 0
AllMean [] [] = Unit {0}
AllMean [] (ways ∷ more) = ⊥
AllMean (opening ∷ openings) [] = ⊥
AllMean (opening ∷ openings) (ways ∷ more) = Means opening ways × AllMean openings more

mean-at : (openings : List Opening) (above : List (List Way)) (n : ℕ) → AllMean openings above →
    Means (get_or openings n no_entries) (get_or above n [])
mean-at [] [] n h follow st way = refl
mean-at [] (ways ∷ more) n h follow st way = absurd h
mean-at (opening ∷ openings) [] n h follow st way = absurd h
mean-at (opening ∷ openings) (ways ∷ more) zero h follow st way = h.0 follow st way
mean-at (opening ∷ openings) (ways ∷ more) (suc n) h follow st way =
    mean-at openings more n h.1 follow st way

mean-push : (openings : List Opening) (above : List (List Way)) (opening : Opening)
    (ways : List Way) → AllMean openings above → Means opening ways →
    AllMean (openings ++ opening ∷ []) (above ++ ways ∷ [])
mean-push [] [] opening ways h m = (m, tt)
mean-push [] (w ∷ ws) opening ways h m = absurd h
mean-push (o ∷ os) [] opening ways h m = absurd h
mean-push (o ∷ os) (w ∷ ws) opening ways h m = (h.0, mean-push os ws opening ways h.1 m)

words-mean : (openings : List Opening) (above : List (List Way)) (parts : List EntryPart)
    (left right : List ℕ) (follow : Follow) (way : Way) → Stops follow →
    Means (parts_trace openings parts) (parts_ways above parts) →
    lines_among (parts_trace openings parts follow (with_words way left right))
    ≡ after (λ (w : Way). lines_among (follow w)) way
    (all_joined (words left right ∷ []) (parts_ways above parts))
words-mean openings above parts left right follow way st h =
    h follow st (with_words way left right)
    ∙ ap (λ (v : Way). after (λ (w : Way). lines_among (follow w)) v (parts_ways above parts))
    (joined-words way left right)
    ∙ sym (append-nil (after (λ (w : Way). lines_among (follow w)) (joined way (words left right))
    (parts_ways above parts)))
    ∙ sym (after-all (λ (w : Way). lines_among (follow w)) way (words left right ∷ [])
    (parts_ways above parts))

stops-parts : (openings : List Opening) (above : List (List Way)) (parts : List EntryPart)
    (follow : Follow) → Means (parts_trace openings parts) (parts_ways above parts) →
    Stops follow → Stops (parts_trace openings parts follow)
stops-parts openings above parts follow m st w l r =
    m follow st w
    ∙ after-none follow w neither (parts_ways above parts) st (have-none (parts_ways above parts))
    (or-left w.lr false l) (or-left w.rl false r)

parts-mean : (openings : List Opening) (above : List (List Way)) (parts : List EntryPart) →
    AllMean openings above → Means (parts_trace openings parts) (parts_ways above parts)
parts-mean openings above [] h follow st way =
    ap (λ (w : Way). lines_among (follow w)) (joined-nothing way)
    ∙ sym (append-nil (lines_among (follow (joined way (words [] [])))))
parts-mean openings above (Identity word ∷ parts) h follow st way =
    words-mean openings above parts (rendering word) (rendering word) follow way st
    (parts-mean openings above parts h)
parts-mean openings above (Pair left right ∷ parts) h follow st way =
    words-mean openings above parts (rendering left) (rendering right) follow way st
    (parts-mean openings above parts h)
parts-mean openings above (Expression e text ∷ parts) h follow st way =
    words-mean openings above parts (expression_bytes text) (expression_bytes text) follow way st
    (parts-mean openings above parts h)
parts-mean openings above (Paradigm n ∷ parts) h follow st way =
    mean-at openings above n h (parts_trace openings parts follow)
    (stops-parts openings above parts follow (parts-mean openings above parts h) st) way
    ∙ flat-same (λ (a : Way). lines_among (parts_trace openings parts follow (joined way a)))
    (λ (a : Way). after (λ (w : Way). lines_among (follow w)) (joined way a)
    (parts_ways above parts)) (get_or above n [])
    (λ a. parts-mean openings above parts h follow st (joined way a))
    ∙ sym (after-all (λ (w : Way). lines_among (follow w)) way (get_or above n [])
    (parts_ways above parts))

taken-mean : (openings : List Opening) (above : List (List Way)) (entry : Entry)
    (follow : Follow) (way : Way) → AllMean openings above → Stops follow →
    lines_among (parts_trace openings entry.parts follow (with_side way entry.side))
    ≡ after (λ (w : Way). lines_among (follow w)) way
    (map (joined (side_way entry.side)) (parts_ways above entry.parts))
taken-mean openings above entry follow way h st =
    parts-mean openings above entry.parts h follow st (with_side way entry.side)
    ∙ ap (λ (v : Way). after (λ (w : Way). lines_among (follow w)) v
    (parts_ways above entry.parts)) (joined-side way entry.side)
    ∙ sym (after-joined (λ (w : Way). lines_among (follow w)) way (side_way entry.side)
    (parts_ways above entry.parts))

module _ (uses : List Uses) where
  barren-mean : (openings : List Opening) (above : List (List Way)) (entry : Entry)
      (follow : Follow) (way : Way) → AllMean openings above → UsesAt uses above → Stops follow →
      lines_among (if is_barren uses way.lr way.rl entry then None ∷ []
      else parts_trace openings entry.parts follow (with_side way entry.side))
      ≡ after (λ (w : Way). lines_among (follow w)) way
      (map (joined (side_way entry.side)) (parts_ways above entry.parts))
  barren-mean openings above entry follow way h used st =
      elim (cases_Bool (is_barren uses way.lr way.rl entry)) [
        | inl e ↦
            ap (λ b. lines_among (if b then None ∷ []
            else parts_trace openings entry.parts follow (with_side way entry.side))) e
            ∙ sym (after-none follow way (entry_uses uses entry)
            (map (joined (side_way entry.side)) (parts_ways above entry.parts)) st
            (have-entry uses above entry used)
            (and-left (way.lr || (entry_uses uses entry).lr)
            (way.rl || (entry_uses uses entry).rl) e)
            (and-right (way.lr || (entry_uses uses entry).lr)
            (way.rl || (entry_uses uses entry).rl) e))
        | inr e ↦
            ap (λ b. lines_among (if b then None ∷ []
            else parts_trace openings entry.parts follow (with_side way entry.side))) e
            ∙ taken-mean openings above entry follow way h st
      ]

  entry-mean : (openings : List Opening) (above : List (List Way)) (entry : Entry) →
      AllMean openings above → UsesAt uses above →
      Means (entry_trace uses openings entry) (entry_ways above entry)
  entry-mean openings above entry h used follow st way =
      elim entry.ignored as (λ b. lines_among (if (b || is_barren uses way.lr way.rl entry)
      then None ∷ [] else parts_trace openings entry.parts follow (with_side way entry.side))
      ≡ after (λ (w : Way). lines_among (follow w)) way (if b then []
      else map (joined (side_way entry.side)) (parts_ways above entry.parts))) [
        | true ↦ refl
        | false ↦ barren-mean openings above entry follow way h used st
      ]

  entries-mean : (openings : List Opening) (above : List (List Way)) (entries : List Entry) →
      AllMean openings above → UsesAt uses above →
      Means (entries_trace uses openings entries) (entries_ways above entries)
  entries-mean openings above [] h used follow st way = refl
  entries-mean openings above (entry ∷ entries) h used follow st way =
      flat_map-append (λ (step : Option (List ℕ)). option_to_list step)
      (entry_trace uses openings entry follow way) (entries_trace uses openings entries follow way)
      ∙ ap (λ s. s ++ lines_among (entries_trace uses openings entries follow way))
      (entry-mean openings above entry h used follow st way)
      ∙ ap (λ s. after (λ (w : Way). lines_among (follow w)) way (entry_ways above entry) ++ s)
      (entries-mean openings above entries h used follow st way)
      ∙ sym (flat_map-append (λ (w : Way). lines_among (follow (joined way w)))
      (entry_ways above entry) (entries_ways above entries))

  pardefs-mean : (us : List Uses) (openings : List Opening) (above : List (List Way))
      (pardefs : List Pardef) → uses ≡ pardefs_uses us pardefs → AllUse us above →
      AllMean openings above →
      AllMean (pardefs_trace uses openings pardefs) (pardefs_ways above pardefs)
  pardefs-mean us openings above [] e used h = h
  pardefs-mean us openings above (pardef ∷ pardefs) e used h =
      let all : Further us (pardef ∷ pardefs) = further us (pardef ∷ pardefs) in
      let whole : uses ≡ us ++ all.more = e ∙ all.is in
      let at : UsesAt uses above =
      subst (λ (z : List Uses). UsesAt z above) (sym whole) (use-whole us all.more above used) in
      pardefs-mean (us ++ entries_uses us pardef.entries ∷ [])
      (openings ++ entries_trace uses openings pardef.entries ∷ [])
      (above ++ entries_ways above pardef.entries ∷ []) pardefs e
      (use-push us above (entries_uses us pardef.entries) (entries_ways above pardef.entries) used
      (have-entries us above pardef.entries (use-at us above used)))
      (mean-push openings above (entries_trace uses openings pardef.entries)
      (entries_ways above pardef.entries) h (entries-mean openings above pardef.entries h at))

  stops-end : Stops end_trace
  stops-end w l r =
      let e : (w.lr && w.rl) ≡ true = ap (λ b. b && w.rl) l ∙ r in
      ap (λ b. lines_among ((if b then None
      else Some (w.left ++ mark_of w.lr w.rl ++ w.right)) ∷ [])) e

  section-mean : (openings : List Opening) (above : List (List Way)) (entries : List Entry) →
      AllMean openings above → UsesAt uses above →
      lines_among (entries_trace uses openings entries end_trace (words [] []))
      ≡ flat_map (λ (way : Way). option_to_list (way_line way)) (entries_ways above entries)
  section-mean openings above entries h used =
      entries-mean openings above entries h used end_trace stops-end (words [] [])
      ∙ flat-same (λ (w : Way). lines_among (end_trace (joined (words [] []) w)))
      (λ (way : Way). option_to_list (way_line way)) (entries_ways above entries)
      (λ w. append-nil (option_to_list (way_line w)))

  sections-mean : (openings : List Opening) (above : List (List Way)) (sections : List Section) →
      AllMean openings above → UsesAt uses above →
      lines_among (sections_trace uses openings sections)
      ≡ flat_map (λ (way : Way). option_to_list (way_line way))
      (flat_map (λ (section : Section). entries_ways above section.entries) sections)
  sections-mean openings above [] h used = refl
  sections-mean openings above (section ∷ sections) h used =
      flat_map-append (λ (step : Option (List ℕ)). option_to_list step)
      (entries_trace uses openings section.entries end_trace (words [] []))
      (sections_trace uses openings sections)
      ∙ ap (λ s. s ++ lines_among (sections_trace uses openings sections))
      (section-mean openings above section.entries h used)
      ∙ ap (λ s. flat_map (λ (way : Way). option_to_list (way_line way))
      (entries_ways above section.entries) ++ s) (sections-mean openings above sections h used)
      ∙ sym (flat_map-append (λ (way : Way). option_to_list (way_line way))
      (entries_ways above section.entries)
      (flat_map (λ (section : Section). entries_ways above section.entries) sections))

  -- the lines among all steps are those of the dictionary
  pub all-lines : (steps : List (Option (List ℕ))) (d : Dictionary) →
      uses ≡ pardefs_uses [] d.pardefs →
      steps ≡ None ∷ sections_trace uses (pardefs_trace uses [] d.pardefs) d.sections →
      lines_among steps ≡ lines d
  all-lines steps d e is =
      ap lines_among is
      ∙ sections-mean (pardefs_trace uses [] d.pardefs) (pardefs_ways [] d.pardefs) d.sections
      (pardefs-mean [] [] [] d.pardefs e tt tt)
      (subst (λ (z : List Uses). UsesAt z (pardefs_ways [] d.pardefs)) (sym e)
      (use-at (pardefs_uses [] d.pardefs) (pardefs_ways [] d.pardefs)
      (pardefs-use [] [] d.pardefs tt)))
