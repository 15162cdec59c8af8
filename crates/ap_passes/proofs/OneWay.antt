-- There is one way to take a word apart.
use Rattle.std.proofs.Common.{◌≡◌, inl, inr, Bool, true, false, not, ◌||◌, List, [], ◌∷◌, ◌++◌, take, drop, sym, ap, ◌∙◌, refl, subst}
use Rattle.std.specs.List.{filter, flat_map, list_any, list_all}
use Rattle.std.proofs.lemmas.Bool.{cond-false, or_parts, and_parts, false≢true}
use Rattle.std.proofs.lemmas.List.{append-nil, append_assoc, take-append-drop}
use Rattle.ap_symbol.specs.Kinds.{is_join, is_queue, is_tag}
use Rattle.ap_symbol.specs.declared.symbol.Symbol.{Symbol}
use Rattle.ap_symbol.specs.declared.symbol.Symbol.TheVariants.{Join}
use Rattle.ap_passes.specs.Laws.{joined_one, rejoined, HasPart, IsMoved, moves, untagged, without, is_joinless, IsSplit, IsTakenApart}
use Rattle.ap_passes.specs.Marks.{is_end, begins_with, stops_at}
use Rattle.ap_passes.specs.Splitting.{in_front, between_joins, parts, is_filled, tag_place}
use Rattle.ap_passes.proofs.Finding.{none_before, stops_until}
use Rattle.ap_passes.proofs.Staying.{parts_none}

begins_stops : (test : Symbol → Bool) (word : List Symbol) → begins_with test word ≡ true →
    stops_at test word ≡ true
begins_stops test [] h = absurd (cc)
begins_stops test (x ∷ word) h = h

begins_more : (test : Symbol → Bool) (word more : List Symbol) → begins_with test word ≡ true →
    begins_with test (word ++ more) ≡ true
begins_more test [] more h = absurd (cc)
begins_more test (x ∷ word) more h = h

or_true : (b : Bool) → (b || true) ≡ true
or_true true = refl
or_true false = refl

any_in : (test : Symbol → Bool) (front word : List Symbol) → begins_with test word ≡ true →
    list_any test (front ++ word) ≡ true
any_in test [] [] h = absurd (cc)
any_in test [] (x ∷ word) h = ap (λ b. b || list_any test word) h
any_in test (y ∷ front) word h =
    ap (λ b. test y || b) (any_in test front word h) ∙ or_true (test y)

-- a word is cut in one way in front of its first symbol that passes a test
cut_once : (test : Symbol → Bool) (f g r s : List Symbol) → list_any test f ≡ false →
    list_any test g ≡ false → stops_at test r ≡ true → stops_at test s ≡ true →
    f ++ r ≡ g ++ s → (f ≡ g) × (r ≡ s)
cut_once test [] [] r s a b h k e = (refl, e)
cut_once test [] (y ∷ g) r s a b h k e =
    let there : test y ≡ true = subst (λ (z : List Symbol). stops_at test z ≡ true) e h in
    absurd (false≢true (sym (or_parts (test y) (list_any test g) b).0 ∙ there))
cut_once test (x ∷ f) [] r s a b h k e =
    let there : test x ≡ true = subst (λ (z : List Symbol). stops_at test z ≡ true) (sym e) k in
    absurd (false≢true (sym (or_parts (test x) (list_any test f) a).0 ∙ there))
cut_once test (x ∷ f) (y ∷ g) r s a b h k e =
    let head : x ≡ y = cc in
    let tail : f ++ r ≡ g ++ s = cc in
    let more = cut_once test f g r s (or_parts (test x) (list_any test f) a).1
    (or_parts (test y) (list_any test g) b).1 h k tail in
    (ap (λ z. z ∷ f) head ∙ ap (λ z. y ∷ z) more.0, more.1)

-- ---- the invariable part

part_one : (word b p a c q d : List Symbol) → HasPart word b p a → HasPart word c q d →
    (b ≡ c) × (p ≡ q) × (a ≡ d)
part_one word b p a c q d h k =
    let first = cut_once is_queue b c (p ++ a) (q ++ d) h.first k.first
    (begins_stops is_queue (p ++ a) (begins_more is_queue p a h.begins))
    (begins_stops is_queue (q ++ d) (begins_more is_queue q d k.begins)) (sym h.is ∙ k.is) in
    let second = cut_once is_end p q a d h.runs k.runs h.ends k.ends first.1 in
    (first.0, second.0, second.1)

some_queue : (word b p a : List Symbol) → HasPart word b p a → list_any is_queue word ≡ false → ⊥
some_queue word b p a h none =
    false≢true (sym none ∙ ap (list_any is_queue) h.is
    ∙ any_in is_queue b (p ++ a) (begins_more is_queue p a h.begins))

tagged_once : (word s t p m b q a : List Symbol) → HasPart word (s ++ t) p m →
    begins_with is_tag t ≡ true → HasPart word b q a → list_any is_tag b ≡ false → ⊥
tagged_once word s t p m b q a h begins k none =
    false≢true (sym none
    ∙ ap (list_any is_tag) (sym (part_one word (s ++ t) p m b q a h k).0)
    ∙ any_in is_tag s t begins)

moved_once : (word v w : List Symbol) → IsMoved word v → IsMoved word w → v ≡ w
moved_once word v w (moves s t p m h n b e) (moves s' t' p' m' h' n' b' e') =
    let r = part_one word (s ++ t) p m (s' ++ t') p' m' h h' in
    let st = cut_once is_tag s s' t t' n n' (begins_stops is_tag t b) (begins_stops is_tag t' b')
    r.0 in
    e ∙ ap (λ z. z ++ (p ++ (t ++ m))) st.0 ∙ ap (λ z. s' ++ (z ++ (t ++ m))) r.1
    ∙ ap (λ z. s' ++ (p' ++ (z ++ m))) st.1 ∙ ap (λ z. s' ++ (p' ++ (t' ++ z))) r.2 ∙ sym e'
moved_once word v w (moves s t p m h n b e) (untagged s' p' m' h' n' e') =
    absurd (tagged_once word s t p m s' p' m' h b h' n')
moved_once word v w (moves s t p m h n b e) (without none e') =
    absurd (some_queue word (s ++ t) p m h none)
moved_once word v w (untagged s p m h n e) (moves s' t' p' m' h' n' b' e') =
    absurd (tagged_once word s' t' p' m' s p m h' b' h n)
moved_once word v w (untagged s p m h n e) (untagged s' p' m' h' n' e') = e ∙ sym e'
moved_once word v w (untagged s p m h n e) (without none e') =
    absurd (some_queue word s p m h none)
moved_once word v w (without none e) (moves s' t' p' m' h' n' b' e') =
    absurd (some_queue word (s' ++ t') p' m' h' none)
moved_once word v w (without none e) (untagged s' p' m' h' n' e') =
    absurd (some_queue word s' p' m' h' none)
moved_once word v w (without none e) (without none' e') = e ∙ sym e'

-- ---- the parts

none_behind : (test : Symbol → Bool) (a b : List Symbol) → list_any test (a ++ b) ≡ false →
    list_any test b ≡ false
none_behind test [] b h = h
none_behind test (x ∷ a) b h = none_behind test a b (or_parts (test x) (list_any test (a ++ b)) h).1

-- where no Join stands behind what holds no tag, none stands from the first tag on
tail_joinless : (front back stem tail : List Symbol) → list_any is_tag front ≡ false →
    list_any is_join back ≡ false → stops_at is_tag tail ≡ true → front ++ back ≡ stem ++ tail →
    list_any is_join tail ≡ false
tail_joinless [] back stem tail a b h e =
    none_behind is_join stem tail (ap (list_any is_join) (sym e) ∙ b)
tail_joinless (x ∷ front) back [] tail a b h e =
    let there : is_tag x ≡ true =
    subst (λ (z : List Symbol). stops_at is_tag z ≡ true) (sym e) h in
    absurd (false≢true (sym (or_parts (is_tag x) (list_any is_tag front) a).0 ∙ there))
tail_joinless (x ∷ front) back (y ∷ stem) tail a b h e =
    let rest : front ++ back ≡ stem ++ tail = cc in
    tail_joinless front back stem tail (or_parts (is_tag x) (list_any is_tag front) a).1 b h rest

joinless_is : (word : List Symbol) → is_joinless word ≡ true → list_any is_join word ≡ false
joinless_is word h = by (list_any is_join word) h
  where
    by : (b : Bool) → not b ≡ true → b ≡ false
    by true h = sym h
    by false h = refl

front_joins : (front word first : List Symbol) (others : List (List Symbol)) →
    list_any is_join front ≡ false → between_joins word ≡ first ∷ others →
    between_joins (front ++ word) ≡ (front ++ first) ∷ others
front_joins [] word first others none e = e
front_joins (x ∷ front) word first others none e =
    let p = or_parts (is_join x) (list_any is_join front) none in
    cond-false (is_join x) ([] ∷ between_joins (front ++ word))
    (in_front (x ∷ []) (between_joins (front ++ word))) p.0
    ∙ ap (in_front (x ∷ [])) (front_joins front word first others p.1 e)

joins_back : (word : List Symbol) (others : List (List Symbol)) → list_any is_join word ≡ false →
    list_all is_joinless others ≡ true →
    between_joins (word ++ flat_map joined_one others) ≡ word ∷ others
joins_back word [] none all =
    front_joins word [] [] [] none refl ∙ ap (λ z. z ∷ []) (append-nil word)
joins_back word (other ∷ others) none all =
    let p = and_parts (is_joinless other) (list_all is_joinless others) all in
    let rest : between_joins (Join ∷ (other ++ flat_map joined_one others))
    ≡ [] ∷ (other ∷ others) =
    ap (λ z. [] ∷ z) (joins_back other others (joinless_is other p.0) p.1) in
    front_joins word (Join ∷ (other ++ flat_map joined_one others)) [] (other ∷ others) none rest
    ∙ ap (λ z. z ∷ (other ∷ others)) (append-nil word)

module _ (word : List Symbol) (made : List (List Symbol)) (s : IsSplit word made) where
  joined : s.first ++ flat_map joined_one s.others ≡ word
  joined = ap rejoined (sym s.parts_are) ∙ s.whole

  one_part : s.others ≡ [] → made ≡ parts word
  one_part none =
      let first_is : s.first ≡ word =
      sym (append-nil s.first) ∙ ap (λ z. s.first ++ flat_map joined_one z) (sym none) ∙ joined in
      let tail : list_any is_join (drop (tag_place word) word) ≡ false =
      tail_joinless s.unsplit.front s.unsplit.back (take (tag_place word) word)
      (drop (tag_place word) word) s.unsplit.no_tag s.unsplit.no_join (stops_until is_tag word)
      (sym s.unsplit.is ∙ first_is ∙ sym (take-append-drop (tag_place word) word)) in
      s.parts_are ∙ ap (λ z. s.first ∷ z) none ∙ ap (λ z. z ∷ []) first_is
      ∙ sym (parts_none word tail)

  stop_begins : (rest : List Symbol) → stops_at is_tag rest ≡ true → (rest ≡ [] → ⊥) →
      begins_with is_tag rest ≡ true
  stop_begins [] h some = absurd (some refl)
  stop_begins (x ∷ rest) h some = h

  more_parts : list_any is_tag s.first ≡ true → made ≡ parts word
  more_parts tagged =
      let k = tag_place s.first in
      let stem = take k s.first in
      let tail = drop k s.first in
      let flat = flat_map joined_one s.others in
      let cut : stem ++ tail ≡ s.first = take-append-drop k s.first in
      let begins : begins_with is_tag tail ≡ true =
      stop_begins (drop k s.first) (stops_until is_tag s.first) (λ none.
      false≢true (sym (none_before is_tag s.first)
      ∙ ap (list_any is_tag) (sym (append-nil (take k s.first)))
      ∙ ap (λ z. list_any is_tag (take k s.first ++ z)) (sym none)
      ∙ ap (list_any is_tag) (take-append-drop k s.first) ∙ tagged)) in
      let whole : stem ++ (tail ++ flat)
      ≡ take (tag_place word) word ++ drop (tag_place word) word =
      sym (append_assoc stem tail flat) ∙ ap (λ z. z ++ flat) cut ∙ joined
      ∙ sym (take-append-drop (tag_place word) word) in
      let same = cut_once is_tag stem (take (tag_place word) word) (tail ++ flat)
      (drop (tag_place word) word) (none_before is_tag s.first) (none_before is_tag word)
      (begins_stops is_tag (tail ++ flat) (begins_more is_tag tail flat begins))
      (stops_until is_tag word) whole in
      let none : list_any is_join tail ≡ false =
      tail_joinless s.unsplit.front s.unsplit.back stem tail s.unsplit.no_tag s.unsplit.no_join
      (stops_until is_tag s.first) (sym s.unsplit.is ∙ sym cut) in
      sym (ap (λ z. in_front z (between_joins (drop (tag_place word) word))) (sym same.0)
      ∙ ap (λ z. in_front stem (between_joins z)) (sym same.1)
      ∙ ap (in_front stem) (joins_back tail s.others none s.joinless)
      ∙ ap (λ z. z ∷ s.others) cut ∙ sym s.parts_are)

  split_once : made ≡ parts word
  split_once = elim s.tagged [ inl none ↦ one_part none | inr tagged ↦ more_parts tagged ]

pub one_way : (word : List Symbol) (words others : List (List Symbol)) → IsTakenApart word words →
    IsTakenApart word others → words ≡ others
one_way word words others a b =
    let whole : a.whole ≡ b.whole = moved_once word a.whole b.whole a.moved b.moved in
    a.words_are ∙ ap (filter is_filled) (split_once a.whole a.parts a.split
    ∙ ap parts whole ∙ sym (split_once b.whole b.parts b.split)) ∙ sym b.words_are
