use Rattle.std.proofs.Common.{◌≡◌, ◌⊎◌, inl, inr, ℕ, ◌+◌, ◌<◌, Bool, true, false, List, [], ◌∷◌, ◌++◌, refl, sym, ◌∙◌, ap, subst, arith, drop, append_assoc, ◌≤◌, ◌-◌, Option, Some, None, slice_get, length, take, get_or, suc, zero, eqb, append-nil}
use Rattle.std.proofs.lemmas.List.{take_more, take_all, take_at, drop_at, take-append-drop, get_or-drop, length-drop, length-append}
use Rattle.std.proofs.lemmas.Option.{slice_get-get_or}
use Rattle.std.specs.Option.{option_to_list}
use Rattle.ap_fst.specs.Lists.{IsIn}
use Rattle.ap_fst.specs.declared.label.Edge.{Edge}
use Rattle.ap_live.specs.Fitting.{is_empty_side}
use Rattle.ap_live.specs.Spreads.{arrival_to}
use Rattle.ap_live.specs.Tails.{Back, BackFrom, IsBack, Merges, AddsBack, IsBackMany, BackMany, AreFinals, given, onward}
use Rattle.ap_fst.specs.Silence.{SilentWalk, still, step, HasNoEmptyCycle}
use Rattle.ap_fst.specs.Machines.{Machine, IsMachine}
use Rattle.std.specs.Prelude.{IsTrue}
use Rattle.std.specs.List.{list_all, filter}
use Rattle.std.proofs.lemmas.Bool.Decides.{nat_tests}
use Rattle.ap_fst.proofs.Listing.{in_filter, filter_in, place_front}
use Rattle.std.proofs.lemmas.Bool.{and_parts}
use Rattle.ap_symbol.specs.Words.{is_word_symbol}
use Rattle.ap_live.specs.Outputs.{is_word_side, WritesWords}
use Rattle.ap_symbol.specs.declared.symbol.Symbol.{Symbol}
use Rattle.ap_live.specs.declared.arrivals.Arrival.{Arrival}
use Rattle.ap_live.specs.declared.items.Item.{Item}
use Rattle.ap_live.proofs.Spreading.{in_front, in_back, in_either, from_in, in_from_place, both_true}
use Rattle.ap_live.proofs.Others.{side_none}

only_back : (edges : List Edge) (b : Bool) (j : Arrival) (y x : Item) →
    BackFrom edges b (j ∷ []) (y ∷ []) x → Back edges b x y j
only_back edges b j y x f =
    elim f.linked [
      | inl q ↦ elim f.listed [
        | inl r ↦ subst (λ (v : Item). Back edges b x v j) r
            (subst (λ (l : Arrival). Back edges b x f.item l) q f.back)
        | inr r ↦ elim r [ ]
      ]
      | inr r ↦ elim r [ ]
    ]

pub adds_no_link : (edges : List Edge) (b : Bool) (items old : List Item) →
    AddsBack edges b [] items old old
adds_no_link edges b items old =
    record {
      more = [];
      grown = sym (append-nil old);
      sound = λ x i. elim i [ ];
      complete =
          λ x f. elim f.linked [ ];
    }

pub adds_no_item : (edges : List Edge) (b : Bool) (links : List Arrival) (old : List Item) →
    AddsBack edges b links [] old old
adds_no_item edges b links old =
    record {
      more = [];
      grown = sym (append-nil old);
      sound = λ x i. elim i [ ];
      complete =
          λ x f. elim f.listed [ ];
    }

more_links : (edges : List Edge) (b : Bool) (links more : List Arrival) (items : List Item)
    (x : Item) → BackFrom edges b links items x → BackFrom edges b (links ++ more) items x
more_links edges b links more items x f =
    record {
      item = f.item;
      link = f.link;
      listed = f.listed;
      linked =
          in_front f.link links more f.linked;
      back = f.back;
    }

more_items : (edges : List Edge) (b : Bool) (links : List Arrival) (items more : List Item)
    (x : Item) → BackFrom edges b links items x → BackFrom edges b links (items ++ more) x
more_items edges b links items more x f =
    record {
      item = f.item;
      link = f.link;
      listed = in_front f.item items more f.listed;
      linked =
          f.linked;
      back = f.back;
    }

-- what was there is kept
pub kept_more : (edges : List Edge) (b : Bool) (links : List Arrival)
    (front items items' : List Item) (x : Item) → AddsBack edges b links front items items' →
    IsIn x items → IsIn x items'
kept_more edges b links front items items' x h i =
    subst (λ (zs : List Item). IsIn x zs) (sym h.grown) (in_front x items h.more i)

pub merges_new : (items items' : List Item) (x : Item) → items' ≡ items ++ x ∷ [] →
    Merges items x items'
merges_new items items' x e = record {
  more = x ∷ [];
  grown = e;
  only = λ y i. elim i [ inl r ↦ r | inr r ↦ elim r [ ] ];
  there = subst (λ (zs : List Item). IsIn x zs) (sym e) (in_back x items (x ∷ []) (inl refl));
}

pub merges_known : (items : List Item) (x : Item) → IsIn x items → Merges items x items
merges_known items x i =
    record { more = []; grown = sym (append-nil items); only = λ y k. elim k [ ]; there = i }

-- one link, by which one item is added, unless it is there
pub adds_one : (edges : List Edge) (b : Bool) (j : Arrival) (y x : Item) (old found : List Item) →
    Back edges b x y j → ((z : Item) → Back edges b z y j → z ≡ x) → Merges old x found →
    AddsBack edges b (j ∷ []) (y ∷ []) old found
adds_one edges b j y x old found leads one m = record {
  more = m.more;
  grown = m.grown;
  sound = λ z k. record {
    item = y;
    link = j;
    listed = inl refl;
    linked = inl refl;
    back =
        subst (λ (w : Item). Back edges b w y j) (sym (m.only z k)) leads;
  };
  complete = λ z f. subst (λ (w : Item). IsIn w found)
      (sym (one z (only_back edges b j y z f))) m.there;
}

-- no item is before this one by the link
pub adds_none : (edges : List Edge) (b : Bool) (j : Arrival) (y : Item) (old : List Item) →
    ((z : Item) → Back edges b z y j → ⊥) → AddsBack edges b (j ∷ []) (y ∷ []) old old
adds_none edges b j y old none =
    record {
      more = [];
      grown = sym (append-nil old);
      sound = λ x i. elim i [ ];
      complete =
          λ x f. absurd (none x (only_back edges b j y x f));
    }

-- by two steps
adds_twice : (old more more' found found' : List Item) → found ≡ old ++ more →
    found' ≡ found ++ more' → found' ≡ old ++ (more ++ more')
adds_twice old more more' found found' e f = f ∙ ap (λ z. z ++ more') e
    ∙ append_assoc old more more'

-- by some links, and then by others
pub adds_links : (edges : List Edge) (b : Bool) (links more : List Arrival)
    (items old found found' : List Item) → AddsBack edges b links items old found →
    AddsBack edges b more items found found' → AddsBack edges b (links ++ more) items old found'
adds_links edges b links more items old found found' h k = record {
  more = h.more ++ k.more;
  grown = adds_twice old h.more k.more found found' h.grown k.grown;
  sound = λ x q. elim (in_either x h.more k.more q) [
    | inl r ↦ more_links edges b links more items x (h.sound x r)
    | inr r ↦ let f : BackFrom edges b more items x = k.sound x r in
        record {
          item = f.item;
          link = f.link;
          listed = f.listed;
          linked =
              in_back f.link links more f.linked;
          back = f.back;
        }
  ];
  complete = λ x f. elim (in_either f.link links more f.linked) [
    | inl r ↦ kept_more edges b more items found found' x k
        (h.complete x (record {
          item = f.item;
          link = f.link;
          listed = f.listed;
          linked =
              r;
          back = f.back;
        }))
    | inr r ↦ k.complete x (record {
      item = f.item;
      link = f.link;
      listed = f.listed;
      linked =
          r;
      back = f.back;
    })
  ];
}

-- from some items, and then from others
pub adds_items : (edges : List Edge) (b : Bool) (links : List Arrival)
    (items more old found found' : List Item) → AddsBack edges b links items old found →
    AddsBack edges b links more found found' → AddsBack edges b links (items ++ more) old found'
adds_items edges b links items more old found found' h k = record {
  more = h.more ++ k.more;
  grown = adds_twice old h.more k.more found found' h.grown k.grown;
  sound = λ x q. elim (in_either x h.more k.more q) [
    | inl r ↦ more_items edges b links items more x (h.sound x r)
    | inr r ↦ let f : BackFrom edges b links more x = k.sound x r in
        record {
          item = f.item;
          link = f.link;
          listed = in_back f.item items more f.listed;
          linked =
              f.linked;
          back = f.back;
        }
  ];
  complete = λ x f. elim (in_either f.item items more f.listed) [
    | inl r ↦ kept_more edges b links more found found' x k
        (h.complete x (record {
          item = f.item;
          link = f.link;
          listed = r;
          linked =
              f.linked;
          back = f.back;
        }))
    | inr r ↦ k.complete x (record {
      item = f.item;
      link = f.link;
      listed = r;
      linked =
          f.linked;
      back = f.back;
    })
  ];
}

-- from some items, and then from the one before them
pub adds_first : (edges : List Edge) (b : Bool) (links : List Arrival) (y : Item)
    (items old found found' : List Item) → AddsBack edges b links items old found →
    AddsBack edges b links (y ∷ []) found found' → AddsBack edges b links (y ∷ items) old found'
adds_first edges b links y items old found found' h k = record {
  more = h.more ++ k.more;
  grown = adds_twice old h.more k.more found found' h.grown k.grown;
  sound = λ x q. elim (in_either x h.more k.more q) [
    | inl r ↦ let f : BackFrom edges b links items x = h.sound x r in
        record {
          item = f.item;
          link = f.link;
          listed = inr f.listed;
          linked =
              f.linked;
          back = f.back;
        }
    | inr r ↦ more_items edges b links (y ∷ []) items x (k.sound x r)
  ];
  complete = λ x f. elim f.listed [
    | inl r ↦ k.complete x (record {
      item = f.item;
      link = f.link;
      listed = inl r;
      linked =
          f.linked;
      back = f.back;
    })
    | inr r ↦ kept_more edges b links (y ∷ []) found found' x k
        (h.complete x (record {
          item = f.item;
          link = f.link;
          listed = r;
          linked =
              f.linked;
          back = f.back;
        }))
  ];
}

-- a link more
pub adds_link : (edges : List Edge) (b : Bool) (links : List Arrival) (items : List Item) (i : ℕ)
    (j d : Arrival) (old found found' : List Item) → i < length links → j ≡ get_or links i d
    → AddsBack edges b (take i links) items old found → AddsBack edges b (j ∷ []) items found found'
    → AddsBack edges b (take (i + 1) links) items old found'
adds_link edges b links items i j d old found found' lt is h k =
    let e : take (i + 1) links ≡ take i links ++ j ∷ [] =
    take_more links i d lt ∙ ap (λ k. take i links ++ k ∷ []) (sym is) in
    subst (λ (ls : List Arrival). AddsBack edges b ls items old found') (sym e)
    (adds_links edges b (take i links) (j ∷ []) items old found found' h k)

-- an item more
pub adds_item : (edges : List Edge) (b : Bool) (links : List Arrival) (items : List Item) (i : ℕ)
    (y d : Item) (old found found' : List Item) → i < length items → y ≡ get_or items i d
    → AddsBack edges b links (take i items) old found → AddsBack edges b links (y ∷ []) found found'
    → AddsBack edges b links (take (i + 1) items) old found'
adds_item edges b links items i y d old found found' lt is h k =
    let e : take (i + 1) items ≡ take i items ++ y ∷ [] =
    take_more items i d lt ∙ ap (λ z. take i items ++ z ∷ []) (sym is) in
    subst (λ (ys : List Item). AddsBack edges b links ys old found') (sym e)
    (adds_items edges b links (take i items) (y ∷ []) old found found' h k)

-- Only links to the item's state lead back from it.
pub adds_here : (edges : List Edge) (b : Bool) (links here : List Arrival) (y : Item)
    (old found : List Item) → here ≡ filter (λ a. eqb (arrival_to a) y.state) links →
    AddsBack edges b here (y ∷ []) old found → AddsBack edges b links (y ∷ []) old found
adds_here edges b links here y old found e h =
    let h' : AddsBack edges b (filter (λ a. eqb (arrival_to a) y.state) links) (y ∷ []) old found =
    subst (λ (z : List Arrival). AddsBack edges b z (y ∷ []) old found) e h in
    record {
      more = h'.more;
      grown = h'.grown;
      sound = λ x q.
          let f : BackFrom edges b (filter (λ a. eqb (arrival_to a) y.state) links) (y ∷ []) x =
          h'.sound x q in
          record {
            item = f.item;
            link = f.link;
            listed = f.listed;
            linked =
                (filter_in (λ a. eqb (arrival_to a) y.state) f.link links f.linked).listed;
            back = f.back;
          };
      complete = λ x f.
          let one : f.item ≡ y = elim f.listed [ inl r ↦ r | inr r ↦ elim r [ ] ] in
          let at : f.link.to ≡ y.state = f.back.arrives ∙ sym f.back.to_is
          ∙ ap (λ (z : Item). z.state) one in
          let test : eqb (arrival_to f.link) y.state ≡ true = grind (arith, nat_tests) in
          h'.complete x (record {
            item = f.item;
            link = f.link;
            listed = f.listed;
            linked =
                in_filter (λ a. eqb (arrival_to a) y.state) f.link links f.linked test;
            back = f.back;
          });
    }

pub adds_none_here : (edges : List Edge) (b : Bool) (here : List Arrival) (items old : List Item) →
    length here ≡ 0 → AddsBack edges b here items old old
adds_none_here edges b [] items old n = adds_no_link edges b items old
adds_none_here edges b (a ∷ here) items old n = absurd (omega arith)

-- by all links but the last, and then by the last
pub adds_last : (edges : List Edge) (b : Bool) (here others : List Arrival) (last : Arrival)
    (items old found found' : List Item) → here ≡ others ++ last ∷ [] →
    AddsBack edges b others items old found → AddsBack edges b (last ∷ []) items found found'
    → AddsBack edges b here items old found'
adds_last edges b here others last items old found found' e h k =
    subst (λ (z : List Arrival). AddsBack edges b z items old found') (sym e)
    (adds_links edges b others (last ∷ []) items old found found' h k)

-- which edge leads back to an item
pub edge_back : (edges : List Edge) (b : Bool) (j : Arrival) (y z : Item) (e : Edge) →
    slice_get edges j.edge ≡ Some e → Back edges b z y j → (y.state ≡ e.to) × (j.to ≡ e.to)
    × (is_empty_side e.label.left ≡ b)
edge_back edges b j y z e at h =
    let there : Some h.edge ≡ Some e = sym h.at ∙ at in
    let same : h.edge ≡ e = cc in (
      h.to_is ∙ ap (λ (x : Edge). x.to) same,
      h.arrives ∙ ap (λ (x : Edge). x.to) same,
      ap (λ (x : Edge). is_empty_side x.label.left) (sym same) ∙ h.sort,
    )

-- Some of the items were taken, the last first, and gone back from.
pub record AreTaken (edges : List Edge) (links : List Arrival)
    (items left old found : List Item) : Type 0 where
  pub gone : List Item
  pub whole : items ≡ left ++ gone
  pub adds : AddsBack edges false links gone old found

pub none_taken : (edges : List Edge) (links : List Arrival) (items old : List Item) →
    AreTaken edges links items items old old
none_taken edges links items old =
    record { gone = []; whole = sym (append-nil items); adds = adds_no_item edges false links old }

pub one_taken : (edges : List Edge) (links : List Arrival)
    (items left left' old found found' : List Item) (y : Item) → left ≡ left' ++ y ∷ [] →
    AreTaken edges links items left old found → AddsBack edges false links (y ∷ []) found found' →
    AreTaken edges links items left' old found'
one_taken edges links items left left' old found found' y e h k = record {
  gone = y ∷ h.gone;
  whole = h.whole ∙ ap (λ (z : List Item). z ++ h.gone) e ∙ append_assoc left' (y ∷ []) h.gone;
  adds = adds_first edges false links y h.gone old found found' h.adds k;
}

pub all_taken : (edges : List Edge) (links : List Arrival) (items left old found : List Item) →
    left ≡ [] → old ≡ [] → AreTaken edges links items left old found →
    IsBack edges false links items found
all_taken edges links items left old found none first h =
    let gone : items ≡ h.gone = h.whole ∙ ap (λ (z : List Item). z ++ h.gone) none in
    let more : found ≡ h.adds.more =
    h.adds.grown ∙ ap (λ (z : List Item). z ++ h.adds.more) first in
    subst (λ (z : List Item). IsBack edges false links z found) (sym gone)
    (record {
      sound = λ x i. h.adds.sound x (subst (λ (z : List Item). IsIn x z) more i);
      complete = h.adds.complete;
    })

-- An item that is there stays when others are put behind.
pub stays : (old found more : List Item) (at : ℕ) (y : Item) → found ≡ old ++ more →
    slice_get old at ≡ Some y → slice_get found at ≡ Some y
stays old found more at y e h = ap (λ (z : List Item). slice_get z at) e
    ∙ place_front old more at y h

-- an edge that is there leads back to one item
pub one_back : (edges : List Edge) (b : Bool) (j : Arrival) (y z : Item) (e : Edge) →
    slice_get edges j.edge ≡ Some e → Back edges b z y j →
    z ≡ (let item : Item = record {
      state = e.from;
      back =
          y.back ++ option_to_list e.label.right;
    } in item)
one_back edges b j y z e at h =
    let there : Some h.edge ≡ Some e = sym h.at ∙ at in
    let same : h.edge ≡ e = cc in
    h.is ∙ ap (λ (x : Edge). (let item : Item =
    record { state = x.from; back = y.back ++ option_to_list x.label.right } in item)) same

split_in : (items : List Item) (n : ℕ) (x : Item) → IsIn x items →
    IsIn x (take n items) ⊎ IsIn x (drop n items)
split_in items n x i = in_either x (take n items) (drop n items)
    (subst (λ (z : List Item). IsIn x z) (sym (take-append-drop n items)) i)

pub dropped_in : (items : List Item) (n : ℕ) (x : Item) → IsIn x (drop n items) → IsIn x items
dropped_in items n x i =
    subst (λ (z : List Item). IsIn x z) (take-append-drop n items)
    (in_back x (take n items) (drop n items) i)

-- one round more
pub closed_more : (edges : List Edge) (links : List Arrival) (items items' : List Item)
    (from end : ℕ) (x : Item) → end ≡ length items →
    (h : AddsBack edges true links (drop from items) items items')
    → ((z : Item) → BackFrom edges true links (take from items) z → IsIn z items) →
    BackFrom edges true links (take end items') x → IsIn x items'
closed_more edges links items items' from end x e h closed f =
    let old : take end items' ≡ items = ap (take end) h.grown ∙ take_at items h.more end (sym e) in
    elim (split_in items from f.item (subst (λ (zs : List Item). IsIn f.item zs) old f.listed)) [
      | inl q ↦ kept_more edges true links (drop from items) items items' x h
          (closed x (record {
            item = f.item;
            link = f.link;
            listed = q;
            linked =
                f.linked;
            back = f.back;
          }))
      | inr q ↦ h.complete x (record {
        item = f.item;
        link = f.link;
        listed = q;
        linked =
            f.linked;
        back = f.back;
      })
    ]

pub many_more : (edges : List Edge) (links : List Arrival) (base front : List Item) (x : Item) →
    ((z : Item) → IsIn z front → BackMany edges links base z) → BackFrom edges true links front x →
    BackMany edges links base x
many_more edges links base front x sound f =
    onward f.item f.link f.linked f.back (sound f.item f.listed)

-- so many edges with an empty left side lead on from the item's state
pub record Stands (m : Machine) (round : ℕ) (x : Item) : Type 0 where
  pub below : x.state < m.states
  pub end : ℕ
  pub walk : SilentWalk m.edges x.state round end

silent_before : (edges : List Edge) (s n t j : ℕ) (e : Edge) → slice_get edges j ≡ Some e →
    e.label.left ≡ None → s ≡ e.from → SilentWalk edges e.to n t → SilentWalk edges s (suc n) t
silent_before edges s zero t j e at left from (still q) =
    step s j e (still refl) at left from (sym q)
silent_before edges s (suc n) t j e at left from (step u k d walk at' left' f g) =
    step u k d (silent_before edges s n u j e at left from walk) at' left' f g

pub stands_first : (m : Machine) (x : Item) → x.state < m.states → Stands m 0 x
stands_first m x lt = record { below = lt; end = x.state; walk = still refl }

-- back by one round more
pub stands_more : (m : Machine) (links : List Arrival) (front : List Item) (round : ℕ) (x : Item) →
    IsMachine m → ((z : Item) → IsIn z front → Stands m round z) →
    BackFrom m.edges true links front x → Stands m (round + 1) x
stands_more m links front round x ok all f =
    let s : Stands m round f.item = all f.item f.listed in
    let from : x.state ≡ f.back.edge.from = ap (λ (z : Item). z.state) f.back.is in
    let lt : f.back.edge.from < m.states = from_in m ok f.link.edge f.back.edge f.back.at in
    let n : suc round ≡ round + 1 = omega arith in
    record {
      below = omega arith;
      end = s.end;
      walk = subst (λ (k : ℕ). SilentWalk m.edges x.state k s.end) n
          (silent_before m.edges x.state round s.end f.link.edge f.back.edge f.back.at
          (side_none f.back.edge.label.left f.back.sort) from
          (subst (λ (z : ℕ). SilentWalk m.edges z round s.end) f.back.to_is s.walk));
    }

pub first_in : {X : Type 0} (xs : List X) → 0 < length xs → (x : X) × IsIn x xs
first_in [] h = absurd (omega arith)
first_in (x ∷ xs) h = (x, inl refl)

-- while something is left, the rounds are fewer than the states
pub round_below : (m : Machine) (front : List Item) (round : ℕ) →
    ((w : Machine) → IsMachine w → HasNoEmptyCycle w → (s n t : ℕ) → SilentWalk w.edges s n t →
    s < w.states → n < w.states) → IsMachine m → HasNoEmptyCycle m → 0 < length front
    → ((x : Item) → IsIn x front → Stands m round x) → round < m.states
round_below m front round law ok none some all =
    let (x, i) = first_in front some in
    let s : Stands m round x = all x i in
    law m ok none x.state round s.end s.walk s.below

pub many_by : (edges : List Edge) (links : List Arrival) (base items : List Item) (from : ℕ) →
    length items ≤ from → ((x : Item) → IsIn x items → BackMany edges links base x) →
    ((x : Item) → IsIn x base → IsIn x items)
    → ((x : Item) → BackFrom edges true links (take from items) x → IsIn x items) →
    IsBackMany edges links base items
many_by edges links base items from all sound base_in closed = record {
  sound = sound;
  given_in = base_in;
  closed = λ x f. closed x
      (record {
        item = f.item;
        link = f.link;
        listed =
            subst (λ (zs : List Item). IsIn f.item zs) (sym (take_all from items all)) f.listed;
        linked =
            f.linked;
        back = f.back;
      });
}

-- what is there or was added in one round more
pub sound_more : (edges : List Edge) (links : List Arrival) (base items items' : List Item)
    (from : ℕ) (x : Item) → (h : AddsBack edges true links (drop from items) items items') →
    ((z : Item) → IsIn z items → BackMany edges links base z)
    → IsIn x items' → BackMany edges links base x
sound_more edges links base items items' from x h sound i =
    elim (in_either x items h.more (subst (λ (zs : List Item). IsIn x zs) h.grown i)) [
      | inl q ↦ sound x q
      | inr q ↦ many_more edges links base (drop from items) x
          (λ z k. sound z (dropped_in items from z k)) (h.sound x q)
    ]

-- what stands behind those that were there was added
pub added_more : (edges : List Edge) (links : List Arrival) (front items items' : List Item)
    (end : ℕ) (x : Item) → end ≡ length items → (h : AddsBack edges true links front items items') →
    IsIn x (drop end items') → IsIn x h.more
added_more edges links front items items' end x e h i =
    subst (λ (zs : List Item). IsIn x zs)
    (ap (drop end) h.grown ∙ drop_at items h.more end (sym e)) i

pub no_fewer : (edges : List Edge) (links : List Arrival) (front items items' : List Item) →
    AddsBack edges true links front items items' → length items ≤ length items'
no_fewer edges links front items items' h =
    let n : length items' ≡ length items + length h.more = ap (length {A = Item}) h.grown
    ∙ length-append items h.more in
    omega arith

none_begun : (edges : List Edge) (links : List Arrival) (items old : List Item) →
    AddsBack edges true links (take 0 items) old old
none_begun edges links [] old = adds_no_item edges true links old
none_begun edges links (x ∷ items) old = adds_no_item edges true links old

pub adds_begin : (edges : List Edge) (links : List Arrival) (items : List Item) (from : ℕ) →
    AddsBack edges true links (take (from - from) (drop from items)) items items
adds_begin edges links items from =
    let n : 0 ≡ from - from = omega arith in
    subst (λ z. AddsBack edges true links (take z (drop from items)) items items) n
    (none_begun edges links (drop from items) items)

pub none_before : (items : List Item) (x : Item) → IsIn x (take 0 items) → ⊥
none_before [] x i = elim i [ ]
none_before (y ∷ items) x i = elim i [ ]

-- an item more of those from a place on
pub adds_at : (edges : List Edge) (links : List Arrival) (items : List Item) (from at : ℕ)
    (found found' : List Item) → from ≤ at → at < length items →
    AddsBack edges true links (take (at - from) (drop from items)) items found
    → ((y : Item) → slice_get found at ≡ Some y → AddsBack edges true links (y ∷ []) found found') →
    AddsBack edges true links (take (at + 1 - from) (drop from items)) items found'
adds_at edges links items from at found found' le lt h k =
    let d : Item = record { state = 0; back = [] } in
    let y : Item = get_or items at d in
    let there : slice_get found at ≡ Some y =
    stays items found h.more at y h.grown (slice_get-get_or items at d lt) in
    let n : at + 1 - from ≡ at - from + 1 = omega arith in
    let sum : from + (at - from) ≡ at = omega arith in
    let within : at - from < length (drop from items) = omega (arith, length-drop from items) in
    let is : y ≡ get_or (drop from items) (at - from) d =
    sym (get_or-drop from items (at - from) d ∙ ap (λ z. get_or items z d) sum) in
    let more : AddsBack edges true links (take (at - from + 1) (drop from items)) items found' =
    adds_item edges true links (drop from items) (at - from) y d items found found' within is h
    (k y there) in
    subst (λ z. AddsBack edges true links (take z (drop from items)) items found') (sym n) more

pub adds_from : (edges : List Edge) (links : List Arrival) (items : List Item) (from at : ℕ)
    (found : List Item) → length items ≤ at →
    AddsBack edges true links (take (at - from) (drop from items)) items found →
    AddsBack edges true links (drop from items) items found
adds_from edges links items from at found all h =
    let whole : length (drop from items) ≤ at - from = omega (arith, length-drop from items) in
    subst (λ (z : List Item). AddsBack edges true links z items found)
    (take_all (at - from) (drop from items) whole) h

pub many_none : (edges : List Edge) (links : List Arrival) (base : List Item) → length links ≡ 0 →
    IsBackMany edges links base base
many_none edges [] base n =
    record { sound = λ x i. given i; given_in = λ x i. i; closed = λ x f. elim f.linked [ ] }
many_none edges (a ∷ links) base n = absurd (omega arith)

-- ---- outputs of symbols that a word may hold

abbrev pub IsClean : Item → Type 0
IsClean x = IsTrue (list_all is_word_symbol x.back)

all_both : (xs ys : List Symbol) → list_all is_word_symbol xs ≡ true → list_all is_word_symbol ys
    ≡ true → list_all is_word_symbol (xs ++ ys) ≡ true
all_both [] ys h k = k
all_both (x ∷ xs) ys h k =
    let p : (is_word_symbol x ≡ true) × (list_all is_word_symbol xs ≡ true) =
    and_parts (is_word_symbol x) (list_all is_word_symbol xs) h in
    both_true (is_word_symbol x) (list_all is_word_symbol (xs ++ ys)) p.0 (all_both xs ys p.1 k)

side_clean : (o : Option Symbol) → is_word_side o ≡ true →
    list_all is_word_symbol (option_to_list o) ≡ true
side_clean None h = refl
side_clean (Some x) h = both_true (is_word_symbol x) true h refl

clean_step : (m : Machine) (b : Bool) (x y : Item) (j : Arrival) → WritesWords m →
    Back m.edges b x y j → IsClean y → IsClean x
clean_step m b x y j writes back clean =
    let is : x.back ≡ y.back ++ option_to_list back.edge.label.right =
    ap (λ (z : Item). z.back) back.is in
    ap (list_all is_word_symbol) is
    ∙ all_both y.back (option_to_list back.edge.label.right) clean
    (side_clean back.edge.label.right
    (writes back.edge (in_from_place m.edges j.edge back.edge back.at)))

pub clean_back : (m : Machine) (b : Bool) (links : List Arrival) (items found : List Item) →
    WritesWords m → IsBack m.edges b links items found → ((z : Item) → IsIn z items → IsClean z) →
    (x : Item) → IsIn x found → IsClean x
clean_back m b links items found writes back all x i =
    let f : BackFrom m.edges b links items x = back.sound x i in
    clean_step m b x f.item f.link writes f.back (all f.item f.listed)

pub many_clean : (m : Machine) (links : List Arrival) (base : List Item) (x : Item) → WritesWords m →
    ((z : Item) → IsIn z base → IsClean z) → BackMany m.edges links base x → IsClean x
many_clean m links base x writes all (given i) = all x i
many_clean m links base x writes all (onward y j linked b more) =
    clean_step m true x y j writes b (many_clean m links base y writes all more)

pub clean_many : (m : Machine) (links : List Arrival) (base items : List Item) → WritesWords m →
    IsBackMany m.edges links base items → ((z : Item) → IsIn z base → IsClean z) → (x : Item) →
    IsIn x items → IsClean x
clean_many m links base items writes many all x i =
    many_clean m links base x writes all (many.sound x i)

pub clean_finals : (m : Machine) (states : List ℕ) (items : List Item) → AreFinals m states items →
    (x : Item) → IsIn x items → IsClean x
clean_finals m states items finals x i = ap (list_all is_word_symbol) (finals.sound x i).2
