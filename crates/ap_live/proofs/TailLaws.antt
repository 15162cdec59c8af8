use Rattle.std.proofs.Common.{◌≡◌, ◌⊎◌, inl, inr, ℕ, ◌+◌, ◌<◌, true, false, List, [], ◌∷◌, ◌++◌, refl, sym, ◌∙◌, ap, subst, append-nil, arith, Option, Some, None, slice_get, length, take, drop, get_or, suc, zero}
use Rattle.std.specs.Option.{option_to_list}
use Rattle.std.specs.Prelude.{◌↔◌}
use Rattle.std.proofs.lemmas.List.{take_more}
use Rattle.std.proofs.lemmas.Option.{slice_get_read}
use Rattle.ap_symbol.specs.declared.symbol.Symbol.{Symbol}
use Rattle.ap_fst.specs.Lists.{IsIn}
use Rattle.ap_fst.specs.Machines.{Machine}
use Rattle.ap_fst.specs.declared.label.Edge.{Edge}
use Rattle.ap_live.specs.Fitting.{Input, picks, is_empty_side, fits_side}
use Rattle.ap_live.specs.Spreads.{Picked, arrival}
use Rattle.ap_live.specs.Rows.{Reach, begin, EntersTaking, IsRow, AreRows}
use Rattle.ap_live.specs.Tails.{Tail, stop, BaseTail, stops, takes, AreBase, AreItems, AreFinals, AreBacks, Back, BackFrom, IsBack, IsBackMany, BackMany, given, onward}
use Rattle.ap_live.specs.Tails as tails
use Rattle.ap_live.specs.Rows as rows
use Rattle.ap_live.specs.declared.arrivals.Arrival.{Arrival}
use Rattle.ap_live.specs.declared.items.Item.{Item}
use Rattle.ap_live.specs.declared.rows.Row.{Row}
use Rattle.ap_live.proofs.RowLaws.{snoc_parts}

abbrev pub item : ℕ → List Symbol → Item
item s back = record { state = s; back = back }

pub item_same : (s t : ℕ) (a b : List Symbol) → s ≡ t → a ≡ b → item s a ≡ item t b
item_same s t a b e f = ap (λ x. item x a) e ∙ ap (λ y. item t y) f

-- an empty edge back is an empty edge on
abbrev back_picked : (m : Machine) (x y : Item) (j : Arrival) → Back m.edges true x y j →
    Picked m.edges None x.state y.state j.edge
back_picked m x y j b = record {
  edge = b.edge;
  at = b.at;
  from_is =
      ap (λ (z : Item). z.state) b.is;
  to_is = b.to_is;
  passes = b.sort;
}

pub many_tail : (m : Machine) (later : List Input) (links : List Arrival) (base : List Item)
    (x : Item) → ((y : Item) → IsIn y base → Tail m later y.state y.back) →
    BackMany m.edges links base x → Tail m later x.state x.back
many_tail m later links base x all (given i) = all x i
many_tail m later links base x all (onward y j linked b more) =
    tails.silent y.state j.edge y.back (back_picked m x y j b) (ap (λ (z : Item). z.back) b.is)
    (many_tail m later links base y all more)

many_complete : (m : Machine) (seen later : List Input) (row : Row) (base items : List Item) (s : ℕ)
    (back : List Symbol) → IsRow m.edges seen row → AreBase m seen later base →
    IsBackMany m.edges row.silent.items base items
    → Reach m.edges seen s → Tail m later s back → IsIn (item s back) items
many_complete m seen later row base items s back row_is is many reach (stop e f z) =
    many.given_in (item s back) (is.complete (item s back) reach (stops e f z))
many_complete m seen later row base items s back row_is is many reach
    (tails.taken input more t j rest e p w tail) =
    many.given_in (item s back)
    (is.complete (item s back) reach (takes input more t j rest e p w tail))
many_complete m seen later row base items s back row_is is many reach
    (tails.silent t j rest p w tail) =
    let there : IsIn (item t rest) items =
    many_complete m seen later row base items t rest row_is is many
    (rows.silent s j p reach) tail in
    let b : Back m.edges true (item s back) (item t rest) (arrival t j) =
    record {
      edge = p.edge;
      at = p.at;
      to_is = p.to_is;
      arrives = p.to_is;
      sort = p.passes;
      is =
          item_same s p.edge.from back (rest ++ option_to_list p.edge.label.right) p.from_is w;
    } in
    many.closed (item s back)
    (record {
      item = item t rest;
      link = arrival t j;
      listed = there;
      linked =
          row_is.silent_complete t j (record { from = s; picked = p; reached = reach });
      back = b;
    })

pub items_closed : (m : Machine) (seen later : List Input) (row : Row) (base items : List Item) →
    IsRow m.edges seen row → AreBase m seen later base →
    IsBackMany m.edges row.silent.items base items → AreItems m seen later items
items_closed m seen later row base items row_is is many = record {
  sound = λ x i. many_tail m later row.silent.items base x is.sound (many.sound x i);
  complete = λ x reach tail. many_complete m seen later row base items x.state x.back row_is is
      many reach tail;
}

pub not_empty : (input : Input) (o : Option Symbol) → fits_side input o ≡ true → is_empty_side o ≡ false
not_empty input None e = cc
not_empty input (Some x) e = refl

-- the step back over one input
pub base_sound : (m : Machine) (seen later : List Input) (input : Input) (row : Row)
    (items : List Item) (x : Item) → IsRow m.edges (seen ++ input ∷ []) row →
    ((y : Item) → IsIn y items → Tail m later y.state y.back)
    → BackFrom m.edges false row.taken.items items x → Tail m (input ∷ later) x.state x.back
base_sound m seen later input row items x row_is all f =
    let e : EntersTaking m.edges (seen ++ input ∷ []) f.link.to f.link.edge =
    row_is.taken_sound f.link f.linked in
    let there : Some e.picked.edge ≡ Some f.back.edge = sym e.picked.at ∙ f.back.at in
    let same : e.picked.edge ≡ f.back.edge = cc in
    let parts = snoc_parts e.before seen e.input input (sym e.whole) in
    let passes : picks (Some input) f.back.edge ≡ true =
    subst (λ (i : Input). picks (Some i) f.back.edge ≡ true) parts.1
    (ap (picks (Some e.input)) (sym same) ∙ e.picked.passes) in
    let q : Picked m.edges (Some input) x.state f.item.state f.link.edge =
    record {
      edge = f.back.edge;
      at = f.back.at;
      from_is = ap (λ (z : Item). z.state) f.back.is;
      to_is = f.back.to_is;
      passes = passes;
    } in
    tails.taken input later f.item.state f.link.edge f.item.back refl q
    (ap (λ (z : Item). z.back) f.back.is) (all f.item f.listed)

base_complete : (m : Machine) (seen later all : List Input) (input : Input) (row : Row)
    (items : List Item) (x : Item) → IsRow m.edges (seen ++ input ∷ []) row →
    AreItems m (seen ++ input ∷ []) later items
    → Reach m.edges seen x.state → all ≡ input ∷ later → BaseTail m all x.state x.back →
    BackFrom m.edges false row.taken.items items x
base_complete m seen later all input row items x row_is is reach a (stops e f z) =
    let none : input ∷ later ≡ [] = sym a ∙ e in absurd (cc)
base_complete m seen later all input row items x row_is is reach a
    (takes input' more t j rest e p w tail) =
    let both : input' ∷ more ≡ input ∷ later = sym e ∙ a in
    let i : input' ≡ input = cc in
    let l : more ≡ later = cc in
    let q : Picked m.edges (Some input) x.state t j =
    record {
      edge = p.edge;
      at = p.at;
      from_is = p.from_is;
      to_is = p.to_is;
      passes =
          subst (λ (z : Input). picks (Some z) p.edge ≡ true) i p.passes;
    } in
    let tail' : Tail m later t rest = subst (λ (z : List Input). Tail m z t rest) l tail in
    let there : IsIn (item t rest) items =
    is.complete (item t rest) (rows.taken seen input x.state j q refl reach) tail' in
    record {
      item = item t rest;
      link = arrival t j;
      listed = there;
      linked = row_is.taken_complete t j
          (record {
            before = seen;
            input = input;
            from = x.state;
            whole = refl;
            picked =
                q;
            reached = reach;
          });
      back = record {
        edge = p.edge;
        at = p.at;
        to_is = p.to_is;
        arrives = p.to_is;
        sort =
            not_empty input p.edge.label.left q.passes;
        is =
            item_same x.state p.edge.from x.back (rest ++ option_to_list p.edge.label.right)
            p.from_is w;
      };
    }

pub base_before : (m : Machine) (seen later : List Input) (input : Input) (row : Row)
    (items base : List Item) → IsRow m.edges (seen ++ input ∷ []) row →
    AreItems m (seen ++ input ∷ []) later items
    → IsBack m.edges false row.taken.items items base → AreBase m seen (input ∷ later) base
base_before m seen later input row items base row_is is back = record {
  sound = λ x i. base_sound m seen later input row items x row_is is.sound (back.sound x i);
  complete = λ x reach tail. back.complete x
      (base_complete m seen later (input ∷ later) input row items x row_is is reach refl tail);
}

-- the last row
last_complete : (m : Machine) (seen : List Input) {later : List Input} (row : Row)
    (base : List Item) (x : Item) → IsRow m.edges seen row → AreFinals m row.states.items base →
    Reach m.edges seen x.state
    → BaseTail m later x.state x.back → later ≡ [] → IsIn x base
last_complete m seen row base x row_is finals reach (stops e f z) l =
    subst (λ (y : Item). IsIn y base) (sym (item_same x.state x.state x.back [] refl z))
    (finals.complete x.state (row_is.complete x.state reach) f)
last_complete m seen row base x row_is finals reach (takes input more t j rest e p w tail) l =
    let none : input ∷ more ≡ [] = sym e ∙ l in absurd (cc)

pub base_last : (m : Machine) (seen : List Input) (row : Row) (base : List Item) →
    IsRow m.edges seen row → AreFinals m row.states.items base → AreBase m seen [] base
base_last m seen row base row_is finals = record {
  sound = λ x i. let f = finals.sound x i in stop refl f.0 f.2;
  complete = λ x reach tail. last_complete m seen row base x row_is finals reach tail refl;
}

-- one input stands between
pub record IsCut (seen : List Input) (k : ℕ) : Type 0 where
  pub input : Input
  pub front : take (k + 1) seen ≡ take k seen ++ input ∷ []
  pub back : drop k seen ≡ input ∷ drop (k + 1) seen

cut_front : (x : Input) (xs : List Input) (k : ℕ) (i : Input) → take (k + 1) xs ≡ take k xs ++ i
    ∷ [] → take (suc k + 1) (x ∷ xs) ≡ take (suc k) (x ∷ xs) ++ i ∷ []
cut_front x xs k i e = let n : suc k + 1 ≡ suc (k + 1) = omega arith in ap (λ z. take z (x ∷ xs)) n
    ∙ ap (λ z. x ∷ z) e

cut_back : (x : Input) (xs : List Input) (k : ℕ) (i : Input) → drop k xs ≡ i ∷ drop (k + 1) xs →
    drop (suc k) (x ∷ xs) ≡ i ∷ drop (suc k + 1) (x ∷ xs)
cut_back x xs k i e = let n : suc (k + 1) ≡ suc k + 1 = omega arith in
    e ∙ ap (λ z. i ∷ drop z (x ∷ xs)) n

pub cut_at : (seen : List Input) (k : ℕ) → k < length seen → IsCut seen k
cut_at [] k h = absurd (omega arith)
cut_at (x ∷ xs) zero h = record { input = x; front = refl; back = refl }
cut_at (x ∷ xs) (suc k) h =
    let c : IsCut xs k = cut_at xs k (omega arith) in
    record {
      input = c.input;
      front = cut_front x xs k c.input c.front;
      back =
          cut_back x xs k c.input c.back;
    }

in_front : {X : Type 0} (x : X) (xs ys : List X) → IsIn x xs → IsIn x (xs ++ ys)
in_front x [] ys h = elim h [ ]
in_front x (y ∷ xs) ys (inl e) = inl e
in_front x (y ∷ xs) ys (inr h) = inr (in_front x xs ys h)

in_back : {X : Type 0} (x : X) (xs ys : List X) → IsIn x ys → IsIn x (xs ++ ys)
in_back x [] ys h = h
in_back x (y ∷ xs) ys h = inr (in_back x xs ys h)

in_either : {X : Type 0} (x : X) (xs ys : List X) → IsIn x (xs ++ ys) → IsIn x xs ⊎ IsIn x ys
in_either x [] ys h = inr h
in_either x (y ∷ xs) ys (inl e) = inl (inl e)
in_either x (y ∷ xs) ys (inr h) = elim (in_either x xs ys h) [ inl k ↦ inl (inr k) | inr k ↦ inr k ]

-- an item at the start, or not
pub start_there : (old new : List (List Symbol)) (b : List Symbol) → new ≡ old ++ b ∷ [] →
    (back : List Symbol) → IsIn back new ↔ (IsIn back old ⊎ (item 0 back ≡ item 0 b))
start_there old new b e back = (
  (λ i. elim (in_either back old (b ∷ []) (subst (λ (z : List (List Symbol)). IsIn back z) e i))
      [ inl q ↦ inl q | inr q ↦ elim q [ inl r ↦ inr (ap (item 0) r) | inr r ↦ elim r [ ] ] ]),
  (λ h. subst (λ (z : List (List Symbol)). IsIn back z) (sym e)
      (elim h [
        | inl q ↦ in_front back old (b ∷ []) q
        | inr q ↦
            in_back back old (b ∷ []) (inl (ap (λ (z : Item). z.back) q))
      ])),
)

pub start_more : (old new : List (List Symbol)) (yielded : List Item) (x : Item) →
    ((back : List Symbol) → IsIn back old ↔ IsIn (item 0 back) yielded) →
    ((back : List Symbol) → IsIn back new ↔ (IsIn back old ⊎ (item 0 back ≡ x)))
    → (back : List Symbol) → IsIn back new ↔ IsIn (item 0 back) (yielded ++ x ∷ [])
start_more old new yielded x h k back = (
  (λ i. elim ((k back).0 i) [
    | inl q ↦ in_front (item 0 back) yielded (x ∷ []) ((h back).0 q)
    | inr q ↦ in_back (item 0 back) yielded (x ∷ []) (inl q)
  ]),
  (λ i. (k back).1 (elim (in_either (item 0 back) yielded (x ∷ []) i) [
    | inl q ↦ inl ((h back).1 q)
    | inr q ↦ elim q [ inl r ↦ inr r | inr r ↦ elim r [ ] ]
  ])),
)

finals_grow : (m : Machine) (states : List ℕ) (s : ℕ) (items new : List Item) →
    AreFinals m states items →
    ((x : Item) → IsIn x new → IsIn x items ⊎ ((x ≡ item s []) × IsIn s m.finals)) →
    ((x : Item) → IsIn x items → IsIn x new)
    → (IsIn s m.finals → IsIn (item s []) new) → AreFinals m (states ++ s ∷ []) new
finals_grow m states s items new h sound kept added = record {
  sound = λ x i. elim (sound x i) [
    | inl q ↦ let f = h.sound x q in (f.0, in_front x.state states (s ∷ []) f.1, f.2)
    | inr (e, f) ↦
        let st : x.state ≡ s = ap (λ (z : Item). z.state) e in (
          subst (λ (z : ℕ). IsIn z m.finals) (sym st) f,
          in_back x.state states (s ∷ []) (inl st),
          ap (λ (z : Item). z.back) e,
        )
  ];
  complete = λ t i f. elim (in_either t states (s ∷ []) i) [
    | inl q ↦ kept (item t []) (h.complete t q f)
    | inr q ↦ elim q [
      | inl e ↦
          subst (λ (z : ℕ). IsIn (item z []) new) (sym e)
          (added (subst (λ (z : ℕ). IsIn z m.finals) e f))
      | inr z ↦ elim z [ ]
    ]
  ];
}

pub finals_push : (m : Machine) (states : List ℕ) (i s : ℕ) (b : List Symbol)
    (items new : List Item) → i < length states → s ≡ get_or states i 0 → IsIn s m.finals → b ≡ [] →
    new ≡ items ++ item s b ∷ []
    → AreFinals m (take i states) items → AreFinals m (take (i + 1) states) new
finals_push m states i s b items new lt is f be e h =
    let t : take (i + 1) states ≡ take i states ++ s ∷ [] =
    take_more states i 0 lt ∙ ap (λ z. take i states ++ z ∷ []) (sym is) in
    let e' : new ≡ items ++ item s [] ∷ [] = e ∙ ap (λ z. items ++ item s z ∷ []) be in
    subst (λ (z : List ℕ). AreFinals m z new) (sym t) (finals_grow m (take i states) s items new h
    (λ x k. elim (in_either x items (item s [] ∷ []) (subst (λ (z : List Item). IsIn x z) e' k))
    [ inl q ↦ inl q | inr q ↦ elim q [ inl r ↦ inr (r, f) | inr r ↦ elim r [ ] ] ])
    (λ x k. subst (λ (z : List Item). IsIn x z) (sym e') (in_front x items (item s [] ∷ []) k))
    (λ k. subst (λ (z : List Item). IsIn (item s []) z) (sym e')
    (in_back (item s []) items (item s [] ∷ []) (inl refl))))

pub finals_skip : (m : Machine) (states : List ℕ) (i s : ℕ) (items : List Item) →
    i < length states → s ≡ get_or states i 0 → (IsIn s m.finals → ⊥) →
    AreFinals m (take i states) items → AreFinals m (take (i + 1) states) items
finals_skip m states i s items lt is none h =
    let t : take (i + 1) states ≡ take i states ++ s ∷ [] =
    take_more states i 0 lt ∙ ap (λ z. take i states ++ z ∷ []) (sym is) in
    subst (λ (z : List ℕ). AreFinals m z items) (sym t)
    (finals_grow m (take i states) s items items h (λ x k. inl k) (λ x k. k)
    (λ f. absurd (none f)))

pub drop-all : (xs : List Input) → drop (length xs) xs ≡ []
drop-all [] = refl
drop-all (x ∷ xs) = drop-all xs

drop-none : (xs : List Input) → drop 0 xs ≡ xs
drop-none [] = refl
drop-none (x ∷ xs) = refl

take-none : (xs : List Input) → take 0 xs ≡ []
take-none [] = refl
take-none (x ∷ xs) = refl

-- the rows, from the last back to the first
pub items_last : (m : Machine) (seen : List Input) (rws : List Row) (row : Row) (at : ℕ)
    (base items : List Item) → AreRows m.edges seen rws → at + 1 ≡ length rws →
    slice_get rws at ≡ Some row
    → AreFinals m row.states.items base → IsBackMany m.edges row.silent.items base items →
    AreItems m (take at seen) (drop at seen) items
items_last m seen rws row at base items live n get finals many =
    let c : length rws ≡ length seen + 1 = live.count in
    let k : at ≡ length seen = omega arith in
    let is : IsRow m.edges (take at seen) row = live.each at row get in
    let done : drop at seen ≡ [] = ap (λ z. drop z seen) k ∙ drop-all seen in
    subst (λ (z : List Input). AreItems m (take at seen) z items) (sym done)
    (items_closed m (take at seen) [] row base items is
    (base_last m (take at seen) row base is finals) many)

pub items_before : (m : Machine) (seen : List Input) (rws : List Row) (row earlier : Row) (at : ℕ)
    (items base items' : List Item) → AreRows m.edges seen rws → at + 1 < length rws
    → slice_get rws (at + 1) ≡ Some row → slice_get rws at ≡ Some earlier →
    AreItems m (take (at + 1) seen) (drop (at + 1) seen) items →
    IsBack m.edges false row.taken.items items base
    → IsBackMany m.edges earlier.silent.items base items' →
    AreItems m (take at seen) (drop at seen) items'
items_before m seen rws row earlier at items base items' live lt get get' is back many =
    let c : length rws ≡ length seen + 1 = live.count in
    let cut : IsCut seen at = cut_at seen at (omega arith) in
    let r : IsRow m.edges (take (at + 1) seen) row = live.each (at + 1) row get in
    let r' : IsRow m.edges (take at seen ++ cut.input ∷ []) row =
    subst (λ (z : List Input). IsRow m.edges z row) cut.front r in
    let is' : AreItems m (take at seen ++ cut.input ∷ []) (drop (at + 1) seen) items =
    subst (λ (z : List Input). AreItems m z (drop (at + 1) seen) items) cut.front is in
    let e : IsRow m.edges (take at seen) earlier = live.each at earlier get' in
    subst (λ (z : List Input). AreItems m (take at seen) z items') (sym cut.back)
    (items_closed m (take at seen) (cut.input ∷ drop (at + 1) seen) earlier base items' e
    (base_before m (take at seen) (drop (at + 1) seen) cut.input row items base r'
    is' back) many)

pub finals_below : (m : Machine) (states : List ℕ) (items : List Item) (x : Item) →
    ((s : ℕ) → IsIn s m.finals → s < m.states) → AreFinals m states items → IsIn x items →
    x.state < m.states
finals_below m states items x below f i = below x.state (f.sound x i).0

pub back_below : (m : Machine) (links : List Arrival) (items base : List Item) (x : Item) →
    ((j : ℕ) (e : Edge) → slice_get m.edges j ≡ Some e → e.from < m.states) →
    IsBack m.edges false links items base → IsIn x base → x.state < m.states
back_below m links items base x below h i =
    let f : BackFrom m.edges false links items x = h.sound x i in
    let lt : f.back.edge.from < m.states = below f.link.edge f.back.edge f.back.at in
    let e : x.state ≡ f.back.edge.from = ap (λ (z : Item). z.state) f.back.is in
    omega arith

pub backs_by : (m : Machine) (seen : List Input) (items : List Item) (backs : List (List Symbol))
    (at : ℕ) → at ≡ 0 → AreItems m (take at seen) (drop at seen) items
    → ((back : List Symbol) → IsIn back backs ↔ IsIn (item 0 back) items) → AreBacks m seen backs
backs_by m seen items backs at z is h =
    let is0 : AreItems m (take 0 seen) (drop 0 seen) items =
    subst (λ (k : ℕ). AreItems m (take k seen) (drop k seen) items) z is in
    let is' : AreItems m [] seen items =
    subst (λ (w : List Input). AreItems m [] w items) (drop-none seen)
    (subst (λ (w : List Input). AreItems m w (drop 0 seen) items) (take-none seen) is0) in
    record {
      sound = λ back i. is'.sound (item 0 back) ((h back).0 i);
      complete = λ back tail. (h back).1 (is'.complete (item 0 back) (begin refl refl) tail);
    }

pub start_all : (backs : List (List Symbol)) (items yielded rest : List Item) →
    items ≡ yielded ++ rest → rest ≡ [] →
    ((back : List Symbol) → IsIn back backs ↔ IsIn (item 0 back) yielded) → (back : List Symbol) →
    IsIn back backs ↔ IsIn (item 0 back) items
start_all backs items yielded rest e f h back =
    subst (λ (z : List Item). IsIn back backs ↔ IsIn (item 0 back) z)
    (sym (e ∙ ap (λ z. yielded ++ z) f ∙ append-nil yielded)) (h back)

pub row_read : (rws : List Row) (at : ℕ) (row : Row) → at < length rws → row ≡ get_or rws at row →
    slice_get rws at ≡ Some row
row_read rws at row lt e = slice_get_read rws (length rws) at row refl lt e

pub over_at : {X : Type 0} (xs : List X) (n : ℕ) → n ≡ length xs → n ≡ 0 → xs ≡ []
over_at [] n e z = refl
over_at (x ∷ xs) n e z = absurd (omega arith)
