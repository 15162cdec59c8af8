-- Of the ends of ways back from final states the least of each state are gone back from: what they
-- lead to holds the least of all outputs.
use Rattle.std.proofs.Common.{◌≡◌, ◌⊎◌, inl, inr, ℕ, ◌+◌, ◌<◌, ◌≤◌, Bool, true, false, get_or, List, [], ◌∷◌, ◌++◌, Some, refl, sym, ◌∙◌, ap, subst, append-nil, append_assoc, arith, map, slice_get, length, take, drop}
use Rattle.std.specs.Prelude.{◌↔◌, reverse}
use Rattle.std.specs.List.{list_all}
use Rattle.std.specs.Option.{option_to_list}
use Rattle.std.proofs.lemmas.List.{reverse-reverse, take-append-drop, take_all, take_more}
use Rattle.ap_symbol.specs.Words.{is_word_symbol}
use Rattle.ap_symbol.specs.declared.recasing.Case.{Case}
use Rattle.ap_symbol.specs.declared.symbol.Symbol.{Symbol}
use Rattle.ap_fst.specs.Lists.{IsIn}
use Rattle.ap_fst.specs.Machines.{Machine}
use Rattle.ap_fst.specs.declared.label.Edge.{Edge}
use Rattle.ap_fst.proofs.Listing.{IsImage, in_map, in_mapped}
use Rattle.ap_live.specs.Fitting.{Input, picks}
use Rattle.ap_live.specs.Least.{AreLeast, AreLeastBase, ClosesLeast, EndsNoLater, HoldLeast, IsMatched, IsNoLater, Thins}
use Rattle.ap_live.specs.Outputs.{IsOutput, WritesWords}
use Rattle.ap_live.specs.Rows.{AreRows, IsRow, Reach, begin}
use Rattle.ap_live.specs.Rows as rows
use Rattle.ap_live.specs.Spreads.{Picked, arrival}
use Rattle.ap_live.specs.Tails.{AddsBack, AreBase, AreFinals, Back, BackFrom, BackMany, BaseTail, IsBack, Tail, given, stop, stops, takes}
use Rattle.ap_live.specs.Tails as tails
use Rattle.ap_live.specs.declared.arrivals.Arrival.{Arrival}
use Rattle.ap_live.specs.declared.items.Item.{Item}
use Rattle.ap_live.specs.declared.rows.Row.{Row}
use Rattle.ap_live.proofs.Backing.{IsClean, many_clean, many_more}
use Rattle.ap_live.proofs.LeastOrder.{ends_self, ends_trans, ends_more, whole_no_later, whole_self}
use Rattle.ap_live.proofs.OutputLaws.{output_from_tail, tail_from_output}
use Rattle.ap_live.proofs.Spreading.{in_front, in_back, in_either}
use Rattle.ap_live.proofs.TailLaws.{IsCut, base_last, base_sound, cut_at, drop-all, item, item_same, many_tail, not_empty}

-- ---- items that match others

pub matched_self : (case : Case) (items : List Item) (x : Item) → IsIn x items →
    IsMatched case items x
matched_self case items x i =
    record { item = x; listed = i; same = refl; ends = ends_self case x.back }

-- what matches an item that is no later matches this one
matched_by : (case : Case) (items : List Item) (y x : Item) → y.state ≡ x.state →
    EndsNoLater case y.back x.back → IsMatched case items y → IsMatched case items x
matched_by case items y x same ends m = record {
  item = m.item;
  listed = m.listed;
  same = m.same ∙ same;
  ends = ends_trans case m.item.back y.back x.back m.ends ends;
}

pub matched_in : (case : Case) (items others : List Item) (x : Item) →
    ((y : Item) → IsIn y items → IsMatched case others y) → IsMatched case items x →
    IsMatched case others x
matched_in case items others x all m =
    matched_by case others m.item x m.same m.ends (all m.item m.listed)

matched_more : (case : Case) (items others : List Item) (x : Item) →
    ((y : Item) → IsIn y items → IsIn y others) → IsMatched case items x → IsMatched case others x
matched_more case items others x all m =
    record { item = m.item; listed = all m.item m.listed; same = m.same; ends = m.ends }

pub thins_none : (case : Case) (items : List Item) → items ≡ [] → Thins case [] items
thins_none case items e = record {
  sound = λ x i. subst (λ (z : List Item). IsIn x z) e i;
  least = λ x i. elim i [ ];
}

-- one item more, of those before
pub thins_one : (case : Case) (gone kept new : List Item) (x : Item) → Thins case gone kept →
    ((y : Item) → IsIn y kept → IsIn y new) → ((y : Item) → IsIn y new → IsIn y kept ⊎ (y ≡ x)) →
    IsMatched case new x → Thins case (x ∷ gone) new
thins_one case gone kept new x h more only m = record {
  sound = λ y i. elim (only y i) [ inl k ↦ inr (h.sound y k) | inr e ↦ inl e ];
  least = λ y i. elim i [
    | inl e ↦ subst (λ (z : Item). IsMatched case new z) (sym e) m
    | inr k ↦ matched_more case kept new y more (h.least y k)
  ];
}

-- Some of the items were taken, the last first, and these match them.
pub record AreThinned (case : Case) (items left kept : List Item) : Type 0 where
  pub gone : List Item
  pub whole : items ≡ left ++ gone
  pub thins : Thins case gone kept

pub none_thinned : (case : Case) (items kept : List Item) → kept ≡ [] →
    AreThinned case items items kept
none_thinned case items kept e =
    record { gone = []; whole = sym (append-nil items); thins = thins_none case kept e }

pub one_thinned : (case : Case) (items left left' kept new : List Item) (x : Item) →
    left ≡ left' ++ x ∷ [] → AreThinned case items left kept →
    ((y : Item) → IsIn y kept → IsIn y new)
    → ((y : Item) → IsIn y new → IsIn y kept ⊎ (y ≡ x)) → IsMatched case new x →
    AreThinned case items left' new
one_thinned case items left left' kept new x e h more only m = record {
  gone = x ∷ h.gone;
  whole = h.whole ∙ ap (λ (z : List Item). z ++ h.gone) e ∙ append_assoc left' (x ∷ []) h.gone;
  thins = thins_one case h.gone kept new x h.thins more only m;
}

-- what is kept so far is of the items
pub thinned_in : (case : Case) (items left kept : List Item) (x : Item) →
    AreThinned case items left kept → IsIn x kept → IsIn x items
thinned_in case items left kept x h i =
    subst (λ (z : List Item). IsIn x z) (sym h.whole) (in_back x left h.gone (h.thins.sound x i))

pub left_in : (case : Case) (items left left' kept : List Item) (x : Item) →
    left ≡ left' ++ x ∷ [] → AreThinned case items left kept → IsIn x items
left_in case items left left' kept x e h =
    subst (λ (z : List Item). IsIn x z) (sym h.whole)
    (in_front x left h.gone (subst (λ (z : List Item). IsIn x z) (sym e)
    (in_back x left' (x ∷ []) (inl refl))))

pub thins_trans : (case : Case) (a b c : List Item) → Thins case a b → Thins case b c →
    Thins case a c
thins_trans case a b c h k = record {
  sound = λ x i. h.sound x (k.sound x i);
  least = λ x i. matched_in case b c x k.least (h.least x i);
}

-- of the same items in another order
pub thins_alike : (case : Case) (items others kept : List Item) →
    ((x : Item) → IsIn x others ↔ IsIn x items) → Thins case others kept → Thins case items kept
thins_alike case items others kept same h = record {
  sound = λ x i. (same x).0 (h.sound x i);
  least = λ x i. h.least x ((same x).1 i);
}

pub in_first : (items : List Item) (n : ℕ) (x : Item) → IsIn x (take n items) → IsIn x items
in_first items n x i = subst (λ (z : List Item). IsIn x z) (take-append-drop n items)
    (in_front x (take n items) (drop n items) i)

-- what is matched by one of the first items
pub matched_first : (case : Case) (items : List Item) (n : ℕ) (x : Item) →
    IsMatched case (take n items) x → IsMatched case items x
matched_first case items n x m =
    matched_more case (take n items) items x (λ y i. in_first items n y i) m

-- what some links lead back to from all items
pub back_all : (edges : List Edge) (b : Bool) (links : List Arrival) (items found : List Item)
    (n : ℕ) → length items ≤ n → AddsBack edges b links (take n items) [] found →
    IsBack edges b links items found
back_all edges b links items found n all h =
    let whole : AddsBack edges b links items [] found =
    subst (λ (z : List Item). AddsBack edges b links z [] found) (take_all n items all) h in
    record {
      sound = λ x i. whole.sound x (subst (λ (z : List Item). IsIn x z) whole.grown i);
      complete = whole.complete;
    }

-- one item more is matched
pub matched_one : (case : Case) (items others : List Item) (n : ℕ) (x : Item) →
    n < length others → x ≡ get_or others n x →
    ((y : Item) → IsIn y (take n others) → IsMatched case items y) → IsMatched case items x →
    (y : Item) → IsIn y (take (n + 1) others) → IsMatched case items y
matched_one case items others n x lt at all m y i =
    let more : take (n + 1) others ≡ take n others ++ x ∷ [] =
    take_more others n x lt ∙ ap (λ (z : Item). take n others ++ z ∷ []) (sym at) in
    elim (in_either y (take n others) (x ∷ []) (subst (λ (z : List Item). IsIn y z) more i)) [
      | inl k ↦ all y k
      | inr k ↦ elim k [
        | inl e ↦ subst (λ (z : Item). IsMatched case items z) (sym e) m
        | inr q ↦ elim q [ ]
      ]
    ]

-- ---- round after round

-- what is kept after some rounds: links lead back to it, and it matches what was given
pub record AreRounds (m : Machine) (links : List Arrival) (case : Case)
    (base kept : List Item) : Type 0 where
  pub sound : (x : Item) → IsIn x kept → BackMany m.edges links base x
  pub given_in : (x : Item) → IsIn x base → IsMatched case kept x

pub rounds_first : (m : Machine) (links : List Arrival) (case : Case) (base kept : List Item) →
    Thins case base kept → AreRounds m links case base kept
rounds_first m links case base kept h = record {
  sound = λ x i. given (h.sound x i);
  given_in = h.least;
}

-- one round more
pub rounds_more : (m : Machine) (links : List Arrival) (case : Case)
    (base kept before new : List Item) → AreRounds m links case base kept →
    IsBack m.edges true links kept before → Thins case (kept ++ before) new →
    AreRounds m links case base new
rounds_more m links case base kept before new h back thins = record {
  sound = λ x i. elim (in_either x kept before (thins.sound x i)) [
    | inl k ↦ h.sound x k
    | inr k ↦ many_more m.edges links base kept x h.sound (back.sound x k)
  ];
  given_in = λ x i. matched_in case kept new x
      (λ y k. thins.least y (in_front y kept before k)) (h.given_in x i);
}

-- where what is before them is matched, they are closed
pub rounds_closed : (m : Machine) (links : List Arrival) (case : Case)
    (base kept before : List Item) → AreRounds m links case base kept →
    IsBack m.edges true links kept before
    → ((x : Item) → IsIn x before → IsMatched case kept x) →
    ClosesLeast m.edges links case base kept
rounds_closed m links case base kept before h back all = record {
  sound = h.sound;
  given_in = h.given_in;
  closed = λ x f. all x (back.complete x f);
}

pub rounds_clean : (m : Machine) (links : List Arrival) (case : Case) (base kept : List Item) →
    WritesWords m → ((x : Item) → IsIn x base → IsClean x) → AreRounds m links case base kept →
    (x : Item) → IsIn x kept → IsClean x
rounds_clean m links case base kept writes all h x i =
    many_clean m links base x writes all (h.sound x i)

-- ---- closed back by edges with an empty left side

least_complete : (m : Machine) (case : Case) (seen later : List Input) (row : Row)
    (base items : List Item) (s : ℕ) (back : List Symbol) → IsRow m.edges seen row →
    AreLeastBase m case seen later base
    → ClosesLeast m.edges row.silent.items case base items → Reach m.edges seen s →
    Tail m later s back → IsMatched case items (item s back)
least_complete m case seen later row base items s back row_is is closes reach (stop e f z) =
    matched_in case base items (item s back) closes.given_in
    (is.least (item s back) reach (stops e f z))
least_complete m case seen later row base items s back row_is is closes reach
    (tails.taken input more t j rest e p w tail) =
    matched_in case base items (item s back) closes.given_in
    (is.least (item s back) reach (takes input more t j rest e p w tail))
least_complete m case seen later row base items s back row_is is closes reach
    (tails.silent t j rest p w tail) =
    let there : IsMatched case items (item t rest) =
    least_complete m case seen later row base items t rest row_is is closes
    (rows.silent s j p reach) tail in
    let o : List Symbol = option_to_list p.edge.label.right in
    let x : Item = item s (there.item.back ++ o) in
    let b : Back m.edges true x there.item (arrival t j) =
    record {
      edge = p.edge;
      at = p.at;
      to_is = there.same ∙ p.to_is;
      arrives = p.to_is;
      sort = p.passes;
      is = item_same s p.edge.from (there.item.back ++ o) (there.item.back ++ o) p.from_is refl;
    } in
    let matched : IsMatched case items x =
    closes.closed x (record {
      item = there.item;
      link = arrival t j;
      listed = there.listed;
      linked = row_is.silent_complete t j (record { from = s; picked = p; reached = reach });
      back = b;
    }) in
    matched_by case items x (item s back) refl
    (subst (λ (z : List Symbol). EndsNoLater case (there.item.back ++ o) z) (sym w)
    (ends_more case there.item.back rest o there.ends)) matched

pub least_closed : (m : Machine) (case : Case) (seen later : List Input) (row : Row)
    (base items : List Item) → IsRow m.edges seen row → AreLeastBase m case seen later base →
    ClosesLeast m.edges row.silent.items case base items → AreLeast m case seen later items
least_closed m case seen later row base items row_is is closes = record {
  sound = λ x i. many_tail m later row.silent.items base x is.sound (closes.sound x i);
  least = λ x reach tail. least_complete m case seen later row base items x.state x.back row_is is
      closes reach tail;
}

-- ---- back over one input

least_taken : (m : Machine) (case : Case) (seen later all : List Input) (input : Input) (row : Row)
    (items base : List Item) (x : Item) → IsRow m.edges (seen ++ input ∷ []) row →
    AreLeast m case (seen ++ input ∷ []) later items
    → IsBack m.edges false row.taken.items items base → Reach m.edges seen x.state →
    all ≡ input ∷ later → BaseTail m all x.state x.back → IsMatched case base x
least_taken m case seen later all input row items base x row_is is back reach a (stops e f z) =
    let none : input ∷ later ≡ [] = sym a ∙ e in absurd (cc)
least_taken m case seen later all input row items base x row_is is back reach a
    (takes input' more t j rest e p w tail) =
    let both : input' ∷ more ≡ input ∷ later = sym e ∙ a in
    let i : input' ≡ input = cc in
    let l : more ≡ later = cc in
    let q : Picked m.edges (Some input) x.state t j =
    record {
      edge = p.edge;
      at = p.at;
      from_is = p.from_is;
      to_is = p.to_is;
      passes = subst (λ (z : Input). picks (Some z) p.edge ≡ true) i p.passes;
    } in
    let tail' : Tail m later t rest = subst (λ (z : List Input). Tail m z t rest) l tail in
    let there : IsMatched case items (item t rest) =
    is.least (item t rest) (rows.taken seen input x.state j q refl reach) tail' in
    let o : List Symbol = option_to_list p.edge.label.right in
    let y : Item = item x.state (there.item.back ++ o) in
    let before : IsIn y base =
    back.complete y (record {
      item = there.item;
      link = arrival t j;
      listed = there.listed;
      linked = row_is.taken_complete t j
          (record {
            before = seen;
            input = input;
            from = x.state;
            whole = refl;
            picked = q;
            reached = reach;
          });
      back = record {
        edge = p.edge;
        at = p.at;
        to_is = there.same ∙ p.to_is;
        arrives = p.to_is;
        sort = not_empty input p.edge.label.left q.passes;
        is = item_same x.state p.edge.from (there.item.back ++ o) (there.item.back ++ o) p.from_is
            refl;
      };
    }) in
    record {
      item = y;
      listed = before;
      same = refl;
      ends = subst (λ (z : List Symbol). EndsNoLater case (there.item.back ++ o) z) (sym w)
          (ends_more case there.item.back rest o there.ends);
    }

least_before : (m : Machine) (case : Case) (seen later : List Input) (input : Input) (row : Row)
    (items base : List Item) → IsRow m.edges (seen ++ input ∷ []) row →
    AreLeast m case (seen ++ input ∷ []) later items
    → IsBack m.edges false row.taken.items items base →
    AreLeastBase m case seen (input ∷ later) base
least_before m case seen later input row items base row_is is back = record {
  sound = λ x i. base_sound m seen later input row items x row_is is.sound (back.sound x i);
  least = λ x reach tail. least_taken m case seen later (input ∷ later) input row items base x
      row_is is back reach refl tail;
}

-- ---- the rows, from the last back to the first

-- what is of a base is the least of it
all_least : (m : Machine) (case : Case) (seen later : List Input) (base : List Item) →
    AreBase m seen later base → AreLeastBase m case seen later base
all_least m case seen later base is = record {
  sound = is.sound;
  least = λ x reach tail. matched_self case base x (is.complete x reach tail);
}

pub least_last : (m : Machine) (case : Case) (seen : List Input) (rws : List Row) (row : Row)
    (at : ℕ) (base items : List Item) → AreRows m.edges seen rws → at + 1 ≡ length rws →
    slice_get rws at ≡ Some row
    → AreFinals m row.states.items base → ClosesLeast m.edges row.silent.items case base items →
    AreLeast m case (take at seen) (drop at seen) items
least_last m case seen rws row at base items live n get finals closes =
    let c : length rws ≡ length seen + 1 = live.count in
    let k : at ≡ length seen = omega arith in
    let is : IsRow m.edges (take at seen) row = live.each at row get in
    let done : drop at seen ≡ [] = ap (λ z. drop z seen) k ∙ drop-all seen in
    subst (λ (z : List Input). AreLeast m case (take at seen) z items) (sym done)
    (least_closed m case (take at seen) [] row base items is
    (all_least m case (take at seen) [] base (base_last m (take at seen) row base is finals))
    closes)

pub least_earlier : (m : Machine) (case : Case) (seen : List Input) (rws : List Row)
    (row earlier : Row) (at : ℕ) (items base items' : List Item) → AreRows m.edges seen rws →
    at + 1 < length rws
    → slice_get rws (at + 1) ≡ Some row → slice_get rws at ≡ Some earlier →
    AreLeast m case (take (at + 1) seen) (drop (at + 1) seen) items →
    IsBack m.edges false row.taken.items items base
    → ClosesLeast m.edges earlier.silent.items case base items' →
    AreLeast m case (take at seen) (drop at seen) items'
least_earlier m case seen rws row earlier at items base items' live lt get get' is back closes =
    let c : length rws ≡ length seen + 1 = live.count in
    let cut : IsCut seen at = cut_at seen at (omega arith) in
    let r : IsRow m.edges (take (at + 1) seen) row = live.each (at + 1) row get in
    let r' : IsRow m.edges (take at seen ++ cut.input ∷ []) row =
    subst (λ (z : List Input). IsRow m.edges z row) cut.front r in
    let is' : AreLeast m case (take at seen ++ cut.input ∷ []) (drop (at + 1) seen) items =
    subst (λ (z : List Input). AreLeast m case z (drop (at + 1) seen) items) cut.front is in
    let e : IsRow m.edges (take at seen) earlier = live.each at earlier get' in
    subst (λ (z : List Input). AreLeast m case (take at seen) z items') (sym cut.back)
    (least_closed m case (take at seen) (cut.input ∷ drop (at + 1) seen) earlier base items' e
    (least_before m case (take at seen) (drop (at + 1) seen) cut.input row items base r' is' back)
    closes)

-- ---- the words at the start

pub words_least : (m : Machine) (case : Case) (seen : List Input) (items : List Item)
    (backs words : List (List Symbol)) → AreLeast m case [] seen items →
    ((back : List Symbol) → IsIn back backs ↔ IsIn (item 0 back) items)
    → words ≡ map reverse backs → HoldLeast m case seen words
words_least m case seen items backs words is h e =
    record {
      sound = λ w i.
          let made : IsImage reverse w backs =
          in_mapped reverse w backs (subst (λ (z : List (List Symbol)). IsIn w z) e i) in
          subst (λ (z : List Symbol). IsOutput m seen z) (sym made.image)
          (output_from_tail m seen made.source
          (is.sound (item 0 made.source) ((h made.source).0 made.listed)));
      least = λ w o.
          let there : IsMatched case items (item 0 (reverse w)) =
          is.least (item 0 (reverse w)) (begin refl refl) (tail_from_output m seen w o) in
          let at_start : IsIn there.item.back backs =
          (h there.item.back).1 (subst (λ (y : Item). IsIn y items)
          (item_same there.item.state 0 there.item.back there.item.back there.same refl)
          there.listed) in
          let earlier : IsNoLater case (reverse there.item.back) w =
          subst (λ (y : List Symbol). IsNoLater case (reverse there.item.back) y)
          (reverse-reverse w) (whole_no_later case there.item.back (reverse w) there.ends) in
          record {
            word = reverse there.item.back;
            listed = subst (λ (z : List (List Symbol)). IsIn (reverse there.item.back) z) (sym e)
                (in_map reverse there.item.back backs at_start);
            earlier = earlier;
          };
    }

-- ends at the start whose symbols are such as words hold
pub starts_clean : (items : List Item) (backs : List (List Symbol)) →
    ((x : Item) → IsIn x items → IsClean x) →
    ((back : List Symbol) → IsIn back backs ↔ IsIn (item 0 back) items) →
    (back : List Symbol) → IsIn back backs → list_all is_word_symbol back ≡ true
starts_clean items backs clean h back i = clean (item 0 back) ((h back).0 i)

-- all outputs hold the least
pub all_hold : (m : Machine) (case : Case) (seen : List Input) (words : List (List Symbol)) →
    ((w : List Symbol) → IsIn w words ↔ IsOutput m seen w) → HoldLeast m case seen words
all_hold m case seen words h = record {
  sound = λ w i. (h w).0 i;
  least = λ w o. record { word = w; listed = (h w).1 o; earlier = whole_self case w };
}

-- where there is no output, none need be held
pub none_hold : (m : Machine) (case : Case) (seen : List Input) (words : List (List Symbol)) →
    words ≡ [] → ((w : List Symbol) → IsOutput m seen w → ⊥) → HoldLeast m case seen words
none_hold m case seen words e none = record {
  sound = λ w i. elim (subst (λ (z : List (List Symbol)). IsIn w z) e i) [ ];
  least = λ w o. absurd (none w o);
}
