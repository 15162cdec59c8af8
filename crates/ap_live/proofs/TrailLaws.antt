-- The nodes of a row after those of the row before it.
use Rattle.std.proofs.Common.{Vec, Global, get_or, ◌≡◌, inl, inr, ℕ, ◌+◌, ◌-◌, ◌<◌, ◌≤◌, List, [], ◌∷◌, ◌++◌, length, length-take-le, map, take, refl, sym, ◌∙◌, ap, subst, append_assoc, arith, Option, Some, None, slice_get, zero, suc}
use Rattle.std.proofs.lemmas.Bool.{cases_lt}
use Rattle.std.specs.Prelude.{vec_len, ◌↔◌, IsTrue, min, nat_eq, reverse}
use Rattle.std.proofs.lemmas.Bool.Decides.{nat_tests}
use Rattle.std.proofs.lemmas.List.{length-append, length-map, length-take, map-append, take-append-le, take_all}
use Rattle.std.proofs.lemmas.Option.{none-some, same_Some, slice_get_read, slice_get_within}
use Rattle.ap_symbol.specs.Words.{AreProper}
use Rattle.ap_symbol.specs.declared.symbol.Symbol.{Symbol}
use Rattle.ap_fst.specs.Lists.{IsIn}
use Rattle.ap_fst.specs.Machines.{Machine}
use Rattle.ap_fst.specs.declared.label.Edge.{Edge}
use Rattle.ap_fst.proofs.Listing.{IsPlaced, in_from_place, placed_in}
use Rattle.ap_live.specs.Fitting.{Input}
use Rattle.ap_live.specs.Spreads.{AnyPlace, Picked}
use Rattle.ap_live.specs.Heads.{written}
use Rattle.ap_live.specs.Outputs.{IsOutput}
use Rattle.ap_live.specs.Rows.{Reach}
use Rattle.ap_live.specs.Trails.{AddsNodes, AreWays, Grows, HasStep, HasWay, IsReached, IsStep, IsFirstFinal, IsOnlyEnd, IsTrail, LeadsBack, NoneFinal, Spreads, Trails, Way, begin, first, input_of, next, node}
use Rattle.ap_live.specs.Trails as trails
use Rattle.ap_live.specs.declared.nodes.Node.{Node}
use Rattle.ap_live.specs.declared.taken.Taken.{Taken}
use Rattle.ap_live.proofs.Outlining.{some_at}
use Rattle.ap_live.proofs.RowLaws.{get_taken, no_snoc, snoc_parts, take_taken}
use Rattle.ap_live.proofs.Spreading.{in_back, in_either, in_front}
use Rattle.ap_live.proofs.WayLaws.{HasOutputWay, output_way, reach_way, way_output, way_reach}

-- ---- items behind others

pub get_left : {X : Type 0} (xs ys : List X) (k : ℕ) (x : X) → slice_get xs k ≡ Some x →
    slice_get (xs ++ ys) k ≡ Some x
get_left [] ys k x h = absurd (none-some x h)
get_left (y ∷ xs) ys zero x h = h
get_left (y ∷ xs) ys (suc k) x h = get_left xs ys k x h

pub get_old : {X : Type 0} (xs ys : List X) (k : ℕ) (x : X) → k < length xs →
    slice_get (xs ++ ys) k ≡ Some x → slice_get xs k ≡ Some x
get_old [] ys k x lt h = absurd (omega arith)
get_old (y ∷ xs) ys zero x lt h = h
get_old (y ∷ xs) ys (suc k) x lt h = get_old xs ys k x (omega arith) h

pub get_behind : {X : Type 0} (xs ys : List X) (k : ℕ) (x : X) → length xs ≤ k →
    slice_get (xs ++ ys) k ≡ Some x → IsIn x ys
get_behind [] ys k x le h = in_from_place ys k x h
get_behind (y ∷ xs) ys zero x le h = absurd (omega arith)
get_behind (y ∷ xs) ys (suc k) x le h = get_behind xs ys k x (omega arith) h

get_right : {X : Type 0} (xs ys : List X) (k : ℕ) → slice_get (xs ++ ys) (length xs + k)
    ≡ slice_get ys k
get_right {X} [] ys k = let n : length {A = X} [] + k ≡ k = omega arith in ap (slice_get ys) n
get_right (x ∷ xs) ys k =
    let n : length (x ∷ xs) + k ≡ suc (length xs + k) = omega arith in
    ap (λ z. slice_get ((x ∷ xs) ++ ys) z) n ∙ get_right xs ys k

-- what is added has its place behind what was there
record IsBehind {X : Type 0} (xs ys : List X) (x : X) : Type 0 where
  at : ℕ
  from : length xs ≤ at
  there : slice_get (xs ++ ys) at ≡ Some x

behind : {X : Type 0} (xs ys : List X) (x : X) → IsIn x ys → IsBehind xs ys x
behind xs ys x i =
    let p : IsPlaced x ys = placed_in x ys i in
    record {
      at = length xs + p.place;
      from = omega arith;
      there = get_right xs ys p.place ∙ p.at;
    }

pub grows_length : (old new : List Node) → Grows old new → length old ≤ length new
grows_length old new (a, e) =
    let long : length new ≡ length old + length a =
    ap (length {A = Node}) e ∙ length-append old a in omega arith

-- ---- nodes more

pub back_grown : (nodes more : List Node) (at : ℕ) (places : List ℕ) → LeadsBack nodes at places →
    LeadsBack (nodes ++ more) at places
back_grown nodes more at places (first z e) = first z e
back_grown nodes more at places (next x rest there earlier e back) =
    next x rest (get_left nodes more at x there) earlier e
    (back_grown nodes more x.back rest back)

reached_grown : (edges : List Edge) (nodes more : List Node) (seen : List Input) (at : ℕ) →
    IsReached edges nodes seen at → IsReached edges (nodes ++ more) seen at
reached_grown edges nodes more seen at r = record {
  x = r.x;
  there = get_left nodes more at r.x r.there;
  places = r.places;
  back = back_grown nodes more at r.places r.back;
  way = r.way;
}

way_grown : (nodes more : List Node) (low high state : ℕ) (places : List ℕ) →
    HasWay nodes low high state places → HasWay (nodes ++ more) low high state places
way_grown nodes more low high state places h = record {
  at = h.at;
  from = h.from;
  below = h.below;
  x = h.x;
  there = get_left nodes more h.at h.x h.there;
  state_is = h.state_is;
  back = back_grown nodes more h.at places h.back;
}

pub ways_grown : (edges : List Edge) (nodes more : List Node) (seen : List Input) (low high : ℕ) →
    AreWays edges nodes seen low high → AreWays edges (nodes ++ more) seen low high
ways_grown edges nodes more seen low high w =
    let long : length (nodes ++ more) ≡ length nodes + length more = length-append nodes more in
    let within : high ≤ length nodes = w.within in
    record {
      rises = w.rises;
      within = omega arith;
      sound = λ at from below. reached_grown edges nodes more seen at (w.sound at from below);
      complete = λ state places way. way_grown nodes more low high state places
          (w.complete state places way);
    }

-- ---- nodes that are added behind others

-- behind the last node there is none
pub spreads_all : (edges : List Edge) (pick : Option Input) (low at : ℕ) (old new : List Node) →
    Spreads edges pick low at old new → length new ≤ at →
    Spreads edges pick low (length new) old new
spreads_all edges pick low at old new is over = record {
  grown = is.grown;
  sound = λ k low_k high_k.
      let s : IsStep edges pick new low at k = is.sound k low_k high_k in
      let earlier : s.x.back < k = s.earlier in
      record {
        x = s.x;
        there = s.there;
        before = s.before;
        before_there = s.before_there;
        from = s.from;
        below = omega arith;
        earlier = s.earlier;
        picked = s.picked;
      };
  complete = λ back x low_b high_b there s j p.
      is.complete back x low_b (omega arith) there s j p;
}

pub spreads_more : (edges : List Edge) (pick : Option Input) (low at : ℕ)
    (old mid new : List Node) (x : Node) → Spreads edges pick low at old mid →
    slice_get mid at ≡ Some x → AddsNodes edges pick x.state AnyPlace at mid new → low ≤ at →
    Spreads edges pick low (at + 1) old new
spreads_more edges pick low at old mid new x is there adds from =
    let more : List Node = is.grown.0 in
    let at_mid : mid ≡ old ++ more = is.grown.1 in
    let long : length mid ≡ length old + length more =
    ap (length {A = Node}) at_mid ∙ length-append old more in
    let far : at < length mid = slice_get_within mid at x there in
    let P : List Node → Type 0 = λ z. Spreads edges pick low (at + 1) old z in
    subst P (sym adds.grown) (record {
      grown = (more ++ adds.more, ap (λ z. z ++ adds.more) at_mid ∙ append_assoc old more adds.more);
      sound = λ k low_k high_k. elim (cases_lt k (length mid)) [
        | inl lt ↦
            let s : IsStep edges pick mid low at k = is.sound k low_k lt in
            let near : s.x.back < at = s.below in
            record {
              x = s.x;
              there = get_left mid adds.more k s.x s.there;
              before = s.before;
              before_there = get_left mid adds.more s.x.back s.before s.before_there;
              from = s.from;
              below = omega arith;
              earlier = s.earlier;
              picked = s.picked;
            }
        | inr ge ↦
            let (y, y_there) = some_at (mid ++ adds.more) k high_k in
            let i : IsIn y adds.more = get_behind mid adds.more k y ge y_there in
            let s : (y.back ≡ at) × Picked edges pick x.state y.state y.edge = adds.sound y i in
            let b : y.back ≡ at = s.0 in
            record {
              x = y;
              there = y_there;
              before = x;
              before_there = ap (slice_get (mid ++ adds.more)) b ∙ get_left mid adds.more at x there;
              from = omega arith;
              below = omega arith;
              earlier = omega arith;
              picked = s.1;
            }
      ];
      complete = λ back y low_b high_b y_there s j p. elim (cases_lt back at) [
        | inl lt ↦
            let y_mid : slice_get mid back ≡ Some y =
            get_old mid adds.more back y (omega arith) y_there in
            let h : HasStep mid (length old) s j back = is.complete back y low_b lt y_mid s j p in
            record {
              at = h.at;
              from = h.from;
              there = get_left mid adds.more h.at (node s j back) h.there;
            }
        | inr ge ↦
            let b : back ≡ at = omega arith in
            let y_mid : slice_get mid back ≡ Some y =
            get_old mid adds.more back y (omega arith) y_there in
            let same : x ≡ y = same_Some x y (sym there ∙ ap (slice_get mid) (sym b) ∙ y_mid) in
            let p' : Picked edges pick x.state s j =
            subst (λ (z : Node). Picked edges pick z.state s j) (sym same) p in
            let h : IsBehind mid adds.more (node s j at) =
            behind mid adds.more (node s j at) (adds.complete s j p' tt) in
            let le : length mid ≤ h.at = h.from in
            record {
              at = h.at;
              from = omega arith;
              there = h.there ∙ ap (λ (z : ℕ). Some (node s j z)) (sym b);
            }
      ];
    })

-- ---- the nodes of a row

-- The nodes from a place on are those of the ways that end with an edge that took the last input,
-- or with none.
pub record AreBaseWays (edges : List Edge) (nodes : List Node) (seen : List Input)
    (low : ℕ) : Type 0 where
  pub within : low ≤ length nodes
  pub sound : (at : ℕ) → low ≤ at → at < length nodes → IsReached edges nodes seen at
  pub begins : seen ≡ [] → HasWay nodes low (length nodes) 0 []
  pub takes : (before : List Input) (input : Input) (f s j : ℕ) (rest : List ℕ) →
      Picked edges (Some input) f s j → seen ≡ before ++ input ∷ [] → Way edges before f rest →
      HasWay nodes low (length nodes) s (j ∷ rest)

pub base_start : (edges : List Edge) → AreBaseWays edges (node 0 0 0 ∷ []) [] 0
base_start edges = record {
  within = omega arith;
  sound = λ at from below.
      let z : at ≡ 0 = omega arith in
      record {
        x = node 0 0 0;
        there = ap (slice_get (node 0 0 0 ∷ [])) z;
        places = [];
        back = first z refl;
        way = begin refl refl refl;
      };
  begins = λ e. record {
    at = 0;
    from = omega arith;
    below = omega arith;
    x = node 0 0 0;
    there = refl;
    state_is = refl;
    back = first refl refl;
  };
  takes = λ before input f s j rest p e w. absurd (no_snoc before input (sym e));
}

pub base_next : (edges : List Edge) (seen : List Input) (input : Input) (low : ℕ)
    (nodes new : List Node) → AreWays edges nodes seen low (length nodes) →
    Spreads edges (Some input) low (length nodes) nodes new →
    AreBaseWays edges new (seen ++ input ∷ []) (length nodes)
base_next edges seen input low nodes new ways is =
    let more : List Node = is.grown.0 in
    let at_new : new ≡ nodes ++ more = is.grown.1 in
    let long : length new ≡ length nodes + length more =
    ap (length {A = Node}) at_new ∙ length-append nodes more in
    record {
      within = omega arith;
      sound = λ k from below.
          let s : IsStep edges (Some input) new low (length nodes) k = is.sound k from below in
          let r : IsReached edges nodes seen s.x.back = ways.sound s.x.back s.from s.below in
          let same : r.x ≡ s.before = same_Some r.x s.before
          (sym (get_left nodes more s.x.back r.x r.there)
          ∙ ap (λ z. slice_get z s.x.back) (sym at_new) ∙ s.before_there) in
          record {
            x = s.x;
            there = s.there;
            places = s.x.edge ∷ r.places;
            back = next s.x r.places s.there s.earlier refl
                (subst (λ (z : List Node). LeadsBack z s.x.back r.places) (sym at_new)
                (back_grown nodes more s.x.back r.places r.back));
            way = trails.taken seen input s.before.state s.x.edge r.places s.picked refl refl
                (subst (λ (z : Node). Way edges seen z.state r.places) same r.way);
          };
      begins = λ e. absurd (no_snoc seen input e);
      takes = λ before i f s j rest p e way.
          let parts : (before ≡ seen) × (i ≡ input) = snoc_parts before seen i input (sym e) in
          let way' : Way edges seen f rest =
          subst (λ (z : List Input). Way edges z f rest) parts.0 way in
          let h : HasWay nodes low (length nodes) f rest = ways.complete f rest way' in
          let there : slice_get new h.at ≡ Some h.x =
          ap (λ z. slice_get z h.at) at_new ∙ get_left nodes more h.at h.x h.there in
          let p' : Picked edges (Some input) h.x.state s j =
          subst (λ (z : ℕ). Picked edges (Some input) z s j) (sym h.state_is)
          (subst (λ (z : Input). Picked edges (Some z) f s j) parts.1 p) in
          let st : HasStep new (length nodes) s j h.at =
          is.complete h.at h.x h.from h.below there s j p' in
          let far : h.at < length nodes = h.below in
          let le : length nodes ≤ st.at = st.from in
          record {
            at = st.at;
            from = st.from;
            below = slice_get_within new st.at (node s j h.at) st.there;
            x = node s j h.at;
            there = st.there;
            state_is = refl;
            back = next (node s j h.at) rest st.there (omega arith) refl
                (subst (λ (z : List Node). LeadsBack z h.at rest) (sym at_new)
                (back_grown nodes more h.at rest h.back));
          };
    }

module _ (edges : List Edge) (seen : List Input) (low : ℕ) (nodes new : List Node)
    (base : AreBaseWays edges nodes seen low)
    (is : Spreads edges None low (length new) nodes new) where
  at_new : new ≡ nodes ++ is.grown.0
  at_new = is.grown.1

  -- what stands for a way before stands for it behind
  reached_on : (at : ℕ) → IsReached edges nodes seen at → IsReached edges new seen at
  reached_on at r = subst (λ (z : List Node). IsReached edges z seen at) (sym at_new)
      (reached_grown edges nodes is.grown.0 seen at r)

  closed_sound : (n at : ℕ) → at < n → low ≤ at → at < length new → IsReached edges new seen at
  closed_sound zero at lt from below = absurd (omega arith)
  closed_sound (suc n) at lt from below = elim (cases_lt at (length nodes)) [
    | inl old ↦ reached_on at (base.sound at from old)
    | inr ge ↦
        let s : IsStep edges None new low (length new) at = is.sound at ge below in
        let earlier : s.x.back < at = s.earlier in
        let r : IsReached edges new seen s.x.back =
        closed_sound n s.x.back (omega arith) s.from s.below in
        let same : r.x ≡ s.before = same_Some r.x s.before (sym r.there ∙ s.before_there) in
        record {
          x = s.x;
          there = s.there;
          places = s.x.edge ∷ r.places;
          back = next s.x r.places s.there s.earlier refl r.back;
          way = trails.silent s.before.state s.x.edge r.places s.picked refl
              (subst (λ (z : Node). Way edges seen z.state r.places) same r.way);
        }
  ]

  way_on : (s : ℕ) (places : List ℕ) → HasWay nodes low (length nodes) s places →
      HasWay new low (length new) s places
  way_on s places h =
      let there : slice_get new h.at ≡ Some h.x =
      ap (λ z. slice_get z h.at) at_new ∙ get_left nodes is.grown.0 h.at h.x h.there in
      record {
        at = h.at;
        from = h.from;
        below = slice_get_within new h.at h.x there;
        x = h.x;
        there = there;
        state_is = h.state_is;
        back = subst (λ (z : List Node). LeadsBack z h.at places) (sym at_new)
            (back_grown nodes is.grown.0 h.at places h.back);
      }

  closed_complete : (whole : List Input) → whole ≡ seen → (s : ℕ) (places : List ℕ) →
      Way edges whole s places → HasWay new low (length new) s places
  closed_complete whole same s places (begin e z p) =
      subst (λ (x : ℕ). HasWay new low (length new) x places) (sym z)
      (subst (λ (x : List ℕ). HasWay new low (length new) 0 x) (sym p)
      (way_on 0 [] (base.begins (sym same ∙ e))))
  closed_complete whole same s places (trails.silent f j rest p e w) =
      let h : HasWay new low (length new) f rest = closed_complete whole same f rest w in
      let p' : Picked edges None h.x.state s j =
      subst (λ (z : ℕ). Picked edges None z s j) (sym h.state_is) p in
      let st : HasStep new (length nodes) s j h.at =
      is.complete h.at h.x h.from h.below h.there s j p' in
      let below : st.at < length new = slice_get_within new st.at (node s j h.at) st.there in
      let step : IsStep edges None new low (length new) st.at = is.sound st.at st.from below in
      let own : step.x ≡ node s j h.at =
      same_Some step.x (node s j h.at) (sym step.there ∙ st.there) in
      let earlier : h.at < st.at =
      subst (λ (z : Node). z.back < st.at) own step.earlier in
      let low_at : low ≤ length nodes = base.within in
      let le : length nodes ≤ st.at = st.from in
      let found : HasWay new low (length new) s (j ∷ rest) = record {
        at = st.at;
        from = omega arith;
        below = below;
        x = node s j h.at;
        there = st.there;
        state_is = refl;
        back = next (node s j h.at) rest st.there earlier refl h.back;
      } in
      subst (λ (x : List ℕ). HasWay new low (length new) s x) (sym e) found
  closed_complete whole same s places (trails.taken before input f j rest p e q w) =
      subst (λ (x : List ℕ). HasWay new low (length new) s x) (sym q)
      (way_on s (j ∷ rest) (base.takes before input f s j rest p (sym same ∙ e) w))

  pub closed_ways : AreWays edges new seen low (length new)
  closed_ways =
      let long : length new ≡ length nodes + length is.grown.0 =
      ap (length {A = Node}) at_new ∙ length-append nodes is.grown.0 in
      let low_at : low ≤ length nodes = base.within in
      record {
        rises = omega arith;
        within = omega arith;
        sound = λ at from below. closed_sound (at + 1) at (omega arith) from below;
        complete = λ s places way. closed_complete seen refl s places way;
      }

-- ---- fewer nodes

take_get : {X : Type 0} (xs : List X) (n k : ℕ) (x : X) → k < n → slice_get xs k ≡ Some x →
    slice_get (take n xs) k ≡ Some x
take_get [] n k x lt h = absurd (none-some x h)
take_get (y ∷ xs) zero k x lt h = absurd (omega arith)
take_get (y ∷ xs) (suc n) zero x lt h = h
take_get (y ∷ xs) (suc n) (suc k) x lt h = take_get xs n k x (omega arith) h

back_cut : (nodes : List Node) (n at : ℕ) (places : List ℕ) → at < n → LeadsBack nodes at places →
    LeadsBack (take n nodes) at places
back_cut nodes n at places lt (first z e) = first z e
back_cut nodes n at places lt (next x rest there earlier e back) =
    next x rest (take_get nodes n at x lt there) earlier e
    (back_cut nodes n x.back rest (omega arith) back)

ways_cut : (edges : List Edge) (nodes : List Node) (seen : List Input) (low high n : ℕ) →
    high ≤ n → AreWays edges nodes seen low high → AreWays edges (take n nodes) seen low high
ways_cut edges nodes seen low high n le w =
    let within : high ≤ length nodes = w.within in
    let few : length (take n nodes) ≡ min n (length nodes) = length-take n nodes in
    record {
      rises = w.rises;
      within = omega arith;
      sound = λ at from below.
          let r : IsReached edges nodes seen at = w.sound at from below in
          record {
            x = r.x;
            there = take_get nodes n at r.x (omega arith) r.there;
            places = r.places;
            back = back_cut nodes n at r.places (omega arith) r.back;
            way = r.way;
          };
      complete = λ state places way.
          let h : HasWay nodes low high state places = w.complete state places way in
          let below : h.at < high = h.below in
          record {
            at = h.at;
            from = h.from;
            below = h.below;
            x = h.x;
            there = take_get nodes n h.at h.x (omega arith) h.there;
            state_is = h.state_is;
            back = back_cut nodes n h.at places (omega arith) h.back;
          };
    }

map_few : {X Y : Type 0} (f : X → Y) (n : ℕ) (xs : List X) → map f (take n xs) ≡ take n (map f xs)
map_few f zero [] = refl
map_few f zero (x ∷ xs) = refl
map_few f (suc n) [] = refl
map_few f (suc n) (x ∷ xs) = ap (λ z. f x ∷ z) (map_few f n xs)

-- ---- all rows

get_end : {X : Type 0} (xs : List X) (x : X) (k : ℕ) → k ≡ length xs →
    slice_get (xs ++ x ∷ []) k ≡ Some x
get_end xs x k e =
    let n : k ≡ length xs + 0 = omega arith in
    ap (slice_get (xs ++ x ∷ [])) n ∙ get_right xs (x ∷ []) 0

many_inputs : (seen : List Input) (inputs : List Taken) → map input_of inputs ≡ seen →
    length inputs ≡ length seen
many_inputs seen inputs e = sym (length-map inputs input_of) ∙ ap (length {A = Input}) e

pub trail_last : (edges : List Edge) (seen : List Input) (t : Trails) (low : ℕ) →
    IsTrail edges seen t → slice_get t.firsts (length t.inputs) ≡ Some low →
    AreWays edges t.nodes seen low (length t.nodes)
trail_last edges seen t low is there =
    let n : length t.inputs ≡ length seen = many_inputs seen t.inputs is.inputs_are in
    let count : length t.firsts ≡ length seen + 1 = is.count in
    subst (λ (z : List Input). AreWays edges t.nodes z low (length t.nodes))
    (take_all (length seen) seen (omega arith))
    (is.each (length seen) low (length t.nodes) (ap (slice_get t.firsts) (sym n) ∙ there)
    (get_end t.firsts (length t.nodes) (length seen + 1) (sym count)))

pub trail_step : (edges : List Edge) (seen : List Input) (t : Trails) (nodes : List Node)
    (x : Taken) → IsTrail edges seen t → Grows t.nodes nodes →
    AreWays edges nodes (seen ++ input_of x ∷ []) (length t.nodes) (length nodes) →
    IsTrail edges (seen ++ input_of x ∷ []) (record {
      nodes = nodes;
      firsts = t.firsts ++ length t.nodes ∷ [];
      inputs = t.inputs ++ x ∷ [];
    })
trail_step edges seen t nodes x is (more, grown) ways =
    let input : Input = input_of x in
    let count : length t.firsts ≡ length seen + 1 = is.count in
    let firsts : List ℕ = t.firsts ++ length t.nodes ∷ [] in
    let long : length firsts ≡ length t.firsts + 1 = length-append t.firsts (length t.nodes ∷ []) in
    let long_seen : length (seen ++ input ∷ []) ≡ length seen + 1 =
    length-append seen (input ∷ []) in
    record {
      inputs_are = map-append input_of t.inputs (x ∷ [])
          ∙ ap (λ z. z ++ input ∷ []) is.inputs_are;
      count = omega arith;
      each = λ k low high at_low at_high. elim (cases_lt k (length t.firsts)) [
        | inl lt ↦
            let old : AreWays edges t.nodes (take k seen) low high =
            is.each k low high (get_old t.firsts (length t.nodes ∷ []) k low lt at_low)
            (get_old firsts (length nodes ∷ []) (k + 1) high (omega arith) at_high) in
            subst (λ (z : List Input). AreWays edges nodes z low high)
            (sym (take-append-le k seen (input ∷ []) (omega arith)))
            (subst (λ (z : List Node). AreWays edges z (take k seen) low high) (sym grown)
            (ways_grown edges t.nodes more (take k seen) low high old))
        | inr ge ↦
            let below : k < length firsts = slice_get_within firsts k low at_low in
            let k_is : k ≡ length t.firsts = omega arith in
            let low_is : length t.nodes ≡ low = same_Some (length t.nodes) low
            (sym (get_end t.firsts (length t.nodes) k k_is) ∙ at_low) in
            let high_is : length nodes ≡ high = same_Some (length nodes) high
            (sym (get_end firsts (length nodes) (k + 1) (omega arith)) ∙ at_high) in
            subst (λ (z : List Input). AreWays edges nodes z low high)
            (sym (take_all k (seen ++ input ∷ []) (omega arith)))
            (subst (λ (z : ℕ). AreWays edges nodes (seen ++ input ∷ []) z high) low_is
            (subst (λ (z : ℕ). AreWays edges nodes (seen ++ input ∷ []) (length t.nodes) z)
            high_is ways))
      ];
    }

module _ (edges : List Edge) (seen : List Input) (t : Trails) (is : IsTrail edges seen t) where
  -- where the nodes of a row begin, those of the row before it end
  rises_next : (k a b : ℕ) → slice_get t.firsts k ≡ Some a → slice_get t.firsts (k + 1) ≡ Some b →
      a ≤ b
  rises_next k a b at_a at_b =
      (is.each k a b at_a (get_left t.firsts (length t.nodes ∷ []) (k + 1) b at_b)).rises

  rises_to : (d k a b : ℕ) → slice_get t.firsts k ≡ Some a → slice_get t.firsts (k + d) ≡ Some b →
      a ≤ b
  rises_to zero k a b at_a at_b =
      let n : k + 0 ≡ k = omega arith in
      let same : a ≡ b = same_Some a b (sym at_a ∙ ap (slice_get t.firsts) (sym n) ∙ at_b) in
      omega arith
  rises_to (suc d) k a b at_a at_b =
      let n : k + suc d ≡ k + 1 + d = omega arith in
      let far : k + suc d < length t.firsts = slice_get_within t.firsts (k + suc d) b at_b in
      let (c, at_c) = some_at t.firsts (k + 1) (omega arith) in
      let low : a ≤ c = rises_next k a c at_a at_c in
      let high : c ≤ b = rises_to d (k + 1) c b at_c (ap (slice_get t.firsts) (sym n) ∙ at_b) in
      omega arith

  pub trail_cut : (n end : ℕ) → n < length t.inputs → slice_get t.firsts (n + 1) ≡ Some end →
      IsTrail edges (take n seen) (record {
        nodes = take end t.nodes;
        firsts = take (n + 1) t.firsts;
        inputs = take n t.inputs;
      })
  trail_cut n end lt there =
      let many : length t.inputs ≡ length seen = many_inputs seen t.inputs is.inputs_are in
      let count : length t.firsts ≡ length seen + 1 = is.count in
      let few : length (take n seen) ≡ n = length-take-le n seen (omega arith) in
      let rows : length (take (n + 1) t.firsts) ≡ n + 1 =
      length-take-le (n + 1) t.firsts (omega arith) in
      let (last, at_last) = some_at t.firsts n (omega arith) in
      let end_within : end ≤ length t.nodes =
      (is.each n last end at_last
      (get_left t.firsts (length t.nodes ∷ []) (n + 1) end there)).within in
      let left : length (take end t.nodes) ≡ end = length-take-le end t.nodes end_within in
      record {
        inputs_are = map_few input_of n t.inputs ∙ ap (take n) is.inputs_are;
        count = omega arith;
        each = λ k low high at_low at_high.
            let below : k < length (take (n + 1) t.firsts) =
            slice_get_within (take (n + 1) t.firsts) k low at_low in
            let k_low : slice_get t.firsts k ≡ Some low =
            (get_taken t.firsts (n + 1) k low at_low).0 in
            subst (λ (z : List Input). AreWays edges (take end t.nodes) z low high)
            (sym (take_taken seen n k (omega arith)))
            (elim (cases_lt (k + 1) (n + 1)) [
              | inl inside ↦
                  let k_high : slice_get t.firsts (k + 1) ≡ Some high =
                  (get_taken t.firsts (n + 1) (k + 1) high
                  (get_old (take (n + 1) t.firsts) (length (take end t.nodes) ∷ []) (k + 1) high
                  (omega arith) at_high)).0 in
                  let d : k + 1 + (n - k) ≡ n + 1 = omega arith in
                  let le : high ≤ end = rises_to (n - k) (k + 1) high end k_high
                  (ap (slice_get t.firsts) d ∙ there) in
                  ways_cut edges t.nodes (take k seen) low high end le
                  (is.each k low high k_low
                  (get_left t.firsts (length t.nodes ∷ []) (k + 1) high k_high))
              | inr edge ↦
                  let k_is : k + 1 ≡ n + 1 = omega arith in
                  let high_is : length (take end t.nodes) ≡ high =
                  same_Some (length (take end t.nodes)) high
                  (sym (get_end (take (n + 1) t.firsts) (length (take end t.nodes)) (k + 1)
                  (omega arith)) ∙ at_high) in
                  let same : high ≡ end = sym high_is ∙ left in
                  ways_cut edges t.nodes (take k seen) low high end (omega arith)
                  (is.each k low high k_low
                  (get_left t.firsts (length t.nodes ∷ []) (k + 1) high
                  (ap (slice_get t.firsts) k_is ∙ there ∙ ap Some (sym same))))
            ]);
      }

pub trail_as : (edges : List Edge) (seen : List Input) (nodes nodes' : List Node)
    (firsts firsts' : List ℕ) (inputs inputs' : List Taken) → nodes ≡ nodes' → firsts ≡ firsts' →
    inputs ≡ inputs' →
    IsTrail edges seen (record { nodes = nodes'; firsts = firsts'; inputs = inputs' }) →
    IsTrail edges seen (record { nodes = nodes; firsts = firsts; inputs = inputs })
trail_as edges seen nodes nodes' firsts firsts' inputs inputs' n f i is =
    let at : List Node → List ℕ → List Taken → Trails =
    λ a b c. record { nodes = a; firsts = b; inputs = c } in
    subst (λ (z : List Node). IsTrail edges seen (at z firsts inputs)) (sym n)
    (subst (λ (z : List ℕ). IsTrail edges seen (at nodes' z inputs)) (sym f)
    (subst (λ (z : List Taken). IsTrail edges seen (at nodes' firsts' z)) (sym i) is))

pub view_length : {X : Type 0} (v : Vec X Global) (xs : List X) (len : ℕ) → len ≡ vec_len v →
    v.items ≡ xs → len ≡ length xs
view_length {X} v xs len e same =
    let long : length v.items ≡ length xs = ap (length {A = X}) same in
    omega (arith, e, v.ok.0, long)

pub node_read : (nodes own : List Node) (at : ℕ) (x : Node) → own ≡ nodes → at < length nodes →
    x ≡ get_or own at x → slice_get nodes at ≡ Some x
node_read nodes own at x same lt e =
    let long : length own ≡ length nodes = ap (length {A = Node}) same in
    ap (λ z. slice_get z at) (sym same)
    ∙ slice_get_read own (length own) at x refl (omega arith) e

-- where the nodes of a row begin, as it is read
pub first_read : (firsts slice : List ℕ) (row n place : ℕ) (found : Option ℕ) → slice ≡ firsts →
    row ≡ n → found ≡ slice_get slice row → found ≡ Some place → slice_get firsts n ≡ Some place
first_read firsts slice row n place found s r f is =
    ap (λ z. slice_get z n) (sym s) ∙ ap (slice_get slice) (sym r) ∙ sym f ∙ is

-- ---- what the last row tells

pub no_ways : (edges : List Edge) (nodes : List Node) (seen : List Input) (low len : ℕ) →
    AreWays edges nodes seen low (length nodes) → len ≡ length nodes →
    IsTrue (nat_eq low len) ↔ ((s : ℕ) → Reach edges seen s → ⊥)
no_ways edges nodes seen low len ways n =
    let rises : low ≤ length nodes = ways.rises in (
      (λ t s reach.
          let same : low ≡ len = grind (arith, nat_tests, t) in
          let (places, way) = reach_way edges seen s reach in
          let h : HasWay nodes low (length nodes) s places = ways.complete s places way in
          let from : low ≤ h.at = h.from in
          let below : h.at < length nodes = h.below in absurd (omega arith)),
      (λ none. elim (cases_lt low (length nodes)) [
        | inl lt ↦
            let r : IsReached edges nodes seen low = ways.sound low (omega arith) lt in
            absurd (none r.x.state (way_reach edges seen r.x.state r.places r.way))
        | inr ge ↦ let same : low ≡ len = omega arith in grind (arith, nat_tests, same)
      ]),
    )

pub none_final_more : (finals : List ℕ) (nodes : List Node) (low at : ℕ) (x : Node) →
    slice_get nodes at ≡ Some x → (IsIn x.state finals → ⊥) → NoneFinal finals nodes low at →
    NoneFinal finals nodes low (at + 1)
none_final_more finals nodes low at x there not h = λ i y from below y_there final.
    elim (cases_lt i at) [
      | inl lt ↦ h i y from lt y_there final
      | inr ge ↦
          let same : i ≡ at = omega arith in
          let x_is : y ≡ x = same_Some y x (sym y_there ∙ ap (slice_get nodes) same ∙ there) in
          not (subst (λ (z : Node). IsIn z.state finals) x_is final)
    ]

pub final_there : (m : Machine) (nodes : List Node) (seen : List Input) (low at : ℕ) (x : Node) →
    AreWays m.edges nodes seen low (length nodes) → low ≤ at → slice_get nodes at ≡ Some x →
    IsIn x.state m.finals → (s : ℕ) × (Reach m.edges seen s × IsIn s m.finals)
final_there m nodes seen low at x ways from there final =
    let r : IsReached m.edges nodes seen at =
    ways.sound at from (slice_get_within nodes at x there) in
    let same : r.x ≡ x = same_Some r.x x (sym r.there ∙ there) in (
      x.state,
      (
        subst (λ (z : Node). Reach m.edges seen z.state) same
            (way_reach m.edges seen r.x.state r.places r.way),
        final,
      ),
    )

pub no_final : (m : Machine) (nodes : List Node) (seen : List Input) (low at : ℕ) →
    AreWays m.edges nodes seen low (length nodes) → length nodes ≤ at →
    NoneFinal m.finals nodes low at → ((s : ℕ) × (Reach m.edges seen s × IsIn s m.finals)) → ⊥
no_final m nodes seen low at ways all none (s, (reach, final)) =
    let (places, way) = reach_way m.edges seen s reach in
    let h : HasWay nodes low (length nodes) s places = ways.complete s places way in
    let below : h.at < length nodes = h.below in
    none h.at h.x h.from (omega arith) h.there
    (subst (λ (z : ℕ). IsIn z m.finals) (sym h.state_is) final)

-- ---- what ways write

-- of the rest of a way that is read back
pub record IsRest (nodes : List Node) (at : ℕ) (found places : List ℕ) : Type 0 where
  pub rest : List ℕ
  pub back : LeadsBack nodes at rest
  pub is : places ≡ found ++ rest

pub rest_more : (nodes : List Node) (at : ℕ) (x : Node) (found found' places : List ℕ) →
    IsRest nodes at found places → 0 < at → slice_get nodes at ≡ Some x →
    found' ≡ found ++ x.edge ∷ [] → IsRest nodes x.back found' places
rest_more nodes at x found found' places r some there e = go r.back r.is
  where
    go : {rest : List ℕ} → LeadsBack nodes at rest → places ≡ found ++ rest →
        IsRest nodes x.back found' places
    go (first z p) is = absurd (omega arith)
    go (next y rest y_there earlier p back) is =
        let same : y ≡ x = same_Some y x (sym y_there ∙ there) in
        record {
          rest = rest;
          back = subst (λ (z : Node). LeadsBack nodes z.back rest) same back;
          is = is ∙ ap (λ z. found ++ z) (p ∙ ap (λ (z : Node). z.edge ∷ rest) same)
              ∙ sym (append_assoc found (x.edge ∷ []) rest) ∙ ap (λ z. z ++ rest) (sym e);
        }

-- a node at a final state, whose way writes the word
pub record IsWritten (m : Machine) (nodes : List Node) (low high : ℕ)
    (w : List Symbol) : Type 0 where
  pub at : ℕ
  pub from : low ≤ at
  pub below : at < high
  pub x : Node
  pub there : slice_get nodes at ≡ Some x
  pub final : IsIn x.state m.finals
  pub is : (places : List ℕ) → LeadsBack nodes at places → w ≡ reverse (written m.edges places)

-- the words are those that the ways of nodes at final states write
pub record AreWritten (m : Machine) (nodes : List Node) (low high : ℕ)
    (words : List (List Symbol)) : Type 0 where
  pub sound : (w : List Symbol) → IsIn w words → IsWritten m nodes low high w
  pub complete : (at : ℕ) (x : Node) → low ≤ at → at < high → slice_get nodes at ≡ Some x →
      IsIn x.state m.finals → (places : List ℕ) → LeadsBack nodes at places →
      IsIn (reverse (written m.edges places)) words

pub written_skip : (m : Machine) (nodes : List Node) (low at : ℕ) (x : Node)
    (words : List (List Symbol)) → slice_get nodes at ≡ Some x → (IsIn x.state m.finals → ⊥) →
    AreWritten m nodes low at words → AreWritten m nodes low (at + 1) words
written_skip m nodes low at x words there not is = record {
  sound = λ w i.
      let s : IsWritten m nodes low at w = is.sound w i in
      let below : s.at < at = s.below in
      record {
        at = s.at;
        from = s.from;
        below = omega arith;
        x = s.x;
        there = s.there;
        final = s.final;
        is = s.is;
      };
  complete = λ k y from below y_there final places back. elim (cases_lt k at) [
    | inl lt ↦ is.complete k y from lt y_there final places back
    | inr ge ↦
        let same : k ≡ at = omega arith in
        let x_is : y ≡ x = same_Some y x (sym y_there ∙ ap (slice_get nodes) same ∙ there) in
        absurd (not (subst (λ (z : Node). IsIn z.state m.finals) x_is final))
  ];
}

pub written_push : (m : Machine) (nodes : List Node) (low at : ℕ) (x : Node)
    (words words' : List (List Symbol)) (word : List Symbol) → low ≤ at →
    slice_get nodes at ≡ Some x → IsIn x.state m.finals →
    ((places : List ℕ) → LeadsBack nodes at places → word ≡ reverse (written m.edges places)) →
    words' ≡ words ++ word ∷ [] → AreWritten m nodes low at words →
    AreWritten m nodes low (at + 1) words'
written_push m nodes low at x words words' word from there final is_word e is = record {
  sound = λ w i. elim (in_either w words (word ∷ [])
      (subst (λ (z : List (List Symbol)). IsIn w z) e i)) [
        | inl q ↦
            let s : IsWritten m nodes low at w = is.sound w q in
            let below : s.at < at = s.below in
            record {
              at = s.at;
              from = s.from;
              below = omega arith;
              x = s.x;
              there = s.there;
              final = s.final;
              is = s.is;
            }
        | inr q ↦ elim q [
          | inl same ↦ record {
            at = at;
            from = from;
            below = omega arith;
            x = x;
            there = there;
            final = final;
            is = λ places back. same ∙ is_word places back;
          }
          | inr none ↦ elim none [ ]
        ]
      ];
  complete = λ k y from_k below y_there final_k places back.
      subst (λ (z : List (List Symbol)). IsIn (reverse (written m.edges places)) z) (sym e)
      (elim (cases_lt k at) [
        | inl lt ↦ in_front (reverse (written m.edges places)) words (word ∷ [])
            (is.complete k y from_k lt y_there final_k places back)
        | inr ge ↦
            let same : k ≡ at = omega arith in
            in_back (reverse (written m.edges places)) words (word ∷ [])
            (inl (sym (is_word places
            (subst (λ (z : ℕ). LeadsBack nodes z places) same back))))
      ]);
}

pub written_outputs : (m : Machine) (nodes : List Node) (seen : List Input) (low high : ℕ)
    (words found : List (List Symbol)) → AreWays m.edges nodes seen low (length nodes) →
    length nodes ≤ high → AreWritten m nodes low high words →
    ((w : List Symbol) → IsIn w found ↔ IsIn w words) → (w : List Symbol) →
    IsIn w found ↔ IsOutput m seen w
written_outputs m nodes seen low high words found ways all is same w = (
  (λ i.
      let s : IsWritten m nodes low high w = is.sound w ((same w).0 i) in
      let r : IsReached m.edges nodes seen s.at =
      ways.sound s.at s.from (slice_get_within nodes s.at s.x s.there) in
      let x_is : r.x ≡ s.x = same_Some r.x s.x (sym r.there ∙ s.there) in
      subst (λ (z : List Symbol). IsOutput m seen z) (sym (s.is r.places r.back))
      (way_output m seen r.x.state r.places r.way
      (subst (λ (z : Node). IsIn z.state m.finals) (sym x_is) s.final))),
  (λ o. (same w).1
      (let y : HasOutputWay m seen w = output_way m seen w o in
      let h : HasWay nodes low (length nodes) y.state y.places =
      ways.complete y.state y.places y.way in
      let below : h.at < length nodes = h.below in
      subst (λ (z : List Symbol). IsIn z words) (sym y.is)
      (is.complete h.at h.x h.from (omega arith) h.there
      (subst (λ (z : ℕ). IsIn z m.finals) (sym h.state_is) y.final) y.places h.back))),
)

pub proper_more : (words words' : List (List Symbol)) (word : List Symbol) →
    words' ≡ words ++ word ∷ [] → AreProper word →
    ((w : List Symbol) → IsIn w words → AreProper w) → (w : List Symbol) → IsIn w words' →
    AreProper w
proper_more words words' word e proper all w i = elim (in_either w words (word ∷ [])
    (subst (λ (z : List (List Symbol)). IsIn w z) e i)) [
      | inl q ↦ all w q
      | inr q ↦ elim q [
        | inl same ↦ subst (λ (z : List Symbol). AreProper z) (sym same) proper
        | inr none ↦ elim none [ ]
      ]
    ]

-- ---- the only end

-- the same node leads back by the same places
pub back_same : (nodes : List Node) (at : ℕ) (p q : List ℕ) → LeadsBack nodes at p →
    LeadsBack nodes at q → p ≡ q
back_same nodes at p q (first z e) (first y f) = e ∙ sym f
back_same nodes at p q (first z e) (next x rest there earlier f back) = absurd (omega arith)
back_same nodes at p q (next x rest there earlier f back) (first z e) = absurd (omega arith)
back_same nodes at p q (next x rest there earlier e back) (next y rest' there' earlier' f back') =
    let same : y ≡ x = same_Some y x (sym there' ∙ there) in
    let back'' : LeadsBack nodes x.back rest' =
    subst (λ (z : Node). LeadsBack nodes z.back rest') same back' in
    let r : rest ≡ rest' = back_same nodes x.back rest rest' back back'' in
    e ∙ ap (λ z. x.edge ∷ z) r ∙ ap (λ (z : Node). z.edge ∷ rest') (sym same) ∙ sym f

-- a node of a row at a final state, where no other one is at such a state
pub only_end : (m : Machine) (nodes : List Node) (seen : List Input) (low end : ℕ) →
    AreWays m.edges nodes seen low (length nodes) → IsFirstFinal m.finals nodes low end →
    NoneFinal m.finals nodes (end + 1) (length nodes) → IsOnlyEnd m nodes seen end
only_end m nodes seen low end ways is none =
    let within : end < length nodes = slice_get_within nodes end is.x is.there in
    let r : IsReached m.edges nodes seen end = ways.sound end is.from within in
    let x_is : is.x ≡ r.x = same_Some is.x r.x (sym is.there ∙ r.there) in
    record {
      places = r.places;
      back = r.back;
      only = λ w. (
        (λ i. elim i [
          | inl same ↦ subst (λ (z : List Symbol). IsOutput m seen z) (sym same)
              (way_output m seen r.x.state r.places r.way
              (subst (λ (z : Node). IsIn z.state m.finals) x_is is.final))
          | inr none_left ↦ elim none_left [ ]
        ]),
        (λ o.
            let y : HasOutputWay m seen w = output_way m seen w o in
            let h : HasWay nodes low (length nodes) y.state y.places =
            ways.complete y.state y.places y.way in
            let final : IsIn h.x.state m.finals =
            subst (λ (z : ℕ). IsIn z m.finals) (sym h.state_is) y.final in
            elim (cases_lt h.at end) [
              | inl lt ↦ absurd (is.before h.at h.x h.from lt h.there final)
              | inr ge ↦ elim (cases_lt end h.at) [
                | inl gt ↦ absurd (none h.at h.x (omega arith) h.below h.there final)
                | inr le ↦
                    let same : h.at ≡ end = omega arith in
                    inl (y.is ∙ ap (λ z. reverse (written m.edges z))
                    (back_same nodes end y.places r.places
                    (subst (λ (z : ℕ). LeadsBack nodes z y.places) same h.back) r.back))
              ]
            ]),
      );
    }
