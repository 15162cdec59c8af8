-- What is listed of the places of a surface: the words of all that stands from them on, joined,
-- where the parts are as few as can be.
use Rattle.std.proofs.Common.{◌≡◌, inl, inr, ℕ, ◌+◌, ◌<◌, ◌≤◌, zero, suc, Bool, true, false, List, [], ◌∷◌, ◌++◌, length, Option, Some, None, refl, sym, ap, subst, ◌∙◌, arith}
use Rattle.std.specs.Prelude.{◌↔◌, slice_get, ◌==◌, nat_lt, ◌&&◌, if◌then◌else◌}
use Rattle.std.specs.List.{flat_map}
use Rattle.std.proofs.lemmas.Bool.Decides.{nat_tests}
use Rattle.std.proofs.lemmas.Option.{none-some, same_Some}
use Rattle.ap_symbol.specs.Lists.{IsIn}
use Rattle.ap_symbol.specs.declared.symbol.Symbol.{Symbol}
use Rattle.ap_symbol.specs.declared.symbol.Symbol.TheVariants.{Join}
use Rattle.ap_fst.proofs.Listing.{in_front, in_back, in_either, in_map, in_mapped, IsImage}
use Rattle.ap_live.specs.Lexicon.{Lexicon}
use Rattle.ap_compound.specs.Places.{words_at, IsLeast, Completes, IsExplored, joins, is_number, going, goings, ending, words_from, AreListed, first_words}
use Rattle.ap_compound.specs.Splits.{fewest, joined_word}
use Rattle.ap_compound.specs.declared.listing.Listed.{Listed}
use Rattle.ap_compound.specs.declared.place.Place.{Place}
use Rattle.ap_compound.proofs.Least.{IsNoMore}
use Rattle.ap_compound.proofs.Splitting.{IsFlat, in_flat, flat_in}
use Rattle.ap_compound.proofs.Walking.{IsRest, last, more, rest_some, place_there, place_within, one_place, at_place, left_is, right_is, steps_to, no_fewer}

-- ---- what is appended

is_number_true : (o : Option ℕ) (n : ℕ) → is_number o n ≡ true → o ≡ Some n
is_number_true None n e = cc
is_number_true (Some m) n e = ap Some (grind (arith, nat_tests))

number_is : (o : Option ℕ) (n : ℕ) → o ≡ Some n → is_number o n ≡ true
number_is None n e = absurd (none-some n e)
number_is (Some m) n e = let k : m ≡ n = same_Some m n e in grind (arith, nat_tests)

record IsGoing (p : Place) (next k : ℕ) (x : Listed) (w : List Symbol) : Type 0 where
  pub reached : x.fewest ≡ Some next
  pub front : List Symbol
  pub back : List Symbol
  pub part : IsIn front (words_at p.lefts.items k)
  pub behind : IsIn back x.words
  pub word : w ≡ front ++ Join ∷ back

going_by : (b : Bool) (p : Place) (next k : ℕ) (x : Listed) (w : List Symbol) →
    is_number x.fewest next ≡ b →
    IsIn w (if b then flat_map (joins x.words) (words_at p.lefts.items k) else []) →
    IsGoing p next k x w
going_by true p next k x w e i =
    let f : IsFlat (joins x.words) w (words_at p.lefts.items k) =
    flat_in (joins x.words) w (words_at p.lefts.items k) i in
    let m : IsImage (λ back. f.source ++ Join ∷ back) w x.words =
    in_mapped (λ back. f.source ++ Join ∷ back) w x.words f.there in
    record {
      reached = is_number_true x.fewest next e;
      front = f.source;
      back = m.source;
      part = f.listed;
      behind = m.listed;
      word = m.image;
    }
going_by false p next k x w e i = absurd i

going_is : (p : Place) (next k : ℕ) (x : Listed) (w : List Symbol) →
    IsIn w (going p next k x) → IsGoing p next k x w
going_is p next k x w i = going_by (is_number x.fewest next) p next k x w refl i

going_of : (p : Place) (next k : ℕ) (x : Listed) (w : List Symbol) → IsGoing p next k x w →
    IsIn w (going p next k x)
going_of p next k x w g =
    subst (λ (b : Bool). IsIn w (if b
    then flat_map (joins x.words) (words_at p.lefts.items k) else []))
    (sym (number_is x.fewest next g.reached))
    (in_flat (joins x.words) g.front w (words_at p.lefts.items k) g.part
    (subst (λ (z : List Symbol). IsIn z (joins x.words g.front)) (sym g.word)
    (in_map (λ back. g.front ++ Join ∷ back) g.back x.words g.behind)))

record GoesBehind (p : Place) (next k : ℕ) (behind : List Listed) (w : List Symbol) : Type 0 where
  pub by : ℕ
  pub listed : Listed
  pub at : slice_get behind by ≡ Some listed
  pub going : IsGoing p next (k + by) listed w

goings_is : (p : Place) (next k : ℕ) (behind : List Listed) (w : List Symbol) →
    IsIn w (goings p next k behind) → GoesBehind p next k behind w
unfolding goings
goings_is p next k [] w i = absurd i
goings_is p next k (x ∷ behind) w i =
    elim (in_either w (going p next k x) (goings p next (suc k) behind) i) [
      | inl h ↦ let e : k ≡ k + 0 = omega arith in record {
        by = 0;
        listed = x;
        at = refl;
        going = subst (λ (n : ℕ). IsGoing p next n x w) e (going_is p next k x w h);
      }
      | inr h ↦
          let g : GoesBehind p next (suc k) behind w = goings_is p next (suc k) behind w h in
          let e : suc k + g.by ≡ k + suc g.by = omega arith in
          record {
            by = suc g.by;
            listed = g.listed;
            at = g.at;
            going = subst (λ (n : ℕ). IsGoing p next n g.listed w) e g.going;
          }
    ]

goings_of : (p : Place) (next k j : ℕ) (behind : List Listed) (x : Listed) (w : List Symbol) →
    slice_get behind j ≡ Some x → IsGoing p next (k + j) x w → IsIn w (goings p next k behind)
unfolding goings
goings_of p next k j [] x w at g = absurd (none-some x at)
goings_of p next k zero (y ∷ behind) x w at g =
    let e : k + 0 ≡ k = omega arith in
    in_front w (going p next k y) (goings p next (suc k) behind)
    (going_of p next k y w (subst (λ (z : Listed). IsGoing p next k z w) (sym (same_Some y x at))
    (subst (λ (n : ℕ). IsGoing p next n x w) e g)))
goings_of p next k (suc j) (y ∷ behind) x w at g =
    let e : k + suc j ≡ suc k + j = omega arith in
    in_back w (going p next k y) (goings p next (suc k) behind)
    (goings_of p next (suc k) j behind x w at (subst (λ (n : ℕ). IsGoing p next n x w) e g))

record IsEnding (p : Place) (at total next : ℕ) (w : List Symbol) : Type 0 where
  pub behind : 0 < at
  pub whole : next ≡ total
  pub part : IsIn w p.rights

ending_by : (b : Bool) (p : Place) (at total next : ℕ) (w : List Symbol) →
    (nat_lt 0 at && (next == total)) ≡ b → IsIn w (if b then p.rights else []) →
    IsEnding p at total next w
ending_by true p at total next w e i = record {
  behind = grind (arith, nat_tests);
  whole = grind (arith, nat_tests);
  part = i;
}
ending_by false p at total next w e i = absurd i

ending_is : (p : Place) (at total next : ℕ) (w : List Symbol) → IsIn w (ending p at total next) →
    IsEnding p at total next w
ending_is p at total next w i =
    ending_by (nat_lt 0 at && (next == total)) p at total next w refl i

ending_of : (p : Place) (at total next : ℕ) (w : List Symbol) → IsEnding p at total next w →
    IsIn w (ending p at total next)
ending_of p at total next w d =
    let behind : 0 < at = d.behind in
    let whole : next ≡ total = d.whole in
    let t : (nat_lt 0 at && (next == total)) ≡ true = grind (arith, nat_tests) in
    subst (λ (b : Bool). IsIn w (if b then p.rights else [])) (sym t) d.part

joined_more : (w : List Symbol) (words : List (List Symbol)) → 0 < length words →
    joined_word (w ∷ words) ≡ w ++ Join ∷ joined_word words
joined_more w [] some = absurd (omega arith)
joined_more w (v ∷ words) some = refl

-- ---- what is listed

module _ (lexicon : Lexicon) (surface : List Symbol) (places : List Place)
    (explored : IsExplored lexicon surface places) (found : Option ℕ)
    (least : IsLeast (Completes places) (length places) found) (total : ℕ)
    (is_total : found ≡ Some total) where
  -- all that stands from a place on, with as many parts as are left
  pub record IsRested (i : ℕ) (o : Option ℕ) (w : List Symbol) : Type 0 where
    pub count : ℕ
    pub words : List (List Symbol)
    pub reached : o ≡ Some count
    pub rest : IsRest lexicon surface i words
    pub size : count + length words ≡ total
    pub word : w ≡ joined_word words

  record AreRests (i : ℕ) (x : Listed) : Type 0 where
    pub same : (p : Place) → slice_get places i ≡ Some p → x.fewest ≡ p.fewest
    pub sound : (w : List Symbol) → IsIn w x.words → IsRested i x.fewest w
    pub complete : (w : List Symbol) → IsRested i x.fewest w → IsIn w x.words

  abbrev AllRests : ℕ → List Listed → Type 0
  AllRests at lists = (k : ℕ) (x : Listed) → slice_get lists k ≡ Some x → AreRests (at + k) x

  rested_by : (i m : ℕ) (p : Place) (behind : List Listed) (w : List Symbol) →
      slice_get places i ≡ Some p → p.fewest ≡ Some m → AllRests (suc i) behind →
      i + suc (length behind) ≡ length surface →
      IsIn w (ending p i total (suc m) ++ goings p (suc m) 0 behind) →
      IsRested i (Some m) w
  rested_by i m p behind w at reached all size i' =
      elim (in_either w (ending p i total (suc m)) (goings p (suc m) 0 behind) i') [
        | inl h ↦
            let d : IsEnding p i total (suc m) w = ending_is p i total (suc m) w h in
            let whole : suc m ≡ total = d.whole in
            record {
              count = m;
              words = w ∷ [];
              reached = refl;
              rest = last w d.behind (omega (arith, size))
                  ((right_is lexicon surface places explored i m p at reached w).0 d.part) refl;
              size = omega (arith, whole);
              word = refl;
            }
        | inr h ↦
            let g : GoesBehind p (suc m) 0 behind w = goings_is p (suc m) 0 behind w h in
            let k : ℕ = g.by in
            let none : 0 + g.by ≡ g.by = omega arith in
            let go : IsGoing p (suc m) g.by g.listed w =
            subst (λ (n : ℕ). IsGoing p (suc m) n g.listed w) none g.going in
            let below : g.by < length behind = place_within behind g.by g.listed g.at in
            let to : suc i + g.by ≡ i + suc g.by = omega arith in
            let r : IsRested (suc i + g.by) g.listed.fewest go.back =
            (all g.by g.listed g.at).sound go.back go.behind in
            let next : suc m ≡ r.count = same_Some (suc m) r.count (sym go.reached ∙ r.reached) in
            let within : i + suc g.by < length surface = omega (arith, size, below) in
            record {
              count = m;
              words = go.front ∷ r.words;
              reached = refl;
              rest = more g.by go.front r.words within
                  ((left_is lexicon surface places explored i g.by m p at reached within
                  go.front).0 go.part)
                  (subst (λ (n : ℕ). IsRest lexicon surface n r.words) to r.rest) refl;
              size = omega (arith, r.size, next);
              word = go.word ∙ ap (λ (z : List Symbol). go.front ++ Join ∷ z) r.word
                  ∙ sym (joined_more go.front r.words
                  (rest_some lexicon surface (suc i + g.by) r.words r.rest));
            }
      ]

  there_by : (i m : ℕ) (p : Place) (behind : List Listed) (words : List (List Symbol)) →
      slice_get places i ≡ Some p → p.fewest ≡ Some m → AllRests (suc i) behind →
      i + suc (length behind) ≡ length surface → IsRest lexicon surface i words →
      m + length words ≡ total →
      IsIn (joined_word words) (ending p i total (suc m) ++ goings p (suc m) 0 behind)
  there_by i m p behind words at reached all size (last w pos within right e) count =
      in_front (joined_word words) (ending p i total (suc m)) (goings p (suc m) 0 behind)
      (subst (λ (z : List (List Symbol)). IsIn (joined_word z) (ending p i total (suc m))) (sym e)
      (ending_of p i total (suc m) w (record {
        behind = pos;
        whole = omega (arith, count, ap length e);
        part = (right_is lexicon surface places explored i m p at reached w).1 right;
      })))
  there_by i m p behind words at reached all size (more k w others within left rest e) count =
      let q = at_place lexicon surface places explored (i + suc k) within in
      let s : IsNoMore q.0.fewest (suc m) =
      steps_to lexicon surface places explored i k m p q.0 w at reached within left q.1 in
      let low : s.0 ≤ suc m = s.1.1 in
      let f : IsNoMore found (s.0 + length others) =
      no_fewer lexicon surface places explored found least (i + suc k) s.0 q.0 others q.1 s.1.0
      rest in
      let le : f.0 ≤ s.0 + length others = f.1.1 in
      let total_is : f.0 ≡ total = same_Some f.0 total (sym f.1.0 ∙ is_total) in
      let next : s.0 ≡ suc m = omega (arith, low, le, total_is, count, ap length e) in
      let x = place_there behind k (omega (arith, size, within)) in
      let to : suc i + k ≡ i + suc k = omega arith in
      let a : AreRests (i + suc k) x.0 =
      subst (λ (n : ℕ). AreRests n x.0) to (all k x.0 x.1) in
      let here : x.0.fewest ≡ Some (suc m) = a.same q.0 q.1 ∙ s.1.0 ∙ ap Some next in
      let back : IsIn (joined_word others) x.0.words =
      a.complete (joined_word others) (record {
        count = suc m;
        words = others;
        reached = here;
        rest = rest;
        size = omega (arith, count, ap length e);
        word = refl;
      }) in
      let none : k ≡ 0 + k = omega arith in
      in_back (joined_word words) (ending p i total (suc m)) (goings p (suc m) 0 behind)
      (goings_of p (suc m) 0 k behind x.0 (joined_word words) x.1
      (subst (λ (n : ℕ). IsGoing p (suc m) n x.0 (joined_word words)) none (record {
        reached = here;
        front = w;
        back = joined_word others;
        part = (left_is lexicon surface places explored i k m p at reached within w).1 left;
        behind = back;
        word = ap joined_word e
            ∙ joined_more w others (rest_some lexicon surface (i + suc k) others rest);
      })))

  from_by : (o : Option ℕ) (i : ℕ) (p : Place) (behind : List Listed) (w : List Symbol) →
      slice_get places i ≡ Some p → p.fewest ≡ o → AllRests (suc i) behind →
      i + suc (length behind) ≡ length surface → IsIn w (words_from o p i total behind) →
      IsRested i o w
  from_by None i p behind w at reached all size h = absurd h
  from_by (Some m) i p behind w at reached all size h =
      rested_by i m p behind w at reached all size h

  to_by : (o : Option ℕ) (i : ℕ) (p : Place) (behind : List Listed) (w : List Symbol) →
      slice_get places i ≡ Some p → p.fewest ≡ o → AllRests (suc i) behind →
      i + suc (length behind) ≡ length surface → IsRested i o w →
      IsIn w (words_from o p i total behind)
  to_by None i p behind w at reached all size r = absurd (none-some r.count r.reached)
  to_by (Some m) i p behind w at reached all size r =
      let e : m ≡ r.count = same_Some m r.count r.reached in
      subst (λ (z : List Symbol). IsIn z (words_from (Some m) p i total behind)) (sym r.word)
      (there_by i m p behind r.words at reached all size r.rest (omega (arith, e, r.size)))

  rests_at : (i : ℕ) (p : Place) (x : Listed) (behind : List Listed) →
      slice_get places i ≡ Some p → x.fewest ≡ p.fewest → ((w : List Symbol) → IsIn w x.words
      ↔ IsIn w (words_from p.fewest p i total behind)) → AllRests (suc i) behind →
      i + suc (length behind) ≡ length surface → AreRests i x
  rests_at i p x behind at same members all size = record {
    same = λ q is. same ∙ ap (λ (z : Place). z.fewest) (one_place places i p q at is);
    sound = λ w h. subst (λ (o : Option ℕ). IsRested i o w) (sym same)
        (from_by p.fewest i p behind w at refl all size ((members w).0 h));
    complete = λ w r. (members w).1 (to_by p.fewest i p behind w at refl all size
        (subst (λ (o : Option ℕ). IsRested i o w) same r));
  }

  record AllListed (i : ℕ) (rest : List Place) (lists : List Listed) : Type 0 where
    pub count : length lists ≡ length rest
    pub each : AllRests i lists

  all_rests : (i : ℕ) (rest : List Place) (lists : List Listed) → AreListed total i rest lists →
      ((k : ℕ) (q : Place) → slice_get rest k ≡ Some q → slice_get places (i + k) ≡ Some q) →
      i + length rest ≡ length surface → AllListed i rest lists
  all_rests i [] lists h stands size = record {
    count = ap length h;
    each = λ k x at. absurd (none-some x (ap (λ (z : List Listed). slice_get z k) (sym h) ∙ at));
  }
  all_rests i (p ∷ rest) [] h stands size = absurd h
  all_rests i (p ∷ rest) (x ∷ lists) h stands size =
      let next : AllListed (suc i) rest lists =
      all_rests (suc i) rest lists h.2 (λ k q at.
      let e : i + suc k ≡ suc i + k = omega arith in
      subst (λ (n : ℕ). slice_get places n ≡ Some q) e (stands (suc k) q at)) (omega (arith, size))
      in
      let none : i + 0 ≡ i = omega arith in
      let here : slice_get places i ≡ Some p =
      subst (λ (n : ℕ). slice_get places n ≡ Some p) none (stands 0 p refl) in
      let first : AreRests i x = rests_at i p x lists here h.0 h.1 next.each
      (omega (arith, size, next.count)) in
      record { count = ap suc next.count; each = at first next.each }
    where
      at : AreRests i x → AllRests (suc i) lists → AllRests i (x ∷ lists)
      at first others zero y is =
          let none : i ≡ i + 0 = omega arith in
          subst (λ (n : ℕ). AreRests n y) none (subst (AreRests i) (same_Some x y is) first)
      at first others (suc k) y is =
          let e : suc i + k ≡ i + suc k = omega arith in
          subst (λ (n : ℕ). AreRests n y) e (others k y is)

  -- the words that are listed of the first place
  pub first_rests : (lists : List Listed) → AreListed total 0 places lists → 0 < length surface →
      (w : List Symbol) → IsIn w (first_words lists) ↔ IsRested 0 (Some 0) w
  first_rests [] h some w =
      let a : AllListed 0 places [] = all_rests 0 places [] h
      (λ k q at. subst (λ (n : ℕ). slice_get places n ≡ Some q) (let e : k ≡ 0 + k = omega arith in e) at)
      (omega (arith, explored.whole)) in
      absurd (omega (arith, a.count, explored.whole, some))
  first_rests (x ∷ lists) h some w =
      let a : AllListed 0 places (x ∷ lists) = all_rests 0 places (x ∷ lists) h
      (λ k q at. subst (λ (n : ℕ). slice_get places n ≡ Some q) (let e : k ≡ 0 + k = omega arith in e) at)
      (omega (arith, explored.whole)) in
      let r : AreRests 0 x = a.each 0 x refl in
      let p = at_place lexicon surface places explored 0 some in
      let zeroth : x.fewest ≡ Some 0 = r.same p.0 p.1 ∙ (explored.each 0 p.0 p.1).begins refl in (
        λ i. subst (λ (o : Option ℕ). IsRested 0 o w) zeroth (r.sound w i),
        λ i. r.complete w (subst (λ (o : Option ℕ). IsRested 0 o w) (sym zeroth) i),
      )
