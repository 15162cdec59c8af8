use Rattle.std.proofs.Common.{◌≡◌, ◌≢◌, ◌⊎◌, inl, inr, ℕ, ◌+◌, ◌<◌, ◌≤◌, List, [], ◌∷◌, ◌++◌, map, refl, sym, ◌∙◌, ap, subst, arith, Option, Some, append-nil}
use Rattle.std.specs.Prelude.{IsTrue, ◌↔◌}
use Rattle.std.specs.Option.{option_to_list}
use Rattle.std.proofs.lemmas.Bool.{cases_eq}
use Rattle.std.proofs.lemmas.Bool.Decides.{nat_tests}
use Rattle.ap_fst.specs.Lists.{IsIn}
use Rattle.ap_fst.proofs.Listing.{in_front, in_back, in_either, in_mapped, IsImage}
use Rattle.ap_fst.specs.Sides.{has_side}
use Rattle.ap_fst.specs.Sketches.{Sketch, IsWithin, IsSketch}
use Rattle.ap_fst.specs.Places.{placed, moved}
use Rattle.ap_fst.specs.Paths.{Path, here, on, Accepts, IsJoined, IsEither}
use Rattle.ap_fst.specs.declared.draft.Move.{Move}
use Rattle.ap_fst.specs.declared.draft.Place.{Place}
use Rattle.ap_fst.specs.declared.label.Label.{Label}
use Rattle.ap_fst.proofs.Gluing.{path_in_more, path_then, IsSplit, outer, one_of, path_moved, path_unmoved, IsApart}

-- a state is put at the start's place, at the end's place, or so much further
abbrev pub PlacedBy : Place → ℕ → ℕ → Type 0
PlacedBy p k at = ((k ≡ p.start) × (at ≡ p.start_at))
    ⊎ ((k ≢ p.start) × (((k ≡ p.end) × (at ≡ p.end_at)) ⊎ ((k ≢ p.end) × (at ≡ k + p.by))))

pub placed_by : (p : Place) (k : ℕ) → PlacedBy p k (placed p k)
placed_by p k =
    elim (cases_eq k p.start) [
      | inl e ↦ inl (e, grind (arith, nat_tests))
      | inr d ↦ inr (
        d,
        elim (cases_eq k p.end) [
          | inl f ↦ inl (f, grind (arith, nat_tests))
          | inr g ↦ inr (g, grind (arith, nat_tests))
        ],
      )
    ]

-- where the second draft's states go, beside a first one with n states
pub record IsPlacing (p : Place) (n : ℕ) : Type 0 where
  pub by_is : p.by ≡ n
  pub start_in : p.start_at < n
  pub apart : p.start ≢ p.end
  pub ends : ((p.end_at < n) × (p.end_at ≢ p.start_at)) ⊎ (p.end_at ≡ p.end + n)

apart_at : (p : Place) (n i j x y : ℕ) → IsPlacing p n → PlacedBy p i x → PlacedBy p j y →
    x ≡ y → i ≡ j
apart_at p n i j x y ok (inl a) (inl b) e = omega arith
apart_at p n i j x y ok (inl a) (inr (d, inl b)) e =
    elim ok.ends [
      | inl h ↦ absurd (h.1 (omega arith))
      | inr h ↦ let s : p.start_at < n = ok.start_in
          in absurd (omega arith)
    ]
apart_at p n i j x y ok (inl a) (inr (d, inr b)) e = let s : p.start_at < n = ok.start_in in
    let q : p.by ≡ n = ok.by_is in absurd (omega arith)
apart_at p n i j x y ok (inr (d, inl a)) (inl b) e =
    elim ok.ends [
      | inl h ↦ absurd (h.1 (omega arith))
      | inr h ↦ let s : p.start_at < n = ok.start_in
          in absurd (omega arith)
    ]
apart_at p n i j x y ok (inr (d, inl a)) (inr (f, inl b)) e = omega arith
apart_at p n i j x y ok (inr (d, inl a)) (inr (f, inr b)) e = let q : p.by ≡ n = ok.by_is in
    elim ok.ends [ inl h ↦ absurd (omega arith) | inr h ↦ omega arith ]
apart_at p n i j x y ok (inr (d, inr a)) (inl b) e = let s : p.start_at < n = ok.start_in in
    let q : p.by ≡ n = ok.by_is in absurd (omega arith)
apart_at p n i j x y ok (inr (d, inr a)) (inr (f, inl b)) e = let q : p.by ≡ n = ok.by_is in
    elim ok.ends [ inl h ↦ absurd (omega arith) | inr h ↦ omega arith ]
apart_at p n i j x y ok (inr (d, inr a)) (inr (f, inr b)) e = omega arith

pub placing_apart : (p : Place) (n k : ℕ) → IsPlacing p n → IsApart p k
placing_apart p n k ok =
    record {
      one = λ i j hi hj e. apart_at p n i j (placed p i) (placed p j) ok (placed_by p i)
          (placed_by p j) e;
    }

abbrev pub join_place : Sketch → Sketch → Place
join_place a b = record {
  by = a.states;
  start = b.start;
  start_at = a.finish;
  end =
      b.finish;
  end_at = b.finish + a.states;
}

abbrev pub either_place : Sketch → Sketch → Place
either_place a b = record {
  by = a.states;
  start = b.start;
  start_at = a.start;
  end =
      b.finish;
  end_at = a.finish;
}

pub join_placing : (a b : Sketch) → IsSketch a → IsSketch b → IsPlacing (join_place a b) a.states
join_placing a b oa ob =
    record { by_is = refl; start_in = oa.finish_in; apart = ob.apart; ends = inr refl }

pub either_placing : (a b : Sketch) → IsSketch a → IsSketch b →
    IsPlacing (either_place a b) a.states
either_placing a b oa ob =
    record {
      by_is = refl;
      start_in = oa.start_in;
      apart = ob.apart;
      ends =
          inl (oa.finish_in, λ e. oa.apart (sym e));
    }

-- a place beside the first draft, or one of its two ends
far_of : (p : Place) (n k at : ℕ) → IsPlacing p n → PlacedBy p k at → k ≢ p.end →
    (n ≤ at) ⊎ (at ≡ p.start_at)
far_of p n k at ok (inl a) d = inr a.1
far_of p n k at ok (inr (f, inl a)) d = absurd (d a.0)
far_of p n k at ok (inr (f, inr a)) d = let q : p.by ≡ n = ok.by_is in inl (omega arith)

far_to : (p : Place) (n k at : ℕ) → IsPlacing p n → PlacedBy p k at → k ≢ p.start →
    (n ≤ at) ⊎ (at ≡ p.end_at)
far_to p n k at ok (inl a) d = absurd (d a.0)
far_to p n k at ok (inr (f, inl a)) d = inr a.1
far_to p n k at ok (inr (f, inr a)) d = let q : p.by ≡ n = ok.by_is in inl (omega arith)

pub leaves_far : (p : Place) (n k : ℕ) (b : List Move) → IsPlacing p n →
    ((m : Move) → IsIn m b → IsWithin k p.start p.end m) → (m : Move) → IsIn m (map (moved p) b) →
    (n ≤ m.from) ⊎ (m.from ≡ p.start_at)
leaves_far p n k b ok each m listed =
    let i : IsImage (moved p) m b = in_mapped (moved p) m b listed in
    let f : m.from ≡ placed p i.source.from = ap (λ z. z.from) i.image in
    elim (far_of p n i.source.from (placed p i.source.from) ok (placed_by p i.source.from)
    (each i.source i.listed).leaves) [ inl h ↦ inl (omega arith) | inr h ↦ inr (f ∙ h) ]

pub enters_far : (p : Place) (n k : ℕ) (b : List Move) → IsPlacing p n →
    ((m : Move) → IsIn m b → IsWithin k p.start p.end m) → (m : Move) → IsIn m (map (moved p) b) →
    (n ≤ m.to) ⊎ (m.to ≡ p.end_at)
enters_far p n k b ok each m listed =
    let i : IsImage (moved p) m b = in_mapped (moved p) m b listed in
    let f : m.to ≡ placed p i.source.to = ap (λ z. z.to) i.image in
    elim (far_to p n i.source.to (placed p i.source.to) ok (placed_by p i.source.to)
    (each i.source i.listed).enters) [ inl h ↦ inl (omega arith) | inr h ↦ inr (f ∙ h) ]

pub placed-start : (p : Place) → placed p p.start ≡ p.start_at
placed-start p = grind (arith, nat_tests)

pub placed-end : (p : Place) → p.start ≢ p.end → placed p p.end ≡ p.end_at
placed-end p d = grind (arith, nat_tests)

abbrev pub join_moves : Sketch → Sketch → List Move
join_moves a b = a.moves ++ map (moved (join_place a b)) b.moves

abbrev pub either_moves : Sketch → Sketch → List Move
either_moves a b = a.moves ++ map (moved (either_place a b)) b.moves

-- the second draft's strings, between its ends' places
pub second_in : (a b : Sketch) (p : Place) (w : List Label) → IsPlacing p a.states →
    p.start ≡ b.start → p.end ≡ b.finish → Accepts b w →
    Path (map (moved p) b.moves) p.start_at w p.end_at
second_in a b p w ok s e h =
    let P : ℕ → ℕ → Type 0 = λ x y. Path (map (moved p) b.moves) x w y in
    let h' : P (placed p b.start) (placed p b.finish) = path_moved p b.moves b.start b.finish w h in
    let h1 : P p.start_at (placed p b.finish) =
    subst (λ (x : ℕ). P x (placed p b.finish)) (ap (placed p) (sym s) ∙ placed-start p) h' in
    subst (λ (y : ℕ). P p.start_at y) (ap (placed p) (sym e) ∙ placed-end p ok.apart) h1

pub second_out : (a b : Sketch) (p : Place) (w : List Label) → IsPlacing p a.states → IsSketch b →
    p.start ≡ b.start → p.end ≡ b.finish → Path (map (moved p) b.moves) p.start_at w p.end_at
    → Accepts b w
second_out a b p w ok ob s e h =
    path_unmoved p b.states b.start b.finish b.moves b.start b.finish p.start_at p.end_at w
    (placing_apart p a.states b.states ok) ob.each ob.finish_in
    (sym (ap (placed p) (sym e) ∙ placed-end p ok.apart)) ob.start_in
    (sym (ap (placed p) (sym s) ∙ placed-start p)) h

pub joined : (a b : Sketch) (w : List Label) → IsSketch a → IsSketch b →
    Path (join_moves a b) a.start w (b.finish + a.states) → IsJoined a b w
joined a b w oa ob h =
    let ok : IsPlacing (join_place a b) a.states = join_placing a b oa ob in
    let more : List Move = map (moved (join_place a b)) b.moves in
    let split : IsSplit a.moves more a.start a.finish (b.finish + a.states) w =
    outer a.states a.start a.finish a.moves more a.start (b.finish + a.states) w oa.each
    (λ m k. elim (enters_far (join_place a b) a.states b.states b.moves ok ob.each m k) [
      | inl g ↦
          inl g
      | inr g ↦ inl (omega arith)
    ])
    (leaves_far (join_place a b) a.states b.states b.moves ok ob.each) (omega arith)
    oa.start_in h in
    record {
      front = split.front;
      back = split.back;
      whole = split.whole;
      first =
          split.first;
      second = second_out a b (join_place a b) split.back ok ob refl refl
          split.second;
    }

pub rejoined : (a b : Sketch) (w : List Label) → IsSketch a → IsSketch b → IsJoined a b w →
    Path (join_moves a b) a.start w (b.finish + a.states)
rejoined a b w oa ob j =
    let ok : IsPlacing (join_place a b) a.states = join_placing a b oa ob in
    let more : List Move = map (moved (join_place a b)) b.moves in
    let P : List Label → Type 0 = λ x. Path (join_moves a b) a.start x (b.finish + a.states) in
    subst P (sym j.whole)
    (path_then (join_moves a b) a.start a.finish (b.finish + a.states) j.front j.back
    (path_in_more a.moves (join_moves a b) a.start a.finish j.front
    (λ m k. in_front m a.moves more k) j.first)
    (path_in_more more (join_moves a b) a.finish (b.finish + a.states) j.back
    (λ m k. in_back m a.moves more k)
    (second_in a b (join_place a b) j.back ok refl refl j.second)))

pub chosen : (a b : Sketch) (w : List Label) → IsSketch a → IsSketch b →
    Path (either_moves a b) a.start w a.finish → IsEither a b w
chosen a b w oa ob h =
    let ok : IsPlacing (either_place a b) a.states = either_placing a b oa ob in
    elim (one_of a.states a.start a.finish a.moves (map (moved (either_place a b)) b.moves) w
    oa.each (enters_far (either_place a b) a.states b.states b.moves ok ob.each)
    (leaves_far (either_place a b) a.states b.states b.moves ok ob.each) h) [
      | inl k ↦ inl k
      | inr k ↦ inr (second_out a b (either_place a b) w ok ob refl refl k)
    ]

pub rechosen : (a b : Sketch) (w : List Label) → IsSketch a → IsSketch b → IsEither a b w →
    Path (either_moves a b) a.start w a.finish
rechosen a b w oa ob (inl k) =
    path_in_more a.moves (either_moves a b) a.start a.finish w
    (λ m q. in_front m a.moves (map (moved (either_place a b)) b.moves) q) k
rechosen a b w oa ob (inr k) =
    path_in_more (map (moved (either_place a b)) b.moves) (either_moves a b) a.start a.finish w
    (λ m q. in_back m a.moves (map (moved (either_place a b)) b.moves) q)
    (second_in a b (either_place a b) w (either_placing a b oa ob) refl refl k)

-- states of the second draft stay within both
placed_in : (p : Place) (n k i at : ℕ) → IsPlacing p n → p.end < k → i < k →
    PlacedBy p i at → at < n + k
placed_in p n k i at ok e h (inl a) = let s : p.start_at < n = ok.start_in in omega arith
placed_in p n k i at ok e h (inr (f, inl a)) =
    elim ok.ends [ inl g ↦ omega arith | inr g ↦ omega arith ]
placed_in p n k i at ok e h (inr (f, inr a)) = let q : p.by ≡ n = ok.by_is in omega arith

pub second_within : (p : Place) (n k : ℕ) (b : List Move) → IsPlacing p n → p.end < k →
    ((m : Move) → IsIn m b → IsWithin k p.start p.end m) → (m : Move) → IsIn m (map (moved p) b) →
    (m.from < n + k) × (m.to < n + k)
second_within p n k b ok e each m listed =
    let i : IsImage (moved p) m b = in_mapped (moved p) m b listed in
    let w : IsWithin k p.start p.end i.source = each i.source i.listed in
    let f : m.from ≡ placed p i.source.from = ap (λ z. z.from) i.image in
    let t : m.to ≡ placed p i.source.to = ap (λ z. z.to) i.image in
    let fi : placed p i.source.from < n + k =
    placed_in p n k i.source.from (placed p i.source.from) ok e w.from_in
    (placed_by p i.source.from) in
    let ti : placed p i.source.to < n + k =
    placed_in p n k i.source.to (placed p i.source.to) ok e w.to_in (placed_by p i.source.to) in
    (omega arith, omega arith)

pub shifts : (k by top start e : ℕ) (b : List Move) → ((m : Move) → IsIn m b → IsWithin k start e m)
    → by + k < top → (m : Move) → IsIn m b → (m.from + by < top) × (m.to + by < top)
shifts k by top start e b each h m listed = let w : IsWithin k start e m = each m listed in
    (omega arith, omega arith)

-- a moved label comes from the first or the second
both_sided : (a b : Sketch) (p : Place) (moves : List Move) → IsSketch a → IsSketch b →
    moves ≡ a.moves ++ map (moved p) b.moves → (m : Move) (l : Label) → IsIn m moves →
    m.label ≡ Some l → IsTrue (has_side l)
both_sided a b p moves oa ob e m l listed is =
    elim (in_either m a.moves (map (moved p) b.moves) (let P : List Move → Type 0 = λ x. IsIn m x in
    subst P e listed)) [
      | inl k ↦ oa.sided m l k is
      | inr k ↦ let i : IsImage (moved p) m b.moves = in_mapped (moved p) m b.moves k in
          ob.sided i.source l i.listed (sym (ap (λ z. z.label) i.image) ∙ is)
    ]

pub either_is_sketch : (a b : Sketch) (all : ℕ) (moves : List Move) → IsSketch a → IsSketch b →
    all ≡ a.states + b.states → moves ≡ either_moves a b
    → IsSketch (record { states = all; start = a.start; finish = a.finish; moves = moves })
either_is_sketch a b all moves oa ob n e =
    let ok : IsPlacing (either_place a b) a.states = either_placing a b oa ob in
    let more : List Move = map (moved (either_place a b)) b.moves in
    let s : a.start < a.states = oa.start_in in
    let f : a.finish < a.states = oa.finish_in in
    record {
      start_in = omega arith;
      finish_in = omega arith;
      apart = oa.apart;
      sided = both_sided a b (either_place a b) moves oa ob e;
      each = λ m listed. elim (in_either m a.moves more (let P : List Move → Type 0 = λ x. IsIn m x
          in subst P e listed)) [
            | inl k ↦ let w : IsWithin a.states a.start a.finish m = oa.each m k in
                record {
                  from_in = omega arith;
                  to_in = omega arith;
                  leaves =
                      w.leaves;
                  enters = w.enters;
                }
            | inr k ↦
                let w : (m.from < a.states + b.states) × (m.to < a.states + b.states) =
                second_within (either_place a b) a.states b.states b.moves ok ob.finish_in
                ob.each m k in
                record {
                  from_in = omega arith;
                  to_in = omega arith;
                  leaves = λ q. elim (leaves_far (either_place a b) a.states b.states
                      b.moves ok ob.each
                      m k) [ inl g ↦ absurd (omega arith) | inr g ↦ absurd (oa.apart (sym g ∙ q)) ];
                  enters = λ q. elim (enters_far (either_place a b) a.states b.states
                      b.moves ok ob.each
                      m k) [ inl g ↦ absurd (omega arith) | inr g ↦ absurd (oa.apart (sym q ∙ g)) ];
                }
          ];
    }

join_leaves : (a b : Sketch) (m : Move) → IsSketch a → IsSketch b →
    IsIn m (map (moved (join_place a b)) b.moves) → m.from ≡ b.finish + a.states → ⊥
join_leaves a b m oa ob listed q =
    let p : Place = join_place a b in
    let i : IsImage (moved (join_place a b)) m b.moves =
    in_mapped (moved (join_place a b)) m b.moves listed in
    let w : IsWithin b.states b.start b.finish i.source = ob.each i.source i.listed in
    w.leaves ((placing_apart (join_place a b) a.states b.states (join_placing a b oa ob)).one
    i.source.from b.finish w.from_in ob.finish_in
    (sym (ap (λ z. z.from) i.image) ∙ q ∙ sym (placed-end (join_place a b) ob.apart)))

pub join_is_sketch : (a b : Sketch) (all : ℕ) (moves : List Move) → IsSketch a → IsSketch b →
    all ≡ a.states + b.states → moves ≡ join_moves a b
    → IsSketch (record {
      states = all;
      start = a.start;
      finish =
          b.finish + a.states;
      moves = moves;
    })
join_is_sketch a b all moves oa ob n e =
    let ok : IsPlacing (join_place a b) a.states = join_placing a b oa ob in
    let more : List Move = map (moved (join_place a b)) b.moves in
    let s : a.start < a.states = oa.start_in in
    let f : b.finish < b.states = ob.finish_in in
    record {
      start_in = omega arith;
      finish_in = omega arith;
      apart = λ q. absurd (omega arith);
      sided = both_sided a b (join_place a b) moves oa ob e;
      each = λ m listed. elim (in_either m a.moves more (let P : List Move → Type 0 = λ x. IsIn m x
          in subst P e listed)) [
            | inl k ↦ let w : IsWithin a.states a.start a.finish m = oa.each m k in
                let x : m.from < a.states = w.from_in in let y : m.to < a.states = w.to_in in
                record {
                  from_in = omega arith;
                  to_in = omega arith;
                  leaves = λ q. absurd (omega arith);
                  enters = w.enters;
                }
            | inr k ↦
                let w : (m.from < a.states + b.states) × (m.to < a.states + b.states) =
                second_within (join_place a b) a.states b.states b.moves ok ob.finish_in
                ob.each m k in
                record {
                  from_in = omega arith;
                  to_in = omega arith;
                  leaves = λ q. join_leaves a b m oa ob k q;
                  enters = λ q. elim (enters_far (join_place a b) a.states b.states
                      b.moves ok ob.each m
                      k) [ inl g ↦ absurd (omega arith) | inr g ↦ absurd (omega arith) ];
                }
          ];
    }

-- the same at the values that are seen
pub join_law : (a b x y : Sketch) (moves : List Move) → IsSketch a → IsSketch b →
    moves ≡ join_moves a b → a ≡ x → b ≡ y
    → (w : List Label) → Path moves a.start w (b.finish + a.states) ↔ IsJoined x y w
join_law a b x y moves oa ob e ea eb w =
    let P : Sketch → Type 0 = λ v. Path moves a.start w (b.finish + a.states) ↔ IsJoined v y w in
    let Q : Sketch → Type 0 = λ v. Path moves a.start w (b.finish + a.states) ↔ IsJoined a v w in
    let R : List Move → Type 0 = λ v. Path v a.start w (b.finish + a.states) ↔ IsJoined a b w in
    subst P ea (subst Q eb (subst R (sym e) (joined a b w oa ob, rejoined a b w oa ob)))

pub either_law : (a b x y : Sketch) (moves : List Move) → IsSketch a → IsSketch b →
    moves ≡ either_moves a b → a ≡ x → b ≡ y
    → (w : List Label) → Path moves a.start w a.finish ↔ IsEither x y w
either_law a b x y moves oa ob e ea eb w =
    let P : Sketch → Type 0 = λ v. Path moves a.start w a.finish ↔ IsEither v y w in
    let Q : Sketch → Type 0 = λ v. Path moves a.start w a.finish ↔ IsEither a v w in
    let R : List Move → Type 0 = λ v. Path v a.start w a.finish ↔ IsEither a b w in
    subst P ea (subst Q eb (subst R (sym e) (chosen a b w oa ob, rechosen a b w oa ob)))

-- one move only
abbrev pub single : Option Label → List Move
single label = (let m : Move = record { from = 0; label = label; to = 1 } in m) ∷ []

at_end : (label : Option Label) (s : ℕ) (w : List Label) → s ≡ 1 →
    Path (single label) s w 1 → w ≡ []
at_end label s w one (here e) = refl
at_end label s w one (on m (inl q) at whole rest) = let z : m.from ≡ 0 = ap (λ z. z.from) q in
    absurd (omega arith)
at_end label s w one (on m (inr h) at whole rest) = elim h [ ]

one_move : (label : Option Label) (w : List Label) → Path (single label) 0 w 1 →
    w ≡ option_to_list label
one_move label w (here e) = absurd (omega arith)
one_move label w (on {labels = labels} m (inl q) at whole rest) =
    whole ∙ ap (λ z. option_to_list z.label ++ labels) q
    ∙ ap (λ z. option_to_list label ++ z) (at_end label m.to labels (ap (λ z. z.to) q) rest)
    ∙ append-nil (option_to_list label)
one_move label w (on m (inr h) at whole rest) = elim h [ ]

one_move_back : (label : Option Label) (w : List Label) → w ≡ option_to_list label →
    Path (single label) 0 w 1
one_move_back label w e =
    on (record { from = 0; label = label; to = 1 }) (inl refl) refl
    (e ∙ sym (append-nil (option_to_list label))) (here refl)

pub single_law : (label : Option Label) (before moves : List Move) → before ≡ [] →
    moves ≡ before ++ single label → (w : List Label) →
    Path moves 0 w 1 ↔ (w ≡ option_to_list label)
single_law label before moves none e w =
    let P : List Move → Type 0 = λ x. Path x 0 w 1 ↔ (w ≡ option_to_list label) in
    subst P (sym (e ∙ ap (λ x. x ++ single label) none)) (one_move label w, one_move_back label w)
