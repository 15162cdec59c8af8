-- Pairs and sets that become more, and the edges that are added meanwhile.
use Rattle.std.proofs.Common.{◌≡◌, inl, inr, ℕ, ◌<◌, zero, suc, List, [], ◌∷◌, ◌++◌, length, refl, sym, ◌∙◌, ap, subst, arith, append_assoc, append-nil, Some}
use Rattle.std.specs.Prelude.{slice_get, option_map}
use Rattle.std.specs.Option.{option_to_list}
use Rattle.std.proofs.lemmas.Bool.{cases_lt}
use Rattle.std.proofs.lemmas.Option.{same_Some, slice_get_within}
use Rattle.ap_symbol.specs.declared.symbol.Symbol.{Symbol}
use Rattle.ap_fst.specs.Lists.{IsIn}
use Rattle.ap_fst.specs.Machines.{Machine}
use Rattle.ap_fst.specs.declared.label.Edge.{Edge}
use Rattle.ap_trim.specs.Numbers.{Keeps}
use Rattle.ap_trim.specs.Products.{HasSight, GoesOn, IsTarget, Follow, AddsOuts}
use Rattle.ap_trim.specs.Stepping.{BeginsWith, IsGoodSight}
use Rattle.ap_trim.specs.Watching.{Sight, lemma, tags, sight_of}
use Rattle.ap_trim.specs.declared.pairs.Pair.{Pair}
use Rattle.ap_trim.specs.declared.watch.Watch.{Watch}
use Rattle.ap_trim.specs.declared.watch.Watch.TheVariants as watch
use Rattle.ap_trim.proofs.Steps.{IsMapped, mapped}

pub keeps_same : {X : Type 0} (xs : List X) → Keeps xs xs
keeps_same xs i x h = h

pub keeps_then : {X : Type 0} (xs ys zs : List X) → Keeps xs ys → Keeps ys zs → Keeps xs zs
keeps_then xs ys zs f g i x h = g i x (f i x h)

pub there : {X : Type 0} (xs : List X) (i : ℕ) → i < length xs → (x : X) × (slice_get xs i ≡ Some x)
there [] i lt = absurd (omega arith)
there (x ∷ xs) zero lt = (x, refl)
there (x ∷ xs) (suc i) lt = there xs i (omega arith)

set_keeps : (f : List ℕ → Sight) (old new : List (List ℕ)) (n : ℕ) (s : Sight) → Keeps old new →
    option_map f (slice_get old n) ≡ Some s → option_map f (slice_get new n) ≡ Some s
set_keeps f old new n s k h =
    let p : IsMapped f (slice_get old n) s = mapped f (slice_get old n) s h in
    ap (option_map f) (k n p.source p.source_is) ∙ ap Some (sym p.image)

pub sight_keeps : (old new : List (List ℕ)) (w : Watch) (s : Sight) → Keeps old new →
    sight_of old w ≡ Some s → sight_of new w ≡ Some s
sight_keeps old new watch.Kept s k h = h
sight_keeps old new (watch.Lemma n) s k h = set_keeps lemma old new n s k h
sight_keeps old new (watch.Tags n) s k h = set_keeps tags old new n s k h

pub has_keeps : (old new : List (List ℕ)) (w : Watch) → Keeps old new → HasSight old w →
    HasSight new w
has_keeps old new w k h = record { sight = h.sight; at = sight_keeps old new w h.sight k h.at }

pub good_keeps : (b : Machine) (old new : List (List ℕ)) (w : Watch) → Keeps old new →
    IsGoodSight b old w → IsGoodSight b new w
good_keeps b old new w k h = record {
  sight = h.sight;
  at = sight_keeps old new w h.sight k h.at;
  good = h.good;
}

pub begins_keeps : (b : Machine) (old new : List (List ℕ)) (w : Watch) → Keeps old new →
    BeginsWith b old w → BeginsWith b new w
begins_keeps b old new w k h = record {
  sight = h.sight;
  at = sight_keeps old new w h.sight k h.at;
  sees = h.sees;
}

goes_keeps : (b : Machine) (old new : List (List ℕ)) (v w : Watch) (side : List Symbol) →
    Keeps old new → GoesOn b old v w side → GoesOn b new v w side
goes_keeps b old new v w side k h = record {
  old = h.old;
  old_at =
      sight_keeps old new v h.old k h.old_at;
  new = h.new;
  new_at =
      sight_keeps old new w h.new k h.new_at;
  sees = h.sees;
}

pub target_keeps : (b : Machine) (old_sets sets : List (List ℕ)) (old_pairs pairs : List Pair)
    (w : Watch) (exit e : Edge) → Keeps old_sets sets → Keeps old_pairs pairs →
    IsTarget b old_sets old_pairs w exit e → IsTarget b sets pairs w exit e
target_keeps b old_sets sets old_pairs pairs w exit e k j h = record {
  label_is = h.label_is;
  target = h.target;
  target_at = j e.to h.target h.target_at;
  state_is = h.state_is;
  goes = goes_keeps b old_sets sets w h.target.watch (option_to_list exit.label.right) k h.goes;
}

module _ (b : Machine) (w : Watch) (n : ℕ) where
  follow_keeps : (old_sets sets : List (List ℕ)) (old_pairs pairs : List Pair)
      (exits outs : List Edge) → Keeps old_sets sets → Keeps old_pairs pairs →
      Follow b old_sets old_pairs w n exits outs → Follow b sets pairs w n exits outs
  follow_keeps old_sets sets old_pairs pairs [] [] k j f = tt
  follow_keeps old_sets sets old_pairs pairs [] (e ∷ outs) k j f = absurd f
  follow_keeps old_sets sets old_pairs pairs (x ∷ exits) [] k j f = absurd f
  follow_keeps old_sets sets old_pairs pairs (x ∷ exits) (e ∷ outs) k j f = (
    (f.0.0, target_keeps b old_sets sets old_pairs pairs w x e k j f.0.1),
    follow_keeps old_sets sets old_pairs pairs exits outs k j f.1,
  )

  module _ (sets : List (List ℕ)) (pairs : List Pair) where
    follow_append : (exits more outs others : List Edge) → Follow b sets pairs w n exits outs →
        Follow b sets pairs w n more others → Follow b sets pairs w n (exits ++ more)
        (outs ++ others)
    follow_append [] more [] others f g = g
    follow_append [] more (e ∷ outs) others f g = absurd f
    follow_append (x ∷ exits) more [] others f g = absurd f
    follow_append (x ∷ exits) more (e ∷ outs) others f g =
        (f.0, follow_append exits more outs others f.1 g)

    -- an edge that was added comes of one of these edges
    pub record IsFollowed (exits : List Edge) (e : Edge) : Type 0 where
      pub exit : Edge
      pub listed : IsIn exit exits
      pub from_is : e.from ≡ n
      pub target : IsTarget b sets pairs w exit e

    pub follow_in : (exits outs : List Edge) (e : Edge) → Follow b sets pairs w n exits outs →
        IsIn e outs → IsFollowed exits e
    follow_in [] [] e f i = elim i [ ]
    follow_in [] (y ∷ outs) e f i = absurd f
    follow_in (x ∷ exits) [] e f i = absurd f
    follow_in (x ∷ exits) (y ∷ outs) e f (inl q) = record {
      exit = x;
      listed = inl refl;
      from_is = ap (λ (z : Edge). z.from) q ∙ f.0.0;
      target = subst (λ (z : Edge). IsTarget b sets pairs w x z) (sym q) f.0.1;
    }
    follow_in (x ∷ exits) (y ∷ outs) e f (inr i) = let r : IsFollowed exits e =
        follow_in exits outs e f.1 i in record {
          exit = r.exit;
          listed = inr r.listed;
          from_is =
              r.from_is;
          target = r.target;
        }

    -- and each of these edges has one
    pub record HasOut (outs : List Edge) (exit : Edge) : Type 0 where
      pub edge : Edge
      pub listed : IsIn edge outs
      pub from_is : edge.from ≡ n
      pub target : IsTarget b sets pairs w exit edge

    pub follow_each : (exits outs : List Edge) (exit : Edge) → Follow b sets pairs w n exits outs →
        IsIn exit exits → HasOut outs exit
    follow_each [] [] exit f i = elim i [ ]
    follow_each [] (y ∷ outs) exit f i = elim i [ ]
    follow_each (x ∷ exits) [] exit f i = absurd f
    follow_each (x ∷ exits) (y ∷ outs) exit f (inl q) =
        record {
          edge = y;
          listed = inl refl;
          from_is = f.0.0;
          target =
              subst (λ (z : Edge). IsTarget b sets pairs w z y) (sym q) f.0.1;
        }
    follow_each (x ∷ exits) (y ∷ outs) exit f (inr i) = let r : HasOut outs exit =
        follow_each exits outs exit f.1 i in record {
          edge = r.edge;
          listed = inr r.listed;
          from_is = r.from_is;
          target = r.target;
        }

  -- ---- what is added

  pub outs_begun : (sets : List (List ℕ)) (pairs : List Pair) (edges : List Edge) →
      AddsOuts b w n [] sets sets pairs pairs edges edges
  outs_begun sets pairs edges = record {
    outs = [];
    grown = sym (append-nil edges);
    follow = tt;
    keeps_sets = keeps_same sets;
    keeps_pairs = keeps_same pairs;
    sights = λ i pair le at. let lt : i < length pairs = slice_get_within pairs i pair at in
        absurd (omega (arith, le, lt));
  }

  module _ (sets_a sets_b sets_c : List (List ℕ)) (pairs_a pairs_b pairs_c : List Pair)
      (edges_a edges_b edges_c : List Edge) where
    pub outs_then : (exits more both : List Edge) → both ≡ exits ++ more →
        AddsOuts b w n exits sets_a sets_b pairs_a pairs_b edges_a edges_b →
        AddsOuts b w n more sets_b sets_c pairs_b pairs_c edges_b edges_c
        → AddsOuts b w n both sets_a sets_c pairs_a pairs_c edges_a edges_c
    outs_then exits more both e f g = record {
      outs = f.outs ++ g.outs;
      grown = g.grown ∙ ap (λ (z : List Edge). z ++ g.outs) f.grown ∙
          append_assoc edges_a f.outs g.outs;
      follow = subst (λ (z : List Edge). Follow b sets_c pairs_c w n z (f.outs ++ g.outs)) (sym e)
          (follow_append sets_c pairs_c exits more f.outs g.outs
          (follow_keeps sets_b sets_c pairs_b pairs_c exits f.outs g.keeps_sets g.keeps_pairs
          f.follow) g.follow);
      keeps_sets = keeps_then sets_a sets_b sets_c f.keeps_sets g.keeps_sets;
      keeps_pairs = keeps_then pairs_a pairs_b pairs_c f.keeps_pairs g.keeps_pairs;
      sights = λ i pair le at. elim (cases_lt i (length pairs_b)) [
        | inl lt ↦
            let (q, there_at) = there pairs_b i lt in
            let same : q ≡ pair = same_Some q pair (sym (g.keeps_pairs i q there_at) ∙ at) in
            has_keeps sets_b sets_c pair.watch g.keeps_sets
            (f.sights i pair le (there_at ∙ ap Some same))
        | inr ge ↦ g.sights i pair ge at
      ];
    }
