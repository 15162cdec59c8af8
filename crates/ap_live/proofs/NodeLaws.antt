-- Nodes are added for the edges that are picked.
use Rattle.std.proofs.Common.{◌≡◌, ◌⊎◌, inl, inr, ℕ, true, false, List, [], ◌∷◌, ◌++◌, refl, sym, ◌∙◌, ap, subst, append_assoc, append-nil, Option, Some, slice_get}
use Rattle.std.proofs.lemmas.Bool.{true≢false}
use Rattle.ap_fst.specs.declared.label.Edge.{Edge}
use Rattle.ap_live.specs.Fitting.{Input, picks}
use Rattle.ap_live.specs.Spreads.{IsPlace, Picked}
use Rattle.ap_live.specs.Trails.{AddsNodes, Grows, node}
use Rattle.ap_live.specs.declared.nodes.Node.{Node}
use Rattle.ap_live.proofs.Spreading.{in_back, in_either, in_front, one_edge}

-- ---- nodes more

pub grows_none : (old : List Node) → Grows old old
grows_none old = ([], sym (append-nil old))

abbrev pub grows_more : (old middle new : List Node) → Grows old middle → Grows middle new → Grows old new
grows_more old middle new (a, e) (b, f) =
    (a ++ b, f ∙ ap (λ (z : List Node). z ++ b) e ∙ append_assoc old a b)

module _ (edges : List Edge) (pick : Option Input) (from back : ℕ) where
  -- none, where no edge that is picked is seen
  pub adds_none : (seen : ℕ → Type 0) (old : List Node) →
      ((s j : ℕ) → Picked edges pick from s j → seen j → ⊥) →
      AddsNodes edges pick from seen back old old
  adds_none seen old none = record {
    more = [];
    grown = sym (append-nil old);
    sound = λ x i. elim i [ ];
    complete = λ s j p q. absurd (none s j p q);
  }

  -- other places are seen, where each of them that is picked was seen
  pub adds_seen : (seen seen' : ℕ → Type 0) (old new : List Node) →
      ((s j : ℕ) → Picked edges pick from s j → seen' j → seen j) →
      AddsNodes edges pick from seen back old new → AddsNodes edges pick from seen' back old new
  adds_seen seen seen' old new was h = record {
    more = h.more;
    grown = h.grown;
    sound = h.sound;
    complete = λ s j p q. h.complete s j p (was s j p q);
  }

  -- at some places, and then at others
  pub adds_two : (seen seen' seen'' : ℕ → Type 0) (old middle new : List Node) →
      ((s j : ℕ) → Picked edges pick from s j → seen'' j → seen j ⊎ seen' j) →
      AddsNodes edges pick from seen back old middle →
      AddsNodes edges pick from seen' back middle new → AddsNodes edges pick from seen'' back old new
  adds_two seen seen' seen'' old middle new either h k = record {
    more = h.more ++ k.more;
    grown = (grows_more old middle new (h.more, h.grown) (k.more, k.grown)).1;
    sound = λ x i. elim (in_either x h.more k.more i) [
      | inl y ↦ h.sound x y
      | inr y ↦ k.sound x y
    ];
    complete = λ s j p any. elim (either s j p any) [
      | inl q ↦ in_front (node s j back) h.more k.more (h.complete s j p q)
      | inr q ↦ in_back (node s j back) h.more k.more (k.complete s j p q)
    ];
  }

  module _ (e : Edge) (place : ℕ) (at : slice_get edges place ≡ Some e)
      (leaves : e.from ≡ from) where
    -- a node for one edge, that is picked
    pub adds_edge : (to : ℕ) (old new : List Node) → e.to ≡ to → picks pick e ≡ true →
        new ≡ old ++ node to place back ∷ [] →
        AddsNodes edges pick from (IsPlace place) back old new
    adds_edge to old new enters good grown = record {
      more = node to place back ∷ [];
      grown = grown;
      sound = λ x i. elim i [
        | inl same ↦
            subst (λ (z : Node). (z.back ≡ back) × Picked edges pick from z.state z.edge) (sym same) (
              refl,
              record {
                edge = e;
                at = at;
                from_is = sym leaves;
                to_is = sym enters;
                passes = good;
              },
            )
        | inr none ↦ elim none [ ]
      ];
      complete = λ s j p same.
          let is : s ≡ to = p.to_is
          ∙ ap (λ (z : Edge). z.to) (one_edge edges pick from s j place p e same at) ∙ enters in
          inl (ap (λ (z : ℕ). node z j back) is ∙ ap (λ (z : ℕ). node to z back) same);
    }

    -- none for one that isn't picked
    pub adds_skip : (old : List Node) → picks pick e ≡ false →
        AddsNodes edges pick from (IsPlace place) back old old
    adds_skip old bad = adds_none (IsPlace place) old
        (λ s j p same. true≢false
        (sym p.passes ∙ ap (picks pick) (one_edge edges pick from s j place p e same at) ∙ bad))
