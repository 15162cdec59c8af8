-- Edges in the order of labels, grouped by label.
use Rattle.std.proofs.Common.{◌≡◌, inl, inr, ℕ, max, ◌+◌, ◌<◌, ◌≤◌, List, [], ◌∷◌, ◌++◌, length, refl, sym, ◌∙◌, ap, subst, arith, append_assoc, append-nil, eqb, Option, Some, None}
use Rattle.std.specs.Prelude.{◌↔◌, slice_get, IsTrue, Bool}
use Rattle.std.specs.List.{dedup}
use Rattle.std.specs.Ordering.{ordering_reverse, is_eq}
use Rattle.std.specs.declared.cmp.Ordering.{Ordering}
use Rattle.std.specs.declared.cmp.Ordering.TheVariants.{Less, Equal, Greater}
use Rattle.std.proofs.lemmas.Bool.{cases_lt}
use Rattle.std.proofs.lemmas.List.Kept.{Contains-dedup_nat, Contains-from_dedup}
use Rattle.std.proofs.lemmas.Option.{none-some, same_Some}
use Rattle.ap_fst.specs.Lists.{IsIn}
use Rattle.ap_fst.specs.Order.{label_cmp}
use Rattle.ap_fst.specs.Removal.{AddsWhere}
use Rattle.ap_fst.specs.declared.label.Label.{Label}
use Rattle.ap_fst.specs.declared.label.Edge.{Edge}
use Rattle.ap_fst.proofs.Listing.{in_either, in_front, in_back, in_contains, contains_in, ascends_push}
use Rattle.ap_fst.proofs.Adding.{adds_one, adds_none}
use Rattle.ap_fst.proofs.OrderLaws.{label_total, label_equal, is_equal}
use Rattle.ap_det.specs.Numbered.{IsNumbered}
use Rattle.ap_det.specs.Exits.{RisesByLabel, HasLabel, IsGroup, LeadsAt, LeadsWithin, LeadsBy, AddsGroup, IsOut, HoldsLabel, LeadsInto, AddsOuts}
use Rattle.ap_det.proofs.Numberings.{numbered_keeps, numbered_fresh}

-- ---- the order of labels

equal_itself : (r : Ordering) → r ≡ ordering_reverse r → r ≡ Equal
equal_itself Less h = cc
equal_itself Equal h = refl
equal_itself Greater h = cc

pub label_itself : (a : Label) → label_cmp a a ≡ Equal
label_itself a = equal_itself (label_cmp a a) (label_total.antisymm a a)

pub not_below_itself : (a b : Label) → label_cmp a b ≡ Less → a ≡ b → ⊥
not_below_itself a b less e = let f : label_cmp a b ≡ Equal = ap (λ z. label_cmp z b) e
    ∙ label_itself b in cc

less_of : (a b : Label) (r s : Ordering) → label_cmp a b ≡ r → r ≡ ordering_reverse s →
    label_cmp b a ≡ s → (s ≡ Less → ⊥) → (a ≡ b → ⊥) → r ≡ Less
less_of a b Less s p rev q fall apart = refl
less_of a b Equal s p rev q fall apart = absurd (apart (label_equal a b p))
less_of a b Greater Less p rev q fall apart = absurd (fall refl)
less_of a b Greater Equal p rev q fall apart = cc
less_of a b Greater Greater p rev q fall apart = cc

-- not above and not equal is below
pub label_less : (a b : Label) → (label_cmp b a ≡ Less → ⊥) → (a ≡ b → ⊥) → label_cmp a b ≡ Less
label_less a b fall apart =
    less_of a b (label_cmp a b) (label_cmp b a) refl (label_total.antisymm a b) refl fall apart

module _ (edge_of : ℕ → Option Edge) where
  -- ---- one edge

  pub label_told : (k : ℕ) (d : Edge) (label : Label) (b : Bool) → edge_of k ≡ Some d →
      b ≡ is_eq (label_cmp d.label label) → IsTrue b ↔ HasLabel edge_of k label
  label_told k d label b at told = (
    λ t. record {
      edge = d;
      at = at;
      label_is =
          label_equal d.label label (is_equal (label_cmp d.label label) (sym told ∙ t));
    },
    λ h. told ∙ ap is_eq (ap (λ (e : Edge). label_cmp e.label label)
        (same_Some d h.edge (sym at ∙ h.at)) ∙ ap (λ z. label_cmp z label) h.label_is
        ∙ label_itself label),
  )

  pub target_added : (k : ℕ) (d : Edge) (old new : List ℕ) → edge_of k ≡ Some d →
      new ≡ old ++ d.to ∷ [] → AddsWhere (LeadsAt edge_of k) old new
  target_added k d old new at e =
      adds_one (LeadsAt edge_of k) old new d.to e (record { edge = d; at = at; to_is = refl })
      (λ x h. h.to_is ∙ ap (λ (z : Edge). z.to) (same_Some h.edge d (sym h.at ∙ at)))

  pub target_none : (k : ℕ) (old : List ℕ) → edge_of k ≡ None →
      AddsWhere (LeadsAt edge_of k) old old
  target_none k old none =
      adds_none (LeadsAt edge_of k) old (λ x h. none-some h.edge (sym none ∙ h.at))

  -- ---- the end of a group

  pub group_begun : (label : Label) (low : ℕ) → (k : ℕ) (d : Edge) → low ≤ k → k < low →
      edge_of k ≡ Some d → d.label ≡ label
  group_begun label low k d le lt at = absurd (omega arith)

  pub group_on : (label : Label) (low high : ℕ) →
      ((k : ℕ) (d : Edge) → low ≤ k → k < high → edge_of k ≡ Some d → d.label ≡ label) →
      HasLabel edge_of high label
      → (k : ℕ) (d : Edge) → low ≤ k → k < high + 1 → edge_of k ≡ Some d → d.label ≡ label
  group_on label low high h has k d le lt at = elim (cases_lt k high) [
    | inl below ↦ h k d le below at
    | inr ge ↦ let same : k ≡ high = omega arith in
        ap (λ (e : Edge). e.label) (same_Some d has.edge (sym at ∙ ap edge_of same ∙ has.at))
        ∙ has.label_is
  ]

  -- ---- the targets of a group

  pub targets_begun : (low : ℕ) (targets : List ℕ) → targets ≡ [] → (t : ℕ) →
      IsIn t targets ↔ LeadsWithin edge_of low low t
  targets_begun low targets none t = (
    λ i. elim (subst (λ (z : List ℕ). IsIn t z) none i) [ ],
    λ k. let a : low ≤ k.number = k.above in let b : k.number < low = k.below in
        absurd (omega arith),
  )

  pub targets_on : (low at : ℕ) (old new : List ℕ) → low ≤ at →
      ((t : ℕ) → IsIn t old ↔ LeadsWithin edge_of low at t) → AddsWhere (LeadsAt edge_of at) old new
      → (t : ℕ) → IsIn t new ↔ LeadsWithin edge_of low (at + 1) t
  targets_on low at old new le h g t = (
    λ i. elim (g.only t i) [
      | inl k ↦ let w : LeadsWithin edge_of low at t = (h t).0 k in let b : w.number < at = w.below
          in record { number = w.number; above = w.above; below = omega arith; leads = w.leads }
      | inr k ↦ record { number = at; above = le; below = omega arith; leads = k }
    ],
    λ w. let b : w.number < at + 1 = w.below in elim (cases_lt w.number at) [
      | inl lt ↦ g.stays t ((h t).1
          (record { number = w.number; above = w.above; below = lt; leads = w.leads }))
      | inr ge ↦ let same : w.number ≡ at = omega arith in
          g.there t (subst (λ (z : ℕ). LeadsAt edge_of z t) same w.leads)
    ],
  )

  pub targets_all : (low high at : ℕ) (targets : List ℕ) → at ≤ max low high → high ≤ at →
      ((t : ℕ) → IsIn t targets ↔ LeadsWithin edge_of low at t) → (t : ℕ) →
      IsIn t targets ↔ LeadsWithin edge_of low high t
  targets_all low high at targets le up h t = (
    λ i. let w : LeadsWithin edge_of low at t = (h t).0 i in let a : low ≤ w.number = w.above in
        let b : w.number < at = w.below in
        record { number = w.number; above = w.above; below = omega arith; leads = w.leads },
    λ w. let b : w.number < high = w.below in
        (h t).1 (record {
          number = w.number;
          above = w.above;
          below =
              omega arith;
          leads = w.leads;
        }),
  )

  pub targets_once : (low high : ℕ) (old new : List ℕ) → new ≡ dedup eqb old →
      ((t : ℕ) → IsIn t old ↔ LeadsWithin edge_of low high t) → (t : ℕ) →
      IsIn t new ↔ LeadsWithin edge_of low high t
  targets_once low high old new e h t = (
    λ i. (h t).0 (contains_in t old
        (Contains-from_dedup eqb old t
        (in_contains t (dedup eqb old) (subst (λ (z : List ℕ). IsIn t z) e i)))),
    λ w. subst (λ (z : List ℕ). IsIn t z) (sym e)
        (contains_in t (dedup eqb old) (Contains-dedup_nat old t (in_contains t old ((h t).1 w)))),
  )

  -- ---- a group

  group_rises : (label : Label) (low high : ℕ) (first : Edge) → IsGroup edge_of label low high →
      edge_of low ≡ Some first → first.label ≡ label → low < high
  group_rises label low high first g at is = elim (cases_lt low high) [
    | inl lt ↦ lt
    | inr ge ↦ let le : low ≤ high = g.rises in let same : low ≡ high = omega arith in
        absurd (g.other (record { edge = first; at = sym (ap edge_of same) ∙ at; label_is = is }))
  ]

  some_of : (o : Option Edge) → (o ≡ None → ⊥) → (e : Edge) × (o ≡ Some e)
  some_of None h = absurd (h refl)
  some_of (Some e) h = (e, refl)

  -- an edge with the label behind the end: the one at the end would have it too
  beyond : (low high bound k : ℕ) (first d : Edge) → RisesByLabel edge_of → edge_of low ≡ Some first
      → IsGroup edge_of first.label low high → ((i : ℕ) (e : Edge) → edge_of i ≡ Some e → i < bound)
      → ((i : ℕ) → i < bound → edge_of i ≡ None → ⊥)
      → high ≤ k → edge_of k ≡ Some d → first.label ≡ d.label → ⊥
  beyond low high bound k first d rises at g within there le here e =
      let lt : k < bound = within k d here in
      let up : low ≤ high = g.rises in
      let (h, at_h) = some_of (edge_of high) (there high (omega arith)) in
      let less : label_cmp first.label h.label ≡ Less =
      label_less first.label h.label (λ l. rises.no_fall low high first h up at at_h l)
      (λ f. g.other (record { edge = h; at = at_h; label_is = sym f })) in
      rises.no_fall high k h d le at_h here (ap (λ z. label_cmp z h.label) (sym e) ∙ less)

  pub group_added : (from low high number bound : ℕ) (first : Edge) (label : Label)
      (old_sets sets : List (List ℕ)) (targets : List ℕ) (edge : Edge) (old new : List Edge) →
      RisesByLabel edge_of
      → ((i : ℕ) (e : Edge) → edge_of i ≡ Some e → i < bound) →
      ((i : ℕ) → i < bound → edge_of i ≡ None → ⊥) → edge_of low ≡ Some first
      → IsGroup edge_of first.label low high →
      ((t : ℕ) → IsIn t targets ↔ LeadsWithin edge_of low high t) →
      IsNumbered old_sets sets targets number → label ≡ first.label
      → edge.from ≡ from → edge.label ≡ label → edge.to ≡ number → new ≡ old ++ edge ∷ [] →
      AddsGroup edge_of from low high old_sets sets old new
  group_added from low high number bound first label old_sets sets targets edge old new rises within
      there at g exactly n copied from_is label_is to_is grown =
      let own : edge.label ≡ first.label = label_is ∙ copied in
      let up : low < high = group_rises first.label low high first g at refl in
      record {
        edge = edge;
        grown = grown;
        from_is = from_is;
        rises = up;
        first = record { edge = first; at = at; label_is = sym own };
        same = λ k d le lt here. g.same k d le lt here ∙ sym own;
        after = λ k d le here.
            subst (λ (z : Label). label_cmp z d.label ≡ Less) (sym own)
            (label_less first.label d.label
            (λ less. rises.no_fall low k first d (omega arith) at here less)
            (λ e. beyond low high bound k first d rises at g within there le here e));
        target = targets;
        target_at = ap (slice_get sets) to_is ∙ n.at;
        exactly = exactly;
        keeps = numbered_keeps old_sets sets targets number n;
        fresh = λ i ge lt. numbered_fresh old_sets sets targets number n i ge lt ∙ sym to_is;
      }

  -- ---- all groups

  pub outs_begun : (from : ℕ) (sets : List (List ℕ)) (made : List Edge) →
      AddsOuts edge_of from 0 sets sets made made
  outs_begun from sets made = record {
    outs = [];
    grown = sym (append-nil made);
    from_is = λ e i. elim i [ ];
    sound = λ e i. elim i [ ];
    all = λ k d lt at. absurd (omega arith);
    ascend = tt;
    below = λ e k d i le at. elim i [ ];
    keeps = λ i set h. h;
    entered = λ i ge lt. absurd (omega arith);
  }

  module _ (from low high : ℕ) (first_sets old_sets sets : List (List ℕ))
      (first_made old new : List Edge)
      (o : AddsOuts edge_of from low first_sets old_sets first_made old)
      (g : AddsGroup edge_of from low high old_sets sets old new) where
    -- the label of the group is above those before
    above : (e : Edge) → IsIn e o.outs → label_cmp e.label g.edge.label ≡ Less
    above e i = subst (λ (z : Label). label_cmp e.label z ≡ Less) g.first.label_is
        (o.below e low g.first.edge i (omega arith) g.first.at)

    exact : (t : ℕ) → IsIn t g.target ↔ LeadsBy edge_of g.edge.label t
    exact t = (
      λ i. let w : LeadsWithin edge_of low high t = (g.exactly t).0 i in
          record {
            number = w.number;
            edge = w.leads.edge;
            at = w.leads.at;
            label_is =
                g.same w.number w.leads.edge w.above w.below w.leads.at;
            to_is = w.leads.to_is;
          },
      λ w. elim (cases_lt w.number low) [
        | inl before ↦
            let h : HoldsLabel o.outs w.edge.label = o.all w.number w.edge before w.at in
            absurd (not_below_itself h.edge.label g.edge.label (above h.edge h.listed)
            (h.label_is ∙ w.label_is))
        | inr from_low ↦ elim (cases_lt w.number high) [
          | inl before_high ↦ (g.exactly t).1
              (record {
                number = w.number;
                above = from_low;
                below = before_high;
                leads =
                    record { edge = w.edge; at = w.at; to_is = w.to_is };
              })
          | inr behind ↦ absurd (not_below_itself g.edge.label w.edge.label
              (g.after w.number w.edge behind w.at) (sym w.label_is))
        ]
      ],
    )

    own_out : IsOut edge_of sets g.edge
    own_out = record {
      some = record { number = low; holds = g.first };
      target =
          g.target;
      target_at = g.target_at;
      exactly = exact;
    }

    old_out : (e : Edge) → IsOut edge_of old_sets e → IsOut edge_of sets e
    old_out e h = record {
      some = h.some;
      target = h.target;
      target_at =
          g.keeps e.to h.target h.target_at;
      exactly = h.exactly;
    }

    last_is : (e : Edge) (P : Edge → Type 0) → IsIn e (g.edge ∷ []) → P g.edge → P e
    last_is e P (inl same) p = subst P (sym same) p
    last_is e P (inr none) p = elim none [ ]

    pub outs_on : AddsOuts edge_of from high first_sets sets first_made new
    outs_on = record {
      outs = o.outs ++ g.edge ∷ [];
      grown = g.grown ∙ ap (λ z. z ++ g.edge ∷ []) o.grown
          ∙ append_assoc first_made o.outs (g.edge ∷ []);
      from_is = λ e i. elim (in_either e o.outs (g.edge ∷ []) i) [
        | inl k ↦ o.from_is e k
        | inr k ↦
            last_is e (λ x. x.from ≡ from) k g.from_is
      ];
      sound = λ e i. elim (in_either e o.outs (g.edge ∷ []) i) [
        | inl k ↦ old_out e (o.sound e k)
        | inr k ↦ last_is e (λ x. IsOut edge_of sets x) k own_out
      ];
      all = λ k d lt at. elim (cases_lt k low) [
        | inl before ↦ let h : HoldsLabel o.outs d.label = o.all k d before at in
            record {
              edge = h.edge;
              listed = in_front h.edge o.outs (g.edge ∷ []) h.listed;
              label_is = h.label_is;
            }
        | inr from_low ↦ record {
          edge = g.edge;
          listed =
              in_back g.edge o.outs (g.edge ∷ []) (inl refl);
          label_is =
              sym (g.same k d from_low lt at);
        }
      ];
      ascend = ascends_push (λ a b. label_cmp a.label b.label) o.outs g.edge o.ascend above;
      below = λ e k d i le at. elim (in_either e o.outs (g.edge ∷ []) i) [
        | inl j ↦ let up : low < high = g.rises in o.below e k d j (omega arith) at
        | inr j ↦ last_is e (λ x. label_cmp x.label d.label ≡ Less) j (g.after k d le at)
      ];
      keeps = λ i set h. g.keeps i set (o.keeps i set h);
      entered = λ i ge lt. elim (cases_lt i (length old_sets)) [
        | inl before ↦ let e : LeadsInto o.outs i = o.entered i ge before in
            record {
              edge = e.edge;
              listed = in_front e.edge o.outs (g.edge ∷ []) e.listed;
              to_is = e.to_is;
            }
        | inr behind ↦ record {
          edge = g.edge;
          listed =
              in_back g.edge o.outs (g.edge ∷ []) (inl refl);
          to_is = sym (g.fresh i behind lt);
        }
      ];
    }
