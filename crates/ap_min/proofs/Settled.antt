-- States from which no cycle is reached, grouped from the ends inwards.
use Rattle.std.proofs.Common.{◌≡◌, ℕ, ◌+◌, ◌<◌, ◌≤◌, zero, suc, List, [], ◌∷◌, Some, length, get_or, set, take, refl, sym, ap, subst, ◌∙◌, arith, inl, inr, slice_get, All, option_map, cond}
use Rattle.std.proofs.lemmas.Bool.{cases_eq}
use Rattle.std.proofs.lemmas.Option.{none-some, same_Some, slice_get_within, slice_get-get_or}
use Rattle.std.proofs.lemmas.List.{take_all, length_push, length-set, get_or-set_same, get_or-set_other}
use Rattle.std.proofs.lemmas.List.Elements.{All-head, All-tail, All-weaker, All-nil, All-cons, All-more}
use Rattle.ap_fst.proofs.Listing.{in_from_place}
use Rattle.ap_min.specs.declared.rows.Arc.{Arc}
use Rattle.ap_min.specs.declared.rows.Row.{Row}
use Rattle.ap_min.specs.Numbering.{AreApart, Numbers}
use Rattle.ap_min.specs.Automaton.{seen, IsClosed, HaveOneRow, IsCoarse}
use Rattle.ap_min.specs.Rows.{step_in, arcs_at, final_at, key_at, flat, automaton_of, AreRows}
use Rattle.ap_min.specs.Settled.{IsOpen, LeadHome, LeadBelow, AreSettled, IsFull}
use Rattle.ap_min.proofs.Alike.{option_cases, seen-some, seen-none}
use Rattle.ap_min.proofs.Keyed.{key-from_row_of, closed-from_rows, ascending-at, low-at}
use Rattle.ap_min.proofs.Exploring.{numbers_keep}
use Rattle.ap_min.proofs.RoundStep.{arcs_at-get_or}
use Rattle.ap_min.proofs.RowLaws.{HasArc, arc_of_step, step_of_arc, all_in}

flat_other : (groups : List ℕ) (i g : ℕ) (arcs : List Arc) → get_or groups i 0 ≡ 0 →
    LeadHome groups arcs → flat (set groups i g) arcs ≡ flat groups arcs
flat_other groups i g [] z h = refl
flat_other groups i g (arc ∷ arcs) z h =
    let home : 0 < get_or groups arc.to 0 =
    All-head (λ arc. 0 < get_or groups arc.to 0) arc arcs h in
    let same : get_or (set groups i g) arc.to 0 ≡ get_or groups arc.to 0 =
    get_or-set_other groups i arc.to g 0
    (λ e. let f : get_or groups arc.to 0 ≡ 0 = ap (λ v. get_or groups v 0) e ∙ z in omega arith) in
    ap (λ v. arc.label ∷ v ∷ flat (set groups i g) arcs) same
    ∙ ap (λ v. arc.label ∷ get_or groups arc.to 0 ∷ v)
    (flat_other groups i g arcs z (All-tail (λ arc. 0 < get_or groups arc.to 0) arc arcs h))

-- what holds of the groups that one list of arcs leads to holds of those of another with one list of
-- labels and groups
from_flat : (P : ℕ → Type 0) (groups : List ℕ) (xs ys : List Arc) →
    flat groups xs ≡ flat groups ys → All (λ arc. P (get_or groups arc.to 0)) ys →
    All (λ arc. P (get_or groups arc.to 0)) xs
from_flat P groups [] ys e h = All-nil (λ arc. P (get_or groups arc.to 0))
from_flat P groups (x ∷ xs) [] e h = cc
from_flat P groups (x ∷ xs) (y ∷ ys) e h =
    let one : get_or groups y.to 0 ≡ get_or groups x.to 0 = cc in
    let rest : flat groups xs ≡ flat groups ys = cc in
    All-cons (λ arc. P (get_or groups arc.to 0)) x xs
    (subst P one (All-head (λ arc. P (get_or groups arc.to 0)) y ys h))
    (from_flat P groups xs ys rest (All-tail (λ arc. P (get_or groups arc.to 0)) y ys h))

flat_of_key : (groups : List ℕ) (rows : List Row) (s t : ℕ) →
    key_at groups rows s ≡ key_at groups rows t →
    flat groups (arcs_at rows s) ≡ flat groups (arcs_at rows t)
flat_of_key groups rows s t h = cc

home_of_below : (groups : List ℕ) (g : ℕ) (arcs : List Arc) → LeadBelow groups g arcs →
    LeadHome groups arcs
home_of_below groups g arcs h =
    All-weaker (λ arc. (0 < get_or groups arc.to 0) × (get_or groups arc.to 0 < g))
    (λ arc. 0 < get_or groups arc.to 0) (λ arc p. p.0) arcs h

key_other : (rows : List Row) (groups : List ℕ) (i g s : ℕ) → get_or groups i 0 ≡ 0 →
    LeadHome groups (arcs_at rows s) → key_at (set groups i g) rows s ≡ key_at groups rows s
key_other rows groups i g s z h =
    ap (λ f. cond (final_at rows s) 1 0 ∷ f) (flat_other groups i g (arcs_at rows s) z h)

below_other : (groups : List ℕ) (i g b : ℕ) (arcs : List Arc) → get_or groups i 0 ≡ 0 →
    LeadBelow groups b arcs → LeadBelow (set groups i g) b arcs
below_other groups i g b arcs z h =
    All-weaker (λ arc. (0 < get_or groups arc.to 0) × (get_or groups arc.to 0 < b))
    (λ arc. (0 < get_or (set groups i g) arc.to 0) × (get_or (set groups i g) arc.to 0 < b))
    (λ arc p. let home = p.0 in
    subst (λ v. (0 < v) × (v < b))
    (sym (get_or-set_other groups i arc.to g 0
    (λ e. let f : get_or groups arc.to 0 ≡ 0 = ap (λ v. get_or groups v 0) e ∙ z in omega arith))) p)
    arcs h

-- ---- an arc more

pub open_at : (groups : List ℕ) (items arcs : List Arc) (k : ℕ) (d : Arc) → items ≡ arcs →
    k < length items → get_or groups (get_or items k d).to 0 ≡ 0 → IsOpen groups arcs
open_at groups items arcs k d e lt z =
    subst (λ (xs : List Arc). IsOpen groups xs) e (record {
      arc = get_or items k d;
      listed = in_from_place items k (get_or items k d) (slice_get-get_or items k d lt);
      is = z;
    })

pub home_more : (groups : List ℕ) (items arcs : List Arc) (k : ℕ) (d : Arc) → items ≡ arcs →
    k < length items → 0 < get_or groups (get_or items k d).to 0 →
    LeadHome groups (take k arcs) → LeadHome groups (take (k + 1) arcs)
home_more groups items arcs k d e lt up h =
    All-more (λ arc. 0 < get_or groups arc.to 0) arcs k d
    (subst (λ (xs : List Arc). k < length xs) e lt) h
    (subst (λ (xs : List Arc). 0 < get_or groups (get_or xs k d).to 0) e up)

pub home_all : (groups : List ℕ) (items arcs : List Arc) (k : ℕ) → items ≡ arcs →
    length items ≤ k → LeadHome groups (take k arcs) → LeadHome groups arcs
home_all groups items arcs k e le h =
    subst (λ (xs : List Arc). LeadHome groups xs)
    (take_all k arcs (subst (λ (xs : List Arc). length xs ≤ k) e le)) h

-- the arcs of the row at a place are those of its state
pub row_arcs : (P : List Arc → Type 0) (rows : List Row) (s : ℕ) (row : Row) → s < length rows →
    row ≡ get_or rows s row → P row.arcs.items → P (arcs_at rows s)
row_arcs P rows s row in-s is h =
    subst P (ap (λ (r : Row). r.arcs.items) is ∙ sym (arcs_at-get_or rows s row in-s)) h

pub zero_at : (groups : List ℕ) (s r : ℕ) → r ≡ get_or groups s r → r ≤ 0 → get_or groups s 0 ≡ 0
zero_at groups s r h le =
    let z : r ≡ 0 = omega arith in
    sym (subst (λ v. v ≡ get_or groups s v) z h)

-- ---- none at first

-- ---- one state more

module _ (rows : List Row) (good : AreRows rows (length rows)) (keys keys' : List (List ℕ))
    (groups : List ℕ) (s g : ℕ) (key : List ℕ) (so : AreSettled rows keys groups)
    (in-s : s < length rows) (z : get_or groups s 0 ≡ 0)
    (home : LeadHome groups (arcs_at rows s)) (n : Numbers keys keys' key g)
    (apart : AreApart keys') (is : key ≡ key_at groups rows s) where
  rest_stays : slice_get keys' 0 ≡ Some []
  rest_stays = numbers_keep keys keys' key g n 0 [] so.rest

  above : 0 < g
  above = elim (cases_eq g 0) [
    | inl e ↦
        let one : Some key ≡ Some [] =
        sym n.at ∙ ap (slice_get keys') e ∙ rest_stays in
        let two : key ≡ [] = same_Some key [] one in
        absurd (cc)
    | inr ne ↦ omega arith
  ]

  below : LeadBelow groups g (arcs_at rows s)
  below = elim n.grew [
    | inl e ↦
        let at : slice_get keys g ≡ Some key =
        subst (λ ks. slice_get ks g ≡ Some key) e n.at in
        let o : (t : ℕ) × (t < length rows) × (get_or groups t 0 ≡ g) =
        so.owned g above (slice_get_within keys g key at) in
        let t : ℕ = o.0 in
        let f : get_or groups t 0 ≡ g = o.2 in
        let pos : 0 < get_or groups t 0 = subst (λ v. 0 < v) (sym f) above in
        let same : key_at groups rows s ≡ key_at groups rows t =
        sym is ∙ same_Some key (key_at groups rows t)
        (sym at ∙ ap (slice_get keys) (sym f) ∙ so.held t o.1 pos) in
        from_flat (λ v. (0 < v) × (v < g)) groups (arcs_at rows s) (arcs_at rows t)
        (flat_of_key groups rows s t same)
        (subst (λ v. LeadBelow groups v (arcs_at rows t)) f (so.falls t o.1 pos))
    | inr e ↦ λ k d in-k.
        let arc : Arc = get_or (arcs_at rows s) k d in
        let pos : 0 < get_or groups arc.to 0 = home k d in-k in
        let low : arc.to < length rows = low-at rows (length rows) s good k d in-k in
        let lt : get_or groups arc.to 0 < length keys =
        slice_get_within keys (get_or groups arc.to 0) (key_at groups rows arc.to)
        (so.held arc.to low pos) in
        let last : g ≡ length keys = e.0 in
        (pos, omega arith)
  ]

  pub settle_more : AreSettled rows keys' (set groups s g)
  settle_more =
      let long = so.long in
      let same : get_or (set groups s g) s 0 ≡ g = get_or-set_same groups s g 0 (omega arith) in
      record {
        long = length-set groups s g ∙ long;
        apart = apart;
        rest = rest_stays;
        held = λ t in-t pos. elim (cases_eq t s) [
          | inl e ↦ subst (λ v. slice_get keys' (get_or (set groups s g) v 0)
              ≡ Some (key_at (set groups s g) rows v)) (sym e)
              (ap (slice_get keys') same ∙ n.at
              ∙ ap Some (is ∙ sym (key_other rows groups s g s z home)))
          | inr ne ↦
              let other : get_or (set groups s g) t 0 ≡ get_or groups t 0 =
              get_or-set_other groups s t g 0 ne in
              let was : 0 < get_or groups t 0 = subst (λ v. 0 < v) other pos in
              ap (slice_get keys') other
              ∙ numbers_keep keys keys' key g n (get_or groups t 0) (key_at groups rows t)
              (so.held t in-t was)
              ∙ ap Some (sym (key_other rows groups s g t z
              (home_of_below groups (get_or groups t 0) (arcs_at rows t) (so.falls t in-t was))))
        ];
        falls = λ t in-t pos. elim (cases_eq t s) [
          | inl e ↦ subst (λ v. LeadBelow (set groups s g) (get_or (set groups s g) v 0)
              (arcs_at rows v)) (sym e)
              (subst (λ v. LeadBelow (set groups s g) v (arcs_at rows s)) (sym same)
              (below_other groups s g g (arcs_at rows s) z below))
          | inr ne ↦
              let other : get_or (set groups s g) t 0 ≡ get_or groups t 0 =
              get_or-set_other groups s t g 0 ne in
              let was : 0 < get_or groups t 0 = subst (λ v. 0 < v) other pos in
              subst (λ v. LeadBelow (set groups s g) v (arcs_at rows t)) (sym other)
              (below_other groups s g (get_or groups t 0) (arcs_at rows t) z
              (so.falls t in-t was))
        ];
        owned = λ h pos lt. elim (cases_eq h g) [
          | inl e ↦ (s, in-s, same ∙ sym e)
          | inr ne ↦
              let low : h < length keys = elim n.grew [
                | inl e ↦ subst (λ ks. h < length ks) e lt
                | inr e ↦
                    let more : length keys' ≡ length keys + 1 =
                    ap length e.1 ∙ length_push keys key in
                    let last : g ≡ length keys = e.0 in omega arith
              ] in
              let o : (t : ℕ) × (t < length rows) × (get_or groups t 0 ≡ h) =
              so.owned h pos low in
              let f : get_or groups o.0 0 ≡ h = o.2 in (
                o.0,
                o.1,
                get_or-set_other groups s o.0 g 0
                    (λ e. let r : h ≡ 0 = sym f ∙ ap (λ v. get_or groups v 0) e ∙ z in omega arith)
                    ∙ f,
              )
        ];
      }

-- ---- all of them

module _ (rows : List Row) (pos : 0 < length rows) (good : AreRows rows (length rows))
    (keys : List (List ℕ)) (groups : List ℕ) (so : AreSettled rows keys groups)
    (full : IsFull rows groups) where
  closed : IsClosed (automaton_of rows)
  closed = closed-from_rows rows pos good

  one_key : (s t : ℕ) → HaveOneRow (automaton_of rows) groups s t →
      key_at groups rows s ≡ key_at groups rows t
  one_key s t row = key-from_row_of rows (length rows) groups s t good row

  one_settled : (s t : ℕ) → s < length rows → t < length rows → 0 < get_or groups s 0 →
      0 < get_or groups t 0 → HaveOneRow (automaton_of rows) groups s t →
      get_or groups s 0 ≡ get_or groups t 0
  one_settled s t in-s in-t up-s up-t row =
      so.apart.apart (get_or groups s 0) (get_or groups t 0) (key_at groups rows s)
      (so.held s in-s up-s) (so.held t in-t up-t ∙ ap Some (sym (one_key s t row)))

  never_one : (s t : ℕ) → s < length rows → t < length rows → 0 < get_or groups s 0 →
      get_or groups t 0 ≡ 0 → HaveOneRow (automaton_of rows) groups s t → ⊥
  never_one s t in-s in-t up z row =
      let o : IsOpen groups (arcs_at rows t) = full t in-t z in
      let h : LeadHome groups (arcs_at rows t) =
      from_flat (λ v. 0 < v) groups (arcs_at rows t) (arcs_at rows s)
      (sym (flat_of_key groups rows s t (one_key s t row)))
      (home_of_below groups (get_or groups s 0) (arcs_at rows s) (so.falls s in-s up)) in
      let low : 0 < get_or groups o.arc.to 0 =
      all_in (λ arc. 0 < get_or groups arc.to 0) (arcs_at rows t) h o.arc o.listed in
      let is : get_or groups o.arc.to 0 ≡ 0 = o.is in
      omega arith

  turned : (s t : ℕ) → HaveOneRow (automaton_of rows) groups s t →
      HaveOneRow (automaton_of rows) groups t s
  turned s t row = record { final = sym row.final; step = λ l. sym (row.step l) }

  settled_row : (s t : ℕ) → s < length rows → t < length rows →
      HaveOneRow (automaton_of rows) groups s t → get_or groups s 0 ≡ get_or groups t 0
  settled_row s t in-s in-t row = elim (cases_eq (get_or groups s 0) 0) [
    | inl z ↦ elim (cases_eq (get_or groups t 0) 0) [
      | inl y ↦ z ∙ sym y
      | inr y ↦ absurd (never_one t s in-t in-s (omega arith) z (turned s t row))
    ]
    | inr z ↦ elim (cases_eq (get_or groups t 0) 0) [
      | inl y ↦ absurd (never_one s t in-s in-t (omega arith) y row)
      | inr y ↦ one_settled s t in-s in-t (omega arith) (omega arith) row
    ]
  ]

  -- a step from a settled state leads to a settled one of a lower group
  step_falls : (s u l : ℕ) → s < length rows → 0 < get_or groups s 0 →
      step_in (arcs_at rows s) l ≡ Some u →
      (0 < get_or groups u 0) × (get_or groups u 0 < get_or groups s 0)
  step_falls s u l in-s up e =
      let a : HasArc (arcs_at rows s) l u = arc_of_step (arcs_at rows s) l u e in
      let p : (0 < get_or groups a.arc.to 0) × (get_or groups a.arc.to 0 < get_or groups s 0) =
      all_in (λ arc. (0 < get_or groups arc.to 0) × (get_or groups arc.to 0 < get_or groups s 0))
      (arcs_at rows s) (so.falls s in-s up) a.arc a.listed in
      subst (λ v. (0 < get_or groups v 0) × (get_or groups v 0 < get_or groups s 0)) a.to_is p

  -- by the number of the group
  kept : (b s t : ℕ) → get_or groups s 0 < b → 0 < get_or groups s 0 → s < length rows →
      t < length rows → ((ls : List ℕ) → seen (automaton_of rows) ls s
      ≡ seen (automaton_of rows) ls t) → get_or groups s 0 ≡ get_or groups t 0
  kept zero s t low up in-s in-t h = absurd (omega arith)
  kept (suc b) s t low up in-s in-t h = elim (cases_eq (get_or groups t 0) 0) [
    | inl z ↦
        let o : IsOpen groups (arcs_at rows t) = full t in-t z in
        let f : step_in (arcs_at rows t) o.arc.label ≡ Some o.arc.to =
        step_of_arc (arcs_at rows t) (ascending-at rows (length rows) t good) o.arc o.listed in
        option_cases (step_in (arcs_at rows s) o.arc.label)
        (λ e. absurd (none-some _ (sym (seen-none (automaton_of rows) o.arc.label [] s e)
        ∙ h (o.arc.label ∷ [])
        ∙ seen-some (automaton_of rows) o.arc.label [] t o.arc.to f)))
        (λ u e.
        let p : (0 < get_or groups u 0) × (get_or groups u 0 < get_or groups s 0) =
        step_falls s u o.arc.label in-s up e in
        let lower : get_or groups u 0 < get_or groups s 0 = p.1 in
        let one : get_or groups u 0 ≡ get_or groups o.arc.to 0 =
        kept b u o.arc.to (omega arith) p.0
        (closed.within s u o.arc.label in-s e) (closed.within t o.arc.to o.arc.label in-t f)
        (λ ls. sym (seen-some (automaton_of rows) o.arc.label ls s u e) ∙ h (o.arc.label ∷ ls)
        ∙ seen-some (automaton_of rows) o.arc.label ls t o.arc.to f) in
        let home : 0 < get_or groups u 0 = p.0 in
        let is : get_or groups o.arc.to 0 ≡ 0 = o.is in
        absurd (omega arith))
    | inr y ↦ one_settled s t in-s in-t up (omega arith) (record {
      final = same_Some _ _ (h []);
      step = λ l.
          option_cases (step_in (arcs_at rows s) l)
          (λ e. option_cases (step_in (arcs_at rows t) l)
          (λ f. ap (option_map (λ u. get_or groups u 0)) (e ∙ sym f))
          (λ v f. absurd (none-some _ (sym (seen-none (automaton_of rows) l [] s e) ∙ h (l ∷ [])
          ∙ seen-some (automaton_of rows) l [] t v f))))
          (λ u e. option_cases (step_in (arcs_at rows t) l)
          (λ f. absurd (none-some _ (sym (seen-none (automaton_of rows) l [] t f)
          ∙ sym (h (l ∷ [])) ∙ seen-some (automaton_of rows) l [] s u e)))
          (λ v f.
          let p : (0 < get_or groups u 0) × (get_or groups u 0 < get_or groups s 0) =
          step_falls s u l in-s up e in
          let lower : get_or groups u 0 < get_or groups s 0 = p.1 in
          let one : get_or groups u 0 ≡ get_or groups v 0 =
          kept b u v (omega arith) p.0 (closed.within s u l in-s e)
          (closed.within t v l in-t f)
          (λ ls. sym (seen-some (automaton_of rows) l ls s u e) ∙ h (l ∷ ls)
          ∙ seen-some (automaton_of rows) l ls t v f) in
          ap (option_map (λ u. get_or groups u 0)) e ∙ ap Some one
          ∙ sym (ap (option_map (λ u. get_or groups u 0)) f)));
    })
  ]

  pub coarse_when_full : IsCoarse (automaton_of rows) groups
  coarse_when_full = record {
    settled = settled_row;
    kept = λ s t in-s in-t h. elim (cases_eq (get_or groups s 0) 0) [
      | inl z ↦ elim (cases_eq (get_or groups t 0) 0) [
        | inl y ↦ z ∙ sym y
        | inr y ↦ sym (kept (suc (get_or groups t 0)) t s (omega arith) (omega arith) in-t in-s
            (λ ls. sym (h ls)))
      ]
      | inr z ↦ kept (suc (get_or groups s 0)) s t (omega arith) (omega arith) in-s in-t h
    ];
  }
