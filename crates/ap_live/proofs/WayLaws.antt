-- What inputs lead to, and what the ways there write.
use Rattle.std.proofs.Common.{◌≡◌, ℕ, List, [], ◌∷◌, ◌++◌, refl, sym, ◌∙◌, ap, subst, append_assoc, append-nil, Option, Some, slice_get}
use Rattle.std.specs.Prelude.{reverse}
use Rattle.std.specs.Option.{option_to_list}
use Rattle.ap_symbol.specs.declared.symbol.Symbol.{Symbol}
use Rattle.ap_fst.specs.Lists.{IsIn}
use Rattle.ap_fst.specs.Machines.{Machine}
use Rattle.ap_fst.specs.declared.label.Edge.{Edge}
use Rattle.ap_live.specs.Heads.{HasEnd, Head, written, written_by}
use Rattle.ap_live.specs.Heads as heads
use Rattle.ap_live.specs.Fitting.{Input}
use Rattle.ap_live.specs.Outputs.{IsOutput}
use Rattle.ap_live.specs.Rows.{Reach}
use Rattle.ap_live.specs.Rows as rows
use Rattle.ap_live.specs.Tails.{Tail, stop}
use Rattle.ap_live.specs.Tails as tails
use Rattle.ap_live.specs.Trails.{Way, begin}
use Rattle.ap_live.specs.Trails as trails
use Rattle.ap_live.proofs.Heads.{whole_path}
use Rattle.ap_live.proofs.OutputLaws.{output_from_tail, tail_from_output}
use Rattle.std.proofs.lemmas.List.{reverse-reverse}

pub way_reach : (edges : List Edge) (seen : List Input) (s : ℕ) (places : List ℕ) →
    Way edges seen s places → Reach edges seen s
way_reach edges seen s places (begin e z p) = rows.begin e z
way_reach edges seen s places (trails.silent f j rest p e w) =
    rows.silent f j p (way_reach edges seen f rest w)
way_reach edges seen s places (trails.taken before input f j rest p e q w) =
    rows.taken before input f j p e (way_reach edges before f rest w)

pub reach_way : (edges : List Edge) (seen : List Input) (s : ℕ) → Reach edges seen s →
    (places : List ℕ) × Way edges seen s places
reach_way edges seen s (rows.begin e z) = ([], begin e z refl)
reach_way edges seen s (rows.silent f j p r) =
    let (places, w) = reach_way edges seen f r in (j ∷ places, trails.silent f j places p refl w)
reach_way edges seen s (rows.taken before input f j p e r) =
    let (places, w) = reach_way edges before f r in
    (j ∷ places, trails.taken before input f j places p e refl w)

-- what an edge and those before it write
written_next : (edges : List Edge) (places rest : List ℕ) (j : ℕ) (e : Edge) →
    slice_get edges j ≡ Some e → places ≡ j ∷ rest →
    written edges places ≡ option_to_list e.label.right ++ written edges rest
written_next edges places rest j e at is =
    ap (written edges) is ∙ ap (λ (o : Option Edge). written_by o ++ written edges rest) at

-- A way leads on to a final state.
way_tail : (m : Machine) (before later : List Input) (s : ℕ) (places : List ℕ)
    (back : List Symbol) → Way m.edges before s places → Tail m later s back →
    Tail m (before ++ later) 0 (back ++ written m.edges places)
way_tail m before later s places back (begin e z p) tail =
    subst (λ (x : List Input). Tail m (x ++ later) 0 (back ++ written m.edges places)) (sym e)
    (subst (λ (x : List Symbol). Tail m later 0 x)
    (sym (append-nil back) ∙ ap (λ x. back ++ written m.edges x) (sym p))
    (subst (λ (x : ℕ). Tail m later x back) z tail))
way_tail m before later s places back (trails.silent f j rest p e w) tail =
    subst (λ (x : List Symbol). Tail m (before ++ later) 0 x)
    (append_assoc back (option_to_list p.edge.label.right) (written m.edges rest)
    ∙ ap (λ x. back ++ x) (sym (written_next m.edges places rest j p.edge p.at e)))
    (way_tail m before later f rest (back ++ option_to_list p.edge.label.right) w
    (tails.silent s j back p refl tail))
way_tail m before later s places back (trails.taken b input f j rest p e q w) tail =
    subst (λ (x : List Symbol). Tail m (before ++ later) 0 x)
    (append_assoc back (option_to_list p.edge.label.right) (written m.edges rest)
    ∙ ap (λ x. back ++ x) (sym (written_next m.edges places rest j p.edge p.at q)))
    (subst (λ (x : List Input). Tail m x 0
    ((back ++ option_to_list p.edge.label.right) ++ written m.edges rest))
    (sym (append_assoc b (input ∷ []) later) ∙ ap (λ x. x ++ later) (sym e))
    (way_tail m b (input ∷ later) f rest (back ++ option_to_list p.edge.label.right) w
    (tails.taken input later s j back refl p refl tail)))

pub way_output : (m : Machine) (seen : List Input) (s : ℕ) (places : List ℕ) →
    Way m.edges seen s places → IsIn s m.finals →
    IsOutput m seen (reverse (written m.edges places))
way_output m seen s places way final =
    output_from_tail m seen (written m.edges places)
    (subst (λ (x : List Input). Tail m x 0 (written m.edges places)) (append-nil seen)
    (way_tail m seen [] s places [] way (stop refl final refl)))

-- The places of a path's edges write what the path writes.
record IsWayOf (edges : List Edge) (seen : List Input) (s : ℕ) (back : List Symbol) : Type 0 where
  places : List ℕ
  way : Way edges seen s places
  is : back ≡ written edges places

head_way : (edges : List Edge) (seen : List Input) (s : ℕ) (back : List Symbol) →
    Head edges seen s back → IsWayOf edges seen s back
head_way edges seen s back (heads.begin e z b) =
    record { places = []; way = begin e z refl; is = b }
head_way edges seen s back (heads.silent f j rest p w head) =
    let h : IsWayOf edges seen f rest = head_way edges seen f rest head in
    record {
      places = j ∷ h.places;
      way = trails.silent f j h.places p refl h.way;
      is = w ∙ ap (λ x. option_to_list p.edge.label.right ++ x) h.is
          ∙ sym (written_next edges (j ∷ h.places) h.places j p.edge p.at refl);
    }
head_way edges seen s back (heads.taken before input f j rest p e w head) =
    let h : IsWayOf edges before f rest = head_way edges before f rest head in
    record {
      places = j ∷ h.places;
      way = trails.taken before input f j h.places p e refl h.way;
      is = w ∙ ap (λ x. option_to_list p.edge.label.right ++ x) h.is
          ∙ sym (written_next edges (j ∷ h.places) h.places j p.edge p.at refl);
    }

-- the way of an output
pub record HasOutputWay (m : Machine) (seen : List Input) (output : List Symbol) : Type 0 where
  pub state : ℕ
  pub final : IsIn state m.finals
  pub places : List ℕ
  pub way : Way m.edges seen state places
  pub is : output ≡ reverse (written m.edges places)

pub output_way : (m : Machine) (seen : List Input) (output : List Symbol) →
    IsOutput m seen output → HasOutputWay m seen output
output_way m seen output o =
    let end : HasEnd m seen (reverse output) =
    whole_path m seen (reverse output) (tail_from_output m seen output o) in
    let h : IsWayOf m.edges seen end.end (reverse output) =
    head_way m.edges seen end.end (reverse output) end.head in
    record {
      state = end.end;
      final = end.final;
      places = h.places;
      way = h.way;
      is = sym (reverse-reverse output) ∙ ap reverse h.is;
    }
