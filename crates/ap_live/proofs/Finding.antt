-- The outputs of inputs, as they are found by bounded search.
use Rattle.std.proofs.Common.{◌≡◌, ◌⊎◌, inl, inr, ℕ, ◌+◌, ◌<◌, ◌≤◌, Bool, true, false, eqb, List, [], ◌∷◌, ◌++◌, map, length, take, refl, sym, ◌∙◌, ap, subst, append_assoc, append-nil, arith, Option, Some, None, slice_get, suc, zero}
use Rattle.std.specs.Prelude.{◌↔◌, ◌&&◌, ◌||◌, not, reverse, IsTrue, if◌then◌else◌}
use Rattle.std.specs.List.{list_any, list_all}
use Rattle.std.specs.List.Sorted.{IsStrictlySortedBy}
use Rattle.std.specs.Option.{option_to_list}
use Rattle.std.proofs.lemmas.Bool.{and_parts, cond-true}
use Rattle.std.proofs.lemmas.Bool.Decides.{nat_tests}
use Rattle.std.proofs.lemmas.List.{reverse-reverse}
use Rattle.std.proofs.lemmas.Map.Lookups.{exact_bytes}
use Rattle.std.specs.declared.cmp.Ordering.TheVariants.{Equal}
use Rattle.ap_symbol.specs.Fitting.{fits_lem}
use Rattle.ap_symbol.specs.Rendering.{rendering, word_cmp}
use Rattle.ap_symbol.specs.Words.{is_proper, AreProper}
use Rattle.ap_symbol.specs.declared.symbol.Symbol.{Symbol}
use Rattle.ap_fst.specs.Lists.{IsIn}
use Rattle.ap_fst.specs.Machines.{Machine, IsMachine, edge_from}
use Rattle.ap_fst.specs.Walks.{Walk, ends, goes}
use Rattle.ap_fst.specs.Sides.{left_word, right_word}
use Rattle.ap_fst.specs.Silence.{SilentWalk, still, step, HasNoEmptyCycle}
use Rattle.ap_fst.specs.Trimming.{IsTrimmed}
use Rattle.ap_fst.specs.declared.label.Label.{Label}
use Rattle.ap_fst.specs.declared.label.Edge.{Edge}
use Rattle.ap_fst.proofs.Listing.{in_front, in_back, in_either, in_map, in_mapped, IsImage, in_filter, filter_in, IsKept, placed_in, IsPlaced, in_from_place}
use Rattle.ap_fst.proofs.Growing.{in_from_any, any_from_in}
use Rattle.ap_fst.proofs.Trims.{in_flat, flat_in, IsMade}
use Rattle.ap_fst.proofs.CycleLaws.{short_walks}
use Rattle.ap_live.specs.Fitting.{Input, picks, fits_inputs, fits_side, is_empty_side}
use Rattle.ap_live.specs.Spreads.{Picked}
use Rattle.ap_live.specs.Lives.{Lives, IsLive}
use Rattle.ap_live.specs.Rows.{Reach, begin}
use Rattle.ap_live.specs.Rows as rows
use Rattle.ap_live.specs.Tails.{Tail, stop, silent, taken}
use Rattle.ap_live.specs.Outputs.{IsOutput, FitBeginning, WritesProper, is_proper_side}
use Rattle.ap_live.specs.Found.{picked_from, through, ended, taking, words_from, edges_enough, outputs, has_output, takes_on, leads_on, has_final, is_viable}
use Rattle.ap_live.proofs.Spreading.{both_true, to_in}
use Rattle.ap_live.proofs.OutputLaws.{IsWay, reverse-option, way_silent, way_taken, tail_from_output}
use Rattle.ap_live.proofs.LiveLaws.{beginning}
use Rattle.ap_live.proofs.WordOrder.{in_order_sound, in_order_there, in_order_sorted, in_order_some, some_word, sorted_same, sorted_exact}
use Rattle.ap_live.proofs.Others.{side_none}

-- ---- the edges from a state

same_true : (s : ℕ) → eqb s s ≡ true
same_true s = grind (arith, nat_tests)

from_same : (s t : ℕ) → eqb s t ≡ true → s ≡ t
from_same s t h = grind (arith, nat_tests)

in_picked : (edges : List Edge) (pick : Option Input) (s t j : ℕ) (p : Picked edges pick s t j) →
    IsIn p.edge (picked_from edges pick s)
in_picked edges pick s t j p =
    in_filter (λ e. (eqb s (edge_from e)) && picks pick e) p.edge edges
    (in_from_place edges j p.edge p.at)
    (both_true (eqb s p.edge.from) (picks pick p.edge)
    (subst (λ (z : ℕ). eqb s z ≡ true) p.from_is (same_true s)) p.passes)

-- an edge that is picked, with its place
record IsPick (edges : List Edge) (pick : Option Input) (s : ℕ) (e : Edge) : Type 0 where
  place : ℕ
  at : slice_get edges place ≡ Some e
  from_is : s ≡ e.from
  passes : picks pick e ≡ true

is_pick : (edges : List Edge) (pick : Option Input) (s : ℕ) (e : Edge) →
    IsIn e (picked_from edges pick s) → IsPick edges pick s e
is_pick edges pick s e i =
    let k : IsKept (λ x. (eqb s (edge_from x)) && picks pick x) e edges =
    filter_in (λ x. (eqb s (edge_from x)) && picks pick x) e edges i in
    let both : (eqb s e.from ≡ true) × (picks pick e ≡ true) =
    and_parts (eqb s e.from) (picks pick e) k.passes in
    let p : IsPlaced e edges = placed_in e edges k.listed in
    record { place = p.place; at = p.at; from_is = from_same s e.from both.0; passes = both.1 }

in_through : (go : ℕ → List (List Symbol)) (edges : List Edge) (e : Edge) (w : List Symbol) →
    IsIn e edges → IsIn w (go e.to) → IsIn (option_to_list e.label.right ++ w) (through go edges)
in_through go edges e w i h =
    flat_in (λ x. map (λ z. option_to_list x.label.right ++ z) (go x.to))
    (option_to_list e.label.right ++ w) e edges i
    (in_map (λ z. option_to_list e.label.right ++ z) w (go e.to) h)

record IsThrough (go : ℕ → List (List Symbol)) (edges : List Edge) (v : List Symbol) : Type 0 where
  edge : Edge
  listed : IsIn edge edges
  rest : List Symbol
  rest_in : IsIn rest (go edge.to)
  is : v ≡ option_to_list edge.label.right ++ rest

from_through : (go : ℕ → List (List Symbol)) (edges : List Edge) (v : List Symbol) →
    IsIn v (through go edges) → IsThrough go edges v
from_through go edges v i =
    let m : IsMade (λ x. map (λ z. option_to_list x.label.right ++ z) (go x.to)) v edges =
    in_flat (λ x. map (λ z. option_to_list x.label.right ++ z) (go x.to)) v edges i in
    let k : IsImage (λ z. option_to_list m.source.label.right ++ z) v (go m.source.to) =
    in_mapped (λ z. option_to_list m.source.label.right ++ z) v (go m.source.to) m.made in
    record { edge = m.source; listed = m.listed; rest = k.source; rest_in = k.listed; is = k.image }

-- ---- what is found is an output

ended_by : (m : Machine) (s : ℕ) (v : List Symbol) (b : Bool) → list_any (λ t. eqb s t) m.finals ≡ b
    → IsIn v (if b then [] ∷ [] else []) → IsWay m s [] v
ended_by m s v true e (inl f) =
    record {
      labels = [];
      last = s;
      final = in_from_any s m.finals e;
      walk = ends refl;
      fit =
          refl;
      is = f;
    }
ended_by m s v true e (inr n) = absurd n
ended_by m s v false e i = absurd i

ended_sound : (m : Machine) (s : ℕ) (inputs : List Input) (v : List Symbol) →
    IsIn v (ended m.finals s inputs) → IsWay m s inputs v
ended_sound m s [] v i = ended_by m s v (list_any (λ t. eqb s t) m.finals) refl i
ended_sound m s (input ∷ inputs) v i = absurd i

taking_sound : (m : Machine) (n s : ℕ) (inputs : List Input) (v : List Symbol) →
    ((more : List Input) (t : ℕ) (w : List Symbol) → IsIn w (words_from m n more t) →
    IsWay m t more w) → IsIn v (taking m.edges (words_from m n) s inputs) → IsWay m s inputs v
taking_sound m n s [] v go i = absurd i
taking_sound m n s (input ∷ more) v go i =
    let h : IsThrough (words_from m n more) (picked_from m.edges (Some input) s) v =
    from_through (words_from m n more) (picked_from m.edges (Some input) s) v i in
    let p : IsPick m.edges (Some input) s h.edge = is_pick m.edges (Some input) s h.edge h.listed in
    way_taken m s h.edge.to p.place input more (input ∷ more) h.rest v h.edge h.edge.label.left p.at
    p.from_is refl refl p.passes refl h.is (go more h.edge.to h.rest h.rest_in)

found_sound : (m : Machine) (n : ℕ) (inputs : List Input) (s : ℕ) (v : List Symbol) →
    IsIn v (words_from m n inputs s) → IsWay m s inputs v
found_sound m zero inputs s v i = absurd i
found_sound m (suc n) inputs s v i =
    elim (in_either v (ended m.finals s inputs)
    (through (words_from m n inputs) (picked_from m.edges None s)
    ++ taking m.edges (words_from m n) s inputs) i) [
      | inl k ↦ ended_sound m s inputs v k
      | inr k ↦ elim (in_either v (through (words_from m n inputs) (picked_from m.edges None s))
          (taking m.edges (words_from m n) s inputs) k) [
            | inl q ↦
                let h : IsThrough (words_from m n inputs) (picked_from m.edges None s) v =
                from_through (words_from m n inputs) (picked_from m.edges None s) v q in
                let p : IsPick m.edges None s h.edge = is_pick m.edges None s h.edge h.listed in
                way_silent m s h.edge.to p.place inputs h.rest v h.edge h.edge.label.left
                p.at p.from_is
                refl refl (side_none h.edge.label.left p.passes) h.is
                (found_sound m n inputs h.edge.to h.rest h.rest_in)
            | inr q ↦ taking_sound m n s inputs v (λ more t w j. found_sound m n more t w j) q
          ]
    ]

-- ---- each output is found

enough_states : (states : ℕ) (inputs : List Input) → states ≤ edges_enough states inputs
enough_states states [] = omega arith
enough_states states (input ∷ inputs) = omega arith

more_silent : (edges : List Edge) (pick : Option Input) (base k s t j : ℕ) → pick ≡ None →
    Picked edges pick s t j → SilentWalk edges base k s → SilentWalk edges base (suc k) t
more_silent edges pick base k s t j none p walk =
    let e : is_empty_side p.edge.label.left ≡ true =
    ap (λ (z : Option Input). picks z p.edge) (sym none) ∙ p.passes in
    step s j p.edge walk p.at (side_none p.edge.label.left e) p.from_is p.to_is

ended_there : (finals : List ℕ) (s : ℕ) (inputs : List Input) → IsIn s finals → inputs ≡ [] →
    IsIn [] (ended finals s inputs)
ended_there finals s (input ∷ inputs) i e = absurd (cc)
ended_there finals s [] i e =
    subst (λ (z : List (List Symbol)). IsIn [] z)
    (sym (cond-true (list_any (λ t. eqb s t) finals) ([] ∷ []) [] (any_from_in s finals i)))
    (inl refl)

-- the word of a step, and then the rest
stepped : (m : Machine) (n : ℕ) (pick : Option Input) (s t j : ℕ) (inputs : List Input)
    (back rest : List Symbol) (p : Picked m.edges pick s t j) →
    back ≡ rest ++ option_to_list p.edge.label.right
    → IsIn (reverse rest) (words_from m n inputs t) →
    IsIn (reverse back) (through (words_from m n inputs) (picked_from m.edges pick s))
stepped m n pick s t j inputs back rest p is there =
    subst (λ (z : List Symbol). IsIn z
    (through (words_from m n inputs) (picked_from m.edges pick s)))
    (sym (ap reverse is ∙ reverse-option rest p.edge.label.right))
    (in_through (words_from m n inputs) (picked_from m.edges pick s) p.edge (reverse rest)
    (in_picked m.edges pick s t j p)
    (subst (λ (z : ℕ). IsIn (reverse rest) (words_from m n inputs z)) p.to_is there))

-- after so many edges with an empty left side in a row
found_there : (m : Machine) (n base k : ℕ) (later : List Input) (s : ℕ) (back : List Symbol) →
    IsMachine m → HasNoEmptyCycle m → Tail m later s back → SilentWalk m.edges base k s →
    base < m.states
    → edges_enough m.states later ≤ n + k → IsIn (reverse back) (words_from m n later s)
found_there m zero base k later s back ok none tail walk lt le =
    let few : k < m.states = short_walks m ok none base k s walk lt in
    let some : m.states ≤ edges_enough m.states later = enough_states m.states later in
    absurd (omega arith)
found_there m (suc n) base k later s back ok none (stop e f z) walk lt le =
    in_front (reverse back) (ended m.finals s later)
    (through (words_from m n later) (picked_from m.edges None s)
    ++ taking m.edges (words_from m n) s later)
    (subst (λ (w : List Symbol). IsIn w (ended m.finals s later)) (sym (ap reverse z))
    (ended_there m.finals s later f e))
found_there m (suc n) base k later s back ok none (silent t j rest p w tail) walk lt le =
    in_back (reverse back) (ended m.finals s later)
    (through (words_from m n later) (picked_from m.edges None s)
    ++ taking m.edges (words_from m n) s later)
    (in_front (reverse back) (through (words_from m n later) (picked_from m.edges None s))
    (taking m.edges (words_from m n) s later)
    (stepped m n None s t j later back rest p w
    (found_there m n base (suc k) later t rest ok none tail
    (more_silent m.edges None base k s t j refl p walk) lt (omega arith))))
found_there m (suc n) base k later s back ok none
    (taken input more t j rest q p w tail) walk lt le =
    let few : k < m.states = short_walks m ok none base k s walk lt in
    let much : edges_enough m.states later ≡ m.states + edges_enough m.states more =
    ap (edges_enough m.states) q in
    let low : p.edge.to < m.states = to_in m ok j p.edge p.at in
    let low' : t < m.states = subst (λ (z : ℕ). z < m.states) (sym p.to_is) low in
    in_back (reverse back) (ended m.finals s later)
    (through (words_from m n later) (picked_from m.edges None s)
    ++ taking m.edges (words_from m n) s later)
    (in_back (reverse back) (through (words_from m n later) (picked_from m.edges None s))
    (taking m.edges (words_from m n) s later)
    (subst (λ (z : List Input). IsIn (reverse back) (taking m.edges (words_from m n) s z)) (sym q)
    (stepped m n (Some input) s t j more back rest p w
    (found_there m n t 0 more t rest ok none tail (still refl) low' (omega arith)))))

-- ---- the laws of outputs

words_are_outputs : (m : Machine) (seen : List Input) (w : List Symbol) →
    IsIn w (words_from m (edges_enough m.states seen) seen 0) → IsOutput m seen w
words_are_outputs m seen w i =
    let way : IsWay m 0 seen w = found_sound m (edges_enough m.states seen) seen 0 w i in
    record {
      labels = way.labels;
      accepted =
          record { last = way.last; final = way.final; walk = way.walk };
      fit = way.fit;
      is = way.is;
    }

pub found_is_output : (m : Machine) (seen : List Input) (w : List Symbol) →
    IsIn w (outputs m seen) → IsOutput m seen w
found_is_output m seen w i =
    words_are_outputs m seen w
    (in_order_sound (words_from m (edges_enough m.states seen) seen 0) w i)

output_in_words : (m : Machine) (seen : List Input) (w : List Symbol) → IsMachine m →
    HasNoEmptyCycle m → IsOutput m seen w →
    IsIn w (words_from m (edges_enough m.states seen) seen 0)
output_in_words m seen w ok none o =
    let some : 0 < m.states = ok.some in
    subst (λ (z : List Symbol). IsIn z (words_from m (edges_enough m.states seen) seen 0))
    (reverse-reverse w)
    (found_there m (edges_enough m.states seen) 0 0 seen 0 (reverse w) ok none
    (tail_from_output m seen w o) (still refl) some (omega arith))

pub found_sorted : (m : Machine) (seen : List Input) → IsStrictlySortedBy word_cmp (outputs m seen)
found_sorted m seen = in_order_sorted (words_from m (edges_enough m.states seen) seen 0)

output_is_found : (m : Machine) (seen : List Input) (w : List Symbol) → IsMachine m →
    HasNoEmptyCycle m → ((u v : List Symbol) → IsOutput m seen u → IsOutput m seen v →
    word_cmp u v ≡ Equal → u ≡ v) → IsOutput m seen w → IsIn w (outputs m seen)
output_is_found m seen w ok none exact o =
    in_order_there (words_from m (edges_enough m.states seen) seen 0) w
    (λ u v i j h. exact u v (words_are_outputs m seen u i) (words_are_outputs m seen v j) h)
    (output_in_words m seen w ok none o)

-- outputs are proper

proper_both : (xs ys : List Symbol) → list_all is_proper xs ≡ true → list_all is_proper ys ≡ true →
    list_all is_proper (xs ++ ys) ≡ true
proper_both [] ys h k = k
proper_both (x ∷ xs) ys h k =
    let p : (is_proper x ≡ true) × (list_all is_proper xs ≡ true) =
    and_parts (is_proper x) (list_all is_proper xs) h in
    both_true (is_proper x) (list_all is_proper (xs ++ ys)) p.0 (proper_both xs ys p.1 k)

side_proper : (o : Option Symbol) → is_proper_side o ≡ true →
    list_all is_proper (option_to_list o) ≡ true
side_proper None h = refl
side_proper (Some x) h = both_true (is_proper x) true h refl

walk_proper : (m : Machine) (s t : ℕ) (labels : List Label) → WritesProper m →
    Walk m.edges s labels t → list_all is_proper (right_word labels) ≡ true
walk_proper m s t labels writes (ends e) = refl
walk_proper m s t whole writes (goes {labels = labels} j e at from is walk) =
    ap (λ (z : List Label). list_all is_proper (right_word z)) is
    ∙ proper_both (option_to_list e.label.right) (right_word labels)
    (side_proper e.label.right (writes e (in_from_place m.edges j e at)))
    (walk_proper m e.to t labels writes walk)

pub output_proper : (m : Machine) (seen : List Input) (w : List Symbol) → WritesProper m →
    IsOutput m seen w → AreProper w
output_proper m seen w writes o = ap (list_all is_proper) o.is
    ∙ walk_proper m 0 o.accepted.last o.labels writes o.accepted.walk

abbrev pub OneRendering : Type 0
OneRendering = (a b : List Symbol) → AreProper a → AreProper b → rendering a ≡ rendering b → a ≡ b

pub outputs_found : OneRendering → (m : Machine) (seen : List Input) (w : List Symbol) →
    IsMachine m → HasNoEmptyCycle m → WritesProper m → IsIn w (outputs m seen) ↔ IsOutput m seen w
outputs_found law m seen w ok none writes = (
  (λ i. found_is_output m seen w i),
  (λ o. output_is_found m seen w ok none
      (λ u v a b h. law u v (output_proper m seen u writes a) (output_proper m seen v writes b)
      (exact_bytes _ _ h)) o),
)

-- what is in order and has just the outputs is what is found
pub words_found : (m : Machine) (seen : List Input) (words : List (List Symbol)) → IsMachine m →
    HasNoEmptyCycle m → IsStrictlySortedBy word_cmp words →
    ((w : List Symbol) → IsIn w words ↔ IsOutput m seen w) → words ≡ outputs m seen
words_found m seen words ok none sorted are =
    sorted_same words (outputs m seen) sorted (found_sorted m seen)
    (λ w i. output_is_found m seen w ok none
    (λ u v a b h. sorted_exact words sorted u v ((are u).1 a) ((are v).1 b) h) ((are w).0 i))
    (λ w i. (are w).1 (found_is_output m seen w i))

pub output_there : (m : Machine) (seen : List Input) → IsMachine m → HasNoEmptyCycle m →
    IsTrue (has_output m seen) ↔ ((w : List Symbol) × IsOutput m seen w)
output_there m seen ok none = (
  (λ h. let (w, i) = some_word (outputs m seen) h in (w, found_is_output m seen w i)),
  (λ (w, o). in_order_some (words_from m (edges_enough m.states seen) seen 0) w
      (output_in_words m seen w ok none o)),
)

-- ---- beginnings

either_true : (a b : Bool) → (a || b) ≡ true → (a ≡ true) ⊎ (b ≡ true)
either_true true b h = inl refl
either_true false b h = inr h

first_true : (a b : Bool) → a ≡ true → (a || b) ≡ true
first_true true b h = refl
first_true false b h = cc

second_true : (a b : Bool) → b ≡ true → (a || b) ≡ true
second_true true b h = refl
second_true false b h = h

record IsPassed {X : Type 0} (p : X → Bool) (xs : List X) : Type 0 where
  item : X
  listed : IsIn item xs
  passes : p item ≡ true

passed : {X : Type 0} (p : X → Bool) (xs : List X) → list_any p xs ≡ true → IsPassed p xs
passed p [] h = cc
passed p (x ∷ xs) h = elim (either_true (p x) (list_any p xs) h) [
  | inl e ↦ record { item = x; listed = inl refl; passes = e }
  | inr k ↦ let r : IsPassed p xs = passed p xs k in
      record { item = r.item; listed = inr r.listed; passes = r.passes }
]

any_passes : {X : Type 0} (p : X → Bool) (x : X) (xs : List X) → IsIn x xs → p x ≡ true →
    list_any p xs ≡ true
any_passes p x [] i h = absurd i
any_passes {X} p x (y ∷ xs) (inl e) h =
    first_true (p y) (list_any p xs) (subst (λ (z : X). p z ≡ true) e h)
any_passes p x (y ∷ xs) (inr i) h = second_true (p y) (list_any p xs) (any_passes p x xs i h)

takes_sound : (edges : List Edge) (n s : ℕ) (before inputs : List Input) →
    ((b more : List Input) (t : ℕ) → leads_on edges n more t ≡ true → Reach edges b t →
    (u : ℕ) × Reach edges (b ++ more) u)
    → takes_on edges (leads_on edges n) s inputs ≡ true → Reach edges before s →
    (u : ℕ) × Reach edges (before ++ inputs) u
takes_sound edges n s before [] go h reach =
    (s, subst (λ (z : List Input). Reach edges z s) (sym (append-nil before)) reach)
takes_sound edges n s before (input ∷ more) go h reach =
    let r : IsPassed (λ e. leads_on edges n more e.to) (picked_from edges (Some input) s) =
    passed (λ e. leads_on edges n more e.to) (picked_from edges (Some input) s) h in
    let p : IsPick edges (Some input) s r.item = is_pick edges (Some input) s r.item r.listed in
    let q : Picked edges (Some input) s r.item.to p.place =
    record { edge = r.item; at = p.at; from_is = p.from_is; to_is = refl; passes = p.passes } in
    let (u, k) = go (before ++ input ∷ []) more r.item.to r.passes
    (rows.taken before input s p.place q refl reach) in
    (u, subst (λ (z : List Input). Reach edges z u) (append_assoc before (input ∷ []) more) k)

leads_sound : (edges : List Edge) (n : ℕ) (before inputs : List Input) (s : ℕ) →
    leads_on edges n inputs s ≡ true → Reach edges before s →
    (u : ℕ) × Reach edges (before ++ inputs) u
leads_sound edges zero before inputs s h reach = cc
leads_sound edges (suc n) before inputs s h reach =
    elim (either_true (takes_on edges (leads_on edges n) s inputs)
    (list_any (λ e. leads_on edges n inputs e.to) (picked_from edges None s)) h) [
      | inl k ↦ takes_sound edges n s before inputs
          (λ b more t x y. leads_sound edges n b more t x y) k reach
      | inr k ↦
          let r : IsPassed (λ e. leads_on edges n inputs e.to) (picked_from edges None s) =
          passed (λ e. leads_on edges n inputs e.to) (picked_from edges None s) k in
          let p : IsPick edges None s r.item = is_pick edges None s r.item r.listed in
          let q : Picked edges None s r.item.to p.place =
          record {
            edge = r.item;
            at = p.at;
            from_is = p.from_is;
            to_is = refl;
            passes =
                p.passes;
          } in
          leads_sound edges n before inputs r.item.to r.passes (rows.silent s p.place q reach)
    ]

leads_step : (edges : List Edge) (n : ℕ) (later : List Input) (s j : ℕ) (e : Edge)
    (labels : List Label) (left : Option Symbol) → slice_get edges j ≡ Some e → s ≡ e.from →
    e.label.left ≡ left
    → fits_inputs (take (length later) (option_to_list left ++ left_word labels)) later ≡ true
    → (Picked edges None s e.to j → fits_inputs (take (length later) (left_word labels)) later
    ≡ true → leads_on edges n later e.to ≡ true)
    → ((input : Input) (more : List Input) → later ≡ input ∷ more →
    fits_inputs (take (length more) (left_word labels)) more ≡ true → leads_on edges n more e.to
    ≡ true) → leads_on edges (suc n) later s ≡ true
leads_step edges n later s j e labels None at from is fit quiet loud =
    let p : Picked edges None s e.to j =
    record { edge = e; at = at; from_is = from; to_is = refl; passes = ap is_empty_side is } in
    second_true (takes_on edges (leads_on edges n) s later)
    (list_any (λ x. leads_on edges n later x.to) (picked_from edges None s))
    (any_passes (λ x. leads_on edges n later x.to) e (picked_from edges None s)
    (in_picked edges None s e.to j p) (quiet p fit))
leads_step edges n [] s j e labels (Some x) at from is fit quiet loud = refl
leads_step edges n (i ∷ more) s j e labels (Some x) at from is fit quiet loud =
    let both = and_parts (fits_lem i.sensitive x i.symbol)
    (fits_inputs (take (length more) (left_word labels)) more) fit in
    let p : Picked edges (Some i) s e.to j =
    record {
      edge = e;
      at = at;
      from_is = from;
      to_is = refl;
      passes =
          ap (fits_side i) is ∙ both.0;
    } in
    first_true (takes_on edges (leads_on edges n) s (i ∷ more))
    (list_any (λ y. leads_on edges n (i ∷ more) y.to) (picked_from edges None s))
    (any_passes (λ y. leads_on edges n more y.to) e (picked_from edges (Some i) s)
    (in_picked edges (Some i) s e.to j p) (loud i more refl both.1))

leads_there : (m : Machine) (n base k : ℕ) (later : List Input) (s last : ℕ) (labels : List Label) →
    IsMachine m → HasNoEmptyCycle m → Walk m.edges s labels last →
    fits_inputs (take (length later) (left_word labels)) later ≡ true
    → SilentWalk m.edges base k s → base < m.states → edges_enough m.states later ≤ n + k →
    leads_on m.edges n later s ≡ true
leads_there m zero base k later s last labels ok none way fit walk lt le =
    let few : k < m.states = short_walks m ok none base k s walk lt in
    let some : m.states ≤ edges_enough m.states later = enough_states m.states later in
    absurd (omega arith)
leads_there m (suc n) base k [] s last labels ok none (ends e) fit walk lt le = refl
leads_there m (suc n) base k (i ∷ later) s last labels ok none (ends e) fit walk lt le = cc
leads_there m (suc n) base k later s last whole ok none (goes {labels = labels} j e at from is way)
    fit walk lt le =
    let few : k < m.states = short_walks m ok none base k s walk lt in
    let low : e.to < m.states = to_in m ok j e at in
    leads_step m.edges n later s j e labels e.label.left at from refl
    (ap (λ (z : List Label). fits_inputs (take (length later) (left_word z)) later)
    (sym is) ∙ fit)
    (λ p h. leads_there m n base (suc k) later e.to last labels ok none way h
    (more_silent m.edges None base k s e.to j refl p walk) lt (omega arith))
    (λ input more q h.
    let much : edges_enough m.states later ≡ m.states + edges_enough m.states more =
    ap (edges_enough m.states) q in
    leads_there m n e.to 0 more e.to last labels ok none way h (still refl) low (omega arith))

final_there : (finals : List ℕ) (s : ℕ) → IsIn s finals → has_final finals ≡ true
final_there [] s i = absurd i
final_there (t ∷ finals) s i = refl

some_final : (finals : List ℕ) → has_final finals ≡ true → finals ≡ [] → ⊥
some_final [] h e = cc
some_final (t ∷ finals) h e = cc

pub viable_found : (m : Machine) (seen : List Input) → IsMachine m → HasNoEmptyCycle m →
    IsTrimmed m → IsTrue (is_viable m seen) ↔ FitBeginning m seen
viable_found m seen ok none trimmed = (
  (λ h.
      let both : (has_final m.finals ≡ true)
      × (leads_on m.edges (edges_enough m.states seen) seen 0 ≡ true) =
      and_parts (has_final m.finals) (leads_on m.edges (edges_enough m.states seen) seen 0) h in
      let (u, reach) = leads_sound m.edges (edges_enough m.states seen) [] seen 0 both.1
      (begin refl refl) in
      beginning m seen u ok trimmed (some_final m.finals both.0) reach),
  (λ b.
      let some : 0 < m.states = ok.some in
      both_true (has_final m.finals) (leads_on m.edges (edges_enough m.states seen) seen 0)
      (final_there m.finals b.accepted.last b.accepted.final)
      (leads_there m (edges_enough m.states seen) 0 0 seen 0 b.accepted.last b.labels ok none
      b.accepted.walk b.fit (still refl) some (omega arith))),
)

-- ---- answers

pub same_answer : (a b : Bool) (P : Type 0) → IsTrue a ↔ P → IsTrue b ↔ P → a ≡ b
same_answer true true P h k = refl
same_answer true false P h k = let t : false ≡ true = k.1 (h.0 refl) in cc
same_answer false true P h k = let t : false ≡ true = h.1 (k.0 refl) in cc
same_answer false false P h k = refl

pub other_answer : (a b : Bool) (P : Type 0) → IsTrue a ↔ (P → ⊥) → IsTrue b ↔ P → a ≡ not b
other_answer true true P h k = absurd (h.0 refl (k.0 refl))
other_answer true false P h k = refl
other_answer false true P h k = refl
other_answer false false P h k = let t : false ≡ true =
    h.1 (λ p. let f : false ≡ true = k.1 p in cc) in cc

pub void_fits_none : (m : Machine) (seen : List Input) (l : Lives) → IsLive m seen l →
    l.is_void ≡ true → FitBeginning m seen → ⊥
void_fits_none m seen l live t b =
    subst (λ (z : List ℕ). IsIn b.accepted.last z) (live.void_is.0 t) b.accepted.final
