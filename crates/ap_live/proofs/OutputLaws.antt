use Rattle.std.proofs.Common.{◌≡◌, ℕ, Bool, true, false, List, [], ◌∷◌, ◌++◌, refl, sym, ◌∙◌, ap, subst, append-nil, Option, Some, None, slice_get}
use Rattle.std.specs.Prelude.{reverse, IsTrue, ◌&&◌}
use Rattle.std.specs.Option.{option_to_list}
use Rattle.std.proofs.lemmas.List.{reverse-append}
use Rattle.ap_symbol.specs.declared.symbol.Symbol.{Symbol}
use Rattle.ap_fst.specs.Lists.{IsIn}
use Rattle.ap_fst.specs.Machines.{Machine}
use Rattle.ap_fst.specs.Walks.{Walk, ends, goes}
use Rattle.ap_fst.specs.Sides.{left_word, right_word}
use Rattle.ap_fst.specs.declared.label.Label.{Label}
use Rattle.ap_fst.specs.declared.label.Edge.{Edge}
use Rattle.ap_live.specs.Fitting.{Input, is_empty_side, fits_side, fits_inputs}
use Rattle.ap_symbol.specs.Fitting.{fits_lem}
use Rattle.ap_live.specs.Spreads.{Picked}
use Rattle.ap_live.specs.Tails.{Tail, stop, silent, taken}
use Rattle.ap_live.specs.Outputs.{IsOutput}
use Rattle.ap_live.proofs.Spreading.{both_true}
use Rattle.ap_live.proofs.Others.{side_none}

-- a walk from a state to a final one, whose left word fits and whose right word is this
pub record IsWay (m : Machine) (s : ℕ) (later : List Input) (output : List Symbol) : Type 0 where
  pub labels : List Label
  pub last : ℕ
  pub final : IsIn last m.finals
  pub walk : Walk m.edges s labels last
  pub fit : IsTrue (fits_inputs (left_word labels) later)
  pub is : output ≡ right_word labels

pub reverse-option : (rest : List Symbol) (o : Option Symbol) → reverse (rest ++ option_to_list o)
    ≡ option_to_list o ++ reverse rest
reverse-option rest None = ap reverse (append-nil rest)
reverse-option rest (Some x) = reverse-append rest (x ∷ [])

back-option : (o : Option Symbol) (word : List Symbol) → reverse (option_to_list o ++ word)
    ≡ reverse word ++ option_to_list o
back-option None word = sym (append-nil (reverse word))
back-option (Some x) word = reverse-append (x ∷ []) word

-- by the left side of the first label
pub way_silent : (m : Machine) (s t j : ℕ) (later : List Input) (rest : List Symbol)
    (output : List Symbol) (e : Edge) (left : Option Symbol) → slice_get m.edges j ≡ Some e →
    s ≡ e.from → t ≡ e.to → e.label.left ≡ left → left ≡ None
    → output ≡ option_to_list e.label.right ++ rest → IsWay m t later rest → IsWay m s later output
way_silent m s t j later rest output e (Some x) at f g l n o w = absurd (cc)
way_silent m s t j later rest output e None at f g l n o w = record {
  labels = e.label ∷ w.labels;
  last = w.last;
  final = w.final;
  walk = goes j e at f refl (subst (λ (x : ℕ). Walk m.edges x w.labels w.last) g w.walk);
  fit = subst (λ (x : Option Symbol). IsTrue
      (fits_inputs (option_to_list x ++ left_word w.labels) later)) (sym l) w.fit;
  is = o ∙ ap (λ x. option_to_list e.label.right ++ x) w.is;
}

pub way_taken : (m : Machine) (s t j : ℕ) (input : Input) (more later : List Input)
    (rest : List Symbol) (output : List Symbol) (e : Edge) (left : Option Symbol) →
    slice_get m.edges j ≡ Some e → s ≡ e.from → t ≡ e.to → e.label.left ≡ left →
    fits_side input left ≡ true
    → later ≡ input ∷ more → output ≡ option_to_list e.label.right ++ rest → IsWay m t more rest →
    IsWay m s later output
way_taken m s t j input more later rest output e None at f g l n q o w = absurd (cc)
way_taken m s t j input more later rest output e (Some x) at f g l n q o w = record {
  labels = e.label ∷ w.labels;
  last = w.last;
  final = w.final;
  walk = goes j e at f refl (subst (λ (y : ℕ). Walk m.edges y w.labels w.last) g w.walk);
  fit = subst (λ (z : List Input). IsTrue (fits_inputs (left_word (e.label ∷ w.labels)) z)) (sym q)
      (subst (λ (y : Option Symbol). IsTrue
      (fits_inputs (option_to_list y ++ left_word w.labels) (input ∷ more))) (sym l)
      (both_true (fits_lem input.sensitive x input.symbol)
      (fits_inputs (left_word w.labels) more) n w.fit));
  is = o ∙ ap (λ y. option_to_list e.label.right ++ y) w.is;
}

pub way_from_tail : (m : Machine) (later : List Input) (s : ℕ) (back : List Symbol) →
    Tail m later s back → IsWay m s later (reverse back)
way_from_tail m later s back (stop e f z) =
    record {
      labels = [];
      last = s;
      final = f;
      walk = ends refl;
      fit =
          subst (λ (x : List Input). IsTrue (fits_inputs [] x)) (sym e) refl;
      is = ap reverse z;
    }
way_from_tail m later s back (silent t j rest p w tail) =
    way_silent m s t j later (reverse rest) (reverse back) p.edge p.edge.label.left p.at p.from_is
    p.to_is refl (side_none p.edge.label.left p.passes)
    (ap reverse w ∙ reverse-option rest p.edge.label.right) (way_from_tail m later t rest tail)
way_from_tail m later s back (taken input more t j rest q p w tail) =
    way_taken m s t j input more later (reverse rest) (reverse back) p.edge p.edge.label.left p.at
    p.from_is p.to_is refl p.passes q (ap reverse w ∙ reverse-option rest p.edge.label.right)
    (way_from_tail m more t rest tail)

pub output_from_tail : (m : Machine) (seen : List Input) (back : List Symbol) → Tail m seen 0 back →
    IsOutput m seen (reverse back)
output_from_tail m seen back tail =
    let w : IsWay m 0 seen (reverse back) = way_from_tail m seen 0 back tail in
    record {
      labels = w.labels;
      accepted = record { last = w.last; final = w.final; walk = w.walk };
      fit = w.fit;
      is = w.is;
    }

-- the other way, by the walk
split_true : (a b : Bool) → (a && b) ≡ true → (a ≡ true) × (b ≡ true)
split_true true b e = (refl, e)
split_true false b e = cc

tail_step : (m : Machine) (s : ℕ) (later : List Input) (labels : List Label) (last j : ℕ) (e : Edge)
    (left : Option Symbol) → slice_get m.edges j ≡ Some e → s ≡ e.from → e.label.left ≡ left
    → IsTrue (fits_inputs (option_to_list left ++ left_word labels) later) →
    ((more : List Input) → IsTrue (fits_inputs (left_word labels) more) →
    Tail m more e.to (reverse (right_word labels))) →
    Tail m later s (reverse (option_to_list e.label.right ++ right_word labels))
tail_step m s later labels last j e None at f l fit go =
    let p : Picked m.edges None s e.to j =
    record { edge = e; at = at; from_is = f; to_is = refl; passes = ap is_empty_side l } in
    silent e.to j (reverse (right_word labels)) p (back-option e.label.right (right_word labels))
    (go later fit)
tail_step m s [] labels last j e (Some x) at f l fit go = absurd (cc)
tail_step m s (input ∷ more) labels last j e (Some x) at f l fit go =
    let both = split_true (fits_lem input.sensitive x input.symbol)
    (fits_inputs (left_word labels) more) fit in
    let p : Picked m.edges (Some input) s e.to j =
    record {
      edge = e;
      at = at;
      from_is = f;
      to_is = refl;
      passes =
          ap (fits_side input) l ∙ both.0;
    } in
    taken input more e.to j (reverse (right_word labels)) refl p
    (back-option e.label.right (right_word labels)) (go more both.1)

pub tail_from_walk : (m : Machine) (s last : ℕ) (labels : List Label) (later : List Input) →
    IsIn last m.finals → Walk m.edges s labels last → IsTrue (fits_inputs (left_word labels) later)
    → Tail m later s (reverse (right_word labels))
tail_from_walk m s last labels [] final (ends e) fit =
    stop refl (subst (λ (x : ℕ). IsIn x m.finals) (sym e) final) refl
tail_from_walk m s last labels (i ∷ later) final (ends e) fit = absurd (cc)
tail_from_walk m s last whole later final (goes {labels = labels} j e at f w walk) fit =
    subst (λ (z : List Label). Tail m later s (reverse (right_word z))) (sym w)
    (tail_step m s later labels last j e e.label.left at f refl
    (subst (λ (z : List Label). IsTrue (fits_inputs (left_word z) later)) w fit)
    (λ more h. tail_from_walk m e.to last labels more final walk h))

pub tail_from_output : (m : Machine) (seen : List Input) (output : List Symbol) →
    IsOutput m seen output → Tail m seen 0 (reverse output)
tail_from_output m seen output o =
    subst (λ (z : List Symbol). Tail m seen 0 (reverse z)) (sym o.is)
    (tail_from_walk m 0 o.accepted.last o.labels seen o.accepted.final o.accepted.walk o.fit)
