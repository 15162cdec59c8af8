-- The paths from the start to a state, gone back from there, and what edges write.
use Rattle.std.proofs.Common.{◌≡◌, ℕ, false, List, [], ◌∷◌, ◌++◌, refl, sym, ◌∙◌, ap, subst, append_assoc, append-nil, Option, Some, None}
use Rattle.std.specs.Prelude.{is_some}
use Rattle.std.specs.Option.{option_to_list}
use Rattle.ap_symbol.specs.declared.symbol.Symbol.{Symbol}
use Rattle.ap_fst.specs.Machines.{Machine}
use Rattle.ap_fst.specs.declared.label.Edge.{Edge}
use Rattle.ap_live.specs.Heads.{Head, begin, HasEnd}
use Rattle.ap_live.specs.Heads as heads
use Rattle.ap_live.specs.Fitting.{Input}
use Rattle.ap_live.specs.Tails.{Tail, stop}
use Rattle.ap_live.specs.Tails as tails

abbrev right : Edge → List Symbol
right e = option_to_list e.label.right

-- From a state that is reached on to a final one.
head_on : (m : Machine) (before later : List Input) (s : ℕ) (back front : List Symbol) →
    Tail m later s back → Head m.edges before s front → HasEnd m (before ++ later) (back ++ front)
head_on m before later s back front (stop e f z) head = record {
  end = s;
  final = f;
  head = subst (λ (x : List Input). Head m.edges x s (back ++ front))
      (sym (ap (λ x. before ++ x) e ∙ append-nil before))
      (subst (λ (x : List Symbol). Head m.edges before s x) (sym (ap (λ x. x ++ front) z)) head);
}
head_on m before later s back front (tails.silent t j rest p w tail) head =
    subst (λ (x : List Symbol). HasEnd m (before ++ later) x)
    (sym (append_assoc rest (right p.edge) front) ∙ ap (λ x. x ++ front) (sym w))
    (head_on m before later t rest (right p.edge ++ front) tail
    (heads.silent s j front p refl head))
head_on m before later s back front (tails.taken input more t j rest e p w tail) head =
    subst (λ (x : List Input). HasEnd m x (back ++ front))
    (append_assoc before (input ∷ []) more ∙ ap (λ x. before ++ x) (sym e))
    (subst (λ (x : List Symbol). HasEnd m ((before ++ input ∷ []) ++ more) x)
    (sym (append_assoc rest (right p.edge) front) ∙ ap (λ x. x ++ front) (sym w))
    (head_on m (before ++ input ∷ []) more t rest (right p.edge ++ front) tail
    (heads.taken before input s j front p refl refl head)))

pub whole_path : (m : Machine) (seen : List Input) (whole : List Symbol) → Tail m seen 0 whole →
    HasEnd m seen whole
whole_path m seen whole tail =
    subst (λ (x : List Symbol). HasEnd m seen x) (append-nil whole)
    (head_on m [] seen 0 whole [] tail (begin refl refl refl))

-- ---- what edges write

pub none_of : {X : Type 0} (o : Option X) → is_some o ≡ false → o ≡ None
none_of None h = refl
none_of (Some x) h = cc
