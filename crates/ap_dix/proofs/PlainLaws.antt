-- What the expressions of the code stand for, by their parts as lists.
use Rattle.std.proofs.Common.{◌≡◌, List, [], ◌∷◌, ◌++◌, map, reverse, refl, sym, ap, ◌∙◌, Option, Some, None, false, Vec, Global}
use mathlib.Core.Former.{Count}
use Rattle.std.proofs.lemmas.List.{map-append, reverse-append}
use Rattle.ap_dix.specs.Forms.{Form, sequence, either, then_form, forms_of}
use Rattle.ap_dix.specs.Machines.{Stage, flushed, closed, is_nil, with_atom, stack, close_step}
use Rattle.ap_dix.specs.Plain.{plain, row_forms}
use Rattle.ap_dix.specs.declared.expr.Expr.{Expr, Sequence, Sequence', Either, Either', Row_of-Expr, end_of-Expr, more_of-Expr, items-the_row-Expr, items_hidden-the_row-Expr-0}
use Rattle.ap_dix.proofs.Runs.{left_out}

abbrev row_of : Expr → (n : Count) × Row_of-Expr n
row_of (Sequence' shape row) = (_, row)
row_of (Either' shape row) = (_, row)
row_of _ = (_, end_of-Expr)

row_forms-items : (n : _) (row : Row_of-Expr n) →
    row_forms row ≡ forms_of (map plain (items-the_row-Expr n row))
row_forms-items n end_of-Expr = refl
row_forms-items n (more_of-Expr e rest) = ap (then_form (plain e)) (row_forms-items _ rest)

pub plain-Sequence : (es : Vec Expr Global) →
    plain (Sequence es) ≡ sequence (forms_of (map plain es.items))
plain-Sequence es =
    let row = row_of (Sequence es) in
    ap sequence (row_forms-items row.0 row.1
    ∙ ap (λ z. forms_of (map plain z)) (items_hidden-the_row-Expr-0 es))

pub plain-Either : (es : Vec Expr Global) →
    plain (Either es) ≡ either (forms_of (map plain es.items))
plain-Either es =
    let row = row_of (Either es) in
    ap either (row_forms-items row.0 row.1
    ∙ ap (λ z. forms_of (map plain z)) (items_hidden-the_row-Expr-0 es))

nil_mapped : {X Y : Type 0} (f : X → Y) (xs : List X) → (xs ≡ [] → ⊥) → is_nil (map f xs) ≡ false
nil_mapped f [] h = absurd (h refl)
nil_mapped f (x ∷ xs) h = refl

-- the sequence that isn't over is put behind the others
pub closed_by : (s : Stage) (factors : Vec Expr Global) (choices pushed : List Expr) →
    map plain factors.items ≡ flushed s → (factors.items ≡ [] → ⊥) →
    pushed ≡ choices ++ Sequence factors ∷ [] → map plain choices ≡ s.choices →
    Some (map plain pushed) ≡ closed s
closed_by s factors choices pushed f n w k =
    let whole : map plain pushed ≡ s.choices ++ sequence (forms_of (flushed s)) ∷ [] =
    ap (map plain) w ∙ map-append plain choices (Sequence factors ∷ [])
    ∙ ap (λ z. z ++ plain (Sequence factors) ∷ []) k
    ∙ ap (λ z. s.choices ++ z ∷ [])
    (plain-Sequence factors ∙ ap (λ z. sequence (forms_of z)) f) in
    ap Some whole ∙ sym (left_out (is_nil (flushed s)) None
    (Some (s.choices ++ sequence (forms_of (flushed s)) ∷ []))
    (ap is_nil (sym f) ∙ nil_mapped plain factors.items n))

pub from_below : {X Y : Type 0} (f : X → Y) (xs : List X) (x : X) (all : List X) →
    all ≡ xs ++ x ∷ [] → reverse (map f all) ≡ f x ∷ reverse (map f xs)
from_below f xs x all w = ap (λ z. reverse (map f z)) w ∙ ap reverse (map-append f xs (x ∷ []))
    ∙ reverse-append (map f xs) (f x ∷ [])

-- the expression in parentheses is put into what is open around it
pub closed_on : (outer : Stage) (rest below : List Stage) (top : Stage) (choices : Vec Expr Global)
    (o : Option (List Form)) → below ≡ outer ∷ rest → top ≡ with_atom outer (plain (Either choices))
    → o ≡ Some (map plain choices.items) → Some (stack top rest) ≡ close_step below o
closed_on outer rest below top choices o b t e =
    ap (λ z. Some (stack z rest)) (t ∙ ap (with_atom outer) (plain-Either choices))
    ∙ sym (ap (λ z. close_step z (Some (map plain choices.items))) b)
    ∙ sym (ap (close_step below) e)
