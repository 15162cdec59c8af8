-- Steps that are taken one after another.
use Rattle.std.proofs.Common.{◌≡◌, ◌⊎◌, inl, inr, ℕ, ◌+◌, ◌<◌, ◌≤◌, suc, length, get_or, drop, drop-cons, add-one, Bool, true, false, List, [], ◌∷◌, ◌++◌, refl, sym, ◌∙◌, ap, subst, append_assoc, append-nil, Option, Some, None}
use Rattle.std.specs.Prelude.{if◌then◌else◌}
use Rattle.std.proofs.lemmas.List.{drop_all}
use Rattle.ap_dix.specs.Machines.{run, on_some}

run-none : {S X : Type 0} (step : S → X → Option S) (xs : List X) → run step None xs ≡ None
run-none step [] = refl
run-none step (x ∷ xs) = refl

pub run-append : {S X : Type 0} (step : S → X → Option S) (s : Option S) (xs ys : List X) →
    run step s (xs ++ ys) ≡ run step (run step s xs) ys
run-append step s [] ys = refl
run-append step None (x ∷ xs) ys = sym (run-none step ys)
run-append step (Some s) (x ∷ xs) ys = run-append step (step s x) xs ys

-- a run over a part and then over the next one
pub run_then : {S X : Type 0} (step : S → X → Option S) (s m e : Option S)
    (front back whole : List X) → run step s front ≡ m → run step m back ≡ e →
    whole ≡ front ++ back → run step s whole ≡ e
run_then step s m e front back whole f g w =
    ap (run step s) w ∙ run-append step s front back ∙ ap (λ z. run step z back) f ∙ g

some_is : {A : Type 0} (x y : A) → Some x ≡ Some y → x ≡ y
some_is x y e = cc

keeps_from : {S X : Type 0} (step : S → X → Option S) (Kept : List X → S → Type 0) →
    ((seen : List X) (s : S) (x : X) (t : S) → Kept seen s → step s x ≡ Some t →
    Kept (seen ++ x ∷ []) t)
    → (o : Option S) (seen xs : List X) (t : S) → ((u : S) → o ≡ Some u → Kept seen u) →
    run step o xs ≡ Some t → Kept (seen ++ xs) t
keeps_from step Kept each o seen [] t h e = subst (λ z. Kept z t) (sym (append-nil seen)) (h t e)
keeps_from step Kept each None seen (x ∷ xs) t h e = let no : ⊥ = cc in absurd no
keeps_from step Kept each (Some s) seen (x ∷ xs) t h e =
    subst (λ z. Kept z t) (append_assoc seen (x ∷ []) xs)
    (keeps_from step Kept each (step s x) (seen ++ x ∷ []) xs t
    (λ u q. each seen s x u (h s refl) q) e)

-- what each step keeps of what was seen and of the state, a run keeps
pub run_keeps : {S X : Type 0} (step : S → X → Option S) (Kept : List X → S → Type 0) →
    ((seen : List X) (s : S) (x : X) (t : S) → Kept seen s → step s x ≡ Some t →
    Kept (seen ++ x ∷ []) t)
    → (s t : S) (xs : List X) → Kept [] s → run step (Some s) xs ≡ Some t → Kept xs t
run_keeps step Kept each s t xs h e =
    keeps_from step Kept each (Some s) [] xs t (λ u q. subst (λ z. Kept [] z) (some_is s u q) h) e

-- where a choice gave something

pub none_else : {A : Type 0} (b : Bool) (o : Option A) (y : A) → (if b then None else o) ≡ Some y →
    (b ≡ false) × (o ≡ Some y)
none_else true o y e = let no : ⊥ = cc in absurd no
none_else false o y e = (refl, e)

pub else_none : {A : Type 0} (b : Bool) (o : Option A) (y : A) → (if b then o else None) ≡ Some y →
    (b ≡ true) × (o ≡ Some y)
else_none true o y e = (refl, e)
else_none false o y e = let no : ⊥ = cc in absurd no

pub one_of_two : {A : Type 0} (b : Bool) (o p : Option A) (y : A) → (if b then o else p) ≡ Some y →
    ((b ≡ true) × (o ≡ Some y)) ⊎ ((b ≡ false) × (p ≡ Some y))
one_of_two true o p y e = inl (refl, e)
one_of_two false o p y e = inr (refl, e)

pub taken : {A : Type 0} (b : Bool) (x y : A) → b ≡ true → (if b then x else y) ≡ x
taken true x y e = refl
taken false x y e = let no : ⊥ = cc in absurd no

pub left_out : {A : Type 0} (b : Bool) (x y : A) → b ≡ false → (if b then x else y) ≡ y
left_out true x y e = let no : ⊥ = cc in absurd no
left_out false x y e = refl

-- what a further step on something was taken from
pub record CameFrom {A B : Type 0} (o : Option A) (f : A → Option B) (y : B) : Type 0 where
  pub value : A
  pub was : o ≡ Some value
  pub gave : f value ≡ Some y

pub came_from : {A B : Type 0} (o : Option A) (f : A → Option B) (y : B) → on_some o f ≡ Some y →
    CameFrom o f y
came_from None f y e = let no : ⊥ = cc in absurd no
came_from (Some a) f y e = record { value = a; was = refl; gave = e }

pub goes_on : {A B : Type 0} (o : Option A) (f : A → Option B) (a : A) (y : Option B) → o ≡ Some a →
    f a ≡ y → on_some o f ≡ y
goes_on o f a y e g = ap (λ z. on_some z f) e ∙ g

-- A loop that takes a step for each item: what is left of the run stays the same.

at_item : {X : Type 0} (xs : List X) (i : ℕ) (x d : X) → i < length xs → x ≡ get_or xs i d →
    drop i xs ≡ x ∷ drop (i + 1) xs
at_item xs i x d lt is =
    let e : drop i xs ≡ get_or xs i d ∷ drop (suc i) xs = drop-cons xs i d lt in
    e ∙ ap (λ z. z ∷ drop (suc i) xs) (sym is) ∙ ap (λ n. x ∷ drop n xs) (sym (add-one i))

pub next_on : {S X : Type 0} (step : S → X → Option S) (s : S) (t all : Option S) (x : X)
    (rest more : List X) → rest ≡ x ∷ more → step s x ≡ t → run step (Some s) rest ≡ all →
    run step t more ≡ all
next_on step s t all x rest more w e h = ap (λ z. run step z more) (sym e)
    ∙ sym (ap (run step (Some s)) w) ∙ h

pub next_item : {S X : Type 0} (step : S → X → Option S) (s : S) (t all : Option S) (xs : List X)
    (i : ℕ) (x d : X) → i < length xs → x ≡ get_or xs i d → step s x ≡ t →
    run step (Some s) (drop i xs) ≡ all → run step t (drop (i + 1) xs) ≡ all
next_item step s t all xs i x d lt is e h =
    next_on step s t all x (drop i xs) (drop (i + 1) xs) (at_item xs i x d lt is) e h

pub stopped_on : {S X : Type 0} (step : S → X → Option S) (s : S) (all : Option S) (x : X)
    (rest more : List X) → rest ≡ x ∷ more → step s x ≡ None →
    run step (Some s) rest ≡ all → None ≡ all
stopped_on step s all x rest more w e h = sym (run-none step more)
    ∙ next_on step s None all x rest more w e h

pub stopped_item : {S X : Type 0} (step : S → X → Option S) (s : S) (all : Option S) (xs : List X)
    (i : ℕ) (x d : X) → i < length xs → x ≡ get_or xs i d → step s x ≡ None →
    run step (Some s) (drop i xs) ≡ all → None ≡ all
stopped_item step s all xs i x d lt is e h =
    stopped_on step s all x (drop i xs) (drop (i + 1) xs) (at_item xs i x d lt is) e h

pub over_items : {S X : Type 0} (step : S → X → Option S) (s : S) (all : Option S) (xs : List X)
    (i : ℕ) → length xs ≤ i → run step (Some s) (drop i xs) ≡ all → Some s ≡ all
over_items step s all xs i le h = sym (ap (run step (Some s)) (drop_all i xs le)) ∙ h

pub over_rest : {S X : Type 0} (step : S → X → Option S) (s : S) (all : Option S) (rest : List X) →
    rest ≡ [] → run step (Some s) rest ≡ all → Some s ≡ all
over_rest step s all rest e h = sym (ap (run step (Some s)) e) ∙ h
