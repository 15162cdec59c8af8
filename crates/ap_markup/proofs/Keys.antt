-- Tests of keys that are lent.
use Rattle.std.proofs.Common.{◌≡◌, ◌+◌, suc, Bool, true, false, ◌||◌, not, cond, List, [], ◌∷◌, ◌++◌, length, map, refl, ap, position}
use Rattle.std.specs.List.{list_any, prefix_len}

pub any_key : {X Y : Type 0} (p : Y → Bool) (f : X → Y) (xs : List X) →
    list_any p (map f xs) ≡ list_any (λ x. p (f x)) xs
any_key p f [] = refl
any_key p f (x ∷ xs) = ap (λ b. p (f x) || b) (any_key p f xs)

prefix_key : {X Y : Type 0} (p : Y → Bool) (f : X → Y) (xs : List X) →
    prefix_len p (map f xs) ≡ prefix_len (λ x. p (f x)) xs
prefix_key p f [] = refl
prefix_key p f (x ∷ xs) = ap (λ n. cond (p (f x)) (1 + n) 0) (prefix_key p f xs)

length_keys : {X Y : Type 0} (f : X → Y) (xs : List X) → length (map f xs) ≡ length xs
length_keys f [] = refl
length_keys f (x ∷ xs) = ap suc (length_keys f xs)

pub key_at : {X Y : Type 0} (p : Y → Bool) (f : X → Y) (xs : List X) →
    position p (map f xs) ≡ position (λ x. p (f x)) xs
key_at p f xs = rw (prefix_key (λ y. not (p y)) f xs, length_keys f xs) refl

push_key : {X Y : Type 0} (f : X → Y) (xs : List X) (x : X) →
    map f (xs ++ x ∷ []) ≡ map f xs ++ f x ∷ []
push_key f [] x = refl
push_key f (y ∷ ys) x = ap (λ (l : List _). f y ∷ l) (push_key f ys x)

pub with_key : {X Y : Type 0} (b : Bool) (f : X → Y) (xs : List X) (x : X) →
    map f (cond b xs (xs ++ x ∷ [])) ≡ cond b (map f xs) (map f xs ++ f x ∷ [])
with_key b f xs x = elim b as (λ v. map f (cond v xs (xs ++ x ∷ []))
    ≡ cond v (map f xs) (map f xs ++ f x ∷ [])) [ true ↦ refl | false ↦ push_key f xs x ]
