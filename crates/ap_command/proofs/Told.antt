use Rattle.std.proofs.Common.{◌≡◌, ℕ, suc, ◌+◌, ◌<◌, min, List, [], ◌∷◌, ◌++◌, length, take, drop, get_or, arith, add-one, sym, ap, ◌∙◌, refl, Option, Some, None, map, append_assoc, Bor, drop-cons, subst, inl, inr, Result, Ok, Err, true}
use Rattle.std.proofs.Math.Seq.{take-suc}
use Rattle.std.proofs.lemmas.Bool.{cases_lt, ne_eqb}
use Rattle.std.specs.Prelude.{codes}
use Rattle.std.proofs.lemmas.List.Concat.{flat_map-append}
use Rattle.std.specs.Result.{OnErr, OnOk, is_err, is_ok}
use Rattle.std.proofs.lemmas.List.{take-append-drop, take-append-le, take_all, map-append, append-nil}
use Rattle.std.proofs.Math.Seq.{take-append-add}
use Rattle.std.specs.List.{flat_map}
use Rattle.ap_command.specs.Messages.{joined, Says, limit_text, stage_text, file_text, limit_name_lem, name_at}
use Rattle.ap_pipe.specs.Standing.{Standing}
use Rattle.std.specs.Option.{option_map}
use Rattle.ap_outside.specs.Told.{Puts, PutsFront}

puts-assoc : (a : Option (List ℕ)) (p q : List ℕ) →
    option_map (λ w. w ++ q) (option_map (λ w. w ++ p) a) ≡ option_map (λ w. w ++ (p ++ q)) a
puts-assoc None p q = refl
puts-assoc (Some w) p q = ap Some (append_assoc w p q)

-- one put after another
pub puts-then : (a b c : Option (List ℕ)) (p q : List ℕ) → Puts a b p → Puts b c q →
    Puts a c (p ++ q)
puts-then a b c p q f g = g ∙ ap (λ o. option_map (λ w. w ++ q) o) f ∙ puts-assoc a p q

take-least : (count : ℕ) (q : List ℕ) → take (min count (length q)) q ≡ take count q
take-least count q = elim (cases_lt count (length q)) [
  | inl lt ↦ ap (λ k. take k q) (omega arith)
  | inr ge ↦ take_all (min count (length q)) q (omega arith) ∙ sym (take_all count q ge)
]

front-same : (p q whole rest : List ℕ) (count : ℕ) → whole ≡ p ++ (q ++ rest) →
    p ++ take count q ≡ take (length p + min count (length q)) whole
front-same p q whole rest count e =
    sym (ap (take (length p + min count (length q))) e
    ∙ take-append-add p (q ++ rest) (min count (length q))
    ∙ ap (λ x. p ++ x) (take-append-le (min count (length q)) q rest (omega arith)
    ∙ take-least count q))

-- a front of what follows was put
pub puts-then-front : (a b c : Option (List ℕ)) (p q whole rest : List ℕ) → Puts a b p →
    PutsFront b c q → whole ≡ p ++ (q ++ rest) → PutsFront a c whole
puts-then-front a b c p q whole rest f g e = (
  length p + min g.0 (length q),
  subst (λ x. Puts a c x) (front-same p q whole rest g.0 e)
      (puts-then a b c p (take g.0 q) f g.1),
)

pub joined-at : (ps : List (Bor (List ℕ))) (i : ℕ) (d : Bor (List ℕ)) → i < length ps
    → joined (map (λ (p : Bor (List ℕ)). p.now) ps)
    ≡ joined (map (λ (p : Bor (List ℕ)). p.now) (take i ps))
    ++ ((get_or ps i d).now ++ joined (map (λ (p : Bor (List ℕ)). p.now) (drop (suc i) ps)))
unfolding joined
joined-at ps i d h =
    ap (λ xs. flat_map (λ p. p) (map (λ (p : Bor (List ℕ)). p.now) xs)) (sym (take-append-drop i ps)
    ∙ ap (λ r. take i ps ++ r) (drop-cons ps i d h))
    ∙ ap (flat_map (λ p. p))
    (map-append (λ (p : Bor (List ℕ)). p.now) (take i ps) (get_or ps i d ∷ drop (suc i) ps))
    ∙ flat_map-append (λ p. p) (map (λ (p : Bor (List ℕ)). p.now) (take i ps))
    (map (λ (p : Bor (List ℕ)). p.now) (get_or ps i d ∷ drop (suc i) ps))

-- one more piece
pub joined-more : (ps : List (Bor (List ℕ))) (i : ℕ) (d : Bor (List ℕ)) → i < length ps
    → joined (map (λ (p : Bor (List ℕ)). p.now) (take (i + 1) ps))
    ≡ joined (map (λ (p : Bor (List ℕ)). p.now) (take i ps)) ++ (get_or ps i d).now
unfolding joined
joined-more ps i d h =
    ap (λ k. flat_map (λ p. p) (map (λ (p : Bor (List ℕ)). p.now) (take k ps))) (add-one i)
    ∙ ap (λ xs. flat_map (λ p. p) (map (λ (p : Bor (List ℕ)). p.now) xs)) (take-suc ps i d h)
    ∙ ap (flat_map (λ p. p))
    (map-append (λ (p : Bor (List ℕ)). p.now) (take i ps) (get_or ps i d ∷ []))
    ∙ flat_map-append (λ p. p) (map (λ (p : Bor (List ℕ)). p.now) (take i ps))
    ((get_or ps i d).now ∷ [])
    ∙ ap (λ r. flat_map (λ p. p) (map (λ (p : Bor (List ℕ)). p.now) (take i ps)) ++ r)
    (append-nil (get_or ps i d).now)

pub on-err : {U E : Type 0} (r : Result U E) (P : Type 0) → OnErr r P → true ≡ is_err r → P
on-err (Ok u) P h t = cc
on-err (Err e) P h t = h

pub joined-3 : (a a' b b' c c' : List ℕ) → a ≡ a' → b ≡ b' → c ≡ c' →
    joined (a ∷ b ∷ c ∷ []) ≡ joined (a' ∷ b' ∷ c' ∷ [])
joined-3 a a' b b' c c' p q r = cc

pub joined-9 : (a a' b b' c c' d d' e e' f f' g g' h h' i i' : List ℕ) → a ≡ a' → b ≡ b' → c ≡ c' →
    d ≡ d' → e ≡ e' → f ≡ f' → g ≡ g' → h ≡ h' → i ≡ i'
    → joined (a ∷ b ∷ c ∷ d ∷ e ∷ f ∷ g ∷ h ∷ i ∷ [])
    ≡ joined (a' ∷ b' ∷ c' ∷ d' ∷ e' ∷ f' ∷ g' ∷ h' ∷ i' ∷ [])
joined-9 a a' b b' c c' d d' e e' f f' g g' h h' i i' p1 p2 p3 p4 p5 p6 p7 p8 p9 = cc

pub says-as : {U E : Type 0} {old new : Standing} {result : Result U E} (p q : List ℕ) → p ≡ q →
    Says old new result p → Says old new result q
says-as {old = old} {new = new} {result = result} p q e s = subst (λ t. Says old new result t) e s

pub puts-none : (a : Option (List ℕ)) → a ≡ option_map (λ w. w ++ []) a
puts-none None = refl
puts-none (Some w) = ap Some (sym (append-nil w))

pub puts-nothing : (a : Option (List ℕ)) → Puts a a (joined [])
unfolding joined
puts-nothing a = puts-none a

pub on-ok : {U E : Type 0} (r : Result U E) (P : Type 0) → OnOk r P → is_ok r ≡ true → P
on-ok (Ok u) P h t = h
on-ok (Err e) P h t = cc

-- the text of a limit, by its stage and kind
pub limit-of-stage : (words : List (List ℕ)) (stage kind place : ℕ) (name : List ℕ) →
    (stage ≡ 0 → ⊥) → name ≡ limit_name_lem kind →
    stage_text stage place (codes ": limit ") kind name ≡ limit_text words stage kind place
limit-of-stage words stage kind place name h e =
    rw (ne_eqb stage 0 h) (ap (λ n. stage_text stage place (codes ": limit ") kind n) e)

pub limit-of-file : (words : List (List ℕ)) (stage kind place : ℕ) (name : List ℕ) → stage ≡ 0 →
    kind ≡ 6 → name ≡ name_at words place → file_text name (codes ": limit 6 FileTooLong\n")
    ≡ limit_text words stage kind place
limit-of-file words stage kind place name h k e =
    rw (h, k) (ap (λ n. file_text n (codes ": limit 6 FileTooLong\n")) e)

pub limit-of-input : (words : List (List ℕ)) (stage kind place : ℕ) → stage ≡ 0 → (kind ≡ 6 → ⊥) →
    codes "apertium: limit 7 InputTooLong\n" ≡ limit_text words stage kind place
limit-of-input words stage kind place h k = rw (h, ne_eqb kind 6 k) refl
