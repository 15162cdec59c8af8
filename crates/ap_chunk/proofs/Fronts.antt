-- What a search finds at the front of items, as the definitions over items say it.
use Rattle.std.specs.Prelude.{◌≡◌, ℕ, suc, zero, ◌+◌, ◌<◌, ◌≤◌, Bool, true, false, List, [], ◌∷◌, ◌++◌, length, drop, refl, Option, Some, None, IfSome, ◌⊎◌}
use Rattle.std.proofs.Common.{arith, ap, sym, ◌∙◌, subst, get_or, inl, inr}
use Rattle.std.proofs.lemmas.List.{map-append}
use Rattle.ap_stream.specs.declared.item.Read.{Read}
use Rattle.ap_rules.specs.declared.rules.Rules.{Rules}
use Rattle.ap_chunk.specs.Going.{chosen_of}
use Rattle.ap_chunk.specs.Choice.{unit_of}
use Rattle.ap_chunk.specs.Parts.{Part, unit, gap, wall, part_of, parts_of, units_in, together}
use Rattle.ap_chunk.specs.Patterns.{patterns_of}
use Rattle.ap_chunk.specs.Searching.{IsKind, IsNext, IsWalk, IsEnd, IsFront}
use Rattle.ap_chunk.specs.declared.parts.Kind.{Kind}
use Rattle.ap_chunk.specs.declared.parts.Kind.TheVariants as kinds
use Rattle.ap_chunk.specs.Stages.{span, choice}
use Rattle.ap_chunk.specs.declared.search.Front.{Front}
use Rattle.ap_chunk.specs.declared.search.Walk.{Walk}
use Rattle.ap_chunk.proofs.ChunkSteps.{parts_length}
use Rattle.ap_chunk.proofs.Walks.{span_grows, span_all, last_end, end_last}

pub parts_append : (rules : Rules) (reads xs : List Read) → parts_of rules (reads ++ xs)
    ≡ parts_of rules reads ++ parts_of rules xs
parts_append rules reads xs = map-append (λ (read : Read). part_of rules read.item) reads xs

none_parts : (rules : Rules) (last : Bool) (xs : List Read) → (last ≡ true → xs ≡ []) →
    last ≡ true → parts_of rules xs ≡ []
none_parts rules last xs h e = ap (parts_of rules) (h e)

-- the item that was looked at stands next
pub next_at : (rules : Rules) (reads : List Read) (n : ℕ) (d : Read) → n < length reads →
    IsNext (parts_of rules reads) n (part_of rules (get_or reads n d).item)
next_at rules [] n d h = absurd (omega arith)
next_at rules (read ∷ reads) zero d h = refl
next_at rules (read ∷ reads) (suc n) d h =
    let e : suc n + 1 ≡ suc (n + 1) = omega arith in
    next_at rules reads n d (omega (arith, h))
    ∙ ap (λ k. part_of rules (get_or reads n d).item ∷ drop k
    (part_of rules read.item ∷ parts_of rules reads)) (sym e)

-- where the code found that part of it
pub next_as : (rules : Rules) (reads : List Read) (n : ℕ) (d : Read) (part : Part) →
    n < length reads → part_of rules (get_or reads n d).item ≡ part →
    IsNext (parts_of rules reads) n part
next_as rules reads n d part h e = next_at rules reads n d h
    ∙ ap (λ (p : Part). p ∷ drop (n + 1) (parts_of rules reads)) e

module _ (rules : Rules) (reads : List Read) (n : ℕ) (d : Read) (kind : Kind) (row : List Bool)
    (h : n < length reads) (is : IsKind kind row (part_of rules (get_or reads n d).item)) where
  is_kind : (k : Kind) → kind ≡ k → IsKind k row (part_of rules (get_or reads n d).item)
  is_kind k e = subst (λ (k : Kind). IsKind k row (part_of rules (get_or reads n d).item)) e is

  pub next_wall : kind ≡ kinds.Other → IsNext (parts_of rules reads) n wall
  next_wall e = next_as rules reads n d wall h (is_kind kinds.Other e)

  pub next_gap : kind ≡ kinds.Blank → IsNext (parts_of rules reads) n gap
  next_gap e = next_as rules reads n d gap h (is_kind kinds.Blank e)

  pub next_unit : (seen : List Bool) → seen ≡ row → kind ≡ kinds.Unit →
      IsNext (parts_of rules reads) n (unit (unit_of seen))
  next_unit seen r e = next_as rules reads n d (unit (unit_of seen)) h (is_kind kinds.Unit e
      ∙ ap (λ (z : List Bool). unit (unit_of z)) (sym r))

module _ (rules : Rules) (reads : List Read) where
  pub span_is : span rules reads ≡ together (patterns_of rules) [] false (parts_of rules reads)
  unfolding span
  span_is = refl

  pub choice_is : choice rules reads ≡ chosen_of (patterns_of rules)
      (units_in false (parts_of rules reads))
  unfolding choice
  choice_is = refl

module _ (rules : Rules) (reads : List Read) (walk : Walk) (p : walk.choosing.patterns
    ≡ patterns_of rules) where
  pub front_is : (last : Bool) → IsEnd last (parts_of rules reads) walk →
      IsFront last rules reads
      (let f : Front = record { choice = walk.best; taken = walk.taken; span = walk.seen } in f)
  front_is last ends = record {
    within = (let w = ends.within in let l = parts_length rules reads in omega (arith, w, l));
    chosen_is = λ xs e.
        choice_is rules (reads ++ xs)
        ∙ ap (λ ps. chosen_of ps (units_in false (parts_of rules (reads ++ xs)))) (sym p)
        ∙ ap (λ (parts : List Part). chosen_of walk.choosing.patterns (units_in false parts))
        (parts_append rules reads xs)
        ∙ ends.chosen_is (parts_of rules xs) (none_parts rules last xs e);
    span_is = λ xs e.
        span_is rules (reads ++ xs) ∙ ap (λ ps. together ps [] false (parts_of rules (reads ++ xs)))
        (sym p)
        ∙ ap (λ (parts : List Part). together walk.choosing.patterns [] false parts)
        (parts_append rules reads xs)
        ∙ ends.span_is (parts_of rules xs) (none_parts rules last xs e);
    taken_is = ends.taken_is;
    taken_within = ends.taken_within;
  }

  module _ (w : IsWalk (parts_of rules reads) walk) (e : walk.seen ≡ length reads) where
    seen_all : walk.seen ≡ length (parts_of rules reads)
    seen_all = e ∙ sym (parts_length rules reads)

    pub waits_all : span rules reads ≡ length reads
    waits_all =
        span_is rules reads ∙ ap (λ ps. together ps [] false (parts_of rules reads)) (sym p)
        ∙ span_all (parts_of rules reads) walk w seen_all ∙ parts_length rules reads

    pub waits_grows : (xs : List Read) → length reads ≤ span rules (reads ++ xs)
    waits_grows xs =
        let g = span_grows (parts_of rules reads) walk w seen_all (parts_of rules xs) in
        let l = parts_length rules reads in
        let s = span_is rules (reads ++ xs)
        ∙ ap (λ ps. together ps [] false (parts_of rules (reads ++ xs))) (sym p)
        ∙ ap (λ (parts : List Part). together walk.choosing.patterns [] false parts)
        (parts_append rules reads xs) in
        omega (arith, g, l, s)

  -- what the walk has found where it ends, or where no item is left
  pub look_found : (ends finished : Bool) →
      (ends ≡ true → IsEnd false (parts_of rules reads) walk) →
      (ends ≡ false → IsWalk (parts_of rules reads) walk) →
      (ends ≡ false → walk.seen ≡ length reads)
      → (ends ≡ true) ⊎ (finished ≡ true) →
      IsFront finished rules reads
      (let f : Front = record { choice = walk.best; taken = walk.taken; span = walk.seen } in f)
  look_found true finished end w e either =
      front_is finished (end_last (parts_of rules reads) walk finished (end refl))
  look_found false false end w e (inl h) = absurd (cc)
  look_found false false end w e (inr h) = absurd (cc)
  look_found false true end w e either =
      front_is true (last_end (parts_of rules reads) walk (w refl) (e refl
      ∙ sym (parts_length rules reads)))

pub front_in : (last : Bool) (rules : Rules) (reads : List Read) (look : Option Front)
    (front : Front) → look ≡ Some front → IfSome look (IsFront last rules reads) →
    IsFront last rules reads front
front_in last rules reads None front e is = absurd (cc)
front_in last rules reads (Some other) front e is = let same : other ≡ front = cc in
    subst (λ (f : Front). IsFront last rules reads f) same is
