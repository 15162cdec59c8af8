-- What is decided of an item within the limit, and what one byte more decides.
use Rattle.std.specs.Prelude.{◌≡◌, ◌≢◌, ℕ, suc, ◌+◌, ◌-◌, ◌≤◌, List, [], ◌∷◌, ◌++◌, drop, take, length, Bool, true, false, cond, leb, refl}
use Rattle.std.proofs.Common.{arith, ap, sym, subst, ◌∙◌, append_assoc, length-append, get_or, inl, inr}
use Rattle.std.proofs.lemmas.List.{append-nil, take-append-le, take-append-drop}
use Rattle.std.proofs.lemmas.Bool.Decides.{nat_tests}
use Rattle.std.proofs.lemmas.Bool.{cases_lt}
use Rattle.std.proofs.Math.Seq.{take-append-add, take-append_seam}
use Rattle.ap_stream.specs.Limits.{begun_max, item_max, unit_max}
use Rattle.ap_stream.proofs.LimitLaws.{item_max_is}
use Rattle.ap_symbol.specs.declared.symbol.Symbol.{Symbol}
use Rattle.ap_stream.specs.declared.dialect.Dialect.{Dialect}
use Rattle.ap_stream.specs.declared.item.Item.TheVariants as item
use Rattle.ap_stream.specs.declared.item.Chunk.{Chunk}
use Rattle.ap_stream.specs.declared.level.Level.{Level}
use Rattle.ap_stream.specs.declared.level.Effect.{Effect}
use Rattle.ap_stream.specs.declared.level.Effect.TheVariants as effect
use Rattle.ap_stream.specs.Reading.{First, Needs, Whole, Faulty, Bad, first, limited, past, at_limit, plain}
use Rattle.ap_stream.specs.Stands.{Always, InBlank, StandsIn, StoodIn, Tells, Surely, Looks}
use Rattle.ap_stream.proofs.StandLaws.{blank_ends}
use Rattle.ap_stream.proofs.LevelLaws.{begun_in}
use Rattle.ap_stream.proofs.InUnitLaws.{unit_always}
use Rattle.ap_stream.specs.UnitBytes.{UnitOf}
use Rattle.ap_stream.proofs.AtEndLaws.{begun_blank}

abbrev pub IsDecided : First → Type 0
IsDecided Needs = ⊥
IsDecided (Whole thing n) = Unit {0}
IsDecided (Faulty kind) = Unit {0}

past_decided : (most : ℕ) (f next : First) → IsDecided f → past most f next ≡ f
past_decided most Needs next d = absurd d
past_decided most (Whole thing n) next d = refl
past_decided most (Faulty kind) next d = refl

-- a few bytes are read without the limit
pub limited_within : (most : ℕ) (dialect : Dialect) (held : List ℕ) → length held ≤ most →
    limited most dialect held ≡ first dialect held
unfolding limited
limited_within most dialect held fits =
    let short : leb (length held) most ≡ true = grind (arith, nat_tests) in rw short refl

-- what is decided within the limit
pub limited_decided : (most : ℕ) (dialect : Dialect) (held : List ℕ) (f : First) →
    length held ≤ most → Always dialect held f → IsDecided f → (x : List ℕ) →
    limited most dialect (held ++ x) ≡ f
unfolding limited
limited_decided most dialect held f fits h d x =
    let k : most ≡ length held + (most - length held) = omega arith in
    let t : take most (held ++ x) ≡ held ++ take (most - length held) x =
    ap (λ n. take n (held ++ x)) k ∙ take-append-add held x (most - length held) in
    let e : past most (first dialect (take most (held ++ x)))
    (first dialect (take (suc most) (held ++ x))) ≡ f =
    rw (t, h (take (most - length held) x)) (past_decided most f _ d) in
    rw (h x, e) (both (leb (length (held ++ x)) most))
  where
    both : (b : Bool) → cond b f f ≡ f
    both true = refl
    both false = refl

-- one byte past the limit
pub limited_past : (most : ℕ) (dialect : Dialect) (held : List ℕ) → length held ≡ suc most →
    first dialect (take most held) ≡ Needs → (x : List ℕ) → limited most dialect (held ++ x)
    ≡ at_limit most (first dialect held)
unfolding limited
limited_past most dialect held l h x =
    let long : leb (length (held ++ x)) most ≡ false =
    grind (arith, nat_tests, length-append held x) in
    let a : take most (held ++ x) ≡ take most held = take-append-le most held x (omega arith) in
    let b : take (suc most) (held ++ x) ≡ held = ap (λ n. take n (held ++ x)) (sym l)
    ∙ take-append_seam held x in
    rw (long, a, b, h) refl

-- a unit within the limit
pub unit_surely : (dialect : Dialect) (held : List ℕ) (words : List (List Symbol)) →
    length held ≤ unit_max → UnitOf dialect held words →
    Surely dialect held (Whole (item.Unit words) (length held))
unit_surely dialect held words fits h =
    limited_decided item_max dialect held (Whole (item.Unit words) (length held))
    (rw item_max_is fits) (unit_always dialect held words h) tt

-- and a chunk
pub chunk_surely : (dialect : Dialect) (held : List ℕ) (chunk : Chunk) → length held ≤ unit_max →
    Always dialect held (Whole (item.Chunk chunk) (length held)) →
    Surely dialect held (Whole (item.Chunk chunk) (length held))
chunk_surely dialect held chunk fits h =
    limited_decided item_max dialect held (Whole (item.Chunk chunk) (length held))
    (rw item_max_is fits) h tt

module _ (dialect : Dialect) (at : Level) (done : ℕ) (held : List ℕ) where
  whole : (f : First) → Always dialect (take done held ++ drop done held) f → Always dialect held f
  whole f h = rw (take-append-drop done held) at h

  surely : (f : First) → length held ≤ unit_max →
      Always dialect (take done held ++ drop done held) f → IsDecided f → Surely dialect held f
  surely f fits h d = limited_decided item_max dialect held f (rw item_max_is fits) (whole f h) d

  front_short : (drop done held ≡ get_or (drop done held) 0 0 ∷ []) →
      length held ≡ length (take done held) + 1
  front_short h = ap length (sym (take-append-drop done held))
      ∙ length-append (take done held) (drop done held)
      ∙ ap (λ n. length (take done held) + n) (ap length h)

  pub looks_short : (s : Effect) → length held ≤ unit_max →
      Tells dialect at (take done held) (drop done held) s → Looks dialect at done held s
  looks_short effect.Waits fits h = (h, fits)
  looks_short (effect.Goes to) fits h = (
    let P : List ℕ → Type 0 = λ q. StandsIn dialect to q [] in
        subst P (take-append-drop done held) h,
    fits,
  )
  looks_short (effect.Plain c) fits h = (
    let l = surely (Whole (plain c.letter c.escaped) (length (take done held ++ drop done held)))
        fits h tt in rw (take-append-drop done held) at l,
    fits,
  )
  looks_short effect.BlankEnds fits h = (
    (
      h.0,
      h.1,
      surely (Whole (item.Blank (take done held)) (length (take done held))) fits h.2 tt,
    ),
    omega (arith, front_short h.1),
  )
  looks_short effect.UnitEnds fits h = (
    (h.0, subst (λ (q : List ℕ). UnitOf dialect q h.0) (take-append-drop done held) h.1),
    fits,
  )
  looks_short effect.ChunkEnds fits h = (
    (
      h.0,
      h.1,
      let k = whole (Whole (item.Chunk h.0) (length (take done held ++ drop done held))) h.2 in
          rw (take-append-drop done held) at k,
    ),
    fits,
  )
  looks_short (effect.Bad kind) fits h = ((surely (Faulty (Bad kind)) fits h.0 tt, h.1), tt)
  looks_short effect.TooLong fits h = absurd h

  -- before the byte past the limit, more was needed
  pub needs_before : StoodIn dialect at (take done held) (drop done held) →
      length held ≡ begun_max →
      first dialect (take item_max held) ≡ Needs
  needs_before h l =
      let old : List ℕ = take done held ++ h.old in
      let is : held ≡ old ++ h.byte ∷ [] = sym (take-append-drop done held)
      ∙ ap (λ q. take done held ++ q) h.part_is
      ∙ sym (append_assoc (take done held) h.old (h.byte ∷ [])) in
      let len : length old ≡ unit_max = let m = ap length is ∙ length-append old (h.byte ∷ []) in
      omega (arith, m, l) in
      let cut : take item_max held ≡ old =
      ap (take item_max) is ∙ ap (λ n. take n (old ++ h.byte ∷ [])) (item_max_is ∙ sym len)
      ∙ take-append_seam old (h.byte ∷ []) in
      ap (first dialect) cut ∙
      (begun_in dialect at (take done held) h.old h.stands (omega (arith, len))).needs

  past_all : StoodIn dialect at (take done held) (drop done held) → length held ≡ begun_max →
      (f : First) → first dialect held ≡ f → Surely dialect held (at_limit item_max f)
  past_all h l f e x = limited_past item_max dialect held (l ∙ ap suc (sym item_max_is))
      (needs_before h l) x ∙ ap (at_limit item_max) e

  all_now : (f : First) → Always dialect (take done held ++ drop done held) f →
      first dialect held ≡ f
  all_now f h = rw append-nil at (whole f h [])

  pub looks_blank : StoodIn dialect at (take done held) (drop done held) → length held ≡ begun_max →
      Tells dialect at (take done held) (drop done held) effect.BlankEnds →
      Looks dialect at done held effect.BlankEnds
  looks_blank h l s =
      let n : length (take done held) ≡ unit_max = omega (arith, front_short s.1, l) in
      let fine : leb (length (take done held)) item_max ≡ true = rw (item_max_is, n) refl in (
        (
          s.0,
          s.1,
          λ x. past_all h l (Whole (item.Blank (take done held)) (length (take done held)))
              (all_now (Whole (item.Blank (take done held)) (length (take done held))) s.2) x
              ∙ rw fine refl,
        ),
        omega (arith, n),
      )

  needs_all : (to : Level) (front part : List ℕ) → front ++ part ≡ held →
      StandsIn dialect to front part → length held ≡ begun_max → first dialect held ≡ Needs
  needs_all to front part e h l =
      let len : length (front ++ part) ≡ begun_max = ap length e ∙ l in
      let k : first dialect (front ++ part) ≡ Needs =
      (begun_in dialect to front part h (omega (arith, len))).needs in
      ap (first dialect) (sym e) ∙ k

  pub looks_long : (s : Effect) → s ≢ effect.BlankEnds →
      StoodIn dialect at (take done held) (drop done held) → length held ≡ begun_max →
      Tells dialect at (take done held) (drop done held) s →
      Looks dialect at done held effect.TooLong
  looks_long effect.Waits differs h l s =
      past_all h l Needs (needs_all at (take done held) (drop done held)
      (take-append-drop done held) s l)
  looks_long (effect.Goes to) differs h l s =
      past_all h l Needs (needs_all to (take done held ++ drop done held) []
      (append-nil _ ∙ take-append-drop done held) s l)
  looks_long (effect.Plain c) differs h l s =
      let n : length (take done held ++ drop done held) ≡ begun_max =
      ap length (take-append-drop done held) ∙ l in
      let f : First = Whole (plain c.letter c.escaped)
      (length (take done held ++ drop done held)) in
      let long : leb (length (take done held ++ drop done held)) item_max ≡ false =
      rw (item_max_is, n) refl in
      λ x. past_all h l (Whole (plain c.letter c.escaped)
      (length (take done held ++ drop done held)))
      (all_now (Whole (plain c.letter c.escaped) (length (take done held ++ drop done held))) s)
      x ∙ rw long refl
  looks_long effect.UnitEnds differs h l s =
      let n : length (take done held ++ drop done held) ≡ begun_max =
      ap length (take-append-drop done held) ∙ l in
      let long : leb (length (take done held ++ drop done held)) item_max ≡ false =
      rw (item_max_is, n) refl in
      λ x. past_all h l (Whole (item.Unit s.0) (length (take done held ++ drop done held)))
      (all_now (Whole (item.Unit s.0) (length (take done held ++ drop done held)))
      (unit_always dialect (take done held ++ drop done held) s.0 s.1)) x ∙ rw long refl
  looks_long effect.ChunkEnds differs h l s =
      let all : List ℕ = take done held ++ drop done held in
      let n : length all ≡ begun_max = ap length (take-append-drop done held) ∙ l in
      let long : leb (length all) item_max ≡ false = rw (item_max_is, n) refl in
      λ x. past_all h l (Whole (item.Chunk s.0) (length all))
      (all_now (Whole (item.Chunk s.0) (length all)) s.2) x ∙ rw long refl
  looks_long effect.BlankEnds differs h l s = absurd (differs refl)
  looks_long (effect.Bad kind) differs h l s =
      past_all h l (Faulty (Bad kind)) (all_now (Faulty (Bad kind)) s.0)
  looks_long effect.TooLong differs h l s = absurd s

ends_past : (most : ℕ) (dialect : Dialect) (held : List ℕ) → length held ≡ most → InBlank held →
    Always dialect (held ++ 97 ∷ []) (Whole (item.Blank held) (length held)) →
    limited most dialect ((held ++ 97 ∷ []) ++ []) ≡ Whole (item.Blank held) (length held)
ends_past most dialect held l on always =
    let cut : take most (held ++ 97 ∷ []) ≡ held = rw (← l) (take-append_seam held (97 ∷ [])) in
    let needs : first dialect (take most (held ++ 97 ∷ [])) ≡ Needs =
    ap (first dialect) cut ∙ (begun_blank dialect held on).needs in
    let len : length (held ++ 97 ∷ []) ≡ suc most = rw (length-append, l) (omega arith) in
    let now : first dialect (held ++ 97 ∷ []) ≡ Whole (item.Blank held) (length held) =
    rw append-nil at (always []) in
    let fine : leb (length held) most ≡ true = grind (arith, nat_tests) in
    limited_past most dialect (held ++ 97 ∷ []) len needs [] ∙ rw (now, fine) refl

-- a blank within the limit that a letter ends
pub limited_ends : (most : ℕ) (dialect : Dialect) (held : List ℕ) → length held ≤ most →
    InBlank held → limited most dialect ((held ++ 97 ∷ []) ++ [])
    ≡ Whole (item.Blank held) (length held)
limited_ends most dialect held fits on =
    let always : Always dialect (held ++ 97 ∷ []) (Whole (item.Blank held) (length held)) =
    blank_ends dialect held 97 on refl refl in
    elim (cases_lt (length held) most) [
      | inl less ↦ limited_decided most dialect (held ++ 97 ∷ [])
          (Whole (item.Blank held) (length held)) (rw length-append (omega arith)) always tt []
      | inr more ↦ ends_past most dialect held (omega arith) on always
    ]
