use Rattle.std.proofs.Common.{◌≡◌, ◌==◌, ◌↔◌, ◌<◌, ℕ, Bool, true, not, List, [], ◌∷◌, length, IsTrue, refl, ap, sym, ◌∙◌, subst, arith}
use Rattle.std.proofs.lemmas.Bool.{eq-eqb, ne_eqb, or_left, false≢true}
use Rattle.std.specs.List.{list_any}
use Rattle.ap_chunk.specs.Live.{Standing, Stands, SomeLive}
use Rattle.ap_chunk.specs.Patterns.{has, is_filled}
use Rattle.ap_chunk.proofs.Indexing.{some_live, from_some_live}
use Rattle.ap_chunk.proofs.choosing.Choosing.goes_on.Goals as goal

at_first : (s : Standing) (b : Bool) → s.count ≡ 0 → b ≡ list_any is_filled s.patterns →
    (units : List (ℕ → Bool)) → Stands s units → IsTrue b ↔ SomeLive s.patterns units
at_first s b n e [] stands =
    (λ h. some_live s.patterns (sym e ∙ h), λ h. e ∙ from_some_live s.patterns h)
at_first s b n e (u ∷ units) stands = let k : s.count ≡ length (u ∷ units) = stands.counted in
    absurd (omega (arith, n, k))

some_has : (live : List ℕ) (b : Bool) → b ≡ (length live == 0) → IsTrue (not b) →
    (r : ℕ) × (has live r ≡ true)
some_has [] b e h = absurd (false≢true (sym (ap not e) ∙ h))
some_has (x ∷ live) b e h = (x, or_left (x == x) (has live x) (eq-eqb x x refl))

has_some : (live : List ℕ) (b : Bool) (r : ℕ) → b ≡ (length live == 0) → has live r ≡ true →
    IsTrue (not b)
has_some [] b r e h = absurd (false≢true h)
has_some (x ∷ live) b r e h = ap not (e ∙ ne_eqb (length (x ∷ live)) 0 (λ k. omega (arith, k)))

behind : (s : Standing) (b : Bool) → (s.count ≡ 0 → ⊥) → b ≡ (length s.live == 0) →
    (units : List (ℕ → Bool)) → Stands s units → IsTrue (not b) ↔ SomeLive s.patterns units
behind s b n e units stands =
    let k : s.count ≡ length units = stands.counted in
    let some : 0 < length units = omega (arith, n, k) in (
      λ h. let w = some_has s.live b e h in
          record { rule = w.0; live = sym (stands.rules some w.0) ∙ w.1 },
      λ h. has_some s.live b h.rule e (stands.rules some h.rule ∙ h.live),
    )

pub returns-then-self-eq0 : goal.returns-then-self-eq0
returns-then-self-eq0 c =
    let P : Standing → Type 0 = λ s. (units : List (ℕ → Bool)) → Stands s units →
    IsTrue c.some_goes_on.result ↔ SomeLive s.patterns units in
    subst P c.self.view_is (at_first
    (record {
      patterns = c.self.inside.patterns;
      count = c.self.inside.count;
      live =
          c.self.inside.live.items;
      over = c.self.inside.over;
    }) c.some_goes_on.result
    c.if-self-eq0.true c.some_goes_on.ensures)

pub returns : goal.returns
returns c =
    let e : length c.self.inside.live.items ≡ c.self.inside.live.len =
    omega (arith, c.self.inside.live.ok.0) in
    let P : Standing → Type 0 = λ s. (units : List (ℕ → Bool)) → Stands s units →
    IsTrue (not c.is_empty.result) ↔ SomeLive s.patterns units in
    subst P c.self.view_is (behind
    (record {
      patterns = c.self.inside.patterns;
      count = c.self.inside.count;
      live =
          c.self.inside.live.items;
      over = c.self.inside.over;
    }) c.is_empty.result c.if-self-eq0.false
    (c.is_empty.ensures ∙ ap (λ n. n == 0) (sym e)))
