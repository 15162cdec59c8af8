use Rattle.std.proofs.Common.{arith, ap, sym, ◌∙◌, refl, ◌≡◌, ◌<◌, ◌≤◌, [], length, take, drop, None}
use Rattle.std.proofs.lemmas.Grind.{common_steps}
use Rattle.ap_stream.specs.Limits.{unit_max}
use Rattle.ap_stream.specs.Given.{Begun}
use Rattle.ap_stream.specs.Stands.{StandsIn}
use Rattle.ap_stream.proofs.GivenLaws as given
use Rattle.ap_stream.proofs.reader.Reader.last.Goals as goal
use Rattle.ap_stream.proofs.reader.Reader.last.Goals.{Else-is_empty}

stands : (c : Else-is_empty) →
    StandsIn c.self.inside.dialect c.self.inside.level
    (take c.self.inside.done c.self.inside.held.items)
    (drop c.self.inside.done c.self.inside.held.items)
    × (length c.self.inside.held.items ≤ unit_max)
stands c =
    let none : c.self.inside.fault ≡ None = ap (λ (s : Begun). s.fault) c.self.view_is
    ∙ c.requires.going in
    given.stands_looked _ _ _ _ _ (ap (λ (s : Begun). s.looked) c.self.view_is ∙ c.requires.looked)
    (c.self.invariant.1 none)

some : (c : Else-is_empty) → 0 < length c.self.inside.held.items
some c = grind (arith, common_steps, c.self.inside.held.ok.0)

pub invariant_of-self : goal.invariant_of-self
invariant_of-self c =
    let nil : c.replace-bytes.new.dest.items ≡ [] =
    rw c.replace-bytes.ensures.after c.new.ensures.items in (
      let n = ap length nil in
          omega (arith, n),
      λ _. rw (ap (λ (s : Begun). s.looked) c.self.view_is ∙ c.requires.looked)
          (given.stands_new _ c.replace-bytes.new.dest.items nil),
    )

pub returns-then-is_blank-clause-given : goal.returns-then-is_blank-clause-given
returns-then-is_blank-clause-given c =
    let nil : c.replace-bytes.new.dest.items ≡ [] =
    rw c.replace-bytes.ensures.after c.new.ensures.items in
    let same : c.replace-bytes.result.items ≡ c.self.inside.held.items =
    rw c.replace-bytes.ensures.value refl in
    let size : c.len.result ≡ length c.self.inside.held.items =
    c.len.ensures ∙ c.replace-bytes.result.ok.0 ∙ ap length same in
    let at = (goal.at.returns-then-is_blank-clause-given c).Else-is_empty in
    given.last_whole _ _ _ _ c.self.inside.level (stands at).0 (stands at).1 (some at) _ _ _
    c.self.view_is
    (sym c.is_blank.ensures ∙ c.if-is_blank.true) _ _ _ _ _ (c.from_vec.ensures ∙ same) size nil

pub returns-then-is_blank-clause-item : goal.returns-then-is_blank-clause-item
returns-then-is_blank-clause-item c =
    let same : c.replace-bytes.result.items ≡ c.self.inside.held.items =
    rw c.replace-bytes.ensures.value refl in
    let size : c.len.result ≡ length c.self.inside.held.items =
    c.len.ensures ∙ c.replace-bytes.result.ok.0 ∙ ap length same in
    let at = (goal.at.returns-then-is_blank-clause-item c).Else-is_empty in
    rw (← ap (λ (s : Begun). s.dialect) c.self.view_is)
    (given.last_read c.self.inside.dialect _ _ _ c.self.inside.level (stands at).0 (stands at).1
    (some at) (sym c.is_blank.ensures ∙ c.if-is_blank.true) _ _
    (c.from_vec.ensures ∙ same) size)

pub returns-else-is_blank-clause-shown : goal.returns-else-is_blank-clause-shown
returns-else-is_blank-clause-shown c = λ _.
    let at = (goal.at.returns-else-is_blank-clause-shown c).Else-is_empty in (
      ap (λ (s : Begun). s.held) c.self.view_is,
      ap (λ (s : Begun). s.place) c.self.view_is,
      given.last_broken _ _ _ _ c.self.inside.level (stands at).0 (stands at).1 (some at)
          (sym c.is_blank.ensures ∙ c.if-is_blank.false),
    )
