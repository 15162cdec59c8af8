use Rattle.std.proofs.Common.{◌+◌, ◌<◌, ◌++◌, ◌∷◌, [], ℕ, Bool, List, Vec, Global, length, sym, subst}
use Rattle.ap_chunk.specs.Choice.{unit_of}
use Rattle.ap_chunk.specs.Live.{Standing, Stands, AreLive}
use Rattle.ap_chunk.proofs.Lives.{stepped}
use Rattle.ap_chunk.proofs.choosing.Choosing.step.Goals as goal

pub returns-clause-stands : goal.returns-clause-stands
returns-clause-stands c =
    let u = unit_of c.args.unit.now in
    let before : Standing = record {
      patterns = c.self.inside.patterns;
      count =
          c.self.inside.count;
      live = c.self.inside.live.items;
      over = c.self.inside.over;
    } in
    let listed : (units : List (ℕ → Bool)) → AreLive before.patterns units before.live →
    AreLive before.patterns units c.as_slice.result.now =
    λ units are. (let P : List ℕ → Type 0 = λ l. AreLive before.patterns units l in
    subst P (sym c.as_slice.ensures.value) are) in
    let P : Standing → Type 0 = λ s. (units : List (ℕ → Bool)) →
    length units + 1 < 18446744073709551616 → Stands s units
    → Stands (record {
      patterns = c.self.inside.patterns;
      count =
          c.saturating_add-self-inside.result;
      live = c.swap.new.x.items;
      over = c.in_ok-over.over;
    })
    (units ++ u ∷ []) in
    let Q : Vec ℕ Global → Type 0 = λ v. (units : List (ℕ → Bool)) →
    length units + 1 < 18446744073709551616 → Stands before units
    → Stands (record {
      patterns = c.self.inside.patterns;
      count =
          c.saturating_add-self-inside.result;
      live = v.items;
      over = c.in_ok-over.over;
    })
    (units ++ u ∷ []) in
    subst P c.self.view_is (subst Q (sym c.swap.ensures.x_after)
    (stepped before c.saturating_add-self-inside.result c.go_on.new.kept.items c.in_ok-over.over u
    c.saturating_add-self-inside.ensures
    (λ units n are. c.in_ok-over.ensures.kept units n (listed units are))
    (λ units n are. c.in_ok-over.ensures.over units n (listed units are))))
