use Rattle.std.proofs.Common.{◌≡◌, ◌<◌, ◌≤◌, [], ap, sym, subst, ◌∙◌, ◌++◌, length, arith, append-nil, List}
use Rattle.std.specs.Prelude.{OnOk}
use Rattle.std.specs.List.{flat_map}
use Rattle.std.proofs.lemmas.Bool.Decides.{nat_tests}
use Rattle.ap_symbol.specs.declared.symbol.Symbol.{Symbol}
use Rattle.ap_compound.specs.Places.{joins, words_at, going}
use Rattle.ap_compound.proofs.Steps.{words_at_read, words_at_past, going_counted}
use Rattle.ap_compound.proofs.listing.push_going.Goals as goal

pub returns-in-None : goal.returns-in-None
returns-in-None c =
    let past : length c.deref.result.now ≤ c.args.k =
    grind (arith, nat_tests, c.in-None.ensures.lookup.0) in
    let none : words_at c.args.place.now.lefts.items c.args.k ≡ [] =
    ap (λ (z : List (List (List Symbol))). words_at z c.args.k) (sym c.deref.ensures.value)
    ∙ words_at_past c.deref.result.now c.args.k past in
    sym (append-nil c.args.into.now.items)
    ∙ ap (λ (z : List (List Symbol)). c.args.into.now.items ++ z)
    (going_counted c.args.place.now c.args.next c.args.k c.args.listed.now []
    (sym c.if-not-is_number.ensures) none)

pub returns-in-Some : goal.returns-in-Some
returns-in-Some c =
    let within : c.args.k < length c.deref.result.now =
    grind (arith, nat_tests, c.in-Some.ensures.lookup.0) in
    let some : words_at c.args.place.now.lefts.items c.args.k ≡ c.in-Some.fronts.now =
    ap (λ (z : List (List (List Symbol))). words_at z c.args.k) (sym c.deref.ensures.value)
    ∙ words_at_read c.deref.result.now c.args.k c.in-Some.fronts.now within
    c.in-Some.ensures.lookup.1 in
    let same : flat_map (joins c.as_slice-in-Some.result.now) c.as_slice.result.now
    ≡ going c.args.place.now c.args.next c.args.k c.args.listed.now =
    ap (λ (z : List (List Symbol)). flat_map (joins z) c.as_slice.result.now)
    c.as_slice-in-Some.ensures
    ∙ ap (flat_map (joins c.args.listed.now.words)) c.as_slice.ensures
    ∙ going_counted c.args.place.now c.args.next c.args.k c.args.listed.now
    c.in-Some.fronts.now (sym c.if-not-is_number.ensures) some in
    subst (λ (z : List (List Symbol)). OnOk c.push_joined.result
    (c.push_joined.new.into.items ≡ c.args.into.now.items ++ z)) same c.push_joined.ensures
