use Rattle.std.proofs.Common.{◌≡◌, ◌+◌, List, ℕ, Option, length, rules, sym, subst}
use Rattle.ap_fst.specs.Sketches.{Sketch}
use Rattle.ap_dix.specs.declared.dictionary.Dictionary.{Dictionary}
use Rattle.ap_dix.specs.declared.dictionary.Entry.{Entry}
use Rattle.ap_compile.specs.Drafts.{IsDraftOf, Any, Spells, AreDrafts}
use Rattle.ap_compile.specs.LastUses.{AreDraftsTo, AreReleased}
use Rattle.ap_compile.proofs.LastUses.{drafted_more, drafted_less, is_unused, of_some}
use Rattle.ap_compile.proofs.paradigms.with_paradigm.Goals as goal

pub returns : goal.returns
returns c = λ d are here.
    let old : List (Option Sketch) = c.args.drafts.items in
    let at : c.len-at.result ≡ length old = search rules in
    let next : AreDrafts d c.args.direction c.as_slice.result.now =
    subst (λ (z : List (Option Sketch)). AreDrafts d c.args.direction z)
    (sym c.as_slice.ensures.value) are.made in
    let more = drafted_more d c.args.direction c.args.last.now (length old) old
    c.in_ok-draft.draft c.args.pardef.now are here
    (λ none. is_unused c.args.last.now (length old) c.len-at.result c.last_use.result
    at c.last_use.ensures (c.in_ok-draft.ensures.none none))
    (λ made is. subst (λ (z : List Entry). IsDraftOf (Any (Spells d c.args.direction) z) made)
    c.as_slice-entries.ensures
    (of_some (λ (x : Sketch). (d : Dictionary) → AreDrafts d c.args.direction c.as_slice.result.now
    → IsDraftOf (Any (Spells d c.args.direction) c.as_slice-entries.result.now) x)
    c.in_ok-draft.draft made c.in_ok-draft.ensures.made is d next)) in
    let pushed : AreDraftsTo d c.args.direction c.args.last.now (length old + 1)
    c.push.new.self.items =
    subst (λ (z : List (Option Sketch)). AreDraftsTo d c.args.direction c.args.last.now
    (length old + 1) z) (sym c.in_ok-push.ensures.items) more in
    drafted_less d c.args.direction c.args.last.now (length old) c.push.new.self.items
    c.release.new.drafts.items pushed
    (subst (λ (z : ℕ). AreReleased c.args.last.now z c.push.new.self.items
    c.release.new.drafts.items) at c.release.ensures)
