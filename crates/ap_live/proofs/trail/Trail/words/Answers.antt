use Rattle.std.proofs.Common.{◌≡◌, ◌++◌, ◌∷◌, [], ◌+◌, ◌∙◌, ◌≤◌, List, Some, ap, get_or, length, slice_get, subst, sym, ℕ, false, true}
use Rattle.std.specs.Prelude.{reverse}
use Rattle.std.proofs.lemmas.Option.{slice_get-get_or}
use Rattle.ap_symbol.specs.declared.symbol.Symbol.{Symbol}
use Rattle.ap_fst.specs.Lists.{IsIn}
use Rattle.ap_live.specs.Heads.{written}
use Rattle.ap_live.specs.Trails.{Trails}
use Rattle.ap_live.specs.declared.nodes.Node.{Node}
use Rattle.ap_live.proofs.TrailLaws.{AreWritten, proper_more, written_outputs, written_push, written_skip}
use Rattle.ap_live.proofs.trail.Trail.words.Goals as goal
use Rattle.ap_live.proofs.trail.Trail.words.Goals.{then-is_final+in_ok-places+in_ok-word_along+in_ok-push, else-is_final}

pub loop-at-preserved : goal.loop-at-preserved
loop-at-preserved c =
    let nodes : List Node = c.as_slice-nodes.result.now in
    let x : Node = get_or nodes c.loop-at.at (record { state = 0; edge = 0; back = 0 }) in
    let there : slice_get nodes c.loop-at.at ≡ Some x =
    slice_get-get_or nodes c.loop-at.at (record { state = 0; edge = 0; back = 0 })
    c.loop-at-test.true in
    elim c.if-is_final.branch [
      | then-is_final+in_ok-places+in_ok-word_along+in_ok-push w ↦
          let word : List Symbol = w.in_ok-word_along.field-0 in
          let grown : c.if-is_final.words.items ≡ c.loop-at.words.items ++ word ∷ [] =
          ap (λ v. v.items) w.words-is ∙ w.in_ok-push.ensures.items in
          record {
            written = λ outlined. written_push c.args.fst.now nodes c.low-low.result c.loop-at.at x
                c.loop-at.words.items c.if-is_final.words.items word c.loop-at.auto.at there
                (c.is_final.ensures.holds.0 w.if-is_final.true)
                (λ places back. w.in_ok-word_along.ensures.is outlined
                ∙ ap (λ (z : List ℕ). reverse (written c.args.fst.now.edges z))
                (w.in_ok-places.ensures places back)) grown
                (c.loop-at.invariant.written outlined);
            proper = proper_more c.loop-at.words.items c.if-is_final.words.items word grown
                w.in_ok-word_along.ensures.proper c.loop-at.invariant.proper;
          }
      | else-is_final w ↦
          let same : c.if-is_final.words.items ≡ c.loop-at.words.items =
          ap (λ v. v.items) w.words-is in
          record {
            written = λ outlined. subst (λ (z : List (List Symbol)). AreWritten c.args.fst.now nodes
                c.low-low.result (c.loop-at.at + 1) z) (sym same)
                (written_skip c.args.fst.now nodes c.low-low.result c.loop-at.at x
                c.loop-at.words.items there
                (λ i. let t : c.is_final.result ≡ true = c.is_final.ensures.holds.1 i in
                let f : c.is_final.result ≡ false = w.if-is_final.false in absurd (cc))
                (c.loop-at.invariant.written outlined));
            proper = λ v i. c.loop-at.invariant.proper v
                (subst (λ (z : List (List Symbol)). IsIn v z) same i);
          }
    ]

pub returns-clause-members : goal.returns-clause-members
returns-clause-members c = λ outlined seen is.
    let nodes : List Node = c.args.self.now.nodes in
    let view : c.as_slice-nodes.result.now ≡ nodes =
    c.as_slice-nodes.ensures.value ∙ ap (λ (t : Trails). t.nodes) c.self.view_is in
    written_outputs c.args.fst.now nodes seen c.low-low.result c.loop-at.at c.loop-at.words.items
    c.sort_words.new.words.items (c.low-low.ensures.row c.args.fst.now.edges seen is)
    (subst (λ (z : List Node). length z ≤ c.loop-at.at) view c.loop-at-test.false)
    (subst (λ (z : List Node). AreWritten c.args.fst.now z c.low-low.result c.loop-at.at
    c.loop-at.words.items) view (c.loop-at.invariant.written outlined)) c.sort_words.ensures.members
