use Rattle.std.proofs.Common.{arith, sym, subst, ◌∙◌, ◌≡◌, length, drop}
use Rattle.std.proofs.lemmas.List.{length-drop}
use Rattle.ap_stream.proofs.SignLaws as laws
use Rattle.ap_stream.proofs.UnitWords.{words_are}
use Rattle.ap_stream.specs.Units.{sign, in_surface, form_of}
use Rattle.ap_stream.specs.UnitBytes.{Signs}
use Rattle.ap_stream.specs.declared.words.Signed.{Signed}
use Rattle.ap_stream.proofs.words.words_of.Goals as goal
use Rattle.ap_stream.proofs.words.words_of.Goals.{In_ok-symbol}

-- what stands at the front of what is left
signed : (c : In_ok-symbol) (s : Signed) → c.in_ok-symbol.field-0 ≡ s →
    Signs (sign (in_surface (form_of c.args.dialect) c.loop-at.words)
    (drop c.loop-at.at c.args.held.now)) (length (drop c.loop-at.at c.args.held.now)) s
signed c s e = subst (λ (q : Signed). Signs
    (sign (in_surface (form_of c.args.dialect) c.loop-at.words) (drop c.loop-at.at c.args.held.now))
    (length (drop c.loop-at.at c.args.held.now)) q) e
    (rw (
      laws.slice_rest c.args.held.now c.loop-at.at,
      c.begins_surface.ensures,
      c.is_surfaced-surfaced.ensures,
      c.as_slice.ensures,
    ) at c.in_ok-symbol.ensures)

pub loop-at-preserved-in-Reads : goal.loop-at-preserved-in-Reads
loop-at-preserved-in-Reads c =
    let h = signed (goal.at.loop-at-preserved-in-Reads c).In_ok-symbol _ c.in-Reads.is in
    let l = length-drop c.loop-at.at c.args.held.now in
    record {
      begun = omega (arith, c.loop-at.invariant.begun);
      fits = omega (arith, h.3, l, c.loop-at.invariant.fits);
      on = rw c.in_ok-push-in-Reads.ensures.ok
          (laws.past_symbol _ _ c.requires.0 _ _ _ c.requires.1 c.loop-at.invariant.begun
          c.loop-at.invariant.on _ _ h.0 h.2 h.3);
    }

pub loop-at-preserved : goal.loop-at-preserved
loop-at-preserved c =
    let h = signed (goal.at.loop-at-preserved c).In_ok-symbol _ c.in-Slash.is in
    record {
      begun = omega (arith, c.loop-at.invariant.begun);
      fits = omega (arith, c.loop-at-test.true);
      on = rw (
        c.in_ok-push-in-Slash.ensures.ok,
        c.replace.ensures.value,
        c.replace.ensures.after,
        c.in_ok-next-in-Slash.ensures,
      )
          (laws.past_slash _ _ c.requires.0 _ _ _ c.requires.1 c.loop-at.invariant.begun
          c.loop-at.invariant.on h (omega (arith, c.loop-at-test.true)));
    }

pub returns-in-Dollar : goal.returns-in-Dollar
returns-in-Dollar c =
    let h = signed (goal.at.returns-in-Dollar c).In_ok-symbol _ c.in-Dollar.is in
    c.in_ok-push-in-Dollar.ensures.ok
    ∙ sym (words_are _ _ _ (laws.at_dollar _ _ c.requires.0 _ _ _ c.requires.1
    c.loop-at.invariant.begun c.loop-at.invariant.on h (omega (arith, c.loop-at-test.true))))

pub unreachable-requires : goal.unreachable-requires
unreachable-requires c =
    let h = signed (goal.at.unreachable-requires c).In_ok-symbol _ c.in-Brace.is in
    laws.at_brace _ _ c.requires.0 _ _ _ c.requires.1 c.loop-at.invariant.begun
    c.loop-at.invariant.on h (omega (arith, c.loop-at-test.true))

pub unreachable-requires-in-Nothing : goal.unreachable-requires-in-Nothing
unreachable-requires-in-Nothing c =
    let h = signed (goal.at.unreachable-requires-in-Nothing c).In_ok-symbol _ c.in-Nothing.is in
    laws.at_nothing _ _ c.requires.0 _ _ _ c.requires.1 c.loop-at.invariant.begun
    c.loop-at.invariant.on h

pub unreachable-requires-2 : goal.unreachable-requires-2
unreachable-requires-2 c =
    laws.at_end _ _ c.requires.0 _ _ _ c.requires.1 c.loop-at.invariant.begun c.loop-at.invariant.on
    (omega (arith, c.loop-at-test.false))
