use Rattle.std.proofs.Common.{arith, ap, sym, subst, ◌∙◌, refl, ◌≡◌, ◌<◌, [], ◌∷◌, ◌++◌, length, drop, true, false, eqb, slice_get}
use Rattle.std.proofs.lemmas.List.{length-drop}
use Rattle.std.proofs.Common.{length-append, Bool}
use Rattle.std.proofs.lemmas.Bool.Decides.{nat_tests}
use Rattle.std.proofs.lemmas.Bool.{eqb-true}
use Rattle.ap_stream.specs.Units.{sign, in_surface, form_of, Dollar}
use Rattle.ap_stream.specs.UnitBytes.{IsAt, unit_words, Signs}
use Rattle.ap_stream.specs.declared.words.Signed.{Signed}
use Rattle.ap_stream.proofs.SignLaws as laws
use Rattle.ap_stream.proofs.UnitWords as units
use Rattle.ap_stream.proofs.words.read_word.Goals as goal
use Rattle.ap_stream.proofs.words.read_word.Goals.{In_ok-symbol}

-- what stands at the front of what is left
signed : (c : In_ok-symbol) (s : Signed) → c.in_ok-symbol.field-0 ≡ s →
    Signs (sign (in_surface (form_of c.args.dialect) c.loop-at.invariant.on.0)
    (drop c.loop-at.at c.args.held.now)) (length (drop c.loop-at.at c.args.held.now)) s
signed c s e = subst (λ (q : Signed). Signs
    (sign (in_surface (form_of c.args.dialect) c.loop-at.invariant.on.0)
    (drop c.loop-at.at c.args.held.now)) (length (drop c.loop-at.at c.args.held.now)) q) e
    (rw (
      laws.slice_rest c.args.held.now c.loop-at.at,
      c.is_surface_behind.ensures,
      c.is_surfaced-surfaced.ensures,
      ← units.none_is c.loop-at.invariant.on.0 c.loop-at.behind c.loop-at.invariant.on.1,
    )
    at c.in_ok-symbol.ensures)

pub loop-at-preserved-in-Reads : goal.loop-at-preserved-in-Reads
loop-at-preserved-in-Reads c =
    let h = signed (goal.at.loop-at-preserved-in-Reads c).In_ok-symbol _ c.in-Reads.is in
    let l = length-drop c.loop-at.at c.args.held.now in
    record {
      begun = omega (arith, c.loop-at.invariant.begun);
      fits = omega (arith, h.3, l, c.loop-at.invariant.fits);
      sought = c.loop-at.invariant.sought;
      on = (
        c.loop-at.invariant.on.0,
        c.loop-at.invariant.on.1,
        rw c.in_ok-push-in-Reads.ensures.ok
            (laws.past_symbol _ _ c.requires.0 _ _ _ c.requires.1 c.loop-at.invariant.begun
            c.loop-at.invariant.on.2 _ _ h.0 h.2 h.3),
      );
    }

pub returns-then-behind-wanted : goal.returns-then-behind-wanted
returns-then-behind-wanted c =
    let h = signed (goal.at.returns-then-behind-wanted c).In_ok-symbol _ c.in-Slash.is in
    let same : length c.loop-at.invariant.on.0 ≡ c.args.wanted = c.loop-at.invariant.on.1
    ∙ omega (arith, c.if-behind-wanted.true) in
    ap (slice_get (unit_words c.args.dialect c.args.held.now)) (sym same)
    ∙ units.found_slash _ _ c.requires.0 _ _ _ c.requires.1 c.loop-at.invariant.begun
    c.loop-at.invariant.on.2 h (omega (arith, c.loop-at-test.true))

pub loop-at-preserved : goal.loop-at-preserved
loop-at-preserved c =
    let h = signed (goal.at.loop-at-preserved c).In_ok-symbol _ c.in-Slash.is in
    let words = c.loop-at.invariant.on.0 in
    let size = length-append words (c.loop-at.into ∷ []) in
    record {
      begun = omega (arith, c.loop-at.invariant.begun);
      fits = omega (arith, c.loop-at-test.true);
      sought = omega (arith, c.loop-at.invariant.sought, c.if-behind-wanted.false);
      on = (
        words ++ c.loop-at.into ∷ [],
        omega (arith, size, c.loop-at.invariant.on.1),
        rw c.clear-in-Slash.ensures
            (laws.past_slash _ _ c.requires.0 _ _ _ c.requires.1 c.loop-at.invariant.begun
            c.loop-at.invariant.on.2 h (omega (arith, c.loop-at-test.true))),
      );
    }

pub returns-in-Dollar : goal.returns-in-Dollar
returns-in-Dollar c =
    let h = signed (goal.at.returns-in-Dollar c).In_ok-symbol _ c.in-Dollar.is in
    let inside : c.loop-at.at < length c.args.held.now = omega (arith, c.loop-at-test.true) in
    by (eqb c.loop-at.behind c.args.wanted) refl h inside
  where
    by : (v : Bool) → eqb c.loop-at.behind c.args.wanted ≡ v →
        sign (in_surface (form_of c.args.dialect) c.loop-at.invariant.on.0)
        (drop c.loop-at.at c.args.held.now) ≡ Dollar → c.loop-at.at < length c.args.held.now
        → IsAt (unit_words c.args.dialect c.args.held.now) c.args.wanted v c.loop-at.into
    by true e h inside =
        ap (slice_get (unit_words c.args.dialect c.args.held.now))
        (sym (c.loop-at.invariant.on.1 ∙ eqb-true c.loop-at.behind c.args.wanted e))
        ∙ units.found_dollar _ _ c.requires.0 _ _ _ c.requires.1 c.loop-at.invariant.begun
        c.loop-at.invariant.on.2 h inside
    by false e h inside =
        let less : c.loop-at.behind < c.args.wanted =
        grind (arith, nat_tests, e, c.loop-at.invariant.sought) in
        units.missing_dollar _ _ c.requires.0 _ _ _ c.requires.1 c.loop-at.invariant.begun
        c.loop-at.invariant.on.2 c.args.wanted h inside
        (omega (arith, less, c.loop-at.invariant.on.1))

pub unreachable-requires : goal.unreachable-requires
unreachable-requires c =
    let h = signed (goal.at.unreachable-requires c).In_ok-symbol _ c.in-Brace.is in
    laws.at_brace _ _ c.requires.0 _ _ _ c.requires.1 c.loop-at.invariant.begun
    c.loop-at.invariant.on.2 h (omega (arith, c.loop-at-test.true))

pub unreachable-requires-in-Nothing : goal.unreachable-requires-in-Nothing
unreachable-requires-in-Nothing c =
    let h = signed (goal.at.unreachable-requires-in-Nothing c).In_ok-symbol _ c.in-Nothing.is in
    laws.at_nothing _ _ c.requires.0 _ _ _ c.requires.1 c.loop-at.invariant.begun
    c.loop-at.invariant.on.2 h

pub unreachable-requires-2 : goal.unreachable-requires-2
unreachable-requires-2 c =
    laws.at_end _ _ c.requires.0 _ _ _ c.requires.1 c.loop-at.invariant.begun
    c.loop-at.invariant.on.2 (omega (arith, c.loop-at-test.false))
