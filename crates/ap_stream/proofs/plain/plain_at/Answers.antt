use Rattle.std.proofs.Common.{◌≡◌, ◌&&◌, ◌∙◌, sym, refl, false, eqb, arith}
use Rattle.ap_stream.specs.Units.{form_of}
use Rattle.ap_stream.proofs.PlainWords.{behind_next, slash_rendered, dollar_rendered, no_surface}
use Rattle.ap_stream.proofs.plain.plain_at.Goals as goal

pub loop-behind-preserved : goal.loop-behind-preserved
loop-behind-preserved c =
    let slash = c.has_at.ensures c.if-not-has_at.false in
    record {
      sought = omega (arith, c.loop-behind-test.true);
      within = omega (arith, slash.0);
      stands = behind_next _ _ _ c.requires.1 _ _ c.loop-behind.invariant.stands _
          c.plain_end-end.ensures.value slash.0 slash.1;
    }

pub returns-then-has_at : goal.returns-then-has_at
returns-then-has_at c =
    let h = c.loop-behind.invariant.stands in
    let there : c.loop-behind.behind ≡ c.args.wanted =
    omega (arith, c.loop-behind-test.false, c.loop-behind.invariant.sought) in
    let slash = c.has_at-2.ensures c.if-has_at.true in
    let bare : (eqb c.args.wanted 0 && (form_of c.args.dialect).surface) ≡ false =
    sym c.is_surface_at.ensures ∙ c.if-is_surface_at.false in
    rw there at (slash_rendered _ _ _ c.requires.1 _ _ h _ _
    (no_surface (form_of c.args.dialect) h.words _ (h.counted ∙ there) bare)
    c.plain_end-end-2.ensures.value slash.0 slash.1 refl)

pub returns-then-has_at-2 : goal.returns-then-has_at-2
returns-then-has_at-2 c =
    let h = c.loop-behind.invariant.stands in
    let there : c.loop-behind.behind ≡ c.args.wanted =
    omega (arith, c.loop-behind-test.false, c.loop-behind.invariant.sought) in
    let dollar = c.has_at-3.ensures c.if-has_at-2.true in
    let bare : (eqb c.args.wanted 0 && (form_of c.args.dialect).surface) ≡ false =
    sym c.is_surface_at.ensures ∙ c.if-is_surface_at.false in
    rw there at (dollar_rendered _ _ _ c.requires.1 _ _ h _ _
    (no_surface (form_of c.args.dialect) h.words _ (h.counted ∙ there) bare)
    c.plain_end-end-2.ensures.value dollar.0 dollar.1 refl)
