use Rattle.std.proofs.Common.{◌≡◌, ◌≤◌, ◌+◌, ◌∙◌, sym, ap, drop, get_or, length, arith, false}
use Rattle.ap_command.proofs.Openings.{count_from, counted, at-end, on-byte, by-slashed, by-slash, by-closing, by-opening, by-inner, by-other}
use Rattle.ap_stream.specs.declared.dialect.Dialect.TheVariants.{Generated}
use Rattle.ap_command.proofs.working.count_superblanks.Goals.{then-escaped, else-escaped+then-byte-eq92, else-escaped+else-byte-eq92+then-byte-eq93, else-escaped+else-byte-eq92+else-byte-eq93+then-byte-eq91+then-not-inside, else-escaped+else-byte-eq92+else-byte-eq93+else-byte-eq91, else-byte-eq91-via-then-byte-eq91+else-not-inside, else-byte-eq91-via-else-byte-eq91}
use Rattle.ap_command.proofs.working.count_superblanks.Goals as goal

pub returns : goal.returns
returns c = λ superblanks h.
    at-end c.loop-byte.inside c.loop-byte.escaped c.args.text.now c.loop-byte.byte-index
    c.loop-byte.count (omega (arith, c.loop-byte-test.false)) c.loop-byte.invariant.whole
    ∙ counted c.args.text.now superblanks h
    ∙ sym (ap length (c.superblanks_are_scanned.ensures Generated c.args.text.now superblanks h))

pub loop-byte-preserved : goal.loop-byte-preserved
loop-byte-preserved c =
    let l = c.loop-byte in
    let b = get_or c.args.text.now l.byte-index 0 in
    let bs = drop (l.byte-index + 1) c.args.text.now in
    let on = on-byte l.inside l.escaped c.args.text.now l.byte-index l.count
    (count_from false false c.args.text.now)
    (c.if-escaped.count + count_from c.if-escaped.inside c.if-escaped.escaped bs)
    c.loop-byte-test.true l.invariant.whole in
    elim c.if-escaped.branch [
      | then-escaped w ↦ record {
        whole = on (omega (
          arith,
          w.count-is,
          by-slashed l.inside l.escaped c.if-escaped.inside
              c.if-escaped.escaped b bs w.if-escaped.true w.inside-is w.escaped-is,
        ));
        bound = omega (arith, w.count-is, l.invariant.bound);
      }
      | else-escaped+then-byte-eq92 w ↦ record {
        whole = on (omega (
          arith,
          w.count-is,
          by-slash l.inside l.escaped c.if-escaped.inside
              c.if-escaped.escaped b bs w.if-escaped.false w.if-byte-eq92.true w.inside-is w.escaped-is,
        ));
        bound = omega (arith, w.count-is, l.invariant.bound);
      }
      | else-escaped+else-byte-eq92+then-byte-eq93 w ↦ record {
        whole = on (omega (
          arith,
          w.count-is,
          by-closing l.inside l.escaped c.if-escaped.inside
              c.if-escaped.escaped b bs w.if-escaped.false w.if-byte-eq93.true w.inside-is w.escaped-is,
        ));
        bound = omega (arith, w.count-is, l.invariant.bound);
      }
      | else-escaped+else-byte-eq92+else-byte-eq93+then-byte-eq91+then-not-inside w ↦ record {
        whole = on (omega (
          arith,
          w.count-is,
          by-opening l.inside l.escaped c.if-escaped.inside
              c.if-escaped.escaped b bs w.if-escaped.false w.if-byte-eq91.true w.if-not-inside.true
              w.inside-is w.escaped-is,
        ));
        bound = omega (arith, w.count-is, l.invariant.bound);
      }
      | else-escaped+else-byte-eq92+else-byte-eq93+else-byte-eq91 w ↦ record {
        whole = elim w.else-byte-eq91.branch [
          | else-byte-eq91-via-then-byte-eq91+else-not-inside x ↦
              on (omega (
                arith,
                w.count-is,
                by-inner l.inside l.escaped c.if-escaped.inside
                    c.if-escaped.escaped b bs w.if-escaped.false x.if-byte-eq91.true x.if-not-inside.false
                    w.inside-is w.escaped-is,
              ))
          | else-byte-eq91-via-else-byte-eq91 x ↦
              on (omega (
                arith,
                w.count-is,
                by-other l.inside l.escaped c.if-escaped.inside
                    c.if-escaped.escaped b bs w.if-escaped.false w.if-byte-eq92.false w.if-byte-eq93.false
                    x.if-byte-eq91.false w.inside-is w.escaped-is,
              ))
        ];
        bound = omega (arith, w.count-is, l.invariant.bound);
      }
    ]
