use Rattle.std.proofs.Common.{◌≡◌, ◌+◌, None, length, arith, ap, ◌∙◌}
use Rattle.ap_fst.specs.Machines.{Machine}
use Rattle.ap_binary.specs.Grammar.{IsRaw}
use Rattle.ap_binary.specs.Lines.{edges_in, finals_in}
use Rattle.ap_binary.proofs.Edges.{AreEdges, AreFinals, edges_are, finals_are, ok_holds, raw_read}
use Rattle.ap_binary.proofs.sections.read_section.Goals as goal

pub build-fst-requires : goal.build-fst-requires
build-fst-requires c =
    let states = c.in_ok-counts.counts.states in
    let es = c.in_ok-edges.edges in
    let fs = c.in_ok-finals.finals in
    let m : Machine = record { states = states; edges = es; finals = fs } in
    let edges : AreEdges c.in_ok-counts.counts.edges states None es =
    ok_holds (edges_in c.in_ok-counts.counts.edges states None (c.args.line + 1)
    c.in_ok-counts.rest.now) (es, c.in_ok-edges.rest.now)
    (λ x. AreEdges c.in_ok-counts.counts.edges states None x.0)
    (edges_are c.in_ok-counts.counts.edges states (c.args.line + 1) None
    c.in_ok-counts.rest.now) c.in_ok-edges.ensures.gives in
    let finals : AreFinals c.in_ok-counts.counts.finals states 0 fs =
    ok_holds (finals_in c.in_ok-counts.counts.finals states 0
    (c.args.line + 1 + c.in_ok-counts.counts.edges) c.in_ok-edges.rest.now)
    (fs, c.in_ok-finals.rest.now) (λ x. AreFinals c.in_ok-counts.counts.finals states 0 x.0)
    (finals_are c.in_ok-counts.counts.finals states 0
    (c.args.line + 1 + c.in_ok-counts.counts.edges) c.in_ok-edges.rest.now)
    c.in_ok-finals.ensures.gives in
    let raw : IsRaw m = raw_read m c.in_ok-counts.counts.edges c.in_ok-counts.counts.finals
    c.in_ok-counts.ensures.some edges finals in
    raw.sound

pub returns-clause-lines : goal.returns-clause-lines
returns-clause-lines c =
    let states = c.in_ok-counts.counts.states in
    let es = c.in_ok-edges.edges in
    let fs = c.in_ok-finals.finals in
    let edges : AreEdges c.in_ok-counts.counts.edges states None es =
    ok_holds (edges_in c.in_ok-counts.counts.edges states None (c.args.line + 1)
    c.in_ok-counts.rest.now) (es, c.in_ok-edges.rest.now)
    (λ x. AreEdges c.in_ok-counts.counts.edges states None x.0)
    (edges_are c.in_ok-counts.counts.edges states (c.args.line + 1) None
    c.in_ok-counts.rest.now) c.in_ok-edges.ensures.gives in
    let finals : AreFinals c.in_ok-counts.counts.finals states 0 fs =
    ok_holds (finals_in c.in_ok-counts.counts.finals states 0
    (c.args.line + 1 + c.in_ok-counts.counts.edges) c.in_ok-edges.rest.now)
    (fs, c.in_ok-finals.rest.now) (λ x. AreFinals c.in_ok-counts.counts.finals states 0 x.0)
    (finals_are c.in_ok-counts.counts.finals states 0
    (c.args.line + 1 + c.in_ok-counts.counts.edges) c.in_ok-edges.rest.now)
    c.in_ok-finals.ensures.gives in
    let e : length c.build-fst.result.edges ≡ c.in_ok-counts.counts.edges =
    ap (λ (m : Machine). length m.edges) c.build-fst.ensures ∙ edges.counted in
    let f : length c.build-fst.result.finals ≡ c.in_ok-counts.counts.finals =
    ap (λ (m : Machine). length m.finals) c.build-fst.ensures ∙ finals.counted in
    omega (
      arith,
      e,
      f,
      c.in_ok-counts.ensures.shorter,
      c.in_ok-edges.ensures.lines,
      c.in_ok-finals.ensures.lines,
    )
