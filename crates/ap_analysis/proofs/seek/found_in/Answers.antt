use Rattle.std.proofs.Common.{false, sym, subst, List}
use Rattle.ap_stream.specs.declared.item.Read.{Read}
use Rattle.ap_live.specs.Lexicon.{lexicon_of}
use Rattle.ap_live.proofs.Walks.{walked_blank}
use Rattle.ap_analysis.specs.Vain.{WentInVain}
use Rattle.ap_analysis.specs.Searching.{IsSearch}
use Rattle.ap_analysis.proofs.Searches.{search_grown}
use Rattle.ap_analysis.proofs.seek.found_in.Goals as goal

pub returns-in_err-read_on-clause-search : goal.returns-in_err-read_on-clause-search
returns-in_err-read_on-clause-search c =
    search_grown c.args.compiled.now c.args.sensitive c.loop.reads.items c.read_on.new.reads.items
    c.read_on.ensures.grown.0 c.loop.search c.read_on.ensures.grown.1 c.loop.invariant.search

pub look-requires : goal.look-requires
look-requires c = record {
  search = subst (λ (items : List Read). IsSearch c.args.compiled.now c.args.sensitive items
      c.loop.search) (sym c.as_slice-items.ensures.value)
      (search_grown c.args.compiled.now c.args.sensitive c.loop.reads.items
      c.read_on.new.reads.items c.read_on.ensures.grown.0 c.loop.search c.read_on.ensures.grown.1
      c.loop.invariant.search);
  walked = walked_blank c.args.compiled.now c.args.sensitive
      (WentInVain (lexicon_of c.args.compiled.now c.args.sensitive) c.as_slice-items.result.now
      false) c.new-walked.result c.new-walked.ensures;
}
