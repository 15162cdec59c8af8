-- A plain text comes back.
use Rattle.std.specs.Prelude.{◌≡◌, ℕ, List, None, refl}
use Rattle.std.specs.List.{flat_map}
use Rattle.std.proofs.Common.{ap, ◌∙◌}
use Rattle.ap_stream.specs.declared.dialect.Dialect.TheVariants.{Generated}
use Rattle.ap_stream.specs.Reading.{Reads, reads}
use Rattle.ap_stream.specs.Rest.{worked}
use Rattle.ap_stream.specs.Told.{Clean}
use Rattle.ap_format.specs.Pieces.{pieces_of}
use Rattle.ap_format.specs.Deformatted.{piece_bytes}
use Rattle.ap_format.specs.Reformatted.{bare_items}
use Rattle.ap_format.specs.Laws.{ComesBack}
use Rattle.ap_format.proofs.Texts.{text_is_cut, sources, source, plain_whole}
use Rattle.ap_format.proofs.ReadBack.{pieces_read, generated_open}

given_by : (read : Reads) (text : List ℕ) → read.stop ≡ None →
    bare_items read.items ≡ record { text = text; fault = None } →
    worked bare_items read Clean ≡ record { text = text; fault = None }
given_by read text stop given = rw (given, stop) refl

pub comes_back : ComesBack
comes_back text plain =
    let cuts = pieces_of 0 text in
    let is_cut = text_is_cut 0 text in
    let whole : (pieces_of 0 text).stop ≡ None = plain_whole text cuts is_cut plain in
    let read = pieces_read Generated generated_open 0 text cuts is_cut in (
      whole,
      given_by (reads Generated 0 (flat_map piece_bytes cuts.pieces)) (flat_map source cuts.pieces)
          read.stop read.given
          ∙ ap (λ (t : List ℕ). record { text = t; fault = None }) (sources text cuts is_cut whole),
    )
