use Rattle.std.proofs.Common.{rules, ◌∙◌}
use Rattle.std.specs.IoError.{error_kind}
use Rattle.ap_outside.specs.Disk.{IsRefusalFor}
use Rattle.ap_outside.proofs.Limits.{whole_of}
use Rattle.ap_outside.proofs.disk_files.read_whole.Goals as goal

pub returns-clause-whole : goal.returns-clause-whole
returns-clause-whole g c =
    whole_of g.F.Read.remaining c.args.file c.take.result.inner c.args.most c.take.result.limit
    c.read_to_end-read.new.buf.items c.new-bytes.result.items c.read_to_end-read.result
    c.read_of.result (λ error. IsRefusalFor (error_kind error)) c.take.ensures.inner
    (c.take.ensures.limit ∙ c.saturating_add.ensures) (search rules) c.new-bytes.ensures.items
    c.read_to_end-read.ensures.bytes c.read_of.ensures.whole c.read_of.ensures.most
    c.read_of.ensures.failed
