use Rattle.std.proofs.Common.{◌≡◌, ◌∙◌, ℕ, List, ◌+◌, ◌++◌, ap, append_assoc, length}
use Rattle.ap_stream.specs.declared.kept_units.Entry.{Entry}
use Rattle.ap_stream.proofs.KeptUnits.{all_kept_on, kept_added, kept_new}
use Rattle.ap_stream.proofs.kept_units.KeptUnits.keep_copy.Goals as goal

pub returns-in_err-append_both : goal.returns-in_err-append_both
returns-in_err-append_both c = λ dialect given is all.
    let made = c.make_room.new.self in
    rw c.append_both.ensures.grown.1
    (all_kept_on dialect given made.bytes.items c.append_both.ensures.grown.0 made.entries.items
    (c.make_room.ensures dialect given all))

pub returns : goal.returns
returns c = λ dialect given is all.
    let made = c.make_room.new.self in
    let key : List ℕ = c.args.key.now in
    let text : List ℕ = c.args.text.now in
    let from : ℕ = c.len-from.result in
    let at : from ≡ length made.bytes.items = c.len-from.ensures ∙ made.bytes.ok.0 in
    let entry : Entry = record {
      from = from;
      behind = from + length key;
      to = from + length key + length text;
    } in
    let new = c.in_ok-append_both.ensures.ok in
    let old = all_kept_on dialect given made.bytes.items (key ++ text) made.entries.items
    (c.make_room.ensures dialect given all) in
    let one = kept_new dialect given entry made.bytes.items key text at
    (ap (λ (n : ℕ). n + length key) at)
    (ap (λ (n : ℕ). n + length key + length text) at) is in
    rw (c.add.ensures.bytes, new, append_assoc made.bytes.items key text)
    (kept_added dialect given (made.bytes.items ++ (key ++ text)) made.entries.items
    c.add.new.self.entries.items entry c.add.ensures.entries old one)
