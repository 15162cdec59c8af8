use Rattle.std.proofs.Common.{◌≡◌, ◌++◌, take}
use Rattle.std.specs.Str.{encode_utf8_all}
use Rattle.ap_expand.proofs.walk.push_characters.Given as goal

abbrev pub invariant-loop-c : goal.invariant-loop-c
invariant-loop-c l = l.bytes.items ≡ l.initial.bytes.items
    ++ encode_utf8_all (take l.c-index l.text)
