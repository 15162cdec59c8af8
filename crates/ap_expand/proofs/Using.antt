-- What ways use, gathered from the first part, entry or paradigm on.
use Rattle.std.proofs.Common.{◌≡◌, ℕ, ◌+◌, ◌<◌, ◌≤◌, Bool, true, false, List, [], ◌∷◌, ◌++◌, length, get_or, drop, refl, sym, ap, ◌∙◌}
use Rattle.std.specs.Prelude.{◌||◌, ◌&&◌, if◌then◌else◌}
use Rattle.std.proofs.lemmas.List.{drop_more, drop_all}
use Rattle.ap_dix.specs.declared.dictionary.Entry.{Entry}
use Rattle.ap_dix.specs.declared.dictionary.EntryPart.{EntryPart}
use Rattle.ap_dix.specs.declared.dictionary.Pardef.{Pardef}
use Rattle.ap_expand.specs.Uses.{both, neither, with_uses, shared_uses, part_uses, parts_uses, entry_uses, with_entry_uses, entries_uses, pardefs_uses}
use Rattle.ap_expand.specs.declared.uses.Uses.{Uses}

same-uses : (a b c d : Bool) → a ≡ c → b ≡ d → (let u : Uses = record { lr = a; rl = b } in u)
    ≡ record { lr = c; rl = d }
same-uses a b c d e f = λ i. record { lr = e i; rl = f i }

or-assoc : (a b c : Bool) → ((a || b) || c) ≡ (a || (b || c))
or-assoc true b c = refl
or-assoc false b c = refl

or-false : (b : Bool) → (b || false) ≡ b
or-false true = refl
or-false false = refl

and-assoc : (a b c : Bool) → ((a && b) && c) ≡ (a && (b && c))
and-assoc true b c = refl
and-assoc false b c = refl

and-true : (b : Bool) → (b && true) ≡ b
and-true true = refl
and-true false = refl

with-assoc : (a b c : Uses) → with_uses (with_uses a b) c ≡ with_uses a (with_uses b c)
with-assoc a b c = same-uses ((a.lr || b.lr) || c.lr) ((a.rl || b.rl) || c.rl)
    (a.lr || (b.lr || c.lr)) (a.rl || (b.rl || c.rl)) (or-assoc a.lr b.lr c.lr)
    (or-assoc a.rl b.rl c.rl)

shared-assoc : (a b c : Uses) → shared_uses (shared_uses a b) c ≡ shared_uses a (shared_uses b c)
shared-assoc a b c = same-uses ((a.lr && b.lr) && c.lr) ((a.rl && b.rl) && c.rl)
    (a.lr && (b.lr && c.lr)) (a.rl && (b.rl && c.rl)) (and-assoc a.lr b.lr c.lr)
    (and-assoc a.rl b.rl c.rl)

with-neither : (a : Uses) → with_uses a neither ≡ a
with-neither a = same-uses (a.lr || false) (a.rl || false) a.lr a.rl (or-false a.lr) (or-false a.rl)

shared-both : (a : Uses) → shared_uses a both ≡ a
shared-both a = same-uses (a.lr && true) (a.rl && true) a.lr a.rl (and-true a.lr) (and-true a.rl)

-- parts

pub parts-on : (uses : List Uses) (parts : List EntryPart) (i : ℕ) (x : EntryPart) (made : Uses) →
    i < length parts → x ≡ get_or parts i x →
    with_uses made (parts_uses uses (drop i parts)) ≡ parts_uses uses parts →
    with_uses (with_uses made (part_uses uses x)) (parts_uses uses (drop (i + 1) parts))
    ≡ parts_uses uses parts
parts-on uses parts i x made lt is h =
    let rest : Uses = parts_uses uses (drop (i + 1) parts) in
    with-assoc made (part_uses uses x) rest
    ∙ ap (λ (y : EntryPart). with_uses made (with_uses (part_uses uses y) rest)) is
    ∙ sym (ap (λ (ps : List EntryPart). with_uses made (parts_uses uses ps))
    (drop_more parts i x lt)) ∙ h

pub parts-done : (uses : List Uses) (parts : List EntryPart) (i : ℕ) (made : Uses) →
    length parts ≤ i → with_uses made (parts_uses uses (drop i parts)) ≡ parts_uses uses parts →
    made ≡ parts_uses uses parts
parts-done uses parts i made le h =
    sym (with-neither made)
    ∙ sym (ap (λ (ps : List EntryPart). with_uses made (parts_uses uses ps)) (drop_all i parts le))
    ∙ h

-- entries

kept-uses : (uses : List Uses) (made : Uses) (entry : Entry) →
    with_entry_uses uses made entry ≡ shared_uses made (with_entry_uses uses both entry)
kept-uses uses made entry =
    elim entry.ignored as (λ b. (if b then made else shared_uses made (entry_uses uses entry))
    ≡ shared_uses made (if b then both else shared_uses both (entry_uses uses entry))) [
      | true ↦ sym (shared-both made)
      | false ↦ refl
    ]

pub entries-on : (uses : List Uses) (entries : List Entry) (i : ℕ) (x : Entry) (made : Uses) →
    i < length entries → x ≡ get_or entries i x →
    shared_uses made (entries_uses uses (drop i entries)) ≡ entries_uses uses entries →
    shared_uses (with_entry_uses uses made x) (entries_uses uses (drop (i + 1) entries))
    ≡ entries_uses uses entries
entries-on uses entries i x made lt is h =
    let rest : Uses = entries_uses uses (drop (i + 1) entries) in
    ap (λ (u : Uses). shared_uses u rest) (kept-uses uses made x)
    ∙ shared-assoc made (with_entry_uses uses both x) rest
    ∙ ap (λ (y : Entry). shared_uses made (shared_uses (with_entry_uses uses both y) rest)) is
    ∙ sym (ap (λ (es : List Entry). shared_uses made (entries_uses uses es))
    (drop_more entries i x lt)) ∙ h

pub entries-done : (uses : List Uses) (entries : List Entry) (i : ℕ) (made : Uses) →
    length entries ≤ i →
    shared_uses made (entries_uses uses (drop i entries)) ≡ entries_uses uses entries →
    made ≡ entries_uses uses entries
entries-done uses entries i made le h =
    sym (shared-both made)
    ∙ sym (ap (λ (es : List Entry). shared_uses made (entries_uses uses es))
    (drop_all i entries le)) ∙ h

-- paradigms

pub pardefs-on : (pardefs : List Pardef) (i : ℕ) (x : Pardef) (old new : List Uses) (made : Uses) →
    i < length pardefs → x ≡ get_or pardefs i x → made ≡ entries_uses old x.entries →
    new ≡ old ++ made ∷ [] → pardefs_uses old (drop i pardefs) ≡ pardefs_uses [] pardefs →
    pardefs_uses new (drop (i + 1) pardefs) ≡ pardefs_uses [] pardefs
pardefs-on pardefs i x old new made lt is e f h =
    let rest : List Pardef = drop (i + 1) pardefs in
    ap (λ (us : List Uses). pardefs_uses us rest) (f ∙ ap (λ (u : Uses). old ++ u ∷ []) e)
    ∙ ap (λ (y : Pardef). pardefs_uses (old ++ entries_uses old y.entries ∷ []) rest) is
    ∙ sym (ap (pardefs_uses old) (drop_more pardefs i x lt)) ∙ h

pub pardefs-done : (pardefs : List Pardef) (i : ℕ) (made : List Uses) → length pardefs ≤ i →
    pardefs_uses made (drop i pardefs) ≡ pardefs_uses [] pardefs → made ≡ pardefs_uses [] pardefs
pardefs-done pardefs i made le h = sym (ap (pardefs_uses made) (drop_all i pardefs le)) ∙ h
