use Rattle.std.proofs.Common.{◌≡◌, ℕ, ◌+◌, ◌<◌, ◌≤◌, Bool, true, false, ◌&&◌, List, [], ◌∷◌, ◌++◌, length, get_or, arith, sym, ap, ◌∙◌, refl, zero-add, None, suc, zero, subst}
use Rattle.std.specs.Prelude.{if◌then◌else◌}
use Rattle.std.specs.Prelude.{IsTrue, nat_lt}
use Rattle.std.specs.List.{list_all}
use Rattle.std.proofs.lemmas.Bool.Decides.{nat_tests}
use Rattle.std.proofs.lemmas.List.{append_assoc, append-nil, length-append, get_or_append_left, get_or_at, get_or_past}
use Rattle.ap_symbol.specs.Rendering.{rendering}
use Rattle.ap_dix.specs.Soundness.{is_sound_part, is_sound_entry, are_sound_pardefs}
use Rattle.ap_dix.specs.declared.dictionary.Entry.{Entry}
use Rattle.ap_dix.specs.declared.dictionary.EntryPart.{EntryPart}
use Rattle.ap_dix.specs.declared.dictionary.EntryPart.TheVariants.{Identity, Pair, Paradigm, Expression}
use Rattle.ap_dix.specs.declared.dictionary.Pardef.{Pardef}
use Rattle.ap_expand.specs.Lines.{expression_bytes, Way}
use Rattle.ap_expand.specs.Search.{Opening, Follow, parts_trace, entry_trace, entries_trace, pardefs_trace, with_words, with_side, no_entries, is_passed}
use Rattle.ap_expand.specs.declared.uses.Uses.{Uses}
use Rattle.ap_expand.specs.Places.{entries_at}

pub and-left : (a b : Bool) → IsTrue (a && b) → IsTrue a
and-left true b h = refl
and-left false b h = cc

pub and-right : (a b : Bool) → IsTrue (a && b) → IsTrue b
and-right true b h = h
and-right false b h = cc

below-bound : (n m : ℕ) → IsTrue (nat_lt n m) → n < m
below-bound n m h = grind (arith, nat_tests)

-- sound parts depend on the paradigms above them alone
parts-local : (above more : List Opening) (parts : List EntryPart) (follow : Follow) →
    IsTrue (list_all (is_sound_part (length above)) parts) →
    parts_trace (above ++ more) parts follow ≡ parts_trace above parts follow
parts-local above more [] follow h = refl
parts-local above more (Identity word ∷ parts) follow h =
    ap {B = Follow} (λ (k : Follow) (way : Way). k
    (with_words way (rendering word) (rendering word)))
    (parts-local above more parts follow (and-right _ _ h))
parts-local above more (Pair left right ∷ parts) follow h =
    ap {B = Follow} (λ (k : Follow) (way : Way). k
    (with_words way (rendering left) (rendering right)))
    (parts-local above more parts follow (and-right _ _ h))
parts-local above more (Expression e text ∷ parts) follow h =
    ap {B = Follow} (λ (k : Follow) (way : Way). k
    (with_words way (expression_bytes text) (expression_bytes text)))
    (parts-local above more parts follow (and-right _ _ h))
parts-local above more (Paradigm n ∷ parts) follow h =
    ap {B = Follow} (λ (k : Follow) (way : Way). None ∷ get_or (above ++ more) n no_entries k way)
    (parts-local above more parts follow (and-right _ _ h))
    ∙ ap {B = Follow} (λ (o : Opening) (way : Way). None ∷ o (parts_trace above parts follow) way)
    (get_or_append_left above more no_entries n (below-bound n (length above) (and-left _ _ h)))

module _ (uses : List Uses) where
  entry-local : (above more : List Opening) (entry : Entry) (follow : Follow) (way : Way) →
      IsTrue (is_sound_entry (length above) entry) → entry_trace uses (above ++ more) entry follow way
      ≡ entry_trace uses above entry follow way
  entry-local above more entry follow way h =
      ap (λ (k : Follow). if◌then◌else◌ (is_passed uses way.lr way.rl entry) (None ∷ []) (k (with_side way entry.side)))
      (parts-local above more entry.parts follow h)

  entries-local : (above more : List Opening) (entries : List Entry) (follow : Follow) (way : Way) →
      IsTrue (list_all (is_sound_entry (length above)) entries) →
      entries_trace uses (above ++ more) entries follow way ≡ entries_trace uses above entries follow way
  entries-local above more [] follow way h = refl
  entries-local above more (entry ∷ entries) follow way h =
      ap (λ s. s ++ entries_trace uses (above ++ more) entries follow way)
      (entry-local above more entry follow way (and-left _ _ h))
      ∙ ap (λ s. entry_trace uses above entry follow way ++ s)
      (entries-local above more entries follow way
      (and-right (is_sound_entry (length above) entry) _ h))

  -- the paradigms go on from those above
  pub record GoesOn (above : List Opening) (pardefs : List Pardef) : Type 0 where
    pub more : List Opening
    pub is : pardefs_trace uses above pardefs ≡ above ++ more
    pub count : length more ≡ length pardefs

  goes-on : (above : List Opening) (pardefs : List Pardef) → GoesOn above pardefs
  goes-on above [] = record { more = []; is = sym (append-nil above); count = refl }
  goes-on above (pardef ∷ pardefs) =
      let next : GoesOn (above ++ entries_trace uses above pardef.entries ∷ []) pardefs =
      goes-on (above ++ entries_trace uses above pardef.entries ∷ []) pardefs in
      record {
        more = entries_trace uses above pardef.entries ∷ next.more;
        is = next.is ∙ append_assoc above (entries_trace uses above pardef.entries ∷ []) next.more;
        count = ap suc next.count;
      }

  -- an open paradigm gives the steps of its entries
  pub paradigm-steps : (above : List Opening) (pardefs : List Pardef) (n : ℕ) (follow : Follow)
      (way : Way) → IsTrue (are_sound_pardefs (length above) pardefs) →
      get_or (pardefs_trace uses above pardefs) (length above + n) no_entries follow way
      ≡ entries_trace uses (pardefs_trace uses above pardefs) (entries_at pardefs n) follow way
  paradigm-steps above [] n follow way h =
      ap (λ (o : Opening). o follow way)
      (get_or_past above (length above + n) no_entries (omega arith))
  paradigm-steps above (pardef ∷ pardefs) zero follow way h =
      let next : GoesOn (above ++ entries_trace uses above pardef.entries ∷ []) pardefs =
      goes-on (above ++ entries_trace uses above pardef.entries ∷ []) pardefs in
      let is : pardefs_trace uses above (pardef ∷ pardefs) ≡ above ++ entries_trace uses above pardef.entries
      ∷ next.more = next.is ∙ append_assoc above (entries_trace uses above pardef.entries
      ∷ []) next.more in
      ap (λ (os : List Opening). get_or os (length above + 0) no_entries follow way) is
      ∙ ap (λ (o : Opening). o follow way)
      (get_or_at above (entries_trace uses above pardef.entries) next.more no_entries
      (length above + 0) (omega arith))
      ∙ sym (entries-local above (entries_trace uses above pardef.entries ∷ next.more) pardef.entries
      follow way (and-left _ _ h))
      ∙ ap (λ (os : List Opening). entries_trace uses os pardef.entries follow way) (sym is)
  paradigm-steps above (pardef ∷ pardefs) (suc n) follow way h =
      let count : length (above ++ entries_trace uses above pardef.entries ∷ []) ≡ length above + 1 =
      length-append above (entries_trace uses above pardef.entries ∷ []) in
      let sum : length (above ++ entries_trace uses above pardef.entries ∷ []) + n ≡ length above + suc n =
      omega arith in
      ap (λ i. get_or (pardefs_trace uses above (pardef ∷ pardefs)) i no_entries follow way) (sym sum)
      ∙ paradigm-steps (above ++ entries_trace uses above pardef.entries ∷ []) pardefs n follow way
      (subst (λ m. IsTrue (are_sound_pardefs m pardefs)) (sym count)
      (and-right (list_all (is_sound_entry (length above)) pardef.entries) _ h))

  pub paradigm-opens : (pardefs : List Pardef) (n : ℕ) (follow : Follow) (way : Way) →
      IsTrue (are_sound_pardefs 0 pardefs) → get_or (pardefs_trace uses [] pardefs) n no_entries follow way
      ≡ entries_trace uses (pardefs_trace uses [] pardefs) (entries_at pardefs n) follow way
  paradigm-opens pardefs n follow way h =
      ap (λ i. get_or (pardefs_trace uses [] pardefs) i no_entries follow way) (sym (zero-add n))
      ∙ paradigm-steps [] pardefs n follow way h

pub entries_at-index : (pardefs : List Pardef) (n : ℕ) (pardef : Pardef) → n < length pardefs →
    pardef ≡ get_or pardefs n pardef → entries_at pardefs n ≡ pardef.entries
entries_at-index [] n pardef lt is = absurd (omega arith)
entries_at-index (p ∷ pardefs) zero pardef lt is = ap (λ (x : Pardef). x.entries) (sym is)
entries_at-index (p ∷ pardefs) (suc n) pardef lt is =
    entries_at-index pardefs n pardef (omega arith) is

pub entries_at-past : (pardefs : List Pardef) (n : ℕ) → length pardefs ≤ n →
    entries_at pardefs n ≡ []
entries_at-past [] n le = refl
entries_at-past (p ∷ pardefs) zero le = absurd (omega arith)
entries_at-past (p ∷ pardefs) (suc n) le = entries_at-past pardefs n (omega arith)
