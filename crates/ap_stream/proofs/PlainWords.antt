-- The words of a unit whose bytes are as they are written.
use Rattle.std.specs.Prelude.{◌≡◌, ℕ, suc, ◌+◌, ◌-◌, ◌<◌, ◌≤◌, List, [], ◌∷◌, ◌++◌, drop, take, length, get_or, Bool, true, false, ◌&&◌, eqb, Some, slice_get, refl}
use Rattle.std.proofs.Common.{arith, ap, sym, ◌∙◌, drop-drop, length-append}
use Rattle.std.proofs.Math.Seq.{drop-cons}
use Rattle.ap_symbol.specs.declared.symbol.Symbol.{Symbol}
use Rattle.ap_stream.specs.declared.dialect.Dialect.{Dialect}
use Rattle.ap_stream.specs.Units.{Form, form_of, Slash, Dollar, sign, in_surface, is_none, rest, longer}
use Rattle.ap_stream.proofs.UnitLaws.{longer_longer}
use Rattle.ap_stream.specs.UnitBytes.{UnitOf, unit_words, plain_size, IsRendered}
use Rattle.ap_stream.specs.Chars.{char_at}
use Rattle.ap_stream.proofs.PlainBytes.{Run, run}
use Rattle.ap_stream.proofs.Proper.{unit_proper}
use Rattle.ap_stream.proofs.SignLaws as laws
use Rattle.ap_stream.proofs.UnitWords as units
use Rattle.ap_stream.proofs.InUnitLaws.{words_brace}

-- so many words stand behind
pub record Behind (dialect : Dialect) (held : List ℕ) (count from : ℕ) : Type 0 where
  pub words : List (List Symbol)
  pub counted : length words ≡ count
  pub begun : 1 ≤ from
  pub on : rest (form_of dialect) [] [] 0 (drop 1 held)
      ≡ longer (from - 1) (rest (form_of dialect) words [] 0 (drop from held))

slash_sign : (surface : Bool) (x : List ℕ) → sign surface (47 ∷ x) ≡ Slash
unfolding sign char_at
slash_sign surface x = refl

dollar_sign : (surface : Bool) (x : List ℕ) → sign surface (36 ∷ x) ≡ Dollar
unfolding sign char_at
dollar_sign surface x = refl

-- only the first word may be a surface
pub no_surface : (form : Form) (words : List (List Symbol)) (n : ℕ) → length words ≡ n →
    (eqb n 0 && form.surface) ≡ false → in_surface form words ≡ false
no_surface form words n e h =
    turned form.surface (is_none words) (rw (← units.none_is words n e) at h)
  where
    turned : (u v : Bool) → (v && u) ≡ false → (u && v) ≡ false
    turned true true h = h
    turned true false h = refl
    turned false v h = refl

module _ (dialect : Dialect) (held : List ℕ) (all : List (List Symbol))
    (u : UnitOf dialect held all) (count from : ℕ) (h : Behind dialect held count from) where
  abbrev pub size : ℕ
  size = plain_size (drop from held)

  here : Run (form_of dialect) h.words [] (drop from held)
  here = run (length (drop from held)) (form_of dialect) h.words [] (drop from held)
      (words_brace dialect u.has) (omega arith)
      (laws.whole_here dialect held all h.words [] from u h.begun h.on)

  ended : rest (form_of dialect) [] [] 0 (drop 1 held)
      ≡ longer ((from + size) - 1)
      (rest (form_of dialect) h.words here.after 0 (drop (from + size) held))
  ended =
      let l : (from - 1) + size ≡ (from + size) - 1 = omega (arith, h.begun) in
      h.on ∙ ap (longer (from - 1)) here.on
      ∙ longer_longer (from - 1) size
      (rest (form_of dialect) h.words here.after 0 (drop size (drop from held)))
      ∙ ap (λ q. longer ((from - 1) + size) (rest (form_of dialect) h.words here.after 0 q))
      (drop-drop size from held)
      ∙ ap (λ n. longer n (rest (form_of dialect) h.words here.after 0 (drop (from + size) held))) l

  byte_at : (end byte : ℕ) → end < length held → get_or held end 0 ≡ byte →
      drop end held ≡ byte ∷ drop (suc end) held
  byte_at end byte inside is = drop-cons held end 0 inside ∙ ap (λ b. b ∷ drop (suc end) held) is

  slash_at : (end : ℕ) → end < length held → get_or held end 0 ≡ 47 →
      sign (in_surface (form_of dialect) h.words) (drop end held) ≡ Slash
  slash_at end inside is =
      ap (sign (in_surface (form_of dialect) h.words)) (byte_at end 47 inside is)
      ∙ slash_sign (in_surface (form_of dialect) h.words) (drop (suc end) held)

  dollar_at : (end : ℕ) → end < length held → get_or held end 0 ≡ 36 →
      sign (in_surface (form_of dialect) h.words) (drop end held) ≡ Dollar
  dollar_at end inside is =
      ap (sign (in_surface (form_of dialect) h.words)) (byte_at end 36 inside is)
      ∙ dollar_sign (in_surface (form_of dialect) h.words) (drop (suc end) held)

  pub behind_next : (end : ℕ) → end ≡ from + size → end < length held → get_or held end 0 ≡ 47 →
      Behind dialect held (count + 1) (end + 1)
  behind_next end e inside is =
      let begun : 1 ≤ from + size = omega (arith, h.begun) in
      let l = length-append h.words (here.after ∷ []) in
      let s : sign (in_surface (form_of dialect) h.words) (drop (from + size) held) ≡ Slash =
      rw e at (slash_at end inside is) in
      record {
        words = h.words ++ here.after ∷ [];
        counted = omega (arith, l, h.counted);
        begun = omega arith;
        on = rw e (laws.past_slash dialect held all h.words here.after (from + size) u begun ended s
            (omega (arith, e, inside)));
      }

  rendered_by : (bytes : List ℕ) → in_surface (form_of dialect) h.words ≡ false →
      bytes ≡ take size (drop from held) → slice_get (unit_words dialect held) (length h.words)
      ≡ Some here.after → IsRendered (unit_words dialect held) count bytes
  rendered_by bytes bare is stands = record {
    word = here.after;
    stands = ap (slice_get (unit_words dialect held)) (sym h.counted) ∙ stands;
    rendered = is ∙ sym (here.spelled bare);
    proper = unit_proper dialect held (unit_words dialect held) (length h.words) here.after
        (units.unit_is dialect held all u) stands;
  }

  pub slash_rendered : (end : ℕ) (bytes : List ℕ) → in_surface (form_of dialect) h.words ≡ false →
      end ≡ from + size → end < length held → get_or held end 0 ≡ 47 →
      bytes ≡ take (end - from) (drop from held) → IsRendered (unit_words dialect held) count bytes
  slash_rendered end bytes bare e inside is b =
      let n : end - from ≡ size = omega (arith, e) in
      let begun : 1 ≤ from + size = omega (arith, h.begun) in
      let s : sign (in_surface (form_of dialect) h.words) (drop (from + size) held) ≡ Slash =
      rw e at (slash_at end inside is) in
      rendered_by bytes bare (b ∙ ap (λ k. take k (drop from held)) n)
      (units.found_slash dialect held all h.words here.after (from + size) u begun ended s
      (omega (arith, e, inside)))

  pub dollar_rendered : (end : ℕ) (bytes : List ℕ) → in_surface (form_of dialect) h.words ≡ false →
      end ≡ from + size → end < length held → get_or held end 0 ≡ 36 →
      bytes ≡ take (end - from) (drop from held) → IsRendered (unit_words dialect held) count bytes
  dollar_rendered end bytes bare e inside is b =
      let n : end - from ≡ size = omega (arith, e) in
      let begun : 1 ≤ from + size = omega (arith, h.begun) in
      let s : sign (in_surface (form_of dialect) h.words) (drop (from + size) held) ≡ Dollar =
      rw e at (dollar_at end inside is) in
      rendered_by bytes bare (b ∙ ap (λ k. take k (drop from held)) n)
      (units.found_dollar dialect held all h.words here.after (from + size) u begun ended s
      (omega (arith, e, inside)))
