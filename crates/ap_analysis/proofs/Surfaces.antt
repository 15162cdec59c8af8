-- Surfaces of small letters.
use Rattle.std.proofs.Common.{◌≡◌, inl, inr, ℕ, ◌≤◌, ◌<◌, Bool, true, false, List, [], ◌∷◌, ◌++◌, refl, sym, ◌∙◌, ap, arith, Some, None, length, take, map, suc, zero, encode_utf8, if◌then◌else◌}
use Rattle.std.specs.Char.{is_ascii_lowercase}
use Rattle.std.specs.List.{list_all}
use Rattle.std.proofs.lemmas.Bool.{and_parts}
use Rattle.std.proofs.lemmas.Bool.Decides.{nat_tests}
use Rattle.std.proofs.lemmas.List.{length-map, take-take}
use Rattle.std.proofs.lemmas.Str.{encode_ascii}
use Rattle.ap_symbol.specs.Case.{is_upper_lem}
use Rattle.ap_symbol.specs.Recasing.{carry_lem, case_of_lem, case_of_letters, letters}
use Rattle.ap_live.specs.Readings.{carried}
use Rattle.ap_symbol.specs.Rendering.{is_escaped_lem, letter_bytes, rendering}
use Rattle.ap_symbol.specs.Words.{is_white}
use Rattle.ap_symbol.specs.declared.recasing.Case.{Case}
use Rattle.ap_symbol.specs.declared.recasing.Case.TheVariants.{Low}
use Rattle.ap_symbol.specs.declared.symbol.Symbol.{Symbol}
use Rattle.ap_symbol.specs.declared.symbol.Symbol.TheVariants.{Letter}
use Rattle.ap_stream.specs.Bare.{bare_item}
use Rattle.ap_stream.specs.Blanks.{is_white as is_white_byte}
use Rattle.ap_stream.specs.declared.item.Item.TheVariants as item
use Rattle.ap_stream.specs.declared.item.Read.{Read}
use Rattle.ap_analysis.specs.Fronts.{byte_read, byte_reads}
use Rattle.ap_analysis.specs.Items.{symbol_of, symbols}
use Rattle.ap_analysis.specs.Licence.{surface}
use Rattle.ap_analysis.specs.Surfaces.{AreReadIfAny, IsSeen}

small_symbol : (b : ℕ) → is_ascii_lowercase b ≡ true → symbol_of (bare_item b) ≡ Some (Letter b)
small_symbol b h =
    let dark : is_white_byte b ≡ false = grind (arith, nat_tests) in
    let plain : is_white b ≡ false = grind (arith, nat_tests) in
    ap (λ (t : Bool). symbol_of (if t then item.Blank (b ∷ [])
    else item.Plain (record { letter = b; escaped = false }))) dark
    ∙ ap (λ (t : Bool). if t then None else Some (Letter b)) plain

small_bytes : (b : ℕ) → is_ascii_lowercase b ≡ true → letter_bytes b ≡ b ∷ []
small_bytes b h = let plain : is_escaped_lem b ≡ false = grind (arith, nat_tests) in
    let low : b < 128 = grind (arith, nat_tests) in
    ap (λ (t : Bool). if t then 92 ∷ encode_utf8 b else encode_utf8 b) plain ∙ encode_ascii b low

small_upper : (b : ℕ) → is_ascii_lowercase b ≡ true → is_upper_lem b ≡ false
small_upper b h = grind (arith, nat_tests)

abbrev as_letters : List ℕ → List Symbol
as_letters bytes = map (λ b. Letter b) bytes

small_surface : (bytes : List ℕ) (n : ℕ) → n ≤ length bytes →
    list_all is_ascii_lowercase (take n bytes) ≡ true →
    take n (symbols (byte_reads bytes)) ≡ as_letters (take n bytes)
small_surface bytes zero le h = refl
small_surface [] (suc n) le h = absurd (omega arith)
small_surface (b ∷ bytes) (suc n) le h =
    let both = and_parts (is_ascii_lowercase b) (list_all is_ascii_lowercase (take n bytes)) h in
    rw (small_symbol b both.0)
    (ap (λ (z : List Symbol). Letter b ∷ z) (small_surface bytes n (omega arith) both.1))

small_rendering : (bytes : List ℕ) → list_all is_ascii_lowercase bytes ≡ true →
    rendering (as_letters bytes) ≡ bytes
small_rendering [] h = refl
small_rendering (b ∷ bytes) h =
    let both = and_parts (is_ascii_lowercase b) (list_all is_ascii_lowercase bytes) h in
    ap (λ (z : List ℕ). z ++ rendering (as_letters bytes)) (small_bytes b both.0)
    ∙ ap (λ (z : List ℕ). b ∷ z) (small_rendering bytes both.1)

letters_are : (bytes : List ℕ) → letters (as_letters bytes) ≡ bytes
letters_are [] = refl
letters_are (b ∷ bytes) = ap (λ (z : List ℕ). b ∷ z) (letters_are bytes)

small_letters : (bytes : List ℕ) → list_all is_ascii_lowercase bytes ≡ true →
    case_of_letters bytes ≡ Low
small_letters [] h = refl
small_letters (b ∷ bytes) h =
    let both = and_parts (is_ascii_lowercase b) (list_all is_ascii_lowercase bytes) h in
    rw (small_upper b both.0) (grind (arith, nat_tests))

small_case : (bytes : List ℕ) → list_all is_ascii_lowercase bytes ≡ true →
    case_of_lem (as_letters bytes) ≡ Low
small_case bytes h = ap case_of_letters (letters_are bytes) ∙ small_letters bytes h

-- The bytes that the items are read from have the surface.
surface_is : (piece : List ℕ) (reads : List Read) (n : ℕ) → n ≤ length (symbols reads) →
    length (symbols reads) ≤ length reads → AreReadIfAny piece reads → n ≤ length piece →
    list_all is_ascii_lowercase (take n piece) ≡ true →
    surface reads n ≡ as_letters (take n piece)
surface_is piece reads n within long (inl none) most h =
    let empty : length piece ≡ 0 = ap (length {A = ℕ}) none in
    let zero_is : n ≡ 0 = omega arith in
    ap (λ (k : ℕ). take k (symbols reads)) zero_is
    ∙ sym (ap (λ (k : ℕ). as_letters (take k piece)) zero_is)
surface_is piece reads n within long (inr read) most h =
    let cut : take n (take (length reads) piece) ≡ take n piece =
    take-take n (length reads) piece (omega arith) in
    let long' : length (byte_reads (take (length reads) piece)) ≡ length (take (length reads) piece)
    = length-map (take (length reads) piece) byte_read in
    let same : length reads ≡ length (byte_reads (take (length reads) piece)) =
    ap (length {A = Read}) read.are in
    ap (λ (z : List Read). take n (symbols z)) read.are
    ∙ small_surface (take (length reads) piece) n (omega arith)
    (ap (list_all is_ascii_lowercase) cut ∙ h)
    ∙ ap as_letters cut

pub small_seen : (piece : List ℕ) (reads : List Read) (n : ℕ) (seen : List Symbol) →
    n ≤ length (symbols reads) → length (symbols reads) ≤ length reads →
    AreReadIfAny piece reads → n ≤ length piece →
    list_all is_ascii_lowercase (take n piece) ≡ true → IsSeen piece reads n true seen
small_seen piece reads n seen within long read most h =
    let is : surface reads n ≡ as_letters (take n piece) =
    surface_is piece reads n within long read most h in
    record {
      within = λ t. most;
      bytes = λ t. ap rendering is ∙ small_rendering (take n piece) h;
      case = λ t. ap case_of_lem is ∙ small_case (take n piece) h;
      word = λ f. absurd (cc);
    }

pub word_seen : (piece : List ℕ) (reads : List Read) (n : ℕ) (seen : List Symbol) →
    seen ≡ surface reads n → IsSeen piece reads n false seen
word_seen piece reads n seen e = record {
  within = λ t. absurd (cc);
  bytes = λ t. absurd (cc);
  case = λ t. absurd (cc);
  word = λ f. e;
}

-- what is carried to a word by a surface without a capital
pub low_carried : (sensitive : Bool) (seen word : List Symbol) → case_of_lem seen ≡ Low →
    word ≡ carried sensitive seen word
low_carried true seen word e = refl
low_carried false seen word e = sym (ap (λ (z : Case). carry_lem z word) e)
