-- What is read at the front of a text is read there too where the text is cut behind it and goes on
-- in any way.
use Rattle.std.specs.Prelude.{◌≡◌, ℕ, zero, suc, ◌+◌, ◌-◌, ◌<◌, ◌≤◌, pred, List, [], ◌∷◌, ◌++◌, drop, take, length, Bool, true, false, cond, eqb, ◌&&◌, not, refl, encode_utf8}
use Rattle.std.proofs.Common.{arith, ap, sym, ◌∙◌, append_assoc}
use Rattle.std.proofs.lemmas.Bool.{eqb-true, and_parts}
use Rattle.std.proofs.lemmas.List.{append-nil, length-take, length-take-le, length-drop, take-append-le, take-take}
use Rattle.std.proofs.lemmas.Str.{encode_ascii}
use Rattle.std.proofs.Math.Seq.{take-add}
use Rattle.ap_symbol.specs.Coded.{IsCode}
use Rattle.ap_symbol.specs.TagNames.{is_reserved_lem}
use Rattle.ap_symbol.specs.declared.symbol.Symbol.{Symbol}
use Rattle.ap_symbol.specs.declared.symbol.Symbol.TheVariants.{Tag}
use Rattle.ap_stream.specs.declared.fault.MalformedKind.TheVariants.{Stray, BadTag, EmptyWord}
use Rattle.ap_stream.specs.Chars.{Front, Part, NotChar, Char, char_at}
use Rattle.ap_stream.proofs.CharLaws.{char_fits}
use Rattle.ap_stream.specs.Units.{Form, Name, Runs, Breaks, Stops, name, name_by, behind_name, Sign, Awaits, Bars, Reads, Slash, Dollar, sign, of_bare, of_name, of_escape, bare_of, is_barred, begins_tag, in_surface, may_part, may_end, Rest, Lacks, Wrong, Ends, rest, longer, gone, Brace, early}
use Rattle.ap_stream.proofs.UnitLaws.{name_char, rest_symbol, rest_slash, rest_dollar, rest_brace}
use Rattle.ap_stream.proofs.Back.{char_back}
use Rattle.ap_stream.proofs.Encoding.{char_encodes}
use Rattle.ap_stream.proofs.WordsRead.{char_coded}

pub char_size : (bs : List ℕ) (c n : ℕ) → char_at bs ≡ Char c n → (0 < n) × (n ≤ length bs)
char_size bs c n h = rw h at (char_fits bs)

pub char_bytes : (bs : List ℕ) (c n : ℕ) → char_at bs ≡ Char c n → encode_utf8 c ≡ take n bs
char_bytes bs c n h = rw h at (char_encodes bs)

pub char_code : (bs : List ℕ) (c n : ℕ) → char_at bs ≡ Char c n → IsCode c
char_code bs c n h = rw h at (char_coded bs)

-- a character
pub char_cut : (bs x : List ℕ) (c n : ℕ) → char_at bs ≡ Char c n →
    char_at (take n bs ++ x) ≡ Char c n
char_cut bs x c n h =
    let e : encode_utf8 c ≡ take n bs = char_bytes bs c n h in
    let l : length (encode_utf8 c) ≡ n = ap length e ∙ length-take-le n bs (char_size bs c n h).1 in
    ap (λ (q : List ℕ). char_at (q ++ x)) (sym e) ∙ char_back c x (char_code bs c n h)
    ∙ ap (Char c) l

-- a character of one byte
pub first_byte : (b : ℕ) (bs : List ℕ) (c n : ℕ) → char_at (b ∷ bs) ≡ Char c n → c < 128 →
    (b ≡ c) × (n ≡ 1)
first_byte b bs c zero h small = absurd (let s = char_size (b ∷ bs) c 0 h in omega (arith, s.0))
first_byte b bs c (suc n) h small =
    let e : c ∷ [] ≡ b ∷ take n bs = sym (encode_ascii c small) ∙ char_bytes (b ∷ bs) c (suc n) h in
    let l : 1 ≡ suc n = ap length (sym (encode_ascii c small) ∙ char_bytes (b ∷ bs) c (suc n) h)
    ∙ length-take-le (suc n) (b ∷ bs) (char_size (b ∷ bs) c (suc n) h).1 in
    (cc, sym l)

-- a list is cut in two places
pub cut_twice : (m k : ℕ) (t x : List ℕ) → take (m + k) t ++ x ≡ take m t
    ++ (take k (drop m t) ++ x)
cut_twice m k t x = ap (λ (q : List ℕ). q ++ x) (take-add m k t)
    ∙ append_assoc (take m t) (take k (drop m t)) x

drop_pred : (n b : ℕ) (bs : List ℕ) → 0 < n → drop n (b ∷ bs) ≡ drop (pred n) bs
drop_pred zero b bs some = absurd (omega (arith, some))
drop_pred (suc n) b bs some = refl

-- a character of a name
name_front : (bs y : List ℕ) (d m : ℕ) → char_at bs ≡ Char d m →
    name 0 (take m bs ++ y) ≡ cond (is_reserved_lem d) (Stops 0 d) (behind_name m (name 0 y))
name_front bs y d m h =
    let l : length (take m bs) ≡ m = length-take-le m bs (char_size bs d m h).1 in
    let alone : char_at (take m bs) ≡ Char d (length (take m bs)) =
    ap char_at (sym (append-nil (take m bs))) ∙ char_cut bs [] d m h ∙ ap (Char d) (sym l) in
    name_char (take m bs) y d alone
    ∙ ap (λ n. cond (is_reserved_lem d) (Stops 0 d) (behind_name n (name 0 y))) l

-- a name that a character of one byte ends
abbrev NameCut : List ℕ → List ℕ → ℕ → ℕ → Type 0
NameCut bs x n c = (name 0 (take (n + 1) bs ++ x) ≡ Stops n c) × (n < length bs)

pub name_cut : (skip : ℕ) (bs x : List ℕ) (n c : ℕ) → name skip bs ≡ Stops n c → c < 128 →
    NameCut (drop skip bs) x n c
unfolding name
name_cut skip [] x n c h small = absurd (cc)
name_cut (suc skip) (b ∷ bs) x n c h small = name_cut skip bs x n c h small
name_cut zero (b ∷ bs) x n c h small =
    by (char_at (b ∷ bs)) refl (λ k m e. name_cut k bs x m c e small) h
  where
    here : (d m : ℕ) → char_at (b ∷ bs) ≡ Char d m → is_reserved_lem d ≡ true →
        Stops 0 d ≡ Stops n c → NameCut (b ∷ bs) x n c
    here d m e r h =
        let is : d ≡ c = cc in
        let none : n ≡ 0 = cc in
        let one : m ≡ 1 = (first_byte b bs d m e (omega (arith, is, small))).1 in
        let first : name 0 (take m (b ∷ bs) ++ x) ≡ Stops 0 d = name_front (b ∷ bs) x d m e
        ∙ rw r refl in
        let size : n + 1 ≡ m = omega (arith, none, one) in
        (ap (λ q. name 0 (take q (b ∷ bs) ++ x)) size ∙ first ∙ h, omega (arith, none))

    later : (d m : ℕ) → char_at (b ∷ bs) ≡ Char d m → is_reserved_lem d ≡ false →
        ((k j : ℕ) → name k bs ≡ Stops j c → NameCut (drop k bs) x j c) → (r : Name) →
        name (pred m) bs ≡ r → behind_name m r ≡ Stops n c → NameCut (b ∷ bs) x n c
    later d m e r go Runs is h = absurd (cc)
    later d m e r go Breaks is h = absurd (cc)
    later d m e r go (Stops j f) is h =
        let same : f ≡ c = cc in
        let size : m + j ≡ n = cc in
        let t = go (pred m) j (is ∙ ap (Stops j) same) in
        let s = char_size (b ∷ bs) d m e in
        let on : name 0 (take (j + 1) (drop m (b ∷ bs)) ++ x) ≡ Stops j c =
        ap (λ (q : List ℕ). name 0 (take (j + 1) q ++ x)) (drop_pred m b bs s.0) ∙ t.0 in
        let front : name 0 (take m (b ∷ bs) ++ (take (j + 1) (drop m (b ∷ bs)) ++ x))
        ≡ behind_name m (name 0 (take (j + 1) (drop m (b ∷ bs)) ++ x)) =
        name_front (b ∷ bs) _ d m e ∙ rw r refl in
        let count : n + 1 ≡ m + (j + 1) = omega (arith, size) in
        let far : length (drop m (b ∷ bs)) ≡ length (b ∷ bs) - m = length-drop m (b ∷ bs) in
        let near : length (drop m (b ∷ bs)) ≡ length (drop (pred m) bs) =
        ap length (drop_pred m b bs s.0) in (
          ap (λ q. name 0 (take q (b ∷ bs) ++ x)) count
              ∙ ap (name 0) (cut_twice m (j + 1) (b ∷ bs) x) ∙ front ∙ ap (behind_name m) on
              ∙ ap (λ q. Stops q c) size,
          omega (arith, t.1, far, near, size),
        )

    test : (d m : ℕ) → char_at (b ∷ bs) ≡ Char d m →
        ((k j : ℕ) → name k bs ≡ Stops j c → NameCut (drop k bs) x j c) → (v : Bool) →
        is_reserved_lem d ≡ v → cond v (Stops 0 d) (behind_name m (name (pred m) bs)) ≡ Stops n c →
        NameCut (b ∷ bs) x n c
    test d m e go true r h = here d m e r h
    test d m e go false r h = later d m e r go (name (pred m) bs) refl h

    by : (f : Front) → char_at (b ∷ bs) ≡ f →
        ((k j : ℕ) → name k bs ≡ Stops j c → NameCut (drop k bs) x j c) → name_by f (λ k. name k bs)
        ≡ Stops n c → NameCut (b ∷ bs) x n c
    by Part e go h = absurd (cc)
    by NotChar e go h = absurd (cc)
    by (Char d m) e go h = test d m e go (is_reserved_lem d) refl h

-- a symbol
abbrev SignCut : Bool → List ℕ → List ℕ → Symbol → ℕ → Type 0
SignCut surface bs x s n = (sign surface (take n bs ++ x) ≡ Reads s n) × (0 < n) × (n ≤ length bs)

bare_size : (surface : Bool) (c m : ℕ) (s : Symbol) (n : ℕ) → of_bare surface (Char c m)
    ≡ Reads s n → m ≡ n
bare_size surface c m s n h = by (eqb c 47) (eqb c 36) (eqb c 123) (is_barred surface c) h
  where
    by : (u v z w : Bool) → cond u Slash
        (cond v Dollar (cond z Brace (cond w (Bars Stray) (Reads (bare_of surface c) m))))
        ≡ Reads s n → m ≡ n
    by true v z w h = absurd (cc)
    by false true z w h = absurd (cc)
    by false false true w h = absurd (cc)
    by false false false true h = absurd (cc)
    by false false false false h = cc

pub sign_cut_at : (surface : Bool) (b : ℕ) (bs x : List ℕ) (s : Symbol) (n : ℕ) →
    sign surface (b ∷ bs) ≡ Reads s n → SignCut surface (b ∷ bs) x s n
unfolding sign
sign_cut_at surface b bs x s n h = by_escape (eqb b 92) refl h
  where
    grown : (m : ℕ) → n ≡ suc m → take n (b ∷ bs) ++ x ≡ b ∷ (take m bs ++ x)
    grown m e = ap (λ q. take q (b ∷ bs) ++ x) e

    escaped : (f : Front) → char_at bs ≡ f → eqb b 92 ≡ true → of_escape f ≡ Reads s n →
        SignCut surface (b ∷ bs) x s n
    escaped Part k e h = absurd (cc)
    escaped NotChar k e h = absurd (cc)
    escaped (Char c m) k e h =
        let size : 1 + m ≡ n = cc in
        let there : char_at (take m bs ++ x) ≡ Char c m = char_cut bs x c m k in
        let f = char_size bs c m k in (
          ap (sign surface) (grown m (omega (arith, size))) ∙ rw (e, there) h,
          omega (arith, size),
          omega (arith, size, f.1),
        )

    tag_at : (k c : ℕ) → name 0 bs ≡ Stops k c → eqb b 92 ≡ false → begins_tag surface b ≡ true →
        (v : Bool) → (eqb c 62 && not (eqb k 0)) ≡ v →
        cond v (Reads (Tag (take k bs)) (2 + k)) (Bars BadTag) ≡ Reads s n →
        SignCut surface (b ∷ bs) x s n
    tag_at k c e u t false w h = absurd (cc)
    tag_at k c e u t true w h =
        let size : 2 + k ≡ n = cc in
        let is : c ≡ 62 = eqb-true c 62 (and_parts (eqb c 62) (not (eqb k 0)) w).0 in
        let there = name_cut 0 bs x k c e (omega (arith, is)) in
        let front : take k (take (k + 1) bs ++ x) ≡ take k bs =
        take-append-le k (take (k + 1) bs) x (let l = length-take (k + 1) bs in
        omega (arith, l, there.1)) ∙ take-take k (k + 1) bs (omega arith) in (
          ap (sign surface) (grown (k + 1) (omega (arith, size))) ∙ rw (u, t, there.0, w, front) h,
          omega (arith, size),
          omega (arith, size, there.1),
        )

    tag : (r : Name) → name 0 bs ≡ r → eqb b 92 ≡ false → begins_tag surface b ≡ true →
        of_name bs r ≡ Reads s n → SignCut surface (b ∷ bs) x s n
    tag Runs e u t h = absurd (cc)
    tag Breaks e u t h = absurd (cc)
    tag (Stops k c) e u t h = tag_at k c e u t (eqb c 62 && not (eqb k 0)) refl h

    bare : (f : Front) → char_at (b ∷ bs) ≡ f → eqb b 92 ≡ false → begins_tag surface b ≡ false →
        of_bare surface f ≡ Reads s n → SignCut surface (b ∷ bs) x s n
    bare Part k e t h = absurd (cc)
    bare NotChar k e t h = absurd (cc)
    bare (Char c zero) k e t h = absurd (let f = char_size (b ∷ bs) c 0 k in omega (arith, f.0))
    bare (Char c (suc m)) k e t h =
        let size : suc m ≡ n = bare_size surface c (suc m) s n h in
        let there : char_at (b ∷ (take m bs ++ x)) ≡ Char c (suc m) =
        char_cut (b ∷ bs) x c (suc m) k in
        let f = char_size (b ∷ bs) c (suc m) k in (
          ap (sign surface) (grown m (sym size)) ∙ rw (e, t, there) h,
          omega (arith, size),
          omega (arith, size, f.1),
        )

    by_tag : (v : Bool) → begins_tag surface b ≡ v → eqb b 92 ≡ false →
        cond v (of_name bs (name 0 bs)) (of_bare surface (char_at (b ∷ bs))) ≡ Reads s n →
        SignCut surface (b ∷ bs) x s n
    by_tag true t e h = tag (name 0 bs) refl e t h
    by_tag false t e h = bare (char_at (b ∷ bs)) refl e t h

    by_escape : (v : Bool) → eqb b 92 ≡ v →
        cond v (of_escape (char_at bs))
        (cond (begins_tag surface b) (of_name bs (name 0 bs)) (of_bare surface (char_at (b ∷ bs))))
        ≡ Reads s n → SignCut surface (b ∷ bs) x s n
    by_escape true e h = escaped (char_at bs) refl e h
    by_escape false e h = by_tag (begins_tag surface b) refl e h

-- the / or $ or { that ends a word is a byte of its own
abbrev pub EndsIn : ℕ → Sign → Type 0
EndsIn b Awaits = Unit {0}
EndsIn b (Bars kind) = Unit {0}
EndsIn b (Reads s n) = Unit {0}
EndsIn b Slash = b ≡ 47
EndsIn b Dollar = b ≡ 36
EndsIn b Brace = b ≡ 123

ends_cond : (b : ℕ) (v : Bool) (s t : Sign) → (v ≡ true → EndsIn b s) → (v ≡ false → EndsIn b t) →
    EndsIn b (cond v s t)
ends_cond b true s t h k = h refl
ends_cond b false s t h k = k refl

ends_escape : (b : ℕ) (f : Front) → EndsIn b (of_escape f)
ends_escape b Part = tt
ends_escape b NotChar = tt
ends_escape b (Char c n) = tt

ends_name : (b : ℕ) (bs : List ℕ) (r : Name) → EndsIn b (of_name bs r)
ends_name b bs Runs = tt
ends_name b bs Breaks = tt
ends_name b bs (Stops n c) =
    ends_cond b (eqb c 62 && not (eqb n 0)) (Reads (Tag (take n bs)) (2 + n)) (Bars BadTag)
    (λ _. tt) (λ _. tt)

ends_bare : (surface : Bool) (b : ℕ) (bs : List ℕ) (f : Front) → char_at (b ∷ bs) ≡ f →
    EndsIn b (of_bare surface f)
ends_bare surface b bs Part e = tt
ends_bare surface b bs NotChar e = tt
ends_bare surface b bs (Char c n) e =
    ends_cond b (eqb c 47) Slash _ (λ t. let is = eqb-true c 47 t in
    (first_byte b bs c n e (omega (arith, is))).0 ∙ is)
    (λ _. ends_cond b (eqb c 36) Dollar _ (λ t. let is = eqb-true c 36 t in
    (first_byte b bs c n e (omega (arith, is))).0 ∙ is)
    (λ _. ends_cond b (eqb c 123) Brace _ (λ t. let is = eqb-true c 123 t in
    (first_byte b bs c n e (omega (arith, is))).0 ∙ is)
    (λ _. ends_cond b (is_barred surface c) (Bars Stray) (Reads (bare_of surface c) n)
    (λ _. tt) (λ _. tt))))

pub sign_ends : (surface : Bool) (b : ℕ) (bs : List ℕ) → EndsIn b (sign surface (b ∷ bs))
unfolding sign
sign_ends surface b bs =
    ends_cond b (eqb b 92) (of_escape (char_at bs)) _ (λ _. ends_escape b (char_at bs))
    (λ _. ends_cond b (begins_tag surface b) (of_name bs (name 0 bs))
    (of_bare surface (char_at (b ∷ bs))) (λ _. ends_name b bs (name 0 bs))
    (λ _. ends_bare surface b bs (char_at (b ∷ bs)) refl))

-- the rest of a unit
abbrev RestCut : Form → List (List Symbol) → List Symbol → List ℕ → List ℕ →
    List (List Symbol) → ℕ → Type 0
RestCut form words word bs x made n = (rest form words word 0 (take n bs ++ x) ≡ Ends made n)
    × (0 < n) × (n ≤ length bs)

abbrev Goes : Form → List ℕ → List ℕ → List (List Symbol) → Type 0
Goes form bs x made = (words : List (List Symbol)) (word : List Symbol) (k n : ℕ) →
    rest form words word k bs ≡ Ends made n → RestCut form words word (drop k bs) x made n

module _ (form : Form) (words : List (List Symbol)) (word : List Symbol) (b : ℕ) (bs x : List ℕ)
    (made : List (List Symbol)) (n : ℕ) where
  symbol_goes : (s : Symbol) (m : ℕ) → sign (in_surface form words) (b ∷ bs) ≡ Reads s m →
      Goes form bs x made → (r : Rest) → rest form words (word ++ s ∷ []) (pred m) bs ≡ r →
      longer m r ≡ Ends made n → RestCut form words word (b ∷ bs) x made n
  symbol_goes s m e go Lacks is h = absurd (cc)
  symbol_goes s m e go (Wrong kind) is h = absurd (cc)
  symbol_goes s m e go (Ends all k) is h =
      let same : all ≡ made = cc in
      let size : m + k ≡ n = cc in
      let f = sign_cut_at (in_surface form words) b bs [] s m e in
      let back = drop_pred m b bs f.1 in
      let on = go words (word ++ s ∷ []) (pred m) k
      (is ∙ ap (λ (q : List (List Symbol)). Ends q k) same) in
      let p : List ℕ = take m (b ∷ bs) in
      let tail : List ℕ = take k (drop m (b ∷ bs)) ++ x in
      let len : length (take m (b ∷ bs)) ≡ m = length-take-le m (b ∷ bs) f.2 in
      let there : sign (in_surface form words) (take m (b ∷ bs) ++ tail)
      ≡ Reads s (length (take m (b ∷ bs))) =
      (sign_cut_at (in_surface form words) b bs tail s m e).0 ∙ ap (Reads s) (sym len) in
      let here : rest form words word 0 (take m (b ∷ bs) ++ tail)
      ≡ longer (length (take m (b ∷ bs))) (rest form words (word ++ s ∷ []) 0 tail) =
      rest_symbol form words word (take m (b ∷ bs)) tail s (omega (arith, f.1, len)) there in
      let more : rest form words (word ++ s ∷ []) 0 tail ≡ Ends made k =
      ap (λ (q : List ℕ). rest form words (word ++ s ∷ []) 0 (take k q ++ x)) back ∙ on.0 in
      let far : length (drop m (b ∷ bs)) ≡ length (b ∷ bs) - m = length-drop m (b ∷ bs) in
      let near : length (drop m (b ∷ bs)) ≡ length (drop (pred m) bs) = ap length back in (
        ap (λ q. rest form words word 0 (take q (b ∷ bs) ++ x)) (sym size)
            ∙ ap (rest form words word 0) (cut_twice m k (b ∷ bs) x) ∙ here
            ∙ ap (λ q. longer q (rest form words (word ++ s ∷ []) 0 tail)) len ∙ ap (longer m) more
            ∙ ap (Ends made) size,
        omega (arith, on.1, size),
        omega (arith, on.1, on.2, far, near, size),
      )

  slash_goes : b ≡ 47 → Goes form bs x made → (several part : Bool) → form.several ≡ several →
      may_part words word ≡ part → (r : Rest) → rest form (words ++ word ∷ []) [] 0 bs ≡ r
      → cond several (cond part (longer 1 r) (Wrong EmptyWord)) (Wrong Stray) ≡ Ends made n →
      RestCut form words word (b ∷ bs) x made n
  slash_goes is go false part u v r e h = absurd (cc)
  slash_goes is go true false u v r e h = absurd (cc)
  slash_goes is go true true u v Lacks e h = absurd (cc)
  slash_goes is go true true u v (Wrong kind) e h = absurd (cc)
  slash_goes is go true true u v (Ends all k) e h =
      let same : all ≡ made = cc in
      let size : 1 + k ≡ n = cc in
      let on = go (words ++ word ∷ []) [] 0 k
      (e ∙ ap (λ (q : List (List Symbol)). Ends q k) same) in
      let grown : n ≡ suc k = omega (arith, size) in (
        ap (λ q. rest form words word 0 (take q (b ∷ bs) ++ x)) grown
            ∙ ap (λ q. rest form words word 0 (q ∷ (take k bs ++ x))) is
            ∙ rest_slash form words word (take k bs ++ x)
            ∙ may_go form.several (may_part words word)
            (longer 1 (rest form (words ++ word ∷ []) [] 0 (take k bs ++ x))) u v
            ∙ ap (longer 1) on.0 ∙ ap (Ends made) size,
        omega (arith, size),
        omega (arith, size, on.2),
      )
    where
      may_go : (several part : Bool) (r : Rest) → several ≡ true → part ≡ true →
          cond several (cond part r (Wrong EmptyWord)) (Wrong Stray) ≡ r
      may_go several part r e f = rw (e, f) refl

  dollar_goes : b ≡ 36 → (may : Bool) → may_end form words word ≡ may →
      cond may (Ends (words ++ word ∷ []) 1) (Wrong (early form)) ≡ Ends made n →
      RestCut form words word (b ∷ bs) x made n
  dollar_goes is false u h = absurd (cc)
  dollar_goes is true u h =
      let size : 1 ≡ n = cc in (
        ap (λ q. rest form words word 0 (take q (b ∷ bs) ++ x)) (sym size)
            ∙ ap (λ q. rest form words word 0 (q ∷ x)) is ∙ rest_dollar form words word x
            ∙ may_stop (may_end form words word) u ∙ h,
        omega (arith, size),
        omega (arith, size),
      )
    where
      may_stop : (may : Bool) → may ≡ true →
          cond may (Ends (words ++ word ∷ []) 1) (Wrong (early form)) ≡ Ends (words ++ word ∷ []) 1
      may_stop may e = rw e refl

  brace_goes : b ≡ 123 → (braced : Bool) → form.braced ≡ braced →
      cond braced (Ends (words ++ word ∷ []) 1) (Wrong Stray) ≡ Ends made n →
      RestCut form words word (b ∷ bs) x made n
  brace_goes is false u h = absurd (cc)
  brace_goes is true u h =
      let size : 1 ≡ n = cc in (
        ap (λ q. rest form words word 0 (take q (b ∷ bs) ++ x)) (sym size)
            ∙ ap (λ q. rest form words word 0 (q ∷ x)) is ∙ rest_brace form words word x
            ∙ may_stop form.braced u ∙ h,
        omega (arith, size),
        omega (arith, size),
      )
    where
      may_stop : (may : Bool) → may ≡ true →
          cond may (Ends (words ++ word ∷ []) 1) (Wrong Stray) ≡ Ends (words ++ word ∷ []) 1
      may_stop may e = rw e refl

  front_goes : (s : Sign) → sign (in_surface form words) (b ∷ bs) ≡ s → EndsIn b s →
      Goes form bs x made → gone form words word s (λ ws w k. rest form ws w k bs) ≡ Ends made n →
      RestCut form words word (b ∷ bs) x made n
  front_goes Awaits e is go h = absurd (cc)
  front_goes (Bars kind) e is go h = absurd (cc)
  front_goes (Reads s m) e is go h =
      symbol_goes s m e go (rest form words (word ++ s ∷ []) (pred m) bs) refl h
  front_goes Slash e is go h =
      slash_goes is go form.several (may_part words word) refl refl
      (rest form (words ++ word ∷ []) [] 0 bs) refl h
  front_goes Dollar e is go h = dollar_goes is (may_end form words word) refl h
  front_goes Brace e is go h = brace_goes is form.braced refl h

pub rest_cut : (form : Form) (words : List (List Symbol)) (word : List Symbol) (skip : ℕ)
    (bs x : List ℕ) (made : List (List Symbol)) (n : ℕ) → rest form words word skip bs ≡ Ends made n
    → RestCut form words word (drop skip bs) x made n
unfolding rest
rest_cut form words word skip [] x made n h = absurd (cc)
rest_cut form words word (suc skip) (b ∷ bs) x made n h =
    rest_cut form words word skip bs x made n h
rest_cut form words word zero (b ∷ bs) x made n h =
    front_goes form words word b bs x made n (sign (in_surface form words) (b ∷ bs)) refl
    (sign_ends (in_surface form words) b bs) (λ ws w k m e. rest_cut form ws w k bs x made m e) h
