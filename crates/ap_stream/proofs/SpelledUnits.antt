-- A unit that was read, whose bytes are as they are written.
use Rattle.std.specs.Prelude.{◌≡◌, ℕ, zero, suc, ◌+◌, ◌<◌, List, [], ◌∷◌, ◌++◌, drop, take, length, Bool, true, false, cond, eqb, ◌&&◌, ◌||◌, ◌⊎◌, refl}
use Rattle.std.specs.List.{list_any}
use Rattle.std.proofs.Common.{arith, ap, sym, subst, ◌∙◌, append_assoc, inl, inr}
use Rattle.std.proofs.lemmas.List.{append-nil, length-drop, take_all}
use Rattle.std.proofs.lemmas.Bool.{eqb-true}
use Rattle.std.proofs.Math.Seq.{take-add}
use Rattle.ap_symbol.specs.declared.symbol.Symbol.{Symbol}
use Rattle.ap_symbol.specs.Rendering.{rendering}
use Rattle.ap_stream.specs.declared.dialect.Dialect.{Dialect}
use Rattle.ap_stream.specs.declared.fault.MalformedKind.TheVariants.{Stray, EmptyWord}
use Rattle.ap_stream.specs.Units.{Form, form_of, is_none, may_part, may_end, Rest, Lacks, Wrong, Ends, rest, longer, early}
use Rattle.ap_stream.proofs.UnitLaws.{rest_slash, rest_dollar}
use Rattle.ap_stream.specs.UnitBytes.{UnitOf, ended_words, unit_words, is_stop, is_odd, plain_size}
use Rattle.ap_stream.specs.Spelling.{unit_bytes, joined}
use Rattle.ap_stream.proofs.PlainBytes.{Run, run}
use Rattle.ap_stream.proofs.SignLaws.{IsWhole}
use Rattle.ap_stream.proofs.UnitWords.{words_are}
use Rattle.ap_stream.proofs.InUnitLaws.{words_brace}
use Rattle.ap_stream.specs.declared.fault.MalformedKind.{MalformedKind}

rest_nil : (form : Form) (words : List (List Symbol)) (word : List Symbol) →
    rest form words word 0 [] ≡ Lacks
unfolding rest
rest_nil form words word = refl

abbrev first_of : List ℕ → ℕ
first_of [] = 0
first_of (b ∷ bs) = b

-- a run ends at a byte that stops
stop_there : (bs : List ℕ) (b : ℕ) (more : List ℕ) → drop (plain_size bs) bs ≡ b ∷ more →
    is_stop b ≡ true
unfolding plain_size
stop_there [] b more e = absurd (cc)
stop_there (a ∷ bs) b more e = by (is_stop a) refl e (stop_there bs b more)
  where
    by : (v : Bool) → is_stop a ≡ v → drop (cond v 0 (suc (plain_size bs))) (a ∷ bs) ≡ b ∷ more →
        (drop (plain_size bs) bs ≡ b ∷ more → is_stop b ≡ true) → is_stop b ≡ true
    by true s e go = ap is_stop (sym (ap first_of e)) ∙ s
    by false s e go = go e

any_drop : (test : ℕ → Bool) (n : ℕ) (bs : List ℕ) → list_any test bs ≡ false →
    list_any test (drop n bs) ≡ false
any_drop test zero bs h = h
any_drop test (suc n) [] h = refl
any_drop test (suc n) (b ∷ bs) h = by (test b) h (any_drop test n bs)
  where
    by : (v : Bool) → (v || list_any test bs) ≡ false →
        (list_any test bs ≡ false → list_any test (drop n bs) ≡ false) →
        list_any test (drop n bs) ≡ false
    by true h go = absurd (cc)
    by false h go = go h

either_none : (a b : Bool) → (a || b) ≡ false → (a ≡ false) × (b ≡ false)
either_none true b h = absurd (cc)
either_none false b h = (refl, h)

-- a byte that stops and isn't odd ends a word
ends_word : (b : ℕ) → is_stop b ≡ true → is_odd b ≡ false → (b ≡ 47) ⊎ (b ≡ 36)
ends_word b s o = by (eqb b 47) refl s
  where
    last : (v : Bool) → eqb b 36 ≡ v → (v || is_odd b) ≡ true → (b ≡ 47) ⊎ (b ≡ 36)
    last true e s = inr (eqb-true b 36 e)
    last false e s = absurd (let k = o in cc)

    by : (v : Bool) → eqb b 47 ≡ v → (v || (eqb b 36 || is_odd b)) ≡ true → (b ≡ 47) ⊎ (b ≡ 36)
    by true e s = inl (eqb-true b 47 e)
    by false e s = last (eqb b 36) refl s

abbrev ended_size : Rest → ℕ
ended_size Lacks = 0
ended_size (Wrong kind) = 0
ended_size (Ends words n) = n

dollar_ends : (v : Bool) (kind : MalformedKind) (k n : ℕ) (words all : List (List Symbol)) →
    longer k (cond v (Ends words 1) (Wrong kind)) ≡ Ends all n → (all ≡ words) × (n ≡ k + 1)
dollar_ends true kind k n words all e = (sym (ap ended_words e), sym (ap ended_size e))
dollar_ends false kind k n words all e = absurd (cc)

slash_ends : (u v : Bool) (k n : ℕ) (r : Rest) (all : List (List Symbol)) →
    longer k (cond u (cond v (longer 1 r) (Wrong EmptyWord)) (Wrong Stray)) ≡ Ends all n →
    (m : ℕ) × (r ≡ Ends all m) × (n ≡ k + (1 + m))
slash_ends true true k n Lacks all e = absurd (cc)
slash_ends true true k n (Wrong kind) all e = absurd (cc)
slash_ends true true k n (Ends words m) all e =
    (m, ap (λ q. Ends q m) (ap ended_words e), sym (ap ended_size e))
slash_ends true false k n r all e = absurd (cc)
slash_ends false v k n r all e = absurd (cc)

-- the words still to come, and their bytes
pub record Joins (words : List (List Symbol)) (bs : List ℕ) (all : List (List Symbol))
    (n : ℕ) : Type 0 where
  pub word : List Symbol
  pub more : List (List Symbol)
  pub are : all ≡ words ++ word ∷ more
  pub bytes : take n bs ≡ joined (word ∷ more) ++ 36 ∷ []

joins : (fuel : ℕ) (form : Form) (words : List (List Symbol)) (bs : List ℕ)
    (all : List (List Symbol)) (n : ℕ) → form.braced ≡ false → length bs < fuel →
    form.surface ≡ false → list_any is_odd bs ≡ false → rest form words [] 0 bs ≡ Ends all n →
    Joins words bs all n
joins zero form words bs all n u l bare odd e = absurd (omega (arith, l))
joins (suc fuel) form words bs all n u l bare odd e =
    at (drop (plain_size bs) bs) refl (λ ws more m. joins fuel form ws more all m u)
  where
    here : Run form words [] bs
    here = run (length bs) form words [] bs u (omega arith) (subst IsWhole (sym e) tt)

    spelled : rendering here.after ≡ take (plain_size bs) bs
    spelled = here.spelled (ap (λ v. v && is_none words) bare)

    behind : longer (plain_size bs)
        (rest form words here.after 0 (drop (plain_size bs) bs)) ≡ Ends all n
    behind = sym here.on ∙ e

    by_dollar : (more : List ℕ) → drop (plain_size bs) bs ≡ 36 ∷ more → Joins words bs all n
    by_dollar more d =
        let on : rest form words here.after 0 (drop (plain_size bs) bs)
        ≡ cond (may_end form words here.after) (Ends (words ++ here.after ∷ []) 1)
        (Wrong (early form)) = ap (rest form words here.after 0) d
        ∙ rest_dollar form words here.after more in
        let k = dollar_ends (may_end form words here.after) (early form) (plain_size bs) n
        (words ++ here.after ∷ []) all (ap (longer (plain_size bs)) (sym on) ∙ behind) in
        record {
          word = here.after;
          more = [];
          are = k.0;
          bytes = ap (λ m. take m bs) k.1 ∙ take-add (plain_size bs) 1 bs
              ∙ ap (λ q. take (plain_size bs) bs ++ take 1 q) d
              ∙ ap (λ q. q ++ 36 ∷ []) (sym spelled ∙ sym (append-nil (rendering here.after)));
        }

    by_slash : (more : List ℕ) → drop (plain_size bs) bs ≡ 47 ∷ more →
        ((ws : List (List Symbol)) (q : List ℕ) (m : ℕ) → length q < fuel → form.surface ≡ false →
        list_any is_odd q ≡ false → rest form ws [] 0 q ≡ Ends all m → Joins ws q all m) →
        Joins words bs all n
    by_slash more d go =
        let on : rest form words here.after 0 (drop (plain_size bs) bs)
        ≡ cond form.several (cond (may_part words here.after)
        (longer 1 (rest form (words ++ here.after ∷ []) [] 0 more)) (Wrong EmptyWord))
        (Wrong Stray) =
        ap (rest form words here.after 0) d ∙ rest_slash form words here.after more in
        let k = slash_ends form.several (may_part words here.after) (plain_size bs) n
        (rest form (words ++ here.after ∷ []) [] 0 more) all
        (ap (longer (plain_size bs)) (sym on) ∙ behind) in
        let few : length (drop (plain_size bs) bs) ≡ 1 + length more = ap length d ∙ omega arith in
        let fewer = length-drop (plain_size bs) bs in
        let free : list_any is_odd (47 ∷ more) ≡ false = ap (list_any is_odd) (sym d)
        ∙ any_drop is_odd (plain_size bs) bs odd in
        let next = go (words ++ here.after ∷ []) more k.0 (omega (arith, few, fewer, l))
        bare free k.1 in
        let one : 1 + k.0 ≡ suc k.0 = omega arith in
        let back : take (1 + k.0) (47 ∷ more) ≡ 47 ∷ (joined (next.word ∷ next.more) ++ 36 ∷ []) =
        ap (λ m. take m (47 ∷ more)) one ∙ ap (λ q. 47 ∷ q) next.bytes in
        record {
          word = here.after;
          more = next.word ∷ next.more;
          are = next.are ∙ append_assoc words (here.after ∷ []) (next.word ∷ next.more);
          bytes = ap (λ m. take m bs) k.2 ∙ take-add (plain_size bs) (1 + k.0) bs
              ∙ ap (λ q. take (plain_size bs) bs ++ take (1 + k.0) q) d
              ∙ ap (λ q. take (plain_size bs) bs ++ q) back
              ∙ ap (λ q. q ++ (47 ∷ (joined (next.word ∷ next.more) ++ 36 ∷ []))) (sym spelled)
              ∙ sym (append_assoc (rendering here.after)
              (47 ∷ joined (next.word ∷ next.more)) (36 ∷ []));
        }

    at : (q : List ℕ) → drop (plain_size bs) bs ≡ q →
        ((ws : List (List Symbol)) (q : List ℕ) (m : ℕ) → length q < fuel → form.surface ≡ false →
        list_any is_odd q ≡ false → rest form ws [] 0 q ≡ Ends all m → Joins ws q all m) →
        Joins words bs all n
    at [] d go = absurd (let k : Lacks ≡ Ends all n =
        ap (longer (plain_size bs)) (sym (rest_nil form words here.after)
        ∙ ap (rest form words here.after 0) (sym d)) ∙ behind in cc)
    at (b ∷ more) d go =
        let o : is_odd b ≡ false =
        (either_none (is_odd b) (list_any is_odd more) (ap (list_any is_odd) (sym d)
        ∙ any_drop is_odd (plain_size bs) bs odd)).0 in
        elim (ends_word b (stop_there bs b more d) o) [
          | inl s ↦
              by_slash more (d ∙ ap (λ z. z ∷ more) s) go
          | inr s ↦
              by_dollar more (d ∙ ap (λ z. z ∷ more) s)
        ]

-- a unit without odd bytes is written as it was read
pub spelled_unit : (dialect : Dialect) (held : List ℕ) (all : List (List Symbol)) →
    UnitOf dialect held all → (form_of dialect).surface ≡ false → list_any is_odd held ≡ false →
    held ≡ unit_bytes (unit_words dialect held)
spelled_unit dialect held all u bare odd =
    let end : rest (form_of dialect) [] [] 0 u.tail ≡ Ends all (length u.tail) =
    ap (rest (form_of dialect) [] [] 0) (sym (append-nil u.tail)) ∙ u.on [] in
    let free : list_any is_odd u.tail ≡ false =
    (either_none (is_odd 94) (list_any is_odd u.tail)
    (ap (list_any is_odd) (sym u.begins) ∙ odd)).1 in
    let j = joins (suc (length u.tail)) (form_of dialect) [] u.tail all (length u.tail)
    (words_brace dialect u.has) (omega arith) bare free end in
    let whole : u.tail ≡ joined all ++ 36 ∷ [] = sym (take_all (length u.tail) u.tail (omega arith))
    ∙ j.bytes ∙ ap (λ q. joined q ++ 36 ∷ []) (sym j.are) in
    u.begins ∙ ap (λ q. 94 ∷ q) whole ∙ ap unit_bytes (sym (words_are dialect held all u))
