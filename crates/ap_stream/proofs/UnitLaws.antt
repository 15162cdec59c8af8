-- The words of a unit, by the Apertium stream format.
use Rattle.std.specs.Prelude.{◌≡◌, ℕ, zero, suc, ◌+◌, ◌<◌, List, [], ◌∷◌, ◌++◌, length, drop, Bool, true, false, cond, eqb, ◌&&◌, refl}
use Rattle.std.proofs.Common.{arith, ap, ◌∙◌}
use Rattle.std.proofs.Math.Seq.{drop-append_seam}
use Rattle.ap_symbol.specs.declared.symbol.Symbol.{Symbol}
use Rattle.ap_symbol.specs.TagNames.{is_reserved_lem}
use Rattle.ap_stream.specs.declared.fault.MalformedKind.{MalformedKind}
use Rattle.ap_stream.specs.declared.fault.MalformedKind.TheVariants.{Stray, EmptyWord}
use Rattle.ap_stream.specs.Chars.{Front, Part, NotChar, Char, char_at}
use Rattle.ap_stream.proofs.CharLaws.{char_stays}
use Rattle.ap_stream.specs.Units.{Form, Name, behind_name, name, of_name, of_escape, of_bare, sign, Rest, longer, in_surface, may_end, early, may_part, rest, Runs, Breaks, Stops, Awaits, Bars, Reads, Lacks, Wrong, Ends}

abbrev pub first_is : ℕ → List ℕ → Bool
first_is b [] = false
first_is b (a ∷ more) = eqb a b

-- laws

pub longer_longer : (m n : ℕ) (r : Rest) → longer m (longer n r) ≡ longer (m + n) r
longer_longer m n Lacks = refl
longer_longer m n (Wrong kind) = refl
longer_longer m n (Ends words k) = ap (Ends words) (omega arith)

pub longer_zero : (r : Rest) → longer 0 r ≡ r
longer_zero Lacks = refl
longer_zero (Wrong kind) = refl
longer_zero (Ends words k) = ap (Ends words) (omega arith)

pub rest_skip : (form : Form) (words : List (List Symbol)) (word : List Symbol) (n : ℕ)
    (bs : List ℕ) → rest form words word n bs ≡ rest form words word 0 (drop n bs)
unfolding rest
rest_skip form words word zero bs = refl
rest_skip form words word (suc n) [] = refl
rest_skip form words word (suc n) (b ∷ bs) = rest_skip form words word n bs

rest_seam : (form : Form) (words : List (List Symbol)) (word : List Symbol) (p x : List ℕ) →
    rest form words word (length p) (p ++ x) ≡ rest form words word 0 x
rest_seam form words word p x = rest_skip form words word (length p) (p ++ x)
    ∙ ap (rest form words word 0) (drop-append_seam p x)

-- a symbol
pub rest_symbol : (form : Form) (words : List (List Symbol)) (word : List Symbol) (p x : List ℕ)
    (s : Symbol) → 0 < length p → sign (in_surface form words) (p ++ x) ≡ Reads s (length p) →
    rest form words word 0 (p ++ x) ≡ longer (length p) (rest form words (word ++ s ∷ []) 0 x)
unfolding rest
rest_symbol form words word [] x s some h = absurd (omega arith)
rest_symbol form words word (a ∷ p) x s some h =
    rw (h, rest_seam form words (word ++ s ∷ []) p x) refl

pub rest_bars : (form : Form) (words : List (List Symbol)) (word : List Symbol) (p : List ℕ)
    (kind : MalformedKind) → 0 < length p → sign (in_surface form words) p ≡ Bars kind →
    rest form words word 0 p ≡ Wrong kind
unfolding rest
rest_bars form words word [] kind some h = absurd (omega arith)
rest_bars form words word (a ∷ p) kind some h = rw h refl

pub rest_awaits : (form : Form) (words : List (List Symbol)) (word : List Symbol) (p : List ℕ) →
    sign (in_surface form words) p ≡ Awaits → rest form words word 0 p ≡ Lacks
unfolding rest
rest_awaits form words word [] h = refl
rest_awaits form words word (a ∷ p) h = rw h refl

pub rest_slash : (form : Form) (words : List (List Symbol)) (word : List Symbol) (x : List ℕ) →
    rest form words word 0 (47 ∷ x)
    ≡ cond form.several (cond (may_part words word)
    (longer 1 (rest form (words ++ word ∷ []) [] 0 x)) (Wrong EmptyWord)) (Wrong Stray)
unfolding rest sign char_at
rest_slash form words word x = refl

pub rest_dollar : (form : Form) (words : List (List Symbol)) (word : List Symbol) (x : List ℕ) →
    rest form words word 0 (36 ∷ x)
    ≡ cond (may_end form words word) (Ends (words ++ word ∷ []) 1) (Wrong (early form))
unfolding rest sign char_at
rest_dollar form words word x = refl

pub rest_brace : (form : Form) (words : List (List Symbol)) (word : List Symbol) (x : List ℕ) →
    rest form words word 0 (123 ∷ x) ≡ cond form.braced (Ends (words ++ word ∷ []) 1) (Wrong Stray)
unfolding rest sign char_at
rest_brace form words word x = refl

-- a character that neither escapes nor begins a tag
pub sign_bare : (surface : Bool) (p x : List ℕ) (f : Front) → 0 < length p → first_is 92 p ≡ false →
    (surface ≡ false → first_is 60 p ≡ false) → char_at (p ++ x) ≡ f →
    sign surface (p ++ x) ≡ of_bare surface f
unfolding sign
sign_bare surface [] x f some h k e = absurd (omega arith)
sign_bare true (a ∷ p) x f some h k e = both (eqb a 60)
  where
    both : (b : Bool) → cond (eqb a 92) (of_escape (char_at (p ++ x)))
        (cond (b && false) (of_name (p ++ x) (name 0 (p ++ x)))
        (of_bare true (char_at (a ∷ (p ++ x))))) ≡ of_bare true f
    both true = rw (h, e) refl
    both false = rw (h, e) refl
sign_bare false (a ∷ p) x f some h k e = rw (h, k refl, e) refl

pub sign_escape : (surface : Bool) (p x : List ℕ) (f : Front) → char_at (p ++ x) ≡ f →
    sign surface (92 ∷ (p ++ x)) ≡ of_escape f
unfolding sign
sign_escape surface p x f h = rw h refl

pub sign_tag : (bs : List ℕ) (n : Name) → name 0 bs ≡ n → sign false (60 ∷ bs) ≡ of_name bs n
unfolding sign
sign_tag bs n h = rw h refl

-- a name

pub behind_behind : (m n : ℕ) (r : Name) → behind_name m (behind_name n r) ≡ behind_name (m + n) r
behind_behind m n Runs = refl
behind_behind m n Breaks = refl
behind_behind m n (Stops k c) = ap (λ z. Stops z c) (omega arith)

pub behind_zero : (r : Name) → behind_name 0 r ≡ r
behind_zero Runs = refl
behind_zero Breaks = refl
behind_zero (Stops k c) = ap (λ z. Stops z c) (omega arith)

pub name_skip : (n : ℕ) (bs : List ℕ) → name n bs ≡ name 0 (drop n bs)
unfolding name
name_skip zero bs = refl
name_skip (suc n) [] = refl
name_skip (suc n) (b ∷ bs) = name_skip n bs

pub name_part : (p : List ℕ) → char_at p ≡ Part → name 0 p ≡ Runs
unfolding name
name_part [] h = refl
name_part (a ∷ p) h = rw h refl

pub name_breaks : (p x : List ℕ) → char_at p ≡ NotChar → name 0 (p ++ x) ≡ Breaks
unfolding name char_at
name_breaks [] x h = absurd (cc)
name_breaks (a ∷ p) x h = let there : char_at (a ∷ (p ++ x)) ≡ NotChar =
    rw h at (char_stays (a ∷ p) x) in rw there refl

pub name_char : (p x : List ℕ) (c : ℕ) → char_at p ≡ Char c (length p) →
    name 0 (p ++ x) ≡ cond (is_reserved_lem c) (Stops 0 c) (behind_name (length p) (name 0 x))
unfolding name char_at
name_char [] x c h = absurd (cc)
name_char (a ∷ p) x c h =
    let there : char_at (a ∷ (p ++ x)) ≡ Char c (length (a ∷ p)) = rw h at (char_stays (a ∷ p) x) in
    let on : name (length p) (p ++ x) ≡ name 0 x = name_skip (length p) (p ++ x)
    ∙ ap (name 0) (drop-append_seam p x) in
    rw (there, on) refl
