-- The bytes of a unit, by the notation, are those that a reader takes for it.
use Rattle.std.specs.Prelude.{◌≡◌, ◌≢◌, ℕ, zero, suc, ◌+◌, ◌<◌, pred, List, [], ◌∷◌, ◌++◌, drop, take, length, Bool, true, false, cond, not, refl}
use Rattle.std.proofs.Common.{arith, ap, sym, subst, ◌∙◌, append_assoc, length-append}
use Rattle.std.proofs.lemmas.Bool.{and_parts, not-true}
use Rattle.std.proofs.lemmas.List.{append-nil, take_all}
use Rattle.std.proofs.Math.Seq.{take-add}
use Rattle.ap_symbol.specs.declared.symbol.Symbol.{Symbol}
use Rattle.ap_stream.specs.declared.dialect.Dialect.{Dialect}
use Rattle.ap_stream.specs.declared.dialect.Dialect.TheVariants.{Raw, Analysed, Lexical, Bilingual, Chunked, Generated}
use Rattle.ap_stream.specs.declared.fault.MalformedKind.TheVariants.{Stray, EmptyWord}
use Rattle.ap_stream.specs.Dialects.{has_words}
use Rattle.ap_stream.proofs.InUnitLaws.{words_brace, unit_always}
use Rattle.ap_stream.specs.Laws.{AreWords, AreAsMany}
use Rattle.ap_stream.specs.Notation.{IsWordText, AreWordTexts, IsWordedText, IsUnitText}
use Rattle.ap_symbol.specs.Kinds.{first_word}
use Rattle.ap_stream.specs.UnitBytes.{UnitOf}
use Rattle.ap_stream.specs.Units.{Form, form_of, Sign, Awaits, Bars, Reads, Slash, Dollar, Brace, sign, in_surface, is_none, may_part, may_end, early, Rest, Lacks, Wrong, Ends, rest, gone, longer}
use Rattle.ap_stream.proofs.UnitLaws.{longer_longer, longer_zero, rest_symbol, rest_slash, rest_dollar}
use Rattle.ap_stream.proofs.Back.{none_after, not_surface, first_surface}
use Rattle.ap_stream.proofs.Cut.{sign_cut_at, sign_ends, EndsIn}
use Rattle.ap_stream.proofs.SymbolTexts.{text_some, text_sign, sign_text}
use Rattle.ap_stream.proofs.WordsRead.{unit_words}

-- the bytes of words are read as them, whatever follows

pub word_on : (form : Form) (words : List (List Symbol)) (word more : List Symbol) (p x : List ℕ) →
    IsWordText (in_surface form words) more p →
    rest form words word 0 (p ++ x) ≡ longer (length p) (rest form words (word ++ more) 0 x)
word_on form words word [] p x h =
    ap (λ (q : List ℕ). rest form words word 0 (q ++ x)) h
    ∙ ap (λ q. rest form words q 0 x) (sym (append-nil word))
    ∙ sym (longer_zero (rest form words (word ++ []) 0 x))
    ∙ ap (λ (q : List ℕ). longer (length q) (rest form words (word ++ []) 0 x)) (sym h)
word_on form words word (s ∷ more) p x h =
    let one : rest form words word 0 (h.0 ++ (h.1 ++ x))
    ≡ longer (length h.0) (rest form words (word ++ s ∷ []) 0 (h.1 ++ x)) =
    rest_symbol form words word h.0 (h.1 ++ x) s (text_some (in_surface form words) s h.0 h.2)
    (text_sign (in_surface form words) s h.0 (h.1 ++ x) h.2) in
    let size : length h.0 + length h.1 ≡ length p =
    sym (ap length h.4 ∙ length-append h.0 h.1) in
    ap (λ (q : List ℕ). rest form words word 0 (q ++ x)) h.4
    ∙ ap (rest form words word 0) (append_assoc h.0 h.1 x) ∙ one
    ∙ ap (longer (length h.0)) (word_on form words (word ++ s ∷ []) more h.1 x h.3)
    ∙ longer_longer (length h.0) (length h.1) (rest form words ((word ++ s ∷ []) ++ more) 0 x)
    ∙ ap (λ q. longer (length h.0 + length h.1) (rest form words q 0 x))
    (append_assoc word (s ∷ []) more)
    ∙ ap (λ n. longer n (rest form words (word ++ s ∷ more) 0 x)) size

some_slashed : {A : Type 0} (a : A) (more : List A) → (a ∷ more ≡ [] → ⊥)
some_slashed a more e = cc

-- from the end of a word on
behind_on : (form : Form) (words : List (List Symbol)) (word : List Symbol)
    (more : List (List Symbol)) (p x : List ℕ) → form.braced ≡ false →
    may_part words word ≡ true → (more ≡ [] → may_end form words word ≡ true) →
    ((more ≡ [] → ⊥) → form.several ≡ true) → AreWordTexts more p →
    rest form words word 0 (p ++ 36 ∷ x) ≡ Ends (words ++ word ∷ more) (length p + 1)
behind_on form words word [] p x b part last many h =
    let end : may_end form words word ≡ true = last refl in
    ap (λ (q : List ℕ). rest form words word 0 (q ++ 36 ∷ x)) h ∙ rest_dollar form words word x
    ∙ rw end refl ∙ ap (λ (q : List ℕ). Ends (words ++ word ∷ []) (length q + 1)) (sym h)
behind_on form words word (w ∷ more) p x b part last many h =
    let several : form.several ≡ true = many (some_slashed w more) in
    let next : List (List Symbol) = words ++ word ∷ [] in
    let none : is_none (words ++ word ∷ []) ≡ false = none_after words word in
    let spelt : IsWordText (in_surface form (words ++ word ∷ [])) w h.0 =
    subst (λ v. IsWordText v w h.0) (sym (not_surface form (words ++ word ∷ []) none)) h.2 in
    let on : rest form (words ++ word ∷ []) [] 0 (h.0 ++ (h.1 ++ 36 ∷ x))
    ≡ longer (length h.0) (Ends ((words ++ word ∷ []) ++ w ∷ more) (length h.1 + 1)) =
    word_on form (words ++ word ∷ []) [] w h.0 (h.1 ++ 36 ∷ x) spelt
    ∙ ap (longer (length h.0)) (behind_on form (words ++ word ∷ []) w more h.1 x b
    (rw none refl) (λ _. rw (b, several, none) refl) (λ _. several) h.3) in
    let size : 1 + (length h.0 + (length h.1 + 1)) ≡ length p + 1 =
    let l = ap length h.4 in let k = length-append h.0 h.1 in omega (arith, l, k) in
    ap (λ (q : List ℕ). rest form words word 0 (q ++ 36 ∷ x)) h.4
    ∙ ap (λ (q : List ℕ). rest form words word 0 (47 ∷ q)) (append_assoc h.0 h.1 (36 ∷ x))
    ∙ rest_slash form words word (h.0 ++ (h.1 ++ 36 ∷ x))
    ∙ may_go form.several (may_part words word) _ _ _ several part ∙ ap (longer 1) on
    ∙ ap (Ends ((words ++ word ∷ []) ++ w ∷ more)) size
    ∙ ap (λ q. Ends q (length p + 1)) (append_assoc words (word ∷ []) (w ∷ more))
  where
    may_go : (several part : Bool) (r u v : Rest) → several ≡ true → part ≡ true →
        cond several (cond part r u) v ≡ r
    may_go several part r u v e f = rw (e, f) refl

some_word : (word : List Symbol) → word ≢ [] → is_none word ≡ false
some_word [] h = absurd (h refl)
some_word (s ∷ word) h = refl

-- a first word and as many more as the dialect says
worded_unit : (dialect : Dialect) (word : List Symbol) (words : List (List Symbol))
    (bytes : List ℕ) → has_words dialect ≡ true → AreAsMany (form_of dialect).several words →
    IsWordedText (form_of dialect).surface word words bytes → UnitOf dialect bytes (word ∷ words)
worded_unit dialect word words bytes has many t =
    let front : List ℕ = t.front in
    let behind : List ℕ = t.behind in
    let none : is_none word ≡ false = some_word word t.some in
    let braced : (form_of dialect).braced ≡ false = words_brace dialect has in
    let spelt : IsWordText (in_surface (form_of dialect) []) word t.front =
    subst (λ v. IsWordText v word t.front) (sym (first_surface (form_of dialect))) t.word_is in
    let size : length t.front + (length t.behind + 1)
    ≡ length (t.front ++ (t.behind ++ 36 ∷ [])) =
    let l = length-append t.front (t.behind ++ 36 ∷ []) in
    let k = length-append t.behind (36 ∷ []) in omega (arith, l, k) in
    record {
      tail = t.front ++ (t.behind ++ 36 ∷ []);
      has = has;
      begins = t.spelled;
      on = λ x.
          ap (rest (form_of dialect) [] [] 0) (append_assoc t.front (t.behind ++ 36 ∷ []) x
          ∙ ap (λ (q : List ℕ). t.front ++ q) (append_assoc t.behind (36 ∷ []) x))
          ∙ word_on (form_of dialect) [] [] word t.front (t.behind ++ 36 ∷ x) spelt
          ∙ ap (longer (length t.front)) (behind_on (form_of dialect) [] word words t.behind x
          braced (rw none refl) (last words many none braced) (more words many) t.words_are)
          ∙ ap (Ends (word ∷ words)) size;
    }
  where
    last : (ws : List (List Symbol)) → AreAsMany (form_of dialect).several ws →
        is_none word ≡ false → (form_of dialect).braced ≡ false → ws ≡ [] →
        may_end (form_of dialect) [] word ≡ true
    last [] m n b e = rw (b, m, n) refl
    last (w ∷ ws) m n b e = absurd (cc)

    more : (ws : List (List Symbol)) → AreAsMany (form_of dialect).several ws →
        (ws ≡ [] → ⊥) → (form_of dialect).several ≡ true
    more [] m n = absurd (n refl)
    more (w ∷ ws) m n = m

pub text_unit : (dialect : Dialect) (words : List (List Symbol)) (bytes : List ℕ) →
    IsUnitText dialect words bytes → UnitOf dialect bytes words
text_unit Raw words bytes h = absurd h
text_unit Analysed [] bytes h = absurd h
text_unit Analysed (surface ∷ []) bytes h = absurd h
text_unit Analysed (surface ∷ reading ∷ readings) bytes h =
    worded_unit Analysed surface (reading ∷ readings) bytes refl refl h
text_unit Lexical [] bytes h = absurd h
text_unit Lexical (word ∷ []) bytes h = worded_unit Lexical word [] bytes refl refl h
text_unit Lexical (word ∷ other ∷ words) bytes h = absurd h
text_unit Bilingual [] bytes h = absurd h
text_unit Bilingual (word ∷ []) bytes h = absurd h
text_unit Bilingual (word ∷ translation ∷ translations) bytes h =
    worded_unit Bilingual word (translation ∷ translations) bytes refl refl h
text_unit Chunked words bytes h = absurd h
text_unit Generated words bytes h = absurd h

-- what is read of words are their bytes

-- $, or the { behind a chunk's name
abbrev pub end_of : Form → ℕ
end_of form = cond form.braced 123 36

-- the rest of the word that has begun, the words behind it, and the end
pub record AreTexts (form : Form) (words : List (List Symbol)) (word : List Symbol) (bs : List ℕ)
    (all : List (List Symbol)) (n : ℕ) : Type 0 where
  pub front : List ℕ
  pub behind : List ℕ
  pub more : List Symbol
  pub later : List (List Symbol)
  pub front_is : IsWordText (in_surface form words) more front
  pub behind_are : AreWordTexts later behind
  pub one : form.several ≡ false → later ≡ []
  pub all_is : all ≡ words ++ (word ++ more) ∷ later
  pub spelled : take n bs ≡ front ++ (behind ++ end_of form ∷ [])

abbrev RestTexts : Form → List (List Symbol) → List Symbol → List ℕ → Rest → Type 0
RestTexts form words word bs Lacks = Unit {0}
RestTexts form words word bs (Wrong kind) = Unit {0}
RestTexts form words word bs (Ends all n) = AreTexts form words word bs all n

texts_cond : (form : Form) (words : List (List Symbol)) (word : List Symbol) (bs : List ℕ)
    (v : Bool) (r t : Rest) → (v ≡ true → RestTexts form words word bs r) →
    (v ≡ false → RestTexts form words word bs t) → RestTexts form words word bs (cond v r t)
texts_cond form words word bs true r t h k = h refl
texts_cond form words word bs false r t h k = k refl

drop_pred : (n b : ℕ) (bs : List ℕ) → 0 < n → drop n (b ∷ bs) ≡ drop (pred n) bs
drop_pred zero b bs some = absurd (omega (arith, some))
drop_pred (suc n) b bs some = refl

module _ (form : Form) (words : List (List Symbol)) (word : List Symbol) (b : ℕ) (bs : List ℕ) where
  reads_texts : (s : Symbol) (n : ℕ) → sign (in_surface form words) (b ∷ bs) ≡ Reads s n →
      (r : Rest) → RestTexts form words (word ++ s ∷ []) (drop (pred n) bs) r →
      RestTexts form words word (b ∷ bs) (longer n r)
  reads_texts s n e Lacks h = tt
  reads_texts s n e (Wrong kind) h = tt
  reads_texts s n e (Ends all m) h =
      let f = sign_cut_at (in_surface form words) b bs [] s n e in
      let back : drop n (b ∷ bs) ≡ drop (pred n) bs = drop_pred n b bs f.1 in
      record {
        front = take n (b ∷ bs) ++ h.front;
        behind = h.behind;
        more = s ∷ h.more;
        later = h.later;
        front_is = (
          take n (b ∷ bs),
          h.front,
          sign_text (in_surface form words) (b ∷ bs) s n e,
          h.front_is,
          refl,
        );
        behind_are = h.behind_are;
        one = h.one;
        all_is = h.all_is ∙ ap (λ (q : List Symbol). words ++ q ∷ h.later)
            (append_assoc word (s ∷ []) h.more);
        spelled = take-add n m (b ∷ bs)
            ∙ ap (λ (q : List ℕ). take n (b ∷ bs) ++ take m q) back
            ∙ ap (λ (q : List ℕ). take n (b ∷ bs) ++ q) h.spelled
            ∙ sym (append_assoc (take n (b ∷ bs)) h.front (h.behind ++ end_of form ∷ []));
      }

  slash_texts : b ≡ 47 → form.several ≡ true → (r : Rest) →
      RestTexts form (words ++ word ∷ []) [] bs r →
      RestTexts form words word (b ∷ bs) (longer 1 r)
  slash_texts is several Lacks h = tt
  slash_texts is several (Wrong kind) h = tt
  slash_texts is several (Ends all m) h =
      let none : is_none (words ++ word ∷ []) ≡ false = none_after words word in
      let size : 1 + m ≡ suc m = omega arith in
      let end : List ℕ = h.behind ++ end_of form ∷ [] in
      record {
        front = [];
        behind = 47 ∷ (h.front ++ h.behind);
        more = [];
        later = h.more ∷ h.later;
        front_is = refl;
        behind_are = (
          h.front,
          h.behind,
          subst (λ v. IsWordText v h.more h.front)
              (not_surface form (words ++ word ∷ []) none) h.front_is,
          h.behind_are,
          refl,
        );
        one = λ s. absurd (let k : true ≡ false = sym several ∙ s in cc);
        all_is = h.all_is ∙ append_assoc words (word ∷ []) (h.more ∷ h.later)
            ∙ ap (λ (q : List Symbol). words ++ q ∷ h.more ∷ h.later) (sym (append-nil word));
        spelled = ap (λ k. take k (b ∷ bs)) size ∙ ap (λ z. z ∷ take m bs) is
            ∙ ap (λ (q : List ℕ). 47 ∷ q) (h.spelled
            ∙ sym (append_assoc h.front h.behind (end_of form ∷ [])));
      }

  end_texts : end_of form ≡ b → AreTexts form words word (b ∷ bs) (words ++ word ∷ []) 1
  end_texts is = record {
    front = [];
    behind = [];
    more = [];
    later = [];
    front_is = refl;
    behind_are = refl;
    one = λ _. refl;
    all_is = ap (λ (q : List Symbol). words ++ q ∷ []) (sym (append-nil word));
    spelled = ap (λ z. z ∷ []) (sym is);
  }

  gone_texts : (s : Sign) → sign (in_surface form words) (b ∷ bs) ≡ s → EndsIn b s →
      ((ws : List (List Symbol)) (w : List Symbol) (k : ℕ) →
      RestTexts form ws w (drop k bs) (rest form ws w k bs)) →
      RestTexts form words word (b ∷ bs) (gone form words word s (λ ws w k. rest form ws w k bs))
  gone_texts Awaits e i go = tt
  gone_texts (Bars kind) e i go = tt
  gone_texts (Reads s n) e i go =
      reads_texts s n e (rest form words (word ++ s ∷ []) (pred n) bs)
      (go words (word ++ s ∷ []) (pred n))
  gone_texts Slash e i go =
      texts_cond form words word (b ∷ bs) form.several _ (Wrong Stray)
      (λ several. texts_cond form words word (b ∷ bs) (may_part words word)
      (longer 1 (rest form (words ++ word ∷ []) [] 0 bs)) (Wrong EmptyWord)
      (λ _. slash_texts i several (rest form (words ++ word ∷ []) [] 0 bs)
      (go (words ++ word ∷ []) [] 0)) (λ _. tt)) (λ _. tt)
  gone_texts Dollar e i go =
      texts_cond form words word (b ∷ bs) (may_end form words word) (Ends (words ++ word ∷ []) 1)
      (Wrong (early form))
      (λ may. end_texts (let no : form.braced ≡ false =
      not-true form.braced (and_parts (not form.braced) _ may).0 in rw no (sym i))) (λ _. tt)
  gone_texts Brace e i go =
      texts_cond form words word (b ∷ bs) form.braced (Ends (words ++ word ∷ []) 1) (Wrong Stray)
      (λ braced. end_texts (rw braced (sym i))) (λ _. tt)

rest_texts : (form : Form) (words : List (List Symbol)) (word : List Symbol) (skip : ℕ)
    (bs : List ℕ) → RestTexts form words word (drop skip bs) (rest form words word skip bs)
unfolding rest
rest_texts form words word skip [] = tt
rest_texts form words word (suc skip) (b ∷ bs) = rest_texts form words word skip bs
rest_texts form words word zero (b ∷ bs) =
    gone_texts form words word b bs (sign (in_surface form words) (b ∷ bs)) refl
    (sign_ends (in_surface form words) b bs) (λ ws w k. rest_texts form ws w k bs)

pub texts_of : (form : Form) (bs : List ℕ) (all : List (List Symbol)) (n : ℕ) →
    rest form [] [] 0 bs ≡ Ends all n → AreTexts form [] [] bs all n
texts_of form bs all n e =
    subst (RestTexts form [] [] bs) e (rest_texts form [] [] 0 bs)

some_there : (word : List Symbol) → 0 < length word → word ≢ []
some_there [] h = absurd (omega (arith, h))
some_there (s ∷ word) h = λ e. cc

-- by the dialect
pub unit_text : (dialect : Dialect) (held : List ℕ) (words : List (List Symbol)) →
    UnitOf dialect held words → IsUnitText dialect words held
unit_text dialect held words u =
    let end : rest (form_of dialect) [] [] 0 u.tail ≡ Ends words (length u.tail) =
    ap (rest (form_of dialect) [] [] 0) (sym (append-nil u.tail)) ∙ u.on [] in
    let t = texts_of (form_of dialect) u.tail words (length u.tail) end in
    let are : AreWords dialect words =
    unit_words dialect (held ++ []) words (length held) (unit_always dialect held words u []) in
    let braced : (form_of dialect).braced ≡ false = words_brace dialect u.has in
    let tail : u.tail ≡ t.front ++ (t.behind ++ 36 ∷ []) =
    sym (take_all (length u.tail) u.tail (omega arith)) ∙ t.spelled
    ∙ rw braced refl in
    subst (λ (q : List (List Symbol)). IsUnitText dialect q held) (sym t.all_is)
    (by dialect t.more t.later (subst (AreWords dialect) t.all_is are) (worded t tail
    (subst (AreWords dialect) t.all_is are)))
  where
    worded : (t : AreTexts (form_of dialect) [] [] u.tail words (length u.tail)) →
        u.tail ≡ t.front ++ (t.behind ++ 36 ∷ []) → AreWords dialect (t.more ∷ t.later) →
        IsWordedText (form_of dialect).surface t.more t.later held
    worded t tail are = record {
      front = t.front;
      behind = t.behind;
      some = some_there t.more are.1;
      word_is = subst (λ v. IsWordText v t.more t.front) (first_surface (form_of dialect))
          t.front_is;
      words_are = t.behind_are;
      spelled = u.begins ∙ ap (λ (q : List ℕ). 94 ∷ q) tail;
    }

    by : (d : Dialect) (word : List Symbol) (more : List (List Symbol)) → AreWords d (word ∷ more) →
        IsWordedText (form_of d).surface word more held → IsUnitText d (word ∷ more) held
    by Raw word more a h = absurd (let k = a.0 in cc)
    by Analysed word [] a h = absurd (let k = a.4 in cc)
    by Analysed word (reading ∷ more) a h = h
    by Lexical word [] a h = h
    by Lexical word (other ∷ more) a h = absurd (let k = a.4 in cc)
    by Bilingual word [] a h = absurd (let k = a.4 in cc)
    by Bilingual word (translation ∷ more) a h = h
    by Chunked word more a h = absurd (let k = a.0 in cc)
    by Generated word more a h = absurd (let k = a.0 in cc)

-- the name of a chunk
pub name_text : (bs : List ℕ) (words : List (List Symbol)) (n : ℕ) →
    rest (form_of Chunked) [] [] 0 bs ≡ Ends words n →
    (front : List ℕ) × IsWordText false (first_word words) front × (take n bs ≡ front ++ 123 ∷ [])
name_text bs words n e =
    let t = texts_of (form_of Chunked) bs words n e in
    let alone : t.later ≡ [] = t.one refl in
    let none : t.behind ≡ [] =
    subst (λ (q : List (List Symbol)). AreWordTexts q t.behind) alone t.behind_are in (
      t.front,
      subst (λ (q : List (List Symbol)). IsWordText false (first_word q) t.front) (sym t.all_is)
          t.front_is,
      t.spelled ∙ ap (λ (q : List ℕ). t.front ++ (q ++ 123 ∷ [])) none,
    )
