-- What is kept of the seven files of a whole translation, and the row of its stages.
use Rattle.std.proofs.Common.{◌≡◌, ℕ, ◌+◌, ◌<◌, true, false, List, [], ◌∷◌, ◌++◌, sym, ◌∙◌, subst, refl, ap}
use Rattle.ap_stream.specs.declared.dialect.Dialect.TheVariants.{Chunked}
use Rattle.ap_fst.specs.Sections.{Parts}
use Rattle.ap_fst.specs.declared.compiled.Way.{Way}
use Rattle.ap_fst.specs.declared.compiled.Way.TheVariants as told
use Rattle.ap_rules.specs.Plain.{PlainRules}
use Rattle.ap_rules.specs.Views.{plain_rules, makes_chunks}
use Rattle.ap_rules.specs.declared.rules.DefaultPiece.{DefaultPiece}
use Rattle.ap_rules.specs.declared.rules.DefaultPiece.TheVariants as default
use Rattle.ap_rules.specs.declared.rules.Form.{Form}
use Rattle.ap_rules.specs.declared.rules.Form.TheVariants as form
use Rattle.ap_rules.specs.declared.rules.Rules.{Rules as RuleFile}
use Rattle.ap_chunk.specs.Laws.{given_dialect}
use Rattle.ap_pipe.specs.declared.any_stage.AnyStage.{AnyStage}
use Rattle.ap_command.specs.declared.content.Content.{Content}
use Rattle.ap_command.specs.declared.content.Content.TheVariants as code
use Rattle.ap_command.specs.Said.{Said, Entries, Sections, Rules}
use Rattle.ap_command.specs.declared.reading.Manner.TheVariants.{Either, Ruled, Chunking}
use Rattle.ap_command.specs.declared.reading.Reading.{Reading}
use Rattle.ap_command.specs.declared.words.Command.TheVariants.{Run}
use Rattle.ap_command.specs.Words.{files_of, AreWithin}
use Rattle.ap_command.specs.Reading.{IsKeptAs, ServesAs, AreTranslation}
use Rattle.ap_command.specs.Rows.{Stage, Deformats, Reformats, AreJoined, ReadAsWritten, row_writes, stage_reads, translation, plain_translation}
use Rattle.ap_command.specs.Stream.{IsStage, AreStages, IsRow}
use Rattle.ap_command.specs.Answer.{AreKeptAs}
use Rattle.ap_command.proofs.Gave.{rules-serve, rules-said, none-left}

-- the first of the files says this, and something is kept of it
record First (r : Reading) (rs : List Reading) (said : List Said) (kept : List Content) : Type 0
  where
    head : Said
    tail : List Said
    k : Content
    ks : List Content
    is : kept ≡ k ∷ ks
    here : IsKeptAs r.manner head k
    there : AreKeptAs rs tail ks

first : (r : Reading) (rs : List Reading) (said : List Said) (kept : List Content) →
    AreKeptAs (r ∷ rs) said kept → First r rs said kept
first r rs [] kept h = absurd h
first r rs (c ∷ cs) [] h = absurd h
first r rs (c ∷ cs) (k ∷ ks) h = record {
  head = c;
  tail = cs;
  k = k;
  ks = ks;
  is = refl;
  here = h.0;
  there = h.1;
}

-- a compiled dictionary is kept, or rules
sections-kept : (way : Way) (c : Said) (k : Content) → IsKeptAs (Either way) c k →
    (p : Parts) × (k ≡ code.Sections p)
sections-kept way (Entries d) (code.Sections p) h = (p, refl)
sections-kept way (Sections q) (code.Sections p) h = (p, refl)
sections-kept way c k h = absurd h

rules-kept : (form : Form) (c : Said) (k : Content) → IsKeptAs (Ruled form) c k →
    (r : RuleFile) × (k ≡ code.Rules r)
rules-kept form (Rules q) (code.Rules r) h = (r, refl)
rules-kept form c k h = absurd h

chunking-kept : (c : Said) (k : Content) → IsKeptAs Chunking c k →
    (r : RuleFile) × (k ≡ code.Rules r)
chunking-kept (Rules q) (code.Rules r) h = (r, refl)
chunking-kept c k h = absurd h

none-kept : (said : List Said) (kept : List Content) → AreKeptAs [] said kept → kept ≡ []
none-kept [] [] h = refl
none-kept said kept h = absurd h

-- the files behind the first ones of a whole translation
abbrev files_6 : ℕ → List Reading
files_6 at = record { place = at + 6; manner = Either told.Lr } ∷ []

abbrev files_5 : ℕ → List Reading
files_5 at = record { place = at + 5; manner = Either told.Rl } ∷ files_6 at

abbrev files_4 : ℕ → List Reading
files_4 at = record { place = at + 4; manner = Ruled form.Postchunk } ∷ files_5 at

abbrev files_3 : ℕ → List Reading
files_3 at = record { place = at + 3; manner = Ruled form.Interchunk } ∷ files_4 at

abbrev files_2 : ℕ → List Reading
files_2 at = record { place = at + 2; manner = Chunking } ∷ files_3 at

abbrev files_1 : ℕ → List Reading
files_1 at = record { place = at + 1; manner = Either told.Untold } ∷ files_2 at

alike : (a b c d e f g a' b' c' d' e' f' g' : Content) (k0 k1 k2 k3 k4 k5 k6 k7 : List Content) →
    k0 ≡ a ∷ k1 → k1 ≡ b ∷ k2 → k2 ≡ c ∷ k3 → k3 ≡ d ∷ k4 → k4 ≡ e ∷ k5 → k5 ≡ f ∷ k6 →
    k6 ≡ g ∷ k7 → k7 ≡ [] → a ≡ a' → b ≡ b' → c ≡ c' → d ≡ d' → e ≡ e' → f ≡ f' → g ≡ g' →
    k0 ≡ a' ∷ b' ∷ c' ∷ d' ∷ e' ∷ f' ∷ g' ∷ []
alike a b c d e f g a' b' c' d' e' f' g' k0 k1 k2 k3 k4 k5 k6 k7 e0 e1 e2 e3 e4 e5 e6 e7
    p0 p1 p2 p3 p4 p5 p6 = cc

-- what is kept of seven files is that of a whole translation
pub translation-kept : (room at : ℕ) (said : List Said) (kept : List Content) →
    AreKeptAs (files_of (Run room at)) said kept → AreTranslation kept
translation-kept room at said kept h =
    let a = first (record { place = at; manner = Either told.Lr }) (files_1 at) said kept h in
    let b = first (record { place = at + 1; manner = Either told.Untold }) (files_2 at) a.tail a.ks
    a.there in
    let c = first (record { place = at + 2; manner = Chunking }) (files_3 at) b.tail b.ks b.there in
    let d = first (record { place = at + 3; manner = Ruled form.Interchunk }) (files_4 at) c.tail
    c.ks c.there in
    let e = first (record { place = at + 4; manner = Ruled form.Postchunk }) (files_5 at) d.tail
    d.ks d.there in
    let f = first (record { place = at + 5; manner = Either told.Rl }) (files_6 at) e.tail e.ks
    e.there in
    let g = first (record { place = at + 6; manner = Either told.Lr }) [] f.tail f.ks f.there in
    let p0 = sections-kept told.Lr a.head a.k a.here in
    let p1 = sections-kept told.Untold b.head b.k b.here in
    let p2 = chunking-kept c.head c.k c.here in
    let p3 = rules-kept form.Interchunk d.head d.k d.here in
    let p4 = rules-kept form.Postchunk e.head e.k e.here in
    let p5 = sections-kept told.Rl f.head f.k f.here in
    let p6 = sections-kept told.Lr g.head g.k g.here in
    subst AreTranslation
    (sym (alike a.k b.k c.k d.k e.k f.k g.k (code.Sections p0.0) (code.Sections p1.0)
    (code.Rules p2.0) (code.Rules p3.0) (code.Rules p4.0) (code.Sections p5.0)
    (code.Sections p6.0) kept a.ks b.ks c.ks d.ks e.ks f.ks g.ks a.is b.is c.is d.is e.is f.is g.is
    (none-kept g.tail g.ks g.there) p0.1 p1.1 p2.1 p3.1 p4.1 p5.1 p6.1)) tt

-- what is kept of a whole translation, part by part
pub record Held (kept : List Content) : Type 0 where
  pub mono : Parts
  pub bi : Parts
  pub t1x : RuleFile
  pub t2x : RuleFile
  pub t3x : RuleFile
  pub gen : Parts
  pub post : Parts
  pub is : kept ≡ code.Sections mono ∷ code.Sections bi ∷ code.Rules t1x ∷ code.Rules t2x
      ∷ code.Rules t3x ∷ code.Sections gen ∷ code.Sections post ∷ []

pub held : (kept : List Content) → AreTranslation kept → Held kept
held (code.Sections mono ∷ code.Sections bi ∷ code.Rules t1x ∷ code.Rules t2x ∷ code.Rules t3x
    ∷ code.Sections gen ∷ code.Sections post ∷ []) h = record {
      mono = mono;
      bi = bi;
      t1x = t1x;
      t2x = t2x;
      t3x = t3x;
      gen = gen;
      post = post;
      is = refl;
    }
held kept h = absurd h

none-behind : (mono bi : Parts) (t1x t2x t3x : RuleFile) (gen post : Parts) (more : List Content) →
    AreTranslation (code.Sections mono ∷ code.Sections bi ∷ code.Rules t1x ∷ code.Rules t2x
    ∷ code.Rules t3x ∷ code.Sections gen ∷ code.Sections post ∷ more) → more ≡ []
none-behind mono bi t1x t2x t3x gen post [] h = refl
none-behind mono bi t1x t2x t3x gen post (x ∷ xs) h = absurd h

-- what was taken part by part is all that is kept
pub all-taken : (mono bi : Parts) (t1x t2x t3x : RuleFile) (gen post : Parts)
    (k0 k1 k2 k3 k4 k5 k6 k7 : List Content) → AreTranslation k0 → k0 ≡ code.Sections mono ∷ k1 →
    k1 ≡ code.Sections bi ∷ k2 → k2 ≡ code.Rules t1x ∷ k3 → k3 ≡ code.Rules t2x ∷ k4 →
    k4 ≡ code.Rules t3x ∷ k5 → k5 ≡ code.Sections gen ∷ k6 → k6 ≡ code.Sections post ∷ k7
    → k0 ≡ code.Sections mono ∷ code.Sections bi ∷ code.Rules t1x ∷ code.Rules t2x
    ∷ code.Rules t3x ∷ code.Sections gen ∷ code.Sections post ∷ []
all-taken mono bi t1x t2x t3x gen post k0 k1 k2 k3 k4 k5 k6 k7 h e0 e1 e2 e3 e4 e5 e6 =
    let is : k0 ≡ code.Sections mono ∷ code.Sections bi ∷ code.Rules t1x ∷ code.Rules t2x
    ∷ code.Rules t3x ∷ code.Sections gen ∷ code.Sections post ∷ k7 =
    e0 ∙ ap (λ x. code.Sections mono ∷ x) (e1 ∙ ap (λ x. code.Sections bi ∷ x)
    (e2 ∙ ap (λ x. code.Rules t1x ∷ x) (e3 ∙ ap (λ x. code.Rules t2x ∷ x)
    (e4 ∙ ap (λ x. code.Rules t3x ∷ x) (e5 ∙ ap (λ x. code.Sections gen ∷ x) e6))))) in
    is ∙ ap (λ x. code.Sections mono ∷ code.Sections bi ∷ code.Rules t1x ∷ code.Rules t2x
    ∷ code.Rules t3x ∷ code.Sections gen ∷ code.Sections post ∷ x)
    (none-behind mono bi t1x t2x t3x gen post k7 (subst AreTranslation is h))

-- the last of the seven files is one of so many words
pub last-within : (words room at : ℕ) → AreWithin words (files_of (Run room at)) → at + 6 < words
last-within words room at w = w.1.1.1.1.1.1.0

-- what the seven files say of which this is kept
pub record Seven (said : List Said) (mono bi : Parts) (t1x t2x t3x : RuleFile) (gen post : Parts) :
    Type 0 where
  pub m : Said
  pub b : Said
  pub g : Said
  pub p : Said
  pub is : said ≡ m ∷ b ∷ Rules (plain_rules t1x) ∷ Rules (plain_rules t2x)
      ∷ Rules (plain_rules t3x) ∷ g ∷ p ∷ []
  pub m_kept : IsKeptAs (Either told.Lr) m (code.Sections mono)
  pub b_kept : IsKeptAs (Either told.Untold) b (code.Sections bi)
  pub g_kept : IsKeptAs (Either told.Rl) g (code.Sections gen)
  pub p_kept : IsKeptAs (Either told.Lr) p (code.Sections post)
  pub t1x_serves : ServesAs form.Transfer t1x
  pub chunks : makes_chunks t1x.form t1x.default ≡ true
  pub t2x_serves : ServesAs form.Interchunk t2x
  pub t3x_serves : ServesAs form.Postchunk t3x

-- rules that make chunks
chunking-said : (said : Said) (r : RuleFile) → IsKeptAs Chunking said (code.Rules r) →
    said ≡ Rules (plain_rules r)
chunking-said (Rules p) r k = ap Rules k.0
chunking-said said r k = absurd k

chunking-serve : (said : Said) (r : RuleFile) → IsKeptAs Chunking said (code.Rules r) →
    ServesAs form.Transfer r
chunking-serve (Rules p) r k = k.1
chunking-serve said r k = absurd k

chunking-chunks : (said : Said) (r : RuleFile) → IsKeptAs Chunking said (code.Rules r) →
    makes_chunks r.form r.default ≡ true
chunking-chunks (Rules p) r k = k.2
chunking-chunks said r k = absurd k

both : {A : Type 0} (x y : A) (xs ys : List A) → x ≡ y → xs ≡ ys → x ∷ xs ≡ y ∷ ys
both x y xs ys e f = cc

pub seven-said : (room at : ℕ) (said : List Said) (mono bi : Parts) (t1x t2x t3x : RuleFile)
    (gen post : Parts) → AreKeptAs (files_of (Run room at)) said (code.Sections mono
    ∷ code.Sections bi ∷ code.Rules t1x ∷ code.Rules t2x ∷ code.Rules t3x ∷ code.Sections gen
    ∷ code.Sections post ∷ []) → Seven said mono bi t1x t2x t3x gen post
seven-said room at [] mono bi t1x t2x t3x gen post h = absurd h
seven-said room at (m ∷ []) mono bi t1x t2x t3x gen post h = absurd h.1
seven-said room at (m ∷ b ∷ []) mono bi t1x t2x t3x gen post h = absurd h.1.1
seven-said room at (m ∷ b ∷ t ∷ []) mono bi t1x t2x t3x gen post h = absurd h.1.1.1
seven-said room at (m ∷ b ∷ t ∷ u ∷ []) mono bi t1x t2x t3x gen post h = absurd h.1.1.1.1
seven-said room at (m ∷ b ∷ t ∷ u ∷ v ∷ []) mono bi t1x t2x t3x gen post h = absurd h.1.1.1.1.1
seven-said room at (m ∷ b ∷ t ∷ u ∷ v ∷ g ∷ []) mono bi t1x t2x t3x gen post h =
    absurd h.1.1.1.1.1.1
seven-said room at (m ∷ b ∷ t ∷ u ∷ v ∷ g ∷ p ∷ cs) mono bi t1x t2x t3x gen post h =
    let two = h.1.1 in
    let four = two.1.1 in
    let six = four.1.1 in
    record {
      m = m;
      b = b;
      g = g;
      p = p;
      is = ap (λ x. m ∷ b ∷ x)
          (both t (Rules (plain_rules t1x)) (u ∷ v ∷ g ∷ p ∷ cs) _ (chunking-said t t1x two.0)
          (both u (Rules (plain_rules t2x)) (v ∷ g ∷ p ∷ cs) _
          (rules-said form.Interchunk u t2x two.1.0)
          (both v (Rules (plain_rules t3x)) (g ∷ p ∷ cs) _
          (rules-said form.Postchunk v t3x four.0)
          (ap (λ x. g ∷ p ∷ x) (none-left cs [] six.1)))));
      m_kept = h.0;
      b_kept = h.1.0;
      g_kept = four.1.0;
      p_kept = six.0;
      t1x_serves = chunking-serve t t1x two.0;
      chunks = chunking-chunks t t1x two.0;
      t2x_serves = rules-serve form.Interchunk u (code.Rules t2x) t2x two.1.0 refl;
      t3x_serves = rules-serve form.Postchunk v (code.Rules t3x) t3x four.0 refl;
    }

-- rules of transfer that make chunks give the dialect of chunks
chunks-given : (form : Form) (piece : DefaultPiece) → makes_chunks form piece ≡ true →
    Chunked ≡ given_dialect piece
chunks-given form.Transfer default.Chunk e = refl
chunks-given form.Transfer default.Lu e = absurd (let x : false ≡ true = e in cc)
chunks-given form.Interchunk piece e = absurd (let x : false ≡ true = e in cc)
chunks-given form.Postchunk piece e = absurd (let x : false ≡ true = e in cc)

-- the nine stages are joined
pub translation-row : (mono bi : Said) (t1x t2x t3x : RuleFile) (gen post : Said)
    (row : List AnyStage) → makes_chunks t1x.form t1x.default ≡ true →
    AreStages (translation mono bi (plain_rules t1x) (plain_rules t2x) (plain_rules t3x) gen post)
    row
    → IsRow (translation mono bi (plain_rules t1x) (plain_rules t2x) (plain_rules t3x) gen post)
    row
translation-row mono bi t1x t2x t3x gen post row e h = record {
  joined = (
    refl,
    (refl, (refl, (refl, (chunks-given t1x.form t1x.default e, (refl, (refl, (refl, tt))))))),
  );
  each = h;
}

-- a stage behind the others
stages-behind : (ss : List Stage) (row : List AnyStage) (s : Stage) (a : AnyStage) →
    AreStages ss row → IsStage s a → AreStages (ss ++ s ∷ []) (row ++ a ∷ [])
stages-behind [] [] s a h i = (i, tt)
stages-behind [] (r ∷ row) s a h i = absurd h
stages-behind (t ∷ ss) [] s a h i = absurd h
stages-behind (t ∷ ss) (r ∷ row) s a h i = (h.0, stages-behind ss row s a h.1 i)

joined-behind : (ss : List Stage) (s : Stage) → AreJoined ss →
    ReadAsWritten (row_writes ss) (stage_reads s) → AreJoined (ss ++ s ∷ [])
joined-behind [] s j r = absurd j
joined-behind (t ∷ []) s j r = (r, tt)
joined-behind (t ∷ u ∷ ss) s j r = (j.0, joined-behind (u ∷ ss) s j.1 r)

-- the eleven stages of a plain text
pub plain-row : (mono bi : Said) (t1x t2x t3x : PlainRules) (gen post : Said)
    (row next last : List AnyStage) (a z : AnyStage) →
    IsRow (translation mono bi t1x t2x t3x gen post) row → next ≡ a ∷ row → last ≡ next ++ z ∷ [] →
    IsStage Deformats a → IsStage Reformats z →
    IsRow (plain_translation mono bi t1x t2x t3x gen post) last
plain-row mono bi t1x t2x t3x gen post row next last a z i e f p q =
    subst (IsRow (plain_translation mono bi t1x t2x t3x gen post))
    (sym (f ∙ ap (λ r. r ++ z ∷ []) e)) (record {
      joined = (
        refl,
        joined-behind (translation mono bi t1x t2x t3x gen post) Reformats i.joined
            refl,
      );
      each = (p, stages-behind (translation mono bi t1x t2x t3x gen post) row Reformats z i.each q);
    })
