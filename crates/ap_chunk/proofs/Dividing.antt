-- A word as its lemma and its tags.
use Rattle.std.proofs.Common.{◌≡◌, ℕ, suc, Bool, true, false, ◌&&◌, cond, List, [], ◌∷◌, ◌++◌, length, take, refl, ap, sym, ◌∙◌}
use Rattle.std.specs.List.{list_all, list_any}
use Rattle.std.proofs.lemmas.Bool.{false≢true, and_parts, or_parts, or_from}
use Rattle.ap_symbol.specs.Kinds.{is_tag}
use Rattle.ap_symbol.specs.declared.symbol.Symbol.{Symbol}
use Rattle.ap_symbol.specs.Fitting.{fits_lem, lists_fit}
use Rattle.ap_chunk.specs.Tests.{first_tag}

pub other_lengths : (item word : List Symbol) → (length item ≡ length word → ⊥) →
    lists_fit false item word ≡ false
other_lengths [] [] ne = absurd (ne refl)
other_lengths [] (x ∷ word) ne = refl
other_lengths (a ∷ item) [] ne = refl
other_lengths (a ∷ item) (x ∷ word) ne =
    either (fits_lem false a x) (lists_fit false item word)
    (other_lengths item word (λ e. ne (ap suc e)))
  where
    either : (b t : Bool) → t ≡ false → (b && t) ≡ false
    either true t h = h
    either false t h = refl

before_at : (b : Bool) (x : Symbol) (word : List Symbol) → is_tag x ≡ b →
    list_any is_tag (take (first_tag word) word) ≡ false →
    list_any is_tag (take (cond b 0 (suc (first_tag word))) (x ∷ word)) ≡ false
before_at true x word e h = refl
before_at false x word e h = or_from (is_tag x) (list_any is_tag (take (first_tag word) word)) e h

pub none_before : (word : List Symbol) → list_any is_tag (take (first_tag word) word) ≡ false
none_before [] = refl
none_before (x ∷ word) = before_at (is_tag x) x word refl (none_before word)

tag_first : (b : Bool) (n : ℕ) → b ≡ true → cond b 0 n ≡ 0
tag_first true n h = refl
tag_first false n h = absurd (false≢true h)

first_of_tags : (tags : List Symbol) → list_all is_tag tags ≡ true → first_tag tags ≡ 0
first_of_tags [] h = refl
first_of_tags (x ∷ tags) h =
    tag_first (is_tag x) (suc (first_tag tags)) (and_parts (is_tag x) (list_all is_tag tags) h).0

no_tag_first : (b : Bool) (n : ℕ) → b ≡ false → cond b 0 n ≡ n
no_tag_first true n h = absurd (false≢true (sym h))
no_tag_first false n h = refl

-- so a word is divided in one way
pub first_behind : (lemma tags : List Symbol) → list_any is_tag lemma ≡ false →
    list_all is_tag tags ≡ true → first_tag (lemma ++ tags) ≡ length lemma
first_behind [] tags h k = first_of_tags tags k
first_behind (x ∷ lemma) tags h k =
    let p = or_parts (is_tag x) (list_any is_tag lemma) h in
    no_tag_first (is_tag x) (suc (first_tag (lemma ++ tags))) p.0
    ∙ ap suc (first_behind lemma tags p.1 k)
