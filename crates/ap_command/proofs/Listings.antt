use Rattle.std.proofs.Common.{◌≡◌, ℕ, List, [], ◌∷◌, ◌++◌, length, take, ap, sym, ◌∙◌, subst, refl, inl, inr, append_assoc, append-nil}
use Rattle.std.proofs.lemmas.List.Concat.{flat_map-append}
use Rattle.ap_outside.specs.Causes.{Rose}
use Rattle.ap_outside.specs.Told.{Puts, PutsFront}
use Rattle.ap_command.specs.declared.status.Status.TheVariants.{Done, WriteFault, Memory}
use Rattle.ap_pipe.specs.Standing.{Standing}
use Rattle.ap_command.specs.Listing.{lines_text, Gathers, IsListed, IsSoFar}
use Rattle.ap_command.proofs.Told.{puts-then, puts-then-front}

lines-append : (a b : List (List ℕ)) → lines_text (a ++ b) ≡ lines_text a ++ lines_text b
lines-append a b = flat_map-append (λ (line : List ℕ). line ++ 10 ∷ []) a b

-- one more line was gathered
pub gathered-more : (old now next : List (List ℕ)) (text line t1 t2 feed : List ℕ) →
    Gathers old now text → now ≡ line ∷ next → t1 ≡ text ++ line → t2 ≡ t1 ++ feed →
    feed ≡ 10 ∷ [] → Gathers old next t2
gathered-more old now next text line t1 t2 feed g e a b f = record {
  now = g.now ++ line ∷ [];
  lines_are = g.lines_are ∙ ap (λ (r : List (List ℕ)). g.now ++ r) e
      ∙ sym (append_assoc g.now (line ∷ []) next);
  text_is = b ∙ ap (λ (x : List ℕ). x ++ feed) (a ∙ ap (λ (x : List ℕ). x ++ line) g.text_is)
      ∙ ap (λ (x : List ℕ). (lines_text g.now ++ line) ++ x) f
      ∙ append_assoc (lines_text g.now) line (10 ∷ [])
      ∙ ap (λ (x : List ℕ). lines_text g.now ++ x) (sym (append-nil (line ++ 10 ∷ [])))
      ∙ sym (lines-append g.now (line ∷ []));
}

-- what is to come of the text, behind what was gathered
split-rest : (old now : Standing) (whole : List ℕ) (rest next : List (List ℕ)) (text : List ℕ)
    (s : IsSoFar old now whole rest) → Gathers rest next text →
    whole ≡ s.text ++ (text ++ lines_text next)
split-rest old now whole rest next text s g =
    s.whole_is ∙ ap (λ (x : List ℕ). s.text ++ x) (ap lines_text g.lines_are
    ∙ lines-append g.now next ∙ ap (λ (x : List ℕ). x ++ lines_text next) (sym g.text_is))

-- and it was put
pub goes-on : (old mid new : Standing) (whole : List ℕ) (rest next : List (List ℕ))
    (text piece : List ℕ) → IsSoFar old mid whole rest → Gathers rest next text → piece ≡ text
    → Puts mid.bytes new.bytes piece → new.faults ≡ mid.faults → IsSoFar old new whole next
goes-on old mid new whole rest next text piece s g e p f = record {
  text = s.text ++ text;
  put = puts-then old.bytes mid.bytes new.bytes s.text text s.put
      (subst (λ (x : List ℕ). Puts mid.bytes new.bytes x) e p);
  calm = f ∙ s.calm;
  whole_is = split-rest old mid whole rest next text s g
      ∙ sym (append_assoc s.text text (lines_text next));
}

-- a put of it failed
pub fails : (old mid new : Standing) (whole : List ℕ) (rest next : List (List ℕ))
    (text piece : List ℕ) → IsSoFar old mid whole rest → Gathers rest next text → piece ≡ text
    → PutsFront mid.bytes new.bytes piece → Rose mid.faults new.faults →
    IsListed old new whole WriteFault
fails old mid new whole rest next text piece s g e p r = inr (inl (
  record {
    put = puts-then-front old.bytes mid.bytes new.bytes s.text text whole (lines_text next) s.put
        (subst (λ (x : List ℕ). PutsFront mid.bytes new.bytes x) e p)
        (split-rest old mid whole rest next text s g);
    rose = subst (λ (n : ℕ). Rose n new.faults) s.calm r;
  },
  refl,
))

pub take-front : (xs ys : List ℕ) → take (length xs) (xs ++ ys) ≡ xs
take-front [] ys = refl
take-front (x ∷ xs) ys = ap (λ zs. x ∷ zs) (take-front xs ys)

-- memory ran out
pub runs-out : (old now : Standing) (whole : List ℕ) (rest : List (List ℕ)) →
    IsSoFar old now whole rest → IsListed old now whole Memory
runs-out old now whole rest s = inr (inr (record {
  put = (
    length s.text,
    subst (λ (x : List ℕ). Puts old.bytes now.bytes x)
        (sym (ap (take (length s.text)) s.whole_is ∙ take-front s.text (lines_text rest))) s.put,
  );
  calm = s.calm;
  memory = refl;
}))

-- nothing is to come
pub all-listed : (old now : Standing) (whole : List ℕ) (rest : List (List ℕ)) →
    IsSoFar old now whole rest → rest ≡ [] → IsListed old now whole Done
all-listed old now whole rest s e = inl (
  record {
    put = subst (λ (x : List ℕ). Puts old.bytes now.bytes x)
        (sym (s.whole_is ∙ ap (λ (r : List (List ℕ)). s.text ++ lines_text r) e
        ∙ append-nil s.text)) s.put;
    calm = s.calm;
  },
  refl,
)
