-- What stands behind the name of a chunk, by the Apertium stream format: the content, a row of
-- Lexical units and blanks that may be empty, then } and $.
use Rattle.std.specs.Prelude.{◌≡◌, ℕ, zero, suc, List, [], ◌∷◌, drop, false, eqb, refl}
use Rattle.ap_stream.specs.Blanks.{begins_blank}
use Rattle.ap_stream.specs.Chunks.{wrong_byte, portion, closed, body, Opens, Fails}

-- laws

pub body_skip : (n : ℕ) (bs : List ℕ) → body n bs ≡ body 0 (drop n bs)
unfolding body
body_skip zero bs = refl
body_skip (suc n) [] = refl
body_skip (suc n) (b ∷ bs) = body_skip n bs

pub body_nil : body 0 [] ≡ Opens
unfolding body
body_nil = refl

-- what the first byte alone decides
pub body_brace : (x : List ℕ) → body 0 (125 ∷ x) ≡ closed x
unfolding body portion
body_brace x = refl

pub body_wrong : (b : ℕ) (x : List ℕ) → begins_blank b ≡ false → eqb b 94 ≡ false →
    eqb b 125 ≡ false → body 0 (b ∷ x) ≡ Fails (wrong_byte b)
unfolding body portion
body_wrong b x h k l = rw (h, k, l) refl
