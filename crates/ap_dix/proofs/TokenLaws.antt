-- The tokens of some pieces, step by step and by the grammar.
use Rattle.std.proofs.Common.{◌≡◌, ◌⊎◌, ◌≤◌, inl, inr, ℕ, Bool, true, false, List, [], ◌∷◌, ◌++◌, refl, sym, ◌∙◌, ap, subst, append_assoc, append-nil, Option, Some, None}
use Rattle.std.specs.Prelude.{if◌then◌else◌, IsTrue, not, ◌&&◌, ◌==◌, nat_le}
use Rattle.std.proofs.lemmas.Bool.{not-true, eqb-true, ne_eqb, false≢true, and_parts, and_from, leb-true, le-leb, cases_eq, eq-eqb, and_right}
use Rattle.ap_dix.specs.Grammar.{IsMember, single, ranged, AreMembers, first, further, IsToken, alone, classed, AreTokens, none, another, is_sign, is_member, is_reserved, range, token_of}
use Rattle.ap_dix.specs.Machines.{Telling, outside, inside, telling_step, choose_step, class_step, member_step, outside_step, with_token, telling_end, is_closed, is_nil, tokens_of, run}
use Rattle.ap_dix.specs.declared.expr.Range.{Range}
use Rattle.ap_dix.specs.declared.pieces.Piece.{Piece}
use Rattle.ap_dix.specs.declared.tokens.Member.{Member}
use Rattle.ap_dix.specs.declared.tokens.Member.TheVariants.{Fresh, Begun, Dashed}
use Rattle.ap_dix.specs.declared.tokens.Token.{Token}
use Rattle.ap_dix.specs.declared.tokens.Token.TheVariants.{Class}
use Rattle.ap_dix.proofs.Runs.{run_then, run_keeps, none_else, else_none, one_of_two, taken, left_out, CameFrom, came_from, goes_on}

-- the ranges of the members so far, which may be none
abbrev AreSome : List Piece → List Range → Type 0
AreSome pieces ranges = ((pieces ≡ []) × (ranges ≡ [])) ⊎ AreMembers pieces ranges

some_then : (front back pieces : List Piece) (before ranges : List Range) (r : Range) →
    AreSome front before → IsMember back r → pieces ≡ front ++ back → ranges ≡ before ++ r ∷ [] →
    AreMembers pieces ranges
some_then front back pieces before ranges r (inl h) m w a =
    first (subst (λ z. IsMember z r) (sym (w ∙ ap (λ z. z ++ back) h.0)) m)
    (a ∙ ap (λ z. z ++ r ∷ []) h.1)
some_then front back pieces before ranges r (inr h) m w a = further h m w a

-- the pieces behind the last whole member
abbrev IsBegun : Member → List Piece → Type 0
IsBegun Fresh rest = rest ≡ []
IsBegun (Begun c) rest = (p : Piece) × (rest ≡ p ∷ []) × IsTrue (is_member p) × (p.code ≡ c)
IsBegun (Dashed c) rest = (p : Piece) × (dash : Piece) × (rest ≡ p ∷ dash ∷ [])
    × IsTrue (is_member p) × (p.code ≡ c) × IsTrue (is_sign 45 dash)

-- the tokens so far, and a class that is open
record IsOpen (seen : List Piece) (made : List Token) (ranges : List Range)
    (member : Member) : Type 0 where
  front : List Piece
  begin : Piece
  held : List Piece
  rest : List Piece
  whole : seen ≡ front ++ begin ∷ (held ++ rest)
  tokens : AreTokens front made
  sign : IsTrue (is_sign 91 begin)
  members : AreSome held ranges
  begun : IsBegun member rest

abbrev IsTold : List Piece → List Token → Option (List Range) → Member → Type 0
IsTold seen made None member = AreTokens seen made
IsTold seen made (Some ranges) member = IsOpen seen made ranges member

abbrev IsToldAs : List Piece → Telling → Type 0
IsToldAs seen s = IsTold seen s.made s.class s.member

same_telling : (s t : Telling) → Some s ≡ Some t → s ≡ t
same_telling s t e = cc

-- a piece further inside of a class
further_on : (seen front held rest : List Piece) (begin p : Piece) →
    seen ≡ front ++ begin ∷ (held ++ rest) → seen ++ p ∷ [] ≡ front ++ begin
    ∷ (held ++ (rest ++ p ∷ []))
further_on seen front held rest begin p w =
    ap (λ z. z ++ p ∷ []) w ∙ append_assoc front (begin ∷ (held ++ rest)) (p ∷ [])
    ∙ ap (λ z. front ++ begin ∷ z) (append_assoc held rest (p ∷ []))

-- the class so far, and nothing behind its last whole member
record IsInside (seen : List Piece) (made : List Token) (ranges : List Range) : Type 0 where
  front : List Piece
  begin : Piece
  held : List Piece
  whole : seen ≡ front ++ begin ∷ held
  tokens : AreTokens front made
  sign : IsTrue (is_sign 91 begin)
  members : AreSome held ranges

nil_or_not : {X : Type 0} (xs : List X) → is_nil xs ≡ false → xs ≡ [] → ⊥
nil_or_not xs h e = let no : true ≡ false = sym (ap is_nil e) ∙ h in false≢true (sym no)

closes : (seen : List Piece) (made : List Token) (ranges : List Range) (p : Piece) →
    IsInside seen made ranges → IsTrue (is_sign 93 p) → is_nil ranges ≡ false →
    AreTokens (seen ++ p ∷ []) (made ++ Class ranges ∷ [])
closes seen made ranges p h s n =
    elim h.members [
      | inl nil ↦ absurd (nil_or_not ranges n nil.1)
      | inr members ↦
          another h.tokens (classed h.begin p h.sign members s refl refl)
          (ap (λ z. z ++ p ∷ []) h.whole ∙ append_assoc h.front (h.begin ∷ h.held) (p ∷ [])) refl
    ]

begins : (seen : List Piece) (made : List Token) (ranges : List Range) (p : Piece) →
    IsInside seen made ranges → IsTrue (is_member p) →
    IsOpen (seen ++ p ∷ []) made ranges (Begun p.code)
begins seen made ranges p h m = record {
  front = h.front;
  begin = h.begin;
  held = h.held;
  rest = p ∷ [];
  whole = ap (λ z. z ++ p ∷ []) h.whole ∙ append_assoc h.front (h.begin ∷ h.held) (p ∷ []);
  tokens = h.tokens;
  sign = h.sign;
  members = h.members;
  begun = (p, refl, m, refl);
}

member_keeps : (seen : List Piece) (made : List Token) (ranges : List Range) (p : Piece)
    (t : Telling) → IsInside seen made ranges → member_step made ranges p ≡ Some t →
    IsToldAs (seen ++ p ∷ []) t
member_keeps seen made ranges p t h e =
    elim (one_of_two (is_sign 93 p) (if is_nil ranges then None
    else Some (outside (made ++ Class ranges ∷ []))) (if is_member p
    then Some (inside made ranges (Begun p.code)) else None) t e) [
      | inl q ↦ let n = none_else (is_nil ranges)
          (Some (outside (made ++ Class ranges ∷ []))) t q.1 in
          subst (IsToldAs (seen ++ p ∷ []))
          (same_telling (outside (made ++ Class ranges ∷ [])) t n.1)
          (closes seen made ranges p h q.0 n.0)
      | inr q ↦ let m = else_none (is_member p) (Some (inside made ranges (Begun p.code))) t q.1 in
          subst (IsToldAs (seen ++ p ∷ [])) (same_telling (inside made ranges (Begun p.code)) t m.1)
          (begins seen made ranges p h m.0)
    ]

at_fresh : (seen : List Piece) (made : List Token) (ranges : List Range) →
    IsOpen seen made ranges Fresh → IsInside seen made ranges
at_fresh seen made ranges h =
    record {
      front = h.front;
      begin = h.begin;
      held = h.held;
      whole =
          h.whole ∙ ap (λ z. h.front ++ h.begin ∷ (h.held ++ z)) h.begun
          ∙ ap (λ z. h.front ++ h.begin ∷ z) (append-nil h.held);
      tokens = h.tokens;
      sign =
          h.sign;
      members = h.members;
    }

-- a member of one character is whole
at_begun : (seen : List Piece) (made : List Token) (ranges : List Range) (c : ℕ) →
    IsOpen seen made ranges (Begun c) → IsInside seen made (ranges ++ range c c ∷ [])
at_begun seen made ranges c h =
    let p : Piece = h.begun.0 in
    let m : IsMember h.rest (range c c) =
    single p h.begun.2 h.begun.1 (ap (λ z. range z z) (sym h.begun.3)) in
    record {
      front = h.front;
      begin = h.begin;
      held = h.held ++ h.rest;
      whole = h.whole;
      tokens = h.tokens;
      sign = h.sign;
      members = inr (some_then h.held h.rest (h.held ++ h.rest) ranges (ranges ++ range c c ∷ [])
          (range c c) h.members m refl refl);
    }

dashes : (seen : List Piece) (made : List Token) (ranges : List Range) (c : ℕ) (p : Piece) →
    IsOpen seen made ranges (Begun c) → IsTrue (is_sign 45 p) →
    IsOpen (seen ++ p ∷ []) made ranges (Dashed c)
dashes seen made ranges c p h s = record {
  front = h.front;
  begin = h.begin;
  held = h.held;
  rest = h.rest ++ p ∷ [];
  whole = further_on seen h.front h.held h.rest h.begin p h.whole;
  tokens = h.tokens;
  sign = h.sign;
  members = h.members;
  begun = (h.begun.0, p, ap (λ z. z ++ p ∷ []) h.begun.1, h.begun.2, h.begun.3, s);
}

ends : (seen : List Piece) (made : List Token) (ranges : List Range) (c : ℕ) (p : Piece) →
    IsOpen seen made ranges (Dashed c) → IsTrue (is_member p) → c ≤ p.code →
    IsOpen (seen ++ p ∷ []) made (ranges ++ range c p.code ∷ []) Fresh
ends seen made ranges c p h m le =
    let f : Piece = h.begun.0 in
    let dash : Piece = h.begun.1 in
    let rest : h.rest ++ p ∷ [] ≡ f ∷ dash ∷ p ∷ [] = ap (λ z. z ++ p ∷ []) h.begun.2 in
    let member : IsMember (h.rest ++ p ∷ []) (range c p.code) =
    ranged f dash p h.begun.3 h.begun.5 m (subst (λ z. z ≤ p.code) (sym h.begun.4) le) rest
    (ap (λ z. range z p.code) (sym h.begun.4)) in
    record {
      front = h.front;
      begin = h.begin;
      held = h.held ++ (h.rest ++ p ∷ []);
      rest = [];
      whole = further_on seen h.front h.held h.rest h.begin p h.whole
          ∙ ap (λ z. h.front ++ h.begin ∷ z) (sym (append-nil (h.held ++ (h.rest ++ p ∷ []))));
      tokens = h.tokens;
      sign = h.sign;
      members = inr (some_then h.held (h.rest ++ p ∷ []) (h.held ++ (h.rest ++ p ∷ [])) ranges
          (ranges ++ range c p.code ∷ []) (range c p.code) h.members member refl refl);
      begun = refl;
    }

class_keeps : (seen : List Piece) (made : List Token) (ranges : List Range) (member : Member)
    (p : Piece) (t : Telling) → IsOpen seen made ranges member → class_step made ranges member p
    ≡ Some t → IsToldAs (seen ++ p ∷ []) t
class_keeps seen made ranges Fresh p t h e =
    member_keeps seen made ranges p t (at_fresh seen made ranges h) e
class_keeps seen made ranges (Begun c) p t h e =
    elim (one_of_two (is_sign 45 p) (Some (inside made ranges (Dashed c)))
    (member_step made (ranges ++ range c c ∷ []) p) t e) [
      | inl q ↦ subst (IsToldAs (seen ++ p ∷ []))
          (same_telling (inside made ranges (Dashed c)) t q.1) (dashes seen made ranges c p h q.0)
      | inr q ↦ member_keeps seen made (ranges ++ range c c ∷ []) p t
          (at_begun seen made ranges c h) q.1
    ]
class_keeps seen made ranges (Dashed c) p t h e =
    let q = else_none (is_member p && nat_le c p.code)
    (Some (inside made (ranges ++ range c p.code ∷ []) Fresh)) t e in
    let parts = and_parts (is_member p) (nat_le c p.code) q.0 in
    subst (IsToldAs (seen ++ p ∷ []))
    (same_telling (inside made (ranges ++ range c p.code ∷ []) Fresh) t q.1)
    (ends seen made ranges c p h parts.0 (leb-true c p.code parts.1))

token_keeps : (seen : List Piece) (made : List Token) (p : Piece) (o : Option Token) (t : Telling) →
    AreTokens seen made → token_of p ≡ o → with_token made o ≡ Some t → IsToldAs (seen ++ p ∷ []) t
token_keeps seen made p None t h f e = let no : ⊥ = cc in absurd no
token_keeps seen made p (Some token) t h f e =
    subst (IsToldAs (seen ++ p ∷ [])) (same_telling (outside (made ++ token ∷ [])) t e)
    (another h (alone p refl f) refl refl)

outside_keeps : (seen : List Piece) (made : List Token) (p : Piece) (t : Telling) →
    AreTokens seen made → outside_step made p ≡ Some t → IsToldAs (seen ++ p ∷ []) t
outside_keeps seen made p t h e =
    elim (one_of_two (is_sign 91 p) (Some (inside made [] Fresh))
    (with_token made (token_of p)) t e) [
      | inl q ↦ subst (IsToldAs (seen ++ p ∷ [])) (same_telling (inside made [] Fresh) t q.1)
          (record {
            front = seen;
            begin = p;
            held = [];
            rest = [];
            whole = refl;
            tokens = h;
            sign =
                q.0;
            members = inl (refl, refl);
            begun = refl;
          })
      | inr q ↦ token_keeps seen made p (token_of p) t h refl q.1
    ]

choose_keeps : (seen : List Piece) (made : List Token) (class : Option (List Range))
    (member : Member) (p : Piece) (t : Telling) → IsTold seen made class member →
    choose_step made class member p ≡ Some t → IsToldAs (seen ++ p ∷ []) t
choose_keeps seen made None member p t h e = outside_keeps seen made p t h e
choose_keeps seen made (Some ranges) member p t h e = class_keeps seen made ranges member p t h e

told_keeps : (seen : List Piece) (s : Telling) (p : Piece) (t : Telling) → IsToldAs seen s →
    telling_step s p ≡ Some t → IsToldAs (seen ++ p ∷ []) t
told_keeps seen s p t h e = choose_keeps seen s.made s.class s.member p t h e

told_end : (seen : List Piece) (made : List Token) (class : Option (List Range)) (member : Member)
    (tokens : List Token) → IsTold seen made class member →
    (if is_closed class then Some made else None) ≡ Some tokens → AreTokens seen tokens
told_end seen made None member tokens h e = let same : made ≡ tokens = cc in
    subst (AreTokens seen) same h
told_end seen made (Some ranges) member tokens h e = let no : ⊥ = cc in absurd no

-- the tokens that are read are those of the grammar
pub tokens-sound : (pieces : List Piece) (tokens : List Token) → tokens_of pieces ≡ Some tokens →
    AreTokens pieces tokens
unfolding tokens_of
tokens-sound pieces tokens e =
    let f : CameFrom (run telling_step (Some (outside [])) pieces) telling_end tokens =
    came_from (run telling_step (Some (outside [])) pieces) telling_end tokens e in
    told_end pieces f.value.made f.value.class f.value.member tokens
    (run_keeps telling_step IsToldAs told_keeps (outside []) f.value pieces none f.was) f.gave

-- The other way round: a class that is open, all of whose members are these, the last one maybe not
-- over.
data IsSettled (made : List Token) (ranges : List Range) (s : Telling) : Type 0 where
  over : s ≡ inside made ranges Fresh → IsSettled made ranges s
  pending : (before : List Range) (c : ℕ) → s ≡ inside made before (Begun c) →
      ranges ≡ before ++ range c c ∷ [] → IsSettled made ranges s

-- where it is read on from there
record IsReadOn (made : List Token) (ranges : List Range) (s : Telling)
    (pieces : List Piece) : Type 0 where
  after : Telling
  reads : run telling_step (Some s) pieces ≡ Some after
  settled : IsSettled made ranges after

no_sign_of : (c code : ℕ) (escaped : Bool) → (is_reserved c ≡ true) ⊎ (c ≡ 45) →
    IsTrue (is_member (record { code = code; escaped = escaped })) →
    is_sign c (record { code = code; escaped = escaped }) ≡ false
no_sign_of c code true r m = refl
no_sign_of c code false r m =
    elim (cases_eq code c) [
      | inr n ↦ ne_eqb code c n
      | inl e ↦
          let a = and_parts (not (is_reserved code) && not (code == 45)) (not (code == 32)) m in
          let b = and_parts (not (is_reserved code)) (not (code == 45)) a.0 in
          elim r [
            | inl k ↦ absurd (false≢true (sym (not-true (is_reserved code) b.0)
                ∙ ap is_reserved e ∙ k))
            | inr k ↦ let five : code ≡ 45 = e ∙ k in
                absurd (false≢true (sym (not-true (code == 45) b.1) ∙ eq-eqb code 45 five))
          ]
    ]

no_sign : (c : ℕ) (p : Piece) → (is_reserved c ≡ true) ⊎ (c ≡ 45) → IsTrue (is_member p) →
    is_sign c p ≡ false
no_sign c p r m = no_sign_of c p.code p.escaped r m

-- one character: the member that is begun
one_more : (made : List Token) (ranges : List Range) (s : Telling) (p : Piece) →
    IsSettled made ranges s → IsTrue (is_member p) →
    telling_step s p ≡ Some (inside made ranges (Begun p.code))
one_more made ranges s p (over e) m =
    ap (λ z. telling_step z p) e
    ∙ left_out (is_sign 93 p) _ (if is_member p then Some (inside made ranges (Begun p.code))
    else None) (no_sign 93 p (inl refl) m)
    ∙ taken (is_member p) (Some (inside made ranges (Begun p.code))) None m
one_more made ranges s p (pending before c e w) m =
    ap (λ z. telling_step z p) e
    ∙ left_out (is_sign 45 p) (Some (inside made before (Dashed c)))
    (member_step made (before ++ range c c ∷ []) p) (no_sign 45 p (inr refl) m)
    ∙ ap (λ z. member_step made z p) (sym w)
    ∙ left_out (is_sign 93 p) _ (if is_member p then Some (inside made ranges (Begun p.code))
    else None) (no_sign 93 p (inl refl) m)
    ∙ taken (is_member p) (Some (inside made ranges (Begun p.code))) None m

reads_member : (made : List Token) (ranges all : List Range) (s : Telling) (pieces : List Piece)
    (r : Range) → IsSettled made ranges s → IsMember pieces r → all ≡ ranges ++ r ∷ [] →
    IsReadOn made all s pieces
reads_member made ranges all s pieces r h (single p m w a) f = record {
  after = inside made ranges (Begun p.code);
  reads = ap (run telling_step (Some s)) w ∙ one_more made ranges s p h m;
  settled = pending ranges p.code refl (f ∙ ap (λ z. ranges ++ z ∷ []) a);
}
reads_member made ranges all s pieces r h (ranged p dash q m d n le w a) f =
    let step1 : telling_step s p ≡ Some (inside made ranges (Begun p.code)) =
    one_more made ranges s p h m in
    let step2 : telling_step (inside made ranges (Begun p.code)) dash
    ≡ Some (inside made ranges (Dashed p.code)) =
    taken (is_sign 45 dash) (Some (inside made ranges (Dashed p.code)))
    (member_step made (ranges ++ range p.code p.code ∷ []) dash) d in
    let step3 : telling_step (inside made ranges (Dashed p.code)) q
    ≡ Some (inside made (ranges ++ range p.code q.code ∷ []) Fresh) =
    taken (is_member q && nat_le p.code q.code)
    (Some (inside made (ranges ++ range p.code q.code ∷ []) Fresh)) None
    (and_from (is_member q) (nat_le p.code q.code) n (le-leb p.code q.code le)) in
    record {
      after = inside made (ranges ++ range p.code q.code ∷ []) Fresh;
      reads = ap (run telling_step (Some s)) w ∙ ap (λ z. run telling_step z (dash ∷ q ∷ [])) step1
          ∙ ap (λ z. run telling_step z (q ∷ [])) step2 ∙ step3;
      settled = over (ap (λ z. inside made z Fresh) (sym (f ∙ ap (λ z. ranges ++ z ∷ []) a)));
    }

reads_members : (made : List Token) (pieces : List Piece) (ranges : List Range) →
    AreMembers pieces ranges → IsReadOn made ranges (inside made [] Fresh) pieces
reads_members made pieces ranges (first {r = r} m e) =
    reads_member made [] ranges (inside made [] Fresh) pieces r (over refl) m e
reads_members made pieces ranges
    (further {front = front} {back = back} {before = before} {r = r} h m w e) =
    let a : IsReadOn made before (inside made [] Fresh) front = reads_members made front before h in
    let b : IsReadOn made ranges a.after back =
    reads_member made before ranges a.after back r a.settled m e in
    record {
      after = b.after;
      reads =
          run_then telling_step (Some (inside made [] Fresh)) (Some a.after)
          (Some b.after) front back
          pieces a.reads b.reads w;
      settled = b.settled;
    }

nil_behind : (xs : List Range) (x : Range) → is_nil (xs ++ x ∷ []) ≡ false
nil_behind [] x = refl
nil_behind (y ∷ ys) x = refl

some_ranges : (pieces : List Piece) (ranges : List Range) → AreMembers pieces ranges →
    is_nil ranges ≡ false
some_ranges pieces ranges (first m e) = ap is_nil e
some_ranges pieces ranges (further {before = before} {r = r} h m w e) =
    ap is_nil e ∙ nil_behind before r

sign_apart : (p : Piece) → IsTrue (is_sign 93 p) → is_sign 45 p ≡ false
sign_apart p h =
    let a = and_parts (not p.escaped) (p.code == 93) h in
    let e : p.code ≡ 93 = eqb-true p.code 93 a.1 in
    let f : (p.code == 45) ≡ false = ap (λ z. z == 45) e in
    and_right (not p.escaped) (p.code == 45) f

finish_class : (made : List Token) (ranges : List Range) (s : Telling) (p : Piece) →
    IsSettled made ranges s → IsTrue (is_sign 93 p) → is_nil ranges ≡ false →
    telling_step s p ≡ Some (outside (made ++ Class ranges ∷ []))
finish_class made ranges s p (over e) h n =
    ap (λ z. telling_step z p) e
    ∙ taken (is_sign 93 p) (if is_nil ranges then None
    else Some (outside (made ++ Class ranges ∷ []))) _ h
    ∙ left_out (is_nil ranges) None (Some (outside (made ++ Class ranges ∷ []))) n
finish_class made ranges s p (pending before c e w) h n =
    ap (λ z. telling_step z p) e
    ∙ left_out (is_sign 45 p) (Some (inside made before (Dashed c)))
    (member_step made (before ++ range c c ∷ []) p) (sign_apart p h)
    ∙ ap (λ z. member_step made z p) (sym w)
    ∙ taken (is_sign 93 p) (if is_nil ranges then None
    else Some (outside (made ++ Class ranges ∷ []))) _ h
    ∙ left_out (is_nil ranges) None (Some (outside (made ++ Class ranges ∷ []))) n

not_begin_of : (code : ℕ) (escaped : Bool) (t : Token) →
    token_of (record { code = code; escaped = escaped }) ≡ Some t →
    is_sign 91 (record { code = code; escaped = escaped }) ≡ false
not_begin_of code true t e = refl
not_begin_of code false t e =
    elim (cases_eq code 91) [
      | inr n ↦ ne_eqb code 91 n
      | inl f ↦ let none : None ≡ Some t =
          subst (λ z. token_of (record { code = z; escaped = false }) ≡ Some t) f e in let no : ⊥ =
          cc in absurd no
    ]

-- a token isn't the beginning of a class
not_begin : (p : Piece) (t : Token) → token_of p ≡ Some t → is_sign 91 p ≡ false
not_begin p t e = not_begin_of p.code p.escaped t e

reads_token : (made : List Token) (pieces : List Piece) (t : Token) → IsToken pieces t →
    run telling_step (Some (outside made)) pieces ≡ Some (outside (made ++ t ∷ []))
reads_token made pieces t (alone p w e) =
    ap (run telling_step (Some (outside made))) w
    ∙ left_out (is_sign 91 p) (Some (inside made [] Fresh)) (with_token made (token_of p))
    (not_begin p t e) ∙ ap (with_token made) e
reads_token made pieces t (classed {members = members} {ranges = ranges} begin finish b h f w e) =
    let open_it : telling_step (outside made) begin ≡ Some (inside made [] Fresh) =
    taken (is_sign 91 begin) (Some (inside made [] Fresh))
    (with_token made (token_of begin)) b in
    let a : IsReadOn made ranges (inside made [] Fresh) members =
    reads_members made members ranges h in
    let all : run telling_step (Some (inside made [] Fresh)) (members ++ finish ∷ [])
    ≡ Some (outside (made ++ Class ranges ∷ [])) =
    run_then telling_step (Some (inside made [] Fresh)) (Some a.after)
    (Some (outside (made ++ Class ranges ∷ []))) members (finish ∷ []) (members ++ finish ∷ [])
    a.reads (finish_class made ranges a.after finish a.settled f
    (some_ranges members ranges h)) refl in
    ap (run telling_step (Some (outside made))) w
    ∙ ap (λ z. run telling_step z (members ++ finish ∷ [])) open_it ∙ all
    ∙ ap (λ z. Some (outside (made ++ z ∷ []))) (sym e)

reads_tokens : (pieces : List Piece) (tokens : List Token) → AreTokens pieces tokens →
    run telling_step (Some (outside [])) pieces ≡ Some (outside tokens)
reads_tokens pieces tokens none = refl
reads_tokens pieces tokens
    (another {front = front} {back = back} {before = before} {t = t} h k w e) =
    run_then telling_step (Some (outside [])) (Some (outside before)) (Some (outside tokens)) front
    back pieces (reads_tokens front before h) (reads_token before back t k
    ∙ ap (λ z. Some (outside z)) (sym e)) w

-- and the tokens of the grammar are read
pub tokens-complete : (pieces : List Piece) (tokens : List Token) → AreTokens pieces tokens →
    tokens_of pieces ≡ Some tokens
unfolding tokens_of
tokens-complete pieces tokens h =
    goes_on (run telling_step (Some (outside [])) pieces) telling_end (outside tokens) (Some tokens)
    (reads_tokens pieces tokens h) refl
