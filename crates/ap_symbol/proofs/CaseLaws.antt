use Rattle.std.proofs.Common.{◌≡◌, ℕ, Bool, true, false, sym, ap, inl, inr, ◌∙◌}
use Rattle.std.proofs.lemmas.Bool.{false≢true}
use Rattle.ap_symbol.specs.Case.{lower_lem, upper_lem, is_upper_lem}
use Rattle.ap_symbol.specs.CaseLaws.{PartnersAreInverse, NoLetterIsBoth, UpperLettersMove, LowerLettersMove, CaseSettles, ComesBackUnlessUpper}
use Rattle.ap_symbol.proofs.Partners.{upper_lower, lower_upper, lower_is_not_upper, lower_stays_or, upper_stays_or, is_partner_or, upper_twice}

both : {b : Bool} → b ≡ true → b ≡ false → ⊥
both t f = false≢true (sym f ∙ t)

pub upper_stays : (c : ℕ) → is_upper_lem c ≡ true → upper_lem c ≡ c
upper_stays c t = elim (upper_stays_or c) [ inl f ↦ absurd (both t f) | inr e ↦ e ]

pub lower_stays : (c : ℕ) → is_upper_lem c ≡ false → lower_lem c ≡ c
lower_stays c f = elim (lower_stays_or c) [ inl t ↦ absurd (both t f) | inr e ↦ e ]

pub inverse : PartnersAreInverse
inverse u l h = ap upper_lem (sym h.1) ∙ upper_lower u ∙ upper_stays u h.0

not_upper_of : (u c : ℕ) → lower_lem u ≡ c → is_upper_lem c ≡ false
not_upper_of u c e = ap is_upper_lem (sym e) ∙ lower_is_not_upper u

pub not_both : NoLetterIsBoth
not_both c t l = both t (not_upper_of l.0 c l.1.1)

pub upper_moves : UpperLettersMove
upper_moves c = (
  λ t e. both t (not_upper_of c c e),
  λ n. elim (lower_stays_or c) [ inl t ↦ t | inr e ↦ absurd (n e) ],
)

pub lower_moves : LowerLettersMove
lower_moves c = (
  λ l e. both (ap is_upper_lem (sym e ∙ inverse l.0 c l.1) ∙ l.1.0) (not_upper_of l.0 c l.1.1),
  λ n. elim (is_partner_or c) [ inl e ↦ absurd (n e) | inr p ↦ (upper_lem c, p) ],
)

pub settles : CaseSettles
settles c = (
  lower_upper c,
  upper_lower c,
  lower_stays (lower_lem c) (lower_is_not_upper c),
  upper_twice c,
)

pub comes_back : ComesBackUnlessUpper
comes_back c = (λ e. not_upper_of (upper_lem c) c e, λ f. lower_upper c ∙ lower_stays c f)
