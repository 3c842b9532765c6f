-- Continued fractions of ratios of whole numbers (001, sections I and III).
use Rattle.std.specs.Prelude.{◌≡◌, Bool, true, false, not, List, [], ◌∷◌, ℕ, zero, suc, ◌+◌, ◌*◌, ◌-◌, ◌/◌, ◌%◌, ◌≤◌}

-- num/den; 1/0 is the infinity that 001 puts behind the last quotient
pub record Ratio : Type 0 where
  pub num : ℕ
  pub den : ℕ

infix 25 ◌over◌
abbrev pub ◌over◌ : ℕ → ℕ → Ratio
p over q = record { num = p; den = q }

-- a + 1/v
abbrev pub onto : ℕ → Ratio → Ratio
onto a v = (a * v.num + v.den) over v.num

-- the value of the quotients a0, a1, .. (section I): a0 + 1/(a1 + 1/(..)), where nothing stands for infinity
abbrev pub value_of : List ℕ → Ratio
value_of [] = 1 over 0
value_of (a ∷ l) = onto a (value_of l)

-- what repeated remainder finds: the quotients and the last divisor
pub record Divided : Type 0 where
  pub quotients : List ℕ
  pub divisor : ℕ

-- a quotient more in front
abbrev pub led : ℕ → Divided → Divided
led a d = record { quotients = a ∷ d.quotients; divisor = d.divisor }

-- p divided by q, q by the remainder, and so on; the divisor falls at each step, so q steps are enough
unfoldable pub divided_from : ℕ → ℕ → ℕ → Divided
divided_from zero p q = record { quotients = []; divisor = p }
divided_from (suc f) p zero = record { quotients = []; divisor = p }
divided_from (suc f) p (suc q) = led (p / suc q) (divided_from f (suc q) (p % suc q))

-- the usual continued fraction of p/q (section I)
unfoldable pub usual : ℕ → ℕ → List ℕ
usual p q = (divided_from q p q).quotients

-- the greatest common divisor
unfoldable pub gcd : ℕ → ℕ → ℕ
gcd p q = (divided_from q p q).divisor

-- p/q in lowest terms; zero is 0/1
unfoldable pub lowest_terms : ℕ → ℕ → Ratio
lowest_terms p q = (p / gcd p q) over (q / gcd p q)

-- the form whose last index is even (section III, iii): a last quotient a at an odd index is written a-1, 1
abbrev pub even_ended : List ℕ → List ℕ
even_ended [] = []
even_ended (a ∷ []) = a ∷ []
even_ended (a ∷ b ∷ []) = a ∷ (b - 1) ∷ 1 ∷ []
even_ended (a ∷ b ∷ c ∷ l) = a ∷ b ∷ even_ended (c ∷ l)

-- the even-ended form of p/q
unfoldable pub form_of : ℕ → ℕ → List ℕ
form_of p q = even_ended (usual p q)

-- quotients of at least 1: odd in number where the first is spelled by a word (false), even where turned (true)
abbrev pub Quotients : Bool → List ℕ → Type 0
Quotients z [] = z ≡ true
Quotients z (a ∷ l) = (1 ≤ a) × Quotients (not z) l

-- the same, but that the first may be 0
abbrev pub Form : Bool → List ℕ → Type 0
Form z [] = z ≡ true
Form z (a ∷ l) = Quotients (not z) l

-- a0 at least 0, the others at least 1, the last index even
abbrev pub EvenEnded : List ℕ → Type 0
EvenEnded l = Form false l
