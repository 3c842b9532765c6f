-- What is promised of keys and values, over any family of words: demand 2 below the calls.
use Rattle.std.specs.Prelude.{◌≡◌, ◌↔◌, ℕ, ◌*◌, ◌≤◌, ◌<◌}
use Rattle.bits.specs.Strings.{Bits, ◌≺◌}
use Rattle.families.specs.Families.{Family}
use Rattle.fractions.specs.Fractions.{Ratio, ◌over◌, lowest_terms}
use Rattle.keys.specs.Keys.{key_of, Canonical, value_of_key}

pub record Ordered (F : Family) : Type 0 where
  -- Reading the key of p/q gives p/q in lowest terms.
  pub reading : (p q : ℕ) → 1 ≤ q → value_of_key F (key_of F p q) ≡ lowest_terms p q
  -- Writing what a canonical key reads as gives the same key.
  pub writing : (k : Bits) (p q : ℕ) → Canonical k → value_of_key F k ≡ p over q → key_of F p q ≡ k
  -- Each key is canonical, and each canonical key is the key of exactly one ratio.
  pub canonical : (p q : ℕ) → 1 ≤ q → Canonical (key_of F p q)
  pub one_ratio : (k : Bits) → Canonical k → (v : Ratio) × (1 ≤ v.den) × (key_of F v.num v.den ≡ k)
      × ((p q : ℕ) → 1 ≤ q → key_of F p q ≡ k → lowest_terms p q ≡ v)
  -- p/q and any multiple of it have one key.
  pub multiple : (c p q : ℕ) → 1 ≤ c → 1 ≤ q → key_of F (c * p) (c * q) ≡ key_of F p q
  -- Two keys stand in the order in which their ratios stand by cross products, and are equal only if the ratios are.
  pub order : (p q r s : ℕ) → 1 ≤ q → 1 ≤ s → (key_of F p q ≺ key_of F r s) ↔ (p * s < r * q)
  pub equal : (p q r s : ℕ) → 1 ≤ q → 1 ≤ s → (key_of F p q ≡ key_of F r s) ↔ (p * s ≡ r * q)
