-- One order after another is an order. Assumes nothing.
use Rattle.std.proofs.Common.{◌≡◌, ℕ, Bool, true, false, cond, ◌||◌, ltb, ◌⊎◌, refl, inl, inr, arith}
use Rattle.std.proofs.lemmas.Bool.{cases_Bool, cases_order, cases_lt, both_ways, or_cases, or_left, or_right, ltb-true, lt-ltb, le-ltb}
use Rattle.matching.specs.Orders.{Weak, Total, then_by}

-- the numbers that a measure gives, in their order
pub weak_by : (f : ℕ → ℕ) → Weak (λ a b. ltb (f a) (f b))
weak_by f = record {
  one_way = λ a b h. le-ltb _ _ (omega (arith, ltb-true (f a) (f b) h));
  between = λ a b c h. elim (cases_lt (f a) (f c)) [
    | inl k ↦ or_left _ _ (lt-ltb _ _ k)
    | inr k ↦ or_right _ _ (lt-ltb (f c) (f b) (omega (arith, ltb-true (f a) (f b) h)))
  ];
}

module _ (p q : ℕ → ℕ → Bool) where
  by_first : (a b : ℕ) → p a b ≡ true → then_by p q a b ≡ true
  by_first a b h = rw h refl

  by_second : (a b : ℕ) → p b a ≡ false → q a b ≡ true → then_by p q a b ≡ true
  by_second a b h k = elim (cases_Bool (p a b)) [ inl e ↦ rw e refl | inr e ↦ rw (e, h) k ]

  -- why a is before b
  why : (a b : ℕ) → then_by p q a b ≡ true → (p a b ≡ true) ⊎ ((p a b ≡ false) × (p b a ≡ false) × (q a b ≡ true))
  why a b h = go (p a b) (p b a) refl refl h
    where
      go : (x y : Bool) → p a b ≡ x → p b a ≡ y → cond x true (cond y false (q a b)) ≡ true → (p a b ≡ true) ⊎ ((p a b ≡ false) × (p b a ≡ false) × (q a b ≡ true))
      go true y e f h = inl e
      go false true e f h = absurd (both_ways false refl h)
      go false false e f h = inr (e, f, h)

  module _ (P : Weak p) (Q : Weak q) where
    pub weak_then : Weak (then_by p q)
    weak_then = record { one_way = one; between = two }
      where
        one : (a b : ℕ) → then_by p q a b ≡ true → then_by p q b a ≡ false
        one a b h = elim (why a b h) [
          | inl e ↦ rw (P.one_way a b e, e) refl
          | inr e ↦ rw (e.1, e.0) (Q.one_way a b e.2)
        ]

        two : (a b c : ℕ) → then_by p q a b ≡ true → (then_by p q a c || then_by p q c b) ≡ true
        two a b c h = elim (why a b h) [
          | inl e ↦ elim (or_cases _ _ (P.between a b c e)) [ inl f ↦ or_left _ _ (by_first a c f) | inr f ↦ or_right _ _ (by_first c b f) ]
          | inr e ↦ elim (or_cases _ _ (Q.between a b c e.2)) [
            | inl f ↦ elim (cases_Bool (p c a)) [
              | inl g ↦ elim (or_cases _ _ (P.between c a b g)) [ inl i ↦ or_right _ _ (by_first c b i) | inr i ↦ absurd (both_ways _ e.1 i) ]
              | inr g ↦ or_left _ _ (by_second a c g f)
            ]
            | inr f ↦ elim (cases_Bool (p b c)) [
              | inl g ↦ elim (or_cases _ _ (P.between b c a g)) [ inl i ↦ absurd (both_ways _ e.1 i) | inr i ↦ or_left _ _ (by_first a c i) ]
              | inr g ↦ or_right _ _ (by_second c b g f)
            ]
          ]
        ]

  -- who stand level by p stand apart by q
  pub linear_then : ((a b : ℕ) → (a ≡ b) ⊎ ((q a b ≡ true) ⊎ (q b a ≡ true))) → (a b : ℕ) → (a ≡ b) ⊎ ((then_by p q a b ≡ true) ⊎ (then_by p q b a ≡ true))
  linear_then l a b = elim (cases_Bool (p a b)) [
    | inl e ↦ inr (inl (by_first a b e))
    | inr e ↦ elim (cases_Bool (p b a)) [
      | inl f ↦ inr (inr (by_first b a f))
      | inr f ↦ elim (l a b) [
        | inl g ↦ inl g
        | inr o ↦ inr (elim o [ inl g ↦ inl (by_second a b f g) | inr g ↦ inr (by_second b a e g) ])
      ]
    ]
  ]

pub linear_numbers : (a b : ℕ) → (a ≡ b) ⊎ ((ltb a b ≡ true) ⊎ (ltb b a ≡ true))
linear_numbers a b = elim (cases_order a b) [ inl e ↦ inl e | inr o ↦ inr (elim o [ inl e ↦ inl (lt-ltb _ _ e) | inr e ↦ inr (lt-ltb _ _ e) ]) ]

pub chain_of : (p : ℕ → ℕ → Bool) → Weak p → (a b c : ℕ) → p a b ≡ true → p b c ≡ true → p a c ≡ true
chain_of p P a b c h k = elim (or_cases _ _ (P.between a b c h)) [ inl e ↦ e | inr e ↦ absurd (both_ways _ (P.one_way b c k) e) ]

pub total_of : (p : ℕ → ℕ → Bool) → Weak p → ((a b : ℕ) → (a ≡ b) ⊎ ((p a b ≡ true) ⊎ (p b a ≡ true))) → Total p
total_of p P l = record { one_way = P.one_way; chain = chain_of p P; linear = l }
