-- The words of lists on worked rows.
use Rattle.std.proofs.Common.{◌≡◌, ◌<◌, ◌+◌, ℕ, zero, suc, List, [], ◌∷◌, get_or, Option, None, Some, Ok, Err, inl, inr, Less, refl, sym, ◌∙◌, ap, true, false, codes, lit<, arith}
use Rattle.jl_logic.specs.Answers.{Gives, Tells}
use Rattle.jl_logic.specs.Counts.{Rose, last_count, raised}
use Rattle.jl_logic.specs.Lists.{IsFront, AreDistinct, Match}
use Rattle.jl_logic.specs.Order.{is_text, name_cmp, optional_cmp, RisesBy, IsLeast}

same : is_text (codes "java.base") (codes "java.base") ≡ true
same = refl

other : is_text (codes "java.base") (codes "java.bas") ≡ false
other = refl

front : IsFront {X = ℕ} (1 ∷ 2 ∷ []) (1 ∷ 2 ∷ 3 ∷ [])
front = (3 ∷ [], refl)

front_of_itself : IsFront {X = ℕ} (1 ∷ []) (1 ∷ [])
front_of_itself = ([], refl)

no_two : AreDistinct {X = ℕ} (1 ∷ 2 ∷ [])
no_two = (λ c. by_place c.0 c.1 c.2, (λ c. absurd (omega arith), tt))
  where
    by_place : (k : ℕ) → k < 1 → ◌≡◌ {A = ℕ} (get_or (2 ∷ []) k 1) 1 → ⊥
    by_place zero lt e = omega arith
    by_place (suc k) lt e = omega arith

twice : AreDistinct {X = ℕ} (1 ∷ 1 ∷ []) → ⊥
twice d = d.0 (0, omega arith, refl)

-- ---- matches

rows_match : Match (λ (a b : ℕ). a ≡ b + 1) (2 ∷ 3 ∷ []) (1 ∷ 2 ∷ [])
rows_match = (refl, (refl, tt))

one_too_many : Match (λ (a b : ℕ). a ≡ b + 1) (2 ∷ 3 ∷ []) (1 ∷ []) → ⊥
one_too_many m = m.1

-- ---- orders

shorter_first : name_cmp (codes "a") (codes "ab") ≡ Less
shorter_first = refl

absent_first : optional_cmp None (Some (codes "a")) ≡ Less
absent_first = refl

they_rise : RisesBy name_cmp (codes "a" ∷ codes "ab" ∷ codes "b" ∷ [])
they_rise = ((refl, (refl, tt)), ((refl, tt), (tt, tt)))

least_of_one : IsLeast name_cmp (λ (n : List ℕ). n ≡ codes "a") (codes "a")
least_of_one = record { has = refl; least = λ y e l. not_less (sym (ap (λ n. name_cmp n (codes "a")) e) ∙ l) }
  where
    not_less : name_cmp (codes "a") (codes "a") ≡ Less → ⊥
    not_less l = cc

-- ---- counts

stood_at_its_last : Rose last_count last_count
stood_at_its_last = inr refl

rose_by_one : Rose 4 5
rose_by_one = inl (lit< tt)

stands_still : raised last_count ≡ last_count
stands_still = refl

raised_by_one : raised 4 ≡ 5
raised_by_one = refl

-- ---- answers

abbrev told : ℕ → Option ℕ
told zero = None
told (suc n) = Some n

nothing_told : Tells {X = ℕ} told (Err 0) (Ok 7)
nothing_told = tt

a_fault_told : Tells {X = ℕ} told (Err 5) (Err 4)
a_fault_told = refl

a_value_given : Gives {Y = ℕ} told (λ n. n + 1) (Ok 6) (Ok 7)
a_value_given = refl
