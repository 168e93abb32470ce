-- The line of the superclasses of a class.
use Rattle.std.proofs.Common.{◌≡◌, ◌<◌, ◌-◌, ◌||◌, slice_get, arith, ℕ, zero, suc, Bool, false, List, Option, None, Some, refl, sym, ◌∙◌, ap, ap₂}
use Rattle.jl_prim.specs.declared.numbers.ClassId.{ClassId}
use Rattle.jl_layer.specs.Layers.{numbered}
use Rattle.jl_loads.specs.Worlds.{State, Loaded, class_at, super_of, is_among, is_same, line_by}

line_suc : (n : ℕ) (s : State) (c d : ClassId) → is_among d (line_by (suc n) s (Some c)) ≡ (is_same d c || is_among d (line_by n s (super_of s c)))
unfolding line_by
line_suc n s c d = refl

pub line_step : (m n : ℕ) (s : State) (c d : ClassId) → m ≡ suc n → is_among d (line_by m s (Some c)) ≡ (is_same d c || is_among d (line_by n s (super_of s c)))
line_step m n s c d deep = ap (λ (k : ℕ). is_among d (line_by k s (Some c))) deep ∙ line_suc n s c d

pub line_nothing : (m : ℕ) (s : State) (o : Option ClassId) (d : ClassId) → m ≡ 0 → is_among d (line_by m s o) ≡ false
unfolding line_by
line_nothing m s None d e = ap (λ (k : ℕ). is_among d (line_by k s None)) e ∙ refl
line_nothing m s (Some c) d e = ap (λ (k : ℕ). is_among d (line_by k s (Some c))) e ∙ refl

pub line_top : (m : ℕ) (s : State) (d : ClassId) → is_among d (line_by m s None) ≡ false
unfolding line_by
line_top zero s d = refl
line_top (suc n) s d = refl

-- the one at hand, and those above it
pub line_at : (m n : ℕ) (s : State) (at : Option ClassId) (here d : ClassId) (b : Bool) (above : Option ClassId) → at ≡ Some here → m ≡ suc n → b ≡ is_same d here → above ≡ super_of s here
    → is_among d (line_by m s at) ≡ (b || is_among d (line_by n s above))
line_at m n s at here d b above is deep same of_super =
    ap (λ (o : Option ClassId). is_among d (line_by m s o)) is ∙ line_step m n s here d deep ∙ sym (ap₂ (λ p (o : Option ClassId). p || is_among d (line_by n s o)) same of_super)

-- ---- a class by its number

slot_at : {X : Type 0} (xs : List X) (n : ℕ) → 0 < n → slice_get xs (n - 1) ≡ numbered xs n
slot_at xs zero lt = absurd (omega arith)
slot_at xs (suc n) lt = let less : suc n - 1 ≡ n = omega arith in ap (slice_get xs) less

pub class_by : (s : State) (cs : List Loaded) (n : ℕ) (c : ClassId) → cs ≡ s.classes → 0 < c.0 → n ≡ c.0 - 1 → slice_get cs n ≡ class_at s c
class_by s cs n c same lt e = ap₂ (λ (l : List Loaded) (k : ℕ). slice_get l k) same e ∙ slot_at s.classes c.0 lt

pub no_class_by : (s : State) (c : ClassId) → c.0 ≡ 0 → None ≡ class_at s c
no_class_by s c e = sym (ap (numbered s.classes) e)
