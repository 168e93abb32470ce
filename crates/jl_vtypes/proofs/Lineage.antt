-- One step up the superclasses of a listed class.
use Rattle.std.proofs.Common.{◌≡◌, ℕ, zero, suc, ◌<◌, true, false, List, Some, None, refl, arith}
use Rattle.jl_logic.specs.Order.{is_text}
use Rattle.jl_vtypes.specs.declared.listed.ListedClass.{ListedClass}
use Rattle.jl_vtypes.specs.Listed.{class_named, superclass_of, descends}

-- the class itself
pub met : (n : ℕ) (classes : List ListedClass) (to from : List ℕ) → 0 < n → is_text from to ≡ true → descends n classes to from ≡ true
unfolding descends
met zero classes to from h e = absurd (omega arith)
met (suc n) classes to from h e = rw e refl

-- a class without a superclass
pub at_top : (n : ℕ) (classes : List ListedClass) (to from : List ℕ) → 0 < n → is_text from to ≡ false → superclass_of (class_named classes from) ≡ None → descends n classes to from ≡ false
unfolding descends
at_top zero classes to from h e none = absurd (omega arith)
at_top (suc n) classes to from h e none = rw (e, none) refl

-- the superclass
pub one_up : (n k : ℕ) (classes : List ListedClass) (to from above : List ℕ) → n ≡ suc k → is_text from to ≡ false → superclass_of (class_named classes from) ≡ Some above
    → descends k classes to above ≡ descends n classes to from
unfolding descends
one_up n k classes to from above m e some = rw (m, e, some) refl

-- no steps are left
pub no_more : (n : ℕ) (classes : List ListedClass) (to from : List ℕ) → n ≡ 0 → descends n classes to from ≡ false
unfolding descends
no_more n classes to from e = rw e refl
