-- Names, read from left to right.
use Rattle.std.proofs.Common.{◌≡◌, ℕ, ◌+◌, ◌-◌, ◌<◌, ◌≤◌, Bool, true, false, not, cond, ◌&&◌, ◌||◌, List, [], ◌∷◌, ◌++◌, length, take, drop, get_or, refl, sym, ◌∙◌, arith}
use Rattle.std.specs.List.{list_all, list_any}
use Rattle.std.proofs.lemmas.Bool.{cond_both, eqb-true}
use Rattle.std.proofs.lemmas.List.{take_more, take_all}
use Rattle.std.proofs.lemmas.List.Folds.{list_any-append}
use Rattle.jl_names.specs.Names.{is_slash, is_reserved, stops, is_empty, with_first, parts, is_part, names_a_class, package_of}

-- ---- classes

abbrev is_right : List ℕ → Bool
is_right = list_all (λ b. not (is_reserved b))

-- all parts are right, where the first may have begun before
abbrev begun_parts : Bool → List (List ℕ) → Bool
begun_parts begun [] = true
begun_parts begun (p ∷ ps) = ((begun || not (is_empty p)) && is_right p) && list_all is_part ps

-- what is left of a name goes on rightly
abbrev pub goes_on : Bool → List ℕ → Bool
goes_on begun bytes = begun_parts begun (parts bytes)

all_begun : (ps : List (List ℕ)) → begun_parts false ps ≡ list_all is_part ps
all_begun [] = refl
all_begun (p ∷ ps) = refl

pub class_first : (name : List ℕ) → goes_on false name ≡ names_a_class name
class_first name = all_begun (parts name)

pub class_end : (begun : Bool) → goes_on begun [] ≡ begun
unfolding parts
class_end true = refl
class_end false = refl

step_slash : (begun : Bool) (bs : List ℕ) → begun_parts begun ([] ∷ parts bs) ≡ cond begun (goes_on false bs) false
step_slash true bs = sym (all_begun (parts bs))
step_slash false bs = refl

step_within : (begun reserved : Bool) (b : ℕ) (ps : List (List ℕ)) → is_reserved b ≡ reserved → begun_parts begun (with_first b ps) ≡ cond reserved false (begun_parts true ps)
step_within true true b [] e = rw e refl
step_within true false b [] e = rw e refl
step_within false true b [] e = rw e refl
step_within false false b [] e = rw e refl
step_within true true b (p ∷ ps) e = rw e refl
step_within true false b (p ∷ ps) e = rw e refl
step_within false true b (p ∷ ps) e = rw e refl
step_within false false b (p ∷ ps) e = rw e refl

pub class_step : (begun : Bool) (b : ℕ) (bs : List ℕ) → goes_on begun (b ∷ bs) ≡ cond (stops b begun) false (goes_on (not (is_slash b)) bs)
unfolding parts
class_step begun b bs = by_slash (is_slash b) refl
  where
    by_begun : (begun : Bool) → cond begun (goes_on false bs) false ≡ cond (not begun) false (goes_on false bs)
    by_begun true = refl
    by_begun false = refl

    by_reserved : (reserved : Bool) → is_reserved b ≡ reserved → begun_parts begun (with_first b (parts bs)) ≡ cond (reserved || false) false (goes_on true bs)
    by_reserved true e = step_within begun true b (parts bs) e
    by_reserved false e = step_within begun false b (parts bs) e

    by_slash : (slash : Bool) → is_slash b ≡ slash → goes_on begun (b ∷ bs) ≡ cond (stops b begun) false (goes_on (not (is_slash b)) bs)
    by_slash true e =
        let is : b ≡ 47 = eqb-true b 47 e in
        rw is (step_slash begun bs ∙ by_begun begun)
    by_slash false e = rw e (by_reserved (is_reserved b) refl)

pub class_more : (begun : Bool) (rest : List ℕ) (total : Bool) → 1 ≤ length rest → stops (get_or rest 0 0) begun ≡ false → goes_on begun rest ≡ total
    → goes_on (not (is_slash (get_or rest 0 0))) (take (length rest - 1) (drop 1 rest)) ≡ total
class_more begun [] total long fine so_far = absurd (omega arith)
class_more begun (b ∷ bs) total long fine so_far =
    let k : length (b ∷ bs) - 1 ≡ length bs = omega arith in
    let step : goes_on begun (b ∷ bs) ≡ goes_on (not (is_slash b)) bs = class_step begun b bs ∙ rw fine refl in
    rw (k, take_all (length bs) bs (omega arith)) (sym step ∙ so_far)

pub class_stops : (begun : Bool) (rest : List ℕ) → 1 ≤ length rest → stops (get_or rest 0 0) begun ≡ true → goes_on begun rest ≡ false
class_stops begun [] long wrong = absurd (omega arith)
class_stops begun (b ∷ bs) long wrong = class_step begun b bs ∙ rw wrong refl

pub class_done : (begun : Bool) (rest : List ℕ) → length rest < 1 → goes_on begun rest ≡ begun
class_done begun [] short = class_end begun
class_done begun (b ∷ bs) short = absurd (omega arith)

-- ---- packages

pub package_none : package_of [] ≡ []
unfolding package_of
package_none = refl

pub package_more : (xs : List ℕ) (b : ℕ) → package_of (xs ++ b ∷ []) ≡ cond (is_slash b) xs (package_of xs)
unfolding package_of
package_more [] b = cond_both (is_slash b) [] [] (λ r. [] ≡ r) (λ e. refl) (λ e. refl)
package_more (x ∷ xs) b =
    rw (list_any-append is_slash xs (b ∷ []), package_more xs b) (by_slash (is_slash b) (list_any is_slash xs))
  where
    by_slash : (slash any : Bool) → cond (any || (slash || false)) (x ∷ cond slash xs (package_of xs)) [] ≡ cond slash (x ∷ xs) (cond any (x ∷ package_of xs) [])
    by_slash true true = refl
    by_slash true false = refl
    by_slash false true = refl
    by_slash false false = refl

-- one more byte of a name
pub package_step : (name : List ℕ) (at : ℕ) → at < length name → package_of (take (at + 1) name) ≡ cond (is_slash (get_or name at 0)) (take at name) (package_of (take at name))
package_step name at lt = rw (take_more name at 0 lt) (package_more (take at name) (get_or name at 0))
