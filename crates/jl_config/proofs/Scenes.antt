-- First places in lists of modules.
use Rattle.std.proofs.Common.{◌≡◌, ◌<◌, ◌+◌, ℕ, suc, List, [], ◌∷◌, ◌++◌, length, take, get_or, refl, sym, ◌∙◌, ap, Option, Some, None, Bool, true, false, cond, ◌&&◌, option_map, arith, add-one}
use Rattle.std.proofs.lemmas.Grind.{common_steps}
use Rattle.std.proofs.lemmas.List.{take_more}
use Rattle.jl_prim.specs.declared.numbers.ConfigId.{ConfigId}
use Rattle.jl_config.specs.declared.candidate.Candidate.{Candidate}
use Rattle.jl_config.specs.Located.{candidate_name, is_numbered}
use Rattle.jl_config.specs.Lineages.{is_named}
use Rattle.jl_config.specs.Places.{place_named, place_of_candidate}
use Rattle.jl_config.specs.Tables.{first_where, or_at}
use Rattle.jl_logic.specs.Order.{is_text}

pub first_named : (name : List ℕ) (ss : List Candidate) → place_named name ss ≡ first_where (is_named name) ss
first_named name [] = refl
first_named name (s ∷ ss) = ap (λ (o : Option ℕ). cond (is_text (candidate_name s) name) (Some 0) (option_map (λ p. p + 1) o)) (first_named name ss)

or_at_next : (o : Option ℕ) (b : Bool) (n : ℕ) → option_map (λ p. p + 1) (or_at o b n) ≡ or_at (option_map (λ p. p + 1) o) b (suc n)
or_at_next (Some p) b n = refl
or_at_next None true n = ap Some (add-one n)
or_at_next None false n = refl

module _ {X : Type 0} (f : X → Bool) where
  pub first_pushed : (xs : List X) (x : X) → first_where f (xs ++ x ∷ []) ≡ or_at (first_where f xs) (f x) (length xs)
  first_pushed [] x = refl
  first_pushed (w ∷ xs) x = by (f w) (first_pushed xs x)
    where
      by : (b : Bool) → first_where f (xs ++ x ∷ []) ≡ or_at (first_where f xs) (f x) (length xs)
          → cond b (Some 0) (option_map (λ p. p + 1) (first_where f (xs ++ x ∷ []))) ≡ or_at (cond b (Some 0) (option_map (λ p. p + 1) (first_where f xs))) (f x) (suc (length xs))
      by true e = refl
      by false e = ap (option_map (λ p. p + 1)) e ∙ or_at_next (first_where f xs) (f x) (length xs)

-- ---- the first of a configuration and a name

abbrev pub own_test : ConfigId → List ℕ → Candidate → Bool
own_test config name s = is_numbered s.config config && is_text (candidate_name s) name

pub first_own : (config : ConfigId) (name : List ℕ) (ss : List Candidate) → place_of_candidate config name ss ≡ first_where (own_test config name) ss
first_own config name [] = refl
first_own config name (s ∷ ss) = ap (λ (o : Option ℕ). cond (own_test config name s) (Some 0) (option_map (λ p. p + 1) o)) (first_own config name ss)

-- one more module, for the first places of a name
pub first_of_more : (ss : List Candidate) (i : ℕ) (s : Candidate) (name : List ℕ) (old new : Option ℕ) → i < length ss → s ≡ get_or ss i s
    → old ≡ place_named name (take i ss) → new ≡ or_at old (is_text (candidate_name s) name) i → new ≡ place_named name (take (i + 1) ss)
first_of_more ss i s name old new lt is e f =
    let more : take (i + 1) ss ≡ take i ss ++ s ∷ [] = take_more ss i s lt ∙ ap (λ (w : Candidate). take i ss ++ w ∷ []) (sym is) in
    let long : length (take i ss) ≡ i = grind (arith, common_steps) in
    f ∙ ap (λ (o : Option ℕ). or_at o (is_text (candidate_name s) name) i) (e ∙ first_named name (take i ss)) ∙ ap (λ (n : ℕ). or_at (first_where (is_named name) (take i ss)) (is_text (candidate_name s) name) n) (sym long)
    ∙ sym (first_pushed (is_named name) (take i ss) s) ∙ sym (first_named name (take i ss ++ s ∷ [])) ∙ ap (place_named name) (sym more)
