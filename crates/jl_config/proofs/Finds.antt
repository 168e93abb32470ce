-- Finding modules in sight: by any test, by their names, and by their configurations and names.
use Rattle.std.proofs.Common.{◌≡◌, ◌+◌, ℕ, suc, List, [], ◌∷◌, slice_get, refl, sym, ◌∙◌, ap, ap₂, subst, Option, Some, None, option_map, Bool, true, false, cond, not, ◌&&◌, add-one, filter}
use Rattle.std.proofs.lemmas.Bool.{eqb-true, eq-eqb, and_parts, and_from}
use Rattle.std.proofs.Math.Bool.{and-false}
use Rattle.jl_prim.specs.declared.numbers.ConfigId.{ConfigId}
use Rattle.jl_config.specs.declared.candidate.Candidate.{Candidate}
use Rattle.jl_config.specs.Located.{Scene, candidate_name, is_numbered, is_here, find_named, located_above, find_candidate}
use Rattle.jl_config.specs.Places.{place_named, place_above, place_of_candidate}
use Rattle.jl_config.specs.Tables.{first_where}
use Rattle.jl_config.proofs.Names.{text_is}
use Rattle.jl_config.proofs.Scenes.{first_named, own_test, first_own}
use Rattle.jl_config.specs.Lineages.{is_named, is_outside}

module _ {X : Type 0} (test : X → Bool) where
  abbrev pub find_where : List X → Option X
  find_where [] = None
  find_where (x ∷ xs) = cond (test x) (Some x) (find_where xs)

  -- x is the first that passes, and stands at p
  pub record FirstAt (xs : List X) (p : ℕ) (x : X) : Type 0 where
    pub at : slice_get xs p ≡ Some x
    pub found : find_where xs ≡ Some x
    pub first : first_where test xs ≡ Some p
    pub passes : test x ≡ true

  here : (w : X) (xs : List X) → test w ≡ true → FirstAt (w ∷ xs) 0 w
  here w xs e = record { at = refl; found = rw e refl; first = rw e refl; passes = e }

  under : (w : X) (xs : List X) (p : ℕ) (x : X) → test w ≡ false → FirstAt xs p x → FirstAt (w ∷ xs) (suc p) x
  under w xs p x e f = record { at = f.at; found = rw e f.found; first = rw (e, f.first) (ap Some (add-one p)); passes = f.passes }

  pub where_shows : (xs : List X) (p : ℕ) → first_where test xs ≡ Some p → (x : X) × FirstAt xs p x
  where_shows [] p e = absurd cc
  where_shows (w ∷ xs) p e = by (where_shows xs) (first_where test xs) refl (test w) refl e
    where
      by : ((q : ℕ) → first_where test xs ≡ Some q → (x : X) × FirstAt xs q x) → (o : Option ℕ) → first_where test xs ≡ o → (b : Bool) → test w ≡ b → cond b (Some 0) (option_map (λ k. k + 1) o) ≡ Some p → (x : X) × FirstAt (w ∷ xs) p x
      by more o g true h f = let n : 0 ≡ p = cc in (w, subst (λ (k : ℕ). FirstAt (w ∷ xs) k w) n (here w xs h))
      by more None g false h f = absurd cc
      by more (Some q) g false h f =
          let r = more q g in
          let n : q + 1 ≡ p = cc in
          (r.0, subst (λ (k : ℕ). FirstAt (w ∷ xs) k r.0) (sym (add-one q) ∙ n) (under w xs q r.0 h r.1))

  pub where_place : (xs : List X) (x : X) → find_where xs ≡ Some x → (p : ℕ) × FirstAt xs p x
  where_place [] x e = absurd cc
  where_place (w ∷ xs) x e = by (where_place xs x) (test w) refl e
    where
      by : (find_where xs ≡ Some x → (p : ℕ) × FirstAt xs p x) → (b : Bool) → test w ≡ b → cond b (Some w) (find_where xs) ≡ Some x → (p : ℕ) × FirstAt (w ∷ xs) p x
      by more true h f = let same : w ≡ x = cc in (0, subst (FirstAt (w ∷ xs) 0) same (here w xs h))
      by more false h f = let r = more f in (suc r.0, under w xs r.0 x h r.1)

  -- it is the first that passes another test too
  pub first_of_both : (other : X → Bool) (xs : List X) (p : ℕ) (x : X) → first_where test xs ≡ Some p → slice_get xs p ≡ Some x → other x ≡ true → first_where (λ v. other v && test v) xs ≡ Some p
  first_of_both other [] p x e at passes = absurd cc
  first_of_both other (w ∷ xs) p x e at passes = by (first_of_both other xs) (first_where test xs) refl (test w) refl e
    where
      by : ((q : ℕ) (x : X) → first_where test xs ≡ Some q → slice_get xs q ≡ Some x → other x ≡ true → first_where (λ v. other v && test v) xs ≡ Some q)
          → (o : Option ℕ) → first_where test xs ≡ o → (b : Bool) → test w ≡ b → cond b (Some 0) (option_map (λ k. k + 1) o) ≡ Some p → first_where (λ v. other v && test v) (w ∷ xs) ≡ Some p
      by more o g true h f =
          let n : 0 ≡ p = cc in
          let head : Some w ≡ Some x = subst (λ (k : ℕ). slice_get (w ∷ xs) k ≡ Some x) (sym n) at in
          let same : x ≡ w = cc in
          let both : (other w && test w) ≡ true = and_from (other w) (test w) (subst (λ v. other v ≡ true) same passes) h in
          rw both (ap Some n)
      by more None g false h f = absurd cc
      by more (Some q) g false h f =
          let n : q + 1 ≡ p = cc in
          let r = more q x g (subst (λ (k : ℕ). slice_get (w ∷ xs) k ≡ Some x) (sym (sym (add-one q) ∙ n)) at) passes in
          let neither : (other w && test w) ≡ false = rw h (and-false (other w)) in
          rw (neither, r) (ap Some n)

-- ---- by a name

named_find : (name : List ℕ) (ss : List Candidate) → find_named name ss ≡ find_where (is_named name) ss
named_find name [] = refl
named_find name (s ∷ ss) = ap (λ (o : Option Candidate). cond (is_named name s) (Some s) o) (named_find name ss)

pub record NamedAt (name : List ℕ) (ss : List Candidate) (p : ℕ) (s : Candidate) : Type 0 where
  pub at : slice_get ss p ≡ Some s
  pub found : find_named name ss ≡ Some s
  pub first : place_named name ss ≡ Some p
  pub named : candidate_name s ≡ name

as_named : (name : List ℕ) (ss : List Candidate) (p : ℕ) (s : Candidate) → FirstAt (is_named name) ss p s → NamedAt name ss p s
as_named name ss p s f = record { at = f.at; found = named_find name ss ∙ f.found; first = first_named name ss ∙ f.first; named = text_is (candidate_name s) name f.passes }

pub named_shows : (name : List ℕ) (ss : List Candidate) (p : ℕ) → place_named name ss ≡ Some p → (s : Candidate) × NamedAt name ss p s
named_shows name ss p e = let r = where_shows (is_named name) ss p (sym (first_named name ss) ∙ e) in (r.0, as_named name ss p r.0 r.1)

pub named_place : (name : List ℕ) (ss : List Candidate) (s : Candidate) → find_named name ss ≡ Some s → (p : ℕ) × NamedAt name ss p s
named_place name ss s e = let r = where_place (is_named name) ss s (sym (named_find name ss) ∙ e) in (r.0, as_named name ss r.0 s r.1)

-- ---- by a configuration and a name

pub same_number : (a b : ConfigId) → is_numbered a b ≡ true → a ≡ b
same_number a b e = let n : a.0 ≡ b.0 = eqb-true a.0 b.0 e in λ i. record { 0 = n i }

own_find : (config : ConfigId) (name : List ℕ) (ss : List Candidate) → find_candidate config name ss ≡ find_where (own_test config name) ss
own_find config name [] = refl
own_find config name (s ∷ ss) = ap (λ (o : Option Candidate). cond (own_test config name s) (Some s) o) (own_find config name ss)

pub record OwnAt (config : ConfigId) (name : List ℕ) (ss : List Candidate) (p : ℕ) (s : Candidate) : Type 0 where
  pub at : slice_get ss p ≡ Some s
  pub found : find_candidate config name ss ≡ Some s
  pub first : place_of_candidate config name ss ≡ Some p
  pub numbered : s.config ≡ config
  pub named : candidate_name s ≡ name

as_own : (config : ConfigId) (name : List ℕ) (ss : List Candidate) (p : ℕ) (s : Candidate) → FirstAt (own_test config name) ss p s → OwnAt config name ss p s
as_own config name ss p s f =
    let both = and_parts (is_numbered s.config config) (is_named name s) f.passes in
    record { at = f.at; found = own_find config name ss ∙ f.found; first = first_own config name ss ∙ f.first; numbered = same_number s.config config both.0; named = text_is (candidate_name s) name both.1 }

pub own_shows : (config : ConfigId) (name : List ℕ) (ss : List Candidate) (p : ℕ) → place_of_candidate config name ss ≡ Some p → (s : Candidate) × OwnAt config name ss p s
own_shows config name ss p e = let r = where_shows (own_test config name) ss p (sym (first_own config name ss) ∙ e) in (r.0, as_own config name ss p r.0 r.1)

pub own_place_of : (config : ConfigId) (name : List ℕ) (ss : List Candidate) (s : Candidate) → find_candidate config name ss ≡ Some s → (p : ℕ) × OwnAt config name ss p s
own_place_of config name ss s e = let r = where_place (own_test config name) ss s (sym (own_find config name ss) ∙ e) in (r.0, as_own config name ss r.0 s r.1)

-- the first of a name is the first of its configuration and name too
pub named_first : (name : List ℕ) (ss : List Candidate) (p : ℕ) (s : Candidate) → place_named name ss ≡ Some p → slice_get ss p ≡ Some s → place_of_candidate s.config name ss ≡ Some p
named_first name ss p s e at = first_own s.config name ss ∙ first_of_both (is_named name) (λ v. is_numbered v.config s.config) ss p s (sym (first_named name ss) ∙ e) at (eq-eqb s.config.0 s.config.0 refl)

-- ---- by a name, among the modules of ancestors

first_alike : {X : Type 0} (f g : X → Bool) → ((x : X) → f x ≡ g x) → (xs : List X) → first_where f xs ≡ first_where g xs
first_alike f g same [] = refl
first_alike f g same (x ∷ xs) = ap₂ (λ (b : Bool) (o : Option ℕ). cond b (Some 0) (option_map (λ k. k + 1) o)) (same x) (first_alike f g same xs)

filter_find : (test : Candidate → Bool) (name : List ℕ) (ss : List Candidate) → find_named name (filter test ss) ≡ find_where (λ s. test s && is_named name s) ss
filter_find test name [] = refl
filter_find test name (s ∷ ss) = by (test s) (filter_find test name ss)
  where
    by : (b : Bool) → find_named name (filter test ss) ≡ find_where (λ s. test s && is_named name s) ss
        → find_named name (cond b (s ∷ filter test ss) (filter test ss)) ≡ cond (b && is_named name s) (Some s) (find_where (λ s. test s && is_named name s) ss)
    by true e = ap (λ (o : Option Candidate). cond (is_named name s) (Some s) o) e
    by false e = e

abbrev above_test : Scene → List ℕ → Candidate → Bool
above_test w name s = is_outside w.id s && is_named name s

pub record AboveAt (w : Scene) (name : List ℕ) (p : ℕ) (s : Candidate) : Type 0 where
  pub at : slice_get w.candidates p ≡ Some s
  pub found : located_above w name ≡ Some s
  pub first : place_above w name ≡ Some p
  pub own : place_of_candidate s.config (candidate_name s) w.candidates ≡ Some p

-- of a configuration that is not this one the first of a name among the modules of ancestors is the first
own_above : (w : Scene) (name : List ℕ) (p : ℕ) (s : Candidate) → FirstAt (above_test w name) w.candidates p s → place_of_candidate s.config (candidate_name s) w.candidates ≡ Some p
own_above w name p s f =
    let parts = and_parts (is_outside w.id s) (is_named name s) f.passes in
    let named : candidate_name s ≡ name = text_is (candidate_name s) name parts.1 in
    let both = first_of_both (above_test w name) (λ v. is_numbered v.config s.config) w.candidates p s f.first f.at (eq-eqb s.config.0 s.config.0 refl) in
    ap (λ (n : List ℕ). place_of_candidate s.config n w.candidates) named ∙ first_own s.config name w.candidates
    ∙ first_alike (own_test s.config name) (λ v. is_numbered v.config s.config && above_test w name v) (λ v. by v parts.0 (is_numbered v.config s.config) refl) w.candidates ∙ both
  where
    by : (v : Candidate) → is_outside w.id s ≡ true → (b : Bool) → is_numbered v.config s.config ≡ b → (b && is_named name v) ≡ (b && above_test w name v)
    by v out true e =
        let same : s.config ≡ v.config = sym (same_number v.config s.config e) in
        let outside : is_outside w.id v ≡ true = subst (λ (c : ConfigId). not (is_numbered c w.id) ≡ true) same out in
        sym (ap (λ (t : Bool). t && is_named name v) outside)
    by v out false e = refl

as_above : (w : Scene) (name : List ℕ) (p : ℕ) (s : Candidate) → FirstAt (above_test w name) w.candidates p s → AboveAt w name p s
as_above w name p s f = record { at = f.at; found = filter_find (λ t. not (is_here w t)) name w.candidates ∙ f.found; first = f.first; own = own_above w name p s f }

pub above_shows : (w : Scene) (name : List ℕ) (p : ℕ) → place_above w name ≡ Some p → (s : Candidate) × AboveAt w name p s
above_shows w name p e = let r = where_shows (above_test w name) w.candidates p e in (r.0, as_above w name p r.0 r.1)

pub above_place : (w : Scene) (name : List ℕ) (s : Candidate) → located_above w name ≡ Some s → (p : ℕ) × AboveAt w name p s
above_place w name s e =
    let r = where_place (above_test w name) w.candidates s (sym (filter_find (λ t. not (is_here w t)) name w.candidates) ∙ e) in
    (r.0, as_above w name r.0 s r.1)
