-- Tables of places, and the first of some places.
use Rattle.std.proofs.Common.{◌≡◌, ◌<◌, ◌+◌, ℕ, suc, List, [], ◌∷◌, ◌++◌, length, take, get_or, slice_get, refl, sym, ◌∙◌, ap, Option, Some, None, option_map, option_to_list, Bool, true, false, cond, ◌&&◌, arith, add-one}
use Rattle.std.proofs.lemmas.Grind.{common_steps}
use Rattle.std.proofs.lemmas.List.{take_more}
use Rattle.jl_prim.specs.declared.numbers.ConfigId.{ConfigId}
use Rattle.jl_config.specs.declared.configuration.Read.{Read}
use Rattle.jl_config.specs.declared.candidate.Candidate.{Candidate}
use Rattle.jl_config.specs.Lineages.{is_reader, is_read_in, is_named, is_in, is_outside}
use Rattle.jl_config.specs.Located.{find_read, is_numbered}
use Rattle.jl_config.specs.Places.{place_of_candidate}
use Rattle.jl_config.specs.Tables.{first_where, places_where, first_of_places}
use Rattle.jl_config.proofs.Scenes.{first_own}
use Rattle.std.proofs.Math.Bool.{and-false}
use Rattle.jl_logic.specs.Order.{is_text}

module _ {X : Type 0} (test : X → Bool) where
  places_pushed : (p : ℕ) (xs : List X) (x : X) → places_where test p (xs ++ x ∷ []) ≡ places_where test p xs ++ option_to_list (cond (test x) (Some (p + length xs)) None)
  places_pushed p [] x = by (test x)
    where
      by : (b : Bool) → cond b (p ∷ []) [] ≡ option_to_list (cond b (Some (p + 0)) None)
      by true = let z : p ≡ p + 0 = omega arith in ap (λ k. k ∷ []) z
      by false = refl
  places_pushed p (w ∷ xs) x = by (test w) (places_pushed (p + 1) xs x ∙ ap (λ k. places_where test (p + 1) xs ++ option_to_list (cond (test x) (Some k) None)) next)
    where
      next : p + 1 + length xs ≡ p + suc (length xs)
      next = omega arith

      by : (b : Bool) → places_where test (p + 1) (xs ++ x ∷ []) ≡ places_where test (p + 1) xs ++ option_to_list (cond (test x) (Some (p + suc (length xs))) None)
          → cond b (p ∷ places_where test (p + 1) (xs ++ x ∷ [])) (places_where test (p + 1) (xs ++ x ∷ [])) ≡ cond b (p ∷ places_where test (p + 1) xs) (places_where test (p + 1) xs) ++ option_to_list (cond (test x) (Some (p + suc (length xs))) None)
      by true e = ap (λ l. p ∷ l) e
      by false e = e

  -- a loop's step, where the table got the place of the item at i
  pub more_places : (xs : List X) (i : ℕ) (x : X) (old new : List ℕ) → i < length xs → x ≡ get_or xs i x → old ≡ places_where test 0 (take i xs) → new ≡ old ++ option_to_list (cond (test x) (Some i) None) → new ≡ places_where test 0 (take (i + 1) xs)
  more_places xs i x old new lt is e f =
      let more : take (i + 1) xs ≡ take i xs ++ x ∷ [] = take_more xs i x lt ∙ ap (λ w. take i xs ++ w ∷ []) (sym is) in
      let long : i ≡ 0 + length (take i xs) = grind (arith, common_steps) in
      f ∙ ap (λ l. l ++ option_to_list (cond (test x) (Some i) None)) e ∙ ap (λ k. places_where test 0 (take i xs) ++ option_to_list (cond (test x) (Some k) None)) long
      ∙ sym (places_pushed 0 (take i xs) x) ∙ ap (places_where test 0) (sym more)

-- ---- of the places of those that pass one test the first that passes another

shifted : (p : ℕ) (o : Option ℕ) → option_map (λ k. p + 1 + k) o ≡ option_map (λ k. p + k) (option_map (λ k. k + 1) o)
shifted p None = refl
shifted p (Some k) = let n : p + 1 + k ≡ p + (k + 1) = omega arith in ap Some n

unshifted : (o : Option ℕ) → option_map (λ k. 0 + k) o ≡ o
unshifted None = refl
unshifted (Some k) = let n : 0 + k ≡ k = omega arith in ap Some n

module _ {X : Type 0} (outer inner : X → Bool) (all : List X) where
  -- the list stands in the whole from place p on
  abbrev Stands : ℕ → List X → Type 0
  Stands p xs = (k : ℕ) → slice_get all (p + k) ≡ slice_get xs k

  rest_stands : (p : ℕ) (x : X) (xs : List X) → Stands p (x ∷ xs) → Stands (p + 1) xs
  rest_stands p x xs at k = let n : p + 1 + k ≡ p + suc k = omega arith in ap (slice_get all) n ∙ at (suc k)

  abbrev First : ℕ → List X → Type 0
  First p xs = first_of_places inner all (places_where outer p xs) ≡ option_map (λ k. p + k) (first_where (λ x. inner x && outer x) xs)

  first_from : (p : ℕ) (xs : List X) → Stands p xs → First p xs
  first_from p [] at = refl
  first_from p (x ∷ xs) at = by (first_from (p + 1) xs (rest_stands p x xs at) ∙ shifted p (first_where (λ x. inner x && outer x) xs)) (outer x) refl (inner x) refl
    where
      z : p + 0 ≡ p
      z = omega arith

      here : slice_get all p ≡ Some x
      here = ap (slice_get all) (sym z) ∙ at 0

      by : first_of_places inner all (places_where outer (p + 1) xs) ≡ option_map (λ k. p + k) (option_map (λ k. k + 1) (first_where (λ x. inner x && outer x) xs)) → (a : Bool) → outer x ≡ a → (b : Bool) → inner x ≡ b → First p (x ∷ xs)
      by rest false e b f = rw (e, and-false (inner x)) rest
      by rest true e true f = rw (e, here, f) (ap Some (sym z))
      by rest true e false f = rw (e, here, f) rest

  pub first_of_all : first_of_places inner all (places_where outer 0 all) ≡ first_where (λ x. inner x && outer x) all
  first_of_all = first_from 0 all (λ k. let n : 0 + k ≡ k = omega arith in ap (slice_get all) n) ∙ unshifted (first_where (λ x. inner x && outer x) all)

-- ---- reads and modules

swap : (a b c : Bool) → (a && (b && c)) ≡ ((a && c) && b)
swap false b c = refl
swap true true true = refl
swap true true false = refl
swap true false true = refl
swap true false false = refl

abbrev pub read_of : List (ConfigId × Read) → Option ℕ → Option Read
read_of rs None = None
read_of rs (Some p) = option_map (λ (r : ConfigId × Read). r.1) (slice_get rs p)

under : (r : ConfigId × Read) (rs : List (ConfigId × Read)) (o : Option ℕ) → read_of rs o ≡ read_of (r ∷ rs) (option_map (λ k. k + 1) o)
under r rs None = refl
under r rs (Some k) = ap (λ (n : ℕ). option_map (λ (r : ConfigId × Read). r.1) (slice_get (r ∷ rs) n)) (sym (add-one k))

first_reads : (config : ConfigId) (reader name : List ℕ) (rs : List (ConfigId × Read)) → find_read config reader name rs ≡ read_of rs (first_where (λ r. is_read_in config name r && is_reader reader r) rs)
first_reads config reader name [] = refl
first_reads config reader name (r ∷ rs) =
    rw (swap (is_numbered r.0 config) (is_text r.1.reader reader) (is_text r.1.name name)) (by (is_read_in config name r && is_reader reader r) (first_reads config reader name rs ∙ under r rs (first_where (λ r. is_read_in config name r && is_reader reader r) rs)))
  where
    by : (b : Bool) → find_read config reader name rs ≡ read_of (r ∷ rs) (option_map (λ k. k + 1) (first_where (λ r. is_read_in config name r && is_reader reader r) rs))
        → cond b (Some r.1) (find_read config reader name rs) ≡ read_of (r ∷ rs) (cond b (Some 0) (option_map (λ k. k + 1) (first_where (λ r. is_read_in config name r && is_reader reader r) rs)))
    by true e = refl
    by false e = e

pub read_found : (config : ConfigId) (reader name : List ℕ) (rs : List (ConfigId × Read)) (ps : List ℕ) → ps ≡ places_where (is_reader reader) 0 rs → read_of rs (first_of_places (is_read_in config name) rs ps) ≡ find_read config reader name rs
read_found config reader name rs ps e = ap (read_of rs) (ap (first_of_places (is_read_in config name) rs) e ∙ first_of_all (is_reader reader) (is_read_in config name) rs) ∙ sym (first_reads config reader name rs)

pub candidate_found : (config : ConfigId) (name : List ℕ) (ss : List Candidate) (ps : List ℕ) → ps ≡ places_where (is_named name) 0 ss → first_of_places (is_in config) ss ps ≡ place_of_candidate config name ss
candidate_found config name ss ps e = ap (first_of_places (is_in config) ss) e ∙ first_of_all (is_named name) (is_in config) ss ∙ sym (first_own config name ss)

pub above_found : (id : ConfigId) (name : List ℕ) (ss : List Candidate) (ps : List ℕ) → ps ≡ places_where (is_named name) 0 ss → first_of_places (is_outside id) ss ps ≡ first_where (λ s. is_outside id s && is_named name s) ss
above_found id name ss ps e = ap (first_of_places (is_outside id) ss) e ∙ first_of_all (is_named name) (is_outside id) ss
