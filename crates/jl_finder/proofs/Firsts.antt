-- The first module of each name, as a loop finds it.
use Rattle.std.proofs.Common.{◌≡◌, ℕ, List, [], ◌∷◌, ◌++◌, map, filter, Bool, true, false, cond, not, ◌||◌, refl, sym, ap, ◌∙◌, append-nil}
use Rattle.std.proofs.lemmas.List.{map-append}
use Rattle.std.proofs.lemmas.List.Elements.{filter-append}
use Rattle.std.specs.List.{list_any}
use Rattle.indexmap.specs.IndexSet.{insert_key}
use Rattle.jl_logic.specs.Order.{is_text}
use Rattle.jl_prim.specs.declared.declaration.Observed.{Observed}
use Rattle.jl_finder.specs.Observed.{name_of, first_of_each}
use Rattle.jl_finder.proofs.Members.{name_is}

abbrev has_name_of : Observed → Observed → Bool
has_name_of o p = is_text (name_of p) (name_of o)

abbrev names_of : List Observed → List (List ℕ)
names_of os = map name_of os

abbrev is_seen : List Observed → Observed → Bool
is_seen os x = list_any (is_text (name_of x)) (names_of os)

-- what has another name is not among those of a name
still_seen : (y x : Observed) (os : List Observed) → has_name_of y x ≡ false → is_seen (filter (λ p. not (has_name_of y p)) os) x ≡ is_seen os x
still_seen y x [] d = refl
still_seen y x (o ∷ os) d = by (has_name_of y o) refl (still_seen y x os d)
  where
    by : (b : Bool) → has_name_of y o ≡ b → is_seen (filter (λ p. not (has_name_of y p)) os) x ≡ is_seen os x
        → is_seen (cond (not b) (o ∷ filter (λ p. not (has_name_of y p)) os) (filter (λ p. not (has_name_of y p)) os)) x ≡ is_seen (o ∷ os) x
    by false e rest = ap (λ t. is_text (name_of x) (name_of o) || t) rest
    by true e rest =
        let n : name_of o ≡ name_of y = name_is _ _ e in
        let f : is_text (name_of x) (name_of o) ≡ false = ap (λ t. is_text (name_of x) t) n ∙ d in
        rest ∙ sym (ap (λ t. t || is_seen os x) f)

abbrev one_more : List Observed → Observed → List Observed
one_more kept x = cond (is_seen kept x) kept (kept ++ x ∷ [])

pub first_more : (xs : List Observed) (x : Observed) → first_of_each (xs ++ x ∷ []) ≡ one_more (first_of_each xs) x
unfolding first_of_each
first_more [] x = refl
first_more (y ∷ ys) x = ap (λ t. y ∷ filter (λ p. not (has_name_of y p)) t) (first_more ys x) ∙ by (has_name_of y x) refl
  where
    by : (b : Bool) → has_name_of y x ≡ b
        → y ∷ filter (λ p. not (has_name_of y p)) (one_more (first_of_each ys) x) ≡ one_more (first_of_each (y ∷ ys)) x
    by true e =
        ap (λ t. y ∷ t) (dropped (is_seen (first_of_each ys) x)) ∙ sym (ap (λ t. cond (t || is_seen (filter (λ p. not (has_name_of y p)) (first_of_each ys)) x) (first_of_each (y ∷ ys)) (first_of_each (y ∷ ys) ++ x ∷ [])) e)
      where
        dropped : (s : Bool) → filter (λ p. not (has_name_of y p)) (cond s (first_of_each ys) (first_of_each ys ++ x ∷ [])) ≡ filter (λ p. not (has_name_of y p)) (first_of_each ys)
        dropped true = refl
        dropped false = filter-append _ (first_of_each ys) (x ∷ []) ∙ ap (λ t. filter (λ p. not (has_name_of y p)) (first_of_each ys) ++ cond (not t) (x ∷ []) []) e ∙ append-nil _
    by false e =
        let F = first_of_each ys in
        let s : is_seen (first_of_each (y ∷ ys)) x ≡ is_seen F x = ap (λ t. t || is_seen (filter (λ p. not (has_name_of y p)) F) x) e ∙ still_seen y x F e in
        kept (is_seen F x) ∙ sym (ap (λ t. cond t (first_of_each (y ∷ ys)) (first_of_each (y ∷ ys) ++ x ∷ [])) s)
      where
        kept : (s : Bool) → y ∷ filter (λ p. not (has_name_of y p)) (cond s (first_of_each ys) (first_of_each ys ++ x ∷ [])) ≡ cond s (first_of_each (y ∷ ys)) (first_of_each (y ∷ ys) ++ x ∷ [])
        kept true = refl
        kept false = ap (λ t. y ∷ t) (filter-append _ (first_of_each ys) (x ∷ []) ∙ ap (λ t. filter (λ p. not (has_name_of y p)) (first_of_each ys) ++ cond (not t) (x ∷ []) []) e)

-- a new name is kept and noted
pub kept_more : (done kept : List Observed) (keys : List (List ℕ)) (x : Observed) (n : List ℕ) → kept ≡ first_of_each done → keys ≡ names_of kept → n ≡ name_of x
    → list_any (is_text n) keys ≡ false → (kept ++ x ∷ [] ≡ first_of_each (done ++ x ∷ [])) × (insert_key is_text keys n ≡ names_of (kept ++ x ∷ []))
kept_more done kept keys x n k e m new =
    let s : is_seen kept x ≡ false = ap (λ t. list_any (is_text (name_of x)) t) (sym e) ∙ ap (λ t. list_any (is_text t) keys) (sym m) ∙ new in
    let f : one_more kept x ≡ kept ++ x ∷ [] = ap (λ t. cond t kept (kept ++ x ∷ [])) s in
    let g : insert_key is_text keys n ≡ keys ++ n ∷ [] = ap (λ t. cond t keys (keys ++ n ∷ [])) new in
    let h : keys ++ n ∷ [] ≡ names_of kept ++ name_of x ∷ [] = (λ i. e i ++ m i ∷ []) in
    (sym f ∙ ap (λ t. one_more t x) k ∙ sym (first_more done x), g ∙ h ∙ sym (map-append name_of kept (x ∷ [])))

-- a name that was there is passed over
pub kept_same : (done kept : List Observed) (keys : List (List ℕ)) (x : Observed) (n : List ℕ) → kept ≡ first_of_each done → keys ≡ names_of kept → n ≡ name_of x
    → list_any (is_text n) keys ≡ true → (kept ≡ first_of_each (done ++ x ∷ [])) × (insert_key is_text keys n ≡ names_of kept)
kept_same done kept keys x n k e m old =
    let s : is_seen kept x ≡ true = ap (λ t. list_any (is_text (name_of x)) t) (sym e) ∙ ap (λ t. list_any (is_text t) keys) (sym m) ∙ old in
    let f : one_more kept x ≡ kept = ap (λ t. cond t kept (kept ++ x ∷ [])) s in
    let g : insert_key is_text keys n ≡ keys = ap (λ t. cond t keys (keys ++ n ∷ [])) old in
    (sym f ∙ ap (λ t. one_more t x) k ∙ sym (first_more done x), g ∙ e)

pub first_none : first_of_each [] ≡ []
unfolding first_of_each
first_none = refl
