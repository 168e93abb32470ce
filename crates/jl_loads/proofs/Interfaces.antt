-- Superinterfaces in turn.
use Rattle.std.proofs.Common.{◌≡◌, ◌∙◌, ◌+◌, sym, ap, subst, refl, Ok, Err, List, [], ◌∷◌, ◌++◌, length, drop, add-one}
use Rattle.std.specs.Prelude.{ℕ, zero, suc, Some, Option, slice_get}
use Rattle.jl_prim.specs.declared.numbers.ClassId.{ClassId}
use Rattle.jl_tree.specs.Files.{File}
use Rattle.jl_loads.specs.declared.end.LinkEnd.{LinkEnd}
use Rattle.jl_loads.specs.declared.role.Role.TheVariants.{Superinterface}
use Rattle.jl_loads.specs.Ends.{Leaves}
use Rattle.jl_loads.specs.Outcomes.{Outcome, and_then}
use Rattle.jl_loads.specs.Loading.{supertype, interfaces_behind}
use Rattle.jl_loads.specs.Worlds.{State, Loaded, Keeps}
use Rattle.jl_loads.proofs.Leaving.{leaves_end, keeps_same, keeps_on}

-- so many of the names are loaded, in this state: the rest goes on behind what was found
pub record IsSoFar (told : Option (List File)) (load : List File → State → List ℕ → Outcome ClassId) (at : ℕ) (new : Loaded) (start : State) (names : List (List ℕ)) (index : ℕ) (now : State) (found : List ClassId) : Type 0 where
  pub loads : (files : List File) → told ≡ Some files → interfaces_behind (load files) at new start [] names ≡ interfaces_behind (load files) at new now found (drop index names)
  pub keeps : Keeps start now

-- the names from a place on
rest_at : (xs : List (List ℕ)) (k : ℕ) (x : List ℕ) → slice_get xs k ≡ Some x → drop k xs ≡ x ∷ drop (suc k) xs
rest_at [] k x e = cc
rest_at (y ∷ ys) zero x e = let same : y ≡ x = cc in ap (λ z. z ∷ ys) same
rest_at (y ∷ ys) (suc k) x e = rest_at ys k x e

drop_length : (xs : List (List ℕ)) → drop (length xs) xs ≡ []
drop_length [] = refl
drop_length (x ∷ xs) = drop_length xs

module _ (told : Option (List File)) (load : List File → State → List ℕ → Outcome ClassId) (at : ℕ) (new : Loaded) (start : State) (names : List (List ℕ)) where
  pub so_far_none : IsSoFar told load at new start names 0 start []
  so_far_none = record { loads = λ files e. refl; keeps = keeps_same start start refl }

  step : (files : List File) (now t : State) (found : List ClassId) (name : List ℕ) (rest : List (List ℕ)) (c : ClassId) → supertype (load files) at new now Superinterface name ≡ (t, Ok c)
      → interfaces_behind (load files) at new now found (name ∷ rest) ≡ interfaces_behind (load files) at new t (found ++ c ∷ []) rest
  unfolding interfaces_behind
  step files now t found name rest c e = ap (λ o. and_then o (λ t c. interfaces_behind (load files) at new t (found ++ c ∷ []) rest)) e

  pub so_far_more : (index : ℕ) (now t : State) (found : List ClassId) (name : List ℕ) (c : ClassId) → IsSoFar told load at new start names index now found → slice_get names index ≡ Some name
      → ((files : List File) → told ≡ Some files → supertype (load files) at new now Superinterface name ≡ (t, Ok c)) → Keeps now t → IsSoFar told load at new start names (index + 1) t (found ++ c ∷ [])
  so_far_more index now t found name c so here loads keeps = record {
    loads = λ files e.
        so.loads files e ∙ ap (interfaces_behind (load files) at new now found) (rest_at names index name here) ∙ step files now t found name (drop (suc index) names) c (loads files e)
        ∙ ap (λ k. interfaces_behind (load files) at new t (found ++ c ∷ []) (drop k names)) (sym (add-one index));
    keeps = keeps_on start now t so.keeps keeps;
  }

  step_end : (files : List File) (now t : State) (found : List ClassId) (name : List ℕ) (rest : List (List ℕ)) (e : LinkEnd) → Leaves (supertype (load files) at new now Superinterface name) (Err e) t
      → Leaves (interfaces_behind (load files) at new now found (name ∷ rest)) (Err e) t
  unfolding interfaces_behind
  step_end files now t found name rest e h = leaves_end (supertype (load files) at new now Superinterface name) (λ t c. interfaces_behind (load files) at new t (found ++ c ∷ []) rest) e t h

  pub so_far_end : (index : ℕ) (now t : State) (found : List ClassId) (name : List ℕ) (e : LinkEnd) → IsSoFar told load at new start names index now found → slice_get names index ≡ Some name
      → ((files : List File) → told ≡ Some files → Leaves (supertype (load files) at new now Superinterface name) (Err e) t) → (files : List File) → told ≡ Some files → Leaves (interfaces_behind (load files) at new start [] names) (Err e) t
  so_far_end index now t found name e so here ends files is =
      subst (λ o. Leaves o (Err e) t) (sym (so.loads files is ∙ ap (interfaces_behind (load files) at new now found) (rest_at names index name here))) (step_end files now t found name (drop (suc index) names) e (ends files is))

  all : (files : List File) (now : State) (found : List ClassId) → interfaces_behind (load files) at new now found [] ≡ (now, Ok found)
  unfolding interfaces_behind
  all files now found = refl

  pub so_far_all : (now : State) (found : List ClassId) → IsSoFar told load at new start names (length names) now found → (files : List File) → told ≡ Some files → Leaves (interfaces_behind (load files) at new start [] names) (Ok found) now
  so_far_all now found so files is = so.loads files is ∙ ap (interfaces_behind (load files) at new now found) (drop_length names) ∙ all files now found
