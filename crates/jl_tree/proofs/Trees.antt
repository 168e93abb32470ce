-- Whether files stand in one tree, file by file.
use Rattle.std.proofs.Common.{◌≡◌, ℕ, List, [], ◌∷◌, ◌++◌, map, Bool, true, false, ◌&&◌, refl, sym, ap, ◌∙◌}
use Rattle.std.proofs.lemmas.List.Folds.{list_all-map, list_all-append}
use Rattle.std.proofs.lemmas.Bool.{and_parts, and_from}
use Rattle.std.specs.List.{list_all}
use Rattle.jl_tree.specs.Files.{File}
use Rattle.jl_tree.specs.Memory.{file_of, files_of, are_apart, is_tree}

abbrev paths : List (List ℕ × List ℕ) → List (List ℕ)
paths fs = map (λ (f : File). f.path) (files_of fs)

all_paths : (p : List ℕ → Bool) (fs : List (List ℕ × List ℕ)) → list_all p (paths fs) ≡ list_all (λ f. p f.0) fs
all_paths p fs = list_all-map p (λ (f : File). f.path) (files_of fs) ∙ list_all-map (λ (f : File). p f.path) file_of fs

more : (rest fs : List (List ℕ × List ℕ)) (f : List ℕ × List ℕ) → rest ≡ f ∷ fs → is_tree (paths rest) ≡ (list_all (λ g. are_apart f.0 g.0) fs && is_tree (paths fs))
more rest fs f e = ap (λ r. is_tree (paths r)) e ∙ ap (λ b. b && is_tree (paths fs)) (all_paths (λ q. are_apart f.0 q) fs)

pub is_no_tree : (rest fs : List (List ℕ × List ℕ)) (f : List ℕ × List ℕ) (whole : Bool) → rest ≡ f ∷ fs
    → false ≡ list_all (λ g. are_apart f.0 g.0) fs → is_tree (paths rest) ≡ whole → false ≡ whole
is_no_tree rest fs f whole e h is = sym (sym is ∙ more rest fs f e ∙ ap (λ b. b && is_tree (paths fs)) (sym h))

pub is_still_tree : (rest fs : List (List ℕ × List ℕ)) (f : List ℕ × List ℕ) (whole : Bool) → rest ≡ f ∷ fs
    → true ≡ list_all (λ g. are_apart f.0 g.0) fs → is_tree (paths rest) ≡ whole → is_tree (paths fs) ≡ whole
is_still_tree rest fs f whole e h is = sym (more rest fs f e ∙ ap (λ b. b && is_tree (paths fs)) (sym h)) ∙ is

-- one more file at the end: it is apart from all before it
pub is_tree-push : (ps : List (List ℕ)) (p : List ℕ) → is_tree ps ≡ true → list_all (λ q. are_apart q p) ps ≡ true → is_tree (ps ++ p ∷ []) ≡ true
is_tree-push [] p t h = refl
is_tree-push (x ∷ xs) p t h =
    let a = and_parts _ _ t in
    let b = and_parts _ _ h in
    and_from _ _ (list_all-append (λ q. are_apart x q) xs (p ∷ []) ∙ and_from _ _ a.0 (and_from _ _ b.0 refl)) (is_tree-push xs p a.1 b.1)
