-- What is asked of a tree, step by step.
use Rattle.std.proofs.Common.{◌≡◌, ◌⊎◌, ◌<◌, ◌≤◌, ◌+◌, ℕ, List, [], ◌∷◌, ◌++◌, length, map, take, drop, get_or, Option, None, Some, inl, inr, refl, sym, ◌∙◌, ap, append-nil, append_assoc, cond, true, false, Result, Ok, Err, IfErr, IfOk}
use Rattle.std.specs.List.{flat_map}
use Rattle.std.proofs.lemmas.List.{map-append, take_more, take-append-drop, take_all}
use Rattle.std.proofs.lemmas.Grind.{flat_map-append}
use Rattle.jl_tree.specs.declared.entry.Entry.{Entry}
use Rattle.jl_tree.specs.Files.{File, asked_for}
use Rattle.jl_finder.specs.Folders.{declaration_in, entries_of}
use Rattle.jl_finder.specs.Scanning.{AreEntries, declares}
use Rattle.jl_finder.specs.Asking.{AsksUpTo, asked_at, place_at, place_in, places_of, faults_with, IsNotRead}
use Rattle.jl_finder.proofs.Entries.{declares_is, entries_are}
use Rattle.std.specs.Prelude.{MatchResult}
use Rattle.jl_finder.specs.declared.fault.FindFault.{FindFault}
use Rattle.jl_finder.specs.declared.fault.FindFault.TheVariants as finds
use Rattle.jl_finder.specs.Paths.{path_in}

abbrev pub Asked : Type 0
Asked = Option (List (List ℕ))

asked_none : (o : Asked) → o ≡ asked_at o []
asked_none None = refl
asked_none (Some ps) = ap Some (sym (append-nil ps))

pub asked_twice : (o : Asked) (ps qs : List (List ℕ)) → asked_at (asked_at o ps) qs ≡ asked_at o (ps ++ qs)
asked_twice None ps qs = refl
asked_twice (Some xs) ps qs = ap Some (append_assoc xs (map declaration_in ps) (map declaration_in qs) ∙ ap (λ t. xs ++ t) (sym (map-append declaration_in ps qs)))

-- no file was asked for
pub asks_nothing : (o n : Asked) (ps : List (List ℕ)) → n ≡ o → AsksUpTo o ps n
asks_nothing o n ps e = record { front = []; rest = ps; whole = refl; asks = e ∙ asked_none o }

pub asked_nothing : (o n : Asked) (ps : List (List ℕ)) → ps ≡ [] → n ≡ o → n ≡ asked_at o ps
asked_nothing o n ps q e = e ∙ asked_none o ∙ ap (asked_at o) (sym q)

-- all files were asked for
pub asks_all : (o n : Asked) (ps : List (List ℕ)) → n ≡ asked_at o ps → AsksUpTo o ps n
asks_all o n ps e = record { front = ps; rest = []; whole = sym (append-nil ps); asks = e }

-- one file was asked for, or not
pub asks_one : (o n : Asked) (place file : List ℕ) → file ≡ declaration_in place → (n ≡ o) ⊎ (n ≡ asked_for o file) → AsksUpTo o (place ∷ []) n
asks_one o n place file q (inl e) = asks_nothing o n (place ∷ []) e
asks_one o n place file q (inr e) = asks_all o n (place ∷ []) (e ∙ ap (asked_for o) q)

-- the same places under another spelling
pub asks_so : (o m n : Asked) (ps qs : List (List ℕ)) → m ≡ o → ps ≡ qs → AsksUpTo m ps n → AsksUpTo o qs n
asks_so o m n ps qs e q h = record { front = h.front; rest = h.rest; whole = sym q ∙ h.whole; asks = h.asks ∙ ap (λ t. asked_at t h.front) e }

pub asked_so : (o m n : Asked) (ps qs : List (List ℕ)) → m ≡ o → ps ≡ qs → n ≡ asked_at m ps → n ≡ asked_at o qs
asked_so o m n ps qs e q h = h ∙ (λ i. asked_at (e i) (q i))

-- ---- lists of places in turn

module _ {X : Type 0} (f : X → List (List ℕ)) where
  upto : (xs : List X) (i : ℕ) (x : X) → i < length xs → x ≡ get_or xs i x → flat_map f (take (i + 1) xs) ≡ flat_map f (take i xs) ++ f x
  upto xs i x lt q =
      ap (flat_map f) (take_more xs i x lt) ∙ flat_map-append f (take i xs) (get_or xs i x ∷ [])
      ∙ ap (λ t. flat_map f (take i xs) ++ t) (append-nil (f (get_or xs i x)) ∙ ap f (sym q))

  split : (xs : List X) (i : ℕ) → flat_map f xs ≡ flat_map f (take i xs) ++ flat_map f (drop i xs)
  split xs i = ap (flat_map f) (sym (take-append-drop i xs)) ∙ flat_map-append f (take i xs) (drop i xs)

  -- the next one was asked for too
  pub asked_next : (o m n : Asked) (xs : List X) (i : ℕ) (x : X) → i < length xs → x ≡ get_or xs i x → m ≡ asked_at o (flat_map f (take i xs)) → n ≡ asked_at m (f x) → n ≡ asked_at o (flat_map f (take (i + 1) xs))
  asked_next o m n xs i x lt q e h = h ∙ ap (λ t. asked_at t (f x)) e ∙ asked_twice o (flat_map f (take i xs)) (f x) ∙ ap (asked_at o) (sym (upto xs i x lt q))

  -- no more than the next one
  pub asks_next : (o m n : Asked) (xs : List X) (i : ℕ) (x : X) → i < length xs → x ≡ get_or xs i x → m ≡ asked_at o (flat_map f (take i xs)) → AsksUpTo m (f x) n → AsksUpTo o (flat_map f xs) n
  asks_next o m n xs i x lt q e h = record {
    front = flat_map f (take i xs) ++ h.front;
    rest = h.rest ++ flat_map f (drop (i + 1) xs);
    whole = split xs (i + 1) ∙ ap (λ t. t ++ flat_map f (drop (i + 1) xs)) (upto xs i x lt q ∙ ap (λ t. flat_map f (take i xs) ++ t) h.whole ∙ sym (append_assoc (flat_map f (take i xs)) h.front h.rest))
        ∙ append_assoc (flat_map f (take i xs) ++ h.front) h.rest (flat_map f (drop (i + 1) xs));
    asks = h.asks ∙ ap (λ t. asked_at t h.front) e ∙ asked_twice o (flat_map f (take i xs)) h.front;
  }

  -- those so far
  pub asks_some : (o n : Asked) (xs : List X) (i : ℕ) → n ≡ asked_at o (flat_map f (take i xs)) → AsksUpTo o (flat_map f xs) n
  asks_some o n xs i e = record { front = flat_map f (take i xs); rest = flat_map f (drop i xs); whole = split xs i; asks = e }

-- ---- places by a listing

pub place_there : (files : List File) (place : List ℕ) (es : List Entry) → AreEntries files place es → declares es ≡ true → place ∷ [] ≡ place_at files place
place_there files place es h d = sym (ap (λ b. cond b (place ∷ []) []) (sym (declares_is files place es h) ∙ d))

pub no_place : (files : List File) (place : List ℕ) (es : List Entry) → AreEntries files place es → declares es ≡ false → place_at files place ≡ []
no_place files place es h d = ap (λ b. cond b (place ∷ []) []) (sym (declares_is files place es h) ∙ d)

pub itself : (files : List File) (element : List ℕ) (es : List Entry) → AreEntries files element es → declares es ≡ true → element ∷ [] ≡ places_of files element
itself files element es h d = sym (ap (λ b. cond b (element ∷ []) (flat_map (place_in files element) (entries_of files element))) (sym (declares_is files element es h) ∙ d))

pub inside : (files : List File) (element : List ℕ) (es : List Entry) → AreEntries files element es → declares es ≡ false → flat_map (place_in files element) es ≡ places_of files element
inside files element es h d =
    ap (flat_map (place_in files element)) (entries_are files element es h)
    ∙ sym (ap (λ b. cond b (element ∷ []) (flat_map (place_in files element) (entries_of files element))) (sym (declares_is files element es h) ∙ d))

-- ---- counts

-- an end that is not of the tree leaves the count
pub calm : {X : Type 0} (r : Result X FindFault) (after before : ℕ) → IfErr r IsNotRead → after ≡ before → MatchResult r (λ _. after ≡ before) (λ e. after ≡ faults_with e before)
calm (Ok x) after before h e = e
calm (Err d) after before h e = e ∙ sym (h before)

pub calm_memory : {X : Type 0} (r : Result X FindFault) (after before : ℕ) → IfErr r (λ e. e ≡ finds.NoMemory) → after ≡ before → MatchResult r (λ _. after ≡ before) (λ e. after ≡ faults_with e before)
calm_memory (Ok x) after before h e = e
calm_memory (Err d) after before h e = e ∙ sym (ap (λ t. faults_with t before) h)

-- ---- steps of the code

pub if_ok : {X E : Type 0} {P : Type 0} (r : Result X E) → P → IfOk r (λ _. P)
if_ok (Ok x) p = p
if_ok (Err e) p = tt

pub asked_one : (o n : Asked) (place file : List ℕ) → file ≡ declaration_in place → n ≡ asked_for o file → n ≡ asked_at o (place ∷ [])
asked_one o n place file q e = e ∙ ap (asked_for o) q

-- what holds of one answer under another spelling
pub ok_so : {X E : Type 0} (r : Result X E) (o m n : Asked) (ps qs : List (List ℕ)) → m ≡ o → ps ≡ qs → IfOk r (λ _. n ≡ asked_at m ps) → IfOk r (λ _. n ≡ asked_at o qs)
ok_so (Ok x) o m n ps qs e q h = asked_so o m n ps qs e q h
ok_so (Err d) o m n ps qs e q h = tt

pub asked_whole : {X : Type 0} (f : X → List (List ℕ)) (o n : Asked) (xs : List X) (i : ℕ) → length xs ≤ i → n ≡ asked_at o (flat_map f (take i xs)) → n ≡ asked_at o (flat_map f xs)
asked_whole f o n xs i le e = e ∙ ap (λ t. asked_at o (flat_map f t)) (take_all i xs le)

pub entry_place : (files : List File) (dir place : List ℕ) (e : Entry) → place ≡ path_in dir e.name → e.is_dir ≡ true → place_at files place ≡ place_in files dir e
entry_place files dir place e q d = ap (place_at files) q ∙ sym (ap (λ b. cond b (place_at files (path_in dir e.name)) []) d)

pub starts_asking : (o : Asked) → o ≡ asked_at o []
starts_asking o = asked_none o
