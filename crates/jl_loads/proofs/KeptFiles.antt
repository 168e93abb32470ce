-- What is kept of paths that are read, and what was asked of a tree for it.
use Rattle.std.proofs.Common.{◌≡◌, ◌∙◌, sym, ap, ap₂, refl, Result, Ok, Err, IfOk, IsOk, OnOk, subst, List, [], ◌∷◌, ◌++◌, Option, None, Some, Bool, true, false, cond, if◌then◌else◌, inl, inr, arith}
use Rattle.std.proofs.lemmas.List.{append-nil}
use Rattle.std.proofs.lemmas.Option.{none-some, same_Some}
use Rattle.std.proofs.Math.Seq.{drop-length}
use Rattle.std.specs.Prelude.{ℕ, ◌⊎◌, IsSome, is_some, option_map, unwrap_or, map}
use Rattle.std.specs.Option.{option_or, option_map_or}
use Rattle.std.specs.Cmp.Lexicographic.{bytes_decides}
use Rattle.indexmap.specs.IndexMap.{insert_entry}
use Rattle.jl_logic.proofs.Apart.{single}
use Rattle.jl_logic.specs.Order.{is_text}
use Rattle.jl_logic.specs.Lists.{IsFront}
use Rattle.jl_prim.specs.Limits.{most_file_bytes}
use Rattle.jl_prim.specs.declared.numbers.ClassId.{ClassId}
use Rattle.jl_prim.specs.declared.numbers.LoaderId.{LoaderId}
use Rattle.jl_prim.specs.declared.numbers.ModuleId.{ModuleId}
use Rattle.jl_loaders.specs.Loaders.{IsLoader, lead}
use Rattle.jl_layer.specs.Layers.{IsModule}
use Rattle.jl_class.specs.Classes.{Class}
use Rattle.jl_class.specs.Tables.{AreTables}
use Rattle.jl_tree.specs.Files.{File, read_of, asked_for}
use Rattle.jl_loads.specs.declared.class_key.ClassKey.{ClassKey}
use Rattle.jl_loads.specs.declared.end.FileEnd.{FileEnd}
use Rattle.jl_loads.specs.declared.end.LinkEnd.{LinkEnd}
use Rattle.jl_loads.specs.Ends.{Asks, Leaves}
use Rattle.jl_loads.specs.Outcomes.{and_then}
use Rattle.jl_loads.specs.Loading.{kept_at, content_at, content_of, with_file, path_in, declared_by, has_file, has_file_in, is_there, unlinked}
use Rattle.jl_loads.specs.Steps.{kept_in, with_entry, HasTables, IsUnlinked, Reads, unlinked_by, unlinked_in}
use Rattle.jl_loads.specs.declared.rank.Rank.{Rank}
use Rattle.jl_loads.specs.Whole.{IsWhole}
use Rattle.jl_loads.specs.Worlds.{State, Loaded, Content, Declares, Keeps, blank, is_base, loader_of_module, with_kept}
use Rattle.jl_loads.proofs.Entries.{lookup_behind}
use Rattle.jl_loads.proofs.Beside.{sound_kept}
use Rattle.jl_loads.proofs.Remembered.{kept_front, file_kept}

-- ---- what is kept

some_value : {X : Type 0} (o : Option X) → IsSome o → (x : X) × (o ≡ Some x)
some_value None h = absurd cc
some_value (Some x) h = (x, refl)

some_is : {X : Type 0} (o : Option X) (x : X) → o ≡ Some x → IsSome o
some_is o x e = subst (λ p. IsSome p) (sym e) refl

still_kept : (f g : State) (path : List ℕ) → IsFront f.kept g.kept → IsSome (kept_at f path) → IsSome (kept_at g path)
still_kept f g path front h =
    let is = some_value (kept_at f path) h in some_is (kept_at g path) is.0 (kept_front f g path is.0 front is.1)

-- ---- asking

asked_none : (a : Option (List (List ℕ))) → a ≡ option_map (λ ps. ps ++ []) a
asked_none None = refl
asked_none (Some ps) = ap Some (sym (append-nil ps))

-- nothing was asked
pub asks_none : (f g : State) (a b : Option (List (List ℕ))) → b ≡ a → Asks f g a b
asks_none f g a b same = record {
  more = [];
  asked = same ∙ asked_none a;
  once = tt;
  fresh = λ path c. absurd (omega (arith, c.1));
  kept = λ path c. absurd (omega (arith, c.1));
}

-- more is kept, for which nothing was asked
pub asks_later : (f g h : State) (a b : Option (List (List ℕ))) → Keeps g h → Asks f g a b → Asks f h a b
asks_later f g h a b keeps asks = record {
  more = asks.more;
  asked = asks.asked;
  once = asks.once;
  fresh = asks.fresh;
  kept = λ path c. still_kept g h path keeps.kept (asks.kept path c);
}

-- ---- a path that is read

-- a path of which nothing is kept comes behind the others
pub insert_is_kept : (path : List ℕ) (what : Content) (entries : List (List ℕ × Content)) → kept_in path entries ≡ None → insert_entry is_text entries path what ≡ entries ++ (path, what) ∷ []
insert_is_kept path what [] e = refl
insert_is_kept path what (p ∷ ps) e = by (is_text path p.0) e (insert_is_kept path what ps) where
  by : (b : Bool) → cond b (Some p.1) (kept_in path ps) ≡ None → (kept_in path ps ≡ None → insert_entry is_text ps path what ≡ ps ++ (path, what) ∷ [])
      → cond b ((p.0, what) ∷ ps) (p ∷ insert_entry is_text ps path what) ≡ p ∷ (ps ++ (path, what) ∷ [])
  by true h rest = absurd (none-some p.1 (sym h))
  by false h rest = ap (λ qs. p ∷ qs) (rest h)

none_of : {X : Type 0} (o : Option X) → is_some o ≡ false → o ≡ None
none_of None e = refl
none_of (Some x) e = absurd cc

text_same : (path : List ℕ) → is_text path path ≡ true
text_same path = (bytes_decides path path).1 refl

-- what was placed is kept
kept_last : (path : List ℕ) (what : Content) (entries : List (List ℕ × Content)) → kept_in path entries ≡ None → kept_in path (entries ++ (path, what) ∷ []) ≡ Some what
kept_last path what entries e =
    lookup_behind (is_text path) entries ((path, what) ∷ []) ∙ ap (λ (o : Option Content). option_or o (cond (is_text path path) (Some what) None)) e ∙ ap (λ b. cond b (Some what) None) (text_same path)

pub placed_there : (path key : List ℕ) (what : Content) (old mid new : List (List ℕ × Content)) → is_some (kept_in path old) ≡ false → mid ≡ old → key ≡ path → new ≡ mid ++ (key, what) ∷ [] → IsSome (kept_in path new)
placed_there path key what old mid new none same named placed =
    some_is (kept_in path new) what (ap (kept_in path) (placed ∙ ap (λ k. mid ++ (k, what) ∷ []) named ∙ ap (λ l. l ++ (path, what) ∷ []) same) ∙ kept_last path what old (none_of (kept_in path old) none))

pub placed_read : (path key : List ℕ) (what : Content) (old mid new : List (List ℕ × Content)) (before after : Option (List (List ℕ))) → is_some (kept_in path old) ≡ false → mid ≡ old → key ≡ path → new ≡ mid ++ (key, what) ∷ []
    → HasTables what → (after ≡ before) ⊎ (after ≡ asked_for before path) → Reads old new path before after
placed_read path key what old mid new before after none same named placed tables asked = inr (record {
  fresh = none_of (kept_in path old) none;
  what = what;
  placed = placed ∙ ap (λ k. mid ++ (k, what) ∷ []) named ∙ ap (λ l. l ++ (path, what) ∷ []) same;
  tables = tables;
  asked = asked;
})

-- ---- a state with what was read

-- the state with these paths
abbrev pub keeping : State → List (List ℕ × Content) → State
keeping s es = record { layers = s.layers; classes = s.classes; report = s.report; slots = s.slots; kept = es }

pub file_entry : (files : List File) (path : List ℕ) (s : State) (es : List (List ℕ × Content)) → es ≡ with_entry files path s.kept → keeping s es ≡ with_file files path s
file_entry files path s es e = ap (keeping s) e ∙ by (kept_at s path) where
  by : (o : Option Content) → keeping s (if is_some o then s.kept else s.kept ++ (path, content_of (read_of files path most_file_bytes)) ∷ [])
      ≡ (if is_some o then s else with_kept path (unwrap_or o (content_of (read_of files path most_file_bytes))) s)
  by None = refl
  by (Some what) = refl

read_front : (old new : List (List ℕ × Content)) (path : List ℕ) (a b : Option (List (List ℕ))) → Reads old new path a b → IsFront old new
read_front old new path a b (inl same) = ([], same.0 ∙ sym (append-nil old))
read_front old new path a b (inr r) = ((path, r.what) ∷ [], r.placed)

pub read_keeps : (s : State) (es : List (List ℕ × Content)) (path : List ℕ) (a b : Option (List (List ℕ))) → Reads s.kept es path a b → Keeps s (keeping s es)
read_keeps s es path a b reads = record {
  layers = refl;
  classes = ([], sym (append-nil s.classes));
  slots = sym (ap (λ cs. s.slots ++ map blank cs) (drop-length s.classes) ∙ append-nil s.slots);
  kept = read_front s.kept es path a b reads;
}

pub read_asks : (s : State) (es : List (List ℕ × Content)) (path : List ℕ) (a b : Option (List (List ℕ))) → Reads s.kept es path a b → Asks s (keeping s es) a b
read_asks s es path a b (inl same) = asks_none s (keeping s es) a b same.1
read_asks s es path a b (inr r) = by r.asked where
  by : (b ≡ a) ⊎ (b ≡ asked_for a path) → Asks s (keeping s es) a b
  by (inl same) = asks_none s (keeping s es) a b same
  by (inr asked) = record {
    more = path ∷ [];
    asked = asked;
    once = ((λ c. absurd (omega (arith, c.1))), tt);
    fresh = λ q c. subst (λ p. kept_in p s.kept ≡ None) (single path q c) r.fresh;
    kept = λ q c. subst (λ p. IsSome (kept_in p es)) (single path q c) (some_is (kept_in path es) r.what (ap (kept_in path) r.placed ∙ kept_last path r.what s.kept r.fresh));
  }

tables_of : (what : Content) (c : Class) → HasTables what → what ≡ Declares c → AreTables c
tables_of what c h e = subst HasTables e h

pub whole_read : {ranks : List Rank} (names : List (ClassKey × ClassId)) (base : ModuleId) (s : State) (es : List (List ℕ × Content)) (path : List ℕ) (a b : Option (List (List ℕ)))
    → Reads s.kept es path a b → IsWhole names ranks base s → IsWhole names ranks base (keeping s es)
whole_read {ranks = ranks} names base s es path a b (inl same) w = subst (λ l. IsWhole names ranks base (keeping s l)) (sym same.0) w
whole_read {ranks = ranks} names base s es path a b (inr r) w =
    let whole : IsWhole names ranks base (with_kept path r.what s) = record { names = w.names; sound = sound_kept s path r.what (record { fresh = r.fresh; tables = λ c e. tables_of r.what c r.tables e }) w.sound; base = w.base; ranked = w.ranked } in
    subst (λ l. IsWhole names ranks base (keeping s l)) (sym r.placed) whole

-- ---- what is read of a class

pub on_ok_of : {X E P : Type 0} (r : Result X E) → IsOk r → OnOk r P → P
on_ok_of (Ok x) i h = h
on_ok_of (Err e) i h = absurd cc

pub if_ok_map : {X E : Type 0} (P Q : X → Type 0) (r : Result X E) → ((x : X) → P x → Q x) → IfOk r P → IfOk r Q
if_ok_map P Q (Ok x) f h = f x h
if_ok_map P Q (Err e) f h = h

-- the content that is kept is what the path gives
is_given : (files : List File) (s t : State) (p path : List ℕ) (what : Content) → path ≡ p → t ≡ with_file files path s → kept_at t path ≡ Some what → what ≡ content_at files s p
is_given files s t p path what named is kept =
    same_Some what (content_at files s p) (sym kept ∙ ap (λ (w : State). kept_at w path) is ∙ file_kept files s path ∙ ap (λ (q : List ℕ). Some (content_at files s q)) named)

pub there_told : (files : List File) (s t : State) (m : ModuleId) (name path : List ℕ) (what : Content) (b : Bool) → is_base s m ≡ false → path ≡ path_in s m name → t ≡ with_file files path s → kept_at t path ≡ Some what → b ≡ is_there what
    → (t, b) ≡ has_file_in files s name m
there_told files s t m name path what b other named is kept there =
    rw other (ap₂ (λ (w : State) (x : Bool). (w, x)) (is ∙ ap (λ (q : List ℕ). with_file files q s) named) (there ∙ ap is_there (is_given files s t (path_in s m name) path what named is kept)))

pub file_led : (files : List File) (s t : State) (l : LoaderId) (name n : List ℕ) (m : ModuleId) (r : Result Bool FileEnd) → Some m ≡ lead s.layers.loaders l n → n ≡ name → IfOk r (λ b. (t, b) ≡ has_file_in files s n m)
    → IfOk r (λ b. (t, b) ≡ has_file files s l name)
file_led files s t l name n m r led named h =
    if_ok_map (λ b. (t, b) ≡ has_file_in files s n m) (λ b. (t, b) ≡ has_file files s l name) r
    (λ b e. e ∙ ap (λ (o : Option ModuleId). option_map_or (has_file_in files s n) o (s, false)) led ∙ ap (λ (q : List ℕ). has_file files s l q) named) h

pub new_unlinked : (s : State) (key : ClassKey) (m : ModuleId) (d : Class) (new : Loaded) → IsModule s.layers m → IsLoader s.layers.loaders key.loader → key.loader ≡ loader_of_module s m → d.name ≡ key.name → AreTables d → new ≡ unlinked key.loader m d → IsUnlinked s key new
new_unlinked s key m d new home there owner named tables is = subst (IsUnlinked s key) (sym is) (record {
  home = home;
  there = there;
  owner = owner;
  loader = refl;
  name = sym named;
  tables = tables;
})

pub unlinked_told : (files : List File) (s t : State) (m : ModuleId) (key : ClassKey) (path : List ℕ) (r : Result Loaded LinkEnd) → is_base s m ≡ false → path ≡ path_in s m key.name → t ≡ with_file files path s
    → ((what : Content) → kept_at t path ≡ Some what → Leaves (unlinked_by key m what t) r t) → Leaves (unlinked_in files s key m) r t
unlinked_told files s t m key path r other named is gives =
    let kept : kept_at t path ≡ Some (content_at files s path) = ap (λ (w : State). kept_at w path) is ∙ file_kept files s path in
    let same : unlinked_by key m (content_at files s path) t ≡ unlinked_in files s key m =
    rw other (ap₂ (λ (w : State) (q : List ℕ). and_then (w, declared_by key.name (content_at files s q)) (λ t c. (t, Ok (unlinked key.loader m c)))) (is ∙ ap (λ (q : List ℕ). with_file files q s) named) named) in
    subst (λ o. Leaves o r t) same (gives (content_at files s path) kept)
