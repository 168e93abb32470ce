-- A name that is loaded: its class is there, by the loader of the module to which the name leads, and stays so (JVMS 5.3).
use Rattle.std.proofs.Common.{◌≡◌, ◌||◌, ◌==◌, ◌&&◌, ℕ, zero, suc, List, [], ◌∷◌, ◌++◌, Option, Some, None, Ok, Err, Bool, true, false, if◌then◌else◌, eq-eqb, refl, sym, ◌∙◌, ap, ap₂}
use Rattle.std.specs.List.{list_any}
use Rattle.std.specs.Option.{option_map_or}
use Rattle.std.specs.Cmp.Lexicographic.{bytes_decides}
use Rattle.std.proofs.lemmas.List.Folds.{list_any-append}
use Rattle.jl_logic.specs.Order.{is_text}
use Rattle.jl_logic.proofs.Rising.{contains_nothing}
use Rattle.jl_prim.specs.declared.numbers.ClassId.{ClassId}
use Rattle.jl_prim.specs.declared.numbers.ModuleId.{ModuleId}
use Rattle.jl_prim.specs.declared.numbers.LoaderId.{LoaderId}
use Rattle.jl_prim.specs.declared.error_kind.ErrorKind.TheVariants as errors
use Rattle.jl_tree.specs.Files.{File}
use Rattle.jl_class.specs.Classes.{Class}
use Rattle.jl_class.specs.Tables.{AreTables}
use Rattle.jl_loaders.specs.Loaders.{IsLoader, lead}
use Rattle.jl_layer.specs.declared.layer.Member.{Member}
use Rattle.jl_layer.specs.Layers as layers
use Rattle.jl_layer.specs.Laws as over
use Rattle.jl_loads.specs.declared.class_key.ClassKey.{ClassKey}
use Rattle.jl_loads.specs.Worlds.{State, IsClass, defined, loader_of_module}
use Rattle.jl_loads.specs.Outcomes.{Outcome, and_then, silent, of_class}
use Rattle.jl_loads.specs.Loading.{declared_in, superclass, interfaces_behind, unlinked, under, define, linked, derived, is_waiting, found_or, led_to, load_by, most_waiting}
use Rattle.jl_loads.specs.Laws.{AreSound, Grows, IsLoadedAs, LoadsStay, FilesStay}
use Rattle.jl_loads.proofs.Places.{numbered_kept, front_onward}
use Rattle.jl_loads.proofs.Remembered.{begun_told, told_content}
use Rattle.jl_loads.proofs.FileLaws.{ReadTables, IsDeclared, files_tabled, declared_yields, heard_follows}
use Rattle.jl_loads.proofs.Leading.{lead_there}
use Rattle.jl_loads.proofs.Staying.{class_there, defined_there, defined_kept}
use Rattle.jl_loads.proofs.Placed.{IsNewIfSound, define_yields}
use Rattle.jl_loads.proofs.Yielding.{AreThere, still_there, superclass_yields, behind_yields}
use Rattle.jl_loads.proofs.Followed.{Follows, Yields, WaitToo, follows_onward, yields_same, yields_thrown, yields_then}

-- ---- one more that waits

-- a class that waits behind these
abbrev pub behind : List ClassKey → LoaderId → List ℕ → List ClassKey
behind ws k name = ws ++ record { loader = k; name = name } ∷ []

or_more : (a b : Bool) → a ≡ true → (a || b) ≡ true
or_more a b e = ap (λ (x : Bool). x || b) e

or_last : (a b : Bool) → b ≡ true → (a || (b || false)) ≡ true
or_last true b e = refl
or_last false true e = refl
or_last false false e = e

pub wait_too : (ws : List ClassKey) (k : LoaderId) (n : List ℕ) → WaitToo ws (behind ws k n)
wait_too ws k n l name w =
    let test : ClassKey → Bool = λ x. (x.loader.0 == l.0) && is_text x.name name in
    list_any-append test ws (record { loader = k; name = n } ∷ []) ∙ or_more (list_any test ws) (list_any test (record { loader = k; name = n } ∷ [])) w

pub waits_itself : (ws : List ClassKey) (k : LoaderId) (n : List ℕ) → is_waiting k n (behind ws k n) ≡ true
waits_itself ws k n =
    let test : ClassKey → Bool = λ x. (x.loader.0 == k.0) && is_text x.name n in
    list_any-append test ws (record { loader = k; name = n } ∷ [])
    ∙ or_last (list_any test ws) ((k.0 == k.0) && is_text n n) (ap₂ (λ (a b : Bool). a && b) (eq-eqb k.0 k.0 refl) ((bytes_decides n n).1 refl))

-- ---- layers that are the same

loader_same : (s t : State) (m : ModuleId) → t.layers ≡ s.layers → loader_of_module t m ≡ loader_of_module s m
loader_same s t m e = ap (λ (x : layers.State). option_map_or (λ (y : Member). y.loader) (layers.member_of x m) (record { 0 = 0 })) e

lead_same : (s t : State) (l : LoaderId) (name : List ℕ) → t.layers ≡ s.layers → lead t.layers.loaders l name ≡ lead s.layers.loaders l name
lead_same s t l name e = ap (λ (x : layers.State). lead x.loaders l name) e

-- ---- a class that is made

-- the class is there and loaded by the loader and the name
abbrev pub IsFound : LoaderId → List ℕ → State → ClassId → Type 0
IsFound l name t c = IsClass t c × IsLoadedAs t l name c

-- the class is there and defined by the loader and the name
abbrev IsDefined : LoaderId → List ℕ → State → ClassId → Type 0
IsDefined k name t c = IsClass t c × (defined t k name ≡ Some c)

module _ (files : List File) (ws : List ClassKey) (at : ℕ) (s : State) (l : LoaderId) (name : List ℕ) (m : ModuleId) (led : lead s.layers.loaders l name ≡ Some m) where
  -- the name leads to the module in a later state too
  found_in : (t : State) (c : ClassId) → Follows files ws s t → IsDefined (loader_of_module s m) name t c → IsFound l name t c
  found_in t c h d =
      (d.0, (m, lead_same s t l name h.grows.keeps.layers ∙ led, ap (λ (k : LoaderId). defined t k name) (loader_same s t m h.grows.keeps.layers) ∙ d.1))

  module _ (load : State → List ℕ → Outcome ClassId) (inner : (t : State) (n : List ℕ) → Yields files (behind ws (loader_of_module s m) name) t IsClass (load t n))
      (fresh : defined s (loader_of_module s m) name ≡ None) (free : is_waiting (loader_of_module s m) name ws ≡ false) where
    is_new : (c : Class) (t u : State) (super : Option ClassId) (is : List ClassId) → c.name ≡ name → (AreSound u → AreTables c)
        → Follows files (behind ws (loader_of_module s m) name) s t → Follows files (behind ws (loader_of_module s m) name) t u
        → ((d : ClassId) → super ≡ Some d → IsClass t d) → AreThere u is → IsNewIfSound u (under (unlinked (loader_of_module s m) m c) super is)
    is_new c t u super is named tables a b sup these = record {
      super = λ d e. still_there files (behind ws (loader_of_module s m) name) at t u d b (sup d e);
      interfaces = these;
      home = λ sound. lead_there u.layers sound.modules sound.leads l name m (lead_same s u l name (b.grows.keeps.layers ∙ a.grows.keeps.layers) ∙ led);
      loader = sym (loader_same s u m (b.grows.keeps.layers ∙ a.grows.keeps.layers));
      fresh = ap (defined u (loader_of_module s m)) named ∙ b.free (loader_of_module s m) name (waits_itself ws (loader_of_module s m) name) (a.free (loader_of_module s m) name (waits_itself ws (loader_of_module s m) name) fresh);
      tables = tables;
    }

    -- a class that was declared is defined behind its supertypes
    linked_yields : (c : Class) (r : State) → Follows files (behind ws (loader_of_module s m) name) s r → IsDeclared name r c → Yields files ws r (IsDefined (loader_of_module s m) c.name) (linked load at r (unlinked (loader_of_module s m) m c))
    linked_yields c r before declared =
        let k = loader_of_module s m in
        let us = behind ws k name in
        let new = unlinked k m c in
        yields_then files ws us r (λ t (x : Option ClassId). (d : ClassId) → x ≡ Some d → IsClass t d) (IsDefined k c.name) (superclass load at new r c.super_name)
        (λ t super. and_then (interfaces_behind load at new t [] c.interfaces) (λ u is. define u (under new super is))) (wait_too ws k name)
        (superclass_yields files us at load inner new r c.super_name)
        (λ t super a sup.
        yields_then files ws us t AreThere (IsDefined k c.name) (interfaces_behind load at new t [] c.interfaces) (λ u is. define u (under new super is)) (wait_too ws k name)
        (behind_yields files us at load inner new c.interfaces t [] (λ d e. contains_nothing d e))
        (λ u is b these.
        define_yields u (under new super is)
        (is_new c t u super is declared.0 (declared.1 u (front_onward r.kept t.kept u.kept a.grows.keeps.kept b.grows.keeps.kept)) (follows_onward files us us s r t (λ x n w. w) before a) b sup these)
        files ws (ap (λ (n : List ℕ). is_waiting k n ws) declared.0 ∙ free)))

    derived_yields : Yields files ws s (IsFound l name) (derived load at (loader_of_module s m) m (declared_in files s m name))
    derived_yields =
        let k = loader_of_module s m in
        let us = behind ws k name in
        yields_then files ws us s (IsDeclared name) (IsFound l name) (declared_in files s m name) (λ t c. linked load at t (unlinked k m c)) (wait_too ws k name) (declared_yields files us s m name)
        (λ t c a declared.
        let h = linked_yields c t a declared in
        record {
          follows = h.follows;
          value = λ x e. let v = h.value x e in
              found_in (linked load at t (unlinked k m c)).0 x (follows_onward files ws us s t (linked load at t (unlinked k m c)).0 (wait_too ws k name) a h.follows)
              (v.0, ap (defined (linked load at t (unlinked k m c)).0 k) (sym declared.0) ∙ v.1);
        })

-- ---- a name that is led to a module

module _ (files : List File) (ws : List ClassKey) (s : State) (l : LoaderId) (name : List ℕ) (made : ModuleId → LoaderId → Outcome ClassId) where
  waiting_yields : (m : ModuleId) (b : Bool) → is_waiting (loader_of_module s m) name ws ≡ b
      → (is_waiting (loader_of_module s m) name ws ≡ false → Yields files ws s (IsFound l name) (made m (loader_of_module s m)))
      → Yields files ws s (IsFound l name) (if b then (s, Err (of_class errors.ClassCircularityError name)) else made m (loader_of_module s m))
  waiting_yields m true e h = yields_thrown files ws s (IsFound l name) (of_class errors.ClassCircularityError name)
  waiting_yields m false e h = h e

  found_yields : (m : ModuleId) → lead s.layers.loaders l name ≡ Some m → (o : Option ClassId) → defined s (loader_of_module s m) name ≡ o
      → (o ≡ None → is_waiting (loader_of_module s m) name ws ≡ false → Yields files ws s (IsFound l name) (made m (loader_of_module s m)))
      → Yields files ws s (IsFound l name) (found_or o s ws (loader_of_module s m) name (made m (loader_of_module s m)))
  found_yields m led (Some c) e h =
      let r = defined_there s (loader_of_module s m) name c e in
      yields_same files ws s (IsFound l name) c (class_there s c r.0 r.1, (m, led, e))
  found_yields m led None e h = waiting_yields m (is_waiting (loader_of_module s m) name ws) refl (h refl)

  led_yields : (o : Option ModuleId) → lead s.layers.loaders l name ≡ o
      → ((m : ModuleId) → lead s.layers.loaders l name ≡ Some m → defined s (loader_of_module s m) name ≡ None → is_waiting (loader_of_module s m) name ws ≡ false → Yields files ws s (IsFound l name) (made m (loader_of_module s m)))
      → Yields files ws s (IsFound l name) (led_to o s ws name made)
  led_yields None e h = yields_thrown files ws s (IsFound l name) (of_class errors.NoClassDefFoundError name)
  led_yields (Some m) e h = found_yields m e (defined s (loader_of_module s m) name) refl (λ i j. h m e i j)

-- only that it is there
there_yields : (files : List File) (ws : List ClassKey) (s : State) (l : LoaderId) (name : List ℕ) (o : Outcome ClassId) → Yields files ws s (IsFound l name) o → Yields files ws s IsClass o
there_yields files ws s l name o h = record { follows = h.follows; value = λ c e. (h.value c e).0 }

load_yields : (files : List File) (at n : ℕ) (ws : List ClassKey) (s : State) (l : LoaderId) (name : List ℕ) → Yields files ws s (IsFound l name) (load_by n files at ws s l name)
unfolding load_by
load_yields files at zero ws s l name =
    led_yields files ws s l name (λ m k. (s, Err (silent errors.StackOverflowError))) (lead s.layers.loaders l name) refl (λ m led fresh free. yields_thrown files ws s (IsFound l name) (silent errors.StackOverflowError))
load_yields files at (suc n) ws s l name =
    led_yields files ws s l name (λ m k. derived (λ t above. load_by n files at (ws ++ record { loader = k; name = name } ∷ []) t k above) at k m (declared_in files s m name)) (lead s.layers.loaders l name) refl
    (λ m led fresh free.
    let k = loader_of_module s m in
    derived_yields files ws at s l name m led (λ t above. load_by n files at (behind ws k name) t k above)
    (λ t above. there_yields files (behind ws k name) t k above (load_by n files at (behind ws k name) t k above) (load_yields files at n (behind ws k name) t k above))
    fresh free)

-- ---- a name that was loaded

load_again : (files : List File) (at n : ℕ) (ws : List ClassKey) (s : State) (l : LoaderId) (name : List ℕ) (c : ClassId) → IsLoadedAs s l name c → load_by n files at ws s l name ≡ (s, Ok c)
unfolding load_by
load_again files at zero ws s l name c (m, led, e) =
    ap (λ (o : Option ModuleId). led_to o s ws name (λ m k. (s, Err (silent errors.StackOverflowError)))) led
    ∙ ap (λ (o : Option ClassId). found_or o s ws (loader_of_module s m) name (s, Err (silent errors.StackOverflowError))) e
load_again files at (suc n) ws s l name c (m, led, e) =
    let made : ModuleId → LoaderId → Outcome ClassId = λ m k. derived (λ t above. load_by n files at (ws ++ record { loader = k; name = name } ∷ []) t k above) at k m (declared_in files s m name) in
    ap (λ (o : Option ModuleId). led_to o s ws name made) led ∙ ap (λ (o : Option ClassId). found_or o s ws (loader_of_module s m) name (made m (loader_of_module s m))) e

loaded_stays : over.LayersStay → (f g : State) (l : LoaderId) (name : List ℕ) (c : ClassId) → AreSound f → Grows f g → IsLoader f.layers.loaders l → IsLoadedAs f l name c → IsLoadedAs g l name c
loaded_stays stay f g l name c sound more there (m, led, e) =
    let home = lead_there f.layers sound.modules sound.leads l name m led in
    let member = numbered_kept f.layers.modules g.layers.modules m.0 more.layers.modules home.1 in
    let same : loader_of_module g m ≡ loader_of_module f m = ap (λ (o : Option Member). option_map_or (λ (y : Member). y.loader) o (record { 0 = 0 })) member in
    (m, stay.leads f.layers g.layers l name sound.loaders more.layers there ∙ led, ap (λ (k : LoaderId). defined g k name) same ∙ defined_kept f g more (loader_of_module f m) name c e)

pub loads_stay_lem : over.LayersStay → ReadTables → LoadsStay
loads_stay_lem stay reads = record {
  grows = λ files at s l name. (load_yields files at most_waiting [] s l name).follows.grows;
  sound = λ files at s l name bytes h. (load_yields files at most_waiting [] s l name).follows.sound (files_tabled files reads bytes) h;
  asks = λ files s l name. (heard_follows files [] s l name).grows;
  asks_sound = λ files s l name bytes h. (heard_follows files [] s l name).sound (files_tabled files reads bytes) h;
  loaded = λ files at s l name c e. ((load_yields files at most_waiting [] s l name).value c e).1;
  again = λ files at s l name c h. load_again files at most_waiting [] s l name c h;
  stays = λ f g l name c sound more there h. loaded_stays stay f g l name c sound more there h;
}

pub files_stay_lem : FilesStay
files_stay_lem = record {
  starts = begun_told;
  loads = λ files at s l name h. (load_yields files at most_waiting [] s l name).follows.told h;
  asks = λ files s l name h. (heard_follows files [] s l name).told h;
  gives = λ files s path h. told_content files s path h;
}
