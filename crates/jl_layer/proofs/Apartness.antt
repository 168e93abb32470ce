-- No loader of a new layer sees a package of two modules (`ModuleLayer.defineModules`).
use Rattle.std.proofs.Common.{◌≡◌, ◌≢◌, ◌⊎◌, ◌≤◌, ◌+◌, ℕ, zero, suc, List, length, Some, if◌then◌else◌, inl, inr, ⊎_elim, refl, sym, ◌∙◌, ap, ap₂, subst, arith}
use Rattle.std.specs.Prelude.{Contains}
use Rattle.std.proofs.lemmas.Bool.{cases_eq}
use Rattle.std.proofs.lemmas.List.Elements.{All-contains}
use Rattle.std.proofs.lemmas.Option.{same_Some}
use Rattle.jl_logic.specs.Lists.{IsFront}
use Rattle.jl_logic.proofs.Rising.{contains_nothing}
use Rattle.jl_prim.specs.declared.numbers.ModuleId.{ModuleId}
use Rattle.jl_prim.specs.declared.numbers.LoaderId.{LoaderId}
use Rattle.jl_prim.specs.declared.numbers.ConfigId.{ConfigId}
use Rattle.jl_prim.specs.declared.declaration.Observed.{Observed}
use Rattle.jl_config.specs.declared.configuration.Read.{Read}
use Rattle.jl_config.specs.Configurations.{Configuration}
use Rattle.jl_config.specs.Located.{name_of, is_numbered}
use Rattle.jl_layer.specs.declared.layer.Member.{Member}
use Rattle.jl_layer.specs.declared.layer.Mode.{Mode}
use Rattle.jl_layer.specs.declared.layer.Mode.TheVariants.{One, Many}
use Rattle.jl_layer.specs.Layers.{State, layer_at, member_of, declaration_of, named_in}
use Rattle.jl_layer.specs.Meaning.{meant_above, read_module, reads_of, exported_to}
use Rattle.jl_layer.specs.Leads.{HasOwn, Sees, NoModule}
use Rattle.jl_layer.specs.Defining.{Asked, asked_modules, next_layer, next_loader}
use Rattle.jl_layer.specs.Refusals.{Holds, Takes}
use Rattle.jl_layer.specs.Keeping.{Gets, IsKeepable}
use Rattle.jl_layer.specs.Sound.{IsApart, AreSound}
use Rattle.jl_layer.proofs.Listed.{place_of, at_place}
use Rattle.jl_layer.proofs.Growing.{Extends}
use Rattle.jl_layer.proofs.KeptBehind.{kept_of, kept_id, configuration_zero, gets_front}
use Rattle.jl_layer.proofs.Added.{IsPlaced, IsNew, same_loader, loader_place, with_loader, extends_placed, new_member, member_cases}
use Rattle.jl_layer.proofs.Definable.{IsDefinable}
use Rattle.jl_layer.proofs.StillSound.{has_exported, none_down, sees_down}
use Rattle.jl_layer.proofs.NewReads.{asked_configuration, new_read, read_cases, named_new, meant_old, new_exported, target_read}
use Rattle.jl_layer.proofs.OwnApart.{apart_loaders, from_place, one_loader, many_place, own_apart}

-- a new module reads another, which exports the package to it
record SeesNew (old s : State) (q : Asked) (l : LoaderId) (p : List ℕ) (m : ModuleId) : Type 0 where
  reader : ModuleId
  by : Member
  target : Member
  new : IsNew old q reader by
  is_reader : member_of s reader ≡ Some by
  loader : by.loader ≡ l
  read : Contains (reads_of s by.layer) (reader, m)
  is_target : member_of s m ≡ Some target
  exported : Contains (exported_to (declaration_of target) (declaration_of by).name) p

module _ (old s : State) (q : Asked) (sound : AreSound old) (definable : IsDefinable old q) (placed : IsPlaced old q s) where
  more : Extends old s
  more = extends_placed old s q placed

  -- ---- what is seen in mode One

  module _ (l : LoaderId) (p : List ℕ) (none : NoModule (HasOwn s l p)) where
    -- what a module of the layer sees is above the layer
    outside : (m : ModuleId) → q.mode ≡ One → SeesNew old s q l p m → (r : Read) → read_module s (next_layer old) r ≡ Some m → (r.config ≢ q.config) × (meant_above old q.parents r.config r.name ≡ Some m)
    outside m mode h r e = cases (read_cases old s q sound definable placed r m e)
      where
        cases : ((r.config ≡ q.config) × (named_in s (next_layer old) r.name ≡ Some m)) ⊎ ((r.config ≢ q.config) × (meant_above old q.parents r.config r.name ≡ Some m))
            → (r.config ≢ q.config) × (meant_above old q.parents r.config r.name ≡ Some m)
        cases (inr k) = k
        cases (inl (i, named)) =
            let new = named_new old s q sound definable placed r.name m h.target named h.is_target in
            let one : h.target.loader.0 ≡ h.by.loader.0 = one_loader old s q sound definable placed m h.target mode new ∙ sym (one_loader old s q sound definable placed h.reader h.by mode h.new) in
            absurd (none m (h.target, h.is_target, same_loader h.target.loader h.by.loader one ∙ h.loader, new_exported old s q sound definable placed m h.target (declaration_of h.by).name p new h.exported))

    takes : (m : ModuleId) → q.mode ≡ One → (h : SeesNew old s q l p m) → Takes old q p h.target × (member_of old m ≡ Some h.target)
    takes m mode h =
        let r = new_read old s q sound definable placed h.reader m h.by h.new h.is_reader h.read in
        let out = outside m mode h r.0 r.4 in
        let was : member_of old m ≡ Some h.target = meant_old old s q sound definable placed r.0 m h.target out.1 h.is_target in
        let name : (declaration_of h.by).name ≡ name_of h.new.observed = ap (λ (z : Member). (declaration_of z).name) h.new.is in (
          (
            h.new.observed,
            r.0,
            m,
            at_place (asked_modules old q) h.new.place h.new.observed h.new.there,
            r.1,
            r.2 ∙ name,
            out.0,
            out.1,
            was,
            subst (λ (n : List ℕ). Contains (exported_to (declaration_of h.target) n) p) name h.exported,
          ),
          was,
        )

    -- none of the layer's modules has the package
    unheld : (m : ModuleId) → q.mode ≡ One → SeesNew old s q l p m → (o : Observed) → Contains (asked_modules old q) o → Holds o p → ⊥
    unheld m mode h o c held =
        let at = place_of (asked_modules old q) o c in
        let k : ModuleId = record { 0 = length old.modules + at.0 + 1 } in
        let x : Member = with_loader (next_layer old) (next_loader old + loader_place q.mode at.0) o in
        let first : loader_place q.mode at.0 ≡ 0 = ap (λ (z : Mode). loader_place z at.0) mode in
        let is : h.by.loader.0 ≡ next_loader old = one_loader old s q sound definable placed h.reader h.by mode h.new in
        let same : x.loader.0 ≡ h.by.loader.0 = omega arith in
        none k (x, new_member old s q placed k at.0 o refl at.1, same_loader x.loader h.by.loader same ∙ h.loader, held)

    seen_of_one : (m n : ModuleId) → q.mode ≡ One → SeesNew old s q l p m → SeesNew old s q l p n → m ≡ n
    seen_of_one m n mode h k =
        let t = takes m mode h in
        let u = takes n mode k in
        ⊎_elim
        (λ e.
        (sound.apart h.target.loader p).own m n (h.target, t.1, refl, has_exported old m h.target (declaration_of h.by).name p sound t.1 h.exported)
        (k.target, u.1, same_loader k.target.loader h.target.loader (sym e), has_exported old n k.target (declaration_of k.by).name p sound u.1 k.exported))
        (λ ne.
        absurd
        (definable.joint p (declaration_of h.target).name (declaration_of k.target).name
        (mode, h.target, k.target, t.0, u.0, (λ e. ne (ap (λ (z : LoaderId). z.0) e)), refl, refl, unheld m mode h)))
        (cases_eq h.target.loader.0 k.target.loader.0)

  -- ---- what is seen in mode Many

  module _ (l : LoaderId) (p : List ℕ) (none : NoModule (HasOwn s l p)) (front : List Configuration) (before : IsFront front old.configurations) (keepable : IsKeepable front (asked_configuration old q)) where
    -- a reader does not see a package of its own
    not_own : (m : ModuleId) (h : SeesNew old s q l p m) (r : Read) → Contains (asked_configuration old q).reads r → r.reader ≡ (declaration_of h.by).name → named_in s (next_layer old) r.reader ≡ Some h.reader → read_module s (next_layer old) r ≡ Some m → r.name ≢ (declaration_of h.by).name
    not_own m h r c is named e same = cases (read_cases old s q sound definable placed r m e)
      where
        here : r.config ≡ q.config
        here = keepable.own_name r c (same ∙ sym is) ∙ kept_id old.configurations q.config sound.kept definable.known

        cases : ((r.config ≡ q.config) × (named_in s (next_layer old) r.name ≡ Some m)) ⊎ ((r.config ≢ q.config) × (meant_above old q.parents r.config r.name ≡ Some m)) → ⊥
        cases (inr (ne, meant)) = ne here
        cases (inl (i, found)) =
            let itself : m ≡ h.reader = same_Some m h.reader (sym found ∙ ap (named_in s (next_layer old)) (same ∙ sym is) ∙ named) in
            let one : h.target ≡ h.by = same_Some h.target h.by (sym h.is_target ∙ ap (member_of s) itself ∙ h.is_reader) in
            none m (h.target, h.is_target, ap (λ (z : Member). z.loader) one ∙ h.loader, new_exported old s q sound definable placed m h.target (declaration_of h.by).name p (named_new old s q sound definable placed r.name m h.target found h.is_target) h.exported)

    low : (c : ConfigId) → Contains (asked_configuration old q).parents c → c.0 ≤ length front
    low c there = All-contains (λ (d : ConfigId). d.0 ≤ length front) (asked_configuration old q).parents c keepable.parents there

    gets : (m : ModuleId) (h : SeesNew old s q l p m) (r : Read) → Contains (asked_configuration old q).reads r → r.reader ≡ (declaration_of h.by).name → read_module s (next_layer old) r ≡ Some m → Gets front (asked_configuration old q) (declaration_of h.by).name r p
    gets m h r c is e = gets_front old.configurations front sound.kept before (asked_configuration old q) low (declaration_of h.by).name p r (c, is, h.target.observed, target_read old s q sound definable placed r m h.target e h.is_target, h.exported)

    seen_kept : (m n : ModuleId) → q.mode ≡ Many → SeesNew old s q l p m → SeesNew old s q l p n → m ≡ n
    seen_kept m n mode h k =
        let r = new_read old s q sound definable placed h.reader m h.by h.new h.is_reader h.read in
        let t = new_read old s q sound definable placed k.reader n k.by k.new k.is_reader k.read in
        let one : h.reader ≡ k.reader = from_place old s q sound definable placed h.reader k.reader h.by k.by h.new k.new (many_place old s q sound definable placed h.reader k.reader h.by k.by h.new k.new mode (h.loader ∙ sym k.loader)) in
        let by : k.by ≡ h.by = same_Some k.by h.by (sym k.is_reader ∙ ap (member_of s) (sym one) ∙ h.is_reader) in
        let named : (declaration_of k.by).name ≡ (declaration_of h.by).name = ap (λ (z : Member). (declaration_of z).name) by in
        let gk : Gets front (asked_configuration old q) (declaration_of h.by).name t.0 p = subst (λ (x : List ℕ). Gets front (asked_configuration old q) x t.0 p) named (gets n k t.0 t.1 t.2 t.4) in
        let name : r.0.name ≡ t.0.name =
        keepable.same_package (declaration_of h.by).name p r.0 t.0 (gets m h r.0 r.1 r.2 r.4) gk (not_own m h r.0 r.1 r.2 r.3 r.4)
        (λ e. not_own n k t.0 t.1 t.2 t.3 t.4 (e ∙ sym named)) in
        let config : r.0.config ≡ t.0.config = keepable.same_name r.0 t.0 r.1 t.1 (r.2 ∙ sym named ∙ sym t.2) name in
        let read : read_module s (next_layer old) r.0 ≡ read_module s (next_layer old) t.0 =
        ap₂ (λ (c : ConfigId) (x : List ℕ). if is_numbered c (layer_at s (next_layer old)).config then named_in s (next_layer old) x else meant_above s (layer_at s (next_layer old)).parents c x) config name in
        same_Some m n (sym r.4 ∙ read ∙ t.4)

  seen_of_many : (l : LoaderId) (p : List ℕ) (m n : ModuleId) → NoModule (HasOwn s l p) → q.mode ≡ Many → SeesNew old s q l p m → SeesNew old s q l p n → m ≡ n
  seen_of_many l p m n none mode h k = by q.config.0 refl
    where
      by : (c : ℕ) → q.config.0 ≡ c → m ≡ n
      by zero e =
          let r = new_read old s q sound definable placed h.reader m h.by h.new h.is_reader h.read in
          contains_nothing r.0 (subst (λ (g : Configuration). Contains g.reads r.0) (configuration_zero old.configurations q.config e) r.1)
      by (suc c) e =
          let g = kept_of old.configurations q.config sound.kept (omega arith) definable.known in
          seen_kept l p none g.0 g.1 g.2 m n mode h k

  -- ---- together

  seen_new : (l : LoaderId) (p : List ℕ) (m n : ModuleId) → NoModule (HasOwn s l p) → SeesNew old s q l p m → SeesNew old s q l p n → m ≡ n
  seen_new l p m n none h k = in_mode q.mode refl
    where
      in_mode : (mode : Mode) → q.mode ≡ mode → m ≡ n
      in_mode One e = seen_of_one l p none m n e h k
      in_mode Many e = seen_of_many l p m n none e h k

  seen_apart : (l : LoaderId) (p : List ℕ) (m n : ModuleId) → NoModule (HasOwn s l p) → Sees s l p m → Sees s l p n → m ≡ n
  seen_apart l p m n none (a, x, y, e, i, c, f, d) (b, w, z, g, j, k, h, o) = cases (member_cases old s q placed a x e) (member_cases old s q placed b w g)
    where
      cases : (member_of old a ≡ Some x) ⊎ IsNew old q a x → (member_of old b ≡ Some w) ⊎ IsNew old q b w → m ≡ n
      cases (inl u) (inl v) =
          (sound.apart l p).seen m n (none_down old s sound more l p none) (sees_down old s sound more l p a m x y u i c f d) (sees_down old s sound more l p b n w z v j k h o)
      cases (inl u) (inr v) = absurd (apart_loaders old s q sound definable placed a b x w l u v i j)
      cases (inr u) (inl v) = absurd (apart_loaders old s q sound definable placed b a w x l v u j i)
      cases (inr u) (inr v) =
          seen_new l p m n none
          (record { reader = a; by = x; target = y; new = u; is_reader = e; loader = i; read = c; is_target = f; exported = d })
          (record { reader = b; by = w; target = z; new = v; is_reader = g; loader = j; read = k; is_target = h; exported = o })

  pub apart_placed : (l : LoaderId) (p : List ℕ) → IsApart s l p
  apart_placed l p = record { own = own_apart old s q sound definable placed l p; seen = seen_apart l p }
