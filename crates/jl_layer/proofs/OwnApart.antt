-- No loader of a new layer has a package of two modules (`ModuleLayer.defineModules`).
use Rattle.std.proofs.Common.{◌≡◌, ◌⊎◌, ◌+◌, ℕ, List, Some, Bool, true, false, true≢false, inl, inr, refl, sym, ◌∙◌, ap, subst, arith}
use Rattle.std.specs.Prelude.{Contains}
use Rattle.std.specs.Cmp.Lexicographic.{bytes_decides}
use Rattle.jl_logic.specs.Order.{is_text}
use Rattle.jl_prim.specs.declared.numbers.ModuleId.{ModuleId}
use Rattle.jl_prim.specs.declared.numbers.LoaderId.{LoaderId}
use Rattle.jl_config.specs.Located.{name_of}
use Rattle.jl_layer.specs.declared.layer.Member.{Member}
use Rattle.jl_layer.specs.declared.layer.Mode.{Mode}
use Rattle.jl_layer.specs.declared.layer.Mode.TheVariants.{One, Many}
use Rattle.jl_layer.specs.Layers.{State, member_of, declaration_of}
use Rattle.jl_layer.specs.Leads.{HasOwn}
use Rattle.jl_layer.specs.Defining.{Asked, asked_modules, next_loader}
use Rattle.jl_layer.specs.Sound.{AreSound}
use Rattle.jl_layer.proofs.Listed.{at_place}
use Rattle.jl_layer.proofs.KeptBehind.{one_place, rise_of}
use Rattle.jl_layer.proofs.Added.{IsPlaced, IsNew, same_module, loader_place, member_cases}
use Rattle.jl_layer.proofs.Definable.{IsDefinable}
use Rattle.jl_layer.proofs.StillSound.{loader_there}

module _ (old s : State) (q : Asked) (sound : AreSound old) (definable : IsDefinable old q) (placed : IsPlaced old q s) where
  -- old modules and new ones have no loader in common
  pub apart_loaders : (m n : ModuleId) (x y : Member) (l : LoaderId) → member_of old m ≡ Some x → IsNew old q n y → x.loader ≡ l → y.loader ≡ l → ⊥
  apart_loaders m n x y l e new i j =
      let there = loader_there old m x sound e in
      let high : y.loader.0 ≡ next_loader old + loader_place q.mode new.place = ap (λ (z : Member). z.loader.0) new.is in
      let same : x.loader.0 ≡ y.loader.0 = ap (λ (k : LoaderId). k.0) (i ∙ sym j) in
      omega (arith, there.1)

  pub from_place : (m n : ModuleId) (x y : Member) (a : IsNew old q m x) (b : IsNew old q n y) → a.place ≡ b.place → m ≡ n
  from_place m n x y a b e = same_module m n (omega (arith, a.number, b.number))

  -- in mode One each has the next loader
  pub one_loader : (m : ModuleId) (x : Member) → q.mode ≡ One → IsNew old q m x → x.loader.0 ≡ next_loader old
  one_loader m x mode new =
      let is : x.loader.0 ≡ next_loader old + loader_place q.mode new.place = ap (λ (z : Member). z.loader.0) new.is in
      let first : loader_place q.mode new.place ≡ 0 = ap (λ (k : Mode). loader_place k new.place) mode in
      omega arith

  -- in mode Many no two have one loader
  pub many_place : (m n : ModuleId) (x y : Member) (a : IsNew old q m x) (b : IsNew old q n y) → q.mode ≡ Many → x.loader ≡ y.loader → a.place ≡ b.place
  many_place m n x y a b mode same =
      let i : x.loader.0 ≡ next_loader old + loader_place q.mode a.place = ap (λ (z : Member). z.loader.0) a.is in
      let j : y.loader.0 ≡ next_loader old + loader_place q.mode b.place = ap (λ (z : Member). z.loader.0) b.is in
      let u : loader_place q.mode a.place ≡ a.place = ap (λ (k : Mode). loader_place k a.place) mode in
      let v : loader_place q.mode b.place ≡ b.place = ap (λ (k : Mode). loader_place k b.place) mode in
      let w : x.loader.0 ≡ y.loader.0 = ap (λ (k : LoaderId). k.0) same in
      omega arith

  -- ---- packages of its own

  own_of_one : (p : List ℕ) (m n : ModuleId) (x y : Member) (a : IsNew old q m x) (b : IsNew old q n y) → q.mode ≡ One → Contains (declaration_of x).packages p → Contains (declaration_of y).packages p → m ≡ n
  own_of_one p m n x y a b mode c d = named (is_text (name_of a.observed) (name_of b.observed)) refl
    where
      named : (t : Bool) → is_text (name_of a.observed) (name_of b.observed) ≡ t → m ≡ n
      named true e =
          from_place m n x y a b
          (one_place (asked_modules old q) a.place b.place a.observed b.observed (rise_of old.configurations q.config sound.rise definable.known) a.there b.there ((bytes_decides (name_of a.observed) (name_of b.observed)).0 e))
      named false e =
          absurd
          (definable.whole p (name_of a.observed) (name_of b.observed) (
            mode,
            a.observed,
            b.observed,
            at_place (asked_modules old q) a.place a.observed a.there,
            at_place (asked_modules old q) b.place b.observed b.there,
            refl,
            refl,
            (λ f. true≢false (sym ((bytes_decides (name_of a.observed) (name_of b.observed)).1 f) ∙ e)),
            subst (λ (z : Member). Contains (declaration_of z).packages p) a.is c,
            subst (λ (z : Member). Contains (declaration_of z).packages p) b.is d,
          ))

  own_of_new : (p : List ℕ) (m n : ModuleId) (x y : Member) → IsNew old q m x → IsNew old q n y → x.loader ≡ y.loader → Contains (declaration_of x).packages p → Contains (declaration_of y).packages p → m ≡ n
  own_of_new p m n x y a b same c d = in_mode q.mode refl
    where
      in_mode : (mode : Mode) → q.mode ≡ mode → m ≡ n
      in_mode One e = own_of_one p m n x y a b e c d
      in_mode Many e = from_place m n x y a b (many_place m n x y a b e same)

  pub own_apart : (l : LoaderId) (p : List ℕ) (m n : ModuleId) → HasOwn s l p m → HasOwn s l p n → m ≡ n
  own_apart l p m n (x, e, i, c) (y, f, j, d) = cases (member_cases old s q placed m x e) (member_cases old s q placed n y f)
    where
      cases : (member_of old m ≡ Some x) ⊎ IsNew old q m x → (member_of old n ≡ Some y) ⊎ IsNew old q n y → m ≡ n
      cases (inl k) (inl h) = (sound.apart l p).own m n (x, k, i, c) (y, h, j, d)
      cases (inl k) (inr b) = absurd (apart_loaders m n x y l k b i j)
      cases (inr a) (inl h) = absurd (apart_loaders n m y x l h a j i)
      cases (inr a) (inr b) = own_of_new p m n x y a b (i ∙ sym j) c d
