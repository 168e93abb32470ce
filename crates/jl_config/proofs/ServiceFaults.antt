-- Services whose packages a module does not see.
use Rattle.std.proofs.Common.{◌≡◌, ◌≢◌, ◌⊎◌, ◌↔◌, ℕ, List, [], length, slice_get, inl, inr, ⊎_elim, refl, sym, ◌∙◌, ap, subst, Contains, Option, Some, false, IsTrue, Result, Ordering, Less}
use Rattle.std.specs.Option.{option_map}
use Rattle.std.specs.Result.{is_ok}
use Rattle.std.specs.Ordering.{ordering_then}
use Rattle.std.specs.List.Sorted.{IsBinarySearchResult, IsSearchInRange}
use Rattle.std.proofs.lemmas.Bool.{eqb-false, cases_Bool}
use Rattle.jl_logic.specs.Order.{name_cmp, is_text, RisesBy}
use Rattle.jl_logic.proofs.Rising.{contains_nothing}
use Rattle.jl_prim.specs.declared.numbers.ConfigId.{ConfigId}
use Rattle.jl_names.specs.Names.{package_of}
use Rattle.jl_config.specs.declared.fault.ResolveFault.{ResolveFault}
use Rattle.jl_config.specs.declared.fault.ResolveFault.TheVariants.{SameName, ServicePackage}
use Rattle.jl_config.specs.declared.imports.Exported.{Exported}
use Rattle.jl_config.specs.declared.imports.Imports.{Imports}
use Rattle.jl_config.specs.declared.services.UnseenService.{UnseenService}
use Rattle.jl_config.specs.declared.candidate.Candidate.{Candidate}
use Rattle.jl_config.specs.Located.{Scene, candidate_name, is_numbered}
use Rattle.jl_config.specs.Members.{Reads, Uses, IsProvidedBy}
use Rattle.jl_config.specs.Places.{IsLeastSome, SameNameFault, ServiceFault}
use Rattle.jl_config.specs.Refusals.{Exports, Sees, IsServicePackage, fault_cmp}
use Rattle.jl_config.specs.Collected.{Adds, Among, AreSorted}
use Rattle.jl_config.specs.Imported.{exported_cmp, IsImportOf, AreImports, IsImported, IsOwnExport, AreOwn, IsSeen, IsUnseen, IsUnseenProvided, IsUnseenIn, service_fault}
use Rattle.jl_config.proofs.Names.{text_is, text_differs}
use Rattle.jl_config.proofs.NameSearch.{key_searched}
use Rattle.jl_config.proofs.Lists.{same_item}
use Rattle.jl_config.proofs.Collects.{then_equal, least_fault, fault_not_less}
use Rattle.jl_config.proofs.Finds.{same_number}

-- ---- a search by package

pub searched_right : (p : List ℕ) (es : List Exported) (r : Result ℕ ℕ) → RisesBy exported_cmp es → IsSearchInRange r (length es) → IsBinarySearchResult (λ (e : Exported). name_cmp e.«package» p) es r → IsTrue (is_ok r) ↔ IsImported es p
searched_right p es r up range h = key_searched exported_cmp (λ (e : Exported). e.«package») (λ (d e : Exported). name_cmp d.exporter e.exporter) (λ d e. refl) p es r up range h

-- ---- what a module has and exports to itself

pub own_right : (s : Candidate) (first whole sorted : List (List ℕ)) → first ≡ s.observed.declaration.packages → Adds first whole (Among (IsOwnExport s) s.observed.declaration.exports) → AreSorted whole sorted → AreOwn s sorted
own_right s first whole sorted e adds order = record {
  rise = order.rise;
  only = λ p c. ⊎_elim (λ k. inl (subst (λ l. Contains l p) e k)) (λ h. let q = h.2 in inr (h.0, h.1, q.0, q.1)) (adds.only p (order.only p c));
  all = λ p h. order.all p (⊎_elim (λ k. adds.keeps p (subst (λ l. Contains l p) (sym e) k)) (λ g. adds.all p (g.0, g.1, (g.2, g.3))) h);
}

module _ (s : Candidate) (own : List (List ℕ)) (es : List Exported) (right : AreOwn s own) where
  pub seen_in : (p : List ℕ) → Contains own p ⊎ IsImported es p → IsSeen s es p
  seen_in p h = ⊎_elim (λ c. ⊎_elim inl (λ g. inr (inl g)) (right.only p c)) (λ i. inr (inr i)) h

  pub in_seen : (p : List ℕ) → IsSeen s es p → Contains own p ⊎ IsImported es p
  in_seen p h = ⊎_elim (λ k. inl (right.all p (inl k))) (λ g. ⊎_elim (λ x. inl (right.all p (inr x))) inr g) h

-- ---- what a reader does not see

module _ (w : Scene) (m : Imports) (s : Candidate) (at : slice_get w.candidates m.reader ≡ Some s) where
  pub used_in : (c : UnseenService) → Among (IsUnseen s m.exported) s.observed.declaration.uses c → IsUnseenIn w m c
  used_in c h =
      let same : h.0 ≡ c.service = ap (λ (x : UnseenService). x.service) (sym h.2.1) in
      (s, at, inl (subst (Contains s.observed.declaration.uses) same h.1), subst (λ n. IsUnseen s m.exported n c) same h.2)

  pub provided_in : (c : UnseenService) → Among (IsUnseenProvided s m.exported) s.observed.declaration.provides c → IsUnseenIn w m c
  provided_in c h =
      let same : h.0.service ≡ c.service = ap (λ (x : UnseenService). x.service) (sym h.2.1) in
      (s, at, inr (h.0, h.1, same), subst (λ n. IsUnseen s m.exported n c) same h.2)

  pub unseen_from : (c : UnseenService) → IsUnseenIn w m c → Among (IsUnseen s m.exported) s.observed.declaration.uses c ⊎ Among (IsUnseenProvided s m.exported) s.observed.declaration.provides c
  unseen_from c h =
      let f : h.0 ≡ s = same_item h.0 s (slice_get w.candidates m.reader) h.1 at in
      let u : IsUnseen s m.exported c.service c = subst (λ v. IsUnseen v m.exported c.service c) f h.3 in
      ⊎_elim
      (λ k. inl (c.service, subst (λ (v : Candidate). Uses v c.service) f k, u))
      (λ k. let p : IsProvidedBy s c.service = subst (λ (v : Candidate). IsProvidedBy v c.service) f k in inr (p.0, p.1, subst (λ n. IsUnseen s m.exported n c) (sym p.2) u))
      h.2

module _ (w : Scene) (apart : (f : ResolveFault) → SameNameFault w f → ⊥) (m : Imports) (a : Candidate) (h : IsImportOf w m a) where
  -- one of the reader's name that it reads is the reader
  own_only : (b : Candidate) → Reads w a b → candidate_name b ≡ candidate_name a → b ≡ a
  own_only b read named = ⊎_elim
      (λ t. h.own b read named (same_number b.config a.config t))
      (λ f. absurd (apart (SameName (candidate_name a) (candidate_name a)) (a, a, b, h.member, refl, inl refl, read, refl, named, λ e. number_differs a.config b.config f e)))
      (cases_Bool (is_numbered b.config a.config))
    where
      number_differs : (x y : ConfigId) → is_numbered y x ≡ false → x ≡ y → ⊥
      number_differs x y f e = eqb-false y.0 x.0 f (ap (λ (z : ConfigId). z.0) (sym e))

  seen_by : (p : List ℕ) → Sees w a p → IsSeen a m.exported p
  seen_by p s = ⊎_elim inl (λ g.
      let b : Candidate = g.0 in
      ⊎_elim
      (λ t.
      let same : b ≡ a = own_only b g.1.1 (text_is (candidate_name b) (candidate_name a) t) in
      inr (inl (subst (λ (v : Candidate). Exports v p (candidate_name a)) same g.1.2)))
      (λ f. inr (inr (record { «package» = p; exporter = candidate_name b }, h.all b p g.1.1 g.1.2 (text_differs (candidate_name b) (candidate_name a) f), refl)))
      (cases_Bool (is_text (candidate_name b) (candidate_name a)))) s

  sees_by : (p : List ℕ) → IsSeen a m.exported p → Sees w a p
  sees_by p s = ⊎_elim inl (λ g. ⊎_elim
      (λ own. inr (a, (h.member, inl refl, own)))
      (λ i. let b = h.only i.0 i.1 in inr (b.0, (h.member, b.1, subst (λ q. Exports b.0 q (candidate_name a)) i.2 b.2.0)))
      g) s

  pub unseen_sound : (c : UnseenService) → IsUnseenIn w m c → IsServicePackage w (c.«module», c.service)
  unseen_sound c u =
      let f : u.0 ≡ a = same_item u.0 a (slice_get w.candidates m.reader) u.1 h.here in
      let k : IsUnseen a m.exported c.service c = subst (λ v. IsUnseen v m.exported c.service c) f u.3 in
      let named : candidate_name a ≡ c.«module» = ap (λ (x : UnseenService). x.«module») (sym k.1) in
      (a, h.member, named, subst (λ (v : Candidate). Uses v c.service ⊎ IsProvidedBy v c.service) f u.2, λ s. k.0 (seen_by (package_of c.service) s))

  pub unseen_has : (name service : List ℕ) → candidate_name a ≡ name → Uses a service ⊎ IsProvidedBy a service → (Sees w a (package_of service) → ⊥) → IsUnseenIn w m (record { «module» = name; service = service })
  unseen_has name service named u never = (a, h.here, u, (λ s. never (sees_by (package_of service) s), λ i. record { «module» = sym named i; service = service }))

pub least_unseen : (w : Scene) → ((f : ResolveFault) → SameNameFault w f → ⊥) → (ms : List Imports) (found : List UnseenService) (cmp : UnseenService → UnseenService → Ordering) (o : Option UnseenService) → AreImports w ms
    → Adds [] found (Among (IsUnseenIn w) ms) → IsLeastSome cmp (Contains found) o → ((x y : UnseenService) → cmp x y ≡ ordering_then (name_cmp x.«module» y.«module») (name_cmp x.service y.service))
    → IsLeastSome fault_cmp (ServiceFault w) (option_map service_fault o)
least_unseen w apart ms found cmp o right adds least order =
    least_fault cmp service_fault (ServiceFault w) found o least
    (λ x y. ap (λ z. ordering_then (name_cmp x.«module» y.«module») z) (then_equal (name_cmp x.service y.service)) ∙ sym (order x y))
    (λ x c. ⊎_elim (λ n. contains_nothing x n) (λ h. let m = right.only h.0 h.1 in unseen_sound w apart h.0 m.0 m.1 x h.2) (adds.only x c))
    complete
  where
    complete : (g : ResolveFault) → ServiceFault w g → (x : UnseenService) × Contains found x × (fault_cmp g (service_fault x) ≢ Less)
    complete (ServicePackage name service) s =
        let x : UnseenService = record { «module» = name; service = service } in
        let m = right.all s.0 s.1 in
        (x, adds.all x (m.0, m.1, unseen_has w apart m.0 s.0 m.2 name service s.2 s.3 s.4), fault_not_less (ServicePackage name service) (ServicePackage name service) refl)
    complete g p = absurd p
