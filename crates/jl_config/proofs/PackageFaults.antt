-- Packages that a module would have twice, from what it gets.
use Rattle.std.proofs.Common.{◌≡◌, ◌≢◌, ◌<◌, ◌+◌, ◌-◌, ℕ, List, [], length, get_or, slice_get, ⊎_elim, refl, sym, ◌∙◌, ap, subst, Contains, Option, Some, Ordering, Less, Equal, Greater, arith}
use Rattle.std.specs.Option.{option_map}
use Rattle.std.specs.Ordering.{ordering_then, ordering_reverse}
use Rattle.std.specs.Cmp.Lexicographic.{nat_list_cmp_total}
use Rattle.std.proofs.lemmas.Bool.{cases_lt}
use Rattle.std.proofs.lemmas.Cmp.{tied_itself}
use Rattle.std.proofs.lemmas.Option.{slice_get_within, slice_get-get_or, get_or_from_slice_get}
use Rattle.jl_logic.specs.Order.{name_cmp}
use Rattle.jl_logic.proofs.Rising.{contains_nothing, apart_from_total}
use Rattle.jl_config.specs.declared.fault.ResolveFault.{ResolveFault}
use Rattle.jl_config.specs.declared.fault.ResolveFault.TheVariants.{SamePackage, OwnPackage}
use Rattle.jl_config.specs.declared.imports.Exported.{Exported}
use Rattle.jl_config.specs.declared.imports.Imports.{Imports}
use Rattle.jl_config.specs.declared.packages.SharedPackage.{SharedPackage}
use Rattle.jl_config.specs.declared.packages.OwnedPackage.{OwnedPackage}
use Rattle.jl_config.specs.declared.candidate.Candidate.{Candidate}
use Rattle.jl_config.specs.Located.{Scene, candidate_name}
use Rattle.jl_config.specs.Places.{IsLeastSome, SamePackageFault, OwnPackageFault}
use Rattle.jl_config.specs.Refusals.{Holds, Exports, IsSamePackage, IsOwnPackage, fault_cmp}
use Rattle.jl_config.specs.ReadRows.{option_name, name_at}
use Rattle.jl_config.specs.Collected.{Adds, Among}
use Rattle.jl_config.specs.Imported.{exported_cmp, IsImportOf, AreImports, IsImport, IsPackageSharedAt, IsPackageShared, IsOwned, IsOwnedIn, same_package_fault, own_package_fault}
use Rattle.jl_config.proofs.Lists.{contains_at, same_item, item_at}
use Rattle.jl_config.proofs.SameNames.{rising_at, twin_after}
use Rattle.jl_config.proofs.Collects.{then_equal, least_fault, fault_not_less}

pub shared_later : (w : Scene) (m : Imports) (i : ℕ) (c : SharedPackage) → IsPackageSharedAt w m i c → 0 < i
shared_later w m i c h = h.2

pub shared_within : (w : Scene) (m : Imports) (i : ℕ) (c : SharedPackage) → IsPackageSharedAt w m i c → i < length m.exported
shared_within w m i c h = slice_get_within m.exported i h.1 h.4

named_reader : (w : Scene) (m : Imports) (a : Candidate) → IsImportOf w m a → name_at w m.reader ≡ candidate_name a
named_reader w m a h = ap option_name h.here

-- two that rise, by their places
exports_rise : (w : Scene) (m : Imports) (a : Candidate) (i j : ℕ) (d e : Exported) → IsImportOf w m a → i < j → slice_get m.exported i ≡ Some d → slice_get m.exported j ≡ Some e → exported_cmp d e ≡ Less
exports_rise w m a i j d e h lt at be =
    let l : exported_cmp (get_or m.exported i d) (get_or m.exported j d) ≡ Less = rising_at exported_cmp m.exported h.rise i j d lt (slice_get_within m.exported j e be) in
    rw (get_or_from_slice_get m.exported i d d at, get_or_from_slice_get m.exported j e d be) at l

-- exports of one package have two exporters
exporters_rise : (d e : Exported) → d.«package» ≡ e.«package» → exported_cmp d e ≡ Less → name_cmp d.exporter e.exporter ≡ Less
exporters_rise d e same l =
    let tie : name_cmp d.«package» e.«package» ≡ Equal = subst (λ n. name_cmp d.«package» n ≡ Equal) same (tied_itself nat_list_cmp_total d.«package») in
    let f : exported_cmp d e ≡ name_cmp d.exporter e.exporter = ap (λ o. ordering_then o (name_cmp d.exporter e.exporter)) tie in
    sym f ∙ l

less_apart : (a b : List ℕ) → name_cmp a b ≡ Less → a ≡ b → ⊥
less_apart a b l e =
    let f : name_cmp a a ≡ Less = subst (λ n. name_cmp a n ≡ Less) (sym e) l in
    apart_from_total name_cmp nat_list_cmp_total a a f f

pub shared_sound : (w : Scene) (m : Imports) (a : Candidate) (c : SharedPackage) → IsImportOf w m a → IsPackageShared w m c → IsSamePackage w (c.reader, c.«package», c.one, c.other)
shared_sound w m a c h s =
    let t = s.1 in
    let d : Exported = t.0 in
    let e : Exported = t.1 in
    let b = h.only d (contains_at m.exported (s.0 - 1) d t.3) in
    let k = h.only e (contains_at m.exported s.0 e t.4) in
    let later = t.2 in
    let rise : name_cmp d.exporter e.exporter ≡ Less = exporters_rise d e t.5 (exports_rise w m a (s.0 - 1) s.0 d e h (omega arith) t.3 t.4) in
    let reader : candidate_name a ≡ name_at w m.reader = sym (named_reader w m a h) in
    subst (λ (x : SharedPackage). IsSamePackage w (x.reader, x.«package», x.one, x.other)) (sym t.6) (
      a,
      b.0,
      k.0,
      reader,
      (h.member, b.1, subst (λ p. Exports b.0 p (candidate_name a)) t.5 b.2.0),
      (h.member, k.1, k.2.0),
      sym b.2.1,
      sym k.2.1,
      (λ f. b.3 (sym b.2.1 ∙ f ∙ sym reader)),
      (λ f. k.3 (sym k.2.1 ∙ f ∙ sym reader)),
      less_apart d.exporter e.exporter rise,
    )

-- ---- what a step of the search finds

module _ (w : Scene) (m : Imports) (i : ℕ) (d e : Exported) (later : 0 < i) (at : slice_get m.exported (i - 1) ≡ Some d) (be : slice_get m.exported i ≡ Some e) where
  pub not_shared : (d.«package» ≡ e.«package» → ⊥) → (c : SharedPackage) → IsPackageSharedAt w m i c → ⊥
  not_shared differ c h =
      let f : h.0 ≡ d = same_item h.0 d (slice_get m.exported (i - 1)) h.3 at in
      let g : h.1 ≡ e = same_item h.1 e (slice_get m.exported i) h.4 be in
      differ (ap (λ (x : Exported). x.«package») (sym f) ∙ h.5 ∙ ap (λ (x : Exported). x.«package») g)

  pub shared_here : d.«package» ≡ e.«package» → (c : SharedPackage) → c ≡ record { reader = name_at w m.reader; «package» = e.«package»; one = d.exporter; other = e.exporter } → IsPackageSharedAt w m i c
  shared_here same c is = (d, e, later, at, be, same, is)

  pub shared_only : (c : SharedPackage) → c ≡ record { reader = name_at w m.reader; «package» = e.«package»; one = d.exporter; other = e.exporter } → (x : SharedPackage) → IsPackageSharedAt w m i x → c ≡ x
  shared_only c is x h =
      let f : h.0 ≡ d = same_item h.0 d (slice_get m.exported (i - 1)) h.3 at in
      let g : h.1 ≡ e = same_item h.1 e (slice_get m.exported i) h.4 be in
      let k : x ≡ record { reader = name_at w m.reader; «package» = e.«package»; one = d.exporter; other = e.exporter } =
      h.6 ∙ (λ t. record { reader = name_at w m.reader; «package» = (g t).«package»; one = (f t).exporter; other = (g t).exporter }) in
      is ∙ sym k

abbrev pub whole : List ℕ → List ℕ → List ℕ → List ℕ → SharedPackage
whole r p o t = record { reader = r; «package» = p; one = o; other = t }

pub shared_record : (r p o t s q n u : List ℕ) → r ≡ s → p ≡ q → o ≡ n → t ≡ u → whole r p o t ≡ whole s q n u
shared_record r p o t s q n u a b c d = λ i. record { reader = a i; «package» = b i; one = c i; other = d i }

pub import_within : (w : Scene) (m : Imports) → IsImport w m → m.reader < length w.candidates
import_within w m h = slice_get_within w.candidates m.reader h.0 h.1.here

module _ (w : Scene) (m : Imports) (s : Candidate) (at : slice_get w.candidates m.reader ≡ Some s) where
  pub owned_in : (c : OwnedPackage) → Among (IsOwned s) m.exported c → IsOwnedIn w m c
  owned_in c h = (s, at, h.0, h.1, h.2)

  pub owned_from : (c : OwnedPackage) → IsOwnedIn w m c → Among (IsOwned s) m.exported c
  owned_from c h = let f : h.0 ≡ s = same_item h.0 s (slice_get w.candidates m.reader) h.1 at in (h.2, h.3, subst (λ v. IsOwned v h.2 c) f h.4)

-- ---- the least two

four : (r p o q t u : List ℕ) → fault_cmp (SamePackage r p o t) (SamePackage r p q u) ≡ ordering_then (name_cmp o q) (ordering_then (name_cmp t u) Equal)
four r p o q t u = rw (tied_itself nat_list_cmp_total r, tied_itself nat_list_cmp_total p) refl

greater_back : (a b : List ℕ) → name_cmp a b ≡ Less → name_cmp b a ≡ Greater
greater_back a b l = nat_list_cmp_total.antisymm b a ∙ ap ordering_reverse l

-- An export, and a later one of its package: with what follows the first they make no greater pair.
record Pair (w : Scene) (m : Imports) (reader p one other : List ℕ) : Type 0 where
  pub second : List ℕ
  pub is : IsPackageShared w m (record { reader = reader; «package» = p; one = one; other = second })
  pub least : name_cmp other second ≢ Less

pair_after : (w : Scene) (m : Imports) (a : Candidate) (i j : ℕ) (d e : Exported) → IsImportOf w m a → i < j → slice_get m.exported i ≡ Some d → slice_get m.exported j ≡ Some e → d.«package» ≡ e.«package»
    → Pair w m (candidate_name a) e.«package» d.exporter e.exporter
pair_after w m a i j d e h lt at be same =
    let within : j < length m.exported = slice_get_within m.exported j e be in
    let next = item_at m.exported (i + 1) (omega arith) in
    let y : Exported = next.0 in
    let key : d.«package» ≡ y.«package» =
    let k : (get_or m.exported i d).«package» ≡ (get_or m.exported (i + 1) d).«package» = twin_after (λ (x : Exported). x.«package») (λ x z. name_cmp x.exporter z.exporter) m.exported h.rise i j d lt within (rw (get_or_from_slice_get m.exported i d d at, get_or_from_slice_get m.exported j e d be) same) in
    rw (get_or_from_slice_get m.exported i d d at, get_or_from_slice_get m.exported (i + 1) y d next.1) at k in
    let n : i + 1 - 1 ≡ i = omega arith in
    record {
      second = y.exporter;
      is = (
        i + 1,
        (
          d,
          y,
          omega arith,
          subst (λ q. slice_get m.exported q ≡ Some d) (sym n) at,
          next.1,
          key,
          λ t. record { reader = sym (named_reader w m a h) t; «package» = (sym same ∙ key) t; one = d.exporter; other = y.exporter },
        ),
      );
      least = ⊎_elim
          (λ far l.
          let f : name_cmp y.exporter e.exporter ≡ Less = exporters_rise y e (sym key ∙ same) (exports_rise w m a (i + 1) j y e h far next.1 be) in
          apart_from_total name_cmp nat_list_cmp_total e.exporter y.exporter l f)
          (λ near l.
          let q : i + 1 ≡ j = omega (arith, near, lt) in
          let f : y ≡ e = same_item y e (slice_get m.exported j) (subst (λ k. slice_get m.exported k ≡ Some y) q next.1) be in
          less_apart e.exporter y.exporter l (ap (λ (x : Exported). x.exporter) (sym f)))
          (cases_lt (i + 1) j);
    }

at_index : (es : List Exported) (e : Exported) → (c : Contains es e) → slice_get es c.0 ≡ Some e
at_index es e c = slice_get-get_or es c.0 e c.1 ∙ ap Some c.2

not_greater : (o : Ordering) → o ≢ Less → ordering_then o Equal ≢ Less
not_greater Less n e = n refl
not_greater Equal n e = absurd cc
not_greater Greater n e = absurd cc

pub shared_complete : (w : Scene) (ms : List Imports) (reader p one other : List ℕ) → AreImports w ms → IsSamePackage w (reader, p, one, other)
    → (x : SharedPackage) × Among (IsPackageShared w) ms x × (fault_cmp (SamePackage reader p one other) (same_package_fault x) ≢ Less)
shared_complete w ms reader p one other right s =
    let a : Candidate = s.0 in
    let b : Candidate = s.1 in
    let c : Candidate = s.2 in
    let m = right.all a s.4.0 in
    let d : Exported = record { «package» = p; exporter = candidate_name b } in
    let e : Exported = record { «package» = p; exporter = candidate_name c } in
    let i = m.2.all b p s.4.1 s.4.2 (λ f. s.8 (sym s.6 ∙ f ∙ s.3)) in
    let j = m.2.all c p s.5.1 s.5.2 (λ f. s.9 (sym s.7 ∙ f ∙ s.3)) in
    let at = at_index m.0.exported d i in
    let be = at_index m.0.exported e j in
    ⊎_elim
    (λ lt.
    let pair = pair_after w m.0 a i.0 j.0 d e m.2 lt at be refl in (
      record { reader = candidate_name a; «package» = p; one = candidate_name b; other = pair.second },
      (m.0, m.1, pair.is),
      first_pair reader p one other (candidate_name a) (candidate_name b) (candidate_name c) pair.second s.3 s.6 s.7 pair.least,
    ))
    (λ le. ⊎_elim
    (λ gt.
    let pair = pair_after w m.0 a j.0 i.0 e d m.2 gt be at refl in
    let less : name_cmp (candidate_name c) (candidate_name b) ≡ Less = exporters_rise e d refl (exports_rise w m.0 a j.0 i.0 e d m.2 gt be at) in (
      record { reader = candidate_name a; «package» = p; one = candidate_name c; other = pair.second },
      (m.0, m.1, pair.is),
      second_pair reader p one other (candidate_name a) (candidate_name b) (candidate_name c) pair.second s.3 s.6 less,
    ))
    (λ ge.
    let f : i.0 ≡ j.0 = omega (arith, le, ge) in
    let g : d ≡ e = same_item d e (slice_get m.0.exported j.0) (subst (λ k. slice_get m.0.exported k ≡ Some d) f at) be in
    absurd (s.10 (sym s.6 ∙ ap (λ (x : Exported). x.exporter) g ∙ s.7)))
    (cases_lt j.0 i.0))
    (cases_lt i.0 j.0)
  where
    first_pair : (r p o t ar bn cn u : List ℕ) → ar ≡ r → bn ≡ o → cn ≡ t → name_cmp cn u ≢ Less → fault_cmp (SamePackage r p o t) (SamePackage ar p bn u) ≢ Less
    first_pair r p o t ar bn cn u e f g n l =
        let h : fault_cmp (SamePackage ar p bn cn) (SamePackage ar p bn u) ≡ Less =
        subst (λ x. fault_cmp (SamePackage x p bn cn) (SamePackage ar p bn u) ≡ Less) (sym e)
        (subst (λ x. fault_cmp (SamePackage r p x cn) (SamePackage ar p bn u) ≡ Less) (sym f)
        (subst (λ x. fault_cmp (SamePackage r p o x) (SamePackage ar p bn u) ≡ Less) (sym g) l)) in
        let k : ordering_then (name_cmp bn bn) (ordering_then (name_cmp cn u) Equal) ≡ Less = sym (four ar p bn bn cn u) ∙ h in
        let z : ordering_then (name_cmp cn u) Equal ≡ Less = rw (tied_itself nat_list_cmp_total bn) at k in
        not_greater (name_cmp cn u) n z

    second_pair : (r p o t ar bn cn u : List ℕ) → ar ≡ r → bn ≡ o → name_cmp cn bn ≡ Less → fault_cmp (SamePackage r p o t) (SamePackage ar p cn u) ≢ Less
    second_pair r p o t ar bn cn u e f n l =
        let h : fault_cmp (SamePackage ar p bn t) (SamePackage ar p cn u) ≡ Less =
        subst (λ x. fault_cmp (SamePackage x p bn t) (SamePackage ar p cn u) ≡ Less) (sym e)
        (subst (λ x. fault_cmp (SamePackage r p x t) (SamePackage ar p cn u) ≡ Less) (sym f) l) in
        let k : ordering_then (name_cmp bn cn) (ordering_then (name_cmp t u) Equal) ≡ Less = sym (four ar p bn cn t u) ∙ h in
        let z : ordering_then Greater (ordering_then (name_cmp t u) Equal) ≡ Less = rw (greater_back cn bn n) at k in
        absurd cc

pub least_shared : (w : Scene) (ms : List Imports) (found : List SharedPackage) (cmp : SharedPackage → SharedPackage → Ordering) (o : Option SharedPackage) → AreImports w ms → Adds [] found (Among (IsPackageShared w) ms)
    → IsLeastSome cmp (Contains found) o
    → ((x y : SharedPackage) → cmp x y ≡ ordering_then (name_cmp x.reader y.reader) (ordering_then (name_cmp x.«package» y.«package») (ordering_then (name_cmp x.one y.one) (name_cmp x.other y.other))))
    → IsLeastSome fault_cmp (SamePackageFault w) (option_map same_package_fault o)
least_shared w ms found cmp o right adds least order =
    least_fault cmp same_package_fault (SamePackageFault w) found o least
    (λ x y. ap (λ z. ordering_then (name_cmp x.reader y.reader) (ordering_then (name_cmp x.«package» y.«package») (ordering_then (name_cmp x.one y.one) z))) (then_equal (name_cmp x.other y.other)) ∙ sym (order x y))
    (λ x c. ⊎_elim (λ n. contains_nothing x n) (λ h. let m = right.only h.0 h.1 in shared_sound w h.0 m.0 x m.1 h.2) (adds.only x c))
    complete
  where
    complete : (g : ResolveFault) → SamePackageFault w g → (x : SharedPackage) × Contains found x × (fault_cmp g (same_package_fault x) ≢ Less)
    complete (SamePackage reader p one other) s = let x = shared_complete w ms reader p one other right s in (x.0, adds.all x.0 x.1, x.2)
    complete g p = absurd p

-- ---- packages that the reader has

pub owned_sound : (w : Scene) (m : Imports) (a : Candidate) (c : OwnedPackage) → IsImportOf w m a → IsOwnedIn w m c → IsOwnPackage w (c.reader, c.«package», c.other)
owned_sound w m a c h s =
    let e : Exported = s.2 in
    let b = h.only e s.3 in
    let o = s.4 in
    let same : s.0 ≡ a = same_item s.0 a (slice_get w.candidates m.reader) s.1 h.here in
    subst (λ (x : OwnedPackage). IsOwnPackage w (x.reader, x.«package», x.other)) (sym o.1)
    (a, b.0, ap candidate_name (sym same), subst (λ (v : Candidate). Holds v e.«package») same o.0, (h.member, b.1, b.2.0), sym b.2.1, λ f. b.3 (sym b.2.1 ∙ f ∙ ap candidate_name same))

pub owned_complete : (w : Scene) (ms : List Imports) (reader p other : List ℕ) → AreImports w ms → IsOwnPackage w (reader, p, other) → Among (IsOwnedIn w) ms (record { reader = reader; «package» = p; other = other })
owned_complete w ms reader p other right s =
    let a : Candidate = s.0 in
    let b : Candidate = s.1 in
    let m = right.all a s.4.0 in
    let e : Exported = record { «package» = p; exporter = candidate_name b } in
    (m.0, m.1, (a, m.2.here, e, m.2.all b p s.4.1 s.4.2 (λ f. s.6 (sym s.5 ∙ f ∙ s.2)), (s.3, λ i. record { reader = sym s.2 i; «package» = p; other = sym s.5 i })))

pub least_owned : (w : Scene) (ms : List Imports) (found : List OwnedPackage) (cmp : OwnedPackage → OwnedPackage → Ordering) (o : Option OwnedPackage) → AreImports w ms → Adds [] found (Among (IsOwnedIn w) ms)
    → IsLeastSome cmp (Contains found) o
    → ((x y : OwnedPackage) → cmp x y ≡ ordering_then (name_cmp x.reader y.reader) (ordering_then (name_cmp x.«package» y.«package») (name_cmp x.other y.other)))
    → IsLeastSome fault_cmp (OwnPackageFault w) (option_map own_package_fault o)
least_owned w ms found cmp o right adds least order =
    least_fault cmp own_package_fault (OwnPackageFault w) found o least
    (λ x y. ap (λ z. ordering_then (name_cmp x.reader y.reader) (ordering_then (name_cmp x.«package» y.«package») z)) (then_equal (name_cmp x.other y.other)) ∙ sym (order x y))
    (λ x c. ⊎_elim (λ n. contains_nothing x n) (λ h. let m = right.only h.0 h.1 in owned_sound w h.0 m.0 x m.1 h.2) (adds.only x c))
    complete
  where
    complete : (g : ResolveFault) → OwnPackageFault w g → (x : OwnedPackage) × Contains found x × (fault_cmp g (own_package_fault x) ≢ Less)
    complete (OwnPackage reader p other) s =
        let x : OwnedPackage = record { reader = reader; «package» = p; other = other } in
        (x, adds.all x (owned_complete w ms reader p other right s), fault_not_less (OwnPackage reader p other) (OwnPackage reader p other) refl)
    complete g p = absurd p
