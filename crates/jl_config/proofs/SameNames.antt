-- Modules of one name stand side by side in a reading.
use Rattle.std.proofs.Common.{◌≡◌, ◌≢◌, ◌<◌, ◌+◌, ◌-◌, ℕ, zero, suc, List, [], ◌∷◌, length, get_or, slice_get, ⊎_elim, refl, sym, ◌∙◌, ap, subst, Contains, Option, Some, Ordering, Less, Equal, Greater, arith}
use Rattle.std.specs.Ordering.{ordering_then, ordering_reverse, nat_cmp}
use Rattle.std.specs.Cmp.Lexicographic.{nat_list_cmp_total}
use Rattle.std.proofs.lemmas.Bool.{cases_lt}
use Rattle.std.proofs.lemmas.Cmp.{nat_cmp_total, tied_itself}
use Rattle.std.proofs.lemmas.Option.{slice_get-get_or}
use Rattle.std.specs.Option.{option_map}
use Rattle.std.proofs.lemmas.List.{get_or_default}
use Rattle.std.proofs.lemmas.List.Elements.{All-contains}
use Rattle.jl_logic.specs.Order.{name_cmp, RisesBy}
use Rattle.jl_logic.proofs.Rising.{each_of_member, contains_nothing, apart_from_total}
use Rattle.jl_config.specs.declared.fault.ResolveFault.{ResolveFault}
use Rattle.jl_config.specs.declared.fault.ResolveFault.TheVariants.{SameName}
use Rattle.jl_config.specs.declared.readings.Reading.{Reading}
use Rattle.jl_config.specs.declared.same_name.SharedName.{SharedName}
use Rattle.jl_config.specs.declared.candidate.Candidate.{Candidate}
use Rattle.jl_config.specs.Located.{Scene, candidate_name}
use Rattle.jl_config.specs.Members.{Reads}
use Rattle.jl_config.specs.Places.{place_of_candidate, IsLeastSome, SameNameFault}
use Rattle.jl_config.specs.ReadRows.{option_name, name_at, place_cmp, IsReadingOf, AreReadings}
use Rattle.jl_config.specs.Collected.{Adds, Among, read_name, IsShared, same_name_fault}
use Rattle.jl_config.specs.Refusals.{IsSameName, fault_cmp}
use Rattle.jl_config.proofs.Lists.{contains_at, item_at}
use Rattle.jl_config.proofs.Collects.{then_equal, least_fault, fault_not_less}
use Rattle.jl_config.proofs.Names.{names_exact}

-- ---- lists that rise by a name and something more

module _ {X : Type 0} (cmp : X → X → Ordering) where
  pub rising_at : (xs : List X) → RisesBy cmp xs → (i j : ℕ) (d : X) → i < j → j < length xs → cmp (get_or xs i d) (get_or xs j d) ≡ Less
  rising_at [] up i j d lt le = absurd (omega arith)
  rising_at (x ∷ xs) up i zero d lt le = absurd (omega arith)
  rising_at (x ∷ xs) up zero (suc j) d lt le = each_of_member (λ y. cmp x y ≡ Less) xs (get_or xs j d) up.0 (contains_at xs j (get_or xs j d) (slice_get-get_or xs j d (omega arith)))
  rising_at (x ∷ xs) up (suc i) (suc j) d lt le = rising_at xs up.1 i j d (omega arith) (omega arith)

-- a name between two that are the same
between : (a b c : List ℕ) (r s : Ordering) → ordering_then (name_cmp a b) r ≡ Less → ordering_then (name_cmp b c) s ≡ Less → a ≡ c → a ≡ b
between a b c r s f g e = by (name_cmp a b) refl f
  where
    never : name_cmp a b ≡ Less → ⊥
    never l =
        let back : name_cmp b c ≡ Greater = sym (ap (name_cmp b) e) ∙ nat_list_cmp_total.antisymm b a ∙ ap ordering_reverse l in
        let h : ordering_then Greater s ≡ Less = sym (ap (λ o. ordering_then o s) back) ∙ g in
        cc

    by : (o : Ordering) → name_cmp a b ≡ o → ordering_then o r ≡ Less → a ≡ b
    by Less l h = absurd (never l)
    by Equal l h = names_exact a b l
    by Greater l h = absurd cc

module _ {X : Type 0} (k : X → List ℕ) (second : X → X → Ordering) where
  -- behind an item and before one of its name there are only those of its name
  pub twin_after : (xs : List X) → RisesBy (λ x y. ordering_then (name_cmp (k x) (k y)) (second x y)) xs → (i j : ℕ) (d : X) → i < j → j < length xs → k (get_or xs i d) ≡ k (get_or xs j d)
      → k (get_or xs i d) ≡ k (get_or xs (i + 1) d)
  twin_after xs up i j d lt le e = ⊎_elim
      (λ far. between (k (get_or xs i d)) (k (get_or xs (i + 1) d)) (k (get_or xs j d)) (second (get_or xs i d) (get_or xs (i + 1) d)) (second (get_or xs (i + 1) d) (get_or xs j d))
      (rising_at (λ x y. ordering_then (name_cmp (k x) (k y)) (second x y)) xs up i (i + 1) d (omega arith) (omega arith))
      (rising_at (λ x y. ordering_then (name_cmp (k x) (k y)) (second x y)) xs up (i + 1) j d far le) e)
      (λ near. let n : i + 1 ≡ j = omega arith in subst (λ q. k (get_or xs i d) ≡ k (get_or xs q d)) (sym n) e)
      (cases_lt (i + 1) j)

-- ---- what a reading shares

pub reader_name : (w : Scene) (r : Reading) (a : Candidate) → IsReadingOf w r a → name_at w r.reader ≡ candidate_name a
reader_name w r a h = ap option_name h.here

-- a place of a reading, and the module there
pub record ReadAt (w : Scene) (a : Candidate) (p : ℕ) : Type 0 where
  pub candidate : Candidate
  pub at : slice_get w.candidates p ≡ Some candidate
  pub read : Reads w a candidate
  pub first : place_of_candidate candidate.config (candidate_name candidate) w.candidates ≡ Some p

pub place_read : (w : Scene) (r : Reading) (a : Candidate) (p : ℕ) → IsReadingOf w r a → Contains r.read p → ReadAt w a p
place_read w r a p h c =
    let s = item_at w.candidates p (All-contains (λ q. q < length w.candidates) r.read p h.reads.read.within c) in
    let o = h.reads.read.only p s.0 c s.1 in
    record { candidate = s.0; at = s.1; read = o.0; first = o.1 }

read_at : (w : Scene) (r : Reading) (a : Candidate) (i : ℕ) → IsReadingOf w r a → i < length r.read → ReadAt w a (get_or r.read i 0)
read_at w r a i h lt = place_read w r a (get_or r.read i 0) h (contains_at r.read i (get_or r.read i 0) (slice_get-get_or r.read i 0 lt))

pub one_first : (w : Scene) (b c : Candidate) (p q : ℕ) → place_of_candidate b.config (candidate_name b) w.candidates ≡ Some p → place_of_candidate c.config (candidate_name c) w.candidates ≡ Some q → b.config ≡ c.config → candidate_name b ≡ candidate_name c → p ≡ q
one_first w b c p q f g e n =
    let h : Some p ≡ Some q = sym f ∙ ap (λ k. place_of_candidate k (candidate_name b) w.candidates) e ∙ ap (λ k. place_of_candidate c.config k w.candidates) n ∙ g in
    cc

-- no place is less than itself
pub not_before_itself : (w : Scene) (p : ℕ) → place_cmp w p p ≡ Less → ⊥
not_before_itself w p l =
    let e : place_cmp w p p ≡ nat_cmp p p = ap (λ o. ordering_then o (nat_cmp p p)) (tied_itself nat_list_cmp_total (name_at w p)) in
    let f : nat_cmp p p ≡ Less = sym e ∙ l in
    apart_from_total nat_cmp nat_cmp_total p p f f

pub shared_sound : (w : Scene) (r : Reading) (a : Candidate) (c : SharedName) → IsReadingOf w r a → IsShared w r c → IsSameName w (c.reader, c.name)
shared_sound w r a c h s =
    let i : ℕ = s.0 in
    let at = s.1 in
    let later = at.later in
    let within = at.within in
    let b = read_at w r a (i - 1) h (omega arith) in
    let d = read_at w r a i h within in
    let named_b : candidate_name b.candidate ≡ c.name = sym (ap option_name b.at) ∙ at.same ∙ ap (λ (x : SharedName). x.name) (sym at.is) in
    let named_d : candidate_name d.candidate ≡ c.name = sym (ap option_name d.at) ∙ ap (λ (x : SharedName). x.name) (sym at.is) in
    let reader : candidate_name a ≡ c.reader = sym (reader_name w r a h) ∙ ap (λ (x : SharedName). x.reader) (sym at.is) in
    let less : place_cmp w (get_or r.read (i - 1) 0) (get_or r.read i 0) ≡ Less = rising_at (place_cmp w) r.read h.reads.rise (i - 1) i 0 (omega arith) within in (
      a,
      b.candidate,
      d.candidate,
      h.member,
      reader,
      b.read,
      d.read,
      named_b,
      named_d,
      λ e.
          let same : get_or r.read (i - 1) 0 ≡ get_or r.read i 0 = one_first w b.candidate d.candidate (get_or r.read (i - 1) 0) (get_or r.read i 0) b.first d.first e (named_b ∙ sym named_d) in
          not_before_itself w (get_or r.read i 0) (subst (λ p. place_cmp w p (get_or r.read i 0) ≡ Less) same less),
    )

-- the place behind that of one of two of a name
shared_after : (w : Scene) (r : Reading) (i j : ℕ) (reader name : List ℕ) (a : Candidate) → IsReadingOf w r a → i < j → j < length r.read → read_name w r i ≡ name → read_name w r j ≡ name → candidate_name a ≡ reader
    → IsShared w r (record { reader = reader; name = name })
shared_after w r i j reader name a h lt within e f g =
    let twin : read_name w r i ≡ read_name w r (i + 1) = twin_after (name_at w) nat_cmp r.read h.reads.rise i j 0 lt within (e ∙ sym f) in
    let n : i + 1 - 1 ≡ i = omega arith in (
      i + 1,
      record {
        later = omega arith;
        within = omega arith;
        same = subst (λ k. read_name w r k ≡ read_name w r (i + 1)) (sym n) twin;
        is = λ t. record { reader = (sym g ∙ sym (reader_name w r a h)) t; name = (sym e ∙ twin) t };
      },
    )

pub shared_complete : (w : Scene) (rs : List Reading) (reader name : List ℕ) → AreReadings w rs → IsSameName w (reader, name) → Among (IsShared w) rs (record { reader = reader; name = name })
shared_complete w rs reader name right s =
    let a : Candidate = s.0 in
    let b : Candidate = s.1 in
    let c : Candidate = s.2 in
    let r = right.all a s.3 in
    let p = r.2.reads.read.all b s.5 in
    let q = r.2.reads.read.all c s.6 in
    let first : read_name w r.0 p.1.0 ≡ name = ap (name_at w) (at_index r.0.read p.0 p.1) ∙ ap option_name p.2 ∙ s.7 in
    let second : read_name w r.0 q.1.0 ≡ name = ap (name_at w) (at_index r.0.read q.0 q.1) ∙ ap option_name q.2 ∙ s.8 in (
      r.0,
      r.1,
      ⊎_elim
          (λ lt. shared_after w r.0 p.1.0 q.1.0 reader name a r.2 lt q.1.1 first second s.4)
          (λ le. ⊎_elim
          (λ gt. shared_after w r.0 q.1.0 p.1.0 reader name a r.2 gt p.1.1 second first s.4)
          (λ ge.
          let e : p.1.0 ≡ q.1.0 = omega (arith, le, ge) in
          let f : p.0 ≡ q.0 = sym (at_index r.0.read p.0 p.1) ∙ ap (λ k. get_or r.0.read k 0) e ∙ at_index r.0.read q.0 q.1 in
          let g : Some b ≡ Some c = sym p.2 ∙ ap (slice_get w.candidates) f ∙ q.2 in
          let same : b ≡ c = cc in
          absurd (s.9 (ap (λ (v : Candidate). v.config) same)))
          (cases_lt q.1.0 p.1.0))
          (cases_lt p.1.0 q.1.0),
    )
  where
    at_index : (xs : List ℕ) (p : ℕ) → (c : Contains xs p) → get_or xs c.0 0 ≡ p
    at_index xs p c = get_or_default xs c.0 0 p c.1 ∙ c.2

-- ---- the least

pub least_same : (w : Scene) (rs : List Reading) (found : List SharedName) (cmp : SharedName → SharedName → Ordering) (o : Option SharedName) → AreReadings w rs → Adds [] found (Among (IsShared w) rs)
    → IsLeastSome cmp (Contains found) o → ((x y : SharedName) → cmp x y ≡ ordering_then (name_cmp x.reader y.reader) (name_cmp x.name y.name)) → IsLeastSome fault_cmp (SameNameFault w) (option_map same_name_fault o)
least_same w rs found cmp o right adds least order =
    least_fault cmp same_name_fault (SameNameFault w) found o least
    (λ x y. ap (λ z. ordering_then (name_cmp x.reader y.reader) z) (then_equal (name_cmp x.name y.name)) ∙ sym (order x y))
    (λ x c. ⊎_elim (λ n. contains_nothing x n) (λ h. let r = right.only h.0 h.1 in shared_sound w h.0 r.0 x r.1 h.2) (adds.only x c))
    complete
  where
    complete : (g : ResolveFault) → SameNameFault w g → (x : SharedName) × Contains found x × (fault_cmp g (same_name_fault x) ≢ Less)
    complete (SameName reader name) p = (record { reader = reader; name = name }, adds.all (record { reader = reader; name = name }) (shared_complete w rs reader name right p), fault_not_less (SameName reader name) (SameName reader name) refl)
    complete g p = absurd p
