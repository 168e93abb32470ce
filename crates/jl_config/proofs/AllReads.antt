-- What the readings say as reads.
use Rattle.std.proofs.Common.{◌≡◌, ◌≤◌, ℕ, List, [], ◌∷◌, length, map, take, slice_get, flat_map, refl, sym, ◌∙◌, ap, subst, Contains, Some, Ordering, Less, Equal, Greater}
use Rattle.std.specs.List.{AllByRecursion}
use Rattle.std.specs.Ordering.{ordering_then, nat_cmp}
use Rattle.std.specs.Cmp.Lexicographic.{nat_list_cmp_total}
use Rattle.std.proofs.lemmas.Cmp.{tied_itself}
use Rattle.std.proofs.lemmas.List.{take_all}
use Rattle.jl_logic.specs.Order.{name_cmp, RisesBy}
use Rattle.jl_logic.proofs.Rising.{contains_head, contains_tail, each_from_members, each_of_member, rises_append}
use Rattle.jl_config.specs.declared.configuration.Read.{Read}
use Rattle.jl_config.specs.declared.fault.ResolveFault.{ResolveFault}
use Rattle.jl_config.specs.declared.fault.ResolveFault.TheVariants.{SameName}
use Rattle.jl_config.specs.declared.readings.Reading.{Reading}
use Rattle.jl_config.specs.declared.candidate.Candidate.{Candidate}
use Rattle.jl_config.specs.Located.{Scene, candidate_name}
use Rattle.jl_config.specs.Orders.{read_cmp}
use Rattle.jl_config.specs.Places.{SameNameFault}
use Rattle.jl_config.specs.ReadRows.{option_name, option_config, name_at, place_cmp, reading_cmp, IsReadingOf, AreReadings, read_between, reads_in}
use Rattle.jl_config.specs.Resolves.{AreReads, read_of}
use Rattle.jl_config.proofs.Lists.{into_flat_map, from_flat_map, into_map, from_map}
use Rattle.jl_config.proofs.SameNames.{place_read, one_first, not_before_itself}
use Rattle.jl_config.proofs.Names.{names_exact}

-- what an order by two parts says, where the first does not tie
first_less : (o p : Ordering) → (o ≡ Equal → ⊥) → ordering_then o p ≡ Less → o ≡ Less
first_less Less p n e = refl
first_less Equal p n e = absurd (n refl)
first_less Greater p n e = absurd cc

module _ (w : Scene) (apart : (f : ResolveFault) → SameNameFault w f → ⊥) where
  -- two that are read have two names
  names_apart : (r : Reading) (a : Candidate) (p q : ℕ) → IsReadingOf w r a → Contains r.read p → Contains r.read q → place_cmp w p q ≡ Less → name_cmp (name_at w p) (name_at w q) ≡ Less
  names_apart r a p q h c d l = first_less (name_cmp (name_at w p) (name_at w q)) (nat_cmp p q) (λ tie.
      let b = place_read w r a p h c in
      let e = place_read w r a q h d in
      let same : name_at w p ≡ name_at w q = names_exact (name_at w p) (name_at w q) tie in
      let named : candidate_name b.candidate ≡ candidate_name e.candidate = sym (ap option_name b.at) ∙ same ∙ ap option_name e.at in
      apart (SameName (candidate_name a) (candidate_name e.candidate)) (
        a,
        b.candidate,
        e.candidate,
        h.member,
        refl,
        b.read,
        e.read,
        named,
        refl,
        λ f.
            let one : p ≡ q = one_first w b.candidate e.candidate p q b.first e.first f named in
            not_before_itself w q (subst (λ k. place_cmp w k q ≡ Less) one l),
      )) l

  block_rises : (r : Reading) (a : Candidate) → IsReadingOf w r a → (ps : List ℕ) → ((p : ℕ) → Contains ps p → Contains r.read p) → RisesBy (place_cmp w) ps → RisesBy read_cmp (map (read_between w r.reader) ps)
  block_rises r a h [] within up = tt
  block_rises r a h (p ∷ ps) within up = (
    each_from_members (λ y. read_cmp (read_between w r.reader p) y ≡ Less) (map (read_between w r.reader) ps) (λ y c.
        let q = from_map (read_between w r.reader) ps y c in
        let less : name_cmp (name_at w p) (name_at w q.0) ≡ Less = names_apart r a p q.0 h (within p (contains_head p ps)) (within q.0 (contains_tail p q.0 ps q.1)) (each_of_member (λ k. place_cmp w p k ≡ Less) ps q.0 up.0 q.1) in
        let tie : read_cmp (read_between w r.reader p) (read_between w r.reader q.0) ≡ name_cmp (name_at w p) (name_at w q.0) = ap (λ o. ordering_then o (name_cmp (name_at w p) (name_at w q.0))) (tied_itself nat_list_cmp_total (name_at w r.reader)) in
        subst (λ z. read_cmp (read_between w r.reader p) z ≡ Less) q.2 (tie ∙ less)),
    block_rises r a h ps (λ q c. within q (contains_tail p q ps c)) up.1,
  )

  all_rise : (rs : List Reading) → ((r : Reading) → Contains rs r → (a : Candidate) × IsReadingOf w r a) → RisesBy (reading_cmp w) rs → RisesBy read_cmp (flat_map (reads_in w) rs)
  all_rise [] each up = tt
  all_rise (r ∷ rs) each up =
      let h = each r (contains_head r rs) in
      rises_append read_cmp (reads_in w r) (flat_map (reads_in w) rs) (block_rises r h.0 h.1 r.read (λ p c. c) h.1.reads.rise) (all_rise rs (λ s c. each s (contains_tail r s rs c)) up.1)
      (each_from_members (λ x. AllByRecursion (λ y. read_cmp x y ≡ Less) (flat_map (reads_in w) rs)) (reads_in w r) (λ x c. each_from_members (λ y. read_cmp x y ≡ Less) (flat_map (reads_in w) rs) (λ y d.
      let p = from_map (read_between w r.reader) r.read x c in
      let s = from_flat_map (reads_in w) rs y d in
      let q = from_map (read_between w s.0.reader) s.0.read y s.2 in
      let less : name_cmp (name_at w r.reader) (name_at w s.0.reader) ≡ Less = each_of_member (λ t. reading_cmp w r t ≡ Less) rs s.0 up.0 s.1 in
      let decided : read_cmp (read_between w r.reader p.0) (read_between w s.0.reader q.0) ≡ Less = ap (λ o. ordering_then o (name_cmp (name_at w p.0) (name_at w q.0))) less in
      subst (λ z. read_cmp x z ≡ Less) q.2 (subst (λ z. read_cmp z (read_between w s.0.reader q.0) ≡ Less) p.2 decided))))

  between_candidates : (p q : ℕ) (a b : Candidate) → slice_get w.candidates p ≡ Some a → slice_get w.candidates q ≡ Some b → read_between w p q ≡ read_of a b
  between_candidates p q a b at be = λ i. record { reader = ap option_name at i; config = ap option_config be i; name = ap option_name be i }

  pub reads_right : (rs : List Reading) (reads : List Read) → AreReadings w rs → reads ≡ flat_map (reads_in w) rs → AreReads w reads
  reads_right rs reads right e = subst (AreReads w) (sym e) (record {
    rise = all_rise rs right.only right.rise;
    only = λ y c.
        let s = from_flat_map (reads_in w) rs y c in
        let h = right.only s.0 s.1 in
        let q = from_map (read_between w s.0.reader) s.0.read y s.2 in
        let b = place_read w s.0 h.0 q.0 h.1 q.1 in
        (h.0, b.candidate, h.1.member, b.read, sym q.2 ∙ between_candidates s.0.reader q.0 h.0 b.candidate h.1.here b.at);
    all = λ a b m read.
        let r = right.all a m in
        let p = r.2.reads.read.all b read in
        subst (Contains (flat_map (reads_in w) rs)) (between_candidates r.0.reader p.0 a b r.2.here p.2)
        (into_flat_map (reads_in w) rs r.0 (read_between w r.0.reader p.0) r.1 (into_map (read_between w r.0.reader) r.0.read p.0 p.1));
  })

  pub all_reads : (rs : List Reading) (i : ℕ) (reads : List Read) → length rs ≤ i → AreReadings w rs → reads ≡ flat_map (reads_in w) (take i rs) → AreReads w reads
  all_reads rs i reads le right e = reads_right rs reads right (e ∙ ap (flat_map (reads_in w)) (take_all i rs le))
