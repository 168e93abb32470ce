-- The modules of the set, what they read and the names on cycles, as lists of exactly these.
use Rattle.std.proofs.Common.{◌≡◌, ◌<◌, ℕ, List, [], length, get_or, sym, subst, Contains, All, Some, Bool, true, slice_get}
use Rattle.std.proofs.lemmas.Option.{slice_get_within}
use Rattle.jl_closure.proofs.Always.{marks_exist}
use Rattle.jl_config.specs.declared.candidate.Candidate.{Candidate}
use Rattle.jl_config.specs.Located.{Scene, candidate_name}
use Rattle.jl_config.specs.Members.{IsMember, Reads}
use Rattle.jl_config.specs.Places.{AreMarks, AreReadBy}
use Rattle.jl_config.specs.Refusals.{Leads, IsOnCycle}
use Rattle.jl_config.specs.Cycles.{edge_row, edge_rows}
use Rattle.jl_config.proofs.Listings.{Listing, Decided, decided_marked, decided_same, listing_each, listing_where, listing_same, listing_map, listing_option, listing_items, listing_below}
use Rattle.jl_config.proofs.Lists.{row_at}
use Rattle.jl_config.proofs.MemberFinds.{FoundAt, found_where, member_found}
use Rattle.jl_config.proofs.MemberChains.{members_exist}
use Rattle.jl_config.proofs.CyclePlaces.{marked_at, edges_below, edges_within, leading_back_shows, leading_back_has}
use Rattle.jl_config.proofs.ReadMarks.{reads_exist}

abbrev IsAt : Scene → List Bool → ℕ → Candidate → Type 0
IsAt w marks p s = (slice_get w.candidates p ≡ Some s) × (slice_get marks p ≡ Some true)

members_listed : (w : Scene) (marks : List Bool) → AreMarks w marks → Listing (IsMember w)
members_listed w marks am =
    listing_same (λ s. (p : ℕ) × (p < length w.candidates) × IsAt w marks p s) (IsMember w)
    (λ s r. (am.only r.0 s r.2.0 r.2.1).0)
    (λ s m.
    let place = found_where w s (member_found w s m) in
    let f : FoundAt w place.0 s = place.1 in
    (place.0, slice_get_within w.candidates place.0 s f.at, (f.at, am.all place.0 s f.at m f.first)))
    (listing_each (IsAt w marks) (λ p. p < length w.candidates) (listing_below (length w.candidates))
    (λ p h. listing_where (λ s. slice_get w.candidates p ≡ Some s) (λ s. slice_get marks p ≡ Some true) (listing_option (slice_get w.candidates p)) (λ s e. decided_marked (slice_get marks p))))

reads_listed : (w : Scene) (a : Candidate) (ps : List ℕ) → AreReadBy w a ps → Listing (Reads w a)
reads_listed w a ps r =
    listing_same (λ b. (p : ℕ) × Contains ps p × (slice_get w.candidates p ≡ Some b)) (Reads w a)
    (λ b k. (r.only k.0 b k.1 k.2).0) (λ b k. r.all b k)
    (listing_each (λ p b. slice_get w.candidates p ≡ Some b) (Contains ps) (listing_items ps) (λ p c. listing_option (slice_get w.candidates p)))

-- a module of the set is on a cycle exactly where its own row reaches its place
decided_cycle : (w : Scene) (marks : List Bool) → AreMarks w marks → (s : Candidate) → IsMember w s → Decided ((n : ℕ) × Leads w n s s)
decided_cycle w marks am s m =
    let place = marked_at w marks am s m in
    let f : FoundAt w place.0 s = place.1 in
    let row : get_or (edge_rows w marks) place.0 [] ≡ edge_row w marks s = row_at (edge_row w marks) w.candidates place.0 s [] f.at in
    let below : All (λ p. p < length (edge_rows w marks)) (get_or (edge_rows w marks) place.0 []) = subst (All (λ p. p < length (edge_rows w marks))) (sym row) (edges_below w marks am s) in
    let raw = marks_exist (edge_rows w marks) (get_or (edge_rows w marks) place.0 []) (edges_within w marks am) below in
    decided_same (slice_get raw.0 place.0 ≡ Some true) ((n : ℕ) × Leads w n s s)
    (λ e. leading_back_shows w marks am place.0 s f.at (raw.1.only place.0 e))
    (λ c. raw.1.all place.0 (leading_back_has w marks am place.0 s f c.0 c.1))
    (decided_marked (slice_get raw.0 place.0))

cycles_listed : (w : Scene) (marks : List Bool) → AreMarks w marks → Listing (IsOnCycle w)
cycles_listed w marks am =
    listing_same (λ name. (s : Candidate) × (IsMember w s × ((n : ℕ) × Leads w n s s)) × (candidate_name s ≡ name)) (IsOnCycle w)
    (λ name k. (k.0, k.1.0, k.2, k.1.1)) (λ name k. (k.0, (k.1, k.3), k.2))
    (listing_map (λ s. IsMember w s × ((n : ℕ) × Leads w n s s)) candidate_name
    (listing_where (IsMember w) (λ s. (n : ℕ) × Leads w n s s) (members_listed w marks am) (decided_cycle w marks am)))

-- what a resolution goes by
pub record Lists (w : Scene) : Type 0 where
  pub members : Listing (IsMember w)
  pub reads : (a : Candidate) → IsMember w a → Listing (Reads w a)
  pub cycles : Listing (IsOnCycle w)

pub all_listed : (w : Scene) → Lists w
all_listed w =
    let marks = members_exist w in
    record {
      members = members_listed w marks.0 marks.1;
      reads = λ a m. let r = reads_exist w marks.0 marks.1 a m in reads_listed w a r.0 r.1;
      cycles = cycles_listed w marks.0 marks.1;
    }
