-- The places that lead back to themselves are those of members on a cycle.
use Rattle.std.proofs.Common.{◌≡◌, ◌≢◌, ◌<◌, ℕ, zero, suc, List, [], ◌∷◌, length, get_or, slice_get, ⊎_elim, refl, sym, ◌∙◌, ap, subst, Contains, All, Option, Some, None, Bool, true, false, cond, Less}
use Rattle.std.specs.List.{cons_option}
use Rattle.std.proofs.lemmas.List.{length-map}
use Rattle.std.proofs.lemmas.Option.{slice_get_within, get_or_from_slice_get}
use Rattle.std.proofs.lemmas.List.Elements.{All-contains}
use Rattle.jl_prim.specs.declared.declaration.Requires.{Requires}
use Rattle.jl_closure.specs.Reached.{Chain}
use Rattle.jl_logic.specs.Order.{name_cmp, RisesBy, IsLeast}
use Rattle.jl_logic.proofs.Rising.{contains_head, contains_tail, contains_cases, contains_nothing, each_of_member, apart_from_total}
use Rattle.jl_config.specs.declared.candidate.Candidate.{Candidate}
use Rattle.jl_config.specs.declared.fault.ResolveFault.{ResolveFault}
use Rattle.jl_config.specs.declared.fault.ResolveFault.TheVariants.{Cycle}
use Rattle.jl_config.specs.Located.{Scene, candidate_name}
use Rattle.jl_config.specs.Members.{IsMember}
use Rattle.jl_config.specs.Orders.{candidate_cmp}
use Rattle.jl_config.specs.Places.{place_named, kept_marked, AreMarks, AreMembers, candidates_at, CycleFault}
use Rattle.jl_config.specs.Refusals.{HasEdge, Leads, IsOnCycle, fault_cmp}
use Rattle.jl_config.specs.Cycles.{edge_place, edge_row, edge_rows, LeadsBack, IsFirstOnCycle}
use Rattle.jl_config.proofs.MemberFinds.{FoundAt, found_where, member_found}
use Rattle.jl_config.proofs.Lists.{into_filter_map, from_filter_map, from_map, row_at, all_of, same_item, item_at}
use Rattle.jl_config.proofs.FaultOrder.{cycle_cmp, candidates_total}
use Rattle.jl_config.proofs.Finds.{named_place}
use Rattle.jl_config.proofs.ReadMarks.{member_shows}

module _ (w : Scene) (marks : List Bool) (right : AreMarks w marks) where
  abbrev Edges : Candidate → List ℕ
  Edges s = edge_row w marks s

  abbrev Rows : List (List ℕ)
  Rows = edge_rows w marks

  edge_shows : (s : Candidate) (q : ℕ) → Contains (Edges s) q → (t : Candidate) × (slice_get w.candidates q ≡ Some t) × HasEdge w s t
  edge_shows s q c =
      let r = from_filter_map (edge_place w marks) s.observed.declaration.required q c in
      let m = member_shows w marks right r.0.name q r.2 in
      (m.0, m.1.at, (r.0, r.1, m.2))

  pub marked_at : (t : Candidate) → IsMember w t → (q : ℕ) × FoundAt w q t × (slice_get marks q ≡ Some true)
  marked_at t m =
      let r = found_where w t (member_found w t m) in
      let f : FoundAt w r.0 t = r.1 in
      (r.0, f, right.all r.0 t f.at m f.first)

  edge_has : (s t : Candidate) (q : ℕ) → FoundAt w q t → HasEdge w s t → Contains (Edges s) q
  edge_has s t q f h =
      let r : Requires = h.0 in
      let named : candidate_name t ≡ r.name = (named_place r.name w.candidates t h.2.meant).1.named in
      let place : place_named r.name w.candidates ≡ Some q = ap (λ (n : List ℕ). place_named n w.candidates) (sym named) ∙ f.first in
      let mark : get_or marks q false ≡ true = get_or_from_slice_get marks q true false (right.all q t f.at h.2.member f.first) in
      let kept : edge_place w marks r ≡ Some q = ap (kept_marked marks) place ∙ ap (λ (b : Bool). cond b (Some q) None) mark in
      into_filter_map (edge_place w marks) s.observed.declaration.required r q h.1 kept

  chain_leads : (s : Candidate) (n q : ℕ) → Chain Rows (Edges s) n q → (t : Candidate) × (slice_get w.candidates q ≡ Some t) × Leads w n s t
  chain_leads s zero q h = edge_shows s q h
  chain_leads s (suc n) q h =
      let r = chain_leads s n h.0 h.1 in
      let c : Contains (Edges r.0) q = subst (λ (l : List ℕ). Contains l q) (row_at Edges w.candidates h.0 r.0 [] r.1) h.2 in
      let e = edge_shows r.0 q c in
      (e.0, e.1, (r.0, r.2, e.2))

  leads_chain : (s : Candidate) (n : ℕ) (t : Candidate) → Leads w n s t → (q : ℕ) × FoundAt w q t × Chain Rows (Edges s) n q
  leads_chain s zero t h = let r = marked_at t h.2.member in (r.0, r.1, edge_has s t r.0 r.1 h)
  leads_chain s (suc n) t h =
      let before = leads_chain s n h.0 h.1 in
      let b : FoundAt w before.0 h.0 = before.1 in
      let r = marked_at t h.2.2.member in
      let c : Contains (Edges h.0) r.0 = edge_has h.0 t r.0 r.1 h.2 in
      (r.0, r.1, (before.0, before.2, subst (λ (l : List ℕ). Contains l r.0) (sym (row_at Edges w.candidates before.0 h.0 [] b.at)) c))

  pub leading_back_shows : (p : ℕ) (s : Candidate) → slice_get w.candidates p ≡ Some s → LeadsBack Rows p → (n : ℕ) × Leads w n s s
  leading_back_shows p s at h =
      let row : get_or Rows p [] ≡ Edges s = row_at Edges w.candidates p s [] at in
      let c : Chain Rows (Edges s) h.0 p = subst (λ (l : List ℕ). Chain Rows l h.0 p) row h.1 in
      let r = chain_leads s h.0 p c in
      (h.0, subst (λ (t : Candidate). Leads w h.0 s t) (same_item r.0 s (slice_get w.candidates p) r.1 at) r.2)

  pub leading_back_has : (p : ℕ) (s : Candidate) → FoundAt w p s → (n : ℕ) → Leads w n s s → LeadsBack Rows p
  leading_back_has p s f n h =
      let r = leads_chain s n s h in
      let g : FoundAt w r.0 s = r.1 in
      let same : r.0 ≡ p = same_item r.0 p (place_named (candidate_name s) w.candidates) g.first f.first in
      let row : get_or Rows p [] ≡ Edges s = row_at Edges w.candidates p s [] f.at in
      (n, subst (λ (l : List ℕ). Chain Rows l n p) (sym row) (subst (λ (k : ℕ). Chain Rows (Edges s) n k) same r.2))

  pub edges_below : (s : Candidate) → All (λ p. p < length Rows) (Edges s)
  edges_below s = all_of (λ p. p < length Rows) (Edges s) (λ p c. let r = edge_shows s p c in subst (λ (n : ℕ). p < n) (sym (length-map w.candidates Edges)) (slice_get_within w.candidates p r.0 r.1))

  pub edges_within : All (λ r. All (λ p. p < length Rows) r) Rows
  edges_within =
      all_of (λ r. All (λ p. p < length Rows) r) Rows (λ r c.
      let s = from_map Edges w.candidates r c in
      subst (λ (l : List ℕ). All (λ p. p < length Rows) l) s.2 (edges_below s.0))

  -- ---- the least

  apart : (x y : Candidate) → candidate_cmp x y ≡ Less → candidate_cmp y x ≡ Less → ⊥
  apart = apart_from_total candidate_cmp candidates_total

  abbrev Stand : List ℕ → Type 0
  Stand ps = (p : ℕ) → Contains ps p → (s : Candidate) × (slice_get w.candidates p ≡ Some s)

  abbrev IsFirst : List ℕ → ℕ → Type 0
  IsFirst ps q = Contains ps q × LeadsBack Rows q × ((p : ℕ) (t s : Candidate) → Contains ps p → slice_get w.candidates p ≡ Some t → slice_get w.candidates q ≡ Some s → LeadsBack Rows p → candidate_cmp t s ≢ Less)

  first_shows : (ps : List ℕ) → Stand ps → RisesBy candidate_cmp (candidates_at w ps) → (q : ℕ) → IsFirstOnCycle Rows ps (Some q) → IsFirst ps q
  first_shows [] stand up q h = absurd h
  first_shows (p ∷ ps) stand up q h =
      let u = stand p (contains_head p ps) in
      let rise : RisesBy candidate_cmp (u.0 ∷ candidates_at w ps) = subst (λ (o : Option Candidate). RisesBy candidate_cmp (cons_option o (candidates_at w ps))) u.1 up in
      ⊎_elim
      (λ k.
      let same : p ≡ q = cc k.1 in
      let at : slice_get w.candidates q ≡ Some u.0 = subst (λ (n : ℕ). slice_get w.candidates n ≡ Some u.0) same u.1 in (
        subst (Contains (p ∷ ps)) same (contains_head p ps),
        subst (λ (n : ℕ). LeadsBack Rows n) same k.0,
        λ r t s c att ats back less.
            let us : u.0 ≡ s = same_item u.0 s (slice_get w.candidates q) at ats in
            ⊎_elim
            (λ e.
            let tu : t ≡ u.0 = same_item t u.0 (slice_get w.candidates p) (subst (λ (n : ℕ). slice_get w.candidates n ≡ Some t) (sym e) att) u.1 in
            let itself : candidate_cmp s s ≡ Less = subst (λ (v : Candidate). candidate_cmp v s ≡ Less) (tu ∙ us) less in
            apart s s itself itself)
            (λ k.
            let inside : Contains (candidates_at w ps) t = into_filter_map (slice_get w.candidates) ps r t k att in
            let before : candidate_cmp u.0 t ≡ Less = each_of_member (λ v. candidate_cmp u.0 v ≡ Less) (candidates_at w ps) t rise.0 inside in
            apart s t (subst (λ (v : Candidate). candidate_cmp v t ≡ Less) us before) less)
            (contains_cases p r ps c),
      ))
      (λ k.
      let more = first_shows ps (λ r c. stand r (contains_tail p r ps c)) rise.1 q k.1 in (
        contains_tail p q ps more.0,
        more.1,
        λ r t s c att ats back less.
            ⊎_elim (λ e. k.0 (subst (λ (n : ℕ). LeadsBack Rows n) (sym e) back)) (λ m. more.2 r t s m att ats back less) (contains_cases p r ps c),
      ))
      h

  first_none : (ps : List ℕ) → IsFirstOnCycle Rows ps None → (p : ℕ) → Contains ps p → LeadsBack Rows p → ⊥
  first_none [] h p c back = contains_nothing p c
  first_none (r ∷ ps) h p c back =
      ⊎_elim
      (λ k. let clash : None ≡ Some r = k.1 in absurd cc)
      (λ k. ⊎_elim (λ e. k.0 (subst (λ (n : ℕ). LeadsBack Rows n) (sym e) back)) (λ m. first_none ps k.1 p m back) (contains_cases r p ps c))
      h

  module _ (ps : List ℕ) (members : AreMembers w ps) where
    stand_all : Stand ps
    stand_all p c = item_at w.candidates p (All-contains (λ k. k < length w.candidates) ps p members.within c)

    pub first_within : (q : ℕ) → IsFirstOnCycle Rows ps (Some q) → q < length w.candidates
    first_within q e = let r = stand_all q (first_shows ps stand_all members.rise q e).0 in slice_get_within w.candidates q r.0 r.1

    -- a member on a cycle stands at a place of the list that leads back to itself
    cycle_place : (name : List ℕ) → IsOnCycle w name → (p : ℕ) × (s : Candidate) × Contains ps p × (slice_get w.candidates p ≡ Some s) × (candidate_name s ≡ name) × LeadsBack Rows p
    cycle_place name h =
        let s : Candidate = h.0 in
        let r = members.all s h.1 in
        let first : place_named (candidate_name s) w.candidates ≡ Some r.0 = (members.only r.0 s r.1 r.2).1 in
        let g = marked_at s h.1 in
        let found : FoundAt w g.0 s = g.1 in
        let f : FoundAt w r.0 s = record { at = r.2; found = found.found; first = first } in
        (r.0, s, r.1, r.2, h.2, leading_back_has r.0 s f h.3.0 h.3.1)

    pub no_cycle : IsFirstOnCycle Rows ps None → (f : ResolveFault) → CycleFault w f → ⊥
    no_cycle e (Cycle least) h = let c = cycle_place least h in first_none ps e c.0 c.2 c.5
    no_cycle e f h = absurd h

    pub cycle_right : (q : ℕ) (s : Candidate) → slice_get w.candidates q ≡ Some s → IsFirstOnCycle Rows ps (Some q) → IsLeast fault_cmp (CycleFault w) (Cycle (candidate_name s))
    cycle_right q s at e =
        let first = first_shows ps stand_all members.rise q e in
        record { has = (s, (members.only q s first.0 at).0, refl, leading_back_shows q s at first.1); least = below first }
      where
        below : IsFirst ps q → (f : ResolveFault) → CycleFault w f → fault_cmp f (Cycle (candidate_name s)) ≢ Less
        below first (Cycle least) h l =
            let c = cycle_place least h in
            let less : name_cmp (candidate_name c.1) (candidate_name s) ≡ Less = ap (λ (n : List ℕ). name_cmp n (candidate_name s)) c.4 ∙ sym (cycle_cmp least (candidate_name s)) ∙ l in
            first.2 c.0 c.1 s c.2 c.3 at c.5 less
        below first f h l = absurd h
