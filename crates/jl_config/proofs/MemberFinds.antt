-- Modules in sight, found by their names and by places.
use Rattle.std.proofs.Common.{◌≡◌, ℕ, suc, List, get_or, slice_get, refl, sym, ◌∙◌, ap, subst, Option, Some, None, Bool, true, false, cond, zero}
use Rattle.std.specs.Option.{option_map_or}
use Rattle.jl_config.specs.declared.candidate.Candidate.{Candidate}
use Rattle.jl_config.specs.Located.{Scene, candidate_name, find_named, is_here, located}
use Rattle.jl_config.specs.Members.{IsFound, IsMemberBy, IsMember}
use Rattle.jl_config.specs.MemberRows.{here_at, kept_here, found_place}
use Rattle.jl_config.specs.Places.{place_named, kept_marked}
use Rattle.jl_config.proofs.Lists.{same_item}
use Rattle.jl_config.proofs.Finds.{NamedAt, named_shows, named_place}

pub unplaced : (name : List ℕ) (ss : List Candidate) → place_named name ss ≡ None → find_named name ss ≡ None
unplaced name ss e = by (find_named name ss) refl
  where
    by : (f : Option Candidate) → find_named name ss ≡ f → find_named name ss ≡ None
    by None h = h
    by (Some o) h = let r = named_place name ss o h in let f : NamedAt name ss r.0 o = r.1 in absurd (cc f.first)

pub unfound : (name : List ℕ) (ss : List Candidate) → find_named name ss ≡ None → place_named name ss ≡ None
unfound name ss e = by (place_named name ss) refl
  where
    by : (f : Option ℕ) → place_named name ss ≡ f → place_named name ss ≡ None
    by None h = h
    by (Some p) h = let r = named_shows name ss p h in let f : NamedAt name ss p r.0 = r.1 in absurd (cc f.found)

-- a place that is marked is given
pub kept_shows : (marks : List Bool) (o : Option ℕ) (p : ℕ) → kept_marked marks o ≡ Some p → (o ≡ Some p) × (get_or marks p false ≡ true)
kept_shows marks None p e = absurd cc
kept_shows marks (Some q) p e = by (get_or marks q false) refl e
  where
    by : (b : Bool) → get_or marks q false ≡ b → cond b (Some q) None ≡ Some p → (Some q ≡ Some p) × (get_or marks p false ≡ true)
    by true f g = let same : q ≡ p = cc in (g, ap (λ (k : ℕ). get_or marks k false) (sym same) ∙ f)
    by false f g = absurd cc

found_by : (b : Bool) (w : Scene) (s : Candidate) → IsMemberBy b w s → IsFound w s
found_by true w s (earlier, m) = m.0
found_by false w s (zero, m) = m.0
found_by false w s (suc n, m) = m.0

pub member_found : (w : Scene) (s : Candidate) → IsMember w s → IsFound w s
member_found w s m = found_by w.binds w s m

-- modules of the set with one name are the same
pub one_of_name : (w : Scene) (s t : Candidate) → IsMember w s → IsMember w t → candidate_name s ≡ candidate_name t → s ≡ t
one_of_name w s t a b e = same_item s t (located w (candidate_name s)) (member_found w s a).meant (ap (located w) e ∙ (member_found w t b).meant)

-- the module at a place is found, and is the first of its name
pub record FoundAt (w : Scene) (p : ℕ) (s : Candidate) : Type 0 where
  pub at : slice_get w.candidates p ≡ Some s
  pub found : IsFound w s
  pub first : place_named (candidate_name s) w.candidates ≡ Some p

pub found_where : (w : Scene) (s : Candidate) → IsFound w s → (p : ℕ) × FoundAt w p s
found_where w s f = let r = named_place (candidate_name s) w.candidates s f.meant in (r.0, record { at = r.1.at; found = f; first = r.1.first })

here_is : (w : Scene) (p : ℕ) (s : Candidate) → slice_get w.candidates p ≡ Some s → here_at w p ≡ is_here w s
here_is w p s e = ap (λ (o : Option Candidate). option_map_or (is_here w) o false) e

-- what a name means, if a finder observes it
pub found_shows : (w : Scene) (name : List ℕ) (p : ℕ) → found_place w name ≡ Some p → (s : Candidate) × FoundAt w p s × (candidate_name s ≡ name)
found_shows w name p e = by (place_named name w.candidates) refl e
  where
    at_place : (q : ℕ) → place_named name w.candidates ≡ Some q → (b : Bool) → here_at w q ≡ b → cond b (Some q) None ≡ Some p → (s : Candidate) × FoundAt w p s × (candidate_name s ≡ name)
    at_place q f true h g =
        let t = named_shows name w.candidates q f in
        let r : NamedAt name w.candidates q t.0 = t.1 in
        let same : q ≡ p = cc in
        let here : is_here w t.0 ≡ true = sym (here_is w q t.0 r.at) ∙ h in (
          t.0,
          record {
            at = subst (λ (k : ℕ). slice_get w.candidates k ≡ Some t.0) same r.at;
            found = record { by_finder = here; meant = ap (λ (n : List ℕ). find_named n w.candidates) r.named ∙ r.found };
            first = ap (λ (n : List ℕ). place_named n w.candidates) r.named ∙ f ∙ ap Some same;
          },
          r.named,
        )
    at_place q f false h g = absurd cc

    by : (o : Option ℕ) → place_named name w.candidates ≡ o → kept_here w o ≡ Some p → (s : Candidate) × FoundAt w p s × (candidate_name s ≡ name)
    by None f g = absurd cc
    by (Some q) f g = at_place q f (here_at w q) refl g

pub found_has : (w : Scene) (p : ℕ) (s : Candidate) → FoundAt w p s → found_place w (candidate_name s) ≡ Some p
found_has w p s f =
    let here : here_at w p ≡ true = here_is w p s f.at ∙ f.found.by_finder in
    ap (kept_here w) f.first ∙ ap (λ (b : Bool). cond b (Some p) None) here
