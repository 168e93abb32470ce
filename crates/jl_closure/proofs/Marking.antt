-- What marking places does: it marks exactly those, and each new mark is work.
use Rattle.std.proofs.Common.{◌≡◌, ℕ, zero, suc, ◌+◌, ◌<◌, ◌⊎◌, Bool, true, false, cond, List, [], ◌∷◌, ◌++◌, length, get_or, set, All, refl, sym, subst, ◌∙◌, inl, inr, ⊎_elim, arith, length-append, get_or-set_same, get_or-set_other}
use Rattle.std.proofs.Math.ListN.{length-set}
use Rattle.std.proofs.lemmas.Bool.{cases_eq}
use Rattle.std.proofs.lemmas.List.Elements.{Contains-append_left, Contains-append_right, Contains-append_cases, Contains-push, Contains-push_cases, All-head, All-tail}
use Rattle.std.specs.Prelude.{Contains}
use Rattle.jl_closure.specs.Work.{State, with_place, with_places}

abbrev pub Marked : List Bool → ℕ → Type 0
Marked marks p = get_or marks p false ≡ true

abbrev pub unmarked : List Bool → ℕ
unmarked [] = 0
unmarked (true ∷ ms) = unmarked ms
unmarked (false ∷ ms) = suc (unmarked ms)

unmarked-set : (ms : List Bool) (p : ℕ) → p < length ms → get_or ms p false ≡ false → unmarked (set ms p true) + 1 ≡ unmarked ms
unmarked-set [] p lt e = absurd (omega arith)
unmarked-set (true ∷ ms) zero lt e = absurd cc
unmarked-set (false ∷ ms) zero lt e = omega arith
unmarked-set (true ∷ ms) (suc p) lt e = unmarked-set ms p (omega arith) e
unmarked-set (false ∷ ms) (suc p) lt e = omega (arith, unmarked-set ms p (omega arith) e)

pub Marked-within : (ms : List Bool) (p : ℕ) → Marked ms p → p < length ms
Marked-within [] p h = absurd cc
Marked-within (m ∷ ms) zero h = omega arith
Marked-within (m ∷ ms) (suc p) h = omega (arith, Marked-within ms p h)

-- from s, marking places leads to t
pub record Marks (s : State) (ps : List ℕ) (t : State) : Type 0 where
  pub same_length : length t.0 ≡ length s.0
  pub stays : (q : ℕ) → Marked s.0 q → Marked t.0 q
  pub marks : (q : ℕ) → Contains ps q → Marked t.0 q
  pub only : (q : ℕ) → Marked t.0 q → Marked s.0 q ⊎ Contains ps q
  pub queue_stays : (q : ℕ) → Contains s.1 q → Contains t.1 q
  pub queue_only : (q : ℕ) → Contains t.1 q → Contains s.1 q ⊎ Contains ps q
  pub fresh : (q : ℕ) → Marked t.0 q → Marked s.0 q ⊎ Contains t.1 q
  pub count : unmarked t.0 + length t.1 ≡ unmarked s.0 + length s.1

nothing : (q : ℕ) → Contains {X = ℕ} [] q → ⊥
nothing q h = omega (arith, h.1)

marks_none : (s : State) → Marks s [] s
marks_none s = record {
  same_length = refl;
  stays = λ q h. h;
  marks = λ q h. absurd (nothing q h);
  only = λ q h. inl h;
  queue_stays = λ q h. h;
  queue_only = λ q h. inl h;
  fresh = λ q h. inl h;
  count = refl;
}

Contains-one : (p q : ℕ) → Contains (p ∷ []) q → p ≡ q
Contains-one p q h = ⊎_elim (λ none. absurd (nothing q none)) (λ e. e) (Contains-push_cases [] p q h)

marked_place : (s : State) (p : ℕ) → get_or s.0 p false ≡ true → Marks s (p ∷ []) s
marked_place s p was = record {
  same_length = refl;
  stays = λ q h. h;
  marks = λ q h. subst (λ (k : ℕ). Marked s.0 k) (Contains-one p q h) was;
  only = λ q h. inl h;
  queue_stays = λ q h. h;
  queue_only = λ q h. inl h;
  fresh = λ q h. inl h;
  count = refl;
}

only_set : (ms : List Bool) (p q : ℕ) → Marked (set ms p true) q → Marked ms q ⊎ (q ≡ p)
only_set ms p q h = ⊎_elim (λ e. inr e) (λ ne. inl (sym (get_or-set_other ms p q true false ne) ∙ h)) (cases_eq q p)

stays_set : (ms : List Bool) (p q : ℕ) → p < length ms → Marked ms q → Marked (set ms p true) q
stays_set ms p q lt h = ⊎_elim (λ e. subst (λ (k : ℕ). Marked (set ms p true) k) (sym e) (get_or-set_same ms p true false lt)) (λ ne. get_or-set_other ms p q true false ne ∙ h) (cases_eq q p)

new_place : (ms : List Bool) (work : List ℕ) (p : ℕ) → p < length ms → get_or ms p false ≡ false → Marks (ms, work) (p ∷ []) (set ms p true, work ++ p ∷ [])
new_place ms work p lt was = record {
  same_length = length-set ms p true;
  stays = λ q h. stays_set ms p q lt h;
  marks = λ q h. subst (λ (k : ℕ). Marked (set ms p true) k) (Contains-one p q h) (get_or-set_same ms p true false lt);
  only = λ q h. ⊎_elim (λ m. inl m) (λ e. inr (subst (λ (k : ℕ). Contains (p ∷ []) k) (sym e) (Contains-push [] p))) (only_set ms p q h);
  queue_stays = λ q h. Contains-append_left work (p ∷ []) q h;
  queue_only = λ q h. Contains-append_cases work (p ∷ []) q h;
  fresh = λ q h. ⊎_elim (λ m. inl m) (λ e. inr (subst (λ (k : ℕ). Contains (work ++ p ∷ []) k) (sym e) (Contains-push work p))) (only_set ms p q h);
  count = omega (arith, unmarked-set ms p lt was, length-append work (p ∷ []));
}

by_mark : (b : Bool) (s : State) (p : ℕ) → p < length s.0 → get_or s.0 p false ≡ b → Marks s (p ∷ []) (cond b s (set s.0 p true, s.1 ++ p ∷ []))
by_mark true s p lt e = marked_place s p e
by_mark false s p lt e = new_place s.0 s.1 p lt e

marks_one : (s : State) (p : ℕ) → p < length s.0 → Marks s (p ∷ []) (with_place s p)
marks_one s p lt = by_mark (get_or s.0 p false) s p lt refl

marks_then : (s : State) (ps : List ℕ) (t : State) (qs : List ℕ) (u : State) → Marks s ps t → Marks t qs u → Marks s (ps ++ qs) u
marks_then s ps t qs u a b = record {
  same_length = b.same_length ∙ a.same_length;
  stays = λ q h. b.stays q (a.stays q h);
  marks = λ q h. ⊎_elim (λ one. b.stays q (a.marks q one)) (λ two. b.marks q two) (Contains-append_cases ps qs q h);
  only = λ q h. ⊎_elim (λ m. ⊎_elim (λ n. inl n) (λ one. inr (Contains-append_left ps qs q one)) (a.only q m)) (λ two. inr (Contains-append_right ps qs q two)) (b.only q h);
  queue_stays = λ q h. b.queue_stays q (a.queue_stays q h);
  queue_only = λ q h. ⊎_elim (λ m. ⊎_elim (λ n. inl n) (λ one. inr (Contains-append_left ps qs q one)) (a.queue_only q m)) (λ two. inr (Contains-append_right ps qs q two)) (b.queue_only q h);
  fresh = λ q h. ⊎_elim (λ m. ⊎_elim (λ n. inl n) (λ c. inr (b.queue_stays q c)) (a.fresh q m)) (λ c. inr c) (b.fresh q h);
  count = b.count ∙ a.count;
}

pub marks_all : (s : State) (ps : List ℕ) → All (λ k. k < length s.0) ps → Marks s ps (with_places s ps)
marks_all s [] within = marks_none s
marks_all s (p ∷ ps) within =
    let one = marks_one s p (All-head (λ k. k < length s.0) p ps within) in
    let others : All (λ k. k < length (with_place s p).0) ps = subst (λ (n : ℕ). All (λ k. k < n) ps) (sym one.same_length) (All-tail (λ k. k < length s.0) p ps within) in
    marks_then s (p ∷ []) (with_place s p) ps (with_places (with_place s p) ps) one (marks_all (with_place s p) ps others)
