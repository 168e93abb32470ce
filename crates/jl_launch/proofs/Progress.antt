-- How far lines are written.
use Rattle.std.proofs.Common.{◌≡◌, ◌≤◌, ◌<◌, ◌+◌, ℕ, zero, suc, List, [], ◌∷◌, ◌++◌, length, take, drop, map, get_or, Option, None, Some, Ok, Err, refl, sym, ◌∙◌, ap, arith}
use Rattle.std.specs.List.{concat}
use Rattle.std.proofs.lemmas.List.{append-nil, append_assoc, take-append-drop, map-append, take_more}
use Rattle.std.proofs.lemmas.List.Folds.{concat-append}
use Rattle.jl_tree.specs.declared.sink.SinkFault.{SinkFault}
use Rattle.jl_tree.specs.Bytes.{Takes, faults_written}
use Rattle.jl_logic.specs.Counts.{raised}
use Rattle.jl_launch.specs.Writing.{grown, Writes}

-- the line but for the rest is written
pub record Progress (line rest : List ℕ) (old new : Option (List ℕ)) (before after : ℕ) : Type 0 where
  pub written : List ℕ
  pub splits : line ≡ written ++ rest
  pub taken : new ≡ grown old written
  pub counts : before ≤ after

grown_twice : (old : Option (List ℕ)) (a b : List ℕ) → grown (grown old a) b ≡ grown old (a ++ b)
grown_twice None a b = refl
grown_twice (Some w) a b = ap Some (append_assoc w a b)

grown_more : (old mid new : Option (List ℕ)) (a b : List ℕ) → mid ≡ grown old a → new ≡ grown mid b → new ≡ grown old (a ++ b)
grown_more old mid new a b e f = f ∙ ap (λ o. grown o b) e ∙ grown_twice old a b

pub goes_on : (line rest next : List ℕ) (old mid new : Option (List ℕ)) (before after later count : ℕ)
    → Progress line rest old mid before after → Takes mid rest (Ok count) new → after ≤ later → next ≡ drop count rest
    → Progress line next old new before later
goes_on line rest next old mid new before after later count p t h e = record {
  written = p.written ++ take count rest;
  splits = p.splits ∙ ap (λ r. p.written ++ r) (sym (take-append-drop count rest)) ∙ sym (append_assoc p.written (take count rest) (drop count rest)) ∙ ap (λ r. (p.written ++ take count rest) ++ r) (sym e);
  taken = grown_more old mid new p.written (take count rest) p.taken t;
  counts = omega (arith, p.counts);
}

module _ {X : Type 0} (f : X → List ℕ) where
  -- the text of one more
  pub text_more : (xs : List X) (i : ℕ) (d : X) → i < length xs → concat (map f (take (i + 1) xs)) ≡ concat (map f (take i xs)) ++ f (get_or xs i d)
  text_more xs i d h =
      ap (λ zs. concat (map f zs)) (take_more xs i d h)
      ∙ ap concat (map-append f (take i xs) (get_or xs i d ∷ []))
      ∙ concat-append (map f (take i xs)) (f (get_or xs i d) ∷ [])
      ∙ ap (λ z. concat (map f (take i xs)) ++ z) (append-nil (f (get_or xs i d)))

  text_rest : (xs : List X) (i : ℕ) → concat (map f xs) ≡ concat (map f (take i xs)) ++ concat (map f (drop i xs))
  text_rest xs i =
      ap (λ zs. concat (map f zs)) (sym (take-append-drop i xs))
      ∙ ap concat (map-append f (take i xs) (drop i xs))
      ∙ concat-append (map f (take i xs)) (map f (drop i xs))

  pub line_written : (xs : List X) (i : ℕ) (d : X) (line : List ℕ) (old mid new : Option (List ℕ))
      → i < length xs → line ≡ f (get_or xs i d) → mid ≡ grown old (concat (map f (take i xs))) → new ≡ grown mid line
      → new ≡ grown old (concat (map f (take (i + 1) xs)))
  line_written xs i d line old mid new h e m n =
      grown_more old mid new (concat (map f (take i xs))) line m n
      ∙ ap (λ t. grown old t) (ap (λ z. concat (map f (take i xs)) ++ z) e ∙ sym (text_more xs i d h))

  pub line_failed : (xs : List X) (i : ℕ) (d : X) (line : List ℕ) (old mid new : Option (List ℕ)) (fault : SinkFault)
      → i < length xs → line ≡ f (get_or xs i d) → mid ≡ grown old (concat (map f (take i xs))) → Writes mid line (Err fault) new
      → Writes old (concat (map f xs)) (Err fault) new
  line_failed xs i d line old mid new fault h e m w =
      let done : List ℕ = concat (map f (take i xs)) in
      let others : List ℕ = concat (map f (drop (i + 1) xs)) in
      let up_to : concat (map f (take (i + 1) xs)) ≡ done ++ (w.0 ++ w.1.0) = text_more xs i d h ∙ ap (λ z. done ++ z) (sym e ∙ w.1.1) in
      let whole : concat (map f xs) ≡ (done ++ w.0) ++ (w.1.0 ++ others) =
      text_rest xs (i + 1) ∙ ap (λ z. z ++ others) (up_to ∙ sym (append_assoc done w.0 w.1.0)) ∙ append_assoc (done ++ w.0) w.1.0 others in
      (done ++ w.0, (w.1.0 ++ others, whole), grown_more old mid new done w.0 m w.2)

-- ---- counts of faults

-- a write that takes something is no fault
pub written_some : (piece : List ℕ) (count n : ℕ) → 0 < count → faults_written piece (Ok count) n ≡ n
written_some piece zero n h = absurd (omega (arith, h))
written_some piece (suc count) n h = refl

-- one that takes nothing of a piece is one
pub written_none : (piece : List ℕ) (n : ℕ) → 0 < length piece → faults_written piece (Ok 0) n ≡ raised n
written_none [] n h = absurd (omega (arith, h))
written_none (b ∷ bs) n h = refl
