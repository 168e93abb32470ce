-- All frames: what is read is spelled so, what is spelled so is read, and a fault exists exactly where no frames do.
use Rattle.std.proofs.Common.{◌≡◌, ℕ, zero, suc, ◌+◌, ◌≤◌, cond, eqb, List, [], ◌∷◌, ◌++◌, length, drop, Result, Ok, Err, refl, sym, ap, subst, ◌∙◌, append_assoc, arith}
use Rattle.std.proofs.lemmas.Bool.{cond_both, eqb-true, eqb-false}
use Rattle.std.proofs.lemmas.List.{append-nil, drop_all}
use Rattle.jl_reading.specs.Reading.{◌>>=◌, number_at, each_at, Stands, IsBytes, two}
use Rattle.jl_reading.proofs.Steps.{bind_ok, ok_is}
use Rattle.jl_reading.proofs.Stands.{Stands-parts, Stands-from_parts, Stands-nothing, Stands-then, Stands-splits, number_stands, number_again}
use Rattle.jl_frames.specs.declared.frame.Frame.{Frame}
use Rattle.jl_frames.specs.declared.fault.FrameFault.{FrameFault}
use Rattle.jl_frames.specs.declared.fault.FrameFault.TheVariants as faults
use Rattle.jl_frames.specs.Reading.{base_after, frame_at, frames_of}
use Rattle.jl_frames.specs.Grammar.{AreFrames, IsFrames}
use Rattle.jl_frames.proofs.FrameLoop.{base_after-push}
use Rattle.jl_frames.proofs.ChangeLaws.{frame_stands}
use Rattle.jl_frames.proofs.AgainLaws.{frame_again}

-- the frames that were read behind those before
record FramesStand (bytes : List ℕ) (done : List Frame) (n at : ℕ) (all : List Frame) (end : ℕ) : Type 0 where
  fs : List Frame
  parts : all ≡ done ++ fs
  count : length fs ≡ n
  text : List ℕ
  stand : Stands bytes at text end
  are : AreFrames (base_after 0 done) fs text

frames_stand : (bytes : List ℕ) → IsBytes bytes → (n : ℕ) (done : List Frame) (at : ℕ) (all : List Frame) (end : ℕ) → at ≤ length bytes → each_at (frame_at bytes) done n at ≡ Ok (all, end) → FramesStand bytes done n at all end
unfolding each_at frame_at
frames_stand bytes fits zero done at all end le e =
    let same = ok_is (done, at) (all, end) e in
    let place : at ≡ end = ap (λ (p : List Frame × ℕ). p.1) same in
    record {
      fs = [];
      parts = sym (ap (λ (p : List Frame × ℕ). p.0) same) ∙ sym (append-nil done);
      count = refl;
      text = [];
      stand = subst (λ (k : ℕ). Stands bytes at [] k) place (Stands-nothing bytes at le);
      are = refl;
    }
frames_stand bytes fits (suc n) done at all end le e =
    let a = bind_ok (frame_at bytes done at) (λ x. each_at (frame_at bytes) (done ++ x.0 ∷ []) n x.1) (all, end) e in
    let f = a.0.0 in
    let h = frame_stands (base_after 0 done) bytes at f a.0.1 fits a.1 in
    let g = frames_stand bytes fits n (done ++ f ∷ []) a.0.1 all end h.stand.within a.2 in
    let behind : AreFrames (f.offset + 1) g.fs g.text = subst (λ (base : ℕ). AreFrames base g.fs g.text) (base_after-push 0 done f) g.are in
    record {
      fs = f ∷ g.fs;
      parts = g.parts ∙ append_assoc done (f ∷ []) g.fs;
      count = ap suc g.count;
      text = h.text ++ g.text;
      stand = Stands-then bytes at h.text a.0.1 g.text end h.stand g.stand;
      are = (h.text, g.text, h.is, behind, refl);
    }

frames_again : (bytes : List ℕ) (fs done : List Frame) (at end : ℕ) (text : List ℕ) → AreFrames (base_after 0 done) fs text → Stands bytes at text end → each_at (frame_at bytes) done (length fs) at ≡ Ok (done ++ fs, end)
unfolding each_at frame_at
frames_again bytes [] done at end text are s =
    let there = subst (λ (t : List ℕ). Stands bytes at t end) are s in
    let place : at ≡ end = omega (arith, there.ends) in
    rw (append-nil done, place) refl
frames_again bytes (f ∷ fs) done at end text are s =
    let first = are.0 in
    let rest = are.1 in
    let there : Stands bytes at (first ++ rest) end = subst (λ (t : List ℕ). Stands bytes at t end) are.4 s in
    let parts = Stands-splits bytes at first rest end there in
    let read = frame_again (base_after 0 done) bytes at f first (at + length first) are.2 parts.first in
    let behind : AreFrames (base_after 0 (done ++ f ∷ [])) fs rest = subst (λ (base : ℕ). AreFrames base fs rest) (sym (base_after-push 0 done f)) are.3 in
    let more = frames_again bytes fs (done ++ f ∷ []) (at + length first) end rest behind parts.second in
    rw read (more ∙ ap (λ (all : List Frame). Ok (all, end)) (append_assoc done (f ∷ []) fs))

-- ---- the whole

ended : (end size : ℕ) (fs gs : List Frame) → cond (eqb end size) (Ok fs) (Err faults.Trailing) ≡ Ok gs → (end ≡ size) × (fs ≡ gs)
ended end size fs gs =
    cond_both (eqb end size) (Ok fs) (Err faults.Trailing) (λ (r : Result (List Frame) FrameFault). r ≡ Ok gs → (end ≡ size) × (fs ≡ gs))
    (λ h e. (eqb-true end size h, ok_is fs gs e)) (λ h e. absurd cc)

pub frames_found : (bytes : List ℕ) (fs : List Frame) → IsBytes bytes → frames_of bytes ≡ Ok fs → IsFrames bytes fs
unfolding frames_of
frames_found bytes fs fits e =
    let a = bind_ok (number_at faults.Short 2 bytes 0) (λ count. each_at (frame_at bytes) [] count.0 count.1 >>= λ read. cond (eqb read.1 (length bytes)) (Ok read.0) (Err faults.Trailing)) fs e in
    let b = bind_ok (each_at (frame_at bytes) [] a.0.0 a.0.1) (λ read. cond (eqb read.1 (length bytes)) (Ok read.0) (Err faults.Trailing)) fs a.2 in
    let z = ended b.0.1 (length bytes) b.0.0 fs b.2 in
    let s = number_stands faults.Short 2 bytes 0 a.0.0 a.0.1 fits a.1 in
    let f = frames_stand bytes fits a.0.0 [] a.0.1 b.0.0 b.0.1 s.0.within b.1 in
    let same : f.fs ≡ fs = sym f.parts ∙ z.1 in
    let size : length fs ≡ a.0.0 = sym (ap length same) ∙ f.count in
    let counted : Stands bytes 0 (two (length fs)) a.0.1 = subst (λ (n : ℕ). Stands bytes 0 (two n) a.0.1) (sym size) s.0 in
    let all = Stands-then bytes 0 (two (length fs)) a.0.1 f.text b.0.1 counted f.stand in
    let none : drop b.0.1 bytes ≡ [] = drop_all b.0.1 bytes (omega (arith, z.0)) in
    record {
      few = omega (arith, size, s.1);
      text = f.text;
      spelled = subst (λ (gs : List Frame). AreFrames 0 gs f.text) same f.are;
      whole = Stands-parts bytes 0 (two (length fs) ++ f.text) b.0.1 all ∙ ap (λ (rest : List ℕ). (two (length fs) ++ f.text) ++ rest) none ∙ append-nil (two (length fs) ++ f.text);
    }

at_end : (n : ℕ) (fs : List Frame) → cond (eqb n n) (Ok fs) (Err faults.Trailing) ≡ Ok fs
at_end n fs = cond_both (eqb n n) (Ok fs) (Err faults.Trailing) (λ (r : Result (List Frame) FrameFault). r ≡ Ok fs) (λ h. refl) (λ h. absurd (eqb-false n n h refl))

pub frames_read : (bytes : List ℕ) (fs : List Frame) → IsFrames bytes fs → frames_of bytes ≡ Ok fs
unfolding frames_of
frames_read bytes fs i =
    let whole : Stands bytes 0 (two (length fs) ++ i.text) (length bytes) = Stands-from_parts bytes 0 (two (length fs) ++ i.text) [] (length bytes) (i.whole ∙ sym (append-nil (two (length fs) ++ i.text))) (omega (arith, ap length i.whole)) (omega arith) in
    let p = Stands-splits bytes 0 (two (length fs)) i.text (length bytes) whole in
    rw (number_again faults.Short 2 bytes 0 (length fs) 2 i.few p.first, frames_again bytes fs [] 2 (length bytes) i.text i.spelled p.second) (at_end (length bytes) fs)
