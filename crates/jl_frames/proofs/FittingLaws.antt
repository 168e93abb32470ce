-- Frames that are spelled fit.
use Rattle.std.proofs.Common.{ℕ, ◌+◌, ◌<◌, List, [], ◌∷◌, length, ap, length-append, arith}
use Rattle.std.specs.List.{AllByRecursion}
use Rattle.jl_frames.specs.declared.frame.Frame.{Frame}
use Rattle.jl_frames.specs.declared.frame.Change.{Change}
use Rattle.jl_frames.specs.declared.frame.Change.TheVariants as changes
use Rattle.jl_frames.specs.declared.frame.RawItem.{RawItem}
use Rattle.jl_frames.specs.Grammar.{Spells, AreFrames, IsFrames}
use Rattle.jl_frames.specs.Fitting.{OffsetsRise, States, AreFitting}

behind : (fs : List Frame) (k base : ℕ) (text : List ℕ) → k < base → AreFrames base fs text → AllByRecursion (λ (later : Frame). k < later.offset) fs
behind [] k base text lt are = tt
behind (f ∷ fs) k base text lt are = (omega (arith, lt, are.2.placed), behind fs k (f.offset + 1) are.1 (omega (arith, lt, are.2.placed)) are.3)

rising : (fs : List Frame) (base : ℕ) (text : List ℕ) → AreFrames base fs text → OffsetsRise fs
rising [] base text are = tt
rising (f ∷ fs) base text are = (behind fs f.offset (f.offset + 1) are.1 (omega arith) are.3, rising fs (f.offset + 1) are.1 are.3)

stated_by : (delta : ℕ) (change : Change) (stated : List RawItem) (text : List ℕ) → Spells delta change stated text → States change (length stated)
stated_by delta changes.Same stated text s = ap length s.0
stated_by delta changes.One stated text s = s.0
stated_by delta (changes.Chop k) stated text s = (s.1, s.2, ap length s.0)
stated_by delta changes.Append stated text s = (s.0, s.1)
stated_by delta (changes.Full n) stated text s =
    let all = ap length s.parts in
    let both = length-append s.locals s.stack in
    (omega (arith, all, both, s.locals_counted), omega (arith, all, both, s.locals_counted, s.small_stack))

all_stated : (fs : List Frame) (base : ℕ) (text : List ℕ) → AreFrames base fs text → AllByRecursion (λ (f : Frame). States f.change (length f.items)) fs
all_stated [] base text are = tt
all_stated (f ∷ fs) base text are = (stated_by are.2.delta f.change f.items are.0 are.2.spelled, all_stated fs (f.offset + 1) are.1 are.3)

pub frames_fit : (bytes : List ℕ) (fs : List Frame) → IsFrames bytes fs → AreFitting fs
frames_fit bytes fs i = record { rise = rising fs 0 i.text i.spelled; stated = all_stated fs 0 i.text i.spelled }
