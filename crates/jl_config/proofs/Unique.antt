-- A resolution has one answer.
use Rattle.std.proofs.Common.{◌≡◌, ◌≢◌, List, refl, sym, ◌∙◌, ap, subst, Contains, Result, Ok, Err}
use Rattle.jl_prim.specs.declared.declaration.Observed.{Observed}
use Rattle.jl_logic.specs.Order.{IsLeast}
use Rattle.jl_logic.proofs.Rising.{same_rising, same_least}
use Rattle.jl_config.specs.declared.configuration.Read.{Read}
use Rattle.jl_config.specs.declared.fault.ResolveFault.{ResolveFault}
use Rattle.jl_config.specs.declared.fault.ResolveFault.TheVariants.{NoMemory}
use Rattle.jl_config.specs.Configurations.{Configuration}
use Rattle.jl_config.specs.Located.{Asked, Scene, scene_of}
use Rattle.jl_config.specs.Orders.{module_cmp, read_cmp}
use Rattle.jl_config.specs.Refusals.{Applies, fault_cmp}
use Rattle.jl_config.specs.Resolves.{Resolves, AreModules, AreReads, IsConfigurationOf, new_candidate}
use Rattle.jl_config.proofs.FaultOrder.{fault_total, fault_exact, modules_apart, reads_apart}

-- ---- what a refusal tells

pub least_told : (q : Asked) (f : ResolveFault) → f ≢ NoMemory → Resolves q (Err f) → IsLeast fault_cmp (Applies q) f
least_told q NoMemory n r = absurd (n refl)
least_told q f n r = r

pub told_by_least : (q : Asked) (f : ResolveFault) → IsLeast fault_cmp (Applies q) f → Resolves q (Err f)
told_by_least q NoMemory l = tt
told_by_least q f l = l

-- ---- two answers

same_modules : (q : Asked) (os ps : List Observed) → AreModules q os → AreModules q ps → os ≡ ps
same_modules q os ps a b = same_rising module_cmp modules_apart os ps a.rise b.rise (λ o c. b.all (new_candidate q o) (a.only o c)) (λ o c. a.all (new_candidate q o) (b.only o c))

reads_into : (w : Scene) (rs ss : List Read) → AreReads w rs → AreReads w ss → (r : Read) → Contains rs r → Contains ss r
reads_into w rs ss a b r c =
    let k = a.only r c in
    subst (Contains ss) (sym k.4) (b.all k.0 k.1 k.2 k.3)

same_reads : (w : Scene) (rs ss : List Read) → AreReads w rs → AreReads w ss → rs ≡ ss
same_reads w rs ss a b = same_rising read_cmp reads_apart rs ss a.rise b.rise (reads_into w rs ss a b) (reads_into w ss rs b a)

same_configuration : (q : Asked) (g h : Configuration) → IsConfigurationOf q g → IsConfigurationOf q h → g ≡ h
same_configuration q g h a b =
    let ids : g.id ≡ h.id = a.number ∙ sym b.number in
    let parents : g.parents ≡ h.parents = a.given ∙ sym b.given in
    let modules = same_modules q g.modules h.modules a.modules b.modules in
    let reads = same_reads (scene_of q) g.reads h.reads a.reads b.reads in
    λ i. record { id = ids i; parents = parents i; modules = modules i; reads = reads i }

pub resolves_once : (q : Asked) (r s : Result Configuration ResolveFault) → Resolves q r → Resolves q s → r ≢ Err NoMemory → s ≢ Err NoMemory → r ≡ s
resolves_once q (Ok g) (Ok h) a b n m = ap Ok (same_configuration q g h a.1 b.1)
resolves_once q (Ok g) (Err f) a b n m = absurd (a.0 f (least_told q f (λ e. m (ap Err e)) b).has)
resolves_once q (Err f) (Ok h) a b n m = absurd (b.0 f (least_told q f (λ e. n (ap Err e)) a).has)
resolves_once q (Err f) (Err g) a b n m =
    ap Err (same_least fault_cmp fault_total fault_exact (Applies q) f g (least_told q f (λ e. n (ap Err e)) a) (least_told q g (λ e. m (ap Err e)) b))
