use Rattle.std.proofs.Common.{◌≡◌, ◌∙◌, ◌<◌, ◌≤◌, ◌+◌, ◌⊎◌, inl, inr, ⊎_elim, sym, subst, length, true, false}
use Rattle.std.proofs.lemmas.Bool.{cases_lt}
use Rattle.jl_prim.specs.Limits.{most_modules}
use Rattle.jl_config.specs.Located.{configuration_of}
use Rattle.jl_layer.specs.Defining.{Asked}
use Rattle.jl_layer.specs.Deciding.{Settles, StartsAt}
use Rattle.jl_layer.specs.Refusals.{Applies}
use Rattle.jl_layer.proofs.Decisions.{too_many, not_many}
use Rattle.jl_layer.proofs.registry.Registry.refusal.Goals as goal

pub returns-in-Some : goal.returns-in-Some
returns-in-Some c = λ parent.
    let q : Asked = record { config = c.args.cf; parents = c.args.parents.now; mode = c.args.mode; parent_loader = parent } in
    subst (Settles (Applies c.args.self.now q) 3) c.in-Some.is (c.in_ok-fault.ensures c.args.mode parent)

pub returns-in-Some-2 : goal.returns-in-Some-2
returns-in-Some-2 c = λ parent.
    let q : Asked = record { config = c.args.cf; parents = c.args.parents.now; mode = c.args.mode; parent_loader = parent } in
    let start : StartsAt (Applies c.args.self.now q) 3 = subst (Settles (Applies c.args.self.now q) 3) c.in_default.is (c.in_ok-fault.ensures c.args.mode parent) in
    subst (Settles (Applies c.args.self.now q) 5) c.in-Some-2.is (c.in_ok-fault-2.ensures parent start)

pub returns-then-are_many : goal.returns-then-are_many
returns-then-are_many c = λ parent.
    let q : Asked = record { config = c.args.cf; parents = c.args.parents.now; mode = c.args.mode; parent_loader = parent } in
    let start : StartsAt (Applies c.args.self.now q) 3 = subst (Settles (Applies c.args.self.now q) 3) c.in_default.is (c.in_ok-fault.ensures c.args.mode parent) in
    let before : StartsAt (Applies c.args.self.now q) 5 = subst (Settles (Applies c.args.self.now q) 5) c.in_default-2.is (c.in_ok-fault-2.ensures parent start) in
    too_many c.args.self.now q before (c.are_many.ensures.0 c.if-are_many.true)

pub returns : goal.returns
returns c = λ parent.
    let s = c.args.self.now in
    let q : Asked = record { config = c.args.cf; parents = c.args.parents.now; mode = c.args.mode; parent_loader = parent } in
    let start : StartsAt (Applies s q) 3 = subst (Settles (Applies s q) 3) c.in_default.is (c.in_ok-fault.ensures c.args.mode parent) in
    let before : StartsAt (Applies s q) 5 = subst (Settles (Applies s q) 5) c.in_default-2.is (c.in_ok-fault-2.ensures parent start) in
    let sum = length s.modules + length (configuration_of s.configurations c.args.cf).modules in
    let few : (most_modules < sum) ⊎ (most_modules ≤ length s.layers) → ⊥ = λ h. let t : true ≡ false = sym (c.are_many.ensures.1 h) ∙ c.if-are_many.false in absurd cc in
    not_many s q before (⊎_elim (λ lt. absurd (few (inl lt))) (λ le. le) (cases_lt most_modules sum)) (⊎_elim (λ lt. lt) (λ le. absurd (few (inr le))) (cases_lt (length s.layers) most_modules))
