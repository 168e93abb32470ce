use Rattle.std.proofs.Common.{◌∙◌, sym, subst, Some, None}
use Rattle.std.specs.Prelude.{Contains}
use Rattle.jl_logic.specs.Order.{name_cmp}
use Rattle.jl_config.specs.Located.{configuration_of}
use Rattle.jl_config.specs.Places.{IsLeastSome}
use Rattle.jl_layer.specs.Defining.{Asked}
use Rattle.jl_layer.specs.Deciding.{StartsAt, java_packages}
use Rattle.jl_layer.specs.Refusals.{Applies}
use Rattle.jl_layer.proofs.Decisions.{no_mismatch, no_base, base_again}
use Rattle.jl_layer.proofs.Refusing.{base_says, base_unsaid, java_decided}
use Rattle.jl_layer.proofs.registry.Registry.early.Goals as goal

pub returns-then-has_base : goal.returns-then-has_base
returns-then-has_base c = λ mode parent.
    let s = c.args.self.now in
    let q : Asked = record { config = c.args.cf; parents = c.args.parents.now; mode = mode; parent_loader = parent } in
    base_again s q (no_mismatch s q (c.are_parents.ensures.0 c.if-not-are_parents.false)) (base_says (configuration_of s.configurations c.args.cf).modules (sym c.has_base.ensures ∙ c.if-has_base.true))

pub returns-in-Some : goal.returns-in-Some
returns-in-Some c = λ mode parent.
    let s = c.args.self.now in
    let q : Asked = record { config = c.args.cf; parents = c.args.parents.now; mode = mode; parent_loader = parent } in
    let os = (configuration_of s.configurations c.args.cf).modules in
    let before : StartsAt (Applies s q) 2 =
    no_base s q (no_mismatch s q (c.are_parents.ensures.0 c.if-not-are_parents.false)) (base_unsaid os (sym c.has_base.ensures ∙ c.if-has_base.false)) in
    java_decided s q (Some c.in-Some.package) before (subst (IsLeastSome name_cmp (Contains (java_packages os))) c.in-Some.is c.in_ok-package.ensures)

pub returns-in-None : goal.returns-in-None
returns-in-None c = λ mode parent.
    let s = c.args.self.now in
    let q : Asked = record { config = c.args.cf; parents = c.args.parents.now; mode = mode; parent_loader = parent } in
    let os = (configuration_of s.configurations c.args.cf).modules in
    let before : StartsAt (Applies s q) 2 =
    no_base s q (no_mismatch s q (c.are_parents.ensures.0 c.if-not-are_parents.false)) (base_unsaid os (sym c.has_base.ensures ∙ c.if-has_base.false)) in
    java_decided s q None before (subst (IsLeastSome name_cmp (Contains (java_packages os))) c.in-None.is c.in_ok-package.ensures)
