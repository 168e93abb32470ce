use Rattle.std.proofs.Common.{◌≡◌, ◌∙◌, ap, sym, subst, Ok, Err, Some, length, slice_get, [], ◌+◌, arith}
use Rattle.std.proofs.lemmas.Option.{slice_get-get_or}
use Rattle.std.specs.Option.{option_copied}
use Rattle.jl_loaders.specs.Loaders.{lead}
use Rattle.jl_loads.specs.Ends.{Leaves}
use Rattle.jl_loads.specs.Loading.{interfaces_behind, superclass, supertype}
use Rattle.jl_loads.specs.declared.role.Role.TheVariants.{Superinterface}
use Rattle.std.proofs.lemmas.Result.{err_from_is_err_and}
use Rattle.jl_loads.specs.Steps.{loads_above}
use Rattle.jl_loads.proofs.Leaving.{keeps_on, leaves_nowhere, leaves_load_in, leaves_made, unread_made, linked_end, linked_ends, superclass_end, supertype_end}
use Rattle.jl_loads.proofs.Interfaces.{IsSoFar, so_far_more, so_far_end, so_far_all}
use Rattle.std.specs.Prelude.{Contains}
use Rattle.jl_loads.specs.Steps.{StayFree}
use Rattle.jl_loads.specs.Worlds.{Loaded}
use Rattle.jl_loads.proofs.KeptFiles.{asks_later}
use Rattle.jl_loads.proofs.Waiting.{asks_on, free_on, linked_free, linked_new, more_there, rose_on}
use Rattle.jl_loads.proofs.loads.Loads.+load.Goals as goal

pub link-returns-in_err-superclass-clause-loads : goal.link-returns-in_err-superclass-clause-loads
link-returns-in_err-superclass-clause-loads g t c = λ files e.
    let p = err_from_is_err_and c.from_residual.result c.from_residual.ensures.1 in
    rw (p.1, p.2) (linked_end (loads_above c.args.fewer files c.args.at c.args.waiting.now.items c.args.key) c.args.at c.args.self.now c.args.new c.in_err-superclass.field-0.0 c.load_superclass.new.self (c.in_err-superclass.ensures.loads files e))

pub link-returns-in_err-interfaces-clause-loads : goal.link-returns-in_err-interfaces-clause-loads
link-returns-in_err-interfaces-clause-loads g t c = λ files e.
    let p = err_from_is_err_and c.from_residual-in_err-interfaces.result c.from_residual-in_err-interfaces.ensures.1 in
    let rest = subst (λ ws. Leaves (interfaces_behind (loads_above c.args.fewer files c.args.at ws c.args.key) c.args.at c.args.new c.load_superclass.new.self [] c.args.new.declared.interfaces) (Err c.in_err-interfaces.field-0.0) c.load_interfaces.new.self) c.in_ok-superclass.ensures.waiting (c.in_err-interfaces.ensures.loads files (c.load_superclass.ensures.same_files ∙ e)) in
    rw (p.1, p.2) (linked_ends (loads_above c.args.fewer files c.args.at c.args.waiting.now.items c.args.key) c.args.at c.args.self.now c.args.new c.in_ok-superclass.superclass c.in_err-interfaces.field-0.0 c.load_superclass.new.self c.load_interfaces.new.self (c.in_ok-superclass.ensures.loads files e) rest)

pub load_by-returns-in-None-clause-loads : goal.load_by-returns-in-None-clause-loads
load_by-returns-in-None-clause-loads g t c = λ files e.
    leaves_nowhere c.args.more files c.args.at c.args.waiting.now.items c.args.self.now c.args.loader c.args.name.now c.of_class.result (sym c.in-None.is ∙ c.lead.ensures.leads ∙ ap (lead c.args.self.now.layers.loaders c.args.loader) c.as_bytes.ensures) c.of_class.ensures

pub load_by-returns-in-Some-clause-loads : goal.load_by-returns-in-Some-clause-loads
load_by-returns-in-Some-clause-loads g t c = λ files e.
    leaves_load_in c.args.more files c.args.at c.args.waiting.now.items c.args.self.now c.args.loader c.args.name.now c.in-Some.home c.load_in.result c.load_in.new.self
    (sym c.in-Some.is ∙ c.lead.ensures.leads ∙ ap (lead c.args.self.now.layers.loaders c.args.loader) c.as_bytes.ensures) (c.load_in.ensures.loads files e)

pub load_superclass-returns-in_err-c-in-Some-clause-loads : goal.load_superclass-returns-in_err-c-in-Some-clause-loads
load_superclass-returns-in_err-c-in-Some-clause-loads g t c = λ files e.
    let p = err_from_is_err_and c.from_residual.result c.from_residual.ensures.1 in
    let named = ap (λ d. d.super_name) (sym (c.deref.ensures ∙ c.declared.ensures)) ∙ sym c.super_name.ensures ∙ ap option_copied c.in-Some.is in
    rw (p.1, p.2) (subst (λ o. Leaves (superclass (loads_above c.args.fewer files c.args.at c.args.waiting.now.items c.args.key.now) c.args.at c.args.new.now c.args.self.now o) (Err c.in_err-c-in-Some.field-0.0) c.load_supertype.new.self) (sym named)
    (superclass_end (loads_above c.args.fewer files c.args.at c.args.waiting.now.items c.args.key.now) c.args.at c.args.new.now c.args.self.now c.in-Some.name.now c.in_err-c-in-Some.field-0.0 c.load_supertype.new.self (c.in_err-c-in-Some.ensures.loads files e)))

pub load_supertype-returns-in_err-c-clause-loads : goal.load_supertype-returns-in_err-c-clause-loads
load_supertype-returns-in_err-c-clause-loads g t c = λ files e.
    let p = err_from_is_err_and c.from_residual.result c.from_residual.ensures.1 in
    rw (p.1, p.2) (supertype_end (loads_above c.args.fewer files c.args.at c.args.waiting.now.items c.args.key.now) c.args.at c.args.new.now c.args.self.now c.args.role c.args.name.now c.in_err-c.field-0.0 c.load_by.new.self (c.in_err-c.ensures.loads files e))

pub make-returns-in_err-c-clause-loads : goal.make-returns-in_err-c-clause-loads
make-returns-in_err-c-clause-loads g t c = λ files e.
    let p = err_from_is_err_and c.from_residual-in_err-c.result c.from_residual-in_err-c.ensures.1 in
    rw (p.1, p.2) (leaves_made c.args.fewer files c.args.at c.args.waiting.now.items c.wait_for.new.waiting.items c.args.self.now c.args.key c.args.home c.in_ok-class.class (Err c.in_err-c.field-0.0) c.read_unlinked.new.self c.link.new.self (c.in_ok-class.ensures.reads files e)
    c.in_ok-wait_for.ensures.items (c.in_err-c.ensures.loads files (c.read_unlinked.ensures.same_files ∙ e)))

pub make-returns-clause-loads : goal.make-returns-clause-loads
make-returns-clause-loads g t c = λ files e.
    (leaves_made c.args.fewer files c.args.at c.args.waiting.now.items c.wait_for.new.waiting.items c.args.self.now c.args.key c.args.home c.in_ok-class.class (Ok c.in_ok-c.c) c.read_unlinked.new.self c.link.new.self (c.in_ok-class.ensures.reads files e)
    c.in_ok-wait_for.ensures.items (c.in_ok-c.ensures.loads files (c.read_unlinked.ensures.same_files ∙ e)))

pub load_interfaces-returns-in_err-c-clause-loads : goal.load_interfaces-returns-in_err-c-clause-loads
load_interfaces-returns-in_err-c-clause-loads g t c = λ files e.
    let p = err_from_is_err_and c.from_residual.result c.from_residual.ensures.1 in
    let named : c.interfaces-names.result.now ≡ c.args.new.now.declared.interfaces = c.interfaces-names.ensures ∙ ap (λ d. d.interfaces) (c.deref.ensures ∙ c.declared.ensures) in
    let here : slice_get c.interfaces-names.result.now c.loop-name.name-index ≡ Some c.name-item.result = slice_get-get_or c.interfaces-names.result.now c.loop-name.name-index c.name-item.result c.loop-name-test.true ∙ ap Some (sym c.name-item.is) in
    rw (p.1, p.2) (subst (λ ns. Leaves (interfaces_behind (loads_above c.args.fewer files c.args.at c.args.waiting.now.items c.args.key.now) c.args.at c.args.new.now c.args.self.now [] ns) (Err c.in_err-c.field-0.0) c.load_supertype.new.self) named
    (so_far_end (g.T.Tree.files c.args.tree.now) (λ fs. loads_above c.args.fewer fs c.args.at c.args.waiting.now.items c.args.key.now) c.args.at c.args.new.now c.args.self.now c.interfaces-names.result.now c.loop-name.name-index c.loop-name.self c.load_supertype.new.self c.loop-name.found.items c.name-item.result c.in_err-c.field-0.0 c.loop-name.invariant.0 here
    (λ fs is. subst (λ ws. Leaves (supertype (loads_above c.args.fewer fs c.args.at ws c.args.key.now) c.args.at c.args.new.now c.loop-name.self Superinterface c.name-item.result) (Err c.in_err-c.field-0.0) c.load_supertype.new.self) c.loop-name.invariant.1 (c.in_err-c.ensures.loads fs (c.loop-name.invariant.2 ∙ is))) files e))

pub load_interfaces-loop-name-preserved : goal.load_interfaces-loop-name-preserved
load_interfaces-loop-name-preserved g t c =
    let here : slice_get c.interfaces-names.result.now c.loop-name.name-index ≡ Some c.name-item.result = slice_get-get_or c.interfaces-names.result.now c.loop-name.name-index c.name-item.result c.loop-name-test.true ∙ ap Some (sym c.name-item.is) in (
      subst (IsSoFar (g.T.Tree.files c.args.tree.now) (λ fs. loads_above c.args.fewer fs c.args.at c.args.waiting.now.items c.args.key.now) c.args.at c.args.new.now c.args.self.now c.interfaces-names.result.now (c.loop-name.name-index + 1) c.load_supertype.new.self) (sym c.in_ok-push.ensures.items)
          (so_far_more (g.T.Tree.files c.args.tree.now) (λ fs. loads_above c.args.fewer fs c.args.at c.args.waiting.now.items c.args.key.now) c.args.at c.args.new.now c.args.self.now c.interfaces-names.result.now c.loop-name.name-index c.loop-name.self c.load_supertype.new.self c.loop-name.found.items c.name-item.result c.in_ok-c.c c.loop-name.invariant.0 here
          (λ fs is. subst (λ ws. supertype (loads_above c.args.fewer fs c.args.at ws c.args.key.now) c.args.at c.args.new.now c.loop-name.self Superinterface c.name-item.result ≡ (c.load_supertype.new.self, Ok c.in_ok-c.c)) c.loop-name.invariant.1 (c.in_ok-c.ensures.loads fs (c.loop-name.invariant.2 ∙ is)))
          c.load_supertype.ensures.keeps),
      c.in_ok-c.ensures.waiting ∙ c.loop-name.invariant.1,
      c.load_supertype.ensures.same_files ∙ c.loop-name.invariant.2,
      omega (arith, c.load_supertype.ensures.counts, c.loop-name.invariant.3),
      asks_on c.args.self.now c.loop-name.self c.load_supertype.new.self (g.T.Tree.asked c.args.tree.now) (g.T.Tree.asked c.loop-name.tree) (g.T.Tree.asked c.load_supertype.new.tree) c.loop-name.invariant.0.keeps c.load_supertype.ensures.keeps c.loop-name.invariant.4 c.load_supertype.ensures.asks,
      more_there c.loop-name.self c.load_supertype.new.self c.loop-name.found.items c.push.new.self.items c.in_ok-c.c c.load_supertype.ensures.keeps c.loop-name.invariant.5 c.in_ok-c.ensures.there c.in_ok-push.ensures.items,
      free_on c.args.waiting.now.items c.args.self.now c.loop-name.self c.load_supertype.new.self c.loop-name.invariant.6 (subst (λ ws. StayFree ws c.loop-name.self c.load_supertype.new.self) c.loop-name.invariant.1 c.in_ok-c.ensures.free),
    )

pub load_interfaces-returns-clause-loads : goal.load_interfaces-returns-clause-loads
load_interfaces-returns-clause-loads g t c = λ files e.
    let named : c.interfaces-names.result.now ≡ c.args.new.now.declared.interfaces = c.interfaces-names.ensures ∙ ap (λ d. d.interfaces) (c.deref.ensures ∙ c.declared.ensures) in
    let ended : c.loop-name.name-index ≡ length c.interfaces-names.result.now = omega (arith, c.loop-name-test.false, c.loop-name.auto.name-index-end) in
    ap (interfaces_behind (loads_above c.args.fewer files c.args.at c.args.waiting.now.items c.args.key.now) c.args.at c.args.new.now c.args.self.now []) (sym named)
    ∙ so_far_all (g.T.Tree.files c.args.tree.now) (λ fs. loads_above c.args.fewer fs c.args.at c.args.waiting.now.items c.args.key.now) c.args.at c.args.new.now c.args.self.now c.interfaces-names.result.now c.loop-name.self c.loop-name.found.items (subst (λ k. IsSoFar (g.T.Tree.files c.args.tree.now) (λ fs. loads_above c.args.fewer fs c.args.at c.args.waiting.now.items c.args.key.now) c.args.at c.args.new.now c.args.self.now c.interfaces-names.result.now k c.loop-name.self c.loop-name.found.items) ended c.loop-name.invariant.0) files e
    ∙ ap (λ r. (c.loop-name.self, Ok r)) (sym c.from_vec.ensures)

-- ---- what was asked for, and what is there

pub link-returns-in_err-interfaces-clause-asks : goal.link-returns-in_err-interfaces-clause-asks
link-returns-in_err-interfaces-clause-asks g t c =
    asks_on c.args.self.now c.load_superclass.new.self c.load_interfaces.new.self (g.T.Tree.asked c.args.tree.now) (g.T.Tree.asked c.load_superclass.new.tree) (g.T.Tree.asked c.load_interfaces.new.tree)
    c.load_superclass.ensures.keeps c.load_interfaces.ensures.keeps c.load_superclass.ensures.asks c.load_interfaces.ensures.asks

pub link-add_class-requires-clause-new : goal.link-add_class-requires-clause-new
link-add_class-requires-clause-new g t c =
    linked_new c.args.self.now c.load_superclass.new.self c.load_interfaces.new.self c.args.key c.args.new c.under.result c.in_ok-superclass.superclass c.in_ok-interfaces.interfaces c.args.waiting.now.items
    c.requires.new c.load_superclass.ensures.keeps c.load_interfaces.ensures.keeps c.requires.waits c.requires.fresh
    c.in_ok-superclass.ensures.free (subst (λ ws. StayFree ws c.load_superclass.new.self c.load_interfaces.new.self) c.in_ok-superclass.ensures.waiting c.in_ok-interfaces.ensures.free)
    c.in_ok-superclass.ensures.there c.in_ok-interfaces.ensures.there c.under.ensures

pub link-returns-clause-keeps : goal.link-returns-clause-keeps
link-returns-clause-keeps g t c =
    keeps_on c.args.self.now c.load_interfaces.new.self c.add_class.new.self
    (keeps_on c.args.self.now c.load_superclass.new.self c.load_interfaces.new.self c.load_superclass.ensures.keeps c.load_interfaces.ensures.keeps) c.add_class.ensures.keeps

pub link-returns-clause-asks : goal.link-returns-clause-asks
link-returns-clause-asks g t c =
    asks_later c.args.self.now c.load_interfaces.new.self c.add_class.new.self (g.T.Tree.asked c.args.tree.now) (g.T.Tree.asked c.load_interfaces.new.tree) c.add_class.ensures.keeps
    (asks_on c.args.self.now c.load_superclass.new.self c.load_interfaces.new.self (g.T.Tree.asked c.args.tree.now) (g.T.Tree.asked c.load_superclass.new.tree) (g.T.Tree.asked c.load_interfaces.new.tree)
    c.load_superclass.ensures.keeps c.load_interfaces.ensures.keeps c.load_superclass.ensures.asks c.load_interfaces.ensures.asks)

pub link-returns-clause-free : goal.link-returns-clause-free
link-returns-clause-free g t c =
    let more = subst (λ ws. StayFree ws c.load_superclass.new.self c.load_interfaces.new.self) c.in_ok-superclass.ensures.waiting c.in_ok-interfaces.ensures.free in
    linked_free c.args.self.now c.load_superclass.new.self c.load_interfaces.new.self c.add_class.new.self c.args.key c.under.result c.add_class.result c.args.waiting.now.items
    (linked_new c.args.self.now c.load_superclass.new.self c.load_interfaces.new.self c.args.key c.args.new c.under.result c.in_ok-superclass.superclass c.in_ok-interfaces.interfaces c.args.waiting.now.items
    c.requires.new c.load_superclass.ensures.keeps c.load_interfaces.ensures.keeps c.requires.waits c.requires.fresh c.in_ok-superclass.ensures.free more c.in_ok-superclass.ensures.there c.in_ok-interfaces.ensures.there c.under.ensures)
    (c.requires.new.loader ∙ sym (ap (λ (x : Loaded). x.loader) c.under.ensures)) (c.requires.new.name ∙ sym (ap (λ (x : Loaded). x.declared.name) c.under.ensures))
    c.in_ok-superclass.ensures.free more c.add_class.ensures.defines

pub load_interfaces-returns-in_err-c-clause-asks : goal.load_interfaces-returns-in_err-c-clause-asks
load_interfaces-returns-in_err-c-clause-asks g t c =
    asks_on c.args.self.now c.loop-name.self c.load_supertype.new.self (g.T.Tree.asked c.args.tree.now) (g.T.Tree.asked c.loop-name.tree) (g.T.Tree.asked c.load_supertype.new.tree)
    c.loop-name.invariant.0.keeps c.load_supertype.ensures.keeps c.loop-name.invariant.4 c.load_supertype.ensures.asks

pub load_interfaces-returns-in_err-push-clause-asks : goal.load_interfaces-returns-in_err-push-clause-asks
load_interfaces-returns-in_err-push-clause-asks g t c =
    asks_on c.args.self.now c.loop-name.self c.load_supertype.new.self (g.T.Tree.asked c.args.tree.now) (g.T.Tree.asked c.loop-name.tree) (g.T.Tree.asked c.load_supertype.new.tree)
    c.loop-name.invariant.0.keeps c.load_supertype.ensures.keeps c.loop-name.invariant.4 c.load_supertype.ensures.asks

pub load_interfaces-returns-clause-there : goal.load_interfaces-returns-clause-there
load_interfaces-returns-clause-there g t c = λ d h. c.loop-name.invariant.5 d (subst (λ l. Contains l d) c.from_vec.ensures h)

pub load_supertype-returns-clause-keeps : goal.load_supertype-returns-clause-keeps
load_supertype-returns-clause-keeps g t c = keeps_on c.args.self.now c.load_by.new.self c.accept.new.self c.load_by.ensures.keeps c.accept.ensures.keeps

pub load_supertype-returns-clause-asks : goal.load_supertype-returns-clause-asks
load_supertype-returns-clause-asks g t c =
    asks_later c.args.self.now c.load_by.new.self c.accept.new.self (g.T.Tree.asked c.args.tree.now) (g.T.Tree.asked c.load_by.new.tree) c.accept.ensures.keeps c.load_by.ensures.asks

pub make-returns-in_err-class-clause-loads : goal.make-returns-in_err-class-clause-loads
make-returns-in_err-class-clause-loads g t c = λ files e.
    let p = err_from_is_err_and c.from_residual.result c.from_residual.ensures.1 in
    rw (p.1, p.2) (unread_made c.args.fewer files c.args.at c.args.waiting.now.items c.args.self.now c.args.key c.args.home c.in_err-class.field-0.0 c.read_unlinked.new.self (c.in_err-class.ensures.reads files e))

pub make-returns-in_err-c-clause-asks : goal.make-returns-in_err-c-clause-asks
make-returns-in_err-c-clause-asks g t c =
    asks_on c.args.self.now c.read_unlinked.new.self c.link.new.self (g.T.Tree.asked c.args.tree.now) (g.T.Tree.asked c.read_unlinked.new.tree) (g.T.Tree.asked c.link.new.tree)
    c.read_unlinked.ensures.keeps c.link.ensures.keeps c.read_unlinked.ensures.asks c.link.ensures.asks

pub make-returns-in_err-c-clause-read_fault : goal.make-returns-in_err-c-clause-read_fault
make-returns-in_err-c-clause-read_fault g t c =
    let p = err_from_is_err_and c.from_residual-in_err-c.result c.from_residual-in_err-c.ensures.1 in
    rw (p.1, p.2) (λ h. rose_on (g.T.Tree.faults c.args.tree.now) (g.T.Tree.faults c.read_unlinked.new.tree) (g.T.Tree.faults c.link.new.tree) c.read_unlinked.ensures.counts c.link.ensures.counts (c.in_err-c.ensures.read_fault h))

pub make-returns-clause-asks : goal.make-returns-clause-asks
make-returns-clause-asks g t c =
    asks_on c.args.self.now c.read_unlinked.new.self c.link.new.self (g.T.Tree.asked c.args.tree.now) (g.T.Tree.asked c.read_unlinked.new.tree) (g.T.Tree.asked c.link.new.tree)
    c.read_unlinked.ensures.keeps c.link.ensures.keeps c.read_unlinked.ensures.asks c.link.ensures.asks
