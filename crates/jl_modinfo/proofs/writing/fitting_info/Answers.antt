use Rattle.std.proofs.Common.{◌≡◌, true, List, [], Err, Some, sym, ap, ◌∙◌, subst}
use Rattle.std.specs.Prelude.{codes}
use Rattle.std.specs.List.{AllByRecursion}
use Rattle.jl_pool.specs.declared.constant.Constant.{Constant}
use Rattle.jl_logic.specs.Answers.{Fails}
use Rattle.jl_pool.specs.declared.constant.BuildEnd.{BuildEnd}
use Rattle.jl_pool.specs.declared.constant.BuildEnd.TheVariants as ends
use Rattle.jl_pool.specs.Builder.{IsShort, text_in, fitting, has, build_told}
use Rattle.jl_modinfo.specs.Layout.{with_all, named_constants}
use Rattle.jl_modinfo.specs.Writing.{too_many}
use Rattle.jl_modinfo.proofs.LimitLaws.{are_few}
use Rattle.jl_modinfo.proofs.NeedLaws.{refused_pool, refused_none, refused_as, accepted_unless, all_short}
use Rattle.jl_modinfo.proofs.IndexLaws.{all_there}
use Rattle.jl_modinfo.proofs.WritingLaws.{fitting_is}
use Rattle.jl_modinfo.proofs.FileWritten.{written_back, refused_never}
use Rattle.jl_modinfo.proofs.writing.fitting_info.Goals as goal

pub entered-requires : goal.entered-requires
entered-requires c =
    subst (AllByRecursion (λ (x : Constant). IsShort (text_in x))) (sym (c.deref.ensures.value ∙ c.in_ok-constants.ensures.constants)) (all_short c.args.d.now c.requires.short)

pub written-requires-clause-tables : goal.written-requires-clause-tables
written-requires-clause-tables c = are_few c.args.d.now c.requires.tables

pub returns-in-Ok : goal.returns-in-Ok
returns-in-Ok c =
    let fits = ap (λ (cs : List Constant). fitting (with_all [] cs)) (sym (c.deref.ensures.value ∙ c.in_ok-constants.ensures.constants)) ∙ c.in-Ok.ensures in
    record {
      refused = accepted_unless c.written.result (too_many c.args.d.now) c.written.ensures.memory (refused_none c.args.d.now c.in-Ok.pool c.requires.tables fits);
      back = written_back (λ bytes. bytes.items) c.written.result c.in-Ok.pool c.args.d.now
          (subst (λ (cs : List Constant). AllByRecursion (λ (x : Constant). has cs x ≡ true) (named_constants c.args.d.now)) (fitting_is (with_all [] (named_constants c.args.d.now)) c.in-Ok.pool fits).0 (all_there (named_constants c.args.d.now) []))
          (are_few c.args.d.now c.requires.tables) c.written.ensures.bytes c.written.ensures.kept c.requires.few;
    }

pub returns-in-Err-TooMany : goal.returns-in-Err-TooMany
returns-in-Err-TooMany c =
    let told : fitting (with_all [] c.deref.result.now) ≡ Err ends.TooMany =
    subst (λ (e : BuildEnd). Fails build_told e (fitting (with_all [] c.deref.result.now))) c.in-Err-TooMany.field-0-is c.in-Err-TooMany.ensures in
    let fails = ap (λ (cs : List Constant). fitting (with_all [] cs)) (sym (c.deref.ensures.value ∙ c.in_ok-constants.ensures.constants)) ∙ told in
    record {
      refused = refused_as c.too_long.result (Some (codes "pool")) (too_many c.args.d.now) (sym (refused_pool c.args.d.now c.requires.tables fails)) c.too_long.ensures;
      back = refused_never _ c.too_long.result (codes "pool") c.too_long.ensures;
    }
