-- How what verify answers is put together from its parts.
use Rattle.std.proofs.Common.{◌≡◌, ℕ, List, [], Result, Ok, Err, refl, sym, subst}
use Rattle.jl_code.specs.declared.code.Instr.{Instr}
use Rattle.jl_class.specs.Classes.{Class as ClassFile}
use Rattle.jl_class.specs.declared.member.MethodDecl.{MethodDecl}
use Rattle.jl_class.specs.declared.member.CodeBytes.{CodeBytes}
use Rattle.jl_vtypes.specs.declared.question.Asked.{Asked}
use Rattle.jl_verify.specs.Checks.{judged_made, AnswersOrNoMemory}
use Rattle.jl_verify.specs.Judging.{IsDeclared}
use Rattle.jl_verify.specs.declared.declared_frame.DeclaredFrame.{DeclaredFrame}
use Rattle.jl_verify.specs.declared.rule.CheckRule.{CheckRule}
use Rattle.jl_verify.specs.declared.rule.CheckRule.TheVariants as rules
use Rattle.jl_verify.specs.declared.fault.VerifyFault.{VerifyFault}
use Rattle.jl_verify.specs.declared.fault.VerifyFault.TheVariants as faults

module _ {S : Type 0} (step : S → Asked → S → Type 0) where
  -- no declared frames are made
  pub not_declared : (c : ClassFile) (m : MethodDecl) (code : CodeBytes) (instrs : List Instr) (defined : Result (List DeclaredFrame) ℕ) (e : VerifyFault) (s : S) → IsDeclared (Err e) defined
      → AnswersOrNoMemory step (judged_made c m code instrs defined) s (Err e) s
  not_declared c m code instrs defined (faults.Code f) s h = absurd h
  not_declared c m code instrs defined (faults.Frames f) s h = absurd h
  not_declared c m code instrs defined (faults.NotTyped at rule) s h = by rule h
    where
      by : (rule : CheckRule) → IsDeclared (Err (faults.NotTyped at rule)) defined → AnswersOrNoMemory step (judged_made c m code instrs defined) s (Err (faults.NotTyped at rule)) s
      by rules.Frame e = subst (λ (d : Result (List DeclaredFrame) ℕ). AnswersOrNoMemory step (judged_made c m code instrs d) s (Err (faults.NotTyped at rules.Frame)) s) (sym e) (refl, refl)
      by rules.NoFrame e = absurd e
      by rules.Handler e = absurd e
      by rules.Operand e = absurd e
      by rules.Init e = absurd e
      by rules.Overflow e = absurd e
      by rules.Target e = absurd e
      by rules.End e = absurd e
  not_declared c m code instrs defined (faults.ClassMissing name kind message) s h = absurd h
  not_declared c m code instrs defined faults.ReadFault s h = absurd h
  not_declared c m code instrs defined faults.NoMemory s h = ([], refl)

  -- the declared frames are made
  pub by_declared : (c : ClassFile) (m : MethodDecl) (code : CodeBytes) (instrs : List Instr) (declared shown : List DeclaredFrame) (defined : Result (List DeclaredFrame) ℕ)
      → defined ≡ Ok declared → shown ≡ declared → (old : S) (result : Result Unit VerifyFault) (new : S)
      → AnswersOrNoMemory step (judged_made c m code instrs (Ok shown)) old result new → AnswersOrNoMemory step (judged_made c m code instrs defined) old result new
  by_declared c m code instrs declared shown defined is same old result new p =
      subst (λ (d : Result (List DeclaredFrame) ℕ). AnswersOrNoMemory step (judged_made c m code instrs d) old result new) (sym is)
      (subst (λ (l : List DeclaredFrame). AnswersOrNoMemory step (judged_made c m code instrs (Ok l)) old result new) same p)
