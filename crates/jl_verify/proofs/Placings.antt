-- The rules at an instruction, put together.
use Rattle.std.proofs.Common.{◌≡◌, sym, subst, Bool, true, false, ◌||◌, Option, Some, None, Result, Ok}
use Rattle.std.specs.Prelude.{if◌then◌else◌, is_some}
use Rattle.jl_code.specs.declared.code.Instr.{Instr}
use Rattle.jl_vtypes.specs.declared.question.Asked.{Asked}
use Rattle.jl_vtypes.specs.Asking.{Asks, Done}
use Rattle.jl_verify.specs.declared.rule.CheckRule.{CheckRule}
use Rattle.jl_verify.specs.declared.rule.CheckRule.TheVariants as rules
use Rattle.jl_verify.specs.declared.fault.VerifyFault.{VerifyFault}
use Rattle.jl_verify.specs.Comes.{Comes}
use Rattle.jl_verify.specs.Checked.{Checked}
use Rattle.jl_verify.specs.Frames.{Frame}
use Rattle.jl_verify.specs.Rules.{rule, declared_at, frame_here, first_failing, first_declared, handled, has_room, has_room_or_none, falls_rightly}
use Rattle.jl_verify.proofs.Comings.{done, rule_holds, rule_fails}

module _ {S : Type 0} (step : S → Asked → S → Type 0) where
  -- a rule by a question that came to yes, to no, or to a fault
  pub holds : (name : CheckRule) (a : Asks Bool) (later : Asks (Option CheckRule)) (old mid : S) (result : Result (Option CheckRule) VerifyFault) (new : S) (is : Bool)
      → is ≡ true → Comes step a old (Ok is) mid → Comes step later mid result new → Comes step (rule name a later) old result new
  holds name a later old mid result new is e p q = rule_holds step name a later old mid result new (subst (λ t. Comes step a old (Ok t) mid) e p) q

  pub fails : (name : CheckRule) (a : Asks Bool) (later : Asks (Option CheckRule)) (old new : S) (is : Bool) → is ≡ false → Comes step a old (Ok is) new → Comes step (rule name a later) old (Ok (Some name)) new
  fails name a later old new is e p = rule_fails step name a later old new (subst (λ t. Comes step a old (Ok t) new) e p)

  -- a rule without a question
  pub said : (name : CheckRule) (b : Bool) (later : Asks (Option CheckRule)) (old : S) (result : Result (Option CheckRule) VerifyFault) (new : S) → b ≡ true → Comes step later old result new → Comes step (rule name (Done b) later) old result new
  said name b later old result new e p = subst (λ t. Comes step (rule name (Done t) later) old result new) (sym e) p

  pub denied : (name : CheckRule) (b : Bool) (later : Asks (Option CheckRule)) (s : S) → b ≡ false → Comes step (rule name (Done b) later) s (Ok (Some name)) s
  denied name b later s e = subst (λ t. Comes step (rule name (Done t) later) s (Ok (Some name)) s) (sym e) (done step (Some name) s)

  -- the last rule
  pub last_said : (name : CheckRule) (b : Bool) (s : S) (result : Result (Option CheckRule) VerifyFault) → result ≡ Ok (if b then None else Some name) → Comes step (rule name (Done b) (Done None)) s result s
  last_said name true s result e = subst (λ r. Comes step (Done None) s r s) (sym e) (done step None s)
  last_said name false s result e = subst (λ r. Comes step (Done (Some name)) s r s) (sym e) (done step (Some name) s)

  -- ---- the frame at an instruction

  module _ (c : Checked) (i : Instr) (is_last : Bool) where
    pub without_frame : (s : S) → declared_at c i.at ≡ None → Comes step (first_failing c None (frame_here (declared_at c i.at) None) i is_last) s (Ok (Some rules.NoFrame)) s
    without_frame s none = subst (λ d. Comes step (rule rules.NoFrame (Done (false || is_some d)) (rule rules.Frame (falls_rightly None d) (handled c true (frame_here d None) i is_last))) s (Ok (Some rules.NoFrame)) s) (sym none) (done step (Some rules.NoFrame) s)

    fallen : (f : Frame) (old : S) (result : Result (Option CheckRule) VerifyFault) (new : S) → declared_at c i.at ≡ None → Comes step (handled c (has_room c f) f i is_last) old result new
        → Comes step (first_failing c (Some f) (frame_here (declared_at c i.at) (Some f)) i is_last) old result new
    fallen f old result new none p = subst (λ d. Comes step (rule rules.NoFrame (Done (true || is_some d)) (rule rules.Frame (falls_rightly (Some f) d) (handled c (has_room c f) (frame_here d (Some f)) i is_last))) old result new) (sym none) p

    declared_first : (falling : Option Frame) (d : Frame) (old : S) (result : Result (Option CheckRule) VerifyFault) (new : S) → declared_at c i.at ≡ Some d → Comes step (first_declared c falling d (has_room_or_none c falling) i is_last) old result new
        → Comes step (first_failing c falling (frame_here (declared_at c i.at) falling) i is_last) old result new
    declared_first None d old result new there p =
        subst (λ o. Comes step (rule rules.NoFrame (Done (false || is_some o)) (rule rules.Frame (falls_rightly None o) (handled c true (frame_here o None) i is_last))) old result new) (sym there) p
    declared_first (Some f) d old result new there p =
        subst (λ o. Comes step (rule rules.NoFrame (Done (true || is_some o)) (rule rules.Frame (falls_rightly (Some f) o) (handled c (has_room c f) (frame_here o (Some f)) i is_last))) old result new) (sym there) p

    pub falls_here : (falling : Option Frame) (f : Frame) (had : Bool) (old : S) (result : Result (Option CheckRule) VerifyFault) (new : S) → had ≡ has_room_or_none c falling → falling ≡ Some f → None ≡ declared_at c i.at
        → Comes step (handled c had f i is_last) old result new → Comes step (first_failing c falling (frame_here (declared_at c i.at) falling) i is_last) old result new
    falls_here None f had old result new room is none p = absurd cc
    falls_here (Some g) f had old result new room is none p =
        let same : f ≡ g = cc in
        fallen g old result new (sym none) (subst (λ x. Comes step (handled c x g i is_last) old result new) room (subst (λ x. Comes step (handled c had x i is_last) old result new) same p))

    pub declared_here : (falling : Option Frame) (d : Frame) (had : Bool) (old : S) (result : Result (Option CheckRule) VerifyFault) (new : S) → had ≡ has_room_or_none c falling → Some d ≡ declared_at c i.at
        → Comes step (first_declared c falling d had i is_last) old result new → Comes step (first_failing c falling (frame_here (declared_at c i.at) falling) i is_last) old result new
    declared_here falling d had old result new room there p = declared_first falling d old result new (sym there) (subst (λ x. Comes step (first_declared c falling d x i is_last) old result new) room p)
