use Rattle.std.proofs.Common.{take}
use Rattle.jl_logic.specs.Lists.{IsFront}
use Rattle.jl_classw.specs.Keys.{AreNoted}
use Rattle.jl_classw.proofs.entries.note_each.Given as goal

abbrev pub invariant-loop-index : goal.invariant-loop-index
invariant-loop-index l = record {
  noted : AreNoted l.firsts.texts l.firsts.others (take l.index l.pool);
  texts : IsFront l.initial.firsts.texts.entries l.firsts.texts.entries;
  others : IsFront l.initial.firsts.others.entries l.firsts.others.entries;
}
